-- An offer's bytes, part by part. Assumes nothing.
use Rattle.std.proofs.Common.{◌≡◌, ℕ, ◌+◌, ◌*◌, ◌<◌, ◌≤◌, ltb, List, ◌++◌, length, Some, None, Option, sym, ap, ◌∙◌, arith}
use Rattle.std.specs.List.{flat_map}
use Rattle.std.proofs.lemmas.List.FromFn.{length-map-range_with_len}
use Rattle.std.proofs.lemmas.List.{append_assoc, append-nil, length-append}
use Rattle.std.proofs.lemmas.Bool.{cond-false, cond-true, le-leb, lt-leb, lt-ltb}
use Rattle.action.specs.declared.refusal.Refusal.{Refusal}
use Rattle.action.specs.Lawful.{by_table, unless}
use Rattle.action.specs.Bytes.{action_bytes}
use Rattle.kind.specs.Meaning.{Meaning}
use Rattle.message.specs.Format.{head_of, header_bytes, header_of, interval_bytes, section_bytes, section_format}
use Rattle.message.proofs.Formats.{format_is, length_section, section_is}
use Rattle.table.specs.Offers.{offer_actions, offer_bytes, offer_interval, offer_intervals, offer_message, offer_refusal, offer_section}
use Rattle.table.specs.View.{View}

module _ (kind : Meaning) (v : View) (p a : ℕ) where
  abbrev pub header : List ℕ
  header = header_bytes (header_of (offer_message kind v p a))

  abbrev pub head : List ℕ
  head = section_bytes (head_of (offer_section v p a))

  pub offer_is : offer_bytes kind v p a ≡ ((header ++ head) ++ flat_map interval_bytes (offer_intervals v p a)) ++ flat_map action_bytes (offer_actions v p a)
  offer_is =
      format_is (offer_message kind v p a) ∙ ap (λ l. header ++ l) (append-nil _ ∙ section_is (offer_section v p a)) ∙ sym (append_assoc header head _) ∙ sym (append_assoc (header ++ head) (flat_map interval_bytes (offer_intervals v p a)) _)

  pub length_offer : length (offer_bytes kind v p a) ≡ 11 + 10 * v.setup.sites + 16 * length (offer_actions v p a)
  length_offer =
      let section = offer_section v p a in
      ap length (format_is (offer_message kind v p a) ∙ ap (λ l. header ++ l) (append-nil (section_format section))) ∙ length-append header (section_format section) ∙ ap (λ n. 6 + n) (length_section section) ∙ omega (arith, length-map-range_with_len (offer_interval v p a) 0 v.setup.sites)

  module _ (buffer : List ℕ) (article : a < v.setup.articles) (peer : p < v.setup.sites) where
    checked : (rest : Option Refusal) → unless (ltb a v.setup.articles) (by_table 4 0) (unless (ltb p v.setup.sites) (by_table 5 0) rest) ≡ rest
    checked rest = cond-true _ _ _ (lt-ltb a v.setup.articles article) ∙ cond-true _ _ _ (lt-ltb p v.setup.sites peer)

    pub offer_short : (needed : ℕ) → length (offer_bytes kind v p a) ≡ needed → length buffer < needed → offer_refusal kind v p a buffer ≡ Some (by_table 15 needed)
    offer_short needed e short = checked _ ∙ cond-false _ _ _ (lt-leb (length (offer_bytes kind v p a)) (length buffer) (omega arith)) ∙ ap (λ n. Some (by_table 15 n)) e

    pub offer_granted : length (offer_bytes kind v p a) ≤ length buffer → offer_refusal kind v p a buffer ≡ None
    offer_granted fits = checked _ ∙ cond-true _ _ _ (le-leb (length (offer_bytes kind v p a)) (length buffer) fits)
