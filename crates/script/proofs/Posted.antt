-- The message of a transaction of one write: a header, one section, one interval and one action, 37 bytes in all.
use Rattle.std.proofs.Common.{◌≡◌, ℕ, zero, suc, ◌+◌, ◌<◌, cond, eqb, ltb, List, [], ◌∷◌, map, length, filter, refl, ap, ◌∙◌, arith}
use Rattle.std.specs.List.{flat_map, range_with_len}
use Rattle.std.proofs.lemmas.List.{length-append}
use Rattle.std.proofs.lemmas.Bool.{cond-true, eq-eqb}
use Rattle.action.specs.declared.action.Action.{Action}
use Rattle.kind.specs.Meaning.{Meaning}
use Rattle.kind.specs.Working.{on}
use Rattle.message.specs.Format.{Section, format, header_bytes, header_of, section_format}
use Rattle.message.proofs.Formats.{format_is, length_section}
use Rattle.table.specs.Transactions.{transaction_bytes, transaction_message, transaction_section, written_articles}
use Rattle.table.specs.View.{View}

-- of four articles the one that is written
its_article : (x : Action) (a : ℕ) → a < 4 → filter (λ k. ltb 0 (length (cond (eqb a k) (x ∷ []) []))) (range_with_len 0 4) ≡ a ∷ []
its_article x zero within = refl
its_article x (suc zero) within = refl
its_article x (suc (suc zero)) within = refl
its_article x (suc (suc (suc zero))) within = refl
its_article x (suc (suc (suc (suc a)))) within = absurd (omega arith)

module _ (kind : Meaning) (w : View) (x : Action) (one : w.pending ≡ x ∷ []) (four : w.setup.articles ≡ 4) (listed : x.article < 4) where
  articles : written_articles w ≡ x.article ∷ []
  articles = (λ i. filter (λ k. ltb 0 (length (on k (one i)))) (range_with_len 0 (four i))) ∙ its_article x x.article listed

  abbrev section : Section
  section = transaction_section w x.article

  abbrev message : List ℕ
  message = format (transaction_message kind w)

  one_action : length (on x.article w.pending) ≡ 1
  one_action = ap (λ xs. length (on x.article xs)) one ∙ ap length (cond-true (eqb x.article x.article) (x ∷ []) [] (eq-eqb x.article x.article refl))

  length_sections : length (flat_map section_format (transaction_message kind w).sections) ≡ 31
  length_sections =
      ap (λ (l : List ℕ). length (flat_map section_format (map (transaction_section w) l))) articles ∙ omega (arith, length-append (section_format section) [], length_section section, one_action)

  pub length_posted : length (transaction_bytes kind w) ≡ 37
  length_posted =
      let header = header_bytes (header_of (transaction_message kind w)) in
      ap (λ (xs : List Action). length (cond (ltb 0 (length xs)) message [])) one ∙ ap length (format_is (transaction_message kind w)) ∙ length-append header _ ∙ ap (λ n. 6 + n) length_sections
