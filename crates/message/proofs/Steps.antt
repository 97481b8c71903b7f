-- One record more. Assumes nothing.
use Rattle.std.proofs.Common.{◌≡◌, ℕ, ◌+◌, ◌<◌, ◌≤◌, Bool, true, false, cond, List, [], ◌∷◌, ◌++◌, length, get_or, drop, Some, None, Ok, Err, Option, Result, count_by, sym, refl, ap, ◌∙◌, subst, arith}
use Rattle.std.specs.List.{flat_map}
use Rattle.std.specs.Result.{result_ok}
use Rattle.std.proofs.ByRecursion.{All-push}
use Rattle.std.proofs.lemmas.List.{append_assoc, drop-drop, get_or-drop, length-append}
use Rattle.std.proofs.lemmas.List.Sums.{fold_push, sum_by_push}
use Rattle.action.specs.declared.setup.Setup.{Setup}
use Rattle.kind.specs.Meaning.{Meaning}
use Rattle.message.specs.declared.reader_fault.UnplacedFault.{UnplacedFault}
use Rattle.message.specs.declared.records.FoundRecord.{FoundRecord}
use Rattle.message.specs.declared.progress.Progress.{Progress}
use Rattle.message.specs.declared.record.Record.{Record}
use Rattle.message.specs.declared.record.Record.TheVariants as RecordKinds
use Rattle.message.specs.Decoding.{decoded}
use Rattle.message.specs.Fields.{Fitting}
use Rattle.message.specs.Format.{record_bytes}
use Rattle.message.specs.Progress.{admitted, start}
use Rattle.message.specs.Reading.{Next, is_action, judged, onward, step, stepped}
use Rattle.message.specs.Rules.{is_due}
use Rattle.message.specs.Scanning.{Begun}
use Rattle.message.proofs.Formats.{joined_push}
use Rattle.message.proofs.Recoding.{whole_back}

-- a step that found a record: it was decoded, and the rules passed it
pub found_record : (kind : Meaning) (setup : Setup) (p q : Progress) (at : ℕ) (r : Record) (d : Result (Option Record) UnplacedFault) → stepped kind setup p at d ≡ Ok (Some (r, q)) → (d ≡ Ok (Some r)) × (admitted kind setup p r ≡ Ok q)
found_record kind setup p q at r (Ok (Some x)) h = by_verdict (admitted kind setup p x) refl h
  where
    by_verdict : (v : Result Progress UnplacedFault) → admitted kind setup p x ≡ v → judged at x v ≡ Ok (Some (r, q)) → (◌≡◌ {A = Result (Option Record) UnplacedFault} (Ok (Some x)) (Ok (Some r))) × (admitted kind setup p r ≡ Ok q)
    by_verdict (Ok s) is e =
        let both : ◌≡◌ {A = Record × Progress} (x, s) (r, q) = cc in
        let same : x ≡ r = ap (λ t. t.0) both in
        let next : s ≡ q = ap (λ t. t.1) both in
        (ap (λ y. Ok (Some y)) same, ap (admitted kind setup p) (sym same) ∙ is ∙ ap Ok next)
    by_verdict (Err f) is e = cc
found_record kind setup p q at r (Ok None) h = cc
found_record kind setup p q at r (Err f) h = cc

pub onward_passes : (kind : Meaning) (setup : Setup) (p q : Progress) (r : Record) → is_due p.due r ≡ true → admitted kind setup p r ≡ Ok q → onward kind setup (Some p) r ≡ Some q
onward_passes kind setup p q r is passed = ap (λ b. cond b (result_ok (admitted kind setup p r)) None) is ∙ ap result_ok passed

module _ (kind : Meaning) (setup : Setup) (bytes : List ℕ) (fits : (i : ℕ) → get_or bytes i 0 < 256) where
  abbrev pub begun_none : Begun kind setup bytes 0 start
  begun_none = ([], record { lawful = refl; fitting = tt; front = refl }, refl)

  abbrev pub begun_more : (at : ℕ) (p q : Progress) (r : Record) (b : Begun kind setup bytes at p) → step kind setup p at (drop at bytes) ≡ Ok (Some (r, q)) → Begun kind setup bytes (at + length (record_bytes r)) q
  begun_more at p q r b h =
      let parts = found_record kind setup p q at r (decoded p.due (drop at bytes)) h in
      let back = whole_back (drop at bytes) (λ i. subst (λ (n : ℕ). n < 256) (sym (get_or-drop at bytes i 0)) (fits (at + i))) p.due r parts.0 in
      let size = length (record_bytes r) in
      let rs = b.0 in
      let before = flat_map record_bytes rs in
      let past = drop (at + size) bytes in
      let joined = sym (joined_push record_bytes rs r) in (
        rs ++ (r ∷ []),
        record {
          lawful = fold_push (onward kind setup) (Some start) rs r ∙ ap (λ o. onward kind setup o r) b.1.lawful ∙ onward_passes kind setup p q r back.0 parts.1;
          fitting = All-push Fitting rs r b.1.fitting back.1;
          front = b.1.front ∙ ap (λ l. before ++ l) (back.2 ∙ ap (λ l. record_bytes r ++ l) (drop-drop size at bytes)) ∙ sym (append_assoc before (record_bytes r) past) ∙ ap (λ l. l ++ past) joined;
        },
        ap (λ n. n + size) b.2 ∙ sym (length-append before (record_bytes r)) ∙ ap length joined,
      )

  -- the same of a reader, whose set-up and bytes are these
  module _ (setup₁ : Setup) (same_setup : setup₁ ≡ setup) (bytes₁ : List ℕ) (same_bytes : bytes₁ ≡ bytes) where
    pub read_more : (at to : ℕ) (p q : Progress) (f : FoundRecord) (b : Begun kind setup bytes at p) → Next kind setup₁ p at bytes₁ (Ok (Some f)) q to → (c : Begun kind setup bytes to q) × (c.0 ≡ b.0 ++ (f.«record» ∷ []))
    read_more at to p q f b h =
        let here = (λ i. step kind (sym same_setup i) p at (drop at (sym same_bytes i))) ∙ h.0 in
        let more = begun_more at p q f.«record» b here in
        subst (λ (n : ℕ). (c : Begun kind setup bytes n q) × (c.0 ≡ b.0 ++ (f.«record» ∷ []))) (sym h.2) (more, refl)

    -- and of how many actions there were so far
    pub count_more : (at to : ℕ) (p q : Progress) (f : FoundRecord) (n : ℕ) → (b : Begun kind setup bytes at p) × (n ≡ count_by is_action b.0) → Next kind setup₁ p at bytes₁ (Ok (Some f)) q to → (t : Bool) → t ≡ is_action f.«record» → (c : Begun kind setup bytes to q) × (cond t (n + 1) n ≡ count_by is_action c.0)
    count_more at to p q f n (b, so) h t is =
        let more = read_more at to p q f b h in
        let one : count_by is_action more.0.0 ≡ count_by is_action b.0 + cond t 1 0 = ap (count_by is_action) more.1 ∙ sum_by_push (λ x. cond (is_action x) 1 0) b.0 f.«record» ∙ ap (λ u. count_by is_action b.0 + cond u 1 0) (sym is) in
        (more.0, counts t n _ _ so one)
      where
        counts : (t : Bool) (n k l : ℕ) → n ≡ k → l ≡ k + cond t 1 0 → cond t (n + 1) n ≡ l
        counts true n k l so one = omega arith
        counts false n k l so one = omega arith

    pub read_all : (at to : ℕ) (p q : Progress) → Next kind setup₁ p at bytes₁ (Ok None) q to → step kind setup p at (drop at bytes) ≡ Ok None
    read_all at to p q h = (λ i. step kind (sym same_setup i) p at (drop at (sym same_bytes i))) ∙ h.0

pub record_size : (r : Record) → 1 ≤ length (record_bytes r)
record_size (RecordKinds.Header h) = omega arith
record_size _ = omega arith
