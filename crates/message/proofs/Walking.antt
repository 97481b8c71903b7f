-- The records that bytes hold, one by one. Assumes nothing.
use Rattle.std.proofs.Common.{◌≡◌, ℕ, zero, suc, ◌+◌, ◌≤◌, List, [], ◌∷◌, ◌++◌, length, drop, Some, None, Option, sym, refl, ap, ◌∙◌, arith}
use Rattle.std.specs.List.{flat_map, AllByRecursion}
use Rattle.std.proofs.lemmas.List.{drop_at, drop-drop, length-drop, nil_from_length}
use Rattle.action.specs.declared.setup.Setup.{Setup}
use Rattle.kind.specs.Meaning.{Meaning}
use Rattle.message.specs.declared.due.Due.TheVariants as Due
use Rattle.message.specs.declared.record.Record.{Record}
use Rattle.message.specs.declared.record.Record.TheVariants as RecordKinds
use Rattle.message.specs.Decoding.{whole}
use Rattle.message.specs.Fields.{Fitting}
use Rattle.message.specs.Format.{Message, format, record_bytes, records}
use Rattle.message.specs.Lawful.{LawfulMessage}
use Rattle.message.specs.Walks.{next_records, record_in, records_by, records_in}
use Rattle.message.proofs.Sameness.{lawful_fits}
use Rattle.message.proofs.Decodings.{decoded_format}
use Rattle.message.proofs.Steps.{record_size}

none_left : (turns : ℕ) (bs : List ℕ) → length bs ≤ 0 → records_by turns bs ≡ []
none_left zero bs h = refl
none_left (suc turns) bs h = ap (λ l. next_records (records_by turns) l (record_in l)) (nil_from_length bs (omega arith))

-- how many turns there are at the most makes no difference
turns : (f g : ℕ) (bs : List ℕ) → length bs ≤ f → length bs ≤ g → records_by f bs ≡ records_by g bs
turns zero g bs h k = sym (none_left g bs h)
turns (suc f) zero bs h k = none_left (suc f) bs k
turns (suc f) (suc g) bs h k = go (λ l m n. turns f g l m n) (record_in bs)
  where
    go : ((l : List ℕ) → length l ≤ f → length l ≤ g → records_by f l ≡ records_by g l) → (o : Option Record) → next_records (records_by f) bs o ≡ next_records (records_by g) bs o
    go less None = refl
    go less (Some r) =
        ap (λ l. r ∷ l) (less (drop (length (record_bytes r)) bs) (omega (arith, length-drop (length (record_bytes r)) bs, record_size r)) (omega (arith, length-drop (length (record_bytes r)) bs, record_size r)))

pub records_next : (bs : List ℕ) (r : Record) → record_in bs ≡ Some r → records_in bs ≡ r ∷ records_in (drop (length (record_bytes r)) bs)
records_next [] r h = cc
records_next (b ∷ bs) r h =
    let size = length (record_bytes r) in
    ap (next_records (records_by (length bs)) (b ∷ bs)) h ∙ ap (λ l. r ∷ l) (turns (length bs) (length (drop size (b ∷ bs))) (drop size (b ∷ bs)) (omega (arith, length-drop size (b ∷ bs), record_size r)) (omega arith))

-- the first of the records is the one that the bytes begin with
pub record_begins : (bs : List ℕ) (r : Record) (rs : List Record) → records_in bs ≡ r ∷ rs → record_in bs ≡ Some r
record_begins [] r rs h = cc
record_begins (b ∷ bs) r rs h = go (record_in (b ∷ bs)) h
  where
    go : (o : Option Record) → next_records (records_by (length bs)) (b ∷ bs) o ≡ r ∷ rs → o ≡ Some r
    go None e = cc
    go (Some q) e = let same : q ≡ r = cc in ap (λ x. Some x) same

-- the same at a place of the bytes
pub records_from : (bs : List ℕ) (at : ℕ) (r : Record) → record_in (drop at bs) ≡ Some r → records_in (drop at bs) ≡ r ∷ records_in (drop (at + length (record_bytes r)) bs)
records_from bs at r h = records_next (drop at bs) r h ∙ ap (λ l. r ∷ records_in l) (drop-drop (length (record_bytes r)) at bs)

-- a record's own bytes begin with that record
pub record_first : (r : Record) (more : List ℕ) → Fitting r → record_in (record_bytes r ++ more) ≡ Some r
record_first (RecordKinds.Header h) more fits = ap whole (decoded_format more Due.Header (RecordKinds.Header h) refl fits)
record_first (RecordKinds.Section s) more fits = ap whole (decoded_format more Due.Section (RecordKinds.Section s) refl fits)
record_first (RecordKinds.Interval i) more fits = ap whole (decoded_format more Due.Interval (RecordKinds.Interval i) refl fits)
record_first (RecordKinds.Action x) more fits = ap whole (decoded_format more Due.Action (RecordKinds.Action x) refl fits)

pub records_joined : (rs : List Record) → AllByRecursion Fitting rs → records_in (flat_map record_bytes rs) ≡ rs
records_joined [] fits = refl
records_joined (r ∷ rs) fits =
    records_next (record_bytes r ++ flat_map record_bytes rs) r (record_first r (flat_map record_bytes rs) fits.0) ∙ ap (λ l. r ∷ l) (ap records_in (drop_at (record_bytes r) (flat_map record_bytes rs) (length (record_bytes r)) refl) ∙ records_joined rs fits.1)

-- the bytes of a lawful message hold its records
pub lawful_records : (kind : Meaning) (setup : Setup) (bs : List ℕ) (m : Message) → kind.number ≤ 255 → LawfulMessage kind setup m → bs ≡ format m → records_in bs ≡ records m
lawful_records kind setup bs m small lawful is = ap records_in is ∙ records_joined (records m) (lawful_fits kind setup small m lawful)
