-- Refused bytes are refused in one way: two refusals are after the same lawful beginning, for the same reason.
-- Assumes nothing.
use Rattle.std.proofs.Common.{◌≡◌, ℕ, List, [], ◌∷◌, ◌++◌, length, sym, ap, ◌∙◌, arith}
use mathlib.Core.Path.{subst₃}
use Rattle.std.specs.List.{flat_map}
use Rattle.std.proofs.lemmas.List.{append_cancel_left, append-nil, length-append}
use Rattle.std.proofs.lemmas.Bool.{false≢true}
use Rattle.action.specs.declared.refusal.Refusal.{Refusal}
use Rattle.action.specs.declared.setup.Setup.{Setup}
use Rattle.kind.specs.Meaning.{Meaning}
use Rattle.message.specs.declared.reader_fault.ReaderFault.{ReaderFault}
use Rattle.message.specs.declared.due.Due.TheVariants as Due
use Rattle.message.specs.declared.progress.Progress.{Progress}
use Rattle.message.specs.declared.record.Record.{Record}
use Rattle.message.specs.declared.record.Record.TheVariants as RecordKinds
use Rattle.message.specs.Checks.{Once}
use Rattle.message.specs.Faults.{shown}
use Rattle.message.specs.Format.{record_bytes}
use Rattle.message.specs.Reading.{reading}
use Rattle.message.specs.Rules.{is_due}
use Rattle.message.proofs.Beginnings.{Begins, longest, same_record}
use Rattle.message.proofs.Onward.{some_same}
use Rattle.message.proofs.Reasons.{BrokenAt, CutAt, ForeignAt, ReasonAt, StopsAt, TrailingAt, broken_at, cut_at, foreign_at, trailing_at}
use Rattle.message.proofs.Turns.{refused_stops}

-- REASONS

module _ (kind : Meaning) (setup : Setup) (p : Progress) (at : ℕ) (rest : List ℕ) where
  cut_or_foreign : (w v : Refusal) → CutAt p at rest w → ForeignAt kind setup p rest v → ⊥
  cut_or_foreign w v n o =
      let head = RecordKinds.Header o.header in
      n.none head (ap (λ d. is_due d head) o.first) o.fitting o.starts

  cut_or_broken : (w v : Refusal) → CutAt p at rest w → BrokenAt kind setup p at rest v → ⊥
  cut_or_broken w v n b = n.none b.breaks b.was_due b.fitting b.starts

  foreign_or_broken : (w v : Refusal) → ForeignAt kind setup p rest w → BrokenAt kind setup p at rest v → ⊥
  foreign_or_broken w v o b =
      let head = RecordKinds.Header o.header in
      let head_due = ap (λ d. is_due d head) o.first in
      let same = same_record p.due b.breaks head rest b.was_due head_due b.fitting o.fitting b.starts o.starts in
      false≢true (sym o.other ∙ b.ours o.header same)

  foreign_or_trailing : (w v : Refusal) → ForeignAt kind setup p rest w → TrailingAt p at rest v → ⊥
  foreign_or_trailing w v o f = let e : Due.Header ≡ Due.End = sym o.first ∙ f.ended in cc

  broken_or_trailing : (w v : Refusal) → BrokenAt kind setup p at rest w → TrailingAt p at rest v → ⊥
  broken_or_trailing w v b f = false≢true (ap (λ d. is_due d b.breaks) (sym f.ended) ∙ b.was_due)

  -- two reasons for the same rest are one
  one_reason : (w v : Refusal) → ReasonAt kind setup p at rest w → ReasonAt kind setup p at rest v → w ≡ v
  one_reason w v (cut_at n) (cut_at m) = n.is ∙ sym m.is
  one_reason w v (cut_at n) (foreign_at o) = absurd (cut_or_foreign w v n o)
  one_reason w v (cut_at n) (broken_at b) = absurd (cut_or_broken w v n b)
  one_reason w v (cut_at n) (trailing_at f) = absurd (n.not_ended f.ended)
  one_reason w v (foreign_at o) (cut_at n) = absurd (cut_or_foreign v w n o)
  one_reason w v (foreign_at o) (foreign_at u) = o.is ∙ sym u.is
  one_reason w v (foreign_at o) (broken_at b) = absurd (foreign_or_broken w v o b)
  one_reason w v (foreign_at o) (trailing_at f) = absurd (foreign_or_trailing w v o f)
  one_reason w v (broken_at b) (cut_at n) = absurd (cut_or_broken v w n b)
  one_reason w v (broken_at b) (foreign_at o) = absurd (foreign_or_broken v w o b)
  one_reason w v (broken_at b) (broken_at c) = b.is ∙ sym c.is
  one_reason w v (broken_at b) (trailing_at f) = absurd (broken_or_trailing w v b f)
  one_reason w v (trailing_at f) (cut_at n) = absurd (n.not_ended f.ended)
  one_reason w v (trailing_at f) (foreign_at o) = absurd (foreign_or_trailing v w o f)
  one_reason w v (trailing_at f) (broken_at b) = absurd (broken_or_trailing v w b f)
  one_reason w v (trailing_at f) (trailing_at g) = f.is ∙ sym g.is

-- BEGINNINGS

same_begun : (rs qs : List Record) → Begins rs qs → Begins qs rs → rs ≡ qs
same_begun rs qs ([], is) _ = sym (is ∙ append-nil rs)
same_begun rs qs (t ∷ ts, is) (us, so) =
    absurd (omega (arith, ap length is ∙ length-append rs (t ∷ ts), ap length so ∙ length-append qs us))

pub stops_once : (kind : Meaning) (setup : Setup) (bytes : List ℕ) (e d : ReaderFault) → StopsAt kind setup bytes e → StopsAt kind setup bytes d → shown e ≡ shown d
stops_once kind setup bytes e d (rs, p, rest, b, why) (qs, q, less, c, how) =
    let begins = longest kind setup bytes qs rs q p less rest _ (shown d) c how b in
    let begun = longest kind setup bytes rs qs p q rest less _ (shown e) b why c in
    let same : qs ≡ rs = same_begun qs rs begun begins in
    let here : q ≡ p = some_same q p (sym c.lawful ∙ ap (reading kind setup) same ∙ b.lawful) in
    let bytes_same = sym c.front ∙ b.front ∙ ap (λ l. flat_map record_bytes l ++ rest) (sym same) in
    let left : less ≡ rest = append_cancel_left (flat_map record_bytes qs) less rest bytes_same in
    let at : List Record → ℕ = λ l. length (flat_map record_bytes l) in
    let Why : List Record → Progress → List ℕ → Type 0 = λ l x bs. ReasonAt kind setup x (at l) bs (shown d) in
    one_reason kind setup p (at rs) rest (shown e) (shown d) why (subst₃ Why same here left how)

pub refused_once : (kind : Meaning) (setup : Setup) (bytes : List ℕ) → Once kind setup bytes
refused_once kind setup bytes e d h k = stops_once kind setup bytes e d (refused_stops kind setup bytes e h) (refused_stops kind setup bytes d k)
