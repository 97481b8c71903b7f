-- What the iterators over a message yield. Assumes nothing.
use Rattle.std.proofs.Common.{◌≡◌, ℕ, zero, suc, ◌+◌, ◌≤◌, Bool, List, [], ◌∷◌, map, length, drop, Some, None, Option, refl, ap, arith}
use Rattle.std.specs.Bool.{⊤}
use Rattle.std.specs.Iterator.{MakesProgress, YieldsFirst, item_count}
use Rattle.std.specs.Iterator.Runs.{YieldsInOrder}
use Rattle.std.specs.List.{cons_option, find}
use Rattle.std.specs.Option.{option_map}
use Rattle.std.proofs.iter.runs.Sources.{as_is, from_front}
use Rattle.message.specs.declared.intervals.FoundInterval.{FoundInterval}
use Rattle.message.specs.declared.record.Interval.{Interval}
use Rattle.message.specs.declared.record.Record.{Record}
use Rattle.message.specs.declared.record.Record.TheVariants as RecordKinds
use Rattle.message.specs.Format.{record_bytes}
use Rattle.message.specs.Found.{actions_among, first_place, found_from, placed, found_intervals_among, found_intervals_in, told}
use Rattle.message.specs.Walks.{actions_of, article_after, intervals_of, its_action, next_records, record_in, records_by, records_in}
use Rattle.message.proofs.Walking.{records_from}

-- ITERATORS THAT ARE SEEN AS WHAT THEY HAVE LEFT

module _ {A : Type 0} where
  pub takes_runs : YieldsInOrder (YieldsFirst {A = A} (λ left. left)) (λ left. left)
  takes_runs p s = as_is p p.from (from_front (YieldsFirst {A = A} (λ left. left)) (λ x. x) (λ left. left) (λ s t h. ap length h.0) (λ s x t h. h) p s)

  pub takes_goes : (s t : List A) (x : A) → s ≡ x ∷ t → MakesProgress {S = List A} (λ _. ⊤) (item_count (λ left. left)) s (Some x) t
  takes_goes s t x e = record { on = λ _. (tt, tt, omega (arith, ap length e)); keeps = tt; rests = λ _. tt }

-- RECORDS, WITH THEIR PLACES

module _ (bytes : List ℕ) (at : ℕ) where
  pub found_next : (r : Record) → record_in (drop at bytes) ≡ Some r → found_from bytes at ≡ record { offset = at; «record» = r } ∷ found_from bytes (at + length (record_bytes r))
  found_next r h = ap (placed at) (records_from bytes at r h)

pub actions_placed : (at : ℕ) (rs : List Record) → actions_among (placed at rs) ≡ actions_of rs
actions_placed at [] = refl
actions_placed at (r ∷ rs) = ap (cons_option (its_action r)) (actions_placed (at + length (record_bytes r)) rs)

pub told_placed : (at a : ℕ) (rs : List Record) → map told (found_intervals_among a (placed at rs)) ≡ intervals_of a rs
told_placed at a [] = refl
told_placed at a (RecordKinds.Interval i ∷ rs) = ap (λ is. (a, i) ∷ is) (told_placed (at + 10) a rs)
told_placed at a (r ∷ rs) = told_placed (at + length (record_bytes r)) (article_after a r) rs

-- the place that `find` over a message's intervals answers,
-- in the form in which std's lemma on `find` says what it found
pub first_in : (test : ℕ → Interval → Bool) (bytes : List ℕ) (r : Option FoundInterval) → option_map (λ s. s) r ≡ find (λ s. test s.article s.interval) (found_intervals_in bytes) → option_map (λ s. s.offset) r ≡ first_place test 0 0 (records_in bytes)
first_in test bytes None e = ap (option_map (λ s. s.offset)) e
first_in test bytes (Some s) e = ap (option_map (λ s. s.offset)) e

-- HOW MANY THERE ARE

few_by : (turns : ℕ) (bs : List ℕ) → length (records_by turns bs) ≤ turns
few_by zero bs = omega arith
few_by (suc turns) bs = go (few_by turns) (record_in bs)
  where
    go : ((l : List ℕ) → length (records_by turns l) ≤ turns) → (o : Option Record) → length (next_records (records_by turns) bs o) ≤ suc turns
    go less None = omega arith
    go less (Some r) = omega (arith, less (drop (length (record_bytes r)) bs))

pub few_records : (bs : List ℕ) → length (records_in bs) ≤ length bs
few_records bs = few_by (length bs) bs

pub few_placed : (at : ℕ) (rs : List Record) → length (placed at rs) ≡ length rs
few_placed at [] = refl
few_placed at (r ∷ rs) = ap suc (few_placed (at + length (record_bytes r)) rs)

pub few_actions : (rs : List Record) → length (actions_of rs) ≤ length rs
few_actions [] = omega arith
few_actions (RecordKinds.Action _ ∷ rs) = omega (arith, few_actions rs)
few_actions (_ ∷ rs) = omega (arith, few_actions rs)

pub few_found_intervals : (at a : ℕ) (rs : List Record) → length (found_intervals_among a (placed at rs)) ≤ length rs
few_found_intervals at a [] = omega arith
few_found_intervals at a (RecordKinds.Interval _ ∷ rs) = omega (arith, few_found_intervals (at + 10) a rs)
few_found_intervals at a (r ∷ rs) = omega (arith, few_found_intervals (at + length (record_bytes r)) (article_after a r) rs)
