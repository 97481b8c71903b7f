-- What a search of a message's intervals answers. Assumes nothing.
use Rattle.std.proofs.Common.{◌≡◌, ℕ, Bool, List, Option, ◌∙◌}
use Rattle.std.specs.Fn.{CalledAt}
use Rattle.std.specs.Iterator.{FindsItem, YieldsFirst}
use Rattle.std.specs.Option.{option_map}
use Rattle.std.proofs.lemmas.Iterator.Consumers.{YieldsList-from_first}
use Rattle.std.proofs.lemmas.Iterator.Search.{find_from_yields_List}
use denote.Param.Members.{Mut}
use denote.Ref.{Bor}
use Rattle.message.specs.declared.intervals.FoundInterval.{FoundInterval}
use Rattle.message.specs.declared.record.Interval.{Interval}
use Rattle.message.specs.Found.{first_place, found_intervals_in}
use Rattle.message.specs.Walks.{records_in}
use Rattle.message.proofs.Yields.{first_in}

-- the place of the first interval that passes a test, where the closure is that test
pub first_passing : {F : Type 0} {g : Mut F (Bor FoundInterval × Unit {0}) Bool} (test : ℕ → Interval → Bool) (bytes : List ℕ) {from : List FoundInterval} (to : List FoundInterval) {f : F} (r : Option FoundInterval) {place : Option ℕ} → from ≡ found_intervals_in bytes → FindsItem (YieldsFirst (λ left. left)) g from f r to → ((s : FoundInterval) (b : Bool) (q : F) → CalledAt g f s b q → (q ≡ f) × (b ≡ test s.article s.interval)) → place ≡ option_map (λ s. s.offset) r → place ≡ first_place test 0 0 (records_in bytes)
first_passing test bytes {from} to {f} r {place} left ran same is =
    is ∙ first_in test bytes r (find_from_yields_List (λ s. test s.article s.interval) to f r ran (YieldsList-from_first (λ s. s) (λ left. left) (found_intervals_in bytes) left) same)
