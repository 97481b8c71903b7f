-- What each function of a history does to its list of actions. Assumes nothing.
use Rattle.std.specs.Prelude.{◌≡◌, ℕ, List, length, Some, None, Ok, Err, Option, Result, nat_le, nat_lt, slice_index_or}
use Rattle.std.specs.List.{insert, remove}
use Rattle.action.specs.declared.action.Action.{Action}
use Rattle.action.specs.declared.refusal.Refusal.{Refusal}
use Rattle.action.specs.Lawful.{by_history, unless}
use Rattle.history.specs.declared.history_fault.HistoryFault.{HistoryFault}
use Rattle.history.specs.Faults.{shown}
use Rattle.history.specs.Room.{Room}

-- place i of the list is asked for
abbrev pub at_refusal : List Action → ℕ → Option Refusal
at_refusal xs i = unless (nat_lt i (length xs)) (by_history 17 i) None

-- one more is to go to place i of a history with that room
abbrev pub insert_refusal : List Action → Room → ℕ → Option Refusal
insert_refusal xs room i =
    unless (nat_lt (length xs) room.places) (by_history 16 room.places) (unless (nat_le i (length xs)) (by_history 17 i) None)

abbrev pub Read : List Action → ℕ → Result Action HistoryFault → Type 0
Read xs i (Ok a) = (at_refusal xs i ≡ None) × (a ≡ slice_index_or xs i a)
Read xs i (Err e) = at_refusal xs i ≡ Some (shown e)

abbrev pub Inserted : List Action → Room → ℕ → Action → Result Unit HistoryFault → List Action → Type 0
Inserted xs room i a (Ok _) ys = (insert_refusal xs room i ≡ None) × (ys ≡ insert xs i a)
Inserted xs room i a (Err e) ys = (insert_refusal xs room i ≡ Some (shown e)) × (ys ≡ xs)

abbrev pub Removed : List Action → ℕ → Result Action HistoryFault → List Action → Type 0
Removed xs i (Ok a) ys = (at_refusal xs i ≡ None) × (a ≡ slice_index_or xs i a) × (ys ≡ remove xs i)
Removed xs i (Err e) ys = (at_refusal xs i ≡ Some (shown e)) × (ys ≡ xs)
