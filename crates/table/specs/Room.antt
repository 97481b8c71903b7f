-- Whether a table's history has room for more. Assumes nothing.
use Rattle.std.specs.Prelude.{◌≡◌, ◌+◌, List, length, Some, None, Ok, Err, Option, Result, nat_le}
use Rattle.action.specs.declared.action.Action.{Action}
use Rattle.action.specs.declared.refusal.Refusal.{Refusal}
use Rattle.action.specs.Lawful.{by_history, unless}
use Rattle.history.specs.declared.history_fault.HistoryFault.{HistoryFault}
use Rattle.history.specs.Faults.{shown}
use Rattle.table.specs.View.{View}

-- new actions are refused together where the history has not room for them all
abbrev pub room_refusal : View → List Action → Option Refusal
room_refusal v new = unless (nat_le (length v.history + length new) v.room.places) (by_history 16 v.room.places) None

-- a check of the history passes where nothing refuses, and tells why where something does
abbrev pub Allows : Option Refusal → Result Unit HistoryFault → Type 0
Allows refusal (Ok _) = refusal ≡ None
Allows refusal (Err e) = refusal ≡ Some (shown e)
