-- What take does to a table. Assumes nothing.
use Rattle.std.specs.Prelude.{◌≡◌, ℕ, Bool, true, false, ◌&&◌, List, length, Some, None, Ok, Err, fold, filter, Option, Result, ◌==◌, nat_eq}
use Rattle.action.specs.declared.action.Action.{Action}
use Rattle.action.specs.declared.refusal.Refusal.{Refusal}
use Rattle.action.specs.Lawful.{by_table}
use Rattle.action.specs.Order.{placed}
use Rattle.kind.specs.Meaning.{Meaning}
use Rattle.message.specs.declared.record.Interval.{Interval}
use Rattle.message.specs.declared.reader_fault.ReaderFault.{ReaderFault}
use Rattle.message.specs.Faults as ReaderFaults
use Rattle.message.specs.Checks.{Refused}
use Rattle.message.specs.Format.{Message, carried, format, records, told_intervals}
use Rattle.message.specs.Lawful.{LawfulMessage}
use Rattle.message.specs.Found.{first_place}
use Rattle.row.specs.declared.row.Row.{Row}
use Rattle.row.specs.Passes.{is_ahead_in, is_behind_in, is_new_in, latest_to, raised_by}
use Rattle.row.specs.Entries.{each_row}
use Rattle.table.specs.declared.table_fault.TableFault.{TableFault}
use Rattle.table.specs.Faults.{shown}
use Rattle.table.specs.Room.{room_refusal}
use Rattle.table.specs.Transactions.{figure_after}
use Rattle.table.specs.View.{View}

-- the table has not reached the action yet
abbrev pub is_new : View → Action → Bool
is_new v = is_new_in v.rows v.setup.own

abbrev pub news : View → Message → List Action
news v m = filter (is_new v) (carried m)

-- the interval begins above what this table has reached
abbrev pub is_behind : View → ℕ → Interval → Bool
is_behind v = is_behind_in v.rows v.setup.own

-- the interval says more of the own site than the site has done
abbrev pub is_ahead : View → ℕ → Interval → Bool
is_ahead v = is_ahead_in v.rows v.setup.own

-- refused by that number at the place found, else the rest decides
abbrev pub unless_found : Option ℕ → ℕ → Option Refusal → Option Refusal
unless_found None number rest = rest
unless_found (Some place) number rest = Some (by_table number place)

-- the checks of a lawful message
abbrev pub take_refusal : View → Message → Option Refusal
take_refusal v m =
    unless_found (first_place (is_behind v) 0 0 (records m)) 13
    (unless_found (first_place (is_ahead v) 0 0 (records m)) 14
    (room_refusal v (news v m)))

-- how far the intervals go for an article and a site, 0 where there are none
abbrev pub highest : ℕ → ℕ → List (ℕ × Interval) → ℕ
highest a q hs = latest_to 0 (filter (λ h. (h.0 == a) && h.1.site == q) hs)

abbrev pub taken_history : View → Message → List Action
taken_history v m = fold placed v.history (news v m)

abbrev pub taken_row : Meaning → View → Message → ℕ → Row → Row
taken_row kind v m a r = record r {
  kept = figure_after kind a r (taken_history v m) (news v m);
  known = fold (raised_by v.setup.own m.sender) r.known (filter (λ h. nat_eq h.0 a) (told_intervals m));
}

-- the clock goes up to the latest end of an interval
abbrev pub taken : Meaning → View → Message → View
taken kind v m = record v {
  clock = latest_to v.clock (told_intervals m);
  rows = each_row (taken_row kind v m) 0 v.rows;
  history = taken_history v m;
}

-- WHY A TAKE IS REFUSED

-- 9 to 12: the bytes are no message for this table, by the reader's fault and place
abbrev pub Misread : Meaning → View → List ℕ → Refusal → Type 0
Misread kind v bytes refusal = (e : ReaderFault) × (ReaderFaults.shown e ≡ refusal) × Refused kind v.setup bytes (Err e)

-- 13, 14 and 16: the bytes are a message for this table, and it meets a check
abbrev pub Checked : Meaning → View → List ℕ → Refusal → Type 0
Checked kind v bytes refusal =
    (m : Message) × LawfulMessage kind v.setup m × (bytes ≡ format m) × (take_refusal v m ≡ Some refusal)

pub data TakeRefused (kind : Meaning) (v : View) (bytes : List ℕ) (refusal : Refusal) : Type 0 where
  while_open : v.is_open ≡ true → refusal ≡ by_table 2 0 → TakeRefused kind v bytes refusal
  misread : v.is_open ≡ false → Misread kind v bytes refusal → TakeRefused kind v bytes refusal
  checked : v.is_open ≡ false → Checked kind v bytes refusal → TakeRefused kind v bytes refusal

-- a message is taken whole, or refused and nothing is changed
abbrev pub Took : Meaning → View → List ℕ → Result ℕ TableFault → View → Type 0
Took kind v bytes (Ok n) w =
    (v.is_open ≡ false)
    × ((m : Message) × LawfulMessage kind v.setup m × (bytes ≡ format m) × (take_refusal v m ≡ None)
    × (n ≡ length (news v m)) × (w ≡ taken kind v m))
Took kind v bytes (Err e) w = TakeRefused kind v bytes (shown e) × (w ≡ v)
