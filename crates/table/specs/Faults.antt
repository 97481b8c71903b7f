-- A table's fault by number, place and layer. Assumes nothing.
use Rattle.std.specs.Prelude.{◌≡◌, Bool, true, false, Ok, Err, Result}
use Rattle.action.specs.declared.refusal.Refusal.{Refusal}
use Rattle.action.specs.Lawful.{by_table}
use Rattle.history.specs.Faults as HistoryFaults
use Rattle.message.specs.Faults as ReaderFaults
use Rattle.table.specs.declared.table_fault.TableFault.{TableFault}
use Rattle.table.specs.declared.table_fault.TableFault.TheVariants.{AlreadyOpen, NotItsTicket, NoArticle, NoSite, UnknownPair, TooManyWrites, TooLate, Behind, Ahead, Short, InReader, InHistory}

-- a fault of the reader or of the history is handed on whole
abbrev pub shown : TableFault → Refusal
shown AlreadyOpen = by_table 2 0
shown NotItsTicket = by_table 3 0
shown NoArticle = by_table 4 0
shown NoSite = by_table 5 0
shown UnknownPair = by_table 6 0
shown TooManyWrites = by_table 7 0
shown TooLate = by_table 8 0
shown (Behind place) = by_table 13 place
shown (Ahead place) = by_table 14 place
shown (Short needed) = by_table 15 needed
shown (InReader fault) = ReaderFaults.shown fault
shown (InHistory fault) = HistoryFaults.shown fault

-- a check passes where its condition holds, and is refused by its fault where not
abbrev pub Passes : {E : Type 0} → Bool → E → Result Unit E → Type 0
Passes holds fault (Ok _) = holds ≡ true
Passes holds fault (Err e) = (holds ≡ false) × (e ≡ fault)
