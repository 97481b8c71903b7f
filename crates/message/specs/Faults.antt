-- A reader's fault: from one without its place, and as number, place and layer. Assumes nothing.
use Rattle.std.specs.Prelude.{ℕ}
use Rattle.action.specs.declared.refusal.Refusal.{Refusal}
use Rattle.action.specs.Lawful.{by_reader}
use Rattle.message.specs.declared.reader_fault.UnplacedFault.{UnplacedFault}
use Rattle.message.specs.declared.reader_fault.UnplacedFault.TheVariants as Unplaced
use Rattle.message.specs.declared.reader_fault.ReaderFault.{ReaderFault}
use Rattle.message.specs.declared.reader_fault.ReaderFault.TheVariants.{Cut, Foreign, Broken, Trailing}

abbrev pub fault_at : ℕ → UnplacedFault → ReaderFault
fault_at place Unplaced.Cut = Cut place
fault_at place Unplaced.Foreign = Foreign
fault_at place Unplaced.Broken = Broken place
fault_at place Unplaced.Trailing = Trailing place

abbrev pub shown : ReaderFault → Refusal
shown (Cut place) = by_reader 9 place
shown Foreign = by_reader 10 0
shown (Broken place) = by_reader 11 place
shown (Trailing place) = by_reader 12 place
