-- A history's fault by number, place and layer. Assumes nothing.
use Rattle.action.specs.declared.refusal.Refusal.{Refusal}
use Rattle.action.specs.Lawful.{by_history}
use Rattle.history.specs.declared.history_fault.HistoryFault.{HistoryFault}
use Rattle.history.specs.declared.history_fault.HistoryFault.TheVariants.{Full, NoPlace}

abbrev pub shown : HistoryFault → Refusal
shown (Full capacity) = by_history 16 capacity
shown (NoPlace place) = by_history 17 place
