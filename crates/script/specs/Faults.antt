-- A line's fault by number, place and layer. Assumes nothing.
use Rattle.action.specs.declared.refusal.Refusal.{Refusal}
use Rattle.action.specs.Lawful.{by_table}
use Rattle.table.specs.Faults as TableFaults
use Rattle.script.specs.declared.line_fault.LineFault.{LineFault}
use Rattle.script.specs.declared.line_fault.LineFault.TheVariants.{NoKnownForm, Table}

-- a line of no known form is refused by 18 at the line's number, and any other as its site's table refuses
abbrev pub shown : LineFault → Refusal
shown (NoKnownForm line) = by_table 18 line
shown (Table fault) = TableFaults.shown fault
