use Rattle.std.proofs.Common.{◌≡◌, length}
use Rattle.table.proofs.table.empty.Given as goal

abbrev pub invariant-loop-last : goal.invariant-loop-last
invariant-loop-last g l = (length (g.H.History.items l.history) ≡ l.last) × (g.H.History.room l.history ≡ g.H.History.room l.initial.history)
