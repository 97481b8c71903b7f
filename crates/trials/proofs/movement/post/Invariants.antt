use Rattle.std.proofs.Common.{◌≡◌, true}
use Rattle.table.specs.Transactions.{holds}
use Rattle.trials.proofs.movement.post.Given as goal

-- the ticket stays the table's
abbrev pub invariant-loop-movement : goal.invariant-loop-movement
invariant-loop-movement g l = holds g.K.Kind.means l.table l.ticket ≡ true
