use Rattle.std.proofs.Common.{drop}
use Rattle.kind.specs.Working.{on}
use Rattle.table.proofs.Putting.{Putting}
use Rattle.table.proofs.transaction_message.put_on.Given as goal

abbrev pub invariant-loop-action : goal.invariant-loop-action
invariant-loop-action l =
    Putting l.buffer l.at (on l.article (drop l.action-index l.actions)) l.initial.buffer l.start (on l.article l.actions)
