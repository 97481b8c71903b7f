use Rattle.std.proofs.Common.{◌≡◌, length}
use Rattle.message.specs.Found.{actions_among}
use Rattle.message.proofs.actions.ActionsIterator.next.Given as goal

-- no action has been passed over
abbrev pub invariant-loop-found : goal.invariant-loop-found
invariant-loop-found l = actions_among l.self-inside.0 ≡ l.fn.self

abbrev pub decreases-loop-found : goal.decreases-loop-found
decreases-loop-found l = length l.self-inside.0
