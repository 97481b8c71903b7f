use Rattle.std.proofs.Common.{rules}
use Rattle.std.proofs.lemmas.Int.{wraps}
use Rattle.kind.proofs.on_hand.OnHandKind.step.Goals as goal

pub returns : goal.returns
returns c = search (rules, wraps)
