use Rattle.table.proofs.Soundness.{abandon_keeps}
use Rattle.table.proofs.table.Table.abandon.Goals as goal

pub invariant_of-self : goal.invariant_of-self
invariant_of-self g c =
    abandon_keeps g.K.Kind.means _ _ c.self.invariant c.args.ticket c.abandon.result c.abandon.ensures

pub returns-clause-sound : goal.returns-clause-sound
returns-clause-sound g c = invariant_of-self g c
