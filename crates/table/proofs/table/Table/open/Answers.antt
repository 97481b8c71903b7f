use Rattle.table.proofs.Soundness.{open_keeps}
use Rattle.table.proofs.table.Table.open.Goals as goal

pub invariant_of-self : goal.invariant_of-self
invariant_of-self g c =
    open_keeps g.K.Kind.means _ _ c.self.invariant c.open.result c.open.ensures

pub returns-clause-sound : goal.returns-clause-sound
returns-clause-sound g c = invariant_of-self g c
