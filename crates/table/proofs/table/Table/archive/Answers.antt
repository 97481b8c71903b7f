use Rattle.table.proofs.Archived.{archive_keeps}
use Rattle.table.proofs.table.Table.archive.Goals as goal

pub invariant_of-self : goal.invariant_of-self
invariant_of-self g c =
    archive_keeps g.K.Kind.means g.met.K.Kind.step_fits _ _ c.self.invariant c.args.article c.archive.result c.archive.ensures

pub returns-clause-sound : goal.returns-clause-sound
returns-clause-sound g c = invariant_of-self g c
