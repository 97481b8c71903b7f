use Rattle.table.proofs.Outcomes.{take_once}
use Rattle.table.proofs.Taken.{take_keeps}
use Rattle.table.proofs.table.Table.take.Goals as goal

pub invariant_of-self : goal.invariant_of-self
invariant_of-self g c =
    take_keeps g.K.Kind.means g.met.K.Kind.step_fits g.met.K.Kind.commute _ _ c.self.invariant c.args.bytes.now c.take.result c.take.ensures

pub returns-clause-sound : goal.returns-clause-sound
returns-clause-sound g c = invariant_of-self g c

pub returns-clause-once : goal.returns-clause-once
returns-clause-once g c = take_once g.K.Kind.means g.met.K.Kind.number_fits c.args.self.now c.args.bytes.now
