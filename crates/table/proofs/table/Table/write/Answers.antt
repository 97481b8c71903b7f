use Rattle.std.proofs.Common.{sym, subst, w32, SFits}
use Rattle.std.proofs.lemmas.Int.{to_z-of_z}
use Rattle.table.proofs.Soundness.{write_keeps}
use Rattle.table.proofs.table.Table.write.Goals as goal

pub invariant_of-self : goal.invariant_of-self
invariant_of-self g c =
    write_keeps g.K.Kind.means _ _ c.self.invariant c.args.ticket.now c.args.article c.args.operation _ c.ranges.operation.fits (subst (SFits w32) (sym (to_z-of_z w32 c.args.amount c.ranges.amount)) c.ranges.amount) c.write.result c.write.ensures

pub returns-clause-sound : goal.returns-clause-sound
returns-clause-sound g c = invariant_of-self g c
