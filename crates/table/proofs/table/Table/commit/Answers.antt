use Rattle.std.proofs.Common.{◌<◌, length, subst}
use Rattle.message.specs.Lawful.{LawfulMessage}
use Rattle.table.specs.Transactions.{transaction_message}
use Rattle.table.specs.View.{View}
use Rattle.table.proofs.Lawfulness.{transaction_lawful}
use Rattle.table.proofs.Outcomes.{commit_once}
use Rattle.table.proofs.Soundness.{commit_keeps}
use Rattle.table.proofs.table.Table.commit.Goals as goal

pub invariant_of-self : goal.invariant_of-self
invariant_of-self g c =
    commit_keeps g.K.Kind.means _ _ c.self.invariant c.args.ticket c.args.buffer.now c.commit.new.buffer c.commit.result c.commit.ensures

pub returns-clause-sound : goal.returns-clause-sound
returns-clause-sound g c = invariant_of-self g c

pub returns-clause-once : goal.returns-clause-once
returns-clause-once g c = commit_once g.K.Kind.means c.args.self.now c.args.buffer.now c.args.ticket

pub returns-clause-lawful : goal.returns-clause-lawful
returns-clause-lawful g c =
    subst (λ (v : View). 0 < length v.pending → LawfulMessage g.K.Kind.means v.setup (transaction_message g.K.Kind.means v)) c.self.view_is (transaction_lawful g.K.Kind.means _ c.self.invariant)
