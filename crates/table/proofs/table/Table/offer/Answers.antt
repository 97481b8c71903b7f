use Rattle.std.proofs.Common.{◌<◌, subst}
use Rattle.message.specs.Lawful.{LawfulMessage}
use Rattle.table.specs.Offers.{offer_message}
use Rattle.table.proofs.Lawfulness.{offer_lawful}
use Rattle.table.proofs.Outcomes.{offer_once}
use Rattle.table.proofs.table.Table.offer.Goals as goal

pub returns-clause-once : goal.returns-clause-once
returns-clause-once g c = offer_once g.K.Kind.means c.args.self.now c.args.buffer.now c.args.peer c.args.article

pub returns-clause-lawful : goal.returns-clause-lawful
returns-clause-lawful g c =
    subst (λ v. c.args.article < v.setup.articles → LawfulMessage g.K.Kind.means v.setup (offer_message g.K.Kind.means v c.args.peer c.args.article)) c.self.view_is (offer_lawful g.K.Kind.means _ c.self.invariant c.args.peer c.args.article)
