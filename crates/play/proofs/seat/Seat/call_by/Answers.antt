use Rattle.std.proofs.Common.{rules, ◌≡◌, true, Some, subst}
use Rattle.play.specs.Calls.{Fair}
use Rattle.table.specs.Transactions.{holds}
use Rattle.play.proofs.Tickets.{same_ticket}
use Rattle.play.proofs.seat.Seat.call_by.Goals as goal

pub invariant_of-other-in-None : goal.invariant_of-other-in-None
invariant_of-other-in-None g c = record {
  own = λ t e.
      let self = c.args.self.now in
      let other = c.args.other.now in
      let ticket = c.in_ok-ticket.ticket in
      let mine : self.ticket ≡ Some t = search rules in
      let theirs : other.ticket ≡ Some ticket = search rules in
      let here = self.table in
      let spent : holds g.K.Kind.means here ticket ≡ true =
      subst (λ back. Fair g.K.Kind.means here ticket back c.make-answer.new.table) c.in-None.is c.make-answer.ensures in
      let same : ticket ≡ t = same_ticket g.K.Kind.means here ticket t spent (self.own t mine) in
      subst (λ u. holds g.J.Kind.means other.table u ≡ true) same (other.own ticket theirs);
}
