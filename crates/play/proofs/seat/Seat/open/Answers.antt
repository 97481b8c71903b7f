use Rattle.play.proofs.Tickets.{empty_hand}
use Rattle.play.proofs.seat.Seat.open.Goals as goal

pub put_back-requires : goal.put_back-requires
put_back-requires g c =
    let self = c.args.self.now in empty_hand g.K.Kind.means self.table self.ticket self.own c.in_ok-ticket.ensures.does.0
