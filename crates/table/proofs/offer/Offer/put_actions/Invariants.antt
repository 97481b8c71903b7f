use Rattle.std.proofs.Common.{filter}
use Rattle.history.specs.Walks.{left}
use Rattle.table.specs.Offers.{is_offered}
use Rattle.table.specs.View.{bare}
use Rattle.table.proofs.Putting.{Putting}
use Rattle.table.proofs.offer.Offer.put_actions.Given as goal

abbrev pub invariant-loop-action : goal.invariant-loop-action
invariant-loop-action g l =
    let items = g.H.History.items in
    let p = is_offered (bare l.store-inside.state) l.self.peer l.self.article in
    Putting l.buffer l.at (filter p (left items l.action-iterator)) l.initial.buffer l.start (filter p (items l.store-inside.history))
