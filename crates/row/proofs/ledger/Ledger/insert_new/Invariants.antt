use Rattle.std.proofs.Common.{◌≡◌, fold, filter}
use Rattle.action.specs.Order.{placed}
use Rattle.history.specs.Room.{Fits}
use Rattle.row.specs.Passes.{is_new_in, new_actions}
use Rattle.row.specs.Sorting.{Sorted}
use Rattle.row.proofs.ledger.Ledger.insert_new.Given as goal

-- what is left, put in, gives what the whole gives, and there is room for it; and the history stays sorted
abbrev pub invariant-loop-action : goal.invariant-loop-action
invariant-loop-action g l =
    let items = g.H.History.items in
    let left = filter (is_new_in l.self.rows l.self.setup.own) l.action-iterator in
    record {
      list : fold placed (items l.history) left ≡ fold placed (items l.initial.history) (new_actions l.self.rows l.self.setup.own l.bytes);
      sorted : Sorted (items l.history);
      room : Fits (g.H.History.room l.history) (items l.history) left;
      fixed : g.H.History.room l.history ≡ g.H.History.room l.initial.history;
    }
