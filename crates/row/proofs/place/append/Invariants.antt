use Rattle.std.proofs.Common.{◌≡◌, ◌++◌, drop}
use Rattle.history.specs.Room.{Fits}
use Rattle.row.proofs.place.append.Given as goal

-- with what is left behind them, the items are what they come to, and there is room for what is left
abbrev pub invariant-loop-action : goal.invariant-loop-action
invariant-loop-action g l =
    let items = g.H.History.items in
    record {
      list : items l.history ++ drop l.action-index l.actions ≡ items l.initial.history ++ l.actions;
      room : Fits (g.H.History.room l.history) (items l.history) (drop l.action-index l.actions);
      fixed : g.H.History.room l.history ≡ g.H.History.room l.initial.history;
    }
