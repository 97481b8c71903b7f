use Rattle.std.proofs.Common.{◌≡◌}
use Rattle.history.specs.Walks.{left}
use Rattle.row.specs.Rows.{stepped_rows}
use Rattle.row.proofs.ledger.Ledger.rework.Given as goal

-- what is left leads the rows to where the whole leads
abbrev pub invariant-loop-action : goal.invariant-loop-action
invariant-loop-action g l =
    let steps = g.K.Kind.means.steps in
    let items = g.H.History.items in
    record {
      rows : stepped_rows steps l.self.rows (left items l.action-iterator) ≡ stepped_rows steps l.initial.self.rows (items l.history);
      fixed : l.self.setup ≡ l.initial.self.setup;
    }
