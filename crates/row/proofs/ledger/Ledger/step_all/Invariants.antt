use Rattle.std.proofs.Common.{◌≡◌, take}
use Rattle.row.specs.Rows.{stepped_rows}
use Rattle.row.proofs.ledger.Ledger.step_all.Given as goal

abbrev pub invariant-loop-action : goal.invariant-loop-action
invariant-loop-action g l = record {
  rows : l.self.rows ≡ stepped_rows g.K.Kind.means.steps l.initial.self.rows (take l.action-index l.actions);
  fixed : l.self.setup ≡ l.initial.self.setup;
}
