use Rattle.std.proofs.Common.{◌≡◌, take}
use Rattle.row.specs.Rows.{posted_rows}
use Rattle.row.proofs.ledger.Ledger.raise_posted.Given as goal

abbrev pub invariant-loop-action : goal.invariant-loop-action
invariant-loop-action l = record {
  rows : l.self.rows ≡ posted_rows l.own l.initial.self.rows (take l.action-index l.actions);
  fixed : l.self.setup ≡ l.initial.self.setup;
}
