use Rattle.std.proofs.Common.{◌≡◌, ◌++◌, map, length, take, drop}
use Rattle.row.specs.Rows.{restarted}
use Rattle.row.proofs.ledger.Ledger.restart.Given as goal

abbrev pub invariant-loop-row : goal.invariant-loop-row
invariant-loop-row l = record {
  rows : l.row-items ≡ map restarted (take l.row-index l.initial.row-items) ++ drop l.row-index l.initial.row-items;
  long : length l.row-items ≡ length l.initial.row-items;
}
