use Rattle.std.proofs.Common.{◌≡◌, map, fold}
use Rattle.message.specs.Found.{told}
use Rattle.message.specs.Walks.{intervals_of, records_in}
use Rattle.row.specs.Passes.{latest_to}
use Rattle.row.specs.Rows.{raised_rows}
use Rattle.row.proofs.ledger.Ledger.raise_all.Given as goal

-- what is left raises the time and the rows to what the whole raises them to
abbrev pub invariant-loop-found : goal.invariant-loop-found
invariant-loop-found l =
    let raise = raised_rows l.initial.self.setup.own l.sender in
    let left = map told l.found-iterator in
    let all = intervals_of 0 (records_in l.bytes) in
    record {
      times : latest_to l.time left ≡ latest_to l.clock all;
      rows : fold raise l.self.rows left ≡ fold raise l.initial.self.rows all;
      fixed : l.self.setup ≡ l.initial.self.setup;
    }
