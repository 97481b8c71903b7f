use Rattle.std.proofs.Common.{rules}
use Rattle.message.specs.Found.{told}
use Rattle.row.specs.Rows.{raised_row_by}
use Rattle.row.proofs.ledger.Ledger.raise_by.Goals as goal

pub returns-clause-rows : goal.returns-clause-rows
returns-clause-rows c =
    c.on_row.ensures.rows (raised_row_by c.args.self.now.setup.own c.args.sender (told c.args.found.now)) (λ r s h. search rules)
