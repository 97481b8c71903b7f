use Rattle.std.proofs.Common.{rules}
use Rattle.row.specs.Rows.{stepped_row}
use Rattle.row.proofs.ledger.Ledger.step.Goals as goal

pub returns-clause-rows : goal.returns-clause-rows
returns-clause-rows g c =
    c.on_row.ensures.rows (stepped_row g.K.Kind.means.steps c.args.action.now) (λ r s h. search rules)
