use Rattle.std.proofs.Common.{rules, tests}
use Rattle.row.specs.Passes.{is_behind_in}
use Rattle.row.proofs.Finding.{first_passing}
use Rattle.row.proofs.ledger.Ledger.first_behind.Goals as goal

pub returns : goal.returns
returns c =
    first_passing (is_behind_in c.args.self.now.rows c.args.self.now.setup.own) c.args.bytes.now _ c.find.result c.new.ensures.left c.find.ensures.ran (λ s b q k. search (rules, tests)) (search rules)
