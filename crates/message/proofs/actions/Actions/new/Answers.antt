use Rattle.std.proofs.Common.{◌≡◌, length, ap, ◌∙◌, arith}
use Rattle.message.specs.Found.{actions_among}
use Rattle.message.specs.Walks.{actions_of, records_in}
use Rattle.message.proofs.ReadingBack.{actions_back}
use Rattle.message.proofs.Yields.{actions_placed, few_actions, few_records, takes_runs}
use Rattle.message.proofs.actions.Actions.new.Goals as goal

pub returns : goal.returns
returns c =
    let bytes = c.args.bytes.now in
    let left : actions_among c.new.result ≡ actions_of (records_in bytes) = ap actions_among c.new.ensures.left ∙ actions_placed 0 (records_in bytes) in
    record { left = left; reads_back = λ m is. left ∙ actions_back bytes m is; few = omega (arith, ap length left, few_actions (records_in bytes), few_records bytes); runs = takes_runs }
