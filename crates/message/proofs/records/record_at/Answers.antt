use Rattle.std.proofs.Common.{ap, ◌∙◌}
use Rattle.std.proofs.lemmas.List.{take_rest}
use Rattle.message.specs.Walks.{record_in}
use Rattle.message.proofs.records.record_at.Goals as goal

pub returns-clause-value : goal.returns-clause-value
returns-clause-value c = c.first_record.ensures.value ∙ ap record_in (c.in_ok-get.ensures.lookup.0.2 ∙ take_rest c.args.bytes.now c.args.at)
