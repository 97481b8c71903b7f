use Rattle.std.proofs.Common.{sym, ◌∙◌}
use Rattle.script.proofs.Held.{all_empty}
use Rattle.script.proofs.desk.empty_slots.Goals as goal

pub returns : goal.returns
returns c = all_empty c.default.result 10 c.default.ensures.long (λ i none h. let d = c.default.ensures.at i none h in sym d.1 ∙ d.2)
