-- How many actions a message can carry. Assumes nothing.
use Rattle.std.proofs.Common.{◌≤◌, length, arith}
use Rattle.std.proofs.ByRecursion.{All-weaker, sum_by_le}
use Rattle.action.specs.declared.setup.Setup.{Setup}
use Rattle.kind.specs.Meaning.{Meaning}
use Rattle.message.specs.Format.{Message, Section}
use Rattle.message.specs.Lawful.{LawfulMessage, LawfulSection, action_count}

pub few_actions : (kind : Meaning) (setup : Setup) (m : Message) → LawfulMessage kind setup m → action_count m ≤ 1048560
few_actions kind setup m lawful =
    omega (arith, sum_by_le (λ (s : Section). length s.actions) 65535 m.sections (All-weaker (LawfulSection kind setup) (λ s. length s.actions ≤ 65535) (λ s h. omega (arith, h.counted)) m.sections lawful.sections), lawful.few)
