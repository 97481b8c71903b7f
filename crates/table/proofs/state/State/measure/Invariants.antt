use Rattle.std.proofs.Common.{◌≡◌, ◌+◌, ◌*◌, ◌≤◌, length}
use Rattle.table.specs.View.{bare}
use Rattle.table.proofs.Sections.{below, wrote}
use Rattle.table.proofs.state.State.measure.Given as goal

abbrev pub invariant-loop-article : goal.invariant-loop-article
invariant-loop-article g l =
    let v = bare l.self in
    (l.size.sections ≤ l.article) × (l.size.length ≤ 6 + 271 * l.article) × (l.size.sections ≡ length (below v l.article)) × (l.size.length ≡ 6 + length (wrote v l.article))
