use Rattle.std.proofs.Common.{◌≡◌, ◌+◌, length}
use Rattle.message.specs.Buffer.{overwritten}
use Rattle.table.specs.View.{bare}
use Rattle.table.proofs.Sections.{wrote}
use Rattle.table.proofs.state.State.put_sections.Given as goal

abbrev pub invariant-loop-article : goal.invariant-loop-article
invariant-loop-article l =
    (l.at ≡ l.start + length (wrote (bare l.self) l.article)) × (l.buffer ≡ overwritten l.initial.buffer l.start (wrote (bare l.self) l.article))
