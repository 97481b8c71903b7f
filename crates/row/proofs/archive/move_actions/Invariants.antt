use Rattle.std.proofs.Common.{◌≡◌, filter}
use Rattle.kind.specs.Working.{working}
use Rattle.history.specs.Walks.{left}
use Rattle.row.specs.Passes.{is_up_to}
use Rattle.row.proofs.archive.move_actions.Given as goal

-- what is left leads the base to where the whole leads
abbrev pub invariant-loop-action : goal.invariant-loop-action
invariant-loop-action g l =
    let gone = filter (is_up_to l.article l.time) in
    let items = g.H.History.items in
    working g.K.Kind.means.steps l.base (gone (left items l.action-iterator)) ≡ working g.K.Kind.means.steps l.initial.base (gone (items l.fn.history))
