-- What a walk over a history's actions has left. Assumes nothing.
use Rattle.std.specs.Prelude.{List, drop}
use Rattle.action.specs.declared.action.Action.{Action}
use Rattle.history.specs.declared.walk.Walk.{Walk}

-- the items from the walk's place on
abbrev pub left : {H : Type 0} → (H → List Action) → Walk H → List Action
left items walk = drop walk.place (items walk.history.now)
