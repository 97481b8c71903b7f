-- The order that a search by halves stands on. Assumes nothing.
use Rattle.std.specs.Prelude.{◌≡◌, false, List}
use Rattle.action.specs.declared.action.Action.{Action}
use Rattle.action.specs.Order.{Pairwise, precedes}

-- the later one does not precede the other
abbrev pub Follows : Action → Action → Type 0
Follows x y = precedes y x ≡ false

-- no action precedes one that stands before it
abbrev pub Sorted : List Action → Type 0
Sorted xs = Pairwise Follows xs
