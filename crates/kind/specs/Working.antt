-- The actions on an article, and the figure that they lead to. Assumes nothing.
use Rattle.std.specs.Prelude.{ℕ, Bool, List, [], ◌∷◌, ℤ, filter, nat_eq}
use Rattle.action.specs.declared.action.Action.{Action}

-- the actions on one article, in their order
abbrev pub on : ℕ → List Action → List Action
on article xs = filter (λ x. nat_eq x.article article) xs

-- steps the figure by the actions in their order, each once
abbrev pub working : (ℤ → ℕ → ℤ → ℤ) → ℤ → List Action → ℤ
working steps f [] = f
working steps f (x ∷ xs) = working steps (steps f x.operation x.amount) xs

-- does a kind know the action's pair?
abbrev pub knows_action : (ℕ → ℤ → Bool) → Action → Bool
knows_action knows x = knows x.operation x.amount
