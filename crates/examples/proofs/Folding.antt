-- A fold of the steps over references to actions works the actions.
use Rattle.std.proofs.Common.{◌≡◌, ℕ, List, [], ◌∷◌, map, ℤ, fold, refl, Bor}
use Rattle.action.specs.declared.action.Action.{Action}
use Rattle.kind.specs.Working.{working}

pub fold_works : (steps : ℤ → ℕ → ℤ → ℤ) (f : ℤ) (xs : List (Bor Action)) → fold (λ f x. steps f x.now.operation x.now.amount) f xs ≡ working steps f (map (λ x. x.now) xs)
fold_works steps f [] = refl
fold_works steps f (x ∷ xs) = fold_works steps (steps f x.now.operation x.now.amount) xs
