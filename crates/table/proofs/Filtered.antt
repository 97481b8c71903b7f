-- The actions so far that pass a test. Assumes nothing.
use Rattle.std.proofs.Common.{◌≡◌, ℕ, ◌+◌, ◌<◌, ◌≤◌, Bool, true, cond, eqb, List, [], ◌∷◌, ◌++◌, length, get_or, take, filter, sym, ap, ◌∙◌, arith}
use Rattle.std.proofs.lemmas.List.Elements.{filter_more}
use Rattle.std.proofs.lemmas.List.{get_or_default}
use Rattle.std.proofs.lemmas.Bool.{eq-eqb}
use Rattle.std.proofs.lemmas.List.Sums.{length-filter, sum_by-take-le}
use Rattle.action.specs.declared.action.Action.{Action}
use Rattle.kind.specs.Working.{on}
use Rattle.message.specs.Progress.{no_action}

module _ (p : Action → Bool) (xs : List Action) (i : ℕ) (within : i < length xs) (a : Action) (read : a ≡ get_or xs i a) where
  pub kept_yes : true ≡ p a → filter p (take (i + 1) xs) ≡ filter p (take i xs) ++ (a ∷ [])
  kept_yes t = filter_more p xs i a within ∙ ap (λ x. filter p (take i xs) ++ cond (p x) (x ∷ []) []) (sym read) ∙ ap (λ b. filter p (take i xs) ++ cond b (a ∷ []) []) (sym t)

pub few_kept : (p : Action → Bool) (xs : List Action) (i : ℕ) → length (filter p (take i xs)) ≤ length (filter p xs)
few_kept p xs i = omega (arith, length-filter p xs, length-filter p (take i xs), sum_by-take-le (λ x. cond (p x) 1 0) xs i)

-- a loop over the actions that looks for those on one article
module _ (xs : List Action) (i : ℕ) (within : i < length xs) (a : ℕ) where
  pub on_more : (get_or xs i no_action).article ≡ a → on a (take (i + 1) xs) ≡ on a (take i xs) ++ (get_or xs i no_action ∷ [])
  on_more is = kept_yes (λ x. eqb x.article a) xs i within (get_or xs i no_action) (get_or_default xs i _ _ within) (sym (eq-eqb _ a is))
