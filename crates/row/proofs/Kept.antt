-- Lists of what passes one test and another. Assumes nothing.
use Rattle.std.proofs.Common.{◌≡◌, ◌≤◌, Bool, true, false, cond, ◌&&◌, List, [], ◌∷◌, length, filter, refl, ap, arith}
use Rattle.std.proofs.lemmas.List.Sums.{count_by-le-length, length-filter}

module _ {X : Type 0} (p q : X → Bool) where
  pub kept_by_both : (xs : List X) → filter p (filter q xs) ≡ filter (λ x. q x && p x) xs
  kept_by_both [] = refl
  kept_by_both (x ∷ xs) = by_test (q x) (kept_by_both xs)
    where
      by_test : (b : Bool) → filter p (filter q xs) ≡ filter (λ x. q x && p x) xs → filter p (cond b (x ∷ filter q xs) (filter q xs)) ≡ cond (b && p x) (x ∷ filter (λ x. q x && p x) xs) (filter (λ x. q x && p x) xs)
      by_test true rest = ap (λ l. cond (p x) (x ∷ l) l) rest
      by_test false rest = rest

pub kept_by_few : {X : Type 0} (p : X → Bool) (xs : List X) → length (filter p xs) ≤ length xs
kept_by_few p xs = omega (arith, length-filter p xs, count_by-le-length p xs)
