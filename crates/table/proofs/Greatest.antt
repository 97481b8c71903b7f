-- The greatest of a number and those of a list's elements. Assumes nothing.
use Rattle.std.proofs.Common.{◌≡◌, ℕ, ◌<◌, ◌≤◌, max, List, [], ◌∷◌, fold, ⊎_elim, arith}
use Rattle.std.specs.List.{ContainsAt as Has, AllByRecursion}
use Rattle.std.proofs.lemmas.Bool.{cases_lt}
use Rattle.action.proofs.Members.{has_first, has_later}

module _ {X : Type 0} (f : X → ℕ) where
  abbrev pub greatest : ℕ → List X → ℕ
  greatest t xs = fold (λ t x. max t (f x)) t xs

  pub greatest_from : (t : ℕ) (xs : List X) → greatest t xs ≡ max t (greatest 0 xs)
  greatest_from t [] = omega arith
  greatest_from t (x ∷ xs) = omega (arith, greatest_from (max t (f x)) xs, greatest_from (max 0 (f x)) xs)

  pub greatest_ge : (t : ℕ) (xs : List X) → AllByRecursion (λ x. f x ≤ greatest t xs) xs
  greatest_ge t [] = tt
  greatest_ge t (x ∷ xs) = (omega (arith, greatest_from (max t (f x)) xs), greatest_ge (max t (f x)) xs)

  pub greatest_le : (c t : ℕ) (xs : List X) → t ≤ c → AllByRecursion (λ x. f x ≤ c) xs → greatest t xs ≤ c
  greatest_le c t [] h k = h
  greatest_le c t (x ∷ xs) h k = greatest_le c (max t (f x)) xs (omega (arith, k.0)) k.1

  -- one of them makes it so great
  pub greatest_above : (c : ℕ) (xs : List X) → c < greatest 0 xs → (x : X) × Has xs x × (c < f x)
  greatest_above c [] h = absurd (omega arith)
  greatest_above c (x ∷ xs) h =
      ⊎_elim
      (λ lt. (x, has_first x xs, lt))
      (λ le. let more = greatest_above c xs (omega (arith, greatest_from (max 0 (f x)) xs)) in (more.0, has_later x xs more.0 more.1, more.2))
      (cases_lt c (f x))
