-- The members of a list with one more in front, of two lists put together, and of those that pass a test.
-- Assumes nothing.
use Rattle.std.proofs.Common.{◌≡◌, ℕ, zero, suc, ◌<◌, Bool, true, false, cond, ◌⊎◌, List, [], ◌∷◌, ◌++◌, length, filter, sym, refl, ap, ◌∙◌, subst, inl, inr, ⊎_elim, arith}
use Rattle.std.specs.List.{HoldsAt, ContainsAt as Has, AllByRecursion}
use Rattle.std.proofs.ByRecursion.{all-has, all_has_itself, all_kept_by, All-weaker, kept_by_passes}
pub use Rattle.std.proofs.ByRecursion.{has_append_cases}

module _ {X : Type 0} where
  pub has_none : (x : X) → Has [] x → ⊥
  has_none x h = let inside = h.1 in omega arith

  pub has_first : (x : X) (xs : List X) → Has (x ∷ xs) x
  has_first x xs = (0, omega arith, λ d. refl)

  pub has_later : (x : X) (xs : List X) (y : X) → Has xs y → Has (x ∷ xs) y
  has_later x xs y h = let inside = h.1 in (suc h.0, omega arith, λ d. h.2 d)

  pub has_cons_cases : (x : X) (xs : List X) (y : X) → Has (x ∷ xs) y → (x ≡ y) ⊎ Has xs y
  has_cons_cases x xs y h = at h.0 h.1 h.2
    where
      at : (k : ℕ) → k < length (x ∷ xs) → HoldsAt (λ z. z ≡ y) (x ∷ xs) k → (x ≡ y) ⊎ Has xs y
      at zero inside is = inl (is x)
      at (suc k) inside is = inr (k, omega arith, is)

  pub all_from_has : (P : X → Type 0) (xs : List X) → ((x : X) → Has xs x → P x) → AllByRecursion P xs
  all_from_has P xs each = All-weaker (Has xs) P each xs (all_has_itself xs)

  -- what holds of both parts together holds of each
  pub all_append_parts : (P : X → Type 0) (xs ys : List X) → AllByRecursion P (xs ++ ys) → AllByRecursion P xs × AllByRecursion P ys
  all_append_parts P [] ys h = (tt, h)
  all_append_parts P (x ∷ xs) ys h = let more = all_append_parts P xs ys h.1 in ((h.0, more.0), more.1)

module _ {X : Type 0} (p : X → Bool) where
  pub has_kept_by : (xs : List X) (x : X) → Has xs x → p x ≡ true → Has (filter p xs) x
  has_kept_by [] x h passes = h
  has_kept_by (z ∷ zs) x h passes = ⊎_elim
      (λ same. subst (λ (b : Bool). Has (cond b (z ∷ filter p zs) (filter p zs)) x) (sym (ap p same ∙ passes)) (subst (Has (z ∷ filter p zs)) same (has_first z (filter p zs))))
      (λ later. either (p z) (has_kept_by zs x later passes))
      (has_cons_cases z zs x h)
    where
      either : (b : Bool) → Has (filter p zs) x → Has (cond b (z ∷ filter p zs) (filter p zs)) x
      either true k = has_later z (filter p zs) x k
      either false k = k

  pub has_kept_by_parts : (xs : List X) (x : X) → Has (filter p xs) x → Has xs x × (p x ≡ true)
  has_kept_by_parts xs x h = (all-has (Has xs) (filter p xs) x (all_kept_by p (Has xs) xs (all_has_itself xs)) h, all-has (λ y. p y ≡ true) (filter p xs) x (kept_by_passes p xs) h)

  pub kept_by_none : (xs : List X) → AllByRecursion (λ x. p x ≡ false) xs → filter p xs ≡ []
  kept_by_none [] h = refl
  kept_by_none (x ∷ xs) h = λ i. cond (h.0 i) (x ∷ kept_by_none xs h.1 i) (kept_by_none xs h.1 i)
