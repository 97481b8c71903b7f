-- The order that a search by halves stands on: an ascending list has it, and an action put in at its place
-- keeps it. Assumes nothing.
use Rattle.std.proofs.Common.{◌≡◌, ℕ, zero, suc, ◌-◌, ◌<◌, ◌≤◌, true, false, not, ◌⊎◌, List, [], ◌∷◌, ◌++◌, length, get_or, sym, ap, subst, inl, inr, arith}
use Rattle.std.specs.List.{AllByRecursion}
use Rattle.std.proofs.ByRecursion.{All-append, All-weaker}
use Rattle.std.proofs.lemmas.Bool.Decides.{nat_tests}
use Rattle.std.proofs.lemmas.List.Sums.{suffix_len_is}
use Rattle.action.specs.declared.action.Action.{Action}
use Rattle.action.specs.Order.{Ascending, place_of, placed, precedes}
use Rattle.action.proofs.Pairs.{pairwise_append, pairwise_parts, pairwise_weaker}
use Rattle.action.proofs.Placing.{placing}
use Rattle.row.specs.Sorting.{Follows, Sorted}

-- TWO ACTIONS

follows : (x y : Action) → precedes x y ≡ true → Follows x y
follows x y h = grind (arith, nat_tests)

not_past : (x y z : Action) → precedes y x ≡ false → Follows y z → precedes z x ≡ false
not_past x y z h k = grind (arith, nat_tests)

not_between : (y u x : Action) → precedes u x ≡ true → Follows y u → precedes x y ≡ false
not_between y u x h k = grind (arith, nat_tests)

-- BY PLACES

follows_at : (y d : Action) (ys : List Action) (k : ℕ) → AllByRecursion (Follows y) ys → k < length ys → Follows y (get_or ys k d)
follows_at y d [] k h lt = absurd (omega arith)
follows_at y d (z ∷ ys) zero h lt = h.0
follows_at y d (z ∷ ys) (suc k) h lt = follows_at y d ys k h.1 (omega arith)

-- behind one that does not precede x, none does
pub past : (x : Action) (xs : List Action) (m k : ℕ) → Sorted xs → m ≤ k → k < length xs → precedes (get_or xs m x) x ≡ false → precedes (get_or xs k x) x ≡ false
past x [] m k sorted le lt h = absurd (omega arith)
past x (y ∷ ys) zero zero sorted le lt h = h
past x (y ∷ ys) zero (suc k) sorted le lt h = not_past x y (get_or ys k x) h (follows_at y x ys k sorted.0 (omega arith))
past x (y ∷ ys) (suc m) zero sorted le lt h = absurd (omega arith)
past x (y ∷ ys) (suc m) (suc k) sorted le lt h = past x ys m k sorted.1 (omega arith) (omega arith) h

-- the place is where what precedes x ends
pub place_found : (xs : List Action) (x : Action) (n : ℕ) → n ≤ length xs → (0 < n → precedes (get_or xs (n - 1) x) x ≡ true) → ((k : ℕ) → n ≤ k → k < length xs → precedes (get_or xs k x) x ≡ false) → n ≡ place_of xs x
place_found xs x n le before behind =
    omega (arith, suffix_len_is (λ y. not (precedes y x)) xs n x le (λ k ge lt. ap not (behind k ge lt)) (λ some. ap not (before some)))

-- KEPT

pub ascending_sorted : (xs : List Action) → Ascending xs → Sorted xs
ascending_sorted xs up = pairwise_weaker (λ x y. precedes x y ≡ true) Follows follows xs up

-- x precedes none of a list that ends with one that precedes x
none_before : (x : Action) (xs : List Action) → Sorted xs → (xs ≡ []) ⊎ ((us : List Action) × (u : Action) × (xs ≡ us ++ u ∷ []) × (precedes u x ≡ true)) → AllByRecursion (λ y. Follows y x) xs
none_before x xs sorted (inl none) = subst (AllByRecursion (λ y. Follows y x)) (sym none) tt
none_before x xs sorted (inr h) =
    let us : List Action = h.0 in
    let u : Action = h.1 in
    let p = pairwise_parts Follows us (u ∷ []) (subst Sorted h.2 sorted) in
    let each : AllByRecursion (λ y. Follows y x) us = All-weaker (λ y. AllByRecursion (Follows y) (u ∷ [])) (λ y. Follows y x) (λ y k. not_between y u x h.3 k.0) us p.2 in
    subst (AllByRecursion (λ y. Follows y x)) (sym h.2) (All-append (λ y. Follows y x) us (u ∷ []) each (follows u x h.3, tt))

pub placed_sorted : (xs : List Action) (x : Action) → Sorted xs → Sorted (placed xs x)
placed_sorted xs x sorted =
    let g = placing xs x in
    let p = pairwise_parts Follows g.before g.after (subst Sorted g.whole sorted) in
    subst Sorted (sym g.put) (pairwise_append Follows g.before (x ∷ g.after) p.0 (g.none_after, p.1) (both g.after g.before (none_before x g.before p.0 g.last) p.2))
  where
    both : (zs ys : List Action) → AllByRecursion (λ y. Follows y x) ys → AllByRecursion (λ y. AllByRecursion (Follows y) zs) ys → AllByRecursion (λ y. AllByRecursion (Follows y) (x ∷ zs)) ys
    both zs [] a b = tt
    both zs (y ∷ ys) a b = ((a.0, b.0), both zs ys a.1 b.1)
