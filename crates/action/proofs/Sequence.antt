-- Lists of actions in order: their parts, their members and their times. Assumes nothing.
use Rattle.std.proofs.Common.{◌≡◌, ℕ, ◌<◌, ◌≤◌, Bool, true, false, cond, not, leb, ◌⊎◌, List, [], ◌∷◌, ◌++◌, filter, sym, refl, ap, ◌∙◌, subst, inl, inr, ⊎_elim, arith}
use Rattle.std.specs.List.{ContainsAt as Has, AllByRecursion}
use Rattle.std.proofs.ByRecursion.{all-has, All-weaker}
use Rattle.std.proofs.lemmas.Bool.{cases_lt, le-leb, lt-leb}
use Rattle.action.specs.declared.action.Action.{Action}
use Rattle.action.specs.Order.{Ascending, Leads, precedes}
use Rattle.action.proofs.Members.{has_cons_cases, has_first, has_later, has_none, kept_by_none}
use Rattle.action.proofs.Pairs.{pairwise_append, pairwise_kept, pairwise_parts}
use Rattle.action.proofs.Precedence.{not_later, precedes_asymmetric, precedes_by_time, precedes_irreflexive, precedes_trans}

-- ONE BEFORE OTHERS

pub leads_has : (x : Action) (ys : List Action) (y : Action) → Leads x ys → Has ys y → precedes x y ≡ true
leads_has x ys y h k = all-has (λ z. precedes x z ≡ true) ys y h k

pub leads_through : (x y : Action) (zs : List Action) → precedes x y ≡ true → Leads y zs → Leads x zs
leads_through x y [] h k = tt
leads_through x y (z ∷ zs) h k = (precedes_trans x y z h k.0, leads_through x y zs h k.1)

pub leads_later : (c : ℕ) (x : Action) (ys : List Action) → x.time ≤ c → AllByRecursion (λ y. c < y.time) ys → Leads x ys
leads_later c x [] h k = tt
leads_later c x (y ∷ ys) h k = (precedes_by_time x y (omega (arith, k.0)), leads_later c x ys h k.1)

-- PARTS

pub ascending_parts : (xs ys : List Action) → Ascending (xs ++ ys) → Ascending xs × Ascending ys × AllByRecursion (λ x. Leads x ys) xs
ascending_parts = pairwise_parts (λ x y. precedes x y ≡ true)

pub ascending_together : (xs ys : List Action) → Ascending xs → Ascending ys → AllByRecursion (λ x. Leads x ys) xs → Ascending (xs ++ ys)
ascending_together = pairwise_append (λ x y. precedes x y ≡ true)

-- what is at most c comes before what is later
pub ascending_append : (c : ℕ) (xs ys : List Action) → AllByRecursion (λ x. x.time ≤ c) xs → AllByRecursion (λ y. c < y.time) ys → Ascending xs → Ascending ys → Ascending (xs ++ ys)
ascending_append c xs ys h k a b = ascending_together xs ys a b (All-weaker (λ x. x.time ≤ c) (λ x. Leads x ys) (λ x le. leads_later c x ys le k) xs h)

-- a part of a list in order is in order
pub ascending_kept : (p : Action → Bool) (xs : List Action) → Ascending xs → Ascending (filter p xs)
ascending_kept = pairwise_kept (λ x y. precedes x y ≡ true)

-- MEMBERS

-- the members after the first are the members of one list, if they are of the other
tail_has : (x y : Action) (xs ys : List Action) → x ≡ y → Leads x xs → ((z : Action) → Has (x ∷ xs) z → Has (y ∷ ys) z) → (z : Action) → Has xs z → Has ys z
tail_has x y xs ys same leads to z h = ⊎_elim
    (λ first. absurd (precedes_irreflexive x (leads_has x xs x leads (subst (Has xs) (sym (same ∙ first)) h))))
    (λ k. k)
    (has_cons_cases y ys z (to z (has_later x xs z h)))

-- two lists in order with the same members are the same
pub ascending_same : (xs ys : List Action) → Ascending xs → Ascending ys → ((x : Action) → Has xs x → Has ys x) → ((x : Action) → Has ys x → Has xs x) → xs ≡ ys
ascending_same [] [] a b to from = refl
ascending_same [] (y ∷ ys) a b to from = absurd (has_none y (from y (has_first y ys)))
ascending_same (x ∷ xs) [] a b to from = absurd (has_none x (to x (has_first x xs)))
ascending_same (x ∷ xs) (y ∷ ys) a b to from =
    let same : x ≡ y = first (has_cons_cases y ys x (to x (has_first x xs))) (has_cons_cases x xs y (from y (has_first y ys))) in
    let rest : xs ≡ ys = ascending_same xs ys a.1 b.1 (tail_has x y xs ys same a.0 to) (tail_has y x ys xs (sym same) b.0 from) in
    λ i. same i ∷ rest i
  where
    first : (y ≡ x) ⊎ Has ys x → (x ≡ y) ⊎ Has xs y → x ≡ y
    first (inl e) _ = sym e
    first (inr _) (inl e) = e
    first (inr h) (inr k) = absurd (precedes_asymmetric x y (leads_has x xs y a.0 k) (leads_has y ys x b.0 h))

-- TIMES

-- a list in order is what is at most t, and then what is later
pub split_at : (t : ℕ) (xs : List Action) → Ascending xs → xs ≡ filter (λ x. leb x.time t) xs ++ filter (λ x. not (leb x.time t)) xs
split_at t [] h = refl
split_at t (x ∷ xs) h = let rest = split_at t xs h.1 in ⊎_elim (later rest) (early rest) (cases_lt t x.time)
  where
    soon : List Action
    soon = filter (λ y. leb y.time t) xs

    late : List Action
    late = filter (λ y. not (leb y.time t)) xs

    by_test : Bool → List Action
    by_test b = cond b (x ∷ soon) soon ++ cond (not b) (x ∷ late) late

    early : xs ≡ soon ++ late → x.time ≤ t → x ∷ xs ≡ by_test (leb x.time t)
    early rest le = ap (λ l. x ∷ l) rest ∙ ap by_test (sym (le-leb x.time t le))

    later : xs ≡ soon ++ late → t < x.time → x ∷ xs ≡ by_test (leb x.time t)
    later rest lt =
        let none : soon ≡ [] = kept_by_none (λ y. leb y.time t) xs (All-weaker (λ y. precedes x y ≡ true) (λ y. leb y.time t ≡ false) (λ y after. lt-leb y.time t (omega (arith, not_later x y after))) xs h.0) in
        ap (λ l. x ∷ l) (rest ∙ ap (λ l. l ++ late) none) ∙ ap (λ l. l ++ x ∷ late) (sym none) ∙ ap by_test (sym (lt-leb x.time t lt))
