-- The order of actions. Assumes nothing.
use Rattle.std.specs.Prelude.{◌≡◌, ℕ, ◌-◌, Bool, true, not, ◌&&◌, ◌||◌, List, [], ◌∷◌, length, fold, ◌==◌, nat_lt}
use Rattle.std.specs.List.{insert, suffix_len, AllByRecursion}
use Rattle.action.specs.declared.action.Action.{Action}

-- a comes before b: by its time; where that is the same, by its coordinator; where that is too, by its article
abbrev pub precedes : Action → Action → Bool
precedes a b =
    nat_lt a.time b.time || (a.time == b.time && (nat_lt a.coordinator b.coordinator || (a.coordinator == b.coordinator && nat_lt a.article b.article)))

-- R holds of each and all that follow it
abbrev pub Pairwise : {X : Type 0} → (X → X → Type 0) → List X → Type 0
Pairwise R [] = Unit {0}
Pairwise R (x ∷ xs) = AllByRecursion (R x) xs × Pairwise R xs

-- x precedes each of the list
abbrev pub Leads : Action → List Action → Type 0
Leads x ys = AllByRecursion (λ y. precedes x y ≡ true) ys

-- strictly ascending: each precedes all that follow it
abbrev pub Ascending : List Action → Type 0
Ascending xs = Pairwise (λ x y. precedes x y ≡ true) xs

-- not of the same coordinator and time
abbrev pub Apart : Action → Action → Type 0
Apart x y = (x.coordinator ≡ y.coordinator) → (x.time ≡ y.time) → ⊥

-- each is apart from all that follow it
abbrev pub Distinct : List Action → Type 0
Distinct xs = Pairwise Apart xs

-- the place behind the last one that precedes the action
abbrev pub place_of : List Action → Action → ℕ
place_of xs x = length xs - suffix_len (λ y. not (precedes y x)) xs

-- the list with one more action, put in at its place
abbrev pub placed : List Action → Action → List Action
placed xs x = insert xs (place_of xs x) x

-- the actions put in one by one, each at its place
abbrev pub in_order : List Action → List Action
in_order xs = fold placed [] xs
