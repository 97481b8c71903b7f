-- Actions of which one precedes the other: all but those of the same time, coordinator and article. Assumes nothing.
use Rattle.std.proofs.Common.{◌≡◌, true, false, ◌⊎◌, List, sym, ◌∙◌, inl, inr, ⊎_elim, arith}
use Rattle.std.proofs.lemmas.Bool.{cases_Bool, cases_eq, true≢false}
use Rattle.std.proofs.lemmas.Bool.Decides.{nat_tests}
use Rattle.action.specs.declared.action.Action.{Action}
use Rattle.action.specs.Order.{Apart, Ascending, Distinct, Pairwise, precedes}
use Rattle.action.proofs.Pairs.{pairwise_weaker}

abbrev pub Ranked : Action → Action → Type 0
Ranked x y = (precedes x y ≡ true) ⊎ (precedes y x ≡ true)

-- each and all that follow it
abbrev pub AllRanked : List Action → Type 0
AllRanked xs = Pairwise Ranked xs

-- TWO

pub ranked_sym : (x y : Action) → Ranked x y → Ranked y x
ranked_sym x y = ⊎_elim (λ h. inr h) (λ h. inl h)

pub ranked_else : (x y : Action) → Ranked x y → precedes y x ≡ false → precedes x y ≡ true
ranked_else x y ranked no_earlier = ⊎_elim (λ h. h) (λ h. absurd (true≢false (sym h ∙ no_earlier))) ranked

pub ranked_unless : (x y : Action) → ((x.coordinator ≡ y.coordinator) → (x.time ≡ y.time) → (x.article ≡ y.article) → ⊥) → Ranked x y
ranked_unless x y other =
    ⊎_elim (λ h. inr h) (λ h. inl (⊎_elim (λ c. ⊎_elim (λ t. let on : (x.article ≡ y.article) → ⊥ = other c t in grind (arith, nat_tests)) (λ t. grind (arith, nat_tests)) (cases_eq x.time y.time)) (λ c. grind (arith, nat_tests)) (cases_eq x.coordinator y.coordinator))) (cases_Bool (precedes y x))

pub apart_ranked : (x y : Action) → Apart x y → Ranked x y
apart_ranked x y apart = ranked_unless x y (λ c t _. apart c t)

-- MANY

pub distinct_ranked : (xs : List Action) → Distinct xs → AllRanked xs
distinct_ranked = pairwise_weaker Apart Ranked apart_ranked

pub ascending_ranked : (xs : List Action) → Ascending xs → AllRanked xs
ascending_ranked = pairwise_weaker (λ x y. precedes x y ≡ true) Ranked (λ x y h. inl h)
