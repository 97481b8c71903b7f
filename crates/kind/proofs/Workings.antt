-- Laws of a working, over any step: of lists put together, of the figure's size, and of the order where the
-- known pairs commute. Assumes nothing.
use Rattle.std.proofs.Common.{◌≡◌, ℕ, Bool, true, false, cond, eqb, List, [], ◌∷◌, ◌++◌, ℤ, fold, sym, refl, ap, ◌∙◌, subst, w64, SFits}
use Rattle.std.specs.List.{AllByRecursion}
use Rattle.std.proofs.lemmas.List.Elements.{filter-append}
use Rattle.std.proofs.ByRecursion.{all_kept_by}
use Rattle.action.specs.declared.action.Action.{Action}
use Rattle.action.specs.Order.{placed}
use Rattle.action.proofs.Members.{all_append_parts}
use Rattle.action.proofs.Placing.{Placing, placed_all, placing}
use Rattle.kind.specs.Working.{on, working, knows_action}

pub on_append : (article : ℕ) (xs ys : List Action) → on article (xs ++ ys) ≡ on article xs ++ on article ys
on_append article xs ys = filter-append (λ x. eqb x.article article) xs ys

module _ (steps : ℤ → ℕ → ℤ → ℤ) where
  pub working_append : (f : ℤ) (xs ys : List Action) → working steps f (xs ++ ys) ≡ working steps (working steps f xs) ys
  working_append f [] ys = refl
  working_append f (x ∷ xs) ys = working_append (steps f x.operation x.amount) xs ys

  module _ (step_fits : (f : ℤ) (o : ℕ) (a : ℤ) → SFits w64 f → SFits w64 (steps f o a)) where
    pub working_fits : (f : ℤ) (xs : List Action) → SFits w64 f → SFits w64 (working steps f xs)
    working_fits f [] fits = fits
    working_fits f (x ∷ xs) fits = working_fits (steps f x.operation x.amount) xs (step_fits f x.operation x.amount fits)

    module _ (knows : ℕ → ℤ → Bool) (commute : (f : ℤ) (o : ℕ) (a : ℤ) (p : ℕ) (b : ℤ) → SFits w64 f → knows o a ≡ true → knows p b ≡ true → steps (steps f o a) p b ≡ steps (steps f p b) o a) where
      -- a known pair before or after known actions
      pub working_past : (f : ℤ) (o : ℕ) (a : ℤ) (xs : List Action) → SFits w64 f → knows o a ≡ true → AllByRecursion (λ x. knows_action knows x ≡ true) xs → working steps (steps f o a) xs ≡ steps (working steps f xs) o a
      working_past f o a [] fits known all = refl
      working_past f o a (x ∷ xs) fits known all =
          ap (λ g. working steps g xs) (commute f o a x.operation x.amount fits known all.0)
          ∙ working_past (steps f x.operation x.amount) o a xs (step_fits f x.operation x.amount fits) known all.1

      -- a known action that comes late, put in before known ones
      pub working_inserted : (f : ℤ) (x : Action) (xs ys : List Action) → SFits w64 f → knows_action knows x ≡ true → AllByRecursion (λ y. knows_action knows y ≡ true) ys → working steps f (xs ++ x ∷ ys) ≡ steps (working steps f (xs ++ ys)) x.operation x.amount
      working_inserted f x xs ys fits known all =
          working_append f xs (x ∷ ys)
          ∙ working_past (working steps f xs) x.operation x.amount ys (working_fits f xs fits) known all
          ∙ ap (λ g. steps g x.operation x.amount) (rw working_append refl)

      abbrev Known : Action → Type 0
      Known x = knows_action knows x ≡ true

      -- a known action put in at its place among known ones, or done after them
      pub working_placed_one : (f : ℤ) (a : ℕ) (xs : List Action) (x : Action) → SFits w64 f → AllByRecursion (λ y. knows_action knows y ≡ true) xs → knows_action knows x ≡ true → working steps f (on a (placed xs x)) ≡ working steps (working steps f (on a xs)) (on a (x ∷ []))
      working_placed_one f a xs x fits all known =
          ap (λ l. working steps f (on a l)) g.put
          ∙ ap (working steps f) (on_append a g.before (x ∷ g.after))
          ∙ by_test (eqb x.article a)
          ∙ ap (λ l. working steps (working steps f l) (on a (x ∷ []))) (sym (ap (on a) g.whole ∙ on_append a g.before g.after))
        where
          g : Placing xs x
          g = placing xs x

          after_known : AllByRecursion Known g.after
          after_known = (all_append_parts Known g.before g.after (subst (AllByRecursion Known) g.whole all)).1

          by_test : (b : Bool) → working steps f (on a g.before ++ cond b (x ∷ on a g.after) (on a g.after)) ≡ working steps (working steps f (on a g.before ++ on a g.after)) (cond b (x ∷ []) [])
          by_test true = working_inserted f x (on a g.before) (on a g.after) fits known (all_kept_by (λ y. eqb y.article a) Known g.after after_known)
          by_test false = refl

      -- the same of many
      pub working_placed : (f : ℤ) (a : ℕ) (xs new : List Action) → SFits w64 f → AllByRecursion (λ y. knows_action knows y ≡ true) xs → AllByRecursion (λ y. knows_action knows y ≡ true) new → working steps f (on a (fold placed xs new)) ≡ working steps (working steps f (on a xs)) (on a new)
      working_placed f a xs [] fits all more = refl
      working_placed f a xs (x ∷ new) fits all more =
          working_placed f a (placed xs x) new fits (placed_all Known xs x all more.0) more.1
          ∙ ap (λ g. working steps g (on a new)) (working_placed_one f a xs x fits all more.0)
          ∙ sym (ap (working steps (working steps f (on a xs))) (on_append a (x ∷ []) new) ∙ working_append (working steps f (on a xs)) (on a (x ∷ [])) (on a new))
