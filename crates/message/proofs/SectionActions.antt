-- A section's actions: the test of each after those before it, and what all of them keep. Assumes nothing.
use Rattle.std.proofs.Common.{◌≡◌, Ok, Err, ℕ, ◌≤◌, true, ◌&&◌, eqb, leb, List, [], ◌∷◌, map, get_or, fold, refl}
use Rattle.std.specs.List.{flat_map, AllByRecursion}
use Rattle.std.proofs.lemmas.Bool.{and_from, and_parts, cond-true, eq-eqb, eqb-true, le-leb, leb-true}
use Rattle.action.specs.declared.action.Action.{Action}
use Rattle.action.specs.declared.setup.Setup.{Setup}
use Rattle.action.specs.Order.{Ascending, Leads, precedes}
use Rattle.action.proofs.Precedence.{precedes_trans}
use Rattle.kind.specs.Meaning.{Meaning}
use Rattle.kind.specs.Working.{knows_action}
use Rattle.message.specs.declared.due.Due.{Due}
use Rattle.message.specs.declared.progress.Progress.{Progress}
use Rattle.message.specs.declared.progress.TimeSpan.{TimeSpan}
use Rattle.message.specs.declared.reader_fault.UnplacedFault.TheVariants.{Broken}
use Rattle.message.specs.declared.record.Record.TheVariants as RecordKinds
use Rattle.message.specs.Progress.{after_action, carries, lawful_action, no_span}
use Rattle.message.proofs.Onward.{action_on}
use Rattle.message.proofs.Parts.{Part, Run, RunOf, actions_due, many, one, run_passes, run_told, sections_due}

-- THE PART

abbrev pub ActionPasses : Meaning → Progress → Action → Type 0
ActionPasses kind p x = lawful_action kind p x ≡ true

module _ (kind : Meaning) (setup : Setup) where
  action_part : Part kind setup (λ x. RecordKinds.Action x ∷ []) (ActionPasses kind) after_action (λ _. Due.Action) actions_due
  action_part =
      one kind setup RecordKinds.Action (ActionPasses kind) after_action Due.Action actions_due (λ end. cc) (λ x. refl) (action_on kind setup) (λ p x test. cond-true (lawful_action kind p x) (Ok (after_action p x)) (Err Broken) test) (λ p x test. refl)

  pub actions_part : Part kind setup (flat_map (λ x. RecordKinds.Action x ∷ [])) (RunOf (ActionPasses kind) after_action (λ p. p.actions)) (fold after_action) actions_due sections_due
  actions_part = many kind setup (λ p. p.actions) Due.Action sections_due action_part (λ p x. refl)

-- THE TESTS

-- what the test of an action asks, apart from the order
pub record Fair (kind : Meaning) (article : ℕ) (spans : List TimeSpan) (x : Action) : Type 0 where
  pub on_article : x.article ≡ article
  pub in_span : carries (get_or spans x.coordinator no_span) x.time ≡ true
  pub begun : 1 ≤ x.transaction
  pub in_turn : x.transaction ≤ x.time
  pub known : knows_action kind.knows x ≡ true

module _ (kind : Meaning) where
  pub action_told : (p : Progress) (x : Action) → ActionPasses kind p x → Fair kind p.article p.spans x × (precedes p.last x ≡ true)
  action_told p x h =
      let a = and_parts (eqb x.article p.article && carries (get_or p.spans x.coordinator no_span) x.time) _ h in
      let b = and_parts (eqb x.article p.article) _ a.0 in
      let c = and_parts (precedes p.last x) _ a.1 in
      let d = and_parts (leb 1 x.transaction && leb x.transaction x.time) _ c.1 in
      let e = and_parts (leb 1 x.transaction) _ d.0 in
      (record { on_article = eqb-true _ _ b.0; in_span = b.1; begun = leb-true _ _ e.0; in_turn = leb-true _ _ e.1; known = d.1 }, c.0)

  pub action_passes : (p : Progress) (x : Action) → Fair kind p.article p.spans x → precedes p.last x ≡ true → ActionPasses kind p x
  action_passes p x f h = and_from _ _ (and_from _ _ (eq-eqb _ _ f.on_article) f.in_span) (and_from _ _ h (and_from _ _ (and_from _ _ (le-leb _ _ f.begun) (le-leb _ _ f.in_turn)) f.known))

  -- the tests along the way say that all are fair, in order and after the last action before them
  pub actions_told : (p : Progress) (xs : List Action) → Run (ActionPasses kind) after_action p xs → AllByRecursion (Fair kind p.article p.spans) xs × Leads p.last xs × Ascending (map (λ x. x) xs)
  actions_told =
      run_told (ActionPasses kind) after_action (λ x. x) (λ x y. precedes x y ≡ true) (λ p. Fair kind p.article p.spans) (λ p x. precedes p.last x ≡ true) action_told (λ _ _ _ f. f) (λ _ _ _ h. h) (λ p. precedes_trans p.last)

  pub actions_pass : (p : Progress) (xs : List Action) → AllByRecursion (Fair kind p.article p.spans) xs → Leads p.last xs → Ascending (map (λ x. x) xs) → Run (ActionPasses kind) after_action p xs
  actions_pass =
      run_passes (ActionPasses kind) after_action (λ x. x) (λ x y. precedes x y ≡ true) (λ p. Fair kind p.article p.spans) (λ p x. precedes p.last x ≡ true) action_passes (λ _ _ _ f. f) (λ _ _ _ h. h)
