-- Runs that go on are runs. Assumes nothing.
use Rattle.std.proofs.Common.{◌≡◌, ℕ, ◌<◌, List, [], ◌∷◌, ◌++◌, sym, refl, ◌∙◌, subst}
use Rattle.kind.specs.Meaning.{Meaning}
use Rattle.table.specs.View.{View}
use Rattle.runs.specs.Events.{Does, Event}
use Rattle.runs.specs.Laws.{EveryRun, GoneOn}
use Rattle.runs.specs.Runs.{GoesOn, Group, Ran}

module _ (kind : Meaning) (group : Group) where
  -- a run says nothing of sites outside the group
  same_sites : (events : List Event) (from views : ℕ → View) → ((s : ℕ) → s < group.sites → views s ≡ from s) → Ran kind group events from → Ran kind group events views
  same_sites [] from views same ran = λ s sl. same s sl ∙ ran s sl
  same_sites (event ∷ before) from views same (old, ran, turn) = (
    old,
    ran,
    record {
      of_group = turn.of_group;
      does = subst (Does kind (old event.site) event.call) (sym (same event.site turn.of_group)) turn.does;
      others = λ s sl other. same s sl ∙ turn.others s sl other;
      honest = turn.honest;
    },
  )

  goes_on : (before later : List Event) (from views : ℕ → View) → Ran kind group before from → GoesOn kind group before from later views → Ran kind group (later ++ before) views
  goes_on before [] from views ran same = same_sites before from views same ran
  goes_on before (event ∷ later) from views ran (old, on, turn) = (old, goes_on before later from old ran on, turn)

  from_each : (before later : List Event) (views : ℕ → View) → Ran kind group (later ++ before) views → (from : ℕ → View) × Ran kind group before from × GoesOn kind group before from later views
  from_each before [] views ran = (views, ran, λ s sl. refl)
  from_each before (event ∷ later) views (old, ran, turn) = let h = from_each before later old ran in (h.0, h.1, (old, h.2, turn))

  -- what holds at the end of every run holds where a run goes on to
  pub holds_later : (law : Group → List Event → (ℕ → View) → Type 0) → EveryRun kind law → (before later : List Event) (from views : ℕ → View) → Ran kind group before from → GoesOn kind group before from later views → law group (later ++ before) views
  holds_later law every before later from views ran on = every group (later ++ before) views (goes_on before later from views ran on)

-- to be a run is such a law
pub gone_on : (kind : Meaning) → GoneOn kind
gone_on kind group before later views = (λ h. holds_later kind group (Ran kind) (λ g events vs ran. ran) before later h.0 views h.1 h.2, from_each kind group before later views)
