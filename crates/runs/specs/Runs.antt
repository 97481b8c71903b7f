-- Runs of one group's tables: any events in any order, each as its call's contract says. Assumes nothing.
use Rattle.std.specs.Prelude.{◌≡◌, ℕ, ◌<◌, ◌≤◌, List, [], ◌∷◌, ◌++◌, map, Ok, ◌≢◌}
use Rattle.std.specs.List.{ContainsAt as Has}
use Rattle.action.specs.declared.setup.Setup.{Setup}
use Rattle.history.specs.Room.{Room, Small}
use Rattle.kind.specs.Meaning.{Meaning}
use Rattle.table.specs.View.{View, fresh}
use Rattle.runs.specs.Events.{Call, Does, Event, wrote}
use Rattle.runs.specs.Events.Call.{Takes}

-- this set-up is that of site s of the group
pub record OfGroup (number sites articles s : ℕ) (setup : Setup) : Type 0 where
  pub group_is : setup.group ≡ number
  pub sites_are : setup.sites ≡ sites
  pub articles_are : setup.articles ≡ articles
  pub own_is : setup.own ≡ s

-- the tables of one group: for each site its set-up, and what its history has room for
pub record Group : Type 0 where
  pub number : ℕ
  pub sites : ℕ
  pub articles : ℕ
  pub setup : ℕ → Setup
  pub room : ℕ → Room
  pub agrees : (s : ℕ) → s < sites → OfGroup number sites articles s (setup s)
  pub few_places : (s : ℕ) → s < sites → Small (room s)

-- what is taken was written in an earlier event, byte for byte; it may be taken late, often, anywhere or
-- never
abbrev pub Honest : List Event → Call → Type 0
Honest before (Takes bytes (Ok n)) = Has (map (λ event. wrote event.call) before) bytes
Honest before _ = Unit {0}

-- one event leads from these tables, by site, to those: the table of its site changes as its call says, and
-- no other
pub record Turn (kind : Meaning) (group : Group) (before : List Event) (event : Event) (old views : ℕ → View) : Type 0 where
  pub of_group : event.site < group.sites
  pub does : Does kind (old event.site) event.call (views event.site)
  pub others : (s : ℕ) → s < group.sites → (s ≢ event.site) → views s ≡ old s
  pub honest : Honest before event.call

-- the events, the latest first, lead from new tables to these
abbrev pub Ran : Meaning → Group → List Event → (ℕ → View) → Type 0
Ran kind group [] views = (s : ℕ) → s < group.sites → views s ≡ fresh kind (group.setup s) (group.room s)
Ran kind group (event ∷ before) views =
    (old : ℕ → View) × Ran kind group before old × Turn kind group before event old views

-- after earlier events, later ones, the latest first, lead from these tables to those; what they take may have
-- been written by the earlier ones
abbrev pub GoesOn : Meaning → Group → List Event → (ℕ → View) → List Event → (ℕ → View) → Type 0
GoesOn kind group before from [] views = (s : ℕ) → s < group.sites → views s ≡ from s
GoesOn kind group before from (event ∷ later) views =
    (old : ℕ → View) × GoesOn kind group before from later old × Turn kind group (later ++ before) event old views
