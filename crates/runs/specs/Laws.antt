-- The laws of whole runs. Assumes nothing.
use Rattle.std.specs.Prelude.{◌≡◌, ℕ, ◌<◌, ◌≤◌, true, false, ◌⊎◌, ◌↔◌, List, [], ◌++◌, Ok, Result}
use Rattle.std.specs.List.{ContainsAt as Has, AllByRecursion}
use Rattle.action.specs.declared.action.Action.{Action}
use Rattle.action.specs.Order.{Distinct}
use Rattle.kind.specs.Meaning.{Meaning}
use Rattle.message.specs.declared.record.Interval.{Interval}
use Rattle.message.specs.Format.{Message, carried, format, told_intervals}
use Rattle.message.specs.Lawful.{Carries, LawfulMessage}
use Rattle.table.specs.declared.table_fault.TableFault.{TableFault}
use Rattle.table.specs.Answers.{figure, open_item}
use Rattle.table.specs.Taking.{Took, highest}
use Rattle.table.specs.View.{View, entry}
use Rattle.runs.specs.Books.{Book, book, counted, counted_by_all, reaches, taken_times}
use Rattle.runs.specs.Events.{Event, wrote}
use Rattle.runs.specs.Events.Call.{Takes}
use Rattle.runs.specs.Runs.{GoesOn, Group, Ran}

-- the action is on an article of the group, and its coordinator is a site of the group, which has it
pub record HadByItsCoordinator (group : Group) (b : Book) (x : Action) : Type 0 where
  pub coordinated : x.coordinator < group.sites
  pub listed : x.article < group.articles
  pub had : reaches b x.coordinator x ≡ true

-- no two committed actions have the same coordinator and time; each is had by its own coordinator, so that
-- none is lost; each site's vector is as the book has it; and each figure is that of the committed actions
-- that the site has, each counted once
pub record CountsEachOnce (kind : Meaning) (group : Group) (events : List Event) (views : ℕ → View) : Type 0 where
  pub distinct : Distinct (book group events).committed
  pub had : AllByRecursion (HadByItsCoordinator group (book group events)) (book group events).committed
  pub vector :
      (s a q : ℕ) → s < group.sites → a < group.articles → q < group.sites →
      entry (views s) a s q ≡ (book group events).reach s a q
  pub figured :
      (s a : ℕ) → s < group.sites → a < group.articles →
      figure (views s) a ≡ counted kind (book group events) s a

-- where an article is an open item nowhere, all sites have the same figure and the same vector of it, and
-- the figure is that of all committed actions on it, none left out
pub record LevelWhereNothingOpen (kind : Meaning) (group : Group) (events : List Event) (views : ℕ → View) (a : ℕ) : Type 0 where
  pub whole : (s : ℕ) → s < group.sites → figure (views s) a ≡ counted_by_all kind (book group events) a
  pub same_figure : (s t : ℕ) → s < group.sites → t < group.sites → figure (views s) a ≡ figure (views t) a
  pub same_vector :
      (s t q : ℕ) → s < group.sites → t < group.sites → q < group.sites →
      entry (views s) a s q ≡ entry (views t) a t q

abbrev pub NothingOpen : Group → (ℕ → View) → ℕ → Type 0
NothingOpen group views a = (s p : ℕ) → s < group.sites → p < group.sites → open_item (views s) a p ≡ false

-- a message that the site has taken before changes nothing there, and answers 0 where it is granted
abbrev pub RepeatsChangeNothing : Meaning → Group → List Event → (ℕ → View) → Type 0
RepeatsChangeNothing kind group events views =
    (s : ℕ) (bytes : List ℕ) (before : ℕ) → Has events (record { site = s; call = Takes bytes (Ok before) }) →
    (r : Result ℕ TableFault) (w : View) → Took kind (views s) bytes r w →
    (w ≡ views s) × ((n : ℕ) → r ≡ Ok n → n ≡ 0)

-- WHAT TABLES BELIEVE

-- no table believes that a site has more than the site's own table shows
abbrev pub BelievesNoMore : Group → (ℕ → View) → Type 0
BelievesNoMore group views =
    (s a z q : ℕ) → s < group.sites → a < group.articles → z < group.sites → q < group.sites →
    entry (views s) a z q ≤ entry (views z) a z q

-- no site has more of a site's actions than that site itself
abbrev pub NoSiteAhead : Group → (ℕ → View) → Type 0
NoSiteAhead group views =
    (s a q : ℕ) → s < group.sites → a < group.articles → q < group.sites →
    entry (views s) a s q ≤ entry (views q) a q q

-- MESSAGES

-- the bytes are this message, which every table of the group can read
pub record IsMessageOf (kind : Meaning) (group : Group) (bytes : List ℕ) (m : Message) : Type 0 where
  pub is : bytes ≡ format m
  pub lawful : (s : ℕ) → s < group.sites → LawfulMessage kind (group.setup s) m

-- by this table site z has all that the message's intervals say
abbrev pub Credits : View → ℕ → Message → Type 0
Credits v z m = AllByRecursion (λ h. h.1.to ≤ entry v h.0 z h.1.site) (told_intervals m)

-- the message carries every committed action that lies in the interval, which comes with its article
abbrev pub CarriesAll : Book → Message → ℕ × Interval → Type 0
CarriesAll b m h = (x : Action) → Has b.committed x → x.article ≡ h.0 → Carries h.1 x → Has (carried m) x

-- what the message says is so: each action that it carries is committed, it carries all that is committed in
-- its intervals, and its sender has what they say
pub record IsTruthful (b : Book) (views : ℕ → View) (m : Message) : Type 0 where
  pub committed : AllByRecursion (Has b.committed) (carried m)
  pub whole : AllByRecursion (CarriesAll b m) (told_intervals m)
  pub sender_has : Credits (views m.sender) m.sender m

-- the bytes are nothing, or a message of the group, with site s as its sender, that tells the truth
abbrev pub TrueOrNothing : Meaning → Group → Book → (ℕ → View) → ℕ → List ℕ → Type 0
TrueOrNothing kind group b views s bytes =
    (bytes ≡ []) ⊎ ((m : Message) × IsMessageOf kind group bytes m × (m.sender ≡ s) × IsTruthful b views m)

-- whatever an event of the run wrote at its site is true at the end of the run
abbrev pub TellsTheTruth : Meaning → Group → List Event → (ℕ → View) → Type 0
TellsTheTruth kind group events views =
    (event : Event) → Has events event →
    TrueOrNothing kind group (book group events) views event.site (wrote event.call)

-- of what a site took, its table knows that the site and the sender have all that the message's intervals say
abbrev pub LearnsFromMessages : Meaning → Group → List Event → (ℕ → View) → Type 0
LearnsFromMessages kind group events views =
    (s n : ℕ) (bytes : List ℕ) → Has events (record { site = s; call = Takes bytes (Ok n) }) →
    (m : Message) × IsMessageOf kind group bytes m × Credits (views s) s m × Credits (views s) m.sender m

-- what a site took is a message of the group, and the book enters of it what the message's intervals say
abbrev pub EntersMessages : Meaning → Group → List Event → Type 0
EntersMessages kind group events =
    (s n : ℕ) (bytes : List ℕ) → Has events (record { site = s; call = Takes bytes (Ok n) }) →
    (m : Message) × IsMessageOf kind group bytes m × ((a q : ℕ) → taken_times bytes a q ≡ highest a q (told_intervals m))

-- EVERY RUN

abbrev pub EveryRun : Meaning → (Group → List Event → (ℕ → View) → Type 0) → Type 0
EveryRun kind law =
    (group : Group) (events : List Event) (views : ℕ → View) → Ran kind group events views →
    law group events views

abbrev pub Counted : Meaning → Type 0
Counted kind = EveryRun kind (CountsEachOnce kind)

abbrev pub Level : Meaning → Type 0
Level kind =
    EveryRun kind (λ group events views.
    (a : ℕ) → a < group.articles → NothingOpen group views a → LevelWhereNothingOpen kind group events views a)

abbrev pub Repeated : Meaning → Type 0
Repeated kind = EveryRun kind (RepeatsChangeNothing kind)

abbrev pub Believed : Meaning → Type 0
Believed kind = EveryRun kind (λ group events views. BelievesNoMore group views)

abbrev pub NoneAhead : Meaning → Type 0
NoneAhead kind = EveryRun kind (λ group events views. NoSiteAhead group views)

abbrev pub Truthful : Meaning → Type 0
Truthful kind = EveryRun kind (TellsTheTruth kind)

abbrev pub Learned : Meaning → Type 0
Learned kind = EveryRun kind (LearnsFromMessages kind)

abbrev pub Entered : Meaning → Type 0
Entered kind = EveryRun kind (λ group events views. EntersMessages kind group events)

-- RUNS THAT GO ON

-- a run that goes on is a run, so that every law holds at its end too; and a run goes on from each of its
-- beginnings
abbrev pub GoneOn : Meaning → Type 0
GoneOn kind =
    (group : Group) (before later : List Event) (views : ℕ → View) →
    ((from : ℕ → View) × Ran kind group before from × GoesOn kind group before from later views)
    ↔ Ran kind group (later ++ before) views
