-- What holds after every event of a run. Assumes nothing.
use Rattle.std.proofs.Common.{◌≡◌, ℕ, ◌<◌, ◌≤◌, List, ◌++◌, Ok}
use Rattle.std.specs.List.{ContainsAt as Has, AllByRecursion}
use Rattle.action.specs.declared.action.Action.{Action}
use Rattle.action.specs.Order.{Ascending, Distinct}
use Rattle.kind.specs.Meaning.{Meaning}
use Rattle.kind.specs.Working.{on, working}
use Rattle.message.specs.Format.{Message}
use Rattle.table.specs.Sound.{Sound}
use Rattle.table.specs.View.{View, entry, row}
use Rattle.runs.specs.Books.{Book, book, greatest}
use Rattle.runs.specs.Events.{Call, Event, wrote}
use Rattle.runs.specs.Events.Call.{Takes}
use Rattle.runs.specs.Laws.{Credits, IsMessageOf, TrueOrNothing}
use Rattle.runs.specs.Runs.{Group}

-- THE BOOK

-- a committed action on the article that the site has
abbrev pub Reached : Book → ℕ → ℕ → Action → Type 0
Reached b s a x = Has b.committed x × (x.article ≡ a) × (x.time ≤ b.reach s a x.coordinator)

-- what holds of each committed action: its coordinator has it
pub record Recorded (group : Group) (b : Book) (x : Action) : Type 0 where
  pub coordinated : x.coordinator < group.sites
  pub listed : x.article < group.articles
  pub had : x.time ≤ b.reach x.coordinator x.article x.coordinator

-- the committed actions are apart, and no site has more of another's actions than the other
pub record Account (group : Group) (b : Book) : Type 0 where
  pub distinct : Distinct b.committed
  pub each : AllByRecursion (Recorded group b) b.committed
  pub no_more : (s a q : ℕ) → s < group.sites → a < group.articles → q < group.sites → b.reach s a q ≤ b.reach q a q

-- ONE SITE

-- by this table every site has the action on the article, and all before it
abbrev pub Everywhere : Group → View → ℕ → Action → Type 0
Everywhere group v a x = (z q : ℕ) → z < group.sites → q < group.sites → x.time ≤ entry v a z q

-- of an article a site has what it has archived, and after that, in order, what its history holds
pub record Gathered (kind : Meaning) (group : Group) (b : Book) (s : ℕ) (v : View) (a : ℕ) : Type 0 where
  pub archived : List Action
  pub based : (row v a).base ≡ working kind.steps kind.starts archived
  pub ordered : Ascending (archived ++ on a v.history)
  pub sure : (x : Action) → Has (archived ++ on a v.history) x → Reached b s a x
  pub whole : (x : Action) → Reached b s a x → Has (archived ++ on a v.history) x
  -- what was archived is known to be everywhere
  pub everywhere : AllByRecursion (Everywhere group v a) archived

-- the site's table is sound, and says what the book says; it believes nothing that is not so
pub record Site (kind : Meaning) (group : Group) (b : Book) (s : ℕ) (v : View) : Type 0 where
  pub sound : Sound kind v
  pub setup_is : v.setup ≡ group.setup s
  pub room_is : v.room ≡ group.room s
  pub vector : (a q : ℕ) → a < group.articles → q < group.sites → entry v a s q ≡ b.reach s a q
  pub clock_is : v.clock ≡ greatest group b s
  pub pending_is : b.pending s ≡ v.pending
  pub believed : (a z q : ℕ) → a < group.articles → z < group.sites → q < group.sites → entry v a z q ≤ b.reach z a q
  pub gathered : (a : ℕ) → a < group.articles → Gathered kind group b s v a

-- MESSAGES

-- what a site has taken, it knows to be its own and the sender's
abbrev pub Absorbed : Meaning → Group → ℕ → View → Call → Type 0
Absorbed kind group s v (Takes bytes (Ok n)) = (m : Message) × IsMessageOf kind group bytes m × Credits v s m × Credits v m.sender m
Absorbed kind group s v _ = Unit {0}

-- ALL SITES

pub record Standing (kind : Meaning) (group : Group) (events : List Event) (views : ℕ → View) : Type 0 where
  pub sites : (s : ℕ) → s < group.sites → Site kind group (book group events) s (views s)
  pub account : Account group (book group events)
  pub told : AllByRecursion (λ event. TrueOrNothing kind group (book group events) views event.site (wrote event.call)) events
  pub absorbed : AllByRecursion (λ event. (event.site < group.sites) × Absorbed kind group event.site (views event.site) event.call) events
