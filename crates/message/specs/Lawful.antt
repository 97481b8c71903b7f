-- Which messages are lawful for a kind and a set-up: those that such a table can read. Assumes nothing.
use Rattle.std.specs.Prelude.{◌≡◌, ℕ, ◌<◌, ◌≤◌, true, List, map, length, sum_by, FitsSigned}
use Rattle.std.specs.Int.{w32}
use Rattle.std.specs.List.{ContainsAt as Has, AllByRecursion}
use Rattle.action.specs.declared.action.Action.{Action}
use Rattle.action.specs.declared.setup.Setup.{Setup}
use Rattle.action.specs.Order.{Ascending, Pairwise}
use Rattle.kind.specs.Meaning.{Meaning}
use Rattle.kind.specs.Working.{knows_action}
use Rattle.message.specs.declared.record.Interval.{Interval}
use Rattle.message.specs.Format.{Message, Section}

-- strictly ascending numbers
abbrev pub Rising : List ℕ → Type 0
Rising xs = Pairwise (λ x y. x < y) xs

pub record LawfulInterval (setup : Setup) (i : Interval) : Type 0 where
  pub of_group : i.site < setup.sites
  pub forward : i.from ≤ i.to
  pub in_time : i.to ≤ 4000000000

-- the interval is of the action's coordinator, begins before the action, and ends with it or later
abbrev pub Carries : Interval → Action → Type 0
Carries i x = (i.site ≡ x.coordinator) × (i.from < x.time) × (x.time ≤ i.to)

pub record LawfulAction (kind : Meaning) (s : Section) (x : Action) : Type 0 where
  pub on_article : x.article ≡ s.article
  pub carried : (i : Interval) × Has s.intervals i × Carries i x
  pub begun : 1 ≤ x.transaction
  pub in_turn : x.transaction ≤ x.time
  pub known : knows_action kind.knows x ≡ true
  -- the operation fits one byte, and the amount fits four
  pub one_byte : x.operation < 256
  pub four_bytes : FitsSigned w32 x.amount

pub record LawfulSection (kind : Meaning) (setup : Setup) (s : Section) : Type 0 where
  pub listed : s.article < setup.articles
  pub some : 1 ≤ length s.intervals
  pub few : length s.intervals ≤ setup.sites
  pub intervals : AllByRecursion (LawfulInterval setup) s.intervals
  pub rising : Rising (map (λ i. i.site) s.intervals)
  pub actions : AllByRecursion (LawfulAction kind s) s.actions
  pub ordered : Ascending s.actions
  -- their number takes two bytes
  pub counted : length s.actions < 65536

pub record LawfulMessage (kind : Meaning) (setup : Setup) (m : Message) : Type 0 where
  pub of_group : m.group ≡ setup.group
  pub of_kind : m.kind ≡ kind.number
  pub sent : m.sender < setup.sites
  pub some : 1 ≤ length m.sections
  pub few : length m.sections ≤ 16
  pub sections : AllByRecursion (LawfulSection kind setup) m.sections
  pub rising : Rising (map (λ s. s.article) m.sections)

-- how many actions a message carries
abbrev pub action_count : Message → ℕ
action_count m = sum_by (λ s. length s.actions) m.sections
