-- Which record a message may go on with, by the records before it. Assumes nothing.
use Rattle.std.specs.Prelude.{◌≡◌, ℕ, ◌<◌, ◌≤◌, Bool, true, false, cond, List, [], ◌∷◌, ◌++◌, length, Some, None, fold, Option, nat_lt}
use Rattle.std.specs.List.{ContainsAt as Has, AllByRecursion, filter_map}
use Rattle.action.specs.declared.action.Action.{Action}
use Rattle.action.specs.declared.setup.Setup.{Setup}
use Rattle.action.specs.Order.{precedes}
use Rattle.kind.specs.Meaning.{Meaning}
use Rattle.kind.specs.Working.{knows_action}
use Rattle.message.specs.declared.due.Due.{Due}
use Rattle.message.specs.declared.record.Header.{Header}
use Rattle.message.specs.declared.record.Interval.{Interval}
use Rattle.message.specs.declared.record.SectionHead.{SectionHead}
use Rattle.message.specs.declared.record.Record.{Record}
use Rattle.message.specs.declared.record.Record.TheVariants as RecordKinds
use Rattle.message.specs.Lawful.{Carries, LawfulInterval}

-- THE RECORDS BEFORE

-- how many sections the header announces
abbrev pub announced : List Record → ℕ
announced (RecordKinds.Header h ∷ _) = h.sections
announced _ = 0

abbrev pub its_head : Record → Option SectionHead
its_head (RecordKinds.Section s) = Some s
its_head _ = None

-- the heads of the sections begun
abbrev pub heads : List Record → List SectionHead
heads before = filter_map its_head before

-- a head that announces nothing
abbrev pub no_head : SectionHead
no_head = record { article = 0; intervals = 0; actions = 0 }

-- the head of the present section, which is the one begun last; no_head where none has begun
abbrev pub present_head : List Record → SectionHead
present_head before = fold (λ _ s. s) no_head (heads before)

-- the intervals that the present section has so far: its head begins them anew
abbrev pub with_interval : List Interval → Record → List Interval
with_interval so_far (RecordKinds.Section _) = []
with_interval so_far (RecordKinds.Interval i) = so_far ++ (i ∷ [])
with_interval so_far _ = so_far

abbrev pub intervals_so_far : List Record → List Interval
intervals_so_far before = fold with_interval [] before

-- and the actions
abbrev pub with_action : List Action → Record → List Action
with_action so_far (RecordKinds.Section _) = []
with_action so_far (RecordKinds.Action x) = so_far ++ (x ∷ [])
with_action so_far _ = so_far

abbrev pub actions_so_far : List Record → List Action
actions_so_far before = fold with_action [] before

-- WHICH RECORD IS DUE

-- at first a header; then as many intervals and then actions as the present section's head announces; then
-- another section, if the header announces more; else the end
abbrev pub due_next : List Record → Due
due_next [] = Due.Header
due_next before =
    cond (nat_lt (length (intervals_so_far before)) (present_head before).intervals) Due.Interval
    (cond (nat_lt (length (actions_so_far before)) (present_head before).actions) Due.Action
    (cond (nat_lt (length (heads before)) (announced before)) Due.Section Due.End))

-- is the record of the kind due? Where the end is due, no record is
abbrev pub is_due : Due → Record → Bool
is_due Due.Header (RecordKinds.Header _) = true
is_due Due.Section (RecordKinds.Section _) = true
is_due Due.Interval (RecordKinds.Interval _) = true
is_due Due.Action (RecordKinds.Action _) = true
is_due _ _ = false

-- THE FIELD RULES

pub record LawfulHeader (setup : Setup) (h : Header) : Type 0 where
  pub some : 1 ≤ h.sections
  pub few : h.sections ≤ 16
  pub sent : h.sender < setup.sites

-- its article is one of the group's and above those of all sections before, and it has 1 to n intervals
pub record NextHead (setup : Setup) (before : List Record) (s : SectionHead) : Type 0 where
  pub listed : s.article < setup.articles
  pub rising : AllByRecursion (λ t. t.article < s.article) (heads before)
  pub some : 1 ≤ s.intervals
  pub few : s.intervals ≤ setup.sites

-- it is lawful by itself, and its site is above those of the section's intervals before
pub record NextInterval (setup : Setup) (before : List Record) (i : Interval) : Type 0 where
  pub lawful : LawfulInterval setup i
  pub rising : AllByRecursion (λ j. j.site < i.site) (intervals_so_far before)

-- it is on its section's article, an interval of the section carries it, and the section's actions before precede it
pub record NextAction (kind : Meaning) (before : List Record) (x : Action) : Type 0 where
  pub on_article : x.article ≡ (present_head before).article
  pub carried : (i : Interval) × Has (intervals_so_far before) i × Carries i x
  pub ordered : AllByRecursion (λ y. precedes y x ≡ true) (actions_so_far before)
  pub begun : 1 ≤ x.transaction
  pub in_turn : x.transaction ≤ x.time
  pub known : knows_action kind.knows x ≡ true

-- the record keeps its field rules, after the records before it
abbrev pub Keeps : Meaning → Setup → List Record → Record → Type 0
Keeps kind setup before (RecordKinds.Header h) = LawfulHeader setup h
Keeps kind setup before (RecordKinds.Section s) = NextHead setup before s
Keeps kind setup before (RecordKinds.Interval i) = NextInterval setup before i
Keeps kind setup before (RecordKinds.Action x) = NextAction kind before x

-- RECORDS IN TURN

-- the header names the group and the kind that the bytes are read for
abbrev pub Names : Meaning → Setup → Header → Type 0
Names kind setup h = (h.group ≡ setup.group) × (h.kind ≡ kind.number)

-- the record is no header, or names the group and the kind
abbrev pub Ours : Meaning → Setup → Record → Type 0
Ours kind setup (RecordKinds.Header h) = Names kind setup h
Ours kind setup _ = Unit {0}

-- after the records before it, the record is due, is ours and keeps its rules
pub record Follows (kind : Meaning) (setup : Setup) (before : List Record) (r : Record) : Type 0 where
  pub was_due : is_due (due_next before) r ≡ true
  pub ours : Ours kind setup r
  pub keeps : Keeps kind setup before r

-- each record of the second list follows all of the first list and those before it in the second
abbrev pub InTurn : Meaning → Setup → List Record → List Record → Type 0
InTurn kind setup before [] = Unit {0}
InTurn kind setup before (r ∷ rs) = Follows kind setup before r × InTurn kind setup (before ++ (r ∷ [])) rs
