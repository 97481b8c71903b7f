-- What the reader keeps of the records that it has read, and how one more record moves it on. Assumes nothing.
use Rattle.std.specs.Prelude.{◌≡◌, ℕ, ◌+◌, ◌-◌, Bool, cond, ◌&&◌, List, replicate, Ok, Err, Result, pos, ◌==◌, nat_le, nat_lt, slice_index_or, slice_set}
use Rattle.action.specs.declared.action.Action.{Action}
use Rattle.action.specs.declared.setup.Setup.{Setup}
use Rattle.action.specs.Order.{precedes}
use Rattle.kind.specs.Meaning.{Meaning}
use Rattle.kind.specs.Working.{knows_action}
use Rattle.message.specs.declared.reader_fault.UnplacedFault.{UnplacedFault}
use Rattle.message.specs.declared.reader_fault.UnplacedFault.TheVariants.{Foreign, Broken}
use Rattle.message.specs.declared.due.Due.{Due}
use Rattle.message.specs.declared.progress.Progress.{Progress}
use Rattle.message.specs.declared.progress.TimeSpan.{TimeSpan}
use Rattle.message.specs.declared.record.Header.{Header}
use Rattle.message.specs.declared.record.Interval.{Interval}
use Rattle.message.specs.declared.record.SectionHead.{SectionHead}
use Rattle.message.specs.declared.record.Record.{Record}
use Rattle.message.specs.declared.record.Record.TheVariants as RecordKinds

abbrev pub no_span : TimeSpan
no_span = record { from = 0; to = 0 }

abbrev pub no_spans : List TimeSpan
no_spans = replicate 8 no_span

-- stands for the last action where a section has none so far
abbrev pub no_action : Action
no_action = record { coordinator = 0; time = 0; transaction = 0; article = 0; operation = 0; amount = pos 0 }

abbrev pub start : Progress
start = record { due = Due.Header; sections = 0; intervals = 0; actions = 0; article = 0; next_article = 0; next_site = 0; spans = no_spans; last = no_action }

-- what is due where so many intervals, actions and sections are to come
abbrev pub due_after : ℕ → ℕ → ℕ → Due
due_after intervals actions sections = cond (nat_lt 0 intervals) Due.Interval (cond (nat_lt 0 actions) Due.Action (cond (nat_lt 0 sections) Due.Section Due.End))

-- HEADER

-- does the header name the group and the kind?
abbrev pub named : Meaning → Setup → Header → Bool
named kind setup h = h.group == setup.group && h.kind == kind.number

abbrev pub lawful_header : Setup → Header → Bool
lawful_header setup h = (nat_le 1 h.sections && nat_le h.sections 16) && nat_lt h.sender setup.sites

abbrev pub after_header : Progress → Header → Progress
after_header p h = record p { due = Due.Section; sections = h.sections }

-- SECTION

abbrev pub lawful_section : Setup → Progress → SectionHead → Bool
lawful_section setup p s =
    (nat_le p.next_article s.article && nat_lt s.article setup.articles) && (nat_le 1 s.intervals && nat_le s.intervals setup.sites)

abbrev pub after_section : Progress → SectionHead → Progress
after_section p s = record {
  due = due_after s.intervals s.actions (p.sections - 1);
  sections = p.sections - 1;
  intervals = s.intervals;
  actions = s.actions;
  article = s.article;
  next_article = s.article + 1;
  next_site = 0;
  spans = no_spans;
  last = no_action;
}

-- INTERVAL

abbrev pub lawful_interval : Setup → Progress → Interval → Bool
lawful_interval setup p i =
    (nat_le p.next_site i.site && nat_lt i.site setup.sites) && (nat_le i.from i.to && nat_le i.to 4000000000)

abbrev pub after_interval : Progress → Interval → Progress
after_interval p i = record p {
  due = due_after (p.intervals - 1) p.actions p.sections;
  intervals = p.intervals - 1;
  next_site = i.site + 1;
  spans = slice_set p.spans i.site (record { from = i.from; to = i.to });
}

-- ACTION

abbrev pub carries : TimeSpan → ℕ → Bool
carries s time = nat_lt s.from time && nat_le time s.to

abbrev pub lawful_action : Meaning → Progress → Action → Bool
lawful_action kind p x =
    (x.article == p.article && carries (slice_index_or p.spans x.coordinator no_span) x.time) && (precedes p.last x && ((nat_le 1 x.transaction && nat_le x.transaction x.time) && knows_action kind.knows x))

abbrev pub after_action : Progress → Action → Progress
after_action p x = record p { due = due_after 0 (p.actions - 1) p.sections; actions = p.actions - 1; last = x }

-- ANY RECORD

-- a record after those before it: it leads on, or names another group or kind, or breaks a rule
abbrev pub admitted : Meaning → Setup → Progress → Record → Result Progress UnplacedFault
admitted kind setup p (RecordKinds.Header h) = cond (named kind setup h) (cond (lawful_header setup h) (Ok (after_header p h)) (Err Broken)) (Err Foreign)
admitted kind setup p (RecordKinds.Section s) = cond (lawful_section setup p s) (Ok (after_section p s)) (Err Broken)
admitted kind setup p (RecordKinds.Interval i) = cond (lawful_interval setup p i) (Ok (after_interval p i)) (Err Broken)
admitted kind setup p (RecordKinds.Action x) = cond (lawful_action kind p x) (Ok (after_action p x)) (Err Broken)

-- going on by a record: to the progress after it, or nowhere, with the fault
abbrev pub Admits : Meaning → Setup → Progress → Record → Result (Unit {0}) UnplacedFault → Progress → Type 0
Admits kind setup p r (Ok _) q = admitted kind setup p r ≡ Ok q
Admits kind setup p r (Err f) q = (admitted kind setup p r ≡ Err f) × (q ≡ p)
