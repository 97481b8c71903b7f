-- A script as part of a run of the three tables: which calls its lines make, and that its figures are those
-- that the run counts. Assumes nothing.
use Rattle.std.specs.Prelude.{◌≡◌, ℕ, ◌+◌, ◌<◌, false, cond, ◌⊎◌, List, [], ◌∷◌, ◌++◌, map, length, ℤ, Some, None, Ok, Err, IfErr, OnErr, Option, Result, nat_lt, slice_index_or}
use Rattle.std.specs.List.{ContainsAt as Has, AllByRecursion}
use Rattle.std.specs.declared.alloc.AllocError.{AllocError}
use Rattle.action.specs.Lawful.{by_history, by_table}
use Rattle.kind.specs.Meaning.{Meaning}
use Rattle.table.specs.declared.table_fault.TableFault.{TableFault}
use Rattle.table.specs.declared.ticket.Ticket.{Ticket}
use Rattle.table.specs.Faults.{shown}
use Rattle.runs.specs.Books.{book, counted}
use Rattle.runs.specs.Events.{Event, at, wrote}
use Rattle.runs.specs.Events.Call.{Opens, Writes, Commits, Abandons, Offers, Takes}
use Rattle.runs.specs.Runs.{Group, Ran}
use Rattle.script.specs.declared.answer.Answer.TheVariants as Answers
use Rattle.script.specs.declared.command.Command.{Command}
use Rattle.script.specs.declared.command.Command.TheVariants.{Move, Offer, Take, Figure, OpenItem}
use Rattle.script.specs.Acts.{Reply, open_item_reply, take_reply}
use Rattle.script.specs.Desk.{DeskView, Performs, desk_room, table_at}
use Rattle.script.specs.Lines.{command}
use Rattle.script.specs.Scripts.{script}
use Rattle.script.specs.Sheets.{Printed}
use Rattle.script.specs.Slots.{blank}

-- THE DESK

-- nothing, or what one of these events wrote
abbrev pub Kept : List Event → List ℕ → Type 0
Kept run bytes = (bytes ≡ []) ⊎ Has (map (λ event. wrote event.call) run) bytes

-- the desk stands at the end of this run: its events, the latest first, led from new tables of three sites
-- with four articles and 64 places to the desk's, no transaction is open, and each slot holds nothing or
-- what one of them wrote
pub record AfterRun (kind : Meaning) (group : Group) (run : List Event) (d : DeskView) : Type 0 where
  pub group_is : group.number ≡ 1
  pub sites_are : group.sites ≡ 3
  pub articles_are : group.articles ≡ 4
  pub rooms_are : (site : ℕ) → site < 3 → group.room site ≡ desk_room
  pub ran : Ran kind group run (table_at d)
  pub closed : (site : ℕ) → site < 3 → (table_at d site).is_open ≡ false
  pub slots : AllByRecursion (Kept run) d.slots

-- THE LINES

-- the article's figure by all movements of the run that the site has, each counted once; refused by 4 above
-- article 3
abbrev pub counted_figure : Meaning → Group → List Event → ℕ → ℕ → Reply
counted_figure kind group run site article =
    cond (nat_lt article 4)
    (Ok (Answers.Figure (counted kind (book group run) site article)))
    (Err (by_table 4 0))

-- how long the offer is, or the refusal
abbrev pub offer_reply : Result ℕ TableFault → Reply
offer_reply (Ok n) = Ok (Answers.Length n)
offer_reply (Err e) = Err (shown e)

-- the calls of M up to its write, the latest first
abbrev pub open_and_write : ℕ → Ticket → ℕ → ℤ → Result ℕ TableFault → List Event
open_and_write site t article amount r = at site (Writes t article 1 amount r) ∷ (at site (Opens (Ok t)) ∷ [])

-- after this run, which led to this desk, a command makes these calls, the latest first, and answers this
pub data Makes (kind : Meaning) (group : Group) (run : List Event) (d : DeskView) : Command → Reply → List Event → Type 0 where
  -- M: open, write and commit. The open is granted. Where the write is refused, by 4 or 8, or the commit, by 16
  -- at the 64 places, the transaction is abandoned. A commit is of one action, and its message of 37 bytes
  moves :
      (site article slot : ℕ) (amount : ℤ) (t : Ticket) (time : ℕ) (after : List ℕ) (n : ℕ × ℕ) →
      n ≡ (1, 37) →
      Makes kind group run d (Move site article amount slot) (Ok (Answers.Time time))
      (at site (Commits t blank (Ok n) after) ∷ open_and_write site t article amount (Ok time))
  commit_refused :
      (site article slot : ℕ) (amount : ℤ) (t : Ticket) (time : ℕ) (e : TableFault) →
      shown e ≡ by_history 16 64 →
      Makes kind group run d (Move site article amount slot) (Err (shown e))
      (at site (Abandons t (Ok tt)) ∷
      (at site (Commits t blank (Err (e, t)) blank) ∷ open_and_write site t article amount (Ok time)))
  write_refused :
      (site article slot : ℕ) (amount : ℤ) (t : Ticket) (e : TableFault) →
      (shown e ≡ by_table 4 0) ⊎ (shown e ≡ by_table 8 0) →
      Makes kind group run d (Move site article amount slot) (Err (shown e))
      (at site (Abandons t (Ok tt)) ∷ open_and_write site t article amount (Err e))
  -- O, into the 1,200 bytes that a message is written into, in which there is room for every offer: it is
  -- refused by 4 or 5
  offers :
      (site peer article slot : ℕ) (after : List ℕ) (r : Result ℕ TableFault) →
      IfErr r (λ e. (shown e ≡ by_table 4 0) ⊎ (shown e ≡ by_table 5 0)) →
      Makes kind group run d (Offer site peer article slot) (offer_reply r)
      (at site (Offers peer article blank r after) ∷ [])
  -- T, of exactly the bytes that the slot holds
  takes :
      (site slot : ℕ) (r : Result ℕ TableFault) →
      Makes kind group run d (Take site slot) (take_reply r)
      (at site (Takes (slice_index_or d.slots slot []) r) ∷ [])
  -- F, as the run counts, and P, as the site's table shows: they change no table
  figures :
      (site article : ℕ) →
      Makes kind group run d (Figure site article) (counted_figure kind group run site article) []
  open_items :
      (site peer article : ℕ) →
      Makes kind group run d (OpenItem site peer article) (open_item_reply (table_at d site) peer article) []

-- a line answers this and makes these calls; a refused one leaves the desk as it was, its tables and its slots
abbrev pub MakesLine : Meaning → Group → List Event → DeskView → ℕ → Option Command → Reply → List Event → DeskView → Type 0
MakesLine kind group run d index None a calls after = (calls ≡ []) × (after ≡ d) × (a ≡ Err (by_table 18 index))
MakesLine kind group run d index (Some c) a calls after = Makes kind group run d c a calls × OnErr a (after ≡ d)

-- the line of this number does to the desk what its letter does, answers this and makes these calls, and the
-- desk that it leaves stands at the end of the longer run
abbrev pub Plays : Meaning → Group → List Event → DeskView → ℕ → List ℕ → Reply → List Event → DeskView → Type 0
Plays kind group run d index line a calls after =
    Performs kind d index line a after × MakesLine kind group run d index (command line) a calls after ×
    AfterRun kind group (calls ++ run) after

-- one line after another from the number of the first: the run and the desk that they lead to, and all that
-- they print
abbrev pub PlaysAll : Meaning → Group → List Event → DeskView → ℕ → List (List ℕ) → List Event → DeskView → List ℕ → Type 0
PlaysAll kind group run d index [] later after bytes = (later ≡ run) × (after ≡ d) × (bytes ≡ [])
PlaysAll kind group run d index (line ∷ lines) later after bytes =
    (calls : List Event) × (between : DeskView) × (sheet : List ℕ) × (rest : List ℕ) ×
    Printed line sheet (λ a. Plays kind group run d index line a calls between) ×
    PlaysAll kind group (calls ++ run) between (index + 1) lines later after rest ×
    (bytes ≡ sheet ++ rest)

-- EVERY SCRIPT

-- all lines, numbered from 0, are played and printed; or some are, and one more is played, whose bytes do not
-- fit: what was to be printed with them is longer than the capacity that the output had
abbrev pub Tallied : Meaning → Group → List Event → DeskView → List ℕ → List ℕ → ℕ → Result Unit AllocError → DeskView → List ℕ → Type 0
Tallied kind group run d input out capacity (Ok _) after grown =
    (later : List Event) × (sheet : List ℕ) ×
    PlaysAll kind group run d 0 (script input) later after sheet × AfterRun kind group later after ×
    (grown ≡ out ++ sheet)
Tallied kind group run d input out capacity (Err _) after grown =
    (done : List (List ℕ)) × (line : List ℕ) × (rest : List (List ℕ)) ×
    (script input ≡ done ++ (line ∷ rest)) ×
    (later : List Event) × (between : DeskView) × (sheet : List ℕ) ×
    PlaysAll kind group run d 0 done later between sheet ×
    (calls : List Event) × (lost : List ℕ) ×
    Printed line lost (λ a. Plays kind group later between (length done) line a calls after) ×
    (grown ≡ out ++ sheet) × (capacity < length grown + length lost)

-- a new desk stands at the end of a run of no events
abbrev pub NewStands : Meaning → DeskView → Type 0
NewStands kind d = (group : Group) × AfterRun kind group [] d

-- wherever the desk stood before the line
abbrev pub LineStands : Meaning → DeskView → ℕ → List ℕ → Reply → DeskView → Type 0
LineStands kind d index line a after =
    (group : Group) (run : List Event) → AfterRun kind group run d →
    (calls : List Event) × Plays kind group run d index line a calls after

-- wherever it stood before the script
abbrev pub ScriptStands : Meaning → DeskView → List ℕ → List ℕ → ℕ → Result Unit AllocError → DeskView → List ℕ → Type 0
ScriptStands kind d input out capacity r after grown =
    (group : Group) (run : List Event) → AfterRun kind group run d →
    Tallied kind group run d input out capacity r after grown
