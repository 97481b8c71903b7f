-- One event of a run: a call at one site, what it answered and what it left. Assumes nothing.
use Rattle.std.specs.Prelude.{◌≡◌, ℕ, ◌<◌, List, [], take, ℤ, Ok, Result, FitsSigned}
use Rattle.std.specs.Int.{w32}
use Rattle.kind.specs.Meaning.{Meaning}
use Rattle.table.specs.declared.table_fault.TableFault.{TableFault}
use Rattle.table.specs.declared.ticket.Ticket.{Ticket}
use Rattle.table.specs.Archiving.{Archived}
use Rattle.table.specs.Offers.{Offered}
use Rattle.table.specs.Taking.{Took}
use Rattle.table.specs.Transactions.{Abandoned, Committed, Opened, Wrote}
use Rattle.table.specs.View.{View}

-- a call with its arguments and its answer, and what it left of a buffer
pub data Call : Type 0 where
  Opens : (answer : Result Ticket TableFault) → Call
  Writes : (ticket : Ticket) (article operation : ℕ) (amount : ℤ) (answer : Result ℕ TableFault) → Call
  Commits :
      (ticket : Ticket) (buffer : List ℕ) (answer : Result (ℕ × ℕ) (TableFault × Ticket)) (after : List ℕ) →
      Call
  Abandons : (ticket : Ticket) (answer : Result Unit (TableFault × Ticket)) → Call
  Offers : (peer article : ℕ) (buffer : List ℕ) (answer : Result ℕ TableFault) (after : List ℕ) → Call
  Takes : (bytes : List ℕ) (answer : Result ℕ TableFault) → Call
  Archives : (article : ℕ) (answer : Result ℕ TableFault) → Call

pub record Event : Type 0 where
  pub site : ℕ
  pub call : Call

-- an event at a site
abbrev pub at : ℕ → Call → Event
at site call = record { site = site; call = call }

-- the call leads from one state of its site's table to another, as its contract says
abbrev pub Does : Meaning → View → Call → View → Type 0
Does kind v (Opens r) w = Opened kind v r w
Does kind v (Writes t article operation amount r) w =
    (operation < 256) × FitsSigned w32 amount × Wrote kind v t article operation amount r w
Does kind v (Commits t buffer r after) w = Committed kind v t buffer r w after
Does kind v (Abandons t r) w = Abandoned kind v t r w
Does kind v (Offers peer article buffer r after) w = Offered kind v peer article buffer r after × (w ≡ v)
Does kind v (Takes bytes r) w = Took kind v bytes r w
Does kind v (Archives article r) w = Archived kind v article r w

-- the message that the call wrote, or nothing
abbrev pub wrote : Call → List ℕ
wrote (Commits t buffer (Ok n) after) = take n.1 after
wrote (Offers peer article buffer (Ok n) after) = take n after
wrote _ = []
