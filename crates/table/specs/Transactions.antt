-- What open, write, commit and abandon do to a table. Assumes nothing.
use Rattle.std.specs.Prelude.{◌≡◌, ℕ, ◌+◌, max, Bool, true, false, cond, not, ◌&&◌, List, [], ◌∷◌, ◌++◌, map, length, ℤ, Some, None, Ok, Err, fold, filter, Option, Result, ◌==◌, nat_le, nat_lt}
use Rattle.std.specs.List.{flat_map, range_with_len}
use Rattle.action.specs.declared.action.Action.{Action}
use Rattle.action.specs.declared.refusal.Refusal.{Refusal}
use Rattle.action.specs.Lawful.{by_table, unless}
use Rattle.kind.specs.Meaning.{Meaning}
use Rattle.kind.specs.Working.{on, working}
use Rattle.message.specs.Buffer.{overwritten}
use Rattle.message.specs.Format.{Message, Section, format, section_format}
use Rattle.row.specs.declared.row.Row.{Row}
use Rattle.row.specs.Entries.{each_row, raised}
use Rattle.table.specs.declared.table_fault.TableFault.{TableFault}
use Rattle.table.specs.declared.ticket.Ticket.{Ticket}
use Rattle.table.specs.Faults.{shown}
use Rattle.table.specs.Room.{room_refusal}
use Rattle.table.specs.View.{View, entry}

-- OPEN

abbrev pub open_refusal : View → Option Refusal
open_refusal v = unless (not v.is_open) (by_table 2 0) None

-- the ticket of a table notes whose it is, by group, kind and site, and what its clock shows
abbrev pub ticket : Meaning → View → Ticket
ticket kind v = record { group = v.setup.group; kind = kind.number; site = v.setup.own; clock = v.clock }

-- the same table, but for its transaction
abbrev pub with_transaction : Bool → List Action → View → View
with_transaction is_open pending v = record v { is_open = is_open; pending = pending }

abbrev pub opened : View → View
opened v = with_transaction true v.pending v

abbrev pub Opened : Meaning → View → Result Ticket TableFault → View → Type 0
Opened kind v (Ok t) w = (open_refusal v ≡ None) × (t ≡ ticket kind v) × (w ≡ opened v)
Opened kind v (Err e) w = (open_refusal v ≡ Some (shown e)) × (w ≡ v)

-- does the ticket fit: is a transaction open, and are its four numbers the table's?
abbrev pub holds : Meaning → View → Ticket → Bool
holds kind v t =
    v.is_open && (t.group == v.setup.group && (t.kind == kind.number && (t.site == v.setup.own && t.clock == v.clock)))

-- WRITE

-- the time of the next write
abbrev pub next_time : View → ℕ
next_time v = v.clock + length v.pending + 1

abbrev pub write_refusal : Meaning → View → Ticket → ℕ → ℕ → ℤ → Option Refusal
write_refusal kind v t article operation amount =
    unless (holds kind v t) (by_table 3 0)
    (unless (nat_lt article v.setup.articles) (by_table 4 0)
    (unless (kind.knows operation amount) (by_table 6 0)
    (unless (nat_lt (length v.pending) 16) (by_table 7 0)
    (unless (nat_le (next_time v) 4000000000) (by_table 8 0) None))))

-- all actions of a transaction bear one number, the time of the first, which comes next after the clock
abbrev pub new_action : View → ℕ → ℕ → ℤ → Action
new_action v article operation amount = record {
  coordinator = v.setup.own;
  time = next_time v;
  transaction = v.clock + 1;
  article = article;
  operation = operation;
  amount = amount;
}

abbrev pub written : View → Action → View
written v a = with_transaction v.is_open (v.pending ++ (a ∷ [])) v

abbrev pub Wrote : Meaning → View → Ticket → ℕ → ℕ → ℤ → Result ℕ TableFault → View → Type 0
Wrote kind v t article operation amount (Ok time) w =
    (write_refusal kind v t article operation amount ≡ None) × (time ≡ next_time v)
    × (w ≡ written v (new_action v article operation amount))
Wrote kind v t article operation amount (Err e) w =
    (write_refusal kind v t article operation amount ≡ Some (shown e)) × (w ≡ v)

-- ABANDON

abbrev pub abandon_refusal : Meaning → View → Ticket → Option Refusal
abandon_refusal kind v t = unless (holds kind v t) (by_table 3 0) None

abbrev pub abandoned : View → View
abandoned v = with_transaction false [] v

-- a refusal hands the ticket back
abbrev pub Abandoned : Meaning → View → Ticket → Result Unit (TableFault × Ticket) → View → Type 0
Abandoned kind v t (Ok _) w = (abandon_refusal kind v t ≡ None) × (w ≡ abandoned v)
Abandoned kind v t (Err e) w = (abandon_refusal kind v t ≡ Some (shown e.0)) × (e.1 ≡ t) × (w ≡ v)

-- COMMIT

abbrev pub commit_refusal : Meaning → View → Ticket → Option Refusal
commit_refusal kind v t =
    unless (holds kind v t) (by_table 3 0) (room_refusal v v.pending)

-- the time of the latest action on the article, 0 where there is none
abbrev pub latest : ℕ → List Action → ℕ
latest a xs = fold (λ t x. max t x.time) 0 (on a xs)

-- an article's kept figure with new actions, which the history has by now: where the kind commutes, what is new is
-- worked on top of it; else the base is worked by all that the history has
abbrev pub figure_after : Meaning → ℕ → Row → List Action → List Action → ℤ
figure_after kind a r history new =
    cond kind.commutes (working kind.steps r.kept (on a new)) (working kind.steps r.base (on a history))

abbrev pub committed_row : Meaning → View → ℕ → Row → Row
committed_row kind v a r = record r {
  kept = figure_after kind a r (v.history ++ v.pending) v.pending;
  known = raised r.known v.setup.own v.setup.own (latest a v.pending);
}

abbrev pub committed : Meaning → View → View
committed kind v = record v {
  clock = v.clock + length v.pending;
  is_open = false;
  pending = [];
  rows = each_row (committed_row kind v) 0 v.rows;
  history = v.history ++ v.pending;
}

abbrev pub is_written : View → ℕ → Bool
is_written v a = nat_lt 0 (length (on a v.pending))

-- the articles written, ascending
abbrev pub written_articles : View → List ℕ
written_articles v = filter (is_written v) (range_with_len 0 v.setup.articles)

-- a written article's section: the transaction's actions on it, and an interval of the own site, which begins at its
-- entry and ends at what the commit makes of that
abbrev pub transaction_section : View → ℕ → Section
transaction_section v a =
    let own : ℕ = v.setup.own in
    record {
      article = a;
      intervals = record { site = own; from = entry v a own own; to = max (entry v a own own) (latest a v.pending) } ∷ [];
      actions = on a v.pending;
    }

-- their sections' bytes, which is all that the message has behind its header
abbrev pub sections_bytes : View → List ℕ
sections_bytes v = flat_map section_format (map (transaction_section v) (written_articles v))

abbrev pub transaction_message : Meaning → View → Message
transaction_message kind v = record {
  group = v.setup.group;
  kind = kind.number;
  sender = v.setup.own;
  sections = map (transaction_section v) (written_articles v);
}

-- the transaction's message, or nothing for a transaction without writes
abbrev pub transaction_bytes : Meaning → View → List ℕ
transaction_bytes kind v = cond (nat_lt 0 (length v.pending)) (format (transaction_message kind v)) []

-- what of it goes into the buffer: all where it fits, else nothing
abbrev pub fitting : List ℕ → List ℕ → List ℕ
fitting bytes buffer = cond (nat_le (length bytes) (length buffer)) bytes []

abbrev pub Committed : Meaning → View → Ticket → List ℕ → Result (ℕ × ℕ) (TableFault × Ticket) → View → List ℕ → Type 0
Committed kind v t buffer (Ok r) w after =
    (commit_refusal kind v t ≡ None) × (r.0 ≡ length v.pending)
    × (r.1 ≡ length (fitting (transaction_bytes kind v) buffer)) × (w ≡ committed kind v)
    × (after ≡ overwritten buffer 0 (fitting (transaction_bytes kind v) buffer))
Committed kind v t buffer (Err e) w after =
    (commit_refusal kind v t ≡ Some (shown e.0)) × (e.1 ≡ t) × (w ≡ v) × (after ≡ buffer)
