-- What each command does at one site, in terms of the table's calls. Assumes nothing.
use Rattle.std.specs.Prelude.{◌≡◌, ℕ, List, length, ℤ, Some, None, Ok, Err, Option, Result}
use Rattle.action.specs.declared.refusal.Refusal.{Refusal}
use Rattle.kind.specs.Meaning.{Meaning}
use Rattle.table.specs.declared.table_fault.TableFault.{TableFault}
use Rattle.table.specs.Answers.{figure, figure_refusal, open_item, open_item_refusal}
use Rattle.table.specs.Faults.{shown}
use Rattle.table.specs.Offers.{offer_bytes, offer_refusal}
use Rattle.table.specs.Taking.{Took}
use Rattle.table.specs.Transactions.{abandoned, commit_refusal, committed, fitting, new_action, next_time, open_refusal, opened, ticket, transaction_bytes, write_refusal, written}
use Rattle.table.specs.View.{View}
use Rattle.script.specs.declared.answer.Answer.{Answer}
use Rattle.script.specs.declared.answer.Answer.TheVariants.{Time, Length, Taken, Figure, IsOpen}
use Rattle.script.specs.declared.line_fault.LineFault.{LineFault}
use Rattle.script.specs.Faults as LineFaults
use Rattle.script.specs.Slots.{blank}

-- what a command answers, or by what it is refused
abbrev pub Reply : Type 0
Reply = Result Answer Refusal

-- what a command leaves of its site's table and of its slot, and what it answers
pub record Outcome : Type 0 where
  pub table : View
  pub slot : List ℕ
  pub answer : Reply

-- a call that may be refused: what follows where it is, and where it is not
abbrev pub by_refusal : {X : Type 0} → Option Refusal → (Refusal → X) → X → X
by_refusal None refused granted = granted
by_refusal (Some r) refused granted = refused r

-- the slot stays, and the refusal is answered
abbrev pub refused_at : View → List ℕ → Refusal → Outcome
refused_at v slot r = record { table = v; slot = slot; answer = Err r }

-- M, with the write done: commit into the slot, or abandon
abbrev pub outcome_once_written : Meaning → View → View → ℕ → List ℕ → Outcome
outcome_once_written kind v w time slot =
    by_refusal (commit_refusal kind w (ticket kind v)) (refused_at (abandoned w) slot)
    (record {
      table = committed kind w;
      slot = fitting (transaction_bytes kind w) blank;
      answer = Ok (Time time);
    })

-- M, with the transaction open: write with operation 1, or abandon
abbrev pub outcome_once_opened : Meaning → View → View → ℕ → ℤ → List ℕ → Outcome
outcome_once_opened kind v w article amount slot =
    by_refusal (write_refusal kind w (ticket kind v) article 1 amount) (refused_at (abandoned w) slot)
    (outcome_once_written kind v (written w (new_action w article 1 amount)) (next_time w) slot)

-- M: a transaction of one write. It answers the write's time
abbrev pub move_outcome : Meaning → View → ℕ → ℤ → List ℕ → Outcome
move_outcome kind v article amount slot =
    by_refusal (open_refusal v) (refused_at v slot) (outcome_once_opened kind v (opened v) article amount slot)

-- O: the offer goes into the slot, and its length is answered
abbrev pub offer_outcome : Meaning → View → ℕ → ℕ → List ℕ → Outcome
offer_outcome kind v peer article slot =
    by_refusal (offer_refusal kind v peer article blank) (refused_at v slot)
    (record {
      table = v;
      slot = offer_bytes kind v peer article;
      answer = Ok (Length (length (offer_bytes kind v peer article)));
    })

-- how many actions were new, or the refusal
abbrev pub take_reply : Result ℕ TableFault → Reply
take_reply (Ok n) = Ok (Taken n)
take_reply (Err e) = Err (shown e)

-- T: the message in the slot is taken whole, or refused and nothing is changed
abbrev pub TookSlot : Meaning → View → List ℕ → Reply → View → Type 0
TookSlot kind v slot a after = (r : Result ℕ TableFault) × Took kind v slot r after × (a ≡ take_reply r)

-- F
abbrev pub figure_reply : View → ℕ → Reply
figure_reply v article = by_refusal (figure_refusal v article) Err (Ok (Figure (figure v article)))

-- P: does the site show an open item?
abbrev pub open_item_reply : View → ℕ → ℕ → Reply
open_item_reply v peer article =
    by_refusal (open_item_refusal v article peer) Err (Ok (IsOpen (open_item v article peer)))

-- the reply that a command's result stands for
abbrev pub reply_of : Result Answer LineFault → Reply
reply_of (Ok a) = Ok a
reply_of (Err e) = Err (LineFaults.shown e)

-- what the two commands that write into a slot leave and answer

abbrev pub MovedSlot : Meaning → View → ℕ → ℤ → List ℕ → Result Answer LineFault → View → List ℕ → Type 0
MovedSlot kind v article amount slot r after now_held =
    record { table = after; slot = now_held; answer = reply_of r } ≡ move_outcome kind v article amount slot

abbrev pub OfferedSlot : Meaning → View → ℕ → ℕ → List ℕ → Result Answer LineFault → List ℕ → Type 0
OfferedSlot kind v peer article slot r now_held =
    record { table = v; slot = now_held; answer = reply_of r } ≡ offer_outcome kind v peer article slot
