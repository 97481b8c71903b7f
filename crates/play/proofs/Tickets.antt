-- A table's own ticket is one alone. Assumes nothing.
use Rattle.std.proofs.Common.{rules, ◌≡◌, true, Some, None, Option, refl}
use Rattle.kind.specs.Meaning.{Meaning}
use Rattle.table.specs.declared.ticket.Ticket.{Ticket}
use Rattle.table.specs.Transactions.{holds, open_refusal}
use Rattle.table.specs.View.{View}

-- where a ticket holds a second one is refused
pub held_is_open : (kind : Meaning) (v : View) (t : Ticket) → holds kind v t ≡ true → open_refusal v ≡ None → ⊥
held_is_open kind v t held granted = search rules

-- so a hand that holds none but the table's own ticket is empty where a second one is granted
pub empty_hand : (kind : Meaning) (v : View) (hand : Option Ticket) → ((t : Ticket) → hand ≡ Some t → holds kind v t ≡ true) → open_refusal v ≡ None → hand ≡ None
empty_hand kind v None own granted = refl
empty_hand kind v (Some t) own granted = absurd (held_is_open kind v t (own t refl) granted)

-- two tickets that hold at one table are the same
pub same_ticket : (kind : Meaning) (v : View) (t u : Ticket) → holds kind v t ≡ true → holds kind v u ≡ true → t ≡ u
same_ticket kind v t u first second = search rules
