-- What a call by a ticket has to keep. Assumes nothing.
use Rattle.std.specs.Prelude.{◌≡◌, true, Some, None, Option}
use Rattle.kind.specs.Meaning.{Meaning}
use Rattle.table.specs.declared.ticket.Ticket.{Ticket}
use Rattle.table.specs.Transactions.{holds}
use Rattle.table.specs.View.{View}

-- the very ticket comes back, and a ticket that held at the table still does, or it held and is spent
abbrev pub Fair : Meaning → View → Ticket → Option Ticket → View → Type 0
Fair kind v t (Some u) w = (u ≡ t) × ((x : Ticket) → holds kind v x ≡ true → holds kind w x ≡ true)
Fair kind v t None w = holds kind v t ≡ true
