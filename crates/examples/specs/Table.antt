-- The worked examples as one table. Assumes nothing.
use Rattle.std.specs.Prelude.{◌≡◌, ℕ, true, List, [], ◌∷◌, map, ℤ, pos, neg_ℤ, Some, None, Option}
use Rattle.std.proofs.Common.{lit<, lit≤}
use Rattle.action.specs.declared.action.Action.{Action}
use Rattle.action.specs.declared.refusal.Refusal.{Refusal}
use Rattle.action.specs.declared.setup.Setup.{Setup}
use Rattle.action.specs.Lawful.{by_table}
use Rattle.action.specs.Order.{precedes}
use Rattle.history.specs.Room.{Room}
use Rattle.kind.specs.Meanings.{on_hand, on_hand_step, flags_step, price_step}
use Rattle.kind.specs.Working.{working}
use Rattle.message.specs.Format.{Message, Section}
use Rattle.message.specs.Lawful.{LawfulMessage}
use Rattle.table.specs.Taking.{take_refusal, taken}
use Rattle.table.specs.Transactions.{committed, new_action, opened, written}
use Rattle.table.specs.View.{View, entry, fresh}

-- an action of which only the pair matters
abbrev pub doing : ℕ × ℤ → Action
doing move = record { coordinator = 0; time = 1; transaction = 1; article = 0; operation = move.0; amount = move.1 }

-- an action of which only the time and the site matter
abbrev pub at : ℕ → ℕ → Action
at time site = record { coordinator = site; time = time; transaction = time; article = 0; operation = 1; amount = pos 1 }

-- A TABLE AND MESSAGES FOR IT

-- site 0 of three, with four articles
abbrev pub setup : Setup
setup = record {
  group = 1;
  sites = 3;
  own = 0;
  articles = 4;
  some_group = lit≤ tt;
  group_fits = lit≤ tt;
  two_sites = lit≤ tt;
  few_sites = lit≤ tt;
  own_site = lit< tt;
  some_article = lit≤ tt;
  few_articles = lit≤ tt;
}

-- room for 64 actions
abbrev pub room : Room
room = record { places = 64 }

-- the table after a transaction of one write, +10 on article 0
abbrev pub posted : View → View
posted v = committed on_hand (written (opened v) (new_action v 0 1 (pos 10)))

-- a section on article 0, with one interval and these actions
abbrev pub part : ℕ → ℕ → ℕ → List Action → Section
part q from to actions =
    record { article = 0; intervals = record { site = q; from = from; to = to } ∷ []; actions = actions }

-- a message of site 1 with that section alone
abbrev pub telling : ℕ → ℕ → ℕ → List Action → Message
telling q from to actions = record { group = 1; kind = 1; sender = 1; sections = part q from to actions ∷ [] }

-- the two actions that site 1 has committed
abbrev pub of_site_1 : List Action
of_site_1 = at 1 1 ∷ at 2 1 ∷ []

abbrev pub twice_posted : View
twice_posted = posted (posted (fresh on_hand setup room))

-- a new table that has posted twice and taken the message of site 1's two actions. On article 0 it has its own
-- actions, and those of site 1, up to time 2
abbrev pub site : View
site = taken on_hand twice_posted (telling 1 0 2 of_site_1)

pub data Row : Type 0 where
  -- a kind's step, a figure, the operations and amounts that follow, and the figure that they lead to
  worked : (ℤ → ℕ → ℤ → ℤ) → ℤ → List (ℕ × ℤ) → ℤ → Row
  -- an action, and one that it precedes
  ordered : Action → Action → Row
  -- an interval of site q, from and to, in a message of site 1 without actions; up to when `site` has q's
  -- actions; and the refusal that the message meets there, where it meets one
  met : ℕ → ℕ → ℕ → ℕ → Option Refusal → Row

-- what the definitions compute is what the row expects
abbrev pub Holds : Row → Type 0
Holds (worked steps f moves expected) = working steps f (map doing moves) ≡ expected
Holds (ordered a b) = precedes a b ≡ true
Holds (met q from to reached expected) =
    LawfulMessage on_hand setup (telling q from to []) × (entry site 0 setup.own q ≡ reached)
    × (take_refusal site (telling q from to []) ≡ expected)

abbrev pub examples : List Row
examples =
    worked on_hand_step (pos 0) ((1, pos 1000) ∷ (1, pos 500) ∷ (1, neg_ℤ (pos 200)) ∷ (1, neg_ℤ (pos 200)) ∷ []) (pos 1100)
    ∷ worked price_step (pos 0) ((1, pos 10000) ∷ (2, pos 50) ∷ []) (pos 10500)
    ∷ worked price_step (pos 0) ((2, pos 50) ∷ (1, pos 10000) ∷ []) (pos 10000)
    ∷ worked price_step (pos 333) ((2, pos 15) ∷ []) (pos 337)
    ∷ worked price_step (pos 1) ((2, neg_ℤ (pos 500)) ∷ []) (pos 0)
    ∷ worked price_step (pos 99999999) ((2, pos 1) ∷ []) (pos 99999999)
    ∷ worked flags_step (pos 5) ((1, pos 6) ∷ []) (pos 7)
    ∷ met 1 2 4 2 None
    ∷ met 1 3 4 2 (Some (by_table 13 11))
    ∷ met 0 2 2 2 None
    ∷ met 0 2 3 2 (Some (by_table 14 11))
    ∷ ordered (at 2 0) (at 2 2)
    ∷ ordered (at 2 2) (at 3 0)
    ∷ []
