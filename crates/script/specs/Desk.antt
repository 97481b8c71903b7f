-- What a line does to the desk, and what it answers. Assumes nothing.
use Rattle.std.specs.Prelude.{◌≡◌, ℕ, zero, suc, List, [], replicate, Some, None, Err, Option, Result, slice_index_or, slice_set}
use Rattle.action.specs.Lawful.{by_table}
use Rattle.history.specs.Room.{Room}
use Rattle.kind.specs.Meaning.{Meaning}
use Rattle.table.specs.View.{View, fresh}
use Rattle.script.specs.declared.answer.Answer.{Answer}
use Rattle.script.specs.declared.command.Command.{Command}
use Rattle.script.specs.declared.command.Command.TheVariants.{Move, Offer, Take, Figure, OpenItem}
use Rattle.script.specs.declared.line_fault.LineFault.{LineFault}
use Rattle.script.specs.Acts.{Outcome, Reply, TookSlot, figure_reply, move_outcome, offer_outcome, open_item_reply, reply_of}
use Rattle.script.specs.Lines.{command, site_of}

-- the tables of sites 0, 1 and 2, and for each slot the message in it
pub record DeskView : Type 0 where
  pub first : View
  pub second : View
  pub third : View
  pub slots : List (List ℕ)

-- room for 64 actions
abbrev pub desk_room : Room
desk_room = record { places = 64 }

-- site `site` of three sites with four articles, with nothing recorded yet and 64 places to record in
pub record FreshSite (kind : Meaning) (site : ℕ) (v : View) : Type 0 where
  pub group : v.setup.group ≡ 1
  pub sites : v.setup.sites ≡ 3
  pub own : v.setup.own ≡ site
  pub articles : v.setup.articles ≡ 4
  pub new : v ≡ fresh kind v.setup desk_room

-- a new desk: ten slots that hold nothing
pub record FreshDesk (kind : Meaning) (d : DeskView) : Type 0 where
  pub first : FreshSite kind 0 d.first
  pub second : FreshSite kind 1 d.second
  pub third : FreshSite kind 2 d.third
  pub slots : d.slots ≡ replicate 10 []

abbrev pub table_at : DeskView → ℕ → View
table_at d zero = d.first
table_at d (suc zero) = d.second
table_at d (suc (suc n)) = d.third

-- the same desk, but for a site's table
abbrev pub with_table : DeskView → ℕ → View → DeskView
with_table d zero v = record d { first = v }
with_table d (suc zero) v = record d { second = v }
with_table d (suc (suc n)) v = record d { third = v }

-- the same desk, but for its slots
abbrev pub with_slots : DeskView → List (List ℕ) → DeskView
with_slots d slots = record d { slots = slots }

-- what a command leaves of its site's table and of the slots, and what it answers
pub record SiteTurn : Type 0 where
  pub table : View
  pub slots : List (List ℕ)
  pub answer : Reply

-- a command that writes into a slot
abbrev pub site_turn : List (List ℕ) → ℕ → Outcome → SiteTurn
site_turn slots slot o = record { table = o.table; slots = slice_set slots slot o.slot; answer = o.answer }

-- a command, given its site's table and the slots
abbrev pub ActsAt : Meaning → View → List (List ℕ) → Command → SiteTurn → Type 0
ActsAt kind v slots (Move site article amount slot) t =
    t ≡ site_turn slots slot (move_outcome kind v article amount (slice_index_or slots slot []))
ActsAt kind v slots (Offer site peer article slot) t =
    t ≡ site_turn slots slot (offer_outcome kind v peer article (slice_index_or slots slot []))
ActsAt kind v slots (Take site slot) t =
    TookSlot kind v (slice_index_or slots slot []) t.answer t.table × (t.slots ≡ slots)
ActsAt kind v slots (Figure site article) t =
    t ≡ record { table = v; slots = slots; answer = figure_reply v article }
ActsAt kind v slots (OpenItem site peer article) t =
    t ≡ record { table = v; slots = slots; answer = open_item_reply v peer article }

abbrev pub ActedAt : Meaning → View → List (List ℕ) → Command → Result Answer LineFault → View → List (List ℕ) → Type 0
ActedAt kind v slots c r after now_slots =
    ActsAt kind v slots c (record { table = after; slots = now_slots; answer = reply_of r })

-- a command, what it answers and the desk that it leaves: the other sites' tables stay
abbrev pub Acts : Meaning → DeskView → Command → Reply → DeskView → Type 0
Acts kind d c a after =
    let site = site_of c in
    ActsAt kind (table_at d site) d.slots c (record { table = table_at after site; slots = after.slots; answer = a }) ×
    (after ≡ with_slots (with_table d site (table_at after site)) after.slots)

abbrev pub Acted : Meaning → DeskView → Command → Result Answer LineFault → DeskView → Type 0
Acted kind d c r after = Acts kind d c (reply_of r) after

-- a line of no known form changes nothing, and is refused by 18 at its number
abbrev pub PerformsCommand : Meaning → DeskView → ℕ → Option Command → Reply → DeskView → Type 0
PerformsCommand kind d index None a after = (after ≡ d) × (a ≡ Err (by_table 18 index))
PerformsCommand kind d index (Some c) a after = Acts kind d c a after

-- the line of this number, what it answers and the desk that it leaves
abbrev pub Performs : Meaning → DeskView → ℕ → List ℕ → Reply → DeskView → Type 0
Performs kind d index line a after = PerformsCommand kind d index (command line) a after
