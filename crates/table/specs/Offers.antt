-- What offer writes. Assumes nothing.
use Rattle.std.specs.Prelude.{◌≡◌, ℕ, Bool, ◌&&◌, List, [], ◌∷◌, map, length, Some, None, Ok, Err, filter, Option, Result, ◌==◌, nat_le, nat_lt}
use Rattle.std.specs.List.{range_with_len}
use Rattle.action.specs.declared.action.Action.{Action}
use Rattle.action.specs.declared.refusal.Refusal.{Refusal}
use Rattle.action.specs.Lawful.{by_table, unless}
use Rattle.kind.specs.Meaning.{Meaning}
use Rattle.message.specs.declared.record.Interval.{Interval}
use Rattle.message.specs.Buffer.{overwritten}
use Rattle.message.specs.Format.{Message, Section, format}
use Rattle.table.specs.declared.table_fault.TableFault.{TableFault}
use Rattle.table.specs.Faults.{shown}
use Rattle.table.specs.View.{View, entry}

-- what site p lacks of site q's actions on the article, as far as this table knows
abbrev pub offer_interval : View → ℕ → ℕ → ℕ → Interval
offer_interval v p a q = record { site = q; from = entry v a p q; to = entry v a v.setup.own q }

-- does the action lie in one of the offer's intervals?
abbrev pub is_offered : View → ℕ → ℕ → Action → Bool
is_offered v p a x =
    let i : Interval = offer_interval v p a x.coordinator in
    (x.article == a) && (nat_lt x.coordinator v.setup.sites && (nat_lt i.from x.time && nat_le x.time i.to))

-- an interval for each site, in their order
abbrev pub offer_intervals : View → ℕ → ℕ → List Interval
offer_intervals v p a = map (offer_interval v p a) (range_with_len 0 v.setup.sites)

-- what the history has in these intervals
abbrev pub offer_actions : View → ℕ → ℕ → List Action
offer_actions v p a = filter (is_offered v p a) v.history

abbrev pub offer_section : View → ℕ → ℕ → Section
offer_section v p a = record { article = a; intervals = offer_intervals v p a; actions = offer_actions v p a }

abbrev pub offer_message : Meaning → View → ℕ → ℕ → Message
offer_message kind v p a = record {
  group = v.setup.group;
  kind = kind.number;
  sender = v.setup.own;
  sections = offer_section v p a ∷ [];
}

abbrev pub offer_bytes : Meaning → View → ℕ → ℕ → List ℕ
offer_bytes kind v p a = format (offer_message kind v p a)

abbrev pub offer_refusal : Meaning → View → ℕ → ℕ → List ℕ → Option Refusal
offer_refusal kind v p a buffer =
    let needed : ℕ = length (offer_bytes kind v p a) in
    unless (nat_lt a v.setup.articles) (by_table 4 0)
    (unless (nat_lt p v.setup.sites) (by_table 5 0)
    (unless (nat_le needed (length buffer)) (by_table 15 needed) None))

abbrev pub Offered : Meaning → View → ℕ → ℕ → List ℕ → Result ℕ TableFault → List ℕ → Type 0
Offered kind v p a buffer (Ok n) after =
    (offer_refusal kind v p a buffer ≡ None) × (n ≡ length (offer_bytes kind v p a))
    × (after ≡ overwritten buffer 0 (offer_bytes kind v p a))
Offered kind v p a buffer (Err e) after = (offer_refusal kind v p a buffer ≡ Some (shown e)) × (after ≡ buffer)
