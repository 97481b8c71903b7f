-- How the checks of a take end. Assumes nothing.
use Rattle.std.proofs.Common.{◌≡◌, ℕ, ◌≤◌, false, List, length, Some, None, Ok, filter, Option, Result, sym, ap, ◌∙◌, subst}
use Rattle.action.specs.declared.action.Action.{Action}
use Rattle.action.specs.declared.refusal.Refusal.{Refusal}
use Rattle.action.specs.Lawful.{by_table}
use Rattle.history.specs.declared.history_fault.HistoryFault.{HistoryFault}
use Rattle.kind.specs.Meaning.{Meaning}
use Rattle.message.specs.Format.{Message, format, records}
use Rattle.message.specs.Lawful.{LawfulMessage}
use Rattle.message.specs.Found.{first_place}
use Rattle.message.specs.Walks.{actions_of, records_in}
use Rattle.message.proofs.Carried.{carried_of}
use Rattle.message.proofs.Walking.{lawful_records}
use Rattle.row.specs.Passes.{new_actions}
use Rattle.table.specs.Room.{Allows, room_refusal}
use Rattle.table.specs.Taking.{TakeRefused, Took, is_ahead, is_behind, is_new, news, take_refusal, taken, unless_found}
use Rattle.table.specs.Taking.TakeRefused.{checked}
use Rattle.table.specs.View.{View}

module _ (v : View) (m : Message) where
  abbrev full : Option Refusal
  full = room_refusal v (news v m)

  pub refused_behind : (place : ℕ) → Some place ≡ first_place (is_behind v) 0 0 (records m) → take_refusal v m ≡ Some (by_table 13 place)
  refused_behind place found = ap (λ o. unless_found o 13 (unless_found (first_place (is_ahead v) 0 0 (records m)) 14 full)) (sym found)

  module _ (not_behind : None ≡ first_place (is_behind v) 0 0 (records m)) where
    past_behind : take_refusal v m ≡ unless_found (first_place (is_ahead v) 0 0 (records m)) 14 full
    past_behind = ap (λ o. unless_found o 13 (unless_found (first_place (is_ahead v) 0 0 (records m)) 14 full)) (sym not_behind)

    pub refused_ahead : (place : ℕ) → Some place ≡ first_place (is_ahead v) 0 0 (records m) → take_refusal v m ≡ Some (by_table 14 place)
    refused_ahead place found = past_behind ∙ ap (λ o. unless_found o 14 full) (sym found)

    -- past both, the room decides
    pub past_ahead : None ≡ first_place (is_ahead v) 0 0 (records m) → take_refusal v m ≡ room_refusal v (news v m)
    past_ahead not_ahead = past_behind ∙ ap (λ o. unless_found o 14 full) (sym not_ahead)

-- the same by the message's bytes, where no transaction is open
module _ (kind : Meaning) (number_fits : kind.number ≤ 255) (v : View) (shut : v.is_open ≡ false) (sent : Message) (lawful : LawfulMessage kind v.setup sent) (bytes : List ℕ) (is : bytes ≡ format sent) where
  pub told : records_in bytes ≡ records sent
  told = lawful_records kind v.setup bytes sent number_fits lawful is

  pub new_in : new_actions v.rows v.setup.own bytes ≡ news v sent
  new_in = ap (λ rs. filter (is_new v) (actions_of rs)) told ∙ ap (filter (is_new v)) (carried_of sent)

  refused : (refusal : Refusal) → take_refusal v sent ≡ Some refusal → TakeRefused kind v bytes refusal
  refused refusal h = checked shut (sent, lawful, is, h)

  pub take_behind : (place : ℕ) → Some place ≡ first_place (is_behind v) 0 0 (records_in bytes) → TakeRefused kind v bytes (by_table 13 place)
  take_behind place found = refused _ (refused_behind v sent place (found ∙ ap (first_place (is_behind v) 0 0) told))

  module _ (not_behind : None ≡ first_place (is_behind v) 0 0 (records_in bytes)) where
    begun : None ≡ first_place (is_behind v) 0 0 (records sent)
    begun = not_behind ∙ ap (first_place (is_behind v) 0 0) told

    pub take_ahead : (place : ℕ) → Some place ≡ first_place (is_ahead v) 0 0 (records_in bytes) → TakeRefused kind v bytes (by_table 14 place)
    take_ahead place found = refused _ (refused_ahead v sent begun place (found ∙ ap (first_place (is_ahead v) 0 0) told))

    module _ (not_ahead : None ≡ first_place (is_ahead v) 0 0 (records_in bytes)) where
      by_room : take_refusal v sent ≡ room_refusal v (new_actions v.rows v.setup.own bytes)
      by_room = past_ahead v sent begun (not_ahead ∙ ap (first_place (is_ahead v) 0 0) told) ∙ ap (room_refusal v) (sym new_in)

      pub take_full : (refusal : Refusal) → room_refusal v (new_actions v.rows v.setup.own bytes) ≡ Some refusal → TakeRefused kind v bytes refusal
      take_full refusal over = refused refusal (by_room ∙ over)

      pub take_whole : room_refusal v (new_actions v.rows v.setup.own bytes) ≡ None → (n : ℕ) (w : View) → n ≡ length (new_actions v.rows v.setup.own bytes) → w ≡ taken kind v sent → Took kind v bytes (Ok n) w
      take_whole fits n w count after = (shut, (sent, lawful, is, by_room ∙ fits, count ∙ ap length new_in, after))

-- the check for room, which was made of the view as it was and for as many actions as are new
pub checked_room : {v w : View} (same : v ≡ w) (bytes : List ℕ) {n : ℕ} (r : Result Unit HistoryFault) → n ≡ length (new_actions v.rows v.setup.own bytes) → ((new : List Action) → length new ≡ n → Allows (room_refusal w new) r) → Allows (room_refusal v (new_actions v.rows v.setup.own bytes)) r
checked_room {v} same bytes r counted check =
    subst (λ (u : View). Allows (room_refusal u (new_actions v.rows v.setup.own bytes)) r) (sym same) (check _ (sym counted))
