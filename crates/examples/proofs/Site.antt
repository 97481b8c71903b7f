-- The table of the worked examples is sound, since it is made by calls that are granted, and their messages are lawful.
-- Assumes nothing.
use Rattle.std.proofs.Common.{◌≡◌, ℕ, ◌<◌, ◌≤◌, List, [], length, lit<, lit≤, pos, None, Ok, refl, arith}
use Rattle.std.specs.List.{AllByRecursion}
use Rattle.std.proofs.Math.Facts.{sfits_lit}
use Rattle.action.specs.declared.action.Action.{Action}
use Rattle.action.specs.Order.{Ascending}
use Rattle.action.proofs.Members.{has_first}
use Rattle.kind.specs.Meanings.{on_hand}
use Rattle.kind.specs.OnHandLaws.{on_hand_commutes, on_hand_fits}
use Rattle.message.specs.Format.{format}
use Rattle.message.specs.Lawful.{LawfulAction, LawfulMessage}
use Rattle.table.specs.Sound.{Sound}
use Rattle.table.specs.Transactions.{commit_refusal, fitting, new_action, open_refusal, opened, next_time, ticket, transaction_bytes, write_refusal, written}
use Rattle.table.specs.View.{View, fresh}
use Rattle.table.proofs.Soundness.{commit_keeps, fresh_sound, open_keeps, write_keeps}
use Rattle.table.proofs.Taken.{take_keeps}
use Rattle.examples.specs.Table.{at, of_site_1, part, posted, room, setup, site, telling, twice_posted}

-- a granted transaction of one write leaves a sound table sound
posted_sound : (v : View) → Sound on_hand v → open_refusal v ≡ None → write_refusal on_hand (opened v) (ticket on_hand v) 0 1 (pos 10) ≡ None → commit_refusal on_hand (written (opened v) (new_action v 0 1 (pos 10))) (ticket on_hand v) ≡ None → Sound on_hand (posted v)
posted_sound v sound opens writes commits =
    let t = ticket on_hand v in
    let w = written (opened v) (new_action v 0 1 (pos 10)) in
    let open_sound = open_keeps on_hand v (opened v) sound (Ok t) (opens, refl, refl) in
    let written_sound = write_keeps on_hand (opened v) w open_sound t 0 1 (pos 10) (lit< tt) (sfits_lit tt) (Ok (next_time (opened v))) (writes, refl, refl) in
    let sent = fitting (transaction_bytes on_hand w) [] in
    commit_keeps on_hand w (posted v) written_sound t [] _ (Ok (length w.pending, length sent)) (commits, refl, refl, refl, refl)

-- the message is lawful where its interval is of a site of the group and goes forward in time, and its actions are
-- lawful and in order
module _ (q from to : ℕ) (of_group : q < 3) (forward : from ≤ to) (in_time : to ≤ 4000000000) where
  section_lawful : (xs : List Action) → AllByRecursion (LawfulAction on_hand (part q from to xs)) xs → Ascending xs → length xs < 65536 → LawfulMessage on_hand setup (telling q from to xs)
  section_lawful xs actions ordered counted = record {
    of_group = refl;
    of_kind = refl;
    sent = lit< tt;
    some = lit≤ tt;
    few = lit≤ tt;
    sections = (
      record {
        listed = lit< tt;
        some = lit≤ tt;
        few = lit≤ tt;
        intervals = (record { of_group = of_group; forward = forward; in_time = in_time }, tt);
        rising = (tt, tt);
        actions = actions;
        ordered = ordered;
        counted = counted;
      },
      tt,
    );
    rising = (tt, tt);
  }

  pub telling_lawful : LawfulMessage on_hand setup (telling q from to [])
  telling_lawful = section_lawful [] tt tt (lit< tt)

-- the message of site 1's two actions
action_lawful : (time : ℕ) → 0 < time → time ≤ 2 → LawfulAction on_hand (part 1 0 2 of_site_1) (at time 1)
action_lawful time above up_to = record {
  on_article = refl;
  carried = (record { site = 1; from = 0; to = 2 }, has_first _ [], (refl, above, up_to));
  begun = above;
  in_turn = omega arith;
  known = refl;
  one_byte = lit< tt;
  four_bytes = sfits_lit tt;
}

of_site_1_lawful : LawfulMessage on_hand setup (telling 1 0 2 of_site_1)
of_site_1_lawful = section_lawful 1 0 2 (lit< tt) (lit≤ tt) (lit≤ tt) of_site_1 (action_lawful 1 (lit< tt) (lit≤ tt), (action_lawful 2 (lit< tt) (lit≤ tt), tt)) ((refl, tt), (tt, tt)) (lit< tt)

pub twice_posted_sound : Sound on_hand twice_posted
twice_posted_sound =
    let first = fresh on_hand setup room in
    let first_sound = fresh_sound on_hand setup room (lit≤ tt) (sfits_lit tt) in
    posted_sound (posted first) (posted_sound first first_sound refl refl refl) refl refl refl

pub site_sound : Sound on_hand site
site_sound =
    let m = telling 1 0 2 of_site_1 in
    take_keeps on_hand on_hand_fits (λ f o a p b fits c x y. on_hand_commutes f o a p b x y) twice_posted site twice_posted_sound (format m) (Ok 2) (refl, (m, of_site_1_lawful, refl, refl, refl, refl))
