-- A table that took a message: what the checks say, its entries and its new actions, and that it is sound.
-- Assumes nothing.
use Rattle.std.proofs.Common.{◌≡◌, ℕ, ◌<◌, ◌≤◌, max, Bool, true, false, cond, eqb, ◌⊎◌, List, [], length, ℤ, Some, None, Ok, Err, filter, Option, Result, sym, refl, ap, ◌∙◌, subst, inl, inr, ⊎_elim, arith, w64, SFits}
use Rattle.std.specs.List.{ContainsAt as Has, AllByRecursion}
use Rattle.std.proofs.ByRecursion.{All-from_get_or, All-get_or, all-has, all_kept_by, All-weaker, kept_by_passes}
use Rattle.std.proofs.lemmas.Bool.{cases_eq, ltb-false, ltb-true}
use Rattle.action.specs.declared.action.Action.{Action}
use Rattle.action.specs.declared.refusal.Refusal.{Refusal}
use Rattle.action.specs.declared.setup.Setup.{Setup}
use Rattle.action.specs.Order.{Ascending}
use Rattle.action.proofs.Placing.{folded_placed_all, folded_placed_ranked, length_folded_placed}
use Rattle.action.proofs.Pairs.{pairwise_kept}
use Rattle.action.proofs.Ranks.{Ranked, ranked_unless}
use Rattle.history.specs.Room.{Fits}
use Rattle.kind.specs.Meaning.{Meaning}
use Rattle.kind.specs.Working.{knows_action, on, working}
use Rattle.kind.proofs.Workings.{working_placed}
use Rattle.message.specs.declared.record.Interval.{Interval}
use Rattle.message.specs.Format.{Message, Section, carried, records, told_intervals}
use Rattle.message.specs.Lawful.{Carries, LawfulAction, LawfulInterval, LawfulMessage, LawfulSection}
use Rattle.message.specs.Found.{first_place}
use Rattle.message.proofs.Carried.{carried_lawful, carried_ranked, carried_within, none_found, told_intervals_lawful, told_intervals_of}
use Rattle.row.specs.declared.row.Row.{Row}
use Rattle.row.specs.Entries.{at, no_row}
use Rattle.row.proofs.RowLaws.{by_row, length_each_row, row_each}
use Rattle.table.specs.declared.table_fault.TableFault.{TableFault}
use Rattle.table.specs.Room.{room_refusal}
use Rattle.table.specs.Sound.{AllWaiting, Fitting, Sound, Square}
use Rattle.table.specs.Taking.{Took, highest, is_ahead, is_behind, is_new, news, take_refusal, taken, taken_history, taken_row, unless_found}
use Rattle.table.specs.View.{View, entry, row}
use Rattle.table.proofs.Greatest.{greatest, greatest_from, greatest_ge, greatest_le}
use Rattle.table.proofs.Soundness.{room_for}
use Rattle.table.proofs.Stretching.{at_told, at_untold, highest_ge, highest_le, square_told, up_to_highest}

-- THE CHECKS

unfound : (o : Option ℕ) (number : ℕ) (rest : Option Refusal) → unless_found o number rest ≡ None → (o ≡ None) × (rest ≡ None)
unfound None number rest h = (refl, h)
unfound (Some place) number rest h = absurd (let z : ◌≡◌ {A = ℕ} 0 1 = cc in omega arith)

module _ (v : View) (m : Message) (passes : take_refusal v m ≡ None) where
  abbrev mine : ℕ
  mine = v.setup.own

  abbrev ahead : Option Refusal
  ahead = unless_found (first_place (is_ahead v) 0 0 (records m)) 14 (room_refusal v (news v m))

  first : (first_place (is_behind v) 0 0 (records m) ≡ None) × (ahead ≡ None)
  first = unfound (first_place (is_behind v) 0 0 (records m)) 13 ahead passes

  second : (first_place (is_ahead v) 0 0 (records m) ≡ None) × (room_refusal v (news v m) ≡ None)
  second = unfound (first_place (is_ahead v) 0 0 (records m)) 14 _ first.1

  pub not_behind : AllByRecursion (λ h. is_behind v h.0 h.1 ≡ false) (told_intervals m)
  not_behind = subst (AllByRecursion (λ h. is_behind v h.0 h.1 ≡ false)) (told_intervals_of 0 m) (none_found (is_behind v) 0 0 (records m) first.0)

  -- every interval begins at what this table has reached, or below it
  pub begun_within : AllByRecursion (λ h. h.1.from ≤ entry v h.0 mine h.1.site) (told_intervals m)
  begun_within =
      All-weaker (λ h. is_behind v h.0 h.1 ≡ false) (λ h. h.1.from ≤ entry v h.0 mine h.1.site) (λ h k. ltb-false (entry v h.0 mine h.1.site) h.1.from k) (told_intervals m) not_behind

  pub room_left : Fits v.room v.history (news v m)
  room_left = room_for v (news v m) second.1

-- no interval goes past the last time that there is
pub latest_in_time : (kind : Meaning) (setup : Setup) (m : Message) → LawfulMessage kind setup m → (t : ℕ) → t ≤ 4000000000 → greatest (λ (h : ℕ × Interval). h.1.to) t (told_intervals m) ≤ 4000000000
latest_in_time kind setup m l t before =
    greatest_le (λ (h : ℕ × Interval). h.1.to) 4000000000 t (told_intervals m) before (All-weaker (λ h. (h.0 < setup.articles) × LawfulInterval setup h.1) (λ h. h.1.to ≤ 4000000000) (λ h k. k.1.in_time) (told_intervals m) (told_intervals_lawful kind setup m l))

-- THE ENTRIES

module _ (kind : Meaning) (v : View) (m : Message) (s : Sound kind v) (l : LawfulMessage kind v.setup m) where
  abbrev own : ℕ
  own = v.setup.own

  abbrev w : View
  w = taken kind v m

  own_lt : own < 8
  own_lt = omega (arith, v.setup.own_site, v.setup.few_sites)

  sender_lt : m.sender < 8
  sender_lt = omega (arith, l.sent, v.setup.few_sites)

  lawful : AllByRecursion (λ h. (h.0 < v.setup.articles) × LawfulInterval v.setup h.1) (told_intervals m)
  lawful = told_intervals_lawful kind v.setup m l

  abbrev about : ℕ → List (ℕ × Interval)
  about a = filter (λ h. eqb h.0 a) (told_intervals m)

  sited : (a : ℕ) → AllByRecursion (λ h. h.1.site < 8) (about a)
  sited a =
      all_kept_by (λ h. eqb h.0 a) (λ h. h.1.site < 8) (told_intervals m) (All-weaker (λ h. (h.0 < v.setup.articles) × LawfulInterval v.setup h.1) (λ h. h.1.site < 8) (λ h k. omega (arith, k.1.of_group, v.setup.few_sites)) (told_intervals m) lawful)

  square_row : (a : ℕ) → a < length v.rows → Square (row v a).known
  square_row a lt = All-get_or (λ r. Square r.known) v.rows a no_row lt s.square

  none_past : (a q : ℕ) → length v.rows ≤ a → highest a q (told_intervals m) ≤ 0
  none_past a q past =
      highest_le a q (told_intervals m) 0 (All-weaker (λ h. (h.0 < v.setup.articles) × LawfulInterval v.setup h.1) (λ h. (h.0 ≡ a) → (h.1.site ≡ q) → h.1.to ≤ 0) (λ h k same _. absurd (omega (arith, k.0, same, s.each_article, v.setup.few_articles))) (told_intervals m) lawful)

  -- this table's entries and the sender's are raised to where the intervals go
  pub taken_told : (a z q : ℕ) → (z ≡ own) ⊎ (z ≡ m.sender) → entry w a z q ≡ max (entry v a z q) (highest a q (told_intervals m))
  taken_told a z q told =
      by_row (taken_row kind v m) v.rows (λ b r. at r.known z q ≡ max (entry v b z q) (highest b q (told_intervals m))) (λ b past. omega (arith, none_past b q past)) (λ b lt. at_told own m.sender own_lt sender_lt z told (row v b).known (about b) (square_row b lt) (sited b) q ∙ ap (max (entry v b z q)) (up_to_highest b q (told_intervals m))) a

  -- and no others change
  pub taken_untold : (a z q : ℕ) → (z ≡ own → ⊥) → (z ≡ m.sender → ⊥) → entry w a z q ≡ entry v a z q
  taken_untold a z q not_own not_sender =
      by_row (taken_row kind v m) v.rows (λ b r. at r.known z q ≡ entry v b z q) (λ b past. refl) (λ b lt. at_untold own m.sender own_lt sender_lt z q not_own not_sender (row v b).known (about b) (square_row b lt)) a

  pub taken_ge : (a z q : ℕ) → entry v a z q ≤ entry w a z q
  taken_ge a z q =
      ⊎_elim
      (λ e. omega (arith, taken_told a z q (inl e)))
      (λ other. ⊎_elim (λ e. omega (arith, taken_told a z q (inr e))) (λ another. omega (arith, taken_untold a z q other another)) (cases_eq z m.sender))
      (cases_eq z own)

  pub taken_reaches : (a z : ℕ) (i : Interval) → (z ≡ own) ⊎ (z ≡ m.sender) → Has (told_intervals m) (a, i) → i.to ≤ entry w a z i.site
  taken_reaches a z i told h = omega (arith, taken_told a z i.site told, highest_ge a i (told_intervals m) h)

  -- no own entry is below another site's
  taken_believed : (a z q : ℕ) → entry w a z q ≤ entry w a own q
  taken_believed a z q =
      let mine = taken_told a own q (inl refl) in
      ⊎_elim
      (λ e. omega (arith, mine, taken_told a z q (inl e), s.believed a z q))
      (λ other. ⊎_elim (λ e. omega (arith, mine, taken_told a z q (inr e), s.believed a z q)) (λ another. omega (arith, mine, taken_untold a z q other another, s.believed a z q)) (cases_eq z m.sender))
      (cases_eq z own)

  -- THE CLOCK

  abbrev to : ℕ × Interval → ℕ
  to h = h.1.to

  taken_clocked : (a q : ℕ) → entry w a own q ≤ w.clock
  taken_clocked a q =
      let high : highest a q (told_intervals m) ≤ w.clock = highest_le a q (told_intervals m) w.clock (All-weaker (λ h. to h ≤ w.clock) (λ h. (h.0 ≡ a) → (h.1.site ≡ q) → to h ≤ w.clock) (λ h k _ _. k) (told_intervals m) (greatest_ge to v.clock (told_intervals m))) in
      omega (arith, taken_told a own q (inl refl), s.clocked a q, greatest_from to v.clock (told_intervals m))

  taken_in_time : w.clock ≤ 4000000000
  taken_in_time = latest_in_time kind v.setup m l v.clock (omega (arith, s.in_time))

  -- THE NEW ACTIONS

  pub news_fitting : AllByRecursion (Fitting kind v.setup) (news v m)
  news_fitting =
      all_kept_by (is_new v) (Fitting kind v.setup) (carried m) (All-weaker (λ x. (c : Section) × LawfulSection kind v.setup c × LawfulAction kind c x) (Fitting kind v.setup) (λ x h. fits x h.0 h.1 h.2) (carried m) (carried_lawful kind v.setup m l))
    where
      fits : (x : Action) (c : Section) → LawfulSection kind v.setup c → LawfulAction kind c x → Fitting kind v.setup x
      fits x c h k = record {
        coordinated = omega (arith, k.carried.2.0, (all-has (LawfulInterval v.setup) c.intervals k.carried.0 h.intervals k.carried.1).of_group);
        timed = omega (arith, k.begun, k.in_turn);
        begun = k.begun;
        in_turn = k.in_turn;
        listed = omega (arith, k.on_article, h.listed);
        known = k.known;
        one_byte = k.one_byte;
        four_bytes = k.four_bytes;
      }

  -- they lie above what the table had reached, and within what it has now
  pub news_above : AllByRecursion (λ x. entry v x.article own x.coordinator < x.time) (news v m)
  news_above = All-weaker (λ x. is_new v x ≡ true) (λ x. entry v x.article own x.coordinator < x.time) (λ x h. ltb-true (entry v x.article own x.coordinator) x.time h) (news v m) (kept_by_passes (is_new v) (carried m))

  pub news_reached : AllByRecursion (λ x. x.time ≤ entry w x.article own x.coordinator) (news v m)
  news_reached =
      all_kept_by (is_new v) (λ x. x.time ≤ entry w x.article own x.coordinator) (carried m) (All-weaker (λ x. (i : Interval) × Has (told_intervals m) (x.article, i) × Carries i x) (λ x. x.time ≤ entry w x.article own x.coordinator) (λ x h.
      subst (λ (q : ℕ). x.time ≤ entry w x.article own q) h.2.0 (omega (arith, h.2.2, taken_reaches x.article own h.0 (inl refl) h.1))) (carried m) (carried_within kind v.setup m l))

  -- none of them stands in the history
  among : AllByRecursion (λ x. AllByRecursion (Ranked x) v.history) (news v m)
  among =
      All-weaker (λ x. entry v x.article own x.coordinator < x.time) (λ x. AllByRecursion (Ranked x) v.history) (λ x above.
      All-weaker (λ y. y.time ≤ entry v y.article own y.coordinator) (Ranked x) (λ y below. ranked_unless x y (λ c t a. let same : entry v x.article own x.coordinator ≡ entry v y.article own y.coordinator = (λ i. entry v (a i) own (c i)) in omega (arith, above, below, t, same))) v.history s.reached) (news v m) news_above

  pub taken_ordered : Ascending (taken_history v m)
  taken_ordered = folded_placed_ranked v.history (news v m) s.ordered (pairwise_kept Ranked (is_new v) (carried m) (carried_ranked kind v.setup m l)) among

-- SOUNDNESS

module _ (kind : Meaning) (step_fits : (f : ℤ) (o : ℕ) (a : ℤ) → SFits w64 f → SFits w64 (kind.steps f o a)) (commute : (f : ℤ) (o : ℕ) (a : ℤ) (p : ℕ) (b : ℤ) → SFits w64 f → kind.commutes ≡ true → kind.knows o a ≡ true → kind.knows p b ≡ true → kind.steps (kind.steps f o a) p b ≡ kind.steps (kind.steps f p b) o a) where
  module _ (v : View) (m : Message) (s : Sound kind v) (l : LawfulMessage kind v.setup m) where
    abbrev u : View
    u = taken kind v m

    new_row : (a : ℕ) → a < 64 → row u a ≡ taken_row kind v m a (row v a)
    new_row a lt = row_each (taken_row kind v m) v.rows a (omega (arith, s.each_article))

    known : (xs : List Action) → AllByRecursion (Fitting kind v.setup) xs → AllByRecursion (λ x. knows_action kind.knows x ≡ true) xs
    known xs h = All-weaker (Fitting kind v.setup) (λ x. knows_action kind.knows x ≡ true) (λ x k. k.known) xs h

    taken_worked : (a : ℕ) → a < 64 → (row u a).kept ≡ working kind.steps (row u a).base (on a u.history)
    taken_worked a lt =
        subst (λ (r : Row). r.kept ≡ working kind.steps r.base (on a u.history)) (sym (new_row a lt)) (by_kind kind.commutes refl)
      where
        by_kind : (b : Bool) → kind.commutes ≡ b → cond b (working kind.steps (row v a).kept (on a (news v m))) (working kind.steps (row v a).base (on a (taken_history v m))) ≡ working kind.steps (row v a).base (on a (taken_history v m))
        by_kind true commutes =
            ap (λ f. working kind.steps f (on a (news v m))) (s.worked a lt) ∙ sym (working_placed kind.steps step_fits kind.knows (λ f o x p y fits. commute f o x p y fits commutes) (row v a).base a v.history (news v m) (s.based a) (known v.history s.fitting) (known (news v m) (news_fitting kind v m s l)))
        by_kind false _ = refl

    pub taken_sound : take_refusal v m ≡ None → v.is_open ≡ false → Sound kind (taken kind v m)
    taken_sound passes shut = record {
      ordered = taken_ordered kind v m s l;
      held = omega (arith, room_left v m passes, length_folded_placed v.history (news v m));
      few_places = s.few_places;
      fitting = folded_placed_all (Fitting kind v.setup) v.history (news v m) s.fitting (news_fitting kind v m s l);
      reached = folded_placed_all (λ x. x.time ≤ entry u x.article v.setup.own x.coordinator) v.history (news v m) (All-weaker (λ x. x.time ≤ entry v x.article v.setup.own x.coordinator) (λ x. x.time ≤ entry u x.article v.setup.own x.coordinator) (λ x h. omega (arith, h, taken_ge kind v m s l x.article v.setup.own x.coordinator)) v.history s.reached) (news_reached kind v m s l);
      believed = taken_believed kind v m s l;
      clocked = taken_clocked kind v m s l;
      in_time = omega (arith, taken_in_time kind v m s l, ap length none);
      worked = taken_worked;
      based = by_row (taken_row kind v m) v.rows (λ a r. SFits w64 r.base) (λ a _. s.based a) (λ a _. s.based a);
      each_article = length_each_row (taken_row kind v m) 0 v.rows ∙ s.each_article;
      square = All-from_get_or (λ r. Square r.known) u.rows no_row (λ a lt. let within : a < length v.rows = omega (arith, length_each_row (taken_row kind v m) 0 v.rows) in subst (λ (r : Row). Square r.known) (sym (row_each (taken_row kind v m) v.rows a within)) (square_told v.setup.own m.sender (own_lt kind v m s l) (sender_lt kind v m s l) (row v a).known (about kind v m s l a) (square_row kind v m s l a within)));
      few = s.few;
      waiting = subst (AllWaiting kind v.setup u.clock 0) (sym none) tt;
      closed = s.closed;
    }
      where
        none : v.pending ≡ []
        none = s.closed shut

  pub take_keeps : (v after : View) → Sound kind v → (bytes : List ℕ) (r : Result ℕ TableFault) → Took kind v bytes r after → Sound kind after
  take_keeps v after s bytes (Ok n) (shut, took) = subst (Sound kind) (sym took.5) (taken_sound v took.0 s took.1 took.3 shut)
  take_keeps v after s bytes (Err e) h = subst (Sound kind) (sym h.1) s
