-- A new table is sound, and a transaction's calls keep a sound table sound: open, write, abandon and commit.
-- Assumes nothing.
use Rattle.std.proofs.Common.{◌≡◌, ℕ, ◌+◌, ◌<◌, ◌≤◌, max, Bool, true, false, cond, List, [], ◌∷◌, ◌++◌, length, get_or, ℤ, None, Ok, Err, Option, Result, sym, refl, ap, ◌∙◌, subst, ⊎_elim, arith, w32, w64, SFits}
use Rattle.std.specs.List.{AllByRecursion}
use Rattle.std.proofs.ByRecursion.{All-append, All-from_get_or, All-get_or, All-weaker}
use Rattle.std.proofs.lemmas.List.{get_or_past, get_or-replicate, length-append, length_push}
use Rattle.std.proofs.lemmas.Bool.{and_parts, cases_eq, cases_lt, false≢true, leb-true, ltb-true}
use Rattle.action.specs.declared.action.Action.{Action}
use Rattle.action.specs.declared.refusal.Refusal.{Refusal}
use Rattle.action.specs.declared.setup.Setup.{Setup}
use Rattle.action.specs.Lawful.{unless}
use Rattle.action.proofs.Sequence.{ascending_append}
use Rattle.history.specs.Room.{Fits, Room, Small}
use Rattle.kind.specs.Meaning.{Meaning}
use Rattle.kind.specs.Working.{on, working}
use Rattle.kind.proofs.Workings.{on_append, working_append}
use Rattle.message.specs.Progress.{no_action}
use Rattle.row.specs.declared.row.Row.{Row}
use Rattle.row.specs.Entries.{at, no_row, raised, start_row}
use Rattle.row.proofs.RowLaws.{by_row, length_each_row, row_each, row_past}
use Rattle.table.specs.declared.table_fault.TableFault.{TableFault}
use Rattle.table.specs.declared.ticket.Ticket.{Ticket}
use Rattle.table.specs.Room.{room_refusal}
use Rattle.table.specs.Sound.{AllWaiting, Fitting, Sound, Square, Waiting}
use Rattle.table.specs.Transactions.{Abandoned, Committed, Opened, Wrote, abandoned, committed, committed_row, holds, latest, new_action, next_time, opened, with_transaction, written}
use Rattle.table.specs.View.{View, entry, fresh, row}
use Rattle.table.proofs.Entries.{at_raised, at_raised_column, at_raised_ge, at_raised_row, at_unknown, square_raised}
use Rattle.table.proofs.Waiting.{latest_ge, latest_le, waiting_ascending, waiting_fitting, waiting_own, waiting_push, waiting_times}

-- a check that was passed
pub passed : (b : Bool) (r : Refusal) (rest : Option Refusal) → unless b r rest ≡ None → (b ≡ true) × (rest ≡ None)
passed true r rest h = (refl, h)
passed false r rest h = absurd (let z : ◌≡◌ {A = ℕ} 0 1 = cc in omega arith)

-- where nothing refuses them, there is room for new actions
pub room_for : (v : View) (new : List Action) → room_refusal v new ≡ None → Fits v.room v.history new
room_for v new h = leb-true (length v.history + length new) v.room.places (passed _ _ _ h).0

-- NEW

module _ (kind : Meaning) (setup : Setup) (room : Room) (few_places : Small room) (start_fits : SFits w64 kind.starts) where
  abbrev first : View
  first = fresh kind setup room

  fresh_row : (P : Row → Type 0) → P (start_row kind.starts) → P no_row → (a : ℕ) → P (row first a)
  fresh_row P s n a =
      ⊎_elim
      (λ lt. subst P (sym (get_or-replicate 64 a (start_row kind.starts) no_row lt)) s)
      (λ past. subst P (sym (get_or_past first.rows a no_row past)) n)
      (cases_lt a 64)

  pub fresh_entry : (a z q : ℕ) → entry first a z q ≡ 0
  fresh_entry a z q = fresh_row (λ r. at r.known z q ≡ 0) (at_unknown z q) refl a

  pub fresh_sound : Sound kind first
  fresh_sound = record {
    ordered = tt;
    held = omega arith;
    few_places = few_places;
    fitting = tt;
    reached = tt;
    believed = λ a z q. omega (arith, fresh_entry a z q);
    clocked = λ a q. omega (arith, fresh_entry a setup.own q);
    in_time = omega arith;
    worked = λ a _. fresh_row (λ r. r.kept ≡ r.base) refl refl a;
    based = fresh_row (λ r. SFits w64 r.base) start_fits (record { sfits = omega arith });
    each_article = refl;
    square = All-from_get_or (λ r. Square r.known) first.rows no_row (λ a lt. subst (λ (r : Row). Square r.known) (sym (get_or-replicate 64 a (start_row kind.starts) no_row lt)) (refl, (refl, (refl, (refl, (refl, (refl, (refl, (refl, (refl, tt))))))))));
    few = omega arith;
    waiting = tt;
    closed = λ _. refl;
  }

-- OPEN, WRITE AND ABANDON

module _ (kind : Meaning) (v : View) (s : Sound kind v) where
  -- only what Sound says of the transaction is left to show
  with_transaction_sound : (is_open : Bool) (pending : List Action) → v.clock + length pending ≤ 4000000000 → length pending ≤ 16 → AllWaiting kind v.setup v.clock 0 pending → (is_open ≡ false → pending ≡ []) → Sound kind (with_transaction is_open pending v)
  with_transaction_sound is_open pending in_time few waiting closed = record {
    ordered = s.ordered;
    held = s.held;
    few_places = s.few_places;
    fitting = s.fitting;
    reached = s.reached;
    believed = s.believed;
    clocked = s.clocked;
    in_time = in_time;
    worked = s.worked;
    based = s.based;
    each_article = s.each_article;
    square = s.square;
    few = few;
    waiting = waiting;
    closed = closed;
  }

  pub opened_sound : Sound kind (opened v)
  opened_sound = with_transaction_sound true v.pending s.in_time s.few s.waiting (λ e. absurd (false≢true (sym e)))

  pub abandoned_sound : Sound kind (abandoned v)
  abandoned_sound = with_transaction_sound false [] (omega (arith, s.in_time)) (omega arith) tt (λ _. refl)

  pub written_sound : (x : Action) → v.is_open ≡ true → Waiting kind v.setup v.clock (length v.pending) x → length v.pending < 16 → next_time v ≤ 4000000000 → Sound kind (written v x)
  written_sound x is_open w few late =
      let waits : Waiting kind v.setup v.clock (0 + length v.pending) x = subst (λ (n : ℕ). Waiting kind v.setup v.clock n x) (omega arith) w in
      let long = length_push v.pending x in
      with_transaction_sound v.is_open (v.pending ++ (x ∷ [])) (omega (arith, long)) (omega (arith, long)) (waiting_push kind v.setup v.clock 0 v.pending x s.waiting waits) (λ e. absurd (false≢true (sym e ∙ is_open)))

-- COMMIT

module _ (kind : Meaning) (v : View) (s : Sound kind v) (free : Fits v.room v.history v.pending) where
  abbrev own : ℕ
  own = v.setup.own

  abbrev w : View
  w = committed kind v

  own_lt : own < 8
  own_lt = omega (arith, v.setup.own_site, v.setup.few_sites)

  long : length w.rows ≡ 64
  long = length_each_row (committed_row kind v) 0 v.rows ∙ s.each_article

  pub committed_row_lem : (a : ℕ) → a < 64 → row w a ≡ committed_row kind v a (row v a)
  committed_row_lem a lt = row_each (committed_row kind v) v.rows a (omega (arith, s.each_article))

  same_row : (a : ℕ) → 64 ≤ a → row w a ≡ row v a
  same_row a past = row_past (committed_row kind v) v.rows a (omega (arith, s.each_article))

  square_row : (a : ℕ) → a < 64 → Square (row v a).known
  square_row a lt = All-get_or (λ r. Square r.known) v.rows a no_row (omega (arith, s.each_article)) s.square

  -- what holds of an article's entries holds where they are those before the commit, and where the own one is raised
  by_entry : (P : ℕ → (ℕ → ℕ → ℕ) → Type 0) → ((a : ℕ) → 64 ≤ a → P a (entry v a)) → ((a : ℕ) → a < 64 → P a (at (raised (row v a).known own own (latest a v.pending)))) → (a : ℕ) → P a (entry w a)
  by_entry P old new = by_row (committed_row kind v) v.rows (λ a r. P a (at r.known)) (λ a past. old a (omega (arith, s.each_article))) (λ a lt. new a (omega (arith, s.each_article)))

  pub committed_entry_ge : (a z q : ℕ) → entry v a z q ≤ entry w a z q
  committed_entry_ge a z q =
      by_entry (λ b e. entry v b z q ≤ e z q) (λ b _. omega arith) (λ b lt. at_raised_ge (row v b).known own own (latest b v.pending) (square_row b lt) own_lt own_lt z q) a

  pub committed_entry_own : (a : ℕ) → a < 64 → entry w a own own ≡ max (entry v a own own) (latest a v.pending)
  committed_entry_own a lt = ap (λ (r : Row). at r.known own own) (committed_row_lem a lt) ∙ at_raised (row v a).known own own (latest a v.pending) (square_row a lt) own_lt own_lt

  pub committed_entry_row : (a z q : ℕ) → (z ≡ own → ⊥) → entry w a z q ≡ entry v a z q
  committed_entry_row a z q other =
      by_entry (λ b e. e z q ≡ entry v b z q) (λ b _. refl) (λ b lt. at_raised_row (row v b).known own own (latest b v.pending) (square_row b lt) z q other) a

  pub committed_entry_column : (a q : ℕ) → (q ≡ own → ⊥) → entry w a own q ≡ entry v a own q
  committed_entry_column a q other =
      by_entry (λ b e. e own q ≡ entry v b own q) (λ b _. refl) (λ b lt. at_raised_column (row v b).known own own (latest b v.pending) (square_row b lt) own_lt q other) a

  times : AllByRecursion (λ x. (v.clock + 0 < x.time) × (x.time ≤ v.clock + 0 + length v.pending)) v.pending
  times = waiting_times kind v.setup v.clock 0 v.pending s.waiting

  latest_in_time : (a : ℕ) → latest a v.pending ≤ v.clock + length v.pending
  latest_in_time a =
      latest_le (v.clock + length v.pending) a v.pending (All-weaker (λ x. (v.clock + 0 < x.time) × (x.time ≤ v.clock + 0 + length v.pending)) (λ x. x.time ≤ v.clock + length v.pending) (λ x h. omega (arith, h.1)) v.pending times)

  clocked : (a q : ℕ) → entry w a own q ≤ v.clock + length v.pending
  clocked a q =
      ⊎_elim
      (λ same. subst (λ (n : ℕ). entry w a own n ≤ v.clock + length v.pending) (sym same)
      (⊎_elim (λ lt. omega (arith, committed_entry_own a lt, s.clocked a own, latest_in_time a)) (λ past. omega (arith, ap (λ (r : Row). at r.known own own) (same_row a past), s.clocked a own)) (cases_lt a 64)))
      (λ other. omega (arith, committed_entry_column a q other, s.clocked a q))
      (cases_eq q own)

  believed : (a z q : ℕ) → entry w a z q ≤ entry w a own q
  believed a z q =
      ⊎_elim
      (λ same. subst (λ (n : ℕ). entry w a n q ≤ entry w a own q) (sym same) (omega arith))
      (λ other. omega (arith, committed_entry_row a z q other, s.believed a z q, committed_entry_ge a own q))
      (cases_eq z own)

  -- a pending action's time is reached by the article's own entry
  reached_pending : AllByRecursion (λ x. x.time ≤ entry w x.article own x.coordinator) v.pending
  reached_pending =
      All-from_get_or _ v.pending no_action (λ i lt.
      let x = get_or v.pending i no_action in
      let a = x.article in
      let listed : a < v.setup.articles = (All-get_or (Fitting kind v.setup) v.pending i no_action lt (waiting_fitting kind v.setup v.clock 0 v.pending s.waiting)).listed in
      let mine : x.coordinator ≡ own = All-get_or (λ x. x.coordinator ≡ own) v.pending i no_action lt (waiting_own kind v.setup v.clock 0 v.pending s.waiting) in
      let late : x.time ≤ latest a v.pending = All-get_or (λ x. x.article ≡ a → x.time ≤ latest a v.pending) v.pending i no_action lt (latest_ge a v.pending) refl in
      subst (λ (n : ℕ). x.time ≤ entry w a own n) (sym mine) (omega (arith, committed_entry_own a (omega (arith, v.setup.few_articles)))))

  worked : (a : ℕ) → a < 64 → (row w a).kept ≡ working kind.steps (row w a).base (on a w.history)
  worked a lt =
      subst (λ (r : Row). r.kept ≡ working kind.steps r.base (on a w.history)) (sym (committed_row_lem a lt)) (by_kind kind.commutes)
    where
      by_kind : (b : Bool) → cond b (working kind.steps (row v a).kept (on a v.pending)) (working kind.steps (row v a).base (on a (v.history ++ v.pending))) ≡ working kind.steps (row v a).base (on a (v.history ++ v.pending))
      by_kind true =
          ap (λ f. working kind.steps f (on a v.pending)) (s.worked a lt) ∙ sym (ap (working kind.steps (row v a).base) (on_append a v.history v.pending) ∙ working_append kind.steps (row v a).base (on a v.history) (on a v.pending))
      by_kind false = refl

  pub committed_sound : Sound kind w
  committed_sound = record {
    ordered = ascending_append v.clock v.history v.pending in_clock (All-weaker (λ x. (v.clock + 0 < x.time) × (x.time ≤ v.clock + 0 + length v.pending)) (λ x. v.clock < x.time) (λ x h. omega (arith, h.0)) v.pending times) s.ordered (waiting_ascending kind v.setup v.clock 0 v.pending s.waiting);
    held = omega (arith, length-append v.history v.pending);
    few_places = s.few_places;
    fitting = All-append (Fitting kind v.setup) v.history v.pending s.fitting (waiting_fitting kind v.setup v.clock 0 v.pending s.waiting);
    reached = All-append (λ x. x.time ≤ entry w x.article own x.coordinator) v.history v.pending (All-weaker (λ x. x.time ≤ entry v x.article own x.coordinator) (λ x. x.time ≤ entry w x.article own x.coordinator) (λ x h. omega (arith, h, committed_entry_ge x.article own x.coordinator)) v.history s.reached) reached_pending;
    believed = believed;
    clocked = clocked;
    in_time = omega (arith, s.in_time);
    worked = worked;
    based = by_row (committed_row kind v) v.rows (λ a r. SFits w64 r.base) (λ a _. s.based a) (λ a _. s.based a);
    each_article = long;
    square = All-from_get_or (λ r. Square r.known) w.rows no_row (λ a lt. let below : a < 64 = omega (arith, long) in subst (λ (r : Row). Square r.known) (sym (committed_row_lem a below)) (square_raised (row v a).known own own (latest a v.pending) (square_row a below)));
    few = omega arith;
    waiting = tt;
    closed = λ _. refl;
  }
    where
      in_clock : AllByRecursion (λ x. x.time ≤ v.clock) v.history
      in_clock = All-weaker (λ x. x.time ≤ entry v x.article own x.coordinator) (λ x. x.time ≤ v.clock) (λ x h. omega (arith, h, s.clocked x.article x.coordinator)) v.history s.reached

-- THE CALLS

module _ (kind : Meaning) (v w : View) (s : Sound kind v) where
  pub open_keeps : (r : Result Ticket TableFault) → Opened kind v r w → Sound kind w
  open_keeps (Ok t) h = subst (Sound kind) (sym h.2) (opened_sound kind v s)
  open_keeps (Err e) h = subst (Sound kind) (sym h.1) s

  pub abandon_keeps : (t : Ticket) (r : Result Unit (TableFault × Ticket)) → Abandoned kind v t r w → Sound kind w
  abandon_keeps t (Ok _) h = subst (Sound kind) (sym h.1) (abandoned_sound kind v s)
  abandon_keeps t (Err e) h = subst (Sound kind) (sym h.2) s

  pub write_keeps : (t : Ticket) (article operation : ℕ) (amount : ℤ) → operation < 256 → SFits w32 amount → (r : Result ℕ TableFault) → Wrote kind v t article operation amount r w → Sound kind w
  write_keeps t article operation amount one four (Err e) h = subst (Sound kind) (sym h.1) s
  write_keeps t article operation amount one four (Ok time) h =
      let held = passed (holds kind v t) _ _ h.0 in
      let listed = passed _ _ _ held.1 in
      let known = passed (kind.knows operation amount) _ _ listed.1 in
      let few = passed _ _ _ known.1 in
      let late = passed _ _ _ few.1 in
      subst (Sound kind) (sym h.2) (written_sound kind v s (new_action v article operation amount) (and_parts v.is_open _ held.0).0 (record {
        coordinated = refl;
        timed = refl;
        numbered = refl;
        listed = ltb-true article v.setup.articles listed.0;
        known = known.0;
        one_byte = one;
        four_bytes = four;
      }) (ltb-true (length v.pending) 16 few.0) (leb-true (next_time v) 4000000000 late.0))

  pub commit_keeps : (t : Ticket) (b after : List ℕ) (r : Result (ℕ × ℕ) (TableFault × Ticket)) → Committed kind v t b r w after → Sound kind w
  commit_keeps t b after (Err e) h = subst (Sound kind) (sym h.2) s
  commit_keeps t b after (Ok r) h =
      let held = passed (holds kind v t) _ _ h.0 in
      subst (Sound kind) (sym h.3) (committed_sound kind v s (room_for v v.pending held.1))
