-- What taking a message does to the rows. Assumes nothing.
use Rattle.std.proofs.Common.{◌≡◌, ℕ, ◌<◌, Bool, true, false, cond, eqb, List, [], length, get_or, fold, filter, sym, refl, ap, ◌∙◌, arith}
use Rattle.action.specs.Order.{placed}
use Rattle.kind.specs.Meaning.{Meaning}
use Rattle.kind.specs.Working.{on, working}
use Rattle.message.specs.declared.record.Interval.{Interval}
use Rattle.message.specs.Format.{Message, records, told_intervals}
use Rattle.message.specs.Walks.{actions_of, intervals_of, record_in, records_in, its_sender}
use Rattle.message.proofs.Carried.{carried_of, told_intervals_of}
use Rattle.message.proofs.Walking.{record_begins}
use Rattle.row.specs.declared.row.Row.{Row}
use Rattle.row.specs.Rows.{raised_row_by, raised_rows, reworked_rows, stepped_rows}
use Rattle.row.specs.Passes.{new_actions, raised_by}
use Rattle.row.specs.Entries.{each_row, no_row}
use Rattle.row.proofs.RowLaws.{by_rows, length_on_articles, length_reworked, length_stepped, row_on_articles, row_reworked, row_stepped, told_by}
use Rattle.table.specs.Taking.{is_new, news, taken_history, taken_row}
use Rattle.table.specs.View.{View}

-- READ FROM BYTES

-- what the passes read of a message's bytes is the message's
module _ (m : Message) (bytes : List ℕ) (is : records_in bytes ≡ records m) where
  pub intervals_in : intervals_of 0 (records_in bytes) ≡ told_intervals m
  intervals_in = ap (intervals_of 0) is ∙ told_intervals_of 0 m

  pub sender_is : its_sender (record_in bytes) ≡ m.sender
  sender_is = ap its_sender (record_begins bytes _ _ is)

pub new_in : (v : View) (m : Message) (bytes : List ℕ) → records_in bytes ≡ records m → new_actions v.rows v.setup.own bytes ≡ news v m
new_in v m bytes is = ap (λ rs. filter (is_new v) (actions_of rs)) is ∙ ap (filter (is_new v)) (carried_of m)

-- THE ROWS

module _ (kind : Meaning) (v : View) (m : Message) where
  abbrev own : ℕ
  own = v.setup.own

  abbrev hs : List (ℕ × Interval)
  hs = told_intervals m

  abbrev told : List Row → List Row
  told rows = fold (raised_rows own m.sender) rows hs

  long_told : (rows : List Row) → length (told rows) ≡ length rows
  long_told rows = length_on_articles (λ h. h.0) (raised_row_by own m.sender) rows hs

  abbrev hs_on : ℕ → List (ℕ × Interval)
  hs_on a = filter (λ h. eqb h.0 a) hs

  -- a row with its entries raised by the intervals on its article
  abbrev told_row : ℕ → Row → Row
  told_row a r = record r { known = fold (raised_by own m.sender) r.known (hs_on a) }

  row_told : (rows : List Row) (a : ℕ) → a < length rows → get_or (told rows) a no_row ≡ told_row a (get_or rows a no_row)
  row_told rows a within =
      row_on_articles (λ h. h.0) (raised_row_by own m.sender) rows hs a within ∙ told_by own m.sender (get_or rows a no_row) (hs_on a)

  abbrev changed : Bool → ℕ → Row → Row
  changed commutes a r = record r {
    kept = cond commutes (working kind.steps r.kept (on a (news v m))) (working kind.steps r.base (on a (taken_history v m)));
    known = fold (raised_by own m.sender) r.known (hs_on a);
  }

  -- the rows that the passes leave, for a commuting kind and for any other
  abbrev pub recorded : Bool → List Row
  recorded true = told (stepped_rows kind.steps v.rows (news v m))
  recorded false = reworked_rows kind.steps (told v.rows) (taken_history v m)

  pub recorded_by : (commutes : Bool) → cond commutes (recorded true) (recorded false) ≡ recorded commutes
  recorded_by true = refl
  recorded_by false = refl

  long : (commutes : Bool) → length (recorded commutes) ≡ length v.rows
  long true = long_told (stepped_rows kind.steps v.rows (news v m)) ∙ length_stepped kind.steps v.rows (news v m)
  long false = length_reworked kind.steps (told v.rows) (taken_history v m) ∙ long_told v.rows

  each : (commutes : Bool) (a : ℕ) → a < length v.rows → get_or (recorded commutes) a no_row ≡ changed commutes a (get_or v.rows a no_row)
  each true a within =
      row_told (stepped_rows kind.steps v.rows (news v m)) a (omega (arith, length_stepped kind.steps v.rows (news v m))) ∙ ap (told_row a) (row_stepped kind.steps v.rows (news v m) a within)
  each false a within =
      row_reworked kind.steps (told v.rows) (taken_history v m) a (omega (arith, long_told v.rows)) ∙ ap (λ (r : Row). record r { kept = working kind.steps r.base (on a (taken_history v m)) }) (row_told v.rows a within)

  pub rows_recorded : recorded kind.commutes ≡ each_row (taken_row kind v m) 0 v.rows
  rows_recorded = by_rows (taken_row kind v m) v.rows (recorded kind.commutes) (long kind.commutes) (each kind.commutes)

  -- where nothing is new and the figures are worked, only the entries change
  pub rows_raised : news v m ≡ [] → ((a : ℕ) → a < length v.rows → (get_or v.rows a no_row).kept ≡ working kind.steps (get_or v.rows a no_row).base (on a v.history)) → told v.rows ≡ each_row (taken_row kind v m) 0 v.rows
  rows_raised none worked = by_rows (taken_row kind v m) v.rows (told v.rows) (long_told v.rows) at
    where
      kept : (r : Row) (a : ℕ) → r.kept ≡ working kind.steps r.base (on a v.history) → (commutes : Bool) → r.kept ≡ cond commutes (working kind.steps r.kept (on a (news v m))) (working kind.steps r.base (on a (taken_history v m)))
      kept r a is true = ap (λ xs. working kind.steps r.kept (on a xs)) (sym none)
      kept r a is false = is ∙ ap (λ xs. working kind.steps r.base (on a (fold placed v.history xs))) (sym none)

      at : (a : ℕ) → a < length v.rows → get_or (told v.rows) a no_row ≡ taken_row kind v m a (get_or v.rows a no_row)
      at a within =
          let r = get_or v.rows a no_row in
          row_told v.rows a within ∙ ap (λ k. record (told_row a r) { kept = k }) (kept r a (worked a within) kind.commutes)
