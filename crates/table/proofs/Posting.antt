-- What a commit does to the rows. Assumes nothing.
use Rattle.std.proofs.Common.{◌≡◌, ℕ, ◌<◌, Bool, true, false, cond, List, ◌++◌, length, get_or, ap, ◌∙◌, arith}
use Rattle.kind.specs.Meaning.{Meaning}
use Rattle.kind.specs.Working.{on, working}
use Rattle.row.specs.declared.row.Row.{Row}
use Rattle.row.specs.Rows.{posted_rows, raised_row, reworked_rows, stepped_rows}
use Rattle.row.specs.Entries.{each_row, no_row}
use Rattle.row.proofs.RowLaws.{by_rows, length_on_articles, length_reworked, length_stepped, raised_from, row_on_articles, row_reworked, row_stepped}
use Rattle.table.specs.Transactions.{committed_row, latest}
use Rattle.table.specs.View.{View}

module _ (kind : Meaning) (v : View) where
  abbrev own : ℕ
  own = v.setup.own

  -- the rows with the own entries raised
  abbrev posted : List Row
  posted = posted_rows own v.rows v.pending

  posted_row : (a : ℕ) → a < length v.rows → get_or posted a no_row ≡ raised_row own own (latest a v.pending) (get_or v.rows a no_row)
  posted_row a within =
      row_on_articles (λ x. x.article) (λ x. raised_row own own x.time) v.rows v.pending a within ∙ raised_from own own (get_or v.rows a no_row) (on a v.pending)

  long_posted : length posted ≡ length v.rows
  long_posted = length_on_articles (λ x. x.article) (λ x. raised_row own own x.time) v.rows v.pending

  -- and then with the figures worked, for a commuting kind and for any other
  abbrev worked_rows : Bool → List Row
  worked_rows commutes = cond commutes (stepped_rows kind.steps posted v.pending) (reworked_rows kind.steps posted (v.history ++ v.pending))

  -- a row with its figure worked from the given one
  abbrev worked : Bool → ℕ → Row → Row
  worked commutes a r = record r {
    kept = cond commutes (working kind.steps r.kept (on a v.pending)) (working kind.steps r.base (on a (v.history ++ v.pending)));
  }

  each : (commutes : Bool) (a : ℕ) → a < length v.rows → get_or (worked_rows commutes) a no_row ≡ worked commutes a (get_or posted a no_row)
  each true a within = row_stepped kind.steps posted v.pending a (omega (arith, long_posted))
  each false a within = row_reworked kind.steps posted (v.history ++ v.pending) a (omega (arith, long_posted))

  long : (commutes : Bool) → length (worked_rows commutes) ≡ length v.rows
  long true = length_stepped kind.steps posted v.pending ∙ long_posted
  long false = length_reworked kind.steps posted (v.history ++ v.pending) ∙ long_posted

  pub rows_posted : worked_rows kind.commutes ≡ each_row (committed_row kind v) 0 v.rows
  rows_posted = by_rows (committed_row kind v) v.rows _ (long kind.commutes) (λ a within. each kind.commutes a within ∙ ap (worked kind.commutes a) (posted_row a within))
