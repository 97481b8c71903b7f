-- What actions do to the rows of a table. Assumes nothing.
use Rattle.std.specs.Prelude.{ℕ, List, map, ℤ, fold, slice_index_or, slice_set}
use Rattle.action.specs.declared.action.Action.{Action}
use Rattle.message.specs.declared.record.Interval.{Interval}
use Rattle.message.specs.Walks.{intervals_of, record_in, records_in, its_sender}
use Rattle.row.specs.declared.row.Row.{Row}
use Rattle.row.specs.Entries.{no_row, raised}
use Rattle.row.specs.Passes.{raised_by}

abbrev pub raised_row : ℕ → ℕ → ℕ → Row → Row
raised_row z q to r = record r { known = raised r.known z q to }

abbrev pub stepped_row : (ℤ → ℕ → ℤ → ℤ) → Action → Row → Row
stepped_row steps x r = record r { kept = steps r.kept x.operation x.amount }

-- the kept figure is the base again
abbrev pub restarted : Row → Row
restarted r = record r { kept = r.base }

-- a change to the row of an article, where there is one
abbrev pub changed_row : (Row → Row) → List Row → ℕ → List Row
changed_row change rows a = slice_set rows a (change (slice_index_or rows a no_row))

-- a change by x to the row of its article
abbrev pub on_article_row : {X : Type 0} → (X → ℕ) → (X → Row → Row) → List Row → X → List Row
on_article_row article change rows x = changed_row (change x) rows (article x)

-- a change to the row of an action's article
abbrev pub on_row : (Action → Row → Row) → List Row → Action → List Row
on_row change = on_article_row (λ x. x.article) change

-- the own entries of actions' articles raised to their times
abbrev pub posted_rows : ℕ → List Row → List Action → List Row
posted_rows own = fold (on_row (λ x. raised_row own own x.time))

-- the kept figures stepped by actions, in their order
abbrev pub stepped_rows : (ℤ → ℕ → ℤ → ℤ) → List Row → List Action → List Row
stepped_rows steps = fold (on_row (stepped_row steps))

-- the kept figures worked again, from the bases by actions
abbrev pub reworked_rows : (ℤ → ℕ → ℤ → ℤ) → List Row → List Action → List Row
reworked_rows steps rows = stepped_rows steps (map restarted rows)

-- this site and the sender have what an interval on the row's article carries
abbrev pub raised_row_by : ℕ → ℕ → ℕ × Interval → Row → Row
raised_row_by own sender h r = record r { known = raised_by own sender r.known h }

-- the same to the row of the interval's article
abbrev pub raised_rows : ℕ → ℕ → List Row → ℕ × Interval → List Row
raised_rows own sender = on_article_row (λ h. h.0) (raised_row_by own sender)

-- the same of all intervals of a message's bytes
abbrev pub raised_by_message : ℕ → List ℕ → List Row → List Row
raised_by_message own bytes rows =
    fold (raised_rows own (its_sender (record_in bytes))) rows (intervals_of 0 (records_in bytes))
