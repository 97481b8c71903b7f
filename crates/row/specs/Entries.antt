-- What is kept of one article, and its known entries. Assumes nothing.
use Rattle.std.specs.Prelude.{ℕ, suc, max, List, [], ◌∷◌, get_or, replicate, ℤ, pos, slice_index, slice_index_or, slice_set}
use Rattle.row.specs.declared.row.Row.{Row}

-- no site is known to have reached anything
abbrev pub unknown : List (List ℕ)
unknown = replicate 8 (replicate 8 0)

abbrev pub start_row : ℤ → Row
start_row figure = record { base = figure; kept = figure; known = unknown }

-- stands for a row where there is none
abbrev pub no_row : Row
no_row = record { base = pos 0; kept = pos 0; known = [] }

-- K[z][q]: up to what time site z is known to have the actions of site q
abbrev pub at : List (List ℕ) → ℕ → ℕ → ℕ
at known z q = slice_index (slice_index_or known z []) q

-- an article's known entry
abbrev pub entry_in : List Row → ℕ → ℕ → ℕ → ℕ
entry_in rows a z q = at (get_or rows a no_row).known z q

-- entry K[z][q] raised to a time, where it is lower
abbrev pub raised : List (List ℕ) → ℕ → ℕ → ℕ → List (List ℕ)
raised known z q to = slice_set known z (slice_set (slice_index_or known z []) q (max (at known z q) to))

-- each row changed by f, which is given the row's article; that of the first row is a
abbrev pub each_row : (ℕ → Row → Row) → ℕ → List Row → List Row
each_row f a [] = []
each_row f a (r ∷ rs) = f a r ∷ each_row f (suc a) rs
