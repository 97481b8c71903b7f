-- Changes to rows, action by action and article by article. Assumes nothing.
use Rattle.std.proofs.Common.{◌≡◌, ℕ, zero, suc, ◌+◌, ◌<◌, ◌≤◌, max, cond, eqb, List, [], ◌∷◌, map, length, get_or, set, ℤ, fold, filter, sym, refl, ap, ◌∙◌, subst, ⊎_elim, add-zero, zero-add, arith}
use Rattle.std.proofs.lemmas.List.{ext_get_or, get_or-map, get_or_past, get_or-set_other, get_or-set_same, length-map, length-set, set-get_or, set_past, set-set}
use Rattle.std.proofs.lemmas.Bool.{cases_eq, cases_lt, eq-eqb, ne_eqb}
use Rattle.action.specs.declared.action.Action.{Action}
use Rattle.kind.specs.Working.{on, working}
use Rattle.message.specs.declared.record.Interval.{Interval}
use Rattle.row.specs.declared.row.Row.{Row}
use Rattle.row.specs.Rows.{on_article_row, raised_row, raised_row_by, restarted, reworked_rows, stepped_row, stepped_rows}
use Rattle.row.specs.Passes.{raised_by}
use Rattle.row.specs.Entries.{at, each_row, no_row, raised}

pub length_each_row : (f : ℕ → Row → Row) (k : ℕ) (rows : List Row) → length (each_row f k rows) ≡ length rows
length_each_row f k [] = refl
length_each_row f k (r ∷ rows) = ap suc (length_each_row f (suc k) rows)

pub get_d_each_row : (f : ℕ → Row → Row) (k : ℕ) (rows : List Row) (i : ℕ) (d : Row) → i < length rows → get_or (each_row f k rows) i d ≡ f (k + i) (get_or rows i d)
get_d_each_row f k [] i d within = absurd (omega arith)
get_d_each_row f k (r ∷ rows) zero d within = ap (λ n. f n r) (sym (add-zero k))
get_d_each_row f k (r ∷ rows) (suc i) d within =
    get_d_each_row f (suc k) rows i d (omega arith) ∙ ap (λ n. f n (get_or rows i d)) (omega arith)

module _ (f : ℕ → Row → Row) (rows : List Row) where
  pub row_each : (a : ℕ) → a < length rows → get_or (each_row f 0 rows) a no_row ≡ f a (get_or rows a no_row)
  row_each a within = get_d_each_row f 0 rows a no_row within ∙ ap (λ n. f n (get_or rows a no_row)) (zero-add a)

  pub row_past : (a : ℕ) → length rows ≤ a → get_or (each_row f 0 rows) a no_row ≡ get_or rows a no_row
  row_past a past = get_or_past (each_row f 0 rows) a no_row (omega (arith, length_each_row f 0 rows)) ∙ sym (get_or_past rows a no_row past)

  -- what holds of an article's row holds where it stays, and where it is changed
  pub by_row : (P : ℕ → Row → Type 0) → ((a : ℕ) → length rows ≤ a → P a (get_or rows a no_row)) → ((a : ℕ) → a < length rows → P a (f a (get_or rows a no_row))) → (a : ℕ) → P a (get_or (each_row f 0 rows) a no_row)
  by_row P old new a = ⊎_elim (λ lt. subst (P a) (sym (row_each a lt)) (new a lt)) (λ past. subst (P a) (sym (row_past a past)) (old a past)) (cases_lt a (length rows))

-- rows that agree row by row with a change of each
pub by_rows : (f : ℕ → Row → Row) (rows after : List Row) → length after ≡ length rows → ((a : ℕ) → a < length rows → get_or after a no_row ≡ f a (get_or rows a no_row)) → after ≡ each_row f 0 rows
by_rows f rows after long each =
    ext_get_or no_row after (each_row f 0 rows) (long ∙ sym (length_each_row f 0 rows)) (λ a within. each a (omega arith) ∙ sym (row_each f rows a (omega arith)))

module _ {X : Type 0} (article : X → ℕ) (change : X → Row → Row) where
  pub length_on_articles : (rows : List Row) (xs : List X) → length (fold (on_article_row article change) rows xs) ≡ length rows
  length_on_articles rows [] = refl
  length_on_articles rows (x ∷ xs) = length_on_articles (on_article_row article change rows x) xs ∙ length-set rows (article x) (change x (get_or rows (article x) no_row))

  -- all that are on an article change its row, in their order, and no others do
  pub row_on_articles : (rows : List Row) (xs : List X) (a : ℕ) → a < length rows → get_or (fold (on_article_row article change) rows xs) a no_row ≡ fold (λ r x. change x r) (get_or rows a no_row) (filter (λ x. eqb (article x) a) xs)
  row_on_articles rows [] a within = refl
  row_on_articles rows (x ∷ xs) a within =
      let these = filter (λ x. eqb (article x) a) xs in
      row_on_articles (on_article_row article change rows x) xs a (omega (arith, length-set rows (article x) (change x (get_or rows (article x) no_row)))) ∙ ⊎_elim
      (λ same.
      ap (λ r. fold (λ r x. change x r) r these) (ap (λ n. get_or (set rows n (change x (get_or rows n no_row))) a no_row) same ∙ get_or-set_same rows a (change x (get_or rows a no_row)) no_row within) ∙ sym (ap (λ b. fold (λ r x. change x r) (get_or rows a no_row) (cond b (x ∷ these) these)) (eq-eqb (article x) a same)))
      (λ other.
      ap (λ r. fold (λ r x. change x r) r these) (get_or-set_other rows (article x) a _ no_row (λ e. other (sym e))) ∙ sym (ap (λ b. fold (λ r x. change x r) (get_or rows a no_row) (cond b (x ∷ these) these)) (ne_eqb (article x) a other)))
      (cases_eq (article x) a)

-- a row stepped by actions
pub stepped_by : (steps : ℤ → ℕ → ℤ → ℤ) (r : Row) (xs : List Action) → fold (λ r x. stepped_row steps x r) r xs ≡ record r { kept = working steps r.kept xs }
stepped_by steps r [] = refl
stepped_by steps r (x ∷ xs) = stepped_by steps (stepped_row steps x r) xs

module _ (steps : ℤ → ℕ → ℤ → ℤ) where
  pub length_stepped : (rows : List Row) (xs : List Action) → length (stepped_rows steps rows xs) ≡ length rows
  length_stepped = length_on_articles (λ x. x.article) (stepped_row steps)

  pub row_stepped : (rows : List Row) (xs : List Action) (a : ℕ) → a < length rows → get_or (stepped_rows steps rows xs) a no_row ≡ (let r = get_or rows a no_row in record r { kept = working steps r.kept (on a xs) })
  row_stepped rows xs a within =
      row_on_articles (λ x. x.article) (stepped_row steps) rows xs a within ∙ stepped_by steps (get_or rows a no_row) (on a xs)

  pub length_reworked : (rows : List Row) (xs : List Action) → length (reworked_rows steps rows xs) ≡ length rows
  length_reworked rows xs = length_stepped (map restarted rows) xs ∙ length-map rows restarted

  pub row_reworked : (rows : List Row) (xs : List Action) (a : ℕ) → a < length rows → get_or (reworked_rows steps rows xs) a no_row ≡ (let r = get_or rows a no_row in record r { kept = working steps r.base (on a xs) })
  row_reworked rows xs a within =
      row_stepped (map restarted rows) xs a (omega (arith, length-map rows restarted)) ∙ ap (λ (r : Row). record r { kept = working steps r.kept (on a xs) }) (get_or-map restarted rows a no_row no_row within)

-- an entry of one list raised twice, and of a list of lists
twice : (row : List ℕ) (q s t : ℕ) → set (set row q (max (get_or row q 0) s)) q (max (get_or (set row q (max (get_or row q 0) s)) q 0) t) ≡ set row q (max (get_or row q 0) (max s t))
twice row q s t =
    let m = max (get_or row q 0) s in
    ⊎_elim
    (λ within. set-set row q m (max (get_or (set row q m) q 0) t) ∙ ap (λ e. set row q (max e t)) (get_or-set_same row q m 0 within) ∙ ap (set row q) (omega arith))
    (λ past. set_past (set row q m) q (max (get_or (set row q m) q 0) t) (omega (arith, length-set row q m)) ∙ set_past row q m past ∙ sym (set_past row q (max (get_or row q 0) (max s t)) past))
    (cases_lt q (length row))

pub raised_twice : (known : List (List ℕ)) (z q s t : ℕ) → raised (raised known z q s) z q t ≡ raised known z q (max s t)
raised_twice known z q s t =
    let row = get_or known z [] in
    let row₁ = set row q (max (get_or row q 0) s) in
    ⊎_elim
    (λ within.
    set-set known z row₁ _ ∙ ap (λ (r : List ℕ). set known z (set r q (max (get_or r q 0) t))) (get_or-set_same known z row₁ [] within) ∙ ap (set known z) (twice row q s t))
    (λ past.
    let same : raised known z q s ≡ known = set_past known z row₁ past in
    ap (λ (k : List (List ℕ)). raised k z q t) same ∙ set_past known z _ past ∙ sym (set_past known z _ past))
    (cases_lt z (length known))

-- an entry raised to no more than it is stays
pub raised_within : (known : List (List ℕ)) (z q t : ℕ) → t ≤ at known z q → raised known z q t ≡ known
raised_within known z q t le =
    ap (λ e. set known z (set (get_or known z []) q e)) (omega arith) ∙ ap (set known z) (set-get_or (get_or known z []) q 0) ∙ set-get_or known z []

pub raised_none : (known : List (List ℕ)) (z q : ℕ) → raised known z q 0 ≡ known
raised_none known z q = raised_within known z q 0 (omega arith)

-- the greatest of t and the times of xs
abbrev times : ℕ → List Action → ℕ
times t xs = fold (λ t x. max t x.time) t xs

-- a row raised by actions
pub raised_by_lem : (z q : ℕ) (r : Row) (t : ℕ) (xs : List Action) → fold (λ r x. raised_row z q x.time r) (raised_row z q t r) xs ≡ raised_row z q (times t xs) r
raised_by_lem z q r t [] = refl
raised_by_lem z q r t (x ∷ xs) =
    ap (λ k. fold (λ r x. raised_row z q x.time r) (record r { known = k }) xs) (raised_twice r.known z q t x.time) ∙ raised_by_lem z q r (max t x.time) xs

pub raised_from : (z q : ℕ) (r : Row) (xs : List Action) → fold (λ r x. raised_row z q x.time r) r xs ≡ raised_row z q (times 0 xs) r
raised_from z q r xs =
    ap (λ k. fold (λ r x. raised_row z q x.time r) (record r { known = k }) xs) (sym (raised_none r.known z q)) ∙ raised_by_lem z q r 0 xs

-- a row raised by intervals
pub told_by : (own sender : ℕ) (r : Row) (hs : List (ℕ × Interval)) → fold (λ r h. raised_row_by own sender h r) r hs ≡ record r { known = fold (raised_by own sender) r.known hs }
told_by own sender r [] = refl
told_by own sender r (h ∷ hs) = told_by own sender (raised_row_by own sender h r) hs
