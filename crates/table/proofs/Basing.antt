-- What archiving does to the rows. Assumes nothing.
use Rattle.std.proofs.Common.{◌≡◌, ℕ, ◌<◌, Bool, true, cond, eqb, List, length, get_or, set, sym, ap, ◌∙◌, ⊎_elim, arith}
use Rattle.std.proofs.lemmas.List.{get_or-set_other, get_or-set_same, length-set}
use Rattle.std.proofs.lemmas.Bool.{cases_eq, eq-eqb, ne_eqb}
use Rattle.kind.specs.Meaning.{Meaning}
use Rattle.kind.specs.Working.{working}
use Rattle.row.specs.declared.row.Row.{Row}
use Rattle.row.specs.Entries.{each_row, no_row}
use Rattle.row.proofs.RowLaws.{by_rows}
use Rattle.table.specs.Archiving.{archived_row, olds}
use Rattle.table.specs.View.{View, row}

module _ (kind : Meaning) (v : View) (a : ℕ) where
  abbrev worked : Bool → Row → Row
  worked here r = record r { base = cond here (working kind.steps r.base (olds v a)) r.base }

  abbrev after : List Row
  after = set v.rows a (worked true (row v a))

  -- only the article's row is changed: its base is worked
  pub rows_archived : set v.rows a (worked true (row v a)) ≡ each_row (archived_row kind v a) 0 v.rows
  rows_archived =
      by_rows (archived_row kind v a) v.rows after (length-set v.rows a (worked true (row v a))) (λ b lt. ⊎_elim (here b lt) (there b) (cases_eq b a))
    where
      here : (b : ℕ) → b < length v.rows → b ≡ a → get_or after b no_row ≡ worked (eqb b a) (row v b)
      here b lt same =
          ap (λ n. get_or after n no_row) same ∙ get_or-set_same v.rows a (worked true (row v a)) no_row (omega arith) ∙ (λ i. worked (sym (eq-eqb b a same) i) (row v (sym same i)))

      there : (b : ℕ) → (b ≡ a → ⊥) → get_or after b no_row ≡ worked (eqb b a) (row v b)
      there b other =
          get_or-set_other v.rows a b (worked true (row v a)) no_row other ∙ ap (λ t. worked t (row v b)) (sym (ne_eqb b a other))
