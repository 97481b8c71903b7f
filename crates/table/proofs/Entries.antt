-- Known entries after they are raised. Assumes nothing.
use Rattle.std.proofs.Common.{◌≡◌, ℕ, ◌<◌, ◌≤◌, max, ◌⊎◌, List, [], length, get_or, replicate, sym, ap, ◌∙◌, subst, inl, inr, ⊎_elim, arith}
use Rattle.std.specs.List.{AllByRecursion}
use Rattle.std.proofs.ByRecursion.{All-get_or, All-set}
use Rattle.std.proofs.lemmas.List.{get_or_past, get_or-replicate, get_or-set_other, get_or-set_same, length-set, set_past}
use Rattle.std.proofs.lemmas.Bool.{cases_eq, cases_lt}
use Rattle.row.specs.Entries.{at, raised, unknown}
use Rattle.table.specs.Sound.{Square}

module _ (known : List (List ℕ)) (z q t : ℕ) (square : Square known) where
  row_long : z < 8 → length (get_or known z []) ≡ 8
  row_long lt = All-get_or (λ entries. length entries ≡ 8) known z [] (omega (arith, square.0)) square.1

  pub square_raised : Square (raised known z q t)
  square_raised = (
    length-set known z _ ∙ square.0,
    ⊎_elim
        (λ lt. All-set (λ entries. length entries ≡ 8) known z _ (length-set (get_or known z []) q _ ∙ row_long lt) square.1)
        (λ past. subst (AllByRecursion (λ entries. length entries ≡ 8)) (sym (set_past known z _ (omega (arith, square.0)))) square.1)
        (cases_lt z 8),
  )

  pub at_raised : z < 8 → q < 8 → at (raised known z q t) z q ≡ max (at known z q) t
  at_raised zs qs =
      ap (λ (l : List ℕ). get_or l q 0) (get_or-set_same known z _ [] (omega (arith, square.0))) ∙ get_or-set_same (get_or known z []) q _ 0 (omega (arith, row_long zs))

  pub at_raised_row : (y : ℕ) (p : ℕ) → (y ≡ z → ⊥) → at (raised known z q t) y p ≡ at known y p
  at_raised_row y p other = ap (λ (l : List ℕ). get_or l p 0) (get_or-set_other known z y _ [] other)

  pub at_raised_column : z < 8 → (p : ℕ) → (p ≡ q → ⊥) → at (raised known z q t) z p ≡ at known z p
  at_raised_column zs p other =
      ap (λ (l : List ℕ). get_or l p 0) (get_or-set_same known z _ [] (omega (arith, square.0))) ∙ get_or-set_other (get_or known z []) q p _ 0 other

  pub at_raised_other : z < 8 → (y p : ℕ) → (p ≡ q → ⊥) → at (raised known z q t) y p ≡ at known y p
  at_raised_other zs y p other =
      ⊎_elim
      (λ e. subst (λ (n : ℕ). at (raised known z q t) n p ≡ at known n p) (sym e) (at_raised_column zs p other))
      (at_raised_row y p)
      (cases_eq y z)

  either : z < 8 → q < 8 → (y p : ℕ) → (at (raised known z q t) y p ≡ max (at known y p) t) ⊎ (at (raised known z q t) y p ≡ at known y p)
  either zs qs y p =
      ⊎_elim
      (λ e. ⊎_elim (λ f. inl (subst (λ (n : ℕ). at (raised known z q t) n p ≡ max (at known n p) t) (sym e) (subst (λ (n : ℕ). at (raised known z q t) z n ≡ max (at known z n) t) (sym f) (at_raised zs qs)))) (λ f. inr (at_raised_other zs y p f)) (cases_eq p q))
      (λ e. inr (at_raised_row y p e))
      (cases_eq y z)

  -- no entry is lowered, and none raised above t
  pub at_raised_ge : z < 8 → q < 8 → (y p : ℕ) → at known y p ≤ at (raised known z q t) y p
  at_raised_ge zs qs y p = ⊎_elim (λ e. omega (arith, e)) (λ e. omega (arith, e)) (either zs qs y p)

  pub at_raised_le : z < 8 → q < 8 → (y p : ℕ) → at (raised known z q t) y p ≤ max (at known y p) t
  at_raised_le zs qs y p = ⊎_elim (λ e. omega (arith, e)) (λ e. omega (arith, e)) (either zs qs y p)

-- where nothing is known every entry is 0
pub at_unknown : (z q : ℕ) → at unknown z q ≡ 0
at_unknown z q =
    ⊎_elim
    (λ lt. ap (λ (l : List ℕ). get_or l q 0) (get_or-replicate 8 z (replicate 8 0) [] lt) ∙ ⊎_elim (λ l. get_or-replicate 8 q 0 0 l) (λ p. get_or_past (replicate 8 0) q 0 p) (cases_lt q 8))
    (λ past. ap (λ (l : List ℕ). get_or l q 0) (get_or_past unknown z [] past))
    (cases_lt z 8)
