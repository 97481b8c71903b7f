-- A step of a kept figure changes no entry. Assumes nothing.
use Rattle.std.proofs.Common.{◌≡◌, ℕ, List, ℤ, length, get_or, set, sym, ap, ◌∙◌, ⊎_elim}
use Rattle.std.proofs.lemmas.List.{get_or-set_other, get_or-set_same, set_past}
use Rattle.std.proofs.lemmas.Bool.{cases_eq, cases_lt}
use Rattle.action.specs.declared.action.Action.{Action}
use Rattle.row.specs.declared.row.Row.{Row}
use Rattle.row.specs.Rows.{on_row, stepped_row}
use Rattle.row.specs.Entries.{at, entry_in, no_row}

pub entry_stepped : (steps : ℤ → ℕ → ℤ → ℤ) (rows : List Row) (x : Action) (a z q : ℕ) → entry_in (on_row (stepped_row steps) rows x) a z q ≡ entry_in rows a z q
entry_stepped steps rows x a z q =
    let b = x.article in
    let r = stepped_row steps x (get_or rows b no_row) in
    ⊎_elim
    (λ within. ⊎_elim
    (λ same. ap (λ (n : ℕ). entry_in (set rows b r) n z q) same ∙ ap (λ (r : Row). at r.known z q) (get_or-set_same rows b r no_row within) ∙ sym (ap (λ (n : ℕ). entry_in rows n z q) same))
    (λ other. ap (λ (r : Row). at r.known z q) (get_or-set_other rows b a r no_row other))
    (cases_eq a b))
    (λ past. ap (λ (rs : List Row). entry_in rs a z q) (set_past rows b r past))
    (cases_lt b (length rows))
