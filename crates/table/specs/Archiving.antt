-- What archive does to a table. Assumes nothing.
use Rattle.std.specs.Prelude.{◌≡◌, ℕ, Bool, cond, not, List, length, Some, None, Ok, Err, filter, Option, Result, ◌==◌, nat_lt}
use Rattle.action.specs.declared.action.Action.{Action}
use Rattle.action.specs.declared.refusal.Refusal.{Refusal}
use Rattle.action.specs.Lawful.{by_table, unless}
use Rattle.kind.specs.Meaning.{Meaning}
use Rattle.kind.specs.Working.{working}
use Rattle.row.specs.declared.row.Row.{Row}
use Rattle.row.specs.Passes.{is_up_to, least_in}
use Rattle.row.specs.Entries.{each_row}
use Rattle.table.specs.declared.table_fault.TableFault.{TableFault}
use Rattle.table.specs.Faults.{shown}
use Rattle.table.specs.View.{View}

abbrev pub archive_refusal : View → ℕ → Option Refusal
archive_refusal v a =
    unless (not v.is_open) (by_table 2 0) (unless (nat_lt a v.setup.articles) (by_table 4 0) None)

-- the least of the article's known entries: every site is known to have all up to it
abbrev pub least : View → ℕ → ℕ
least v = least_in v.rows v.setup.sites

-- an action on the article, up to that: a later one stays, even where every site has it
abbrev pub is_old : View → ℕ → Action → Bool
is_old v a = is_up_to a (least v a)

abbrev pub olds : View → ℕ → List Action
olds v a = filter (is_old v a) v.history

-- the article's base is worked by them; its kept figure and entries stay
abbrev pub archived_row : Meaning → View → ℕ → ℕ → Row → Row
archived_row kind v a b r = record r { base = cond (b == a) (working kind.steps r.base (olds v a)) r.base }

abbrev pub archived : Meaning → View → ℕ → View
archived kind v a = record v {
  rows = each_row (archived_row kind v a) 0 v.rows;
  history = filter (λ x. not (is_old v a x)) v.history;
}

abbrev pub Archived : Meaning → View → ℕ → Result ℕ TableFault → View → Type 0
Archived kind v a (Ok n) w = (archive_refusal v a ≡ None) × (n ≡ length (olds v a)) × (w ≡ archived kind v a)
Archived kind v a (Err e) w = (archive_refusal v a ≡ Some (shown e)) × (w ≡ v)
