-- What the calls answer that change nothing. Assumes nothing.
use Rattle.std.specs.Prelude.{◌≡◌, ℕ, Bool, ◌&&◌, ℤ, Some, None, Ok, Err, Option, Result, nat_lt}
use Rattle.action.specs.declared.refusal.Refusal.{Refusal}
use Rattle.action.specs.Lawful.{by_table, unless}
use Rattle.table.specs.declared.table_fault.TableFault.{TableFault}
use Rattle.table.specs.Faults.{shown}
use Rattle.table.specs.View.{View, entry, row}

-- the answer, or why there is none
abbrev pub Answers : {X : Type 0} → Option Refusal → X → Result X TableFault → Type 0
Answers refusal x (Ok y) = (refusal ≡ None) × (y ≡ x)
Answers refusal x (Err e) = refusal ≡ Some (shown e)

abbrev pub figure_refusal : View → ℕ → Option Refusal
figure_refusal v a = unless (nat_lt a v.setup.articles) (by_table 4 0) None

abbrev pub figure : View → ℕ → ℤ
figure v a = (row v a).kept

abbrev pub known_refusal : View → ℕ → ℕ → ℕ → Option Refusal
known_refusal v a z q =
    unless (nat_lt a v.setup.articles) (by_table 4 0)
    (unless (nat_lt z v.setup.sites && nat_lt q v.setup.sites) (by_table 5 0) None)

abbrev pub open_item_refusal : View → ℕ → ℕ → Option Refusal
open_item_refusal v a p =
    unless (nat_lt a v.setup.articles) (by_table 4 0) (unless (nat_lt p v.setup.sites) (by_table 5 0) None)

-- site p is not known to have all of this site's own actions on the article
abbrev pub open_item : View → ℕ → ℕ → Bool
open_item v a p = nat_lt (entry v a p v.setup.own) (entry v a v.setup.own v.setup.own)
