-- What the call for C answers. Assumes nothing.
use Rattle.std.specs.Prelude.{◌≡◌, ℕ, cond, List, ℤ, pos, neg_ℤ, Some, None, Ok, Err, Option, Result, ◌==◌}
use Rattle.action.specs.declared.setup.Setup.{Setup}
use Rattle.action.specs.Lawful.{Lawful}
use Rattle.kind.specs.Meaning.{Meaning}
use Rattle.kind.specs.Meanings.{flags, on_hand, price}
use Rattle.message.specs.declared.reader_fault.ReaderFault.{ReaderFault}
use Rattle.message.specs.Checks.{Accepted, Refused}
use Rattle.message.specs.Faults.{shown}

-- the kinds that the call has
abbrev pub kind_of : ℕ → Option Meaning
kind_of kind = cond (kind == 1) (Some on_hand) (cond (kind == 2) (Some flags) (cond (kind == 3) (Some price) None))

-- how many actions, or the number of the refusal with a minus sign
abbrev pub as_number : Result ℕ ReaderFault → ℤ
as_number (Ok n) = pos n
as_number (Err e) = neg_ℤ (pos (shown e).number)

-- the check's answer, as a number
pub record Checked (kind : Meaning) (setup : Setup) (bytes : List ℕ) (r : ℤ) : Type 0 where
  pub answer : Result ℕ ReaderFault
  pub accepted : Accepted kind setup bytes answer
  pub refused : Refused kind setup bytes answer
  pub is : r ≡ as_number answer

-- the check for a table of this group, these sites and articles
pub record CheckedFor (kind : Meaning) (bytes : List ℕ) (group sites articles : ℕ) (r : ℤ) : Type 0 where
  pub setup : Setup
  pub of_group : setup.group ≡ group
  pub of_sites : setup.sites ≡ sites
  pub of_articles : setup.articles ≡ articles
  pub checked : Checked kind setup bytes r

pub data Answered (bytes : List ℕ) (group kind sites articles : ℕ) (r : ℤ) : Type 0 where
  -- minus 1: no set-up has these numbers, or the call has no such kind
  no_setup : (Lawful group sites 0 articles → ⊥) → r ≡ neg_ℤ (pos 1) → Answered bytes group kind sites articles r
  no_kind : kind_of kind ≡ None → r ≡ neg_ℤ (pos 1) → Answered bytes group kind sites articles r
  answered : (meaning : Meaning) → kind_of kind ≡ Some meaning → CheckedFor meaning bytes group sites articles r → Answered bytes group kind sites articles r
