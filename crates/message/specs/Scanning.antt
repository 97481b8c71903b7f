-- How all the bytes are read as one message. Assumes nothing.
use Rattle.std.specs.Prelude.{◌≡◌, ℕ, List, ◌++◌, length, drop, Some, None, Ok, Err, count_by, Result}
use Rattle.std.specs.List.{flat_map, AllByRecursion}
use Rattle.action.specs.declared.setup.Setup.{Setup}
use Rattle.kind.specs.Meaning.{Meaning}
use Rattle.message.specs.declared.reader_fault.ReaderFault.{ReaderFault}
use Rattle.message.specs.declared.progress.Progress.{Progress}
use Rattle.message.specs.declared.record.Record.{Record}
use Rattle.message.specs.Fields.{Fitting}
use Rattle.message.specs.Format.{record_bytes}
use Rattle.message.specs.Reading.{is_action, reading, step}

-- the bytes begin with those of these records, and reading these leads to the progress
pub record ReadSoFar (kind : Meaning) (setup : Setup) (bytes : List ℕ) (rs : List Record) (p : Progress) (rest : List ℕ) : Type 0 where
  pub lawful : reading kind setup rs ≡ Some p
  pub fitting : AllByRecursion Fitting rs
  pub front : bytes ≡ flat_map record_bytes rs ++ rest

-- the bytes before place at are read, and lead to the progress
abbrev pub Begun : Meaning → Setup → List ℕ → ℕ → Progress → Type 0
Begun kind setup bytes at p =
    (rs : List Record) × ReadSoFar kind setup bytes rs p (drop at bytes) × (at ≡ length (flat_map record_bytes rs))

-- what reading all the bytes comes to: a whole message with so many actions, or a refusal after a lawful beginning
abbrev pub Scanned : Meaning → Setup → List ℕ → Result ℕ ReaderFault → Type 0
Scanned kind setup bytes (Ok n) =
    (p : Progress) × (at : ℕ) × (b : Begun kind setup bytes at p) × (step kind setup p at (drop at bytes) ≡ Ok None) × (n ≡ count_by is_action b.0)
Scanned kind setup bytes (Err e) =
    (p : Progress) × (at : ℕ) × Begun kind setup bytes at p × (step kind setup p at (drop at bytes) ≡ Err e)
