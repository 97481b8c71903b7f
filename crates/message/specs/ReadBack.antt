-- What is written reads back as the same. Assumes nothing.
use Rattle.std.specs.Prelude.{◌≡◌, ℕ, ◌≤◌, List, [], ◌∷◌, Some, None, Ok, Option, Result}
use Rattle.action.specs.declared.setup.Setup.{Setup}
use Rattle.kind.specs.Meaning.{Meaning}
use Rattle.message.specs.declared.reader_fault.ReaderFault.{ReaderFault}
use Rattle.message.specs.declared.records.FoundRecord.{FoundRecord}
use Rattle.message.specs.declared.progress.Progress.{Progress}
use Rattle.message.specs.Format.{Message, format}
use Rattle.message.specs.Lawful.{LawfulMessage}
use Rattle.message.specs.Reading.{Next}

-- the bytes are those that a message is written as, and it is lawful for a table of this kind and set-up
pub record IsMessageFor (kind : Meaning) (setup : Setup) (bytes : List ℕ) (m : Message) : Type 0 where
  -- a kind's number takes one byte
  pub one_byte : kind.number ≤ 255
  pub lawful : LawfulMessage kind setup m
  pub written : bytes ≡ format m

-- the same for a table of some kind and set-up
abbrev pub IsMessage : List ℕ → Message → Type 0
IsMessage bytes m = (kind : Meaning) × (setup : Setup) × IsMessageFor kind setup bytes m

-- a call of `next` from progress p and place at gives exactly this answer, and leads to progress q and place to
pub record GivesOnly (kind : Meaning) (setup : Setup) (bytes : List ℕ) (p : Progress) (at : ℕ) (answer : Result (Option FoundRecord) ReaderFault) (q : Progress) (to : ℕ) : Type 0 where
  pub gives : Next kind setup p at bytes answer q to
  pub only : (other : Result (Option FoundRecord) ReaderFault) (r : Progress) (place : ℕ) → Next kind setup p at bytes other r place → (other ≡ answer) × (r ≡ q) × (place ≡ to)

-- calls of `next` one after another give exactly these records, and then the end, at which the reader stays
abbrev pub ReadsExactly : Meaning → Setup → List ℕ → Progress → ℕ → List FoundRecord → Type 0
ReadsExactly kind setup bytes p at [] = GivesOnly kind setup bytes p at (Ok None) p at
ReadsExactly kind setup bytes p at (f ∷ fs) =
    (q : Progress) × (to : ℕ) × GivesOnly kind setup bytes p at (Ok (Some f)) q to × ReadsExactly kind setup bytes q to fs
