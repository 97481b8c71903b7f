-- Why reading stops at bytes, by how far it had come. Assumes nothing.
use Rattle.std.proofs.Common.{◌≡◌, ℕ, ◌≤◌, true, false, List, length, Some, None}
use Rattle.action.specs.declared.refusal.Refusal.{Refusal}
use Rattle.action.specs.declared.setup.Setup.{Setup}
use Rattle.action.specs.Lawful.{by_reader}
use Rattle.kind.specs.Meaning.{Meaning}
use Rattle.message.specs.declared.reader_fault.ReaderFault.{ReaderFault}
use Rattle.message.specs.declared.due.Due.TheVariants as Due
use Rattle.message.specs.declared.progress.Progress.{Progress}
use Rattle.message.specs.declared.record.Header.{Header}
use Rattle.message.specs.declared.record.Record.{Record}
use Rattle.message.specs.declared.record.Record.TheVariants as RecordKinds
use Rattle.message.specs.Checks.{StartsWith, offset}
use Rattle.message.specs.Faults.{shown}
use Rattle.message.specs.Fields.{Fitting}
use Rattle.message.specs.Progress.{named}
use Rattle.message.specs.Reading.{onward}
use Rattle.message.specs.Rules.{is_due}
use Rattle.message.specs.Scanning.{ReadSoFar}

-- 9: a record is due, and the rest starts with none of its kind
pub record CutAt (p : Progress) (at : ℕ) (rest : List ℕ) (refusal : Refusal) : Type 0 where
  pub is : refusal ≡ by_reader 9 at
  pub not_ended : p.due ≡ Due.End → ⊥
  pub none : (r : Record) → is_due p.due r ≡ true → Fitting r → StartsWith rest r → ⊥

-- 10: the rest starts with a header of another group or kind
pub record ForeignAt (kind : Meaning) (setup : Setup) (p : Progress) (rest : List ℕ) (refusal : Refusal) : Type 0 where
  pub is : refusal ≡ by_reader 10 0
  pub first : p.due ≡ Due.Header
  pub header : Header
  pub fitting : Fitting (RecordKinds.Header header)
  pub starts : StartsWith rest (RecordKinds.Header header)
  pub other : named kind setup header ≡ false

-- 11: the rest starts with a record of the kind due that leads nowhere, and it is no header of another group or kind
pub record BrokenAt (kind : Meaning) (setup : Setup) (p : Progress) (at : ℕ) (rest : List ℕ) (refusal : Refusal) : Type 0 where
  pub is : refusal ≡ by_reader 11 at
  pub breaks : Record
  pub was_due : is_due p.due breaks ≡ true
  pub fitting : Fitting breaks
  pub starts : StartsWith rest breaks
  pub ours : (h : Header) → breaks ≡ RecordKinds.Header h → named kind setup h ≡ true
  pub stops : onward kind setup (Some p) breaks ≡ None

-- 12: the end is due, and bytes follow
pub record TrailingAt (p : Progress) (at : ℕ) (rest : List ℕ) (refusal : Refusal) : Type 0 where
  pub is : refusal ≡ by_reader 12 at
  pub ended : p.due ≡ Due.End
  pub more : 1 ≤ length rest

pub data ReasonAt (kind : Meaning) (setup : Setup) (p : Progress) (at : ℕ) (rest : List ℕ) (refusal : Refusal) : Type 0 where
  cut_at : CutAt p at rest refusal → ReasonAt kind setup p at rest refusal
  foreign_at : ForeignAt kind setup p rest refusal → ReasonAt kind setup p at rest refusal
  broken_at : BrokenAt kind setup p at rest refusal → ReasonAt kind setup p at rest refusal
  trailing_at : TrailingAt p at rest refusal → ReasonAt kind setup p at rest refusal

-- bytes are read so far, and there reading stops
abbrev pub StopsAt : Meaning → Setup → List ℕ → ReaderFault → Type 0
StopsAt kind setup bytes e =
    (rs : List Record) × (p : Progress) × (rest : List ℕ) × ReadSoFar kind setup bytes rs p rest × ReasonAt kind setup p (offset rs) rest (shown e)
