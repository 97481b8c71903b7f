-- What the check of a message answers, in words of the format. Assumes nothing.
use Rattle.std.specs.Prelude.{◌≡◌, ℕ, ◌≤◌, true, List, [], ◌++◌, length, Ok, Err, Result}
use Rattle.std.specs.List.{flat_map, AllByRecursion}
use Rattle.action.specs.declared.refusal.Refusal.{Refusal}
use Rattle.action.specs.declared.setup.Setup.{Setup}
use Rattle.action.specs.Lawful.{by_reader}
use Rattle.kind.specs.Meaning.{Meaning}
use Rattle.message.specs.declared.reader_fault.ReaderFault.{ReaderFault}
use Rattle.message.specs.declared.due.Due.TheVariants as Due
use Rattle.message.specs.declared.record.Header.{Header}
use Rattle.message.specs.declared.record.Record.{Record}
use Rattle.message.specs.declared.record.Record.TheVariants as RecordKinds
use Rattle.message.specs.Faults.{shown}
use Rattle.message.specs.Fields.{Fitting}
use Rattle.message.specs.Format.{Message, format, record_bytes}
use Rattle.message.specs.Lawful.{LawfulMessage, action_count}
use Rattle.message.specs.Rules.{InTurn, Keeps, Names, Ours, due_next, is_due}

-- MESSAGES

-- bytes that pass are the format of a lawful message, and the answer is how many actions it carries
abbrev pub Accepted : Meaning → Setup → List ℕ → Result ℕ ReaderFault → Type 0
Accepted kind setup bytes (Ok n) = (m : Message) × LawfulMessage kind setup m × (bytes ≡ format m) × (n ≡ action_count m)
Accepted kind setup bytes (Err e) = Unit {0}

-- the format of every lawful message passes
abbrev pub Accepts : Meaning → Setup → List ℕ → Result ℕ ReaderFault → Type 0
Accepts kind setup bytes answer = (m : Message) → LawfulMessage kind setup m → bytes ≡ format m → answer ≡ Ok (action_count m)

-- the bytes are the format of one lawful message at most
abbrev pub Unique : Meaning → Setup → List ℕ → Type 0
Unique kind setup bytes = (m n : Message) → LawfulMessage kind setup m → LawfulMessage kind setup n → bytes ≡ format m → bytes ≡ format n → m ≡ n

-- BEGINNINGS

-- the bytes begin with those of these records, each of which follows those before it
pub record Beginning (kind : Meaning) (setup : Setup) (bytes : List ℕ) (rs : List Record) (rest : List ℕ) : Type 0 where
  pub lawful : InTurn kind setup [] rs
  pub fitting : AllByRecursion Fitting rs
  pub front : bytes ≡ flat_map record_bytes rs ++ rest

abbrev pub StartsWith : List ℕ → Record → Type 0
StartsWith rest r = (more : List ℕ) × (rest ≡ record_bytes r ++ more)

-- where the record after these stands
abbrev pub offset : List Record → ℕ
offset rs = length (flat_map record_bytes rs)

-- REFUSALS

-- 9: a record is due, and the rest starts with none of its kind
pub record Cut (rs : List Record) (rest : List ℕ) (refusal : Refusal) : Type 0 where
  pub is : refusal ≡ by_reader 9 (offset rs)
  pub not_ended : due_next rs ≡ Due.End → ⊥
  pub none : (r : Record) → is_due (due_next rs) r ≡ true → Fitting r → StartsWith rest r → ⊥

-- 10: the bytes start with a header of another group or kind
pub record Foreign (kind : Meaning) (setup : Setup) (rs : List Record) (rest : List ℕ) (refusal : Refusal) : Type 0 where
  pub is : refusal ≡ by_reader 10 0
  pub first : rs ≡ []
  pub header : Header
  pub fitting : Fitting (RecordKinds.Header header)
  pub starts : StartsWith rest (RecordKinds.Header header)
  pub other : Names kind setup header → ⊥

-- 11: the rest starts with a record of the kind due. It is no header of another group or kind, and it breaks a field
-- rule after these records
pub record Broken (kind : Meaning) (setup : Setup) (rs : List Record) (rest : List ℕ) (refusal : Refusal) : Type 0 where
  pub is : refusal ≡ by_reader 11 (offset rs)
  pub breaks : Record
  pub was_due : is_due (due_next rs) breaks ≡ true
  pub fitting : Fitting breaks
  pub starts : StartsWith rest breaks
  pub ours : Ours kind setup breaks
  pub broken : Keeps kind setup rs breaks → ⊥

-- 12: the end is due, and bytes follow
pub record Trailing (rs : List Record) (rest : List ℕ) (refusal : Refusal) : Type 0 where
  pub is : refusal ≡ by_reader 12 (offset rs)
  pub ended : due_next rs ≡ Due.End
  pub more : 1 ≤ length rest

-- why the rest of the bytes is refused, after these records
pub data Reason (kind : Meaning) (setup : Setup) (rs : List Record) (rest : List ℕ) (refusal : Refusal) : Type 0 where
  cut : Cut rs rest refusal → Reason kind setup rs rest refusal
  foreign : Foreign kind setup rs rest refusal → Reason kind setup rs rest refusal
  broken : Broken kind setup rs rest refusal → Reason kind setup rs rest refusal
  trailing : Trailing rs rest refusal → Reason kind setup rs rest refusal

-- bytes are refused after a lawful beginning, and its length is the place
abbrev pub Refused : Meaning → Setup → List ℕ → Result ℕ ReaderFault → Type 0
Refused kind setup bytes (Ok n) = Unit {0}
Refused kind setup bytes (Err e) =
    (rs : List Record) × (rest : List ℕ) × Beginning kind setup bytes rs rest × Reason kind setup rs rest (shown e)

-- what is refused is refused by one number at one place
abbrev pub Once : Meaning → Setup → List ℕ → Type 0
Once kind setup bytes =
    (e d : ReaderFault) → Refused kind setup bytes (Err e) → Refused kind setup bytes (Err d) → shown e ≡ shown d

-- and a lawful message is refused by none
abbrev pub NotBoth : Meaning → Setup → List ℕ → Type 0
NotBoth kind setup bytes =
    (m : Message) → LawfulMessage kind setup m → bytes ≡ format m → (e : ReaderFault) → Refused kind setup bytes (Err e) → ⊥
