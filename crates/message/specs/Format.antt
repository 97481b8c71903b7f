-- The one definition of a message's bytes. Assumes nothing.
use Rattle.std.specs.Prelude.{ℕ, List, [], ◌∷◌, ◌++◌, map, length}
use Rattle.std.specs.List.{flat_map}
use Rattle.action.specs.declared.action.Action.{Action}
use Rattle.action.specs.Bytes.{action_bytes, bytes_of}
use Rattle.message.specs.declared.record.Header.{Header}
use Rattle.message.specs.declared.record.Interval.{Interval}
use Rattle.message.specs.declared.record.SectionHead.{SectionHead}
use Rattle.message.specs.declared.record.Record.{Record}
use Rattle.message.specs.declared.record.Record.TheVariants as RecordKinds

-- one article's part of a message: its intervals, and the actions that lie in them
pub record Section : Type 0 where
  pub article : ℕ
  pub intervals : List Interval
  pub actions : List Action

pub record Message : Type 0 where
  pub group : ℕ
  pub kind : ℕ
  pub sender : ℕ
  pub sections : List Section

abbrev pub header_bytes : Header → List ℕ
header_bytes h = 0x48 ∷ (bytes_of 2 h.group ++ (h.kind ∷ (h.sender ∷ (h.sections ∷ []))))

abbrev pub section_bytes : SectionHead → List ℕ
section_bytes s = 0x53 ∷ (s.article ∷ (s.intervals ∷ bytes_of 2 s.actions))

abbrev pub interval_bytes : Interval → List ℕ
interval_bytes i = 0x49 ∷ (i.site ∷ (bytes_of 4 i.from ++ bytes_of 4 i.to))

-- a byte for the kind, then the fields, most significant byte first
abbrev pub record_bytes : Record → List ℕ
record_bytes (RecordKinds.Header h) = header_bytes h
record_bytes (RecordKinds.Section s) = section_bytes s
record_bytes (RecordKinds.Interval i) = interval_bytes i
record_bytes (RecordKinds.Action a) = action_bytes a

abbrev pub head_of : Section → SectionHead
head_of s = record { article = s.article; intervals = length s.intervals; actions = length s.actions }

-- a section's records: its head, its intervals and its actions
abbrev pub section_records : Section → List Record
section_records s = RecordKinds.Section (head_of s) ∷ (map RecordKinds.Interval s.intervals ++ map RecordKinds.Action s.actions)

abbrev pub section_format : Section → List ℕ
section_format s = flat_map record_bytes (section_records s)

abbrev pub header_of : Message → Header
header_of m = record { group = m.group; kind = m.kind; sender = m.sender; sections = length m.sections }

-- the header, then the sections
abbrev pub records : Message → List Record
records m = RecordKinds.Header (header_of m) ∷ flat_map section_records m.sections

abbrev pub format : Message → List ℕ
format m = flat_map record_bytes (records m)

-- the actions that a message carries, in its order
abbrev pub carried : Message → List Action
carried m = flat_map (λ s. s.actions) m.sections

-- the intervals of a message, each with its section's article
abbrev pub told_intervals : Message → List (ℕ × Interval)
told_intervals m = flat_map (λ s. map (λ i. (s.article, i)) s.intervals) m.sections
