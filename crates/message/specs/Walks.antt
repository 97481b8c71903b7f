-- The records that bytes hold one after another, and what they say. Assumes nothing.
use Rattle.std.specs.Prelude.{ℕ, zero, suc, cond, List, [], ◌∷◌, length, drop, Some, None, Option, ◌==◌, slice_index}
use Rattle.std.specs.List.{filter_map}
use Rattle.action.specs.declared.action.Action.{Action}
use Rattle.message.specs.declared.due.Due.{Due}
use Rattle.message.specs.declared.record.Interval.{Interval}
use Rattle.message.specs.declared.record.Record.{Record}
use Rattle.message.specs.declared.record.Record.TheVariants as RecordKinds
use Rattle.message.specs.Decoding.{decoded, whole}
use Rattle.message.specs.Format.{record_bytes}

-- the kind byte tells which record it is
abbrev pub record_in : List ℕ → Option Record
record_in bs =
    cond (slice_index bs 0 == 0x48) (whole (decoded Due.Header bs)) (cond (slice_index bs 0 == 0x53) (whole (decoded Due.Section bs)) (cond (slice_index bs 0 == 0x49) (whole (decoded Due.Interval bs)) (cond (slice_index bs 0 == 0x41) (whole (decoded Due.Action bs)) None)))

abbrev pub next_records : (List ℕ → List Record) → List ℕ → Option Record → List Record
next_records rest bs None = []
next_records rest bs (Some r) = r ∷ rest (drop (length (record_bytes r)) bs)

abbrev pub records_by : ℕ → List ℕ → List Record
records_by zero bs = []
records_by (suc turns) bs = next_records (records_by turns) bs (record_in bs)

-- the records that the bytes hold one after another, up to where none begins
abbrev pub records_in : List ℕ → List Record
records_in bs = records_by (length bs) bs

-- the article that records are about after this one: a section's head names it
abbrev pub article_after : ℕ → Record → ℕ
article_after a (RecordKinds.Section s) = s.article
article_after a _ = a

abbrev pub its_interval : Record → Option Interval
its_interval (RecordKinds.Interval i) = Some i
its_interval _ = None

abbrev pub its_action : Record → Option Action
its_action (RecordKinds.Action x) = Some x
its_action _ = None

-- who sent the message that begins with this record
abbrev pub its_sender : Option Record → ℕ
its_sender (Some (RecordKinds.Header h)) = h.sender
its_sender _ = 0

-- the actions among records, in their order
abbrev pub actions_of : List Record → List Action
actions_of = filter_map its_action

-- the intervals among records, each with the article of its section
abbrev pub intervals_of : ℕ → List Record → List (ℕ × Interval)
intervals_of a [] = []
intervals_of a (RecordKinds.Interval i ∷ rs) = (a, i) ∷ intervals_of a rs
intervals_of a (r ∷ rs) = intervals_of (article_after a r) rs
