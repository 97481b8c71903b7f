-- Which record the next bytes are, where one of a kind is due. Assumes nothing.
use Rattle.std.specs.Prelude.{ℕ, ◌+◌, ◌*◌, Bool, cond, ◌&&◌, List, length, Some, None, Ok, Err, Option, Result, ◌==◌, nat_le, slice_index}
use Rattle.std.specs.Option.{option_flatten}
use Rattle.std.specs.Result.{result_ok}
use Rattle.action.specs.Bytes.{action_of, number4}
use Rattle.message.specs.declared.reader_fault.UnplacedFault.{UnplacedFault}
use Rattle.message.specs.declared.reader_fault.UnplacedFault.TheVariants.{Cut, Trailing}
use Rattle.message.specs.declared.due.Due.{Due}
use Rattle.message.specs.declared.record.Header.{Header}
use Rattle.message.specs.declared.record.Interval.{Interval}
use Rattle.message.specs.declared.record.SectionHead.{SectionHead}
use Rattle.message.specs.declared.record.Record.{Record}
use Rattle.message.specs.declared.record.Record.TheVariants as RecordKinds
use Rattle.message.specs.Format.{record_bytes}

-- the bytes begin with that kind byte, and are at least so many
abbrev pub begins : ℕ → ℕ → List ℕ → Bool
begins kind size bs = nat_le size (length bs) && slice_index bs 0 == kind

abbrev pub number2 : List ℕ → ℕ → ℕ
number2 bs i = slice_index bs i * 256 + slice_index bs (i + 1)

abbrev pub header_in : List ℕ → Header
header_in bs = record { group = number2 bs 1; kind = slice_index bs 3; sender = slice_index bs 4; sections = slice_index bs 5 }

abbrev pub section_in : List ℕ → SectionHead
section_in bs = record { article = slice_index bs 1; intervals = slice_index bs 2; actions = number2 bs 3 }

abbrev pub interval_in : List ℕ → Interval
interval_in bs = record { site = slice_index bs 1; from = number4 bs 2; to = number4 bs 6 }

-- the record that is due, if it is there whole; or the end, if that is due and there; or else the fault
abbrev pub decoded : Due → List ℕ → Result (Option Record) UnplacedFault
decoded Due.Header bs = cond (begins 0x48 6 bs) (Ok (Some (RecordKinds.Header (header_in bs)))) (Err Cut)
decoded Due.Section bs = cond (begins 0x53 5 bs) (Ok (Some (RecordKinds.Section (section_in bs)))) (Err Cut)
decoded Due.Interval bs = cond (begins 0x49 10 bs) (Ok (Some (RecordKinds.Interval (interval_in bs)))) (Err Cut)
decoded Due.Action bs = cond (begins 0x41 16 bs) (Ok (Some (RecordKinds.Action (action_of bs)))) (Err Cut)
decoded Due.End bs = cond (length bs == 0) (Ok None) (Err Trailing)

-- the record, where one was decoded
abbrev pub whole : Result (Option Record) UnplacedFault → Option Record
whole d = option_flatten (result_ok d)

-- how many bytes the record takes, where there is one
abbrev pub size_of : Option Record → ℕ
size_of None = 0
size_of (Some r) = length (record_bytes r)
