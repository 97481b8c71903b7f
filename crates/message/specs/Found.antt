-- The records that bytes hold, each with its place, and the intervals and actions among them. Assumes nothing.
use Rattle.std.specs.Prelude.{ℕ, ◌+◌, Bool, List, [], ◌∷◌, length, drop, None, Some, Option}
use Rattle.std.specs.List.{cons_option, filter_map, find}
use Rattle.std.specs.Option.{option_map}
use Rattle.action.specs.declared.action.Action.{Action}
use Rattle.message.specs.declared.records.FoundRecord.{FoundRecord}
use Rattle.message.specs.declared.intervals.FoundInterval.{FoundInterval}
use Rattle.message.specs.declared.record.Interval.{Interval}
use Rattle.message.specs.declared.record.Record.{Record}
use Rattle.message.specs.Format.{record_bytes}
use Rattle.message.specs.Walks.{article_after, its_action, its_interval, records_in}

-- records one after another, the first at place at
abbrev pub placed : ℕ → List Record → List FoundRecord
placed at [] = []
placed at (r ∷ rs) = record { offset = at; «record» = r } ∷ placed (at + length (record_bytes r)) rs

-- what the bytes hold from place at on
abbrev pub found_from : List ℕ → ℕ → List FoundRecord
found_from bytes at = placed at (records_in (drop at bytes))

abbrev pub found_in : List ℕ → List FoundRecord
found_in bytes = placed 0 (records_in bytes)

-- the interval, if there is one, with its place and its article
abbrev pub found_interval_of : ℕ → ℕ → Option Interval → Option FoundInterval
found_interval_of at a None = None
found_interval_of at a (Some i) = Some (record { offset = at; article = a; interval = i })

-- the intervals among them, where article a is the one that the first is about
abbrev pub found_intervals_among : ℕ → List FoundRecord → List FoundInterval
found_intervals_among a [] = []
found_intervals_among a (f ∷ fs) = cons_option (found_interval_of f.offset a (its_interval f.«record»)) (found_intervals_among (article_after a f.«record») fs)

abbrev pub found_intervals_in : List ℕ → List FoundInterval
found_intervals_in bytes = found_intervals_among 0 (found_in bytes)

-- an interval with its article, without its place
abbrev pub told : FoundInterval → ℕ × Interval
told s = (s.article, s.interval)

-- where the first interval stands that passes a test, of records that begin at place at, the first about article a
abbrev pub first_place : (ℕ → Interval → Bool) → ℕ → ℕ → List Record → Option ℕ
first_place test at a rs =
    option_map (λ s. s.offset) (find (λ s. test s.article s.interval) (found_intervals_among a (placed at rs)))

-- the actions among them
abbrev pub actions_among : List FoundRecord → List Action
actions_among = filter_map (λ f. its_action f.«record»)
