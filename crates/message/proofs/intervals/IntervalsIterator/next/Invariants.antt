use Rattle.std.proofs.Common.{◌≡◌, length}
use Rattle.message.specs.Found.{found_intervals_among}
use Rattle.message.proofs.intervals.IntervalsIterator.next.Given as goal

-- no interval has been passed over
abbrev pub invariant-loop-found : goal.invariant-loop-found
invariant-loop-found l = found_intervals_among l.self-inside.article l.self-inside.records ≡ l.fn.self

abbrev pub decreases-loop-found : goal.decreases-loop-found
decreases-loop-found l = length l.self-inside.records
