use Rattle.std.proofs.Common.{map, length, ap, ◌∙◌, arith}
use Rattle.message.specs.Found.{found_intervals_among, told}
use Rattle.message.specs.Walks.{records_in}
use Rattle.message.proofs.ReadingBack.{intervals_back}
use Rattle.message.proofs.Yields.{few_records, few_found_intervals, takes_runs, told_placed}
use Rattle.message.proofs.intervals.Intervals.new.Goals as goal

pub returns-clause-told : goal.returns-clause-told
returns-clause-told c = ap (λ l. map told (found_intervals_among 0 l)) c.new.ensures.left ∙ told_placed 0 0 (records_in c.args.bytes.now)

pub returns-clause-reads_back : goal.returns-clause-reads_back
returns-clause-reads_back c = λ m is. returns-clause-told c ∙ intervals_back c.args.bytes.now m is

pub returns-clause-places : goal.returns-clause-places
returns-clause-places c = λ m is. ap (found_intervals_among 0) (c.new.ensures.reads_back m is)

pub returns-clause-few : goal.returns-clause-few
returns-clause-few c =
    let bytes = c.args.bytes.now in
    omega (arith, ap (λ l. length (found_intervals_among 0 l)) c.new.ensures.left, few_found_intervals 0 0 (records_in bytes), few_records bytes)

pub returns-clause-runs : goal.returns-clause-runs
returns-clause-runs c = takes_runs
