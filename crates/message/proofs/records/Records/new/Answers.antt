use Rattle.std.proofs.Common.{arith}
use Rattle.message.specs.Walks.{records_in}
use Rattle.message.proofs.ReadingBack.{found_back}
use Rattle.message.proofs.Yields.{few_placed, few_records, takes_runs}
use Rattle.message.proofs.records.Records.new.Goals as goal

pub returns-clause-reads_back : goal.returns-clause-reads_back
returns-clause-reads_back c = found_back c.args.bytes.now

pub returns-clause-few : goal.returns-clause-few
returns-clause-few c = let bytes = c.args.bytes.now in omega (arith, few_placed 0 (records_in bytes), few_records bytes)

pub returns-clause-runs : goal.returns-clause-runs
returns-clause-runs c = takes_runs
