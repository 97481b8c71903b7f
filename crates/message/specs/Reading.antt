-- How bytes are read, record by record. Assumes nothing.
use Rattle.std.specs.Prelude.{◌≡◌, ℕ, ◌+◌, Bool, cond, List, length, drop, Some, None, Ok, Err, fold, Option, Result}
use Rattle.std.specs.Option.{is_some}
use Rattle.std.specs.Result.{result_ok}
use Rattle.action.specs.declared.setup.Setup.{Setup}
use Rattle.kind.specs.Meaning.{Meaning}
use Rattle.message.specs.declared.reader_fault.UnplacedFault.{UnplacedFault}
use Rattle.message.specs.declared.reader_fault.ReaderFault.{ReaderFault}
use Rattle.message.specs.declared.records.FoundRecord.{FoundRecord}
use Rattle.message.specs.declared.progress.Progress.{Progress}
use Rattle.message.specs.declared.record.Record.{Record}
use Rattle.message.specs.Decoding.{decoded}
use Rattle.message.specs.Faults.{fault_at}
use Rattle.message.specs.Format.{record_bytes}
use Rattle.message.specs.Progress.{admitted, start}
use Rattle.message.specs.Rules.{is_due}
use Rattle.message.specs.Walks.{its_action}

-- one step from place at, with the progress so far: a record that leads on, with the progress after it, or the end;
-- or a fault
abbrev pub Step : Type 0
Step = Result (Option (Record × Progress)) ReaderFault

abbrev pub judged : ℕ → Record → Result Progress UnplacedFault → Step
judged at r (Ok p) = Ok (Some (r, p))
judged at r (Err f) = Err (fault_at at f)

abbrev pub stepped : Meaning → Setup → Progress → ℕ → Result (Option Record) UnplacedFault → Step
stepped kind setup p at (Ok (Some r)) = judged at r (admitted kind setup p r)
stepped kind setup p at (Ok None) = Ok None
stepped kind setup p at (Err f) = Err (fault_at at f)

abbrev pub step : Meaning → Setup → Progress → ℕ → List ℕ → Step
step kind setup p at rest = stepped kind setup p at (decoded p.due rest)

-- what one call of the reader answers, and where it then stands
abbrev pub Next : Meaning → Setup → Progress → ℕ → List ℕ → Result (Option FoundRecord) ReaderFault → Progress → ℕ → Type 0
Next kind setup p at bytes (Ok None) q to = (step kind setup p at (drop at bytes) ≡ Ok None) × (q ≡ p) × (to ≡ at)
Next kind setup p at bytes (Ok (Some f)) q to =
    (step kind setup p at (drop at bytes) ≡ Ok (Some (f.«record», q))) × (f.offset ≡ at) × (to ≡ at + length (record_bytes f.«record»))
Next kind setup p at bytes (Err e) q to = (step kind setup p at (drop at bytes) ≡ Err e) × (q ≡ p) × (to ≡ at)

-- LISTS OF RECORDS

-- the progress after one more record, where it is due and lawful
abbrev pub onward : Meaning → Setup → Option Progress → Record → Option Progress
onward kind setup None r = None
onward kind setup (Some p) r = cond (is_due p.due r) (result_ok (admitted kind setup p r)) None

-- the progress after these records, where each is due and lawful after those before it
abbrev pub reading : Meaning → Setup → List Record → Option Progress
reading kind setup rs = fold (onward kind setup) (Some start) rs

abbrev pub is_action : Record → Bool
is_action r = is_some (its_action r)
