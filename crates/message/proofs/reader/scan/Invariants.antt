use Rattle.std.proofs.Common.{◌≡◌, ◌-◌, ◌≤◌, length, count_by}
use Rattle.message.specs.Reading.{is_action}
use Rattle.message.specs.Scanning.{Begun}
use Rattle.message.proofs.reader.scan.Given as goal

abbrev pub invariant-loop-found : goal.invariant-loop-found
invariant-loop-found g l =
    let setup = l.initial.reader.setup in
    let reader = l.reader in
    (reader.setup ≡ setup) × (reader.bytes.now ≡ l.bytes) × (l.actions ≤ reader.at) × ((b : Begun g.K.Kind.means setup l.bytes reader.at reader.progress) × (l.actions ≡ count_by is_action b.0))

abbrev pub decreases-loop-found : goal.decreases-loop-found
decreases-loop-found g l = length l.bytes - l.reader.at
