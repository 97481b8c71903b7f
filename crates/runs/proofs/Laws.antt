-- Every run leads to tables that stand, so the laws hold of it. Assumes nothing.
use Rattle.std.proofs.Common.{◌≡◌, ℕ, ◌≤◌, true, List, [], ◌∷◌, ℤ, w64, SFits}
use Rattle.kind.specs.Meaning.{Meaning}
use Rattle.table.specs.View.{View}
use Rattle.runs.specs.Events.{Call, Event, at}
use Rattle.runs.specs.Events.Call.{Opens, Writes, Commits, Abandons, Offers, Takes, Archives}
use Rattle.runs.specs.Laws.{Counted, EveryRun}
use Rattle.runs.specs.Runs.{Group, Turn}
use Rattle.runs.proofs.Archiving.{archive_stands}
use Rattle.runs.proofs.Beginning.{start_stands}
use Rattle.runs.proofs.Counting.{counts_each_once}
use Rattle.runs.proofs.Offers.{offer_stands}
use Rattle.runs.proofs.Opening.{abandon_stands, open_stands, write_stands}
use Rattle.runs.proofs.Standing.{Standing}
use Rattle.runs.proofs.Taking.{take_stands}
use Rattle.runs.proofs.Transactions.{commit_stands}

-- every run leads to tables that stand, so what holds where tables stand holds of every run
pub every_run : (kind : Meaning) {law : Group → List Event → (ℕ → View) → Type 0} → EveryRun kind (Standing kind) → ((group : Group) (events : List Event) (views : ℕ → View) → Standing kind group events views → law group events views) → EveryRun kind law
every_run kind stands holds group events views ran = holds group events views (stands group events views ran)

module _ (kind : Meaning) (small : kind.number ≤ 255) (start_fits : SFits w64 kind.starts) (step_fits : (f : ℤ) (o : ℕ) (a : ℤ) → SFits w64 f → SFits w64 (kind.steps f o a)) (commute : (f : ℤ) (o : ℕ) (a : ℤ) (p : ℕ) (b : ℤ) → SFits w64 f → kind.commutes ≡ true → kind.knows o a ≡ true → kind.knows p b ≡ true → kind.steps (kind.steps f o a) p b ≡ kind.steps (kind.steps f p b) o a) where
  -- one event more, whatever its call
  event_stands : (group : Group) (before : List Event) (s : ℕ) (call : Call) (old views : ℕ → View) → Standing kind group before old → Turn kind group before (at s call) old views → Standing kind group (at s call ∷ before) views
  event_stands group before s (Opens r) old views st turn = open_stands kind group before s old views st r turn
  event_stands group before s (Writes t article operation amount r) old views st turn = write_stands kind group before s old views st t article operation amount r turn
  event_stands group before s (Commits t buffer r after) old views st turn = commit_stands kind group before s old views st t buffer r after turn
  event_stands group before s (Abandons t r) old views st turn = abandon_stands kind group before s old views st t r turn
  event_stands group before s (Offers peer article buffer r after) old views st turn = offer_stands kind group before s old views st peer article buffer r after turn
  event_stands group before s (Takes bytes r) old views st turn = take_stands kind step_fits commute small group before s old views st bytes r turn
  event_stands group before s (Archives article r) old views st turn = archive_stands kind step_fits group before s old views st article r turn

  pub run_stands : EveryRun kind (Standing kind)
  run_stands group [] views ran = start_stands kind start_fits group views ran
  run_stands group (event ∷ before) views (old, ran, turn) = event_stands group before event.site event.call old views (run_stands group before old ran) turn

  pub every_counted : Counted kind
  every_counted = every_run kind run_stands (counts_each_once kind)
