-- Where a history does not refuse. Assumes nothing.
use Rattle.std.proofs.Common.{◌≡◌, ℕ, ◌<◌, List, length, Ok, Err, Result, arith}
use Rattle.std.specs.List.{remove}
use Rattle.std.proofs.lemmas.Bool.Decides.{nat_tests}
use Rattle.action.specs.declared.action.Action.{Action}
use Rattle.history.specs.declared.history_fault.HistoryFault.{HistoryFault}
use Rattle.history.specs.Changes.{Removed}

pub granted_remove : (xs : List Action) (i : ℕ) (r : Result Action HistoryFault) (ys : List Action) → i < length xs → Removed xs i r ys → ys ≡ remove xs i
granted_remove xs i (Ok a) ys within h = h.2
granted_remove xs i (Err e) ys within h = absurd (grind (arith, nat_tests))
