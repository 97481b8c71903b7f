-- Every refusal of a call is the fault of a check that does not pass, and what a call decides goes by its checks.
use Rattle.std.proofs.Common.{◌≡◌, Bool, true, false, List, [], ◌∷◌, Some, None, Option, refl}
use Rattle.std.specs.List.{AllByRecursion}
use Rattle.action.specs.declared.refusal.Refusal.{Refusal}
use Rattle.action.specs.Lawful.{unless}
use Rattle.table.specs.declared.table_fault.TableFault.{TableFault}
use Rattle.table.specs.Faults.{shown}
use Rattle.script.specs.Acts.{by_refusal}

-- the checks of a call in their order, each with the fault of those that it does not pass
abbrev pub checks : List (Bool × TableFault) → Option Refusal
checks [] = None
checks (c ∷ cs) = unless c.0 (shown c.1) (checks cs)

-- P of what follows, where a call is refused by a check that may fail, and where it is not refused
pub by_checks : {X : Type 0} (P : X → Type 0) (Due : Refusal → Type 0) (refused : Refusal → X) (granted : X) (cs : List (Bool × TableFault)) → AllByRecursion (λ c. c.0 ≡ false → Due (shown c.1)) cs → ((e : TableFault) → Due (shown e) → checks cs ≡ Some (shown e) → P (refused (shown e))) → (checks cs ≡ None → P granted) → P (by_refusal (checks cs) refused granted)
by_checks P Due refused granted [] may_fail when_refused when_granted = when_granted refl
by_checks P Due refused granted ((true, e) ∷ cs) may_fail when_refused when_granted = by_checks P Due refused granted cs may_fail.1 when_refused when_granted
by_checks P Due refused granted ((false, e) ∷ cs) may_fail when_refused when_granted = when_refused e (may_fail.0 refl) refl
