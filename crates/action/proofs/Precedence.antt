-- The order of two actions is strict. Assumes nothing.
use Rattle.std.proofs.Common.{◌≡◌, ◌<◌, ◌≤◌, true, arith}
use Rattle.std.proofs.lemmas.Bool.{lt-ltb, or_left}
use Rattle.std.proofs.lemmas.Bool.Decides.{nat_tests}
use Rattle.action.specs.declared.action.Action.{Action}
use Rattle.action.specs.Order.{precedes}

pub precedes_by_time : (x y : Action) → x.time < y.time → precedes x y ≡ true
precedes_by_time x y h = or_left _ _ (lt-ltb x.time y.time h)

pub not_later : (x y : Action) → precedes x y ≡ true → x.time ≤ y.time
not_later x y h = grind (arith, nat_tests)

pub precedes_irreflexive : (x : Action) → precedes x x ≡ true → ⊥
precedes_irreflexive x h = grind (arith, nat_tests)

pub precedes_asymmetric : (x y : Action) → precedes x y ≡ true → precedes y x ≡ true → ⊥
precedes_asymmetric x y h k = grind (arith, nat_tests)

pub precedes_trans : (x y z : Action) → precedes x y ≡ true → precedes y z ≡ true → precedes x z ≡ true
precedes_trans x y z h k = grind (arith, nat_tests)
