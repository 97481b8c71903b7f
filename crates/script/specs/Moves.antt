-- The amounts that lines write, and that on-hand knows them. Assumes nothing.
use Rattle.std.specs.Prelude.{◌≡◌, true, ℤ, pos, negsuc, neg_ℤ, ◌≤ℤ◌}
use Rattle.std.proofs.Common.{refl, leb, leb→le, le_trans, lit≤}
use Rattle.std.proofs.lemmas.Bool.{and_from, le-leb}
use Rattle.kind.specs.Meanings.{on_hand_knows}

-- six digits and a sign write the amount
abbrev pub SixDigits : ℤ → Type 0
SixDigits z = (neg_ℤ (pos 999999) ≤ℤ z) × (z ≤ℤ pos 999999)

pub on_hand_moves : (z : ℤ) → SixDigits z → on_hand_knows 1 z ≡ true
on_hand_moves (pos n) six = le-leb n 1000000 (le_trans (leb→le n 999999 six.1.le) (lit≤ tt))
on_hand_moves (negsuc n) six = and_from (leb n 999999) true (le-leb n 999999 (le_trans (leb→le n 999998 six.0.le) (lit≤ tt))) refl
