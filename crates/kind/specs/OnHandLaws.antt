-- On hand: a step stays within 64 bits, what is not known changes nothing, and the order of two known pairs makes no
-- difference. Assumes nothing.
use Rattle.std.specs.Prelude.{◌≡◌, ℕ, true, false, ℤ, ◌+ℤ◌, FitsSigned}
use Rattle.std.proofs.Common.{ap}
use Rattle.std.proofs.Math.IntN.{+ℤ_assoc, +ℤ_comm}
use Rattle.std.specs.Int.{int_wrap, w64}
use Rattle.std.proofs.lemmas.Int.{int_wrap-add_left, SFits-int_wrap}
use Rattle.std.proofs.lemmas.Bool.{cond-false, cond_both}
use Rattle.kind.specs.Meanings.{on_hand_knows, on_hand_step}

pub on_hand_fits : (f : ℤ) (o : ℕ) (a : ℤ) → FitsSigned w64 f → FitsSigned w64 (on_hand_step f o a)
on_hand_fits f o a fits = cond_both (on_hand_knows o a) (int_wrap w64 (f +ℤ a)) f (FitsSigned w64) (λ _. SFits-int_wrap w64 (f +ℤ a)) (λ _. fits)

pub on_hand_unknown : (f : ℤ) (o : ℕ) (a : ℤ) → on_hand_knows o a ≡ false → on_hand_step f o a ≡ f
on_hand_unknown f o a unknown = cond-false (on_hand_knows o a) _ f unknown

swapped : (f a b : ℤ) → f +ℤ a +ℤ b ≡ f +ℤ b +ℤ a
swapped f a b = simp (+ℤ_assoc, +ℤ_comm a b)

pub on_hand_commutes : (f : ℤ) (o : ℕ) (a : ℤ) (p : ℕ) (b : ℤ) → on_hand_knows o a ≡ true → on_hand_knows p b ≡ true → on_hand_step (on_hand_step f o a) p b ≡ on_hand_step (on_hand_step f p b) o a
on_hand_commutes f o a p b x y = simp (x, y, int_wrap-add_left) (ap (int_wrap w64) (swapped f a b))
