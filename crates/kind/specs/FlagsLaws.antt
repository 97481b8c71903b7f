-- Flags: a step stays within 64 bits, what is not known changes nothing, and the order of two known pairs makes no
-- difference. Assumes nothing.
use Rattle.std.specs.Prelude.{◌≡◌, ℕ, ◌^◌, ◌<◌, true, false, ℤ, FitsSigned, bit_or}
use Rattle.std.proofs.Common.{ap, arith, to_z, of_z}
use Rattle.std.proofs.lemmas.Nat.{or_lt}
use Rattle.std.proofs.lemmas.Nat.Bits.{bit_at_or, same_from_bits}
use Rattle.std.specs.Int.{w64}
use Rattle.std.proofs.Math.Facts.{Fits-of_z, sfits_to_z}
use Rattle.std.proofs.lemmas.Int.{of_z-to_z, ints}
use Rattle.std.proofs.lemmas.Bool.{cond-false, cond_both}
use Rattle.std.proofs.lemmas.Bool.Decides.{nat_tests}
use Rattle.kind.specs.Meanings.{flags_knows, flags_step}

swapped : (x y z : ℕ) → bit_or (bit_or x y) z ≡ bit_or (bit_or x z) y
swapped x y z =
    same_from_bits _ _ (λ i. omega (arith, bit_at_or (bit_or x y) z i, bit_at_or x y i, bit_at_or (bit_or x z) y i, bit_at_or x z i))

known_bits : (o : ℕ) (a : ℤ) → flags_knows o a ≡ true → of_z w64 a < 2 ^ 64
known_bits o a x = grind (arith, ints, nat_tests)

pub flags_fits : (f : ℤ) (o : ℕ) (a : ℤ) → FitsSigned w64 f → FitsSigned w64 (flags_step f o a)
flags_fits f o a fits =
    cond_both (flags_knows o a) (to_z w64 (bit_or (of_z w64 f) (of_z w64 a))) f (FitsSigned w64)
    (λ known. sfits_to_z (record { fits = or_lt 64 _ _ (Fits-of_z fits).fits (known_bits o a known) }))
    (λ _. fits)

pub flags_unknown : (f : ℤ) (o : ℕ) (a : ℤ) → flags_knows o a ≡ false → flags_step f o a ≡ f
flags_unknown f o a unknown = cond-false (flags_knows o a) _ f unknown

pub flags_commute : (f : ℤ) (o : ℕ) (a : ℤ) (p : ℕ) (b : ℤ) → FitsSigned w64 f → flags_knows o a ≡ true → flags_knows p b ≡ true → flags_step (flags_step f o a) p b ≡ flags_step (flags_step f p b) o a
flags_commute f o a p b fits x y =
    let bits : of_z w64 f < 2 ^ 64 = (Fits-of_z fits).fits in
    let one : bit_or (of_z w64 f) (of_z w64 a) < 2 ^ 64 = or_lt 64 _ _ bits (known_bits o a x) in
    let other : bit_or (of_z w64 f) (of_z w64 b) < 2 ^ 64 = or_lt 64 _ _ bits (known_bits p b y) in
    simp (x, y, of_z-to_z) (ap (to_z w64) (swapped (of_z w64 f) (of_z w64 a) (of_z w64 b)))
