-- Prices: what is computed on the way to a raised price fits 64 bits, so that the price is the one that is
-- meant. Assumes nothing.
use Rattle.std.proofs.Common.{◌≡◌, ◌*◌, ◌≤◌, ℤ, pos, negsuc, ◌+ℤ◌, ◌*ℤ◌, neg_ℤ, ◌≤ℤ◌, ap, ◌∙◌, arith, w64, SFits, to_z, of_z}
use lib.Signed.{quot_z}
use Rattle.std.specs.Int.{int_min}
use Rattle.std.proofs.lemmas.Nat.{mul-le}
use Rattle.std.proofs.lemmas.Int.{ints, clamps, to_z-of_z}
use Rattle.kind.specs.Meanings.{held, highest, raised}

abbrev bits : ℤ → ℤ
bits z = to_z w64 (of_z w64 z)

product_of : (h k : ℤ) → pos 0 ≤ℤ h → h ≤ℤ highest → pos 0 ≤ℤ k → k ≤ℤ pos 1500 → SFits w64 (h *ℤ k)
product_of (pos m) (pos n) _ b _ d =
    let below : m * n ≤ 99999999 * 1500 = mul-le m n 99999999 1500 (omega (arith, ints)) (omega (arith, ints)) in
    omega (arith, ints)
product_of (pos m) (negsuc n) _ _ c _ = absurd c.le
product_of (negsuc m) k a _ _ _ = absurd a.le

quotient_of : (z : ℤ) → SFits w64 z → SFits w64 (quot_z z (pos 1000))
quotient_of (pos m) fits = omega (arith, ints)
quotient_of (negsuc m) fits = omega (arith, ints)

held_low : (f : ℤ) → pos 0 ≤ℤ held f
held_low f = omega (arith, ints, clamps)

held_high : (f : ℤ) → held f ≤ℤ highest
held_high f = omega (arith, ints, clamps)

-- h is the figure f held, and t the thousandths
module _ (f h t : ℤ) (f_fits : SFits w64 f) (h_fits : SFits w64 h) (t_fits : SFits w64 t) (t_low : neg_ℤ (pos 500) ≤ℤ t) (t_high : t ≤ℤ pos 500) (by_held : h ≡ held (bits f)) where
  is_held : h ≡ held f
  is_held = simp to_z-of_z at by_held

  factor_fits : SFits w64 (pos 1000 +ℤ t)
  factor_fits = omega (arith, ints)

  whole_product : SFits w64 (h *ℤ (pos 1000 +ℤ t))
  whole_product =
      product_of h (pos 1000 +ℤ t) (rw is_held (held_low f)) (rw is_held (held_high f)) (omega (arith, ints)) (omega (arith, ints))

  pub product_fits : SFits w64 (bits h *ℤ bits (pos 1000 +ℤ bits t))
  product_fits = let factor = factor_fits in simp to_z-of_z whole_product

  pub raised_is : (r : ℤ) → SFits w64 r → r ≡ int_min (bits (quot_z (bits (bits h *ℤ bits (pos 1000 +ℤ bits t))) (pos 1000))) highest → bits r ≡ raised f t
  raised_is r r_fits by_min =
      let factor = factor_fits in
      let product = whole_product in
      let quotient = quotient_of (h *ℤ (pos 1000 +ℤ t)) product in
      let is_least : r ≡ int_min (quot_z (h *ℤ (pos 1000 +ℤ t)) (pos 1000)) highest = simp to_z-of_z at by_min in
      to_z-of_z w64 r r_fits ∙ is_least ∙ ap (λ z. int_min (quot_z (z *ℤ (pos 1000 +ℤ t)) (pos 1000)) highest) is_held
