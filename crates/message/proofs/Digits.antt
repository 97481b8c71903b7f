-- Numbers read from bytes have those bytes. Assumes nothing.
use Rattle.std.proofs.Common.{◌≡◌, ℕ, ◌+◌, ◌*◌, ◌/◌, ◌%◌, ◌<◌, [], ◌∷◌, sym, ap, ◌∙◌, arith}
use native.Mathlib.Nat.{div-div-eq-div-mul}
use Rattle.action.specs.Bytes.{bytes_of}

pub two_digits : (a b : ℕ) → a < 256 → b < 256 → bytes_of 2 (a * 256 + b) ≡ a ∷ b ∷ []
two_digits a b al bl = λ i. (high i ∷ (low i ∷ []))
  where
    high : (a * 256 + b) / 256 % 256 ≡ a
    high = omega arith

    low : (a * 256 + b) % 256 ≡ b
    low = omega arith

pub four_digits : (a b c d : ℕ) → a < 256 → b < 256 → c < 256 → d < 256 → bytes_of 4 (a * 16777216 + b * 65536 + c * 256 + d) ≡ a ∷ b ∷ c ∷ d ∷ []
four_digits a b c d al bl cl dl =
    let n = a * 16777216 + b * 65536 + c * 256 + d in
    let n₁ = a * 65536 + b * 256 + c in
    let n₂ = a * 256 + b in
    let e₁ : n / 256 ≡ n₁ = omega arith in
    let e₂ : n / 65536 ≡ n₂ = sym (div-div-eq-div-mul n 256 256) ∙ ap (λ m. m / 256) e₁ ∙ omega arith in
    let e₃ : n / 16777216 ≡ a = sym (div-div-eq-div-mul n 65536 256) ∙ ap (λ m. m / 256) e₂ ∙ omega arith in
    λ i. ((ap (λ m. m % 256) e₃ ∙ small a al) i ∷ ((ap (λ m. m % 256) e₂ ∙ low a b bl) i ∷ ((ap (λ m. m % 256) e₁ ∙ low₁) i ∷ (low₀ i ∷ []))))
  where
    small : (x : ℕ) → x < 256 → x % 256 ≡ x
    small x h = omega arith

    low : (x y : ℕ) → y < 256 → (x * 256 + y) % 256 ≡ y
    low x y h = omega arith

    low₁ : (a * 65536 + b * 256 + c) % 256 ≡ c
    low₁ = omega arith

    low₀ : (a * 16777216 + b * 65536 + c * 256 + d) % 256 ≡ d
    low₀ = omega arith
