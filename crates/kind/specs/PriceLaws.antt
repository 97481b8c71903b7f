-- Prices: a step stays within 64 bits, and what is not known changes nothing. Assumes nothing.
use Rattle.std.specs.Prelude.{◌≡◌, ℕ, false, ℤ, FitsSigned}
use Rattle.std.specs.Int.{w64}
use Rattle.std.proofs.Common.{◌∙◌, rules}
use Rattle.std.proofs.lemmas.Bool.{cond-false, or_parts}
use Rattle.kind.specs.Meanings.{price_knows, price_step, raises_price, sets_price}

pub price_fits : (f : ℤ) (o : ℕ) (a : ℤ) → FitsSigned w64 f → FitsSigned w64 (price_step f o a)
price_fits f o a fits = search rules

pub price_unknown : (f : ℤ) (o : ℕ) (a : ℤ) → price_knows o a ≡ false → price_step f o a ≡ f
price_unknown f o a unknown =
    let parts = or_parts (sets_price o a) (raises_price o a) unknown in
    cond-false (sets_price o a) a _ parts.0 ∙ cond-false (raises_price o a) _ f parts.1
