-- Which pairs of an operation and an amount stand for a change of a price. Assumes nothing.
use Rattle.std.specs.Prelude.{◌≡◌, ℕ, true, false, ℤ}
use Rattle.kind.specs.Meanings.{raises_price, sets_price}
use Rattle.kind.specs.declared.price.Change.{Change}
use Rattle.kind.specs.declared.price.Change.TheVariants.{Raise, Set}

abbrev pub StandsFor : ℕ → ℤ → Change → Type 0
StandsFor o a (Set cents) = (sets_price o a ≡ true) × (cents ≡ a)
StandsFor o a (Raise thousandths) = (sets_price o a ≡ false) × (raises_price o a ≡ true) × (thousandths ≡ a)
