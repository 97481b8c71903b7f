-- What a kind of figure is. Assumes nothing.
use Rattle.std.specs.Prelude.{ℕ, Bool, ℤ}

pub record Meaning : Type 0 where
  pub number : ℕ
  -- the figure before the first action
  pub starts : ℤ
  -- does it know this operation with this amount?
  pub knows : ℕ → ℤ → Bool
  -- the figure that a figure, an operation and an amount lead to
  pub steps : ℤ → ℕ → ℤ → ℤ
  -- does the order of known pairs make no difference?
  pub commutes : Bool
