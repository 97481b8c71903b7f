-- What each kind knows, and how it steps its figure f by an operation o and an amount a. Each starts at 0.
-- Assumes nothing.
use Rattle.std.specs.Prelude.{ℕ, Bool, true, false, cond, ◌&&◌, ◌||◌, ℤ, pos, ◌+ℤ◌, ◌*ℤ◌, neg_ℤ, ◌==◌, bit_or, int_div, int_le}
use Rattle.std.proofs.Common.{to_z, of_z}
use Rattle.std.specs.Int.{int_min, int_max, int_wrap, w64}
use Rattle.kind.specs.Meaning.{Meaning}

abbrev pub between : ℤ → ℤ → ℤ → Bool
between low high z = int_le low z && int_le z high

-- On hand. Its one operation, 1, adds. Known are the amounts of at most 1,000,000 up or down, and the sum wraps
-- around: it is taken modulo 2 ^ 64, and is a signed number.

abbrev pub on_hand_knows : ℕ → ℤ → Bool
on_hand_knows o a = o == 1 && between (neg_ℤ (pos 1000000)) (pos 1000000) a

abbrev pub on_hand_step : ℤ → ℕ → ℤ → ℤ
on_hand_step f o a = cond (on_hand_knows o a) (int_wrap w64 (f +ℤ a)) f

abbrev pub on_hand : Meaning
on_hand = record { number = 1; starts = pos 0; knows = on_hand_knows; steps = on_hand_step; commutes = true }

-- Flags. Its one operation, 1, sets each bit of the figure that is 1 in the amount, and clears none. Known are the
-- amounts of at least 1 and at most 16,777,215.

abbrev pub flags_knows : ℕ → ℤ → Bool
flags_knows o a = o == 1 && between (pos 1) (pos 16777215) a

abbrev pub flags_step : ℤ → ℕ → ℤ → ℤ
flags_step f o a = cond (flags_knows o a) (to_z w64 (bit_or (of_z w64 f) (of_z w64 a))) f

abbrev pub flags : Meaning
flags = record { number = 2; starts = pos 0; knows = flags_knows; steps = flags_step; commutes = true }

-- A price in cents. The least price is 0 and the highest 99,999,999. Operation 1 puts the amount in the place of the
-- figure; known are the amounts that are prices. Operation 2 changes the figure by as many thousandths as the amount
-- says; known are the amounts of at most 500 up or down. Before the change the figure is held to the nearest price.
-- After it, what is left of a cent is dropped, and more than the highest price becomes the highest. A pair that is
-- not known changes nothing: the figure is not even held.

abbrev pub highest : ℤ
highest = pos 99999999

-- the nearest to f from 0 to the highest
abbrev pub held : ℤ → ℤ
held f = int_max (pos 0) (int_min f highest)

abbrev pub sets_price : ℕ → ℤ → Bool
sets_price o a = o == 1 && between (pos 0) highest a

abbrev pub raises_price : ℕ → ℤ → Bool
raises_price o a = o == 2 && between (neg_ℤ (pos 500)) (pos 500) a

abbrev pub price_knows : ℕ → ℤ → Bool
price_knows o a = sets_price o a || raises_price o a

-- the quotient is of numbers that are not negative, so that it is rounded down
abbrev pub raised : ℤ → ℤ → ℤ
raised f a = int_min (int_div (held f *ℤ (pos 1000 +ℤ a)) (pos 1000)) highest

abbrev pub price_step : ℤ → ℕ → ℤ → ℤ
price_step f o a = cond (sets_price o a) a (cond (raises_price o a) (raised f a) f)

abbrev pub price : Meaning
price = record { number = 3; starts = pos 0; knows = price_knows; steps = price_step; commutes = false }
