-- What a lent buffer holds after a write. Assumes nothing.
use Rattle.std.specs.Prelude.{◌≡◌, ℕ, ◌+◌, ◌<◌, ◌≤◌, List, ◌++◌, length, take, drop, Some, None, Option}

-- the bytes stand from place at on, and all others are as they were
abbrev pub overwritten : List ℕ → ℕ → List ℕ → List ℕ
overwritten buffer at bytes = take at buffer ++ (bytes ++ drop (at + length bytes) buffer)

-- the bytes are put from place at on, and the place after them is answered; or they do not fit,
-- and the buffer stays
abbrev pub Put : List ℕ → ℕ → List ℕ → Option ℕ → List ℕ → Type 0
Put buffer at bytes (Some end) after = (end ≡ at + length bytes) × (end ≤ length buffer) × (after ≡ overwritten buffer at bytes)
Put buffer at bytes None after = (length buffer < at + length bytes) × (after ≡ buffer)
