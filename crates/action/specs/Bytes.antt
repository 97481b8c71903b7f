-- Numbers and actions as bytes. Assumes nothing.
use Rattle.std.specs.Prelude.{ℕ, zero, suc, ◌+◌, ◌*◌, ◌/◌, ◌%◌, ◌^◌, List, [], ◌∷◌, ◌++◌, ℤ, slice_index}
use Rattle.std.specs.Int.{w32}
use Rattle.std.proofs.Common.{to_z, of_z}
use Rattle.action.specs.declared.action.Action.{Action}

-- the k bytes of n, most significant first
abbrev pub bytes_of : ℕ → ℕ → List ℕ
bytes_of zero n = []
bytes_of (suc zero) n = (n % 256) ∷ []
bytes_of (suc (suc k)) n = (n / 256 ^ suc k % 256) ∷ bytes_of (suc k) n

-- a signed amount of 32 bits, in two's complement
abbrev pub amount_bytes : ℤ → List ℕ
amount_bytes z = bytes_of 4 (of_z w32 z)

-- record A: its kind byte 0x41, coordinator, time, transaction, article, operation and amount
abbrev pub action_bytes : Action → List ℕ
action_bytes a =
    0x41 ∷ (a.coordinator ∷ (bytes_of 4 a.time ++ (bytes_of 4 a.transaction ++ (a.article ∷ (a.operation ∷ amount_bytes a.amount)))))

-- the number in the four bytes from place i on
abbrev pub number4 : List ℕ → ℕ → ℕ
number4 bs i = slice_index bs i * 16777216 + slice_index bs (i + 1) * 65536 + slice_index bs (i + 2) * 256 + slice_index bs (i + 3)

-- the action that sixteen bytes stand for, whatever their kind byte
abbrev pub action_of : List ℕ → Action
action_of bs = record {
  coordinator = slice_index bs 1;
  time = number4 bs 2;
  transaction = number4 bs 6;
  article = slice_index bs 10;
  operation = slice_index bs 11;
  amount = to_z w32 (number4 bs 12);
}
