-- An action's bytes stand for that action. Assumes nothing.
use Rattle.std.proofs.Common.{◌≡◌, ℕ, ◌+◌, ◌*◌, ◌/◌, ◌%◌, ◌^◌, ◌<◌, ℤ, ap, ◌∙◌, arith, w32, SFits, to_z, of_z}
use Rattle.std.proofs.lemmas.Nat.{from_be_bytes-to_be_bytes_4}
use mir.Facts.{Fits-of_z}
use Rattle.std.proofs.lemmas.Int.{to_z-of_z}
use Rattle.action.specs.declared.action.Action.{Action}
use Rattle.action.specs.Bytes.{action_bytes, action_of}

pub four_bytes : (n : ℕ) → n < 2 ^ 32 → n / 16777216 % 256 * 16777216 + n / 65536 % 256 * 65536 + n / 256 % 256 * 256 + n % 256 ≡ n
four_bytes n h = omega (arith, from_be_bytes-to_be_bytes_4 n h)

module _ (a : Action) (t : a.time < 2 ^ 32) (n : a.transaction < 2 ^ 32) (z : SFits w32 a.amount) where
  pub action_back : action_of (action_bytes a) ≡ a
  action_back =
      let bits : of_z w32 a.amount < 2 ^ 32 = (Fits-of_z z).fits in
      let f : ℕ → ℕ → ℤ → Action = λ t n z. record { coordinator = a.coordinator; time = t; transaction = n; article = a.article; operation = a.operation; amount = z } in
      λ i. f (four_bytes a.time t i) (four_bytes a.transaction n i) ((ap (to_z w32) (four_bytes _ bits) ∙ to_z-of_z w32 a.amount z) i)
