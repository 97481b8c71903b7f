-- A list sifted in place, from the end. Assumes nothing.
use Rattle.std.proofs.Common.{◌≡◌, ℕ, ◌+◌, ◌<◌, Bool, true, false, not, List, ◌++◌, length, get_or, take, drop, filter, sym, ap, arith}
use Rattle.std.specs.List.{remove}
use Rattle.std.proofs.lemmas.Grind.{common_steps}

-- from place i on, what passes is taken out of xs; the one before it, at place j, is looked at
module _ {X : Type 0} (p : X → Bool) (all xs : List X) (i j : ℕ) (e : i ≡ j + 1) (within : j < length all) where
  abbrev stays : X → Bool
  stays x = not (p x)

  pub sifted_out : xs ≡ take i all ++ filter stays (drop i all) → (x : X) → x ≡ get_or xs j x → true ≡ p x → remove xs j ≡ take j all ++ filter stays (drop j all)
  sifted_out so x read passes = let goes : stays x ≡ false = ap not (sym passes) in grind (arith, common_steps)

  pub sifted_on : xs ≡ take i all ++ filter stays (drop i all) → (x : X) → x ≡ get_or xs j x → false ≡ p x → xs ≡ take j all ++ filter stays (drop j all)
  sifted_on so x read fails = let keeps : stays x ≡ true = ap not (sym fails) in grind (arith, common_steps)
