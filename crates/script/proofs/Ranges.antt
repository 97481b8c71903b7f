-- What the commands of lines can name: one of the three sites, and an amount of six digits.
use Rattle.std.proofs.Common.{◌≡◌, ℕ, ◌<◌, ◌≤◌, Bool, true, cond, ◌&&◌, eqb, List, length, drop, pos, neg_ℤ, IfSome, Some, None, Option, arith}
use Rattle.std.proofs.lemmas.Bool.{cond_both}
use Rattle.std.proofs.lemmas.Bool.Decides.{nat_tests}
use Rattle.std.proofs.lemmas.Int.{ints}
use Rattle.script.specs.declared.command.Command.{Command}
use Rattle.script.specs.declared.command.Command.TheVariants.{Move, Offer, Take, Figure, OpenItem}
use Rattle.script.specs.Lines.{amount_of, are_digits, command, hundreds, is_digit, is_move, is_sign, is_site, move_of, place, signed_by, value}
use Rattle.script.specs.Moves.{SixDigits}

abbrev pub Ranged : Command → Type 0
Ranged (Move site article amount slot) = (site < 3) × SixDigits amount
Ranged (Offer site peer article slot) = site < 3
Ranged (Take site slot) = site < 3
Ranged (Figure site article) = site < 3
Ranged (OpenItem site peer article) = site < 3

-- FIELDS

signed_small : (sign n : ℕ) → n ≤ 999999 → SixDigits (signed_by sign n)
signed_small sign n small = cond_both (eqb sign 45) (neg_ℤ (pos n)) (pos n) SixDigits (λ _. (omega (arith, ints), omega (arith, ints))) (λ _. (omega (arith, ints), omega (arith, ints)))

hundreds_small : (b c d : ℕ) → are_digits b c d ≡ true → hundreds b c d ≤ 999
hundreds_small b c d are = grind (arith, nat_tests)

-- LINES

in_form : (is : Bool) (c : Command) → (is ≡ true → Ranged c) → IfSome (cond is (Some c) None) Ranged
in_form is c ranged = cond_both is (Some c) None (λ o. IfSome o Ranged) ranged (λ _. tt)

-- a body of two parts, the first of which is the acting site
acting : (long : Bool) (b : ℕ) (rest : Bool) → (long && (is_site b && rest)) ≡ true → value b < 3
acting long b rest is = grind (arith, nat_tests)

-- of the parts of a movement's body, the two that are three digits each
amount_digits : (long site article sign high low slot : Bool) → (long && (site && (article && (sign && (high && (low && slot)))))) ≡ true → (high ≡ true) × (low ≡ true)
amount_digits long site article sign high low slot is = (grind (arith, nat_tests), grind (arith, nat_tests))

move_ranged : (b : List ℕ) → IfSome (move_of b) Ranged
move_ranged b = in_form (is_move b) (Move (value (place b 0)) (value (place b 1)) (amount_of b) (value (place b 9))) ranged
  where
    ranged : is_move b ≡ true → (value (place b 0) < 3) × SixDigits (amount_of b)
    ranged is =
        let both = amount_digits (eqb (length b) 10) (is_site (place b 0)) (is_digit (place b 1)) (is_sign (place b 2)) (are_digits (place b 3) (place b 4) (place b 5)) (are_digits (place b 6) (place b 7) (place b 8)) (is_digit (place b 9)) is in
        let high = hundreds_small (place b 3) (place b 4) (place b 5) both.0 in
        let low = hundreds_small (place b 6) (place b 7) (place b 8) both.1 in
        (acting _ (place b 0) _ is, signed_small (place b 2) _ (omega (arith, high, low)))

either : (t : Bool) (x y : Option Command) → IfSome x Ranged → IfSome y Ranged → IfSome (cond t x y) Ranged
either t x y at_x at_y = cond_both t x y (λ o. IfSome o Ranged) (λ _. at_x) (λ _. at_y)

pub command_ranged : (line : List ℕ) → IfSome (command line) Ranged
command_ranged line =
    let letter = place line 0 in
    let b = drop 1 line in
    let first = place b 0 in
    either (eqb letter 77) _ _ (move_ranged b) (either (eqb letter 79) _ _ (in_form _ _ (acting _ first _)) (either (eqb letter 84) _ _ (in_form _ _ (acting _ first _)) (either (eqb letter 70) _ _ (in_form _ _ (acting _ first _)) (either (eqb letter 80) _ _ (in_form _ _ (acting _ first _)) tt))))
