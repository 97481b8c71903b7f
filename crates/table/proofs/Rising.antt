-- Numbers in strictly ascending order. Assumes nothing.
use Rattle.std.proofs.Common.{◌≡◌, ℕ, zero, suc, ◌+◌, ◌<◌, ◌≤◌, Bool, List, [], ◌∷◌, map, filter, refl, ◌∙◌, arith}
use Rattle.std.specs.List.{range_with_len, ContainsAt as Has, AllByRecursion}
use Rattle.std.proofs.lemmas.List.FromFn.{get_or-range_with_len, length-range_with_len}
use Rattle.std.proofs.ByRecursion.{All-weaker}
use Rattle.action.proofs.Pairs.{pairwise_kept}
use Rattle.message.specs.Lawful.{Rising}
use Rattle.message.proofs.Carried.{has_map}

counting_ge : (a n : ℕ) → AllByRecursion (λ y. a ≤ y) (range_with_len a n)
counting_ge a zero = tt
counting_ge a (suc n) = (omega arith, All-weaker (λ y. a + 1 ≤ y) (λ y. a ≤ y) (λ y h. omega (arith, h)) (range_with_len (a + 1) n) (counting_ge (a + 1) n))

counting_lt : (a n m : ℕ) → a + n ≤ m → AllByRecursion (λ y. y < m) (range_with_len a n)
counting_lt a zero m h = tt
counting_lt a (suc n) m h = (omega arith, counting_lt (a + 1) n m (omega arith))

pub below_counting : (n : ℕ) → AllByRecursion (λ y. y < n) (range_with_len 0 n)
below_counting n = counting_lt 0 n n (omega arith)

pub rising_counting : (a n : ℕ) → Rising (range_with_len a n)
rising_counting a zero = tt
rising_counting a (suc n) = (All-weaker (λ y. a + 1 ≤ y) (λ y. a < y) (λ y h. omega (arith, h)) (range_with_len (a + 1) n) (counting_ge (a + 1) n), rising_counting (a + 1) n)

pub rising_kept : (p : ℕ → Bool) (xs : List ℕ) → Rising xs → Rising (filter p xs)
rising_kept = pairwise_kept (λ x y. x < y)

-- a function that is undone
pub map_back : {X Y : Type 0} (f : X → Y) (g : Y → X) → ((x : X) → g (f x) ≡ x) → (xs : List X) → map g (map f xs) ≡ xs
map_back f g undone [] = refl
map_back f g undone (x ∷ xs) = λ i. undone x i ∷ map_back f g undone xs i

pub has_counting : (n c : ℕ) → c < n → Has (range_with_len 0 n) c
has_counting n c lt = (c, omega (arith, length-range_with_len 0 n), λ d. get_or-range_with_len 0 n c d lt ∙ omega arith)

pub has_counted : {X : Type 0} (f : ℕ → X) (n c : ℕ) → c < n → Has (map f (range_with_len 0 n)) (f c)
has_counted f n c lt = has_map f (range_with_len 0 n) c (has_counting n c lt)
