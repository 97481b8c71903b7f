-- The greatest time that a site has reached. Assumes nothing.
use Rattle.std.proofs.Common.{◌≡◌, ℕ, ◌<◌, ◌≤◌, List, map, ⊎_elim, arith}
use Rattle.std.specs.List.{range_with_len}
use Rattle.std.proofs.ByRecursion.{all-has, All-map, All-weaker}
use Rattle.std.proofs.lemmas.Bool.{cases_lt}
use Rattle.table.proofs.Greatest as Listed
use Rattle.table.proofs.Rising.{below_counting, has_counted}
use Rattle.runs.specs.Books.{Book, greatest, greatest_of}
use Rattle.runs.specs.Runs.{Group}

-- OF A FUNCTION

module _ (f : ℕ → ℕ) (n : ℕ) where
  -- its values below n, and the greatest of them
  abbrev values : List ℕ
  values = map f (range_with_len 0 n)

  abbrev most : ℕ
  most = greatest_of values

  most_ge : (k : ℕ) → k < n → f k ≤ most
  most_ge k lt = all-has (λ m. m ≤ most) values (f k) (Listed.greatest_ge (λ m. m) 0 values) (has_counted f n k lt)

  most_le : (c : ℕ) → ((k : ℕ) → k < n → f k ≤ c) → most ≤ c
  most_le c each = Listed.greatest_le (λ m. m) c 0 values (omega arith) (All-map (λ m. m ≤ c) f (range_with_len 0 n) (All-weaker (λ k. k < n) (λ k. f k ≤ c) each (range_with_len 0 n) (below_counting n)))

  -- a number that is less than the greatest of them is less than one of them
  most_above : (c : ℕ) → c < most → (k : ℕ) × (k < n) × (c < f k)
  most_above c lt =
      let m = Listed.greatest_above (λ m. m) c values lt in
      all-has (λ m. c < m → (k : ℕ) × (k < n) × (c < f k)) values m.0 (All-map (λ m. c < m → (k : ℕ) × (k < n) × (c < f k)) f (range_with_len 0 n) (All-weaker (λ k. k < n) (λ k. c < f k → (k : ℕ) × (k < n) × (c < f k)) (λ k below h. (k, below, h)) (range_with_len 0 n) (below_counting n))) m.1 m.2

-- OF A SITE

module _ (group : Group) (b : Book) (s : ℕ) where
  pub greatest_ge : (a q : ℕ) → a < group.articles → q < group.sites → b.reach s a q ≤ greatest group b s
  greatest_ge a q al ql = omega (arith, most_ge (b.reach s a) group.sites q ql, most_ge (λ c. greatest_of (map (b.reach s c) (range_with_len 0 group.sites))) group.articles a al)

  pub greatest_le : (c : ℕ) → ((a q : ℕ) → a < group.articles → q < group.sites → b.reach s a q ≤ c) → greatest group b s ≤ c
  greatest_le c each = most_le (λ a. greatest_of (map (b.reach s a) (range_with_len 0 group.sites))) group.articles c (λ a al. most_le (b.reach s a) group.sites c (λ q ql. each a q al ql))

  -- a time before the greatest is before some time that the site has reached
  pub greatest_above : (c : ℕ) → c < greatest group b s → (a : ℕ) × (q : ℕ) × (a < group.articles) × (q < group.sites) × (c < b.reach s a q)
  greatest_above c lt =
      let one = most_above (λ a. greatest_of (map (b.reach s a) (range_with_len 0 group.sites))) group.articles c lt in
      let two = most_above (b.reach s one.0) group.sites c one.2 in
      (one.0, two.0, one.1, two.1, two.2)

  -- a time is the greatest where no time reached is after it, and each time before it is before one that is reached
  pub greatest_is : (c : ℕ) → ((a q : ℕ) → a < group.articles → q < group.sites → b.reach s a q ≤ c) → ((d : ℕ) → d < c → (a : ℕ) × (q : ℕ) × (a < group.articles) × (q < group.sites) × (d < b.reach s a q)) → c ≡ greatest group b s
  greatest_is c above below =
      ⊎_elim
      (λ lt. let h = below (greatest group b s) lt in absurd (omega (arith, h.4, greatest_ge h.0 h.1 h.2 h.3)))
      (λ ge. omega (arith, greatest_le c above))
      (cases_lt (greatest group b s) c)
