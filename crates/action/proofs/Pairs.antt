-- Lists of which each element is related to all that follow it: their parts, and what is kept of them.
-- Assumes nothing.
use Rattle.std.proofs.Common.{Bool, true, false, cond, List, [], ◌∷◌, ◌++◌, filter}
use Rattle.std.specs.List.{AllByRecursion}
use Rattle.std.proofs.ByRecursion.{All-append, all_kept_by, All-weaker}
use Rattle.action.specs.Order.{Pairwise}
use Rattle.action.proofs.Members.{all_append_parts}

module _ {X : Type 0} (R : X → X → Type 0) where
  pub pairwise_append : (xs ys : List X) → Pairwise R xs → Pairwise R ys → AllByRecursion (λ x. AllByRecursion (R x) ys) xs → Pairwise R (xs ++ ys)
  pairwise_append [] ys a b h = b
  pairwise_append (x ∷ xs) ys a b h = (All-append (R x) xs ys a.0 h.0, pairwise_append xs ys a.1 b h.1)

  pub pairwise_parts : (xs ys : List X) → Pairwise R (xs ++ ys) → Pairwise R xs × Pairwise R ys × AllByRecursion (λ x. AllByRecursion (R x) ys) xs
  pairwise_parts [] ys h = (tt, h, tt)
  pairwise_parts (x ∷ xs) ys h =
      let first = all_append_parts (R x) xs ys h.0 in
      let more = pairwise_parts xs ys h.1 in
      ((first.0, more.0), more.1, (first.1, more.2))

  pub pairwise_kept : (p : X → Bool) (xs : List X) → Pairwise R xs → Pairwise R (filter p xs)
  pairwise_kept p [] h = tt
  pairwise_kept p (x ∷ xs) h = by_test (pairwise_kept p xs h.1) (p x)
    where
      by_test : Pairwise R (filter p xs) → (b : Bool) → Pairwise R (cond b (x ∷ filter p xs) (filter p xs))
      by_test rest true = (all_kept_by p (R x) xs h.0, rest)
      by_test rest false = rest

  pub pairwise_weaker : (S : X → X → Type 0) → ((x y : X) → R x y → S x y) → (xs : List X) → Pairwise R xs → Pairwise S xs
  pairwise_weaker S weaker [] h = tt
  pairwise_weaker S weaker (x ∷ xs) h = (All-weaker (R x) (S x) (weaker x) xs h.0, pairwise_weaker S weaker xs h.1)
