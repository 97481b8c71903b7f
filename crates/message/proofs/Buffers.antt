-- One write after another. Assumes nothing.
use Rattle.std.proofs.Common.{◌≡◌, ℕ, ◌+◌, ◌≤◌, List, ◌++◌, length, take, drop, sym, ap, ◌∙◌, add_assoc, arith}
use Rattle.std.proofs.lemmas.List.{append_assoc, drop_at, drop-drop, length-append, length-take-le, take_at}
use Rattle.message.specs.Buffer.{overwritten}

module _ (b : List ℕ) (at : ℕ) (xs : List ℕ) (fits : at + length xs ≤ length b) where
  front : length (take at b ++ xs) ≡ at + length xs
  front = length-append (take at b) xs ∙ ap (λ n. n + length xs) (length-take-le at b (omega arith))

  pub take_overwritten : take (at + length xs) (overwritten b at xs) ≡ take at b ++ xs
  take_overwritten = ap (take (at + length xs)) (sym (append_assoc (take at b) xs _)) ∙ take_at (take at b ++ xs) _ _ front

  pub drop_overwritten : (n : ℕ) → drop (at + length xs + n) (overwritten b at xs) ≡ drop (at + length xs + n) b
  drop_overwritten n =
      sym (drop-drop n (at + length xs) (overwritten b at xs)) ∙ ap (drop n) (ap (drop (at + length xs)) (sym (append_assoc (take at b) xs _)) ∙ drop_at (take at b ++ xs) _ _ front) ∙ drop-drop n (at + length xs) b

  pub overwritten_more : (ys : List ℕ) → overwritten (overwritten b at xs) (at + length xs) ys ≡ overwritten b at (xs ++ ys)
  overwritten_more ys =
      (λ i. take_overwritten i ++ (ys ++ drop_overwritten (length ys) i)) ∙ append_assoc (take at b) xs _ ∙ ap (λ l. take at b ++ l) (sym (append_assoc xs ys _) ∙ ap (λ n. (xs ++ ys) ++ drop n b) (add_assoc at (length xs) (length ys) ∙ ap (λ n. at + n) (sym (length-append xs ys))))

-- a write, and the next one right after it
pub written_then : (b b₁ b₂ xs ys : List ℕ) (start at : ℕ) → at ≡ start + length xs → at ≤ length b → b₁ ≡ overwritten b start xs → b₂ ≡ overwritten b₁ at ys → b₂ ≡ overwritten b start (xs ++ ys)
written_then b b₁ b₂ xs ys start at far fits first next = next ∙ (λ i. overwritten (first i) (far i) ys) ∙ overwritten_more b start xs (omega arith) ys
