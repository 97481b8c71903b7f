-- A loop that puts actions into a buffer, by what is left to put. Assumes nothing.
use Rattle.std.proofs.Common.{◌≡◌, ℕ, ◌+◌, ◌*◌, ◌≤◌, Bool, true, false, cond, List, [], ◌∷◌, ◌++◌, length, take, drop, filter, sym, ap, ◌∙◌, subst, arith}
use Rattle.std.specs.List.{flat_map}
use Rattle.std.proofs.lemmas.List.{take-append-drop}
use Rattle.action.specs.declared.action.Action.{Action}
use Rattle.action.specs.Bytes.{action_bytes}
use Rattle.message.specs.Buffer.{overwritten}
use Rattle.message.proofs.Buffers.{overwritten_more}

-- what is left to put leads the buffer and the place to where all of it leads
abbrev pub Putting : List ℕ → ℕ → List Action → List ℕ → ℕ → List Action → Type 0
Putting b at left b₀ start all =
    (at + 16 * length left ≤ length b) × (at + 16 * length left ≡ start + 16 * length all) × (overwritten b at (flat_map action_bytes left) ≡ overwritten b₀ start (flat_map action_bytes all))

module _ (p : Action → Bool) (b b₀ : List ℕ) (at start : ℕ) (xs ys all : List Action) (x : Action) (first : xs ≡ x ∷ ys) (h : Putting b at (filter p xs) b₀ start all) where
  -- the first of what is left passes the test, and is put
  pub put_first : true ≡ p x → (b₁ : List ℕ) (end : ℕ) → length b₁ ≡ length b → end ≡ at + 16 → b₁ ≡ overwritten b at (action_bytes x) → Putting b₁ end (filter p ys) b₀ start all
  put_first passes b₁ end same to put =
      let left = filter p ys in
      let taken : filter p xs ≡ x ∷ left = ap (filter p) first ∙ ap (λ t. cond t (x ∷ left) left) (sym passes) in
      let fits : at + 16 ≤ length b = omega (arith, h.0, ap length taken) in (
        omega (arith, h.0, ap length taken, to, same),
        omega (arith, h.1, ap length taken, to),
        (λ i. overwritten (put i) (to i) (flat_map action_bytes left)) ∙ overwritten_more b at (action_bytes x) fits (flat_map action_bytes left) ∙ ap (λ l. overwritten b at (flat_map action_bytes l)) (sym taken) ∙ h.2,
      )

  -- it does not, and is left out
  pub leave_first : false ≡ p x → (b₁ : List ℕ) (end : ℕ) → end ≡ at → b₁ ≡ b → Putting b₁ end (filter p ys) b₀ start all
  leave_first fails b₁ end to put =
      let left : filter p xs ≡ filter p ys = ap (filter p) first ∙ ap (λ t. cond t (x ∷ filter p ys) (filter p ys)) (sym fails) in
      subst (λ l. Putting b₁ end l b₀ start all) left (subst (λ n. Putting b₁ n (filter p xs) b₀ start all) (sym to) (subst (λ l. Putting l at (filter p xs) b₀ start all) (sym put) h))

-- nothing is left, and all are put
pub all_put : (b b₀ : List ℕ) (at start : ℕ) (left all : List Action) → left ≡ [] → Putting b at left b₀ start all → b ≡ overwritten b₀ start (flat_map action_bytes all)
all_put b b₀ at start left all none h =
    let same : at ≡ at + 0 = omega arith in
    sym (take-append-drop at b) ∙ ap (λ n. take at b ++ drop n b) same ∙ ap (λ l. overwritten b at (flat_map action_bytes l)) (sym none) ∙ h.2
