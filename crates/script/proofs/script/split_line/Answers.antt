use Rattle.std.proofs.Common.{◌≡◌, ◌∷◌, ℕ, suc, ◌+◌, Some, None, take, drop, sym, ap, ◌∙◌, arith, rules}
use Rattle.std.proofs.lemmas.Iterator.{IsFirst-from_position, YieldsList-from_slice}
use Rattle.std.proofs.lemmas.List.{take_rest}
use Rattle.script.specs.Scripts.{lines}
use Rattle.script.proofs.Lined.{first_line, last_line}
use borrow.Author.Tests.{tests}
use Rattle.script.proofs.script.split_line.Goals as goal

pub returns-in-Some : goal.returns-in-Some
returns-in-Some c =
    let text = c.args.text.now in
    let end = c.in-Some.end in
    let first = IsFirst-from_position _ _ (Some end) (λ (b : ℕ). b ≡ 10) (λ b. b ≡ 10 → ⊥) c.in-Some.ensures.ran (YieldsList-from_slice text cc) (λ x q k. search (rules, tests)) (λ x q k. search (rules, tests)) in
    let after : drop (suc end) text ≡ drop (end + 1) text = ap (λ n. drop n text) {x = suc end} {y = end + 1} (omega arith) in
    record { lines = first_line text end first.0 (λ k h. first.2 k 0 (omega arith) h) (first.1 0) ∙ ap (λ bs. take end text ∷ lines bs) (after ∙ sym (take_rest text (end + 1))) }

pub returns-in-None : goal.returns-in-None
returns-in-None c =
    let text = c.args.text.now in
    let none = IsFirst-from_position _ _ None (λ (b : ℕ). b ≡ 10) (λ b. b ≡ 10 → ⊥) c.in-None.ensures.ran (YieldsList-from_slice text cc) (λ x q k. search (rules, tests)) (λ x q k. search (rules, tests)) in
    record { lines = last_line text c.requires (λ k h. none k 0 (omega arith) h) }
