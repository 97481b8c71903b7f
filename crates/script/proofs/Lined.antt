-- A text line by line.
use Rattle.std.proofs.Common.{◌≡◌, ℕ, zero, suc, ◌+◌, ◌<◌, ◌≤◌, min, eqb, List, [], ◌∷◌, ◌++◌, length, get_or, take, drop, sym, refl, ap, ◌∙◌, subst, ⊎_elim, arith}
use Rattle.std.proofs.lemmas.List.{append_assoc, append-nil, take_all}
use Rattle.std.proofs.lemmas.Bool.{cases_lt, cond-false, cond-true, cond_both, eq-eqb, ne_eqb}
use Rattle.kind.specs.Meaning.{Meaning}
use Rattle.script.specs.Desk.{DeskView, Performs}
use Rattle.script.specs.Scripts.{PerformsAll, before, lines}
use Rattle.script.specs.Sheets.{Printed}

ended : (b : ℕ) (bytes : List ℕ) → b ≡ 10 → lines (b ∷ bytes) ≡ [] ∷ lines bytes
ended b bytes e = cond-true (eqb b 10) ([] ∷ lines bytes) (before b (lines bytes)) (eq-eqb b 10 e)

going_on : (b : ℕ) (bytes : List ℕ) → (b ≡ 10 → ⊥) → lines (b ∷ bytes) ≡ before b (lines bytes)
going_on b bytes e = cond-false (eqb b 10) ([] ∷ lines bytes) (before b (lines bytes)) (ne_eqb b 10 e)

-- n bytes other than 10, and then byte 10
pub first_line : (bytes : List ℕ) (n : ℕ) → n < length bytes → ((k : ℕ) → k < n → get_or bytes k 0 ≡ 10 → ⊥) → get_or bytes n 0 ≡ 10 → lines bytes ≡ take n bytes ∷ lines (drop (suc n) bytes)
first_line [] n within clear end = absurd (omega arith)
first_line (b ∷ bytes) zero within clear end = ended b bytes end
first_line (b ∷ bytes) (suc n) within clear end =
    going_on b bytes (clear 0 (omega arith)) ∙ ap (before b) (first_line bytes n (omega arith) (λ k h. clear (suc k) (omega arith)) end)

-- bytes other than 10
pub last_line : (bytes : List ℕ) → 0 < length bytes → ((k : ℕ) → k < length bytes → get_or bytes k 0 ≡ 10 → ⊥) → lines bytes ≡ bytes ∷ []
last_line [] some clear = absurd (omega arith)
last_line (b ∷ []) some clear = going_on b [] (clear 0 (omega arith))
last_line (b ∷ (y ∷ bytes)) some clear =
    going_on b (y ∷ bytes) (clear 0 (omega arith)) ∙ ap (before b) (last_line (y ∷ bytes) (omega arith) (λ k h. clear (suc k) (omega arith)))

-- no more lines than bytes

length_before : (b : ℕ) (ls : List (List ℕ)) → length (before b ls) ≤ suc (length ls)
length_before b [] = omega arith
length_before b (l ∷ ls) = omega arith

pub few_lines : (bytes : List ℕ) → length (lines bytes) ≤ length bytes
few_lines [] = omega arith
few_lines (b ∷ bytes) =
    let few = few_lines bytes in
    cond_both (eqb b 10) ([] ∷ lines bytes) (before b (lines bytes)) (λ ls. length ls ≤ suc (length bytes)) (λ _. omega (arith, few)) (λ _. omega (arith, few, length_before b (lines bytes)))

-- a text cut at the longest script
pub cut : (input : List ℕ) (n : ℕ) → n ≡ min (length input) 32768 → take 32768 input ≡ take n input
cut input n e =
    ⊎_elim
    (λ h. take_all 32768 input (omega arith) ∙ sym (take_all n input (omega arith)))
    (λ h. ap (λ k. take k input) {x = 32768} {y = n} (omega arith))
    (cases_lt (length input) 32768)

-- one line more, of number n
pub runs_more : (kind : Meaning) (d between after : DeskView) (index n : ℕ) (done : List (List ℕ)) (line bytes sheet : List ℕ) → n ≡ index + length done → PerformsAll kind d index done between bytes → Printed line sheet (λ a. Performs kind between n line a after) → PerformsAll kind d index (done ++ (line ∷ [])) after (bytes ++ sheet)
runs_more kind d between after index n [] line bytes sheet numbered all (a, one, printed) =
    (after, sheet, [], (a, subst (λ b. Performs kind b index line a after) all.0 (subst (λ k. Performs kind between k line a after) (omega arith) one), printed), (refl, refl), ap (λ bs. bs ++ sheet) all.1 ∙ sym (append-nil sheet))
runs_more kind d between after index n (l ∷ ls) line bytes sheet numbered (next, first, rest, ran, others, is) one =
    (next, first, rest ++ sheet, ran, runs_more kind next between after (index + 1) n ls line rest sheet (omega arith) others one, ap (λ bs. bs ++ sheet) is ∙ append_assoc first rest sheet)
