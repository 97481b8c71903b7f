-- Known entries after the intervals of a message. Assumes nothing.
use Rattle.std.proofs.Common.{◌≡◌, ℕ, ◌<◌, ◌≤◌, max, Bool, true, false, cond, ◌&&◌, eqb, ◌⊎◌, List, [], ◌∷◌, fold, filter, sym, refl, ap, ◌∙◌, subst, ⊎_elim, arith}
use Rattle.std.specs.List.{ContainsAt as Has, AllByRecursion}
use Rattle.std.proofs.ByRecursion.{all-has}
use Rattle.std.proofs.lemmas.Bool.{and_from, and_parts, cases_eq, eq-eqb, eqb-true, ne_eqb}
use Rattle.action.proofs.Members.{all_from_has, has_kept_by, has_kept_by_parts}
use Rattle.message.specs.declared.record.Interval.{Interval}
use Rattle.row.specs.Passes.{raised_by}
use Rattle.row.specs.Entries.{at, raised}
use Rattle.row.proofs.Kept.{kept_by_both}
use Rattle.table.specs.Sound.{Square}
use Rattle.table.specs.Taking.{highest}
use Rattle.table.proofs.Entries.{at_raised, at_raised_ge, at_raised_le, at_raised_other, at_raised_row, square_raised}
use Rattle.table.proofs.Greatest.{greatest, greatest_above, greatest_from, greatest_ge, greatest_le}

-- the greatest to of intervals of a site
abbrev pub up_to : ℕ → List (ℕ × Interval) → ℕ
up_to q hs = greatest (λ (h : ℕ × Interval). h.1.to) 0 (filter (λ h. eqb h.1.site q) hs)

abbrev Sited : ℕ × Interval → Type 0
Sited h = h.1.site < 8

module _ (own sender : ℕ) (own_lt : own < 8) (sender_lt : sender < 8) where
  abbrev step : List (List ℕ) → ℕ × Interval → List (List ℕ)
  step = raised_by own sender

  pub square_told : (known : List (List ℕ)) (hs : List (ℕ × Interval)) → Square known → Square (fold (raised_by own sender) known hs)
  square_told known [] e = e
  square_told known (h ∷ hs) e = square_told (step known h) hs (square_raised _ sender h.1.site h.1.to (square_raised known own h.1.site h.1.to e))

  -- the entries of other sites stay
  pub at_untold : (z q : ℕ) → (z ≡ own → ⊥) → (z ≡ sender → ⊥) → (known : List (List ℕ)) (hs : List (ℕ × Interval)) → Square known → at (fold (raised_by own sender) known hs) z q ≡ at known z q
  at_untold z q not_own not_sender known [] e = refl
  at_untold z q not_own not_sender known (h ∷ hs) e =
      let once = square_raised known own h.1.site h.1.to e in
      at_untold z q not_own not_sender (step known h) hs (square_raised _ sender h.1.site h.1.to once) ∙ at_raised_row (raised known own h.1.site h.1.to) sender h.1.site h.1.to once z q not_sender ∙ at_raised_row known own h.1.site h.1.to e z q not_own

  module _ (z : ℕ) (told : (z ≡ own) ⊎ (z ≡ sender)) where
    -- one interval raises the entry of its site
    at_step : (known : List (List ℕ)) (h : ℕ × Interval) → Square known → Sited h → (q : ℕ) → at (step known h) z q ≡ max (at known z q) (cond (eqb h.1.site q) h.1.to 0)
    at_step known h e sited q =
        ⊎_elim
        (λ same. subst (λ (n : ℕ). at (step known h) z n ≡ max (at known z n) (cond (eqb p n) t 0)) same (⊎_elim own_row sender_row told ∙ ap (λ b. max (at known z p) (cond b t 0)) (sym (eq-eqb p p refl))))
        (λ other.
        at_raised_other once sender p t twice sender_lt z q (λ k. other (sym k)) ∙ at_raised_other known own p t e own_lt z q (λ k. other (sym k)) ∙ omega arith ∙ ap (λ b. max (at known z q) (cond b t 0)) (sym (ne_eqb p q other)))
        (cases_eq p q)
      where
        p : ℕ
        p = h.1.site

        t : ℕ
        t = h.1.to

        once : List (List ℕ)
        once = raised known own p t

        twice : Square once
        twice = square_raised known own p t e

        own_row : z ≡ own → at (step known h) z p ≡ max (at known z p) t
        own_row is =
            subst (λ (n : ℕ). at (step known h) n p ≡ max (at known n p) t) (sym is) (omega (arith, at_raised known own p t e own_lt sited, at_raised_ge once sender p t twice sender_lt sited own p, at_raised_le once sender p t twice sender_lt sited own p))

        sender_row : z ≡ sender → at (step known h) z p ≡ max (at known z p) t
        sender_row is =
            subst (λ (n : ℕ). at (step known h) n p ≡ max (at known n p) t) (sym is) (omega (arith, at_raised once sender p t twice sender_lt sited, at_raised_ge known own p t e own_lt sited sender p, at_raised_le known own p t e own_lt sited sender p))

    -- this table's entries and the sender's are raised to what the intervals say
    pub at_told : (known : List (List ℕ)) (hs : List (ℕ × Interval)) → Square known → AllByRecursion (λ h. h.1.site < 8) hs → (q : ℕ) → at (fold (raised_by own sender) known hs) z q ≡ max (at known z q) (up_to q hs)
    at_told known [] e sited q = omega arith
    at_told known (h ∷ hs) e sited q =
        let once = square_raised known own h.1.site h.1.to e in
        more (eqb h.1.site q) (at_step known h e sited.0 q) (at_told (step known h) hs (square_raised _ sender h.1.site h.1.to once) sited.1 q)
      where
        more : (b : Bool) → at (step known h) z q ≡ max (at known z q) (cond b h.1.to 0) → at (fold (raised_by own sender) known (h ∷ hs)) z q ≡ max (at (step known h) z q) (up_to q hs) → at (fold (raised_by own sender) known (h ∷ hs)) z q ≡ max (at known z q) (greatest (λ (k : ℕ × Interval). k.1.to) 0 (cond b (h ∷ filter (λ k. eqb k.1.site q) hs) (filter (λ k. eqb k.1.site q) hs)))
        more true one rest = omega (arith, one, rest, greatest_from (λ (k : ℕ × Interval). k.1.to) (max 0 h.1.to) (filter (λ k. eqb k.1.site q) hs))
        more false one rest = omega (arith, one, rest)

-- HOW FAR THE INTERVALS GO

module _ (a q : ℕ) (hs : List (ℕ × Interval)) where
  abbrev is_on : ℕ × Interval → Bool
  is_on h = eqb h.0 a && eqb h.1.site q

  on_it : (h : ℕ × Interval) → Has (filter is_on hs) h → Has hs h × (h.0 ≡ a) × (h.1.site ≡ q)
  on_it h k =
      let parts = has_kept_by_parts is_on hs h k in
      let both = and_parts (eqb h.0 a) (eqb h.1.site q) parts.1 in
      (parts.0, eqb-true h.0 a both.0, eqb-true h.1.site q both.1)

  pub up_to_highest : up_to q (filter (λ h. eqb h.0 a) hs) ≡ highest a q hs
  up_to_highest = ap (greatest (λ (h : ℕ × Interval). h.1.to) 0) (kept_by_both (λ h. eqb h.1.site q) (λ h. eqb h.0 a) hs)

  pub highest_le : (c : ℕ) → AllByRecursion (λ h. (h.0 ≡ a) → (h.1.site ≡ q) → h.1.to ≤ c) hs → highest a q hs ≤ c
  highest_le c each =
      greatest_le (λ (h : ℕ × Interval). h.1.to) c 0 (filter is_on hs) (omega arith) (all_from_has (λ h. h.1.to ≤ c) (filter is_on hs) (λ h k.
      let here = on_it h k in
      all-has (λ h. (h.0 ≡ a) → (h.1.site ≡ q) → h.1.to ≤ c) hs h each here.0 here.1 here.2))

  -- an interval makes it so high
  pub highest_above : (c : ℕ) → c < highest a q hs → (i : Interval) × Has hs (a, i) × (i.site ≡ q) × (c < i.to)
  highest_above c lt =
      let some = greatest_above (λ (h : ℕ × Interval). h.1.to) c (filter is_on hs) lt in
      let here = on_it some.0 some.1 in
      (some.0.1, subst (λ (b : ℕ). Has hs (b, some.0.1)) here.1 here.0, here.2, some.2)

pub highest_ge : (a : ℕ) (i : Interval) (hs : List (ℕ × Interval)) → Has hs (a, i) → i.to ≤ highest a i.site hs
highest_ge a i hs h =
    all-has (λ (h : ℕ × Interval). h.1.to ≤ highest a i.site hs) (filter (is_on a i.site hs) hs) (a, i) (greatest_ge (λ (h : ℕ × Interval). h.1.to) 0 (filter (is_on a i.site hs) hs)) (has_kept_by (is_on a i.site hs) hs (a, i) h (and_from (eqb a a) (eqb i.site i.site) (eq-eqb a a refl) (eq-eqb i.site i.site refl)))
