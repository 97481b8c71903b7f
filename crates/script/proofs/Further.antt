-- One table of the desk and the others, and what of a run is kept in a slot.
use Rattle.std.proofs.Common.{◌≡◌, ℕ, zero, suc, ◌<◌, List, [], ◌∷◌, ◌++◌, map, length, get_or, refl, subst, inl, inr, ⊎_elim, arith}
use Rattle.std.specs.List.{ContainsAt as Has, AllByRecursion}
use Rattle.std.proofs.ByRecursion.{All-get_or}
use Rattle.std.proofs.lemmas.List.{get_or_past}
use Rattle.std.proofs.lemmas.Bool.{cases_lt}
use Rattle.action.proofs.Members.{has_first, has_later}
use Rattle.table.specs.View.{View}
use Rattle.runs.specs.Events.{Event, wrote}
use Rattle.script.specs.Desk.{DeskView, table_at, with_slots, with_table}
use Rattle.script.specs.Standing.{Kept}

-- ONE SITE'S TABLE

pub at_site : (d : DeskView) (site : ℕ) (w : View) → table_at (with_table d site w) site ≡ w
at_site d zero w = refl
at_site d (suc zero) w = refl
at_site d (suc (suc n)) w = refl

pub elsewhere : (d : DeskView) (site : ℕ) (w : View) → site < 3 → (s : ℕ) → s < 3 → (s ≡ site → ⊥) → table_at (with_table d site w) s ≡ table_at d s
elsewhere d zero w l zero k ne = absurd (ne refl)
elsewhere d (suc zero) w l (suc zero) k ne = absurd (ne refl)
elsewhere d (suc (suc m)) w l (suc (suc n)) k ne = absurd (ne (omega arith))
elsewhere d site w l s k ne = refl

pub with_its_own : (d : DeskView) (site : ℕ) → d ≡ with_table d site (table_at d site)
with_its_own d zero = refl
with_its_own d (suc zero) = refl
with_its_own d (suc (suc n)) = refl

-- a slot is no table
pub beside_slots : (d : DeskView) (slots : List (List ℕ)) (s : ℕ) → table_at d s ≡ table_at (with_slots d slots) s
beside_slots d slots zero = refl
beside_slots d slots (suc zero) = refl
beside_slots d slots (suc (suc n)) = refl

-- WHAT IS KEPT

kept_later : (event : Event) (run : List Event) (bytes : List ℕ) → Kept run bytes → Kept (event ∷ run) bytes
kept_later event run bytes = ⊎_elim inl (λ has. inr (has_later (wrote event.call) (map (λ l. wrote l.call) run) bytes has))

pub kept_now : (event : Event) (run : List Event) (bytes : List ℕ) → wrote event.call ≡ bytes → Kept (event ∷ run) bytes
kept_now event run bytes is = inr (subst (Has (map (λ l. wrote l.call) (event ∷ run))) is (has_first (wrote event.call) (map (λ l. wrote l.call) run)))

pub kept_after : (calls run : List Event) (bytes : List ℕ) → Kept run bytes → Kept (calls ++ run) bytes
kept_after [] run bytes kept = kept
kept_after (event ∷ calls) run bytes kept = kept_later event (calls ++ run) bytes (kept_after calls run bytes kept)

pub kept_at : (run : List Event) (slots : List (List ℕ)) (slot : ℕ) → AllByRecursion (Kept run) slots → Kept run (get_or slots slot [])
kept_at run slots slot kept = ⊎_elim (λ within. All-get_or (Kept run) slots slot [] within kept) (λ past. inl (get_or_past slots slot [] past)) (cases_lt slot (length slots))
