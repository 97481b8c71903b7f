-- A table with an article archived: the least entry, and that the table is sound. Assumes nothing.
use Rattle.std.proofs.Common.{◌≡◌, ℕ, ◌<◌, ◌≤◌, min, Bool, true, false, cond, not, ◌&&◌, eqb, leb, List, [], ◌∷◌, ◌++◌, length, ℤ, Ok, Err, fold, filter, Result, sym, refl, ap, ◌∙◌, subst, ⊎_elim, arith, w64, SFits}
use Rattle.std.specs.List.{range_with_len, ContainsAt as Has}
use Rattle.std.proofs.ByRecursion.{All-from_get_or, All-get_or, all_kept_by, All-weaker}
use Rattle.std.proofs.lemmas.Bool.{and_right, cases_eq, cond_both, cond-false, cond-true, eq-eqb, eqb-true, ne_eqb, true≢false}
use Rattle.std.proofs.lemmas.List.Elements.{filter_agree}
use Rattle.action.specs.declared.action.Action.{Action}
use Rattle.action.specs.Order.{Ascending}
use Rattle.action.proofs.Members.{has_cons_cases, has_none}
use Rattle.action.proofs.Sequence.{ascending_kept, split_at}
use Rattle.kind.specs.Meaning.{Meaning}
use Rattle.kind.specs.Working.{on, working}
use Rattle.kind.proofs.Workings.{working_append, working_fits}
use Rattle.row.specs.declared.row.Row.{Row}
use Rattle.row.specs.Entries.{at, no_row}
use Rattle.row.specs.Passes.{least_of_in}
use Rattle.row.proofs.Kept.{kept_by_both, kept_by_few}
use Rattle.row.proofs.RowLaws.{by_row, length_each_row, row_each}
use Rattle.table.specs.declared.table_fault.TableFault.{TableFault}
use Rattle.table.specs.Archiving.{Archived, archived, archived_row, is_old, least, olds}
use Rattle.table.specs.Sound.{Fitting, Sound, Square}
use Rattle.table.specs.View.{View, entry, row}
use Rattle.table.proofs.Rising.{has_counting}

-- THE LEAST ENTRY

-- steps that never rise
module _ {X : Type 0} (f : ℕ → X → ℕ) (falls : (t : ℕ) (x : X) → f t x ≤ t) where
  folded_falls : (t : ℕ) (xs : List X) → fold f t xs ≤ t
  folded_falls t [] = omega arith
  folded_falls t (x ∷ xs) = omega (arith, folded_falls (f t x) xs, falls t x)

  -- end below whatever one of them goes below
  folded_below : (b : ℕ) (xs : List X) (x : X) → Has xs x → ((t : ℕ) → f t x ≤ b) → (t : ℕ) → fold f t xs ≤ b
  folded_below b [] x h low t = absurd (has_none x h)
  folded_below b (y ∷ ys) x h low t =
      ⊎_elim
      (λ same. omega (arith, folded_falls (f t y) ys, ap (f t) same, low t))
      (λ later. folded_below b ys x later low (f t y))
      (has_cons_cases y ys x h)

module _ (v : View) (a : ℕ) where
  abbrev lower : ℕ → ℕ → ℕ → ℕ
  lower z t q = min t (entry v a z q)

  -- the least of t and the article's known entries of site z
  abbrev least_of : ℕ → ℕ → ℕ
  least_of = least_of_in v.rows v.setup.sites a

  least_of_falls : (t z : ℕ) → least_of t z ≤ t
  least_of_falls t z = folded_falls (lower z) (λ t q. omega arith) t (range_with_len 0 v.setup.sites)

  pub least_le : (z q : ℕ) → z < v.setup.sites → q < v.setup.sites → least v a ≤ entry v a z q
  least_le z q zs qs =
      folded_below least_of least_of_falls (entry v a z q) (range_with_len 0 v.setup.sites) z (has_counting v.setup.sites z zs) (λ t.
      folded_below (lower z) (λ t q. omega arith) (entry v a z q) (range_with_len 0 v.setup.sites) q (has_counting v.setup.sites q qs) (λ t. omega arith) t) (entry v a 0 0)

-- WHICH ACTIONS STAY

-- of what is on an article or not, and old or not
on_still : (x y : Bool) → (not (x && y) && x) ≡ (x && not y)
on_still true true = refl
on_still true false = refl
on_still false y = refl

elsewhere : (x y z : Bool) → (z ≡ true → x ≡ false) → (not (x && y) && z) ≡ z
elsewhere true y true h = absurd (true≢false (h refl))
elsewhere true y false h = and_right (not y) false refl
elsewhere false y z h = refl

module _ (v : View) (a : ℕ) where
  abbrev stays : Action → Bool
  stays x = not (is_old v a x)

  -- the article's actions are the old ones and then those that stay
  pub archived_parts : Ascending v.history → on a v.history ≡ olds v a ++ on a (filter (λ x. not (is_old v a x)) v.history)
  archived_parts up =
      let here : Action → Bool = λ x. eqb x.article a in
      let old : Action → Bool = λ x. leb x.time (least v a) in
      let late : Action → Bool = λ x. not (leb x.time (least v a)) in
      split_at (least v a) (on a v.history) (ascending_kept here v.history up) ∙ (λ i. kept_by_both old here v.history i ++ (kept_by_both late here v.history ∙ sym (kept_by_both here stays v.history ∙ filter_agree (λ x. stays x && here x) (λ x. here x && late x) (λ x. on_still (here x) (old x)) v.history)) i)

  -- and all on another article stay
  pub archived_others : (b : ℕ) → (b ≡ a → ⊥) → on b (filter (λ x. not (is_old v a x)) v.history) ≡ on b v.history
  archived_others b other =
      kept_by_both (λ x. eqb x.article b) stays v.history ∙ filter_agree (λ x. stays x && eqb x.article b) (λ x. eqb x.article b) (λ x.
      elsewhere (eqb x.article a) (leb x.time (least v a)) (eqb x.article b) (λ here. ne_eqb x.article a (λ e. other (sym (eqb-true x.article b here) ∙ e)))) v.history

-- SOUNDNESS

module _ (kind : Meaning) (step_fits : (f : ℤ) (o : ℕ) (a : ℤ) → SFits w64 f → SFits w64 (kind.steps f o a)) where
  module _ (v : View) (a : ℕ) (s : Sound kind v) where
    abbrev w : View
    w = archived kind v a

    pub archived_entry : (b z q : ℕ) → entry (archived kind v a) b z q ≡ entry v b z q
    archived_entry b z q = by_row (archived_row kind v a) v.rows (λ c r. at r.known z q ≡ entry v c z q) (λ _ _. refl) (λ _ _. refl) b

    archived_worked : (b : ℕ) → b < 64 → (row w b).kept ≡ working kind.steps (row w b).base (on b w.history)
    archived_worked b lt =
        subst (λ (r : Row). r.kept ≡ working kind.steps r.base (on b w.history)) (sym (row_each (archived_row kind v a) v.rows b (omega (arith, s.each_article)))) (s.worked b lt ∙ ⊎_elim here there (cases_eq b a))
      where
        steps : ℤ → ℕ → ℤ → ℤ
        steps = kind.steps

        base : ℤ
        base = (row v b).base

        here : b ≡ a → working steps base (on b v.history) ≡ working steps (cond (eqb b a) (working steps base (olds v a)) base) (on b w.history)
        here same =
            subst (λ (c : ℕ). working steps base (on c v.history) ≡ working steps (cond (eqb c a) (working steps base (olds v a)) base) (on c w.history)) (sym same) (ap (working steps base) (archived_parts v a s.ordered) ∙ working_append steps base (olds v a) (on a w.history) ∙ ap (λ f. working steps f (on a w.history)) (sym (cond-true (eqb a a) (working steps base (olds v a)) base (eq-eqb a a refl))))

        there : (b ≡ a → ⊥) → working steps base (on b v.history) ≡ working steps (cond (eqb b a) (working steps base (olds v a)) base) (on b w.history)
        there other =
            ap (working steps base) (sym (archived_others v a b other)) ∙ ap (λ f. working steps f (on b w.history)) (sym (cond-false (eqb b a) (working steps base (olds v a)) base (ne_eqb b a other)))

    pub archived_sound : Sound kind (archived kind v a)
    archived_sound = record {
      ordered = ascending_kept (stays v a) v.history s.ordered;
      held = omega (arith, s.held, kept_by_few (stays v a) v.history);
      few_places = s.few_places;
      fitting = all_kept_by (stays v a) (Fitting kind v.setup) v.history s.fitting;
      reached = all_kept_by (stays v a) (λ x. x.time ≤ entry w x.article v.setup.own x.coordinator) v.history (All-weaker (λ x. x.time ≤ entry v x.article v.setup.own x.coordinator) (λ x. x.time ≤ entry w x.article v.setup.own x.coordinator) (λ x h. omega (arith, h, archived_entry x.article v.setup.own x.coordinator)) v.history s.reached);
      believed = λ b z q. omega (arith, archived_entry b z q, archived_entry b v.setup.own q, s.believed b z q);
      clocked = λ b q. omega (arith, archived_entry b v.setup.own q, s.clocked b q);
      in_time = s.in_time;
      worked = archived_worked;
      based = by_row (archived_row kind v a) v.rows (λ b r. SFits w64 r.base) (λ b _. s.based b) (λ b _. cond_both (eqb b a) (working kind.steps (row v b).base (olds v a)) (row v b).base (SFits w64) (λ _. working_fits kind.steps step_fits (row v b).base (olds v a) (s.based b)) (λ _. s.based b));
      each_article = length_each_row (archived_row kind v a) 0 v.rows ∙ s.each_article;
      square = All-from_get_or (λ r. Square r.known) w.rows no_row (λ b lt. let within : b < length v.rows = omega (arith, length_each_row (archived_row kind v a) 0 v.rows) in subst (λ (r : Row). Square r.known) (sym (row_each (archived_row kind v a) v.rows b within)) (All-get_or (λ r. Square r.known) v.rows b no_row within s.square));
      few = s.few;
      waiting = s.waiting;
      closed = s.closed;
    }

  pub archive_keeps : (v after : View) → Sound kind v → (a : ℕ) (r : Result ℕ TableFault) → Archived kind v a r after → Sound kind after
  archive_keeps v after s a (Ok n) h = subst (Sound kind) (sym h.2) (archived_sound v a s)
  archive_keeps v after s a (Err e) h = subst (Sound kind) (sym h.1) s
