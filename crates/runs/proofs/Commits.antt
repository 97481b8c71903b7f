-- The step of commit: the book takes in what was pending, and the site has it. Assumes nothing.
use Rattle.std.proofs.Common.{◌≡◌, ℕ, ◌+◌, ◌<◌, ◌≤◌, max, cond, eqb, ◌⊎◌, List, [], ◌++◌, length, sym, refl, ap, ◌∙◌, subst, ⊎_elim, arith}
use Rattle.std.specs.List.{ContainsAt as Has}
use Rattle.std.proofs.ByRecursion.{all-has, all_kept_by, All-weaker, has_append_left, has_append_right}
use Rattle.std.proofs.lemmas.List.{append_assoc}
use Rattle.std.proofs.lemmas.Bool.{cases_eq, cond-false, cond-true, eq-eqb, eqb-true, ne_eqb}
use Rattle.action.specs.declared.action.Action.{Action}
use Rattle.action.specs.Order.{Ascending, Distinct}
use Rattle.action.proofs.Members.{all_from_has, has_append_cases, has_kept_by, has_kept_by_parts}
use Rattle.action.proofs.Sequence.{ascending_append, ascending_kept}
use Rattle.history.specs.Room.{Fits}
use Rattle.kind.specs.Meaning.{Meaning}
use Rattle.kind.specs.Working.{on}
use Rattle.kind.proofs.Workings.{on_append}
use Rattle.row.specs.declared.row.Row.{Row}
use Rattle.table.specs.Sound.{Sound}
use Rattle.table.specs.Transactions.{committed, latest}
use Rattle.table.specs.View.{View, entry}
use Rattle.table.proofs.Lawfulness.{Pending, told}
use Rattle.table.proofs.Soundness.{committed_entry_column, committed_entry_ge, committed_entry_own, committed_entry_row, committed_row_lem, committed_sound}
use Rattle.table.proofs.Waiting.{waiting_ascending, waiting_distinct, waiting_last}
use Rattle.runs.specs.Books.{Book, own_times, reaching, with_committed, with_pending}
use Rattle.runs.specs.Runs.{Group}
use Rattle.runs.proofs.Greatest.{greatest_above, greatest_is}
use Rattle.runs.proofs.Growing.{Grown, New, still_everywhere}
use Rattle.runs.proofs.Sites.{articles_are, few_articles, own_entry, own_is, reached_clocked}
use Rattle.runs.proofs.Standing.{Account, Gathered, Reached, Recorded, Site}

module _ (kind : Meaning) (group : Group) (b : Book) (s : ℕ) (of_group : s < group.sites) (v : View) (site : Site kind group b s v) (l : Account group b) where
  abbrev pending : List Action
  pending = b.pending s

  abbrev pub after : Book
  after = with_pending s [] (reaching s (own_times s pending) (with_committed pending b))

  abbrev w : View
  w = committed kind v

  abbrev own : ℕ
  own = v.setup.own

  own_s : own ≡ s
  own_s = own_is kind group b s of_group v site

  same : pending ≡ v.pending
  same = site.pending_is

  -- THE BOOK

  pub commit_reach_own : (a : ℕ) → after.reach s a s ≡ max (b.reach s a s) (latest a pending)
  commit_reach_own a = ap (λ t. cond t (max (b.reach s a s) (cond t (latest a pending) 0)) (b.reach s a s)) (eq-eqb s s refl)

  reach_column : (a q : ℕ) → (q ≡ s → ⊥) → after.reach s a q ≡ b.reach s a q
  reach_column a q ne =
      ap (λ t. cond t (max (b.reach s a q) (own_times s pending a q)) (b.reach s a q)) (eq-eqb s s refl) ∙ ap (λ t. max (b.reach s a q) (cond t (latest a pending) 0)) (ne_eqb q s ne) ∙ omega arith

  reach_row : (z : ℕ) → (z ≡ s → ⊥) → after.reach z ≡ b.reach z
  reach_row z ne = λ i a q. cond (ne_eqb z s ne i) (max (b.reach z a q) (own_times s pending a q)) (b.reach z a q)

  reach_raised : (a q : ℕ) → b.reach s a q ≤ after.reach s a q
  reach_raised a q =
      ⊎_elim
      (λ e. subst (λ (n : ℕ). b.reach s a n ≤ after.reach s a n) (sym e) (omega (arith, commit_reach_own a)))
      (λ ne. omega (arith, reach_column a q ne))
      (cases_eq q s)

  -- what the table says of a pending action
  pending_told : (a : ℕ) (x : Action) → Has pending x → Pending kind v site.sound a x
  pending_told a x h = all-has (Pending kind v site.sound a) v.pending x (told kind v site.sound a) (subst (λ (xs : List Action). Has xs x) same h)

  pending_new : (x : Action) → Has pending x → New group s b after x
  pending_new x h =
      let t = pending_told x.article x h in
      record {
        own = t.own_site ∙ own_s;
        listed = omega (arith, t.fitting.listed, articles_are kind group b s of_group v site);
        later = omega (arith, t.later, site.clock_is);
        had = omega (arith, t.latest_on refl, commit_reach_own x.article, ap (latest x.article) same);
      }

  pub commit_grows : Grown group s b after
  commit_grows = record {
    new = pending;
    adds = refl;
    each = all_from_has (New group s b after) pending pending_new;
    apart = subst Distinct (sym same) (waiting_distinct kind v.setup v.clock 0 v.pending site.sound.waiting);
    raised = reach_raised;
    others = reach_row;
    others_pending = λ z ne. cond-false (eqb z s) [] (b.pending z) (ne_eqb z s ne);
    no_more = λ a q al ql.
        ⊎_elim
        (λ e. subst (λ (n : ℕ). after.reach s a n ≤ after.reach n a n) (sym e) (omega arith))
        (λ ne. omega (arith, reach_column a q ne, l.no_more s a q of_group al ql, ap (λ (r : ℕ → ℕ → ℕ). r a q) (reach_row q ne)))
        (cases_eq q s);
  }

  -- what is committed was so before, or was pending
  commit_cases : (x : Action) → Has after.committed x → Has b.committed x ⊎ Has pending x
  commit_cases x h = has_append_cases b.committed pending x h

  pub old_own : (x : Action) → Has b.committed x → x.coordinator ≡ s → x.time ≤ b.reach s x.article s
  old_own x h is = subst (λ (n : ℕ). x.time ≤ b.reach n x.article n) is (all-has (Recorded group b) b.committed x l.each h).had

  -- THE SITE

  module _ (free : Fits v.room v.history v.pending) where
    sound : Sound kind w
    sound = committed_sound kind v site.sound free

    vector_own : (a : ℕ) → a < group.articles → entry w a s s ≡ after.reach s a s
    vector_own a al =
        let lt : a < 64 = omega (arith, few_articles kind group b s of_group v site) in
        let before : entry v a own own ≡ b.reach s a s = ap (λ (n : ℕ). entry v a own n) own_s ∙ own_entry kind group b s of_group v site a s al of_group in
        ap (λ (n : ℕ). entry w a n n) (sym own_s) ∙ committed_entry_own kind v site.sound free a lt ∙ (λ i. max (before i) (latest a (sym same i))) ∙ sym (commit_reach_own a)

    vector : (a q : ℕ) → a < group.articles → q < group.sites → entry w a s q ≡ after.reach s a q
    vector a q al ql =
        ⊎_elim
        (λ e. subst (λ (n : ℕ). entry w a s n ≡ after.reach s a n) (sym e) (vector_own a al))
        (λ ne. ap (λ (n : ℕ). entry w a n q) (sym own_s) ∙ committed_entry_column kind v site.sound free a q (λ e. ne (e ∙ own_s)) ∙ own_entry kind group b s of_group v site a q al ql ∙ sym (reach_column a q ne))
        (cases_eq q s)

    believed : (a z q : ℕ) → a < group.articles → z < group.sites → q < group.sites → entry w a z q ≤ after.reach z a q
    believed a z q al zl ql =
        ⊎_elim
        (λ e. subst (λ (n : ℕ). entry w a n q ≤ after.reach n a q) (sym e) (omega (arith, vector a q al ql)))
        (λ ne. omega (arith, committed_entry_row kind v site.sound free a z q (λ e. ne (e ∙ own_s)), site.believed a z q al zl ql, ap (λ (r : ℕ → ℕ → ℕ). r a q) (reach_row z ne)))
        (cases_eq z s)

    -- the clock is the time of the last pending action, or where there is none what it was
    clock_below : (d : ℕ) → d < w.clock → (a : ℕ) × (q : ℕ) × (a < group.articles) × (q < group.sites) × (d < after.reach s a q)
    clock_below d lt =
        ⊎_elim
        (λ none.
        let h = greatest_above group b s d (omega (arith, lt, site.clock_is, ap length none)) in
        (h.0, h.1, h.2, h.3, omega (arith, h.4, reach_raised h.0 h.1)))
        (λ h.
        let n = pending_new h.0 (subst (λ (xs : List Action). Has xs h.0) (sym same) h.1) in
        (h.0.article, s, n.listed, of_group, omega (arith, n.had, h.2, lt)))
        (waiting_last kind v.setup v.clock 0 v.pending site.sound.waiting)

    module _ (a : ℕ) (al : a < group.articles) where
      abbrev g : Gathered kind group b s v a
      g = site.gathered a al

      abbrev had : List Action
      had = g.archived ++ on a v.history

      whole_list : had ++ on a v.pending ≡ g.archived ++ on a w.history
      whole_list = append_assoc g.archived (on a v.history) (on a v.pending) ∙ ap (λ xs. g.archived ++ xs) (sym (on_append a v.history v.pending))

      in_order_lem : Ascending (had ++ on a v.pending)
      in_order_lem =
          ascending_append v.clock had (on a v.pending)
          (all_from_has (λ x. x.time ≤ v.clock) had (λ x h. reached_clocked kind group b s of_group v site l a al x (g.sure x h)))
          (all_kept_by (λ x. eqb x.article a) (λ x. v.clock < x.time) v.pending (All-weaker (Pending kind v site.sound a) (λ x. v.clock < x.time) (λ x h. h.later) v.pending (told kind v site.sound a)))
          g.ordered
          (ascending_kept (λ x. eqb x.article a) v.pending (waiting_ascending kind v.setup v.clock 0 v.pending site.sound.waiting))

      still_reached : (x : Action) → Reached b s a x → Reached after s a x
      still_reached x r = (has_append_left b.committed pending x r.0, r.1, omega (arith, r.2, reach_raised a x.coordinator))

      now_reached : (x : Action) → Has (on a v.pending) x → Reached after s a x
      now_reached x h =
          let parts = has_kept_by_parts (λ y. eqb y.article a) v.pending x h in
          let on_it = eqb-true x.article a parts.1 in
          let mine = subst (λ (xs : List Action). Has xs x) (sym same) parts.0 in
          let n = pending_new x mine in
          (has_append_right b.committed pending x mine, on_it, subst (λ (c : ℕ). x.time ≤ after.reach s a c) (sym n.own) (subst (λ (c : ℕ). x.time ≤ after.reach s c s) on_it n.had))

      -- what the site had before, it had then too
      was_reached : (x : Action) → Has b.committed x → x.article ≡ a → x.time ≤ after.reach s a x.coordinator → Reached b s a x
      was_reached x h on_it time = (
        h,
        on_it,
        ⊎_elim
            (λ e. subst (λ (c : ℕ). x.time ≤ b.reach s a c) (sym e) (subst (λ (c : ℕ). x.time ≤ b.reach s c s) on_it (old_own x h e)))
            (λ ne. omega (arith, time, reach_column a x.coordinator ne))
            (cases_eq x.coordinator s),
      )

      gathered : Gathered kind group after s w a
      gathered = record {
        archived = g.archived;
        based = ap (λ (r : Row). r.base) (committed_row_lem kind v site.sound free a (omega (arith, few_articles kind group b s of_group v site))) ∙ g.based;
        ordered = subst Ascending whole_list in_order_lem;
        sure = λ x h.
            ⊎_elim
            (λ k. still_reached x (g.sure x k))
            (now_reached x)
            (has_append_cases had (on a v.pending) x (subst (λ (xs : List Action). Has xs x) (sym whole_list) h));
        whole = λ x r. subst (λ (xs : List Action). Has xs x) whole_list (
            ⊎_elim
            (λ old. has_append_left had (on a v.pending) x (g.whole x (was_reached x old r.1 r.2)))
            (λ mine. has_append_right had (on a v.pending) x (has_kept_by (λ y. eqb y.article a) v.pending x (subst (λ (xs : List Action). Has xs x) same mine) (eq-eqb x.article a r.1)))
            (commit_cases x r.0));
        everywhere = still_everywhere group v w (committed_entry_ge kind v site.sound free) a g.archived g.everywhere;
      }

    pub commit_site : Site kind group after s w
    commit_site = record {
      sound = sound;
      setup_is = site.setup_is;
      room_is = site.room_is;
      vector = vector;
      clock_is = greatest_is group after s w.clock (λ a q al ql. omega (arith, sym (vector a q al ql), ap (λ (n : ℕ). entry w a n q) own_s, sound.clocked a q)) clock_below;
      pending_is = cond-true (eqb s s) [] (b.pending s) (eq-eqb s s refl);
      believed = believed;
      gathered = gathered;
    }
