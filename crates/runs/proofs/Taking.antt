-- An event that takes a message: its site reaches what the intervals say, and has what the message carries.
-- Assumes nothing.
use Rattle.std.proofs.Common.{◌≡◌, ℕ, ◌-◌, ◌<◌, ◌≤◌, max, true, cond, eqb, ◌⊎◌, List, [], ◌∷◌, ◌++◌, map, length, ℤ, None, Ok, Err, Result, sym, refl, ap, ◌∙◌, subst, inl, inr, ⊎_elim, arith, w64, SFits}
use Rattle.std.specs.List.{ContainsAt as Has}
use Rattle.std.proofs.ByRecursion.{all-has, All-map, All-weaker, has_append_left, has_append_right}
use Rattle.std.proofs.lemmas.List.{append-nil}
use Rattle.std.proofs.lemmas.Bool.{cases_eq, cases_lt, cond_both, cond-true, eq-eqb, eqb-true, lt-ltb, ne_eqb}
use Rattle.action.specs.declared.action.Action.{Action}
use Rattle.action.specs.declared.setup.Setup.{Setup}
use Rattle.action.specs.Order.{Ascending, Leads, precedes}
use Rattle.action.proofs.Members.{all_from_has, has_append_cases, has_kept_by, has_kept_by_parts}
use Rattle.action.proofs.Placing.{has_folded_placed, has_folded_placed_cases}
use Rattle.action.proofs.Precedence.{precedes_by_time}
use Rattle.action.proofs.Sequence.{ascending_kept, ascending_parts, ascending_together, leads_has}
use Rattle.kind.specs.Meaning.{Meaning}
use Rattle.kind.specs.Working.{on}
use Rattle.message.specs.declared.record.Interval.{Interval}
use Rattle.message.specs.Format.{Message, carried, format, told_intervals}
use Rattle.message.specs.Lawful.{LawfulInterval, LawfulMessage}
use Rattle.message.proofs.Carried.{told_intervals_lawful}
use Rattle.message.proofs.ReadingBack.{intervals_back}
use Rattle.message.proofs.Verdicts.{messages_unique}
use Rattle.table.specs.declared.table_fault.TableFault.{TableFault}
use Rattle.table.specs.Sound.{Fitting, Sound}
use Rattle.table.specs.Taking.{highest, is_new, news, take_refusal, taken, taken_row}
use Rattle.table.specs.View.{View, entry, row}
use Rattle.table.proofs.Greatest as Most
use Rattle.row.proofs.RowLaws.{by_row}
use Rattle.table.proofs.Stretching.{highest_above, highest_ge, highest_le}
use Rattle.table.proofs.Taken.{begun_within, news_above, take_keeps, taken_ge, taken_reaches, taken_told, taken_untold}
use Rattle.runs.specs.Books.{Book, book, greatest, reaching, taken_times}
use Rattle.runs.specs.Events.{Event, at, wrote}
use Rattle.runs.specs.Events.Call.{Takes}
use Rattle.runs.specs.Laws.{CarriesAll, Credits, IsMessageOf, IsTruthful, TrueOrNothing}
use Rattle.runs.specs.Runs.{Group, Turn}
use Rattle.runs.proofs.Greatest.{greatest_ge, greatest_le}
use Rattle.runs.proofs.Growing.{Grown, stands_after, still_everywhere}
use Rattle.runs.proofs.Opening.{stands_still}
use Rattle.runs.proofs.Sites.{articles_are, own_entry, own_is, sites_are}
use Rattle.runs.proofs.Standing.{Account, Everywhere, Gathered, Reached, Recorded, Site, Standing}

-- the site takes this message, which is true, and reaches the times that its intervals say
module _ (kind : Meaning) (group : Group) (s : ℕ) (b : Book) (v : View) (m : Message) (times : ℕ → ℕ → ℕ) (of_group : s < group.sites) (site : Site kind group b s v) (lawful : LawfulMessage kind v.setup m) (views : ℕ → View) (all_sites : (z : ℕ) → z < group.sites → Site kind group b z (views z)) (truthful : IsTruthful b views m) (times_are : (a q : ℕ) → times a q ≡ highest a q (told_intervals m)) where
  abbrev after : Book
  after = reaching s times b

  abbrev w : View
  w = taken kind v m

  abbrev own : ℕ
  own = v.setup.own

  -- how far the message goes
  abbrev far : ℕ → ℕ → ℕ
  far a q = highest a q (told_intervals m)

  own_s : own ≡ s
  own_s = own_is kind group b s of_group v site

  sites : v.setup.sites ≡ group.sites
  sites = sites_are kind group b s of_group v site

  told : (a z q : ℕ) → (z ≡ own) ⊎ (z ≡ m.sender) → entry w a z q ≡ max (entry v a z q) (far a q)
  told = taken_told kind v m site.sound lawful

  sender_lt : m.sender < group.sites
  sender_lt = omega (arith, lawful.sent, sites)

  -- THE BOOK

  reach_own : (a q : ℕ) → after.reach s a q ≡ max (b.reach s a q) (far a q)
  reach_own a q = cond-true (eqb s s) _ _ (eq-eqb s s refl) ∙ ap (max (b.reach s a q)) (times_are a q)

  reach_other : (z : ℕ) → (z ≡ s → ⊥) → after.reach z ≡ b.reach z
  reach_other z ne = λ i a q. cond (ne_eqb z s ne i) (max (b.reach z a q) (times a q)) (b.reach z a q)

  reach_grows : (z a q : ℕ) → b.reach z a q ≤ after.reach z a q
  reach_grows z a q = cond_both (eqb z s) _ _ (λ (n : ℕ). b.reach z a q ≤ n) (λ _. omega arith) (λ _. omega arith)

  -- an interval of the message is of the group
  interval_of_group : (h : ℕ × Interval) → Has (told_intervals m) h → (h.0 < group.articles) × (h.1.site < group.sites)
  interval_of_group h k =
      let law = all-has (λ h. (h.0 < v.setup.articles) × LawfulInterval v.setup h.1) (told_intervals m) h (told_intervals_lawful kind v.setup m lawful) k in
      (omega (arith, law.0, articles_are kind group b s of_group v site), omega (arith, law.1.of_group, sites))

  -- the sender has all of it
  sender_reached : (h : ℕ × Interval) → Has (told_intervals m) h → h.1.to ≤ b.reach m.sender h.0 h.1.site
  sender_reached h k =
      let of = interval_of_group h k in
      omega (arith, all-has (λ h. h.1.to ≤ entry (views m.sender) h.0 m.sender h.1.site) (told_intervals m) h truthful.sender_has k, (all_sites m.sender sender_lt).vector h.0 h.1.site of.0 of.1)

  far_le : (a q : ℕ) → far a q ≤ b.reach m.sender a q
  far_le a q =
      highest_le a q (told_intervals m) (b.reach m.sender a q) (all_from_has (λ h. (h.0 ≡ a) → (h.1.site ≡ q) → h.1.to ≤ b.reach m.sender a q) (told_intervals m) (λ h k on_it of_it.
      subst (λ (n : ℕ). h.1.to ≤ b.reach m.sender a n) of_it (subst (λ (n : ℕ). h.1.to ≤ b.reach m.sender n h.1.site) on_it (sender_reached h k))))

  pub take_grows : Account group b → Grown group s b after
  take_grows account = record {
    new = [];
    adds = sym (append-nil b.committed);
    each = tt;
    apart = tt;
    raised = reach_grows s;
    others = reach_other;
    others_pending = λ z ne. refl;
    no_more = λ a q al ql. omega (arith, reach_own a q, reach_grows q a q, far_le a q, account.no_more s a q of_group al ql, account.no_more m.sender a q sender_lt al ql);
  }

  -- THE TABLE

  vector : (a q : ℕ) → a < group.articles → q < group.sites → entry w a s q ≡ after.reach s a q
  vector a q al ql = omega (arith, told a s q (inl (sym own_s)), reach_own a q, site.vector a q al ql)

  clock_le : w.clock ≤ greatest group after s
  clock_le =
      Most.greatest_le (λ (h : ℕ × Interval). h.1.to) (greatest group after s) v.clock (told_intervals m)
      (omega (arith, site.clock_is, greatest_le group b s (greatest group after s) (λ a q al ql. omega (arith, greatest_ge group after s a q al ql, reach_grows s a q))))
      (all_from_has (λ h. h.1.to ≤ greatest group after s) (told_intervals m) (λ h k.
      let of = interval_of_group h k in
      omega (arith, highest_ge h.0 h.1 (told_intervals m) k, reach_own h.0 h.1.site, greatest_ge group after s h.0 h.1.site of.0 of.1)))

  clock_ge : greatest group after s ≤ w.clock
  clock_ge =
      greatest_le group after s w.clock (λ a q al ql.
      let over : far a q ≤ w.clock = highest_le a q (told_intervals m) w.clock (All-weaker (λ h. h.1.to ≤ w.clock) (λ h. (h.0 ≡ a) → (h.1.site ≡ q) → h.1.to ≤ w.clock) (λ h k _ _. k) (told_intervals m) (Most.greatest_ge (λ (h : ℕ × Interval). h.1.to) v.clock (told_intervals m))) in
      omega (arith, over, reach_own a q, greatest_ge group b s a q al ql, site.clock_is, Most.greatest_from (λ (h : ℕ × Interval). h.1.to) v.clock (told_intervals m)))

  believed : (a z q : ℕ) → a < group.articles → z < group.sites → q < group.sites → entry w a z q ≤ after.reach z a q
  believed a z q al zl ql =
      ⊎_elim
      (λ same. subst (λ (n : ℕ). entry w a n q ≤ after.reach n a q) (sym same) (omega (arith, vector a q al ql)))
      (λ ne.
      ⊎_elim
      (λ from. subst (λ (n : ℕ). entry w a n q ≤ after.reach n a q) (sym from) (omega (arith, told a m.sender q (inr refl), site.believed a m.sender q al sender_lt ql, far_le a q, reach_grows m.sender a q)))
      (λ other. omega (arith, site.believed a z q al zl ql, reach_grows z a q, taken_untold kind v m site.sound lawful a z q (λ e. ne (e ∙ own_s)) other))
      (cases_eq z m.sender))
      (cases_eq z s)

  -- what its intervals say is known of the site and of the sender
  pub take_credits : (z : ℕ) → (z ≡ v.setup.own) ⊎ (z ≡ m.sender) → Credits w z m
  take_credits z is = all_from_has (λ h. h.1.to ≤ entry w h.0 z h.1.site) (told_intervals m) (λ h k. taken_reaches kind v m site.sound lawful h.0 z h.1 is k)

  -- WHAT IT HAS OF AN ARTICLE

  module _ (passes : take_refusal v m ≡ None) (sound : Sound kind w) (a : ℕ) (al : a < group.articles) (g : Gathered kind group b s v a) where
    -- a new action is later than what the site had of its coordinator's
    new_later : (y : Action) → Has (news v m) y → y.article ≡ a → entry v a s y.coordinator < y.time
    new_later y h on_it =
        let later = all-has (λ x. entry v x.article own x.coordinator < x.time) (news v m) y (news_above kind v m site.sound lawful) h in
        subst (λ (n : ℕ). n < y.time) (λ i. entry v (on_it i) (own_s i) y.coordinator) later

    on_it : (y : Action) → Has (on a w.history) y → Has w.history y × (y.article ≡ a)
    on_it y h = let parts = has_kept_by_parts (λ x. eqb x.article a) w.history y h in (parts.0, eqb-true y.article a parts.1)

    coordinated : (y : Action) → Has w.history y → y.coordinator < group.sites
    coordinated y h = let fits = all-has (Fitting kind v.setup) w.history y sound.fitting h in omega (arith, fits.coordinated, sites)

    -- an action of the history was there before, or is new
    came : (y : Action) → Has (on a w.history) y → Has (on a v.history) y ⊎ Has (news v m) y
    came y h =
        let here = on_it y h in
        ⊎_elim (λ k. inl (has_kept_by (λ x. eqb x.article a) v.history y k (eq-eqb y.article a here.1))) (λ k. inr k) (has_folded_placed_cases v.history (news v m) y here.0)

    arrives : (y : Action) → Has v.history y ⊎ Has (news v m) y → y.article ≡ a → Has (g.archived ++ on a w.history) y
    arrives y h at = has_append_right g.archived (on a w.history) y (has_kept_by (λ x. eqb x.article a) w.history y (has_folded_placed v.history (news v m) y h) (eq-eqb y.article a at))

    -- what is archived comes before all of the history
    archived_first : (x : Action) → Has g.archived x → (y : Action) → Has (on a w.history) y → precedes x y ≡ true
    archived_first x hx y hy =
        ⊎_elim
        (λ old. leads_has x (on a v.history) y (all-has (λ x. Leads x (on a v.history)) g.archived x (ascending_parts g.archived (on a v.history) g.ordered).2 hx) old)
        (λ new.
        let everywhere = all-has (Everywhere group v a) g.archived x g.everywhere hx in
        let here = on_it y hy in
        precedes_by_time x y (omega (arith, everywhere s y.coordinator of_group (coordinated y here.0), new_later y new here.1)))
        (came y hy)

    ordered : Ascending (g.archived ++ on a w.history)
    ordered =
        ascending_together g.archived (on a w.history) (ascending_parts g.archived (on a v.history) g.ordered).0 (ascending_kept (λ x. eqb x.article a) w.history sound.ordered) (all_from_has (λ x. Leads x (on a w.history)) g.archived (λ x hx.
        all_from_has (λ y. precedes x y ≡ true) (on a w.history) (archived_first x hx)))

    sure : (x : Action) → Has (g.archived ++ on a w.history) x → Reached after s a x
    sure x h = ⊎_elim old held (has_append_cases g.archived (on a w.history) x h)
      where
        old : Has g.archived x → Reached after s a x
        old k = let r = g.sure x (has_append_left g.archived (on a v.history) x k) in (r.0, r.1, omega (arith, r.2, reach_grows s a x.coordinator))

        committed : Has (on a v.history) x ⊎ Has (news v m) x → Has b.committed x
        committed (inl k) = (g.sure x (has_append_right g.archived (on a v.history) x k)).0
        committed (inr k) = all-has (Has b.committed) (carried m) x truthful.committed (has_kept_by_parts (is_new v) (carried m) x k).0

        held : Has (on a w.history) x → Reached after s a x
        held k =
            let here = on_it x k in
            let reached = all-has (λ x. x.time ≤ entry w x.article own x.coordinator) w.history x sound.reached here.0 in
            let within : x.time ≤ entry w a s x.coordinator = subst (λ (n : ℕ). x.time ≤ n) (λ i. entry w (here.1 i) (own_s i) x.coordinator) reached in
            (committed (came x k), here.1, omega (arith, within, vector a x.coordinator al (coordinated x here.0)))

    whole : Account group b → (x : Action) → Reached after s a x → Has (g.archived ++ on a w.history) x
    whole account x r = ⊎_elim new old (cases_lt (b.reach s a q) x.time)
      where
        q : ℕ
        q = x.coordinator

        ql : q < group.sites
        ql = (all-has (Recorded group b) b.committed x account.each r.0).coordinated

        old : x.time ≤ b.reach s a q → Has (g.archived ++ on a w.history) x
        old le =
            ⊎_elim
            (has_append_left g.archived (on a w.history) x)
            (λ k. arrives x (inl (has_kept_by_parts (λ x. eqb x.article a) v.history x k).0) r.1)
            (has_append_cases g.archived (on a v.history) x (g.whole x (r.0, r.1, le)))

        new : b.reach s a q < x.time → Has (g.archived ++ on a w.history) x
        new lt =
            let up = highest_above a q (told_intervals m) (x.time - 1) (omega (arith, r.2, reach_own a q)) in
            let i = up.0 in
            let behind = all-has (λ h. h.1.from ≤ entry v h.0 own h.1.site) (told_intervals m) (a, i) (begun_within v m passes) up.1 in
            let had : entry v a own i.site ≡ b.reach s a q = ap (entry v a own) up.2 ∙ own_entry kind group b s of_group v site a q al ql in
            let from : i.from < x.time = omega (arith, behind, had) in
            let is_carried = all-has (CarriesAll b m) (told_intervals m) (a, i) truthful.whole up.1 x r.0 r.1 (up.2, from, omega (arith, up.3)) in
            let newer : entry v x.article own q < x.time = subst (λ (c : ℕ). entry v c own q < x.time) (sym r.1) (omega (arith, own_entry kind group b s of_group v site a q al ql)) in
            arrives x (inr (has_kept_by (is_new v) (carried m) x is_carried (lt-ltb (entry v x.article own q) x.time newer))) r.1

    gathered : Account group b → Gathered kind group after s w a
    gathered account = record {
      archived = g.archived;
      based = by_row (taken_row kind v m) v.rows (λ c r. r.base ≡ (row v c).base) (λ c _. refl) (λ c _. refl) a ∙ g.based;
      ordered = ordered;
      sure = sure;
      whole = whole account;
      everywhere = still_everywhere group v w (taken_ge kind v m site.sound lawful) a g.archived g.everywhere;
    }

  pub take_site : take_refusal v m ≡ None → Sound kind w → Account group b → Site kind group after s w
  take_site passes sound account = record {
    sound = sound;
    setup_is = site.setup_is;
    room_is = site.room_is;
    vector = vector;
    clock_is = let le = clock_le in let ge = clock_ge in omega arith;
    pending_is = site.pending_is;
    believed = believed;
    gathered = λ a al. gathered passes sound a al (site.gathered a al) account;
  }

-- THE EVENT

-- what a lawful message says of times, read from its bytes
pub times_read : (kind : Meaning) (small : kind.number ≤ 255) (setup : Setup) (m : Message) → LawfulMessage kind setup m → (bytes : List ℕ) → bytes ≡ format m → (a q : ℕ) → taken_times bytes a q ≡ highest a q (told_intervals m)
times_read kind small setup m lawful bytes is a q =
    ap (highest a q) (intervals_back bytes m (kind, setup, record { one_byte = small; lawful = lawful; written = is }))

module _ (kind : Meaning) (step_fits : (f : ℤ) (o : ℕ) (a : ℤ) → SFits w64 f → SFits w64 (kind.steps f o a)) (commute : (f : ℤ) (o : ℕ) (a : ℤ) (p : ℕ) (b : ℤ) → SFits w64 f → kind.commutes ≡ true → kind.knows o a ≡ true → kind.knows p b ≡ true → kind.steps (kind.steps f o a) p b ≡ kind.steps (kind.steps f p b) o a) (small : kind.number ≤ 255) where
  module _ (group : Group) (before : List Event) (s : ℕ) (old views : ℕ → View) (st : Standing kind group before old) where
    abbrev told_book : Book
    told_book = book group before

    -- bytes that an event wrote and that are a lawful message are a true one
    true_message : (of_group : s < group.sites) (bytes : List ℕ) → Has (map (λ event. wrote event.call) before) bytes → (m : Message) → LawfulMessage kind (old s).setup m → bytes ≡ format m → IsMessageOf kind group bytes m × IsTruthful told_book old m
    true_message of_group bytes honest m lawful is =
        by_told (all-has Somewhere (map (λ event. wrote event.call) before) bytes (All-map Somewhere (λ (event : Event). wrote event.call) before (All-weaker (λ (event : Event). TrueOrNothing kind group told_book old event.site (wrote event.call)) (λ (event : Event). Somewhere (wrote event.call)) (λ event told. (event.site, told)) before st.told)) honest)
      where
        -- written at some site
        Somewhere : List ℕ → Type 0
        Somewhere written = (from : ℕ) × TrueOrNothing kind group told_book old from written

        by_told : Somewhere bytes → IsMessageOf kind group bytes m × IsTruthful told_book old m
        by_told (from, inl none) = absurd (let e = sym none ∙ is in omega (arith, ap length e))
        by_told (from, inr (n, sent, _, truthful)) =
            let there : LawfulMessage kind (old s).setup n = subst (λ (u : Setup). LawfulMessage kind u n) (sym (st.sites s of_group).setup_is) (sent.lawful s of_group) in
            let same : n ≡ m = messages_unique kind (old s).setup small bytes n m there lawful sent.is is in
            (subst (IsMessageOf kind group bytes) same sent, subst (IsTruthful told_book old) same truthful)

    pub take_stands : (bytes : List ℕ) (r : Result ℕ TableFault) → Turn kind group before (at s (Takes bytes r)) old views → Standing kind group (at s (Takes bytes r) ∷ before) views
    take_stands bytes (Err e) turn = stands_still kind group before s old views st (Takes bytes (Err e)) turn refl turn.does.1 (inl refl) tt
    take_stands bytes (Ok n) turn =
        let of_group = turn.of_group in
        let site = st.sites s of_group in
        let took = turn.does.1 in
        let m : Message = took.0 in
        let lawful = took.1 in
        let is_after = took.5 in
        let both = true_message of_group bytes turn.honest m lawful took.2 in
        let read = times_read kind small (old s).setup m lawful bytes took.2 in
        let sound : Sound kind (taken kind (old s) m) = subst (Sound kind) is_after (take_keeps kind step_fits commute (old s) (views s) site.sound bytes (Ok n) turn.does) in
        let credits : (z : ℕ) → (z ≡ (old s).setup.own) ⊎ (z ≡ m.sender) → Credits (views s) z m = λ z is. subst (λ (u : View). Credits u z m) (sym is_after) (take_credits kind group s told_book (old s) m (taken_times bytes) of_group site lawful old st.sites both.1 read z is) in
        stands_after kind group before (at s (Takes bytes (Ok n))) old views turn st
        (take_grows kind group s told_book (old s) m (taken_times bytes) of_group site lawful old st.sites both.1 read st.account)
        (subst (Site kind group (reaching s (taken_times bytes) told_book) s) (sym is_after) (take_site kind group s told_book (old s) m (taken_times bytes) of_group site lawful old st.sites both.1 read took.3 sound st.account))
        (λ a z q. subst (λ (u : View). entry (old s) a z q ≤ entry u a z q) (sym is_after) (taken_ge kind (old s) m site.sound lawful a z q))
        (inl refl)
        (m, both.0, credits s (inl (sym (own_is kind group told_book s of_group (old s) site))), credits m.sender (inr refl))
