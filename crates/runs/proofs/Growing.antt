-- One event more: what is left to show of its site, once the book is seen to grow. Assumes nothing.
use Rattle.std.proofs.Common.{◌≡◌, ℕ, ◌<◌, ◌≤◌, ◌⊎◌, List, ◌∷◌, ◌++◌, map, Ok, sym, ap, ◌∙◌, subst, inl, inr, ⊎_elim, arith}
use Rattle.std.specs.List.{range_with_len, ContainsAt as Has, AllByRecursion}
use Rattle.std.proofs.ByRecursion.{All-append, all-has, All-weaker, has_append_left}
use Rattle.std.proofs.lemmas.Bool.{cases_eq}
use Rattle.action.specs.declared.action.Action.{Action}
use Rattle.action.specs.Order.{Apart, Distinct}
use Rattle.action.proofs.Pairs.{pairwise_append}
use Rattle.action.proofs.Members.{all_from_has, has_append_cases}
use Rattle.kind.specs.Meaning.{Meaning}
use Rattle.message.specs.declared.record.Interval.{Interval}
use Rattle.message.specs.Format.{Message, carried, told_intervals}
use Rattle.message.proofs.Carried.{told_intervals_lawful}
use Rattle.table.specs.View.{View, entry}
use Rattle.runs.specs.Books.{Book, book, greatest, greatest_of}
use Rattle.runs.specs.Events.{Call, Event, wrote}
use Rattle.runs.specs.Events.Call.{Takes}
use Rattle.runs.specs.Laws.{CarriesAll, Credits, IsMessageOf, IsTruthful, TrueOrNothing}
use Rattle.runs.specs.Runs.{Group, Turn}
use Rattle.runs.proofs.Greatest.{greatest_ge}
use Rattle.runs.proofs.Standing.{Absorbed, Account, Everywhere, Gathered, Recorded, Site, Standing}

-- an action that the site commits now: it is later than all that the site has
pub record New (group : Group) (s : ℕ) (b after : Book) (x : Action) : Type 0 where
  pub own : x.coordinator ≡ s
  pub listed : x.article < group.articles
  pub later : greatest group b s < x.time
  pub had : x.time ≤ after.reach s x.article s

-- the book after an event of the site: what it has is more, and what the others have is the same
pub record Grown (group : Group) (s : ℕ) (b after : Book) : Type 0 where
  pub new : List Action
  pub adds : after.committed ≡ b.committed ++ new
  pub each : AllByRecursion (New group s b after) new
  pub apart : Distinct new
  pub raised : (a q : ℕ) → b.reach s a q ≤ after.reach s a q
  pub others : (z : ℕ) → (z ≡ s → ⊥) → after.reach z ≡ b.reach z
  pub others_pending : (z : ℕ) → (z ≡ s → ⊥) → after.pending z ≡ b.pending z
  pub no_more : (a q : ℕ) → a < group.articles → q < group.sites → after.reach s a q ≤ after.reach q a q

-- WHAT WAS ARCHIVED

-- where no entry is lowered it stays known to be everywhere
pub still_everywhere : (group : Group) (v w : View) → ((a z q : ℕ) → entry v a z q ≤ entry w a z q) → (a : ℕ) (xs : List Action) → AllByRecursion (Everywhere group v a) xs → AllByRecursion (Everywhere group w a) xs
still_everywhere group v w kept a = All-weaker (Everywhere group v a) (Everywhere group w a) (λ x h z q zl ql. omega (arith, h z q zl ql, kept a z q))

-- WHAT WAS TAKEN

module _ (kind : Meaning) (group : Group) (s : ℕ) (v w : View) (kept : (a z q : ℕ) → entry v a z q ≤ entry w a z q) where
  credits_still : (z : ℕ) (m : Message) → Credits v z m → Credits w z m
  credits_still z m c = All-weaker (λ h. h.1.to ≤ entry v h.0 z h.1.site) (λ h. h.1.to ≤ entry w h.0 z h.1.site) (λ h k. omega (arith, k, kept h.0 z h.1.site)) (told_intervals m) c

  pub absorbed_still : (call : Call) → Absorbed kind group s v call → Absorbed kind group s w call
  absorbed_still (Takes bytes (Ok n)) h = (h.0, h.1, credits_still s h.0 h.2, credits_still h.0.sender h.0 h.3)
  absorbed_still _ h = tt

-- THE BOOK AND THE OTHER SITES

module _ (kind : Meaning) (group : Group) (s : ℕ) (of_group : s < group.sites) (b after : Book) (g : Grown group s b after) (l : Account group b) where
  other_reach : (z a q : ℕ) → (z ≡ s → ⊥) → after.reach z a q ≡ b.reach z a q
  other_reach z a q ne = ap (λ (r : ℕ → ℕ → ℕ). r a q) (g.others z ne)

  -- no site has less
  pub reach_grows : (z a q : ℕ) → b.reach z a q ≤ after.reach z a q
  reach_grows z a q =
      ⊎_elim
      (λ same. subst (λ (n : ℕ). b.reach n a q ≤ after.reach n a q) (sym same) (g.raised a q))
      (λ ne. omega (arith, other_reach z a q ne))
      (cases_eq z s)

  was_committed : (x : Action) → Has b.committed x → Has after.committed x
  was_committed x h = subst (λ (xs : List Action). Has xs x) (sym g.adds) (has_append_left b.committed g.new x h)

  -- what is committed was so before, or is new
  now_committed : (x : Action) → Has after.committed x → Has b.committed x ⊎ New group s b after x
  now_committed x h = ⊎_elim (λ k. inl k) (λ k. inr (all-has (New group s b after) g.new x g.each k)) (has_append_cases b.committed g.new x (subst (λ (xs : List Action). Has xs x) g.adds h))

  -- a new action is later than what any site had of this one's
  beyond_old : (x : Action) → New group s b after x → (z a t : ℕ) → z < group.sites → a < group.articles → t ≤ b.reach z a s → x.time ≤ t → ⊥
  beyond_old x n z a t zl al le within = let later = n.later in omega (arith, greatest_ge group b s a s al of_group, l.no_more z a s zl al of_group)

  -- THE BOOK

  all_apart : (x y : Action) → Recorded group b x → New group s b after y → Apart x y
  all_apart x y old new same_coordinator same_time =
      let is : x.coordinator ≡ s = same_coordinator ∙ new.own in
      let had : x.time ≤ b.reach s x.article s = subst (λ (n : ℕ). x.time ≤ b.reach n x.article n) is old.had in
      let later = new.later in
      omega (arith, greatest_ge group b s x.article s old.listed of_group)

  still_recorded : (x : Action) → Recorded group b x → Recorded group after x
  still_recorded x h = record { coordinated = h.coordinated; listed = h.listed; had = let had = h.had in omega (arith, reach_grows x.coordinator x.article x.coordinator) }

  newly_recorded : (x : Action) → New group s b after x → Recorded group after x
  newly_recorded x h = record {
    coordinated = subst (λ (n : ℕ). n < group.sites) (sym h.own) of_group;
    listed = h.listed;
    had = subst (λ (n : ℕ). x.time ≤ after.reach n x.article n) (sym h.own) h.had;
  }

  pub account_after : Account group after
  account_after = record {
    distinct = subst Distinct (sym g.adds) (pairwise_append Apart b.committed g.new l.distinct g.apart (All-weaker (Recorded group b) (λ x. AllByRecursion (Apart x) g.new) (λ x old. All-weaker (New group s b after) (Apart x) (λ y new. all_apart x y old new) g.new g.each) b.committed l.each));
    each = subst (AllByRecursion (Recorded group after)) (sym g.adds) (All-append (Recorded group after) b.committed g.new (All-weaker (Recorded group b) (Recorded group after) still_recorded b.committed l.each) (All-weaker (New group s b after) (Recorded group after) newly_recorded g.new g.each));
    no_more = λ z a q zl al ql.
        ⊎_elim
        (λ same. subst (λ (n : ℕ). after.reach n a q ≤ after.reach q a q) (sym same) (g.no_more a q al ql))
        (λ ne. omega (arith, other_reach z a q ne, l.no_more z a q zl al ql, reach_grows q a q))
        (cases_eq z s);
  }

  -- ANOTHER SITE

  module _ (z : ℕ) (zl : z < group.sites) (ne : z ≡ s → ⊥) (v : View) where
    other_gathered : (a : ℕ) → a < group.articles → Gathered kind group b z v a → Gathered kind group after z v a
    other_gathered a al h = record {
      archived = h.archived;
      based = h.based;
      ordered = h.ordered;
      sure = λ x k. let r = h.sure x k in (was_committed x r.0, r.1, let time = r.2 in omega (arith, reach_grows z a x.coordinator));
      whole = λ x r. h.whole x (
        ⊎_elim (λ k. k)
            (λ n. absurd (beyond_old x n z a (b.reach z a s) zl al (omega arith) (subst (λ (q : ℕ). x.time ≤ b.reach z a q) n.own (subst (λ (t : ℕ). x.time ≤ t) (other_reach z a x.coordinator ne) r.2))))
            (now_committed x r.0),
        r.1,
        subst (λ (t : ℕ). x.time ≤ t) (other_reach z a x.coordinator ne) r.2,
      );
      everywhere = h.everywhere;
    }

    pub other_site : Site kind group b z v → Site kind group after z v
    other_site h = record {
      sound = h.sound;
      setup_is = h.setup_is;
      room_is = h.room_is;
      vector = λ a q al ql. h.vector a q al ql ∙ sym (other_reach z a q ne);
      clock_is = h.clock_is ∙ sym (ap (λ (r : ℕ → ℕ → ℕ). greatest_of (map (λ a. greatest_of (map (r a) (range_with_len 0 group.sites))) (range_with_len 0 group.articles))) (g.others z ne));
      pending_is = g.others_pending z ne ∙ h.pending_is;
      believed = λ a y q al yl ql. let old = h.believed a y q al yl ql in omega (arith, reach_grows y a q);
      gathered = λ a al. other_gathered a al (h.gathered a al);
    }

  -- MESSAGES

  module _ (old views : ℕ → View) (sites : (z : ℕ) → z < group.sites → Site kind group b z (old z)) (keeps : (z : ℕ) → z < group.sites → (a y q : ℕ) → entry (old z) a y q ≤ entry (views z) a y q) (bytes : List ℕ) (m : Message) (sent : IsMessageOf kind group bytes m) where
    -- each interval is of the group
    abbrev Listed : ℕ × Interval → Type 0
    Listed h = (h.0 < group.articles) × (h.1.site < group.sites)

    listed : AllByRecursion Listed (told_intervals m)
    listed =
        let setup = group.setup s in
        let of = group.agrees s of_group in
        All-weaker _ Listed (λ h k. (subst (λ (n : ℕ). h.0 < n) of.articles_are k.0, subst (λ (n : ℕ). h.1.site < n) of.sites_are k.1.of_group)) (told_intervals m) (told_intervals_lawful kind setup m (sent.lawful s of_group))

    sender_lt : m.sender < group.sites
    sender_lt = subst (λ (n : ℕ). m.sender < n) (group.agrees s of_group).sites_are (sent.lawful s of_group).sent

    still_true : IsTruthful b old m → IsTruthful after views m
    still_true t = record {
      committed = All-weaker (Has b.committed) (Has after.committed) was_committed (carried m) t.committed;
      whole = all_from_has (CarriesAll after m) (told_intervals m) (λ h k x has on_it in_it.
          ⊎_elim
          (λ before. all-has (CarriesAll b m) (told_intervals m) h t.whole k x before on_it in_it)
          (λ n.
          let known = all-has Listed (told_intervals m) h listed k in
          let mine : h.1.site ≡ s = in_it.0 ∙ n.own in
          let shown : h.1.to ≤ entry (old m.sender) h.0 m.sender h.1.site = all-has (λ h. h.1.to ≤ entry (old m.sender) h.0 m.sender h.1.site) (told_intervals m) h t.sender_has k in
          let had : h.1.to ≤ b.reach m.sender h.0 h.1.site = omega (arith, shown, (sites m.sender sender_lt).vector h.0 h.1.site known.0 known.1) in
          absurd (beyond_old x n m.sender h.0 h.1.to sender_lt known.0 (subst (λ (q : ℕ). h.1.to ≤ b.reach m.sender h.0 q) mine had) in_it.2))
          (now_committed x has));
      sender_has = credits_still kind group s (old m.sender) (views m.sender) (keeps m.sender sender_lt) m.sender m t.sender_has;
    }

  pub still_told : (old views : ℕ → View) → ((z : ℕ) → z < group.sites → Site kind group b z (old z)) → ((z : ℕ) → z < group.sites → (a y q : ℕ) → entry (old z) a y q ≤ entry (views z) a y q) → (from : ℕ) (bytes : List ℕ) → TrueOrNothing kind group b old from bytes → TrueOrNothing kind group after views from bytes
  still_told old views sites keeps from bytes = ⊎_elim (λ none. inl none) (λ h. inr (h.0, h.1, h.2, still_true old views sites keeps bytes h.0 h.1 h.3))

-- ALL SITES

module _ (kind : Meaning) (group : Group) (before : List Event) (event : Event) (old views : ℕ → View) (turn : Turn kind group before event old views) (st : Standing kind group before old) where
  abbrev s : ℕ
  s = event.site

  -- the event's site is to be shown to stand, and no entry of it to be lowered
  pub stands_after : Grown group s (book group before) (book group (event ∷ before)) → Site kind group (book group (event ∷ before)) s (views s) → ((a z q : ℕ) → entry (old s) a z q ≤ entry (views s) a z q) → TrueOrNothing kind group (book group (event ∷ before)) views s (wrote event.call) → Absorbed kind group s (views s) event.call → Standing kind group (event ∷ before) views
  stands_after g site kept told absorbed = record {
    sites = λ z zl.
        ⊎_elim
        (λ same. subst (λ (n : ℕ). Site kind group after n (views n)) (sym same) site)
        (λ ne. subst (Site kind group after z) (sym (turn.others z zl ne)) (other_site kind group s of_group b after g st.account z zl ne (old z) (st.sites z zl)))
        (cases_eq z s);
    account = account_after kind group s of_group b after g st.account;
    told = (told, All-weaker (λ (l : Event). TrueOrNothing kind group b old l.site (wrote l.call)) (λ (l : Event). TrueOrNothing kind group after views l.site (wrote l.call)) (λ l. still_told kind group s of_group b after g st.account old views st.sites keeps l.site (wrote l.call)) before st.told);
    absorbed = ((of_group, absorbed), All-weaker _ (λ (l : Event). (l.site < group.sites) × Absorbed kind group l.site (views l.site) l.call) (λ l h. (h.0, absorbed_still kind group l.site (old l.site) (views l.site) (keeps l.site h.0) l.call h.1)) before st.absorbed);
  }
    where
      b : Book
      b = book group before

      after : Book
      after = book group (event ∷ before)

      of_group : s < group.sites
      of_group = turn.of_group

      keeps : (z : ℕ) → z < group.sites → (a y q : ℕ) → entry (old z) a y q ≤ entry (views z) a y q
      keeps z zl a y q =
          ⊎_elim
          (λ same. subst (λ (n : ℕ). entry (old n) a y q ≤ entry (views n) a y q) (sym same) (kept a y q))
          (λ ne. omega (arith, ap (λ (v : View). entry v a y q) (turn.others z zl ne)))
          (cases_eq z s)
