-- What a commit writes is a true message, and so the step of commit. Assumes nothing.
use Rattle.std.proofs.Common.{◌≡◌, ℕ, ◌+◌, ◌<◌, ◌≤◌, max, Bool, true, false, cond, eqb, ltb, leb, List, [], ◌∷◌, map, length, take, Ok, Err, Result, sym, refl, ap, ◌∙◌, subst, inl, inr, ⊎_elim, arith}
use Rattle.std.specs.List.{range_with_len, ContainsAt as Has, AllByRecursion}
use Rattle.std.proofs.ByRecursion.{all-has, all_kept_by, All-map, has_append_right}
use Rattle.std.proofs.lemmas.Bool.{eq-eqb, leb-true, ltb-true}
use Rattle.action.specs.declared.action.Action.{Action}
use Rattle.action.proofs.Members.{all_from_has, has_append_cases, has_kept_by, has_kept_by_parts}
use Rattle.kind.specs.Meaning.{Meaning}
use Rattle.kind.specs.Working.{on}
use Rattle.message.specs.declared.record.Interval.{Interval}
use Rattle.message.specs.Format.{Message, Section, format, told_intervals}
use Rattle.message.proofs.Carried.{all_joined, has_joined, has_map}
use Rattle.table.specs.declared.table_fault.TableFault.{TableFault}
use Rattle.table.specs.declared.ticket.Ticket.{Ticket}
use Rattle.table.specs.Transactions.{committed, fitting, holds, is_written, latest, transaction_bytes, transaction_message, transaction_section, written_articles}
use Rattle.table.specs.View.{View, entry}
use Rattle.table.proofs.Lawfulness.{transaction_lawful}
use Rattle.table.proofs.Rising.{below_counting}
use Rattle.table.proofs.Soundness.{committed_entry_ge, passed, room_for}
use Rattle.runs.specs.Books.{Book, book}
use Rattle.runs.specs.Events.{Event, at}
use Rattle.runs.specs.Events.Call.{Commits}
use Rattle.runs.specs.Laws.{CarriesAll, IsTruthful, TrueOrNothing}
use Rattle.runs.specs.Runs.{Group, Turn}
use Rattle.runs.proofs.Commits.{after, commit_grows, commit_reach_own, commit_site, old_own}
use Rattle.runs.proofs.Growing.{stands_after}
use Rattle.runs.proofs.Opening.{stands_still}
use Rattle.runs.proofs.Sites.{articles_are, lawful_anywhere, own_entry, own_is}
use Rattle.runs.proofs.Standing.{Account, Site, Standing}
use Rattle.runs.proofs.Writing.{written_back}

module _ (kind : Meaning) (group : Group) (b : Book) (s : ℕ) (of_group : s < group.sites) (v : View) (site : Site kind group b s v) (l : Account group b) (views : ℕ → View) (site_after : Site kind group (after kind group b s of_group v site l) s (views s)) where
  abbrev m : Message
  m = transaction_message kind v

  abbrev own : ℕ
  own = v.setup.own

  abbrev then : Book
  then = after kind group b s of_group v site l

  abbrev interval : ℕ → Interval
  interval a = record { site = own; from = entry v a own own; to = max (entry v a own own) (latest a v.pending) }

  own_s : own ≡ s
  own_s = own_is kind group b s of_group v site

  -- what holds of each section holds by its article
  each_section : (P : Section → Type 0) → ((a : ℕ) → Has (written_articles v) a → P (transaction_section v a)) → (c : Section) → Has m.sections c → P c
  each_section P each c h = all-has P m.sections c (All-map P (transaction_section v) (written_articles v) (all_from_has (λ a. P (transaction_section v a)) (written_articles v) each)) h

  each_interval : (P : ℕ × Interval → Type 0) → ((a : ℕ) → Has (written_articles v) a → P (a, interval a)) → AllByRecursion P (told_intervals m)
  each_interval P each =
      all_joined (λ c. map (λ i. (c.article, i)) c.intervals) P m.sections (each_section (λ c. AllByRecursion P (map (λ i. (c.article, i)) c.intervals)) (λ a h. (each a h, tt)))

  listed : (a : ℕ) → Has (written_articles v) a → a < group.articles
  listed a h =
      let lt : a < v.setup.articles = all-has (λ n. n < v.setup.articles) (written_articles v) a (all_kept_by (is_written v) (λ n. n < v.setup.articles) (range_with_len 0 v.setup.articles) (below_counting v.setup.articles)) h in
      omega (arith, articles_are kind group b s of_group v site)

  -- the own entry before the commit
  own_before : (a : ℕ) → a < group.articles → entry v a own own ≡ b.reach s a s
  own_before a al = ap (λ (n : ℕ). entry v a own n) own_s ∙ own_entry kind group b s of_group v site a s al of_group

  pub transaction_true : IsTruthful then views m
  transaction_true = record {
    committed = all_joined (λ c. c.actions) (Has then.committed) m.sections (each_section (λ c. AllByRecursion (Has then.committed) c.actions) (λ a h.
        all_from_has (Has then.committed) (on a v.pending) (λ x k. has_append_right b.committed (b.pending s) x (subst (λ (xs : List Action). Has xs x) (sym site.pending_is) (has_kept_by_parts (λ y. eqb y.article a) v.pending x k).0))));
    whole = each_interval (CarriesAll then m) (λ a h x has on_it in_it.
        ⊎_elim
        (λ old. absurd (omega (arith, in_it.1, own_before a (listed a h), subst (λ (c : ℕ). x.time ≤ b.reach s c s) on_it (old_own kind group b s of_group v site l x old (sym in_it.0 ∙ own_s)))))
        (λ mine. has_joined (λ c. c.actions) m.sections (transaction_section v a) x (has_map (transaction_section v) (written_articles v) a h) (has_kept_by (λ y. eqb y.article a) v.pending x (subst (λ (xs : List Action). Has xs x) site.pending_is mine) (eq-eqb x.article a on_it)))
        (has_append_cases b.committed (b.pending s) x has));
    sender_has = each_interval (λ h. h.1.to ≤ entry (views own) h.0 own h.1.site) (λ a h.
        subst (λ (n : ℕ). (interval a).to ≤ entry (views n) a n n) (sym own_s) (omega (arith, own_before a (listed a h), commit_reach_own kind group b s of_group v site l a, ap (latest a) site.pending_is, site_after.vector a s (listed a h) of_group)));
  }

  -- all of it, or nothing
  commit_told : (buffer : List ℕ) → TrueOrNothing kind group then views s (fitting (transaction_bytes kind v) buffer)
  commit_told buffer = by_fit (leb (length (transaction_bytes kind v)) (length buffer))
    where
      by_writes : (t : Bool) → ltb 0 (length v.pending) ≡ t → TrueOrNothing kind group then views s (cond t (format m) [])
      by_writes true e = inr (m, record { is = refl; lawful = lawful_anywhere kind group b s of_group v site m (transaction_lawful kind v site.sound (ltb-true 0 (length v.pending) e)) }, own_s, transaction_true)
      by_writes false e = inl refl

      by_fit : (t : Bool) → TrueOrNothing kind group then views s (cond t (transaction_bytes kind v) [])
      by_fit true = by_writes (ltb 0 (length v.pending)) refl
      by_fit false = inl refl

module _ (kind : Meaning) (group : Group) (before : List Event) (s : ℕ) (old views : ℕ → View) (st : Standing kind group before old) where
  pub commit_stands : (t : Ticket) (buffer : List ℕ) (r : Result (ℕ × ℕ) (TableFault × Ticket)) (left : List ℕ) → Turn kind group before (at s (Commits t buffer r left)) old views → Standing kind group (at s (Commits t buffer r left) ∷ before) views
  commit_stands t buffer (Err e) left turn = stands_still kind group before s old views st (Commits t buffer (Err e) left) turn refl turn.does.2 (inl refl) tt
  commit_stands t buffer (Ok n) left turn =
      let b = book group before in
      let v = old s in
      let of_group = turn.of_group in
      let site = st.sites s of_group in
      let l = st.account in
      let is : views s ≡ committed kind v = turn.does.3 in
      let held = passed (holds kind v t) _ _ turn.does.0 in
      let free = room_for v v.pending held.1 in
      let bytes : take n.1 left ≡ fitting (transaction_bytes kind v) buffer = written_back buffer (fitting (transaction_bytes kind v) buffer) left n.1 turn.does.2 turn.does.4 in
      let site_after = subst (Site kind group (after kind group b s of_group v site l) s) (sym is) (commit_site kind group b s of_group v site l free) in
      stands_after kind group before (at s (Commits t buffer (Ok n) left)) old views turn st
      (commit_grows kind group b s of_group v site l)
      site_after
      (λ a z q. omega (arith, committed_entry_ge kind v site.sound free a z q, ap (λ (u : View). entry u a z q) is))
      (subst (TrueOrNothing kind group (after kind group b s of_group v site l) views s) (sym bytes) (commit_told kind group b s of_group v site l views site_after buffer))
      tt
