-- The step of offer: what it writes is a true message. Assumes nothing.
use Rattle.std.proofs.Common.{◌≡◌, ℕ, ◌<◌, ◌≤◌, true, eqb, ltb, List, [], ◌∷◌, map, take, Ok, Err, filter, Result, refl, ap, ◌∙◌, subst, inl, inr, ⊎_elim, arith}
use Rattle.std.specs.List.{range_with_len, ContainsAt as Has, AllByRecursion}
use Rattle.std.proofs.ByRecursion.{All-append, all-has, All-map, All-weaker, has_append_left, has_append_right}
use Rattle.std.proofs.lemmas.Bool.{and_from, and_parts, eq-eqb, le-leb, lt-ltb, ltb-true}
use Rattle.action.specs.declared.action.Action.{Action}
use Rattle.action.proofs.Members.{all_from_has, has_append_cases, has_kept_by, has_kept_by_parts}
use Rattle.kind.specs.Meaning.{Meaning}
use Rattle.kind.specs.Working.{on}
use Rattle.message.specs.declared.record.Interval.{Interval}
use Rattle.message.specs.Format.{Message, carried, told_intervals}
use Rattle.table.specs.declared.table_fault.TableFault.{TableFault}
use Rattle.table.specs.Offers.{is_offered, offer_bytes, offer_interval, offer_message}
use Rattle.table.specs.View.{View, entry}
use Rattle.table.proofs.Lawfulness.{offer_lawful}
use Rattle.table.proofs.Rising.{below_counting}
use Rattle.table.proofs.Soundness.{passed}
use Rattle.runs.specs.Books.{Book, book}
use Rattle.runs.specs.Events.{Event, at}
use Rattle.runs.specs.Events.Call.{Offers}
use Rattle.runs.specs.Laws.{CarriesAll, IsTruthful}
use Rattle.runs.specs.Runs.{Group, Turn}
use Rattle.runs.proofs.Opening.{stands_still}
use Rattle.runs.proofs.Sites.{articles_are, lawful_anywhere, own_entry, own_is, sites_are}
use Rattle.runs.proofs.Standing.{Account, Reached, Recorded, Site, Standing}
use Rattle.runs.proofs.Writing.{written_back}

module _ (kind : Meaning) (group : Group) (b : Book) (s : ℕ) (of_group : s < group.sites) (v : View) (site : Site kind group b s v) (p a : ℕ) (pl : p < group.sites) (al : a < group.articles) where
  abbrev m : Message
  m = offer_message kind v p a

  abbrev own : ℕ
  own = v.setup.own

  -- what holds of each interval of the offer
  each_interval : (P : ℕ × Interval → Type 0) → ((q : ℕ) → q < group.sites → P (a, offer_interval v p a q)) → AllByRecursion P (told_intervals m)
  each_interval P each =
      All-append P (map (λ i. (a, i)) (map (offer_interval v p a) (range_with_len 0 v.setup.sites))) []
      (All-map P (λ i. (a, i)) (map (offer_interval v p a) (range_with_len 0 v.setup.sites)) (All-map (λ i. P (a, i)) (offer_interval v p a) (range_with_len 0 v.setup.sites) (All-weaker (λ q. q < v.setup.sites) (λ q. P (a, offer_interval v p a q)) (λ q lt. each q (omega (arith, lt, sites_are kind group b s of_group v site))) (range_with_len 0 v.setup.sites) (below_counting v.setup.sites))))
      tt

  -- the history has each action that the site has and the peer is not known to have
  offered : (x : Action) → Reached b s a x → x.coordinator < group.sites → entry v a p x.coordinator < x.time → Has (carried m) x
  offered x h cl above =
      let c = x.coordinator in
      let up_to : x.time ≤ entry v a own c = omega (arith, h.2, own_entry kind group b s of_group v site a c al cl) in
      let g = site.gathered a al in
      let passes : is_offered v p a x ≡ true = and_from (eqb x.article a) _ (eq-eqb x.article a h.1) (and_from (ltb c v.setup.sites) _ (lt-ltb c v.setup.sites (omega (arith, cl, sites_are kind group b s of_group v site))) (and_from (ltb (entry v a p c) x.time) _ (lt-ltb (entry v a p c) x.time above) (le-leb x.time (entry v a own c) up_to))) in
      has_append_left (filter (is_offered v p a) v.history) [] x (⊎_elim
      (λ old. absurd (omega (arith, all-has _ g.archived x g.everywhere old p c pl cl)))
      (λ k. has_kept_by (is_offered v p a) v.history x (has_kept_by_parts (λ y. eqb y.article a) v.history x k).0 passes)
      (has_append_cases g.archived (on a v.history) x (g.whole x h)))

  offer_true : Account group b → (views : ℕ → View) → views s ≡ v → IsTruthful b views m
  offer_true l views same = record {
    committed = All-append (Has b.committed) (filter (is_offered v p a) v.history) [] (all_from_has (Has b.committed) (filter (is_offered v p a) v.history) (λ x h.
        let parts = has_kept_by_parts (is_offered v p a) v.history x h in
        let on_it = (and_parts (eqb x.article a) _ parts.1).0 in
        let g = site.gathered a al in
        (g.sure x (has_append_right g.archived (on a v.history) x (has_kept_by (λ y. eqb y.article a) v.history x parts.0 on_it))).0)) tt;
    whole = each_interval (CarriesAll b m) (λ q ql x has on_it in_it.
        offered x (has, on_it, subst (λ (n : ℕ). x.time ≤ b.reach s a n) in_it.0 (omega (arith, in_it.2, own_entry kind group b s of_group v site a q al ql))) (all-has (Recorded group b) b.committed x l.each has).coordinated (subst (λ (n : ℕ). entry v a p n < x.time) in_it.0 in_it.1));
    sender_has = each_interval (λ h. h.1.to ≤ entry (views own) h.0 own h.1.site) (λ q ql.
        omega (arith, ap (λ (u : View). entry u a own q) (ap views (own_is kind group b s of_group v site) ∙ same)));
  }

module _ (kind : Meaning) (group : Group) (before : List Event) (s : ℕ) (old views : ℕ → View) (st : Standing kind group before old) where
  pub offer_stands : (peer article : ℕ) (buffer : List ℕ) (r : Result ℕ TableFault) (after : List ℕ) → Turn kind group before (at s (Offers peer article buffer r after)) old views → Standing kind group (at s (Offers peer article buffer r after) ∷ before) views
  offer_stands peer article buffer (Err e) after turn = stands_still kind group before s old views st (Offers peer article buffer (Err e) after) turn refl turn.does.1 (inl refl) tt
  offer_stands peer article buffer (Ok n) after turn =
      let b = book group before in
      let v = old s in
      let of_group = turn.of_group in
      let site = st.sites s of_group in
      let listed = passed (ltb article v.setup.articles) _ _ turn.does.0.0 in
      let known = passed (ltb peer v.setup.sites) _ _ listed.1 in
      let al = ltb-true article v.setup.articles listed.0 in
      let pl = ltb-true peer v.setup.sites known.0 in
      let bytes : take n after ≡ offer_bytes kind v peer article = written_back buffer (offer_bytes kind v peer article) after n turn.does.0.1 turn.does.0.2 in
      stands_still kind group before s old views st (Offers peer article buffer (Ok n) after) turn refl turn.does.1
      (inr (
        offer_message kind v peer article,
        record { is = bytes; lawful = lawful_anywhere kind group b s of_group v site (offer_message kind v peer article) (offer_lawful kind v site.sound peer article al) },
        own_is kind group b s of_group v site,
        offer_true kind group b s of_group v site peer article (omega (arith, pl, sites_are kind group b s of_group v site)) (omega (arith, al, articles_are kind group b s of_group v site)) st.account views turn.does.1,
      ))
      tt
