-- What a sound table writes is a lawful message for its group. Assumes nothing.
use Rattle.std.proofs.Common.{◌≡◌, ℕ, ◌+◌, ◌<◌, ◌≤◌, max, true, eqb, ltb, List, [], ◌∷◌, map, length, get_or, filter, sym, refl, ap, subst, arith}
use Rattle.std.specs.List.{range_with_len, AllByRecursion}
use Rattle.std.proofs.lemmas.List.FromFn.{length-map-range_with_len}
use Rattle.std.proofs.ByRecursion.{All-from_get_or, All-get_or, all_kept_by, All-map, All-weaker, kept_by_passes}
use Rattle.std.proofs.lemmas.List.Sums.{count_by-le-length, length-filter}
use Rattle.std.proofs.lemmas.Bool.{and_parts, eqb-true, leb-true, lt-ltb, ltb-true}
use Rattle.std.proofs.lemmas.List.{length-append, length-map}
use Rattle.action.specs.declared.action.Action.{Action}
use Rattle.action.proofs.Sequence.{ascending_kept}
use Rattle.kind.specs.Meaning.{Meaning}
use Rattle.kind.specs.Working.{on}
use Rattle.message.specs.declared.record.Interval.{Interval}
use Rattle.message.specs.Lawful.{LawfulAction, LawfulInterval, LawfulMessage, LawfulSection, Rising}
use Rattle.message.specs.Progress.{no_action}
use Rattle.message.proofs.Sections.{all_both}
use Rattle.table.specs.Offers.{is_offered, offer_interval, offer_message, offer_section}
use Rattle.table.specs.Sound.{Fitting, Sound}
use Rattle.table.specs.Transactions.{is_written, latest, transaction_message, transaction_section, written_articles}
use Rattle.table.specs.View.{View, entry}
use Rattle.table.proofs.Filtered.{few_kept, on_more}
use Rattle.table.proofs.Rising.{below_counting, has_counted, map_back, rising_counting, rising_kept}
use Rattle.table.proofs.Sections.{below, below_le, below_more, few_below}
use Rattle.table.proofs.Waiting.{latest_ge, latest_le, waiting_ascending, waiting_fitting, waiting_own, waiting_times}

-- OFFER

module _ (kind : Meaning) (v : View) (s : Sound kind v) (p a : ℕ) (listed : a < v.setup.articles) where
  abbrev sites : ℕ
  sites = v.setup.sites

  abbrev own : ℕ
  own = v.setup.own

  offered_interval : (q : ℕ) → q < sites → LawfulInterval v.setup (offer_interval v p a q)
  offered_interval q lt = record { of_group = lt; forward = s.believed a p q; in_time = omega (arith, s.clocked a q, s.in_time) }

  offered_action : (x : Action) → Fitting kind v.setup x → is_offered v p a x ≡ true → LawfulAction kind (offer_section v p a) x
  offered_action x f t =
      let c = x.coordinator in
      let one = and_parts (eqb x.article a) _ t in
      let two = and_parts (ltb c sites) _ one.1 in
      let three = and_parts (ltb (entry v a p c) x.time) _ two.1 in
      record {
        on_article = eqb-true x.article a one.0;
        carried = (offer_interval v p a c, has_counted (offer_interval v p a) sites c f.coordinated, (refl, ltb-true (entry v a p c) x.time three.0, leb-true x.time (entry v a own c) three.1));
        begun = f.begun;
        in_turn = f.in_turn;
        known = f.known;
        one_byte = f.one_byte;
        four_bytes = f.four_bytes;
      }

  long : length (map (offer_interval v p a) (range_with_len 0 sites)) ≡ sites
  long = length-map-range_with_len (offer_interval v p a) 0 sites

  offered_section : LawfulSection kind v.setup (offer_section v p a)
  offered_section = record {
    listed = listed;
    some = omega (arith, long, v.setup.two_sites);
    few = omega (arith, long);
    intervals = All-map (LawfulInterval v.setup) (offer_interval v p a) (range_with_len 0 sites) (All-weaker (λ q. q < sites) (λ q. LawfulInterval v.setup (offer_interval v p a q)) offered_interval (range_with_len 0 sites) (below_counting sites));
    rising = subst Rising (sym (map_back (offer_interval v p a) (λ i. i.site) (λ q. refl) (range_with_len 0 sites))) (rising_counting 0 sites);
    actions = all_both (Fitting kind v.setup) (λ x. is_offered v p a x ≡ true) (LawfulAction kind (offer_section v p a)) offered_action (filter (is_offered v p a) v.history) (all_kept_by (is_offered v p a) (Fitting kind v.setup) v.history s.fitting) (kept_by_passes (is_offered v p a) v.history);
    ordered = ascending_kept (is_offered v p a) v.history s.ordered;
    counted = omega (arith, length-filter (is_offered v p a) v.history, count_by-le-length (is_offered v p a) v.history, s.held, s.few_places);
  }

  pub offer_lawful : LawfulMessage kind v.setup (offer_message kind v p a)
  offer_lawful = record {
    of_group = refl;
    of_kind = refl;
    sent = v.setup.own_site;
    some = omega arith;
    few = omega arith;
    sections = (offered_section, tt);
    rising = (tt, tt);
  }

-- TRANSACTION

module _ (kind : Meaning) (v : View) (s : Sound kind v) where
  abbrev pending : List Action
  pending = v.pending

  abbrev mine : ℕ
  mine = v.setup.own

  -- what is known of each pending action
  pub record Pending (a : ℕ) (x : Action) : Type 0 where
    pub fitting : Fitting kind v.setup x
    pub own_site : x.coordinator ≡ mine
    pub later : v.clock < x.time
    pub in_time : x.time ≤ v.clock + length pending
    pub latest_on : x.article ≡ a → x.time ≤ latest a pending

  pub told : (a : ℕ) → AllByRecursion (Pending a) pending
  told a =
      All-from_get_or (Pending a) pending no_action (λ i lt.
      let w = s.waiting in
      let times = All-get_or (λ x. (v.clock + 0 < x.time) × (x.time ≤ v.clock + 0 + length pending)) pending i no_action lt (waiting_times kind v.setup v.clock 0 pending w) in
      record {
        fitting = All-get_or (Fitting kind v.setup) pending i no_action lt (waiting_fitting kind v.setup v.clock 0 pending w);
        own_site = All-get_or (λ x. x.coordinator ≡ mine) pending i no_action lt (waiting_own kind v.setup v.clock 0 pending w);
        later = omega (arith, times.0);
        in_time = omega (arith, times.1);
        latest_on = All-get_or (λ x. x.article ≡ a → x.time ≤ latest a pending) pending i no_action lt (latest_ge a pending);
      })

  latest_in_time : (a : ℕ) → latest a pending ≤ v.clock + length pending
  latest_in_time a = latest_le (v.clock + length pending) a pending (All-weaker (Pending a) (λ x. x.time ≤ v.clock + length pending) (λ x h. h.in_time) pending (told a))

  abbrev interval : ℕ → Interval
  interval a = record { site = mine; from = entry v a mine mine; to = max (entry v a mine mine) (latest a pending) }

  written_action : (a : ℕ) (x : Action) → Pending a x → eqb x.article a ≡ true → LawfulAction kind (transaction_section v a) x
  written_action a x h t =
      let on_article = eqb-true x.article a t in
      record {
        on_article = on_article;
        carried = (interval a, (0, omega arith, λ _. refl), (sym h.own_site, omega (arith, h.later, s.clocked a mine), omega (arith, h.latest_on on_article)));
        begun = h.fitting.begun;
        in_turn = h.fitting.in_turn;
        known = h.fitting.known;
        one_byte = h.fitting.one_byte;
        four_bytes = h.fitting.four_bytes;
      }

  written_section : (a : ℕ) → a < v.setup.articles → LawfulSection kind v.setup (transaction_section v a)
  written_section a lt = record {
    listed = lt;
    some = omega arith;
    few = omega (arith, v.setup.two_sites);
    intervals = (record { of_group = v.setup.own_site; forward = omega arith; in_time = omega (arith, s.clocked a mine, latest_in_time a, s.in_time) }, tt);
    rising = (tt, tt);
    actions = all_both (Pending a) (λ x. eqb x.article a ≡ true) (LawfulAction kind (transaction_section v a)) (written_action a) (on a pending) (all_kept_by (λ x. eqb x.article a) (Pending a) pending (told a)) (kept_by_passes (λ x. eqb x.article a) pending);
    ordered = ascending_kept (λ x. eqb x.article a) pending (waiting_ascending kind v.setup v.clock 0 pending s.waiting);
    counted = omega (arith, length-filter (λ x. eqb x.article a) pending, count_by-le-length (λ x. eqb x.article a) pending, s.few);
  }

  -- where there was a write, its article was written
  some_written : 0 < length pending → 1 ≤ length (written_articles v)
  some_written lt =
      let x = get_or pending 0 no_action in
      let a = x.article in
      let listed = (All-get_or (Pending a) pending 0 no_action lt (told a)).fitting.listed in
      let more = on_more pending 0 lt a refl in
      let some : 0 < length (on a pending) = omega (arith, ap length more, few_kept (λ y. eqb y.article a) pending 1) in
      omega (arith, ap length (below_more v a (lt-ltb 0 (length (on a pending)) some)), length-append (below v a) (a ∷ []), below_le v (a + 1) v.setup.articles (omega arith))

  pub transaction_lawful : 0 < length pending → LawfulMessage kind v.setup (transaction_message kind v)
  transaction_lawful lt = record {
    of_group = refl;
    of_kind = refl;
    sent = v.setup.own_site;
    some = omega (arith, some_written lt, length-map (written_articles v) (transaction_section v));
    few = omega (arith, few_below v v.setup.articles, count_by-le-length (λ x. ltb x.article v.setup.articles) pending, s.few, length-map (written_articles v) (transaction_section v));
    sections = All-map (LawfulSection kind v.setup) (transaction_section v) (written_articles v) (All-weaker (λ a. a < v.setup.articles) (λ a. LawfulSection kind v.setup (transaction_section v a)) written_section (written_articles v) (all_kept_by (is_written v) (λ a. a < v.setup.articles) (range_with_len 0 v.setup.articles) (below_counting v.setup.articles)));
    rising = subst Rising (sym (map_back (transaction_section v) (λ s. s.article) (λ a. refl) (written_articles v))) (rising_kept (is_written v) (range_with_len 0 v.setup.articles) (rising_counting 0 v.setup.articles));
  }
