-- Each committed movement is counted once, and where nothing is open all sites are level. Assumes nothing.
use Rattle.std.proofs.Common.{◌≡◌, ℕ, ◌<◌, ◌≤◌, Bool, true, ◌&&◌, eqb, List, ◌++◌, filter, sym, ap, ◌∙◌, subst, arith}
use Rattle.std.specs.List.{ContainsAt as Has}
use Rattle.std.proofs.ByRecursion.{all-has, All-weaker}
use Rattle.std.proofs.lemmas.Bool.{and_from, and_parts, eq-eqb, eqb-true, le-leb, leb-true, ltb-false}
use Rattle.action.specs.declared.action.Action.{Action}
use Rattle.action.specs.Order.{Apart, in_order}
use Rattle.action.proofs.Pairs.{pairwise_kept}
use Rattle.action.proofs.Members.{has_kept_by, has_kept_by_parts}
use Rattle.action.proofs.Placing.{has_in_order, in_order_ascending, in_order_has}
use Rattle.action.proofs.Sequence.{ascending_same}
use Rattle.kind.specs.Meaning.{Meaning}
use Rattle.kind.specs.Working.{on, working}
use Rattle.kind.proofs.Workings.{working_append}
use Rattle.table.specs.Answers.{figure}
use Rattle.table.specs.View.{View, entry}
use Rattle.runs.specs.Books.{Book, book, counted, counted_by_all, reaches}
use Rattle.runs.specs.Events.{Event}
use Rattle.runs.specs.Laws.{CountsEachOnce, HadByItsCoordinator, LevelWhereNothingOpen, NothingOpen}
use Rattle.runs.specs.Runs.{Group}
use Rattle.runs.proofs.Sites.{few_articles, own_is}
use Rattle.runs.proofs.Standing.{Account, Gathered, Reached, Recorded, Site, Standing}

-- ONE SITE

module _ (kind : Meaning) (group : Group) (b : Book) (l : Account group b) (s : ℕ) (of_group : s < group.sites) (v : View) (site : Site kind group b s v) (a : ℕ) (al : a < group.articles) where
  abbrev g : Gathered kind group b s v a
  g = site.gathered a al

  abbrev has_it : Action → Bool
  has_it x = eqb x.article a && reaches b s x

  passes : (x : Action) → Reached b s a x → has_it x ≡ true
  passes x r = and_from (eqb x.article a) (reaches b s x) (eq-eqb x.article a r.1) (le-leb x.time (b.reach s x.article x.coordinator) (subst (λ (n : ℕ). x.time ≤ b.reach s n x.coordinator) (sym r.1) r.2))

  passed : (x : Action) → Has b.committed x → has_it x ≡ true → Reached b s a x
  passed x h t =
      let parts = and_parts (eqb x.article a) (reaches b s x) t in
      let on_it : x.article ≡ a = eqb-true x.article a parts.0 in
      (h, on_it, subst (λ (n : ℕ). x.time ≤ b.reach s n x.coordinator) on_it (leb-true x.time (b.reach s x.article x.coordinator) parts.1))

  -- what was archived and what the history holds is exactly what the book says that the site has, in order
  all_of_it : g.archived ++ on a v.history ≡ in_order (filter has_it b.committed)
  all_of_it =
      ascending_same (g.archived ++ on a v.history) (in_order (filter has_it b.committed)) g.ordered (in_order_ascending (filter has_it b.committed) (pairwise_kept Apart has_it b.committed l.distinct))
      (λ x h. let r = g.sure x h in has_in_order (filter has_it b.committed) x (has_kept_by has_it b.committed x r.0 (passes x r)))
      (λ x h. let k = has_kept_by_parts has_it b.committed x (in_order_has (filter has_it b.committed) x h) in g.whole x (passed x k.0 k.1))

  -- the figure is worked by all of it from the start figure
  whole_working : figure v a ≡ working kind.steps kind.starts (g.archived ++ on a v.history)
  whole_working =
      let steps = kind.steps in
      site.sound.worked a (omega (arith, few_articles kind group b s of_group v site)) ∙ ap (λ f. working steps f (on a v.history)) g.based ∙ sym (working_append steps kind.starts g.archived (on a v.history))

  counts : figure v a ≡ counted kind b s a
  counts = whole_working ∙ ap (working kind.steps kind.starts) all_of_it

-- ALL SITES

module _ (kind : Meaning) (group : Group) (events : List Event) (views : ℕ → View) (st : Standing kind group events views) where
  abbrev b : Book
  b = book group events

  had : (x : Action) → Recorded group b x → HadByItsCoordinator group b x
  had x known = record {
    coordinated = known.coordinated;
    listed = known.listed;
    had = le-leb x.time (b.reach x.coordinator x.article x.coordinator) known.had;
  }

  pub counts_each_once : CountsEachOnce kind group events views
  counts_each_once = record {
    distinct = st.account.distinct;
    had = All-weaker (Recorded group b) (HadByItsCoordinator group b) had b.committed st.account.each;
    vector = λ s a q sl al ql. (st.sites s sl).vector a q al ql;
    figured = λ s a sl al. counts kind group b st.account s sl (views s) (st.sites s sl) a al;
  }

  module _ (a : ℕ) (al : a < group.articles) (none : NothingOpen group views a) where
    -- every site has all that another has done
    level_reach : (s q : ℕ) → s < group.sites → q < group.sites → b.reach s a q ≡ b.reach q a q
    level_reach s q sl ql =
        let site = st.sites q ql in
        let own = own_is kind group b q ql (views q) site in
        let shut : entry (views q) a (views q).setup.own (views q).setup.own ≤ entry (views q) a s (views q).setup.own = ltb-false _ _ (none q s ql sl) in
        let known : entry (views q) a q q ≤ entry (views q) a s q = subst (λ (n : ℕ). entry (views q) a n n ≤ entry (views q) a s n) own shut in
        omega (arith, site.vector a q al ql, site.believed a s q al sl ql, st.account.no_more s a q sl al ql)

    -- so what it has of the article is all that is committed on it, in order
    all_committed : (s : ℕ) (sl : s < group.sites) → ((st.sites s sl).gathered a al).archived ++ on a (views s).history ≡ in_order (on a b.committed)
    all_committed s sl =
        let on_it : Action → Bool = λ x. eqb x.article a in
        let g = (st.sites s sl).gathered a al in
        ascending_same (g.archived ++ on a (views s).history) (in_order (on a b.committed)) g.ordered (in_order_ascending (on a b.committed) (pairwise_kept Apart on_it b.committed st.account.distinct))
        (λ x h. let r = g.sure x h in has_in_order (on a b.committed) x (has_kept_by on_it b.committed x r.0 (eq-eqb x.article a r.1)))
        (λ x h.
        let k = has_kept_by_parts on_it b.committed x (in_order_has (on a b.committed) x h) in
        let is : x.article ≡ a = eqb-true x.article a k.1 in
        let known = all-has (Recorded group b) b.committed x st.account.each k.0 in
        let done : x.time ≤ b.reach x.coordinator a x.coordinator = subst (λ (n : ℕ). x.time ≤ b.reach x.coordinator n x.coordinator) is known.had in
        g.whole x (k.0, is, omega (arith, done, level_reach s x.coordinator sl known.coordinated)))

    whole : (s : ℕ) → s < group.sites → figure (views s) a ≡ counted_by_all kind b a
    whole s sl = whole_working kind group b st.account s sl (views s) (st.sites s sl) a al ∙ ap (working kind.steps kind.starts) (all_committed s sl)

    pub level : LevelWhereNothingOpen kind group events views a
    level = record {
      whole = whole;
      same_figure = λ s t sl tl. whole s sl ∙ sym (whole t tl);
      same_vector = λ s t q sl tl ql. (st.sites s sl).vector a q al ql ∙ level_reach s q sl ql ∙ sym (level_reach t q tl ql) ∙ sym ((st.sites t tl).vector a q al ql);
    }
