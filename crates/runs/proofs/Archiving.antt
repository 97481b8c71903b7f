-- An event that archives an article: what is archived and what the history holds are together the same.
-- Assumes nothing.
use Rattle.std.proofs.Common.{◌≡◌, ℕ, ◌<◌, true, eqb, leb, List, ◌∷◌, ◌++◌, ℤ, Ok, Err, Result, sym, refl, ap, ◌∙◌, subst, inl, ⊎_elim, append_assoc, arith, w64, SFits}
use Rattle.std.specs.List.{ContainsAt as Has, AllByRecursion}
use Rattle.std.proofs.ByRecursion.{All-append, All-weaker, kept_by_passes}
use Rattle.std.proofs.lemmas.Bool.{and_parts, cases_eq, cond-false, cond-true, eq-eqb, leb-true, ne_eqb}
use Rattle.action.specs.declared.action.Action.{Action}
use Rattle.action.specs.Order.{Ascending}
use Rattle.kind.specs.Meaning.{Meaning}
use Rattle.kind.specs.Working.{on, working}
use Rattle.kind.proofs.Workings.{working_append}
use Rattle.table.specs.declared.table_fault.TableFault.{TableFault}
use Rattle.row.specs.declared.row.Row.{Row}
use Rattle.table.specs.Archiving.{archived, archived_row, is_old, least, olds}
use Rattle.table.specs.Sound.{Sound}
use Rattle.table.specs.View.{View, entry, row}
use Rattle.table.proofs.Archived.{archive_keeps, archived_entry, archived_others, archived_parts, least_le}
use Rattle.row.proofs.RowLaws.{row_each}
use Rattle.runs.specs.Books.{Book, book}
use Rattle.runs.specs.Events.{Event, at}
use Rattle.runs.specs.Events.Call.{Archives}
use Rattle.runs.specs.Runs.{Group, Turn}
use Rattle.runs.proofs.Growing.{stands_after, still_everywhere}
use Rattle.runs.proofs.Opening.{grown_pending, stands_still}
use Rattle.runs.proofs.Sites.{few_articles, sites_are}
use Rattle.runs.proofs.Standing.{Everywhere, Gathered, Site, Standing}

module _ (kind : Meaning) (step_fits : (f : ℤ) (o : ℕ) (a : ℤ) → SFits w64 f → SFits w64 (kind.steps f o a)) where
  -- the site archives article a
  module _ (group : Group) (s : ℕ) (b : Book) (v : View) (a : ℕ) (of_group : s < group.sites) (site : Site kind group b s v) where
    abbrev w : View
    w = archived kind v a

    same_entry : (c z q : ℕ) → entry w c z q ≡ entry v c z q
    same_entry = archived_entry kind step_fits v a site.sound

    stays_everywhere : (c : ℕ) (xs : List Action) → AllByRecursion (Everywhere group v c) xs → AllByRecursion (Everywhere group w c) xs
    stays_everywhere = still_everywhere group v w (λ c z q. omega (arith, same_entry c z q))

    olds_everywhere : AllByRecursion (Everywhere group v a) (olds v a)
    olds_everywhere =
        All-weaker (λ x. is_old v a x ≡ true) (Everywhere group v a) (λ x h z q zl ql.
        let sites = sites_are kind group b s of_group v site in
        omega (arith, leb-true x.time (least v a) (and_parts (eqb x.article a) (leb x.time (least v a)) h).1, least_le v a z q (omega (arith, sites)) (omega (arith, sites)))) (olds v a) (kept_by_passes (is_old v a) v.history)

    module _ (c : ℕ) (cl : c < group.articles) (g : Gathered kind group b s v c) where
      new_row : row w c ≡ archived_row kind v a c (row v c)
      new_row = row_each (archived_row kind v a) v.rows c (omega (arith, site.sound.each_article, few_articles kind group b s of_group v site))

      -- the same actions, of which the first are archived
      regathered : (xs : List Action) → (row w c).base ≡ working kind.steps kind.starts xs → xs ++ on c w.history ≡ g.archived ++ on c v.history → AllByRecursion (Everywhere group w c) xs → Gathered kind group b s w c
      regathered xs based together everywhere = record {
        archived = xs;
        based = based;
        ordered = subst Ascending (sym together) g.ordered;
        sure = λ x h. g.sure x (subst (λ (l : List Action). Has l x) together h);
        whole = λ x r. subst (λ (l : List Action). Has l x) (sym together) (g.whole x r);
        everywhere = everywhere;
      }

      gathered_other : (c ≡ a → ⊥) → Gathered kind group b s w c
      gathered_other other =
          regathered g.archived
          (ap (λ (r : Row). r.base) new_row ∙ cond-false (eqb c a) _ _ (ne_eqb c a other) ∙ g.based)
          (ap (λ l. g.archived ++ l) (archived_others v a c other))
          (stays_everywhere c g.archived g.everywhere)

      gathered_same : c ≡ a → Gathered kind group b s w c
      gathered_same same =
          regathered (g.archived ++ olds v a)
          (ap (λ (r : Row). r.base) new_row ∙ cond-true (eqb c a) _ _ (eq-eqb c a same) ∙ ap (λ f. working kind.steps f (olds v a)) g.based ∙ sym (working_append kind.steps kind.starts g.archived (olds v a)))
          (append_assoc g.archived (olds v a) (on c w.history) ∙ ap (λ l. g.archived ++ l) parts)
          (stays_everywhere c (g.archived ++ olds v a) (All-append (Everywhere group v c) g.archived (olds v a) g.everywhere (subst (λ (n : ℕ). AllByRecursion (Everywhere group v n) (olds v a)) (sym same) olds_everywhere)))
        where
          parts : olds v a ++ on c w.history ≡ on c v.history
          parts = subst (λ (n : ℕ). olds v a ++ on n w.history ≡ on n v.history) (sym same) (sym (archived_parts v a site.sound.ordered))

    archive_site : Sound kind w → Site kind group b s w
    archive_site sound = record {
      sound = sound;
      setup_is = site.setup_is;
      room_is = site.room_is;
      vector = λ c q cl ql. same_entry c s q ∙ site.vector c q cl ql;
      clock_is = site.clock_is;
      pending_is = site.pending_is;
      believed = λ c z q cl zl ql. omega (arith, same_entry c z q, site.believed c z q cl zl ql);
      gathered = λ c cl. let g = site.gathered c cl in ⊎_elim (gathered_same c cl g) (gathered_other c cl g) (cases_eq c a);
    }

  module _ (group : Group) (before : List Event) (s : ℕ) (old views : ℕ → View) (st : Standing kind group before old) where
    pub archive_stands : (article : ℕ) (r : Result ℕ TableFault) → Turn kind group before (at s (Archives article r)) old views → Standing kind group (at s (Archives article r) ∷ before) views
    archive_stands article (Err e) turn = stands_still kind group before s old views st (Archives article (Err e)) turn refl turn.does.1 (inl refl) tt
    archive_stands article (Ok n) turn =
        let of_group = turn.of_group in
        let b : Book = book group before in
        let site = st.sites s of_group in
        let is_after : views s ≡ archived kind (old s) article = turn.does.2 in
        let sound : Sound kind (archived kind (old s) article) = subst (Sound kind) is_after (archive_keeps kind step_fits (old s) (views s) site.sound article (Ok n) turn.does) in
        stands_after kind group before (at s (Archives article (Ok n))) old views turn st
        (grown_pending kind group s of_group b b.pending (λ z ne. refl) st.account)
        (subst (Site kind group b s) (sym is_after) (archive_site group s b (old s) article of_group site sound))
        (λ a z q. omega (arith, ap (λ (u : View). entry u a z q) is_after, same_entry group s b (old s) article of_group site a z q))
        (inl refl)
        tt
