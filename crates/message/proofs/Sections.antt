-- One section: its parts, and that they pass exactly where it is lawful. Assumes nothing.
use Rattle.std.proofs.Common.{◌≡◌, ℕ, ◌+◌, ◌-◌, ◌<◌, ◌≤◌, true, ◌&&◌, ltb, leb, ◌⊎◌, List, [], ◌∷◌, ◌++◌, map, get_or, Ok, Err, fold, sym, refl, ap, ◌∙◌, subst, inl, inr, arith}
use Rattle.std.specs.List.{flat_map, AllByRecursion}
use Rattle.std.proofs.ByRecursion.{All-weaker}
use Rattle.std.proofs.lemmas.List.{get_or_past, get_or-replicate, map-id}
use Rattle.std.proofs.lemmas.List.Concat.{flat_map_single}
use Rattle.std.proofs.lemmas.Bool.{and_from, and_parts, cases_lt, cond-true, le-leb, leb-true, lt-ltb, ltb-true}
use Rattle.action.specs.declared.action.Action.{Action}
use Rattle.action.specs.declared.setup.Setup.{Setup}
use Rattle.action.specs.Order.{Ascending, Leads}
use Rattle.action.proofs.Members.{all_append_parts}
use Rattle.action.proofs.Sequence.{leads_later}
use Rattle.kind.specs.Meaning.{Meaning}
use Rattle.message.specs.declared.due.Due.{Due}
use Rattle.message.specs.declared.progress.Progress.{Progress}
use Rattle.message.specs.declared.reader_fault.UnplacedFault.TheVariants.{Broken}
use Rattle.message.specs.declared.record.Interval.{Interval}
use Rattle.message.specs.declared.record.SectionHead.{SectionHead}
use Rattle.message.specs.declared.record.Record.TheVariants as RecordKinds
use Rattle.message.specs.Fields.{ActionFits, Fitting}
use Rattle.message.specs.Format.{Section, head_of, section_records}
use Rattle.message.specs.Lawful.{LawfulAction, LawfulInterval, LawfulSection, Rising}
use Rattle.message.specs.Progress.{after_action, after_interval, after_section, carries, lawful_section, no_action, no_span, no_spans}
use Rattle.message.proofs.Onward.{section_on}
use Rattle.message.proofs.Parts.{Part, Run, RunOf, all_from_map, folded_keeps, followed_by, intervals_due, one, put_together, run_passes, run_told, sections_due}
use Rattle.message.proofs.SectionActions.{ActionPasses, Fair, actions_part, actions_pass, actions_told}
use Rattle.message.proofs.SectionIntervals.{CarriedBy, IntervalPasses, carried_by, intervals_part, intervals_pass, intervals_told, span_set}

-- ALL OF A LIST

pub all_both : {X : Type 0} (P Q R : X → Type 0) → ((x : X) → P x → Q x → R x) → (xs : List X) → AllByRecursion P xs → AllByRecursion Q xs → AllByRecursion R xs
all_both P Q R f [] h k = tt
all_both P Q R f (x ∷ xs) h k = (f x h.0 k.0, all_both P Q R f xs h.1 k.1)

all_from_joined : {X Y : Type 0} (f : X → List Y) (P : Y → Type 0) (xs : List X) → AllByRecursion P (flat_map f xs) → AllByRecursion (λ x. AllByRecursion P (f x)) xs
all_from_joined f P [] h = tt
all_from_joined f P (x ∷ xs) h = let parts = all_append_parts P (f x) (flat_map f xs) h in (parts.0, all_from_joined f P xs parts.1)

-- SPANS OF A NEW SECTION

no_span_lem : (c : ℕ) → get_or no_spans c no_span ≡ no_span
no_span_lem c = by_place (cases_lt c 8)
  where
    by_place : (c < 8) ⊎ (8 ≤ c) → get_or no_spans c no_span ≡ no_span
    by_place (inl within) = get_or-replicate 8 c no_span no_span within
    by_place (inr past) = get_or_past no_spans c no_span past

pub none_carried : (c time : ℕ) → carries (get_or no_spans c no_span) time ≡ true → ⊥
none_carried c time h =
    let parts = and_parts (ltb 0 time) (leb time 0) (ap (λ s. carries s time) (sym (no_span_lem c)) ∙ h) in
    omega (arith, ltb-true 0 time parts.0, leb-true time 0 parts.1)

-- THE HEAD

pub record HeadTold (setup : Setup) (p : Progress) (head : SectionHead) : Type 0 where
  pub least : p.next_article ≤ head.article
  pub listed : head.article < setup.articles
  pub some : 1 ≤ head.intervals
  pub few : head.intervals ≤ setup.sites

module _ (setup : Setup) (p : Progress) (head : SectionHead) where
  pub head_told : lawful_section setup p head ≡ true → HeadTold setup p head
  head_told h =
      let a = and_parts (leb p.next_article head.article && ltb head.article setup.articles) _ h in
      let b = and_parts (leb p.next_article head.article) _ a.0 in
      let c = and_parts (leb 1 head.intervals) _ a.1 in
      record { least = leb-true _ _ b.0; listed = ltb-true _ _ b.1; some = leb-true _ _ c.0; few = leb-true _ _ c.1 }

  pub head_passes : HeadTold setup p head → lawful_section setup p head ≡ true
  head_passes t = and_from _ _ (and_from _ _ (le-leb _ _ t.least) (lt-ltb _ _ t.listed)) (and_from _ _ (le-leb _ _ t.some) (le-leb _ _ t.few))

module _ (kind : Meaning) (setup : Setup) where
  head_part : Part kind setup (λ s. RecordKinds.Section s ∷ []) (λ p s. lawful_section setup p s ≡ true) after_section (λ _. Due.Section) intervals_due
  head_part =
      one kind setup RecordKinds.Section (λ p s. lawful_section setup p s ≡ true) after_section Due.Section intervals_due (λ end. cc) (λ s. refl) (section_on kind setup) (λ p s test. cond-true (lawful_section setup p s) (Ok (after_section p s)) (Err Broken) test) (λ p s test. refl)

-- THE PARTS OF A SECTION

abbrev pub after_intervals : Progress → Section → Progress
after_intervals p s = fold after_interval (after_section p (head_of s)) s.intervals

abbrev pub after_all : Progress → Section → Progress
after_all p s = fold after_action (after_intervals p s) s.actions

-- its head passes, then its intervals, then its actions
abbrev pub SectionPasses : Meaning → Setup → Progress → Section → Type 0
SectionPasses kind setup p s =
    (lawful_section setup p (head_of s) ≡ true) × (RunOf (IntervalPasses setup) after_interval (λ q. q.intervals) (after_section p (head_of s)) s.intervals × RunOf (ActionPasses kind) after_action (λ q. q.actions) (after_intervals p s) s.actions)

-- what neither an interval nor an action changes
section_keeps : {B : Type 0} (f : Progress → B) → ((p : Progress) (i : Interval) → f (after_interval p i) ≡ f p) → ((p : Progress) (x : Action) → f (after_action p x) ≡ f p) → (p : Progress) (s : Section) → f (after_all p s) ≡ f (after_section p (head_of s))
section_keeps f intervals actions p s = folded_keeps f after_action actions (after_intervals p s) s.actions ∙ folded_keeps f after_interval intervals (after_section p (head_of s)) s.intervals

pub sections_left : (p : Progress) (s : Section) → (after_all p s).sections ≡ p.sections - 1
sections_left = section_keeps (λ q. q.sections) (λ _ _. refl) (λ _ _. refl)

pub next_article : (p : Progress) (s : Section) → (after_all p s).next_article ≡ s.article + 1
next_article = section_keeps (λ q. q.next_article) (λ _ _. refl) (λ _ _. refl)

actions_left : (p : Progress) (head : SectionHead) (is : List Interval) → (fold after_interval (after_section p head) is).actions ≡ head.actions
actions_left p head is = folded_keeps (λ q. q.actions) after_interval (λ _ _. refl) (after_section p head) is

module _ (kind : Meaning) (setup : Setup) where
  pub section_part : Part kind setup section_records (SectionPasses kind setup) after_all (λ _. Due.Section) sections_due
  section_part =
      put_together kind setup (followed_by kind setup (head_part kind setup) (followed_by kind setup (intervals_part kind setup) (actions_part kind setup))) (λ s. (head_of s, (s.intervals, s.actions))) section_records (λ s k. RecordKinds.Section (head_of s) ∷ (sym (flat_map_single RecordKinds.Interval s.intervals) k ++ sym (flat_map_single RecordKinds.Action s.actions) k)) (λ p t passes.
      let s : Section = record { article = t.0.article; intervals = t.1.0; actions = t.1.1 } in
      let same : head_of s ≡ t.0 = λ k. record { article = t.0.article; intervals = passes.1.0.0 k; actions = (passes.1.1.0 ∙ actions_left p t.0 t.1.0) k } in
      (s, ap (λ h. (h, t.1)) (sym same)))

-- TESTS PASSED, AND LAWFUL

module _ (kind : Meaning) (setup : Setup) (p : Progress) (s : Section) where
  -- what the tests of an action say, after the section's intervals
  fair_lawful : (x : Action) → Fair kind s.article (after_intervals p s).spans x → ActionFits x → LawfulAction kind s x
  fair_lawful x f fits = let carried : CarriedBy x.coordinator x.time s.intervals = by_place (carried_by x.coordinator x.time (after_section p (head_of s)) s.intervals f.in_span) in assumption carried
    where
      by_place : CarriedBy x.coordinator x.time s.intervals ⊎ (carries (get_or no_spans x.coordinator no_span) x.time ≡ true) → CarriedBy x.coordinator x.time s.intervals
      by_place (inl c) = c
      by_place (inr h) = absurd (none_carried x.coordinator x.time h)

  lawful_fair : LawfulSection kind setup s → (x : Action) → LawfulAction kind s x → Fair kind s.article (after_intervals p s).spans x
  lawful_fair l x a = let found = in_span a.carried in assumption found
    where
      in_span : CarriedBy x.coordinator x.time s.intervals → carries (get_or (after_intervals p s).spans x.coordinator no_span) x.time ≡ true
      in_span (i, (k, within, at), (same, after, upto)) =
          let is = span_set (after_section p (head_of s)) s.intervals i k within (at i) l.rising (All-weaker (LawfulInterval setup) (λ j. j.site < 8) (λ j h. omega (arith, h.of_group, setup.few_sites)) s.intervals l.intervals) in
          ap (λ t. carries t x.time) (ap (λ n. get_or (after_intervals p s).spans n no_span) (sym same) ∙ is) ∙ and_from _ _ (lt-ltb _ _ after) (le-leb _ _ upto)

  -- what passes is lawful, if its fields fit
  pub section_lawful : SectionPasses kind setup p s → AllByRecursion Fitting (section_records s) → LawfulSection kind setup s
  section_lawful (h, ((_, intervals), (_, actions))) fits =
      let told = head_told setup p (head_of s) h in
      let is = intervals_told setup (after_section p (head_of s)) s.intervals intervals in
      let xs = actions_told kind (after_intervals p s) s.actions actions in
      let article = folded_keeps (λ q. q.article) after_interval (λ _ _. refl) (after_section p (head_of s)) s.intervals in
      let each = all_append_parts Fitting (map RecordKinds.Interval s.intervals) (map RecordKinds.Action s.actions) fits.1 in
      record {
        listed = told.listed;
        some = told.some;
        few = told.few;
        intervals = is.0;
        rising = is.2;
        actions = all_both _ _ _ fair_lawful s.actions (subst (λ (n : ℕ). AllByRecursion (Fair kind n (after_intervals p s).spans) s.actions) article xs.0) (all_from_map RecordKinds.Action Fitting s.actions each.1);
        ordered = subst Ascending (map-id s.actions) xs.2;
        counted = fits.0.actions;
      }

  -- and what is lawful passes
  pub section_passes : LawfulSection kind setup s → p.next_article ≤ s.article → SectionPasses kind setup p s
  section_passes l least =
      let q = after_section p (head_of s) in
      let middle = after_intervals p s in
      let told : HeadTold setup p (head_of s) = record { least = least; listed = l.listed; some = l.some; few = l.few } in
      let intervals = intervals_pass setup q s.intervals l.intervals (All-weaker (LawfulInterval setup) (λ i. 0 ≤ i.site) (λ i h. omega arith) s.intervals l.intervals) l.rising in
      let article = folded_keeps (λ q. q.article) after_interval (λ _ _. refl) q s.intervals in
      let last = folded_keeps (λ q. q.last) after_interval (λ _ _. refl) q s.intervals in
      let fair = All-weaker (LawfulAction kind s) (Fair kind s.article middle.spans) (lawful_fair l) s.actions l.actions in
      let leads = leads_later 0 no_action s.actions (omega arith) (All-weaker (LawfulAction kind s) (λ x. 0 < x.time) (λ x a. omega (arith, a.begun, a.in_turn)) s.actions l.actions) in
      let actions = actions_pass kind middle s.actions (subst (λ (n : ℕ). AllByRecursion (Fair kind n middle.spans) s.actions) (sym article) fair) (subst (λ a. Leads a s.actions) (sym last) leads) (subst Ascending (sym (map-id s.actions)) l.ordered) in
      (head_passes setup p (head_of s) told, ((refl, intervals), (sym (actions_left p (head_of s) s.intervals), actions)))

-- SECTIONS

module _ (kind : Meaning) (setup : Setup) where
  -- sections that pass one after another are lawful, their articles rising
  pub sections_lawful : (p : Progress) (ss : List Section) → Run (SectionPasses kind setup) after_all p ss → AllByRecursion Fitting (flat_map section_records ss) → AllByRecursion (LawfulSection kind setup) ss × Rising (map (λ s. s.article) ss)
  sections_lawful p ss run fits =
      let t = run_told (SectionPasses kind setup) after_all (λ s. s.article) (λ a b. a < b) (λ _ s. AllByRecursion Fitting (section_records s) → LawfulSection kind setup s) (λ p a. p.next_article ≤ a) (λ p s run. (section_lawful kind setup p s run, (head_told setup p (head_of s) run.0).least)) (λ _ _ _ l. l) (λ p s t h. omega (arith, next_article p s)) (λ p s t h k. omega arith) p ss run in
      (all_both _ _ (LawfulSection kind setup) (λ s f l. l f) ss (all_from_joined section_records Fitting ss fits) t.0, t.2)

  pub sections_pass : (p : Progress) (ss : List Section) → AllByRecursion (LawfulSection kind setup) ss → AllByRecursion (λ s. p.next_article ≤ s.article) ss → Rising (map (λ s. s.article) ss) → Run (SectionPasses kind setup) after_all p ss
  sections_pass =
      run_passes (SectionPasses kind setup) after_all (λ s. s.article) (λ a b. a < b) (λ _. LawfulSection kind setup) (λ p a. p.next_article ≤ a) (section_passes kind setup) (λ _ _ _ l. l) (λ p s t h. omega (arith, next_article p s))
