-- The reader's progress tells what the records before it come to. Assumes nothing.
use Rattle.std.proofs.Common.{◌≡◌, ℕ, ◌-◌, ◌<◌, ◌≤◌, Bool, true, false, cond, ltb, List, [], ◌∷◌, ◌++◌, length, get_or, set, fold, sym, refl, ap, ◌∙◌, subst, ⊎_elim, arith}
use mathlib.Core.Logic.{◌↔◌}
use Rattle.std.specs.List.{AllByRecursion}
use Rattle.std.proofs.ByRecursion.{all-has, All-push, All-weaker, has_append_left, has_append_right, has_push_cases}
use Rattle.std.proofs.lemmas.List.{append-nil, get_or-set_other, get_or-set_same, length-append, length-set}
use Rattle.std.proofs.lemmas.List.Elements.{filter_map-append}
use Rattle.std.proofs.lemmas.List.Sums.{fold_push}
use Rattle.std.proofs.lemmas.Bool.{and_from, cases_lt, false≢true, le-leb, le-ltb, lt-ltb, ltb-false}
use Rattle.action.specs.declared.action.Action.{Action}
use Rattle.action.specs.Order.{precedes}
use Rattle.action.proofs.Members.{all_append_parts}
use Rattle.action.proofs.Precedence.{precedes_by_time, precedes_trans}
use Rattle.message.specs.declared.due.Due.{Due}
use Rattle.message.specs.declared.progress.Progress.{Progress}
use Rattle.message.specs.declared.record.Header.{Header}
use Rattle.message.specs.declared.record.Interval.{Interval}
use Rattle.message.specs.declared.record.SectionHead.{SectionHead}
use Rattle.message.specs.declared.record.Record.{Record}
use Rattle.message.specs.declared.record.Record.TheVariants as RecordKinds
use Rattle.message.specs.Progress.{after_action, after_header, after_interval, after_section, carries, due_after, no_action, no_span, start}
use Rattle.message.specs.Rules.{actions_so_far, announced, due_next, heads, intervals_so_far, is_due, its_head, no_head, present_head, with_action, with_interval}
use Rattle.message.proofs.SectionIntervals.{CarriedBy, carried_by, span_of}
use Rattle.message.proofs.Sections.{none_carried}

-- THE RECORDS BEFORE

-- what records come to
pub record SoFar : Type 0 where
  pub sections : ℕ
  pub begun : List SectionHead
  pub head : SectionHead
  pub intervals : List Interval
  pub actions : List Action

abbrev pub so_far : List Record → SoFar
so_far before = record {
  sections = announced before;
  begun = heads before;
  head = present_head before;
  intervals = intervals_so_far before;
  actions = actions_so_far before;
}

abbrev pub with_head : SoFar → SectionHead → SoFar
with_head w s = record { sections = w.sections; begun = w.begun ++ (s ∷ []); head = s; intervals = []; actions = [] }

abbrev pub and_interval : SoFar → Interval → SoFar
and_interval w i = record { sections = w.sections; begun = w.begun; head = w.head; intervals = w.intervals ++ (i ∷ []); actions = w.actions }

abbrev pub and_action : SoFar → Action → SoFar
and_action w x = record { sections = w.sections; begun = w.begun; head = w.head; intervals = w.intervals; actions = w.actions ++ (x ∷ []) }

announced_kept : (before : List Record) (r : Record) → announced (r ∷ []) ≡ 0 → announced (before ++ (r ∷ [])) ≡ announced before
announced_kept [] r none = none
announced_kept (RecordKinds.Header h ∷ before) r none = refl
announced_kept (_ ∷ before) r none = refl

heads_kept : (before : List Record) (r : Record) → heads (r ∷ []) ≡ [] → heads (before ++ (r ∷ [])) ≡ heads before
heads_kept before r none = filter_map-append its_head before (r ∷ []) ∙ ap (λ l. heads before ++ l) none ∙ append-nil (heads before)

module _ (before : List Record) where
  pub head_more : (s : SectionHead) → so_far (before ++ (RecordKinds.Section s ∷ [])) ≡ with_head (so_far before) s
  head_more s =
      let r = RecordKinds.Section s in
      let begun = filter_map-append its_head before (r ∷ []) in
      let head = ap (fold (λ _ t. t) no_head) begun ∙ fold_push (λ _ t. t) no_head (heads before) s in
      λ k. record {
        sections = announced_kept before r refl k;
        begun = begun k;
        head = head k;
        intervals = fold_push with_interval [] before r k;
        actions = fold_push with_action [] before r k;
      }

  same_head : (r : Record) → announced (r ∷ []) ≡ 0 → heads (r ∷ []) ≡ [] → so_far (before ++ (r ∷ [])) ≡ record { sections = announced before; begun = heads before; head = present_head before; intervals = with_interval (intervals_so_far before) r; actions = with_action (actions_so_far before) r }
  same_head r none no_more =
      let begun = heads_kept before r no_more in
      λ k. record {
        sections = announced_kept before r none k;
        begun = begun k;
        head = fold (λ _ t. t) no_head (begun k);
        intervals = fold_push with_interval [] before r k;
        actions = fold_push with_action [] before r k;
      }

  pub interval_more : (i : Interval) → so_far (before ++ (RecordKinds.Interval i ∷ [])) ≡ and_interval (so_far before) i
  interval_more i = same_head (RecordKinds.Interval i) refl refl

  pub action_more : (x : Action) → so_far (before ++ (RecordKinds.Action x ∷ [])) ≡ and_action (so_far before) x
  action_more x = same_head (RecordKinds.Action x) refl refl

-- WHAT IS TOLD

pub record Told (p : Progress) (w : SoFar) : Type 0 where
  pub sections : p.sections ≡ w.sections - length w.begun
  pub intervals : p.intervals ≡ w.head.intervals - length w.intervals
  pub actions : p.actions ≡ w.head.actions - length w.actions
  pub article : p.article ≡ w.head.article
  pub articles : (a : ℕ) → (p.next_article ≤ a) ↔ AllByRecursion (λ s. s.article < a) w.begun
  pub sites : (c : ℕ) → (p.next_site ≤ c) ↔ AllByRecursion (λ i. i.site < c) w.intervals
  pub eight : length p.spans ≡ 8
  pub spans : (c time : ℕ) → (carries (get_or p.spans c no_span) time ≡ true) ↔ CarriedBy c time w.intervals
  pub last : (x : Action) → 1 ≤ x.time → (precedes p.last x ≡ true) ↔ AllByRecursion (λ y. precedes y x ≡ true) w.actions

pub told_none : Told start (so_far [])
told_none = record {
  sections = refl;
  intervals = refl;
  actions = refl;
  article = refl;
  articles = λ a. (λ h. tt, λ h. omega arith);
  sites = λ c. (λ h. tt, λ h. omega arith);
  eight = refl;
  spans = λ c time. (λ h. absurd (none_carried c time h), λ h. absurd (let inside = h.1.1 in omega arith));
  last = λ x some. (λ h. tt, λ h. precedes_by_time no_action x (omega arith));
}

module _ (p : Progress) where
  pub header_tells : (h : Header) → Told p (so_far []) → Told (after_header p h) (so_far (RecordKinds.Header h ∷ []))
  header_tells h t = let sections : h.sections ≡ h.sections - 0 = omega arith in assumption sections

  module _ (w : SoFar) (t : Told p w) where
    pub section_tells : (s : SectionHead) → p.next_article ≤ s.article → Told (after_section p s) (with_head w s)
    section_tells s least = record {
      sections = omega (arith, t.sections, length-append w.begun (s ∷ []));
      intervals = omega arith;
      actions = omega arith;
      article = refl;
      articles = λ a. (
        λ h. All-push (λ r. r.article < a) w.begun s (All-weaker (λ r. r.article < s.article) (λ r. r.article < a) (λ r k. omega arith) w.begun ((t.articles s.article).0 least)) (omega arith),
        λ h. omega (arith, (all_append_parts (λ r. r.article < a) w.begun (s ∷ []) h).1.0),
      );
      sites = told_none.sites;
      eight = refl;
      spans = told_none.spans;
      last = told_none.last;
    }

    pub interval_tells : (i : Interval) → p.next_site ≤ i.site → i.site < 8 → Told (after_interval p i) (and_interval w i)
    interval_tells i least few = record {
      sections = t.sections;
      intervals = omega (arith, t.intervals, length-append w.intervals (i ∷ []));
      actions = t.actions;
      article = t.article;
      articles = t.articles;
      sites = λ c. (
        λ h. All-push (λ j. j.site < c) w.intervals i (All-weaker (λ j. j.site < i.site) (λ j. j.site < c) (λ j k. omega arith) w.intervals below) (omega arith),
        λ h. omega (arith, (all_append_parts (λ j. j.site < c) w.intervals (i ∷ []) h).1.0),
      );
      eight = length-set p.spans i.site (span_of i) ∙ t.eight;
      spans = λ c time. (found c time, carried c time);
      last = t.last;
    }
      where
        below : AllByRecursion (λ j. j.site < i.site) w.intervals
        below = (t.sites i.site).0 least

        found : (c time : ℕ) → carries (get_or (set p.spans i.site (span_of i)) c no_span) time ≡ true → CarriedBy c time (w.intervals ++ (i ∷ []))
        found c time h =
            ⊎_elim
            (λ one. (one.0, has_append_right w.intervals (i ∷ []) one.0 one.1, one.2))
            (λ k. let old = (t.spans c time).0 k in (old.0, has_append_left w.intervals (i ∷ []) old.0 old.1, old.2))
            (carried_by c time p (i ∷ []) h)

        carried : (c time : ℕ) → CarriedBy c time (w.intervals ++ (i ∷ [])) → carries (get_or (set p.spans i.site (span_of i)) c no_span) time ≡ true
        carried c time (j, has, within) =
            ⊎_elim
            (λ old.
            let earlier : j.site < i.site = all-has (λ k. k.site < i.site) w.intervals j below old in
            let other : c ≡ i.site → ⊥ = λ same. omega (arith, within.0) in
            ap (λ s. carries s time) (get_or-set_other p.spans i.site c (span_of i) no_span other) ∙ (t.spans c time).1 (j, old, within))
            (λ same.
            let here : i.site ≡ c = ap (λ k. k.site) same ∙ within.0 in
            let is = ap (λ n. get_or (set p.spans i.site (span_of i)) n no_span) (sym here) ∙ get_or-set_same p.spans i.site (span_of i) no_span (omega (arith, t.eight)) ∙ ap span_of same in
            ap (λ s. carries s time) is ∙ and_from _ _ (lt-ltb _ _ within.1) (le-leb _ _ within.2))
            (has_push_cases w.intervals i j has)

    pub action_tells : (x : Action) → 1 ≤ x.time → precedes p.last x ≡ true → Told (after_action p x) (and_action w x)
    action_tells x some after =
        let actions : p.actions - 1 ≡ w.head.actions - length (w.actions ++ (x ∷ [])) = omega (arith, t.actions, length-append w.actions (x ∷ [])) in
        let last : (z : Action) → 1 ≤ z.time → (precedes x z ≡ true) ↔ AllByRecursion (λ y. precedes y z ≡ true) (w.actions ++ (x ∷ [])) = λ z late. (
          λ h. All-push (λ y. precedes y z ≡ true) w.actions x (All-weaker (λ y. precedes y x ≡ true) (λ y. precedes y z ≡ true) (λ y k. precedes_trans y x z k h) w.actions ((t.last x some).0 after)) h,
          λ h. (all_append_parts (λ y. precedes y z ≡ true) w.actions (x ∷ []) h).1.0,
        ) in
        assumption (actions, last)

-- WHAT IS DUE

abbrev pub due_in : SoFar → Due
due_in w =
    cond (ltb (length w.intervals) w.head.intervals) Due.Interval (cond (ltb (length w.actions) w.head.actions) Due.Action (cond (ltb (length w.begun) w.sections) Due.Section Due.End))

due_more : (before : List Record) (r : Record) → due_next (before ++ (r ∷ [])) ≡ due_in (so_far (before ++ (r ∷ [])))
due_more [] r = refl
due_more (_ ∷ before) r = refl

some_left : (a b : ℕ) → ltb 0 (a - b) ≡ ltb b a
some_left a b =
    ⊎_elim
    (λ h. lt-ltb 0 (a - b) (omega arith) ∙ sym (lt-ltb b a h))
    (λ h. le-ltb 0 (a - b) (omega arith) ∙ sym (le-ltb b a h))
    (cases_lt b a)

due_told : (p : Progress) (w : SoFar) → Told p w → due_after p.intervals p.actions p.sections ≡ due_in w
due_told p w t =
    (λ k. due_after (t.intervals k) (t.actions k) (t.sections k)) ∙ (λ k. cond (some_left w.head.intervals (length w.intervals) k) Due.Interval (cond (some_left w.head.actions (length w.actions) k) Due.Action (cond (some_left w.sections (length w.begun) k) Due.Section Due.End)))

-- the progress tells what is due after these records, and what they come to
pub record Tells (p : Progress) (before : List Record) : Type 0 where
  pub due : p.due ≡ due_next before
  pub told : Told p (so_far before)

pub tells_more : (p : Progress) (before : List Record) (r : Record) (w : SoFar) → so_far (before ++ (r ∷ [])) ≡ w → Told p w → p.due ≡ due_after p.intervals p.actions p.sections → Tells p (before ++ (r ∷ []))
tells_more p before r w is t so = record {
  due = so ∙ due_told p w t ∙ ap due_in (sym is) ∙ sym (due_more before r);
  told = subst (Told p) (sym is) t;
}

-- a header is due only where nothing was read
pub header_first : (before : List Record) (h : Header) → is_due (due_next before) (RecordKinds.Header h) ≡ true → before ≡ []
header_first [] h is = refl
header_first (r ∷ rs) h is = absurd (by_tests _ _ _ is)
  where
    by_tests : (a b c : Bool) → is_due (cond a Due.Interval (cond b Due.Action (cond c Due.Section Due.End))) (RecordKinds.Header h) ≡ true → ⊥
    by_tests true b c e = false≢true e
    by_tests false true c e = false≢true e
    by_tests false false true e = false≢true e
    by_tests false false false e = false≢true e

-- an action is due only where all intervals are there
pub intervals_there : (before : List Record) (x : Action) → is_due (due_next before) (RecordKinds.Action x) ≡ true → (present_head before).intervals ≤ length (intervals_so_far before)
intervals_there [] x is = absurd (false≢true is)
intervals_there (r ∷ rs) x is = ltb-false _ _ (by_test _ _ is)
  where
    by_test : (a : Bool) (d : Due) → is_due (cond a Due.Interval d) (RecordKinds.Action x) ≡ true → a ≡ false
    by_test true d e = absurd (false≢true e)
    by_test false d e = refl
