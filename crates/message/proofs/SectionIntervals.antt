-- A section's intervals: the test of each after those before it, and what all of them keep. Assumes nothing.
use Rattle.std.proofs.Common.{◌≡◌, Ok, Err, ℕ, zero, suc, ◌<◌, ◌≤◌, true, ◌&&◌, ltb, leb, ◌⊎◌, List, [], ◌∷◌, map, length, get_or, set, fold, sym, refl, ap, ◌∙◌, subst, inl, inr, arith}
use Rattle.std.specs.List.{flat_map, ContainsAt as Has, AllByRecursion}
use Rattle.std.proofs.lemmas.List.{get_or-set_other, get_or-set_same, length-set, set_past}
use Rattle.std.proofs.lemmas.Bool.{and_from, and_parts, cases_eq, cases_lt, cond-true, le-leb, leb-true, lt-ltb, ltb-true}
use Rattle.action.specs.declared.setup.Setup.{Setup}
use Rattle.action.proofs.Members.{has_first, has_later}
use Rattle.kind.specs.Meaning.{Meaning}
use Rattle.message.specs.declared.due.Due.{Due}
use Rattle.message.specs.declared.progress.Progress.{Progress}
use Rattle.message.specs.declared.progress.TimeSpan.{TimeSpan}
use Rattle.message.specs.declared.reader_fault.UnplacedFault.TheVariants.{Broken}
use Rattle.message.specs.declared.record.Interval.{Interval}
use Rattle.message.specs.declared.record.Record.TheVariants as RecordKinds
use Rattle.message.specs.Lawful.{LawfulInterval, Rising}
use Rattle.message.specs.Progress.{after_interval, carries, lawful_interval, no_span}
use Rattle.message.proofs.Onward.{interval_on}
use Rattle.message.proofs.Parts.{Part, Run, RunOf, actions_due, all_from_map, intervals_due, many, one, run_passes, run_told}

-- THE PART

abbrev pub IntervalPasses : Setup → Progress → Interval → Type 0
IntervalPasses setup p i = lawful_interval setup p i ≡ true

module _ (kind : Meaning) (setup : Setup) where
  interval_part : Part kind setup (λ i. RecordKinds.Interval i ∷ []) (IntervalPasses setup) after_interval (λ _. Due.Interval) intervals_due
  interval_part =
      one kind setup RecordKinds.Interval (IntervalPasses setup) after_interval Due.Interval intervals_due (λ end. cc) (λ i. refl) (interval_on kind setup) (λ p i test. cond-true (lawful_interval setup p i) (Ok (after_interval p i)) (Err Broken) test) (λ p i test. refl)

  pub intervals_part : Part kind setup (flat_map (λ i. RecordKinds.Interval i ∷ [])) (RunOf (IntervalPasses setup) after_interval (λ p. p.intervals)) (fold after_interval) intervals_due actions_due
  intervals_part = many kind setup (λ p. p.intervals) Due.Interval actions_due interval_part (λ p i. refl)

-- THE TEST

module _ (setup : Setup) where
  pub interval_told : (p : Progress) (i : Interval) → IntervalPasses setup p i → LawfulInterval setup i × (p.next_site ≤ i.site)
  interval_told p i h =
      let a = and_parts (leb p.next_site i.site && ltb i.site setup.sites) _ h in
      let b = and_parts (leb p.next_site i.site) _ a.0 in
      let c = and_parts (leb i.from i.to) _ a.1 in
      (record { of_group = ltb-true _ _ b.1; forward = leb-true _ _ c.0; in_time = leb-true _ _ c.1 }, leb-true _ _ b.0)

  pub interval_passes : (p : Progress) (i : Interval) → LawfulInterval setup i → p.next_site ≤ i.site → IntervalPasses setup p i
  interval_passes p i l h = and_from _ _ (and_from _ _ (le-leb _ _ h) (lt-ltb _ _ l.of_group)) (and_from _ _ (le-leb _ _ l.forward) (le-leb _ _ l.in_time))

  -- the tests along the way say that all are lawful, their sites rising and none below the least
  pub intervals_told : (p : Progress) (is : List Interval) → Run (IntervalPasses setup) after_interval p is → AllByRecursion (LawfulInterval setup) is × AllByRecursion (λ i. p.next_site ≤ i.site) is × Rising (map (λ i. i.site) is)
  intervals_told =
      run_told (IntervalPasses setup) after_interval (λ i. i.site) (λ b c. b < c) (λ _. LawfulInterval setup) (λ p c. p.next_site ≤ c) interval_told (λ _ _ _ l. l) (λ p i j h. omega arith) (λ p i j h k. omega arith)

  pub intervals_pass : (p : Progress) (is : List Interval) → AllByRecursion (LawfulInterval setup) is → AllByRecursion (λ i. p.next_site ≤ i.site) is → Rising (map (λ i. i.site) is) → Run (IntervalPasses setup) after_interval p is
  intervals_pass =
      run_passes (IntervalPasses setup) after_interval (λ i. i.site) (λ b c. b < c) (λ _. LawfulInterval setup) (λ p c. p.next_site ≤ c) interval_passes (λ _ _ _ l. l) (λ p i j h. omega arith)

-- SPANS

abbrev pub span_of : Interval → TimeSpan
span_of i = record { from = i.from; to = i.to }

module _ (c time : ℕ) where
  -- an interval of the list is of the site, and carries the time
  abbrev pub CarriedBy : List Interval → Type 0
  CarriedBy is = (i : Interval) × Has is i × ((i.site ≡ c) × (i.from < time) × (time ≤ i.to))

  -- a time that a site's span carries after the intervals, one of them carries, or the span before them
  pub carried_by : (p : Progress) (is : List Interval) → carries (get_or (fold after_interval p is).spans c no_span) time ≡ true → CarriedBy is ⊎ (carries (get_or p.spans c no_span) time ≡ true)
  carried_by p [] h = inr h
  carried_by p (i ∷ is) h = later (carried_by (after_interval p i) is h)
    where
      here : i.site ≡ c → carries (span_of i) time ≡ true → CarriedBy (i ∷ is)
      here same k = let parts = and_parts (ltb i.from time) _ k in (i, has_first i is, (same, ltb-true _ _ parts.0, leb-true _ _ parts.1))

      placed : (c ≡ i.site) ⊎ (c ≡ i.site → ⊥) → (i.site < length p.spans) ⊎ (length p.spans ≤ i.site) → carries (get_or (set p.spans i.site (span_of i)) c no_span) time ≡ true → CarriedBy (i ∷ is) ⊎ (carries (get_or p.spans c no_span) time ≡ true)
      placed (inl same) (inl within) k = inl (here (sym same) (ap (λ s. carries s time) (sym (ap (λ n. get_or (set p.spans i.site (span_of i)) n no_span) same ∙ get_or-set_same p.spans i.site (span_of i) no_span within)) ∙ k))
      placed (inl same) (inr past) k = inr (ap (λ ss. carries (get_or ss c no_span) time) (sym (set_past p.spans i.site (span_of i) past)) ∙ k)
      placed (inr other) _ k = inr (ap (λ s. carries s time) (sym (get_or-set_other p.spans i.site c (span_of i) no_span other)) ∙ k)

      later : CarriedBy is ⊎ (carries (get_or (after_interval p i).spans c no_span) time ≡ true) → CarriedBy (i ∷ is) ⊎ (carries (get_or p.spans c no_span) time ≡ true)
      later (inl (j, has, rest)) = inl (j, has_later i is j has, rest)
      later (inr k) = placed (cases_eq c i.site) (cases_lt i.site (length p.spans)) k

-- intervals of later sites leave a site's span
pub span_kept : (p : Progress) (is : List Interval) (c : ℕ) → AllByRecursion (λ i. c < i.site) is → get_or (fold after_interval p is).spans c no_span ≡ get_or p.spans c no_span
span_kept p [] c h = refl
span_kept p (i ∷ is) c h = span_kept (after_interval p i) is c h.1 ∙ get_or-set_other p.spans i.site c _ no_span (omega (arith, h.0))

-- after intervals of rising sites, a site's span is that of its interval
pub span_set : (p : Progress) (is : List Interval) (i : Interval) (k : ℕ) → k < length is → get_or is k i ≡ i → Rising (map (λ i. i.site) is) → AllByRecursion (λ i. i.site < length p.spans) is → get_or (fold after_interval p is).spans i.site no_span ≡ span_of i
span_set p [] i k in' at up few = absurd (omega arith)
span_set p (j ∷ is) i zero in' at up few =
    subst (λ x. get_or (fold after_interval (after_interval p j) is).spans x.site no_span ≡ span_of x) at (span_kept (after_interval p j) is j.site (all_from_map (λ x. x.site) (λ y. j.site < y) is up.0) ∙ get_or-set_same p.spans j.site _ no_span few.0)
span_set p (j ∷ is) i (suc k) in' at up few =
    span_set (after_interval p j) is i k (omega arith) at up.1 (subst (λ n. AllByRecursion (λ x. x.site < n) is) (sym (length-set p.spans j.site _)) few.1)
