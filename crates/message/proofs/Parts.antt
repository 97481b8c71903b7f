-- The parts of a message, and how they are read: one record, as many of one part as are to come, and one part after
-- another. A section is a head and then its blocks, which are its intervals and its actions. Assumes nothing.
use Rattle.std.proofs.Common.{◌≡◌, ℕ, zero, suc, ◌-◌, ◌≤◌, true, cond, ltb, List, [], ◌∷◌, ◌++◌, map, length, Some, Ok, fold, sym, refl, ap, ◌∙◌, subst, arith}
use Rattle.std.specs.List.{flat_map, AllByRecursion}
use Rattle.std.proofs.ByRecursion.{All-map, All-weaker}
use Rattle.std.proofs.lemmas.Bool.{cond-true, lt-ltb}
use Rattle.std.proofs.lemmas.List.{append_assoc}
use Rattle.std.proofs.lemmas.List.Sums.{fold-append}
use Rattle.action.specs.declared.setup.Setup.{Setup}
use Rattle.action.specs.Order.{Pairwise}
use Rattle.kind.specs.Meaning.{Meaning}
use Rattle.message.specs.declared.due.Due.{Due}
use Rattle.message.specs.declared.progress.Progress.{Progress}
use Rattle.message.specs.declared.record.Record.{Record}
use Rattle.message.specs.Progress.{admitted}
use Rattle.message.specs.Reading.{onward}
use Rattle.message.specs.Rules.{is_due}
use Rattle.message.proofs.Onward.{first_on, some_same}
use Rattle.message.proofs.Steps.{onward_passes}

-- WHICH RECORD IS DUE

-- one as long as any is left, and then what is next
abbrev pub while_left : (Progress → ℕ) → Due → (Progress → Due) → Progress → Due
while_left left due next p = cond (ltb 0 (left p)) due (next p)

-- by the counts still to come, from the sections on; from a section's actions on; and from its intervals on
abbrev pub sections_due : Progress → Due
sections_due = while_left (λ p. p.sections) Due.Section (λ _. Due.End)

abbrev pub actions_due : Progress → Due
actions_due = while_left (λ p. p.actions) Due.Action sections_due

abbrev pub intervals_due : Progress → Due
intervals_due = while_left (λ p. p.intervals) Due.Interval actions_due

pub due_first : (n : ℕ) (d other : Due) → 1 ≤ n → cond (ltb 0 n) d other ≡ d
due_first n d other some = cond-true (ltb 0 n) d other (lt-ltb 0 n some)

-- RUNS

pub all_from_map : {X Y : Type 0} (f : Y → X) (P : X → Type 0) (ys : List Y) → AllByRecursion P (map f ys) → AllByRecursion (λ y. P (f y)) ys
all_from_map f P [] h = tt
all_from_map f P (y ∷ ys) h = (h.0, all_from_map f P ys h.1)

-- what no step changes
pub folded_keeps : {A B C : Type 0} (f : B → C) (step : B → A → B) → ((b : B) (a : A) → f (step b a) ≡ f b) → (b : B) (xs : List A) → f (fold step b xs) ≡ f b
folded_keeps f step keeps b [] = refl
folded_keeps f step keeps b (x ∷ xs) = folded_keeps f step keeps (step b x) xs ∙ keeps b x

module _ {X : Type 0} (Passes : Progress → X → Type 0) (after : Progress → X → Progress) where
  -- each passes after those before it
  abbrev pub Run : Progress → List X → Type 0
  Run p [] = Unit {0}
  Run p (x ∷ xs) = Passes p x × Run (after p x) xs

  -- and they are as many as are left
  abbrev pub RunOf : (Progress → ℕ) → Progress → List X → Type 0
  RunOf left p xs = (length xs ≡ left p) × Run p xs

  -- what a run comes to: each is good, none is below the least that may come, and each is before all after it
  module _ {K : Type 0} (key : X → K) (Before : K → K → Type 0) (Good : Progress → X → Type 0) (Least : Progress → K → Type 0) where
    pub run_told : ((p : Progress) (x : X) → Passes p x → Good p x × Least p (key x)) → ((p : Progress) (x y : X) → Good (after p x) y → Good p y) → ((p : Progress) (x y : X) → Least (after p x) (key y) → Before (key x) (key y)) → ((p : Progress) (x y : X) → Least p (key x) → Before (key x) (key y) → Least p (key y)) → (p : Progress) (xs : List X) → Run p xs → AllByRecursion (Good p) xs × AllByRecursion (λ x. Least p (key x)) xs × Pairwise Before (map key xs)
    run_told told good before least p [] run = (tt, tt, tt)
    run_told told good before least p (x ∷ xs) run =
        let here = told p x run.0 in
        let more = run_told told good before least (after p x) xs run.1 in
        let above = All-weaker (λ y. Least (after p x) (key y)) (λ y. Before (key x) (key y)) (before p x) xs more.1 in (
          (here.0, All-weaker (Good (after p x)) (Good p) (good p x) xs more.0),
          (here.1, All-weaker (λ y. Before (key x) (key y)) (λ y. Least p (key y)) (λ y h. least p x y here.1 h) xs above),
          (All-map (Before (key x)) key xs above, more.2),
        )

    pub run_passes : ((p : Progress) (x : X) → Good p x → Least p (key x) → Passes p x) → ((p : Progress) (x y : X) → Good p y → Good (after p x) y) → ((p : Progress) (x y : X) → Before (key x) (key y) → Least (after p x) (key y)) → (p : Progress) (xs : List X) → AllByRecursion (Good p) xs → AllByRecursion (λ x. Least p (key x)) xs → Pairwise Before (map key xs) → Run p xs
    run_passes passes good later p [] all least up = tt
    run_passes passes good later p (x ∷ xs) all least up =
        let above = all_from_map key (Before (key x)) xs up.0 in
        (passes p x all.0 least.0, run_passes passes good later (after p x) xs (All-weaker (Good p) (Good (after p x)) (good p x) xs all.1) (All-weaker (λ y. Before (key x) (key y)) (λ y. Least (after p x) (key y)) (later p x) xs above) up.1)

-- PARTS

module _ (kind : Meaning) (setup : Setup) where
  -- the records lead from one progress to another
  abbrev pub LeadsTo : Progress → List Record → Progress → Type 0
  LeadsTo p rs q = fold (onward kind setup) (Some p) rs ≡ Some q

  pub leads_on : (p q e : Progress) (rs qs : List Record) → LeadsTo p rs q → LeadsTo q qs e → LeadsTo p (rs ++ qs) e
  leads_on p q e rs qs h k = fold-append (onward kind setup) (Some p) rs qs ∙ ap (λ o. fold (onward kind setup) o qs) h ∙ k

  in_front : (rs qs ts us vs : List Record) → rs ≡ qs ++ ts → ts ≡ us ++ vs → rs ≡ (qs ++ us) ++ vs
  in_front rs qs ts us vs h k = h ∙ ap (λ l. qs ++ l) k ∙ sym (append_assoc qs us vs)

  module _ {X : Type 0} (records : X → List Record) (Passes : Progress → X → Type 0) (after : Progress → X → Progress) where
    -- the records begin with those of a part that passes, and what follows it leads on
    pub record BeginsWith (p e : Progress) (rs : List Record) : Type 0 where
      pub part : X
      pub rest : List Record
      pub front : rs ≡ records part ++ rest
      pub passes : Passes p part
      pub onto : LeadsTo (after p part) rest e

    -- where the part is due, records that lead to the end begin with one that passes, and one that passes leads on, to
    -- where the next part is due
    pub record Part (now next : Progress → Due) : Type 0 where
      pub takes : (p e : Progress) (rs : List Record) → p.due ≡ now p → LeadsTo p rs e → e.due ≡ Due.End → BeginsWith p e rs
      pub leads : (p : Progress) (x : X) → p.due ≡ now p → Passes p x → LeadsTo p (records x) (after p x)
      pub ready : (p : Progress) (x : X) → p.due ≡ now p → Passes p x → (after p x).due ≡ next (after p x)

  -- ONE RECORD

  module _ {X : Type 0} (wrap : X → Record) (Passes : Progress → X → Type 0) (after : Progress → X → Progress) (due : Due) (next : Progress → Due) where
    -- a record of the kind that is due, where exactly those that pass are admitted
    pub one : (due ≡ Due.End → ⊥) → ((x : X) → is_due due (wrap x) ≡ true) → ((p q : Progress) (r : Record) → is_due due r ≡ true → admitted kind setup p r ≡ Ok q → (x : X) × (r ≡ wrap x) × Passes p x × (q ≡ after p x)) → ((p : Progress) (x : X) → Passes p x → admitted kind setup p (wrap x) ≡ Ok (after p x)) → ((p : Progress) (x : X) → Passes p x → (after p x).due ≡ next (after p x)) → Part (λ x. wrap x ∷ []) Passes after (λ _. due) next
    one no_end of_kind told passes ready = record {
      takes = take;
      leads = λ p x is run. onward_passes kind setup p (after p x) (wrap x) (ap (λ d. is_due d (wrap x)) is ∙ of_kind x) (passes p x run);
      ready = λ p x is run. ready p x run;
    }
      where
        take : (p e : Progress) (rs : List Record) → p.due ≡ due → LeadsTo p rs e → e.due ≡ Due.End → BeginsWith (λ x. wrap x ∷ []) Passes after p e rs
        take p e [] is h end = absurd (no_end (sym is ∙ ap (λ q. q.due) (some_same p e h) ∙ end))
        take p e (r ∷ rs) is h end =
            let f = first_on kind setup p e r rs h in
            let t = told p f.next r (ap (λ d. is_due d r) (sym is) ∙ f.was_due) f.passes in
            record { part = t.0; rest = rs; front = ap (λ x. x ∷ rs) t.1; passes = t.2; onto = ap (λ q. fold (onward kind setup) (Some q) rs) (sym t.3) ∙ f.onto }

  -- AS MANY AS ARE TO COME

  -- as many of a part as are left, none included, where the part is due as long as any is left
  module _ {X : Type 0} {records : X → List Record} {Passes : Progress → X → Type 0} {after : Progress → X → Progress} (left : Progress → ℕ) (due : Due) (next : Progress → Due) (each : Part records Passes after (λ _. due) (while_left left due next)) where
    pub many : ((p : Progress) (x : X) → left (after p x) ≡ left p - 1) → Part (flat_map records) (RunOf Passes after left) (fold after) (while_left left due next) next
    many fewer = record { takes = λ p e rs so h end. take (left p) p e rs refl so h end; leads = lead; ready = all_ready }
      where
        is_due_now : (p : Progress) → p.due ≡ while_left left due next p → 1 ≤ left p → p.due ≡ due
        is_due_now p so some = so ∙ due_first (left p) due (next p) some

        take : (n : ℕ) (p e : Progress) (rs : List Record) → left p ≡ n → p.due ≡ while_left left due next p → LeadsTo p rs e → e.due ≡ Due.End → BeginsWith (flat_map records) (RunOf Passes after left) (fold after) p e rs
        take zero p e rs none so h end = record { part = []; rest = rs; front = refl; passes = (sym none, tt); onto = h }
        take (suc n) p e rs some so h end =
            let first = each.takes p e rs (is_due_now p so (omega arith)) h end in
            let x = first.part in
            let others = take n (after p x) e first.rest (fewer p x ∙ omega arith) (each.ready p x (is_due_now p so (omega arith)) first.passes) first.onto end in
            record {
              part = x ∷ others.part;
              rest = others.rest;
              front = in_front rs (records x) first.rest (flat_map records others.part) others.rest first.front others.front;
              passes = (omega (arith, others.passes.0, fewer p x), (first.passes, others.passes.1));
              onto = others.onto;
            }

        lead : (p : Progress) (xs : List X) → p.due ≡ while_left left due next p → RunOf Passes after left p xs → LeadsTo p (flat_map records xs) (fold after p xs)
        lead p [] so run = refl
        lead p (x ∷ xs) so (many, run) =
            let here = is_due_now p so (omega arith) in
            leads_on p (after p x) (fold after (after p x) xs) (records x) (flat_map records xs) (each.leads p x here run.0) (lead (after p x) xs (each.ready p x here run.0) (omega (arith, fewer p x), run.1))

        all_ready : (p : Progress) (xs : List X) → p.due ≡ while_left left due next p → RunOf Passes after left p xs → (fold after p xs).due ≡ next (fold after p xs)
        all_ready p [] so run = so ∙ ap (λ n. cond (ltb 0 n) due (next p)) (sym run.0)
        all_ready p (x ∷ xs) so (many, run) = all_ready (after p x) xs (each.ready p x (is_due_now p so (omega arith)) run.0) (omega (arith, fewer p x), run.1)

  -- ONE PART AFTER ANOTHER

  module _ {X Y : Type 0} {records₁ : X → List Record} {records₂ : Y → List Record} {Passes₁ : Progress → X → Type 0} {Passes₂ : Progress → Y → Type 0} {after₁ : Progress → X → Progress} {after₂ : Progress → Y → Progress} {now then next : Progress → Due} where
    pub followed_by : Part records₁ Passes₁ after₁ now then → Part records₂ Passes₂ after₂ then next → Part {X = X × Y} (λ t. records₁ t.0 ++ records₂ t.1) (λ p t. Passes₁ p t.0 × Passes₂ (after₁ p t.0) t.1) (λ p t. after₂ (after₁ p t.0) t.1) now next
    followed_by first second = record {
      takes = λ p e rs so h end.
          let a = first.takes p e rs so h end in
          let b = second.takes (after₁ p a.part) e a.rest (first.ready p a.part so a.passes) a.onto end in
          record { part = (a.part, b.part); rest = b.rest; front = in_front rs (records₁ a.part) a.rest (records₂ b.part) b.rest a.front b.front; passes = (a.passes, b.passes); onto = b.onto };
      leads = λ p t so run. leads_on p (after₁ p t.0) _ (records₁ t.0) (records₂ t.1) (first.leads p t.0 so run.0) (second.leads (after₁ p t.0) t.1 (first.ready p t.0 so run.0) run.1);
      ready = λ p t so run. second.ready (after₁ p t.0) t.1 (first.ready p t.0 so run.0) run.1;
    }

  -- PARTS PUT TOGETHER

  -- a thing whose records are those of its parts, where any parts that pass make up such a thing
  module _ {X Y : Type 0} {records : Y → List Record} {Passes : Progress → Y → Type 0} {after : Progress → Y → Progress} {now next : Progress → Due} where
    pub put_together : Part records Passes after now next → (parts : X → Y) (as_records : X → List Record) → ((x : X) → as_records x ≡ records (parts x)) → ((p : Progress) (y : Y) → Passes p y → (x : X) × (y ≡ parts x)) → Part as_records (λ p x. Passes p (parts x)) (λ p x. after p (parts x)) now next
    put_together part parts as_records same whole = record {
      takes = λ p e rs so h end.
          let t = part.takes p e rs so h end in
          let x = whole p t.part t.passes in
          record { part = x.0; rest = t.rest; front = t.front ∙ ap (λ l. l ++ t.rest) (ap records x.1 ∙ sym (same x.0)); passes = subst (Passes p) x.1 t.passes; onto = subst (λ y. LeadsTo (after p y) t.rest e) x.1 t.onto };
      leads = λ p x so run. ap (fold (onward kind setup) (Some p)) (same x) ∙ part.leads p (parts x) so run;
      ready = λ p x so run. part.ready p (parts x) so run;
    }
