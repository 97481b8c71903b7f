-- What a message carries: its intervals and its actions, as its records have them. Assumes nothing.
use Rattle.std.proofs.Common.{◌≡◌, ℕ, ◌+◌, ◌<◌, Bool, false, cond, List, [], ◌∷◌, ◌++◌, map, length, Some, None, Option, count_by, sym, refl, ap, ◌∙◌, subst, ⊎_elim, arith}
use Rattle.std.specs.Option.{option_map}
use Rattle.std.specs.List.{flat_map, ContainsAt as Has, AllByRecursion}
use Rattle.std.proofs.ByRecursion.{All-append, all-has, all_has_itself, All-map, All-weaker, has_append_left, has_append_right}
use Rattle.std.proofs.lemmas.Bool.{cases_Bool, cond-false, cond-true}
use Rattle.std.proofs.lemmas.List.{append_assoc, map-id}
use Rattle.std.proofs.lemmas.List.Concat.{length-flat_map}
use Rattle.std.proofs.lemmas.List.Sums.{sum_by-cons}
use Rattle.action.specs.declared.setup.Setup.{Setup}
use Rattle.action.proofs.Members.{has_cons_cases, has_first, has_later, has_none}
use Rattle.action.proofs.Pairs.{pairwise_append}
use Rattle.action.proofs.Ranks.{AllRanked, Ranked, ascending_ranked, ranked_unless}
use Rattle.kind.specs.Meaning.{Meaning}
use Rattle.message.specs.declared.intervals.FoundInterval.{FoundInterval}
use Rattle.message.specs.declared.record.Interval.{Interval}
use Rattle.message.specs.declared.record.Record.{Record}
use Rattle.message.specs.declared.record.Record.TheVariants as RecordKinds
use Rattle.message.specs.Format.{Message, Section, carried, record_bytes, records, section_records, told_intervals}
use Rattle.message.specs.Found.{first_place}
use Rattle.message.specs.Lawful.{Carries, LawfulAction, LawfulInterval, LawfulMessage, LawfulSection, Rising, action_count}
use Rattle.message.specs.Reading.{is_action}
use Rattle.message.specs.Walks.{actions_of, article_after, intervals_of}
use Rattle.message.proofs.Parts.{all_from_map}

-- LISTS IN A ROW

module _ {X Y : Type 0} (f : X → List Y) where
  pub all_joined : (P : Y → Type 0) (xs : List X) → ((x : X) → Has xs x → AllByRecursion P (f x)) → AllByRecursion P (flat_map f xs)
  all_joined P [] each = tt
  all_joined P (x ∷ xs) each = All-append P (f x) (flat_map f xs) (each x (has_first x xs)) (all_joined P xs (λ y h. each y (has_later x xs y h)))

  pub has_joined : (xs : List X) (x : X) (y : Y) → Has xs x → Has (f x) y → Has (flat_map f xs) y
  has_joined [] x y h k = absurd (has_none x h)
  has_joined (z ∷ zs) x y h k =
      ⊎_elim
      (λ same. has_append_left (f z) (flat_map f zs) y (subst (λ (u : X). Has (f u) y) (sym same) k))
      (λ later. has_append_right (f z) (flat_map f zs) y (has_joined zs x y later k))
      (has_cons_cases z zs x h)

pub has_map : {X Y : Type 0} (f : X → Y) (xs : List X) (x : X) → Has xs x → Has (map f xs) (f x)
has_map f xs x h = all-has (λ y. Has (map f xs) (f y)) xs x (all_from_map f (Has (map f xs)) xs (all_has_itself (map f xs))) h

-- FINDING NONE

-- no interval passes the test where none is found that does
pub none_found : (test : ℕ → Interval → Bool) (at a : ℕ) (rs : List Record) → first_place test at a rs ≡ None → AllByRecursion (λ h. test h.0 h.1 ≡ false) (intervals_of a rs)
none_found test at a [] h = tt
none_found test at a (RecordKinds.Interval i ∷ rs) h =
    ⊎_elim
    (λ e. absurd (let f : Some at ≡ None = sym (ap place (cond-true (test a i) (Some first) _ e)) ∙ h in cc))
    (λ e. (e, none_found test (at + 10) a rs (sym (ap place (cond-false (test a i) (Some first) _ e)) ∙ h)))
    (cases_Bool (test a i))
  where
    first : FoundInterval
    first = record { offset = at; article = a; interval = i }

    place : Option FoundInterval → Option ℕ
    place o = option_map (λ s. s.offset) o
none_found test at a (r ∷ rs) h = none_found test (at + length (record_bytes r)) (article_after a r) rs h

-- A BLOCK OF RECORDS, AND THE REST

module _ {X Y : Type 0} (wrap : X → Record) (among : List Record → List Y) where
  passed_over : ((x : X) (rs : List Record) → among (wrap x ∷ rs) ≡ among rs) → (xs : List X) (rs : List Record) → among (map wrap xs ++ rs) ≡ among rs
  passed_over each [] rs = refl
  passed_over each (x ∷ xs) rs = each x (map wrap xs ++ rs) ∙ passed_over each xs rs

  taken_up : (f : X → Y) → ((x : X) (rs : List Record) → among (wrap x ∷ rs) ≡ f x ∷ among rs) → (xs : List X) (rs : List Record) → among (map wrap xs ++ rs) ≡ map f xs ++ among rs
  taken_up f each [] rs = refl
  taken_up f each (x ∷ xs) rs = each x (map wrap xs ++ rs) ∙ ap (λ l. f x ∷ l) (taken_up f each xs rs)

-- OF A WHOLE MESSAGE

sections_told : (a : ℕ) (ss : List Section) → intervals_of a (flat_map section_records ss) ≡ flat_map (λ s. map (λ i. (s.article, i)) s.intervals) ss
sections_told a [] = refl
sections_told a (s ∷ ss) =
    let rest = flat_map section_records ss in
    let actions = map RecordKinds.Action s.actions in
    ap (intervals_of s.article) (append_assoc (map RecordKinds.Interval s.intervals) actions rest) ∙ taken_up RecordKinds.Interval (intervals_of s.article) (λ i. (s.article, i)) (λ i rs. refl) s.intervals (actions ++ rest) ∙ ap (λ l. map (λ i. (s.article, i)) s.intervals ++ l) (passed_over RecordKinds.Action (intervals_of s.article) (λ x rs. refl) s.actions rest ∙ sections_told s.article ss)

sections_carried : (ss : List Section) → actions_of (flat_map section_records ss) ≡ flat_map (λ s. s.actions) ss
sections_carried [] = refl
sections_carried (s ∷ ss) =
    let rest = flat_map section_records ss in
    let actions = map RecordKinds.Action s.actions in
    ap actions_of (append_assoc (map RecordKinds.Interval s.intervals) actions rest) ∙ passed_over RecordKinds.Interval actions_of (λ i rs. refl) s.intervals (actions ++ rest) ∙ taken_up RecordKinds.Action actions_of (λ x. x) (λ x rs. refl) s.actions rest ∙ (λ k. map-id s.actions k ++ sections_carried ss k)

pub told_intervals_of : (a : ℕ) (m : Message) → intervals_of a (records m) ≡ told_intervals m
told_intervals_of a m = sections_told a m.sections

pub carried_of : (m : Message) → actions_of (records m) ≡ carried m
carried_of m = sections_carried m.sections

count_of : (rs : List Record) → count_by is_action rs ≡ length (actions_of rs)
count_of [] = refl
count_of (RecordKinds.Action x ∷ rs) = sum_by-cons (λ r. cond (is_action r) 1 0) (RecordKinds.Action x) rs ∙ omega (arith, count_of rs)
count_of (_ ∷ rs) = count_of rs

pub counted : (m : Message) → count_by is_action (records m) ≡ action_count m
counted m = count_of (records m) ∙ ap length (carried_of m) ∙ length-flat_map (λ s. s.actions) m.sections

-- OF A LAWFUL MESSAGE

module _ (kind : Meaning) (setup : Setup) (m : Message) (l : LawfulMessage kind setup m) where
  lawful_section_lem : (s : Section) → Has m.sections s → LawfulSection kind setup s
  lawful_section_lem s h = all-has (LawfulSection kind setup) m.sections s l.sections h

  pub told_intervals_lawful : AllByRecursion (λ h. (h.0 < setup.articles) × LawfulInterval setup h.1) (told_intervals m)
  told_intervals_lawful =
      all_joined (λ s. map (λ i. (s.article, i)) s.intervals) (λ h. (h.0 < setup.articles) × LawfulInterval setup h.1) m.sections (λ s h.
      let lawful = lawful_section_lem s h in
      All-map (λ h. (h.0 < setup.articles) × LawfulInterval setup h.1) (λ i. (s.article, i)) s.intervals (All-weaker (LawfulInterval setup) (λ i. (s.article < setup.articles) × LawfulInterval setup i) (λ i k. (lawful.listed, k)) s.intervals lawful.intervals))

  -- an action's section carries it lawfully
  pub carried_lawful : AllByRecursion (λ x. (s : Section) × LawfulSection kind setup s × LawfulAction kind s x) (carried m)
  carried_lawful =
      all_joined (λ s. s.actions) (λ x. (s : Section) × LawfulSection kind setup s × LawfulAction kind s x) m.sections (λ s h.
      let lawful = lawful_section_lem s h in
      All-weaker (LawfulAction kind s) (λ x. (s : Section) × LawfulSection kind setup s × LawfulAction kind s x) (λ x k. (s, lawful, k)) s.actions lawful.actions)

  -- an interval of the message carries it
  pub carried_within : AllByRecursion (λ x. (i : Interval) × Has (told_intervals m) (x.article, i) × Carries i x) (carried m)
  carried_within =
      all_joined (λ s. s.actions) (λ x. (i : Interval) × Has (told_intervals m) (x.article, i) × Carries i x) m.sections (λ s h.
      All-weaker (LawfulAction kind s) (λ x. (i : Interval) × Has (told_intervals m) (x.article, i) × Carries i x) (λ x k.
      let i = k.carried.0 in
      let on_it : Has (told_intervals m) (s.article, i) = has_joined (λ s. map (λ i. (s.article, i)) s.intervals) m.sections s (s.article, i) h (has_map (λ i. (s.article, i)) s.intervals i k.carried.1) in
      (i, subst (λ (a : ℕ). Has (told_intervals m) (a, i)) (sym k.on_article) on_it, k.carried.2)) s.actions (lawful_section_lem s h).actions)

sections_ranked : (kind : Meaning) (setup : Setup) (ss : List Section) → AllByRecursion (LawfulSection kind setup) ss → Rising (map (λ s. s.article) ss) → AllRanked (flat_map (λ s. s.actions) ss)
sections_ranked kind setup [] lawful rising = tt
sections_ranked kind setup (s ∷ ss) lawful rising =
    pairwise_append Ranked s.actions (flat_map (λ s. s.actions) ss) (ascending_ranked s.actions lawful.0.ordered) (sections_ranked kind setup ss lawful.1 rising.1) (All-weaker (LawfulAction kind s) (λ x. AllByRecursion (Ranked x) (flat_map (λ s. s.actions) ss)) (λ x here.
    All-weaker (λ y. s.article < y.article) (Ranked x) (λ y there. ranked_unless x y (λ _ _ same. omega (arith, same, here.on_article))) (flat_map (λ s. s.actions) ss) later) s.actions lawful.0.actions)
  where
    later : AllByRecursion (λ y. s.article < y.article) (flat_map (λ s. s.actions) ss)
    later =
        all_joined (λ s. s.actions) (λ y. s.article < y.article) ss (λ r h.
        let after : s.article < r.article = all-has (λ r. s.article < r.article) ss r (all_from_map (λ r. r.article) (λ a. s.article < a) ss rising.0) h in
        All-weaker (LawfulAction kind r) (λ y. s.article < y.article) (λ y k. omega (arith, k.on_article)) r.actions (all-has (LawfulSection kind setup) ss r lawful.1 h).actions)

-- no action is carried twice
pub carried_ranked : (kind : Meaning) (setup : Setup) (m : Message) → LawfulMessage kind setup m → AllRanked (carried m)
carried_ranked kind setup m l = sections_ranked kind setup m.sections l.sections l.rising
