-- A message is known by its records, and those of a lawful one fit their bytes. Assumes nothing.
use Rattle.std.proofs.Common.{◌≡◌, ◌≤◌, List, [], ◌∷◌, ◌++◌, map, length, sym, refl, ap, ◌∙◌, arith}
use Rattle.std.specs.List.{flat_map, AllByRecursion}
use Rattle.std.proofs.ByRecursion.{All-append, all-has, All-map, All-weaker}
use Rattle.std.proofs.lemmas.List.{append_assoc}
use Rattle.action.specs.declared.action.Action.{Action}
use Rattle.action.specs.declared.setup.Setup.{Setup}
use Rattle.kind.specs.Meaning.{Meaning}
use Rattle.message.specs.declared.record.Interval.{Interval}
use Rattle.message.specs.declared.record.Record.{Record}
use Rattle.message.specs.declared.record.Record.TheVariants as RecordKinds
use Rattle.message.specs.Fields.{ActionFits, Fitting, HeaderFits, IntervalFits, SectionFits}
use Rattle.message.specs.Format.{Message, Section, head_of, header_of, records, section_records}
use Rattle.message.specs.Lawful.{LawfulAction, LawfulInterval, LawfulMessage, LawfulSection}

-- a block of records, and what follows it
block_same : {X : Type 0} (wrap : X → Record) → ((x y : X) → wrap x ≡ wrap y → x ≡ y) → (xs ys : List X) (rs qs : List Record) → length xs ≡ length ys → map wrap xs ++ rs ≡ map wrap ys ++ qs → (xs ≡ ys) × (rs ≡ qs)
block_same wrap one [] [] rs qs many same = (refl, same)
block_same wrap one [] (y ∷ ys) rs qs many same = absurd (omega arith)
block_same wrap one (x ∷ xs) [] rs qs many same = absurd (omega arith)
block_same wrap one (x ∷ xs) (y ∷ ys) rs qs many same =
    let head : wrap x ≡ wrap y = cc in
    let tail : map wrap xs ++ rs ≡ map wrap ys ++ qs = cc in
    let more = block_same wrap one xs ys rs qs (omega arith) tail in
    (λ i. one x y head i ∷ more.0 i, more.1)

-- MESSAGES BY THEIR RECORDS

interval_same : (i j : Interval) → RecordKinds.Interval i ≡ RecordKinds.Interval j → i ≡ j
interval_same i j h = cc

action_same : (x y : Action) → RecordKinds.Action x ≡ RecordKinds.Action y → x ≡ y
action_same x y h = cc

section_same : (s t : Section) (rs qs : List Record) → section_records s ++ rs ≡ section_records t ++ qs → (s ≡ t) × (rs ≡ qs)
section_same s t rs qs same =
    let head : head_of s ≡ head_of t = cc in
    let body : (map RecordKinds.Interval s.intervals ++ map RecordKinds.Action s.actions) ++ rs ≡ (map RecordKinds.Interval t.intervals ++ map RecordKinds.Action t.actions) ++ qs = cc in
    let blocks = sym (append_assoc (map RecordKinds.Interval s.intervals) (map RecordKinds.Action s.actions) rs) ∙ body ∙ append_assoc (map RecordKinds.Interval t.intervals) (map RecordKinds.Action t.actions) qs in
    let is = block_same RecordKinds.Interval interval_same s.intervals t.intervals (map RecordKinds.Action s.actions ++ rs) (map RecordKinds.Action t.actions ++ qs) (ap (λ h. h.intervals) head) blocks in
    let xs = block_same RecordKinds.Action action_same s.actions t.actions rs qs (ap (λ h. h.actions) head) is.1 in
    (λ i. record { article = (head i).article; intervals = is.0 i; actions = xs.0 i }, xs.1)

sections_same : (ss ts : List Section) → flat_map section_records ss ≡ flat_map section_records ts → ss ≡ ts
sections_same [] [] same = refl
sections_same [] (t ∷ ts) same = cc
sections_same (s ∷ ss) [] same = cc
sections_same (s ∷ ss) (t ∷ ts) same =
    let both = section_same s t (flat_map section_records ss) (flat_map section_records ts) same in
    λ i. both.0 i ∷ sections_same ss ts both.1 i

pub records_same : (m n : Message) → records m ≡ records n → m ≡ n
records_same m n same =
    let head : header_of m ≡ header_of n = cc in
    let body : flat_map section_records m.sections ≡ flat_map section_records n.sections = cc in
    let ss = sections_same m.sections n.sections body in
    λ i. record { group = (head i).group; kind = (head i).kind; sender = (head i).sender; sections = ss i }

-- LAWFUL MESSAGES FIT

module _ (kind : Meaning) (setup : Setup) where
  interval_fits : (i : Interval) → LawfulInterval setup i → IntervalFits i
  interval_fits i l =
      record { site = omega (arith, l.of_group, setup.few_sites); from = omega (arith, l.forward, l.in_time); to = omega (arith, l.in_time) }

  action_fits : (s : Section) → LawfulSection kind setup s → (x : Action) → LawfulAction kind s x → ActionFits x
  action_fits s l x a =
      let i = a.carried.0 in
      let of_group = all-has (LawfulInterval setup) s.intervals i l.intervals a.carried.1 in
      let carries = a.carried.2 in
      record {
        coordinator = omega (arith, carries.0, of_group.of_group, setup.few_sites);
        time = omega (arith, carries.2, of_group.in_time);
        transaction = omega (arith, a.in_turn, carries.2, of_group.in_time);
        article = omega (arith, a.on_article, l.listed, setup.few_articles);
        operation = a.one_byte;
        amount = a.four_bytes;
      }

  section_fits : (s : Section) → LawfulSection kind setup s → AllByRecursion Fitting (section_records s)
  section_fits s l =
      let head : SectionFits (head_of s) = record { article = omega (arith, l.listed, setup.few_articles); intervals = omega (arith, l.few, setup.few_sites); actions = l.counted } in
      let is = All-map Fitting RecordKinds.Interval s.intervals (All-weaker (LawfulInterval setup) IntervalFits interval_fits s.intervals l.intervals) in
      let xs = All-map Fitting RecordKinds.Action s.actions (All-weaker (LawfulAction kind s) ActionFits (action_fits s l) s.actions l.actions) in
      (head, All-append Fitting (map RecordKinds.Interval s.intervals) (map RecordKinds.Action s.actions) is xs)

  sections_fit : (ss : List Section) → AllByRecursion (LawfulSection kind setup) ss → AllByRecursion Fitting (flat_map section_records ss)
  sections_fit [] l = tt
  sections_fit (s ∷ ss) l = All-append Fitting (section_records s) (flat_map section_records ss) (section_fits s l.0) (sections_fit ss l.1)

  pub lawful_fits : kind.number ≤ 255 → (m : Message) → LawfulMessage kind setup m → AllByRecursion Fitting (records m)
  lawful_fits small m l =
      let head : HeaderFits (header_of m) = record { group = omega (arith, l.of_group, setup.group_fits); kind = omega (arith, l.of_kind); sender = omega (arith, l.sent, setup.few_sites); sections = omega (arith, l.few) } in
      (head, sections_fit m.sections l.sections)
