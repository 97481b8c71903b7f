-- Whole messages: their records are read to the end exactly where they are lawful. Assumes nothing.
use Rattle.std.proofs.Common.{◌≡◌, ◌≤◌, true, cond, ◌&&◌, eqb, leb, List, [], ◌∷◌, ◌++◌, Some, Ok, Err, fold, sym, refl, ap, ◌∙◌, subst, arith}
use Rattle.std.specs.List.{flat_map, AllByRecursion}
use Rattle.std.proofs.ByRecursion.{All-weaker}
use Rattle.std.proofs.lemmas.List.{append-nil}
use Rattle.std.proofs.lemmas.Bool.{and_from, and_parts, cond-true, eq-eqb, eqb-true, false≢true, le-leb, leb-true, lt-ltb, ltb-true}
use Rattle.action.specs.declared.setup.Setup.{Setup}
use Rattle.kind.specs.Meaning.{Meaning}
use Rattle.message.specs.declared.due.Due.{Due}
use Rattle.message.specs.declared.progress.Progress.{Progress}
use Rattle.message.specs.declared.reader_fault.UnplacedFault.TheVariants.{Foreign, Broken}
use Rattle.message.specs.declared.record.Header.{Header}
use Rattle.message.specs.declared.record.Record.{Record}
use Rattle.message.specs.declared.record.Record.TheVariants as RecordKinds
use Rattle.message.specs.Fields.{Fitting}
use Rattle.message.specs.Format.{Message, header_of, records, section_records}
use Rattle.message.specs.Lawful.{LawfulMessage, LawfulSection}
use Rattle.message.specs.Progress.{after_header, lawful_header, named, start}
use Rattle.message.specs.Reading.{onward, reading}
use Rattle.message.specs.Rules.{LawfulHeader, Names, is_due}
use Rattle.message.proofs.Onward.{first_on, header_on}
use Rattle.message.proofs.Parts.{Part, RunOf, due_first, followed_by, many, one, put_together, sections_due}
use Rattle.message.proofs.Sections.{SectionPasses, after_all, section_part, sections_left, sections_pass, sections_lawful}

-- THE HEADER

-- what the tests of a header ask
pub names_told : (kind : Meaning) (setup : Setup) (h : Header) → named kind setup h ≡ true → Names kind setup h
names_told kind setup h is = let a = and_parts (eqb h.group setup.group) _ is in (eqb-true _ _ a.0, eqb-true _ _ a.1)

pub names_pass : (kind : Meaning) (setup : Setup) (h : Header) → Names kind setup h → named kind setup h ≡ true
names_pass kind setup h n = and_from _ _ (eq-eqb _ _ n.0) (eq-eqb _ _ n.1)

pub header_told : (setup : Setup) (h : Header) → lawful_header setup h ≡ true → LawfulHeader setup h
header_told setup h is =
    let a = and_parts (leb 1 h.sections && leb h.sections 16) _ is in
    let b = and_parts (leb 1 h.sections) _ a.0 in
    record { some = leb-true _ _ b.0; few = leb-true _ _ b.1; sent = ltb-true _ _ a.1 }

pub header_passes : (setup : Setup) (h : Header) → LawfulHeader setup h → lawful_header setup h ≡ true
header_passes setup h l = and_from _ _ (and_from _ _ (le-leb _ _ l.some) (le-leb _ _ l.few)) (lt-ltb _ _ l.sent)

-- THE PARTS OF A MESSAGE

abbrev pub HeaderPasses : Meaning → Setup → Progress → Header → Type 0
HeaderPasses kind setup p h = (named kind setup h ≡ true) × (lawful_header setup h ≡ true)

abbrev pub after_message : Progress → Message → Progress
after_message p m = fold after_all (after_header p (header_of m)) m.sections

-- its header passes, then its sections
abbrev pub MessagePasses : Meaning → Setup → Progress → Message → Type 0
MessagePasses kind setup p m = HeaderPasses kind setup p (header_of m) × RunOf (SectionPasses kind setup) after_all (λ q. q.sections) (after_header p (header_of m)) m.sections

module _ (kind : Meaning) (setup : Setup) where
  header_part : Part kind setup (λ h. RecordKinds.Header h ∷ []) (HeaderPasses kind setup) after_header (λ _. Due.Header) sections_due
  header_part =
      one kind setup RecordKinds.Header (HeaderPasses kind setup) after_header Due.Header sections_due (λ end. cc) (λ h. refl) (λ p q r is so.
      let t = header_on kind setup p q r is so in
      (t.0, t.1, (t.2, t.3), t.4)) (λ p h tests. cond-true (named kind setup h) (cond (lawful_header setup h) (Ok (after_header p h)) (Err Broken)) (Err Foreign) tests.0 ∙ cond-true (lawful_header setup h) (Ok (after_header p h)) (Err Broken) tests.1) (λ p h tests. sym (due_first h.sections _ _ (header_told setup h tests.1).some))

  sections_part : Part kind setup (flat_map section_records) (RunOf (SectionPasses kind setup) after_all (λ p. p.sections)) (fold after_all) sections_due (λ _. Due.End)
  sections_part = many kind setup (λ p. p.sections) Due.Section (λ _. Due.End) (section_part kind setup) sections_left

  message_part : Part kind setup records (MessagePasses kind setup) after_message (λ _. Due.Header) (λ _. Due.End)
  message_part =
      put_together kind setup (followed_by kind setup header_part sections_part) (λ m. (header_of m, m.sections)) records (λ m. refl) (λ p t passes.
      let h = t.0 in
      let m : Message = record { group = h.group; kind = h.kind; sender = h.sender; sections = t.1 } in
      let same : header_of m ≡ h = λ k. record { group = h.group; kind = h.kind; sender = h.sender; sections = passes.1.0 k } in
      (m, ap (λ g. (g, t.1)) (sym same)))

  -- WHAT IS READ, AND LAWFUL

  -- nothing is read where the end is due
  none_more : (p e : Progress) (rs : List Record) → p.due ≡ Due.End → fold (onward kind setup) (Some p) rs ≡ Some e → rs ≡ []
  none_more p e [] is h = refl
  none_more p e (r ∷ rs) is h = let f = first_on kind setup p e r rs h in absurd (false≢true (ap (λ d. is_due d r) (sym is) ∙ f.was_due))

  -- records that are read to the end are those of a lawful message
  pub reads_lawful : (rs : List Record) (e : Progress) → reading kind setup rs ≡ Some e → AllByRecursion Fitting rs → e.due ≡ Due.End → (m : Message) × LawfulMessage kind setup m × (records m ≡ rs)
  reads_lawful rs e read fits end =
      let t = message_part.takes start e rs refl read end in
      let m = t.part in
      let none = none_more (after_message start m) e t.rest (message_part.ready start m refl t.passes) t.onto in
      let same : rs ≡ records m = t.front ∙ ap (λ l. records m ++ l) none ∙ append-nil (records m) in
      let names = names_told kind setup (header_of m) t.passes.0.0 in
      let told = header_told setup (header_of m) t.passes.0.1 in
      let ss = sections_lawful kind setup (after_header start (header_of m)) m.sections t.passes.1.1 (subst (AllByRecursion Fitting) same fits).1 in (
        m,
        record { of_group = names.0; of_kind = names.1; sent = told.sent; some = told.some; few = told.few; sections = ss.0; rising = ss.1 },
        sym same,
      )

  -- and the other way round
  pub lawful_reads : (m : Message) → LawfulMessage kind setup m → (e : Progress) × (reading kind setup (records m) ≡ Some e) × (e.due ≡ Due.End)
  lawful_reads m l =
      let tests : HeaderPasses kind setup start (header_of m) = (names_pass kind setup (header_of m) (l.of_group, l.of_kind), header_passes setup (header_of m) (record { some = l.some; few = l.few; sent = l.sent })) in
      let run = sections_pass kind setup (after_header start (header_of m)) m.sections l.sections (All-weaker (LawfulSection kind setup) (λ s. 0 ≤ s.article) (λ s k. omega arith) m.sections l.sections) l.rising in
      let passes : MessagePasses kind setup start m = (tests, (refl, run)) in
      (after_message start m, message_part.leads start m refl passes, message_part.ready start m refl passes)
