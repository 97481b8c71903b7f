-- What reading leads to, in words of the format: records that are read follow each other, and a refusal is by the
-- records before. Assumes nothing.
use Rattle.std.proofs.Common.{◌≡◌, ℕ, ◌-◌, ◌≤◌, true, cond, ltb, List, [], ◌∷◌, ◌++◌, Some, None, Ok, Err, Result, fold, sym, refl, ap, ◌∙◌, subst, arith}
use Rattle.std.specs.Result.{result_ok}
use Rattle.std.proofs.lemmas.List.{append_assoc, append-nil}
use Rattle.std.proofs.lemmas.Bool.{cond-true, false≢true, false_from_ne_true, lt-ltb}
use Rattle.action.specs.declared.refusal.Refusal.{Refusal}
use Rattle.action.specs.declared.setup.Setup.{Setup}
use Rattle.kind.specs.Meaning.{Meaning}
use Rattle.message.specs.declared.reader_fault.UnplacedFault.{UnplacedFault}
use Rattle.message.specs.declared.reader_fault.UnplacedFault.TheVariants.{Broken as BrokenFault, Foreign as ForeignFault}
use Rattle.message.specs.declared.reader_fault.ReaderFault.{ReaderFault}
use Rattle.message.specs.declared.due.Due.TheVariants as Due
use Rattle.message.specs.declared.progress.Progress.{Progress}
use Rattle.message.specs.declared.record.Header.{Header}
use Rattle.message.specs.declared.record.Record.{Record}
use Rattle.message.specs.declared.record.Record.TheVariants as RecordKinds
use Rattle.message.specs.Checks.{Reason, Refused, broken, cut, foreign, offset, trailing}
use Rattle.message.specs.Faults.{shown}
use Rattle.message.specs.Progress.{admitted, after_action, after_header, after_interval, after_section, due_after, lawful_action, lawful_header, lawful_interval, lawful_section, named, start}
use Rattle.message.specs.Reading.{onward, reading}
use Rattle.message.specs.Rules.{Follows, InTurn, Keeps, LawfulHeader, Ours, due_next, is_due}
use Rattle.message.proofs.Messages.{header_passes, header_told, names_pass, names_told}
use Rattle.message.proofs.Onward.{first_on, not_none, passed, passed_twice, some_same}
use Rattle.message.proofs.Reasons.{ReasonAt, StopsAt, broken_at, cut_at, foreign_at, trailing_at}
use Rattle.message.proofs.SectionActions.{Fair, action_passes, action_told}
use Rattle.message.proofs.SectionIntervals.{interval_passes, interval_told}
use Rattle.message.proofs.Sections.{head_passes, head_told}
use Rattle.message.proofs.Steps.{onward_passes}
use Rattle.message.proofs.Telling.{Tells, action_more, action_tells, head_more, header_first, header_tells, interval_more, interval_tells, intervals_there, section_tells, so_far, tells_more, told_none}

module _ (kind : Meaning) (setup : Setup) where
  -- ONE RECORD

  was_due : (p : Progress) (before : List Record) (r : Record) → Tells p before → is_due p.due r ≡ true → is_due (due_next before) r ≡ true
  was_due p before r t is = ap (λ d. is_due d r) (sym t.due) ∙ is

  is_due_now : (p : Progress) (before : List Record) (r : Record) → Tells p before → is_due (due_next before) r ≡ true → is_due p.due r ≡ true
  is_due_now p before r t is = ap (λ d. is_due d r) t.due ∙ is

  module _ (p q : Progress) where
    -- a record that is due and admitted follows, and the progress after it tells of it too
    pub admitted_follows : (before : List Record) (r : Record) → Tells p before → is_due p.due r ≡ true → admitted kind setup p r ≡ Ok q → Follows kind setup before r × Tells q (before ++ (r ∷ []))
    admitted_follows before (RecordKinds.Header h) t is so = at before t (header_first before h (was_due p before (RecordKinds.Header h) t is))
      where
        k : (named kind setup h ≡ true) × (lawful_header setup h ≡ true) × (after_header p h ≡ q)
        k = passed_twice (named kind setup h) (lawful_header setup h) (after_header p h) q so

        told : LawfulHeader setup h
        told = header_told setup h k.1

        at : (before : List Record) → Tells p before → before ≡ [] → Follows kind setup before (RecordKinds.Header h) × Tells q (before ++ (RecordKinds.Header h ∷ []))
        at [] t none = (
          record { was_due = refl; ours = names_told kind setup h k.0; keeps = told },
          subst (λ n. Tells n (RecordKinds.Header h ∷ [])) k.2 (record {
            due = sym (cond-true (ltb 0 h.sections) Due.Section Due.End (lt-ltb 0 h.sections told.some));
            told = header_tells p h t.told;
          }),
        )
        at (_ ∷ _) t none = cc
    admitted_follows before (RecordKinds.Section s) t is so =
        let k = passed (lawful_section setup p s) (after_section p s) q so in
        let told = head_told setup p s k.0 in (
          record {
            was_due = was_due p before (RecordKinds.Section s) t is;
            ours = tt;
            keeps = record { listed = told.listed; rising = (t.told.articles s.article).0 told.least; some = told.some; few = told.few };
          },
          subst (λ n. Tells n (before ++ (RecordKinds.Section s ∷ []))) k.1 (tells_more (after_section p s) before (RecordKinds.Section s) _ (head_more before s) (section_tells p (so_far before) t.told s told.least) refl),
        )
    admitted_follows before (RecordKinds.Interval i) t is so =
        let k = passed (lawful_interval setup p i) (after_interval p i) q so in
        let told = interval_told setup p i k.0 in (
          record {
            was_due = was_due p before (RecordKinds.Interval i) t is;
            ours = tt;
            keeps = record { lawful = told.0; rising = (t.told.sites i.site).0 told.1 };
          },
          subst (λ n. Tells n (before ++ (RecordKinds.Interval i ∷ []))) k.1 (tells_more (after_interval p i) before (RecordKinds.Interval i) _ (interval_more before i) (interval_tells p (so_far before) t.told i told.1 (omega (arith, told.0.of_group, setup.few_sites))) refl),
        )
    admitted_follows before (RecordKinds.Action x) t is so =
        let k = passed (lawful_action kind p x) (after_action p x) q so in
        let told = action_told kind p x k.0 in
        let fair = told.0 in
        let some : 1 ≤ x.time = omega (arith, fair.begun, fair.in_turn) in
        let was = was_due p before (RecordKinds.Action x) t is in
        let none : p.intervals ≡ 0 = omega (arith, t.told.intervals, intervals_there before x was) in (
          record {
            was_due = was;
            ours = tt;
            keeps = record {
              on_article = fair.on_article ∙ t.told.article;
              carried = (t.told.spans x.coordinator x.time).0 fair.in_span;
              ordered = (t.told.last x some).0 told.1;
              begun = fair.begun;
              in_turn = fair.in_turn;
              known = fair.known;
            };
          },
          subst (λ n. Tells n (before ++ (RecordKinds.Action x ∷ []))) k.1 (tells_more (after_action p x) before (RecordKinds.Action x) _ (action_more before x) (action_tells p (so_far before) t.told x some told.1) (ap (λ n. due_after n (p.actions - 1) p.sections) (sym none))),
        )

  -- and the other way round
  pub follows_admitted : (p : Progress) (before : List Record) (r : Record) → Tells p before → Ours kind setup r → Keeps kind setup before r → (q : Progress) × (admitted kind setup p r ≡ Ok q)
  follows_admitted p before (RecordKinds.Header h) t ours keeps =
      (after_header p h, cond-true (named kind setup h) (cond (lawful_header setup h) (Ok (after_header p h)) (Err BrokenFault)) (Err ForeignFault) (names_pass kind setup h ours) ∙ cond-true (lawful_header setup h) (Ok (after_header p h)) (Err BrokenFault) (header_passes setup h keeps))
  follows_admitted p before (RecordKinds.Section s) t ours keeps =
      let passes = head_passes setup p s (record { least = (t.told.articles s.article).1 keeps.rising; listed = keeps.listed; some = keeps.some; few = keeps.few }) in
      (after_section p s, cond-true (lawful_section setup p s) (Ok (after_section p s)) (Err BrokenFault) passes)
  follows_admitted p before (RecordKinds.Interval i) t ours keeps =
      let passes = interval_passes setup p i keeps.lawful ((t.told.sites i.site).1 keeps.rising) in
      (after_interval p i, cond-true (lawful_interval setup p i) (Ok (after_interval p i)) (Err BrokenFault) passes)
  follows_admitted p before (RecordKinds.Action x) t ours keeps =
      let some : 1 ≤ x.time = omega (arith, keeps.begun, keeps.in_turn) in
      let fair : Fair kind p.article p.spans x = assumption (keeps.on_article ∙ sym t.told.article, (t.told.spans x.coordinator x.time).1 keeps.carried) in
      let passes = action_passes kind p x fair ((t.told.last x some).1 keeps.ordered) in
      (after_action p x, cond-true (lawful_action kind p x) (Ok (after_action p x)) (Err BrokenFault) passes)

  -- LISTS

  start_tells : Tells start []
  start_tells = record { due = refl; told = told_none }

  read_in_turn : (p e : Progress) (before rs : List Record) → Tells p before → fold (onward kind setup) (Some p) rs ≡ Some e → InTurn kind setup before rs × Tells e (before ++ rs)
  read_in_turn p e before [] t h = (tt, subst (λ n. Tells n (before ++ [])) (some_same p e h) (subst (Tells p) (sym (append-nil before)) t))
  read_in_turn p e before (r ∷ rs) t h =
      let f = first_on kind setup p e r rs h in
      let one = admitted_follows p f.next before r t f.was_due f.passes in
      let more = read_in_turn f.next e (before ++ (r ∷ [])) rs one.1 f.onto in
      ((one.0, more.0), subst (Tells e) (append_assoc before (r ∷ []) rs) more.1)

  in_turn_read : (p : Progress) (before rs : List Record) → Tells p before → InTurn kind setup before rs → (e : Progress) × (fold (onward kind setup) (Some p) rs ≡ Some e)
  in_turn_read p before [] t h = (p, refl)
  in_turn_read p before (r ∷ rs) t (f, fs) =
      let one = follows_admitted p before r t f.ours f.keeps in
      let is = is_due_now p before r t f.was_due in
      let more = in_turn_read one.0 (before ++ (r ∷ [])) rs (admitted_follows p one.0 before r t is one.1).1 fs in
      (more.0, ap (λ o. fold (onward kind setup) o rs) (onward_passes kind setup p one.0 r is one.1) ∙ more.1)

  -- the records that are read are those in turn
  pub reading_in_turn : (rs : List Record) (p : Progress) → reading kind setup rs ≡ Some p → InTurn kind setup [] rs × Tells p rs
  reading_in_turn rs p h = read_in_turn start p [] rs start_tells h

  pub in_turn_reading : (rs : List Record) → InTurn kind setup [] rs → (p : Progress) × (reading kind setup rs ≡ Some p)
  in_turn_reading rs h = in_turn_read start [] rs start_tells h

  -- REFUSALS

  -- a header's name by its test
  ours_told : (r : Record) → ((h : Header) → r ≡ RecordKinds.Header h → named kind setup h ≡ true) → Ours kind setup r
  ours_told (RecordKinds.Header h) each = names_told kind setup h (each h refl)
  ours_told _ each = tt

  ours_passes : (r : Record) → Ours kind setup r → (h : Header) → r ≡ RecordKinds.Header h → named kind setup h ≡ true
  ours_passes r ours h same = let n = subst (Ours kind setup) same ours in names_pass kind setup h n

  module _ (p : Progress) (rs : List Record) (t : Tells p rs) (rest : List ℕ) (why : Refusal) where
    reason_told : ReasonAt kind setup p (offset rs) rest why → Reason kind setup rs rest why
    reason_told (cut_at n) = cut (record {
      is = n.is;
      not_ended = λ end. n.not_ended (t.due ∙ end);
      none = λ r was. n.none r (is_due_now p rs r t was);
    })
    reason_told (foreign_at o) = foreign (record {
      is = o.is;
      first = header_first rs o.header (ap (λ d. is_due d (RecordKinds.Header o.header)) (sym t.due ∙ o.first));
      header = o.header;
      fitting = o.fitting;
      starts = o.starts;
      other = λ n. false≢true (sym o.other ∙ names_pass kind setup o.header n);
    })
    reason_told (broken_at b) =
        let ours = ours_told b.breaks b.ours in
        broken (record {
          is = b.is;
          breaks = b.breaks;
          was_due = was_due p rs b.breaks t b.was_due;
          fitting = b.fitting;
          starts = b.starts;
          ours = ours;
          broken = λ keeps. let on = follows_admitted p rs b.breaks t ours keeps in not_none on.0 (sym b.stops ∙ onward_passes kind setup p on.0 b.breaks b.was_due on.1);
        })
    reason_told (trailing_at f) = trailing (record { is = f.is; ended = sym t.due ∙ f.ended; more = f.more })

    reason_found : Reason kind setup rs rest why → ReasonAt kind setup p (offset rs) rest why
    reason_found (cut n) = cut_at (record {
      is = n.is;
      not_ended = λ end. n.not_ended (sym t.due ∙ end);
      none = λ r was. n.none r (was_due p rs r t was);
    })
    reason_found (foreign o) = foreign_at (record {
      is = o.is;
      first = t.due ∙ ap due_next o.first;
      header = o.header;
      fitting = o.fitting;
      starts = o.starts;
      other = false_from_ne_true _ (λ n. o.other (names_told kind setup o.header n));
    })
    reason_found (broken b) =
        let is = is_due_now p rs b.breaks t b.was_due in
        broken_at (record {
          is = b.is;
          breaks = b.breaks;
          was_due = is;
          fitting = b.fitting;
          starts = b.starts;
          ours = ours_passes b.breaks b.ours;
          stops = ap (λ u. cond u (result_ok (admitted kind setup p b.breaks)) None) is ∙ stops (admitted kind setup p b.breaks) refl;
        })
      where
        stops : (v : Result Progress UnplacedFault) → admitted kind setup p b.breaks ≡ v → result_ok v ≡ None
        stops (Ok q) so = absurd (b.broken (admitted_follows p q rs b.breaks t (is_due_now p rs b.breaks t b.was_due) so).0.keeps)
        stops (Err f) so = refl
    reason_found (trailing f) = trailing_at (record { is = f.is; ended = t.due ∙ f.ended; more = f.more })

  module _ (bytes : List ℕ) (e : ReaderFault) where
    pub stops_refused : StopsAt kind setup bytes e → Refused kind setup bytes (Err e)
    stops_refused (rs, p, rest, read, why) =
        let t = reading_in_turn rs p read.lawful in
        (rs, rest, record { lawful = t.0; fitting = read.fitting; front = read.front }, reason_told p rs t.1 rest (shown e) why)

    pub refused_stops : Refused kind setup bytes (Err e) → StopsAt kind setup bytes e
    refused_stops (rs, rest, begun, why) =
        let read = in_turn_reading rs begun.lawful in
        let t = reading_in_turn rs read.0 read.1 in
        (rs, read.0, rest, record { lawful = read.1; fitting = begun.fitting; front = begun.front }, reason_found read.0 rs t.1 rest (shown e) why)
