-- What a refused step tells of the rest of the bytes. Assumes nothing.
use Rattle.std.proofs.Common.{◌≡◌, ℕ, ◌<◌, ◌≤◌, Bool, true, false, cond, ◌⊎◌, List, [], length, get_or, drop, Some, None, Ok, Err, Option, Result, sym, refl, ap, ◌∙◌, subst, inl, inr, ⊎_elim, arith}
use Rattle.std.specs.Result.{result_ok}
use Rattle.std.proofs.lemmas.List.{nil_from_length}
use Rattle.std.proofs.lemmas.Bool.{eqb-false, eqb-true, false≢true}
use Rattle.action.specs.declared.setup.Setup.{Setup}
use Rattle.kind.specs.Meaning.{Meaning}
use Rattle.message.specs.declared.reader_fault.UnplacedFault.{UnplacedFault}
use Rattle.message.specs.declared.reader_fault.UnplacedFault.TheVariants.{Cut, Foreign, Broken, Trailing}
use Rattle.message.specs.declared.reader_fault.ReaderFault.{ReaderFault}
use Rattle.message.specs.declared.due.Due.{Due}
use Rattle.message.specs.declared.progress.Progress.{Progress}
use Rattle.message.specs.declared.record.Header.{Header}
use Rattle.message.specs.declared.record.Record.{Record}
use Rattle.message.specs.declared.record.Record.TheVariants as RecordKinds
use Rattle.message.specs.Checks.{StartsWith}
use Rattle.message.specs.Decoding.{decoded}
use Rattle.message.specs.Faults.{fault_at, shown}
use Rattle.message.specs.Fields.{Fitting}
use Rattle.message.specs.Format.{record_bytes}
use Rattle.message.specs.Progress.{admitted, after_header, lawful_header, named}
use Rattle.message.specs.Reading.{Step, judged, step, stepped}
use Rattle.message.specs.Rules.{is_due}
use Rattle.message.proofs.Decodings.{decoded_format}
use Rattle.message.proofs.Onward.{not_none}
use Rattle.message.proofs.Reasons.{ReasonAt, broken_at, cut_at, foreign_at, trailing_at}
use Rattle.message.proofs.Recoding.{whole_back}

-- WHAT IS DECODED

-- what a test between a record, or the end, and a fault tells
faulty : (b : Bool) (o : Option Record) (f g : UnplacedFault) → cond b (Ok o) (Err f) ≡ Err g → (b ≡ false) × (f ≡ g)
faulty true o f g h = cc
faulty false o f g h = (refl, cc)

faultless : (b : Bool) (o q : Option Record) (f : UnplacedFault) → cond b (Ok o) (Err f) ≡ Ok q → (b ≡ true) × (o ≡ q)
faultless true o q f h = (refl, cc)
faultless false o q f h = cc

module _ (bs : List ℕ) where
  pub finished_told : (d : Due) → decoded d bs ≡ Ok None → (d ≡ Due.End) × (bs ≡ [])
  finished_told Due.End h = (refl, nil_from_length bs (eqb-true _ _ (faultless _ _ _ _ h).0))
  finished_told _ h = absurd (not_none _ (sym (faultless _ _ _ _ h).1))

  -- where a record is due, the fault is that there is none; where the end is due, that bytes follow
  pub fault_told : (d : Due) (f : UnplacedFault) → decoded d bs ≡ Err f → (Cut ≡ f) ⊎ ((Trailing ≡ f) × (d ≡ Due.End) × (1 ≤ length bs))
  fault_told Due.End f h = let k = faulty _ _ _ _ h in let some : length bs ≡ 0 → ⊥ = eqb-false (length bs) 0 k.0 in inr (k.1, refl, omega arith)
  fault_told _ f h = inl (faulty _ _ _ _ h).1

  pub cut_told : (d : Due) → decoded d bs ≡ Err Cut → (d ≡ Due.End → ⊥) × ((r : Record) → is_due d r ≡ true → Fitting r → StartsWith bs r → ⊥)
  cut_told d h = (
    λ is. let z : Trailing ≡ Cut = (faulty _ _ _ _ (ap (λ x. decoded x bs) (sym is) ∙ h)).1 in cc,
    λ r was fits s. let z : ◌≡◌ {A = Result (Option Record) UnplacedFault} (Ok (Some r)) (Err Cut) = sym (decoded_format s.0 d r was fits) ∙ ap (decoded d) (sym s.1) ∙ h in cc,
  )

-- WHAT THE RULES SAY

-- what the tests of a header tell
header_faulty : (a b : Bool) (p : Progress) (f : UnplacedFault) → cond a (cond b (Ok p) (Err Broken)) (Err Foreign) ≡ Err f → ((a ≡ false) × (Foreign ≡ f)) ⊎ ((a ≡ true) × (Broken ≡ f))
header_faulty true true p f h = cc
header_faulty true false p f h = inr (refl, cc)
header_faulty false b p f h = inl (refl, cc)

-- and the test of any other record
other_faulty : (b : Bool) (p : Progress) (f : UnplacedFault) → cond b (Ok p) (Err Broken) ≡ Err f → Broken ≡ f
other_faulty true p f h = cc
other_faulty false p f h = cc

header_due : (d : Due) (h : Header) → is_due d (RecordKinds.Header h) ≡ true → d ≡ Due.Header
header_due Due.Header h is = refl
header_due _ h is = absurd (false≢true is)

module _ (kind : Meaning) (setup : Setup) where
  module _ (p : Progress) where
    -- a refused record is a header of another group or kind, or it breaks a rule and is no such header
    refused_told : (r : Record) (f : UnplacedFault) → is_due p.due r ≡ true → admitted kind setup p r ≡ Err f → ((Foreign ≡ f) × ((h : Header) × (r ≡ RecordKinds.Header h) × (p.due ≡ Due.Header) × (named kind setup h ≡ false))) ⊎ ((Broken ≡ f) × ((h : Header) → r ≡ RecordKinds.Header h → named kind setup h ≡ true))
    refused_told (RecordKinds.Header h) f is so =
        ⊎_elim
        (λ k. inl (k.1, (h, refl, header_due p.due h is, k.0)))
        (λ k. inr (k.1, λ g same. let e : h ≡ g = cc in ap (named kind setup) (sym e) ∙ k.0))
        (header_faulty (named kind setup h) (lawful_header setup h) (after_header p h) f so)
    refused_told _ f is so = inr (other_faulty _ _ f so, λ h same. cc)

    -- a step that is refused has one of the four reasons
    pub reason : (at : ℕ) (rest : List ℕ) (why : ReaderFault) → ((i : ℕ) → get_or rest i 0 < 256) → step kind setup p at rest ≡ Err why → ReasonAt kind setup p at rest (shown why)
    reason at rest why bytes h = by_decoded (decoded p.due rest) refl h
      where
        why_is : (f g : UnplacedFault) → f ≡ g → ◌≡◌ {A = Step} (Err (fault_at at g)) (Err why) → shown why ≡ shown (fault_at at f)
        why_is f g is e = let same : why ≡ fault_at at g = cc in ap shown (same ∙ ap (fault_at at) (sym is))

        by_verdict : (r : Record) → decoded p.due rest ≡ Ok (Some r) → (v : Result Progress UnplacedFault) → admitted kind setup p r ≡ v → judged at r v ≡ Err why → ReasonAt kind setup p at rest (shown why)
        by_verdict r is (Ok q) so e = cc
        by_verdict r is (Err f) so e =
            let back = whole_back rest bytes p.due r is in
            ⊎_elim
            (λ k. foreign_at (record { is = why_is Foreign f k.0 e; first = k.1.2; header = k.1.0; fitting = subst Fitting k.1.1 back.1; starts = subst (StartsWith rest) k.1.1 (drop (length (record_bytes r)) rest, back.2); other = k.1.3 }))
            (λ k. broken_at (record { is = why_is Broken f k.0 e; breaks = r; was_due = back.0; fitting = back.1; starts = (drop (length (record_bytes r)) rest, back.2); ours = k.1; stops = ap (λ b. cond b (result_ok (admitted kind setup p r)) None) back.0 ∙ ap result_ok so }))
            (refused_told r f back.0 so)

        by_decoded : (d : Result (Option Record) UnplacedFault) → decoded p.due rest ≡ d → stepped kind setup p at d ≡ Err why → ReasonAt kind setup p at rest (shown why)
        by_decoded (Ok (Some r)) is e = by_verdict r is (admitted kind setup p r) refl e
        by_decoded (Ok None) is e = cc
        by_decoded (Err f) is e =
            ⊎_elim
            (λ k. let t = cut_told rest p.due (is ∙ ap Err (sym k)) in cut_at (record { is = why_is Cut f k e; not_ended = t.0; none = t.1 }))
            (λ k. trailing_at (record { is = why_is Trailing f k.0 e; ended = k.1; more = k.2 }))
            (fault_told rest p.due f is)

    -- a step that ended had the end due, and no bytes left
    pub ended_told : (at : ℕ) (rest : List ℕ) → step kind setup p at rest ≡ Ok None → (p.due ≡ Due.End) × (rest ≡ [])
    ended_told at rest h = finished_told rest p.due (by_decoded (decoded p.due rest) h)
      where
        by_verdict : (r : Record) (v : Result Progress UnplacedFault) → judged at r v ≡ Ok None → (◌≡◌ {A = Result (Option Record) UnplacedFault} (Ok (Some r)) (Ok None))
        by_verdict r (Ok q) e = cc
        by_verdict r (Err f) e = cc

        by_decoded : (d : Result (Option Record) UnplacedFault) → stepped kind setup p at d ≡ Ok None → d ≡ Ok None
        by_decoded (Ok (Some r)) e = by_verdict r (admitted kind setup p r) e
        by_decoded (Ok None) e = refl
        by_decoded (Err f) e = cc
