-- The first of several records, and what its kind tells. Assumes nothing.
use Rattle.std.proofs.Common.{◌≡◌, Bool, true, false, cond, List, [], ◌∷◌, Some, None, Ok, Err, Result, fold, sym, refl, ◌∙◌}
use Rattle.std.specs.Result.{result_ok}
use Rattle.std.proofs.lemmas.Bool.{false≢true}
use Rattle.action.specs.declared.action.Action.{Action}
use Rattle.action.specs.declared.setup.Setup.{Setup}
use Rattle.kind.specs.Meaning.{Meaning}
use Rattle.message.specs.declared.reader_fault.UnplacedFault.{UnplacedFault}
use Rattle.message.specs.declared.reader_fault.UnplacedFault.TheVariants.{Foreign, Broken}
use Rattle.message.specs.declared.due.Due.{Due}
use Rattle.message.specs.declared.progress.Progress.{Progress}
use Rattle.message.specs.declared.record.Header.{Header}
use Rattle.message.specs.declared.record.Interval.{Interval}
use Rattle.message.specs.declared.record.SectionHead.{SectionHead}
use Rattle.message.specs.declared.record.Record.{Record}
use Rattle.message.specs.declared.record.Record.TheVariants as RecordKinds
use Rattle.message.specs.Progress.{admitted, after_action, after_header, after_interval, after_section, lawful_action, lawful_header, lawful_interval, lawful_section, named}
use Rattle.message.specs.Reading.{onward}
use Rattle.message.specs.Rules.{is_due}

pub some_same : {X : Type 0} (x y : X) → Some x ≡ Some y → x ≡ y
some_same x y h = cc

pub not_none : {X : Type 0} (x : X) → None ≡ Some x → ⊥
not_none x h = cc

-- what a test that gates a progress tells
pub passed : (b : Bool) (p q : Progress) → cond b (Ok p) (Err Broken) ≡ Ok q → (b ≡ true) × (p ≡ q)
passed true p q h = (refl, cc)
passed false p q h = cc

pub passed_twice : (a b : Bool) (p q : Progress) → cond a (cond b (Ok p) (Err Broken)) (Err Foreign) ≡ Ok q → (a ≡ true) × (b ≡ true) × (p ≡ q)
passed_twice true b p q h = let k = passed b p q h in (refl, k.0, k.1)
passed_twice false b p q h = cc

module _ (kind : Meaning) (setup : Setup) where
  -- nothing leads on from a refusal
  pub stuck : (rs : List Record) → fold (onward kind setup) None rs ≡ None
  stuck [] = refl
  stuck (r ∷ rs) = stuck rs

  -- where several records lead on, the first was due and passed, and the rest leads on from there
  pub record First (p e : Progress) (r : Record) (rs : List Record) : Type 0 where
    pub next : Progress
    pub was_due : is_due p.due r ≡ true
    pub passes : admitted kind setup p r ≡ Ok next
    pub onto : fold (onward kind setup) (Some next) rs ≡ Some e

  pub first_on : (p e : Progress) (r : Record) (rs : List Record) → fold (onward kind setup) (Some p) (r ∷ rs) ≡ Some e → First p e r rs
  first_on p e r rs h = by_cases (is_due p.due r) refl (admitted kind setup p r) refl h
    where
      by_cases : (b : Bool) → is_due p.due r ≡ b → (v : Result Progress UnplacedFault) → admitted kind setup p r ≡ v → fold (onward kind setup) (cond b (result_ok v) None) rs ≡ Some e → First p e r rs
      by_cases true is (Ok q) so h = record { next = q; was_due = is; passes = so; onto = h }
      by_cases true is (Err f) so h = absurd (not_none e (sym (stuck rs) ∙ h))
      by_cases false is v so h = absurd (not_none e (sym (stuck rs) ∙ h))

  module _ (p q : Progress) where
    pub header_on : (r : Record) → is_due Due.Header r ≡ true → admitted kind setup p r ≡ Ok q → (h : Header) × (r ≡ RecordKinds.Header h) × (named kind setup h ≡ true) × (lawful_header setup h ≡ true) × (q ≡ after_header p h)
    header_on (RecordKinds.Header h) is so = let k = passed_twice (named kind setup h) (lawful_header setup h) (after_header p h) q so in (h, refl, k.0, k.1, sym k.2)
    header_on _ is so = absurd (false≢true is)

    pub section_on : (r : Record) → is_due Due.Section r ≡ true → admitted kind setup p r ≡ Ok q → (s : SectionHead) × (r ≡ RecordKinds.Section s) × (lawful_section setup p s ≡ true) × (q ≡ after_section p s)
    section_on (RecordKinds.Section s) is so = let k = passed (lawful_section setup p s) (after_section p s) q so in (s, refl, k.0, sym k.1)
    section_on _ is so = absurd (false≢true is)

    pub interval_on : (r : Record) → is_due Due.Interval r ≡ true → admitted kind setup p r ≡ Ok q → (i : Interval) × (r ≡ RecordKinds.Interval i) × (lawful_interval setup p i ≡ true) × (q ≡ after_interval p i)
    interval_on (RecordKinds.Interval i) is so = let k = passed (lawful_interval setup p i) (after_interval p i) q so in (i, refl, k.0, sym k.1)
    interval_on _ is so = absurd (false≢true is)

    pub action_on : (r : Record) → is_due Due.Action r ≡ true → admitted kind setup p r ≡ Ok q → (x : Action) × (r ≡ RecordKinds.Action x) × (lawful_action kind p x ≡ true) × (q ≡ after_action p x)
    action_on (RecordKinds.Action x) is so = let k = passed (lawful_action kind p x) (after_action p x) q so in (x, refl, k.0, sym k.1)
    action_on _ is so = absurd (false≢true is)
