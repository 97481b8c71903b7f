-- Lawful beginnings of the same bytes: of two, one begins the other. Assumes nothing.
use Rattle.std.proofs.Common.{◌≡◌, ℕ, true, ◌⊎◌, List, [], ◌∷◌, ◌++◌, length, Some, Ok, Option, Result, fold, sym, refl, ap, ◌∙◌, subst, inl, inr, arith}
use Rattle.std.specs.List.{flat_map, AllByRecursion}
use Rattle.std.proofs.lemmas.List.{append_assoc, append_cancel_left, append-nil, length-append}
use Rattle.std.proofs.lemmas.Bool.{false≢true}
use Rattle.std.proofs.lemmas.Grind.{flat_map-append}
use Rattle.std.proofs.lemmas.List.Sums.{fold-append}
use Rattle.action.specs.declared.refusal.Refusal.{Refusal}
use Rattle.action.specs.declared.setup.Setup.{Setup}
use Rattle.action.proofs.Members.{all_append_parts}
use Rattle.kind.specs.Meaning.{Meaning}
use Rattle.message.specs.declared.reader_fault.UnplacedFault.{UnplacedFault}
use Rattle.message.specs.declared.due.Due.{Due}
use Rattle.message.specs.declared.progress.Progress.{Progress}
use Rattle.message.specs.declared.record.Header.{Header}
use Rattle.message.specs.declared.record.Record.{Record}
use Rattle.message.specs.declared.record.Record.TheVariants as RecordKinds
use Rattle.message.specs.Checks.{StartsWith}
use Rattle.message.specs.Decoding.{decoded}
use Rattle.message.specs.Fields.{Fitting}
use Rattle.message.specs.Format.{record_bytes}
use Rattle.message.specs.Progress.{admitted, named, start}
use Rattle.message.specs.Reading.{onward, reading}
use Rattle.message.specs.Rules.{is_due}
use Rattle.message.specs.Scanning.{ReadSoFar}
use Rattle.message.proofs.Decodings.{decoded_format}
use Rattle.message.proofs.Onward.{first_on, header_on, not_none}
use Rattle.message.proofs.Reasons.{ReasonAt, broken_at, cut_at, foreign_at, trailing_at}
use Rattle.message.proofs.Steps.{onward_passes, record_size}

-- one list begins the other
abbrev pub Begins : List Record → List Record → Type 0
Begins rs qs = (ts : List Record) × (qs ≡ rs ++ ts)

-- ONE RECORD

-- bytes start with one record at most of the kind due
pub same_record : (d : Due) (r q : Record) (bs : List ℕ) → is_due d r ≡ true → is_due d q ≡ true → Fitting r → Fitting q → StartsWith bs r → StartsWith bs q → r ≡ q
same_record d r q bs is so f g s t =
    let e : ◌≡◌ {A = Result (Option Record) UnplacedFault} (Ok (Some r)) (Ok (Some q)) = sym (decoded_format s.0 d r is f) ∙ ap (decoded d) (sym s.1 ∙ t.1) ∙ decoded_format t.0 d q so g in
    cc

-- the bytes after a first record
starts : (r : Record) (rs : List Record) (more : List ℕ) → (record_bytes r ++ flat_map record_bytes rs) ++ more ≡ record_bytes r ++ (flat_map record_bytes rs ++ more)
starts r rs more = append_assoc (record_bytes r) (flat_map record_bytes rs) more

module _ (kind : Meaning) (setup : Setup) where
  -- LISTS

  pub beginnings : (p e f : Progress) (rs qs : List Record) (more less : List ℕ) → fold (onward kind setup) (Some p) rs ≡ Some e → fold (onward kind setup) (Some p) qs ≡ Some f → AllByRecursion Fitting rs → AllByRecursion Fitting qs → flat_map record_bytes rs ++ more ≡ flat_map record_bytes qs ++ less → Begins rs qs ⊎ Begins qs rs
  beginnings p e f [] qs more less h k fit git same = inl (qs, refl)
  beginnings p e f (r ∷ rs) [] more less h k fit git same = inr (r ∷ rs, refl)
  beginnings p e f (r ∷ rs) (q ∷ qs) more less h k fit git same =
      let a = first_on kind setup p e r rs h in
      let b = first_on kind setup p f q qs k in
      let bytes = sym (starts r rs more) ∙ same ∙ starts q qs less in
      let one : r ≡ q = same_record p.due r q (record_bytes r ++ (flat_map record_bytes rs ++ more)) a.was_due b.was_due fit.0 git.0 (flat_map record_bytes rs ++ more, refl) (flat_map record_bytes qs ++ less, bytes) in
      let next : ◌≡◌ {A = Result Progress UnplacedFault} (Ok a.next) (Ok b.next) = sym a.passes ∙ ap (admitted kind setup p) one ∙ b.passes in
      let on : b.next ≡ a.next = cc in
      let rest = append_cancel_left (record_bytes r) (flat_map record_bytes rs ++ more) (flat_map record_bytes qs ++ less) (bytes ∙ ap (λ x. record_bytes x ++ (flat_map record_bytes qs ++ less)) (sym one)) in
      put one (beginnings a.next e f rs qs more less a.onto (ap (λ n. fold (onward kind setup) (Some n) qs) (sym on) ∙ b.onto) fit.1 git.1 rest)
    where
      put : r ≡ q → Begins rs qs ⊎ Begins qs rs → Begins (r ∷ rs) (q ∷ qs) ⊎ Begins (q ∷ qs) (r ∷ rs)
      put one (inl (ts, is)) = inl (ts, λ i. sym one i ∷ is i)
      put one (inr (ts, is)) = inr (ts, λ i. one i ∷ is i)

  -- what leads on after a lawful beginning
  pub after_beginning : (rs ts : List Record) (p e : Progress) → reading kind setup rs ≡ Some p → reading kind setup (rs ++ ts) ≡ Some e → fold (onward kind setup) (Some p) ts ≡ Some e
  after_beginning rs ts p e h k = ap (λ o. fold (onward kind setup) o ts) (sym h) ∙ sym (fold-append (onward kind setup) (Some start) rs ts) ∙ k

  -- nothing leads on from the end
  pub at_the_end : (p e : Progress) (ts : List Record) → p.due ≡ Due.End → fold (onward kind setup) (Some p) ts ≡ Some e → ts ≡ []
  at_the_end p e [] is h = refl
  at_the_end p e (t ∷ ts) is h = absurd (false≢true (ap (λ d. is_due d t) (sym is) ∙ (first_on kind setup p e t ts h).was_due))

  -- REFUSALS

  -- the rest of refused bytes starts with no record that leads on
  pub no_further : (p q : Progress) (at : ℕ) (rest : List ℕ) (why : Refusal) (r : Record) → ReasonAt kind setup p at rest why → is_due p.due r ≡ true → admitted kind setup p r ≡ Ok q → Fitting r → StartsWith rest r → ⊥
  no_further p q at rest why r (cut_at n) is so fits s = n.none r is fits s
  no_further p q at rest why r (foreign_at o) is so fits s =
      let head = RecordKinds.Header o.header in
      let header_due = ap (λ d. is_due d head) o.first in
      let same = same_record p.due r head rest is header_due fits o.fitting s o.starts in
      let t = header_on kind setup p q head refl (ap (admitted kind setup p) (sym same) ∙ so) in
      let is_it : o.header ≡ t.0 = headers o.header t.0 t.1 in
      false≢true (sym o.other ∙ ap (named kind setup) is_it ∙ t.2)
    where
      headers : (g h : Header) → RecordKinds.Header g ≡ RecordKinds.Header h → g ≡ h
      headers g h e = cc
  no_further p q at rest why r (broken_at b) is so fits s =
      let same = same_record p.due r b.breaks rest is b.was_due fits b.fitting s b.starts in
      not_none q (sym b.stops ∙ ap (onward kind setup (Some p)) (sym same) ∙ onward_passes kind setup p q r is so)
  no_further p q at rest why r (trailing_at f) is so fits s = false≢true (ap (λ d. is_due d r) (sym f.ended) ∙ is)

  -- every lawful beginning of refused bytes begins the one that they are refused after
  pub longest : (bytes : List ℕ) (rs qs : List Record) (p q : Progress) (rest less : List ℕ) (at : ℕ) (why : Refusal) → ReadSoFar kind setup bytes rs p rest → ReasonAt kind setup p at rest why → ReadSoFar kind setup bytes qs q less → Begins qs rs
  longest bytes rs qs p q rest less at why b reason c = decide (beginnings start p q rs qs rest less b.lawful c.lawful b.fitting c.fitting (sym b.front ∙ c.front))
    where
      decide : Begins rs qs ⊎ Begins qs rs → Begins qs rs
      decide (inr begins) = begins
      decide (inl ([], is)) = ([], sym (is ∙ append-nil rs) ∙ sym (append-nil qs))
      decide (inl (t ∷ ts, is)) =
          let f = first_on kind setup p q t ts (after_beginning rs (t ∷ ts) p q b.lawful (ap (reading kind setup) (sym is) ∙ c.lawful)) in
          let fits = (all_append_parts Fitting rs (t ∷ ts) (subst (AllByRecursion Fitting) is c.fitting)).1.0 in
          let parts = ap (λ l. flat_map record_bytes l ++ less) is ∙ ap (λ l. l ++ less) (flat_map-append record_bytes rs (t ∷ ts)) ∙ append_assoc (flat_map record_bytes rs) (flat_map record_bytes (t ∷ ts)) less in
          let rest_is = append_cancel_left (flat_map record_bytes rs) rest _ (sym b.front ∙ c.front ∙ parts) in
          absurd (no_further p f.next at rest why t reason f.was_due f.passes fits (flat_map record_bytes ts ++ less, rest_is ∙ starts t ts less))

-- what begins another is as long only where it is the same
pub begins_same : (rs qs : List Record) → Begins rs qs → flat_map record_bytes rs ≡ flat_map record_bytes qs → rs ≡ qs
begins_same rs qs ([], is) same = sym (is ∙ append-nil rs)
begins_same rs qs (t ∷ ts, is) same =
    absurd (omega (arith, ap length same, ap (λ l. length (flat_map record_bytes l)) is ∙ ap length (flat_map-append record_bytes rs (t ∷ ts)) ∙ length-append (flat_map record_bytes rs) (flat_map record_bytes (t ∷ ts)), length-append (record_bytes t) (flat_map record_bytes ts), record_size t))
