-- What reading all the bytes comes to, in words of the format. Assumes nothing.
use Rattle.std.proofs.Common.{◌≡◌, ℕ, ◌+◌, ◌<◌, ◌≤◌, ◌⊎◌, List, [], ◌++◌, length, get_or, drop, Ok, Err, count_by, Result, sym, ap, ◌∙◌, subst, inl, inr, arith}
use Rattle.std.specs.List.{flat_map}
use Rattle.std.proofs.lemmas.List.{append_cancel_left, append-nil, get_or-drop}
use Rattle.std.proofs.lemmas.Bool.{false≢true}
use Rattle.action.specs.declared.refusal.Refusal.{Refusal}
use Rattle.action.specs.declared.setup.Setup.{Setup}
use Rattle.kind.specs.Meaning.{Meaning}
use Rattle.message.specs.declared.reader_fault.ReaderFault.{ReaderFault}
use Rattle.message.specs.declared.due.Due.TheVariants as Due
use Rattle.message.specs.declared.progress.Progress.{Progress}
use Rattle.message.specs.Checks.{Accepted, Accepts, NotBoth, Refused, Unique}
use Rattle.message.specs.Faults.{shown}
use Rattle.message.specs.Format.{Message, format, record_bytes, records}
use Rattle.message.specs.Lawful.{LawfulMessage, action_count}
use Rattle.message.specs.Progress.{start}
use Rattle.message.specs.Reading.{is_action, reading}
use Rattle.message.specs.Rules.{is_due}
use Rattle.message.specs.Scanning.{ReadSoFar, Scanned}
use Rattle.message.proofs.Beginnings.{Begins, after_beginning, at_the_end, beginnings, begins_same, longest}
use Rattle.message.proofs.Carried.{counted}
use Rattle.message.proofs.Messages.{lawful_reads, reads_lawful}
use Rattle.message.proofs.Onward.{some_same}
use Rattle.message.proofs.Reasons.{ReasonAt, StopsAt, broken_at, cut_at, foreign_at, trailing_at}
use Rattle.message.proofs.Refusing.{ended_told, reason}
use Rattle.message.proofs.Sameness.{lawful_fits, records_same}
use Rattle.message.proofs.Turns.{refused_stops, stops_refused}

module _ (kind : Meaning) (setup : Setup) (bytes : List ℕ) (fits : (i : ℕ) → get_or bytes i 0 < 256) where
  pub scan_accepted : (r : Result ℕ ReaderFault) → Scanned kind setup bytes r → Accepted kind setup bytes r
  scan_accepted (Ok n) (p, at, b, h, many) =
      let end = ended_told kind setup p at (drop at bytes) h in
      let m = reads_lawful kind setup b.0 p b.1.lawful b.1.fitting end.0 in (
        m.0,
        m.1,
        b.1.front ∙ ap (λ l. flat_map record_bytes b.0 ++ l) end.1 ∙ append-nil (flat_map record_bytes b.0) ∙ ap (flat_map record_bytes) (sym m.2),
        many ∙ ap (count_by is_action) (sym m.2) ∙ counted m.0,
      )
  scan_accepted (Err e) h = tt

  scan_stops : (e : ReaderFault) → Scanned kind setup bytes (Err e) → StopsAt kind setup bytes e
  scan_stops e (p, at, b, h) = (
    b.0,
    p,
    drop at bytes,
    b.1,
    subst (λ (n : ℕ). ReasonAt kind setup p n (drop at bytes) (shown e)) b.2 (reason kind setup p at (drop at bytes) e (λ i. subst (λ (n : ℕ). n < 256) (sym (get_or-drop at bytes i 0)) (fits (at + i))) h),
  )

  pub scan_refused : (r : Result ℕ ReaderFault) → Scanned kind setup bytes r → Refused kind setup bytes r
  scan_refused (Ok n) h = tt
  scan_refused (Err e) h = stops_refused kind setup bytes e (scan_stops e h)

-- nothing is refused where the end is due and no bytes are left
none_refused : (kind : Meaning) (setup : Setup) (p : Progress) (at : ℕ) (rest : List ℕ) (why : Refusal) → p.due ≡ Due.End → rest ≡ [] → ReasonAt kind setup p at rest why → ⊥
none_refused kind setup p at rest why end none (cut_at n) = n.not_ended end
none_refused kind setup p at rest why end none (foreign_at o) = let e : Due.Header ≡ Due.End = sym o.first ∙ end in cc
none_refused kind setup p at rest why end none (broken_at b) = false≢true (ap (λ d. is_due d b.breaks) (sym end) ∙ b.was_due)
none_refused kind setup p at rest why end none (trailing_at f) = omega (arith, f.more, ap length none)

module _ (kind : Meaning) (setup : Setup) (small : kind.number ≤ 255) (bytes : List ℕ) where
  -- a lawful message is a lawful beginning of its format, at whose end the end is due
  message_begins : (m : Message) → LawfulMessage kind setup m → bytes ≡ format m → (e : Progress) × ReadSoFar kind setup bytes (records m) e [] × (e.due ≡ Due.End)
  message_begins m l is =
      let read = lawful_reads kind setup m l in
      (read.0, record { lawful = read.1; fitting = lawful_fits kind setup small m l; front = is ∙ sym (append-nil (format m)) }, read.2)

  pub messages_unique : Unique kind setup bytes
  messages_unique m n l k is so =
      let a = message_begins m l is in
      let b = message_begins n k so in
      records_same m n (decide (beginnings kind setup start a.0 b.0 (records m) (records n) [] [] a.1.lawful b.1.lawful a.1.fitting b.1.fitting (sym a.1.front ∙ b.1.front)))
    where
      decide : Begins (records m) (records n) ⊎ Begins (records n) (records m) → records m ≡ records n
      decide (inl begins) = begins_same (records m) (records n) begins (sym is ∙ so)
      decide (inr begins) = sym (begins_same (records n) (records m) begins (sym so ∙ is))

  never_stops : (m : Message) → LawfulMessage kind setup m → bytes ≡ format m → (e : ReaderFault) → StopsAt kind setup bytes e → ⊥
  never_stops m l is e (rs, p, rest, b, why) =
      let a = message_begins m l is in
      let begins = longest kind setup bytes rs (records m) p a.0 rest [] _ (shown e) b why a.1 in
      let none = at_the_end kind setup a.0 p begins.0 a.2 (after_beginning kind setup (records m) begins.0 a.0 p a.1.lawful (ap (reading kind setup) (sym begins.1) ∙ b.lawful)) in
      let same : rs ≡ records m = begins.1 ∙ ap (λ l. records m ++ l) none ∙ append-nil (records m) in
      let here : p ≡ a.0 = some_same p a.0 (sym b.lawful ∙ ap (reading kind setup) same ∙ a.1.lawful) in
      let empty : rest ≡ [] = append_cancel_left (flat_map record_bytes rs) rest [] (sym b.front ∙ a.1.front ∙ ap (λ l. flat_map record_bytes l ++ []) (sym same)) in
      none_refused kind setup p _ rest (shown e) (ap (λ q. q.due) here ∙ a.2) empty why

  pub not_refused : NotBoth kind setup bytes
  not_refused m l is e h = never_stops m l is e (refused_stops kind setup bytes e h)

  module _ (fits : (i : ℕ) → get_or bytes i 0 < 256) where
    pub scan_accepts : (r : Result ℕ ReaderFault) → Scanned kind setup bytes r → Accepts kind setup bytes r
    scan_accepts (Ok n) h m l is =
        let told = scan_accepted kind setup bytes fits (Ok n) h in
        ap Ok (told.3 ∙ ap action_count (messages_unique told.0 m told.1 l told.2 is))
    scan_accepts (Err e) h m l is = absurd (not_refused m l is e (scan_refused kind setup bytes fits (Err e) h))
