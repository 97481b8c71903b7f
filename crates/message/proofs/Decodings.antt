-- A record's own bytes are read as that record. Assumes nothing.
use Rattle.std.proofs.Common.{◌≡◌, ℕ, ◌+◌, ◌*◌, ◌/◌, ◌%◌, ◌<◌, ◌≤◌, true, List, ◌++◌, length, get_or, Some, Ok, Err, refl, ap, ◌∙◌, arith}
use Rattle.std.proofs.lemmas.Bool.{and_from, cond-true, eq-eqb, false≢true, le-leb}
use Rattle.action.specs.declared.action.Action.{Action}
use Rattle.action.specs.Bytes.{action_bytes, action_of}
use Rattle.action.proofs.Round.{action_back, four_bytes}
use Rattle.message.specs.declared.reader_fault.UnplacedFault.TheVariants.{Cut}
use Rattle.message.specs.declared.due.Due.{Due}
use Rattle.message.specs.declared.record.Header.{Header}
use Rattle.message.specs.declared.record.Interval.{Interval}
use Rattle.message.specs.declared.record.SectionHead.{SectionHead}
use Rattle.message.specs.declared.record.Record.{Record}
use Rattle.message.specs.declared.record.Record.TheVariants as RecordKinds
use Rattle.message.specs.Decoding.{begins, decoded, header_in, interval_in, section_in}
use Rattle.message.specs.Fields.{ActionFits, Fitting, HeaderFits, IntervalFits, SectionFits}
use Rattle.message.specs.Format.{header_bytes, interval_bytes, record_bytes, section_bytes}
use Rattle.message.specs.Rules.{is_due}

two_bytes : (n : ℕ) → n < 65536 → n / 256 % 256 * 256 + n % 256 ≡ n
two_bytes n h = omega arith

module _ (more : List ℕ) where
  header_in_lem : (h : Header) → HeaderFits h → header_in (header_bytes h ++ more) ≡ h
  header_in_lem h f = λ i. record { group = two_bytes h.group f.group i; kind = h.kind; sender = h.sender; sections = h.sections }

  section_in_lem : (s : SectionHead) → SectionFits s → section_in (section_bytes s ++ more) ≡ s
  section_in_lem s f = λ i. record { article = s.article; intervals = s.intervals; actions = two_bytes s.actions f.actions i }

  interval_in_lem : (i : Interval) → IntervalFits i → interval_in (interval_bytes i ++ more) ≡ i
  interval_in_lem i f = λ j. record { site = i.site; from = four_bytes i.from f.from j; to = four_bytes i.to f.to j }

  action_in_lem : (x : Action) → ActionFits x → action_of (action_bytes x ++ more) ≡ x
  action_in_lem x f = action_back x f.time f.transaction f.amount

  -- a list that begins with a kind byte and is long enough
  begun : (kind size : ℕ) (bs : List ℕ) → size ≤ length bs → get_or bs 0 0 ≡ kind → begins kind size bs ≡ true
  begun kind size bs long is = and_from _ _ (le-leb _ _ long) (eq-eqb _ _ is)

  -- where a record is due, and its fields fit, its bytes are read as that record, whatever follows
  pub decoded_format : (d : Due) (r : Record) → is_due d r ≡ true → Fitting r → decoded d (record_bytes r ++ more) ≡ Ok (Some r)
  decoded_format Due.Header (RecordKinds.Header h) is f = cond-true _ _ (Err Cut) (begun 0x48 6 (header_bytes h ++ more) (omega arith) refl) ∙ ap (λ x. Ok (Some (RecordKinds.Header x))) (header_in_lem h f)
  decoded_format Due.Section (RecordKinds.Section s) is f = cond-true _ _ (Err Cut) (begun 0x53 5 (section_bytes s ++ more) (omega arith) refl) ∙ ap (λ x. Ok (Some (RecordKinds.Section x))) (section_in_lem s f)
  decoded_format Due.Interval (RecordKinds.Interval i) is f = cond-true _ _ (Err Cut) (begun 0x49 10 (interval_bytes i ++ more) (omega arith) refl) ∙ ap (λ x. Ok (Some (RecordKinds.Interval x))) (interval_in_lem i f)
  decoded_format Due.Action (RecordKinds.Action x) is f = cond-true _ _ (Err Cut) (begun 0x41 16 (action_bytes x ++ more) (omega arith) refl) ∙ ap (λ y. Ok (Some (RecordKinds.Action y))) (action_in_lem x f)
  decoded_format _ _ is f = absurd (false≢true is)
