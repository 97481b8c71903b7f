-- A call of a table has one outcome, whatever it is called with. Assumes nothing.
use Rattle.std.proofs.Common.{◌≡◌, ℕ, ◌≤◌, List, length, Some, None, Ok, Err, Option, sym, ap, ◌∙◌}
use Rattle.std.proofs.lemmas.Bool.{false≢true}
use Rattle.action.specs.declared.refusal.Refusal.{Refusal}
use Rattle.kind.specs.Meaning.{Meaning}
use Rattle.message.specs.Format.{Message, format}
use Rattle.message.specs.Lawful.{LawfulMessage}
use Rattle.message.proofs.Once.{refused_once}
use Rattle.message.proofs.Verdicts.{messages_unique, not_refused}
use Rattle.table.specs.declared.table_fault.TableFault.{TableFault}
use Rattle.table.specs.declared.ticket.Ticket.{Ticket}
use Rattle.table.specs.Faults.{shown}
use Rattle.table.specs.Offers.{Offered}
use Rattle.table.specs.Outcomes.{OneOutcome}
use Rattle.table.specs.Taking.{Checked, Misread, TakeRefused, Took, news, take_refusal, taken}
use Rattle.table.specs.Taking.TakeRefused.{checked, misread, while_open}
use Rattle.table.specs.Transactions.{Committed}
use Rattle.table.specs.View.{View}
use Rattle.table.proofs.Shown.{one_shown}

-- a call that is refused where the check says so is refused by one fault, and never where it goes through
module _ {refusal : Option Refusal} where
  pub one_fault : (e d : TableFault) → refusal ≡ Some (shown e) → refusal ≡ Some (shown d) → e ≡ d
  one_fault e d h k = let same : shown e ≡ shown d = cc in one_shown e d same

  pub not_both : (r : Refusal) → refusal ≡ None → refusal ≡ Some r → ⊥
  not_both r passes fails = cc

-- TAKE

module _ (kind : Meaning) (small : kind.number ≤ 255) (v : View) (bytes : List ℕ) where
  same_message : (m n : Message) → LawfulMessage kind v.setup m → LawfulMessage kind v.setup n → bytes ≡ format m → bytes ≡ format n → m ≡ n
  same_message = messages_unique kind v.setup small bytes

  misread_or_message : (r : Refusal) → Misread kind v bytes r → (m : Message) → LawfulMessage kind v.setup m → bytes ≡ format m → ⊥
  misread_or_message r (e, _, refused) m l is = not_refused kind v.setup small bytes m l is e refused

  misread_same : (r s : Refusal) → Misread kind v bytes r → Misread kind v bytes s → r ≡ s
  misread_same r s (e, is, h) (d, so, k) = sym is ∙ refused_once kind v.setup bytes e d h k ∙ so

  checked_same : (r s : Refusal) → Checked kind v bytes r → Checked kind v bytes s → r ≡ s
  checked_same r s (m, l, is, h) (n, k, so, f) =
      let same = ap (take_refusal v) (same_message m n l k is so) in
      let both : ◌≡◌ {A = Option Refusal} (Some r) (Some s) = sym h ∙ same ∙ f in
      cc

  refusals_same : (r s : Refusal) → TakeRefused kind v bytes r → TakeRefused kind v bytes s → r ≡ s
  refusals_same r s (while_open _ is) (while_open _ so) = is ∙ sym so
  refusals_same r s (while_open opened _) (misread shut _) = absurd (false≢true (sym shut ∙ opened))
  refusals_same r s (while_open opened _) (checked shut _) = absurd (false≢true (sym shut ∙ opened))
  refusals_same r s (misread shut _) (while_open opened _) = absurd (false≢true (sym shut ∙ opened))
  refusals_same r s (misread _ h) (misread _ k) = misread_same r s h k
  refusals_same r s (misread _ h) (checked _ (m, l, is, _)) = absurd (misread_or_message r h m l is)
  refusals_same r s (checked shut _) (while_open opened _) = absurd (false≢true (sym shut ∙ opened))
  refusals_same r s (checked _ (m, l, is, _)) (misread _ k) = absurd (misread_or_message s k m l is)
  refusals_same r s (checked _ h) (checked _ k) = checked_same r s h k

  taken_or_refused : (n : ℕ) (w : View) (r : Refusal) → Took kind v bytes (Ok n) w → TakeRefused kind v bytes r → ⊥
  taken_or_refused n w r (shut, _) (while_open opened _) = false≢true (sym shut ∙ opened)
  taken_or_refused n w r (_, (m, l, is, _, _, _)) (misread _ h) = misread_or_message r h m l is
  taken_or_refused n w r (_, (m, l, is, passes, _, _)) (checked _ (sent, k, so, fails)) =
      not_both r passes (ap (take_refusal v) (same_message m sent l k is so) ∙ fails)

  pub take_once : OneOutcome (Took kind v bytes)
  take_once (Ok n) (Ok k) w u (_, (m, l, is, _, many, after)) (_, (sent, law, so, _, count, left)) =
      let same = same_message m sent l law is so in
      (ap Ok (many ∙ ap (λ x. length (news v x)) same ∙ sym count), after ∙ ap (taken kind v) same ∙ sym left)
  take_once (Ok n) (Err d) w u took (refused, _) = absurd (taken_or_refused n w _ took refused)
  take_once (Err e) (Ok k) w u (refused, _) took = absurd (taken_or_refused k u _ took refused)
  take_once (Err e) (Err d) w u (refused, is) (denied, so) =
      (ap Err (one_shown e d (refusals_same _ _ refused denied)), is ∙ sym so)

-- COMMIT AND OFFER

module _ (kind : Meaning) (v : View) (buffer : List ℕ) where
  pub commit_once : (t : Ticket) → OneOutcome (λ r (x : View × List ℕ). Committed kind v t buffer r x.0 x.1)
  commit_once t (Ok r) (Ok s) w u (_, actions, size, after, bytes) (_, count, long, left, written) =
      ((λ i. Ok ((actions ∙ sym count) i, (size ∙ sym long) i)), (λ i. ((after ∙ sym left) i, (bytes ∙ sym written) i)))
  commit_once t (Ok r) (Err e) w u (passes, _, _, _, _) (fails, _, _, _) = absurd (not_both _ passes fails)
  commit_once t (Err e) (Ok r) w u (fails, _, _, _) (passes, _, _, _, _) = absurd (not_both _ passes fails)
  commit_once t (Err e) (Err d) w u (refused, back, after, bytes) (denied, handed, left, written) =
      ((λ i. Err (one_fault e.0 d.0 refused denied i, (back ∙ sym handed) i)), (λ i. ((after ∙ sym left) i, (bytes ∙ sym written) i)))

  pub offer_once : (p a : ℕ) → OneOutcome (Offered kind v p a buffer)
  offer_once p a (Ok n) (Ok k) w u (_, size, after) (_, long, left) = (ap Ok (size ∙ sym long), after ∙ sym left)
  offer_once p a (Ok n) (Err e) w u (passes, _, _) (fails, _) = absurd (not_both _ passes fails)
  offer_once p a (Err e) (Ok k) w u (fails, _) (passes, _, _) = absurd (not_both _ passes fails)
  offer_once p a (Err e) (Err d) w u (refused, after) (denied, left) = (ap Err (one_fault e d refused denied), after ∙ sym left)
