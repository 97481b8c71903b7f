-- What a slot holds after a granted or refused move or offer, and that the slots of a new desk are empty.
use Rattle.std.proofs.Common.{◌≡◌, ℕ, zero, suc, ◌<◌, List, [], ◌∷◌, length, get_or, take, replicate, ℤ, Ok, Err, Option, Result, MatchResult, IsOkAnd, subst, sym, refl, ap, ◌∙◌, arith}
use Rattle.std.proofs.lemmas.List.{length-replicate}
use Rattle.action.specs.declared.refusal.Refusal.{Refusal}
use Rattle.kind.specs.Meaning.{Meaning}
use Rattle.table.specs.Offers.{offer_bytes, offer_refusal}
use Rattle.table.specs.declared.table_fault.TableFault.{TableFault}
use Rattle.table.specs.declared.ticket.Ticket.{Ticket}
use Rattle.table.specs.Transactions.{Committed, Opened, Wrote}
use Rattle.table.specs.View.{View}
use Rattle.runs.proofs.Writing.{written_back}
use Rattle.script.specs.declared.answer.Answer.TheVariants.{Time, Length}
use Rattle.script.specs.Acts.{by_refusal, move_outcome, offer_outcome, refused_at}
use Rattle.script.specs.Slots.{blank}

-- what a call is given
pub blank_is : replicate 1200 0 ≡ blank
unfolding blank
blank_is = refl

pub length_blank : length blank ≡ 1200
length_blank = ap length (sym blank_is) ∙ length-replicate {A = ℕ} 1200 0

-- slots that hold nothing
pub all_empty : (slots : List (List ℕ)) (n : ℕ) → length slots ≡ n → ((i : ℕ) (none : List ℕ) → i < n → get_or slots i none ≡ []) → slots ≡ replicate n []
all_empty [] zero long empty = refl
all_empty [] (suc n) long empty = absurd (omega (arith, long))
all_empty (slot ∷ slots) zero long empty = absurd (omega (arith, long))
all_empty (slot ∷ slots) (suc n) long empty = λ i. empty 0 slot (omega arith) i ∷ all_empty slots n (omega (arith, long)) (λ k none h. empty (suc k) none (omega arith)) i

-- a commit that answered k and n went through, where its answer is handed on as the write's time and n
pub committed_as : (r posted : Result (ℕ × ℕ) (TableFault × Ticket)) (post : ℕ × ℕ → ℕ × ℕ → Type 0) (time : ℕ) (done : ℕ × ℕ) → ((x y : ℕ × ℕ) → post x y → y ≡ (time, x.1)) → MatchResult r (λ x. IsOkAnd posted (post x)) (λ e. posted ≡ Err e) → posted ≡ Ok done → (k : ℕ) × (r ≡ Ok (k, done.1)) × (done.0 ≡ time)
committed_as (Ok x) posted post time done told mapped is =
    let at : done ≡ (time, x.1) = told x done (subst (λ p. IsOkAnd p (post x)) is mapped) in
    (x.0, (λ i. Ok (x.0, (sym at i).1)), λ i. (at i).0)
committed_as (Err e) posted post time done told mapped is = cc

module _ (kind : Meaning) (v : View) (slot : List ℕ) where
  -- an offer that is refused, or granted
  pub offer_decided : (p a : ℕ) (o : Option Refusal) → offer_refusal kind v p a (replicate 1200 0) ≡ o → by_refusal o (refused_at v slot) (record { table = v; slot = offer_bytes kind v p a; answer = Ok (Length (length (offer_bytes kind v p a))) }) ≡ offer_outcome kind v p a slot
  offer_decided p a o is = ap (λ r. by_refusal r (refused_at v slot) (record { table = v; slot = offer_bytes kind v p a; answer = Ok (Length (length (offer_bytes kind v p a))) })) (sym is ∙ ap (offer_refusal kind v p a) blank_is)

  -- a transaction of one write went through
  pub move_granted : (w u after : View) (t : Ticket) (article : ℕ) (amount : ℤ) (time k n : ℕ) (end : List ℕ) → Opened kind v (Ok t) w → Wrote kind w t article 1 amount (Ok time) u → Committed kind u t blank (Ok (k, n)) after end → record { table = after; slot = take n end; answer = Ok (Time time) } ≡ move_outcome kind v article amount slot
  move_granted w u after t article amount time k n end opens wrote commits =
      let writes = subst (λ (x : View × Ticket). Wrote kind x.0 x.1 article 1 amount (Ok time) u) (λ i. (opens.2 i, opens.1 i)) wrote in
      let done = subst (λ (x : View × Ticket). Committed kind x.0 x.1 blank (Ok (k, n)) after end) (λ i. (writes.2 i, opens.1 i)) commits in
      rw (opens.0, writes.0, done.0) (λ i. record { table = done.3 i; slot = written_back blank _ end n done.2 done.4 i; answer = Ok (Time (writes.1 i)) })
