-- Events that leave the book or change an open transaction only: what is refused, open, write and abandon.
-- Assumes nothing.
use Rattle.std.proofs.Common.{◌≡◌, ℕ, ◌+◌, ◌<◌, Bool, true, false, eqb, List, [], ◌∷◌, ◌++◌, length, ℤ, Ok, Err, Result, sym, refl, ap, ◌∙◌, subst, inl, arith}
use Rattle.std.proofs.lemmas.List.{append-nil}
use Rattle.std.proofs.lemmas.Bool.{cond-false, cond-true, eq-eqb, ne_eqb}
use Rattle.action.specs.declared.action.Action.{Action}
use Rattle.kind.specs.Meaning.{Meaning}
use Rattle.table.specs.declared.table_fault.TableFault.{TableFault}
use Rattle.table.specs.declared.ticket.Ticket.{Ticket}
use Rattle.table.specs.Sound.{Sound}
use Rattle.table.specs.Transactions.{new_action, with_transaction}
use Rattle.table.specs.View.{View, entry}
use Rattle.table.proofs.Soundness.{abandon_keeps, open_keeps, write_keeps}
use Rattle.runs.specs.Books.{Book, book, greatest, next_action, with_pending}
use Rattle.runs.specs.Events.{Call, Event, at, wrote}
use Rattle.runs.specs.Events.Call.{Opens, Writes, Abandons}
use Rattle.runs.specs.Laws.{TrueOrNothing}
use Rattle.runs.specs.Runs.{Group, Turn}
use Rattle.runs.proofs.Growing.{Grown, stands_after}
use Rattle.runs.proofs.Sites.{own_is}
use Rattle.runs.proofs.Standing.{Absorbed, Account, Site, Standing}

module _ (kind : Meaning) (group : Group) (s : ℕ) (of_group : s < group.sites) (b : Book) where
  pub grown_pending : (pending : ℕ → List Action) → ((z : ℕ) → (z ≡ s → ⊥) → pending z ≡ b.pending z) → Account group b → Grown group s b (record b { pending = pending })
  grown_pending pending others l = record {
    new = [];
    adds = sym (append-nil b.committed);
    each = tt;
    apart = tt;
    raised = λ a q. omega arith;
    others = λ z ne. refl;
    others_pending = others;
    no_more = λ a q al ql. l.no_more s a q of_group al ql;
  }

  -- the same table but for its transaction
  site_pending : (pending : ℕ → List Action) (v : View) (is_open : Bool) (xs : List Action) → Site kind group b s v → Sound kind (with_transaction is_open xs v) → pending s ≡ xs → Site kind group (record b { pending = pending }) s (with_transaction is_open xs v)
  site_pending pending v is_open xs site sound is = record {
    sound = sound;
    setup_is = site.setup_is;
    room_is = site.room_is;
    vector = site.vector;
    clock_is = site.clock_is;
    pending_is = is;
    believed = site.believed;
    gathered = λ a al. let h = site.gathered a al in record {
      archived = h.archived;
      based = h.based;
      ordered = h.ordered;
      sure = h.sure;
      whole = h.whole;
      everywhere = h.everywhere;
    };
  }

module _ (kind : Meaning) (group : Group) (before : List Event) (s : ℕ) (old views : ℕ → View) (st : Standing kind group before old) where
  abbrev b : Book
  b = book group before

  module _ (call : Call) (turn : Turn kind group before (at s call) old views) where
    of_group : s < group.sites
    of_group = turn.of_group

    -- no more than the transaction changes
    stands_pending : (pending : ℕ → List Action) (is_open : Bool) (xs : List Action) → book group (at s call ∷ before) ≡ record b { pending = pending } → views s ≡ with_transaction is_open xs (old s) → Sound kind (views s) → pending s ≡ xs → ((z : ℕ) → (z ≡ s → ⊥) → pending z ≡ b.pending z) → TrueOrNothing kind group (record b { pending = pending }) views s (wrote call) → Absorbed kind group s (views s) call → Standing kind group (at s call ∷ before) views
    stands_pending pending is_open xs the_book the_view sound is others told absorbed =
        stands_after kind group before (at s call) old views turn st
        (subst (Grown group s b) (sym the_book) (grown_pending kind group s of_group b pending others st.account))
        (subst (λ (after : Book). Site kind group after s (views s)) (sym the_book) (subst (Site kind group (record b { pending = pending }) s) (sym the_view) (site_pending kind group s of_group b pending (old s) is_open xs (st.sites s of_group) (subst (Sound kind) the_view sound) is)))
        (λ a z q. omega (arith, ap (λ (v : View). entry v a z q) the_view))
        (subst (λ (after : Book). TrueOrNothing kind group after views s (wrote call)) (sym the_book) told)
        absorbed

    -- nothing changes
    pub stands_still : book group (at s call ∷ before) ≡ b → views s ≡ old s → TrueOrNothing kind group b views s (wrote call) → Absorbed kind group s (views s) call → Standing kind group (at s call ∷ before) views
    stands_still same_book same_view =
        let site = st.sites s of_group in
        stands_pending b.pending (old s).is_open (old s).pending same_book same_view (subst (Sound kind) (sym same_view) site.sound) site.pending_is (λ z ne. refl)

  -- one site's open transaction in the book
  own_pending : (xs : List Action) → (with_pending s xs b).pending s ≡ xs
  own_pending xs = cond-true (eqb s s) xs (b.pending s) (eq-eqb s s refl)

  other_pending : (xs : List Action) (z : ℕ) → (z ≡ s → ⊥) → (with_pending s xs b).pending z ≡ b.pending z
  other_pending xs z ne = cond-false (eqb z s) xs (b.pending z) (ne_eqb z s ne)

  pub open_stands : (r : Result Ticket TableFault) → Turn kind group before (at s (Opens r)) old views → Standing kind group (at s (Opens r) ∷ before) views
  open_stands (Err e) turn = stands_still (Opens (Err e)) turn refl turn.does.1 (inl refl) tt
  open_stands (Ok t) turn =
      let site = st.sites s turn.of_group in
      stands_pending (Opens (Ok t)) turn b.pending true (old s).pending refl turn.does.2 (open_keeps kind (old s) (views s) site.sound (Ok t) turn.does) site.pending_is (λ z ne. refl) (inl refl) tt

  pub abandon_stands : (t : Ticket) (r : Result Unit (TableFault × Ticket)) → Turn kind group before (at s (Abandons t r)) old views → Standing kind group (at s (Abandons t r) ∷ before) views
  abandon_stands t (Err e) turn = stands_still (Abandons t (Err e)) turn refl turn.does.2 (inl refl) tt
  abandon_stands t (Ok u) turn =
      let site = st.sites s turn.of_group in
      stands_pending (Abandons t (Ok u)) turn (with_pending s [] b).pending false [] refl turn.does.1 (abandon_keeps kind (old s) (views s) site.sound t (Ok u) turn.does) (own_pending []) (other_pending []) (inl refl) tt

  -- the book reckons the time as the table does
  same_action : (of_group : s < group.sites) (article operation : ℕ) (amount : ℤ) → next_action group b s article operation amount ≡ new_action (old s) article operation amount
  same_action of_group article operation amount =
      let site = st.sites s of_group in
      let own : s ≡ (old s).setup.own = sym (own_is kind group b s of_group (old s) site) in
      let clock : greatest group b s ≡ (old s).clock = sym site.clock_is in
      λ i. record (new_action (old s) article operation amount) { coordinator = own i; time = clock i + length (site.pending_is i) + 1; transaction = clock i + 1 }

  pub write_stands : (t : Ticket) (article operation : ℕ) (amount : ℤ) (r : Result ℕ TableFault) → Turn kind group before (at s (Writes t article operation amount r)) old views → Standing kind group (at s (Writes t article operation amount r) ∷ before) views
  write_stands t article operation amount (Err e) turn = stands_still (Writes t article operation amount (Err e)) turn refl turn.does.2.1 (inl refl) tt
  write_stands t article operation amount (Ok time) turn =
      let site = st.sites s turn.of_group in
      let xs = b.pending s ++ next_action group b s article operation amount ∷ [] in
      let ys = (old s).pending ++ new_action (old s) article operation amount ∷ [] in
      let same : xs ≡ ys = (λ i. site.pending_is i ++ same_action turn.of_group article operation amount i ∷ []) in
      stands_pending (Writes t article operation amount (Ok time)) turn (with_pending s xs b).pending (old s).is_open ys refl turn.does.2.2 (write_keeps kind (old s) (views s) site.sound t article operation amount turn.does.0 turn.does.1 (Ok time) turn.does.2) (own_pending xs ∙ same) (other_pending xs) (inl refl) tt
