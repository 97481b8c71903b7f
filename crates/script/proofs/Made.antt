-- What a command does to a desk that stands at the end of a run: which calls it makes, and that the desk then stands at
-- the end of the longer run.
use Rattle.std.proofs.Common.{◌≡◌, ℕ, ◌+◌, ◌<◌, ◌⊎◌, Bool, true, false, cond, not, ltb, leb, List, [], ◌∷◌, ◌++◌, length, get_or, ℤ, Some, None, Ok, Err, OnErr, Result, sym, refl, ap, ◌∙◌, subst, inl, inr, ⊎_elim, arith, w32, SFits}
use Rattle.std.specs.List.{AllByRecursion}
use Rattle.std.proofs.ByRecursion.{All-set, All-weaker}
use Rattle.std.proofs.lemmas.Bool.{and_from, cases_eq, cond-true, eq-eqb, le-leb, ltb-true}
use Rattle.std.proofs.lemmas.Int.{ints}
use Rattle.std.proofs.lemmas.List.{set-get_or}
use Rattle.std.proofs.lemmas.List.Filters.{length-filter_both}
use Rattle.std.proofs.lemmas.Result.{on_err_weaker}
use Rattle.action.specs.declared.action.Action.{Action}
use Rattle.action.specs.declared.refusal.Refusal.{Refusal}
use Rattle.action.specs.declared.setup.Setup.{Setup}
use Rattle.action.specs.Lawful.{by_history, by_table, unless}
use Rattle.history.specs.declared.history_fault.HistoryFault.TheVariants.{Full}
use Rattle.history.specs.Room.{Room}
use Rattle.kind.specs.Meaning.{Meaning}
use Rattle.message.specs.Buffer.{overwritten}
use Rattle.message.specs.Format.{Message, format}
use Rattle.table.specs.declared.table_fault.TableFault.{TableFault}
use Rattle.table.specs.declared.table_fault.TableFault.TheVariants.{NotItsTicket, NoArticle, NoSite, UnknownPair, TooManyWrites, TooLate, Short, InHistory}
use Rattle.table.specs.declared.ticket.Ticket.{Ticket}
use Rattle.table.specs.Answers.{figure}
use Rattle.table.specs.Faults.{shown}
use Rattle.table.specs.Offers.{is_offered, offer_bytes}
use Rattle.table.specs.Taking.{Took}
use Rattle.table.specs.Transactions.{abandoned, committed, fitting, holds, new_action, next_time, open_refusal, opened, ticket, transaction_bytes, with_transaction, write_refusal, written}
use Rattle.table.specs.View.{View}
use Rattle.table.proofs.Offering.{length_offer}
use Rattle.table.proofs.Soundness.{passed}
use Rattle.runs.specs.Books.{book}
use Rattle.runs.specs.Events.{Call, Does, Event, at, wrote}
use Rattle.runs.specs.Events.Call.{Opens, Writes, Commits, Abandons, Offers, Takes}
use Rattle.runs.specs.Laws.{EveryRun}
use Rattle.runs.specs.Runs.{Group, Honest, Ran}
use Rattle.runs.proofs.Counting.{counts_each_once}
use Rattle.runs.proofs.Standing.{Site, Standing}
use Rattle.runs.proofs.Writing.{written_back}
use Rattle.script.specs.declared.answer.Answer.{Answer}
use Rattle.script.specs.declared.answer.Answer.TheVariants as Answers
use Rattle.script.specs.declared.command.Command.{Command}
use Rattle.script.specs.declared.command.Command.TheVariants.{Move, Offer, Take, Figure, OpenItem}
use Rattle.script.specs.Acts.{Outcome, Reply, by_refusal, figure_reply, move_outcome, offer_outcome, outcome_once_opened, outcome_once_written, refused_at, take_reply}
use Rattle.script.specs.Desk.{Acts, DeskView, SiteTurn, site_turn, table_at, with_slots, with_table}
use Rattle.script.specs.Moves.{SixDigits}
use Rattle.script.specs.Slots.{blank}
use Rattle.script.specs.Standing.{AfterRun, Kept, Makes, counted_figure, open_and_write}
use Rattle.script.specs.Standing.Makes.{moves, commit_refused, write_refused, offers, takes, figures, open_items}
use Rattle.script.proofs.Further.{at_site, beside_slots, elsewhere, kept_after, kept_at, kept_now, with_its_own}
use Rattle.script.proofs.Held.{length_blank}
use Rattle.script.proofs.Posted.{length_posted}
use Rattle.script.proofs.Ranges.{Ranged}
use Rattle.script.proofs.Refused.{by_checks}

-- a message has bytes
some_bytes : (m : Message) → [] ≡ format m → ⊥
some_bytes m e = omega (arith, ap length e)

on_err : {X : Type 0} (a : Reply) → X → OnErr a X
on_err (Ok b) x = tt
on_err (Err n) x = x

-- a figure, or refused by 4
figure_or_four : (known : Bool) (z y : ℤ) → (known ≡ true → z ≡ y) → by_refusal (unless known (by_table 4 0) None) Err (Ok (Answers.Figure z)) ≡ cond known (Ok (Answers.Figure y)) (Err (by_table 4 0))
figure_or_four true z y same = ap (λ f. Ok (Answers.Figure f)) (same refl)
figure_or_four false z y same = refl

module _ (kind : Meaning) (run_stands : EveryRun kind (Standing kind)) (knows_moves : (amount : ℤ) → SixDigits amount → kind.knows 1 amount ≡ true) (group : Group) (run : List Event) (d : DeskView) (stood : AfterRun kind group run d) where
  -- after a command: the calls that it made, and the desk at the end of the longer run
  abbrev pub StandsAfter : Command → Reply → DeskView → Type 0
  StandsAfter c a after = (calls : List Event) × Makes kind group run d c a calls × OnErr a (after ≡ d) × AfterRun kind group (calls ++ run) after

  slots_stay : (calls : List Event) → AllByRecursion (Kept (calls ++ run)) d.slots
  slots_stay calls = All-weaker (Kept run) (Kept (calls ++ run)) (kept_after calls run) d.slots stood.slots

  module _ (site : ℕ) (acts : site < 3) where
    -- THE SITE'S TABLE

    abbrev v : View
    v = table_at d site

    inside : site < group.sites
    inside = omega (arith, stood.sites_are)

    here : Site kind group (book group run) site v
    here = (run_stands group run (table_at d) stood.ran).sites site inside

    shut : v.is_open ≡ false
    shut = stood.closed site acts

    none : v.pending ≡ []
    none = here.sound.closed shut

    sites_are : v.setup.sites ≡ 3
    sites_are = ap (λ (s : Setup). s.sites) here.setup_is ∙ (group.agrees site inside).sites_are ∙ stood.sites_are

    articles_are : v.setup.articles ≡ 4
    articles_are = ap (λ (s : Setup). s.articles) here.setup_is ∙ (group.agrees site inside).articles_are ∙ stood.articles_are

    places_are : v.room.places ≡ 64
    places_are = ap (λ (r : Room). r.places) (here.room_is ∙ stood.rooms_are site acts)

    start : Ran kind group run (table_at (with_table d site v))
    start = subst (λ (e : DeskView). Ran kind group run (table_at e)) (with_its_own d site) stood.ran

    -- one call more
    on : (before : List Event) (call : Call) (u w : View) → Ran kind group before (table_at (with_table d site u)) → Does kind u call w → Honest before call → Ran kind group (at site call ∷ before) (table_at (with_table d site w))
    on before call u w ran does honest = (
      table_at (with_table d site u),
      ran,
      record {
        of_group = inside;
        does = rw (at_site d site u, at_site d site w) does;
        others = λ s within ne. let near : s < 3 = omega (arith, stood.sites_are) in elsewhere d site w acts s near ne ∙ sym (elsewhere d site u acts s near ne);
        honest = honest;
      },
    )

    -- THE DESK

    closed_still : (w : View) (slots : List (List ℕ)) → w.is_open ≡ false → (s : ℕ) → s < 3 → (table_at (with_slots (with_table d site w) slots) s).is_open ≡ false
    closed_still w slots closed s within =
        let is_open : View → Bool = λ u. u.is_open in
        ap is_open (sym (beside_slots (with_table d site w) slots s)) ∙ ⊎_elim
        (λ same. ap is_open (ap (table_at (with_table d site w)) same ∙ at_site d site w) ∙ closed)
        (λ ne. ap is_open (elsewhere d site w acts s within ne) ∙ stood.closed s within)
        (cases_eq s site)

    abbrev Reaches : Command → SiteTurn → Type 0
    Reaches c t = StandsAfter c t.answer (with_slots (with_table d site t.table) t.slots)

    -- by these calls the command comes to what it leaves
    reaches : (c : Command) (t : SiteTurn) (calls : List Event) → Makes kind group run d c t.answer calls → Ran kind group (calls ++ run) (table_at (with_table d site t.table)) → AllByRecursion (Kept (calls ++ run)) t.slots → t.table.is_open ≡ false → OnErr t.answer ((t.table ≡ v) × (t.slots ≡ d.slots)) → Reaches c t
    reaches c t calls makes ran kept closed stays = (
      calls,
      makes,
      on_err_weaker t.answer (λ same. (λ i. with_slots (with_table d site (same.0 i)) (same.1 i)) ∙ ap (λ e. with_slots e d.slots) (sym (with_its_own d site))) stays,
      record {
        group_is = stood.group_is;
        sites_are = stood.sites_are;
        articles_are = stood.articles_are;
        rooms_are = stood.rooms_are;
        ran = subst (Ran kind group (calls ++ run)) (λ i s. beside_slots (with_table d site t.table) t.slots s i) ran;
        closed = closed_still t.table t.slots closed;
        slots = kept;
      },
    )

    -- what it leaves is the site's table and the slots that are there now
    lands : (c : Command) (t : SiteTurn) (a : Reply) (after : DeskView) → Reaches c t → record { table = table_at after site; slots = after.slots; answer = a } ≡ t → after ≡ with_slots (with_table d site (table_at after site)) after.slots → StandsAfter c a after
    lands c t a after goes is others = subst (StandsAfter c a) (sym others) (subst (Reaches c) (sym is) goes)

    -- a command that makes no call
    leaves : (c : Command) (a : Reply) → Makes kind group run d c a [] → Reaches c (record { table = v; slots = d.slots; answer = a })
    leaves c a makes = reaches c _ [] makes start stood.slots shut (on_err a (refl, refl))

    -- M AND O

    -- a command that writes into a slot is refused, and leaves the table as it was
    refused_goes : (c : Command) (slot : ℕ) (w : View) (s : Refusal) (calls : List Event) → Makes kind group run d c (Err s) calls → Ran kind group (calls ++ run) (table_at (with_table d site w)) → w ≡ v → Reaches c (site_turn d.slots slot (refused_at w (get_or d.slots slot []) s))
    refused_goes c slot w s calls makes ran same =
        let stays = set-get_or d.slots slot [] in
        reaches c _ calls makes ran (subst (AllByRecursion (Kept (calls ++ run))) (sym stays) (slots_stay calls)) (ap (λ (u : View). u.is_open) same ∙ shut) (same, stays)

    -- it is granted, and its last call writes the message
    granted_goes : (c : Command) (slot : ℕ) (w : View) (message : List ℕ) (answer : Answer) (event : Event) (calls : List Event) → Makes kind group run d c (Ok answer) (event ∷ calls) → Ran kind group (event ∷ (calls ++ run)) (table_at (with_table d site w)) → w.is_open ≡ false → wrote event.call ≡ message → Reaches c (site_turn d.slots slot (record { table = w; slot = message; answer = Ok answer }))
    granted_goes c slot w message answer event calls makes ran closed is =
        reaches c _ (event ∷ calls) makes ran (All-set (Kept (event ∷ (calls ++ run))) d.slots slot message (kept_now event (calls ++ run) message is) (slots_stay (event ∷ calls))) closed tt

    module _ (article : ℕ) (amount : ℤ) (slot : ℕ) (fits : SFits w32 amount) (known : kind.knows 1 amount ≡ true) where
      abbrev c : Command
      c = Move site article amount slot

      abbrev held : List ℕ
      held = get_or d.slots slot []

      abbrev Moves : Outcome → Type 0
      Moves o = Reaches c (site_turn d.slots slot o)

      abbrev t : Ticket
      t = ticket kind v

      abbrev u : View
      u = opened v

      abbrev x : View
      x = written u (new_action u article 1 amount)

      abbrev time : ℕ
      time = next_time u

      -- the open transaction has the table's own ticket
      own_holds : (pending : List Action) → holds kind (with_transaction true pending v) t ≡ true
      own_holds pending = and_from true _ refl (and_from _ _ (eq-eqb t.group t.group refl) (and_from _ _ (eq-eqb t.kind t.kind refl) (and_from _ _ (eq-eqb t.site t.site refl) (eq-eqb t.clock t.clock refl))))

      -- no transaction is open, so one can be opened
      can_open : open_refusal v ≡ None
      can_open = ap (λ b. unless (not b) (by_table 2 0) None) shut

      wrote_ran : (r : Result ℕ TableFault) (w : View) → Does kind u (Writes t article 1 amount r) w → Ran kind group (open_and_write site t article amount r ++ run) (table_at (with_table d site w))
      wrote_ran r w does = on (at site (Opens (Ok t)) ∷ run) (Writes t article 1 amount r) u w (on run (Opens (Ok t)) v u start (can_open, refl, refl) tt) does tt

      -- it is abandoned
      abandoned_goes : (pending : List Action) (s : Refusal) (calls : List Event) → Makes kind group run d c (Err s) (at site (Abandons t (Ok tt)) ∷ calls) → Ran kind group (calls ++ run) (table_at (with_table d site (with_transaction true pending v))) → Moves (refused_at (with_transaction false [] v) held s)
      abandoned_goes pending s calls makes ran =
          let w = with_transaction true pending v in
          refused_goes c slot (abandoned w) s (at site (Abandons t (Ok tt)) ∷ calls) makes (on (calls ++ run) (Abandons t (Ok tt)) w (abandoned w) ran (cond-true (holds kind w t) None (Some (by_table 3 0)) (own_holds pending), refl) tt) (λ i. record v { is_open = sym shut i; pending = sym none i })

      module _ (can_write : write_refusal kind u t article 1 amount ≡ None) where
        abbrev message : List ℕ
        message = fitting (transaction_bytes kind x) blank

        one : x.pending ≡ new_action u article 1 amount ∷ []
        one = ap (λ xs. xs ++ (new_action u article 1 amount ∷ [])) none

        posted : length message ≡ 37
        posted =
            let listed = ltb-true article v.setup.articles (passed (ltb article v.setup.articles) _ _ (passed (holds kind u t) _ _ can_write).1).0 in
            let long = length_posted kind x (new_action u article 1 amount) one articles_are (omega (arith, articles_are, listed)) in
            ap length (cond-true (leb (length (transaction_bytes kind x)) (length blank)) _ [] (le-leb _ _ (omega (arith, long, length_blank)))) ∙ long

        commits_ran : (call : Call) (w : View) → Does kind x call w → Honest (open_and_write site t article amount (Ok time) ++ run) call → Ran kind group (at site call ∷ (open_and_write site t article amount (Ok time) ++ run)) (table_at (with_table d site w))
        commits_ran call w does honest = on (open_and_write site t article amount (Ok time) ++ run) call x w (wrote_ran (Ok time) x (omega arith, fits, (can_write, refl, refl))) does honest

        written_goes : Moves (outcome_once_written kind v x time held)
        written_goes =
            by_checks Moves (λ s. s ≡ by_history 16 64) (refused_at (abandoned x) held) (record { table = committed kind x; slot = message; answer = Ok (Answers.Time time) }) ((holds kind x t, NotItsTicket) ∷ ((leb (length x.history + length x.pending) x.room.places, InHistory (Full x.room.places)) ∷ []))
            (λ no. cc (own_holds x.pending, no), (λ _. ap (by_history 16) places_are, tt))
            (λ e full is.
            let call : Call = Commits t blank (Err (e, t)) blank in
            abandoned_goes x.pending (shown e) (at site call ∷ open_and_write site t article amount (Ok time)) (commit_refused site article slot amount t time e full) (commits_ran call x (is, refl, refl, refl) tt))
            (λ can_commit.
            let after = overwritten blank 0 message in
            let call : Call = Commits t blank (Ok (length x.pending, length message)) after in
            granted_goes c slot (committed kind x) message (Answers.Time time) (at site call) (open_and_write site t article amount (Ok time)) (moves site article slot amount t time after (length x.pending, length message) (λ i. (ap length one i, posted i))) (commits_ran call (committed kind x) (can_commit, refl, refl, refl, refl) tt) refl (written_back blank message after (length message) refl refl))

      opened_goes : Moves (outcome_once_opened kind v u article amount held)
      opened_goes =
          let few : ltb (length u.pending) 16 ≡ true = ap (λ xs. ltb (length xs) 16) none in
          by_checks Moves (λ s. (s ≡ by_table 4 0) ⊎ (s ≡ by_table 8 0)) (refused_at (abandoned u) held) (outcome_once_written kind v x time held) ((holds kind u t, NotItsTicket) ∷ ((ltb article v.setup.articles, NoArticle) ∷ ((kind.knows 1 amount, UnknownPair) ∷ ((ltb (length u.pending) 16, TooManyWrites) ∷ ((leb time 4000000000, TooLate) ∷ [])))))
          (λ no. cc (own_holds v.pending, no), (λ _. inl refl, (λ no. cc, (λ no. cc, (λ _. inr refl, tt)))))
          (λ e by is. abandoned_goes v.pending (shown e) (open_and_write site t article amount (Err e)) (write_refused site article slot amount t e by) (wrote_ran (Err e) u (omega arith, fits, (is, refl))))
          written_goes

      move_goes : Moves (move_outcome kind v article amount held)
      move_goes = subst Moves (sym (ap (λ o. by_refusal o (refused_at v held) (outcome_once_opened kind v u article amount held)) can_open)) opened_goes

    offer_goes : (peer article slot : ℕ) → Reaches (Offer site peer article slot) (site_turn d.slots slot (offer_outcome kind v peer article (get_or d.slots slot [])))
    offer_goes peer article slot =
        let bytes = offer_bytes kind v peer article in
        let few = length-filter_both (is_offered v peer article) (λ x. not (is_offered v peer article x)) (λ x. refl) v.history in
        let fits : leb (length bytes) (length blank) ≡ true = le-leb _ _ (omega (arith, length_offer kind v peer article, few, here.sound.held, sites_are, places_are, length_blank)) in
        let c : Command = Offer site peer article slot in
        let offer : Result ℕ TableFault → List ℕ → Call = Offers peer article blank in
        by_checks (λ o. Reaches c (site_turn d.slots slot o)) (λ s. (s ≡ by_table 4 0) ⊎ (s ≡ by_table 5 0)) (refused_at v (get_or d.slots slot [])) (record { table = v; slot = bytes; answer = Ok (Answers.Length (length bytes)) }) ((ltb article v.setup.articles, NoArticle) ∷ ((ltb peer v.setup.sites, NoSite) ∷ ((leb (length bytes) (length blank), Short (length bytes)) ∷ [])))
        (λ _. inl refl, (λ _. inr refl, (λ no. cc, tt)))
        (λ e by is. refused_goes c slot v (shown e) (at site (offer (Err e) blank) ∷ []) (offers site peer article slot blank (Err e) by) (on run (offer (Err e) blank) v v start ((is, refl), refl) tt) refl)
        (λ can_offer.
        let after = overwritten blank 0 bytes in
        let call = offer (Ok (length bytes)) after in
        granted_goes c slot v bytes (Answers.Length (length bytes)) (at site call) [] (offers site peer article slot after (Ok (length bytes)) tt) (on run call v v start ((can_offer, refl, refl), refl) tt) shut (written_back blank bytes after (length bytes) refl refl))

    -- T

    module _ (slot : ℕ) where
      abbrev took : Result ℕ TableFault → View → SiteTurn
      took r w = record { table = w; slots = d.slots; answer = take_reply r }

      take_made : (r : Result ℕ TableFault) (w : View) → Took kind v (get_or d.slots slot []) r w → Honest run (Takes (get_or d.slots slot []) r) → w.is_open ≡ false → OnErr (take_reply r) ((w ≡ v) × (d.slots ≡ d.slots)) → Reaches (Take site slot) (took r w)
      take_made r w does honest closed stays =
          let call : Call = Takes (get_or d.slots slot []) r in
          reaches (Take site slot) (took r w) (at site call ∷ []) (takes site slot r) (on run call v w start does honest) (slots_stay (at site call ∷ [])) closed stays

      -- what is taken was written before: an empty slot is never taken
      take_goes : (r : Result ℕ TableFault) (w : View) → Took kind v (get_or d.slots slot []) r w → Reaches (Take site slot) (took r w)
      take_goes (Ok n) w does = take_made (Ok n) w does (⊎_elim (λ none. absurd (some_bytes does.1.0 (sym none ∙ does.1.2))) (λ has. has) (kept_at run d.slots slot stood.slots)) (ap (λ (u : View). u.is_open) does.1.5 ∙ shut) tt
      take_goes (Err e) w does = take_made (Err e) w does tt (ap (λ (u : View). u.is_open) does.1 ∙ shut) (does.1, refl)

    -- F

    -- the site has four articles, and its figures are those that the run counts
    counts : (article : ℕ) → figure_reply v article ≡ counted_figure kind group run site article
    counts article =
        let law = counts_each_once kind group run (table_at d) (run_stands group run (table_at d) stood.ran) in
        ap (λ n. by_refusal (unless (ltb article n) (by_table 4 0) None) Err (Ok (Answers.Figure (figure v article)))) articles_are ∙ figure_or_four (ltb article 4) _ _ (λ known. law.figured site article inside (omega (arith, ltb-true article 4 known, stood.articles_are)))

  -- EVERY COMMAND

  pub command_goes_on : (c : Command) (a : Reply) (after : DeskView) → Ranged c → Acts kind d c a after → StandsAfter c a after
  command_goes_on (Move site article amount slot) a after (acts, six) (is, others) = lands site acts (Move site article amount slot) _ a after (move_goes site acts article amount slot (omega (arith, ints)) (knows_moves amount six)) is others
  command_goes_on (Offer site peer article slot) a after acts (is, others) = lands site acts (Offer site peer article slot) _ a after (offer_goes site acts peer article slot) is others
  command_goes_on (Take site slot) a after acts (((r, took, told), stay), others) = lands site acts (Take site slot) _ a after (take_goes site acts slot r (table_at after site) took) (λ i. record { table = table_at after site; slots = stay i; answer = told i }) others
  command_goes_on (Figure site article) a after acts (is, others) = lands site acts (Figure site article) _ a after (leaves site acts (Figure site article) _ (subst (λ b. Makes kind group run d (Figure site article) b []) (sym (counts site acts article)) (figures site article))) is others
  command_goes_on (OpenItem site peer article) a after acts (is, others) = lands site acts (OpenItem site peer article) _ a after (leaves site acts (OpenItem site peer article) _ (open_items site peer article)) is others
