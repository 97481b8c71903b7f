-- A desk that stands at the end of a run stands at the end of a longer one after each line and script; and a new desk
-- stands at the end of a run of no events.
use Rattle.std.proofs.Common.{◌≡◌, ℕ, zero, suc, ◌+◌, ◌<◌, true, List, [], ◌∷◌, ◌++◌, length, replicate, ℤ, IfSome, Some, None, Ok, Err, Option, Result, sym, refl, ap, subst, arith, rules}
use Rattle.std.specs.List.{AllByRecursion}
use Rattle.std.specs.declared.alloc.AllocError.{AllocError}
use Rattle.kind.specs.Meaning.{Meaning}
use Rattle.table.specs.View.{View}
use Rattle.runs.specs.Events.{Event}
use Rattle.runs.specs.Laws.{EveryRun}
use Rattle.runs.specs.Runs.{Group}
use Rattle.runs.proofs.Standing.{Standing}
use Rattle.script.specs.declared.command.Command.{Command}
use Rattle.script.specs.Acts.{Reply}
use Rattle.script.specs.Desk.{DeskView, FreshDesk, FreshSite, Performs, PerformsCommand, desk_room, table_at}
use Rattle.script.specs.Lines.{command}
use Rattle.script.specs.Moves.{SixDigits}
use Rattle.script.specs.Scripts.{PerformsAll, Scripted}
use Rattle.script.specs.Standing.{AfterRun, Kept, LineStands, MakesLine, NewStands, PlaysAll, ScriptStands}
use Rattle.script.proofs.Made.{command_goes_on}
use Rattle.script.proofs.Ranges.{Ranged, command_ranged}

module _ (kind : Meaning) where
  -- ONE LINE, AND ONE AFTER ANOTHER

  module _ (run_stands : EveryRun kind (Standing kind)) (knows_moves : (amount : ℤ) → SixDigits amount → kind.knows 1 amount ≡ true) where
    pub line_stands : (d : DeskView) (index : ℕ) (line : List ℕ) (a : Reply) (after : DeskView) → Performs kind d index line a after → LineStands kind d index line a after
    line_stands d index line a after performs group run stood =
        let goes = by_command (command line) (command_ranged line) performs in
        (goes.0, (performs, goes.1, goes.2))
      where
        by_command : (o : Option Command) → IfSome o Ranged → PerformsCommand kind d index o a after → (calls : List Event) × MakesLine kind group run d index o a calls after × AfterRun kind group (calls ++ run) after
        by_command None ranged is = ([], (refl, is.0, is.1), subst (AfterRun kind group run) (sym is.0) stood)
        by_command (Some c) ranged is =
            let goes = command_goes_on kind run_stands knows_moves group run d stood c a after ranged is in
            (goes.0, (goes.1, goes.2), goes.3)

    lines_stand : (group : Group) (run : List Event) (d : DeskView) (index : ℕ) (lines : List (List ℕ)) (after : DeskView) (bytes : List ℕ) → PerformsAll kind d index lines after bytes → AfterRun kind group run d → (later : List Event) × PlaysAll kind group run d index lines later after bytes × AfterRun kind group later after
    lines_stand group run d index [] after bytes is stood = (run, (refl, is.0, is.1), subst (AfterRun kind group run) (sym is.0) stood)
    lines_stand group run d index (line ∷ lines) after bytes (between, sheet, rest, (a, first, printed), others, is) stood =
        let one = line_stands d index line a between first group run stood in
        let all = lines_stand group (one.0 ++ run) between (index + 1) lines after rest others one.1.2 in
        (all.0, (one.0, between, sheet, rest, (a, one.1, printed), all.1, is), all.2)

    pub script_stands : (d : DeskView) (input out : List ℕ) (capacity : ℕ) (r : Result Unit AllocError) (after : DeskView) (grown : List ℕ) → Scripted kind d input out capacity r after grown → ScriptStands kind d input out capacity r after grown
    script_stands d input out capacity (Ok _) after grown (sheet, all, is) group run stood =
        let goes = lines_stand group run d 0 _ after sheet all stood in
        (goes.0, sheet, goes.1, goes.2, is)
    script_stands d input out capacity (Err _) after grown (done, line, rest, split, between, sheet, lost, all, (a, last, printed), is, full) group run stood =
        let goes = lines_stand group run d 0 done between sheet all stood in
        let one = line_stands between (length done) line a after last group goes.0 goes.2 in
        (done, line, rest, split, goes.0, between, sheet, goes.1, one.0, lost, (a, one.1, printed), is, full)

  -- A NEW DESK

  fresh_at : (d : DeskView) → FreshDesk kind d → (s : ℕ) → s < 3 → FreshSite kind s (table_at d s)
  fresh_at d new zero inside = new.first
  fresh_at d new (suc zero) inside = new.second
  fresh_at d new (suc (suc n)) inside =
      let last : 2 ≡ suc (suc n) = omega arith in
      subst (λ s. FreshSite kind s d.third) last new.third

  pub new_stands : (d : DeskView) → FreshDesk kind d → NewStands kind d
  new_stands d new =
      let group : Group = record {
        number = 1;
        sites = 3;
        articles = 4;
        setup = λ s. (table_at d s).setup;
        room = λ s. desk_room;
        agrees = λ s inside. let site = fresh_at d new s inside in record { group_is = site.group; sites_are = site.sites; articles_are = site.articles; own_is = site.own };
        few_places = λ s inside. omega arith;
      } in
      let none : AllByRecursion (Kept []) (replicate 10 []) = search rules in
      (group, record { group_is = refl; sites_are = refl; articles_are = refl; rooms_are = λ s inside. refl; ran = λ s inside. (fresh_at d new s inside).new; closed = λ s inside. ap (λ (v : View). v.is_open) (fresh_at d new s inside).new; slots = subst (AllByRecursion (Kept [])) (sym new.slots) none })
