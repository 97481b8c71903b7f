use Rattle.std.proofs.Common.{◌≡◌, ℕ, ◌≤◌, Bor, List, [], ◌∷◌, ◌++◌, map, length, take, Ok, sym, refl, ap, ◌∙◌, subst, inl, arith, length-append, length-take}
use Rattle.std.proofs.lemmas.List.{append_assoc, append-nil, map-append}
use Rattle.std.proofs.lemmas.Result.{err_from_is_err_and}
use Rattle.std.specs.Iterator.Adapters.{enumerate_count, enumerate_source}
use Rattle.std.specs.Vec.{vec_capacity}
use Rattle.std.specs.declared.iter.Enumerate.{Enumerate}
use Rattle.runs.proofs.Laws.{run_stands}
use Rattle.script.specs.declared.script.Lines.{Lines}
use Rattle.script.specs.Acts.{reply_of}
use Rattle.script.specs.Desk.{Performs}
use Rattle.script.specs.Scripts.{PerformsAll, Scripted, lines, script}
use Rattle.script.specs.Sheets.{Printed, sheet_bytes}
use Rattle.script.proofs.Lined.{cut, few_lines, runs_more}
use Rattle.script.proofs.Standing.{script_stands}
use Rattle.script.proofs.script.run_script.Given.{Over}
use Rattle.script.proofs.script.run_script.Goals.{After-into_iter-index-iterator}
use Rattle.script.proofs.script.run_script.Goals as goal

module _ (g : Over) (c : After-into_iter-index-iterator g) where
  -- what is read of the script
  text_is : (enumerate_source c.into_iter-index-iterator.result).text.now ≡ take c.min.result c.args.input.now
  text_is = ap (λ (s : Enumerate Lines). (enumerate_source s).text.now) c.into_iter-index-iterator.ensures.into_iter_gives ∙ ap (λ (s : Lines). s.text.now) c.enumerate-index-items.ensures.source

  from_zero : enumerate_count c.into_iter-index-iterator.result ≡ 0
  from_zero = ap enumerate_count c.into_iter-index-iterator.ensures.into_iter_gives ∙ c.enumerate-index-items.ensures.count

pub loop-index-init-derived : goal.loop-index-init-derived
loop-index-init-derived g c =
    let text = (enumerate_source c.into_iter-index-iterator.result).text.now in
    let short : length text ≤ 32768 = omega (arith, ap length (text_is g c), length-take c.min.result c.args.input.now, c.min.ensures) in
    ((tt, tt, inl (omega (arith, short, few_lines text, from_zero g c))), tt)

pub loop-index-init : goal.loop-index-init
loop-index-init g c = record {
  whole = ap lines (cut c.args.input.now c.min.result c.min.ensures ∙ sym (text_is g c));
  counted = from_zero g c;
  kept_room = omega arith;
  ran = ([], (refl, refl), sym (append-nil c.args.out.now.items));
}

pub loop-index-preserved : goal.loop-index-preserved
loop-index-preserved g c =
    let kind = g.K.Kind.means in
    let start = c.args.desk.now in
    let line = c.in-Some.line.now in
    let inv = c.loop-index.invariant in
    let done = map (λ b. b.1.now) c.loop-index.yielded in
    let steps = c.in-Some.ensures.steps in
    let before = inv.ran.0 in
    let sheet = sheet_bytes c.run-sheet.result.1 in
    let after = c.run-sheet.new.self in
    let this : ℕ × Bor (List ℕ) = (c.in-Some.index, c.in-Some.line) in
    let more : map (λ b. b.1.now) (c.loop-index.yielded ++ (this ∷ [])) ≡ done ++ (line ∷ []) = map-append (λ b. b.1.now) c.loop-index.yielded (this ∷ []) in
    record {
      whole = inv.whole ∙ ap (λ ls. done ++ ls) steps.0 ∙ sym (append_assoc done (line ∷ []) _) ∙ ap (λ ls. ls ++ lines (enumerate_source c.next.new.self).text.now) (sym more);
      counted = omega (arith, steps.2, inv.counted, ap length more, length-append done (line ∷ []));
      kept_room = omega (arith, inv.kept_room, c.in_ok-extend_from_slice.ensures.capacity);
      ran = (
        before ++ sheet,
        subst (λ ls. PerformsAll kind start 0 ls after (before ++ sheet)) (sym more) (runs_more kind start c.loop-index.desk after 0 c.in-Some.index done line before sheet (omega (arith, steps.1, inv.counted)) inv.ran.1 (reply_of c.run-sheet.result.0, c.run-sheet.ensures.does, c.run-sheet.ensures.printed)),
        c.in_ok-extend_from_slice.ensures.items ∙ (λ i. inv.ran.2 i ++ c.as_slice.ensures i) ∙ append_assoc c.args.out.now.items before sheet,
      );
    }

pub returns-in_err-extend_from_slice : goal.returns-in_err-extend_from_slice
returns-in_err-extend_from_slice g c =
    let kind = g.K.Kind.means in
    let met = g.met.K.Kind in
    let start = c.args.desk.now in
    let input = c.args.input.now in
    let out = c.args.out.now.items in
    let room = vec_capacity c.args.out.now in
    let line = c.in-Some.line.now in
    let inv = c.loop-index.invariant in
    let done = map (λ b. b.1.now) c.loop-index.yielded in
    let steps = c.in-Some.ensures.steps in
    let lost = sheet_bytes c.run-sheet.result.1 in
    let after = c.run-sheet.new.self in
    let grown = c.extend_from_slice.new.self.items in
    let fault = err_from_is_err_and c.from_residual.result c.from_residual.ensures.1 in
    let does : Scripted kind start input out room c.from_residual.result after grown =
    subst (λ r. Scripted kind start input out room r after grown) (sym fault.1) (
      done,
      line,
      lines (enumerate_source c.next.new.self).text.now,
      inv.whole ∙ ap (λ ls. done ++ ls) steps.0,
      c.loop-index.desk,
      inv.ran.0,
      lost,
      inv.ran.1,
      subst (λ n. Printed line lost (λ a. Performs kind c.loop-index.desk n line a after)) (steps.1 ∙ inv.counted) (reply_of c.run-sheet.result.0, c.run-sheet.ensures.does, c.run-sheet.ensures.printed),
      c.in_err-extend_from_slice.ensures.items ∙ inv.ran.2,
      omega (arith, inv.kept_room, c.in_err-extend_from_slice.ensures.full, c.loop-index.out.ok.0, ap length c.in_err-extend_from_slice.ensures.items, ap length c.as_slice.ensures),
    )
    in
    record { does = does; stands = script_stands kind (run_stands kind met.number_fits met.start_fits met.step_fits met.commute) g.met.K.Movable.knows_moves start input out room c.from_residual.result after grown does }

pub returns : goal.returns
returns g c =
    let kind = g.K.Kind.means in
    let met = g.met.K.Kind in
    let start = c.args.desk.now in
    let input = c.args.input.now in
    let out = c.args.out.now.items in
    let room = vec_capacity c.args.out.now in
    let after = c.loop-index.desk in
    let grown = c.loop-index.out.items in
    let inv = c.loop-index.invariant in
    let done = map (λ b. b.1.now) c.loop-index.yielded in
    let all : script input ≡ done = inv.whole ∙ ap (λ ls. done ++ ls) c.in-None.ensures.steps.0.0 ∙ append-nil done in
    let does : Scripted kind start input out room (Ok tt) after grown = (inv.ran.0, subst (λ ls. PerformsAll kind start 0 ls after inv.ran.0) (sym all) inv.ran.1, inv.ran.2) in
    record { does = does; stands = script_stands kind (run_stands kind met.number_fits met.start_fits met.step_fits met.commute) g.met.K.Movable.knows_moves start input out room (Ok tt) after grown does }
