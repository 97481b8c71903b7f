use Rattle.std.proofs.Common.{rules}
use Rattle.runs.proofs.Laws.{run_stands}
use Rattle.script.specs.Acts.{reply_of}
use Rattle.script.specs.Desk.{Performs}
use Rattle.script.proofs.Standing.{line_stands}
use Rattle.script.proofs.desk.Desk.run.Goals as goal

pub returns : goal.returns
returns g c =
    let kind = g.K.Kind.means in
    let met = g.met.K.Kind in
    let d = c.args.self.now in
    let index = c.args.index in
    let line = c.args.line.now in
    let a = reply_of c.perform_command-answer.result in
    let after = c.perform_command-answer.new.self in
    let does : Performs kind d index line a after = search rules in
    record { does = does; printed = search rules; stands = line_stands kind (run_stands kind met.number_fits met.start_fits met.step_fits met.commute) g.met.K.Movable.knows_moves d index line a after does }
