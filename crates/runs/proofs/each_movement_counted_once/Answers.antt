use Rattle.runs.proofs.Counting.{counts_each_once, level}
use Rattle.runs.proofs.Going.{gone_on}
use Rattle.runs.proofs.Laws.{every_run, run_stands}
use Rattle.runs.proofs.Repeating.{repeats}
use Rattle.runs.proofs.Truth.{believes_no_more, enters_messages, learns_from_messages, no_site_ahead, tells_the_truth}
use Rattle.runs.proofs.each_movement_counted_once.Goals as goal

pub returns : goal.returns
returns g c =
    let kind = g.K.Kind.means in
    let met = g.met.K.Kind in
    let small = met.number_fits in
    let stands = run_stands kind small met.start_fits met.step_fits met.commute in
    record {
      counted = every_run kind stands (counts_each_once kind);
      level = every_run kind stands (level kind);
      repeated = every_run kind stands (repeats kind small);
      believed = every_run kind stands (believes_no_more kind);
      none_ahead = every_run kind stands (no_site_ahead kind);
      truthful = every_run kind stands (tells_the_truth kind);
      learned = every_run kind stands (learns_from_messages kind);
      entered = every_run kind stands (λ group events views st. enters_messages kind group events views st small);
      gone_on = gone_on kind;
    }
