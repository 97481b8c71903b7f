use Rattle.std.proofs.Common.{◌<◌, length, get_or, set, ap, ◌∙◌, arith, rules}
use Rattle.std.proofs.lemmas.List.Edits.{map_over_more}
use Rattle.std.proofs.lemmas.List.{get_or_default}
use Rattle.row.specs.Entries.{no_row}
use Rattle.row.specs.Rows.{restarted}
use Rattle.row.proofs.ledger.Ledger.restart.Goals as goal

pub loop-row-preserved : goal.loop-row-preserved
loop-row-preserved c =
    let ys = c.loop-row.row-items in
    let i = c.loop-row.row-index in
    let x = get_or ys i no_row in
    let within : i < length ys = omega arith in
    record {
      rows = ap (set ys i) c.restart.ensures ∙ map_over_more restarted c.args.self.now.rows ys i x (omega arith) c.loop-row.invariant.rows (get_or_default ys i no_row x within);
      long = search rules;
    }
