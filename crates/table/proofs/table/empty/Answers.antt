use Rattle.std.proofs.Common.{◌-◌, length, ap, ◌∙◌, arith}
use Rattle.std.proofs.lemmas.List.Edits.{length-remove}
use Rattle.history.proofs.Granted.{granted_remove}
use Rattle.table.proofs.table.empty.Goals as goal

pub loop-last-preserved : goal.loop-last-preserved
loop-last-preserved g c =
    let xs = g.H.History.items c.loop-last.history in
    let i = c.loop-last.last - 1 in
    let gone = granted_remove xs i c.remove.result (g.H.History.items c.remove.new.self) (omega arith) c.remove.ensures.list in
    (omega (arith, ap length gone, length-remove xs i (omega arith)), c.remove.ensures.fixed ∙ c.loop-last.invariant.1)
