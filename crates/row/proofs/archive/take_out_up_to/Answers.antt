use Rattle.std.proofs.Common.{◌∙◌, arith}
use Rattle.row.specs.Passes.{is_up_to}
use Rattle.row.proofs.Sifting.{sifted_on, sifted_out}
use Rattle.row.proofs.archive.take_out_up_to.Goals as goal

pub loop-i-preserved-then-is_up_to : goal.loop-i-preserved-then-is_up_to
loop-i-preserved-then-is_up_to g c =
    let items = g.H.History.items in
    record {
      list = c.take_out.ensures.list ∙ sifted_out (is_up_to c.args.article c.args.time) (items c.args.history.now) (items c.loop-i.history) c.loop-i.i _ (omega arith) (omega arith) c.loop-i.invariant.list c.place-action.result c.place-action.ensures c.if-is_up_to.ensures;
      fixed = c.take_out.ensures.fixed ∙ c.loop-i.invariant.fixed;
    }

pub loop-i-preserved : goal.loop-i-preserved
loop-i-preserved g c =
    let items = g.H.History.items in
    record {
      list = sifted_on (is_up_to c.args.article c.args.time) (items c.args.history.now) (items c.loop-i.history) c.loop-i.i _ (omega arith) (omega arith) c.loop-i.invariant.list c.place-action.result c.place-action.ensures c.if-is_up_to.ensures;
      fixed = c.loop-i.invariant.fixed;
    }
