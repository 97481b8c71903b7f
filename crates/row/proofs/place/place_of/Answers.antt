use Rattle.std.proofs.Common.{rules, arith, ◌≡◌, ◌+◌, ◌-◌, ◌<◌, ◌/◌, false, get_or}
use Rattle.std.proofs.lemmas.List.{get_or_read}
use Rattle.action.specs.Order.{precedes}
use Rattle.row.proofs.Sorting.{past, place_found}
use Rattle.row.proofs.place.place_of.Goals as goal

-- the one in the middle does not precede the action, so none behind it does
pub loop-low-preserved : goal.loop-low-preserved
loop-low-preserved g c =
    let xs = g.H.History.items c.args.history.now in
    let x = c.args.action.now in
    let m = c.loop-low.low + (c.loop-low.high - c.loop-low.low) / 2 in
    let inv = c.loop-low.invariant in
    let some : c.loop-low.low < c.loop-low.high = c.loop-low-test.true in
    let below : m < c.loop-low.high = omega arith in
    let read : c.place-in-loop-low.result ≡ get_or xs m x = get_or_read xs m c.place-in-loop-low.result (omega (arith, inv.within)) c.place-in-loop-low.ensures x in
    let fails : precedes (get_or xs m x) x ≡ false = search (rules, read) in
    record {
      order = omega arith;
      within = omega (arith, inv.within);
      before = inv.before;
      behind = λ k ge lt. past x xs m k c.requires ge lt fails;
    }

pub returns : goal.returns
returns g c =
    let inv = c.loop-low.invariant in
    let xs = g.H.History.items c.args.history.now in
    place_found xs c.args.action.now c.loop-low.low (omega (arith, inv.order, inv.within)) inv.before (λ k ge lt. inv.behind k (omega (arith, inv.order, ge, c.loop-low-test.false)) lt)
