use Rattle.std.proofs.Common.{◌≡◌, ℕ, ◌-◌, ◌<◌, ◌≤◌, true, false, length, get_or}
use Rattle.action.specs.Order.{precedes}
use Rattle.row.proofs.place.place_of.Given as goal

-- what is before the part that is left precedes the action, and nothing behind it does
abbrev pub invariant-loop-low : goal.invariant-loop-low
invariant-loop-low g l =
    let xs = g.H.History.items l.history in
    record {
      order : l.low ≤ l.high;
      within : l.high ≤ length xs;
      before : 0 < l.low → precedes (get_or xs (l.low - 1) l.action) l.action ≡ true;
      behind : (k : ℕ) → l.high ≤ k → k < length xs → precedes (get_or xs k l.action) l.action ≡ false;
    }

abbrev pub decreases-loop-low : goal.decreases-loop-low
decreases-loop-low g l = l.high - l.low
