use Rattle.std.proofs.Common.{◌≡◌, ◌++◌, not, take, drop, filter}
use Rattle.row.specs.Passes.{is_up_to}
use Rattle.row.proofs.archive.take_out_up_to.Given as goal

-- what is left to look at stands as it stood, and of the rest what stays
abbrev pub invariant-loop-i : goal.invariant-loop-i
invariant-loop-i g l =
    let all = g.H.History.items l.initial.history in
    record {
      list : g.H.History.items l.history ≡ take l.i all ++ filter (λ x. not (is_up_to l.article l.time x)) (drop l.i all);
      fixed : g.H.History.room l.history ≡ g.H.History.room l.initial.history;
    }
