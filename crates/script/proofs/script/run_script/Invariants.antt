use Rattle.std.proofs.Common.{◌≡◌, ℕ, ◌≤◌, List, ◌++◌, map, length}
use Rattle.std.specs.Iterator.Adapters.{enumerate_count, enumerate_source}
use Rattle.std.specs.Vec.{vec_capacity}
use Rattle.script.specs.Scripts.{PerformsAll, lines, script}
use Rattle.script.proofs.script.run_script.Given as goal

-- the lines done so far, how many they are and what they printed, and the lines of the rest; the output's
-- capacity did not shrink
abbrev pub invariant-loop-index : goal.invariant-loop-index
invariant-loop-index g l =
    let done = map (λ b. b.1.now) l.yielded in
    record {
      whole : script l.input ≡ done ++ lines (enumerate_source l.index-iterator).text.now;
      counted : enumerate_count l.index-iterator ≡ length done;
      kept_room : vec_capacity l.initial.out ≤ vec_capacity l.out;
      ran : (sheet : List ℕ) × PerformsAll g.K.Kind.means l.initial.desk 0 done l.desk sheet × (l.out.items ≡ l.initial.out.items ++ sheet);
    }
