use Rattle.std.proofs.Common.{lit<, lit≤, refl}
use Rattle.std.specs.List.{AllByRecursion}
use Rattle.std.specs.Int.{int_wrap}
use Rattle.examples.specs.Table.{Holds, examples}
use Rattle.examples.proofs.Site.{site_sound, telling_lawful}
use Rattle.examples.proofs.examples_hold.Goals as goal

-- each row computes
rows_hold : AllByRecursion Holds examples
unfolding int_wrap
rows_hold = (refl, (refl, (refl, (refl, (refl, (refl, (refl, ((telling_lawful 1 2 4 (lit< tt) (lit≤ tt) (lit≤ tt), refl, refl), ((telling_lawful 1 3 4 (lit< tt) (lit≤ tt) (lit≤ tt), refl, refl), ((telling_lawful 0 2 2 (lit< tt) (lit≤ tt) (lit≤ tt), refl, refl), ((telling_lawful 0 2 3 (lit< tt) (lit≤ tt) (lit≤ tt), refl, refl), (refl, (refl, tt)))))))))))))

pub returns-then-flags_hold-clause-rows : goal.returns-then-flags_hold-clause-rows
returns-then-flags_hold-clause-rows c = rows_hold

pub returns-then-flags_hold-clause-sound : goal.returns-then-flags_hold-clause-sound
returns-then-flags_hold-clause-sound c = site_sound
