use Rattle.std.proofs.lemmas.Result.{IfOk-weaker}
use Rattle.script.specs.Desk.{FreshDesk}
use Rattle.script.specs.Standing.{NewStands}
use Rattle.script.proofs.Standing.{new_stands}
use Rattle.script.proofs.desk.Desk.new.Goals as goal

pub returns : goal.returns
returns g c =
    let kind = g.K.Kind.means in
    record { fresh = c.make.ensures; stands = IfOk-weaker c.make.result (FreshDesk kind) (NewStands kind) (new_stands kind) c.make.ensures }
