use Rattle.std.proofs.Common.{Ok, arith, w64}
use Rattle.std.proofs.lemmas.Int.{to_z_pos}
use Rattle.message.proofs.Counts.{few_actions}
use Rattle.c_api.proofs.actions_of.Goals as goal

pub overflow_cast-result : goal.overflow_cast-result
overflow_cast-result g c =
    let told = c.in_ok-actions.ensures.accepted in
    record { sfits = omega (arith, told.3, few_actions g.K.Kind.means c.args.setup told.0 told.1) }

pub returns : goal.returns
returns g c =
    let told = c.in_ok-actions.ensures.accepted in
    record {
      answer = Ok c.in_ok-actions.actions;
      accepted = told;
      refused = c.in_ok-actions.ensures.refused;
      is = to_z_pos w64 c.in_ok-actions.actions (omega (arith, told.3, few_actions g.K.Kind.means c.args.setup told.0 told.1));
    }
