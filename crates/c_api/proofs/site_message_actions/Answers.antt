use Rattle.std.proofs.Common.{◌≡◌, rules, sym, subst, w64, to_z, of_z}
use Rattle.c_api.specs.Call.{Answered}
use Rattle.c_api.specs.Faults.{as_answer}
use Rattle.c_api.proofs.site_message_actions.Goals as goal

pub returns : goal.returns
returns c =
    let args = c.args in
    let is : to_z w64 (of_z w64 c.as_answer.result) ≡ as_answer c.actions_for.result = search rules in
    subst (Answered args.message.now args.group args.kind args.sites args.articles) (sym is) c.actions_for.ensures
