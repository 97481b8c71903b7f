use Rattle.std.proofs.Common.{◌≡◌, map, rules}
use Rattle.examples.proofs.Folding.{fold_works}
use Rattle.examples.proofs.worked.Goals as goal

pub returns : goal.returns
returns g c =
    let steps = g.K.Kind.means.steps in
    let run = c.fold.ensures.runs in
    let folded = run.3 (λ f x. steps f x.now.operation x.now.amount) (λ f x r k called. search rules) in
    let items : map (λ x. x.now) run.0.items ≡ c.args.actions.now = search rules in
    search (rules, fold_works steps c.args.start run.0.items)
