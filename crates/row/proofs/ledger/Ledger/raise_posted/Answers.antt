use Rattle.std.proofs.Common.{◌≡◌, get_or, sym, ap, ◌∙◌, rules}
use Rattle.std.proofs.lemmas.List.Sums.{fold_more}
use Rattle.message.specs.Progress.{no_action}
use Rattle.row.specs.Rows.{on_row, raised_row}
use Rattle.row.proofs.ledger.Ledger.raise_posted.Goals as goal

pub loop-action-preserved : goal.loop-action-preserved
loop-action-preserved c =
    let own = c.args.self.now.setup.own in
    let raise = on_row (λ x. raised_row own own x.time) in
    let actions = c.args.actions.now in
    let i = c.loop-action.action-index in
    let action = get_or actions i no_action in
    let raised : c.on_row.new.self.rows ≡ raise c.loop-action.self.rows action = c.on_row.ensures.rows (raised_row own own action.time) (λ r s h. search rules) in
    record {
      rows = raised ∙ ap (λ l. raise l action) c.loop-action.invariant.rows ∙ sym (fold_more raise c.args.self.now.rows actions i no_action c.loop-action-test.true);
      fixed = c.on_row.ensures.fixed ∙ c.loop-action.invariant.fixed;
    }
