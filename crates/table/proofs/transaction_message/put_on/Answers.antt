use Rattle.std.proofs.Common.{eqb, sym, ◌∙◌}
use Rattle.std.proofs.lemmas.Bool.{eq-eqb, ne_eqb}
use Rattle.std.proofs.lemmas.List.{drop_more}
use Rattle.message.specs.Progress.{no_action}
use Rattle.table.proofs.Putting.{leave_first, put_first}
use Rattle.table.proofs.transaction_message.put_on.Goals as goal
use Rattle.table.proofs.transaction_message.put_on.Goals.{then-action-article, else-action-article}

pub loop-action-preserved : goal.loop-action-preserved
loop-action-preserved c =
    let a = c.args.article in
    let first = drop_more c.args.actions.now c.loop-action.action-index no_action c.loop-action-test.true in
    elim c.if-action-article.branch [
      | then-action-article w ↦ put_first (λ x. eqb x.article a) _ _ _ _ _ _ _ _ first c.loop-action.invariant (sym (eq-eqb _ a w.if-action-article.true)) _ _ c.if-action-article.auto.buffer (w.at-is ∙ w.emit-at.ensures.end) (w.buffer-is ∙ w.emit-at.ensures.bytes)
      | else-action-article w ↦ leave_first (λ x. eqb x.article a) _ _ _ _ _ _ _ _ first c.loop-action.invariant (sym (ne_eqb _ a w.if-action-article.false)) _ _ w.at-is w.buffer-is
    ]
