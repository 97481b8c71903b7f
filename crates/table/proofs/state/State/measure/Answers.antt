use Rattle.std.proofs.Common.{◌≡◌, ◌+◌, ◌≤◌, true, false, length, sym, ap, ◌∙◌, arith}
use Rattle.std.proofs.lemmas.List.{length-append, length_push}
use Rattle.std.proofs.lemmas.Bool.{le-ltb, lt-ltb}
use Rattle.kind.specs.Working.{on}
use Rattle.message.specs.Format.{section_format}
use Rattle.table.specs.declared.transaction_message.Size.{Size}
use Rattle.table.specs.Transactions.{is_written, transaction_section}
use Rattle.table.specs.View.{bare}
use Rattle.table.proofs.Sections.{below, below_more, below_same, length_transaction, length_transaction_section, wrote, wrote_more, wrote_same}
use Rattle.table.proofs.state.State.measure.Goals as goal
use Rattle.table.proofs.state.State.measure.Goals.{then-count-gt0, else-count-gt0}

pub loop-article-preserved : goal.loop-article-preserved
loop-article-preserved g c =
    let v = bare c.args.self.now in
    let a = c.loop-article.article in
    let inv = c.loop-article.invariant in
    let count = c.count_on-count.result in
    let counted : count ≡ length (on a v.pending) = c.count_on-count.ensures.value ∙ ap (λ l. length (on a l)) c.written_in-pending.ensures.value in
    let few : count ≤ 16 = omega (arith, c.count_on-count.ensures.few, c.written_in-pending.ensures.few) in
    elim c.if-count-gt0.branch [
      | then-count-gt0 w ↦
          let is : is_written v a ≡ true = lt-ltb 0 (length (on a v.pending)) (omega (arith, w.if-count-gt0.true)) in
          let sections = ap (λ (z : Size). z.sections) w.size-is in
          let long = ap (λ (z : Size). z.length) w.size-is in (
            omega (arith, sections, inv.0),
            omega (arith, long, inv.1, few),
            omega (arith, sections, inv.2, ap length (below_more v a is), length_push (below v a) a),
            omega (arith, long, inv.3, counted, ap length (wrote_more v a is), length-append (wrote v a) (section_format (transaction_section v a)), length_transaction_section v a),
          )
      | else-count-gt0 w ↦
          let is : is_written v a ≡ false = le-ltb 0 (length (on a v.pending)) (omega (arith, w.if-count-gt0.false)) in
          let sections = ap (λ (z : Size). z.sections) w.size-is in
          let long = ap (λ (z : Size). z.length) w.size-is in (
            omega (arith, sections, inv.0),
            omega (arith, long, inv.1),
            omega (arith, sections, inv.2, ap length (below_same v a is)),
            omega (arith, long, inv.3, ap length (wrote_same v a is)),
          )
    ]

pub returns-clause-bytes : goal.returns-clause-bytes
returns-clause-bytes g c =
    let v = bare c.args.self.now in
    let done : c.loop-article.article ≡ v.setup.articles = omega arith in
    c.loop-article.invariant.3 ∙ ap (λ k. 6 + length (wrote v k)) done ∙ sym (length_transaction v g.K.Kind.means)
