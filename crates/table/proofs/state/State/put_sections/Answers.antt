use Rattle.std.proofs.Common.{◌≡◌, ◌+◌, true, false, length, sym, ap, ◌∙◌, arith}
use Rattle.std.proofs.lemmas.List.{length-append}
use Rattle.std.proofs.lemmas.Bool.{le-ltb, lt-ltb}
use Rattle.kind.specs.Working.{on}
use Rattle.message.specs.Buffer.{overwritten}
use Rattle.message.specs.Format.{section_format}
use Rattle.message.proofs.Buffers.{written_then}
use Rattle.table.specs.Transactions.{is_written, transaction_section}
use Rattle.table.specs.View.{bare}
use Rattle.table.proofs.Sections.{wrote, wrote_le, wrote_more, wrote_same}
use Rattle.table.proofs.state.State.put_sections.Goals as goal
use Rattle.table.proofs.state.State.put_sections.Goals.{then-count-gt0, else-count-gt0}

pub put_section-at-requires : goal.put_section-at-requires
put_section-at-requires c =
    let v = bare c.args.self.now in
    let a = c.loop-article.article in
    let counted : c.count_on-count.result ≡ length (on a v.pending) = c.count_on-count.ensures.value ∙ ap (λ l. length (on a l)) c.written_in-pending.ensures.value in
    let is : is_written v a ≡ true = lt-ltb 0 (length (on a v.pending)) (omega arith) in
    omega (arith, wrote_le v (a + 1) v.setup.articles (omega arith), ap length (wrote_more v a is), length-append (wrote v a) (section_format (transaction_section v a)), c.loop-article.auto.buffer)

pub loop-article-preserved : goal.loop-article-preserved
loop-article-preserved c =
    let v = bare c.args.self.now in
    let a = c.loop-article.article in
    let b = c.args.buffer.now in
    let start = c.args.start in
    let counted : c.count_on-count.result ≡ length (on a v.pending) = c.count_on-count.ensures.value ∙ ap (λ l. length (on a l)) c.written_in-pending.ensures.value in
    let new = section_format (transaction_section v a) in
    elim c.if-count-gt0.branch [
      | then-count-gt0 w ↦
          let is : is_written v a ≡ true = lt-ltb 0 (length (on a v.pending)) (omega (arith, w.if-count-gt0.true)) in
          let more = wrote_more v a is in (
            omega (arith, w.at-is, w.put_section-at.ensures.end, ap length more, length-append (wrote v a) new),
            w.buffer-is ∙ written_then b c.loop-article.buffer w.put_section-at.new.buffer (wrote v a) new start c.loop-article.at c.loop-article.invariant.0 (omega (arith, wrote_le v a v.setup.articles (omega arith))) c.loop-article.invariant.1 w.put_section-at.ensures.bytes ∙ ap (overwritten b start) (sym more),
          )
      | else-count-gt0 w ↦
          let is : is_written v a ≡ false = le-ltb 0 (length (on a v.pending)) (omega (arith, w.if-count-gt0.false)) in
          let same = wrote_same v a is in
          (omega (arith, w.at-is, ap length same), w.buffer-is ∙ c.loop-article.invariant.1 ∙ ap (overwritten b start) (sym same))
    ]
