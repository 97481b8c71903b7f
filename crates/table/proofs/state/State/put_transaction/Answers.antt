use Rattle.std.proofs.Common.{◌≡◌, sym, ap, ◌∙◌, arith}
use Rattle.std.proofs.lemmas.List.{length-map}
use Rattle.message.specs.Buffer.{overwritten}
use Rattle.message.specs.Format.{header_bytes}
use Rattle.message.proofs.Buffers.{written_then}
use Rattle.table.specs.Transactions.{transaction_section, written_articles}
use Rattle.table.specs.View.{bare}
use Rattle.table.proofs.Sections.{header, length_transaction, transaction_is, wrote}
use Rattle.table.proofs.state.State.put_transaction.Goals as goal

pub emit-at-requires : goal.emit-at-requires
emit-at-requires g c = omega (arith, length_transaction (bare c.args.self.now) g.K.Kind.means)

pub put_sections-requires : goal.put_sections-requires
put_sections-requires g c =
    let end : c.emit-at.result ≡ 6 = c.emit-at.ensures.end in
    omega (arith, length_transaction (bare c.args.self.now) g.K.Kind.means)

pub returns : goal.returns
returns g c =
    let kind = g.K.Kind.means in
    let v = bare c.args.self.now in
    let b = c.args.buffer.now in
    let end : c.emit-at.result ≡ 6 = c.emit-at.ensures.end in
    let long = length_transaction v kind in
    let sections = c.requires.sections.0 ∙ sym (length-map (written_articles v) (transaction_section v)) in
    let first : c.emit-at.new.buffer ≡ overwritten b 0 (header v kind) = c.emit-at.ensures.bytes ∙ ap (λ h. overwritten b 0 (header_bytes h)) c.header-header.ensures ∙ ap (λ n. overwritten b 0 (header_bytes (record { group = v.setup.group; kind = kind.number; sender = v.setup.own; sections = n }))) sections in
    written_then b _ _ (header v kind) (wrote v v.setup.articles) 0 c.emit-at.result (omega arith) (omega arith) first c.put_sections.ensures ∙ ap (overwritten b 0) (sym (transaction_is v kind))
