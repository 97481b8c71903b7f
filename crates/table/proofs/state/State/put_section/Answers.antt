use Rattle.std.proofs.Common.{◌≡◌, ◌+◌, ◌*◌, max, ◌++◌, length, sym, ap, ◌∙◌, arith}
use Rattle.std.specs.List.{flat_map}
use Rattle.std.proofs.lemmas.List.{append_assoc}
use Rattle.action.specs.Bytes.{action_bytes}
use Rattle.kind.specs.Working.{on}
use Rattle.message.specs.Buffer.{overwritten}
use Rattle.message.specs.Format.{head_of, interval_bytes, section_bytes}
use Rattle.message.proofs.Buffers.{written_then}
use Rattle.message.proofs.Formats.{section_is}
use Rattle.table.specs.Transactions.{latest, transaction_section}
use Rattle.table.specs.View.{bare, entry}
use Rattle.table.proofs.Sections.{length_transaction_section}
use Rattle.table.proofs.state.State.put_section.Goals as goal

pub put_on-requires : goal.put_on-requires
put_on-requires c =
    let v = bare c.args.self.now in
    let end₁ : c.emit-at.result ≡ c.args.start + 5 = c.emit-at.ensures.end in
    let end₂ : c.emit-at-2.result ≡ c.emit-at.result + 10 = c.emit-at-2.ensures.end in
    omega (arith, length_transaction_section v c.args.article, ap (λ l. length (on c.args.article l)) c.written_in-pending.ensures.value)

pub returns : goal.returns
returns c =
    let v = bare c.args.self.now in
    let a = c.args.article in
    let b = c.args.buffer.now in
    let start = c.args.start in
    let own = v.setup.own in
    let section = transaction_section v a in
    let S = section_bytes (head_of section) in
    let I = flat_map interval_bytes section.intervals in
    let A = flat_map action_bytes (on a v.pending) in
    let long = length_transaction_section v a in
    let pending : c.written_in-pending.result.now ≡ v.pending = c.written_in-pending.ensures.value in
    let end₁ : c.emit-at.result ≡ start + 5 = c.emit-at.ensures.end in
    let end₂ : c.emit-at-2.result ≡ c.emit-at.result + 10 = c.emit-at-2.ensures.end in
    let end₃ = c.put_on.ensures.end ∙ ap (λ l. c.emit-at-2.result + 16 * length (on a l)) pending in
    let first : c.emit-at.new.buffer ≡ overwritten b start S = c.emit-at.ensures.bytes ∙ ap (λ n. overwritten b start (section_bytes (record { article = a; intervals = 1; actions = n }))) c.requires.counted.0 in
    let from : c.entry-before.result ≡ entry v a own own = c.entry-before.ensures in
    let last : c.latest_on.result ≡ latest a v.pending = c.latest_on.ensures ∙ ap (latest a) pending in
    let to : c.max.result ≡ max (entry v a own own) (latest a v.pending) = c.max.ensures ∙ (λ i. max (from i) (last i)) in
    let second : c.emit-at-2.new.buffer ≡ overwritten c.emit-at.new.buffer c.emit-at.result I = c.emit-at-2.ensures.bytes ∙ (λ i. overwritten c.emit-at.new.buffer c.emit-at.result (interval_bytes (record { site = own; from = from i; to = to i }))) in
    let two = written_then b _ _ S I start c.emit-at.result (omega arith) (omega arith) first second in
    let third : c.put_on.new.buffer ≡ overwritten c.emit-at-2.new.buffer c.emit-at-2.result A = c.put_on.ensures.bytes ∙ ap (λ l. overwritten c.emit-at-2.new.buffer c.emit-at-2.result (flat_map action_bytes (on a l))) pending in
    let three = written_then b _ _ (S ++ I) A start c.emit-at-2.result (omega arith) (omega arith) two third in
    record {
      end = omega arith;
      bytes = three ∙ ap (overwritten b start) (append_assoc S I A ∙ sym (section_is section));
    }
