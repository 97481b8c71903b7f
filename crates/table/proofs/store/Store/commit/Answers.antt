use Rattle.std.proofs.Common.{◌≡◌, length, None, Ok, sym, ap, ◌∙◌, subst, rules}
use Rattle.table.specs.Transactions.{Committed, commit_refusal, committed}
use Rattle.table.specs.View.{View}
use Rattle.table.proofs.Viewed.{view_in}
use Rattle.table.proofs.store.Store.commit.Goals as goal

pub returns : goal.returns
returns g c =
    let kind = g.K.Kind.means in
    let v = view_in c.self.view_is in
    let granted : commit_refusal kind v c.args.ticket ≡ None = search rules in
    let after : c.post.new.self ≡ committed kind v = c.post.ensures ∙ ap (committed kind) (sym c.self.view_is) in
    subst (λ (v : View). Committed kind v c.args.ticket c.args.buffer.now (Ok (length c.written_in-writes.result.now, c.send-length.result)) c.post.new.self c.send-length.new.buffer) c.self.view_is (granted, ap length c.written_in-writes.ensures.value, c.send-length.ensures.length, after, c.send-length.ensures.bytes)
