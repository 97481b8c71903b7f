use Rattle.std.proofs.Common.{◌≡◌, filter, ap, subst}
use Rattle.std.specs.List.{flat_map}
use Rattle.action.specs.Bytes.{action_bytes}
use Rattle.message.specs.Buffer.{overwritten}
use Rattle.table.specs.Offers.{is_offered, offer_actions}
use Rattle.table.specs.View.{View, bare}
use Rattle.table.proofs.Putting.{all_put, put_first}
use Rattle.table.proofs.offer.Offer.put_actions.Goals as goal

pub loop-action-preserved-then-carries : goal.loop-action-preserved-then-carries
loop-action-preserved-then-carries g c =
    let p = is_offered (bare c.store.inside.state) c.args.self.peer c.args.self.article in
    put_first p _ _ _ _ _ _ _ _ c.in-Some.ensures.steps c.loop-action.invariant c.if-carries.ensures _ _ c.emit-at.auto.buffer c.emit-at.ensures.end c.emit-at.ensures.bytes

pub returns-clause-bytes : goal.returns-clause-bytes
returns-clause-bytes g c =
    let items = g.H.History.items c.store.inside.history in
    let p = is_offered (bare c.store.inside.state) c.args.self.peer c.args.self.article in
    let put = all_put c.loop-action.buffer _ _ c.args.start _ (filter p items) (ap (filter p) c.in-None.ensures.steps.0) c.loop-action.invariant in
    subst (λ (v : View). c.loop-action.buffer ≡ overwritten c.args.buffer.now c.args.start (flat_map action_bytes (offer_actions v c.args.self.peer c.args.self.article))) c.store.view_is put
