use Rattle.std.proofs.Common.{get_or, ap, ◌∙◌, arith, subst, w32, SFits, rules}
use Rattle.std.proofs.lemmas.Int.{to_z-of_z}
use Rattle.script.specs.Acts.{move_outcome, offer_outcome, reply_of}
use Rattle.script.specs.Lines.{Placed}
use Rattle.script.proofs.Turns.{as_named, settled_in}
use Rattle.script.proofs.act.act_at.Goals as goal

pub returns-in-Move : goal.returns-in-Move
returns-in-Move g c =
    let kind = g.K.Kind.means in
    let v = c.args.table.now in
    let slots = c.args.slots.now in
    let m = c.in-Move in
    let none = c.index-slots-from.result in
    let fits : SFits w32 m.amount = search rules in
    let placed = subst Placed m.is c.requires in
    let turn = settled_in slots m.slot c.from.result none c.move_stock.new.slot (move_outcome kind v m.article m.amount) _ (reply_of c.move_stock.result) c.from.ensures (omega (arith, placed)) (c.move_stock.ensures ∙ ap (λ z. move_outcome kind v m.article z (get_or slots c.from.result none)) (to_z-of_z w32 m.amount fits)) in
    as_named kind v slots _ _ _ m.is turn

pub returns-in-Offer : goal.returns-in-Offer
returns-in-Offer g c =
    let kind = g.K.Kind.means in
    let v = c.args.table.now in
    let slots = c.args.slots.now in
    let m = c.in-Offer in
    let placed = subst Placed m.is c.requires in
    let turn = settled_in slots m.slot c.from-in-Offer.result c.index-slots-from-in-Offer.result c.offer_article.new.slot (offer_outcome kind v m.peer m.article) v (reply_of c.offer_article.result) c.from-in-Offer.ensures (omega (arith, placed)) c.offer_article.ensures in
    as_named kind v slots _ _ _ m.is turn
