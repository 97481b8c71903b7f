use Rattle.std.proofs.Common.{Ok, Err, None, ap, ◌∙◌}
use Rattle.std.proofs.lemmas.Result.{err_from_is_err_and}
use Rattle.table.specs.Offers.{offer_bytes}
use Rattle.runs.proofs.Writing.{written_back}
use Rattle.script.specs.declared.answer.Answer.TheVariants.{Length}
use Rattle.script.specs.Acts.{reply_of}
use Rattle.script.specs.Faults.{shown}
use Rattle.script.proofs.Held.{offer_decided}
use Rattle.script.proofs.act.offer_article.Goals as goal

pub returns-in_err-length : goal.returns-in_err-length
returns-in_err-length g c =
    let v = c.args.table.now in
    let slot = c.args.slot.now in
    let fault = err_from_is_err_and c.from_residual.result c.from_residual.ensures.1 in
    (λ i. record { table = v; slot = slot; answer = (ap reply_of fault.1 ∙ ap (λ e. Err (shown e)) fault.2) i }) ∙ offer_decided g.K.Kind.means v slot c.args.peer c.args.article _ c.in_err-length.ensures.does.0

pub returns : goal.returns
returns g c =
    let kind = g.K.Kind.means in
    let v = c.args.table.now in
    let told = c.in_ok-length.ensures.does in
    let bytes = offer_bytes kind v c.args.peer c.args.article in
    (λ i. record { table = v; slot = (c.keep.ensures ∙ written_back _ bytes _ c.in_ok-length.length told.1 told.2) i; answer = Ok (Length (told.1 i)) }) ∙ offer_decided kind v c.args.slot.now c.args.peer c.args.article None told.0
