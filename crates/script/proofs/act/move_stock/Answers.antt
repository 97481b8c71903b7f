use Rattle.std.proofs.Common.{replicate, take, Ok, sym, ap, ◌∙◌, subst, w32, to_z, of_z, rules}
use Rattle.std.proofs.lemmas.Int.{to_z-of_z}
use Rattle.table.specs.Transactions.{Committed}
use Rattle.script.specs.declared.answer.Answer.TheVariants.{Time}
use Rattle.script.specs.Acts.{move_outcome}
use Rattle.script.proofs.Held.{blank_is, committed_as, move_granted}
use Rattle.script.proofs.act.move_stock.Goals.{in-Err, in-Ok}
use Rattle.script.proofs.act.move_stock.Goals as goal

pub returns-in-Ok-posted : goal.returns-in-Ok-posted
returns-in-Ok-posted g c =
    let kind = g.K.Kind.means in
    let v = c.args.table.now in
    let u = c.write.new.self in
    let ticket = c.in_ok-ticket.ticket in
    let slot = c.args.slot.now in
    let z = c.args.amount in
    let article = c.args.article in
    let n = c.in-Ok-posted.length in
    elim c.match-write.branch [
      | in-Ok w ↦
          let after = w.commit.new.self in
          let end = w.commit.new.buffer in
          let done = committed_as w.commit.result w.map-posted.result _ w.in-Ok.time (c.in-Ok-posted.time, n) (λ x y h. search rules) w.map-posted.ensures.cases (sym w.posted-is ∙ c.in-Ok-posted.is) in
          let third = subst (λ b. Committed kind u ticket b (Ok (done.0, n)) after end) blank_is (subst (λ r. Committed kind u ticket (replicate 1200 0) r after end) done.1 w.commit.ensures.does) in
          (λ i. record { table = w.table-is i; slot = (c.keep.ensures ∙ ap (take n) w.buffer-is) i; answer = Ok (Time (done.2 i)) })
          ∙ move_granted kind v slot c.open.new.self u after ticket article (to_z w32 (of_z w32 z)) w.in-Ok.time done.0 n end c.in_ok-ticket.ensures.does w.in-Ok.ensures.does third
          ∙ ap (λ y. move_outcome kind v article y slot) (to_z-of_z w32 z c.ranges.amount)
      | in-Err w ↦ cc
    ]
