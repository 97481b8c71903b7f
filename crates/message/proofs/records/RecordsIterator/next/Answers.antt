use Rattle.std.proofs.Common.{◌+◌, ◌∷◌, sym, ap, ◌∙◌}
use Rattle.message.specs.Found.{found_from}
use Rattle.message.proofs.Yields.{found_next, takes_goes}
use Rattle.message.proofs.records.RecordsIterator.next.Goals as goal

pub returns : goal.returns
returns c =
    let bytes = c.self.inside.bytes.now in
    let at = c.self.inside.at in
    let r = c.in_ok-record.record in
    let first = sym c.self.view_is ∙ found_next bytes at r (sym c.in_ok-record.ensures.value) ∙ ap (λ n. record { offset = at; «record» = r } ∷ found_from bytes (at + n)) (sym c.size.ensures) in
    record { steps = first; goes = takes_goes _ _ _ first }
