use Rattle.std.proofs.Common.{sym, refl, ap, ◌∙◌, Ok, Err, subst, rules}
use Rattle.std.proofs.lemmas.Bool.{not-true}
use Rattle.std.proofs.lemmas.Result.{err_from_is_err_and}
use Rattle.action.specs.Lawful.{by_table}
use Rattle.history.specs.Faults.{shown}
use Rattle.table.specs.Taking.{TakeRefused, Took, taken}
use Rattle.table.specs.View.{View}
use Rattle.table.proofs.Refusals.{checked_room, take_ahead, take_behind, take_full, take_whole, told}
use Rattle.table.proofs.Viewed.{view_in}
use Rattle.table.proofs.store.Store.take.Goals as goal

pub returns-in-Some : goal.returns-in-Some
returns-in-Some g c =
    let v = view_in c.self.view_is in
    let found = c.in_ok-check.ensures.accepted in
    (subst (λ (v : View). TakeRefused g.K.Kind.means v c.args.bytes.now (by_table 13 c.in-Some.place)) c.self.view_is (take_behind g.K.Kind.means g.met.K.Kind.number_fits v (not-true _ c.in_ok-check_closed.ensures) found.0 found.1 _ found.2 c.in-Some.place c.in-Some.ensures), refl)

pub returns-in-Some-first_ahead : goal.returns-in-Some-first_ahead
returns-in-Some-first_ahead g c =
    let v = view_in c.self.view_is in
    let found = c.in_ok-check.ensures.accepted in
    (subst (λ (v : View). TakeRefused g.K.Kind.means v c.args.bytes.now (by_table 14 c.in-Some-first_ahead.place)) c.self.view_is (take_ahead g.K.Kind.means g.met.K.Kind.number_fits v (not-true _ c.in_ok-check_closed.ensures) found.0 found.1 _ found.2 c.in_default.ensures c.in-Some-first_ahead.place c.in-Some-first_ahead.ensures), refl)

pub returns : goal.returns
returns g c =
    let v = view_in c.self.view_is in
    let found = c.in_ok-check.ensures.accepted in
    let shut = not-true _ c.in_ok-check_closed.ensures in
    let is = told g.K.Kind.means g.met.K.Kind.number_fits v shut found.0 found.1 _ found.2 in
    let free = checked_room c.self.view_is c.args.bytes.now (Ok tt) c.count_new-new.ensures c.in_ok-check_room.ensures in
    subst (λ (v : View). Took g.K.Kind.means v c.args.bytes.now (Ok c.count_new-new.result) c.absorb.new.self) c.self.view_is (take_whole g.K.Kind.means g.met.K.Kind.number_fits v shut found.0 found.1 _ found.2 c.in_default.ensures c.in_default-first_ahead.ensures free _ _ c.count_new-new.ensures (c.absorb.ensures found.0 is ∙ ap (λ (v : View). taken g.K.Kind.means v found.0) (sym c.self.view_is)))

pub returns-in_err-check : goal.returns-in_err-check
returns-in_err-check g c =
    let v = view_in c.self.view_is in
    let shut = not-true _ c.in_ok-check_closed.ensures in
    subst (λ (v : View). Took g.K.Kind.means v c.args.bytes.now c.from_residual-in_err-check.result v) c.self.view_is (search (rules, shut))

pub returns-in_err-check_room : goal.returns-in_err-check_room
returns-in_err-check_room g c =
    let v = view_in c.self.view_is in
    let fault = c.in_err-check_room.field-0.0 in
    let found = c.in_ok-check.ensures.accepted in
    let over = checked_room c.self.view_is c.args.bytes.now (Err fault) c.count_new-new.ensures c.in_err-check_room.ensures in
    let refused = subst (λ (v : View). TakeRefused g.K.Kind.means v c.args.bytes.now (shown fault)) c.self.view_is (take_full g.K.Kind.means g.met.K.Kind.number_fits v (not-true _ c.in_ok-check_closed.ensures) found.0 found.1 _ found.2 c.in_default.ensures c.in_default-first_ahead.ensures (shown fault) over) in
    let exit = err_from_is_err_and c.from_residual-in_err-check_room.result c.from_residual-in_err-check_room.ensures.1 in
    rw (exit.1, exit.2) (refused, refl)
