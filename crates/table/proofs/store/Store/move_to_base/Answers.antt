use Rattle.std.proofs.Common.{◌≡◌, not, set, length, filter, sym, ap, ◌∙◌, subst, w64, SFits, to_z, of_z, rules}
use Rattle.std.proofs.lemmas.Int.{to_z-of_z}
use Rattle.kind.specs.Working.{working}
use Rattle.kind.proofs.Workings.{working_fits}
use Rattle.row.specs.Passes.{is_up_to}
use Rattle.table.specs.Archiving.{archived, olds}
use Rattle.table.specs.View.{View, row}
use Rattle.table.proofs.Basing.{rows_archived}
use Rattle.table.proofs.Viewed.{view_in}
use Rattle.table.proofs.store.Store.move_to_base.Goals as goal

pub returns-clause-count : goal.returns-clause-count
returns-clause-count g c =
    let v = view_in c.self.view_is in
    c.move_actions-gone.ensures.count ∙ ap (λ t. length (filter (is_up_to c.args.article t) v.history)) c.least_entry-time.ensures ∙ ap (λ (v : View). length (olds v c.args.article)) c.self.view_is

pub returns-clause-after : goal.returns-clause-after
returns-clause-after g c =
    let kind = g.K.Kind.means in
    let v = view_in c.self.view_is in
    let a = c.args.article in
    let at = c.from-at.result in
    let r = row v at in
    let base = c.move_actions-gone.new.base in
    let time = c.least_entry-time.ensures in
    let old : SFits w64 r.base = search rules in
    let worked : base ≡ working kind.steps r.base (olds v a) = c.move_actions-gone.ensures.figure ∙ (λ i. working kind.steps (to_z-of_z w64 r.base old i) (filter (is_up_to a (time i)) v.history)) in
    let new : SFits w64 base = subst (SFits w64) (sym worked) (working_fits kind.steps g.met.K.Kind.step_fits r.base (olds v a) old) in
    let rows : set v.rows at (record r { base = to_z w64 (of_z w64 base) }) ≡ (archived kind v a).rows = ap (λ f. set v.rows at (record r { base = f })) (to_z-of_z w64 base new ∙ worked) ∙ ap (λ n. set v.rows n (let s = row v n in record s { base = working kind.steps s.base (olds v a) })) c.from-at.ensures ∙ rows_archived kind v a in
    let history : g.H.History.items c.move_actions-gone.new.history ≡ (archived kind v a).history = c.move_actions-gone.ensures.list ∙ ap (λ t. filter (λ x. not (is_up_to a t x)) v.history) time in
    let after : ◌≡◌ {A = View} _ (archived kind v a) = λ i. record v {
      rows = rows i;
      history = history i;
      room = c.move_actions-gone.ensures.fixed i;
    } in
    after ∙ ap (λ (v : View). archived kind v a) c.self.view_is
