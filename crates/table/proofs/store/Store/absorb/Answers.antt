use Rattle.std.proofs.Common.{◌≡◌, cond, [], length, fold, sym, ap, ◌∙◌, subst, arith}
use Rattle.std.proofs.lemmas.List.{nil_from_length}
use Rattle.action.specs.Order.{placed}
use Rattle.row.specs.Passes.{latest_to, new_actions}
use Rattle.row.specs.Rows.{raised_rows, reworked_rows, stepped_rows}
use Rattle.row.proofs.Sorting.{ascending_sorted}
use Rattle.table.specs.Sound.{Sound}
use Rattle.table.specs.Taking.{news, taken, taken_history}
use Rattle.table.specs.View.{View}
use Rattle.table.proofs.Recording.{intervals_in, new_in, recorded_by, rows_raised, rows_recorded, sender_is}
use Rattle.table.proofs.Viewed.{view_in}
use Rattle.table.proofs.store.Store.absorb.Goals as goal

pub insert_new-requires-clause-sorted : goal.insert_new-requires-clause-sorted
insert_new-requires-clause-sorted g c =
    let v = view_in c.self.view_is in
    let sound : Sound g.K.Kind.means v = subst (Sound g.K.Kind.means) (sym c.self.view_is) c.requires.sound in
    ascending_sorted v.history sound.ordered

-- nothing is new: the history stays, and the figures are the workings that they were
pub returns-then-new-eq0 : goal.returns-then-new-eq0
returns-then-new-eq0 g c m is =
    let kind = g.K.Kind.means in
    let bytes = c.args.bytes.now in
    let v = view_in c.self.view_is in
    let own = v.setup.own in
    let sound : Sound kind v = subst (Sound kind) (sym c.self.view_is) c.requires.sound in
    let counted : c.args.new ≡ length (new_actions v.rows own bytes) = c.requires.counted ∙ ap (λ (w : View). length (new_actions w.rows w.setup.own bytes)) (sym c.self.view_is) in
    let none : news v m ≡ [] = sym (new_in v m bytes is) ∙ nil_from_length (new_actions v.rows own bytes) (sym counted ∙ c.if-new-eq0.true) in
    let hs = intervals_in m bytes is in
    let sender = sender_is m bytes is in
    let rows : c.raise_all-state.new.self.rows ≡ (taken kind v m).rows = c.raise_all-state.ensures.rows ∙ (λ i. fold (raised_rows own (sender i)) v.rows (hs i)) ∙ rows_raised kind v m none (λ a within. sound.worked a (omega (arith, within, sound.each_article))) in
    let clock : c.raise_all-state.result ≡ (taken kind v m).clock = c.raise_all-state.ensures.times ∙ ap (latest_to v.clock) hs in
    let history : v.history ≡ taken_history v m = ap (fold placed v.history) (sym none) in
    let after : ◌≡◌ {A = View} _ (taken kind v m) = λ i. record v {
      setup = c.raise_all-state.ensures.fixed i;
      clock = clock i;
      rows = rows i;
      history = history i;
    } in
    after ∙ ap (λ (v : View). taken kind v m) c.self.view_is

pub returns : goal.returns
returns g c m is =
    let kind = g.K.Kind.means in
    let bytes = c.args.bytes.now in
    let v = view_in c.self.view_is in
    let own = v.setup.own in
    let new = new_in v m bytes is in
    let hs = intervals_in m bytes is in
    let sender = sender_is m bytes is in
    let history : g.H.History.items c.insert_new.new.history ≡ taken_history v m = c.insert_new.ensures.list ∙ ap (fold _ v.history) new in
    let rows : c.record-state.new.self.rows ≡ (taken kind v m).rows = c.record-state.ensures.rows ∙ (λ i. cond kind.commutes (fold (raised_rows own (sender i)) (stepped_rows kind.steps v.rows (new i)) (hs i)) (reworked_rows kind.steps (fold (raised_rows own (sender i)) v.rows (hs i)) (history i))) ∙ recorded_by kind v m kind.commutes ∙ rows_recorded kind v m in
    let clock : c.record-state.result ≡ (taken kind v m).clock = c.record-state.ensures.times ∙ ap (latest_to v.clock) hs in
    let after : ◌≡◌ {A = View} _ (taken kind v m) = λ i. record v {
      setup = c.record-state.ensures.fixed i;
      clock = clock i;
      rows = rows i;
      history = history i;
      room = c.insert_new.ensures.fixed i;
    } in
    after ∙ ap (λ (v : View). taken kind v m) c.self.view_is
