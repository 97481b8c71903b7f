use Rattle.std.proofs.Common.{◌≡◌, ◌+◌, false, cond, [], ◌++◌, length, ap, ◌∙◌}
use Rattle.row.specs.Rows.{posted_rows, reworked_rows, stepped_rows}
use Rattle.table.specs.Transactions.{committed}
use Rattle.table.specs.View.{View}
use Rattle.table.proofs.Posting.{rows_posted}
use Rattle.table.proofs.Viewed.{view_in}
use Rattle.table.proofs.store.Store.post.Goals as goal

pub returns : goal.returns
returns g c =
    let kind = g.K.Kind.means in
    let v = view_in c.self.view_is in
    let own = v.setup.own in
    let raising = posted_rows own v.rows in
    let pending : c.written_in-pending.result.now ≡ v.pending = c.written_in-pending.ensures.value in
    let history : g.H.History.items c.append.new.history ≡ v.history ++ v.pending = c.append.ensures.list ∙ ap (λ l. v.history ++ l) pending in
    let raise : c.raise_posted.new.self.rows ≡ raising v.pending = c.raise_posted.ensures.rows ∙ ap raising pending in
    let rows : c.work.new.self.rows ≡ (committed kind v).rows = c.work.ensures.rows ∙ (λ i. cond kind.commutes (stepped_rows kind.steps (raise i) (pending i)) (reworked_rows kind.steps (raise i) (history i))) ∙ rows_posted kind v in
    let after : ◌≡◌ {A = View} _ (committed kind v) = λ i. record v {
      setup = (c.work.ensures.fixed ∙ c.raise_posted.ensures.fixed) i;
      clock = v.clock + length (pending i);
      is_open = false;
      pending = [];
      rows = rows i;
      history = history i;
      room = c.append.ensures.fixed i;
    } in
    after ∙ ap (committed kind) c.self.view_is
