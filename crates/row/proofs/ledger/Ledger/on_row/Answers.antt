use Rattle.std.proofs.Common.{get_or, set, refl, ap, ◌∙◌}
use Rattle.row.specs.Entries.{no_row}
use Rattle.row.specs.Rows.{changed_row}
use Rattle.row.proofs.ledger.Ledger.on_row.Goals as goal

pub returns-then-article-lt64-clause-rows : goal.returns-then-article-lt64-clause-rows
returns-then-article-lt64-clause-rows g c = λ f computes.
    let rows = c.args.self.now.rows in
    let a = c.from-article.result in
    ap (set rows a) (computes (get_or rows a no_row) _ (record { shown = _; shows = refl; left = _; met = c.change.ensures; leaves = refl })) ∙ ap (changed_row f rows) c.from-article.ensures
