use Rattle.std.proofs.Common.{◌≡◌, ℕ, filter}
use Rattle.row.specs.Rows.{stepped_rows}
use Rattle.row.specs.Passes.{is_new_in, new_actions}
use Rattle.row.specs.Entries.{entry_in}
use Rattle.row.proofs.ledger.Ledger.step_new.Given as goal

-- what is left, stepped by, gives what the whole gives, and no entry has changed
abbrev pub invariant-loop-carried : goal.invariant-loop-carried
invariant-loop-carried g l =
    let steps = g.K.Kind.means.steps in
    let before = l.initial.self.rows in
    let own = l.initial.self.setup.own in
    record {
      rows : stepped_rows steps l.self.rows (filter (is_new_in before own) l.carried-iterator) ≡ stepped_rows steps before (new_actions before own l.bytes);
      same : (a z q : ℕ) → entry_in l.self.rows a z q ≡ entry_in before a z q;
      fixed : l.self.setup ≡ l.initial.self.setup;
    }
