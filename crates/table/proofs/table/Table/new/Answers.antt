use Rattle.std.proofs.Common.{◌≡◌, replicate, sym, ap, ◌∙◌, subst, w64, SFits, to_z, of_z}
use Rattle.std.proofs.lemmas.Int.{to_z-of_z}
use Rattle.row.specs.Entries.{start_row}
use Rattle.table.specs.Sound.{Sound}
use Rattle.table.specs.View.{View, fresh}
use Rattle.table.proofs.Soundness.{fresh_sound}
use Rattle.table.proofs.table.Table.new.Given.{Over}
use Rattle.table.proofs.table.Table.new.Goals as goal

module _ (g : Over) (c : goal.After-new g) where
  abbrev first : View
  first = fresh g.K.Kind.means c.args.setup (g.H.History.room c.args.history)

  sound : Sound g.K.Kind.means (record first {
    setup = c.new.result.setup;
    rows = c.new.result.rows;
    history = g.H.History.items c.empty.new.history;
    room = g.H.History.room c.empty.new.history;
  })
  sound =
      let kind = g.K.Kind.means in
      let fits : SFits w64 c.START.result = record { sfits = c.START.type_inv } in
      let start : to_z w64 (of_z w64 c.START.result) ≡ kind.starts = to_z-of_z w64 c.START.result fits ∙ c.START.ensures ∙ g.met.K.Kind.starting in
      let rows : c.new.result.rows ≡ replicate 64 (start_row kind.starts) = c.new.ensures.rows ∙ ap (λ f. replicate 64 (start_row f)) start in
      let made : ◌≡◌ {A = View} first _ = λ i. record first {
        setup = sym c.new.ensures.setup i;
        rows = sym rows i;
        history = sym c.empty.ensures.items i;
        room = sym c.empty.ensures.room i;
      } in
      subst (Sound kind) made (fresh_sound kind c.args.setup (g.H.History.room c.args.history) (g.met.H.History.bounded c.args.history).1 g.met.K.Kind.start_fits)

pub invariant_of-result : goal.invariant_of-result
invariant_of-result = sound

pub returns-clause-sound : goal.returns-clause-sound
returns-clause-sound = sound
