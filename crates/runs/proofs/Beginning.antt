-- New tables stand with a blank book. Assumes nothing.
use Rattle.std.proofs.Common.{ℕ, ◌<◌, [], sym, refl, ap, subst, arith, w64, SFits}
use Rattle.std.proofs.lemmas.List.{get_or-replicate}
use Rattle.action.proofs.Members.{has_none}
use Rattle.kind.specs.Meaning.{Meaning}
use Rattle.row.specs.declared.row.Row.{Row}
use Rattle.table.specs.View.{View, fresh}
use Rattle.row.specs.Entries.{no_row, start_row}
use Rattle.table.proofs.Soundness.{fresh_entry, fresh_sound}
use Rattle.runs.specs.Books.{blank}
use Rattle.runs.specs.Runs.{Group, Ran}
use Rattle.runs.proofs.Greatest.{greatest_is}
use Rattle.runs.proofs.Standing.{Site, Standing}

module _ (kind : Meaning) (start_fits : SFits w64 kind.starts) (group : Group) where
  fresh_site : (s : ℕ) → s < group.sites → Site kind group blank s (fresh kind (group.setup s) (group.room s))
  fresh_site s sl =
      let setup = group.setup s in
      let places = group.few_places s sl in
      let none : (a z q : ℕ) → _ = fresh_entry kind setup (group.room s) places start_fits in
      record {
        sound = fresh_sound kind setup (group.room s) places start_fits;
        setup_is = refl;
        room_is = refl;
        vector = λ a q al ql. none a s q;
        clock_is = greatest_is group blank s 0 (λ a q al ql. omega arith) (λ d lt. absurd (omega (arith, lt)));
        pending_is = refl;
        believed = λ a z q al zl ql. omega (arith, none a z q);
        gathered = λ a al. record {
          archived = [];
          based = ap (λ (r : Row). r.base) (get_or-replicate 64 a (start_row kind.starts) no_row (omega (arith, (group.agrees s sl).articles_are, setup.few_articles)));
          ordered = tt;
          sure = λ x h. absurd (has_none x h);
          whole = λ x r. absurd (has_none x r.0);
          everywhere = tt;
        };
      }

  pub start_stands : (views : ℕ → View) → Ran kind group [] views → Standing kind group [] views
  start_stands views ran = record {
    sites = λ s sl. subst (Site kind group blank s) (sym (ran s sl)) (fresh_site s sl);
    account = record { distinct = tt; each = tt; no_more = λ s a q sl al ql. omega arith };
    told = tt;
    absorbed = tt;
  }
