-- What it is for a call to have one outcome. Assumes nothing.
use Rattle.std.specs.Prelude.{◌≡◌}

-- two outcomes that meet the relation, each an answer and what it leaves, agree in both
abbrev pub OneOutcome : {A B : Type 0} → (A → B → Type 0) → Type 0
OneOutcome {A} {B} R = (r s : A) (w u : B) → R r w → R s u → (r ≡ s) × (w ≡ u)
