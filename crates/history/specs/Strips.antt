-- Actions kept as bytes, sixteen to a place. Assumes nothing.
use Rattle.std.specs.Prelude.{◌≡◌, ℕ, zero, suc, ◌*◌, List, [], ◌∷◌, take, drop}
use Rattle.std.specs.List.{flat_map}
use Rattle.action.specs.declared.action.Action.{Action}
use Rattle.action.specs.Bytes.{action_bytes, action_of}

-- the actions that the first n places stand for
abbrev pub strip_items : ℕ → List ℕ → List Action
strip_items zero bs = []
strip_items (suc n) bs = action_of bs ∷ strip_items n (drop 16 bs)

-- the first n places hold the records of the actions that they stand for
abbrev pub Recorded : ℕ → List ℕ → Type 0
Recorded n bs = take (n * 16) bs ≡ flat_map action_bytes (strip_items n bs)
