-- What a history has room for. Assumes nothing.
use Rattle.std.specs.Prelude.{ℕ, ◌+◌, ◌≤◌, List, length}
use Rattle.action.specs.declared.action.Action.{Action}

-- what limits how many actions a history takes; it stays as it was when the history was made
pub record Room : Type 0 where
  -- the capacity: how many places there are in all
  pub places : ℕ

-- no more places than a history may have
abbrev pub Small : Room → Type 0
Small room = room.places ≤ 1024

-- there is room for new actions beside those that are held
abbrev pub Fits : Room → List Action → List Action → Type 0
Fits room held new = length held + length new ≤ room.places
