-- What a table holds, as the contracts of its calls speak of it. Assumes nothing.
use Rattle.std.specs.Prelude.{ℕ, Bool, false, List, [], Some, None, Option, replicate, slice_index_or}
use Rattle.std.specs.Option.{is_some}
use Rattle.arrayvec.specs.ArrayVec.{ArrayVec}
use Rattle.action.specs.declared.action.Action.{Action}
use Rattle.action.specs.declared.setup.Setup.{Setup}
use Rattle.history.specs.Room.{Room}
use Rattle.kind.specs.Meaning.{Meaning}
use Rattle.row.specs.declared.row.Row.{Row}
use Rattle.row.specs.Entries.{entry_in, no_row, start_row}
use Rattle.table.specs.declared.state.State.{State}

pub record View : Type 0 where
  pub setup : Setup
  pub clock : ℕ
  -- is a transaction open?
  pub is_open : Bool
  -- what the open transaction has written so far, as the actions that commit will record
  pub pending : List Action
  -- one row for each article
  pub rows : List Row
  pub history : List Action
  -- what the history has room for
  pub room : Room

-- what a transaction has written, nothing where none is open
abbrev pub written_in : Option (ArrayVec Action) → List Action
written_in (Some pending) = pending.items
written_in None = []

-- the state and the history, with its room, as one
abbrev pub held : State → List Action → Room → View
held s history room = record {
  setup = s.ledger.setup;
  clock = s.clock;
  is_open = is_some s.transaction;
  pending = written_in s.transaction;
  rows = s.ledger.rows;
  history = history;
  room = room;
}

-- the state alone, as if its history had no places
abbrev pub bare : State → View
bare s = held s [] (record { places = 0 })

abbrev pub row : View → ℕ → Row
row v a = slice_index_or v.rows a no_row

-- an article's known entry
abbrev pub entry : View → ℕ → ℕ → ℕ → ℕ
entry v = entry_in v.rows

-- a new table: its history is empty, no site is known to have anything, and no figure has moved from the start
abbrev pub fresh : Meaning → Setup → Room → View
fresh kind setup room = record {
  setup = setup;
  clock = 0;
  is_open = false;
  pending = [];
  rows = replicate 64 (start_row kind.starts);
  history = [];
  room = room;
}
