-- What holds of every table that was made and then changed by its calls alone. Assumes nothing.
use Rattle.std.specs.Prelude.{◌≡◌, ℕ, suc, ◌+◌, ◌<◌, ◌≤◌, true, false, List, [], ◌∷◌, length, FitsSigned}
use Rattle.std.specs.Int.{w32, w64}
use Rattle.std.specs.List.{AllByRecursion}
use Rattle.action.specs.declared.action.Action.{Action}
use Rattle.action.specs.declared.setup.Setup.{Setup}
use Rattle.action.specs.Order.{Ascending}
use Rattle.history.specs.Room.{Small}
use Rattle.kind.specs.Meaning.{Meaning}
use Rattle.kind.specs.Working.{knows_action, on, working}
use Rattle.table.specs.View.{View, entry, row}

-- an action that a table of this set-up may hold
pub record Fitting (kind : Meaning) (setup : Setup) (x : Action) : Type 0 where
  pub coordinated : x.coordinator < setup.sites
  pub timed : 1 ≤ x.time
  pub begun : 1 ≤ x.transaction
  pub in_turn : x.transaction ≤ x.time
  pub listed : x.article < setup.articles
  pub known : knows_action kind.knows x ≡ true
  pub one_byte : x.operation < 256
  pub four_bytes : FitsSigned w32 x.amount

-- the i-th pending action, counted from 0, of a transaction that was opened at the clock's time
pub record Waiting (kind : Meaning) (setup : Setup) (clock i : ℕ) (x : Action) : Type 0 where
  pub coordinated : x.coordinator ≡ setup.own
  pub timed : x.time ≡ clock + i + 1
  pub numbered : x.transaction ≡ clock + 1
  pub listed : x.article < setup.articles
  pub known : knows_action kind.knows x ≡ true
  pub one_byte : x.operation < 256
  pub four_bytes : FitsSigned w32 x.amount

abbrev pub AllWaiting : Meaning → Setup → ℕ → ℕ → List Action → Type 0
AllWaiting kind setup clock i [] = Unit {0}
AllWaiting kind setup clock i (x ∷ xs) = Waiting kind setup clock i x × AllWaiting kind setup clock (suc i) xs

-- known entries of eight sites, of eight sites each
abbrev pub Square : List (List ℕ) → Type 0
Square known = (length known ≡ 8) × AllByRecursion (λ entries. length entries ≡ 8) known

pub record Sound (kind : Meaning) (v : View) : Type 0 where
  -- the history is in strict order and within its room
  pub ordered : Ascending v.history
  pub held : length v.history ≤ v.room.places
  pub few_places : Small v.room
  pub fitting : AllByRecursion (Fitting kind v.setup) v.history
  -- the reception vector has reached every action of the history
  pub reached : AllByRecursion (λ x. x.time ≤ entry v x.article v.setup.own x.coordinator) v.history
  -- no entry is above the own site's for the same site, and none of the own site's is above the clock
  pub believed : (a z q : ℕ) → entry v a z q ≤ entry v a v.setup.own q
  pub clocked : (a q : ℕ) → entry v a v.setup.own q ≤ v.clock
  pub in_time : v.clock + length v.pending ≤ 4000000000
  -- the kept figure is the working of the base and the history
  pub worked : (a : ℕ) → a < 64 → (row v a).kept ≡ working kind.steps (row v a).base (on a v.history)
  pub based : (a : ℕ) → FitsSigned w64 (row v a).base
  pub each_article : length v.rows ≡ 64
  pub square : AllByRecursion (λ r. Square r.known) v.rows
  -- only an open transaction has pending actions
  pub few : length v.pending ≤ 16
  pub waiting : AllWaiting kind v.setup v.clock 0 v.pending
  pub closed : v.is_open ≡ false → v.pending ≡ []
