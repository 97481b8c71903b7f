-- Which set-ups there are, and how refusals are written down. Assumes nothing.
use Rattle.std.specs.Prelude.{◌≡◌, ℕ, ◌<◌, ◌≤◌, Bool, cond, Some, Ok, Err, Option, Result}
use Rattle.action.specs.declared.refusal.Layer.TheVariants.{Reader, History, Table}
use Rattle.action.specs.declared.refusal.Refusal.{Refusal}
use Rattle.action.specs.declared.setup.Setup.{Setup}
use Rattle.action.specs.declared.setup.UnlawfulSetup.{UnlawfulSetup}

-- the four numbers of a set-up are within their limits
pub record Lawful (group sites own articles : ℕ) : Type 0 where
  pub some_group : 1 ≤ group
  pub group_fits : group ≤ 65535
  pub two_sites : 2 ≤ sites
  pub few_sites : sites ≤ 8
  pub own_site : own < sites
  pub some_article : 1 ≤ articles
  pub few_articles : articles ≤ 64

-- a refusal of a layer, with its number and its place
abbrev pub by_table : ℕ → ℕ → Refusal
by_table number place = record { number = number; place = place; layer = Table }

abbrev pub by_reader : ℕ → ℕ → Refusal
by_reader number place = record { number = number; place = place; layer = Reader }

abbrev pub by_history : ℕ → ℕ → Refusal
by_history number place = record { number = number; place = place; layer = History }

-- one check of a call, in the order of its checks: unless it passes the call is refused by r,
-- else the rest decides
abbrev pub unless : Bool → Refusal → Option Refusal → Option Refusal
unless passes r rest = cond passes rest (Some r)

-- what making a set-up answers
abbrev pub Made : ℕ → ℕ → ℕ → ℕ → Result Setup UnlawfulSetup → Type 0
Made group sites own articles (Ok s) =
    Lawful group sites own articles × (s.group ≡ group) × (s.sites ≡ sites) × (s.own ≡ own) × (s.articles ≡ articles)
Made group sites own articles (Err e) = Lawful group sites own articles → ⊥
