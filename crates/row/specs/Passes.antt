-- What the passes over a message and over the history look for, by rows. Assumes nothing.
use Rattle.std.specs.Prelude.{ℕ, min, max, Bool, ◌&&◌, List, fold, filter, ◌==◌, nat_le, nat_lt}
use Rattle.std.specs.List.{range_with_len}
use Rattle.action.specs.declared.action.Action.{Action}
use Rattle.message.specs.declared.record.Interval.{Interval}
use Rattle.message.specs.Walks.{actions_of, records_in}
use Rattle.row.specs.declared.row.Row.{Row}
use Rattle.row.specs.Entries.{entry_in, raised}

-- A MESSAGE

-- a table of these rows and this site has not reached the action yet
abbrev pub is_new_in : List Row → ℕ → Action → Bool
is_new_in rows own x = nat_lt (entry_in rows x.article own x.coordinator) x.time

-- the actions in a message's bytes that such a table has not reached
abbrev pub new_actions : List Row → ℕ → List ℕ → List Action
new_actions rows own bytes = filter (is_new_in rows own) (actions_of (records_in bytes))

-- the interval begins above what this table has reached
abbrev pub is_behind_in : List Row → ℕ → ℕ → Interval → Bool
is_behind_in rows own a i = nat_lt (entry_in rows a own i.site) i.from

-- the interval says more of the own site than the site has done
abbrev pub is_ahead_in : List Row → ℕ → ℕ → Interval → Bool
is_ahead_in rows own a i = i.site == own && nat_lt (entry_in rows a own own) i.to

-- this table and the sender have what the interval carries
abbrev pub raised_by : ℕ → ℕ → List (List ℕ) → ℕ × Interval → List (List ℕ)
raised_by own sender known h = raised (raised known own h.1.site h.1.to) sender h.1.site h.1.to

-- the latest of t and of the times that intervals go up to
abbrev pub latest_to : ℕ → List (ℕ × Interval) → ℕ
latest_to = fold (λ t (h : ℕ × Interval). max t h.1.to)

-- ARCHIVING

-- the least of t and the article's known entries of site z, in rows of that many sites
abbrev pub least_of_in : List Row → ℕ → ℕ → ℕ → ℕ → ℕ
least_of_in rows sites a t z = fold (λ least q. min least (entry_in rows a z q)) t (range_with_len 0 sites)

-- the smallest known entry that the article has, over all pairs of sites
abbrev pub least_in : List Row → ℕ → ℕ → ℕ
least_in rows sites a = fold (least_of_in rows sites a) (entry_in rows a 0 0) (range_with_len 0 sites)

-- an action on the article, not later than t
abbrev pub is_up_to : ℕ → ℕ → Action → Bool
is_up_to a t x = x.article == a && nat_le x.time t
