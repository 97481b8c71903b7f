-- What a reader of the events writes down: the actions committed, and which of them each site has. It is
-- computed from the events alone, by who called what and whether it was granted. Assumes nothing.
use Rattle.std.specs.Prelude.{ℕ, ◌+◌, max, Bool, cond, ◌&&◌, List, [], ◌∷◌, ◌++◌, map, length, ℤ, Ok, fold, filter, ◌==◌, nat_le}
use Rattle.std.specs.List.{range_with_len}
use Rattle.action.specs.declared.action.Action.{Action}
use Rattle.action.specs.Order.{in_order}
use Rattle.kind.specs.Meaning.{Meaning}
use Rattle.kind.specs.Working.{on, working}
use Rattle.message.specs.Walks.{intervals_of, records_in}
use Rattle.table.specs.Taking.{highest}
use Rattle.table.specs.Transactions.{latest}
use Rattle.runs.specs.Events.{Call, Event}
use Rattle.runs.specs.Events.Call.{Writes, Commits, Abandons, Takes}
use Rattle.runs.specs.Runs.{Group}

pub record Book : Type 0 where
  -- by site: the actions of its open transaction
  pub pending : ℕ → List Action
  -- by site, article and coordinator: up to what time the site has the coordinator's actions on the article
  pub reach : ℕ → ℕ → ℕ → ℕ
  -- every action of a granted commit
  pub committed : List Action

abbrev pub blank : Book
blank = record { pending = λ s. []; reach = λ s a q. 0; committed = [] }

abbrev pub greatest_of : List ℕ → ℕ
greatest_of ns = fold max 0 ns

-- the greatest time that the site has reached, over all articles and coordinators
abbrev pub greatest : Group → Book → ℕ → ℕ
greatest group b s =
    greatest_of
    (map (λ a. greatest_of (map (b.reach s a) (range_with_len 0 group.sites))) (range_with_len 0 group.articles))

-- the site's next write: a transaction counts on from the greatest time, and is numbered by its first
abbrev pub next_action : Group → Book → ℕ → ℕ → ℕ → ℤ → Action
next_action group b s article operation amount = record {
  coordinator = s;
  time = greatest group b s + length (b.pending s) + 1;
  transaction = greatest group b s + 1;
  article = article;
  operation = operation;
  amount = amount;
}

-- the site's open transaction is now this
abbrev pub with_pending : ℕ → List Action → Book → Book
with_pending s xs b = record b { pending = λ z. cond (z == s) xs (b.pending z) }

-- the site has reached these times too, by article and coordinator
abbrev pub reaching : ℕ → (ℕ → ℕ → ℕ) → Book → Book
reaching s times b =
    record b { reach = λ z a q. cond (z == s) (max (b.reach z a q) (times a q)) (b.reach z a q) }

-- these actions are committed too
abbrev pub with_committed : List Action → Book → Book
with_committed xs b = record b { committed = b.committed ++ xs }

-- a site reaches its own actions when it commits them
abbrev pub own_times : ℕ → List Action → ℕ → ℕ → ℕ
own_times s xs a q = cond (q == s) (latest a xs) 0

-- and those of any site by the intervals of a message that it takes
abbrev pub taken_times : List ℕ → ℕ → ℕ → ℕ
taken_times bytes a q = highest a q (intervals_of 0 (records_in bytes))

abbrev pub entered_call : Group → Book → ℕ → Call → Book
entered_call group b s (Writes t article operation amount (Ok time)) =
    with_pending s (b.pending s ++ next_action group b s article operation amount ∷ []) b
entered_call group b s (Commits t buffer (Ok n) after) =
    with_pending s [] (reaching s (own_times s (b.pending s)) (with_committed (b.pending s) b))
entered_call group b s (Abandons t (Ok _)) = with_pending s [] b
entered_call group b s (Takes bytes (Ok n)) = reaching s (taken_times bytes) b
entered_call group b s _ = b

-- the book after the events, the latest of which is first
abbrev pub book : Group → List Event → Book
book group [] = blank
book group (event ∷ before) = entered_call group (book group before) event.site event.call

-- the site has the action
abbrev pub reaches : Book → ℕ → Action → Bool
reaches b s x = nat_le x.time (b.reach s x.article x.coordinator)

-- the article's figure, by all the committed actions on it that the site has, each once and in order
abbrev pub counted : Meaning → Book → ℕ → ℕ → ℤ
counted kind b s a =
    working kind.steps kind.starts (in_order (filter (λ x. (x.article == a) && reaches b s x) b.committed))

-- the article's figure by all the committed actions on it, each once and in order
abbrev pub counted_by_all : Meaning → Book → ℕ → ℤ
counted_by_all kind b a = working kind.steps kind.starts (in_order (on a b.committed))
