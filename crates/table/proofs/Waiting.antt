-- Pending actions, and the latest of them on an article. Assumes nothing.
use Rattle.std.proofs.Common.{◌≡◌, ℕ, suc, ◌+◌, ◌<◌, ◌≤◌, eqb, ◌⊎◌, List, [], ◌∷◌, ◌++◌, length, refl, ap, subst, inl, inr, ⊎_elim, arith}
use Rattle.std.specs.List.{ContainsAt as Has, AllByRecursion}
use Rattle.std.proofs.ByRecursion.{all-has, all_kept_by, All-weaker}
use Rattle.std.proofs.lemmas.Bool.{eq-eqb}
use Rattle.action.specs.declared.action.Action.{Action}
use Rattle.action.specs.declared.setup.Setup.{Setup}
use Rattle.action.specs.Order.{Apart, Ascending, Distinct}
use Rattle.action.proofs.Members.{all_from_has, has_first, has_kept_by, has_later}
use Rattle.action.proofs.Sequence.{leads_later}
use Rattle.kind.specs.Meaning.{Meaning}
use Rattle.kind.specs.Working.{on}
use Rattle.table.specs.Sound.{AllWaiting, Fitting, Waiting}
use Rattle.table.specs.Transactions.{latest}
use Rattle.table.proofs.Greatest.{greatest_ge, greatest_le}

module _ (kind : Meaning) (setup : Setup) (clock : ℕ) where
  pub waiting_push : (i : ℕ) (xs : List Action) (x : Action) → AllWaiting kind setup clock i xs → Waiting kind setup clock (i + length xs) x → AllWaiting kind setup clock i (xs ++ (x ∷ []))
  waiting_push i [] x h k = (subst (λ (n : ℕ). Waiting kind setup clock n x) (omega arith) k, tt)
  waiting_push i (y ∷ ys) x h k = (h.0, waiting_push (suc i) ys x h.1 (subst (λ (n : ℕ). Waiting kind setup clock n x) (omega arith) k))

  pub waiting_fitting : (i : ℕ) (xs : List Action) → AllWaiting kind setup clock i xs → AllByRecursion (Fitting kind setup) xs
  waiting_fitting i [] h = tt
  waiting_fitting i (x ∷ xs) h =
      let w = h.0 in (
        record {
          coordinated = omega (arith, w.coordinated, setup.own_site);
          timed = omega (arith, w.timed);
          begun = omega (arith, w.numbered);
          in_turn = omega (arith, w.timed, w.numbered);
          listed = w.listed;
          known = w.known;
          one_byte = w.one_byte;
          four_bytes = w.four_bytes;
        },
        waiting_fitting (suc i) xs h.1,
      )

  -- their times lie above the clock and within the transaction's length of it
  pub waiting_times : (i : ℕ) (xs : List Action) → AllWaiting kind setup clock i xs → AllByRecursion (λ x. (clock + i < x.time) × (x.time ≤ clock + i + length xs)) xs
  waiting_times i [] h = tt
  waiting_times i (x ∷ xs) h = (
    (omega (arith, h.0.timed), omega (arith, h.0.timed)),
    All-weaker (λ y. (clock + suc i < y.time) × (y.time ≤ clock + suc i + length xs)) (λ y. (clock + i < y.time) × (y.time ≤ clock + i + suc (length xs))) (λ y k. (omega (arith, k.0), omega (arith, k.1))) xs (waiting_times (suc i) xs h.1),
  )

  pub waiting_ascending : (i : ℕ) (xs : List Action) → AllWaiting kind setup clock i xs → Ascending xs
  waiting_ascending i [] h = tt
  waiting_ascending i (x ∷ xs) h = (
    leads_later (clock + suc i) x xs (omega (arith, h.0.timed)) (All-weaker (λ y. (clock + suc i < y.time) × (y.time ≤ clock + suc i + length xs)) (λ y. clock + suc i < y.time) (λ y k. k.0) xs (waiting_times (suc i) xs h.1)),
    waiting_ascending (suc i) xs h.1,
  )

  -- no two have the same time
  pub waiting_distinct : (i : ℕ) (xs : List Action) → AllWaiting kind setup clock i xs → Distinct xs
  waiting_distinct i [] h = tt
  waiting_distinct i (x ∷ xs) h = (
    All-weaker (λ y. (clock + suc i < y.time) × (y.time ≤ clock + suc i + length xs)) (Apart x) (λ y k _ same. omega (arith, h.0.timed, k.0, same)) xs (waiting_times (suc i) xs h.1),
    waiting_distinct (suc i) xs h.1,
  )

  -- the last of them has the last time
  pub waiting_last : (i : ℕ) (xs : List Action) → AllWaiting kind setup clock i xs → (xs ≡ []) ⊎ ((x : Action) × Has xs x × (x.time ≡ clock + i + length xs))
  waiting_last i [] h = inl refl
  waiting_last i (x ∷ xs) h =
      inr (⊎_elim
      (λ none. (x, has_first x xs, omega (arith, h.0.timed, ap length none)))
      (λ k. (k.0, has_later x xs k.0 k.1, omega (arith, k.2)))
      (waiting_last (suc i) xs h.1))

  pub waiting_own : (i : ℕ) (xs : List Action) → AllWaiting kind setup clock i xs → AllByRecursion (λ x. x.coordinator ≡ setup.own) xs
  waiting_own i [] h = tt
  waiting_own i (x ∷ xs) h = (h.0.coordinated, waiting_own (suc i) xs h.1)

pub latest_le : (c a : ℕ) (xs : List Action) → AllByRecursion (λ x. x.time ≤ c) xs → latest a xs ≤ c
latest_le c a xs h = greatest_le (λ x. x.time) c 0 (on a xs) (omega arith) (all_kept_by (λ x. eqb x.article a) (λ x. x.time ≤ c) xs h)

-- no time on an article is later than the latest on it
pub latest_ge : (a : ℕ) (xs : List Action) → AllByRecursion (λ x. x.article ≡ a → x.time ≤ latest a xs) xs
latest_ge a xs =
    all_from_has (λ x. x.article ≡ a → x.time ≤ latest a xs) xs (λ x in_xs same.
    let on_it : Has (on a xs) x = has_kept_by (λ x. eqb x.article a) xs x in_xs (eq-eqb x.article a same) in
    all-has (λ x. x.time ≤ latest a xs) (on a xs) x (greatest_ge (λ (x : Action). x.time) 0 (on a xs)) on_it)
