-- Actions put in at their places, one and many: what the list then has, and that it stays in order. Assumes nothing.
use Rattle.std.proofs.Common.{◌≡◌, ℕ, ◌+◌, Bool, true, false, cond, not, ◌⊎◌, List, [], ◌∷◌, ◌++◌, reverse, length, take, drop, fold, sym, refl, ap, ◌∙◌, subst, inl, inr, ⊎_elim, append_assoc, append-nil, arith}
use mathlib.Core.List.{reverse-cons, reverse-reverse}
use Rattle.std.specs.List.{ContainsAt as Has, suffix_len, prefix_len, AllByRecursion}
use Rattle.std.proofs.ByRecursion.{All-append, all-has, All-push, All-weaker, has_append_left, has_append_right}
use Rattle.std.proofs.lemmas.List.{drop_at, length-append, take_at}
use Rattle.std.proofs.lemmas.Bool.{not-true, not-false}
use Rattle.action.specs.declared.action.Action.{Action}
use Rattle.action.specs.Order.{Apart, Ascending, Distinct, Leads, in_order, place_of, placed, precedes}
use Rattle.action.proofs.Members.{all_append_parts, all_from_has, has_append_cases, has_cons_cases, has_first, has_later, has_none}
use Rattle.action.proofs.Precedence.{precedes_trans}
use Rattle.action.proofs.Ranks.{AllRanked, Ranked, apart_ranked, distinct_ranked, ranked_else, ranked_sym}
use Rattle.action.proofs.Sequence.{ascending_parts, ascending_together}

-- THE PLACE

-- none, or the last fails p
abbrev LastFails : {X : Type 0} → (X → Bool) → List X → Type 0
LastFails {X} p xs = (xs ≡ []) ⊎ ((us : List X) × (u : X) × (xs ≡ us ++ u ∷ []) × (p u ≡ false))

-- a list cut before the longest end that passes p, of which n are
record Cut {X : Type 0} (p : X → Bool) (xs : List X) (n : ℕ) : Type 0 where
  front : List X
  end : List X
  whole : xs ≡ front ++ end
  long : length end ≡ n
  passes : AllByRecursion (λ x. p x ≡ true) end
  last : LastFails p front

module _ {X : Type 0} (p : X → Bool) where
  cut_reversed : (ys : List X) → Cut p (reverse ys) (prefix_len p ys)
  cut_reversed [] = record { front = []; end = []; whole = refl; long = refl; passes = tt; last = inl refl }
  cut_reversed (y ∷ ys) = by_test (cut_reversed ys) (p y) refl
    where
      by_test : Cut p (reverse ys) (prefix_len p ys) → (b : Bool) → p y ≡ b → Cut p (reverse (y ∷ ys)) (cond b (1 + prefix_len p ys) 0)
      by_test c true e = record {
        front = c.front;
        end = c.end ++ y ∷ [];
        whole = reverse-cons y ys ∙ ap (λ l. l ++ y ∷ []) c.whole ∙ append_assoc c.front c.end (y ∷ []);
        long = omega (arith, length-append c.end (y ∷ []), c.long);
        passes = All-push (λ x. p x ≡ true) c.end y c.passes e;
        last = c.last;
      }
      by_test c false e = record {
        front = reverse ys ++ y ∷ [];
        end = [];
        whole = reverse-cons y ys ∙ sym (append-nil (reverse ys ++ y ∷ []));
        long = refl;
        passes = tt;
        last = inr (reverse ys, y, refl, e);
      }

  cut_end : (xs : List X) → Cut p xs (suffix_len p xs)
  cut_end xs = subst (λ (l : List X). Cut p l (suffix_len p xs)) (reverse-reverse xs) (cut_reversed (reverse xs))

-- x stands behind the last that precedes it
pub record Placing (xs : List Action) (x : Action) : Type 0 where
  pub before : List Action
  pub after : List Action
  pub whole : xs ≡ before ++ after
  pub put : placed xs x ≡ before ++ x ∷ after
  pub none_after : AllByRecursion (λ y. precedes y x ≡ false) after
  pub last : (before ≡ []) ⊎ ((us : List Action) × (u : Action) × (before ≡ us ++ u ∷ []) × (precedes u x ≡ true))

pub placing : (xs : List Action) (x : Action) → Placing xs x
placing xs x =
    let c = cut_end (λ y. not (precedes y x)) xs in
    let long : length c.front ≡ place_of xs x = omega (arith, ap length c.whole, length-append c.front c.end, c.long) in
    let front : take (place_of xs x) xs ≡ c.front = ap (take (place_of xs x)) c.whole ∙ take_at c.front c.end (place_of xs x) long in
    let end : drop (place_of xs x) xs ≡ c.end = ap (drop (place_of xs x)) c.whole ∙ drop_at c.front c.end (place_of xs x) long in
    record {
      before = c.front;
      after = c.end;
      whole = c.whole;
      put = λ i. front i ++ x ∷ end i;
      none_after = All-weaker (λ y. not (precedes y x) ≡ true) (λ y. precedes y x ≡ false) (λ y. not-true (precedes y x)) c.end c.passes;
      last = ⊎_elim (λ e. inl e) (λ h. inr (h.0, h.1, h.2, not-false (precedes h.1 x) h.3)) c.last;
    }

-- ONE ACTION

pub length_placed : (xs : List Action) (x : Action) → length (placed xs x) ≡ length xs + 1
length_placed xs x =
    let g = placing xs x in
    omega (arith, ap length g.put, length-append g.before (x ∷ g.after), ap length g.whole, length-append g.before g.after)

pub placed_all : (P : Action → Type 0) (xs : List Action) (x : Action) → AllByRecursion P xs → P x → AllByRecursion P (placed xs x)
placed_all P xs x all one =
    let g = placing xs x in
    let parts = all_append_parts P g.before g.after (subst (AllByRecursion P) g.whole all) in
    subst (AllByRecursion P) (sym g.put) (All-append P g.before (x ∷ g.after) parts.0 (one, parts.1))

pub has_placed : (xs : List Action) (x y : Action) → Has xs y ⊎ (y ≡ x) → Has (placed xs x) y
has_placed xs x y h = subst (λ (l : List Action). Has l y) (sym g.put) (⊎_elim old new h)
  where
    g : Placing xs x
    g = placing xs x

    old : Has xs y → Has (g.before ++ x ∷ g.after) y
    old k = ⊎_elim
        (has_append_left g.before (x ∷ g.after) y)
        (λ late. has_append_right g.before (x ∷ g.after) y (has_later x g.after y late))
        (has_append_cases g.before g.after y (subst (λ (l : List Action). Has l y) g.whole k))

    new : y ≡ x → Has (g.before ++ x ∷ g.after) y
    new e = has_append_right g.before (x ∷ g.after) y (subst (Has (x ∷ g.after)) (sym e) (has_first x g.after))

-- all up to the last that precedes x precede x
all_precede : (x : Action) (xs : List Action) → Ascending xs → (xs ≡ []) ⊎ ((us : List Action) × (u : Action) × (xs ≡ us ++ u ∷ []) × (precedes u x ≡ true)) → AllByRecursion (λ y. precedes y x ≡ true) xs
all_precede x xs up (inl none) = subst (AllByRecursion (λ y. precedes y x ≡ true)) (sym none) tt
all_precede x xs up (inr h) =
    let us : List Action = h.0 in
    let u : Action = h.1 in
    let parts = ascending_parts us (u ∷ []) (subst Ascending h.2 up) in
    let each : AllByRecursion (λ y. precedes y x ≡ true) us = All-weaker (λ y. Leads y (u ∷ [])) (λ y. precedes y x ≡ true) (λ y k. precedes_trans y u x k.0 h.3) us parts.2 in
    subst (AllByRecursion (λ y. precedes y x ≡ true)) (sym h.2) (All-push (λ y. precedes y x ≡ true) us u each h.3)

pub placed_ranked : (xs : List Action) (x : Action) → Ascending xs → AllByRecursion (Ranked x) xs → Ascending (placed xs x)
placed_ranked xs x up ranked =
    let g = placing xs x in
    let parts = ascending_parts g.before g.after (subst Ascending g.whole up) in
    let behind = (all_append_parts (Ranked x) g.before g.after (subst (AllByRecursion (Ranked x)) g.whole ranked)).1 in
    let earlier : AllByRecursion (λ y. precedes y x ≡ true) g.before = all_precede x g.before parts.0 g.last in
    let leads : Leads x g.after = others g.after behind g.none_after in
    subst Ascending (sym g.put) (ascending_together g.before (x ∷ g.after) parts.0 (leads, parts.1) (both g.after g.before earlier parts.2))
  where
    others : (ys : List Action) → AllByRecursion (Ranked x) ys → AllByRecursion (λ y. precedes y x ≡ false) ys → AllByRecursion (λ y. precedes x y ≡ true) ys
    others [] a b = tt
    others (y ∷ ys) a b = (ranked_else x y a.0 b.0, others ys a.1 b.1)

    both : (zs ys : List Action) → AllByRecursion (λ y. precedes y x ≡ true) ys → AllByRecursion (λ y. Leads y zs) ys → AllByRecursion (λ y. Leads y (x ∷ zs)) ys
    both zs [] a b = tt
    both zs (y ∷ ys) a b = ((a.0, b.0), both zs ys a.1 b.1)

-- MANY ACTIONS

pub length_folded_placed : (xs new : List Action) → length (fold placed xs new) ≡ length xs + length new
length_folded_placed xs [] = omega arith
length_folded_placed xs (x ∷ new) = length_folded_placed (placed xs x) new ∙ omega (arith, length_placed xs x)

pub folded_placed_all : (P : Action → Type 0) (xs new : List Action) → AllByRecursion P xs → AllByRecursion P new → AllByRecursion P (fold placed xs new)
folded_placed_all P xs [] all more = all
folded_placed_all P xs (x ∷ new) all more = folded_placed_all P (placed xs x) new (placed_all P xs x all more.0) more.1

pub has_folded_placed : (xs new : List Action) (y : Action) → Has xs y ⊎ Has new y → Has (fold placed xs new) y
has_folded_placed xs [] y h = ⊎_elim (λ k. k) (λ k. absurd (has_none y k)) h
has_folded_placed xs (x ∷ new) y h = has_folded_placed (placed xs x) new y (⊎_elim
    (λ old. inl (has_placed xs x y (inl old)))
    (λ k. ⊎_elim (λ e. inl (has_placed xs x y (inr (sym e)))) (λ later. inr later) (has_cons_cases x new y k))
    h)

pub has_folded_placed_cases : (xs new : List Action) (y : Action) → Has (fold placed xs new) y → Has xs y ⊎ Has new y
has_folded_placed_cases xs new y h =
    let Old : Action → Type 0 = λ z. Has xs z ⊎ Has new z in
    all-has Old (fold placed xs new) y (folded_placed_all Old xs new (all_from_has Old xs (λ z k. inl k)) (all_from_has Old new (λ z k. inr k))) h

-- what holds between each of the others and the list, and between it and one more,
-- holds between it and the list with that one
others_placed : (R : Action → Action → Type 0) → ((x y : Action) → R x y → R y x) → (xs : List Action) (x : Action) (new : List Action) → AllByRecursion (R x) new → AllByRecursion (λ z. AllByRecursion (R z) xs) new → AllByRecursion (λ z. AllByRecursion (R z) (placed xs x)) new
others_placed R swap xs x [] a b = tt
others_placed R swap xs x (z ∷ new) a b = (placed_all (R z) xs x b.0 (swap x z a.0), others_placed R swap xs x new a.1 b.1)

pub folded_placed_ranked : (xs new : List Action) → Ascending xs → AllRanked new → AllByRecursion (λ x. AllByRecursion (Ranked x) xs) new → Ascending (fold placed xs new)
folded_placed_ranked xs [] up ranked among = up
folded_placed_ranked xs (x ∷ new) up ranked among =
    folded_placed_ranked (placed xs x) new (placed_ranked xs x up among.0) ranked.1 (others_placed Ranked ranked_sym xs x new ranked.0 among.1)

pub folded_placed_ascending : (xs new : List Action) → Ascending xs → Distinct new → AllByRecursion (λ x. AllByRecursion (Apart x) xs) new → Ascending (fold placed xs new)
folded_placed_ascending xs new up distinct apart =
    folded_placed_ranked xs new up (distinct_ranked new distinct) (All-weaker (λ x. AllByRecursion (Apart x) xs) (λ x. AllByRecursion (Ranked x) xs) (λ x. All-weaker (Apart x) (Ranked x) (apart_ranked x) xs) new apart)

-- ALL IN ORDER

pub in_order_ascending : (xs : List Action) → Distinct xs → Ascending (in_order xs)
in_order_ascending xs distinct = folded_placed_ascending [] xs tt distinct (all_from_has (λ x. AllByRecursion (Apart x) []) xs (λ x k. tt))

pub has_in_order : (xs : List Action) (x : Action) → Has xs x → Has (in_order xs) x
has_in_order xs x h = has_folded_placed [] xs x (inr h)

pub in_order_has : (xs : List Action) (x : Action) → Has (in_order xs) x → Has xs x
in_order_has xs x h = ⊎_elim (λ k. absurd (has_none x k)) (λ k. k) (has_folded_placed_cases [] xs x h)
