-- What the places of a strip stand for where its bytes are cut and edited, and that they hold records all the while.
-- Assumes nothing.
use Rattle.std.proofs.Common.{◌≡◌, ℕ, zero, suc, ◌+◌, ◌-◌, ◌*◌, ◌<◌, ◌≤◌, List, ◌∷◌, ◌++◌, length, get_or, take, drop, sym, refl, ap, ◌∙◌, subst, suc-add, zero-add, add-one, arith, lit<}
use Rattle.std.specs.List.{flat_map, insert, remove}
use Rattle.std.proofs.Math.Seq.{take-add}
use Rattle.std.proofs.lemmas.List.{append_assoc, get_or-take, length-take-le, take-append-le, take-take, take_at, drop_at, drop-drop, drop-take, length-drop}
use Rattle.std.proofs.lemmas.List.Edits.{length-paste, drop-paste}
use Rattle.std.proofs.lemmas.Slice.{drop-put_mid}
use borrow.Rule.Slice.PartMut.{put_mid}
use lib.Seq.{paste}
use Rattle.action.specs.declared.action.Action.{Action}
use Rattle.action.specs.Bytes.{action_bytes, action_of}
use Rattle.history.specs.Strips.{Recorded, strip_items}

-- an action lies in the first sixteen bytes
pub action_front : (bs : List ℕ) → action_of (take 16 bs) ≡ action_of bs
action_front bs =
    let b : (k : ℕ) → k < 16 → get_or (take 16 bs) k 0 ≡ get_or bs k 0 = λ k h. get_or-take 16 bs k 0 h in
    let b₁ = b 1 (lit< tt) in
    let b₂ = b 2 (lit< tt) in
    let b₃ = b 3 (lit< tt) in
    let b₄ = b 4 (lit< tt) in
    let b₅ = b 5 (lit< tt) in
    let b₆ = b 6 (lit< tt) in
    let b₇ = b 7 (lit< tt) in
    let b₈ = b 8 (lit< tt) in
    let b₉ = b 9 (lit< tt) in
    let b₁₀ = b 10 (lit< tt) in
    let b₁₁ = b 11 (lit< tt) in
    let b₁₂ = b 12 (lit< tt) in
    let b₁₃ = b 13 (lit< tt) in
    let b₁₄ = b 14 (lit< tt) in
    let b₁₅ = b 15 (lit< tt) in
    cc

pub length_strip : (n : ℕ) (bs : List ℕ) → length (strip_items n bs) ≡ n
length_strip zero bs = refl
length_strip (suc n) bs = ap suc (length_strip n (drop 16 bs))

-- where a place after the first begins
past_one : (k : ℕ) (bs : List ℕ) → drop (k * 16) (drop 16 bs) ≡ drop (suc k * 16) bs
past_one k bs = let e : 16 + k * 16 ≡ suc k * 16 = omega arith in drop-drop (k * 16) 16 bs ∙ ap (λ m. drop m bs) e

pub get_d_strip : (n k : ℕ) (bs : List ℕ) (d : Action) → k < n → get_or (strip_items n bs) k d ≡ action_of (drop (k * 16) bs)
get_d_strip zero k bs d h = absurd (omega arith)
get_d_strip (suc n) zero bs d h = refl
get_d_strip (suc n) (suc k) bs d h = get_d_strip n k (drop 16 bs) d (omega arith) ∙ ap action_of (past_one k bs)

-- the first m places, and then n more
pub strip_split : (m n : ℕ) (bs : List ℕ) → strip_items (m + n) bs ≡ strip_items m bs ++ strip_items n (drop (m * 16) bs)
strip_split zero n bs = rw zero-add refl
strip_split (suc m) n bs =
    rw (suc-add m n) (ap (λ t. action_of bs ∷ t) (strip_split m n (drop 16 bs) ∙ ap (λ t. strip_items m (drop 16 bs) ++ strip_items n t) (past_one m bs)))

-- the bytes of the places after the first
rest_of : (n : ℕ) (bs : List ℕ) → drop 16 (take (suc n * 16) bs) ≡ take (n * 16) (drop 16 bs)
rest_of n bs =
    let e : suc n * 16 ≡ 16 + n * 16 = omega arith in
    ap (λ m. drop 16 (take m bs)) e ∙ drop-take 16 (n * 16) bs

-- n places lie in n times sixteen bytes
pub strip_front : (n : ℕ) (bs : List ℕ) → strip_items n (take (n * 16) bs) ≡ strip_items n bs
strip_front zero bs = refl
strip_front (suc n) bs =
    let long : 16 ≤ suc n * 16 = omega arith in
    let head = sym (action_front (take (suc n * 16) bs)) ∙ ap action_of (take-take 16 (suc n * 16) bs long) ∙ action_front bs in
    let tail = ap (strip_items n) (rest_of n bs) ∙ strip_front n (drop 16 bs) in
    λ i. head i ∷ tail i

pub strip_same : (n : ℕ) (xs ys : List ℕ) → take (n * 16) xs ≡ take (n * 16) ys → strip_items n xs ≡ strip_items n ys
strip_same n xs ys e = sym (strip_front n xs) ∙ ap (strip_items n) e ∙ strip_front n ys

-- RECORDS

recorded_same : (n : ℕ) (xs ys : List ℕ) → take (n * 16) xs ≡ take (n * 16) ys → Recorded n xs → Recorded n ys
recorded_same n xs ys e h = sym e ∙ h ∙ ap (flat_map action_bytes) (strip_same n xs ys e)

recorded_first : (n : ℕ) (bs : List ℕ) → Recorded (suc n) bs → (take 16 bs ≡ action_bytes (action_of bs)) × Recorded n (drop 16 bs)
recorded_first n bs h =
    let long : 16 ≤ suc n * 16 = omega arith in
    (sym (take-take 16 (suc n * 16) bs long) ∙ ap (take 16) h, sym (rest_of n bs) ∙ ap (drop 16) h)

recorded_more : (n : ℕ) (bs : List ℕ) → take 16 bs ≡ action_bytes (action_of bs) → Recorded n (drop 16 bs) → Recorded (suc n) bs
recorded_more n bs one more =
    let e : suc n * 16 ≡ 16 + n * 16 = omega arith in
    ap (λ m. take m bs) e ∙ take-add 16 (n * 16) bs ∙ (λ i. one i ++ more i)

recorded_split : (m n : ℕ) (bs : List ℕ) → Recorded (m + n) bs → Recorded m bs × Recorded n (drop (m * 16) bs)
recorded_split zero n bs h = (refl, subst (λ (k : ℕ). Recorded k bs) (zero-add n) h)
recorded_split (suc m) n bs h =
    let one = recorded_first (m + n) bs (subst (λ (k : ℕ). Recorded k bs) (suc-add m n) h) in
    let more = recorded_split m n (drop 16 bs) one.1 in
    (recorded_more m bs one.0 more.0, subst (Recorded n) (past_one m bs) more.1)

recorded_join : (m n : ℕ) (bs : List ℕ) → Recorded m bs → Recorded n (drop (m * 16) bs) → Recorded (m + n) bs
recorded_join zero n bs h more = subst (λ (k : ℕ). Recorded k bs) (sym (zero-add n)) more
recorded_join (suc m) n bs h more =
    let one = recorded_first m bs h in
    let rest = recorded_join m n (drop 16 bs) one.1 (subst (Recorded n) (sym (past_one m bs)) more) in
    subst (λ (k : ℕ). Recorded k bs) (sym (suc-add m n)) (recorded_more (m + n) bs one.0 rest)

-- EDITS

-- an edit at the seam of two lists
inserted_at : (xs ys : List Action) (a : Action) (i : ℕ) → length xs ≡ i → insert (xs ++ ys) i a ≡ xs ++ a ∷ ys
inserted_at xs ys a i e = λ t. take_at xs ys i e t ++ a ∷ drop_at xs ys i e t

removed_at : (xs ys : List Action) (a : Action) (i : ℕ) → length xs ≡ i → remove (xs ++ a ∷ ys) i ≡ xs ++ ys
removed_at xs ys a i e =
    let all = xs ++ a ∷ ys in
    let past = ap (λ m. drop m all) (sym (add-one i)) ∙ sym (drop-drop 1 i all) ∙ ap (drop 1) (drop_at xs (a ∷ ys) i e) in
    λ t. take_at xs (a ∷ ys) i e t ++ past t

module _ (n i : ℕ) (xs ys : List ℕ) (below : take (i * 16) ys ≡ take (i * 16) xs) where
  -- ys has the action's record at place i, and after it the places that xs has from place i to the n-th
  pub strip_inserted : (zs : List ℕ) (a : Action) → i ≤ n → action_of (action_bytes a) ≡ a → drop (i * 16) ys ≡ action_bytes a ++ zs → take (n * 16 - i * 16) zs ≡ take (n * 16 - i * 16) (drop (i * 16) xs) → strip_items (n + 1) ys ≡ insert (strip_items n xs) i a
  strip_inserted zs a within back here above =
      let k = n - i in
      let more : n + 1 ≡ i + suc k = omega arith in
      let all : i + k ≡ n = omega arith in
      let bytes : k * 16 ≡ n * 16 - i * 16 = omega arith in
      let head = ap action_of here ∙ back in
      let tail = ap (λ bs. strip_items k (drop 16 bs)) here ∙ strip_same k zs (drop (i * 16) xs) (rw bytes above) in
      let was = ap (λ m. insert (strip_items m xs) i a) (sym all) ∙ ap (λ l. insert l i a) (strip_split i k xs) ∙ inserted_at _ _ a i (length_strip i xs) in
      ap (λ m. strip_items m ys) more ∙ strip_split i (suc k) ys ∙ (λ t. strip_same i ys xs below t ++ head t ∷ tail t) ∙ sym was

  recorded_inserted : (zs : List ℕ) (a : Action) → i ≤ n → action_of (action_bytes a) ≡ a → drop (i * 16) ys ≡ action_bytes a ++ zs → take (n * 16 - i * 16) zs ≡ take (n * 16 - i * 16) (drop (i * 16) xs) → Recorded n xs → Recorded (n + 1) ys
  recorded_inserted zs a within back here above h =
      let k = n - i in
      let more : n + 1 ≡ i + suc k = omega arith in
      let all : i + k ≡ n = omega arith in
      let bytes : k * 16 ≡ n * 16 - i * 16 = omega arith in
      let was = recorded_split i k xs (subst (λ (m : ℕ). Recorded m xs) (sym all) h) in
      let head = ap (take 16) here ∙ sym (ap action_bytes (ap action_of here ∙ back)) in
      let same : take (k * 16) (drop (i * 16) xs) ≡ take (k * 16) zs = rw bytes (sym above) in
      let tail = subst (λ bs. Recorded k (drop 16 bs)) (sym here) (recorded_same k _ zs same was.1) in
      let first = recorded_same i xs ys (sym below) was.0 in
      subst (λ (m : ℕ). Recorded m ys) (sym more) (recorded_join i (suc k) ys first (recorded_more k (drop (i * 16) ys) head tail))

  recorded_removed : i < n → take (n * 16 - (i * 16 + 16)) (drop (i * 16) ys) ≡ take (n * 16 - (i * 16 + 16)) (drop (i * 16 + 16) xs) → Recorded n xs → Recorded (n - 1) ys
  recorded_removed within above h =
      let k = n - 1 - i in
      let less : n - 1 ≡ i + k = omega arith in
      let all : i + suc k ≡ n = omega arith in
      let bytes : k * 16 ≡ n * 16 - (i * 16 + 16) = omega arith in
      let was = recorded_split i (suc k) xs (subst (λ (m : ℕ). Recorded m xs) (sym all) h) in
      let past = (recorded_first k (drop (i * 16) xs) was.1).1 in
      let same : take (k * 16) (drop (i * 16 + 16) xs) ≡ take (k * 16) (drop (i * 16) ys) = rw bytes (sym above) in
      let tail = recorded_same k _ _ (ap (take (k * 16)) (drop-drop 16 (i * 16) xs) ∙ same) past in
      let first = recorded_same i xs ys (sym below) was.0 in
      subst (λ (m : ℕ). Recorded m ys) (sym less) (recorded_join i k ys first tail)

  -- ys has from place i on the places that xs has after place i, to the n-th
  pub strip_removed : i < n → take (n * 16 - (i * 16 + 16)) (drop (i * 16) ys) ≡ take (n * 16 - (i * 16 + 16)) (drop (i * 16 + 16) xs) → strip_items (n - 1) ys ≡ remove (strip_items n xs) i
  strip_removed within above =
      let k = n - 1 - i in
      let less : n - 1 ≡ i + k = omega arith in
      let all : i + suc k ≡ n = omega arith in
      let bytes : k * 16 ≡ n * 16 - (i * 16 + 16) = omega arith in
      let tail = strip_same k _ _ (rw bytes above) ∙ ap (strip_items k) (sym (drop-drop 16 (i * 16) xs)) in
      let was = ap (λ m. remove (strip_items m xs) i) (sym all) ∙ ap (λ l. remove l i) (strip_split i (suc k) xs) ∙ removed_at _ _ _ i (length_strip i xs) in
      ap (λ m. strip_items m ys) less ∙ strip_split i k ys ∙ (λ t. strip_same i ys xs below t ++ tail t) ∙ sym was

-- the first m of s, copied into d from `at` on
module _ (d : List ℕ) (at : ℕ) (s : List ℕ) (m : ℕ) (fits : at + m ≤ length d) (enough : m ≤ length s) where
  pub take_below_paste : (n : ℕ) → n ≤ at → take n (paste d at s m) ≡ take n d
  take_below_paste n le =
      let front : length (take at d) ≡ at = length-take-le at d (omega arith) in
      rw append_assoc (take-append-le n (take at d) _ (omega arith) ∙ take-take n at d le)

  pub take_pasted : take m (drop at (paste d at s m)) ≡ take m s
  take_pasted =
      let front : length (take at d) ≡ at = length-take-le at d (omega arith) in
      rw append_assoc (ap (take m) (drop_at (take at d) _ at front) ∙ take_at (take m s) _ m (length-take-le m s enough))

  pub drop_past_paste : (n : ℕ) → at + m ≤ n → drop n (paste d at s m) ≡ drop n d
  drop_past_paste n le =
      let k = n - (at + m) in
      let e : at + m + k ≡ n = omega arith in
      rw (← e) (sym (drop-drop k (at + m) (paste d at s m)) ∙ ap (drop k) (drop-paste d at s m (omega arith) enough) ∙ drop-drop k (at + m) d)

-- the places of xs from place i to the n-th, moved up by one, and the record of a written over the k bytes of place i
module _ (n i k : ℕ) (xs ws rs : List ℕ) (a : Action) (within : i ≤ n) (room : n * 16 + 16 ≤ length xs) (size : k ≡ 16) (moved : ws ≡ paste xs (i * 16 + 16) (drop (i * 16) xs) (n * 16 - i * 16)) (written : rs ≡ action_bytes a) where
  fits : i * 16 + 16 + (n * 16 - i * 16) ≤ length xs
  fits = omega arith

  enough : n * 16 - i * 16 ≤ length (drop (i * 16) xs)
  enough = simp length-drop (omega arith)

  long : length ws ≡ length xs
  long = ap length moved ∙ length-paste _ _ _ _ fits enough

  front : length (take (i * 16) ws) ≡ i * 16
  front = length-take-le (i * 16) ws (omega (arith, long))

  below : take (i * 16) (put_mid (i * 16) k ws rs) ≡ take (i * 16) xs
  below = take_at (take (i * 16) ws) _ (i * 16) front ∙ ap (take (i * 16)) moved ∙ take_below_paste _ _ _ _ fits enough (i * 16) (omega arith)

  here : drop (i * 16) (put_mid (i * 16) k ws rs) ≡ action_bytes a ++ drop k (drop (i * 16) ws)
  here = drop_at (take (i * 16) ws) (rs ++ drop k (drop (i * 16) ws)) (i * 16) front ∙ ap (λ bs. bs ++ drop k (drop (i * 16) ws)) written

  above : take (n * 16 - i * 16) (drop k (drop (i * 16) ws)) ≡ take (n * 16 - i * 16) (drop (i * 16) xs)
  above =
      let after = ap (λ m. drop m (drop (i * 16) ws)) size ∙ drop-drop 16 (i * 16) ws ∙ ap (drop (i * 16 + 16)) moved in
      ap (take (n * 16 - i * 16)) after ∙ take_pasted _ _ _ _ fits enough

  pub strip_put : action_of (action_bytes a) ≡ a → strip_items (n + 1) (put_mid (i * 16) k ws rs) ≡ insert (strip_items n xs) i a
  strip_put back = strip_inserted n i xs _ below _ a within back here above

  pub recorded_put : action_of (action_bytes a) ≡ a → Recorded n xs → Recorded (n + 1) (put_mid (i * 16) k ws rs)
  recorded_put back = recorded_inserted n i xs _ below _ a within back here above

  pub rest_put : drop ((n + 1) * 16) (put_mid (i * 16) k ws rs) ≡ drop ((n + 1) * 16) xs
  rest_put =
      let all = (n + 1) * 16 in
      drop-put_mid (i * 16) k ws rs all (omega arith) (omega (arith, long)) (ap length written ∙ sym size) ∙ ap (drop all) moved ∙ drop_past_paste _ _ _ _ fits enough all (omega arith)

-- the places of xs after place i, to the n-th, moved down by one
module _ (n i : ℕ) (xs ws : List ℕ) (within : i < n) (room : n * 16 ≤ length xs) (moved : ws ≡ paste xs (i * 16) (drop (i * 16 + 16) xs) (n * 16 - (i * 16 + 16))) where
  less : i * 16 + (n * 16 - (i * 16 + 16)) ≤ length xs
  less = omega arith

  left : n * 16 - (i * 16 + 16) ≤ length (drop (i * 16 + 16) xs)
  left = simp length-drop (omega arith)

  start : take (i * 16) ws ≡ take (i * 16) xs
  start = ap (take (i * 16)) moved ∙ take_below_paste _ _ _ _ less left (i * 16) (omega arith)

  end : take (n * 16 - (i * 16 + 16)) (drop (i * 16) ws) ≡ take (n * 16 - (i * 16 + 16)) (drop (i * 16 + 16) xs)
  end = ap (λ bs. take (n * 16 - (i * 16 + 16)) (drop (i * 16) bs)) moved ∙ take_pasted _ _ _ _ less left

  pub strip_take : strip_items (n - 1) ws ≡ remove (strip_items n xs) i
  strip_take = strip_removed n i xs ws start within end

  pub recorded_take : Recorded n xs → Recorded (n - 1) ws
  recorded_take = recorded_removed n i xs ws start within end

  pub rest_take : drop ((n - 1) * 16) ws ≡ drop ((n - 1) * 16) xs
  rest_take = ap (drop ((n - 1) * 16)) moved ∙ drop_past_paste _ _ _ _ less left ((n - 1) * 16) (omega arith)

-- what each step over a strip's places needs
pub ruleset strip_steps = (action_front, get_d_strip, length_strip, strip_take, recorded_take, rest_take)
