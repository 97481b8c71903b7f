-- A transaction message's bytes, article by article. Assumes nothing.
use Rattle.std.proofs.Common.{◌≡◌, ℕ, zero, suc, ◌+◌, ◌-◌, ◌*◌, ◌≤◌, Bool, true, false, cond, eqb, ltb, List, [], ◌∷◌, ◌++◌, map, length, count_by, filter, sym, refl, ap, ◌∙◌, ⊎_elim, add-zero, add-suc, add-one, arith}
use Rattle.std.specs.List.{range_with_len, flat_map}
use Rattle.std.proofs.lemmas.List.FromFn.{filter_of_map_range_with_len_more}
use Rattle.std.proofs.lemmas.List.{append-nil, length-append, map-id, map_push}
use Rattle.std.proofs.lemmas.List.Sums.{sum_by-cons}
use Rattle.std.proofs.lemmas.Bool.{cases_Bool, ltb-true}
use Rattle.std.proofs.lemmas.Bool.Decides.{nat_tests}
use Rattle.action.specs.declared.action.Action.{Action}
use Rattle.kind.specs.Meaning.{Meaning}
use Rattle.kind.specs.Working.{on}
use Rattle.message.specs.Format.{format, header_bytes, header_of, section_format}
use Rattle.message.proofs.Formats.{format_is, joined_push, length_section}
use Rattle.table.specs.Transactions.{is_written, transaction_message, transaction_section}
use Rattle.table.specs.View.{View}

-- what never falls from one number to the next
grown_by : (f : ℕ → ℕ) → ((k : ℕ) → f k ≤ f (k + 1)) → (k d : ℕ) → f k ≤ f (k + d)
grown_by f step k zero = omega (arith, ap f (add-zero k))
grown_by f step k (suc d) = omega (arith, grown_by f step k d, step (k + d), ap f (sym (add-suc k d ∙ sym (add-one (k + d)))))

pub grown : (f : ℕ → ℕ) → ((k : ℕ) → f k ≤ f (k + 1)) → (k n : ℕ) → k ≤ n → f k ≤ f n
grown f step k n le = let e : k + (n - k) ≡ n = omega arith in omega (arith, grown_by f step k (n - k), ap f e)

-- the actions on articles up to k are those below it and those on it
one_step : (a k : ℕ) → cond {A = ℕ} (ltb a (suc k)) 1 0 ≡ cond (ltb a k) 1 0 + cond (eqb a k) 1 0
one_step a k = grind (arith, nat_tests)

count_step : (k : ℕ) (xs : List Action) → count_by (λ x. ltb x.article (suc k)) xs ≡ count_by (λ x. ltb x.article k) xs + length (on k xs)
count_step k [] = refl
count_step k (x ∷ xs) =
    let a = x.article in
    sum_by-cons (λ x. cond (ltb x.article (suc k)) 1 0) x xs ∙ omega (arith, one_step a k, count_step k xs, sum_by-cons (λ x. cond (ltb x.article k) 1 0) x xs, on_length (eqb a k) refl)
  where
    on_length : (b : Bool) → eqb x.article k ≡ b → length (on k (x ∷ xs)) ≡ cond {A = ℕ} (eqb x.article k) 1 0 + length (on k xs)
    on_length true e = ap (λ t. length (cond t (x ∷ on k xs) (on k xs))) e ∙ sym (ap (λ t. cond {A = ℕ} t 1 0 + length (on k xs)) e ∙ omega arith)
    on_length false e = ap (λ t. length (cond t (x ∷ on k xs) (on k xs))) e ∙ sym (ap (λ t. cond {A = ℕ} t 1 0 + length (on k xs)) e ∙ omega arith)

module _ (v : View) where
  -- the articles below k that were written
  abbrev pub below : ℕ → List ℕ
  below k = filter (is_written v) (range_with_len 0 k)

  below_step : (k : ℕ) → below (k + 1) ≡ below k ++ cond (is_written v k) (k ∷ []) []
  below_step k =
      ap (filter (is_written v)) (sym (map-id (range_with_len 0 (k + 1)))) ∙ filter_of_map_range_with_len_more (is_written v) (λ j. j) 0 k k (omega arith) ∙ ap (λ l. filter (is_written v) l ++ cond (is_written v k) (k ∷ []) []) (map-id (range_with_len 0 k))

  pub below_more : (k : ℕ) → is_written v k ≡ true → below (k + 1) ≡ below k ++ (k ∷ [])
  below_more k is = below_step k ∙ ap (λ b. below k ++ cond b (k ∷ []) []) is

  pub below_same : (k : ℕ) → is_written v k ≡ false → below (k + 1) ≡ below k
  below_same k is = below_step k ∙ ap (λ b. below k ++ cond b (k ∷ []) []) is ∙ append-nil (below k)

  -- the bytes of their sections
  abbrev pub wrote : ℕ → List ℕ
  wrote k = flat_map section_format (map (transaction_section v) (below k))

  pub wrote_more : (k : ℕ) → is_written v k ≡ true → wrote (k + 1) ≡ wrote k ++ section_format (transaction_section v k)
  wrote_more k is =
      ap (λ l. flat_map section_format (map (transaction_section v) l)) (below_more k is) ∙ ap (flat_map section_format) (map_push (transaction_section v) (below k) k) ∙ joined_push section_format (map (transaction_section v) (below k)) (transaction_section v k)

  pub wrote_same : (k : ℕ) → is_written v k ≡ false → wrote (k + 1) ≡ wrote k
  wrote_same k is = ap (λ l. flat_map section_format (map (transaction_section v) l)) (below_same k is)

  grows : (k : ℕ) → length (wrote k) ≤ length (wrote (k + 1))
  grows k =
      ⊎_elim (λ is. omega (arith, ap length (wrote_more k is), length-append (wrote k) (section_format (transaction_section v k)))) (λ is. omega (arith, ap length (wrote_same k is))) (cases_Bool (is_written v k))

  pub wrote_le : (k n : ℕ) → k ≤ n → length (wrote k) ≤ length (wrote n)
  wrote_le k n le = grown (λ j. length (wrote j)) grows k n le

  below_grows : (k : ℕ) → length (below k) ≤ length (below (k + 1))
  below_grows k =
      ⊎_elim (λ is. omega (arith, ap length (below_more k is), length-append (below k) (k ∷ []))) (λ is. omega (arith, ap length (below_same k is))) (cases_Bool (is_written v k))

  pub below_le : (k n : ℕ) → k ≤ n → length (below k) ≤ length (below n)
  below_le k n le = grown (λ j. length (below j)) below_grows k n le

  -- no more articles were written than there are writes on them
  pub few_below : (k : ℕ) → length (below k) ≤ count_by (λ x. ltb x.article k) v.pending
  few_below zero = omega arith
  few_below (suc k) =
      let step = count_step k v.pending in
      let rest = few_below k in
      let next : suc k ≡ k + 1 = omega arith in
      ⊎_elim
      (λ is. omega (arith, ap (λ n. length (below n)) next, ap length (below_more k is), length-append (below k) (k ∷ []), ltb-true 0 (length (on k v.pending)) is))
      (λ is. omega (arith, ap (λ n. length (below n)) next, ap length (below_same k is)))
      (cases_Bool (is_written v k))

  pub length_transaction_section : (a : ℕ) → length (section_format (transaction_section v a)) ≡ 15 + 16 * length (on a v.pending)
  length_transaction_section a = length_section (transaction_section v a) ∙ omega arith

  module _ (kind : Meaning) where
    abbrev pub header : List ℕ
    header = header_bytes (header_of (transaction_message kind v))

    pub transaction_is : format (transaction_message kind v) ≡ header ++ wrote v.setup.articles
    transaction_is = format_is (transaction_message kind v)

    pub length_transaction : length (format (transaction_message kind v)) ≡ 6 + length (wrote v.setup.articles)
    length_transaction = ap length transaction_is ∙ length-append header (wrote v.setup.articles)
