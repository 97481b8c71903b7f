-- A record that was read has the bytes that it was read from. Assumes nothing.
use Rattle.std.proofs.Common.{◌≡◌, ℕ, zero, suc, ◌+◌, ◌^◌, ◌<◌, ◌≤◌, Bool, true, false, cond, eqb, leb, List, [], ◌∷◌, ◌++◌, map, length, get_or, drop, Some, None, Ok, Err, sym, refl, ap, ◌∙◌, subst, arith, w32, to_z, of_z}
use mir.Facts.{sfits_to_z}
use Rattle.std.specs.List.{range_with_len}
use Rattle.std.proofs.lemmas.List.{drop_more}
use Rattle.std.proofs.lemmas.Int.{of_z-to_z}
use Rattle.std.proofs.lemmas.Bool.{and_parts, eqb-true, leb-true}
use Rattle.action.specs.Bytes.{action_bytes, action_of, bytes_of, number4}
use Rattle.message.specs.declared.reader_fault.UnplacedFault.TheVariants.{Cut, Trailing}
use Rattle.message.specs.declared.due.Due.{Due}
use Rattle.message.specs.declared.record.Record.{Record}
use Rattle.message.specs.Decoding.{begins, decoded, header_in, interval_in, number2, section_in}
use Rattle.message.specs.Fields.{ActionFits, Fitting, HeaderFits, IntervalFits, SectionFits}
use Rattle.message.specs.Format.{header_bytes, interval_bytes, record_bytes, section_bytes}
use Rattle.message.specs.Rules.{is_due}
use Rattle.message.proofs.Digits.{four_digits, two_digits}

-- a list by its next n elements and the rest
spread : (bs : List ℕ) (i n : ℕ) → i + n ≤ length bs → drop i bs ≡ map (λ k. get_or bs k 0) (range_with_len i n) ++ drop (i + n) bs
spread bs i zero h = ap (λ k. drop k bs) (omega arith)
spread bs i (suc n) h =
    drop_more bs i 0 (omega arith) ∙ ap (λ l. get_or bs i 0 ∷ l) (spread bs (i + 1) n (omega arith) ∙ ap (λ k. map (λ k. get_or bs k 0) (range_with_len (i + 1) n) ++ drop k bs) (omega arith))

module _ (bs : List ℕ) (bytes : (i : ℕ) → get_or bs i 0 < 256) where
  two : (i : ℕ) → bytes_of 2 (number2 bs i) ≡ get_or bs i 0 ∷ (get_or bs (i + 1) 0 ∷ [])
  two i = two_digits (get_or bs i 0) (get_or bs (i + 1) 0) (bytes i) (bytes (i + 1))

  four : (i : ℕ) → bytes_of 4 (number4 bs i) ≡ get_or bs i 0 ∷ (get_or bs (i + 1) 0 ∷ (get_or bs (i + 2) 0 ∷ (get_or bs (i + 3) 0 ∷ [])))
  four i = four_digits (get_or bs i 0) (get_or bs (i + 1) 0) (get_or bs (i + 2) 0) (get_or bs (i + 3) 0) (bytes i) (bytes (i + 1)) (bytes (i + 2)) (bytes (i + 3))

  number4_lt : (i : ℕ) → number4 bs i < 2 ^ 32
  number4_lt i = omega (arith, bytes i, bytes (i + 1), bytes (i + 2), bytes (i + 3))

  header_back : 6 ≤ length bs → get_or bs 0 0 ≡ 0x48 → bs ≡ header_bytes (header_in bs) ++ drop 6 bs
  header_back long is =
      spread bs 0 6 long ∙ (λ j. is j ∷ (sym (two 1) j ++ (get_or bs 3 0 ∷ (get_or bs 4 0 ∷ (get_or bs 5 0 ∷ drop 6 bs)))))

  section_back : 5 ≤ length bs → get_or bs 0 0 ≡ 0x53 → bs ≡ section_bytes (section_in bs) ++ drop 5 bs
  section_back long is = spread bs 0 5 long ∙ (λ j. is j ∷ (get_or bs 1 0 ∷ (get_or bs 2 0 ∷ (sym (two 3) j ++ drop 5 bs))))

  interval_back : 10 ≤ length bs → get_or bs 0 0 ≡ 0x49 → bs ≡ interval_bytes (interval_in bs) ++ drop 10 bs
  interval_back long is = spread bs 0 10 long ∙ (λ j. is j ∷ (get_or bs 1 0 ∷ (sym (four 2) j ++ (sym (four 6) j ++ drop 10 bs))))

  action_back : 16 ≤ length bs → get_or bs 0 0 ≡ 0x41 → bs ≡ action_bytes (action_of bs) ++ drop 16 bs
  action_back long is =
      spread bs 0 16 long ∙ (λ j. is j ∷ (get_or bs 1 0 ∷ (sym (four 2) j ++ (sym (four 6) j ++ (get_or bs 10 0 ∷ (get_or bs 11 0 ∷ (amount j ++ drop 16 bs)))))))
    where
      amount : get_or bs 12 0 ∷ (get_or bs 13 0 ∷ (get_or bs 14 0 ∷ (get_or bs 15 0 ∷ []))) ≡ bytes_of 4 (of_z w32 (to_z w32 (number4 bs 12)))
      amount = sym (four 12) ∙ ap (bytes_of 4) (sym (of_z-to_z w32 (number4 bs 12) (number4_lt 12)))

  -- what a test for a kind byte and a length tells
  told : (kind size : ℕ) → begins kind size bs ≡ true → (size ≤ length bs) × (get_or bs 0 0 ≡ kind)
  told kind size h = let parts = and_parts (leb size (length bs)) (eqb (get_or bs 0 0) kind) h in (leb-true size (length bs) parts.0, eqb-true (get_or bs 0 0) kind parts.1)

  number2_lt : (i : ℕ) → number2 bs i < 65536
  number2_lt i = omega (arith, bytes i, bytes (i + 1))

  header_fits : HeaderFits (header_in bs)
  header_fits = record { group = number2_lt 1; kind = bytes 3; sender = bytes 4; sections = bytes 5 }

  section_fits : SectionFits (section_in bs)
  section_fits = record { article = bytes 1; intervals = bytes 2; actions = number2_lt 3 }

  interval_fits : IntervalFits (interval_in bs)
  interval_fits = record { site = bytes 1; from = number4_lt 2; to = number4_lt 6 }

  action_fits : ActionFits (action_of bs)
  action_fits = record {
    coordinator = bytes 1;
    time = number4_lt 2;
    transaction = number4_lt 6;
    article = bytes 10;
    operation = bytes 11;
    amount = sfits_to_z record { fits = number4_lt 12 };
  }

  -- the record was due, its fields fit, and the bytes begin with its own
  abbrev Back : Due → Record → Type 0
  Back d r = (is_due d r ≡ true) × Fitting r × (bs ≡ record_bytes r ++ drop (length (record_bytes r)) bs)

  chosen : (b : Bool) (x : Record) (r : Record) → cond b (Ok (Some x)) (Err Cut) ≡ Ok (Some r) → (b ≡ true) × (x ≡ r)
  chosen true x r h = (refl, cc)
  chosen false x r h = cc

  pub whole_back : (d : Due) (r : Record) → decoded d bs ≡ Ok (Some r) → Back d r
  whole_back Due.Header r h =
      let c = chosen _ _ r h in
      let t = told 0x48 6 c.0 in
      subst (Back Due.Header) c.1 (refl, header_fits, header_back t.0 t.1)
  whole_back Due.Section r h =
      let c = chosen _ _ r h in
      let t = told 0x53 5 c.0 in
      subst (Back Due.Section) c.1 (refl, section_fits, section_back t.0 t.1)
  whole_back Due.Interval r h =
      let c = chosen _ _ r h in
      let t = told 0x49 10 c.0 in
      subst (Back Due.Interval) c.1 (refl, interval_fits, interval_back t.0 t.1)
  whole_back Due.Action r h =
      let c = chosen _ _ r h in
      let t = told 0x41 16 c.0 in
      subst (Back Due.Action) c.1 (refl, action_fits, action_back t.0 t.1)
  whole_back Due.End r h = absurd (never (eqb (length bs) 0) h)
    where
      never : (b : Bool) → cond b (Ok None) (Err Trailing) ≡ Ok (Some r) → ⊥
      never true e = cc
      never false e = cc
