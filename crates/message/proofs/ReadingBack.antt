-- What is written reads back as the same. Assumes nothing.
use Rattle.std.proofs.Common.{◌≡◌, ℕ, ◌+◌, List, [], ◌∷◌, length, drop, Some, None, Ok, Err, fold, Option, Result, sym, refl, ap, ◌∙◌}
use Rattle.std.specs.List.{flat_map, AllByRecursion}
use Rattle.std.proofs.lemmas.List.{drop_at, drop-drop}
use Rattle.action.specs.declared.setup.Setup.{Setup}
use Rattle.kind.specs.Meaning.{Meaning}
use Rattle.message.specs.declared.reader_fault.ReaderFault.{ReaderFault}
use Rattle.message.specs.declared.due.Due.TheVariants as Due
use Rattle.message.specs.declared.records.FoundRecord.{FoundRecord}
use Rattle.message.specs.declared.progress.Progress.{Progress}
use Rattle.message.specs.declared.record.Record.{Record}
use Rattle.message.specs.Decoding.{decoded}
use Rattle.message.specs.Fields.{Fitting}
use Rattle.message.specs.Format.{Message, carried, record_bytes, records, told_intervals}
use Rattle.message.specs.Found.{found_in, placed}
use Rattle.message.specs.Progress.{start}
use Rattle.message.specs.ReadBack.{IsMessage, IsMessageFor, ReadsExactly}
use Rattle.message.specs.Reading.{Next, Step, judged, onward, step, stepped}
use Rattle.message.specs.Walks.{actions_of, intervals_of, records_in}
use Rattle.message.proofs.Carried.{carried_of, told_intervals_of}
use Rattle.message.proofs.Decodings.{decoded_format}
use Rattle.message.proofs.Messages.{lawful_reads}
use Rattle.message.proofs.Onward.{first_on, some_same}
use Rattle.message.proofs.Sameness.{lawful_fits}
use Rattle.message.proofs.Walking.{lawful_records}

-- BY THE ITERATORS

module _ (bytes : List ℕ) (m : Message) (is : IsMessage bytes m) where
  pub records_back : records_in bytes ≡ records m
  records_back = lawful_records is.0 is.1 bytes m is.2.one_byte is.2.lawful is.2.written

  pub found_back : found_in bytes ≡ placed 0 (records m)
  found_back = ap (placed 0) records_back

  pub intervals_back : intervals_of 0 (records_in bytes) ≡ told_intervals m
  intervals_back = ap (intervals_of 0) records_back ∙ told_intervals_of 0 m

  pub actions_back : actions_of (records_in bytes) ≡ carried m
  actions_back = ap actions_of records_back ∙ carried_of m

-- BY THE READER

module _ (kind : Meaning) (setup : Setup) (bytes : List ℕ) where
  -- where a step finds a record, a call gives that record and leads on from it
  next_record : (p q s : Progress) (at to : ℕ) (r : Record) (answer : Result (Option FoundRecord) ReaderFault) → step kind setup p at (drop at bytes) ≡ Ok (Some (r, s)) → Next kind setup p at bytes answer q to → (answer ≡ Ok (Some (record { offset = at; «record» = r }))) × (q ≡ s) × (to ≡ at + length (record_bytes r))
  next_record p q s at to r (Ok None) so h = let e : ◌≡◌ {A = Step} (Ok None) (Ok (Some (r, s))) = sym h.0 ∙ so in cc
  next_record p q s at to r (Ok (Some f)) so h =
      let e : ◌≡◌ {A = Step} (Ok (Some (f.«record», q))) (Ok (Some (r, s))) = sym h.0 ∙ so in
      let both : ◌≡◌ {A = Record × Progress} (f.«record», q) (r, s) = cc in
      let same : f.«record» ≡ r = ap (λ t. t.0) both in
      (λ i. Ok (Some (record { offset = h.1 i; «record» = same i })), ap (λ t. t.1) both, h.2 ∙ ap (λ x. at + length (record_bytes x)) same)
  next_record p q s at to r (Err e) so h = let e : ◌≡◌ {A = Step} (Err e) (Ok (Some (r, s))) = sym h.0 ∙ so in cc

  -- where it finds the end, a call gives the end and stays
  next_end : (p q : Progress) (at to : ℕ) (answer : Result (Option FoundRecord) ReaderFault) → step kind setup p at (drop at bytes) ≡ Ok None → Next kind setup p at bytes answer q to → (answer ≡ Ok None) × (q ≡ p) × (to ≡ at)
  next_end p q at to (Ok None) so h = (refl, h.1, h.2)
  next_end p q at to (Ok (Some f)) so h = let e : ◌≡◌ {A = Step} (Ok (Some (f.«record», q))) (Ok None) = sym h.0 ∙ so in cc
  next_end p q at to (Err e) so h = let e : ◌≡◌ {A = Step} (Err e) (Ok None) = sym h.0 ∙ so in cc

  -- records that lead to the end, and whose bytes are all that is left, are what is read
  reads_just : (rs : List Record) (p e : Progress) (at : ℕ) → fold (onward kind setup) (Some p) rs ≡ Some e → e.due ≡ Due.End → AllByRecursion Fitting rs → drop at bytes ≡ flat_map record_bytes rs → ReadsExactly kind setup bytes p at (placed at rs)
  reads_just [] p e at read end fits left =
      let due : p.due ≡ Due.End = ap (λ x. x.due) (some_same p e read) ∙ end in
      let here : step kind setup p at (drop at bytes) ≡ Ok None = λ i. stepped kind setup p at (decoded (due i) (left i)) in
      record { gives = (here, refl, refl); only = λ answer q to h. next_end p q at to answer here h }
  reads_just (r ∷ rs) p e at read end fits left =
      let f = first_on kind setup p e r rs read in
      let more = flat_map record_bytes rs in
      let size = length (record_bytes r) in
      let here : step kind setup p at (drop at bytes) ≡ Ok (Some (r, f.next)) = ap (stepped kind setup p at) (ap (decoded p.due) left ∙ decoded_format more p.due r f.was_due fits.0) ∙ ap (judged at r) f.passes in
      let past : drop (at + size) bytes ≡ more = sym (drop-drop size at bytes) ∙ ap (drop size) left ∙ drop_at (record_bytes r) more size refl in (
        f.next,
        at + size,
        record { gives = (here, refl, refl); only = λ answer q to h. next_record p q f.next at to r answer here h },
        reads_just rs f.next e (at + size) f.onto end fits.1 past,
      )

  pub read_back : (m : Message) → IsMessageFor kind setup bytes m → ReadsExactly kind setup bytes start 0 (placed 0 (records m))
  read_back m is =
      let read = lawful_reads kind setup m is.lawful in
      reads_just (records m) start read.0 0 read.1 read.2 (lawful_fits kind setup is.one_byte m is.lawful) is.written
