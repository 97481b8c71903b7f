-- A message's bytes, part by part. Assumes nothing.
use Rattle.std.proofs.Common.{◌≡◌, ℕ, ◌+◌, ◌*◌, ◌≤◌, List, [], ◌∷◌, ◌++◌, map, length, sym, refl, ap, ◌∙◌, arith}
use Rattle.std.specs.List.{flat_map}
use Rattle.std.proofs.lemmas.Grind.{flat_map-append}
use Rattle.std.proofs.lemmas.List.{append-nil, length-append}
use Rattle.std.proofs.lemmas.List.Folds.{flat_map-map}
use Rattle.action.specs.Bytes.{action_bytes}
use Rattle.message.proofs.Buffers.{written_then}
use Rattle.message.specs.declared.record.Record.TheVariants as RecordKinds
use Rattle.message.specs.Buffer.{overwritten}
use Rattle.message.specs.Format.{Message, Section, format, head_of, header_bytes, header_of, interval_bytes, record_bytes, section_bytes, section_format, section_records}

pub joined_push : {X A : Type 0} (f : X → List A) (xs : List X) (x : X) → flat_map f (xs ++ (x ∷ [])) ≡ flat_map f xs ++ f x
joined_push f xs x = flat_map-append f xs (x ∷ []) ∙ ap (λ l. flat_map f xs ++ l) (append-nil (f x))

pub joined_joined : {X Y A : Type 0} (f : Y → List A) (g : X → List Y) (xs : List X) → flat_map f (flat_map g xs) ≡ flat_map (λ x. flat_map f (g x)) xs
joined_joined f g [] = refl
joined_joined f g (x ∷ xs) = flat_map-append f (g x) (flat_map g xs) ∙ ap (λ l. flat_map f (g x) ++ l) (joined_joined f g xs)

-- parts of one length
pub length_joined : {X A : Type 0} (f : X → List A) (k : ℕ) → ((x : X) → length (f x) ≡ k) → (xs : List X) → length (flat_map f xs) ≡ k * length xs
length_joined f k each [] = omega arith
length_joined f k each (x ∷ xs) = length-append (f x) (flat_map f xs) ∙ (λ i. each x i + length_joined f k each xs i) ∙ grind arith

-- a section's head, and then its blocks
pub section_is : (s : Section) → section_format s ≡ section_bytes (head_of s) ++ (flat_map interval_bytes s.intervals ++ flat_map action_bytes s.actions)
section_is s =
    ap (λ l. section_bytes (head_of s) ++ l) (flat_map-append record_bytes (map RecordKinds.Interval s.intervals) (map RecordKinds.Action s.actions) ∙ (λ i. flat_map-map record_bytes RecordKinds.Interval s.intervals i ++ flat_map-map record_bytes RecordKinds.Action s.actions i))

pub length_section : (s : Section) → length (section_format s) ≡ 5 + (10 * length s.intervals + 16 * length s.actions)
length_section s =
    ap length (section_is s) ∙ length-append (section_bytes (head_of s)) _ ∙ ap (λ n. 5 + n) (length-append (flat_map interval_bytes s.intervals) _ ∙ (λ i. length_joined interval_bytes 10 (λ _. refl) s.intervals i + length_joined action_bytes 16 (λ _. refl) s.actions i))

pub format_is : (m : Message) → format m ≡ header_bytes (header_of m) ++ flat_map section_format m.sections
format_is m = ap (λ l. header_bytes (header_of m) ++ l) (joined_joined record_bytes section_records m.sections)

-- a loop that writes f x after f of each before it
pub written_more : {X : Type 0} (f : X → List ℕ) (b b₁ b₂ : List ℕ) (start at : ℕ) (xs : List X) (x : X) → at ≡ start + length (flat_map f xs) → at ≤ length b → b₁ ≡ overwritten b start (flat_map f xs) → b₂ ≡ overwritten b₁ at (f x) → b₂ ≡ overwritten b start (flat_map f (xs ++ (x ∷ [])))
written_more f b b₁ b₂ start at xs x far fits so step =
    written_then b b₁ b₂ (flat_map f xs) (f x) start at far fits so step ∙ ap (overwritten b start) (sym (joined_push f xs x))
