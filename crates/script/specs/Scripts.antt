-- What a whole script does and prints. Assumes nothing.
use Rattle.std.specs.Prelude.{◌≡◌, ℕ, ◌+◌, ◌<◌, cond, List, [], ◌∷◌, ◌++◌, length, take, Ok, Err, Result, ◌==◌}
use Rattle.std.specs.declared.alloc.AllocError.{AllocError}
use Rattle.kind.specs.Meaning.{Meaning}
use Rattle.script.specs.Desk.{DeskView, Performs}
use Rattle.script.specs.Sheets.{Printed}

-- a byte before the first of the lines; a line of its own where there is none
abbrev pub before : ℕ → List (List ℕ) → List (List ℕ)
before b [] = (b ∷ []) ∷ []
before b (line ∷ lines) = (b ∷ line) ∷ lines

-- the lines of a text, which byte 10 ends; what is left after the last byte 10 is a line too, if it has any bytes
abbrev pub lines : List ℕ → List (List ℕ)
lines [] = []
lines (b ∷ bytes) = cond (b == 10) ([] ∷ lines bytes) (before b (lines bytes))

-- the lines of a script, of which no more than 32,768 bytes count
abbrev pub script : List ℕ → List (List ℕ)
script input = lines (take 32768 input)

-- one line after another from the number of the first, the desk that they leave and all that they print
abbrev pub PerformsAll : Meaning → DeskView → ℕ → List (List ℕ) → DeskView → List ℕ → Type 0
PerformsAll kind d index [] after bytes = (after ≡ d) × (bytes ≡ [])
PerformsAll kind d index (line ∷ lines) after bytes =
    (between : DeskView) × (sheet : List ℕ) × (rest : List ℕ) ×
    Printed line sheet (λ a. Performs kind d index line a between) ×
    PerformsAll kind between (index + 1) lines after rest ×
    (bytes ≡ sheet ++ rest)

-- all lines, numbered from 0, are run and printed; or some are, and one more is run, whose bytes do not fit:
-- what was to be printed with them is longer than the capacity that the output had
abbrev pub Scripted : Meaning → DeskView → List ℕ → List ℕ → ℕ → Result Unit AllocError → DeskView → List ℕ → Type 0
Scripted kind d input out capacity (Ok _) after grown =
    (sheet : List ℕ) × PerformsAll kind d 0 (script input) after sheet × (grown ≡ out ++ sheet)
Scripted kind d input out capacity (Err _) after grown =
    (done : List (List ℕ)) × (line : List ℕ) × (later : List (List ℕ)) ×
    (script input ≡ done ++ (line ∷ later)) ×
    (between : DeskView) × (sheet : List ℕ) × (lost : List ℕ) ×
    PerformsAll kind d 0 done between sheet ×
    Printed line lost (λ a. Performs kind between (length done) line a after) ×
    (grown ≡ out ++ sheet) × (capacity < length grown + length lost)
