-- What is printed for a line. Assumes nothing.
use Rattle.std.specs.Prelude.{◌≡◌, ℕ, cond, List, [], ◌∷◌, ◌++◌, Some, None, Ok, Err, Option, codes, decimal}
use Rattle.std.specs.Fmt.{signed_decimal}
use Rattle.script.specs.declared.answer.Answer.TheVariants as Answers
use Rattle.script.specs.declared.command.Command.{Command}
use Rattle.script.specs.declared.command.Command.TheVariants.{Move, Offer, Take, Figure, OpenItem}
use Rattle.script.specs.declared.sheet_line.SheetLine.{SheetLine}
use Rattle.script.specs.Acts.{Reply}
use Rattle.script.specs.Lines.{command}

-- the bytes of a printed line
abbrev pub sheet_bytes : SheetLine → List ℕ
sheet_bytes s = s.text.items

-- what is printed after the letter: the answer, behind a blank, for `P` as 1 if the item is open and as 0 if not; or
-- the number of the refusal, behind ` refused `
abbrev pub answer_bytes : Reply → List ℕ
answer_bytes (Ok (Answers.Time t)) = 32 ∷ decimal t
answer_bytes (Ok (Answers.Length n)) = 32 ∷ decimal n
answer_bytes (Ok (Answers.Taken n)) = 32 ∷ decimal n
answer_bytes (Ok (Answers.Figure z)) = 32 ∷ signed_decimal z
answer_bytes (Ok (Answers.IsOpen b)) = 32 ∷ decimal (cond b 1 0)
answer_bytes (Err r) = codes " refused " ++ decimal r.number

-- the letter, the answer and the byte that ends the line
abbrev pub printed_line : ℕ → Reply → List ℕ
printed_line letter answer = letter ∷ (answer_bytes answer ++ (10 ∷ []))

-- the letter that a command is printed under
abbrev pub letter : Command → ℕ
letter (Move site article amount slot) = 77
letter (Offer site peer article slot) = 79
letter (Take site slot) = 84
letter (Figure site article) = 70
letter (OpenItem site peer article) = 80

-- a line of no known form is printed under `?`
abbrev pub line_letter : Option Command → ℕ
line_letter None = 63
line_letter (Some c) = letter c

-- what is printed for a line that answers this
abbrev pub sheet_of : List ℕ → Reply → List ℕ
sheet_of line answer = printed_line (line_letter (command line)) answer

-- for some answer of which P holds, these bytes are what is printed for the line
abbrev pub Printed : List ℕ → List ℕ → (Reply → Type 0) → Type 0
Printed line bytes P = (a : Reply) × P a × (bytes ≡ sheet_of line a)
