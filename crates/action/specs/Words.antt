-- The sentence that a refusal is shown by. Assumes nothing.
use Rattle.std.specs.Prelude.{ℕ, List, [], ◌++◌, cond, ◌==◌, codes, decimal, Option, Some, None}
use Rattle.action.specs.declared.refusal.Refusal.{Refusal}
use Rattle.action.specs.declared.refusal.Reason.{Reason}

-- words, the place, and more words
abbrev pub about : List ℕ → ℕ → List ℕ → List ℕ
about before place after = before ++ (decimal place ++ after)

-- what follows the number; nothing where the number is not known
abbrev pub reason : ℕ → ℕ → List ℕ
reason number place =
    cond (number == 1) (codes ": the set-up is outside its limits")
    (cond (number == 2) (codes ": a transaction is open")
    (cond (number == 3) (codes ": no open transaction fits the ticket")
    (cond (number == 4) (codes ": there is no such article")
    (cond (number == 5) (codes ": there is no such site")
    (cond (number == 6) (codes ": the kind does not know this pair")
    (cond (number == 7) (codes ": the transaction is full, it has 16 writes")
    (cond (number == 8) (codes ": the time would be above 4,000,000,000")
    (cond (number == 9) (about (codes ": the record at byte ") place (codes " is cut off or not the one due"))
    (cond (number == 10) (codes ": the message is of another group or kind")
    (cond (number == 11) (about (codes ": the record at byte ") place (codes " breaks a field rule"))
    (cond (number == 12) (about (codes ": the message ends before byte ") place (codes ", where more follows"))
    (cond (number == 13) (about (codes ": the interval at byte ") place (codes " begins above what this table has"))
    (cond (number == 14) (about (codes ": the interval at byte ") place (codes " goes beyond this site's own actions"))
    (cond (number == 15) (about (codes ": the buffer is too short, the offer has ") place (codes " bytes"))
    (cond (number == 16) (about (codes ": the history has no room, its capacity is ") place [])
    (cond (number == 17) (about (codes ": the history has no place ") place [])
    (cond (number == 18) (about (codes ": line ") place (codes " has no known form"))
    [])))))))))))))))))

-- the same, as the code keeps it
abbrev pub words_with : List ℕ → Option ℕ → List ℕ → List ℕ
words_with before None after = before
words_with before (Some place) after = about before place after

abbrev pub reason_words : Reason → List ℕ
reason_words r = words_with r.before.now r.place r.after.now

-- the whole sentence
abbrev pub refusal_words : Refusal → List ℕ
refusal_words r = codes "refused by " ++ (decimal r.number ++ reason r.number r.place)
