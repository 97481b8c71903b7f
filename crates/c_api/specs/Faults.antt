-- Why the call for C counts no actions, by number and in words. Assumes nothing.
use Rattle.std.specs.Prelude.{ℕ, List, ℤ, pos, neg_ℤ, codes, Ok, Err, Result}
use Rattle.action.specs.Words.{refusal_words}
use Rattle.c_api.specs.declared.call_fault.CallFault.{CallFault}
use Rattle.c_api.specs.declared.call_fault.CallFault.TheVariants.{NoTable, InReader}
use Rattle.message.specs.Faults.{shown}

abbrev pub number : CallFault → ℕ
number NoTable = 1
number (InReader e) = (shown e).number

abbrev pub fault_words : CallFault → List ℕ
fault_words NoTable = codes "refused by 1: the set-up is outside its limits, or there is no such kind"
fault_words (InReader e) = refusal_words (shown e)

-- how many actions, or the number of what is at fault with a minus sign
abbrev pub as_answer : Result ℤ CallFault → ℤ
as_answer (Ok n) = n
as_answer (Err e) = neg_ℤ (pos (number e))
