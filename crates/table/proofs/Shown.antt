-- A table's fault is told by the refusal that it is shown as. Assumes nothing.
use Rattle.std.proofs.Common.{◌≡◌, ◌==◌, ℕ, cond, sym, refl, ap, ◌∙◌}
use Rattle.action.specs.declared.refusal.Layer.{Layer}
use Rattle.action.specs.declared.refusal.Layer.TheVariants.{Reader, History, Table}
use Rattle.action.specs.declared.refusal.Refusal.{Refusal}
use Rattle.history.specs.declared.history_fault.HistoryFault.{HistoryFault}
use Rattle.history.specs.declared.history_fault.HistoryFault.TheVariants.{Full, NoPlace}
use Rattle.message.specs.declared.reader_fault.ReaderFault.{ReaderFault}
use Rattle.message.specs.declared.reader_fault.ReaderFault.TheVariants.{Cut, Foreign, Broken, Trailing}
use Rattle.table.specs.declared.table_fault.TableFault.{TableFault}
use Rattle.table.specs.declared.table_fault.TableFault.TheVariants.{AlreadyOpen, NotItsTicket, NoArticle, NoSite, UnknownPair, TooManyWrites, TooLate, Behind, Ahead, Short, InReader, InHistory}
use Rattle.table.specs.Faults.{shown}

-- the fault of a layer by its number and place; a number that none has is taken for the last one's
abbrev reader_fault : ℕ → ℕ → ReaderFault
reader_fault number place =
    cond (number == 9) (Cut place)
    (cond (number == 10) Foreign
    (cond (number == 11) (Broken place) (Trailing place)))

abbrev history_fault : ℕ → ℕ → HistoryFault
history_fault number place = cond (number == 16) (Full place) (NoPlace place)

abbrev table_fault : ℕ → ℕ → TableFault
table_fault number place =
    cond (number == 2) AlreadyOpen
    (cond (number == 3) NotItsTicket
    (cond (number == 4) NoArticle
    (cond (number == 5) NoSite
    (cond (number == 6) UnknownPair
    (cond (number == 7) TooManyWrites
    (cond (number == 8) TooLate
    (cond (number == 13) (Behind place)
    (cond (number == 14) (Ahead place) (Short place)))))))))

abbrev fault_in : Layer → ℕ → ℕ → TableFault
fault_in Reader number place = InReader (reader_fault number place)
fault_in History number place = InHistory (history_fault number place)
fault_in Table number place = table_fault number place

abbrev fault_of : Refusal → TableFault
fault_of r = fault_in r.layer r.number r.place

fault_of-shown : (e : TableFault) → fault_of (shown e) ≡ e
fault_of-shown AlreadyOpen = refl
fault_of-shown NotItsTicket = refl
fault_of-shown NoArticle = refl
fault_of-shown NoSite = refl
fault_of-shown UnknownPair = refl
fault_of-shown TooManyWrites = refl
fault_of-shown TooLate = refl
fault_of-shown (Behind place) = refl
fault_of-shown (Ahead place) = refl
fault_of-shown (Short needed) = refl
fault_of-shown (InReader (Cut place)) = refl
fault_of-shown (InReader Foreign) = refl
fault_of-shown (InReader (Broken place)) = refl
fault_of-shown (InReader (Trailing place)) = refl
fault_of-shown (InHistory (Full capacity)) = refl
fault_of-shown (InHistory (NoPlace place)) = refl

-- so two faults that are shown as one refusal are one
pub one_shown : (e d : TableFault) → shown e ≡ shown d → e ≡ d
one_shown e d same = sym (fault_of-shown e) ∙ ap fault_of same ∙ fault_of-shown d
