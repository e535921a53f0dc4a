-- The refusals and their numbers. Assumes nothing.
use Rattle.std.specs.Prelude.{ℕ, Ok, Err, Result}
use Rattle.isa.specs.declared.refusal.Refusal.{Refusal}
use Rattle.isa.specs.declared.refusal.Refusal.TheVariants.{IllegalWord, NoSuchWord, NotOnePage, PageKind, BudgetTooLarge, Halted, InterruptWaiting, InputFull, NoSuchItem}

abbrev pub refusal_number : Refusal → ℕ
refusal_number IllegalWord = 1
refusal_number NoSuchWord = 2
refusal_number NotOnePage = 3
refusal_number PageKind = 4
refusal_number BudgetTooLarge = 5
refusal_number Halted = 6
refusal_number InterruptWaiting = 7
refusal_number InputFull = 8
refusal_number NoSuchItem = 9

-- a call's answer with its refusal as a number: what definitions speak of
abbrev pub numbered : {A : Type 0} → Result A Refusal → Result A ℕ
numbered (Ok x) = Ok x
numbered (Err e) = Err (refusal_number e)
