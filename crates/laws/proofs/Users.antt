-- User mode: what computes where the mode is known, and the special registers that it reaches. Assumes nothing.
use Rattle.std.proofs.Common.{◌≡◌, ℕ, false, sym, ap, subst, arith}
use Rattle.std.proofs.lemmas.Bool.Decides.{nat_tests}
use Rattle.processor.specs.declared.state.Mode.{Mode}
use Rattle.processor.specs.declared.state.Mode.TheVariants.{User}
use Rattle.processor.specs.declared.state.Control.{Control}
use Rattle.processor.specs.declared.special.Special.{Special}
use Rattle.processor.specs.declared.special.Special.TheVariants.{LinkRegister, FlagsRegister, CounterLow, CounterHigh, EntryRegister, ContextNumber, UserRegister, MapWord, ConsoleInput, ConsoleOutput, Unassigned}
use Rattle.processor.specs.declared.state.State.{State}
use Rattle.processor.specs.State.{with_control}
use Rattle.processor.specs.Special.{register, prints}

abbrev pub with_mode : Control → Mode → Control
with_mode t k = record { pc = t.pc; mode = k; ie = t.ie; trace = t.trace; entry = t.entry; halted = t.halted; waiting = t.waiting; counter = t.counter }

abbrev pub as_user : State → State
as_user c = with_control c (with_mode c.control User)

pub in_user : (P : State → Type 0) → ((c : State) → P (as_user c)) → (c : State) → c.control.mode ≡ User → P c
in_user P f c e = subst P (ap (λ k. with_control c (with_mode c.control k)) (sym e)) (f c)

-- the special registers that user mode can name
abbrev pub ForUser : Special → Type 0
ForUser LinkRegister = Unit {0}
ForUser FlagsRegister = Unit {0}
ForUser CounterLow = Unit {0}
ForUser CounterHigh = Unit {0}
ForUser (EntryRegister e) = ⊥
ForUser ContextNumber = ⊥
ForUser (UserRegister r) = ⊥
ForUser (MapWord k x i) = ⊥
ForUser ConsoleInput = ⊥
ForUser ConsoleOutput = ⊥
ForUser Unassigned = Unit {0}

pub user_register : (n : ℕ) → ForUser (register User n)
user_register n = grind (arith, nat_tests)

-- user mode never writes to the output
pub user_prints : (n : ℕ) → prints (register User n) ≡ false
user_prints n = grind (arith, nat_tests)
