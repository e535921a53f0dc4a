-- A verdict carried out: what a step leaves of state and memory, and what it came to. Assumes nothing.
use Rattle.std.specs.Prelude.{ℕ, ◌*◌, ◌%◌, Bool, true, false}
use Rattle.isa.specs.declared.instr.Width.{Width}
use Rattle.isa.specs.declared.instr.Width.TheVariants.{Word, Byte}
use Rattle.memory.specs.Stores.{Store, word_written, byte_written}
use Rattle.processor.specs.declared.state.Mode.{Mode}
use Rattle.processor.specs.declared.state.Mode.TheVariants.{User, Kernel}
use Rattle.processor.specs.declared.state.Control.{Control}
use Rattle.processor.specs.declared.event.Cause.{Cause}
use Rattle.processor.specs.declared.event.Cause.TheVariants.{Trace, Interrupt as InterruptCause, Call}
use Rattle.processor.specs.declared.event.Space.TheVariants.{Code}
use Rattle.processor.specs.declared.event.Trap.{Trap}
use Rattle.processor.specs.declared.event.Event.{Event}
use Rattle.processor.specs.declared.event.Event.TheVariants.{Went, Entered, DoubleFault, Halted, Broke, OutputFull}
use Rattle.processor.specs.declared.access.Found.{Found}
use Rattle.processor.specs.declared.action.Privileged.{Privileged}
use Rattle.processor.specs.declared.action.Privileged.TheVariants.{Disable, Enable, Halt, Return}
use Rattle.processor.specs.declared.action.Action.{Action}
use Rattle.processor.specs.declared.action.Action.TheVariants.{Settle, ReadMemory, WriteMemory, ReadSpecial, WriteSpecial, StoreSpecial, LoadSpecial, SystemCall, Break, Privilege}
use Rattle.processor.specs.declared.judge.Verdict.{Verdict}
use Rattle.processor.specs.declared.judge.Verdict.TheVariants.{Interrupt, Fault, Full, Go}
use Rattle.processor.specs.declared.special.Special.{Special}
use Rattle.processor.specs.Numbers.{cause_number}
use Rattle.processor.specs.declared.state.State.{State}
use Rattle.processor.specs.State.{with_control, own, with_own_file, with_ie, with_trace, with_halted, with_waiting, ticked, onward}
use Rattle.processor.specs.Registers.{put, settled, with_flags}
use Rattle.processor.specs.Special.{register}
use Rattle.processor.specs.Rows.{reading, consumed, written}
use Rattle.processor.specs.Plans.{wrap, next}
use Rattle.processor.specs.Judging.{verdict_of}

-- the state after something, and what it came to
pub record Moved : Type 0 where
  pub state : State
  pub event : Event

abbrev pub moved : State → Event → Moved
moved c e = record { state = c; event = e }

abbrev pub went : State → Moved
went c = moved c Went

-- a trap whose cause has no address
abbrev pub plain : Cause → Trap
plain c = record { cause = c; address = 0; space = Code }

-- Entries

abbrev pub entering : Control → Trap → ℕ → Control
entering t x back = record {
  pc = wrap (4 * cause_number x.cause);
  mode = Kernel;
  ie = false;
  trace = t.trace;
  entry = record { irr = back; icr = cause_number x.cause; idr = x.address; isr = t.mode };
  halted = t.halted;
  waiting = t.waiting;
  counter = t.counter;
}

abbrev pub into : State → Trap → ℕ → Moved
into c x back = moved (with_control c (entering c.control x back)) (Entered c.control.mode x)

-- by mode and IE: in kernel mode with IE off it is a double fault, which only marks halted
abbrev pub entered_in : Mode → Bool → State → Trap → ℕ → Moved
entered_in User ie c x back = into c x back
entered_in Kernel true c x back = into c x back
entered_in Kernel false c x back = moved (with_control c (with_halted c.control true)) (DoubleFault x)

-- an entry that is to return to `back`
abbrev pub entered : State → Trap → ℕ → Moved
entered c x back = entered_in c.control.mode c.control.ie c x back

-- Instructions

-- a user instruction that completes with T on is followed by an entry that clears T
abbrev pub completed_in : Mode → Bool → State → Moved
completed_in Kernel t c = went c
completed_in User false c = went c
completed_in User true c = entered (with_control c (with_trace c.control false)) (plain Trace) c.control.pc

abbrev pub completed : State → Moved
completed c = completed_in c.control.mode c.control.trace c

abbrev pub after : State → ℕ
after c = next c.control.pc

-- a change of the state, and on to the next instruction
abbrev pub onwards : State → State → Moved
onwards c d = completed (onward d (after c))

abbrev pub returning : Control → Control
returning t = record {
  pc = t.entry.irr;
  mode = t.entry.isr;
  ie = true;
  trace = t.trace;
  entry = t.entry;
  halted = t.halted;
  waiting = t.waiting;
  counter = t.counter;
}

-- user mode never comes to this
abbrev pub privileged_in : Mode → State → Privileged → Moved
privileged_in User c op = went c
privileged_in Kernel c Disable = went (onward (with_control c (with_ie c.control false)) (after c))
privileged_in Kernel c Enable = went (onward (with_control c (with_ie c.control true)) (after c))
privileged_in Kernel c Halt = moved (onward (with_control c (with_halted c.control true)) (after c)) Halted
privileged_in Kernel c Return = went (with_control c (returning c.control))

abbrev pub privileged : State → Privileged → Moved
privileged c op = privileged_in c.control.mode c op

-- the special register that a number names in the state's mode
abbrev pub named : State → ℕ → Special
named c n = register c.control.mode n

-- what an action does to the state, where its access has found d
abbrev pub performed : State → Action → Found → Moved
performed c (Settle to v n x) d = completed (onward (with_own_file c (with_flags (settled (own c).file to v) x)) n)
performed c (ReadMemory to q) d = onwards c (with_own_file c (put (own c).file to d.value))
performed c (WriteMemory w a v) d = onwards c c
performed c (ReadSpecial to n) d = onwards c (with_own_file (consumed c (named c n)) (put (own c).file to (reading c (named c n))))
performed c (WriteSpecial n v) d = onwards c (written c (named c n) v)
performed c (StoreSpecial n a) d = onwards c (consumed c (named c n))
performed c (LoadSpecial n a) d = onwards c (written c (named c n) d.value)
performed c (SystemCall n) d = entered c (plain (Call n)) (after c)
performed c Break d = moved (onward c (after c)) Broke
performed c (Privilege op) d = privileged c op

-- Memory

-- a word, or the low byte of one, put at a physical address; a write that memory refuses changes nothing
abbrev pub put_at : Store → Width → ℕ → ℕ → Store
put_at s Word p v = word_written s p v
put_at s Byte p v = byte_written s p (v % 256)

-- what an action does to memory, where its access has found d
abbrev pub stored : State → Store → Action → Found → Store
stored c s (Settle to v n x) d = s
stored c s (ReadMemory to q) d = s
stored c s (WriteMemory w a v) d = put_at s w d.at v
stored c s (ReadSpecial to n) d = s
stored c s (WriteSpecial n v) d = s
stored c s (StoreSpecial n a) d = put_at s Word d.at (reading c (named c n))
stored c s (LoadSpecial n a) d = s
stored c s (SystemCall n) d = s
stored c s Break d = s
stored c s (Privilege op) d = s

-- The step

-- state and memory after a step, and what it came to
pub record Outcome : Type 0 where
  pub state : State
  pub store : Store
  pub event : Event

abbrev pub outcome : Moved → Store → Outcome
outcome x s = record { state = x.state; store = s; event = x.event }

-- an interrupt's entry clears the interrupt; a fault returns to the instruction itself
abbrev pub carried : State → Store → Verdict → Outcome
carried c s Interrupt = outcome (entered (with_control c (with_waiting c.control false)) (plain InterruptCause) c.control.pc) s
carried c s (Fault x) = outcome (entered c x c.control.pc) s
carried c s Full = outcome (moved c OutputFull) s
carried c s (Go act d) = outcome (performed c act d) (stored c s act d)

-- each step adds 1 to the counter besides
abbrev pub counted : Outcome → Outcome
counted o = record { state = with_control o.state (ticked o.state.control); store = o.store; event = o.event }

-- a full output ends the run before the step
abbrev pub made : State → Store → Verdict → Outcome
made c s Interrupt = counted (carried c s Interrupt)
made c s (Fault x) = counted (carried c s (Fault x))
made c s Full = carried c s Full
made c s (Go act d) = counted (carried c s (Go act d))

-- one step
unfoldable pub stepped : State → Store → Outcome
stepped c s = made c s (verdict_of c s)
