-- The machine that the code's types stand for, and answers as numbers. Assumes nothing.
use Rattle.std.specs.Prelude.{ℕ, Some, None, Ok, Err, Option, Result}
use Rattle.isa.specs.declared.refusal.Refusal.{Refusal}
use Rattle.isa.specs.Refusals.{refusal_number}
use Rattle.memory.specs.Stores.{Store}
use Rattle.processor.specs.declared.state.Mode.TheVariants.{User, Kernel}
use Rattle.processor.specs.declared.event.Trap.{Trap}
use Rattle.processor.specs.declared.event.Event.{Event}
use Rattle.processor.specs.declared.event.Event.TheVariants.{Went, Entered, DoubleFault, Halted, Broke, OutputFull as Full}
use Rattle.processor.specs.Numbers.{cause_number, mode_number, space_number}
use Rattle.processor.specs.Carrying.{Outcome, stepped}
use Rattle.processor.specs.Runs.{Machine, Report as Numbers, report}
use Rattle.processor.specs.Calls.{Answer, refused}
use Rattle.machine.specs.declared.fired.Fired.{Fired}
use Rattle.machine.specs.declared.report.Reason.{Reason}
use Rattle.machine.specs.declared.report.Reason.TheVariants.{Spent, Entry, Halt, DoubleFault as Double, Break, OutputFull}
use Rattle.machine.specs.declared.report.Report.{Report}

-- the machine that a fired machine is, by what its memory holds
abbrev pub view_of : {M : Type 0} → (M → Store) → Fired M → Machine
view_of model f = record { state = f.processor.state; store = model f.memory }

-- Answers

abbrev pub reason_number : Reason → ℕ
reason_number Spent = 0
reason_number (Entry x) = 1
reason_number Halt = 2
reason_number (Double x) = 3
reason_number Break = 4
reason_number OutputFull = 5

-- the trap of the entry or of the double fault that ends a run
abbrev pub trap_of : Reason → Option Trap
trap_of Spent = None
trap_of (Entry x) = Some x
trap_of Halt = None
trap_of (Double x) = Some x
trap_of Break = None
trap_of OutputFull = None

-- cause, address and space, 0 if there is none
abbrev pub cause_of : Option Trap → ℕ
cause_of None = 0
cause_of (Some x) = cause_number x.cause

abbrev pub address_of : Option Trap → ℕ
address_of None = 0
address_of (Some x) = x.address

abbrev pub space_of : Option Trap → ℕ
space_of None = 0
space_of (Some x) = space_number x.space

abbrev pub report_of : Report → Numbers
report_of r = record {
  reason = reason_number r.reason;
  steps = r.steps;
  pc = r.pc;
  mode = mode_number r.mode;
  cause = cause_of (trap_of r.reason);
  address = address_of (trap_of r.reason);
  space = space_of (trap_of r.reason);
}

-- an answer made of a call's value, or its refusal by number
abbrev pub answered : {A : Type 0} → (A → Answer) → Result A Refusal → Answer
answered answer (Ok x) = answer x
answered answer (Err e) = refused (refusal_number e)

-- Runs

-- the step that a machine is about to make
abbrev pub step_of : Machine → Outcome
step_of m = stepped m.state m.store

-- a report on the machine as it is
abbrev pub report_at : Machine → Reason → ℕ → Numbers
report_at m r n = report (reason_number r) n (cause_of (trap_of r)) (address_of (trap_of r)) (space_of (trap_of r)) m

-- why a step that came to this ends the run, if it does
abbrev pub stop_of : Event → Option Reason
stop_of Went = None
stop_of (Entered User x) = Some (Entry x)
stop_of (Entered Kernel x) = None
stop_of (DoubleFault x) = Some (Double x)
stop_of Halted = Some Halt
stop_of Broke = Some Break
stop_of Full = Some OutputFull
