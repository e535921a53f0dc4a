-- A machine, which is a processor's state and a memory, and runs of its steps. Answers are in numbers. Assumes nothing.
use Rattle.std.specs.Prelude.{ℕ, zero, suc, List, [], ◌∷◌}
use Rattle.memory.specs.Stores.{Store}
use Rattle.processor.specs.declared.state.Mode.TheVariants.{User, Kernel}
use Rattle.processor.specs.declared.event.Trap.{Trap}
use Rattle.processor.specs.declared.event.Event.{Event}
use Rattle.processor.specs.declared.event.Event.TheVariants.{Went, Entered, DoubleFault, Halted, Broke, OutputFull}
use Rattle.processor.specs.Numbers.{cause_number, mode_number, space_number}
use Rattle.processor.specs.declared.state.State.{State}
use Rattle.processor.specs.Carrying.{Outcome, stepped}

pub record Machine : Type 0 where
  pub state : State
  pub store : Store

abbrev pub after_step : Outcome → Machine
after_step o = record { state = o.state; store = o.store }

-- one step made: the machine before and after it, and what it came to
pub record Made : Type 0 where
  pub before : Machine
  pub after : Machine
  pub event : Event

-- the cause that a step meets, 0 if none: that of its entry or double fault
abbrev pub cause_met : Event → ℕ
cause_met Went = 0
cause_met (Entered k x) = cause_number x.cause
cause_met (DoubleFault x) = cause_number x.cause
cause_met Halted = 0
cause_met Broke = 0
cause_met OutputFull = 0

-- what a run answers. The reason: 0 the budget is spent, 1 an entry from user mode, 2 HLT, 3 a double fault, 4 BRK, 5 the
-- output is full. Cause, address and space (0 code, 1 data) are 0 unless the reason is 1 or 3.
pub record Report : Type 0 where
  pub reason : ℕ
  pub steps : ℕ
  pub pc : ℕ
  pub mode : ℕ
  pub cause : ℕ
  pub address : ℕ
  pub space : ℕ

-- what a run answers, the machine after it, and the steps that it made, in order
pub record Ran : Type 0 where
  pub report : Report
  pub machine : Machine
  pub trail : List Made

abbrev pub report : ℕ → ℕ → ℕ → ℕ → ℕ → Machine → Report
report r n cause a x m = record {
  reason = r;
  steps = n;
  pc = m.state.control.pc;
  mode = mode_number m.state.control.mode;
  cause = cause;
  address = a;
  space = x;
}

-- a run that ends for reason r, with a cause or without
abbrev pub ends_plain : ℕ → ℕ → Machine → List Made → Ran
ends_plain r n m t = record { report = report r n 0 0 0 m; machine = m; trail = t }

abbrev pub ends_with : ℕ → Trap → Machine → List Made → Ran
ends_with r x m t = record { report = report r 1 (cause_number x.cause) x.address (space_number x.space) m; machine = m; trail = t }

-- one step more before a run
abbrev pub more : Made → Ran → Ran
more e r = record {
  report = record {
    reason = r.report.reason;
    steps = suc r.report.steps;
    pc = r.report.pc;
    mode = r.report.mode;
    cause = r.report.cause;
    address = r.report.address;
    space = r.report.space;
  };
  machine = r.machine;
  trail = e ∷ r.trail;
}

-- how a run goes on after a step that came to an event and left n; a full output ends it before that step, which changes nothing
abbrev pub resume : Event → Made → Machine → (Machine → Ran) → Ran
resume Went e n on = more e (on n)
resume (Entered User x) e n on = ends_with 1 x n (e ∷ [])
resume (Entered Kernel x) e n on = more e (on n)
resume (DoubleFault x) e n on = ends_with 3 x n (e ∷ [])
resume Halted e n on = ends_plain 2 1 n (e ∷ [])
resume Broke e n on = ends_plain 4 1 n (e ∷ [])
resume OutputFull e n on = ends_plain 5 0 n []

abbrev pub made_by : Machine → Outcome → Made
made_by m o = record { before = m; after = after_step o; event = o.event }

abbrev pub resumed : Machine → Outcome → (Machine → Ran) → Ran
resumed m o on = resume o.event (made_by m o) (after_step o) on

-- a run of at most n steps
unfoldable pub runs : ℕ → Machine → Ran
runs zero m = ends_plain 0 0 m []
runs (suc n) m = resumed m (stepped m.state m.store) (λ k. runs n k)
