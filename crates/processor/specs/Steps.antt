-- The states that a processor can be in, the state of one that is just fired, and one step of it. Assumes nothing.
use Rattle.std.specs.Prelude.{◌≡◌, ℕ, ◌-◌, ◌<◌, ◌≤◌, Bool, true, false, [], ◌∷◌, length, replicate, Ok, Err, Result}
use Rattle.memory.specs.Stores.{Store}
use Rattle.processor.specs.declared.state.Mode.{Mode}
use Rattle.processor.specs.declared.state.Mode.TheVariants.{User, Kernel}
use Rattle.processor.specs.declared.state.RegSet.{RegSet}
use Rattle.processor.specs.declared.event.Event.{Event}
use Rattle.processor.specs.declared.state.State.{State}
use Rattle.processor.specs.Queues.{queue_size}
use Rattle.processor.specs.State.{set_count, no_flags}
use Rattle.processor.specs.Carrying.{Outcome, stepped}

-- CONTEXT is the number of a user context; user mode has interrupts enabled and is never halted
pub record SoundFor (context : ℕ) (mode : Mode) (ie halted : Bool) : Type 0 where
  pub low : 1 ≤ context
  pub high : context < set_count
  pub heard : mode ≡ User → ie ≡ true
  pub runs : mode ≡ User → halted ≡ false

abbrev pub Sound : State → Type 0
Sound c = SoundFor c.context c.control.mode c.control.ie c.control.halted

-- no more bytes wait in either queue than can
abbrev pub QueuesFit : State → Type 0
QueuesFit c = (length c.input ≤ queue_size) × (length c.output ≤ queue_size)

-- registers 0, map words 0 hold w, and all other map words 3
abbrev pub fresh_set : ℕ → RegSet
fresh_set w = record { file = record { general = replicate 8 0; link = 0; flags = no_flags }; maps = record { codes = w ∷ replicate 15 3; datas = w ∷ replicate 15 3 } }

-- just fired: kernel mode, CONTEXT 1, every map word 3 but the kernel's words 0, an empty console, and all else 0
abbrev pub fired : State
fired = record {
  sets = fresh_set 0 ∷ replicate (set_count - 1) (fresh_set 3);
  context = 1;
  control = record {
    pc = 0;
    mode = Kernel;
    ie = false;
    trace = false;
    entry = record { irr = 0; icr = 0; idr = 0; isr = User };
    halted = false;
    waiting = false;
    counter = 0;
  };
  input = [];
  output = [];
}

-- answer, state and memory after a call that makes one step: refused with 6 if halted
abbrev pub StepReply : Type 0
StepReply = Result Event ℕ × State × Store

abbrev pub step_answer : Outcome → StepReply
step_answer o = (Ok o.event, o.state, o.store)

abbrev pub step_if : Bool → State → Store → StepReply
step_if true c s = (Err 6, c, s)
step_if false c s = step_answer (stepped c s)

abbrev pub step_reply : State → Store → StepReply
step_reply c s = step_if c.control.halted c s
