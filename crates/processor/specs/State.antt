-- The processor's state: what is read of it, and what one change leaves. CONTEXT is a number in it, and a console queue the list of the
-- bytes that wait, the oldest first. Assumes nothing.
use Rattle.std.specs.Prelude.{ℕ, ◌+◌, ◌%◌, Bool, false, List, [], slice_index_or, slice_set}
use Rattle.alu.specs.declared.flags.Flags.{Flags}
use Rattle.processor.specs.declared.state.Registers.{Registers}
use Rattle.processor.specs.declared.state.RegSet.{RegSet}
use Rattle.processor.specs.declared.state.Mode.{Mode}
use Rattle.processor.specs.declared.state.Mode.TheVariants.{User, Kernel}
use Rattle.processor.specs.declared.state.EntryRecord.{EntryRecord}
use Rattle.processor.specs.declared.state.Control.{Control}
use Rattle.processor.specs.declared.state.State.{State}

-- how many register sets there are: the kernel's, set 0, and those of the user contexts
abbrev pub set_count : ℕ
set_count = 16

-- One field changed

abbrev pub with_sets : State → List RegSet → State
with_sets c x = record { sets = x; context = c.context; control = c.control; input = c.input; output = c.output }

abbrev pub with_context : State → ℕ → State
with_context c x = record { sets = c.sets; context = x; control = c.control; input = c.input; output = c.output }

abbrev pub with_control : State → Control → State
with_control c x = record { sets = c.sets; context = c.context; control = x; input = c.input; output = c.output }

abbrev pub with_input : State → List ℕ → State
with_input c x = record { sets = c.sets; context = c.context; control = c.control; input = x; output = c.output }

abbrev pub with_output : State → List ℕ → State
with_output c x = record { sets = c.sets; context = c.context; control = c.control; input = c.input; output = x }

-- Sets

abbrev pub no_flags : Flags
no_flags = record { c = false; z = false; n = false; v = false }

-- what a number names that no set has
abbrev pub no_set : RegSet
no_set = record { file = record { general = []; link = 0; flags = no_flags }; maps = record { codes = []; datas = [] } }

abbrev pub set_at : State → ℕ → RegSet
set_at c i = slice_index_or c.sets i no_set

abbrev pub with_set : State → ℕ → RegSet → State
with_set c i s = with_sets c (slice_set c.sets i s)

-- the set that a mode works on
abbrev pub set_of : Mode → ℕ → ℕ
set_of User context = context
set_of Kernel context = 0

abbrev pub current : State → ℕ
current c = set_of c.control.mode c.context

abbrev pub own : State → RegSet
own c = set_at c (current c)

abbrev pub with_file : RegSet → Registers → RegSet
with_file s f = record { file = f; maps = s.maps }

abbrev pub with_own_file : State → Registers → State
with_own_file c f = with_set c (current c) (with_file (own c) f)

-- Control

abbrev pub with_pc : Control → ℕ → Control
with_pc t x = record { pc = x; mode = t.mode; ie = t.ie; trace = t.trace; entry = t.entry; halted = t.halted; waiting = t.waiting; counter = t.counter }

abbrev pub with_ie : Control → Bool → Control
with_ie t x = record { pc = t.pc; mode = t.mode; ie = x; trace = t.trace; entry = t.entry; halted = t.halted; waiting = t.waiting; counter = t.counter }

abbrev pub with_trace : Control → Bool → Control
with_trace t x = record { pc = t.pc; mode = t.mode; ie = t.ie; trace = x; entry = t.entry; halted = t.halted; waiting = t.waiting; counter = t.counter }

abbrev pub with_entry : Control → EntryRecord → Control
with_entry t x = record { pc = t.pc; mode = t.mode; ie = t.ie; trace = t.trace; entry = x; halted = t.halted; waiting = t.waiting; counter = t.counter }

abbrev pub with_halted : Control → Bool → Control
with_halted t x = record { pc = t.pc; mode = t.mode; ie = t.ie; trace = t.trace; entry = t.entry; halted = x; waiting = t.waiting; counter = t.counter }

abbrev pub with_waiting : Control → Bool → Control
with_waiting t x = record { pc = t.pc; mode = t.mode; ie = t.ie; trace = t.trace; entry = t.entry; halted = t.halted; waiting = x; counter = t.counter }

-- the counter has 32 bits
abbrev pub ticked : Control → Control
ticked t = record { pc = t.pc; mode = t.mode; ie = t.ie; trace = t.trace; entry = t.entry; halted = t.halted; waiting = t.waiting; counter = (t.counter + 1) % 0x1_0000_0000 }

-- on at another PC
abbrev pub onward : State → ℕ → State
onward c pc = with_control c (with_pc c.control pc)
