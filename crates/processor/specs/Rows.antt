-- What the special registers read, and what writing them changes. Assumes nothing.
use Rattle.std.specs.Prelude.{ℕ, ◌+◌, ◌*◌, ◌/◌, ◌%◌, Bool, cond, List, [], ◌∷◌, drop, ◌==◌}
use Rattle.alu.specs.declared.flags.Flags.{Flags}
use Rattle.alu.specs.FlagBits.{bit, flag_bits, flags_of}
use Rattle.processor.specs.declared.state.Mode.{Mode}
use Rattle.processor.specs.declared.state.Mode.TheVariants.{User, Kernel}
use Rattle.processor.specs.declared.state.RegSet.{RegSet}
use Rattle.processor.specs.declared.state.EntryRecord.{EntryRecord}
use Rattle.processor.specs.declared.event.Space.{Space}
use Rattle.processor.specs.declared.special.EntryField.{EntryField}
use Rattle.processor.specs.declared.special.EntryField.TheVariants.{Irr, Icr, Idr, Isr}
use Rattle.processor.specs.declared.special.Special.{Special}
use Rattle.processor.specs.declared.special.Special.TheVariants.{LinkRegister, FlagsRegister, CounterLow, CounterHigh, EntryRegister, ContextNumber, UserRegister, MapWord, ConsoleInput, ConsoleOutput, Unassigned}
use Rattle.processor.specs.Numbers.{mode_number}
use Rattle.processor.specs.Queues.{appended}
use Rattle.processor.specs.declared.state.State.{State}
use Rattle.processor.specs.State.{with_context, with_control, with_input, with_output, set_at, with_set, set_of, own, with_file, with_own_file, with_trace, with_entry}
use Rattle.processor.specs.Registers.{reg, put, with_link, with_flags}
use Rattle.processor.specs.Access.{word_in, with_word}
use Rattle.processor.specs.Special.{is_context}

-- Reading

-- in kernel mode T is in bit 8 and IE in bit 9
abbrev pub flags_word : Mode → Flags → Bool → Bool → ℕ
flags_word User x trace ie = flag_bits x
flags_word Kernel x trace ie = flag_bits x + 256 * bit trace + 512 * bit ie

abbrev pub entry_value : EntryRecord → EntryField → ℕ
entry_value e Irr = e.irr
entry_value e Icr = e.icr
entry_value e Idr = e.idr
entry_value e Isr = mode_number e.isr

-- the oldest waiting byte, or 0xFFFF if none waits
abbrev pub console_byte : List ℕ → ℕ
console_byte [] = 0xFFFF
console_byte (b ∷ bs) = b

abbrev pub reading : State → Special → ℕ
reading c LinkRegister = (own c).file.link
reading c FlagsRegister = flags_word c.control.mode (own c).file.flags c.control.trace c.control.ie
reading c CounterLow = c.control.counter % 0x10000
reading c CounterHigh = c.control.counter / 0x10000
reading c (EntryRegister e) = entry_value c.control.entry e
reading c ContextNumber = c.context
reading c (UserRegister r) = reg (set_at c c.context).file r
reading c (MapWord k x i) = word_in (set_at c (set_of k c.context)).maps x i
reading c ConsoleInput = console_byte c.input
reading c ConsoleOutput = 0
reading c Unassigned = 0

-- reading the console's input takes the byte
abbrev pub consumed : State → Special → State
consumed c LinkRegister = c
consumed c FlagsRegister = c
consumed c CounterLow = c
consumed c CounterHigh = c
consumed c (EntryRegister e) = c
consumed c ContextNumber = c
consumed c (UserRegister r) = c
consumed c (MapWord k x i) = c
consumed c ConsoleInput = with_input c (drop 1 c.input)
consumed c ConsoleOutput = c
consumed c Unassigned = c

-- Writing

abbrev pub mode_of : ℕ → Mode
mode_of v = cond (v % 2 == 1) Kernel User

-- writes reach IRR and bit 0 of ISR
abbrev pub with_field : EntryRecord → EntryField → ℕ → EntryRecord
with_field e Irr v = record { irr = v; icr = e.icr; idr = e.idr; isr = e.isr }
with_field e Icr v = e
with_field e Idr v = e
with_field e Isr v = record { irr = e.irr; icr = e.icr; idr = e.idr; isr = mode_of v }

-- T is written in kernel mode only
abbrev pub trace_written : Mode → State → ℕ → State
trace_written User c v = c
trace_written Kernel c v = with_control c (with_trace c.control (v / 256 % 2 == 1))

abbrev pub with_maps : RegSet → Space → ℕ → ℕ → RegSet
with_maps s x i v = record { file = s.file; maps = with_word s.maps x i v }

abbrev pub written : State → Special → ℕ → State
written c LinkRegister v = with_own_file c (with_link (own c).file v)
written c FlagsRegister v = trace_written c.control.mode (with_own_file c (with_flags (own c).file (flags_of v))) v
written c CounterLow v = c
written c CounterHigh v = c
written c (EntryRegister e) v = with_control c (with_entry c.control (with_field c.control.entry e v))
written c ContextNumber v = cond (is_context v) (with_context c v) c
written c (UserRegister r) v = with_set c c.context (with_file (set_at c c.context) (put (set_at c c.context).file r v))
written c (MapWord k x i) v = with_set c (set_of k c.context) (with_maps (set_at c (set_of k c.context)) x i v)
written c ConsoleInput v = c
written c ConsoleOutput v = with_output c (appended c.output (v % 256))
written c Unassigned v = c
