-- A step leaves a state that a processor can be in. Assumes nothing.
use Rattle.std.proofs.Common.{◌≡◌, ℕ, Bool, true, false, cond, sym, refl, ◌∙◌, arith}
use Rattle.std.proofs.lemmas.Bool.Decides.{nat_tests}
use Rattle.memory.specs.Stores.{Store}
use Rattle.alu.specs.FlagBits.{flags_of}
use Rattle.processor.specs.declared.state.Mode.{Mode}
use Rattle.processor.specs.declared.state.Mode.TheVariants.{User, Kernel}
use Rattle.processor.specs.declared.event.Trap.{Trap}
use Rattle.processor.specs.declared.event.Cause.TheVariants.{Trace, Interrupt as InterruptCause, Call}
use Rattle.processor.specs.declared.access.Found.{Found}
use Rattle.processor.specs.declared.action.Privileged.{Privileged}
use Rattle.processor.specs.declared.action.Privileged.TheVariants.{Disable, Enable, Halt, Return}
use Rattle.processor.specs.declared.action.Action.{Action}
use Rattle.processor.specs.declared.action.Action.TheVariants.{Settle, ReadMemory, WriteMemory, ReadSpecial, WriteSpecial, StoreSpecial, LoadSpecial, SystemCall, Break, Privilege}
use Rattle.processor.specs.declared.judge.Verdict.{Verdict}
use Rattle.processor.specs.declared.judge.Verdict.TheVariants.{Interrupt, Fault, Full, Go}
use Rattle.processor.specs.declared.special.Special.{Special}
use Rattle.processor.specs.declared.special.Special.TheVariants.{LinkRegister, FlagsRegister, CounterLow, CounterHigh, EntryRegister, ContextNumber, UserRegister, MapWord, ConsoleInput, ConsoleOutput, Unassigned}
use Rattle.processor.specs.declared.state.State.{State}
use Rattle.processor.specs.State.{with_control, with_context, with_own_file, own, with_trace, with_waiting, onward}
use Rattle.processor.specs.Registers.{put, settled, with_flags}
use Rattle.processor.specs.Special.{is_context}
use Rattle.processor.specs.Rows.{consumed, written, trace_written, reading}
use Rattle.processor.specs.Carrying.{plain, entered_in, completed_in, completed, privileged_in, performed, after, named, carried, made, stepped}
use Rattle.processor.specs.Judging.{verdict_of}
use Rattle.processor.specs.Steps.{SoundFor, Sound}

no_user : {A : Type 0} → Kernel ≡ User → A
no_user e = absurd (grind arith)

-- in kernel mode only CONTEXT counts
in_kernel : (n : ℕ) (k l : Mode) (i j a b : Bool) → l ≡ Kernel → SoundFor n k i a → SoundFor n l j b
in_kernel n k l i j a b e h = record { low = h.low; high = h.high; heard = λ u. no_user (sym e ∙ u); runs = λ u. no_user (sym e ∙ u) }

entered_sound : (k : Mode) (ie : Bool) (c : State) (x : Trap) (back : ℕ) → c.control.mode ≡ k → Sound c → Sound (entered_in k ie c x back).state
entered_sound User ie c x back e h = in_kernel _ _ _ _ _ _ _ refl h
entered_sound Kernel true c x back e h = in_kernel _ _ _ _ _ _ _ refl h
entered_sound Kernel false c x back e h = in_kernel _ _ _ _ _ _ _ e h

completed_sound : (k : Mode) (t : Bool) (c : State) → Sound c → Sound (completed_in k t c).state
completed_sound Kernel t c h = h
completed_sound User false c h = h
completed_sound User true c h = entered_sound c.control.mode c.control.ie (with_control c (with_trace c.control false)) (plain Trace) c.control.pc refl h

onward_sound : (c : State) (pc : ℕ) → Sound c → Sound (completed (onward c pc)).state
onward_sound c pc h = completed_sound c.control.mode c.control.trace (onward c pc) h

privileged_sound : (k : Mode) (c : State) (op : Privileged) → c.control.mode ≡ k → c.control.halted ≡ false → Sound c → Sound (privileged_in k c op).state
privileged_sound User c op e n h = h
privileged_sound Kernel c Disable e n h = in_kernel _ _ _ _ _ _ _ e h
privileged_sound Kernel c Enable e n h = in_kernel _ _ _ _ _ _ _ e h
privileged_sound Kernel c Halt e n h = in_kernel _ _ _ _ _ _ _ e h
privileged_sound Kernel c Return e n h = record { low = h.low; high = h.high; heard = λ u. refl; runs = λ u. n }

consumed_sound : (c : State) (x : Special) → Sound c → Sound (consumed c x)
consumed_sound c LinkRegister h = h
consumed_sound c FlagsRegister h = h
consumed_sound c CounterLow h = h
consumed_sound c CounterHigh h = h
consumed_sound c (EntryRegister e) h = h
consumed_sound c ContextNumber h = h
consumed_sound c (UserRegister r) h = h
consumed_sound c (MapWord k x i) h = h
consumed_sound c ConsoleInput h = h
consumed_sound c ConsoleOutput h = h
consumed_sound c Unassigned h = h

trace_sound : (k : Mode) (c : State) (v : ℕ) → Sound c → Sound (trace_written k c v)
trace_sound User c v h = h
trace_sound Kernel c v h = h

-- CONTEXT is written with numbers of user contexts only
context_sound : (b : Bool) (c : State) (v : ℕ) → is_context v ≡ b → Sound c → Sound (cond b (with_context c v) c)
context_sound false c v e h = h
context_sound true c v e h = record { low = grind (arith, nat_tests); high = grind (arith, nat_tests); heard = h.heard; runs = h.runs }

written_sound : (c : State) (x : Special) (v : ℕ) → Sound c → Sound (written c x v)
written_sound c LinkRegister v h = h
written_sound c FlagsRegister v h = trace_sound c.control.mode (with_own_file c (with_flags (own c).file (flags_of v))) v h
written_sound c CounterLow v h = h
written_sound c CounterHigh v h = h
written_sound c (EntryRegister e) v h = h
written_sound c ContextNumber v h = context_sound (is_context v) c v refl h
written_sound c (UserRegister r) v h = h
written_sound c (MapWord k x i) v h = h
written_sound c ConsoleInput v h = h
written_sound c ConsoleOutput v h = h
written_sound c Unassigned v h = h

performed_sound : (c : State) (act : Action) (d : Found) → c.control.halted ≡ false → Sound c → Sound (performed c act d).state
performed_sound c (Settle to v n x) d o h = onward_sound (with_own_file c (with_flags (settled (own c).file to v) x)) n h
performed_sound c (ReadMemory to q) d o h = onward_sound (with_own_file c (put (own c).file to d.value)) (after c) h
performed_sound c (WriteMemory w a v) d o h = onward_sound c (after c) h
performed_sound c (ReadSpecial to n) d o h = onward_sound (with_own_file (consumed c (named c n)) (put (own c).file to (reading c (named c n)))) (after c) (consumed_sound c (named c n) h)
performed_sound c (WriteSpecial n v) d o h = onward_sound (written c (named c n) v) (after c) (written_sound c (named c n) v h)
performed_sound c (StoreSpecial n a) d o h = onward_sound (consumed c (named c n)) (after c) (consumed_sound c (named c n) h)
performed_sound c (LoadSpecial n a) d o h = onward_sound (written c (named c n) d.value) (after c) (written_sound c (named c n) d.value h)
performed_sound c (SystemCall n) d o h = entered_sound c.control.mode c.control.ie c (plain (Call n)) (after c) refl h
performed_sound c Break d o h = h
performed_sound c (Privilege op) d o h = privileged_sound c.control.mode c op refl o h

carried_sound : (c : State) (s : Store) (v : Verdict) → c.control.halted ≡ false → Sound c → Sound (carried c s v).state
carried_sound c s Interrupt o h = entered_sound c.control.mode c.control.ie (with_control c (with_waiting c.control false)) (plain InterruptCause) c.control.pc refl h
carried_sound c s (Fault x) o h = entered_sound c.control.mode c.control.ie c x c.control.pc refl h
carried_sound c s Full o h = h
carried_sound c s (Go act d) o h = performed_sound c act d o h

made_sound : (c : State) (s : Store) (v : Verdict) → c.control.halted ≡ false → Sound c → Sound (made c s v).state
made_sound c s Interrupt o h = carried_sound c s Interrupt o h
made_sound c s (Fault x) o h = carried_sound c s (Fault x) o h
made_sound c s Full o h = h
made_sound c s (Go act d) o h = performed_sound c act d o h

pub step_sound : (c : State) (s : Store) → c.control.halted ≡ false → Sound c → Sound (stepped c s).state
unfolding stepped
step_sound c s o h = made_sound c s (verdict_of c s) o h
