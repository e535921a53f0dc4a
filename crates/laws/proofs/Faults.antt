-- A step that meets cause 1, 2, 3 or 6 changes the control record and nothing else. Assumes nothing.
use Rattle.std.proofs.Common.{◌≡◌, ℕ, ◌⊎◌, arith}
use Rattle.memory.specs.Stores.{Store}
use Rattle.processor.specs.declared.access.Found.{Found}
use Rattle.processor.specs.declared.action.Action.{Action}
use Rattle.processor.specs.declared.action.Action.TheVariants.{Settle, ReadMemory, WriteMemory, ReadSpecial, WriteSpecial, StoreSpecial, LoadSpecial, SystemCall, Break, Privilege}
use Rattle.processor.specs.declared.judge.Verdict.{Verdict}
use Rattle.processor.specs.declared.judge.Verdict.TheVariants.{Interrupt, Fault, Full, Go}
use Rattle.processor.specs.declared.state.State.{State}
use Rattle.processor.specs.State.{onward, with_own_file, own}
use Rattle.processor.specs.Registers.{put}
use Rattle.processor.specs.Rows.{consumed, written, reading}
use Rattle.processor.specs.Carrying.{completed, performed, after, named, made, stepped}
use Rattle.processor.specs.Judging.{verdict_of}
use Rattle.processor.specs.Runs.{Machine, cause_met, after_step, made_by}
use Rattle.laws.specs.Isolation.{OnlyControl, Faults, Harmless}
use Rattle.laws.proofs.Lift.{next_made, history_all}

-- an instruction that is carried out meets no cause of a fault
abbrev NoFault : ℕ → Type 0
NoFault n = (n ≡ 1) ⊎ ((n ≡ 2) ⊎ ((n ≡ 3) ⊎ (n ≡ 6))) → ⊥

onward_fine : (c : State) (pc : ℕ) → NoFault (cause_met (completed (onward c pc)).event)
onward_fine c pc f = grind arith

performed_fine : (c : State) (act : Action) (d : Found) → NoFault (cause_met (performed c act d).event)
performed_fine c (Settle to v n x) d f = grind arith
performed_fine c (ReadMemory to q) d f = grind arith
performed_fine c (WriteMemory w a v) d f = grind arith
performed_fine c (ReadSpecial to n) d f = onward_fine (with_own_file (consumed c (named c n)) (put (own c).file to (reading c (named c n)))) (after c) f
performed_fine c (WriteSpecial n v) d f = onward_fine (written c (named c n) v) (after c) f
performed_fine c (StoreSpecial n a) d f = onward_fine (consumed c (named c n)) (after c) f
performed_fine c (LoadSpecial n a) d f = onward_fine (written c (named c n) d.value) (after c) f
performed_fine c (SystemCall n) d f = grind arith
performed_fine c Break d f = grind arith
performed_fine c (Privilege op) d f = grind arith

made_fine : (c : State) (s : Store) (v : Verdict) → Faults (made_by (record { state = c; store = s }) (made c s v)) → OnlyControl (record { state = c; store = s }) (after_step (made c s v))
made_fine c s Interrupt f = grind arith
made_fine c s (Fault x) f = grind arith
made_fine c s Full f = grind arith
made_fine c s (Go act d) f = absurd (performed_fine c act d f)

step_fine : (m : Machine) → Faults (next_made m) → OnlyControl m (next_made m).after
unfolding stepped
step_fine m f = made_fine m.state m.store (verdict_of m.state m.store) f

pub harmless : Harmless
harmless start p calls = history_all (λ e. Faults e → OnlyControl e.before e.after) (λ m h. step_fine m) calls start p
