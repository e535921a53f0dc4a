-- Every call leaves a machine in a state that it may start in. Assumes nothing.
use Rattle.std.proofs.Common.{◌≡◌, ℕ, zero, suc, false, List, [], ◌∷◌, length, refl, ◌∙◌, arith, length-set}
use Rattle.memory.specs.Stores.{Store}
use Rattle.processor.specs.declared.event.Event.{Event}
use Rattle.processor.specs.declared.event.Event.TheVariants.{Went, Entered, DoubleFault, Halted, Broke, OutputFull}
use Rattle.processor.specs.declared.access.Found.{Found}
use Rattle.processor.specs.declared.action.Action.{Action}
use Rattle.processor.specs.declared.action.Action.TheVariants.{Settle, ReadMemory, WriteMemory, ReadSpecial, WriteSpecial, StoreSpecial, LoadSpecial, SystemCall, Break, Privilege}
use Rattle.processor.specs.declared.judge.Verdict.{Verdict}
use Rattle.processor.specs.declared.judge.Verdict.TheVariants.{Interrupt, Fault, Full, Go}
use Rattle.processor.specs.declared.special.Special.{Special}
use Rattle.processor.specs.declared.state.State.{State}
use Rattle.processor.specs.State.{set_count, onward, with_own_file, own, current}
use Rattle.processor.specs.Registers.{put}
use Rattle.processor.specs.Rows.{consumed, written, reading}
use Rattle.processor.specs.Carrying.{Moved, Outcome, outcome, counted, completed, performed, stored, after, named, made, stepped}
use Rattle.processor.specs.Judging.{verdict_of}
use Rattle.processor.specs.Runs.{Machine, Made, Ran, resume, made_by, after_step, runs}
use Rattle.processor.specs.Calls.{Call, run, raise, feed, drain, look, reply, final, fired_over}
use Rattle.processor.proofs.Soundness.{step_sound}
use Rattle.laws.specs.Isolation.{Proper}

-- a state that can make a step
pub record Live (c : State) : Type 0 where
  pub proper : Proper c
  pub awake : c.control.halted ≡ false

-- after an event that does not halt, the processor is not halted
abbrev pub Awake : Event → State → Type 0
Awake Went c = c.control.halted ≡ false
Awake (Entered k x) c = c.control.halted ≡ false
Awake (DoubleFault x) c = Unit {0}
Awake Halted c = Unit {0}
Awake Broke c = c.control.halted ≡ false
Awake OutputFull c = c.control.halted ≡ false

-- as many sets as before
record Keeps (n : ℕ) (x : Moved) : Type 0 where
  sets : length x.state.sets ≡ n
  awake : Awake x.event x.state

onward_keeps : (n : ℕ) (c : State) (pc : ℕ) → length c.sets ≡ n → c.control.halted ≡ false → Keeps n (completed (onward c pc))
onward_keeps n c pc l h = grind arith

-- reading or writing a special register keeps the number of sets, and halts nothing
record Same (c d : State) : Type 0 where
  sets : length d.sets ≡ length c.sets
  halted : d.control.halted ≡ c.control.halted

consumed_same : (c : State) (x : Special) → Same c (consumed c x)
consumed_same c x = grind arith

written_same : (c : State) (x : Special) (v : ℕ) → Same c (written c x v)
written_same c x v = grind (arith, length-set)

performed_keeps : (n : ℕ) (c : State) (act : Action) (d : Found) → length c.sets ≡ n → c.control.halted ≡ false → Keeps n (performed c act d)
performed_keeps n c (Settle to v p x) d l h = grind (arith, length-set)
performed_keeps n c (ReadMemory to q) d l h = grind (arith, length-set)
performed_keeps n c (WriteMemory w a v) d l h = grind (arith, length-set)
performed_keeps n c (ReadSpecial to r) d l h =
    let e = consumed_same c (named c r) in
    onward_keeps n (with_own_file (consumed c (named c r)) (put (own c).file to (reading c (named c r)))) (after c)
    (length-set (consumed c (named c r)).sets (current (consumed c (named c r))) _ ∙ (e.sets ∙ l)) (e.halted ∙ h)
performed_keeps n c (WriteSpecial r v) d l h =
    let e = written_same c (named c r) v in onward_keeps n (written c (named c r) v) (after c) (e.sets ∙ l) (e.halted ∙ h)
performed_keeps n c (StoreSpecial r a) d l h =
    let e = consumed_same c (named c r) in onward_keeps n (consumed c (named c r)) (after c) (e.sets ∙ l) (e.halted ∙ h)
performed_keeps n c (LoadSpecial r a) d l h =
    let e = written_same c (named c r) d.value in onward_keeps n (written c (named c r) d.value) (after c) (e.sets ∙ l) (e.halted ∙ h)
performed_keeps n c (SystemCall r) d l h = grind (arith, length-set)
performed_keeps n c Break d l h = grind (arith, length-set)
performed_keeps n c (Privilege op) d l h = grind (arith, length-set)

-- the same of a step
record StepKeeps (n : ℕ) (o : Outcome) : Type 0 where
  sets : length o.state.sets ≡ n
  awake : Awake o.event o.state

-- counting a step halts nothing
counted_keeps : (n : ℕ) (x : Moved) (s : Store) → Keeps n x → StepKeeps n (counted (outcome x s))
counted_keeps n x s h = grind arith

made_keeps : (n : ℕ) (c : State) (s : Store) (v : Verdict) → length c.sets ≡ n → c.control.halted ≡ false → StepKeeps n (made c s v)
made_keeps n c s Interrupt l h = grind arith
made_keeps n c s (Fault x) l h = grind arith
made_keeps n c s Full l h = record { sets = l; awake = h }
made_keeps n c s (Go act d) l h = counted_keeps n (performed c act d) (stored c s act d) (performed_keeps n c act d l h)

step_keeps : (c : State) (s : Store) → Live c → StepKeeps set_count (stepped c s)
unfolding stepped
step_keeps c s h = made_keeps set_count c s (verdict_of c s) h.proper.sets h.awake

-- a step of any state that is not halted, however many sets it has
pub step_awake : (c : State) (s : Store) → c.control.halted ≡ false → Awake (stepped c s).event (stepped c s).state
unfolding stepped
step_awake c s h = (made_keeps (length c.sets) c s (verdict_of c s) refl h).awake

-- Steps

pub step_proper : (c : State) (s : Store) → Live c → Proper (stepped c s).state
step_proper c s h = record { sets = (step_keeps c s h).sets; sound = step_sound c s h.awake h.proper.sound }

-- what is known of the outcome of a step: it is proper, and can go on unless it halted
pub record Sane (o : Outcome) : Type 0 where
  pub proper : Proper o.state
  pub awake : Awake o.event o.state

pub step_sane : (c : State) (s : Store) → Live c → Sane (stepped c s)
step_sane c s h = record { proper = step_proper c s h; awake = (step_keeps c s h).awake }

-- Runs

resumed_proper : (e : Event) (d : Made) (n : Machine) (on : Machine → Ran) → Proper n.state → Awake e n.state
    → ((k : Machine) → Live k.state → Proper (on k).machine.state) → Proper (resume e d n on).machine.state
resumed_proper e d n on q a f = grind arith

runs_proper : (n : ℕ) (m : Machine) → Live m.state → Proper (runs n m).machine.state
unfolding runs
runs_proper zero m h = h.proper
runs_proper (suc n) m h =
    let o = stepped m.state m.store in
    let q = step_sane m.state m.store h in
    resumed_proper o.event (made_by m o) (after_step o) (λ k. runs n k) q.proper q.awake (λ k. runs_proper n k)

-- Calls

pub reply_proper : (c : Call) (m : Machine) → Proper m.state → Proper (reply c m).after.state
reply_proper (run n) m h = let r : m.state.control.halted ≡ false → Proper (runs n m).machine.state = λ a. runs_proper n m (record { proper = h; awake = a }) in grind arith
reply_proper raise m h = grind arith
reply_proper (feed bs) m h = grind arith
reply_proper (drain n) m h = grind arith
reply_proper (look n i) m h = grind arith

pub final_proper : (cs : List Call) (m : Machine) → Proper m.state → Proper (final cs m).state
unfolding final
final_proper [] m h = h
final_proper (c ∷ cs) m h = final_proper cs (reply c m).after (reply_proper c m h)

pub fired_proper : (s : Store) → Proper (fired_over s).state
fired_proper s = grind arith
