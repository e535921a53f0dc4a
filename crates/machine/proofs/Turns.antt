-- What the loop of a run keeps: what is left of a run of b steps after i of them, at a machine m. Assumes nothing.
use Rattle.std.proofs.Common.{◌≡◌, ◌≢◌, ℕ, suc, ◌+◌, ◌-◌, ◌<◌, ◌≤◌, false, ◌⊎◌, inl, inr, Some, None, ap, ◌∙◌, arith}
use Rattle.memory.specs.Stores.{Store}
use Rattle.processor.specs.declared.state.State.{State}
use Rattle.processor.specs.Carrying.{stepped}
use Rattle.processor.specs.Runs.{Machine, Report, after_step, runs}
use Rattle.laws.proofs.Proper.{step_awake}
use Rattle.machine.specs.declared.report.Reason.{Reason}
use Rattle.machine.specs.declared.report.Reason.TheVariants.{Spent, OutputFull}
use Rattle.machine.specs.Views.{step_of, stop_of, report_at}

-- the report of a run before which n steps were made
pub later : ℕ → Report → Report
later n r = record { reason = r.reason; steps = n + r.steps; pc = r.pc; mode = r.mode; cause = r.cause; address = r.address; space = r.space }

pub later_none : (r : Report) → later 0 r ≡ r
unfolding later
later_none r = let e : 0 + r.steps ≡ r.steps = omega arith in rw e

step_left : (b i : ℕ) → i < b → b - i ≡ suc (b - (i + 1))
step_left b i l = omega arith

-- a step that does not end the run

pub report_goes : (b i : ℕ) (m : Machine) → i < b → stop_of (step_of m).event ≡ None
    → later i (runs (b - i) m).report ≡ later (i + 1) (runs (b - (i + 1)) (after_step (step_of m))).report
unfolding runs later
report_goes b i m l h = rw (step_left b i l) (grind arith)

pub machine_goes : (b i : ℕ) (m : Machine) → i < b → stop_of (step_of m).event ≡ None
    → (runs (b - i) m).machine ≡ (runs (b - (i + 1)) (after_step (step_of m))).machine
unfolding runs
machine_goes b i m l h = rw (step_left b i l) (grind arith)

-- the processor is not halted after it
pub stays_awake : (c : State) (s : Store) → c.control.halted ≡ false → stop_of (stepped c s).event ≡ None → (stepped c s).state.control.halted ≡ false
stays_awake c s a h = let k = step_awake c s a in grind arith

-- one that does; a full output does before it is made

report_ends : (b i : ℕ) (m : Machine) (r : Reason) → i < b → stop_of (step_of m).event ≡ Some r → r ≢ OutputFull
    → later i (runs (b - i) m).report ≡ report_at (after_step (step_of m)) r (i + 1)
unfolding runs later
report_ends b i m r l h f = rw (step_left b i l) (grind arith)

report_full : (b i : ℕ) (m : Machine) → i < b → stop_of (step_of m).event ≡ Some OutputFull → later i (runs (b - i) m).report ≡ report_at (after_step (step_of m)) OutputFull i
unfolding runs later
report_full b i m l h = rw (step_left b i l) (grind arith)

pub machine_ends : (b i : ℕ) (m : Machine) (r : Reason) → i < b → stop_of (step_of m).event ≡ Some r → (runs (b - i) m).machine ≡ after_step (step_of m)
unfolding runs
machine_ends b i m r l h = rw (step_left b i l) (grind arith)

-- the same of the report that the loop gives, at the machine k that it has come to, with the n steps that it counts
pub report_told : (b i n : ℕ) (m k : Machine) (r : Reason) (got whole : Report)
    → i < b → stop_of (step_of m).event ≡ Some r → k ≡ after_step (step_of m) → later i (runs (b - i) m).report ≡ whole → got ≡ report_at k r n
    → (r ≢ OutputFull) × (n ≡ i + 1) ⊎ (r ≡ OutputFull) × (n ≡ i) → got ≡ whole
report_told b i n m k r got whole l s e w g (inl (f, q)) = let h = report_ends b i m r l s f in cc
report_told b i n m k r got whole l s e w g (inr (f, q)) = let h = report_full b i m l (s ∙ ap Some f) in cc

-- no step left

pub report_spent : (b i : ℕ) (m : Machine) → i ≤ b → b ≤ i → later i (runs (b - i) m).report ≡ report_at m Spent b
unfolding runs later
report_spent b i m u l = let k : b - i ≡ 0 = omega arith in rw k (grind arith)

pub machine_spent : (b i : ℕ) (m : Machine) → b ≤ i → (runs (b - i) m).machine ≡ m
unfolding runs
machine_spent b i m l = let k : b - i ≡ 0 = omega arith in rw k

pub ruleset turns = (later_none, report_goes, machine_goes, stays_awake, report_spent, machine_spent)
