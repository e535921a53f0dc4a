use Rattle.std.proofs.Common.{◌≡◌, ◌-◌, false}
use Rattle.processor.specs.Runs.{runs}
use Rattle.machine.specs.Views.{view_of}
use Rattle.machine.proofs.Turns.{later}
use Rattle.machine.proofs.fired.Fired.make_steps.Given as goal

-- a loop's invariant is not found, but written
abbrev pub invariant-loop-made : goal.invariant-loop-made
invariant-loop-made g l =
    let before = runs l.budget (view_of g.M.Memory.model l.initial.self) in
    let rest = runs (l.budget - l.made) (view_of g.M.Memory.model l.self) in
    record {
      report : later l.made rest.report ≡ before.report;
      machine : rest.machine ≡ before.machine;
      awake : (view_of g.M.Memory.model l.self).state.control.halted ≡ false;
    }
