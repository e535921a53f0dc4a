use Rattle.std.proofs.Common.{◌≡◌, ◌<◌, Some, inl, inr, arith}
use Rattle.machine.specs.Views.{view_of, step_of, stop_of, report_of}
use Rattle.machine.proofs.Turns.{report_told, machine_ends}
use Rattle.machine.proofs.fired.Fired.make_steps.Goals.{in-OutputFull, in_default-reason}
use Rattle.machine.proofs.fired.Fired.make_steps.Goals as goal

-- the check finds the other goals; here it stops at its limit of instances, with the lemmas named at the function too
pub returns-in-Some : goal.returns-in-Some
returns-in-Some g c =
    let b = c.args.budget in
    let i = c.loop-made.made in
    let m = view_of g.M.Memory.model c.loop-made.self in
    let r = c.in-Some.reason in
    let left : i < b = omega arith in
    let ends : stop_of (step_of m).event ≡ Some r = cc in
    record {
      report = report_told b i c.match-reason.steps m (view_of g.M.Memory.model c.advance.new.self) r (report_of c.report.result) _
          left ends c.advance.ensures.machine c.loop-made.invariant.report c.report.ensures
          (elim c.match-reason.branch [
            | in-OutputFull w ↦ inr (w.in-OutputFull.is, w.steps-is)
            | in_default-reason w ↦ inl (w.in_default-reason.not-OutputFull, w.steps-is)
          ]);
      machine = cc (machine_ends b i m r left ends);
    }
