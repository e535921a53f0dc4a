use Rattle.std.proofs.Common.{sym, ap, ◌∙◌, subst}
use Rattle.processor.specs.Carrying.{Outcome, made, stepped}
use Rattle.processor.specs.Steps.{Sound}
use Rattle.processor.proofs.Soundness.{step_sound}
use Rattle.processor.proofs.step.advance.Goals as goal

-- the check finds neither clause by lemmas named at the function
pub returns : goal.returns
unfolding stepped
returns g c =
    let state = c.args.state.now in
    let store = g.M.Memory.model c.args.memory.now in
    let e = ap (made state store) (sym c.judge-verdict.ensures) ∙ c.commit.ensures in
    record { is = e; sound = subst (λ (o : Outcome). Sound o.state) e (step_sound state store c.requires.awake c.requires.was_sound) }
