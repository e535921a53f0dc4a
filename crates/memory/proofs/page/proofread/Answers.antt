use Rattle.std.proofs.Common.{rules}
use Rattle.std.proofs.iter.runs.Sources.{range_runs}
use Rattle.memory.proofs.Proofreading.{first_found}
use Rattle.memory.proofs.page.proofread.Goals as goal

-- the check finds no proof of the chain, by no lemma that was named at the function
pub returns : goal.returns
returns g c =
    let found = c.find-first.ensures.runs in
    let offsets = c.step_by.ensures.runs found.0 found.0.seen found.1 in
    let all = range_runs offsets.0 offsets.0.seen in (
      search rules,
      first_found _ _ (g.M.Memory.model c.args.m.now) c.args.page found.0 offsets.0 offsets.2 (rw offsets.1 at all) (search rules) (search rules) c.find-first.result found.2,
    )
