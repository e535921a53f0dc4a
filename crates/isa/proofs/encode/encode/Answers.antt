use Rattle.std.proofs.Common.{◌≡◌, Ok, sym, rules}
use Rattle.isa.specs.Words.{encoded}
use Rattle.isa.proofs.WordsBack.{encode_decode}
use Rattle.isa.proofs.encode.encode.Goals as goal

-- the check finds the rest, and not this clause, by no lemma that was named at the function
pub returns-in_default-clause-back : goal.returns-in_default-clause-back
returns-in_default-clause-back c =
    let m : Ok c.word_of.result ≡ encoded c.args.instr = search rules in
    encode_decode _ _ (sym m)
