use Rattle.std.proofs.Common.{◌≡◌, false, ◌∙◌, arith}
use Rattle.std.proofs.lemmas.Bool.Decides.{nat_tests}
use Rattle.word_laws.specs.Words.{illegal_word}
use Rattle.word_laws.proofs.AllWords.{illegal_err}
use Rattle.word_laws.proofs.words.is_illegal.Goals as goal

-- the check finds the first clause, and not this one, by no lemma that was named at the function
pub returns-in_default-clause-refused : goal.returns-in_default-clause-refused
returns-in_default-clause-refused c =
    let t : false ≡ illegal_word c.args.word = grind (arith, nat_tests) in
    t ∙ illegal_err c.args.word (omega arith)
