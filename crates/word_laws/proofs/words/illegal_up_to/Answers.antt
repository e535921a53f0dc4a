use Rattle.std.proofs.Common.{rules, ◌≡◌, ℕ, ◌+◌, is_err, cond, refl, ap, ◌∙◌}
use Rattle.isa.proofs.Numbering.{err_numbered}
use Rattle.isa.specs.Words.{decoded}
use Rattle.word_laws.proofs.AllWords.{counts_up}
use Rattle.word_laws.proofs.words.illegal_up_to.Goals as goal

-- the check finds no proof of the chain's count, by no lemma that was named at the function
pub returns : goal.returns
returns c =
    let p = c.count.ensures.runs in
    let q = c.filter.ensures.runs p.0 p.0.seen p.1 in
    let one : ℕ → ℕ → ℕ = λ k x. k + cond (is_err (decoded x)) 1 0 in
    p.3 ∙ q.2.5 one (λ x b f' n k. let e : is_err (decoded x) ≡ b = search (rules, err_numbered) in (refl, ap (λ z. n + cond z 1 0) e))
    ∙ counts_up (λ w. is_err (decoded w)) (c.args.last + 1) c.new.result c.new.ensures.start (ap (λ e. e + 1) c.new.ensures.end) c.new.ensures.exhausted q.0 q.1 (q.2.0 ∙ p.2)
