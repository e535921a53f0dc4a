-- The first illegal word of a page, where every second offset is tried in turn.
use Rattle.std.proofs.Common.{◌≡◌, ℕ, ◌*◌, ◌/◌, ◌%◌, ◌<◌, Bool, true, false, Option, Some, None, sym, zero-add, subst, ◌∙◌, arith, Bor}
use Rattle.std.specs.Prelude.{IsTrue, MatchOption, IfSome, IsSomeAnd}
use Rattle.std.specs.Fn.{Mut, CalledAt}
use Rattle.std.specs.Iterator.Runs.{Run, IsStepByRun, ItemsCountUp, CallKeepsClosure, NoItemPasses, EndsAtFirstPassing}
use Rattle.std.proofs.lemmas.Iterator.Adapters.{option_map_id}
use Rattle.memory.specs.Stores.{Store}
use Rattle.memory.specs.Pages.{illegal_at, LegalBelow, FirstIllegal}

-- q has the offsets from 0 to 4,095, p every second one, and the closure f, at which p's items are tried, tells illegal words
module _ {S T F : Type 0} {steps : S → Option ℕ → S → Type 0} {source : T → Option ℕ → T → Type 0} (g : Mut F (Bor ℕ × Unit {0}) Bool) (f : F) (s : Store) (page : ℕ) (p : Run steps) (q : Run source) where
  module _ (by_two : IsStepByRun p q 2) (up : ItemsCountUp q 0 4096) (tells : (x : ℕ) (b : Bool) → CalledAt g f x b f → x % 2 ≡ 0 → b ≡ illegal_at s page x) where
    offset : (k : ℕ) → k * 2 < q.len → p.at k ≡ Some (k * 2)
    offset k l = by_two.4 k ∙ sym (option_map_id (q.at (k * 2))) ∙ rw zero-add at (up.3 (k * 2) l)

    legal : (n : ℕ) → ((k : ℕ) → k * 2 < n → CalledAt g f (k * 2) false f) → LegalBelow s page n
    legal n called o below even =
        let twice : o / 2 * 2 ≡ o = omega arith in
        sym (tells o false (subst (λ x. CalledAt g f x false f) twice (called (o / 2) (omega arith))) even)

    pub first_found : CallKeepsClosure g f → (r : Option ℕ) → MatchOption r (IsTrue p.whole × NoItemPasses p g f) (EndsAtFirstPassing p g f) → FirstIllegal s page r
    first_found keeps None found =
        legal 4096 (λ k l. subst (λ o. IfSome o (λ x. CalledAt g f x false f)) (offset k (omega (arith, up.1 (by_two.0 ∙ found.0)))) (found.1 keeps k))
    first_found keeps (Some x) found =
        let i = found.0 in
        let calls = found.3 keeps in
        let at : x ≡ i * 2 = cc (offset i (omega (arith, by_two.3, found.1)), found.2) in (
          omega (arith, up.0, by_two.3, found.1),
          omega arith,
          sym (tells x true calls.0 (omega arith)),
          legal x (λ k l. subst (λ o. IsSomeAnd o (λ y. CalledAt g f y false f)) (offset k (omega (arith, by_two.3, found.1))) (calls.1 k (omega arith))),
        )
