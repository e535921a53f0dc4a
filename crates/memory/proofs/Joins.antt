-- Joined stores: a word written through the join, and the parts that a join tells.
use Rattle.std.proofs.Common.{◌≡◌, ℕ, ◌+◌, ◌-◌, ◌*◌, ◌/◌, ◌<◌, ◌≤◌, sym, ap, ◌∙◌, subst, ⊎_elim, arith}
use Rattle.std.proofs.lemmas.Bool.Decides.{nat_tests}
use Rattle.std.proofs.lemmas.Bool.{cases_lt}
use Rattle.memory.specs.Stores.{Pages, Store, pages_from, word_written}
use Rattle.memory.specs.Joins.{first_pages, joined_store, JoinTold}
use Rattle.memory.proofs.Equal.{equal_stores}

-- a word that is written to a part is written to the join
pub first_written : (k : ℕ) (s t : Store) (a v : ℕ) → a / 4096 < first_pages k → joined_store k (word_written s a v) t ≡ word_written (joined_store k s t) a v
first_written k s t a v h =
    equal_stores
    (λ p. grind (arith, nat_tests))
    (λ x. grind (arith, nat_tests))
    (grind (arith, nat_tests))

pub second_written : (k : ℕ) (s t : Store) (a v : ℕ) → k ≤ a / 4096 → a / 4096 < 4096 → joined_store k s (word_written t (a - 4096 * k) v) ≡ word_written (joined_store k s t) a v
second_written k s t a v h l =
    equal_stores
    (λ p. grind (arith, nat_tests))
    (λ x. grind (arith, nat_tests))
    (grind (arith, nat_tests))

-- what agrees below n and from n on agrees
pieced : (f g : ℕ → ℕ) (n : ℕ) → ((x : ℕ) → x < n → f x ≡ g x) → ((m : ℕ) → f (n + m) ≡ g (n + m)) → (x : ℕ) → f x ≡ g x
pieced f g n low high x =
    ⊎_elim (low x) (λ h. let e : n + (x - n) ≡ x = omega arith in subst (λ y. f y ≡ g y) e (high (x - n))) (cases_lt x n)

-- stores that agree below page n and from there on are equal
pieced_stores : (n : ℕ) (s t : Store) → ((p : ℕ) → p < n → s.kinds p ≡ t.kinds p) → ((a : ℕ) → a < 4096 * n → s.cells a ≡ t.cells a) → pages_from n s ≡ pages_from n t → s.rest ≡ t.rest → s ≡ t
pieced_stores n s t kind cell above rest =
    equal_stores
    (pieced s.kinds t.kinds n kind (λ m. ap (λ (q : Pages). q.kinds m) above))
    (pieced s.cells t.cells (4096 * n) cell (λ m. ap (λ (q : Pages). q.cells m) above))
    rest

same_boundary : (l k : ℕ) (u s v t : Store) → joined_store l u v ≡ joined_store k s t → l ≡ k
same_boundary l k u s v t e = cc (ap (λ (j : Store). j.rest) e)

at_one : (l k : ℕ) (u s v t : Store) → joined_store l u v ≡ joined_store k s t → joined_store k u v ≡ joined_store k s t
at_one l k u s v t e = ap (λ m. joined_store m u v) (sym (same_boundary l k u s v t e)) ∙ e

same_first : (k : ℕ) (u s v t : Store) → joined_store k u v ≡ joined_store k s t → u ≡ s
same_first k u s v t e =
    let rest = ap (λ (j : Store). j.rest) e in
    pieced_stores (first_pages k) u s
    (λ p h. let q = ap (λ (j : Store). j.kinds p) e in grind (arith, nat_tests, q))
    (λ a h. let q = ap (λ (j : Store). j.cells a) e in grind (arith, nat_tests, q))
    (cc)
    (cc)

same_second : (k : ℕ) (u s v t : Store) → joined_store k u v ≡ joined_store k s t → v ≡ t
same_second k u s v t e =
    let rest = ap (λ (j : Store). j.rest) e in
    pieced_stores (4096 - first_pages k) v t
    (λ p h. let q = ap (λ (j : Store). j.kinds (k + p)) e in let m : (k + p) - k ≡ p = omega arith in grind (arith, nat_tests, q, m))
    (λ a h. let q = ap (λ (j : Store). j.cells (4096 * k + a)) e in let m : (4096 * k + a) - 4096 * k ≡ a = omega arith in grind (arith, nat_tests, q, m))
    (cc)
    (cc)

-- what a join tells
pub join_told : (k : ℕ) (s t : Store) → JoinTold k s t
join_told k s t = record {
  boundary = λ l u v e. same_boundary l k u s v t e;
  first = λ l u v e. same_first k u s v t (at_one l k u s v t e);
  second = λ l u v e. same_second k u s v t (at_one l k u s v t e);
}
