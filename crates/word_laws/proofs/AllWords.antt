-- What is computed over all 65,536 words, and the laws that follow. Assumes nothing.
use Rattle.std.proofs.Common.{◌≡◌, ℕ, zero, suc, ◌+◌, ◌<◌, Bool, true, false, cond, not, ◌&&◌, eqb, ◌⊎◌, pos, is_ok, is_err, Ok, Err, Result, Some, length, get_or, zero-add, sym, refl, ap, ◌∙◌, inl, inr, ⊎_elim, add-one, arith}
use Rattle.std.proofs.lemmas.List.{ext_get_or}
use Rattle.std.proofs.lemmas.List.FromFn.{length-range_with_len, get_or-range_with_len}
use Rattle.std.specs.Iterator.Runs.{Run, ItemsCountUp}
use Rattle.std.specs.List.{fold, range_with_len}
use Rattle.std.specs.Range.{range_inclusive_start, range_inclusive_end, range_inclusive_exhausted}
use Rattle.std.specs.declared.ops.RangeInclusive.{RangeInclusive}
use Rattle.std.proofs.iter.runs.Sources.{nat_range_inclusive_steps, inclusive_listed}
use Rattle.std.proofs.lemmas.Bool.{and_parts, eqb-true, cases_eq, cases_Bool, both_ways, not-true}
use Rattle.std.proofs.lemmas.Bool.Decides.{nat_tests}
use Rattle.isa.specs.declared.instr.Width.TheVariants.{Word}
use Rattle.isa.specs.declared.instr.Instr.{Instr}
use Rattle.isa.specs.declared.instr.Instr.TheVariants.{Load}
use Rattle.isa.specs.Words.{fits, word_of, decoded, encoded}
use Rattle.isa.proofs.WordsBack.{encode_decode, word_lt, word_0}
use Rattle.word_laws.specs.Words.{illegal_word, count, OneToOne}

-- a fold from a on to b that adds 1 at each number that passes the test
counts_on : (t : ℕ → Bool) (a b n m : ℕ) → a + n ≡ b → fold (λ k x. k + cond (t x) 1 0) m (range_with_len a n) + count t a ≡ m + count t b
unfolding count
counts_on t a b zero m e = let s : a ≡ b = omega arith in omega (arith, ap (count t) s)
counts_on t a b (suc n) m e =
    omega (arith, counts_on t (a + 1) b n (m + cond (t a) 1 0) (omega arith), ap (count t) (add-one a))

-- such a fold over a whole run of the range from 0 up to below n
pub counts_up : (t : ℕ → Bool) (n : ℕ) (s : RangeInclusive ℕ) → range_inclusive_start s ≡ 0 → range_inclusive_end s + 1 ≡ n → range_inclusive_exhausted s ≡ false → (q : Run nat_range_inclusive_steps) → q.from ≡ s → q.whole ≡ true → fold (λ k x. k + cond (t x) 1 0) 0 q.items ≡ count t n
unfolding count
counts_up t n s low high fresh q e w =
    let r = inclusive_listed q q.seen in
    let from : r.0 ≡ 0 = r.2 ∙ ap range_inclusive_start e ∙ low in
    let to : r.1 ≡ n = r.3 ∙ ap (λ x. range_inclusive_end x + 1) e ∙ high in
    let up : ItemsCountUp q r.0 r.1 = (r.4 (ap range_inclusive_exhausted e ∙ fresh)).0 in
    let long : length q.items ≡ n = omega (arith, q.long, up.1 w) in
    let read : (k : ℕ) → k < length q.items → get_or q.items k 0 ≡ get_or (range_with_len 0 n) k 0 =
    λ k l. let some : Some (get_or q.items k 0) ≡ Some (r.0 + k) = sym (q.reads k 0 (omega (arith, q.long))) ∙ up.3 k (omega (arith, q.long)) in
    let v : get_or q.items k 0 ≡ r.0 + k = cc in
    omega (arith, get_or-range_with_len 0 n k 0 (omega arith)) in
    let all : q.items ≡ range_with_len 0 n = ext_get_or 0 q.items (range_with_len 0 n) (omega (arith, length-range_with_len 0 n)) read in
    ap (fold (λ k x. k + cond (t x) 1 0) 0) all ∙ omega (arith, counts_on t 0 n n 0 (zero-add n))

-- an answer is one of the two
one : (r : Result Instr ℕ) → cond (is_ok r) 1 0 + cond (is_err r) 1 0 ≡ 1
one (Ok i) = refl
one (Err n) = refl

pub counted : (n : ℕ) → count (λ w. is_err (decoded w)) n + count (λ w. is_ok (decoded w)) n ≡ n
unfolding count
counted zero = refl
counted (suc n) = let h = counted n in let d = one (decoded n) in omega arith

-- the test passes at each number below n
every : (ℕ → Bool) → ℕ → Bool
every t zero = true
every t (suc n) = t n && every t n

every_at : (t : ℕ → Bool) (n : ℕ) → every t n ≡ true → (k : ℕ) → k < n → t k ≡ true
unfolding every
every_at t zero e k h = absurd (omega arith)
every_at t (suc n) e k h =
    let p = and_parts (t n) (every t n) e in
    ⊎_elim (λ s. ap t s ∙ p.0) (λ ne. every_at t n p.1 k (omega arith)) (cases_eq k n)

answers : Result ℕ ℕ → ℕ → Bool
answers (Ok v) w = eqb v w
answers (Err x) w = false

answers_is : (r : Result ℕ ℕ) (w : ℕ) → answers r w ≡ true → r ≡ Ok w
unfolding answers
answers_is (Ok v) w e = ap Ok (eqb-true v w e)
answers_is (Err x) w e = let z : ◌≡◌ {A = ℕ} 0 1 = cc in absurd (omega arith)

-- a word's answer is right: an instruction that is written as this word, or refusal 1 of an illegal word
right : Result Instr ℕ → ℕ → Bool
right (Ok i) w = not (illegal_word w) && answers (encoded i) w
right (Err n) w = illegal_word w && eqb n 1

all_right : every (λ w. right (decoded w) w) 65536 ≡ true
unfolding every right answers
all_right = refl

right_at : (w : ℕ) → w < 65536 → right (decoded w) w ≡ true
right_at w h = every_at (λ v. right (decoded v) v) 65536 all_right w h

same : (r : Result Instr ℕ) (w : ℕ) → right r w ≡ true → illegal_word w ≡ is_err r
unfolding right
same (Ok i) w e = not-true (illegal_word w) (and_parts (not (illegal_word w)) (answers (encoded i) w) e).0
same (Err n) w e = (and_parts (illegal_word w) (eqb n 1) e).0

is_refused : (r : Result Instr ℕ) (w : ℕ) → right r w ≡ true → illegal_word w ≡ true → r ≡ Err 1
unfolding right
is_refused (Ok i) w e t = absurd (both_ways (illegal_word w) (same (Ok i) w e) t)
is_refused (Err n) w e t = ap Err (eqb-true n 1 (and_parts (illegal_word w) (eqb n 1) e).1)

is_instr : (r : Result Instr ℕ) (w : ℕ) → right r w ≡ true → illegal_word w ≡ false → (i : Instr) × (r ≡ Ok i) × (encoded i ≡ Ok w)
unfolding right
is_instr (Ok i) w e t = (i, refl, answers_is (encoded i) w (and_parts (not (illegal_word w)) (answers (encoded i) w) e).1)
is_instr (Err n) w e t = absurd (both_ways (illegal_word w) t (same (Err n) w e))

has_word : (r : Result Instr ℕ) (w : ℕ) (i : Instr) → right r w ≡ true → r ≡ Ok i → encoded i ≡ Ok w
unfolding right
has_word (Ok j) w i t e =
    let s : j ≡ i = cc in
    ap encoded (sym s) ∙ answers_is (encoded j) w (and_parts (not (illegal_word w)) (answers (encoded j) w) t).1
has_word (Err x) w i t e = let z : ◌≡◌ {A = ℕ} 0 1 = cc in absurd (omega arith)

alone : (i : Instr) (v w : ℕ) → v < 65536 → w < 65536 → decoded v ≡ Ok i → decoded w ≡ Ok i → v ≡ w
alone i v w hv hw ev ew =
    let a = has_word (decoded v) v i (right_at v hv) ev in
    let b = has_word (decoded w) w i (right_at w hw) ew in
    cc

-- where an instruction has no word
no_word : (i : Instr) → encoded i ≡ Err 2 → (fits i ≡ false) ⊎ (i ≡ Load Word 0 0 (pos 0))
no_word i e =
    ⊎_elim
    (λ t. inr (word_0 i t (grind (arith, nat_tests))))
    inl
    (cases_Bool (fits i))

pub one_to_one : OneToOne
one_to_one =
    record {
      illegal = λ w h t. is_refused (decoded w) w (right_at w h) t;
      legal = λ w h t. is_instr (decoded w) w (right_at w h) t;
      alone = alone;
      back = λ i w e. (let f : fits i ≡ true = grind (arith, nat_tests) in let s : word_of i ≡ w = grind (arith, nat_tests) in omega (arith, word_lt i f), encode_decode i w e);
      refused = no_word;
      wide = λ i f. grind (arith, nat_tests);
      all_0 = refl;
    }

-- a word is illegal exactly if its answer is a refusal
pub illegal_err : (w : ℕ) → w < 65536 → illegal_word w ≡ is_err (decoded w)
illegal_err w h = same (decoded w) w (right_at w h)

-- tests that agree below n count the same
count_same : (t u : ℕ → Bool) (n : ℕ) → ((k : ℕ) → k < n → t k ≡ u k) → count t n ≡ count u n
unfolding count
count_same t u zero e = refl
count_same t u (suc n) e =
    ap (λ b. cond b 1 0 + count t n) (e n (omega arith)) ∙ ap (λ m. cond (u n) 1 0 + m) (count_same t u n (λ k h. e k (omega arith)))

listed_count : count illegal_word 65536 ≡ 58
unfolding count
listed_count = refl

pub illegal_count : 58 ≡ count (λ w. is_err (decoded w)) 65536
illegal_count = sym listed_count ∙ count_same illegal_word (λ w. is_err (decoded w)) 65536 illegal_err
