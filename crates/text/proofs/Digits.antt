-- A number's digits read one by one. Assumes nothing.
use Rattle.std.proofs.Common.{◌≡◌, ℕ, ◌+◌, ◌*◌, ◌<◌, ◌≤◌, true, false, eqb, ltb, leb, List, length, get_or, drop, Some, None, sym, ap, ◌∙◌, arith}
use Rattle.std.proofs.lemmas.List.{at_drop_more, at_drop_all}
use Rattle.std.proofs.lemmas.Bool.Decides.{nat_tests}
use Rattle.text.specs.Numbers.{digit_value, value_on, value_in}

module _ (base v i d : ℕ) (bs : List ℕ) (h : i < length bs) (e : d ≡ digit_value (get_or bs i 0)) where
  pub digit_more : d < base → v * base + d ≤ 65535 → value_on base v (drop i bs) ≡ value_on base (v * base + d) (drop (i + 1) bs)
  unfolding value_on
  digit_more l m =
      let a : ltb (digit_value (get_or bs i 0)) base ≡ true = grind (arith, nat_tests) in
      let b : leb (v * base + digit_value (get_or bs i 0)) 65535 ≡ true = grind (arith, nat_tests) in
      at_drop_more (value_on base v) bs i 0 h ∙ (rw (a, b) (ap (λ n. value_on base (v * base + n) (drop (i + 1) bs)) (sym e)))

  pub digit_none : base ≤ d → value_on base v (drop i bs) ≡ None
  unfolding value_on
  digit_none l =
      let a : ltb (digit_value (get_or bs i 0)) base ≡ false = grind (arith, nat_tests) in
      at_drop_more (value_on base v) bs i 0 h ∙ (rw a)

  pub value_none : d < base → 65535 < v * base + d → value_on base v (drop i bs) ≡ None
  unfolding value_on
  value_none l m =
      let a : ltb (digit_value (get_or bs i 0)) base ≡ true = grind (arith, nat_tests) in
      let b : leb (v * base + digit_value (get_or bs i 0)) 65535 ≡ false = grind (arith, nat_tests) in
      at_drop_more (value_on base v) bs i 0 h ∙ (rw (a, b))

pub digits_all : (base v i : ℕ) (bs : List ℕ) → length bs ≤ i → value_on base v (drop i bs) ≡ Some v
unfolding value_on
digits_all base v i bs h = at_drop_all (value_on base v) bs i h

pub some_digits : (base : ℕ) (bs : List ℕ) → 0 < length bs → value_in base bs ≡ value_on base 0 bs
some_digits base bs h = let t : eqb (length bs) 0 ≡ false = grind (arith, nat_tests) in rw t
