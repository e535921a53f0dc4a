-- Decoding what was encoded gives the instruction back. Assumes nothing.
use Rattle.std.proofs.Common.{◌≡◌, ℕ, ◌+◌, ◌-◌, ◌*◌, ◌/◌, ◌%◌, ◌<◌, ◌≤◌, Bool, true, false, ◌&&◌, eqb, ltb, ℤ, pos, negsuc, Ok, sym, refl, ap, ◌∙◌, arith}
use Rattle.std.proofs.lemmas.Bool.Decides.{nat_tests}
use Rattle.std.proofs.lemmas.Nat.{mod-mul-add, div-mul-add}
use Rattle.isa.specs.declared.instr.Width.TheVariants.{Word, Byte}
use Rattle.isa.specs.declared.instr.Condition.{Condition}
use Rattle.isa.specs.declared.instr.Condition.TheVariants.{Always, AlwaysLink, Zero, NotZero, Carry, NotCarry, SignedGreaterEqual, SignedLess}
use Rattle.isa.specs.declared.instr.AluOp.{AluOp}
use Rattle.isa.specs.declared.instr.AluOp.TheVariants.{Sbb, Adc, Sub, Add, Xor, Or, And}
use Rattle.isa.specs.declared.instr.PairOp.{PairOp}
use Rattle.isa.specs.declared.instr.PairOp.TheVariants.{Lsp, Lsi, Ssp, Ssi, Lcw, Tst}
use Rattle.isa.specs.declared.instr.UnaryOp.{UnaryOp}
use Rattle.isa.specs.declared.instr.UnaryOp.TheVariants.{Not, Neg, Dub, Sxt, Sra, Srl}
use Rattle.isa.specs.declared.instr.ControlOp.{ControlOp}
use Rattle.isa.specs.declared.instr.ControlOp.TheVariants.{Ccf, Scf, Di, Ei, Hlt, Brk, Rti}
use Rattle.isa.specs.declared.instr.Instr.{Instr}
use Rattle.isa.specs.declared.instr.Instr.TheVariants.{Load, Store, Adi, Lui, Br, Jal, Alu, Pair, Sys, Unary, Ji, Control}
use Rattle.isa.specs.Words.{reg_a, reg_b, signed, imm7, imm10, condition, unary, pair, alu, control, level1, level2, level3, level4, base, decoded, condition_no, alu_no, pair_no, unary_no, control_no, bits_of, within, word_of, fits, encoded}

-- Signed fields of any width

signed_bits : (half : ℕ) (i : ℤ) → within half i ≡ true → signed half (bits_of half i) ≡ i
signed_bits half (pos n) h = grind (arith, nat_tests)
signed_bits half (negsuc n) h =
    let lt : n < half = grind (arith, nat_tests) in
    let back : 2 * half - 1 - (2 * half - 1 - n) ≡ n = omega arith in
    grind (arith, nat_tests)

bits_lt : (half : ℕ) (i : ℤ) → within half i ≡ true → bits_of half i < 2 * half
bits_lt half (pos n) h = grind (arith, nat_tests)
bits_lt half (negsuc n) h = grind (arith, nat_tests)

-- A field at the lower end of a number, and what lies above it

low : (x k n b : ℕ) → b < n → x ≡ k * n + b → x % n ≡ b
low x k n b h e = ap (λ y. y % n) e ∙ mod-mul-add k n b h

high : (x k n b : ℕ) → b < n → x ≡ k * n + b → x / n ≡ k
high x k n b h e = ap (λ y. y / n) e ∙ div-mul-add k n b h

-- rA and rB at the lower end of a word, and what lies above them
record Fields (w q a b : ℕ) : Type 0 where
  at_a : reg_a w ≡ a
  at_b : reg_b w ≡ b
  above : w / 64 ≡ q

fields : (w q a b : ℕ) → a < 8 → b < 8 → 64 * q + 8 * b + a ≡ w → Fields w q a b
fields w q a b ha hb e =
    let mid : w / 8 ≡ 8 * q + b = omega arith in
    record { at_a = omega arith; at_b = omega arith; above = omega arith }

record Registers (a b : ℕ) (t : Bool) : Type 0 where
  fits_a : a < 8
  fits_b : b < 8
  rest : t ≡ true

registers : (a b : ℕ) (t : Bool) → (ltb a 8 && (ltb b 8 && t)) ≡ true → Registers a b t
registers a b t f = record { fits_a = grind (arith, nat_tests); fits_b = grind (arith, nat_tests); rest = grind (arith, nat_tests) }

-- The levels: where the opcode bits above are all 1, the next level reads the word

nonzero : (w : ℕ) → 0 < w → decoded w ≡ base w
nonzero w h = let t : eqb w 0 ≡ false = grind (arith, nat_tests) in rw t

level1_is : (w : ℕ) → 61440 ≤ w → w < 65536 → decoded w ≡ level1 w
level1_is w l h =
    let k : w / 8192 % 8 ≡ 7 = omega arith in
    let b : w / 4096 % 2 ≡ 1 = omega arith in
    nonzero w (omega arith) ∙ (rw (k, b))

pub level2_is : (w : ℕ) → 65024 ≤ w → w < 65536 → decoded w ≡ level2 w
level2_is w l h =
    let k : w / 512 % 8 ≡ 7 = omega arith in
    level1_is w (omega arith) h ∙ (rw k)

level3_is : (w : ℕ) → 65472 ≤ w → w < 65536 → decoded w ≡ level3 w
level3_is w l h =
    let k : w / 64 % 8 ≡ 7 = omega arith in
    level2_is w (omega arith) h ∙ (rw k)

level4_is : (w : ℕ) → 65528 ≤ w → w < 65536 → decoded w ≡ level4 w
level4_is w l h =
    let k : w / 8 % 8 ≡ 7 = omega arith in
    level3_is w (omega arith) h ∙ (rw k)

-- The tables: an operation's number finds the operation

alu_lt : (o : AluOp) → alu_no o < 7
alu_lt Sbb = omega arith
alu_lt Adc = omega arith
alu_lt Sub = omega arith
alu_lt Add = omega arith
alu_lt Xor = omega arith
alu_lt Or = omega arith
alu_lt And = omega arith

alu_at : (o : AluOp) (w : ℕ) → w / 512 % 8 ≡ alu_no o → level1 w ≡ alu o w
alu_at Sbb w e = rw e
alu_at Adc w e = rw e
alu_at Sub w e = rw e
alu_at Add w e = rw e
alu_at Xor w e = rw e
alu_at Or w e = rw e
alu_at And w e = rw e

pair_lt : (o : PairOp) → pair_no o < 7
pair_lt Lsp = omega arith
pair_lt Lsi = omega arith
pair_lt Ssp = omega arith
pair_lt Ssi = omega arith
pair_lt Lcw = omega arith
pair_lt Tst = omega arith

pair_at : (o : PairOp) (w : ℕ) → w / 64 % 8 ≡ pair_no o → level2 w ≡ pair o w
pair_at Lsp w e = rw e
pair_at Lsi w e = rw e
pair_at Ssp w e = rw e
pair_at Ssi w e = rw e
pair_at Lcw w e = rw e
pair_at Tst w e = rw e

unary_lt : (o : UnaryOp) → unary_no o < 6
unary_lt Not = omega arith
unary_lt Neg = omega arith
unary_lt Dub = omega arith
unary_lt Sxt = omega arith
unary_lt Sra = omega arith
unary_lt Srl = omega arith

unary_at : (o : UnaryOp) (w : ℕ) → w / 8 % 8 ≡ unary_no o → level3 w ≡ unary o w
unary_at Not w e = rw e
unary_at Neg w e = rw e
unary_at Dub w e = rw e
unary_at Sxt w e = rw e
unary_at Sra w e = rw e
unary_at Srl w e = rw e

-- each of these is one word, which is computed
control_at : (o : ControlOp) (w : ℕ) → 65528 + control_no o ≡ w → decoded w ≡ control o
control_at Ccf w e = rw (sym e)
control_at Scf w e = rw (sym e)
control_at Di w e = rw (sym e)
control_at Ei w e = rw (sym e)
control_at Hlt w e = rw (sym e)
control_at Brk w e = rw (sym e)
control_at Rti w e = rw (sym e)

condition_lt : (c : Condition) → condition_no c < 8
condition_lt Always = omega arith
condition_lt AlwaysLink = omega arith
condition_lt Zero = omega arith
condition_lt NotZero = omega arith
condition_lt Carry = omega arith
condition_lt NotCarry = omega arith
condition_lt SignedGreaterEqual = omega arith
condition_lt SignedLess = omega arith

condition_at : (c : Condition) → condition (condition_no c) ≡ c
condition_at Always = refl
condition_at AlwaysLink = refl
condition_at Zero = refl
condition_at NotZero = refl
condition_at Carry = refl
condition_at NotCarry = refl
condition_at SignedGreaterEqual = refl
condition_at SignedLess = refl

-- Each instruction

-- opcode, rA, rB and the signed immediate of a base instruction
record Based (w k a b : ℕ) (i : ℤ) : Type 0 where
  reads : decoded w ≡ base w
  opcode : w / 8192 % 8 ≡ k
  in_a : reg_a w ≡ a
  in_b : reg_b w ≡ b
  in_i : imm7 w ≡ i

based : (w k a b : ℕ) (i : ℤ) → k < 5 → 0 < w → (ltb a 8 && (ltb b 8 && within 64 i)) ≡ true → 8192 * k + 64 * bits_of 64 i + 8 * b + a ≡ w → Based w k a b i
based w k a b i hk h f e =
    let r = registers a b (within 64 i) f in
    let l = bits_lt 64 i r.rest in
    let s = fields w (128 * k + bits_of 64 i) a b r.fits_a r.fits_b (omega arith) in
    let m = low (w / 64) k 128 (bits_of 64 i) l (omega arith) in
    let top = high w k 8192 (64 * bits_of 64 i + 8 * b + a) (omega arith) (omega arith) in
    record { reads = nonzero w h; opcode = omega arith; in_a = s.at_a; in_b = s.at_b; in_i = ap (signed 64) m ∙ signed_bits 64 i r.rest }

-- the word of an instruction whose fields fit is decoded as that instruction
back : (i : Instr) (w : ℕ) → fits i ≡ true → word_of i ≡ w → 0 < w → decoded w ≡ Ok i
back (Load Word a b i) w f e h = let s = based w 0 a b i (omega arith) h f (omega arith) in cc
back (Load Byte a b i) w f e h = let s = based w 1 a b i (omega arith) h f (omega arith) in cc
back (Store Word a b i) w f e h = let s = based w 2 a b i (omega arith) h f (omega arith) in cc
back (Store Byte a b i) w f e h = let s = based w 3 a b i (omega arith) h f (omega arith) in cc
back (Adi a b i) w f e h = let s = based w 4 a b i (omega arith) h f (omega arith) in cc
back (Lui a i) w f e h =
    let ha : a < 8 = grind (arith, nat_tests) in
    let hi : i < 1024 = grind (arith, nat_tests) in
    let k : w / 8192 % 8 ≡ 5 = omega arith in
    let pa = low w (5120 + i) 8 a ha (omega arith) in
    let pi = low (w / 8) 5 1024 i hi (high w (5120 + i) 8 a ha (omega arith)) in
    nonzero w h ∙ (rw (k, pa, pi))
back (Br c i) w f e h =
    let l = bits_lt 512 i f in
    let n = condition_lt c in
    let k : w / 8192 % 8 ≡ 6 = omega arith in
    let d : base w ≡ Ok (Br (condition (w % 8)) (imm10 w)) = rw k in
    let pa = low w (6144 + bits_of 512 i) 8 (condition_no c) n (omega arith) in
    let pi = low (w / 8) 6 1024 (bits_of 512 i) l (high w (6144 + bits_of 512 i) 8 (condition_no c) n (omega arith)) in
    let s : imm10 w ≡ i = ap (signed 512) pi ∙ signed_bits 512 i f in
    let t : condition (w % 8) ≡ c = ap condition pa ∙ condition_at c in
    nonzero w h ∙ d ∙ ap (λ x. Ok (Br x (imm10 w))) t ∙ ap (λ x. Ok (Br c x)) s
back (Jal a b i) w f e h =
    let r = registers a b (ltb i 64) f in
    let hi : i < 64 = grind (arith, nat_tests) in
    let s = fields w (896 + i) a b r.fits_a r.fits_b (omega arith) in
    let eighth = high w 7 8192 (64 * i + 8 * b + a) (omega arith) (omega arith) in
    let k : w / 8192 % 8 ≡ 7 = omega arith in
    let top = high w 14 4096 (64 * i + 8 * b + a) (omega arith) (omega arith) in
    let bit : w / 4096 % 2 ≡ 0 = omega arith in
    let pi = low (w / 64) 14 64 i hi (omega arith) in
    nonzero w h ∙ (rw (k, bit, s.at_a, s.at_b, pi))
back (Alu o a b c) w f e h =
    let r = registers a b (ltb c 8) f in
    let hc : c < 8 = grind (arith, nat_tests) in
    let k = alu_lt o in
    let s = fields w (960 + 8 * alu_no o + c) a b r.fits_a r.fits_b (omega arith) in
    let pc = low (w / 64) (120 + alu_no o) 8 c hc (omega arith) in
    let mid = high w (120 + alu_no o) 512 (64 * c + 8 * b + a) (omega arith) (omega arith) in
    level1_is w (omega arith) (omega arith) ∙ alu_at o w (low (w / 512) 15 8 (alu_no o) (omega arith) (omega arith)) ∙ (cc)
back (Pair o a b) w f e h =
    let ha : a < 8 = grind (arith, nat_tests) in
    let hb : b < 8 = grind (arith, nat_tests) in
    let k = pair_lt o in
    let s = fields w (1016 + pair_no o) a b ha hb (omega arith) in
    level2_is w (omega arith) (omega arith) ∙ pair_at o w (low (w / 64) 127 8 (pair_no o) (omega arith) (omega arith)) ∙ (cc)
back (Sys n) w f e h =
    let hn : n < 8 = grind (arith, nat_tests) in
    let s = fields w 1021 n 0 hn (omega arith) (omega arith) in
    let k : w / 64 % 8 ≡ 5 = omega arith in
    level2_is w (omega arith) (omega arith) ∙ (rw (k, s.at_b, s.at_a))
back (Unary o a) w f e h =
    let ha : a < 8 = grind (arith, nat_tests) in
    let k = unary_lt o in
    let s = fields w 1023 a (unary_no o) ha (omega arith) (omega arith) in
    level3_is w (omega arith) (omega arith) ∙ unary_at o w s.at_b ∙ (cc)
back (Ji a) w f e h =
    let ha : a < 8 = grind (arith, nat_tests) in
    let s = fields w 1023 a 6 ha (omega arith) (omega arith) in
    level3_is w (omega arith) (omega arith) ∙ (rw (s.at_b, s.at_a))
back (Control o) w f e h = control_at o w e

pub encode_decode : (i : Instr) (w : ℕ) → encoded i ≡ Ok w → decoded w ≡ Ok i
encode_decode i w e = back i w (grind (arith, nat_tests)) (grind (arith, nat_tests)) (grind (arith, nat_tests))

-- an instruction's word has 16 bits
pub word_lt : (i : Instr) → fits i ≡ true → word_of i < 65536
word_lt (Load Word a b i) f = let r = registers a b (within 64 i) f in let l = bits_lt 64 i r.rest in omega arith
word_lt (Load Byte a b i) f = let r = registers a b (within 64 i) f in let l = bits_lt 64 i r.rest in omega arith
word_lt (Store Word a b i) f = let r = registers a b (within 64 i) f in let l = bits_lt 64 i r.rest in omega arith
word_lt (Store Byte a b i) f = let r = registers a b (within 64 i) f in let l = bits_lt 64 i r.rest in omega arith
word_lt (Adi a b i) f = let r = registers a b (within 64 i) f in let l = bits_lt 64 i r.rest in omega arith
word_lt (Lui a i) f = grind (arith, nat_tests)
word_lt (Br c i) f = let l = bits_lt 512 i f in let k = condition_lt c in omega arith
word_lt (Jal a b i) f = grind (arith, nat_tests)
word_lt (Alu o a b c) f = let k = alu_lt o in grind (arith, nat_tests)
word_lt (Pair o a b) f = let k = pair_lt o in grind (arith, nat_tests)
word_lt (Sys n) f = grind (arith, nat_tests)
word_lt (Unary o a) f = let k = unary_lt o in grind (arith, nat_tests)
word_lt (Ji a) f = grind (arith, nat_tests)
word_lt (Control Ccf) f = omega arith
word_lt (Control Scf) f = omega arith
word_lt (Control Di) f = omega arith
word_lt (Control Ei) f = omega arith
word_lt (Control Hlt) f = omega arith
word_lt (Control Brk) f = omega arith
word_lt (Control Rti) f = omega arith

-- the word 0 would be LDW with all fields 0, and nothing else
pub word_0 : (i : Instr) → fits i ≡ true → word_of i ≡ 0 → i ≡ Load Word 0 0 (pos 0)
word_0 (Load Word a b (pos n)) f e =
    let ea : a ≡ 0 = omega arith in
    let eb : b ≡ 0 = omega arith in
    let en : n ≡ 0 = omega arith in
    cc
word_0 (Load Word a b (negsuc n)) f e =
    let l : n < 64 = grind (arith, nat_tests) in
    absurd (omega arith)
word_0 (Load Byte a b i) f e = absurd (omega arith)
word_0 (Store x a b i) f e = absurd (omega arith)
word_0 (Adi a b i) f e = absurd (omega arith)
word_0 (Lui a i) f e = absurd (omega arith)
word_0 (Br c i) f e = absurd (omega arith)
word_0 (Jal a b i) f e = absurd (omega arith)
word_0 (Alu o a b c) f e = absurd (omega arith)
word_0 (Pair o a b) f e = absurd (omega arith)
word_0 (Sys n) f e = absurd (omega arith)
word_0 (Unary o a) f e = absurd (omega arith)
word_0 (Ji a) f e = absurd (omega arith)
word_0 (Control o) f e = absurd (omega arith)
