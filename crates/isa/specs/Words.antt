-- The instruction words. `decoded` reads a word level by level as the opcode tables list them; `word_of` is the word of each
-- instruction, opcode and fields added up. Each is written from the tables by itself, and they are proved to agree. Assumes nothing.
use Rattle.std.specs.Prelude.{ℕ, suc, ◌+◌, ◌-◌, ◌*◌, ◌/◌, ◌%◌, ◌^◌, Bool, true, cond, not, ◌&&◌, List, [], ◌∷◌, ℤ, pos, negsuc, Ok, Err, Result, ◌==◌, nat_lt}
use Rattle.isa.specs.declared.instr.Width.{Width}
use Rattle.isa.specs.declared.instr.Width.TheVariants.{Word, Byte}
use Rattle.isa.specs.declared.instr.Condition.{Condition}
use Rattle.isa.specs.declared.instr.Condition.TheVariants.{Always, AlwaysLink, Zero, NotZero, Carry, NotCarry, SignedGreaterEqual, SignedLess}
use Rattle.isa.specs.declared.instr.AluOp.{AluOp}
use Rattle.isa.specs.declared.instr.AluOp.TheVariants.{Sbb, Adc, Sub, Add, Xor, Or, And}
use Rattle.isa.specs.declared.instr.PairOp.{PairOp}
use Rattle.isa.specs.declared.instr.PairOp.TheVariants.{Lsp, Lsi, Ssp, Ssi, Lcw, Tst}
use Rattle.isa.specs.declared.instr.UnaryOp.{UnaryOp}
use Rattle.isa.specs.declared.instr.UnaryOp.TheVariants.{Not, Neg, Dub, Sxt, Sra, Srl}
use Rattle.isa.specs.declared.instr.ControlOp.{ControlOp}
use Rattle.isa.specs.declared.instr.ControlOp.TheVariants.{Ccf, Scf, Di, Ei, Hlt, Brk, Rti}
use Rattle.isa.specs.declared.instr.Instr.{Instr}
use Rattle.isa.specs.declared.instr.Instr.TheVariants.{Load, Store, Adi, Lui, Br, Jal, Alu, Pair, Sys, Unary, Ji, Control}

-- Fields

-- the bits of w from bit `low` on, `count` of them, as a number
abbrev pub bits : ℕ → ℕ → ℕ → ℕ
bits low count w = w / 2 ^ low % 2 ^ count

abbrev pub reg_a : ℕ → ℕ
reg_a w = w % 8

abbrev pub reg_b : ℕ → ℕ
reg_b w = bits 3 3 w

abbrev pub reg_c : ℕ → ℕ
reg_c w = bits 6 3 w

-- n, of the numbers below 2 * half, read as a signed number: from half on it stands for n - 2 * half
abbrev pub signed : ℕ → ℕ → ℤ
signed half n = cond (nat_lt n half) (pos n) (negsuc (2 * half - 1 - n))

abbrev pub imm7 : ℕ → ℤ
imm7 w = signed 64 (bits 6 7 w)

abbrev pub imm10 : ℕ → ℤ
imm10 w = signed 512 (bits 3 10 w)

-- Reading a word

-- the entry of a table that is numbered from k, at n; past its end, `rest`
abbrev pub from : {A : Type 0} → ℕ → List A → ℕ → A → A
from k [] n rest = rest
from k (x ∷ xs) n rest = cond (n == k) x (from (suc k) xs n rest)

abbrev pub select : {A : Type 0} → ℕ → List A → A → A
select n xs rest = from 0 xs n rest

-- an instruction, or the number of the refusal
abbrev pub Answer : Type 0
Answer = Result Instr ℕ

abbrev pub illegal : Answer
illegal = Err 1

abbrev pub condition : ℕ → Condition
condition n = select n (Always ∷ AlwaysLink ∷ Zero ∷ NotZero ∷ Carry ∷ NotCarry ∷ SignedGreaterEqual ∷ []) SignedLess

abbrev pub control : ControlOp → Answer
control op = Ok (Control op)

abbrev pub unary : UnaryOp → ℕ → Answer
unary op w = Ok (Unary op (reg_a w))

abbrev pub pair : PairOp → ℕ → Answer
pair op w = Ok (Pair op (reg_a w) (reg_b w))

abbrev pub alu : AluOp → ℕ → Answer
alu op w = Ok (Alu op (reg_a w) (reg_b w) (reg_c w))

-- bits 15 to 3 are all 1: no register
abbrev pub level4 : ℕ → Answer
level4 w = select (w % 8) (control Ccf ∷ control Scf ∷ control Di ∷ control Ei ∷ control Hlt ∷ control Brk ∷ control Rti ∷ []) illegal

-- bits 15 to 6 are all 1: one register
abbrev pub level3 : ℕ → Answer
level3 w = select (bits 3 3 w) (unary Not w ∷ unary Neg w ∷ unary Dub w ∷ unary Sxt w ∷ unary Sra w ∷ unary Srl w ∷ Ok (Ji (reg_a w)) ∷ []) (level4 w)

-- the system call has no rB
abbrev pub sys : ℕ → Answer
sys w = cond (reg_b w == 0) (Ok (Sys (reg_a w))) illegal

-- bits 15 to 9 are all 1: two registers
abbrev pub level2 : ℕ → Answer
level2 w = select (bits 6 3 w) (pair Lsp w ∷ pair Lsi w ∷ pair Ssp w ∷ pair Ssi w ∷ pair Lcw w ∷ sys w ∷ pair Tst w ∷ []) (level3 w)

-- bits 15 to 12 are all 1: three registers
abbrev pub level1 : ℕ → Answer
level1 w = select (bits 9 3 w) (alu Sbb w ∷ alu Adc w ∷ alu Sub w ∷ alu Add w ∷ alu Xor w ∷ alu Or w ∷ alu And w ∷ []) (level2 w)

-- the base instructions, by bits 15 to 13; where those are all 1, bit 12 tells JAL
abbrev pub base : ℕ → Answer
base w =
    select (bits 13 3 w)
    (Ok (Load Word (reg_a w) (reg_b w) (imm7 w))
    ∷ Ok (Load Byte (reg_a w) (reg_b w) (imm7 w))
    ∷ Ok (Store Word (reg_a w) (reg_b w) (imm7 w))
    ∷ Ok (Store Byte (reg_a w) (reg_b w) (imm7 w))
    ∷ Ok (Adi (reg_a w) (reg_b w) (imm7 w))
    ∷ Ok (Lui (reg_a w) (bits 3 10 w))
    ∷ Ok (Br (condition (w % 8)) (imm10 w))
    ∷ [])
    (cond (bits 12 1 w == 0) (Ok (Jal (reg_a w) (reg_b w) (bits 6 6 w))) (level1 w))

-- the word 0 is no instruction
abbrev pub decoded : ℕ → Answer
decoded w = cond (w == 0) illegal (base w)

-- Writing an instruction

abbrev pub width_no : Width → ℕ
width_no Word = 0
width_no Byte = 1

abbrev pub condition_no : Condition → ℕ
condition_no Always = 0
condition_no AlwaysLink = 1
condition_no Zero = 2
condition_no NotZero = 3
condition_no Carry = 4
condition_no NotCarry = 5
condition_no SignedGreaterEqual = 6
condition_no SignedLess = 7

abbrev pub alu_no : AluOp → ℕ
alu_no Sbb = 0
alu_no Adc = 1
alu_no Sub = 2
alu_no Add = 3
alu_no Xor = 4
alu_no Or = 5
alu_no And = 6

abbrev pub pair_no : PairOp → ℕ
pair_no Lsp = 0
pair_no Lsi = 1
pair_no Ssp = 2
pair_no Ssi = 3
pair_no Lcw = 4
pair_no Tst = 6

abbrev pub unary_no : UnaryOp → ℕ
unary_no Not = 0
unary_no Neg = 1
unary_no Dub = 2
unary_no Sxt = 3
unary_no Sra = 4
unary_no Srl = 5

abbrev pub control_no : ControlOp → ℕ
control_no Ccf = 0
control_no Scf = 1
control_no Di = 2
control_no Ei = 3
control_no Hlt = 4
control_no Brk = 5
control_no Rti = 6

-- z as a number below 2 * half
abbrev pub bits_of : ℕ → ℤ → ℕ
bits_of half (pos n) = n
bits_of half (negsuc n) = 2 * half - 1 - n

-- - half ≤ z < half
abbrev pub within : ℕ → ℤ → Bool
within half (pos n) = nat_lt n half
within half (negsuc n) = nat_lt n half

-- opcode and fields, each at its place
abbrev pub word_of : Instr → ℕ
word_of (Load x a b i) = 0x2000 * width_no x + 64 * bits_of 64 i + 8 * b + a
word_of (Store x a b i) = 0x4000 + 0x2000 * width_no x + 64 * bits_of 64 i + 8 * b + a
word_of (Adi a b i) = 0x8000 + 64 * bits_of 64 i + 8 * b + a
word_of (Lui a i) = 0xA000 + 8 * i + a
word_of (Br c i) = 0xC000 + 8 * bits_of 512 i + condition_no c
word_of (Jal a b i) = 0xE000 + 64 * i + 8 * b + a
word_of (Alu o a b c) = 0xF000 + 512 * alu_no o + 64 * c + 8 * b + a
word_of (Pair o a b) = 0xFE00 + 64 * pair_no o + 8 * b + a
word_of (Sys n) = 0xFF40 + n
word_of (Unary o a) = 0xFFC0 + 8 * unary_no o + a
word_of (Ji a) = 0xFFF0 + a
word_of (Control o) = 0xFFF8 + control_no o

-- each field fits its bits
abbrev pub fits : Instr → Bool
fits (Load x a b i) = nat_lt a 8 && (nat_lt b 8 && within 64 i)
fits (Store x a b i) = nat_lt a 8 && (nat_lt b 8 && within 64 i)
fits (Adi a b i) = nat_lt a 8 && (nat_lt b 8 && within 64 i)
fits (Lui a i) = nat_lt a 8 && nat_lt i 1024
fits (Br c i) = within 512 i
fits (Jal a b i) = nat_lt a 8 && (nat_lt b 8 && nat_lt i 64)
fits (Alu o a b c) = nat_lt a 8 && (nat_lt b 8 && nat_lt c 8)
fits (Pair o a b) = nat_lt a 8 && nat_lt b 8
fits (Sys n) = nat_lt n 8
fits (Unary o a) = nat_lt a 8
fits (Ji a) = nat_lt a 8
fits (Control o) = true

-- LDW with all fields 0 would be the word 0, which is no instruction
abbrev pub encoded : Instr → Result ℕ ℕ
encoded i = cond (fits i && not (word_of i == 0)) (Ok (word_of i)) (Err 2)
