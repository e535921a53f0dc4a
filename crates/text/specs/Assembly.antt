-- Instructions in assembler form, as the bytes of the text. Assumes nothing.
use Rattle.std.specs.Prelude.{ℕ, List, [], ◌++◌, codes, decimal}
use Rattle.std.specs.Fmt.{signed_decimal}
use Rattle.isa.specs.declared.instr.Width.{Width}
use Rattle.isa.specs.declared.instr.Width.TheVariants.{Word, Byte}
use Rattle.isa.specs.declared.instr.Condition.{Condition}
use Rattle.isa.specs.declared.instr.Condition.TheVariants.{Always, AlwaysLink, Zero, NotZero, Carry, NotCarry, SignedGreaterEqual, SignedLess}
use Rattle.isa.specs.declared.instr.AluOp.{AluOp}
use Rattle.isa.specs.declared.instr.AluOp.TheVariants.{Sbb, Adc, Sub, Add, Xor, Or, And}
use Rattle.isa.specs.declared.instr.PairOp.{PairOp}
use Rattle.isa.specs.declared.instr.PairOp.TheVariants.{Lsp, Lsi, Ssp, Ssi, Lcw, Tst}
use Rattle.isa.specs.declared.instr.UnaryOp.{UnaryOp}
use Rattle.isa.specs.declared.instr.UnaryOp.TheVariants.{Not, Neg, Dub, Sxt, Sra, Srl}
use Rattle.isa.specs.declared.instr.ControlOp.{ControlOp}
use Rattle.isa.specs.declared.instr.ControlOp.TheVariants.{Ccf, Scf, Di, Ei, Hlt, Brk, Rti}
use Rattle.isa.specs.declared.instr.Instr.{Instr}
use Rattle.isa.specs.declared.instr.Instr.TheVariants.{Load, Store, Adi, Lui, Br, Jal, Alu, Pair, Sys, Unary, Ji, Control}

abbrev pub load_name : Width → List ℕ
load_name Word = codes "ldw"
load_name Byte = codes "ldb"

abbrev pub store_name : Width → List ℕ
store_name Word = codes "stw"
store_name Byte = codes "stb"

abbrev pub branch_name : Condition → List ℕ
branch_name Always = codes "br"
branch_name AlwaysLink = codes "brl"
branch_name Zero = codes "brz"
branch_name NotZero = codes "brnz"
branch_name Carry = codes "brc"
branch_name NotCarry = codes "brnc"
branch_name SignedGreaterEqual = codes "brsge"
branch_name SignedLess = codes "brslt"

abbrev pub alu_name : AluOp → List ℕ
alu_name Sbb = codes "sbb"
alu_name Adc = codes "adc"
alu_name Sub = codes "sub"
alu_name Add = codes "add"
alu_name Xor = codes "xor"
alu_name Or = codes "or"
alu_name And = codes "and"

abbrev pub pair_name : PairOp → List ℕ
pair_name Lsp = codes "lsp"
pair_name Lsi = codes "lsi"
pair_name Ssp = codes "ssp"
pair_name Ssi = codes "ssi"
pair_name Lcw = codes "lcw"
pair_name Tst = codes "tst"

abbrev pub unary_name : UnaryOp → List ℕ
unary_name Not = codes "not"
unary_name Neg = codes "neg"
unary_name Dub = codes "dub"
unary_name Sxt = codes "sxt"
unary_name Sra = codes "sra"
unary_name Srl = codes "srl"

abbrev pub control_name : ControlOp → List ℕ
control_name Ccf = codes "ccf"
control_name Scf = codes "scf"
control_name Di = codes "di"
control_name Ei = codes "ei"
control_name Hlt = codes "hlt"
control_name Brk = codes "brk"
control_name Rti = codes "rti"

-- the mnemonic
abbrev pub instr_name : Instr → List ℕ
instr_name (Load x a b i) = load_name x
instr_name (Store x a b i) = store_name x
instr_name (Adi a b i) = codes "adi"
instr_name (Lui a i) = codes "lui"
instr_name (Br c i) = branch_name c
instr_name (Jal a b i) = codes "jal"
instr_name (Alu o a b c) = alu_name o
instr_name (Pair o a b) = pair_name o
instr_name (Sys n) = codes "sys"
instr_name (Unary o a) = unary_name o
instr_name (Ji a) = codes "ji"
instr_name (Control o) = control_name o

-- the operands: a comma and a space between two, registers as r0 to r7, numbers in decimal

abbrev pub one : ℕ → List ℕ → List ℕ
one a rest = codes " r" ++ (decimal a ++ rest)

abbrev pub two : ℕ → ℕ → List ℕ → List ℕ
two a b rest = one a (codes ", r" ++ (decimal b ++ rest))

abbrev pub operands : Instr → List ℕ
operands (Load x a b i) = two a b (codes ", " ++ signed_decimal i)
operands (Store x a b i) = two a b (codes ", " ++ signed_decimal i)
operands (Adi a b i) = two a b (codes ", " ++ signed_decimal i)
operands (Lui a i) = one a (codes ", " ++ decimal i)
operands (Br c i) = codes " " ++ signed_decimal i
operands (Jal a b i) = two a b (codes ", " ++ decimal i)
operands (Alu o a b c) = two a b (codes ", r" ++ decimal c)
operands (Pair o a b) = one a (codes ", r" ++ decimal b)
operands (Sys n) = codes " " ++ decimal n
operands (Unary o a) = codes " r" ++ decimal a
operands (Ji a) = codes " r" ++ decimal a
operands (Control o) = []

abbrev pub assembly : Instr → List ℕ
assembly i = instr_name i ++ operands i
