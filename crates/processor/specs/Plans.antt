-- What each instruction asks for, by the register file f and PC. Assumes nothing.
use Rattle.std.specs.Prelude.{ℕ, ◌+◌, ◌*◌, ◌/◌, ◌%◌, Bool, true, false, cond, not, ℤ, ◌==◌}
use Rattle.isa.specs.Words.{bits_of}
use Rattle.isa.specs.declared.instr.Condition.{Condition}
use Rattle.isa.specs.declared.instr.Condition.TheVariants.{Always, AlwaysLink, Zero, NotZero, Carry, NotCarry, SignedGreaterEqual, SignedLess}
use Rattle.isa.specs.declared.instr.AluOp.{AluOp}
use Rattle.isa.specs.declared.instr.AluOp.TheVariants.{Sbb, Adc, Sub, Add, Xor, Or, And}
use Rattle.isa.specs.declared.instr.PairOp.{PairOp}
use Rattle.isa.specs.declared.instr.PairOp.TheVariants.{Lsp, Lsi, Ssp, Ssi, Lcw, Tst}
use Rattle.isa.specs.declared.instr.UnaryOp.{UnaryOp}
use Rattle.isa.specs.declared.instr.UnaryOp.TheVariants.{Not, Neg, Dub, Sxt, Sra, Srl}
use Rattle.isa.specs.declared.instr.ControlOp.{ControlOp}
use Rattle.isa.specs.declared.instr.ControlOp.TheVariants.{Ccf, Scf, Di, Ei, Hlt, Brk, Rti}
use Rattle.isa.specs.declared.instr.Instr.{Instr}
use Rattle.isa.specs.declared.instr.Instr.TheVariants.{Load, Store, Adi, Lui, Br, Jal, Alu, Pair, Sys, Unary, Ji, Control}
use Rattle.alu.specs.declared.flags.Flags.{Flags}
use Rattle.alu.specs.Arithmetic.{agree, carry_in, added, subtracted, negated, upper}
use Rattle.alu.specs.Logic.{anded, ored, xored, inverted, doubled, extended, shifted_arithmetic, shifted_logical}
use Rattle.processor.specs.declared.state.Registers.{Registers}
use Rattle.processor.specs.declared.access.Purpose.TheVariants.{CodeLoad, DataLoad}
use Rattle.processor.specs.declared.action.Privileged.TheVariants.{Disable, Enable, Halt, Return}
use Rattle.processor.specs.declared.action.Target.{Target}
use Rattle.processor.specs.declared.action.Target.TheVariants.{Register, Link}
use Rattle.processor.specs.declared.action.Action.{Action}
use Rattle.processor.specs.declared.action.Action.TheVariants.{Settle, ReadMemory, WriteMemory, ReadSpecial, WriteSpecial, StoreSpecial, LoadSpecial, SystemCall, Break, Privilege}
use Rattle.processor.specs.Registers.{reg, reg_or_link}
use Rattle.processor.specs.Actions.{request, word_of}

abbrev pub wrap : ℕ → ℕ
wrap x = x % 0x10000

-- a signed number modulo 65,536
abbrev pub modulo : ℤ → ℕ
modulo z = bits_of 0x8000 z

-- the address of the next instruction
abbrev pub next : ℕ → ℕ
next pc = wrap (pc + 2)

-- rB + imm
abbrev pub address_of : Registers → ℕ → ℤ → ℕ
address_of f b i = wrap (reg f b + modulo i)

-- where a result for register a goes: 0 names LINK
abbrev pub register_or_link : ℕ → Target
register_or_link a = cond (a == 0) Link (Register a)

-- ADC adds the carry and SBB subtracts with it
abbrev pub computed : AluOp → ℕ → ℕ → Bool → ℕ × Flags
computed Sbb a b c = subtracted a b (carry_in c)
computed Adc a b c = added a b (carry_in c)
computed Sub a b c = subtracted a b 1
computed Add a b c = added a b 0
computed Xor a b c = xored a b
computed Or a b c = ored a b
computed And a b c = anded a b

abbrev pub changed : UnaryOp → ℕ → ℕ × Flags
changed Not a = inverted a
changed Neg a = negated a
changed Dub a = doubled a
changed Sxt a = extended a
changed Sra a = shifted_arithmetic a
changed Srl a = shifted_logical a

abbrev pub taken : Condition → Flags → Bool
taken Always x = true
taken AlwaysLink x = true
taken Zero x = x.z
taken NotZero x = not x.z
taken Carry x = x.c
taken NotCarry x = not x.c
taken SignedGreaterEqual x = agree x.n x.v
taken SignedLess x = not (agree x.n x.v)

-- a result with its flags, and on to the next instruction
abbrev pub settles : Target → ℕ × Flags → ℕ → Action
settles to r pc = Settle to r.0 (next pc) r.1

-- on at n, with no result: what goes to r0 is lost
abbrev pub jump : Flags → ℕ → Action
jump x n = Settle (Register 0) 0 n x

-- a branch that links leaves the address of the next instruction in LINK
abbrev pub linking : Condition → Flags → ℕ → ℕ → Action
linking Always x pc n = jump x n
linking AlwaysLink x pc n = Settle Link (next pc) n x
linking Zero x pc n = jump x n
linking NotZero x pc n = jump x n
linking Carry x pc n = jump x n
linking NotCarry x pc n = jump x n
linking SignedGreaterEqual x pc n = jump x n
linking SignedLess x pc n = jump x n

abbrev pub branch : Condition → ℤ → Flags → ℕ → Action
branch k i x pc = linking k x pc (cond (taken k x) (wrap (next pc + modulo i)) (next pc))

-- v with its low six bits replaced
abbrev pub target : ℕ → ℕ → ℕ
target v i = v / 64 * 64 + i % 64

abbrev pub pair_plan : PairOp → ℕ → ℕ → Registers → ℕ → Action
pair_plan Lsp a b f pc = ReadSpecial a (reg f b)
pair_plan Lsi a b f pc = StoreSpecial (reg f b) (reg f a)
pair_plan Ssp a b f pc = WriteSpecial (reg f b) (reg f a)
pair_plan Ssi a b f pc = LoadSpecial (reg f a) (reg f b)
pair_plan Lcw a b f pc = ReadMemory a (word_of CodeLoad (reg f b))
pair_plan Tst a b f pc = settles (Register 0) (subtracted (reg f a) (reg f b) 1) pc

abbrev pub with_carry : Flags → Bool → Flags
with_carry x c = record { c = c; z = x.z; n = x.n; v = x.v }

abbrev pub control_plan : ControlOp → Flags → ℕ → Action
control_plan Ccf x pc = settles (Register 0) (0, with_carry x false) pc
control_plan Scf x pc = settles (Register 0) (0, with_carry x true) pc
control_plan Di x pc = Privilege Disable
control_plan Ei x pc = Privilege Enable
control_plan Hlt x pc = Privilege Halt
control_plan Brk x pc = Break
control_plan Rti x pc = Privilege Return

abbrev pub planned : Instr → Registers → ℕ → Action
planned (Load w a b i) f pc = ReadMemory a (request DataLoad w (address_of f b i))
planned (Store w a b i) f pc = WriteMemory w (address_of f b i) (reg f a)
planned (Adi a b i) f pc = settles (register_or_link a) (added (reg f b) (modulo i) 0) pc
planned (Lui a i) f pc = settles (register_or_link a) (upper i, f.flags) pc
planned (Br k i) f pc = branch k i f.flags pc
planned (Jal a b i) f pc = Settle (register_or_link a) (next pc) (target (reg_or_link f b) i) f.flags
planned (Alu o a b c) f pc = settles (Register a) (computed o (reg f b) (reg f c) f.flags.c) pc
planned (Pair o a b) f pc = pair_plan o a b f pc
planned (Sys n) f pc = SystemCall n
planned (Unary o a) f pc = settles (Register a) (changed o (reg f a)) pc
planned (Ji a) f pc = jump f.flags (reg_or_link f a)
planned (Control o) f pc = control_plan o f.flags pc
