-- The worked examples, jointly. Assumes nothing.
use Rattle.std.specs.Prelude.{◌≡◌, Bool, true, false, pos, negsuc, Ok, Err}
use Rattle.alu.specs.declared.flags.Flags.{Flags}
use Rattle.isa.specs.declared.instr.Width.TheVariants.{Byte}
use Rattle.isa.specs.declared.instr.Condition.TheVariants.{Zero}
use Rattle.isa.specs.declared.instr.AluOp.TheVariants.{Add}
use Rattle.isa.specs.declared.instr.Instr.TheVariants.{Adi, Lui, Alu, Br, Jal, Load, Sys}
use Rattle.isa.specs.Words.{decoded}
use Rattle.alu.specs.Arithmetic.{added, subtracted, negated, upper}
use Rattle.alu.specs.Logic.{shifted_arithmetic}

-- C, Z, N and V, in this order
abbrev pub flags : Bool → Bool → Bool → Bool → Flags
flags c z n v = record { c = c; z = z; n = n; v = v }

pub record Examples : Type 0 where
  pub adi : decoded 0x8141 ≡ Ok (Adi 1 0 (pos 5))
  pub lui : decoded 0xA242 ≡ Ok (Lui 2 0x48)
  pub lui_gives : upper 0x48 ≡ 0x1200
  pub add : decoded 0xF68B ≡ Ok (Alu Add 3 1 2)
  -- condition 2, offset -4
  pub br : decoded 0xDFE2 ≡ Ok (Br Zero (negsuc 3))
  pub jal : decoded 0xEF91 ≡ Ok (Jal 1 2 62)
  -- immediate -1
  pub ldb : decoded 0x3FD1 ≡ Ok (Load Byte 1 2 (negsuc 0))
  pub sys : decoded 0xFF43 ≡ Ok (Sys 3)
  pub sys_illegal : decoded 0xFF4B ≡ Err 1
  -- 0x7FFF + 1: N and V
  pub sum : added 0x7FFF 1 0 ≡ (0x8000, flags false false true true)
  -- SBB of 5 and 5 with C 0: N only
  pub borrow : subtracted 5 5 0 ≡ (0xFFFF, flags false false true false)
  pub neg : negated 0x8000 ≡ (0x8000, flags false false true true)
  -- C and N
  pub sra : shifted_arithmetic 0x8001 ≡ (0xC000, flags true false true false)
