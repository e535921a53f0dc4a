-- Reading and writing a register file. Assumes nothing.
use Rattle.std.specs.Prelude.{ℕ, Bool, cond, ◌&&◌, ◌==◌, nat_le, slice_index, slice_set}
use Rattle.alu.specs.declared.flags.Flags.{Flags}
use Rattle.processor.specs.declared.state.Registers.{Registers}
use Rattle.processor.specs.declared.action.Target.{Target}
use Rattle.processor.specs.declared.action.Target.TheVariants.{Register, Link}

abbrev pub between : ℕ → ℕ → ℕ → Bool
between a b n = nat_le a n && nat_le n b

-- r1 to r7 hold what is put there; r0 reads 0
abbrev pub reg : Registers → ℕ → ℕ
reg f r = cond (between 1 7 r) (slice_index f.general r) 0

-- where 0 names LINK
abbrev pub reg_or_link : Registers → ℕ → ℕ
reg_or_link f r = cond (r == 0) f.link (reg f r)

-- what is written to r0 is lost
abbrev pub put : Registers → ℕ → ℕ → Registers
put f r v = cond (between 1 7 r) (record { general = slice_set f.general r v; link = f.link; flags = f.flags }) f

abbrev pub with_link : Registers → ℕ → Registers
with_link f v = record { general = f.general; link = v; flags = f.flags }

abbrev pub with_flags : Registers → Flags → Registers
with_flags f x = record { general = f.general; link = f.link; flags = x }

-- what is put to a register or to LINK
abbrev pub settled : Registers → Target → ℕ → Registers
settled f (Register r) v = put f r v
settled f Link v = with_link f v
