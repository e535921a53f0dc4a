-- The flags as bits of a word. Assumes nothing.
use Rattle.std.specs.Prelude.{ℕ, ◌+◌, ◌*◌, ◌/◌, ◌%◌, Bool, cond, ◌==◌}
use Rattle.alu.specs.declared.flags.Flags.{Flags}

abbrev pub bit : Bool → ℕ
bit b = cond b 1 0

-- C, Z, N, V in bits 0 to 3
abbrev pub flag_bits : Flags → ℕ
flag_bits x = bit x.c + 2 * bit x.z + 4 * bit x.n + 8 * bit x.v

abbrev pub flags_of : ℕ → Flags
flags_of v = record { c = (v % 2 == 1); z = (v / 2 % 2 == 1); n = (v / 4 % 2 == 1); v = (v / 8 % 2 == 1) }
