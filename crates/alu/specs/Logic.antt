-- Results and flags of the logical operations, of copies within a word and of shifts. Assumes nothing.
use Rattle.std.specs.Prelude.{false, cond, ℕ, ◌+◌, ◌-◌, ◌*◌, ◌/◌, ◌%◌, eqb, ltb}
use Rattle.std.specs.Int.Bits.{bit_and, bit_or, bit_xor}
use Rattle.alu.specs.declared.flags.Flags.{Flags}
use Rattle.alu.specs.Arithmetic.{bit15, flagged}

-- C and V are 0
abbrev pub plain : ℕ → ℕ × Flags
plain r = flagged false false r

abbrev pub anded : ℕ → ℕ → ℕ × Flags
anded a b = plain (bit_and a b)

abbrev pub ored : ℕ → ℕ → ℕ × Flags
ored a b = plain (bit_or a b)

abbrev pub xored : ℕ → ℕ → ℕ × Flags
xored a b = plain (bit_xor a b)

abbrev pub inverted : ℕ → ℕ × Flags
inverted a = plain (65535 - a)

-- the upper byte copied to the lower
abbrev pub doubled : ℕ → ℕ × Flags
doubled a = plain (a / 256 * 256 + a / 256)

-- the lower byte with its sign extended
abbrev pub extended : ℕ → ℕ × Flags
extended a = plain (cond (ltb (a % 256) 128) (a % 256) (0xFF00 + a % 256))

-- one place right: C is the bit shifted out, V is 0
abbrev pub shifted : ℕ → ℕ → ℕ × Flags
shifted a r = flagged (eqb (a % 2) 1) false r

-- bit 15 stays
abbrev pub shifted_arithmetic : ℕ → ℕ × Flags
shifted_arithmetic a = shifted a (a / 2 + cond (bit15 a) 0x8000 0)

-- bit 15 becomes 0
abbrev pub shifted_logical : ℕ → ℕ × Flags
shifted_logical a = shifted a (a / 2)
