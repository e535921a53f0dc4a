-- Results and flags of sums and differences, over numbers below 65536. Assumes nothing.
use Rattle.std.specs.Prelude.{Bool, true, false, cond, ◌&&◌, not, ℕ, ◌+◌, ◌-◌, ◌*◌, ◌%◌, eqb, leb}
use Rattle.alu.specs.declared.flags.Flags.{Flags}

abbrev pub bit15 : ℕ → Bool
bit15 x = leb 0x8000 x

abbrev pub agree : Bool → Bool → Bool
agree true b = b
agree false b = not b

abbrev pub carry_in : Bool → ℕ
carry_in c = cond c 1 0

-- a result with its flags: Z and N tell of the result, C and V are given
abbrev pub flagged : Bool → Bool → ℕ → ℕ × Flags
flagged c v r = (r, record { c = c; z = eqb r 0; n = bit15 r; v = v })

-- V: a and b agree in bit 15, and the result does not
abbrev pub overflow : ℕ → ℕ → ℕ → Bool
overflow a b r = agree (bit15 a) (bit15 b) && not (agree (bit15 a) (bit15 r))

-- of the sum s of a and b and perhaps a carry: C where s reaches 65536
abbrev pub summed : ℕ → ℕ → ℕ → ℕ × Flags
summed a b s = flagged (leb 0x10000 s) (overflow a b (s % 0x10000)) (s % 0x10000)

abbrev pub added : ℕ → ℕ → ℕ → ℕ × Flags
added a b k = summed a b (a + b + k)

-- to subtract b is to add 65535 - b, with k 1 for a - b
abbrev pub subtracted : ℕ → ℕ → ℕ → ℕ × Flags
subtracted a b k = added a (65535 - b) k

abbrev pub negated : ℕ → ℕ × Flags
negated a = subtracted 0 a 1

-- an immediate moved to the upper ten bits; no flags
abbrev pub upper : ℕ → ℕ
upper imm = imm * 64 % 0x10000
