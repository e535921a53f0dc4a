-- Words and instructions, in words of the subject. Assumes nothing.
use Rattle.std.specs.Prelude.{◌≡◌, ℕ, zero, suc, ◌+◌, ◌/◌, ◌<◌, Bool, true, false, cond, not, ◌&&◌, ◌||◌, ◌⊎◌, pos, Ok, Err, Result, ◌==◌}
use Rattle.isa.specs.declared.instr.Width.TheVariants.{Word}
use Rattle.isa.specs.declared.instr.Instr.{Instr}
use Rattle.isa.specs.declared.instr.Instr.TheVariants.{Load}
use Rattle.isa.specs.Words.{reg_b, fits, decoded, encoded}

-- 0x0000, 0xFFFF, and the system call, whose bits 15 to 6 are 0x3FD, with rB not 0
abbrev pub illegal_word : ℕ → Bool
illegal_word w = w == 0 || (w == 0xFFFF || (w / 64 == 0x3FD && not (reg_b w == 0)))

-- the value for what is answered, and the refusal for what is refused
abbrev pub answered : {A B : Type 0} → Result A ℕ → B → Result B ℕ
answered (Ok x) y = Ok y
answered (Err n) y = Err n

abbrev pub word_again : ℕ → Result ℕ ℕ
word_again w = answered (decoded w) w

abbrev pub instr_again : Instr → Result Instr ℕ
instr_again i = answered (encoded i) i

-- how many numbers below n pass the test
unfoldable pub count : (ℕ → Bool) → ℕ → ℕ
count t zero = 0
count t (suc n) = cond (t n) 1 0 + count t n

pub record OneToOne : Type 0 where
  -- an illegal word is refused with 1
  pub illegal : (w : ℕ) → w < 65536 → illegal_word w ≡ true → decoded w ≡ Err 1
  -- each other word is an instruction, whose word it is
  pub legal : (w : ℕ) → w < 65536 → illegal_word w ≡ false → (i : Instr) × (decoded w ≡ Ok i) × (encoded i ≡ Ok w)
  -- no instruction has two words
  pub alone : (i : Instr) (v w : ℕ) → v < 65536 → w < 65536 → decoded v ≡ Ok i → decoded w ≡ Ok i → v ≡ w
  -- an instruction's word is one of the 65,536, and is that instruction
  pub back : (i : Instr) (w : ℕ) → encoded i ≡ Ok w → (w < 65536) × (decoded w ≡ Ok i)
  -- an instruction has no word, refused with 2, exactly if a field is too wide or it is LDW with all fields 0
  pub refused : (i : Instr) → encoded i ≡ Err 2 → (fits i ≡ false) ⊎ (i ≡ Load Word 0 0 (pos 0))
  pub wide : (i : Instr) → fits i ≡ false → encoded i ≡ Err 2
  pub all_0 : encoded (Load Word 0 0 (pos 0)) ≡ Err 2
