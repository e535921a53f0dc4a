-- Filling one page, and its first illegal word. Assumes nothing.
use Rattle.std.specs.Prelude.{◌≡◌, ℕ, ◌+◌, ◌*◌, ◌/◌, ◌%◌, ◌<◌, Bool, true, false, cond, List, length, is_err, Some, None, Ok, Err, Option, Result, ◌==◌, ◌≢◌, slice_index}
use Rattle.isa.specs.Words.{decoded}
use Rattle.memory.specs.Stores.{Store, word_value}

-- page p holds the bytes xs, all else as before
abbrev pub filled : Store → ℕ → List ℕ → Store
filled s p xs = record {
  kinds = s.kinds;
  cells = λ a. cond (a / 4096 == p) (slice_index xs (a % 4096)) (s.cells a);
  rest = s.rest;
}

-- answer and store after a call that loads xs into page p: refused with 3 if xs is not one page, with 4 if page p is not writable
abbrev pub loaded : Store → ℕ → List ℕ → Result (Unit {0}) ℕ × Store
loaded s p xs = cond (length xs == 4096) (cond (s.kinds p == 2) (Ok tt, filled s p xs) (Err 4, s)) (Err 3, s)

-- the word w is none of the instructions
unfoldable pub illegal : ℕ → Bool
illegal w = is_err (decoded w)

-- the word at offset o of page p is illegal
abbrev pub illegal_at : Store → ℕ → ℕ → Bool
illegal_at s p o = illegal (word_value s (4096 * p + o))

-- every word of page p below offset n is legal
abbrev pub LegalBelow : Store → ℕ → ℕ → Type 0
LegalBelow s p n = (o : ℕ) → o < n → o % 2 ≡ 0 → illegal_at s p o ≡ false

-- r is the offset of the first illegal word of page p, or none if there is none
abbrev pub FirstIllegal : Store → ℕ → Option ℕ → Type 0
FirstIllegal s p None = LegalBelow s p 4096
FirstIllegal s p (Some o) = (o < 4096) × (o % 2 ≡ 0) × (illegal_at s p o ≡ true) × LegalBelow s p o

-- r is the answer to a call that proofreads page p: refused with 4 if the page is absent
abbrev pub Proofread : Store → ℕ → Result (Option ℕ) ℕ → Type 0
Proofread s p (Ok r) = (s.kinds p ≢ 0) × FirstIllegal s p r
Proofread s p (Err e) = (s.kinds p ≡ 0) × (e ≡ 4)
