-- What a memory holds, what is read of it, and what a write makes of it. Assumes nothing.
use Rattle.std.specs.Prelude.{ℕ, ◌+◌, ◌*◌, ◌/◌, ◌%◌, Bool, cond, not, ◌&&◌, List, Some, None, Option, ◌==◌}

-- the number of each page's kind, and the byte at each address; 0 where the page is absent
pub record Pages : Type 0 where
  pub kinds : ℕ → ℕ
  pub cells : ℕ → ℕ

-- what lies outside the pages: no call shows it or changes it
pub data Rest : Type 0 where
  -- of a memory made of bytes: those after its whole pages
  tail : List ℕ → Rest
  -- of two memories joined at page k: the pages of the first and of the second that the join leaves out, each with its own rest
  parts : ℕ → Pages → Rest → Pages → Rest → Rest

-- what a memory holds
pub record Store : Type 0 where
  pub kinds : ℕ → ℕ
  pub cells : ℕ → ℕ
  pub rest : Rest

-- the pages from page n on
abbrev pub pages_from : ℕ → Store → Pages
pages_from n s = record { kinds = λ p. s.kinds (n + p); cells = λ a. s.cells (4096 * n + a) }

abbrev pub even : ℕ → Bool
even a = a % 2 == 0

-- the page of address a is not absent
abbrev pub present : Store → ℕ → Bool
present s a = not (s.kinds (a / 4096) == 0)

-- the page of address a is writable
abbrev pub writable : Store → ℕ → Bool
writable s a = s.kinds (a / 4096) == 2

-- the two bytes at a as a number, low byte first
abbrev pub word_value : Store → ℕ → ℕ
word_value s a = s.cells a + 256 * s.cells (a + 1)

-- the word that is read at a: none if a is odd or its page is absent
abbrev pub word_at : Store → ℕ → Option ℕ
word_at s a = cond (even a && present s a) (Some (word_value s a)) None

-- byte v at address a, all else as before
abbrev pub put_byte : Store → ℕ → ℕ → Store
put_byte s a v = record { kinds = s.kinds; cells = λ x. cond (x == a) v (s.cells x); rest = s.rest }

-- the two bytes of word v at a and a + 1, low byte first
abbrev pub put_word : Store → ℕ → ℕ → Store
put_word s a v = put_byte (put_byte s a (v % 256)) (a + 1) (v / 256)

-- the store after a call that writes byte v at a: as before if the page is not writable
abbrev pub byte_written : Store → ℕ → ℕ → Store
byte_written s a v = cond (writable s a) (put_byte s a v) s

-- the store after a call that writes word v at a: as before if a is odd or its page is not writable
abbrev pub word_written : Store → ℕ → ℕ → Store
word_written s a v = cond (even a && writable s a) (put_word s a v) s
