-- What a write keeps and what it changes, in words of the subject. Assumes nothing.
use Rattle.std.specs.Prelude.{◌≡◌, ℕ, ◌+◌, ◌*◌, ◌/◌, ◌%◌, ◌<◌, ◌≤◌, Bool, true, false, ◌⊎◌, List, length, ◌≢◌, slice_index}
use Rattle.memory.specs.Stores.{Store}

-- a call that writes n bytes at a, and tells whether it does, turns s into t
pub record Write (n a : ℕ) (s t : Store) (accepted : Bool) : Type 0 where
  -- a refused write changes nothing
  pub refused : accepted ≡ false → t ≡ s
  -- an accepted one goes to a writable page
  pub page : accepted ≡ true → s.kinds (a / 4096) ≡ 2
  -- and changes no byte but its own
  pub others : (x : ℕ) → (x < a) ⊎ (a + n ≤ x) → t.cells x ≡ s.cells x
  -- kinds never change
  pub kinds : (p : ℕ) → t.kinds p ≡ s.kinds p
  -- nor does what lies outside the pages
  pub rest : t.rest ≡ s.rest

-- byte v stands at a after an accepted write
pub record ByteWrite (a v : ℕ) (s t : Store) (accepted : Bool) : Type 0 where
  pub write : Write 1 a s t accepted
  pub byte : accepted ≡ true → t.cells a ≡ v

-- a is even and word v stands there after an accepted write, low byte first
pub record WordWrite (a v : ℕ) (s t : Store) (accepted : Bool) : Type 0 where
  pub write : Write 2 a s t accepted
  pub aligned : accepted ≡ true → a % 2 ≡ 0
  pub low : accepted ≡ true → t.cells a ≡ v % 256
  pub high : accepted ≡ true → t.cells (a + 1) ≡ v / 256

-- a call that loads the bytes xs into page p, and tells whether it does, turns s into t
pub record Load (p : ℕ) (xs : List ℕ) (s t : Store) (accepted : Bool) : Type 0 where
  -- a refused one changes nothing
  pub refused : accepted ≡ false → t ≡ s
  -- an accepted one is of 4,096 bytes for a writable page, which then stand there
  pub one_page : accepted ≡ true → length xs ≡ 4096
  pub page : accepted ≡ true → s.kinds p ≡ 2
  pub bytes : accepted ≡ true → (o : ℕ) → o < 4096 → t.cells (4096 * p + o) ≡ slice_index xs o
  -- no other page's bytes change
  pub others : (x : ℕ) → (x / 4096 ≢ p) → t.cells x ≡ s.cells x
  -- kinds never change, nor does what lies outside the pages
  pub kinds : (q : ℕ) → t.kinds q ≡ s.kinds q
  pub rest : t.rest ≡ s.rest
