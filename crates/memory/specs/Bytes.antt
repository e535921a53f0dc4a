-- What a memory made of bytes holds. Assumes nothing.
use Rattle.std.specs.Prelude.{◌≡◌, ℕ, ◌*◌, ◌/◌, min, cond, List, length, drop, nat_lt, slice_index}
use Rattle.memory.specs.Stores.{Store, tail}

-- the whole pages among n bytes, at most 4,096
abbrev pub pages_in : ℕ → ℕ
pages_in n = min (n / 4096) 4096

-- the bytes after the whole pages
abbrev pub bytes_after : List ℕ → List ℕ
bytes_after xs = drop (4096 * pages_in (length xs)) xs

-- the whole pages of xs, all of kind k, and the bytes after them
abbrev pub bytes_store : ℕ → List ℕ → Store
bytes_store k xs = record {
  kinds = λ p. cond (nat_lt p (pages_in (length xs))) k 0;
  cells = λ a. cond (nat_lt a (4096 * pages_in (length xs))) (slice_index xs a) 0;
  rest = tail (bytes_after xs);
}

-- what a flat memory of the bytes xs holds
abbrev pub flat_store : List ℕ → Store
flat_store xs = bytes_store 2 xs

-- what a store tells of the bytes that it is made of
pub record BytesTold (k : ℕ) (ys : List ℕ) : Type 0 where
  -- no other bytes make this store
  pub told : (xs : List ℕ) → bytes_store k xs ≡ bytes_store k ys → xs ≡ ys
  -- where kinds and rest stay, as they do under every write, the bytes stay as many, and those after the whole pages the same
  pub kept : (xs : List ℕ) → ((p : ℕ) → (bytes_store k xs).kinds p ≡ (bytes_store k ys).kinds p) → (bytes_store k xs).rest ≡ (bytes_store k ys).rest → (length xs ≡ length ys) × (bytes_after xs ≡ bytes_after ys)
