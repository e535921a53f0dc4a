-- Stores made of a list of bytes: a byte put into the list, one page of it, and the list that a store tells.
use Rattle.std.proofs.Common.{◌≡◌, ℕ, ◌+◌, ◌*◌, ◌/◌, ◌%◌, ◌<◌, ◌≤◌, true, cond, ◌&&◌, ltb, List, ◌++◌, length, get_or, take, drop, set, sym, ap, ◌∙◌, arith, length-drop, length-set, length-take}
use Rattle.std.specs.Int.{to_le_bytes, w16}
use Rattle.std.proofs.lemmas.Bool.Decides.{nat_tests}
use Rattle.std.proofs.lemmas.List.{get_or-set_same, get_or-set_other, get_or-take, ext_get_or, take-append-drop, drop-set-lt}
use Rattle.memory.specs.Stores.{Store, tail, even, writable, put_byte, put_word, word_written}
use Rattle.memory.specs.Bytes.{bytes_store, bytes_after, pages_in, BytesTold}
use Rattle.memory.proofs.Equal.{equal_stores}

pub byte_put : (k : ℕ) (xs : List ℕ) (a v : ℕ) → a < 4096 * pages_in (length xs) → bytes_store k (set xs a v) ≡ put_byte (bytes_store k xs) a v
byte_put k xs a v h =
    let n = 4096 * pages_in (length xs) in
    equal_stores
    (λ p. simp length-set)
    (λ x. simp length-set (grind (arith, nat_tests, get_or-set_same, get_or-set_other)))
    (simp length-set (ap tail (drop-set-lt n xs a v h)))

-- the two bytes of a word put into the list
pub word_put : (xs bs : List ℕ) (a v : ℕ) → a % 2 ≡ 0 → a / 4096 < pages_in (length xs) → v < 65536 → bs ≡ to_le_bytes w16 v → bytes_store 2 (set (set xs a (get_or bs 0 0)) (a + 1) (get_or bs 1 0)) ≡ word_written (bytes_store 2 xs) a v
word_put xs bs a v e h f b =
    let low : get_or bs 0 0 ≡ v % 256 = rw b (omega arith) in
    let high : get_or bs 1 0 ≡ v / 256 = rw b (omega arith) in
    let accepted : (even a && writable (bytes_store 2 xs) a) ≡ true = grind (arith, nat_tests) in
    byte_put 2 (set xs a (get_or bs 0 0)) (a + 1) (get_or bs 1 0) (simp length-set (omega arith))
    ∙ (λ i. put_byte (byte_put 2 xs a (low i) (omega arith) i) (a + 1) (high i))
    ∙ sym (ap (λ b. cond b (put_word (bytes_store 2 xs) a v) (bytes_store 2 xs)) accepted)

-- equal stores of present bytes have equal numbers of pages
same_pages : (k m n : ℕ) → 0 < k → ((p : ℕ) → cond (ltb p m) k 0 ≡ cond (ltb p n) k 0) → m ≡ n
same_pages k m n h e = let l = e m in let r = e n in grind (arith, nat_tests, l, r)

-- lists that agree below n and from n on are equal
same_pieces : (n : ℕ) (xs ys : List ℕ) → n ≤ length xs → n ≤ length ys → ((a : ℕ) → a < n → get_or xs a 0 ≡ get_or ys a 0) → drop n xs ≡ drop n ys → xs ≡ ys
same_pieces n xs ys hx hy low high =
    let front : take n xs ≡ take n ys =
    ext_get_or 0 (take n xs) (take n ys) (simp length-take (omega arith))
    (λ a l. let h : a < n = omega (arith, simp length-take at l) in get_or-take n xs a 0 h ∙ low a h ∙ sym (get_or-take n ys a 0 h)) in
    sym (take-append-drop n xs) ∙ (λ i. front i ++ high i) ∙ take-append-drop n ys

-- equal kinds and rests of stores: as many bytes, and the same after the whole pages
pub same_after : (k : ℕ) (xs ys : List ℕ) → 0 < k → ((p : ℕ) → (bytes_store k xs).kinds p ≡ (bytes_store k ys).kinds p) → (bytes_store k xs).rest ≡ (bytes_store k ys).rest → (length xs ≡ length ys) × (bytes_after xs ≡ bytes_after ys)
same_after k xs ys h kinds rest =
    let pages = same_pages k (pages_in (length xs)) (pages_in (length ys)) h kinds in
    let after : bytes_after xs ≡ bytes_after ys = cc in
    let x = length-drop (4096 * pages_in (length xs)) xs in
    let y = length-drop (4096 * pages_in (length ys)) ys in
    let n : length (bytes_after xs) ≡ length (bytes_after ys) = ap length after in
    (omega arith, after)

-- a store tells the bytes that it is made of, also those after the whole pages
pub same_bytes : (k : ℕ) (xs ys : List ℕ) → 0 < k → bytes_store k xs ≡ bytes_store k ys → xs ≡ ys
same_bytes k xs ys h e =
    let same = same_after k xs ys h (λ p. ap (λ (s : Store). s.kinds p) e) (ap (λ (s : Store). s.rest) e) in
    let n = 4096 * pages_in (length xs) in
    let low : (a : ℕ) → a < n → get_or xs a 0 ≡ get_or ys a 0 = λ a l. (let c = ap (λ (s : Store). s.cells a) e in let m = same.0 in grind (arith, nat_tests, c, m)) in
    let high : drop n xs ≡ drop n ys = same.1 ∙ ap (λ m. drop (4096 * pages_in m) ys) (sym same.0) in
    same_pieces n xs ys (omega arith) (let m = same.0 in omega arith) low high

pub bytes_told : (k : ℕ) (ys : List ℕ) → 0 < k → BytesTold k ys
bytes_told k ys h = record { told = λ xs e. same_bytes k xs ys h e; kept = λ xs e r. same_after k xs ys h e r }
