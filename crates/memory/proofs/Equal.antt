-- Stores are equal where each kind, each cell and the rest are.
use Rattle.std.proofs.Common.{◌≡◌, ℕ}
use Rattle.memory.specs.Stores.{Store}

pub equal_stores : {s t : Store} → ((p : ℕ) → s.kinds p ≡ t.kinds p) → ((a : ℕ) → s.cells a ≡ t.cells a) → s.rest ≡ t.rest → s ≡ t
equal_stores k c r = λ i. record { kinds = λ p. k p i; cells = λ a. c a i; rest = r i }
