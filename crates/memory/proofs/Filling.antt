-- A page that is filled byte by byte.
use Rattle.std.proofs.Common.{ℕ, ◌/◌, ◌%◌, cond, ◌&&◌, eqb, ltb, List, get_or}
use Rattle.memory.specs.Stores.{Store}

-- the first n bytes of page p are those of xs, all else as before
abbrev pub filled_to : ℕ → Store → ℕ → List ℕ → Store
filled_to n s p xs = record {
  kinds = s.kinds;
  cells = λ a. cond (eqb (a / 4096) p && ltb (a % 4096) n) (get_or xs (a % 4096) 0) (s.cells a);
  rest = s.rest;
}
