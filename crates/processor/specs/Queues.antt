-- The bytes that wait in a console queue, the oldest first. Assumes nothing.
use Rattle.std.specs.Prelude.{ℕ, ◌+◌, Bool, cond, List, [], ◌∷◌, ◌++◌, length, Some, None, Option, nat_le, nat_lt}

-- how many bytes can wait
abbrev pub queue_size : ℕ
queue_size = 256

abbrev pub oldest : List ℕ → Option ℕ
oldest [] = None
oldest (b ∷ bs) = Some b

-- all of cs can wait besides bs
abbrev pub has_room : List ℕ → List ℕ → Bool
has_room bs cs = nat_le (length bs + length cs) queue_size

-- all of cs at the end if they fit, else none
abbrev pub with_all : List ℕ → List ℕ → List ℕ
with_all bs cs = cond (has_room bs cs) (bs ++ cs) bs

-- a byte more at the end; a full queue takes none
abbrev pub appended : List ℕ → ℕ → List ℕ
appended bs b = cond (nat_lt (length bs) queue_size) (bs ++ (b ∷ [])) bs
