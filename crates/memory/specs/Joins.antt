-- What two memories hold that are joined at page k. Assumes nothing.
use Rattle.std.specs.Prelude.{◌≡◌, ℕ, ◌-◌, ◌*◌, ◌<◌, ◌≤◌, min, cond, Some, None, Option, nat_lt}
use Rattle.memory.specs.Stores.{Store, parts, pages_from}
use Rattle.memory.specs.declared.joined.Joined.{Joined}
use Rattle.memory.specs.declared.joined.Part.{Part}
use Rattle.memory.specs.declared.joined.Part.TheVariants.{First, Second}

-- how many pages are the first's
abbrev pub first_pages : ℕ → ℕ
first_pages k = min k 4096

-- pages below k are those of s, and page p from k on is page p - k of t, up to page 4,095
abbrev pub joined_store : ℕ → Store → Store → Store
joined_store k s t = record {
  kinds = λ p. cond (nat_lt p 4096) (cond (nat_lt p k) (s.kinds p) (t.kinds (p - k))) 0;
  cells = λ a. cond (nat_lt a 16777216) (cond (nat_lt a (4096 * k)) (s.cells a) (t.cells (a - 4096 * k))) 0;
  rest = parts k (pages_from (first_pages k) s) s.rest (pages_from (4096 - first_pages k) t) t.rest;
}

-- the model of a join, by the models of its parts
abbrev pub join_model : {F S : Type 0} → (F → Store) → (S → Store) → Joined F S → Store
join_model f s m = joined_store m.boundary (f m.first) (s m.second)

-- the store of a join is that of no other page number and no other parts
pub record JoinTold (k : ℕ) (s t : Store) : Type 0 where
  pub boundary : (l : ℕ) (u v : Store) → joined_store l u v ≡ joined_store k s t → l ≡ k
  pub first : (l : ℕ) (u v : Store) → joined_store l u v ≡ joined_store k s t → u ≡ s
  pub second : (l : ℕ) (u v : Store) → joined_store l u v ≡ joined_store k s t → v ≡ t

-- the part that page p is in, if it has one, and where the second starts
abbrev pub InPart : ℕ → ℕ → Option Part → Type 0
InPart k p (Some First) = p < first_pages k
InPart k p (Some (Second start)) = (k ≤ p) × (p < 4096) × (start ≡ 4096 * k)
InPart k p None = 4096 ≤ p
