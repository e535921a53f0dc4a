-- The number of each kind of page. Assumes nothing.
use Rattle.std.specs.Prelude.{ℕ}
use Rattle.memory.specs.declared.kind.Kind.{Kind}
use Rattle.memory.specs.declared.kind.Kind.TheVariants.{Absent, Fixed, Writable}

abbrev pub kind_number : Kind → ℕ
kind_number Absent = 0
kind_number Fixed = 1
kind_number Writable = 2
