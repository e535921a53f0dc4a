use Rattle.std.proofs.Common.{◌≡◌}
use Rattle.memory.proofs.Filling.{filled_to}
use Rattle.memory.proofs.page.load.Given as goal

-- a loop's invariant is not found, but written
abbrev pub invariant-loop-offset : goal.invariant-loop-offset
invariant-loop-offset g l = g.M.Memory.model l.m ≡ filled_to l.offset (g.M.Memory.model l.initial.m) l.page l.bytes
