use Rattle.std.proofs.Common.{◌≡◌, ◌≤◌, drop}
use Rattle.text.specs.Numbers.{value_on}
use Rattle.text.proofs.number.value_in.Given as goal

-- a loop's invariant is not found, but written
abbrev pub invariant-loop-character : goal.invariant-loop-character
invariant-loop-character l = (value_on l.base 0 l.digits ≡ value_on l.base l.value (drop l.character-index l.digits)) × (l.value ≤ 65535)
