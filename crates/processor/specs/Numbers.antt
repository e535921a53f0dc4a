-- Causes, modes and spaces as numbers. Assumes nothing.
use Rattle.std.specs.Prelude.{ℕ, ◌+◌}
use Rattle.processor.specs.declared.event.Cause.{Cause}
use Rattle.processor.specs.declared.event.Cause.TheVariants.{Illegal, Map, Odd, Trace, Interrupt, Page, Call}
use Rattle.processor.specs.declared.event.Space.{Space}
use Rattle.processor.specs.declared.event.Space.TheVariants.{Code, Data}
use Rattle.processor.specs.declared.state.Mode.{Mode}
use Rattle.processor.specs.declared.state.Mode.TheVariants.{User, Kernel}

abbrev pub cause_number : Cause → ℕ
cause_number Illegal = 1
cause_number Map = 2
cause_number Odd = 3
cause_number Trace = 4
cause_number Interrupt = 5
cause_number Page = 6
cause_number (Call n) = 8 + n

abbrev pub mode_number : Mode → ℕ
mode_number User = 0
mode_number Kernel = 1

abbrev pub space_number : Space → ℕ
space_number Code = 0
space_number Data = 1
