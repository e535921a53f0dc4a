-- The special registers: which number names which. Assumes nothing.
use Rattle.std.specs.Prelude.{ℕ, ◌-◌, Bool, true, false, cond, ◌&&◌, ◌==◌, nat_le, nat_lt}
use Rattle.processor.specs.declared.state.Mode.{Mode}
use Rattle.processor.specs.declared.state.Mode.TheVariants.{User, Kernel}
use Rattle.processor.specs.declared.event.Space.TheVariants.{Code, Data}
use Rattle.processor.specs.declared.special.EntryField.TheVariants.{Irr, Icr, Idr, Isr}
use Rattle.processor.specs.declared.special.Special.{Special}
use Rattle.processor.specs.declared.special.Special.TheVariants.{LinkRegister, FlagsRegister, CounterLow, CounterHigh, EntryRegister, ContextNumber, UserRegister, MapWord, ConsoleInput, ConsoleOutput, Unassigned}
use Rattle.processor.specs.Registers.{between}
use Rattle.processor.specs.State.{set_count}

-- the console's two numbers
abbrev pub input_number : ℕ
input_number = 96

abbrev pub output_number : ℕ
output_number = 97

-- the table
abbrev pub row : ℕ → Special
row n =
    cond (n == 0) LinkRegister
    (cond (n == 1) FlagsRegister
    (cond (n == 6) CounterLow
    (cond (n == 7) CounterHigh
    (cond (n == 8) (EntryRegister Irr)
    (cond (n == 9) (EntryRegister Icr)
    (cond (n == 10) (EntryRegister Idr)
    (cond (n == 11) (EntryRegister Isr)
    (cond (n == 15) ContextNumber
    (cond (between 17 23 n) (UserRegister (n - 16))
    (cond (between 32 47 n) (MapWord User Code (n - 32))
    (cond (between 48 63 n) (MapWord User Data (n - 48))
    (cond (between 64 79 n) (MapWord Kernel Code (n - 64))
    (cond (between 80 95 n) (MapWord Kernel Data (n - 80))
    (cond (n == input_number) ConsoleInput
    (cond (n == output_number) ConsoleOutput Unassigned)))))))))))))))

-- the highest number that an instruction may name
abbrev pub last_number : Mode → ℕ
last_number User = 7
last_number Kernel = 127

abbrev pub reaches : Mode → ℕ → Bool
reaches k n = nat_le n (last_number k)

-- what a number names in a mode; one out of reach names nothing
abbrev pub register : Mode → ℕ → Special
register k n = cond (reaches k n) (row n) Unassigned

-- the number of a user context: 1 to 15
abbrev pub is_context : ℕ → Bool
is_context v = nat_le 1 v && nat_lt v set_count

-- CONTEXT is given numbers of user contexts only
abbrev pub accepts : Special → ℕ → Bool
accepts LinkRegister v = true
accepts FlagsRegister v = true
accepts CounterLow v = true
accepts CounterHigh v = true
accepts (EntryRegister e) v = true
accepts ContextNumber v = is_context v
accepts (UserRegister r) v = true
accepts (MapWord k x i) v = true
accepts ConsoleInput v = true
accepts ConsoleOutput v = true
accepts Unassigned v = true

-- writing it puts a byte to the output
abbrev pub prints : Special → Bool
prints LinkRegister = false
prints FlagsRegister = false
prints CounterLow = false
prints CounterHigh = false
prints (EntryRegister e) = false
prints ContextNumber = false
prints (UserRegister r) = false
prints (MapWord k x i) = false
prints ConsoleInput = false
prints ConsoleOutput = true
prints Unassigned = false
