-- What can be said of an action before it is carried out. Assumes nothing.
use Rattle.std.specs.Prelude.{ℕ, Bool, true, false, Some, None, Option}
use Rattle.isa.specs.declared.instr.Width.{Width}
use Rattle.isa.specs.declared.instr.Width.TheVariants.{Word}
use Rattle.processor.specs.declared.state.Mode.{Mode}
use Rattle.processor.specs.declared.state.Mode.TheVariants.{User, Kernel}
use Rattle.processor.specs.declared.access.Purpose.{Purpose}
use Rattle.processor.specs.declared.access.Purpose.TheVariants.{DataLoad, DataStore}
use Rattle.processor.specs.declared.access.Request.{Request}
use Rattle.processor.specs.declared.access.Found.{Found}
use Rattle.processor.specs.declared.action.Action.{Action}
use Rattle.processor.specs.declared.action.Action.TheVariants.{Settle, ReadMemory, WriteMemory, ReadSpecial, WriteSpecial, StoreSpecial, LoadSpecial, SystemCall, Break, Privilege}
use Rattle.processor.specs.declared.action.SpecialWrite.{SpecialWrite}
use Rattle.processor.specs.Special.{reaches}

abbrev pub is_kernel : Mode → Bool
is_kernel User = false
is_kernel Kernel = true

-- user mode has no privileged instructions, and each mode reaches some special registers only
abbrev pub legal : Mode → Action → Bool
legal k (Settle to v next x) = true
legal k (ReadMemory to q) = true
legal k (WriteMemory w a v) = true
legal k (ReadSpecial to n) = reaches k n
legal k (WriteSpecial n v) = reaches k n
legal k (StoreSpecial n a) = reaches k n
legal k (LoadSpecial n a) = reaches k n
legal k (SystemCall n) = true
legal k Break = true
legal k (Privilege op) = is_kernel k

abbrev pub request : Purpose → Width → ℕ → Request
request u w a = record { purpose = u; width = w; address = a }

abbrev pub word_of : Purpose → ℕ → Request
word_of u a = request u Word a

-- the access that an action makes, if any
abbrev pub asks : Action → Option Request
asks (Settle to v next x) = None
asks (ReadMemory to q) = Some q
asks (WriteMemory w a v) = Some (request DataStore w a)
asks (ReadSpecial to n) = None
asks (WriteSpecial n v) = None
asks (StoreSpecial n a) = Some (word_of DataStore a)
asks (LoadSpecial n a) = Some (word_of DataLoad a)
asks (SystemCall n) = None
asks Break = None
asks (Privilege op) = None

abbrev pub writing : ℕ → ℕ → Option SpecialWrite
writing n v = Some (record { number = n; value = v })

-- what it writes to a special register, if anything, where its access has found this
abbrev pub writes : Action → Found → Option SpecialWrite
writes (Settle to v next x) d = None
writes (ReadMemory to q) d = None
writes (WriteMemory w a v) d = None
writes (ReadSpecial to n) d = None
writes (WriteSpecial n v) d = writing n v
writes (StoreSpecial n a) d = None
writes (LoadSpecial n a) d = writing n d.value
writes (SystemCall n) d = None
writes Break d = None
writes (Privilege op) d = None
