-- The worked example of the map. Assumes nothing.
use Rattle.std.specs.Prelude.{◌≡◌, Ok, Err, ◌≢◌}
use Rattle.memory.specs.Stores.{Store}
use Rattle.processor.specs.declared.state.Maps.{Maps}
use Rattle.processor.specs.declared.access.Purpose.TheVariants.{DataLoad, DataStore}
use Rattle.processor.specs.declared.event.Cause.TheVariants.{Map}
use Rattle.processor.specs.declared.event.Space.TheVariants.{Data}
use Rattle.processor.specs.Access.{word_in, check}
use Rattle.processor.specs.Actions.{word_of}
use Rattle.processor.specs.Numbers.{cause_number}

-- data map word 3 holds 0x0125: it takes address 0x3004 to 0x012004, and a store there faults with cause 2
pub record MapExample (s : Store) (m : Maps) : Type 0 where
  pub loads : (s.kinds 0x12 ≢ 0) → check s m (word_of DataLoad 0x3004) ≡ Ok 0x012004
  pub stores : check s m (word_of DataStore 0x3004) ≡ Err Map
  pub cause : cause_number Map ≡ 2

-- over any memory, of any map
abbrev pub MapExamples : Type 0
MapExamples = (s : Store) (m : Maps) → word_in m Data 3 ≡ 0x0125 → MapExample s m
