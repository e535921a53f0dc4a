-- The access check. Assumes nothing.
use Rattle.std.specs.Prelude.{ℕ, ◌+◌, ◌*◌, ◌/◌, ◌%◌, Bool, true, false, cond, not, List, Some, None, Ok, Err, Option, Result, ◌==◌, nat_lt, slice_index_or, slice_set}
use Rattle.isa.specs.declared.instr.Width.{Width}
use Rattle.isa.specs.declared.instr.Width.TheVariants.{Word, Byte}
use Rattle.alu.specs.Logic.{extended}
use Rattle.memory.specs.Stores.{Store, present, word_value, word_at}
use Rattle.processor.specs.declared.state.Maps.{Maps}
use Rattle.processor.specs.declared.event.Cause.{Cause}
use Rattle.processor.specs.declared.event.Cause.TheVariants.{Map, Odd, Page}
use Rattle.processor.specs.declared.event.Space.{Space}
use Rattle.processor.specs.declared.event.Space.TheVariants.{Code, Data}
use Rattle.processor.specs.declared.access.Purpose.{Purpose}
use Rattle.processor.specs.declared.access.Purpose.TheVariants.{Fetch, CodeLoad, DataLoad, DataStore}
use Rattle.processor.specs.declared.access.Request.{Request}
use Rattle.processor.specs.declared.access.Found.{Found}

-- Map words

abbrev pub words_of : Maps → Space → List ℕ
words_of m Code = m.codes
words_of m Data = m.datas

-- map word i; one that does not exist admits nothing, as 3 does
abbrev pub word_in : Maps → Space → ℕ → ℕ
word_in m x i = slice_index_or (words_of m x) i 3

abbrev pub with_word : Maps → Space → ℕ → ℕ → Maps
with_word m Code i w = record { codes = slice_set m.codes i w; datas = m.datas }
with_word m Data i w = record { codes = m.codes; datas = slice_set m.datas i w }

abbrev pub space_of : Purpose → Space
space_of Fetch = Code
space_of CodeLoad = Code
space_of DataLoad = Data
space_of DataStore = Data

-- address a goes by map word a / 4096 of its space
abbrev pub map_word : Maps → Purpose → ℕ → ℕ
map_word m u a = word_in m (space_of u) (a / 4096)

-- w % 4 is the permission: 0 admits everything, 1 all but stores, 2 and 3 nothing
abbrev pub admits : Purpose → ℕ → Bool
admits Fetch w = nat_lt (w % 4) 2
admits CodeLoad w = nat_lt (w % 4) 2
admits DataLoad w = nat_lt (w % 4) 2
admits DataStore w = w % 4 == 0

-- w / 16 is the page
abbrev pub page_of : ℕ → ℕ
page_of w = w / 16

abbrev pub physical : ℕ → ℕ → ℕ
physical w a = page_of w * 4096 + a % 4096

-- The check

-- a word at an odd address
abbrev pub odd : Width → ℕ → Bool
odd Word a = a % 2 == 1
odd Byte a = false

-- a page of kind k serves the access: stores want a writable one, all else one that is not absent
abbrev pub serves : Purpose → ℕ → Bool
serves Fetch k = not (k == 0)
serves CodeLoad k = not (k == 0)
serves DataLoad k = not (k == 0)
serves DataStore k = k == 2

-- in this order: is it odd, does the map admit it, does the page serve it; if nothing is amiss, the physical address p
abbrev pub in_order : Bool → Bool → Bool → ℕ → Result ℕ Cause
in_order true m k p = Err Odd
in_order false false k p = Err Map
in_order false true false p = Err Page
in_order false true true p = Ok p

abbrev pub check_by : Store → Request → ℕ → Result ℕ Cause
check_by s q w = in_order (odd q.width q.address) (admits q.purpose w) (serves q.purpose (s.kinds (page_of w))) (physical w q.address)

abbrev pub check : Store → Maps → Request → Result ℕ Cause
check s m q = check_by s q (map_word m q.purpose q.address)

-- What a load finds

abbrev pub byte_at : Store → ℕ → Option ℕ
byte_at s p = cond (present s p) (Some (s.cells p)) None

-- a word, or a byte with its sign extended
abbrev pub value_at : Store → Width → ℕ → ℕ
value_at s Word p = word_value s p
value_at s Byte p = (extended (s.cells p)).0

abbrev pub read_at : Store → Width → ℕ → Option ℕ
read_at s Word p = word_at s p
read_at s Byte p = cond (present s p) (Some (value_at s Byte p)) None

-- a store finds nothing
abbrev pub found_at : Store → Purpose → Width → ℕ → Found
found_at s Fetch w p = record { at = p; value = value_at s w p }
found_at s CodeLoad w p = record { at = p; value = value_at s w p }
found_at s DataLoad w p = record { at = p; value = value_at s w p }
found_at s DataStore w p = record { at = p; value = 0 }

abbrev pub granted : Store → Request → Result ℕ Cause → Result Found Cause
granted s q (Ok p) = Ok (found_at s q.purpose q.width p)
granted s q (Err c) = Err c

-- the check, with what a load finds
abbrev pub accessed : Store → Maps → Request → Result Found Cause
accessed s m q = granted s q (check s m q)
