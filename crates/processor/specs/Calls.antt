-- The calls on a machine: what each answers, and what it leaves. Refusals are by number, each leaving all as it was. Assumes nothing.
use Rattle.std.specs.Prelude.{ℕ, ◌-◌, Bool, true, false, cond, ◌||◌, List, [], ◌∷◌, ◌++◌, take, drop, ◌==◌, nat_le, nat_lt}
use Rattle.memory.specs.Stores.{Store}
use Rattle.alu.specs.FlagBits.{flag_bits}
use Rattle.processor.specs.declared.state.RegSet.{RegSet}
use Rattle.processor.specs.declared.event.Space.TheVariants.{Code, Data}
use Rattle.processor.specs.Queues.{has_room}
use Rattle.processor.specs.declared.state.State.{State}
use Rattle.processor.specs.State.{set_count, set_at, with_control, with_waiting, with_input, with_output}
use Rattle.processor.specs.Registers.{reg}
use Rattle.processor.specs.Access.{word_in}
use Rattle.processor.specs.Runs.{Machine, Made, Report, runs}
use Rattle.processor.specs.Steps.{fired}

-- drain by the room in the caller's buffer
pub data Call : Type 0 where
  run : ℕ → Call
  raise : Call
  feed : List ℕ → Call
  drain : ℕ → Call
  look : ℕ → ℕ → Call

-- drained by the bytes that are moved to the front of the buffer
pub data Answer : Type 0 where
  refused : ℕ → Answer
  ran : Report → Answer
  done : Answer
  drained : List ℕ → Answer
  item : ℕ → Answer

-- answer, machine afterwards, and the steps made
pub record Reply : Type 0 where
  pub answer : Answer
  pub after : Machine
  pub trail : List Made

abbrev pub replies : Answer → Machine → Reply
replies a m = record { answer = a; after = m; trail = [] }

abbrev pub with : Machine → State → Machine
with m c = record { state = c; store = m.store }

-- the largest budget of one run
abbrev pub most_steps : ℕ
most_steps = 1000000

-- a budget too large: 5; halted: 6
abbrev pub run_reply : Bool → Bool → ℕ → Machine → Reply
run_reply true h n m = replies (refused 5) m
run_reply false true n m = replies (refused 6) m
run_reply false false n m = record { answer = ran (runs n m).report; after = (runs n m).machine; trail = (runs n m).trail }

-- halted: 6; an interrupt waits already: 7
abbrev pub raise_reply : Bool → Bool → Machine → Reply
raise_reply true w m = replies (refused 6) m
raise_reply false true m = replies (refused 7) m
raise_reply false false m = replies done (with m (with_control m.state (with_waiting m.state.control true)))

-- more bytes than can wait: 8, and none is appended
abbrev pub feed_reply : Bool → List ℕ → Machine → Reply
feed_reply false bs m = replies (refused 8) m
feed_reply true bs m = replies done (with m (with_input m.state (m.state.input ++ bs)))

-- item i of a set: 0 to 7 registers, 8 LINK, 9 flags, 10 to 25 code map, 26 to 41 data map
abbrev pub last_item : ℕ
last_item = 41

abbrev pub item_of : RegSet → ℕ → ℕ
item_of r i =
    cond (nat_le i 7) (reg r.file i)
    (cond (i == 8) r.file.link
    (cond (i == 9) (flag_bits r.file.flags)
    (cond (nat_le i 25) (word_in r.maps Code (i - 10)) (word_in r.maps Data (i - 26)))))

-- no such set or item: 9
abbrev pub look_reply : Bool → ℕ → ℕ → Machine → Reply
look_reply true n i m = replies (refused 9) m
look_reply false n i m = replies (item (item_of (set_at m.state n) i)) m

abbrev pub reply : Call → Machine → Reply
reply (run n) m = run_reply (nat_lt most_steps n) m.state.control.halted n m
reply raise m = raise_reply m.state.control.halted m.state.control.waiting m
reply (feed bs) m = feed_reply (has_room m.state.input bs) bs m
reply (drain n) m = replies (drained (take n m.state.output)) (with m (with_output m.state (drop n m.state.output)))
reply (look n i) m = look_reply (nat_le set_count n || nat_lt last_item i) n i m

-- Lists of calls

-- the steps that a list of calls makes, in order
unfoldable pub history : List Call → Machine → List Made
history [] m = []
history (c ∷ cs) m = (reply c m).trail ++ history cs (reply c m).after

-- the machine after a list of calls
unfoldable pub final : List Call → Machine → Machine
final [] m = m
final (c ∷ cs) m = final cs (reply c m).after

-- a machine that is just fired over a memory
abbrev pub fired_over : Store → Machine
fired_over s = record { state = fired; store = s }
