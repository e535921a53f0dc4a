-- What a context sees, and what holds of every list of calls. Assumes nothing.
use Rattle.std.specs.Prelude.{◌≡◌, ℕ, ◌+◌, ◌*◌, ◌/◌, ◌%◌, Bool, true, false, cond, ◌||◌, ◌⊎◌, List, [], ◌∷◌, map, length, ◌==◌, ◌≢◌, All}
use Rattle.memory.specs.Stores.{Store}
use Rattle.processor.specs.declared.state.Maps.{Maps}
use Rattle.processor.specs.declared.state.Mode.TheVariants.{User}
use Rattle.processor.specs.declared.state.RegSet.{RegSet}
use Rattle.processor.specs.declared.access.Purpose.{Purpose}
use Rattle.processor.specs.declared.access.Purpose.TheVariants.{Fetch, CodeLoad, DataLoad, DataStore}
use Rattle.processor.specs.declared.event.Space.{Space}
use Rattle.processor.specs.declared.event.Space.TheVariants.{Code, Data}
use Rattle.processor.specs.declared.state.State.{State}
use Rattle.processor.specs.State.{set_count, set_at}
use Rattle.processor.specs.Access.{space_of, word_in, admits, page_of}
use Rattle.processor.specs.Steps.{Sound}
use Rattle.processor.specs.Runs.{Machine, Made, cause_met}
use Rattle.processor.specs.Calls.{Call, run, raise, feed, drain, look, Answer, refused, ran, done, drained, item, reply, history, final, fired_over}

-- What a context sees

-- the running context is set CONTEXT, also when an entry has led to the kernel
abbrev pub running : Machine → RegSet
running m = set_at m.state m.state.context

-- one of the map words admits page p for this purpose
pub record Opens (u : Purpose) (w : Maps) (p : ℕ) : Type 0 where
  pub at : ℕ
  pub admitting : admits u (word_in w (space_of u) at) ≡ true
  pub page : page_of (word_in w (space_of u) at) ≡ p

-- one of the map words admits page p for some purpose
pub record Visible (w : Maps) (p : ℕ) : Type 0 where
  pub purpose : Purpose
  pub opens : Opens purpose w p

-- two memories alike in the kinds and bytes of the pages that the map words admit; an absent page has no bytes
pub record SameSight (w : Maps) (s t : Store) : Type 0 where
  pub kinds : (p : ℕ) → Visible w p → s.kinds p ≡ t.kinds p
  pub bytes : (a : ℕ) → Visible w (a / 4096) → (s.kinds (a / 4096) ≢ 0) → s.cells a ≡ t.cells a

-- two machines alike in all that the running context sees: its set, though not the set's number, PC, T, the counter, the
-- waiting interrupt, and the pages that its map words admit
pub record Alike (m n : Machine) : Type 0 where
  pub set : running m ≡ running n
  pub pc : m.state.control.pc ≡ n.state.control.pc
  pub trace : m.state.control.trace ≡ n.state.control.trace
  pub counter : m.state.control.counter ≡ n.state.control.counter
  pub waiting : m.state.control.waiting ≡ n.state.control.waiting
  pub memory : SameSight (running m).maps m.store n.store

-- The same, page numbers apart

-- the map word admits some access of its space
abbrev pub admits_any : Space → ℕ → Bool
admits_any Code w = admits Fetch w || admits CodeLoad w
admits_any Data w = admits DataLoad w || admits DataStore w

-- in a map word that admits some access the page is changed; any other stays
abbrev pub moved : Space → (ℕ → ℕ) → ℕ → ℕ
moved x change w = cond (admits_any x w) (change (page_of w) * 16 + w % 16) w

abbrev pub moved_maps : (ℕ → ℕ) → Maps → Maps
moved_maps change w = record { codes = map (moved Code change) w.codes; datas = map (moved Data change) w.datas }

-- the same place in the changed page
abbrev pub shifted : (ℕ → ℕ) → ℕ → ℕ
shifted change a = change (a / 4096) * 4096 + a % 4096

pub record SightBut (change : ℕ → ℕ) (w : Maps) (s t : Store) : Type 0 where
  pub kinds : (p : ℕ) → Visible w p → s.kinds p ≡ t.kinds (change p)
  pub bytes : (a : ℕ) → Visible w (a / 4096) → (s.kinds (a / 4096) ≢ 0) → s.cells a ≡ t.cells (shifted change a)

-- alike in all that the running context sees but for a change of page numbers, one to one on the pages that it sees
pub record AlikeBut (change : ℕ → ℕ) (m n : Machine) : Type 0 where
  pub file : (running m).file ≡ (running n).file
  pub maps : moved_maps change (running m).maps ≡ (running n).maps
  pub one : (p q : ℕ) → Visible (running m).maps p → Visible (running m).maps q → change p ≡ change q → p ≡ q
  pub pc : m.state.control.pc ≡ n.state.control.pc
  pub trace : m.state.control.trace ≡ n.state.control.trace
  pub counter : m.state.control.counter ≡ n.state.control.counter
  pub waiting : m.state.control.waiting ≡ n.state.control.waiting
  pub memory : SightBut change (running m).maps m.store n.store

-- Machines and lists of calls

abbrev pub InUserMode : Machine → Type 0
InUserMode m = m.state.control.mode ≡ User

-- the states that a machine may start in
pub record Proper (c : State) : Type 0 where
  pub sets : length c.sets ≡ set_count
  pub sound : Sound c

-- a machine that a list of calls leaves of one that started
pub record Reached (m : Machine) : Type 0 where
  pub start : Machine
  pub proper : Proper start.state
  pub calls : List Call
  pub reaches : final calls start ≡ m

-- the answer reports an entry from user mode
abbrev pub reports_entry : Answer → Bool
reports_entry (refused n) = false
reports_entry (ran r) = r.reason == 1
reports_entry done = false
reports_entry (drained bs) = false
reports_entry (item n) = false

abbrev pub RunOrRaise : Call → Type 0
RunOrRaise (run n) = Unit {0}
RunOrRaise raise = Unit {0}
RunOrRaise (feed bs) = ⊥
RunOrRaise (drain n) = ⊥
RunOrRaise (look n i) = ⊥

-- after a reported entry IRR, ICR, IDR and ISR are alike, and nothing further is compared; before it the list goes on
abbrev pub Onward : Bool → Machine → Machine → Type 0 → Type 0
Onward true m n rest = m.state.control.entry ≡ n.state.control.entry
Onward false m n rest = rest

-- one call on two machines: the same answer, and the relation R between the two afterwards
pub record OneCall (R : Machine → Machine → Type 0) (c : Call) (m n : Machine) (rest : Type 0) : Type 0 where
  pub answers : (reply c m).answer ≡ (reply c n).answer
  pub alike : R (reply c m).after (reply c n).after
  pub onward : Onward (reports_entry (reply c m).answer) (reply c m).after (reply c n).after rest

-- a list of calls on two machines, up to and including the first that reports an entry
abbrev pub Together : (Machine → Machine → Type 0) → List Call → Machine → Machine → Type 0
Together R [] m n = Unit {0}
Together R (c ∷ cs) m n = OneCall R c m n (Together R cs (reply c m).after (reply c n).after)

-- The laws

-- same sight, same behaviour: machines in user mode that are alike in what the running context sees answer alike
abbrev pub SameBehaviour : Type 0
SameBehaviour =
    (m n : Machine) → Reached m → Reached n → InUserMode m → InUserMode n → Alike m n
    → (calls : List Call) → All RunOrRaise calls → Together Alike calls m n

-- the same for contexts whose pages have other numbers
abbrev pub MovedBehaviour : Type 0
MovedBehaviour =
    (m n : Machine) → Reached m → Reached n → InUserMode m → InUserMode n → (change : ℕ → ℕ) → AlikeBut change m n
    → (calls : List Call) → All RunOrRaise calls → Together (AlikeBut change) calls m n

-- no map word, other set, CONTEXT, console byte, or memory byte outside the pages that the data map admits for stores
pub record Confined (m n : Machine) : Type 0 where
  pub maps : (k : ℕ) → (set_at m.state k).maps ≡ (set_at n.state k).maps
  pub others : (k : ℕ) → (k ≢ m.state.context) → set_at m.state k ≡ set_at n.state k
  pub context : m.state.context ≡ n.state.context
  pub input : m.state.input ≡ n.state.input
  pub output : m.state.output ≡ n.state.output
  pub kinds : (p : ℕ) → m.store.kinds p ≡ n.store.kinds p
  pub bytes : (a : ℕ) → (Opens DataStore (running m).maps (a / 4096) → ⊥) → m.store.cells a ≡ n.store.cells a
  pub rest : m.store.rest ≡ n.store.rest

-- user code is confined: of every step that begins in user mode
abbrev pub Confinement : Type 0
Confinement =
    (start : Machine) → Proper start.state → (calls : List Call)
    → All (λ e. InUserMode e.before → Confined e.before e.after) (history calls start)

-- the control record may differ, and nothing else
pub record OnlyControl (m n : Machine) : Type 0 where
  pub sets : m.state.sets ≡ n.state.sets
  pub context : m.state.context ≡ n.state.context
  pub input : m.state.input ≡ n.state.input
  pub output : m.state.output ≡ n.state.output
  pub store : m.store ≡ n.store

-- the step meets cause 1, 2, 3 or 6
abbrev pub Faults : Made → Type 0
Faults e = (cause_met e.event ≡ 1) ⊎ ((cause_met e.event ≡ 2) ⊎ ((cause_met e.event ≡ 3) ⊎ (cause_met e.event ≡ 6)))

-- a fault is harmless, in either mode
abbrev pub Harmless : Type 0
Harmless =
    (start : Machine) → Proper start.state → (calls : List Call)
    → All (λ e. Faults e → OnlyControl e.before e.after) (history calls start)

pub record Isolation : Type 0 where
  pub starts : (s : Store) → Proper (fired_over s).state
  pub same : SameBehaviour
  pub same_moved : MovedBehaviour
  pub confined : Confinement
  pub harmless : Harmless
