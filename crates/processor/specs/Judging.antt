-- What a step will be, in the order of the rules: the interrupt; the fetch; an illegal word, a privileged instruction, a special
-- register out of reach; the access; a value for CONTEXT; a full output. Each definition takes what it may depend on. Assumes nothing.
use Rattle.std.specs.Prelude.{ℕ, Bool, true, false, ◌&&◌, length, Some, None, Ok, Err, Option, Result, nat_le}
use Rattle.isa.specs.Words.{decoded}
use Rattle.isa.specs.declared.instr.Instr.{Instr}
use Rattle.memory.specs.Stores.{Store}
use Rattle.processor.specs.declared.state.Mode.{Mode}
use Rattle.processor.specs.declared.state.Maps.{Maps}
use Rattle.processor.specs.declared.state.RegSet.{RegSet}
use Rattle.processor.specs.declared.event.Cause.{Cause}
use Rattle.processor.specs.declared.event.Cause.TheVariants.{Illegal}
use Rattle.processor.specs.declared.event.Space.{Space}
use Rattle.processor.specs.declared.event.Space.TheVariants.{Code}
use Rattle.processor.specs.declared.access.Purpose.TheVariants.{Fetch}
use Rattle.processor.specs.declared.access.Request.{Request}
use Rattle.processor.specs.declared.access.Found.{Found}
use Rattle.processor.specs.declared.action.Action.{Action}
use Rattle.processor.specs.declared.action.SpecialWrite.{SpecialWrite}
use Rattle.processor.specs.declared.judge.Verdict.{Verdict}
use Rattle.processor.specs.declared.judge.Verdict.TheVariants.{Interrupt, Fault, Full, Go}
use Rattle.processor.specs.Queues.{queue_size}
use Rattle.processor.specs.declared.state.State.{State}
use Rattle.processor.specs.State.{own}
use Rattle.processor.specs.Access.{space_of, accessed}
use Rattle.processor.specs.Special.{register, accepts, prints}
use Rattle.processor.specs.Actions.{legal, asks, writes, word_of}
use Rattle.processor.specs.Plans.{planned}

abbrev pub fault : Cause → ℕ → Space → Verdict
fault c a x = Fault (record { cause = c; address = a; space = x })

-- cause 1 has PC for its address
abbrev pub illegal_at : ℕ → Verdict
illegal_at pc = fault Illegal pc Code

abbrev pub nothing_found : Found
nothing_found = record { at = 0; value = 0 }

-- is the value accepted? is the output full?
abbrev pub suited : Bool → Bool → ℕ → Action → Found → Verdict
suited false full pc act d = illegal_at pc
suited true true pc act d = Full
suited true false pc act d = Go act d

abbrev pub written : Mode → ℕ → Bool → Action → Found → Option SpecialWrite → Verdict
written k pc full act d None = Go act d
written k pc full act d (Some w) = suited (accepts (register k w.number) w.value) (prints (register k w.number) && full) pc act d

-- the access is granted, and has found d
abbrev pub admitted : Mode → ℕ → Bool → Action → Found → Verdict
admitted k pc full act d = written k pc full act d (writes act d)

-- a fault's address and space are those of the access
abbrev pub answered : Mode → ℕ → Bool → Action → Request → Result Found Cause → Verdict
answered k pc full act q (Ok d) = admitted k pc full act d
answered k pc full act q (Err c) = fault c q.address (space_of q.purpose)

abbrev pub reached : Mode → Maps → ℕ → Bool → Store → Action → Option Request → Verdict
reached k m pc full s act None = admitted k pc full act nothing_found
reached k m pc full s act (Some q) = answered k pc full act q (accessed s m q)

abbrev pub permitted : Bool → ℕ → Verdict → Verdict
permitted false pc v = illegal_at pc
permitted true pc v = v

abbrev pub judged : Mode → Maps → ℕ → Bool → Store → Action → Verdict
judged k m pc full s act = permitted (legal k act) pc (reached k m pc full s act (asks act))

-- the instruction of a word, if it is one
abbrev pub or_none : Result Instr ℕ → Option Instr
or_none (Ok i) = Some i
or_none (Err e) = None

unfoldable pub instr_of : ℕ → Option Instr
instr_of w = or_none (decoded w)

abbrev pub decoded_as : Mode → RegSet → ℕ → Bool → Store → Option Instr → Verdict
decoded_as k r pc full s None = illegal_at pc
decoded_as k r pc full s (Some i) = judged k r.maps pc full s (planned i r.file pc)

abbrev pub fetched : Mode → RegSet → ℕ → Bool → Store → Result Found Cause → Verdict
fetched k r pc full s (Ok d) = decoded_as k r pc full s (instr_of d.value)
fetched k r pc full s (Err c) = fault c pc Code

-- by mode, the mode's set, PC, whether an interrupt is taken, whether the output is full, and memory
abbrev pub verdict : Mode → RegSet → ℕ → Bool → Bool → Store → Verdict
verdict k r pc true full s = Interrupt
verdict k r pc false full s = fetched k r pc full s (accessed s r.maps (word_of Fetch pc))

-- The same, by the state

abbrev pub output_full : State → Bool
output_full c = nat_le queue_size (length c.output)

abbrev pub admitted_in : State → Action → Found → Verdict
admitted_in c act d = admitted c.control.mode c.control.pc (output_full c) act d

abbrev pub judged_in : State → Store → Action → Verdict
judged_in c s act = judged c.control.mode (own c).maps c.control.pc (output_full c) s act

abbrev pub fetched_in : State → Store → Verdict
fetched_in c s = fetched c.control.mode (own c) c.control.pc (output_full c) s (accessed s (own c).maps (word_of Fetch c.control.pc))

-- what the next step will be
abbrev pub verdict_of : State → Store → Verdict
verdict_of c s = verdict c.control.mode (own c) c.control.pc (c.control.waiting && c.control.ie) (output_full c) s
