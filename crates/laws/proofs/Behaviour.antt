-- Two machines alike in what the running context sees answer alike, and stay alike, up to the first reported entry. Assumes nothing.
use Rattle.std.proofs.Common.{◌≡◌, ℕ, zero, suc, ◌+◌, ◌/◌, ◌%◌, ◌<◌, Bool, true, false, cond, ◌&&◌, eqb, List, [], ◌∷◌, length, Ok, sym, refl, ap, ◌∙◌, subst, ap₂, arith, get_or-set_same}
use Rattle.std.specs.List.{All}
use Rattle.std.proofs.lemmas.List.Elements.{All-head, All-tail}
use Rattle.std.proofs.lemmas.Bool.{eqb-false}
use Rattle.std.proofs.lemmas.Bool.Decides.{nat_tests}
use Rattle.isa.specs.declared.instr.Width.{Width}
use Rattle.isa.specs.declared.instr.Width.TheVariants.{Word, Byte}
use Rattle.memory.specs.Stores.{Store, put_byte, even, writable}
use Rattle.processor.specs.declared.state.Mode.TheVariants.{User}
use Rattle.processor.specs.declared.state.Maps.{Maps}
use Rattle.processor.specs.declared.state.RegSet.{RegSet}
use Rattle.processor.specs.declared.state.Registers.{Registers}
use Rattle.processor.specs.declared.state.Control.{Control}
use Rattle.processor.specs.declared.state.EntryRecord.{EntryRecord}
use Rattle.processor.specs.declared.event.Trap.{Trap}
use Rattle.processor.specs.declared.event.Cause.TheVariants.{Trace, Interrupt as InterruptCause, Call as CallCause}
use Rattle.processor.specs.declared.event.Event.{Event}
use Rattle.processor.specs.declared.event.Event.TheVariants.{Went, Entered, Broke}
use Rattle.processor.specs.declared.access.Found.{Found}
use Rattle.processor.specs.declared.access.Purpose.TheVariants.{DataStore}
use Rattle.processor.specs.declared.action.Action.{Action}
use Rattle.processor.specs.declared.action.Action.TheVariants.{Settle, ReadMemory, WriteMemory, ReadSpecial, WriteSpecial, StoreSpecial, LoadSpecial, SystemCall, Break, Privilege}
use Rattle.processor.specs.declared.judge.Verdict.{Verdict}
use Rattle.processor.specs.declared.judge.Verdict.TheVariants.{Go}
use Rattle.processor.specs.declared.special.Special.{Special}
use Rattle.processor.specs.Numbers.{cause_number, space_number}
use Rattle.processor.specs.declared.state.State.{State}
use Rattle.processor.specs.State.{no_set, set_at, with_set, with_file, with_own_file, with_control, onward}
use Rattle.alu.specs.FlagBits.{flags_of}
use Rattle.processor.specs.Registers.{put, with_link, with_flags, settled}
use Rattle.processor.specs.Special.{register}
use Rattle.processor.specs.Rows.{consumed, written, reading}
use Rattle.processor.specs.Actions.{request, word_of}
use Rattle.processor.specs.Access.{accessed}
use Rattle.processor.specs.Plans.{next}
use Rattle.processor.specs.Carrying.{Outcome, outcome, counted, plain, entered_in, completed_in, completed, after, put_at, made, stepped}
use Rattle.processor.specs.Judging.{verdict, verdict_of, output_full}
use Rattle.processor.specs.Runs.{Machine, Made, Ran, report, after_step, made_by, more, resume, runs}
use Rattle.processor.specs.Calls.{Call, run, raise, feed, drain, look, Reply, reply}
use Rattle.laws.specs.Isolation.{Visible, SightBut, AlikeBut, moved_maps, shifted, InUserMode, Proper, Reached, reports_entry, RunOrRaise, Onward, Together, MovedBehaviour}
use Rattle.laws.proofs.Proper.{Live, step_sane, reply_proper, final_proper}
use Rattle.laws.proofs.Checks.{Passed, passed, led, shown_at, shown_after, reach_of}
use Rattle.laws.proofs.Users.{as_user, in_user, ForUser, user_register}
use Rattle.laws.proofs.Confine.{user_consumed, writable_at}
use Rattle.laws.proofs.Sight.{Twin, interrupts, faults, both_go, verdict_twin, shift, shift_next}

-- Memory after the same store

module _ (change : ℕ → ℕ) (w : Maps) (one : (p q : ℕ) → Visible w p → Visible w q → change p ≡ change q → p ≡ q) where
  same_place : (a p : ℕ) → Visible w (a / 4096) → Visible w (p / 4096) → eqb a p ≡ eqb (shifted change a) (shifted change p)
  same_place a p h k = let f = one (a / 4096) (p / 4096) h k in grind (arith, nat_tests)

  byte_alike : (s t : Store) (p v : ℕ) → Visible w (p / 4096) → SightBut change w s t → SightBut change w (put_byte s p v) (put_byte t (shifted change p) v)
  byte_alike s t p v k h = record { kinds = h.kinds; bytes = λ a o n. ap₂ (λ b x. cond b v x) (same_place a p o k) (h.bytes a o n) }

  -- a store that passed is accepted by memory
  word_accepted : (s : Store) (m : Maps) (a p : ℕ) → Passed s m (word_of DataStore a) p → (even p && writable s p) ≡ true
  word_accepted s m a p h =
      let e = writable_at s m Word a p h in
      let ne : a % 2 ≡ 1 → ⊥ = eqb-false (a % 2) 1 h.even in
      let g = h.at in
      let z : p % 2 ≡ 0 = omega arith in
      grind (arith, nat_tests)

  byte_accepted : (s : Store) (m : Maps) (a p : ℕ) → Passed s m (request DataStore Byte a) p → writable s p ≡ true
  byte_accepted s m a p h = let e = writable_at s m Byte a p h in grind (arith, nat_tests)

  put_alike : (s t : Store) (x : Width) (a p r v : ℕ) → SightBut change w s t → Passed s w (request DataStore x a) p → Passed t (moved_maps change w) (request DataStore x a) r
      → SightBut change w (put_at s x p v) (put_at t x r v)
  put_alike s t Word a p r v h e f =
      let i : Visible w (p / 4096) = record { purpose = DataStore; opens = (shown_at s w (word_of DataStore a) p e).0 } in
      let j : Visible w ((p + 1) / 4096) = record { purpose = DataStore; opens = (shown_after s w DataStore a p e).0 } in
      let low = byte_alike s t p (v % 256) i h in
      let both = byte_alike (put_byte s p (v % 256)) (put_byte t (shifted change p) (v % 256)) (p + 1) (v / 256) j low in
      let k = shift change w s t h (word_of DataStore a) p r e f in
      let l = shift_next change w s t h DataStore a p r e f in
      let x = word_accepted s w a p e in
      let y = word_accepted t (moved_maps change w) a r f in
      grind arith
  put_alike s t Byte a p r v h e f =
      let i : Visible w (p / 4096) = record { purpose = DataStore; opens = (shown_at s w (request DataStore Byte a) p e).0 } in
      let low = byte_alike s t p (v % 256) i h in
      let k = shift change w s t h (request DataStore Byte a) p r e f in
      let x = byte_accepted s w a p e in
      let y = byte_accepted t (moved_maps change w) a r f in
      grind arith

  -- where both accesses are granted, at what each has found
  store_alike : (s t : Store) (x : Width) (a v : ℕ) (d e : Found) → SightBut change w s t → accessed s w (request DataStore x a) ≡ Ok d → accessed t (moved_maps change w) (request DataStore x a) ≡ Ok e
      → SightBut change w (put_at s x d.at v) (put_at t x e.at v)
  store_alike s t x a v d e h i j =
      let l = led s w (request DataStore x a) d i in
      let k = led t (moved_maps change w) (request DataStore x a) e j in
      let both = put_alike s t x a l.place k.place v h (passed s w (request DataStore x a) l.place l.passes) (passed t (moved_maps change w) (request DataStore x a) k.place k.passes) in
      grind arith

-- what is compared further may be weakened
pub onward_weaker : (b : Bool) (m n : Machine) (A B : Type 0) → (A → B) → Onward b m n A → Onward b m n B
onward_weaker true m n A B f x = x
onward_weaker false m n A B f x = f x

abbrev mach : State → Store → Machine
mach c s = record { state = c; store = s }

-- the context's set with another register file
abbrev filed : State → Registers → State
filed c f = with_set c c.context (with_file (set_at c c.context) f)

module _ (change : ℕ → ℕ) where
  -- Steps

  -- the running sets of two states, page numbers apart
  record SetsTwin (c d : State) : Type 0 where
    file : (set_at c c.context).file ≡ (set_at d d.context).file
    maps : moved_maps change (set_at c c.context).maps ≡ (set_at d d.context).maps
    one : (p q : ℕ) → Visible (set_at c c.context).maps p → Visible (set_at c c.context).maps q → change p ≡ change q → p ≡ q

  abbrev Sights : State → Store → Store → Type 0
  Sights c s t = SightBut change (set_at c c.context).maps s t

  alike_of : (c d : State) (t u : Control) (r s : Store) → SetsTwin c d → Sights c r s
      → t.pc ≡ u.pc → t.trace ≡ u.trace → t.counter ≡ u.counter → t.waiting ≡ u.waiting
      → AlikeBut change (mach (with_control c t) r) (mach (with_control d u) s)
  alike_of c d t u r s h m p tr co wa =
      record { file = h.file; maps = h.maps; one = h.one; pc = p; trace = tr; counter = co; waiting = wa; memory = m }

  running_filed : (c : State) (f : Registers) → c.context < length c.sets → set_at (filed c f) c.context ≡ with_file (set_at c c.context) f
  running_filed c f h = get_or-set_same c.sets c.context (with_file (set_at c c.context) f) no_set h

  filed_twin : (c d : State) (f g : Registers) → c.context < length c.sets → d.context < length d.sets → SetsTwin c d → f ≡ g → SetsTwin (filed c f) (filed d g)
  filed_twin c d f g h k e q =
      let x = running_filed c f h in
      let y = running_filed d g k in
      record {
        file = ap (λ (r : RegSet). r.file) x ∙ (q ∙ sym (ap (λ (r : RegSet). r.file) y));
        maps = ap (λ (r : RegSet). moved_maps change r.maps) x ∙ (e.maps ∙ sym (ap (λ (r : RegSet). r.maps) y));
        one = subst (λ (r : RegSet). (p q : ℕ) → Visible r.maps p → Visible r.maps q → change p ≡ change q → p ≡ q) (sym x) e.one;
      }

  filed_sight : (c : State) (f : Registers) (s t : Store) → c.context < length c.sets → Sights c s t → Sights (filed c f) s t
  filed_sight c f s t h m = subst (λ (r : RegSet). SightBut change r.maps s t) (sym (running_filed c f h)) m

  -- alike and both in user mode
  record Still (m n : Machine) : Type 0 where
    alike : AlikeBut change m n
    userₘ : InUserMode m
    userₙ : InUserMode n

  -- alike after the same entry
  record Gone (m n : Machine) : Type 0 where
    alike : AlikeBut change m n
    entry : m.state.control.entry ≡ n.state.control.entry
    modes : m.state.control.mode ≡ n.state.control.mode

  data Matched : Event → Event → Machine → Machine → Type 0 where
    on : {m n : Machine} → Still m n → Matched Went Went m n
    broken : {m n : Machine} → Still m n → Matched Broke Broke m n
    gone : {m n : Machine} (x : Trap) → Gone m n → Matched (Entered User x) (Entered User x) m n

  abbrev MatchedSteps : Outcome → Outcome → Type 0
  MatchedSteps o p = Matched o.event p.event (after_step o) (after_step p)

  -- an entry from user mode, control apart
  same_entry : (x : Trap) (a b : ℕ) → a ≡ b
      → ◌≡◌ {A = EntryRecord} (record { irr = a; icr = cause_number x.cause; idr = x.address; isr = User }) (record { irr = b; icr = cause_number x.cause; idr = x.address; isr = User })
  same_entry x a b e = cc

  -- what both states of a step have in common besides their sets
  record Same (c d : State) : Type 0 where
    trace : c.control.trace ≡ d.control.trace
    counter : c.control.counter ≡ d.control.counter
    waiting : c.control.waiting ≡ d.control.waiting

  ticks : (a b : ℕ) → a ≡ b → (a + 1) % 0x1_0000_0000 ≡ (b + 1) % 0x1_0000_0000
  ticks a b e = ap (λ x. (x + 1) % 0x1_0000_0000) e

  module _ (c d : State) (s t : Store) (h : SetsTwin c d) (v : Sights c s t) (k : Same c d) where
    finished_by : (b : Bool) (n n' : ℕ) → n ≡ n'
        → MatchedSteps (counted (outcome (completed_in User b (onward (as_user c) n)) s)) (counted (outcome (completed_in User b (onward (as_user d) n')) t))
    finished_by false n n' e = on (record { alike = alike_of c d _ _ s t h v e k.trace (ticks _ _ k.counter) k.waiting; userₘ = refl; userₙ = refl })
    finished_by true n n' e =
        gone (plain Trace) (record { alike = alike_of c d _ _ s t h v refl refl (ticks _ _ k.counter) k.waiting; entry = same_entry (plain Trace) n n' e; modes = refl })

    finished : (n n' : ℕ) → n ≡ n'
        → MatchedSteps (counted (outcome (completed (onward (as_user c) n)) s)) (counted (outcome (completed (onward (as_user d) n')) t))
    finished n n' e = let l = finished_by c.control.trace n n' e in let t = k.trace in grind arith

    entered_gone : (x : Trap) (a b : ℕ) → a ≡ b
        → MatchedSteps (counted (outcome (entered_in User c.control.ie (as_user c) x a) s)) (counted (outcome (entered_in User d.control.ie (as_user d) x b) t))
    entered_gone x a b e = gone x (record { alike = alike_of c d _ _ s t h v refl k.trace (ticks _ _ k.counter) k.waiting; entry = same_entry x a b e; modes = refl })

    broke : (n n' : ℕ) → n ≡ n' → MatchedSteps (counted (outcome (record { state = onward (as_user c) n; event = Broke }) s)) (counted (outcome (record { state = onward (as_user d) n'; event = Broke }) t))
    broke n n' e = broken (record { alike = alike_of c d _ _ s t h v e k.trace (ticks _ _ k.counter) k.waiting; userₘ = refl; userₙ = refl })

    -- what user mode reads of its special registers
    reading_same : (x : Special) → ForUser x → reading (as_user c) x ≡ reading (as_user d) x
    reading_same x u = let a = h.file in let b = k.counter in grind arith

  module _ (c d : State) (s t : Store) (h : SetsTwin c d) (v : Sights c s t) (k : Same c d) (inₘ : c.context < length c.sets) (inₙ : d.context < length d.sets) where
    filed_finished : (f g : Registers) (n n' : ℕ) → f ≡ g → n ≡ n'
        → MatchedSteps (counted (outcome (completed (onward (as_user (filed c f)) n)) s)) (counted (outcome (completed (onward (as_user (filed d g)) n')) t))
    filed_finished f g n n' q e =
        finished (filed c f) (filed d g) s t (filed_twin c d f g inₘ inₙ h q) (filed_sight c f s t inₘ v) (record { trace = k.trace; counter = k.counter; waiting = k.waiting }) n n' e

    written_finished : (x : Special) (a b n n' : ℕ) → ForUser x → a ≡ b → n ≡ n'
        → MatchedSteps (counted (outcome (completed (onward (written (as_user c) x a) n)) s)) (counted (outcome (completed (onward (written (as_user d) x b) n')) t))
    written_finished x a b n n' u q e =
        let l = filed_finished (with_link (set_at c c.context).file a) (with_link (set_at d d.context).file b) n n' (ap₂ with_link h.file q) e in
        let g = filed_finished (with_flags (set_at c c.context).file (flags_of a)) (with_flags (set_at d d.context).file (flags_of b)) n n' (ap₂ (λ f y. with_flags f (flags_of y)) h.file q) e in
        let o = finished c d s t h v k n n' e in
        grind arith

    -- reading takes nothing in user mode
    read_finished : (x y : State) (f g : Registers) (n n' : ℕ) → x ≡ as_user c → y ≡ as_user d → f ≡ g → n ≡ n'
        → MatchedSteps (counted (outcome (completed (onward (with_own_file x f) n)) s)) (counted (outcome (completed (onward (with_own_file y g) n')) t))
    read_finished x y f g n n' i j q e = rw (i, j) (filed_finished f g n n' q e)

  -- a store, and on to the next instruction
  took_finished : (c d x y : State) (s t : Store) → SetsTwin c d → Sights c s t → Same c d → (n n' : ℕ) → x ≡ as_user c → y ≡ as_user d → n ≡ n'
      → MatchedSteps (counted (outcome (completed (onward x n)) s)) (counted (outcome (completed (onward y n')) t))
  took_finished c d x y s t h v k n n' i j e = rw (i, j) (finished c d s t h v k n n' e)

  module _ (c d : State) (s t : Store) (h : SetsTwin c d) (v : Sights c s t) (k : Same c d) (pcs : c.control.pc ≡ d.control.pc) (inₘ : c.context < length c.sets) (inₙ : d.context < length d.sets) where
    nexts : after c ≡ after d
    nexts = ap next pcs

    go_matched : (act : Action) (p q : Found) → reach_of s (set_at c c.context).maps act ≡ Ok p → reach_of t (moved_maps change (set_at c c.context).maps) act ≡ Ok q → p.value ≡ q.value
        → MatchedSteps (made (as_user c) s (Go act p)) (made (as_user d) t (Go act q))
    go_matched (Settle to a n x) p q i j e =
        filed_finished c d s t h v k inₘ inₙ (with_flags (settled (set_at c c.context).file to a) x) (with_flags (settled (set_at d d.context).file to a) x) n n (ap (λ f. with_flags (settled f to a) x) h.file) refl
    go_matched (ReadMemory to y) p q i j e =
        filed_finished c d s t h v k inₘ inₙ (put (set_at c c.context).file to p.value) (put (set_at d d.context).file to q.value) (after c) (after d) (ap₂ (λ f z. put f to z) h.file e) nexts
    go_matched (WriteMemory w a b) p q i j e =
        finished c d (put_at s w p.at b) (put_at t w q.at b) h (store_alike change (set_at c c.context).maps h.one s t w a b p q v i j) k (after c) (after d) nexts
    go_matched (ReadSpecial to n) p q i j e =
        read_finished c d s t h v k inₘ inₙ (consumed (as_user c) (register User n)) (consumed (as_user d) (register User n))
        (put (set_at c c.context).file to (reading (as_user c) (register User n))) (put (set_at d d.context).file to (reading (as_user d) (register User n))) (after c) (after d)
        (user_consumed (as_user c) (register User n) (user_register n)) (user_consumed (as_user d) (register User n) (user_register n))
        (ap₂ (λ f z. put f to z) h.file (reading_same c d s t h v k (register User n) (user_register n))) nexts
    go_matched (WriteSpecial n a) p q i j e = written_finished c d s t h v k inₘ inₙ (register User n) a a (after c) (after d) (user_register n) refl nexts
    go_matched (StoreSpecial n a) p q i j e =
        subst (λ z. MatchedSteps (made (as_user c) s (Go (StoreSpecial n a) p)) (counted (outcome (completed (onward (consumed (as_user d) (register User n)) (after d))) (put_at t Word q.at z))))
        (reading_same c d s t h v k (register User n) (user_register n))
        (took_finished c d (consumed (as_user c) (register User n)) (consumed (as_user d) (register User n)) (put_at s Word p.at (reading (as_user c) (register User n))) (put_at t Word q.at (reading (as_user c) (register User n)))
        h (store_alike change (set_at c c.context).maps h.one s t Word a (reading (as_user c) (register User n)) p q v i j) k (after c) (after d)
        (user_consumed (as_user c) (register User n) (user_register n)) (user_consumed (as_user d) (register User n) (user_register n)) nexts)
    go_matched (LoadSpecial n a) p q i j e = written_finished c d s t h v k inₘ inₙ (register User n) p.value q.value (after c) (after d) (user_register n) e nexts
    go_matched (SystemCall n) p q i j e = entered_gone c d s t h v k (plain (CallCause n)) (after c) (after d) nexts
    go_matched Break p q i j e = broke c d s t h v k (after c) (after d) nexts
    go_matched (Privilege op) p q i j e = on (record { alike = alike_of c d _ _ s t h v pcs k.trace (ticks _ _ k.counter) k.waiting; userₘ = refl; userₙ = refl })

    made_matched : (x y : Verdict) → Twin change (set_at c c.context).maps s t v x y → MatchedSteps (made (as_user c) s x) (made (as_user d) t y)
    made_matched x y interrupts =
        gone (plain InterruptCause) (record { alike = alike_of c d _ _ s t h v refl k.trace (ticks _ _ k.counter) refl; entry = same_entry (plain InterruptCause) _ _ pcs; modes = refl })
    made_matched x y (faults z) = entered_gone c d s t h v k z c.control.pc d.control.pc pcs
    made_matched x y (both_go act p q i j e) = go_matched act p q i j e

  -- two machines in user mode, alike
  pub record Pair (m n : Machine) : Type 0 where
    pub alike : AlikeBut change m n
    pub properₘ : Proper m.state
    pub properₙ : Proper n.state
    pub userₘ : InUserMode m
    pub userₙ : InUserMode n

  -- what a step needs of both states
  record Ready (c d : State) (s t : Store) : Type 0 where
    alike : AlikeBut change (mach c s) (mach d t)
    ieₘ : c.control.ie ≡ true
    ieₙ : d.control.ie ≡ true
    inₘ : c.context < length c.sets
    inₙ : d.context < length d.sets

  module _ (c d : State) (s t : Store) (r : Ready (as_user c) (as_user d) s t) where
    irqs : (c.control.waiting && c.control.ie) ≡ (d.control.waiting && d.control.ie)
    irqs = ap₂ (λ x y. x && y) r.alike.waiting (r.ieₘ ∙ sym r.ieₙ)

    verdicts : Twin change (set_at c c.context).maps s t r.alike.memory (verdict_of (as_user c) s) (verdict_of (as_user d) t)
    verdicts =
        let f = (set_at c c.context).file in
        let w = moved_maps change (set_at c c.context).maps in
        let full = output_full d in
        let pc = c.control.pc in
        let irq = c.control.waiting && c.control.ie in
        let a = irqs in
        let e : verdict User (record { file = (set_at c c.context).file; maps = w }) pc irq full t ≡ verdict_of (as_user d) t = grind arith in
        subst (λ (x : Verdict). Twin change (set_at c c.context).maps s t r.alike.memory (verdict_of (as_user c) s) x) e
        (verdict_twin change (set_at c c.context).maps s t r.alike.memory pc (output_full c) full f irq)

    user_steps : MatchedSteps (stepped (as_user c) s) (stepped (as_user d) t)
    unfolding stepped
    user_steps =
        made_matched c d s t (record { file = r.alike.file; maps = r.alike.maps; one = r.alike.one }) r.alike.memory
        (record { trace = r.alike.trace; counter = r.alike.counter; waiting = r.alike.waiting }) r.alike.pc r.inₘ r.inₙ (verdict_of (as_user c) s) (verdict_of (as_user d) t) verdicts

  steps_matched : (m n : Machine) → Pair m n → MatchedSteps (stepped m.state m.store) (stepped n.state n.store)
  steps_matched m n h =
      in_user (λ (c : State). Ready c n.state m.store n.store → MatchedSteps (stepped c m.store) (stepped n.state n.store))
      (λ c. in_user (λ (d : State). Ready (as_user c) d m.store n.store → MatchedSteps (stepped (as_user c) m.store) (stepped d n.store))
      (λ d r. user_steps c d m.store n.store r) n.state h.userₙ)
      m.state h.userₘ
      (let a = h.properₘ.sets in let b = h.properₙ.sets in let i = h.properₘ.sound.high in let j = h.properₙ.sound.high in
      record { alike = h.alike; ieₘ = h.properₘ.sound.heard h.userₘ; ieₙ = h.properₙ.sound.heard h.userₙ; inₘ = omega arith; inₙ = omega arith })

  -- Runs

  record Runs (x y : Ran) : Type 0 where
    report : x.report ≡ y.report
    alike : AlikeBut change x.machine y.machine
    onward : Onward (eqb x.report.reason 1) x.machine y.machine (InUserMode x.machine × InUserMode y.machine)

  runs_more : (d e : Made) (x y : Ran) → Runs x y → Runs (more d x) (more e y)
  runs_more d e x y h = record { report = cc; alike = h.alike; onward = h.onward }

  same_report : (r k c a x : ℕ) (m n : Machine) → AlikeBut change m n → m.state.control.mode ≡ n.state.control.mode → report r k c a x m ≡ report r k c a x n
  same_report r k c a x m n h e = let p = h.pc in cc

  still : (m n : Machine) → Pair m n → m.state.control.mode ≡ n.state.control.mode
  still m n h = cc

  resume_alike : {e f : Event} {m' n' : Machine} → Matched e f m' n' → (d g : Made) (on-m on-n : Machine → Ran)
      → Proper m'.state → Proper n'.state → ((x y : Machine) → Pair x y → Runs (on-m x) (on-n y)) → Runs (resume e d m' on-m) (resume f g n' on-n)
  resume_alike {m' = m'} {n' = n'} (on s) d g on-m on-n p q go =
      runs_more d g (on-m m') (on-n n') (go m' n' (record { alike = s.alike; properₘ = p; properₙ = q; userₘ = s.userₘ; userₙ = s.userₙ }))
  resume_alike {m' = m'} {n' = n'} (broken s) d g on-m on-n p q go =
      record { report = same_report 4 1 0 0 0 m' n' s.alike (s.userₘ ∙ sym s.userₙ); alike = s.alike; onward = (s.userₘ, s.userₙ) }
  resume_alike {m' = m'} {n' = n'} (gone x s) d g on-m on-n p q go =
      record { report = same_report 1 1 (cause_number x.cause) x.address (space_number x.space) m' n' s.alike s.modes; alike = s.alike; onward = s.entry }

  awake : (m : Machine) → Proper m.state → InUserMode m → Live m.state
  awake m p u = record { proper = p; awake = p.sound.runs u }

  runs_alike : (k : ℕ) (m n : Machine) → Pair m n → Runs (runs k m) (runs k n)
  unfolding runs
  runs_alike zero m n h = record { report = same_report 0 0 0 0 0 m n h.alike (still m n h); alike = h.alike; onward = (h.userₘ, h.userₙ) }
  runs_alike (suc k) m n h =
      resume_alike (steps_matched m n h) (made_by m (stepped m.state m.store)) (made_by n (stepped n.state n.store)) (λ x. runs k x) (λ x. runs k x)
      (step_sane m.state m.store (awake m h.properₘ h.userₘ)).proper (step_sane n.state n.store (awake n h.properₙ h.userₙ)).proper (λ x y p. runs_alike k x y p)

  -- Calls

  record Replies (x y : Reply) : Type 0 where
    answers : x.answer ≡ y.answer
    alike : AlikeBut change x.after y.after
    onward : Onward (reports_entry x.answer) x.after y.after (InUserMode x.after × InUserMode y.after)

  reply_alike : (c : Call) → RunOrRaise c → (m n : Machine) → Pair m n → Replies (reply c m) (reply c n)
  reply_alike (run k) o m n h =
      let e = h.properₘ.sound.runs h.userₘ in let f = h.properₙ.sound.runs h.userₙ in let r = runs_alike k m n h in grind arith
  reply_alike raise o m n h = let e = h.properₘ.sound.runs h.userₘ in let f = h.properₙ.sound.runs h.userₙ in grind arith
  reply_alike (feed bs) o m n h = absurd o
  reply_alike (drain k) o m n h = absurd o
  reply_alike (look k i) o m n h = absurd o

  pub together : (cs : List Call) → All RunOrRaise cs → (m n : Machine) → Pair m n → Together (AlikeBut change) cs m n
  together [] o m n h = tt
  together (c ∷ cs) o m n h =
      let r = reply_alike c (All-head RunOrRaise c cs o) m n h in
      record {
        answers = r.answers;
        alike = r.alike;
        onward = onward_weaker (reports_entry (reply c m).answer) (reply c m).after (reply c n).after (InUserMode (reply c m).after × InUserMode (reply c n).after) (Together (AlikeBut change) cs (reply c m).after (reply c n).after)
            (λ u. together cs (All-tail RunOrRaise c cs o) (reply c m).after (reply c n).after
            (record { alike = r.alike; properₘ = reply_proper c m h.properₘ; properₙ = reply_proper c n h.properₙ; userₘ = u.0; userₙ = u.1 }))
            r.onward;
      }

pub reached_proper : (m : Machine) → Reached m → Proper m.state
reached_proper m r = subst (λ (x : Machine). Proper x.state) r.reaches (final_proper r.calls r.start r.proper)

pub moved_behaviour : MovedBehaviour
moved_behaviour m n f g u v change a calls o =
    together change calls o m n (record { alike = a; properₘ = reached_proper m f; properₙ = reached_proper n g; userₘ = u; userₙ = v })
