-- A user instruction changes no map word, other set, CONTEXT, console byte, or byte outside the pages that it may store to.
-- Assumes nothing.
use Rattle.std.proofs.Common.{◌≡◌, ℕ, ◌+◌, ◌/◌, ◌%◌, ◌<◌, ◌&&◌, List, length, get_or, Ok, refl, ◌∙◌, arith, get_or-set_other, get_or-set_same}
use Rattle.std.proofs.lemmas.Bool.Decides.{nat_tests}
use Rattle.std.proofs.lemmas.Bool.{cond_both}
use Rattle.isa.specs.declared.instr.Width.{Width}
use Rattle.isa.specs.declared.instr.Width.TheVariants.{Word, Byte}
use Rattle.memory.specs.Stores.{Store, put_byte, put_word, even, writable}
use Rattle.processor.specs.declared.state.Mode.TheVariants.{User}
use Rattle.processor.specs.declared.state.Maps.{Maps}
use Rattle.processor.specs.declared.state.RegSet.{RegSet}
use Rattle.processor.specs.declared.state.Registers.{Registers}
use Rattle.processor.specs.declared.access.Found.{Found}
use Rattle.processor.specs.declared.access.Purpose.TheVariants.{DataStore}
use Rattle.processor.specs.declared.action.Action.{Action}
use Rattle.processor.specs.declared.action.Action.TheVariants.{Settle, ReadMemory, WriteMemory, ReadSpecial, WriteSpecial, StoreSpecial, LoadSpecial, SystemCall, Break, Privilege}
use Rattle.processor.specs.declared.judge.Verdict.{Verdict}
use Rattle.processor.specs.declared.judge.Verdict.TheVariants.{Interrupt, Fault, Full, Go}
use Rattle.processor.specs.declared.special.Special.{Special}
use Rattle.processor.specs.declared.state.State.{State}
use Rattle.processor.specs.State.{no_set, set_at, with_set, with_file, onward}
use Rattle.alu.specs.FlagBits.{flags_of}
use Rattle.processor.specs.Registers.{put, with_link, with_flags, settled}
use Rattle.processor.specs.Special.{register}
use Rattle.processor.specs.Rows.{consumed, written, reading}
use Rattle.processor.specs.Actions.{request, word_of}
use Rattle.processor.specs.Access.{map_word, accessed}
use Rattle.processor.specs.Carrying.{completed, after, named, put_at, performed, stored, made, stepped}
use Rattle.processor.specs.Judging.{verdict_of, output_full}
use Rattle.processor.specs.Runs.{Machine, after_step}
use Rattle.laws.specs.Isolation.{Opens, InUserMode, Confined, Confinement}
use Rattle.laws.proofs.Proper.{Live}
use Rattle.laws.proofs.Lift.{next_made, history_all}
use Rattle.laws.proofs.Checks.{Passed, passed, led, page, page_next, shown_at, shown_after, reach_of, Grants, grants_verdict}
use Rattle.laws.proofs.Users.{as_user, in_user, ForUser, user_register}

-- Sets and console, control apart: what a user instruction of context k keeps

record Frame (k : ℕ) (x y : List RegSet) (n n' : ℕ) (i i' o o' : List ℕ) : Type 0 where
  maps : (j : ℕ) → (get_or x j no_set).maps ≡ (get_or y j no_set).maps
  others : (j : ℕ) → (j ≡ k → ⊥) → get_or x j no_set ≡ get_or y j no_set
  context : n ≡ n'
  input : i ≡ i'
  output : o ≡ o'

abbrev Framed : State → State → Type 0
Framed c d = Frame c.context c.sets d.sets c.context d.context c.input d.input c.output d.output

same : (c : State) → Framed c c
same c = record { maps = λ j. refl; others = λ j e. refl; context = refl; input = refl; output = refl }

-- a register file of the context
module _ (c : State) (f : Registers) (h : c.context < length c.sets) where
  file_framed : Framed c (with_set c c.context (with_file (set_at c c.context) f))
  file_framed = grind (arith, get_or-set_same, get_or-set_other)

-- completion and entries change control only
onward_framed : (c d : State) (pc : ℕ) → Framed c d → Framed c (completed (onward d pc)).state
onward_framed c d pc f = grind arith

-- reading a special register that user mode can name takes nothing
pub user_consumed : (c : State) (x : Special) → ForUser x → consumed c x ≡ c
user_consumed c x u = grind arith

module _ (c : State) (h : c.context < length c.sets) where
  -- and writing it changes the context's own file at most
  written_framed : (x : Special) (v : ℕ) → ForUser x → Framed c (written (as_user c) x v)
  written_framed x v u = let a = file_framed c (with_link (set_at c c.context).file v) h in let b = file_framed c (with_flags (set_at c c.context).file (flags_of v)) h in grind arith

  performed_framed : (act : Action) (d : Found) → Framed c (performed (as_user c) act d).state
  performed_framed (Settle to v n x) d = let f = file_framed c (with_flags (settled (set_at c c.context).file to v) x) h in grind arith
  performed_framed (ReadMemory to q) d = let f = file_framed c (put (set_at c c.context).file to d.value) h in grind arith
  performed_framed (WriteMemory w a v) d = grind arith
  performed_framed (ReadSpecial to n) d =
      let e = user_consumed (as_user c) (register User n) (user_register n) in
      let f = file_framed c (put (set_at c c.context).file to (reading (as_user c) (register User n))) h in
      grind arith
  performed_framed (WriteSpecial n v) d = onward_framed c (written (as_user c) (register User n) v) (after c) (written_framed (register User n) v (user_register n))
  performed_framed (StoreSpecial n a) d = let e = user_consumed (as_user c) (register User n) (user_register n) in grind arith
  performed_framed (LoadSpecial n a) d = onward_framed c (written (as_user c) (register User n) d.value) (after c) (written_framed (register User n) d.value (user_register n))
  performed_framed (SystemCall n) d = grind arith
  performed_framed Break d = grind arith
  performed_framed (Privilege op) d = grind arith

-- Memory

-- memories that differ at most in writable pages that the map words admit for stores
pub record Touched (m : Maps) (s t : Store) : Type 0 where
  pub kinds : (p : ℕ) → s.kinds p ≡ t.kinds p
  pub bytes : (a : ℕ) → (Opens DataStore m (a / 4096) × (s.kinds (a / 4096) ≡ 2) → ⊥) → s.cells a ≡ t.cells a
  pub rest : s.rest ≡ t.rest

untouched : (m : Maps) (s : Store) → Touched m s s
untouched m s = record { kinds = λ p. refl; bytes = λ a k. refl; rest = refl }

byte_touched : (m : Maps) (s : Store) (p v : ℕ) → Opens DataStore m (p / 4096) → s.kinds (p / 4096) ≡ 2 → Touched m s (put_byte s p v)
byte_touched m s p v o w = grind (arith, nat_tests)

-- a store that passed is to a writable page
pub writable_at : (s : Store) (m : Maps) (w : Width) (a p : ℕ) → Passed s m (request DataStore w a) p → s.kinds (p / 4096) ≡ 2
writable_at s m w a p h = let e = page (map_word m DataStore a) a in let k = h.there in let i = h.at in grind (arith, nat_tests)

writable_after : (s : Store) (m : Maps) (a p : ℕ) → Passed s m (word_of DataStore a) p → s.kinds ((p + 1) / 4096) ≡ 2
writable_after s m a p h = let e = page_next (map_word m DataStore a) a h.even in let k = h.there in let i = h.at in grind (arith, nat_tests)

put_touched : (m : Maps) (s : Store) (w : Width) (a p v : ℕ) → Passed s m (request DataStore w a) p → Touched m s (put_at s w p v)
put_touched m s Word a p v h =
    let x = byte_touched m s p (v % 256) (shown_at s m (word_of DataStore a) p h).0 (writable_at s m Word a p h) in
    let y = byte_touched m (put_byte s p (v % 256)) (p + 1) (v / 256) (shown_after s m DataStore a p h).0 (writable_after s m a p h) in
    cond_both (even p && writable s p) (put_word s p v) s (Touched m s)
    (λ _. record { kinds = λ q. refl; bytes = λ b k. x.bytes b k ∙ y.bytes b k; rest = refl }) (λ _. untouched m s)
put_touched m s Byte a p v h =
    cond_both (writable s p) (put_byte s p (v % 256)) s (Touched m s)
    (λ _. byte_touched m s p (v % 256) (shown_at s m (request DataStore Byte a) p h).0 (writable_at s m Byte a p h)) (λ _. untouched m s)

-- where an access is granted, at what it has found
granted_touched : (m : Maps) (s : Store) (w : Width) (a v : ℕ) (d : Found) → accessed s m (request DataStore w a) ≡ Ok d → Touched m s (put_at s w d.at v)
granted_touched m s w a v d e =
    let l = led s m (request DataStore w a) d e in
    let x = put_touched m s w a l.place v (passed s m (request DataStore w a) l.place l.passes) in
    grind arith

pub stored_touched : (c : State) (m : Maps) (s : Store) (act : Action) (d : Found) → reach_of s m act ≡ Ok d → Touched m s (stored c s act d)
stored_touched c m s (Settle to v n x) d e = untouched m s
stored_touched c m s (ReadMemory to q) d e = untouched m s
stored_touched c m s (WriteMemory w a v) d e = granted_touched m s w a v d e
stored_touched c m s (ReadSpecial to n) d e = untouched m s
stored_touched c m s (WriteSpecial n v) d e = untouched m s
stored_touched c m s (StoreSpecial n a) d e = granted_touched m s Word a (reading c (named c n)) d e
stored_touched c m s (LoadSpecial n a) d e = untouched m s
stored_touched c m s (SystemCall n) d e = untouched m s
stored_touched c m s Break d e = untouched m s
stored_touched c m s (Privilege op) d e = untouched m s

-- The step

confined_by : (c : State) (s : Store) (d : State) (t : Store) → Framed c d → Touched (set_at c c.context).maps s t
    → Confined (record { state = c; store = s }) (record { state = d; store = t })
confined_by c s d t f w = grind arith

made_confined : (c : State) (s : Store) (v : Verdict) → c.context < length c.sets → Grants User (set_at c c.context).maps s v
    → Confined (record { state = as_user c; store = s }) (after_step (made (as_user c) s v))
made_confined c s Interrupt h g = let u = untouched (set_at c c.context).maps s in grind arith
made_confined c s (Fault x) h g = let u = untouched (set_at c c.context).maps s in grind arith
made_confined c s Full h g = let u = untouched (set_at c c.context).maps s in grind arith
made_confined c s (Go act d) h g =
    confined_by (as_user c) s _ (stored (as_user c) s act d) (performed_framed c h act d) (stored_touched (as_user c) (set_at c c.context).maps s act d g.reaches)

step_confined : (m : Machine) → Live m.state → InUserMode m → Confined m (next_made m).after
unfolding stepped
step_confined m l u =
    in_user (λ (c : State). c.context < length c.sets → Confined (record { state = c; store = m.store }) (after_step (stepped c m.store)))
    (λ c h. made_confined c m.store (verdict_of (as_user c) m.store) h (grants_verdict User (set_at c c.context) m.store c.control.pc (output_full c) (c.control.waiting && c.control.ie)))
    m.state u (let n = l.proper.sets in let k = l.proper.sound.high in omega arith)

pub confinement : Confinement
confinement start p calls = history_all (λ e. InUserMode e.before → Confined e.before e.after) step_confined calls start p
