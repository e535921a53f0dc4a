-- What a granted access says, and that an action which is carried out has made one. Assumes nothing.
use Rattle.std.proofs.Common.{◌≡◌, ℕ, ◌+◌, ◌/◌, ◌%◌, Bool, true, false, ◌≢◌, Some, None, Ok, Err, Option, Result, sym, refl, ap, ◌∙◌, subst, arith}
use Rattle.std.proofs.lemmas.Bool.{eqb-false}
use Rattle.std.proofs.lemmas.Bool.Decides.{nat_tests}
use Rattle.isa.specs.declared.instr.Width.TheVariants.{Word}
use Rattle.memory.specs.Stores.{Store}
use Rattle.processor.specs.declared.state.Mode.{Mode}
use Rattle.processor.specs.declared.state.Maps.{Maps}
use Rattle.processor.specs.declared.state.RegSet.{RegSet}
use Rattle.processor.specs.declared.event.Cause.{Cause}
use Rattle.processor.specs.declared.access.Purpose.{Purpose}
use Rattle.processor.specs.declared.access.Request.{Request}
use Rattle.processor.specs.declared.access.Found.{Found}
use Rattle.processor.specs.declared.action.Action.{Action}
use Rattle.processor.specs.declared.action.SpecialWrite.{SpecialWrite}
use Rattle.processor.specs.declared.judge.Verdict.{Verdict}
use Rattle.processor.specs.declared.judge.Verdict.TheVariants.{Interrupt, Fault, Full, Go}
use Rattle.processor.specs.Access.{map_word, admits, serves, odd, physical, page_of, check, found_at, granted, accessed}
use Rattle.processor.specs.Actions.{legal, asks, word_of}
use Rattle.processor.specs.Judging.{nothing_found, suited, written, answered, reached, judged, verdict}
use Rattle.laws.specs.Isolation.{Opens}

-- an access that passes the check, at the physical address p
pub record Passed (s : Store) (m : Maps) (q : Request) (p : ℕ) : Type 0 where
  pub even : odd q.width q.address ≡ false
  pub opened : admits q.purpose (map_word m q.purpose q.address) ≡ true
  pub there : serves q.purpose (s.kinds (page_of (map_word m q.purpose q.address))) ≡ true
  pub at : physical (map_word m q.purpose q.address) q.address ≡ p

pub passed : (s : Store) (m : Maps) (q : Request) (p : ℕ) → check s m q ≡ Ok p → Passed s m q p
passed s m q p e = grind arith

-- what is found stands where the check has led
pub record Led (s : Store) (m : Maps) (q : Request) (d : Found) : Type 0 where
  pub place : ℕ
  pub passes : check s m q ≡ Ok place
  pub found : found_at s q.purpose q.width place ≡ d

led_by : (s : Store) (m : Maps) (q : Request) (d : Found) (r : Result ℕ Cause) → check s m q ≡ r → granted s q r ≡ Ok d → Led s m q d
led_by s m q d (Ok p) e f = record { place = p; passes = e; found = cc }
led_by s m q d (Err c) e f = cc

pub led : (s : Store) (m : Maps) (q : Request) (d : Found) → accessed s m q ≡ Ok d → Led s m q d
led s m q d e = grind (arith, led_by)

-- Pages

pub page : (w a : ℕ) → physical w a / 4096 ≡ page_of w
page w a = omega arith

pub page_next : (w a : ℕ) → odd Word a ≡ false → (physical w a + 1) / 4096 ≡ page_of w
page_next w a e = let ne : (a % 2) ≢ 1 = eqb-false (a % 2) 1 e in omega arith

pub serves_some : (u : Purpose) (k : ℕ) → serves u k ≡ true → k ≢ 0
serves_some u k e z = grind (arith, nat_tests)

-- the page of an address that passed is admitted and there, and so is that of a word's second byte
abbrev pub Shown : Store → Maps → Purpose → ℕ → Type 0
Shown s m u p = Opens u m p × (s.kinds p ≢ 0)

shown_by : (s : Store) (m : Maps) (q : Request) (p : ℕ) → Passed s m q p → Shown s m q.purpose (page_of (map_word m q.purpose q.address))
shown_by s m q p h = (record { at = q.address / 4096; admitting = h.opened; page = refl }, serves_some q.purpose _ h.there)

pub shown_at : (s : Store) (m : Maps) (q : Request) (p : ℕ) → Passed s m q p → Shown s m q.purpose (p / 4096)
shown_at s m q p h =
    subst (Shown s m q.purpose) (sym (page (map_word m q.purpose q.address) q.address) ∙ ap (λ x. x / 4096) h.at) (shown_by s m q p h)

pub shown_after : (s : Store) (m : Maps) (u : Purpose) (a p : ℕ) → Passed s m (word_of u a) p → Shown s m u ((p + 1) / 4096)
shown_after s m u a p h =
    subst (Shown s m u) (sym (page_next (map_word m u a) a h.even) ∙ ap (λ x. (x + 1) / 4096) h.at) (shown_by s m (word_of u a) p h)

-- Verdicts

-- the access that an action makes; one that makes none finds nothing
abbrev pub reach_by : Store → Maps → Option Request → Result Found Cause
reach_by s m None = Ok nothing_found
reach_by s m (Some q) = accessed s m q

abbrev pub reach_of : Store → Maps → Action → Result Found Cause
reach_of s m act = reach_by s m (asks act)

-- an action that is carried out is legal, and its access is granted
pub record Granted (k : Mode) (m : Maps) (s : Store) (act : Action) (d : Found) : Type 0 where
  pub lawful : legal k act ≡ true
  pub reaches : reach_of s m act ≡ Ok d

abbrev pub Grants : Mode → Maps → Store → Verdict → Type 0
Grants k m s Interrupt = Unit {0}
Grants k m s (Fault x) = Unit {0}
Grants k m s Full = Unit {0}
Grants k m s (Go act d) = Granted k m s act d

module _ (k : Mode) (m : Maps) (s : Store) (pc : ℕ) (full : Bool) where
  grants_suited : (b j : Bool) (act : Action) (d : Found) → Granted k m s act d → Grants k m s (suited b j pc act d)
  grants_suited b j act d h = grind arith

  grants_written : (act : Action) (d : Found) (w : Option SpecialWrite) → Granted k m s act d → Grants k m s (written k pc full act d w)
  grants_written act d w h = grind (arith, grants_suited)

  grants_answered : (act : Action) (q : Request) (r : Result Found Cause) → legal k act ≡ true → asks act ≡ Some q → accessed s m q ≡ r
      → Grants k m s (answered k pc full act q r)
  grants_answered act q r l a e = grind (arith, grants_written)

  grants_reached : (act : Action) (o : Option Request) → legal k act ≡ true → asks act ≡ o → Grants k m s (reached k m pc full s act o)
  grants_reached act o l a = grind (arith, grants_written, grants_answered)

  grants_judged : (act : Action) → Grants k m s (judged k m pc full s act)
  grants_judged act = let g = λ (l : legal k act ≡ true). grants_reached act (asks act) l refl in grind arith

module _ (k : Mode) (r : RegSet) (s : Store) (pc : ℕ) (full : Bool) where
  pub grants_verdict : (irq : Bool) → Grants k r.maps s (verdict k r pc irq full s)
  grants_verdict irq = let j = λ (act : Action). grants_judged k r.maps s pc full act in grind arith
