-- A law of each step of a machine that can make one is a law of each step of a history. Assumes nothing.
use Rattle.std.proofs.Common.{◌≡◌, ℕ, zero, suc, false, List, [], ◌∷◌, arith}
use Rattle.std.specs.List.{All}
use Rattle.std.proofs.lemmas.List.Elements.{All-nil, All-cons, All-append}
use Rattle.processor.specs.declared.event.Event.{Event}
use Rattle.processor.specs.Carrying.{stepped}
use Rattle.processor.specs.Runs.{Machine, Made, Ran, resume, made_by, after_step, runs}
use Rattle.processor.specs.Calls.{Call, run, raise, feed, drain, look, reply, history}
use Rattle.laws.specs.Isolation.{Proper}
use Rattle.laws.proofs.Proper.{Live, Awake, step_sane, reply_proper}

-- the step that a machine is about to make
abbrev pub next_made : Machine → Made
next_made m = made_by m (stepped m.state m.store)

module _ (P : Made → Type 0) (law : (m : Machine) → Live m.state → P (next_made m)) where
  resume_all : (e : Event) (d : Made) (n : Machine) (on : Machine → Ran) → P d → Proper n.state → Awake e n.state
      → ((k : Machine) → Live k.state → All P (on k).trail) → All P (resume e d n on).trail
  resume_all e d n on h q a f = grind (arith, All-cons, All-nil)

  runs_all : (n : ℕ) (m : Machine) → Live m.state → All P (runs n m).trail
  unfolding runs
  runs_all zero m h = All-nil P
  runs_all (suc n) m h =
      let o = stepped m.state m.store in
      let q = step_sane m.state m.store h in
      resume_all o.event (made_by m o) (after_step o) (λ k. runs n k) (law m h) q.proper q.awake (λ k. runs_all n k)

  reply_all : (c : Call) (m : Machine) → Proper m.state → All P (reply c m).trail
  reply_all (run n) m h = let r : m.state.control.halted ≡ false → All P (runs n m).trail = λ a. runs_all n m (record { proper = h; awake = a }) in grind arith
  reply_all raise m h = grind arith
  reply_all (feed bs) m h = grind arith
  reply_all (drain n) m h = grind arith
  reply_all (look n i) m h = grind arith

  pub history_all : (cs : List Call) (m : Machine) → Proper m.state → All P (history cs m)
  unfolding history
  history_all [] m h = All-nil P
  history_all (c ∷ cs) m h = All-append P (reply c m).trail (history cs (reply c m).after) (reply_all c m h) (history_all cs (reply c m).after (reply_proper c m h))
