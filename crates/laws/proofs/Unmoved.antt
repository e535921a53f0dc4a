-- Same sight, same behaviour: the case in which no page number is changed. Assumes nothing.
use Rattle.std.proofs.Common.{◌≡◌, ℕ, List, [], ◌∷◌, map, sym, refl, ap, ◌∙◌, ap₂, arith}
use Rattle.std.specs.List.{All}
use Rattle.processor.specs.declared.state.Maps.{Maps}
use Rattle.processor.specs.declared.state.RegSet.{RegSet}
use Rattle.processor.specs.declared.event.Space.{Space}
use Rattle.processor.specs.declared.event.Space.TheVariants.{Code, Data}
use Rattle.processor.specs.Runs.{Machine}
use Rattle.processor.specs.Calls.{Call, reply}
use Rattle.laws.specs.Isolation.{running, moved, moved_maps, shifted, Alike, AlikeBut, InUserMode, Proper, RunOrRaise, reports_entry, Together, SameBehaviour}
use Rattle.laws.proofs.Behaviour.{onward_weaker, together, reached_proper}

-- no change
abbrev none : ℕ → ℕ
none p = p

moved_none : (x : Space) (w : ℕ) → moved x none w ≡ w
moved_none x w = grind arith

list_none : (x : Space) (ws : List ℕ) → map (moved x none) ws ≡ ws
list_none x [] = refl
list_none x (w ∷ ws) = ap₂ (λ y z. y ∷ z) (moved_none x w) (list_none x ws)

maps_none : (w : Maps) → moved_maps none w ≡ w
maps_none w = ap₂ (λ x y. record { codes = x; datas = y }) (list_none Code w.codes) (list_none Data w.datas)

shifted_none : (a : ℕ) → shifted none a ≡ a
shifted_none a = omega arith

to_none : (m n : Machine) → Alike m n → AlikeBut none m n
to_none m n h = record {
  file = ap (λ (r : RegSet). r.file) h.set;
  maps = maps_none (running m).maps ∙ ap (λ (r : RegSet). r.maps) h.set;
  one = λ p q x y e. e;
  pc = h.pc;
  trace = h.trace;
  counter = h.counter;
  waiting = h.waiting;
  memory = record { kinds = h.memory.kinds; bytes = λ a o k. h.memory.bytes a o k ∙ ap n.store.cells (sym (shifted_none a)) };
}

from_none : (m n : Machine) → AlikeBut none m n → Alike m n
from_none m n h = record {
  set = ap₂ (λ x y. record { file = x; maps = y }) h.file (sym (maps_none (running m).maps) ∙ h.maps);
  pc = h.pc;
  trace = h.trace;
  counter = h.counter;
  waiting = h.waiting;
  memory = record { kinds = h.memory.kinds; bytes = λ a o k. h.memory.bytes a o k ∙ ap n.store.cells (shifted_none a) };
}

-- what holds between the two may be weakened
together_weaker : (R Q : Machine → Machine → Type 0) → ((m n : Machine) → R m n → Q m n) → (cs : List Call) (m n : Machine) → Together R cs m n → Together Q cs m n
together_weaker R Q f [] m n h = tt
together_weaker R Q f (c ∷ cs) m n h = record {
  answers = h.answers;
  alike = f (reply c m).after (reply c n).after h.alike;
  onward = onward_weaker (reports_entry (reply c m).answer) (reply c m).after (reply c n).after _ _ (together_weaker R Q f cs (reply c m).after (reply c n).after) h.onward;
}

-- of any two machines in states that a machine may start in
pub together_alike : (calls : List Call) → All RunOrRaise calls → (m n : Machine) → Proper m.state → Proper n.state → InUserMode m → InUserMode n → Alike m n
    → Together Alike calls m n
together_alike calls o m n p q u v a =
    together_weaker (AlikeBut none) Alike from_none calls m n (together none calls o m n (record { alike = to_none m n a; properₘ = p; properₙ = q; userₘ = u; userₙ = v }))

pub same_behaviour : SameBehaviour
same_behaviour m n f g u v a calls o = together_alike calls o m n (reached_proper m f) (reached_proper n g) u v a
