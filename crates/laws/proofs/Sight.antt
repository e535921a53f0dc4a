-- In user mode the verdict on a step depends only on what the context sees, page numbers apart. Assumes nothing.
use Rattle.std.proofs.Common.{◌≡◌, ℕ, ◌+◌, ◌*◌, ◌/◌, ◌%◌, Bool, true, false, ◌&&◌, Some, None, Ok, Err, Option, Result, sym, refl, ap, ◌∙◌, subst, ap₂, arith}
use lib.ListN.{get_or-map}
use Rattle.std.proofs.lemmas.Bool.{cond_both}
use Rattle.std.proofs.lemmas.Bool.Decides.{nat_tests}
use Rattle.isa.specs.declared.instr.Instr.{Instr}
use Rattle.isa.specs.declared.instr.Width.{Width}
use Rattle.isa.specs.declared.instr.Width.TheVariants.{Word, Byte}
use Rattle.alu.specs.Logic.{extended}
use Rattle.memory.specs.Stores.{Store}
use Rattle.processor.specs.declared.state.Mode.TheVariants.{User}
use Rattle.processor.specs.declared.state.Maps.{Maps}
use Rattle.processor.specs.declared.state.Registers.{Registers}
use Rattle.processor.specs.declared.event.Cause.{Cause}
use Rattle.processor.specs.declared.event.Cause.TheVariants.{Illegal}
use Rattle.processor.specs.declared.event.Space.{Space}
use Rattle.processor.specs.declared.event.Space.TheVariants.{Code, Data}
use Rattle.processor.specs.declared.event.Trap.{Trap}
use Rattle.processor.specs.declared.access.Purpose.{Purpose}
use Rattle.processor.specs.declared.access.Purpose.TheVariants.{Fetch}
use Rattle.processor.specs.declared.access.Request.{Request}
use Rattle.processor.specs.declared.access.Found.{Found}
use Rattle.processor.specs.declared.action.Action.{Action}
use Rattle.processor.specs.declared.action.SpecialWrite.{SpecialWrite}
use Rattle.processor.specs.declared.judge.Verdict.{Verdict}
use Rattle.processor.specs.declared.judge.Verdict.TheVariants.{Interrupt, Fault, Go}
use Rattle.processor.specs.Access.{space_of, word_in, map_word, admits, serves, odd, page_of, in_order, check, value_at, found_at, granted, accessed}
use Rattle.processor.specs.Actions.{legal, asks, writes, request, word_of}
use Rattle.processor.specs.Plans.{planned}
use Rattle.processor.specs.Special.{register, accepts}
use Rattle.processor.specs.Judging.{nothing_found, suited, written, admitted, answered, reached, permitted, judged, instr_of, decoded_as, fetched, verdict}
use Rattle.laws.specs.Isolation.{admits_any, moved, moved_maps, shifted, SightBut}
use Rattle.laws.proofs.Checks.{Passed, passed, page, page_next, Shown, shown_at, shown_after, reach_by, reach_of}
use Rattle.laws.proofs.Users.{user_prints}

-- two checks that end alike, each at its own place
data Pairs : Result ℕ Cause → Result ℕ Cause → Type 0 where
  both_err : (c : Cause) → Pairs (Err c) (Err c)
  both_ok : (p q : ℕ) → Pairs (Ok p) (Ok q)

order_pairs : (o a a' k k' : Bool) (p q : ℕ) → a ≡ a' → (a ≡ true → k ≡ k') → Pairs (in_order o a k p) (in_order o a' k' q)
order_pairs o a a' k k' p q e h = grind (arith, both_err, both_ok)

-- two accesses that end alike, and have found the same
pub data Founds : Result Found Cause → Result Found Cause → Type 0 where
  both_denied : (c : Cause) → Founds (Err c) (Err c)
  both_found : (d e : Found) → d.value ≡ e.value → Founds (Ok d) (Ok e)

module _ (change : ℕ → ℕ) where
  word_moved : (w : Maps) (x : Space) (i : ℕ) → word_in (moved_maps change w) x i ≡ moved x change (word_in w x i)
  word_moved w Code i = get_or-map (moved Code change) w.codes i 3
  word_moved w Data i = get_or-map (moved Data change) w.datas i 3

  admits_any_lem : (u : Purpose) (w : ℕ) → admits u w ≡ true → admits_any (space_of u) w ≡ true
  admits_any_lem u w e = grind (arith, nat_tests)

  low_moved : (x : Space) (w : ℕ) → moved x change w % 4 ≡ w % 4
  low_moved x w = cond_both (admits_any x w) (change (page_of w) * 16 + w % 16) w (λ y. y % 4 ≡ w % 4) (λ _. omega arith) (λ _. refl)

  admits_low : (u : Purpose) (w v : ℕ) → w % 4 ≡ v % 4 → admits u w ≡ admits u v
  admits_low u w v e = grind arith

  page_moved : (u : Purpose) (w : ℕ) → admits u w ≡ true → page_of (moved (space_of u) change w) ≡ change (page_of w)
  page_moved u w e = rw (admits_any_lem u w e) (omega arith)

  module _ (w : Maps) (s t : Store) (same : SightBut change w s t) where
    check_pairs : (q : Request) → Pairs (check s w q) (check t (moved_maps change w) q)
    check_pairs q =
        let u = q.purpose in
        let a = q.address in
        let v = map_word w u a in
        let e : map_word (moved_maps change w) u a ≡ moved (space_of u) change v = word_moved w (space_of u) (a / 4096) in
        order_pairs (odd q.width a) _ _ _ _ _ _
        (sym (ap (admits u) e ∙ admits_low u _ _ (low_moved (space_of u) v)))
        (λ h. ap (serves u) (same.kinds (page_of v) (record { purpose = u; opens = record { at = a / 4096; admitting = h; page = refl } })
        ∙ ap t.kinds (sym (ap page_of e ∙ page_moved u v h))))

    pub shift : (q : Request) (p r : ℕ) → Passed s w q p → Passed t (moved_maps change w) q r → shifted change p ≡ r
    shift q p r h k =
        let u = q.purpose in
        let a = q.address in
        let v = map_word w u a in
        let e : page_of (map_word (moved_maps change w) u a) ≡ change (page_of v) = ap page_of (word_moved w (space_of u) (a / 4096)) ∙ page_moved u v h.opened in
        let f : change (p / 4096) ≡ change (page_of v) = ap change (ap (λ x. x / 4096) (sym h.at) ∙ page v a) in
        let g = h.at in
        let i = k.at in
        omega arith

    pub shift_next : (u : Purpose) (a p r : ℕ) → Passed s w (word_of u a) p → Passed t (moved_maps change w) (word_of u a) r → shifted change (p + 1) ≡ r + 1
    shift_next u a p r h k =
        let e = shift (word_of u a) p r h k in
        let v = map_word w u a in
        let g : (p + 1) / 4096 ≡ p / 4096 = ap (λ x. (x + 1) / 4096) (sym h.at) ∙ (page_next v a h.even ∙ (sym (page v a) ∙ ap (λ x. x / 4096) h.at)) in
        let f : change ((p + 1) / 4096) ≡ change (p / 4096) = ap change g in
        omega arith

    byte_twin : (u : Purpose) (p : ℕ) → Shown s w u (p / 4096) → s.cells p ≡ t.cells (shifted change p)
    byte_twin u p h = same.bytes p (record { purpose = u; opens = h.0 }) h.1

    value_twin : (u : Purpose) (x : Width) (a p r : ℕ) → Passed s w (request u x a) p → Passed t (moved_maps change w) (request u x a) r → value_at s x p ≡ value_at t x r
    value_twin u Word a p r h k =
        ap₂ (λ y z. y + 256 * z) (byte_twin u p (shown_at s w (word_of u a) p h) ∙ ap t.cells (shift (word_of u a) p r h k))
        (byte_twin u (p + 1) (shown_after s w u a p h) ∙ ap t.cells (shift_next u a p r h k))
    value_twin u Byte a p r h k =
        ap (λ y. (extended y).0) (byte_twin u p (shown_at s w (request u Byte a) p h) ∙ ap t.cells (shift (request u Byte a) p r h k))

    found_twin : (u : Purpose) (x : Width) (a p r : ℕ) → Passed s w (request u x a) p → Passed t (moved_maps change w) (request u x a) r → (found_at s u x p).value ≡ (found_at t u x r).value
    found_twin u x a p r h k = grind (arith, value_twin)

    granted_founds : (q : Request) (x y : Result ℕ Cause) → Pairs x y → check s w q ≡ x → check t (moved_maps change w) q ≡ y → Founds (granted s q x) (granted t q y)
    granted_founds q x y (both_err c) e f = both_denied c
    granted_founds q x y (both_ok p r) e f =
        both_found _ _ (found_twin q.purpose q.width q.address p r (passed s w q p e) (passed t (moved_maps change w) q r f))

    access_founds : (q : Request) → Founds (accessed s w q) (accessed t (moved_maps change w) q)
    access_founds q = granted_founds q _ _ (check_pairs q) refl refl

    -- two verdicts that end alike, with what is known of an action that is carried out
    pub data Twin : Verdict → Verdict → Type 0 where
      interrupts : Twin Interrupt Interrupt
      faults : (x : Trap) → Twin (Fault x) (Fault x)
      both_go : (act : Action) (d e : Found) → reach_of s w act ≡ Ok d → reach_of t (moved_maps change w) act ≡ Ok e → d.value ≡ e.value → Twin (Go act d) (Go act e)

    module _ (pc : ℕ) (full full' : Bool) where
      suited_twin : (b : Bool) (act : Action) (d e : Found) → reach_of s w act ≡ Ok d → reach_of t (moved_maps change w) act ≡ Ok e → d.value ≡ e.value
          → Twin (suited b false pc act d) (suited b false pc act e)
      suited_twin false act d e h k v = faults (record { cause = Illegal; address = pc; space = Code })
      suited_twin true act d e h k v = both_go act d e h k v

      written_twin : (act : Action) (d e : Found) (o : Option SpecialWrite) → reach_of s w act ≡ Ok d → reach_of t (moved_maps change w) act ≡ Ok e → d.value ≡ e.value
          → Twin (written User pc full act d o) (written User pc full' act e o)
      written_twin act d e None h k v = both_go act d e h k v
      written_twin act d e (Some x) h k v =
          subst (λ b. Twin (suited (accepts (register User x.number) x.value) (b && full) pc act d) (suited (accepts (register User x.number) x.value) (b && full') pc act e))
          (sym (user_prints x.number)) (suited_twin (accepts (register User x.number) x.value) act d e h k v)

      writes_twin : (act : Action) (d e : Found) → d.value ≡ e.value → writes act d ≡ writes act e
      writes_twin act d e h = grind arith

      admitted_twin : (act : Action) (d e : Found) → reach_of s w act ≡ Ok d → reach_of t (moved_maps change w) act ≡ Ok e → d.value ≡ e.value
          → Twin (admitted User pc full act d) (admitted User pc full' act e)
      admitted_twin act d e h k v =
          subst (λ o. Twin (written User pc full act d (writes act d)) (written User pc full' act e o)) (writes_twin act d e v) (written_twin act d e (writes act d) h k v)

      answered_twin : (act : Action) (q : Request) (x y : Result Found Cause) → Founds x y → reach_of s w act ≡ x → reach_of t (moved_maps change w) act ≡ y
          → Twin (answered User pc full act q x) (answered User pc full' act q y)
      answered_twin act q x y (both_denied c) h k = faults (record { cause = c; address = q.address; space = space_of q.purpose })
      answered_twin act q x y (both_found d e v) h k = admitted_twin act d e h k v

      reached_twin : (act : Action) (o : Option Request) → asks act ≡ o → Twin (reached User w pc full s act o) (reached User (moved_maps change w) pc full' t act o)
      reached_twin act None a = admitted_twin act nothing_found nothing_found (ap (reach_by s w) a) (ap (reach_by t (moved_maps change w)) a) refl
      reached_twin act (Some q) a = answered_twin act q _ _ (access_founds q) (ap (reach_by s w) a) (ap (reach_by t (moved_maps change w)) a)

      permitted_twin : (b : Bool) (v v' : Verdict) → Twin v v' → Twin (permitted b pc v) (permitted b pc v')
      permitted_twin b v v' h = grind (arith, faults)

      judged_twin : (act : Action) → Twin (judged User w pc full s act) (judged User (moved_maps change w) pc full' t act)
      judged_twin act = permitted_twin (legal User act) _ _ (reached_twin act (asks act) refl)

      module _ (f : Registers) where
        decoded_twin : (o : Option Instr) → Twin (decoded_as User (record { file = f; maps = w }) pc full s o) (decoded_as User (record { file = f; maps = moved_maps change w }) pc full' t o)
        decoded_twin o = let j = λ (i : Instr). judged_twin (planned i f pc) in grind (arith, faults)

        fetched_twin : (x y : Result Found Cause) → Founds x y
            → Twin (fetched User (record { file = f; maps = w }) pc full s x) (fetched User (record { file = f; maps = moved_maps change w }) pc full' t y)
        fetched_twin x y (both_denied c) = faults (record { cause = c; address = pc; space = Code })
        fetched_twin x y (both_found d e v) = let g = decoded_twin (instr_of d.value) in let i = ap instr_of v in grind arith

        pub verdict_twin : (irq : Bool) → Twin (verdict User (record { file = f; maps = w }) pc irq full s) (verdict User (record { file = f; maps = moved_maps change w }) pc irq full' t)
        verdict_twin true = interrupts
        verdict_twin false = fetched_twin _ _ (access_founds (word_of Fetch pc))
