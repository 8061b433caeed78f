use Rattle.std.proofs.Common.{ℕ, ◌≡◌, ◌+◌, Some, None, Result, Ok, Err, OnOk, OnErr, List, ◌∷◌, sym, ap, ◌∙◌, subst, refl, arith, true}
use Rattle.std.specs.Prelude.{◌==◌}
use Rattle.mark_core.specs.Seats.{work_in_hand}
use Rattle.mark_core.specs.declared.kinds.Shape.{Shape}
use Rattle.mark_core.specs.declared.kinds.Step.TheVariants.{Push}
use Rattle.mark_core.specs.declared.seat.SeatState.{SeatState}
use Rattle.gc_table.specs.Seats.{Stored, view_of}
use Rattle.packet_pools.specs.Hands.{HoldsPacket}
use Rattle.packet_pools.proofs.TracedSteps.{traced-join}
use Rattle.tracer.specs.Hands.{Carries}
use Rattle.tracer.specs.Parts.{Did}
use Rattle.tracer.proofs.Carried.{carries-give, carries-set}
use Rattle.tracer.proofs.Hand.{popped-fresh, pushed-work}
use Rattle.tracer.proofs.Joined.{did-then}
use Rattle.tracer.proofs.OneStep.{did-push, did-deferred}
use Rattle.gc_table.specs.declared.view.View.{View}
use Rattle.packet_pools.specs.declared.held.Held.{Held}
use Rattle.gc_table.specs.Log.{events}
use Rattle.packet_pools.specs.StepBounds.{give_steps}
use Rattle.packet_pools.proofs.Few.{few-after, few-join, few-steps, given-few}
use Rattle.tracer.proofs.Few.{deferring-full, deferring-push}
use Rattle.tracer.proofs.deferring.put_into.Goals as goal

-- there was room
sure : {A E : Type 0} (r : Result A E) (P Q : Type 0) → OnOk r P → OnErr r Q → (Q → ⊥) → P
sure (Ok x) P Q p q n = p
sure (Err x) P Q p q n = absurd (n q)

filled : (v w : View) (h k : Held) (x : ℕ) (hs : List Held) → k ≡ record h { length = h.length + 1 } → Stored (Push h.packet x) v w → HoldsPacket k w → Carries (h ∷ hs) v → Carries (k ∷ hs) w
filled v w h k x hs is e held c = carries-set v w (ap (λ (z : View). z.shape) e) h k _ _ hs (ap (λ (h : Held). h.packet) is) held (ap (λ (z : View). z.state.held) e) c

pub returns-clause-packets : goal.returns-clause-packets
returns-clause-packets c =
    let v : View = view_of c.args.seat.now in
    let w : View = view_of c.push-pushed.new.seat in
    let e = c.push-pushed.ensures in
    let p = sure c.push-pushed.result _ _ e.pushed e.full (λ q. let r = c.requires.held.1 in let l = q.0 in absurd (omega (arith, r, l))) in
    λ hs k. filled v w c.args.held c.push-pushed.new.held c.args.cell hs p.1 p.2 e.held k

pub returns-clause-work : goal.returns-clause-work
returns-clause-work c =
    let v : View = view_of c.args.seat.now in
    let w : View = view_of c.push-pushed.new.seat in
    let e = c.push-pushed.ensures in
    let p = sure c.push-pushed.result _ _ e.pushed e.full (λ q. let r = c.requires.held.1 in let l = q.0 in absurd (omega (arith, r, l))) in
    ap (λ (sh : Shape). work_in_hand sh.fields w.state) (sym e.seat.0.1) ∙ pushed-work v w c.args.held.packet c.args.cell _ c.requires.cell p.2

pub returns-then-length-shape-clause-only : goal.returns-then-length-shape-clause-only
returns-then-length-shape-clause-only c = traced-join (view_of c.args.seat.now) (view_of c.push-pushed.new.seat) (view_of c.give.new.seat) c.push-pushed.ensures.only c.give.ensures.only

pub returns-then-length-shape-clause-packets : goal.returns-then-length-shape-clause-packets
returns-then-length-shape-clause-packets c =
    let v : View = view_of c.args.seat.now in
    let w : View = view_of c.push-pushed.new.seat in
    let x : View = view_of c.give.new.seat in
    let e = c.push-pushed.ensures in
    let p = sure c.push-pushed.result _ _ e.pushed e.full (λ q. let r = c.requires.held.1 in let l = q.0 in absurd (omega (arith, r, l))) in
    λ hs k. carries-give w x c.give.ensures.only.shape c.push-pushed.new.held hs (ap (λ (s : SeatState). s.held) c.give.ensures.state) (filled v w c.args.held c.push-pushed.new.held c.args.cell hs p.1 p.2 e.held k)

pub returns-then-length-shape-clause-work : goal.returns-then-length-shape-clause-work
returns-then-length-shape-clause-work c =
    let sh : Shape = c.args.heap.now.shape in
    let v : View = view_of c.args.seat.now in
    let w : View = view_of c.push-pushed.new.seat in
    let e = c.push-pushed.ensures in
    let p = sure c.push-pushed.result _ _ e.pushed e.full (λ q. let r = c.requires.held.1 in let l = q.0 in absurd (omega (arith, r, l))) in
    ap (work_in_hand sh.fields) c.give.ensures.state ∙ (ap (λ (s : Shape). work_in_hand s.fields w.state) (sym e.seat.0.1) ∙ pushed-work v w c.args.held.packet c.args.cell _ c.requires.cell p.2)

pub returns-then-length-shape-clause-part : goal.returns-then-length-shape-clause-part
returns-then-length-shape-clause-part c =
    let v : View = view_of c.args.seat.now in
    let w : View = view_of c.push-pushed.new.seat in
    let x : View = view_of c.give.new.seat in
    let h : Held = c.args.held in
    let k : Held = c.push-pushed.new.held in
    let e = c.push-pushed.ensures in
    let p = sure c.push-pushed.result _ _ e.pushed e.full (λ q. let r = c.requires.held.1 in let l = q.0 in absurd (omega (arith, r, l))) in
    λ o either.
    did-then o (Some h.packet) None 0 0 1 0 0 0 0 1 0 v w x e.only c.give.ensures.only refl refl refl
    (did-push o h.packet c.args.cell _ v w p.2 (popped-fresh v w h.packet c.args.cell _ c.requires.cell p.2) either)
    (subst (λ q. Did (Some q) None 0 0 0 w (events w x)) (ap (λ (h : Held). h.packet) p.1) (did-deferred k.packet (k.length == 0) w (events w x) c.give.ensures.steps))

pub returns-clause-few : goal.returns-clause-few
returns-clause-few c =
    let v : View = view_of c.args.seat.now in
    let w : View = view_of c.push-pushed.new.seat in
    let e = c.push-pushed.ensures in
    let p = sure c.push-pushed.result _ _ e.pushed e.full (λ q. let r = c.requires.held.1 in let l = q.0 in absurd (omega (arith, r, l))) in
    deferring-push c.args.heap.now.shape c.args.held c.push-pushed.new.held _ (ap (λ (h : Held). h.length) p.1) (few-after v w _ _ p.2)

pub returns-then-length-shape-clause-few : goal.returns-then-length-shape-clause-few
returns-then-length-shape-clause-few c =
    let v : View = view_of c.args.seat.now in
    let w : View = view_of c.push-pushed.new.seat in
    let x : View = view_of c.give.new.seat in
    let k : Held = c.push-pushed.new.held in
    let e = c.push-pushed.ensures in
    let g = c.give.ensures in
    let p = sure c.push-pushed.result _ _ e.pushed e.full (λ q. let r = c.requires.held.1 in let l = q.0 in absurd (omega (arith, r, l))) in
    let few = few-join 1 give_steps v w x e.only.ran g.only.ran (few-after v w _ _ p.2) (few-steps give_steps w x _ g.steps (given-few k.packet true (k.length == 0))) in
    let full = c.if-length-shape.true in
    deferring-full c.args.heap.now.shape c.args.held k _ (ap (λ (h : Held). h.length) p.1) (grind (arith, full)) few
