use Rattle.std.proofs.Common.{◌≡◌, Some, None, cond, Bool, true, false, Option, ℕ, List, [], ◌∷◌, sym, ap, ◌∙◌, subst, refl, ◌≤◌, length}
use Rattle.std.specs.Prelude.{◌==◌}
use Rattle.mark_core.specs.declared.kinds.Step.TheVariants.{Credit, Give, StoreLength}
use Rattle.mark_core.specs.declared.seat.SeatState.{SeatState}
use Rattle.gc_table.specs.declared.view.Entry.{Entry}
use Rattle.gc_table.specs.Log.{steps_of, events}
use Rattle.packet_pools.proofs.Counting.{given-moves}
use Rattle.tracer.specs.Hands.{Carries, in_front, packet_of}
use Rattle.tracer.specs.Parts.{Did}
use Rattle.tracer.proofs.Carried.{carries-give}
use Rattle.tracer.proofs.Quiet.{did-moves}
use Rattle.tracer.proofs.OneStep.{did-none, did-deferred}
use Rattle.gc_table.specs.declared.view.View.{View}
use Rattle.gc_table.specs.Seats.{view_of}
use Rattle.packet_pools.specs.Seeking.{output_pools}
use Rattle.packet_pools.specs.declared.held.Held.{Held}
use Rattle.packet_pools.specs.StepBounds.{give_steps}
use Rattle.tracer.specs.StepBounds.{given_steps}
use Rattle.packet_pools.proofs.Few.{few-steps, given-few}
use Rattle.tracer.proofs.packets.give_some.Goals as goal

either : (d : Bool) (o : Option ℕ) (p : ℕ) (b : Bool) (v : View) (es : List Entry) → steps_of es ≡ StoreLength p ∷ Give p d ∷ (cond b (Credit ∷ []) []) → (d ≡ true → o ≡ Some p) → Did o (cond d None o) 0 0 0 v es
either true o p b v es e is = subst (λ x. Did x None 0 0 0 v es) (sym (is refl)) (did-deferred p b v es e)
either false o p b v es e is = did-moves o v es (given-moves output_pools p b es e)

nothing : (d : Bool) (o : Option ℕ) (v : View) (es : List Entry) → es ≡ [] → (d ≡ true → o ≡ None) → Did o (cond d None o) 0 0 0 v es
nothing true o v es e is = subst (λ x. Did x None 0 0 0 v es) (sym (is refl)) (did-none None v es e)
nothing false o v es e is = did-none o v es e

pub returns-in-Some-clause-packets : goal.returns-in-Some-clause-packets
returns-in-Some-clause-packets c =
    let v : View = view_of c.args.seat.now in
    let w : View = view_of c.give.new.seat in
    let e = c.give.ensures in
    λ hs k. carries-give v w e.only.shape c.in-Some.held hs (ap (λ (s : SeatState). s.held) e.state) (subst (λ r. Carries (in_front r hs) v) c.in-Some.is k)

pub returns-in-Some-clause-part : goal.returns-in-Some-clause-part
returns-in-Some-clause-part c =
    let v : View = view_of c.args.seat.now in
    let w : View = view_of c.give.new.seat in
    let h : Held = c.in-Some.held in
    λ o is. either c.args.deferred o h.packet (h.length == 0) v (events v w) c.give.ensures.steps (λ d. is d ∙ ap packet_of c.in-Some.is)

pub returns-in-Some-clause-few : goal.returns-in-Some-clause-few
returns-in-Some-clause-few c =
    let h : Held = c.in-Some.held in
    let few = few-steps give_steps (view_of c.args.seat.now) (view_of c.give.new.seat) _ c.give.ensures.steps (given-few h.packet c.args.deferred (h.length == 0)) in
    subst (λ o. length (events (view_of c.args.seat.now) (view_of c.give.new.seat)) ≤ given_steps o) (sym c.in-Some.is) few
