use Rattle.std.proofs.Common.{◌≡◌, refl, ap, ◌∙◌, Bool, ◌⊎◌, inl, inr, ⊎_elim}
use Rattle.std.proofs.lemmas.Bool.{or_right}
use Rattle.mark_core.specs.declared.kinds.Phase.TheVariants.{Drain, Idle, Marking}
use Rattle.mark_core.specs.declared.kinds.Step.TheVariants.{StorePhase}
use Rattle.mark_core.specs.Places.{the_phase}
use Rattle.mark_core.specs.Steps.WorldSteps.{begins_exact}
use Rattle.gc_table.specs.Seats.{Answered, view_of}
use Rattle.gc_table.specs.Taking.{won}
use Rattle.gc_table.specs.declared.view.View.{View}
use Rattle.gc_table.specs.Running.{Ran}
use Rattle.gc_table.proofs.Noticing.{found-noted}
use Rattle.gc_table.proofs.Running.{ran-join}
use Rattle.gc_cycle.specs.Finishing.{IsAloneIn, IsMove}
use Rattle.gc_cycle.proofs.Ends.Moving.{may-begin_drain, may-reset_drain, moved}
use Rattle.gc_cycle.proofs.Parts.{move-events, part-reset}
use Rattle.gc_cycle.proofs.draining.begin_drain.Goals as goal

-- the move, whichever phase it was
begun : (v w : View) (r : Bool) → IsAloneIn Idle v ⊎ IsAloneIn Marking v → Answered (StorePhase Drain) (λ n. r ≡ won (StorePhase Drain) n) v w → IsMove Idle Drain v w ⊎ IsMove Marking Drain v w
begun v w r h t =
    ⊎_elim
    (λ (a : IsAloneIn Idle v). inl (moved Idle Drain v w t.0 refl a t.1 t.2))
    (λ (a : IsAloneIn Marking v). inr (moved Marking Drain v w t.0 refl a t.1 t.2))
    h

drains : (v w : View) → IsMove Idle Drain v w ⊎ IsMove Marking Drain v w → IsAloneIn Drain w
drains v w m = ⊎_elim (λ (x : IsMove Idle Drain v w). x.alone) (λ (x : IsMove Marking Drain v w). x.alone) m

runs : (v w : View) → IsMove Idle Drain v w ⊎ IsMove Marking Drain v w → Ran v w
runs v w m = ⊎_elim (λ (x : IsMove Idle Drain v w). x.ran) (λ (x : IsMove Marking Drain v w). x.ran) m

pub store_phase-requires-clause-may : goal.store_phase-requires-clause-may
store_phase-requires-clause-may c = may-begin_drain (view_of c.args.seat.now) c.requires.alone

pub reset-requires-clause-may : goal.reset-requires-clause-may
reset-requires-clause-may c =
    let v : View = view_of c.args.seat.now in
    let w : View = view_of c.store_phase.new.seat in
    may-reset_drain 0 w refl (drains v w (begun v w c.store_phase.result c.requires.alone c.store_phase.ensures.view))

pub returns-clause-ran : goal.returns-clause-ran
returns-clause-ran c =
    let v : View = view_of c.args.seat.now in
    let w : View = view_of c.store_phase.new.seat in
    let x : View = view_of c.reset.new.seat in
    let m = begun v w c.store_phase.result c.requires.alone c.store_phase.ensures.view in
    ran-join v w x (runs v w m) (part-reset Drain 0 w x c.reset.ensures.view (drains v w m)).ran

pub returns-clause-alone : goal.returns-clause-alone
returns-clause-alone c =
    let v : View = view_of c.args.seat.now in
    let w : View = view_of c.store_phase.new.seat in
    let x : View = view_of c.reset.new.seat in
    (part-reset Drain 0 w x c.reset.ensures.view (drains v w (begun v w c.store_phase.result c.requires.alone c.store_phase.ensures.view))).alone

pub returns-clause-events : goal.returns-clause-events
returns-clause-events c =
    λ p a.
    let v : View = view_of c.args.seat.now in
    let w : View = view_of c.store_phase.new.seat in
    let t = c.store_phase.ensures.view in
    move-events p Drain 0 v w (view_of c.reset.new.seat) (moved p Drain v w t.0 refl a t.1 t.2) c.reset.ensures.view

pub returns-clause-exact : goal.returns-clause-exact
returns-clause-exact c =
    λ a.
    let v : View = view_of c.args.seat.now in
    let w : View = view_of c.store_phase.new.seat in
    let t = c.store_phase.ensures.view in
    let from : t.0 ≡ 0 = found-noted v (StorePhase Drain) t.0 0 the_phase t.2 refl a.alone.phase in
    ap (λ (x : View). x.state.exact) c.reset.ensures.view
    ∙ (ap (λ (x : View). x.state.exact) t.1 ∙ or_right v.state.exact (begins_exact t.0 Drain) (ap (λ n. begins_exact n Drain) from))
