use Rattle.std.proofs.Common.{◌≡◌, ◌≤◌, [], ◌∷◌, arith, refl, sym, ap, ◌∙◌, subst}
use Rattle.std.proofs.lemmas.Bool.{or_right}
use Rattle.mark_core.specs.Layout.{block_count}
use Rattle.mark_core.specs.Numbers.{card_counter}
use Rattle.mark_core.specs.Places.{the_phase}
use Rattle.mark_core.specs.Steps.WorldSteps.{begins_exact}
use Rattle.mark_core.specs.declared.kinds.Phase.TheVariants.{Clear, Drain}
use Rattle.mark_core.specs.declared.kinds.Shape.{Shape}
use Rattle.mark_core.specs.declared.kinds.Step.TheVariants.{Reset, StorePhase}
use Rattle.gc_table.specs.Seats.{view_of}
use Rattle.gc_table.specs.declared.view.View.{View}
use Rattle.gc_table.specs.Log.{all_steps, event}
use Rattle.gc_table.proofs.Noticing.{found-noted}
use Rattle.gc_table.proofs.Running.{ran-join}
use Rattle.sweeper.specs.Freeing.{freed_in, block_floor}
use Rattle.card_clean.specs.Leaving.{rescanned_in}
use Rattle.gc_cycle.specs.Finishing.{finishes, IsMove}
use Rattle.gc_cycle.proofs.Ends.Moving.{may-begin_again, may-reset_drain, moved}
use Rattle.gc_cycle.proofs.Parts.{move-events, part-reset}
use Rattle.gc_cycle.proofs.Changes.{course-begun}
use Rattle.gc_cycle.proofs.Few.{few-events}
use Rattle.gc_cycle.proofs.clearing.begin_again.Goals as goal

pub store_phase-requires-clause-may : goal.store_phase-requires-clause-may
store_phase-requires-clause-may c =
    let v : View = view_of c.args.seat.now in
    may-begin_again v c.requires.alone (subst (λ (sh : Shape). block_count sh ≤ block_floor v) (sym c.requires.seat.1) c.requires.end)

pub reset-requires-clause-may : goal.reset-requires-clause-may
reset-requires-clause-may c =
    let w : View = view_of c.store_phase.new.seat in
    let t = c.store_phase.ensures.view in
    may-reset_drain 0 w refl (moved Clear Drain (view_of c.args.seat.now) w t.0 refl c.requires.alone t.1 t.2).alone

pub returns-clause-begun : goal.returns-clause-begun
returns-clause-begun c =
    let v : View = view_of c.args.seat.now in
    let w : View = view_of c.store_phase.new.seat in
    let x : View = view_of c.reset.new.seat in
    let t = c.store_phase.ensures.view in
    let m : IsMove Clear Drain v w = moved Clear Drain v w t.0 refl c.requires.alone t.1 t.2 in
    let from : t.0 ≡ 4 = found-noted v (StorePhase Drain) t.0 4 the_phase t.2 refl c.requires.alone.alone.phase in
    let r = part-reset Drain 0 w x c.reset.ensures.view m.alone in
    record {
      ran = ran-join v w x m.ran r.ran;
      only = ap (all_steps finishes) (move-events Clear Drain 0 v w x m c.reset.ensures.view);
      alone = r.alone;
      exact =
          ap (λ (y : View). y.state.exact) c.reset.ensures.view
          ∙ (ap (λ (y : View). y.state.exact) t.1 ∙ or_right v.state.exact (begins_exact t.0 Drain) (ap (λ n. begins_exact n Drain) from));
      before = [];
      rest = event (Reset card_counter) 0 ∷ [];
      move = event (StorePhase Drain) 4;
      all = move-events Clear Drain 0 v w x m c.reset.ensures.view;
      begins = refl;
      stayed = refl;
      fresh = refl;
      not_full = refl;
      unbegun = refl;
      unended = refl;
    }

pub returns-clause-rescanned : goal.returns-clause-rescanned
returns-clause-rescanned c =
    let v : View = view_of c.args.seat.now in
    let w : View = view_of c.store_phase.new.seat in
    let t = c.store_phase.ensures.view in
    ap (rescanned_in v) (move-events Clear Drain 0 v w (view_of c.reset.new.seat) (moved Clear Drain v w t.0 refl c.requires.alone t.1 t.2) c.reset.ensures.view)

pub returns-clause-freed : goal.returns-clause-freed
returns-clause-freed c =
    let v : View = view_of c.args.seat.now in
    let w : View = view_of c.store_phase.new.seat in
    let t = c.store_phase.ensures.view in
    ap (freed_in v) (move-events Clear Drain 0 v w (view_of c.reset.new.seat) (moved Clear Drain v w t.0 refl c.requires.alone t.1 t.2) c.reset.ensures.view)

pub returns-clause-course : goal.returns-clause-course
returns-clause-course c =
    let v : View = view_of c.args.seat.now in
    let w : View = view_of c.store_phase.new.seat in
    let x : View = view_of c.reset.new.seat in
    let t = c.store_phase.ensures.view in
    let m : IsMove Clear Drain v w = moved Clear Drain v w t.0 refl c.requires.alone t.1 t.2 in
    course-begun 4 v x (ran-join v w x m.ran (part-reset Drain 0 w x c.reset.ensures.view m.alone).ran) (move-events Clear Drain 0 v w x m c.reset.ensures.view)

pub returns-clause-few : goal.returns-clause-few
returns-clause-few c =
    let v : View = view_of c.args.seat.now in
    let w : View = view_of c.store_phase.new.seat in
    let t = c.store_phase.ensures.view in
    few-events 2 v (view_of c.reset.new.seat) _ (move-events Clear Drain 0 v w (view_of c.reset.new.seat) (moved Clear Drain v w t.0 refl c.requires.alone t.1 t.2) c.reset.ensures.view) (omega arith)
