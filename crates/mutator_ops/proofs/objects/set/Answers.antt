use Rattle.std.proofs.Common.{◌+◌, ◌∙◌, ap, refl, sym, Some}
use Rattle.plain_heap.specs.PlainHeap.{Heap, variable}
use Rattle.plain_heap.specs.PlainStep.{stored_at, with_field}
use Rattle.plain_heap.specs.declared.object.Object.{Object}
use Rattle.plain_heap.specs.declared.operation.Op.TheVariants as ops
use Rattle.gc_table.specs.Seats.{view_of}
use Rattle.gc_table.specs.declared.view.SectionState.{SectionState}
use Rattle.gc_table.specs.declared.view.View.{View}
use Rattle.mutator_ops.specs.Doing.{with_dropped, Does}
use Rattle.mutator_ops.specs.Holding.{held_kind}
use Rattle.mutator_ops.proofs.Holdings.{stored-nothing, stored-lent, stored-own, own-undropped}
use Rattle.mutator_ops.proofs.Knowing.{ready-does}
use Rattle.mutator_ops.proofs.Storing.{dirty-later, once-barrier, stored-same, only-barrier, looks-does, stores-does, reads-set}
use Rattle.gc_table.specs.Log.{events}
use Rattle.card_clean.specs.Barrier.{barrier_steps, was_dirty}
use Rattle.mutator_ops.proofs.ShareCreating.{looked-lent, looked-nothing, looked-own}
use Rattle.mutator_ops.proofs.objects.set.Goals as goal

pub returns-in-Nothing-clause-does : goal.returns-in-Nothing-clause-does
returns-in-Nothing-clause-does c =
    let v : View = view_of c.args.seat.now in
    let w : View = view_of c.look_at.new.seat in
    let k = c.look_at.ensures.looks in
    looks-does (ops.Set c.args.v c.args.i c.args.w) 0 v w (reads-set c.args.v c.args.i c.args.w) k
    (λ d. ap (λ (x : SectionState). with_dropped (d + 0) x.meaning.heap) k.own ∙ stored-nothing d v.own.meaning.heap (variable v.own.meaning.heap c.args.v) (λ (o : Object). with_field o c.args.i (variable v.own.meaning.heap c.args.w)) (sym c.in-Nothing.is ∙ c.look_at.ensures.answer))

pub returns-in-LentObject-clause-does : goal.returns-in-LentObject-clause-does
returns-in-LentObject-clause-does c =
    let v : View = view_of c.args.seat.now in
    let w : View = view_of c.look_at.new.seat in
    let k = c.look_at.ensures.looks in
    looks-does (ops.Set c.args.v c.args.i c.args.w) 1 v w (reads-set c.args.v c.args.i c.args.w) k
    (λ d. ap (λ (x : SectionState). with_dropped (d + 1) x.meaning.heap) k.own ∙ stored-lent d v.own.meaning.heap (variable v.own.meaning.heap c.args.v) (λ (o : Object). with_field o c.args.i (variable v.own.meaning.heap c.args.w)) (sym c.in-LentObject.is ∙ c.look_at.ensures.answer))

done : (c : goal.After-store_ref) → Does (ops.Set c.args.v c.args.i c.args.w) 0 (view_of c.args.seat.now) (view_of c.store_ref.new.seat)
done c =
    let v : View = view_of c.args.seat.now in
    let x : View = view_of c.look_at.new.seat in
    let w : View = view_of c.store_ref.new.seat in
    let k = c.look_at.ensures.looks in
    let e = c.store_ref.ensures in
    let q = c.look_at.ensures.seat.1 in
    stores-does (ops.Set c.args.v c.args.i c.args.w) v x w (reads-set c.args.v c.args.i c.args.w) k e.ran (only-barrier x.state c.args.v c.args.i c.args.w _ (was_dirty (events x w)) x w e.steps)
    (e.state ∙ stored-same x.shape.fields x.state c.args.v (was_dirty (events x w)) q.idle q.stores.owes)
    (e.own ∙ ap (λ (y : SectionState). record x.own { meaning = y.meaning; history = y.history; settled = y.settled }) (sym e.own))
    (once-barrier x.state c.args.v c.args.i _ (was_dirty (events x w)) x w e.steps)
    (λ d. ap (λ (h : Heap). with_dropped (d + 0) h) e.plain
    ∙ ap (λ (y : SectionState). with_dropped (d + 0) (stored_at y.meaning.heap (variable y.meaning.heap c.args.v) (λ (o : Object). with_field o c.args.i (variable y.meaning.heap c.args.w)))) k.own
    ∙ stored-own d v.own.meaning.heap (variable v.own.meaning.heap c.args.v) (λ (o : Object). with_field o c.args.i (variable v.own.meaning.heap c.args.w)) (sym c.in-OwnObject.is ∙ c.look_at.ensures.answer))
    (ap (λ (h : Heap). h.dropped) e.plain
    ∙ own-undropped x.own.meaning.heap (variable x.own.meaning.heap c.args.v) (λ (o : Object). with_field o c.args.i (variable x.own.meaning.heap c.args.w)) (sym c.in-OwnObject.is ∙ c.look_at.ensures.answer ∙ ap (λ (y : SectionState). held_kind (variable y.meaning.heap c.args.v)) (sym k.own)))

pub returns-in-OwnObject-clause-does : goal.returns-in-OwnObject-clause-does
returns-in-OwnObject-clause-does c = done c

pub returns-in-OwnObject-clause-seat : goal.returns-in-OwnObject-clause-seat
returns-in-OwnObject-clause-seat c = (c.store_ref.ensures.seat.0, ready-does (ops.Set c.args.v c.args.i c.args.w) 0 (view_of c.args.seat.now) (view_of c.store_ref.new.seat) refl c.requires.seat.1 (done c))

pub returns-in-Nothing-clause-steps : goal.returns-in-Nothing-clause-steps
returns-in-Nothing-clause-steps c = looked-nothing _ _ (view_of c.args.seat.now) (view_of c.look_at.new.seat) c.look_at.result _ c.look_at.ensures.steps c.in-Nothing.is c.look_at.ensures.answer

pub returns-in-LentObject-clause-steps : goal.returns-in-LentObject-clause-steps
returns-in-LentObject-clause-steps c = looked-lent _ _ (view_of c.args.seat.now) (view_of c.look_at.new.seat) c.look_at.result _ c.look_at.ensures.steps c.in-LentObject.is c.look_at.ensures.answer

pub returns-in-OwnObject-clause-steps : goal.returns-in-OwnObject-clause-steps
returns-in-OwnObject-clause-steps c =
    let v : View = view_of c.args.seat.now in
    let x : View = view_of c.look_at.new.seat in
    let w : View = view_of c.store_ref.new.seat in
    let k = c.look_at.ensures.looks in
    let e = c.store_ref.ensures in
    looked-own _ _ v x w c.look_at.result _ k.ran e.ran c.look_at.ensures.steps c.in-OwnObject.is c.look_at.ensures.answer
    (e.steps ∙ (λ j. barrier_steps (k.state j) c.args.v c.args.i (Some c.args.w) (sym (dirty-later v x w k e.ran) j)))
