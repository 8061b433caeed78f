use Rattle.std.proofs.Common.{◌+◌, ◌∙◌, ap, refl, sym}
use Rattle.mark_core.specs.declared.kinds.Step.TheVariants.{StoreValue}
use Rattle.plain_heap.specs.PlainHeap.{Heap, variable}
use Rattle.plain_heap.specs.PlainStep.{stored_at, with_value}
use Rattle.plain_heap.specs.declared.object.Object.{Object}
use Rattle.plain_heap.specs.declared.operation.Op.TheVariants as ops
use Rattle.gc_table.specs.Seats.{view_of}
use Rattle.gc_table.specs.declared.view.SectionState.{SectionState}
use Rattle.gc_table.specs.declared.view.View.{View}
use Rattle.gc_table.proofs.History.Log.{only-after}
use Rattle.gc_table.proofs.Running.{ran-stored}
use Rattle.mutator_ops.specs.Doing.{belongs, with_dropped, Does}
use Rattle.mutator_ops.specs.Holding.{held_kind}
use Rattle.mutator_ops.proofs.Holdings.{stored-nothing, stored-lent, stored-own, own-undropped}
use Rattle.mutator_ops.proofs.Stepping.{once-after}
use Rattle.mutator_ops.proofs.Knowing.{ready-does}
use Rattle.mutator_ops.proofs.Storing.{looks-does, stores-does, reads-put}
use Rattle.mutator_ops.proofs.ShareCreating.{looked-lent, looked-nothing, looked-own}
use Rattle.mutator_ops.proofs.objects.put.Goals as goal
use Rattle.alloc_cache.proofs.Cells.{steps-after}

pub returns-in-Nothing-clause-does : goal.returns-in-Nothing-clause-does
returns-in-Nothing-clause-does c =
    let v : View = view_of c.args.seat.now in
    let w : View = view_of c.look_at.new.seat in
    let k = c.look_at.ensures.looks in
    looks-does (ops.Put c.args.v c.args.n) 0 v w (reads-put c.args.v c.args.n) k
    (λ d. ap (λ (x : SectionState). with_dropped (d + 0) x.meaning.heap) k.own ∙ stored-nothing d v.own.meaning.heap (variable v.own.meaning.heap c.args.v) (λ (o : Object). with_value o c.args.n) (sym c.in-Nothing.is ∙ c.look_at.ensures.answer))

pub returns-in-LentObject-clause-does : goal.returns-in-LentObject-clause-does
returns-in-LentObject-clause-does c =
    let v : View = view_of c.args.seat.now in
    let w : View = view_of c.look_at.new.seat in
    let k = c.look_at.ensures.looks in
    looks-does (ops.Put c.args.v c.args.n) 1 v w (reads-put c.args.v c.args.n) k
    (λ d. ap (λ (x : SectionState). with_dropped (d + 1) x.meaning.heap) k.own ∙ stored-lent d v.own.meaning.heap (variable v.own.meaning.heap c.args.v) (λ (o : Object). with_value o c.args.n) (sym c.in-LentObject.is ∙ c.look_at.ensures.answer))

done : (c : goal.After-store_value) → Does (ops.Put c.args.v c.args.n) 0 (view_of c.args.seat.now) (view_of c.store_value.new.seat)
done c =
    let v : View = view_of c.args.seat.now in
    let x : View = view_of c.look_at.new.seat in
    let w : View = view_of c.store_value.new.seat in
    let k = c.look_at.ensures.looks in
    let e = c.store_value.ensures in
    let own = ap (λ (y : View). y.own) e.view in
    stores-does (ops.Put c.args.v c.args.n) v x w (reads-put c.args.v c.args.n) k (ran-stored x w (StoreValue c.args.v c.args.n) refl e.view) (only-after (belongs (ops.Put c.args.v c.args.n)) x w (StoreValue c.args.v c.args.n) _ refl e.view)
    (ap (λ (y : View). y.state) e.view)
    (own ∙ ap (λ (y : SectionState). record x.own { meaning = y.meaning; history = y.history; settled = y.settled }) (sym own))
    (once-after x w (StoreValue c.args.v c.args.n) _ e.view)
    (λ d. ap (λ (h : Heap). with_dropped (d + 0) h) e.plain
    ∙ ap (λ (y : SectionState). with_dropped (d + 0) (stored_at y.meaning.heap (variable y.meaning.heap c.args.v) (λ (o : Object). with_value o c.args.n))) k.own
    ∙ stored-own d v.own.meaning.heap (variable v.own.meaning.heap c.args.v) (λ (o : Object). with_value o c.args.n) (sym c.in-OwnObject.is ∙ c.look_at.ensures.answer))
    (ap (λ (h : Heap). h.dropped) e.plain
    ∙ own-undropped x.own.meaning.heap (variable x.own.meaning.heap c.args.v) (λ (o : Object). with_value o c.args.n) (sym c.in-OwnObject.is ∙ c.look_at.ensures.answer ∙ ap (λ (y : SectionState). held_kind (variable y.meaning.heap c.args.v)) (sym k.own)))

pub returns-in-OwnObject-clause-does : goal.returns-in-OwnObject-clause-does
returns-in-OwnObject-clause-does c = done c

pub returns-in-OwnObject-clause-seat : goal.returns-in-OwnObject-clause-seat
returns-in-OwnObject-clause-seat c = (c.store_value.ensures.seat.0, ready-does (ops.Put c.args.v c.args.n) 0 (view_of c.args.seat.now) (view_of c.store_value.new.seat) refl c.requires.seat.1 (done c))

pub returns-in-Nothing-clause-steps : goal.returns-in-Nothing-clause-steps
returns-in-Nothing-clause-steps c = looked-nothing _ _ (view_of c.args.seat.now) (view_of c.look_at.new.seat) c.look_at.result _ c.look_at.ensures.steps c.in-Nothing.is c.look_at.ensures.answer

pub returns-in-LentObject-clause-steps : goal.returns-in-LentObject-clause-steps
returns-in-LentObject-clause-steps c = looked-lent _ _ (view_of c.args.seat.now) (view_of c.look_at.new.seat) c.look_at.result _ c.look_at.ensures.steps c.in-LentObject.is c.look_at.ensures.answer

pub returns-in-OwnObject-clause-steps : goal.returns-in-OwnObject-clause-steps
returns-in-OwnObject-clause-steps c =
    let x : View = view_of c.look_at.new.seat in
    let w : View = view_of c.store_value.new.seat in
    let e = c.store_value.ensures in
    looked-own _ _ (view_of c.args.seat.now) x w c.look_at.result _ c.look_at.ensures.looks.ran e.ran c.look_at.ensures.steps c.in-OwnObject.is c.look_at.ensures.answer (steps-after x w (StoreValue c.args.v c.args.n) _ e.view)
