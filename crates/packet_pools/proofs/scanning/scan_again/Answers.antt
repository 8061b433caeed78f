use Rattle.std.proofs.Common.{ℕ, ◌-◌, [], ◌∷◌, subst, arith, refl}
use Rattle.mark_core.specs.declared.kinds.Shape.{Shape}
use Rattle.gc_table.specs.declared.view.View.{View}
use Rattle.gc_table.specs.Seats.{view_of}
use Rattle.gc_table.specs.Log.{events}
use Rattle.gc_table.proofs.History.Log.{events-join}
use Rattle.packet_pools.proofs.TracedSteps.{traced-join}
use Rattle.packet_pools.specs.Fields.{Follows, fields_from}
use Rattle.packet_pools.proofs.Reading.{fields-first, follows-join}
use Rattle.packet_pools.specs.StepBounds.{follow_steps}
use Rattle.packet_pools.proofs.Few.{few-sum, first-more}
use Rattle.packet_pools.proofs.Tried.{searches-join}
use Rattle.packet_pools.proofs.Counting.{counts-join}
use Rattle.packet_pools.proofs.Rounds.{first-field, read_again}
use Rattle.packet_pools.proofs.scanning.scan_again.Goals as goal

pub scan_field-first-requires-clause-field : goal.scan_field-first-requires-clause-field
scan_field-first-requires-clause-field c =
    let some = c.args.heap.now.shaped.fields.0 in
    (omega (arith, some), first-field c.args.heap.now.shape (view_of c.args.seat.now).state c.args.cell c.requires.left.0 c.requires.left.1)

pub scan_fields-rest-requires-clause-out : goal.scan_fields-rest-requires-clause-out
scan_fields-rest-requires-clause-out c = let p = c.scan_field-first.ensures.pushes.packet in (p.held, p.free)

pub returns-clause-only : goal.returns-clause-only
returns-clause-only c = traced-join (view_of c.args.seat.now) (view_of c.scan_field-first.new.seat) (view_of c.scan_fields-rest.new.seat) c.scan_field-first.ensures.only c.scan_fields-rest.ensures.only

pub returns-clause-pushes : goal.returns-clause-pushes
returns-clause-pushes c =
    let e = c.scan_field-first.ensures in
    let f = c.scan_fields-rest.ensures in
    read_again (view_of c.args.seat.now) (view_of c.scan_field-first.new.seat) (view_of c.scan_fields-rest.new.seat) c.args.out.now c.scan_field-first.new.out c.scan_fields-rest.new.out c.args.cell c.args.heap.now.shape.fields c.args.heap.now.shaped.fields.0 e.pushes f.pushes

pub returns-clause-counts : goal.returns-clause-counts
returns-clause-counts c =
    let sh : Shape = c.args.heap.now.shape in
    let v : View = view_of c.args.seat.now in
    let w : View = view_of c.scan_field-first.new.seat in
    let x : View = view_of c.scan_fields-rest.new.seat in
    let e = c.scan_field-first.ensures in
    let f = c.scan_fields-rest.ensures in
    counts-join sh _ _ _ _ _ _ _ _ _ (events v w) (events w x) (events v x) (events-join v w x e.only.log f.only.log) refl (omega (arith, e.most.0, f.most.0)) refl e.counts f.counts

pub returns-clause-follows : goal.returns-clause-follows
returns-clause-follows c =
    let n : ℕ = c.args.heap.now.shape.fields in
    let v : View = view_of c.args.seat.now in
    let w : View = view_of c.scan_field-first.new.seat in
    let x : View = view_of c.scan_fields-rest.new.seat in
    let e = c.scan_field-first.ensures in
    let f = c.scan_fields-rest.ensures in
    subst (λ l. Follows l (events v x)) (fields-first c.args.cell n c.args.heap.now.shaped.fields.0)
    (follows-join ((c.args.cell, 0) ∷ []) (fields_from c.args.cell 1 (n - 1)) (events v w) (events w x) (events v x) (events-join v w x e.only.log f.only.log) e.follows f.follows)

pub returns-clause-few : goal.returns-clause-few
returns-clause-few c =
    let sh : Shape = c.args.heap.now.shape in
    let each : ℕ = follow_steps sh in
    let n : ℕ = sh.fields in
    let e = c.scan_field-first.ensures in
    let f = c.scan_fields-rest.ensures in
    let all = few-sum (view_of c.args.seat.now) (view_of c.scan_field-first.new.seat) (view_of c.scan_fields-rest.new.seat) e.only.ran f.only.ran in
    let first = e.few in
    let rest = f.few in
    let sum = first-more n each c.args.heap.now.shaped.fields.0 in
    omega (arith, all, first, rest, sum)

pub returns-clause-tried : goal.returns-clause-tried
returns-clause-tried c =
    let v : View = view_of c.args.seat.now in
    let w : View = view_of c.scan_field-first.new.seat in
    let x : View = view_of c.scan_fields-rest.new.seat in
    let e = c.scan_field-first.ensures in
    let f = c.scan_fields-rest.ensures in
    searches-join c.args.heap.now.shape c.args.search.now c.scan_field-first.new.search c.scan_fields-rest.new.search c.args.out.now c.scan_field-first.new.out c.scan_fields-rest.new.out (events v w) (events w x) (events v x) (events-join v w x e.only.log f.only.log) e.tried f.tried
