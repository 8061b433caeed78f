use Rattle.seat_turns.proofs.Leaving.{leaves-join}
use Rattle.gc_table.specs.Seats.{view_of}
use Rattle.gc_table.specs.declared.view.View.{View}
use Rattle.gc_table.proofs.Running.{ran-join}
use Rattle.std.proofs.Common.{None, Some, arith, refl}
use Rattle.mutator_ops.proofs.Few.{at-most-more}
use Rattle.std.proofs.lemmas.Result.{IfOk-weaker}
use Rattle.seat_steps.proofs.PaidCounts.{cache-counts, either-few, full-counts, lacks-few}
use Rattle.seat_steps.proofs.Filled.{arrives-fills, fills-on, full-fills, full-refills, lacks-fills, once}
use Rattle.seat_steps.proofs.Found.{err-both, err-weaker, leaves-lacks}
use Rattle.seat_steps.proofs.Paced.{carries-given, carries-out, paces-try}
use Rattle.seat_steps.proofs.getting.fill.Goals as goal

pub returns-in-None-clause-ran : goal.returns-in-None-clause-ran
returns-in-None-clause-ran c =
    let v : View = view_of c.retire_some.new.seat in
    let w : View = view_of c.try_fill.new.seat in
    let x : View = view_of c.lacks_cell.new.seat in
    ran-join (view_of c.args.seat.now) v x c.retire_some.ensures.ran (ran-join v w x c.try_fill.ensures.ran c.lacks_cell.ensures.ran)

pub returns-in-None-clause-found : goal.returns-in-None-clause-found
returns-in-None-clause-found c =
    lacks-fills c.lacks_cell.result (view_of c.args.seat.now) (view_of c.retire_some.new.seat) (view_of c.try_fill.new.seat) (view_of c.lacks_cell.new.seat) c.retire_some.ensures.ran c.retire_some.ensures.few c.try_fill.ensures.ran c.in-None.ensures.tries c.lacks_cell.ensures.ran c.lacks_cell.ensures.found

pub returns-in-Some-Full-clause-found : goal.returns-in-Some-Full-clause-found
returns-in-Some-Full-clause-found c =
    let l = c.leave.ensures in
    full-fills (view_of c.args.seat.now) (view_of c.retire_some.new.seat) (view_of c.try_fill.new.seat) (view_of c.leave.new.seat) c.retire_some.ensures.ran c.retire_some.ensures.few c.try_fill.ensures.ran c.in-Some-Full.field-0 c.in-Some-Full.field-0-is c.in-Some-Full.ensures.tries l.ran l.few (l.full (full-refills c.in-Some-Full.field-0 c.args.heap.now c.try_fill.new.seat c.in-Some-Full.field-0-is c.in-Some-Full.ensures.refills))

pub returns-in-Some-Full-clause-ran : goal.returns-in-Some-Full-clause-ran
returns-in-Some-Full-clause-ran c =
    let v : View = view_of c.retire_some.new.seat in
    let w : View = view_of c.try_fill.new.seat in
    let x : View = view_of c.leave.new.seat in
    ran-join (view_of c.args.seat.now) v x c.retire_some.ensures.ran (ran-join v w x c.try_fill.ensures.ran c.leave.ensures.ran)

pub returns-in-Some-Cache-clause-ran : goal.returns-in-Some-Cache-clause-ran
returns-in-Some-Cache-clause-ran c =
    let v : View = view_of c.retire_some.new.seat in
    let w : View = view_of c.try_fill.new.seat in
    let x : View = view_of c.point_with.new.seat in
    ran-join (view_of c.args.seat.now) v x c.retire_some.ensures.ran (ran-join v w x c.try_fill.ensures.ran c.point_with.ensures.ran)

pub returns-in-Some-Cache-clause-found : goal.returns-in-Some-Cache-clause-found
returns-in-Some-Cache-clause-found c =
    let u : View = view_of c.args.seat.now in
    let v : View = view_of c.retire_some.new.seat in
    let w : View = view_of c.try_fill.new.seat in
    let x : View = view_of c.point_with.new.seat in
    err-both c.point_with.result _ _ _
    (λ came l m. arrives-fills u v w x c.retire_some.ensures.ran c.retire_some.ensures.few (Some c.in-Some-Cache.field-0) c.try_fill.ensures.ran c.in-Some-Cache.ensures.tries c.point_with.ensures.ran came c.args.heap.now c.point_with.new.seat l m)
    c.point_with.ensures.err
    c.point_with.ensures.found

pub returns-in-Some-Cache-clause-besides : goal.returns-in-Some-Cache-clause-besides
returns-in-Some-Cache-clause-besides c =
    let u : View = view_of c.args.seat.now in
    let v : View = view_of c.retire_some.new.seat in
    let w : View = view_of c.try_fill.new.seat in
    let x : View = view_of c.point_with.new.seat in
    IfOk-weaker c.point_with.result _ _ (λ free few. (Some c.in-Some-Cache.field-0, fills-on u v w x c.retire_some.ensures.ran c.retire_some.ensures.few (Some c.in-Some-Cache.field-0) c.try_fill.ensures.ran c.in-Some-Cache.ensures.tries c.point_with.ensures.ran few)) c.point_with.ensures.few

pub returns-in-Some-Cache-clause-err : goal.returns-in-Some-Cache-clause-err
returns-in-Some-Cache-clause-err c = err-weaker c.point_with.result _ _ (λ came l. leaves-lacks came c.args.heap.now c.point_with.new.seat l) c.point_with.ensures.err

pub returns-in-None-clause-leaves : goal.returns-in-None-clause-leaves
returns-in-None-clause-leaves c = leaves-join (view_of c.args.seat.now) (view_of c.retire_some.new.seat) (view_of c.lacks_cell.new.seat) c.retire_some.ensures.leaves (leaves-join (view_of c.retire_some.new.seat) (view_of c.try_fill.new.seat) (view_of c.lacks_cell.new.seat) c.try_fill.ensures.leaves c.lacks_cell.ensures.leaves)

pub returns-in-Some-Full-clause-leaves : goal.returns-in-Some-Full-clause-leaves
returns-in-Some-Full-clause-leaves c = leaves-join (view_of c.args.seat.now) (view_of c.retire_some.new.seat) (view_of c.leave.new.seat) c.retire_some.ensures.leaves (leaves-join (view_of c.retire_some.new.seat) (view_of c.try_fill.new.seat) (view_of c.leave.new.seat) c.try_fill.ensures.leaves c.leave.ensures.leaves)

pub returns-in-Some-Cache-clause-leaves : goal.returns-in-Some-Cache-clause-leaves
returns-in-Some-Cache-clause-leaves c = leaves-join (view_of c.args.seat.now) (view_of c.retire_some.new.seat) (view_of c.point_with.new.seat) c.retire_some.ensures.leaves (leaves-join (view_of c.retire_some.new.seat) (view_of c.try_fill.new.seat) (view_of c.point_with.new.seat) c.try_fill.ensures.leaves c.point_with.ensures.leaves)

pub returns-in-None-clause-pays : goal.returns-in-None-clause-pays
returns-in-None-clause-pays c =
    let w : View = view_of c.try_fill.new.seat in
    let x : View = view_of c.lacks_cell.new.seat in
    let l = c.lacks_cell.ensures in
    record { tried = None; tries = once (view_of c.args.seat.now) (view_of c.retire_some.new.seat) w x c.retire_some.ensures.ran c.retire_some.ensures.few None c.try_fill.ensures.ran c.in-None.ensures.tries l.ran 8 (lacks-few c.lacks_cell.result w x l.found); counts = refl }

pub returns-in-Some-Full-clause-pays : goal.returns-in-Some-Full-clause-pays
returns-in-Some-Full-clause-pays c =
    let w : View = view_of c.try_fill.new.seat in
    let x : View = view_of c.leave.new.seat in
    let l = c.leave.ensures in
    let r = c.in-Some-Full.field-0 in
    record {
      tried = Some r;
      tries = once (view_of c.args.seat.now) (view_of c.retire_some.new.seat) w x c.retire_some.ensures.ran c.retire_some.ensures.few (Some r) c.try_fill.ensures.ran c.in-Some-Full.ensures.tries l.ran 8 (at-most-more 2 8 w x (omega arith) l.few);
      counts = full-counts r c.args.paid.now c.in-Some-Full.field-0-is;
    }

pub returns-in-Some-Cache-clause-pays : goal.returns-in-Some-Cache-clause-pays
returns-in-Some-Cache-clause-pays c =
    let w : View = view_of c.try_fill.new.seat in
    let x : View = view_of c.point_with.new.seat in
    let p = c.point_with.ensures in
    let r = c.in-Some-Cache.field-0 in
    record {
      tried = Some r;
      tries = once (view_of c.args.seat.now) (view_of c.retire_some.new.seat) w x c.retire_some.ensures.ran c.retire_some.ensures.few (Some r) c.try_fill.ensures.ran c.in-Some-Cache.ensures.tries p.ran 8 (either-few c.point_with.result w x p.freely p.found);
      counts = cache-counts r c.in-Some-Cache.cache c.in-Some-Cache.traced c.args.paid.now c.count_paid.new.count c.in-Some-Cache.field-0-is c.count_paid.ensures.counts;
    }

pub returns-in-None-clause-paces : goal.returns-in-None-clause-paces
returns-in-None-clause-paces c =
    let u = view_of c.args.seat.now in
    let v = view_of c.retire_some.new.seat in
    let w = view_of c.try_fill.new.seat in
    let x = view_of c.lacks_cell.new.seat in
    let r = c.retire_some.ensures in
    let t = c.try_fill.ensures in
    paces-try None u v w x (carries-given c.args.cache u v c.requires.cache r.halts.cache r.gives) t.ran tt t.due c.in-None.ensures.numbers c.lacks_cell.ensures.paces

pub returns-in-Some-Full-clause-paces : goal.returns-in-Some-Full-clause-paces
returns-in-Some-Full-clause-paces c =
    let u = view_of c.args.seat.now in
    let v = view_of c.retire_some.new.seat in
    let w = view_of c.try_fill.new.seat in
    let x = view_of c.leave.new.seat in
    let r = c.retire_some.ensures in
    let t = c.try_fill.ensures in
    paces-try (Some c.in-Some-Full.field-0) u v w x (carries-given c.args.cache u v c.requires.cache r.halts.cache r.gives) t.ran c.in-Some-Full.ensures.tries.0 t.due c.in-Some-Full.ensures.numbers (carries-out w x c.leave.ensures.ran c.leave.ensures.out)

pub returns-in-Some-Cache-clause-paces : goal.returns-in-Some-Cache-clause-paces
returns-in-Some-Cache-clause-paces c =
    let u = view_of c.args.seat.now in
    let v = view_of c.retire_some.new.seat in
    let w = view_of c.try_fill.new.seat in
    let x = view_of c.point_with.new.seat in
    let r = c.retire_some.ensures in
    let t = c.try_fill.ensures in
    paces-try (Some c.in-Some-Cache.field-0) u v w x (carries-given c.args.cache u v c.requires.cache r.halts.cache r.gives) t.ran c.in-Some-Cache.ensures.tries.0 t.due c.in-Some-Cache.ensures.numbers c.point_with.ensures.paces
