use Rattle.std.proofs.Common.{arith, refl}
use Rattle.gc_table.specs.Seats.{view_of}
use Rattle.gc_table.proofs.Running.{ran-join}
use Rattle.cache_refills.specs.declared.pieces.Piece.TheVariants as pieces
use Rattle.seat_turns.proofs.Leaving.{leaves-join}
use Rattle.seat_steps.specs.Causes.{GoesFreely}
use Rattle.seat_steps.specs.declared.seeking.Sought.TheVariants as soughts
use Rattle.mutator_ops.specs.Few.{AtMost}
use Rattle.mutator_ops.proofs.Few.{at-most-more}
use Rattle.seat_steps.proofs.PaidCounts.{either-few}
use Rattle.seat_steps.proofs.Found.{arrives-few, err-both}
use Rattle.seat_steps.proofs.Searched.{fails, has-free, lacked, seeks, seeks-full}
use Rattle.seat_steps.proofs.Paced.{carries-out}
use Rattle.seat_steps.proofs.seeking.seek.Goals as goal

pub returns-in-Ok-clause-leaves : goal.returns-in-Ok-clause-leaves
returns-in-Ok-clause-leaves c = leaves-join (view_of c.args.seat.now) (view_of c.tries_some.new.seat) (view_of c.point_with.new.seat) c.tries_some.ensures.leaves c.point_with.ensures.leaves

pub returns-in-Ok-clause-ran : goal.returns-in-Ok-clause-ran
returns-in-Ok-clause-ran c = ran-join (view_of c.args.seat.now) (view_of c.tries_some.new.seat) (view_of c.point_with.new.seat) c.tries_some.ensures.ran c.point_with.ensures.ran

pub returns-in-Ok-clause-sought : goal.returns-in-Ok-clause-sought
returns-in-Ok-clause-sought c =
    let v = view_of c.args.seat.now in
    let w = view_of c.tries_some.new.seat in
    let x = view_of c.point_with.new.seat in
    let e = c.in-Ok.ensures in
    (has-free c.in-Ok.free x e.ok.1 e.free, (c.in-Cache.cache, c.in-Cache.traced, seeks c.args.from c.args.most _ v w x c.tries_some.ensures.ran c.in-Cache.ensures.tries c.point_with.ensures.ran c.point_with.ensures.paces GoesFreely e.freely))

pub returns-in-Err-clause-leaves : goal.returns-in-Err-clause-leaves
returns-in-Err-clause-leaves c = leaves-join (view_of c.args.seat.now) (view_of c.tries_some.new.seat) (view_of c.point_with.new.seat) c.tries_some.ensures.leaves c.point_with.ensures.leaves

pub returns-in-Err-clause-ran : goal.returns-in-Err-clause-ran
returns-in-Err-clause-ran c = ran-join (view_of c.args.seat.now) (view_of c.tries_some.new.seat) (view_of c.point_with.new.seat) c.tries_some.ensures.ran c.point_with.ensures.ran

pub returns-in-Err-clause-found : goal.returns-in-Err-clause-found
returns-in-Err-clause-found c =
    let v = view_of c.args.seat.now in
    let w = view_of c.tries_some.new.seat in
    let x = view_of c.point_with.new.seat in
    fails c.args.from c.args.most _ v w x c.tries_some.ensures.ran c.in-Cache.ensures.tries c.point_with.ensures.ran c.point_with.ensures.paces c.in-Err.came c.args.heap.now c.point_with.new.seat c.in-Err.ensures.err c.in-Err.ensures.found

pub returns-in-Full-clause-leaves : goal.returns-in-Full-clause-leaves
returns-in-Full-clause-leaves c = leaves-join (view_of c.args.seat.now) (view_of c.tries_some.new.seat) (view_of c.leave.new.seat) c.tries_some.ensures.leaves c.leave.ensures.leaves

pub returns-in-Full-clause-ran : goal.returns-in-Full-clause-ran
returns-in-Full-clause-ran c = ran-join (view_of c.args.seat.now) (view_of c.tries_some.new.seat) (view_of c.leave.new.seat) c.tries_some.ensures.ran c.leave.ensures.ran

pub returns-in-Full-clause-found : goal.returns-in-Full-clause-found
returns-in-Full-clause-found c =
    let l = c.leave.ensures in
    seeks-full c.args.from c.args.most (view_of c.args.seat.now) (view_of c.tries_some.new.seat) (view_of c.leave.new.seat) c.tries_some.ensures.ran c.in-Full.ensures.tries l.ran (carries-out (view_of c.tries_some.new.seat) (view_of c.leave.new.seat) l.ran l.out) l.few (l.full c.in-Full.ensures.stands.1)

pub returns-in-Next-clause-leaves : goal.returns-in-Next-clause-leaves
returns-in-Next-clause-leaves c = leaves-join (view_of c.args.seat.now) (view_of c.tries_some.new.seat) (view_of c.lacks_some.new.seat) c.tries_some.ensures.leaves c.lacks_some.ensures.leaves

pub returns-in-Next-clause-ran : goal.returns-in-Next-clause-ran
returns-in-Next-clause-ran c = ran-join (view_of c.args.seat.now) (view_of c.tries_some.new.seat) (view_of c.lacks_some.new.seat) c.tries_some.ensures.ran c.lacks_some.ensures.ran

pub returns-in-Next-clause-sought : goal.returns-in-Next-clause-sought
returns-in-Next-clause-sought c =
    let v = view_of c.args.seat.now in
    let w = view_of c.tries_some.new.seat in
    let x = view_of c.lacks_some.new.seat in
    lacked c.args.from c.args.most (soughts.Next c.in-Next.next) v w x c.lacks_some.result c.lacks_some.ensures.ok c.lacks_some.ensures.freely (λ g. seeks c.args.from c.args.most (pieces.Next c.in-Next.next) v w x c.tries_some.ensures.ran c.in-Next.ensures.tries c.lacks_some.ensures.ran c.lacks_some.ensures.paces GoesFreely g)

pub returns-in-Next-clause-found : goal.returns-in-Next-clause-found
returns-in-Next-clause-found c =
    let v = view_of c.args.seat.now in
    let w = view_of c.tries_some.new.seat in
    let x = view_of c.lacks_some.new.seat in
    err-both c.lacks_some.result _ _ _ (λ came l g. fails c.args.from c.args.most (pieces.Next c.in-Next.next) v w x c.tries_some.ensures.ran c.in-Next.ensures.tries c.lacks_some.ensures.ran c.lacks_some.ensures.paces came c.args.heap.now c.lacks_some.new.seat l g) c.lacks_some.ensures.err c.lacks_some.ensures.found

pub returns-in-Ended-clause-leaves : goal.returns-in-Ended-clause-leaves
returns-in-Ended-clause-leaves c = leaves-join (view_of c.args.seat.now) (view_of c.tries_some.new.seat) (view_of c.lacks_some-in-Ended.new.seat) c.tries_some.ensures.leaves c.lacks_some-in-Ended.ensures.leaves

pub returns-in-Ended-clause-ran : goal.returns-in-Ended-clause-ran
returns-in-Ended-clause-ran c = ran-join (view_of c.args.seat.now) (view_of c.tries_some.new.seat) (view_of c.lacks_some-in-Ended.new.seat) c.tries_some.ensures.ran c.lacks_some-in-Ended.ensures.ran

pub returns-in-Ended-clause-sought : goal.returns-in-Ended-clause-sought
returns-in-Ended-clause-sought c =
    let v = view_of c.args.seat.now in
    let w = view_of c.tries_some.new.seat in
    let x = view_of c.lacks_some-in-Ended.new.seat in
    lacked c.args.from c.args.most soughts.Ended v w x c.lacks_some-in-Ended.result c.lacks_some-in-Ended.ensures.ok c.lacks_some-in-Ended.ensures.freely (λ g. seeks c.args.from c.args.most pieces.Ended v w x c.tries_some.ensures.ran c.in-Ended.ensures.tries c.lacks_some-in-Ended.ensures.ran c.lacks_some-in-Ended.ensures.paces GoesFreely g)

pub returns-in-Ended-clause-found : goal.returns-in-Ended-clause-found
returns-in-Ended-clause-found c =
    let v = view_of c.args.seat.now in
    let w = view_of c.tries_some.new.seat in
    let x = view_of c.lacks_some-in-Ended.new.seat in
    err-both c.lacks_some-in-Ended.result _ _ _ (λ came l g. fails c.args.from c.args.most pieces.Ended v w x c.tries_some.ensures.ran c.in-Ended.ensures.tries c.lacks_some-in-Ended.ensures.ran c.lacks_some-in-Ended.ensures.paces came c.args.heap.now c.lacks_some-in-Ended.new.seat l g) c.lacks_some-in-Ended.ensures.err c.lacks_some-in-Ended.ensures.found

pub returns-in-MarkingDone-clause-leaves : goal.returns-in-MarkingDone-clause-leaves
returns-in-MarkingDone-clause-leaves c = leaves-join (view_of c.args.seat.now) (view_of c.tries_some.new.seat) (view_of c.lacks_some-in-MarkingDone.new.seat) c.tries_some.ensures.leaves c.lacks_some-in-MarkingDone.ensures.leaves

pub returns-in-MarkingDone-clause-ran : goal.returns-in-MarkingDone-clause-ran
returns-in-MarkingDone-clause-ran c = ran-join (view_of c.args.seat.now) (view_of c.tries_some.new.seat) (view_of c.lacks_some-in-MarkingDone.new.seat) c.tries_some.ensures.ran c.lacks_some-in-MarkingDone.ensures.ran

pub returns-in-MarkingDone-clause-sought : goal.returns-in-MarkingDone-clause-sought
returns-in-MarkingDone-clause-sought c =
    let v = view_of c.args.seat.now in
    let w = view_of c.tries_some.new.seat in
    let x = view_of c.lacks_some-in-MarkingDone.new.seat in
    lacked c.args.from c.args.most soughts.MarkingDone v w x c.lacks_some-in-MarkingDone.result c.lacks_some-in-MarkingDone.ensures.ok c.lacks_some-in-MarkingDone.ensures.freely (λ g. seeks c.args.from c.args.most pieces.MarkingDone v w x c.tries_some.ensures.ran c.in-MarkingDone.ensures.tries c.lacks_some-in-MarkingDone.ensures.ran c.lacks_some-in-MarkingDone.ensures.paces GoesFreely g)

pub returns-in-MarkingDone-clause-found : goal.returns-in-MarkingDone-clause-found
returns-in-MarkingDone-clause-found c =
    let v = view_of c.args.seat.now in
    let w = view_of c.tries_some.new.seat in
    let x = view_of c.lacks_some-in-MarkingDone.new.seat in
    err-both c.lacks_some-in-MarkingDone.result _ _ _ (λ came l g. fails c.args.from c.args.most pieces.MarkingDone v w x c.tries_some.ensures.ran c.in-MarkingDone.ensures.tries c.lacks_some-in-MarkingDone.ensures.ran c.lacks_some-in-MarkingDone.ensures.paces came c.args.heap.now c.lacks_some-in-MarkingDone.new.seat l g) c.lacks_some-in-MarkingDone.ensures.err c.lacks_some-in-MarkingDone.ensures.found

pub returns-in-Ok-clause-pays : goal.returns-in-Ok-clause-pays
returns-in-Ok-clause-pays c =
    let v = view_of c.args.seat.now in
    let w = view_of c.tries_some.new.seat in
    let x = view_of c.point_with.new.seat in
    record { piece = pieces.Cache c.in-Cache.cache c.in-Cache.traced; seeks = seeks c.args.from c.args.most (pieces.Cache c.in-Cache.cache c.in-Cache.traced) v w x c.tries_some.ensures.ran c.in-Cache.ensures.tries c.point_with.ensures.ran c.point_with.ensures.paces (AtMost 8) (at-most-more 3 8 w x (omega arith) c.in-Ok.ensures.freely.few); counts = c.count_paid.ensures.counts }

pub returns-in-Err-clause-pays : goal.returns-in-Err-clause-pays
returns-in-Err-clause-pays c =
    let v = view_of c.args.seat.now in
    let w = view_of c.tries_some.new.seat in
    let x = view_of c.point_with.new.seat in
    record { piece = pieces.Cache c.in-Cache.cache c.in-Cache.traced; seeks = seeks c.args.from c.args.most (pieces.Cache c.in-Cache.cache c.in-Cache.traced) v w x c.tries_some.ensures.ran c.in-Cache.ensures.tries c.point_with.ensures.ran c.point_with.ensures.paces (AtMost 8) (arrives-few c.in-Err.came w x c.in-Err.ensures.found); counts = c.count_paid.ensures.counts }

pub returns-in-Full-clause-pays : goal.returns-in-Full-clause-pays
returns-in-Full-clause-pays c =
    let v = view_of c.args.seat.now in
    let w = view_of c.tries_some.new.seat in
    let x = view_of c.leave.new.seat in
    record { piece = pieces.Full; seeks = seeks c.args.from c.args.most (pieces.Full) v w x c.tries_some.ensures.ran c.in-Full.ensures.tries c.leave.ensures.ran (carries-out w x c.leave.ensures.ran c.leave.ensures.out) (AtMost 8) (at-most-more 2 8 w x (omega arith) c.leave.ensures.few); counts = refl }

pub returns-in-Next-clause-pays : goal.returns-in-Next-clause-pays
returns-in-Next-clause-pays c =
    let v = view_of c.args.seat.now in
    let w = view_of c.tries_some.new.seat in
    let x = view_of c.lacks_some.new.seat in
    record { piece = pieces.Next c.in-Next.next; seeks = seeks c.args.from c.args.most (pieces.Next c.in-Next.next) v w x c.tries_some.ensures.ran c.in-Next.ensures.tries c.lacks_some.ensures.ran c.lacks_some.ensures.paces (AtMost 8) (either-few c.lacks_some.result w x c.lacks_some.ensures.freely c.lacks_some.ensures.found); counts = refl }

pub returns-in-Ended-clause-pays : goal.returns-in-Ended-clause-pays
returns-in-Ended-clause-pays c =
    let v = view_of c.args.seat.now in
    let w = view_of c.tries_some.new.seat in
    let x = view_of c.lacks_some-in-Ended.new.seat in
    record { piece = pieces.Ended; seeks = seeks c.args.from c.args.most (pieces.Ended) v w x c.tries_some.ensures.ran c.in-Ended.ensures.tries c.lacks_some-in-Ended.ensures.ran c.lacks_some-in-Ended.ensures.paces (AtMost 8) (either-few c.lacks_some-in-Ended.result w x c.lacks_some-in-Ended.ensures.freely c.lacks_some-in-Ended.ensures.found); counts = refl }

pub returns-in-MarkingDone-clause-pays : goal.returns-in-MarkingDone-clause-pays
returns-in-MarkingDone-clause-pays c =
    let v = view_of c.args.seat.now in
    let w = view_of c.tries_some.new.seat in
    let x = view_of c.lacks_some-in-MarkingDone.new.seat in
    record { piece = pieces.MarkingDone; seeks = seeks c.args.from c.args.most (pieces.MarkingDone) v w x c.tries_some.ensures.ran c.in-MarkingDone.ensures.tries c.lacks_some-in-MarkingDone.ensures.ran c.lacks_some-in-MarkingDone.ensures.paces (AtMost 8) (either-few c.lacks_some-in-MarkingDone.result w x c.lacks_some-in-MarkingDone.ensures.freely c.lacks_some-in-MarkingDone.ensures.found); counts = refl }
