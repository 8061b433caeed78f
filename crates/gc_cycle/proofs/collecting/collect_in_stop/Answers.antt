use Rattle.gc_table.specs.Seats.{view_of}
use Rattle.gc_table.specs.declared.view.View.{View}
use Rattle.std.proofs.Common.{ap, refl, []}
use Rattle.gc_cycle.proofs.Refills.Collected.{ends-at_full, ends-collected, full-alone, exactly-collects, holds-phase, resumed-mutates}
use Rattle.gc_cycle.proofs.Stops.OutAndIn.{is-done}
use Rattle.gc_cycle.specs.Moments.{begins}
use Rattle.gc_table.specs.Log.{events}
use Rattle.mark_core.specs.declared.kinds.Phase.TheVariants.{Full, Idle}
use Rattle.mark_core.specs.declared.kinds.Step.TheVariants.{DropStep}
use Rattle.gc_cycle.proofs.Changes.{changes-after, numbers-after, numbers-one}
use Rattle.gc_table.proofs.History.Log.{events-after}
use Rattle.gc_cycle.specs.Events.{never}
use Rattle.gc_cycle.specs.Sorts.{tries_marking}
use Rattle.gc_cycle.proofs.Stops.Popping.{drop-works, finished-works}
use Rattle.gc_cycle.proofs.Unbegun.{unbegun-join}
use Rattle.gc_cycle.proofs.collecting.collect_in_stop.Goals as goal

pub resume-requires-clause-alone : goal.resume-requires-clause-alone
resume-requires-clause-alone g c = (Full, refl, full-alone (view_of c.args.seat.now) c.requires.stopped c.if-has_seen_full.ensures.seen)

pub resume-requires-clause-done : goal.resume-requires-clause-done
resume-requires-clause-done g c = is-done (view_of c.args.seat.now) c.requires.stopped.rest.rest

pub returns-then-has_seen_full-clause-seat : goal.returns-then-has_seen_full-clause-seat
returns-then-has_seen_full-clause-seat g c =
    let h = c.requires.stopped in (c.resume.ensures.seat, (resumed-mutates (view_of c.args.seat.now) (view_of c.resume.new.seat) h.rest h.section h.unhelping c.resume.ensures.step).0)

pub returns-then-has_seen_full-clause-ends : goal.returns-then-has_seen_full-clause-ends
returns-then-has_seen_full-clause-ends g c = ends-at_full (view_of c.args.seat.now) (view_of c.resume.new.seat) c.requires.stopped c.if-has_seen_full.ensures.seen c.resume.ensures.ran c.resume.ensures.step

pub precise-requires-clause-alone : goal.precise-requires-clause-alone
precise-requires-clause-alone g c = (holds-phase (view_of c.args.seat.now) c.requires.stopped c.if-has_seen_full.ensures.other).0

pub resume-requires-2-clause-alone : goal.resume-requires-2-clause-alone
resume-requires-2-clause-alone g c = (Idle, refl, c.precise.ensures.ends.idle.alone)

pub resume-requires-2-clause-done : goal.resume-requires-2-clause-done
resume-requires-2-clause-done g c = is-done (view_of c.precise.new.seat) c.precise.ensures.ends.idle.rest.rest

pub returns-clause-seat : goal.returns-clause-seat
returns-clause-seat g c =
    let v : View = view_of c.args.seat.now in
    let w : View = view_of c.precise.new.seat in
    let p = c.precise.ensures.ends in
    (c.resume-2.ensures.seat, (ends-collected v w (view_of c.resume-2.new.seat) c.requires.stopped (holds-phase v c.requires.stopped c.if-has_seen_full.ensures.other).1 p.ran p.only p.spares p.calm p.going (exactly-collects c.args.heap.now.shape (begins v) (events v w) c.precise.ensures.collects) p.once p.idle c.precise.ensures.exact c.resume-2.ensures.ran c.resume-2.ensures.step).0)

pub returns-clause-ends : goal.returns-clause-ends
returns-clause-ends g c =
    let v : View = view_of c.args.seat.now in
    let w : View = view_of c.precise.new.seat in
    let p = c.precise.ensures.ends in
    (ends-collected v w (view_of c.resume-2.new.seat) c.requires.stopped (holds-phase v c.requires.stopped c.if-has_seen_full.ensures.other).1 p.ran p.only p.spares p.calm p.going (exactly-collects c.args.heap.now.shape (begins v) (events v w) c.precise.ensures.collects) p.once p.idle c.precise.ensures.exact c.resume-2.ensures.ran c.resume-2.ensures.step).1

pub returns-then-has_seen_full-clause-numbers : goal.returns-then-has_seen_full-clause-numbers
returns-then-has_seen_full-clause-numbers g c =
    let v : View = view_of c.args.seat.now in
    let w : View = view_of c.resume.new.seat in
    let t = c.resume.ensures.step in
    numbers-one [] v w (changes-after v w DropStep t.0 refl c.resume.ensures.ran t.1.0)

pub returns-clause-numbers : goal.returns-clause-numbers
returns-clause-numbers g c =
    let v : View = view_of c.args.seat.now in
    let w : View = view_of c.precise.new.seat in
    let x : View = view_of c.resume-2.new.seat in
    let p = c.precise.ensures.ends in
    let t = c.resume-2.ensures.step in
    numbers-after [] v w x p (numbers-one [] w x (changes-after w x DropStep t.0 refl c.resume-2.ensures.ran t.1.0))

pub returns-then-has_seen_full-clause-unbegun : goal.returns-then-has_seen_full-clause-unbegun
returns-then-has_seen_full-clause-unbegun g c =
    let t = c.resume.ensures.step in ap (never tries_marking) (events-after (view_of c.args.seat.now) (view_of c.resume.new.seat) DropStep t.0 t.1.0)

pub returns-clause-unbegun : goal.returns-clause-unbegun
returns-clause-unbegun g c =
    let w : View = view_of c.precise.new.seat in
    let x : View = view_of c.resume-2.new.seat in
    let p = c.precise.ensures.ends in
    let r = c.resume-2.ensures in
    unbegun-join (view_of c.args.seat.now) w x p.ran r.ran p.unbegun (ap (never tries_marking) (events-after w x DropStep r.step.0 r.step.1.0))

pub returns-then-has_seen_full-clause-pops : goal.returns-then-has_seen_full-clause-pops
returns-then-has_seen_full-clause-pops g c = λ before h. let t = c.resume.ensures.step in drop-works before (view_of c.args.seat.now) (view_of c.resume.new.seat) t.0 t.1.0

pub returns-clause-pops : goal.returns-clause-pops
returns-clause-pops g c = λ before h.
    let w : View = view_of c.precise.new.seat in
    let p = c.precise.ensures.ends in
    let r = c.resume-2.ensures in
    finished-works before (view_of c.args.seat.now) w (view_of c.resume-2.new.seat) r.step.0 p.ran p.only r.ran r.step.1.0 h
