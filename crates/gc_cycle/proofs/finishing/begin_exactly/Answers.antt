use Rattle.std.proofs.Common.{refl, ap, ◌∙◌, not, arith}
use Rattle.mark_core.specs.declared.kinds.Phase.TheVariants.{Drain, Idle, Marking}
use Rattle.gc_table.specs.Seats.{view_of}
use Rattle.gc_table.specs.declared.view.View.{View}
use Rattle.gc_table.proofs.Running.{ran-events, ran-join, ran-only}
use Rattle.gc_table.specs.Log.{events}
use Rattle.card_clean.specs.Leaving.{rescans, rescanned_in}
use Rattle.sweeper.specs.Freeing.{freed_in}
use Rattle.sweeper.proofs.SweptBlocks.{freed-join as freed-run}
use Rattle.gc_cycle.proofs.Ends.Completing.{freed-none, part-unended, part-untried, total-run}
use Rattle.gc_cycle.specs.Events.{never, since_last}
use Rattle.gc_cycle.specs.Finishing.{finishes}
use Rattle.gc_cycle.specs.Sorts.{ends_cycle, moves_to, tries_marking}
use Rattle.gc_cycle.proofs.Parts.{part-finishes}
use Rattle.gc_cycle.proofs.Ends.Finishes.{begins-later, never-both}
use Rattle.gc_cycle.proofs.Ends.Starting.{drain-no-full, either-untold, idle-begins, look-drain-events, look-drain-finishes, look-event, look-finishes, look-ran, looked, idle-or-marking, marking-ran}
use Rattle.gc_cycle.proofs.finishing.begin_exactly.Goals as goal

pub returns-then-idle-clause-begun : goal.returns-then-idle-clause-begun
returns-then-idle-clause-begun c =
    let v : View = view_of c.args.seat.now in
    let w : View = view_of c.finds_idle-idle.new.seat in
    let x : View = view_of c.begin_drain.new.seat in
    let t = c.finds_idle-idle.ensures.read in
    let a = c.if-idle.ensures.idle in
    let b = c.begin_drain.ensures in
    begins-later v w x (look-ran v w t) (look-finishes v w t) (either-untold v w t c.requires.alone) (ap (never tries_marking) (look-event v w t)) (ap (never ends_cycle) (look-event v w t)) (idle-begins w x b.ran (b.events Idle a) b.alone (b.exact a))

pub returns-then-idle-clause-rescanned : goal.returns-then-idle-clause-rescanned
returns-then-idle-clause-rescanned c =
    let v : View = view_of c.args.seat.now in
    let w : View = view_of c.finds_idle-idle.new.seat in
    let x : View = view_of c.begin_drain.new.seat in
    let b = c.begin_drain.ensures in
    let none = ap (rescanned_in v) (look-drain-events v w x 0 c.finds_idle-idle.ensures.read b.ran (b.events Idle c.if-idle.ensures.idle)) in
    omega (arith, none)

pub returns-then-idle-clause-freed : goal.returns-then-idle-clause-freed
returns-then-idle-clause-freed c =
    let v : View = view_of c.args.seat.now in
    let w : View = view_of c.finds_idle-idle.new.seat in
    let x : View = view_of c.begin_drain.new.seat in
    let b = c.begin_drain.ensures in
    ap (freed_in v) (look-drain-events v w x 0 c.finds_idle-idle.ensures.read b.ran (b.events Idle c.if-idle.ensures.idle))

pub returns-clause-begun : goal.returns-clause-begun
returns-clause-begun c =
    let v : View = view_of c.args.seat.now in
    let w : View = view_of c.finds_idle-idle.new.seat in
    let x : View = view_of c.begin_drain.new.seat in
    let y : View = view_of c.drain_alone-rescanned.new.seat in
    let z : View = view_of c.clear_all_marks.new.seat in
    let t = c.finds_idle-idle.ensures.read in
    let b = c.begin_drain.ensures in
    let p = c.drain_alone-rescanned.ensures.drains.part in
    begins-later v y z (ran-join v x y (marking-ran v w x t b.ran) p.ran)
    (ran-only finishes v x y (marking-ran v w x t b.ran) p.ran (look-drain-finishes v w x 1 t b.ran (b.events Marking c.if-idle.ensures.marking)) (part-finishes Drain x y p))
    (drain-no-full v w x y 1 t b.ran (either-untold v w t c.requires.alone) (b.events Marking c.if-idle.ensures.marking) p)
    (ap (never tries_marking) (ran-events v x y (marking-ran v w x t b.ran) p.ran)
    ∙ never-both tries_marking (events v x) (events x y) (ap (never tries_marking) (look-drain-events v w x 1 t b.ran (b.events Marking c.if-idle.ensures.marking))) (ap not (part-untried Drain x y p)))
    (ap (never ends_cycle) (ran-events v x y (marking-ran v w x t b.ran) p.ran)
    ∙ never-both ends_cycle (events v x) (events x y) (ap (never ends_cycle) (look-drain-events v w x 1 t b.ran (b.events Marking c.if-idle.ensures.marking))) (ap not (part-unended Drain x y p)))
    c.clear_all_marks.ensures.begun

pub returns-clause-rescanned : goal.returns-clause-rescanned
returns-clause-rescanned c =
    let v : View = view_of c.args.seat.now in
    let w : View = view_of c.finds_idle-idle.new.seat in
    let x : View = view_of c.begin_drain.new.seat in
    let y : View = view_of c.drain_alone-rescanned.new.seat in
    let z : View = view_of c.clear_all_marks.new.seat in
    let t = c.finds_idle-idle.ensures.read in
    let b = c.begin_drain.ensures in
    let p = c.drain_alone-rescanned.ensures.drains.part in
    let q = c.clear_all_marks.ensures.begun in
    let all = total-run rescans v x z (marking-ran v w x t b.ran) (ran-join x y z p.ran q.ran) in
    let later = total-run rescans x y z p.ran q.ran in
    let one = ap (rescanned_in v) (look-drain-events v w x 1 t b.ran (b.events Marking c.if-idle.ensures.marking)) in
    let two = c.drain_alone-rescanned.ensures.rescanned in
    let three = c.clear_all_marks.ensures.rescanned in
    omega (arith, all, later, one, two, three)

pub returns-clause-freed : goal.returns-clause-freed
returns-clause-freed c =
    let v : View = view_of c.args.seat.now in
    let w : View = view_of c.finds_idle-idle.new.seat in
    let x : View = view_of c.begin_drain.new.seat in
    let y : View = view_of c.drain_alone-rescanned.new.seat in
    let z : View = view_of c.clear_all_marks.new.seat in
    let t = c.finds_idle-idle.ensures.read in
    let b = c.begin_drain.ensures in
    let p = c.drain_alone-rescanned.ensures.drains.part in
    let q = c.clear_all_marks.ensures.begun in
    let all = freed-run v x z (marking-ran v w x t b.ran) (ran-join x y z p.ran q.ran) in
    let later = freed-run x y z p.ran q.ran in
    let one = ap (freed_in v) (look-drain-events v w x 1 t b.ran (b.events Marking c.if-idle.ensures.marking)) in
    let two = freed-none Drain refl x y p in
    let three = c.clear_all_marks.ensures.freed in
    omega (arith, all, later, one, two, three)

pub returns-then-idle-clause-first : goal.returns-then-idle-clause-first
returns-then-idle-clause-first c a =
    let v : View = view_of c.args.seat.now in
    let w : View = view_of c.finds_idle-idle.new.seat in
    let t = c.finds_idle-idle.ensures.read in
    absurd (idle-or-marking w c.if-idle.ensures.idle (looked Marking v w t.0 t.1 a))

pub returns-clause-first : goal.returns-clause-first
returns-clause-first c a =
    let v : View = view_of c.args.seat.now in
    let w : View = view_of c.finds_idle-idle.new.seat in
    let x : View = view_of c.begin_drain.new.seat in
    let t = c.finds_idle-idle.ensures.read in
    let b = c.begin_drain.ensures in
    record {
      begun = x;
      drained = view_of c.drain_alone-rescanned.new.seat;
      begins = (marking-ran v w x t b.ran, ap (since_last (moves_to Drain)) (look-drain-events v w x 1 t b.ran (b.events Marking c.if-idle.ensures.marking)));
      alone = c.drain_alone-rescanned.ensures.drains;
      after = c.clear_all_marks.ensures.begun.ran;
      clears = c.clear_all_marks.ensures.clears;
    }
