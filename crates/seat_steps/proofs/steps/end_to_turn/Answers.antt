use Rattle.std.proofs.Common.{[], ◌∙◌, refl, sym, subst}
use Rattle.mark_core.specs.declared.kinds.Phase.TheVariants.{Idle}
use Rattle.mark_core.specs.declared.kinds.Shape.{Shape}
use Rattle.gc_table.specs.Seats.{view_of}
use Rattle.gc_cycle.specs.Courses.{TakesCourse, sets_numbers}
use Rattle.gc_cycle.specs.declared.counts.Counts.{Counts}
use Rattle.gc_cycle.specs.Stepping.{EndsCollection}
use Rattle.seat_turns.proofs.Leaving.{leaves-join}
use Rattle.seat_steps.proofs.Found.{arrives-few}
use Rattle.seat_steps.proofs.Sparing.{Kept, course-kept, runs-again}
use Rattle.seat_steps.proofs.Amounts.{course-few}
use Rattle.seat_steps.proofs.SinceAsked.{collects-all}
use Rattle.seat_steps.proofs.Undrawn.{alone-apart}
use Rattle.seat_steps.proofs.steps.end_to_turn.Goals as goal
use Rattle.seat_steps.proofs.steps.end_to_turn.Goals.{After-finish_count}

kept : (c : After-finish_count) → Kept c.args.seat.now c.finish_count.new.seat
kept c = let e = c.finish_count.ensures in course-kept c.args.seat.now c.finish_count.new.seat e.ran e.course.only e.keeps

pub arrive-requires : goal.arrive-requires
arrive-requires c =
    let e = c.finish_count.ensures in
    record { halts = runs-again c.args.heap.now c.args.seat.now c.finish_count.new.seat c.requires.counted.mutator (kept (goal.at.arrive-requires c).After-finish_count) e.seat e.runs }

pub returns-clause-ends : goal.returns-clause-ends
returns-clause-ends c =
    let e = c.finish_count.ensures in
    let v = view_of c.args.seat.now in
    let w = view_of c.finish_count.new.seat in
    record {
      ended = w;
      exactly = c.requires.counted.since.1;
      ends = subst (λ (counts : Counts). EndsCollection counts v w) e.counts e.ends;
      course =
          subst (λ (sh : Shape). TakesCourse [] (sets_numbers sh c.args.counts) v w) (sym c.requires.counted.sits.1)
          (subst (λ (counts : Counts). TakesCourse [] (sets_numbers c.args.heap.now.shape counts) v w) e.counts e.course);
      collected = collects-all c.args.exact c.args.heap.now _ v c.finish_count.new.seat e.seat e.course e.collects c.requires.counted.since;
      arrives = c.arrive.ensures.found;
    }

pub returns-clause-same : goal.returns-clause-same
returns-clause-same c = c.arrive.ensures.same ∙ (kept (goal.at.returns-clause-same c).After-finish_count).same

pub returns-clause-leaves : goal.returns-clause-leaves
returns-clause-leaves c = leaves-join (view_of c.args.seat.now) (view_of c.finish_count.new.seat) (view_of c.arrive.new.seat) (kept (goal.at.returns-clause-leaves c).After-finish_count).leaves c.arrive.ensures.leaves

pub returns-clause-few : goal.returns-clause-few
returns-clause-few c =
    let e = c.finish_count.ensures in
    let v = view_of c.args.seat.now in
    let w = view_of c.finish_count.new.seat in
    let a = c.arrive.ensures in
    let r = c.requires.counted.stands in
    record {
      ended = w;
      ran = e.ran;
      sets = course-few 9 _ _ v w refl e.course (alone-apart Idle v refl refl r.owner.unhelping r.alone.alone) e.few;
      last = a.ran;
      few = arrives-few c.arrive.result w (view_of c.arrive.new.seat) a.found;
    }
