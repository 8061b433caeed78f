use Rattle.std.proofs.Common.{[], ◌≡◌, ◌≤◌, ◌*◌, ◌∙◌, arith, refl, subst, sym, true}
use Rattle.mark_core.specs.Cards.{block_cells}
use Rattle.mark_core.specs.Layout.{block_count}
use Rattle.mark_core.specs.declared.kinds.Phase.TheVariants.{Idle}
use Rattle.mark_core.specs.declared.kinds.Shape.{Shape}
use Rattle.mark_core.specs.declared.kinds.Step.TheVariants.{DropStep}
use Rattle.gc_table.specs.Log.{events}
use Rattle.gc_table.specs.Seats.{view_of}
use Rattle.gc_table.specs.declared.view.View.{View}
use Rattle.gc_table.proofs.Running.{ran-join, ran-shape}
use Rattle.gc_cycle.specs.Courses.{sets_numbers}
use Rattle.gc_cycle.specs.Cycles.{collects_exactly}
use Rattle.gc_cycle.specs.Finishing.{AllocsNoted, ones_noted}
use Rattle.gc_cycle.specs.Moments.{begins}
use Rattle.gc_cycle.proofs.Stepped.{allocs-of, keeps-join, part-keeps, part-owner, resumed-keeps, resumed-runs}
use Rattle.gc_cycle.proofs.Changes.{course-drop, course-join, course-part}
use Rattle.gc_cycle.proofs.Ends.Completing.{part-exact}
use Rattle.gc_cycle.proofs.Exactly.{exact-more}
use Rattle.gc_cycle.proofs.Ends.Finishes.{exact-end}
use Rattle.gc_cycle.proofs.Few.{few-after, few-join}
use Rattle.gc_cycle.proofs.Stops.OutAndIn.{is-done}
use Rattle.gc_cycle.proofs.count_steps.finish_count.Goals as goal

pub set_numbers-counts-requires-clause-alone : goal.set_numbers-counts-requires-clause-alone
set_numbers-counts-requires-clause-alone c = c.requires.counted.alone

pub set_numbers-counts-requires-clause-noted : goal.set_numbers-counts-requires-clause-noted
set_numbers-counts-requires-clause-noted c =
    let v : View = view_of c.args.seat.now in
    let k = c.requires.counted in
    subst (λ (sh : Shape). AllocsNoted (block_count sh) v) c.requires.seat.1 (allocs-of (block_count v.shape) v k.alone.rest.alone k.noted)

pub set_numbers-counts-requires-clause-count : goal.set_numbers-counts-requires-clause-count
set_numbers-counts-requires-clause-count c =
    let v : View = view_of c.args.seat.now in subst (λ (sh : Shape). c.args.counted ≡ ones_noted (block_count sh) v) c.requires.seat.1 c.requires.counted.count

pub set_numbers-counts-requires-clause-bound : goal.set_numbers-counts-requires-clause-bound
set_numbers-counts-requires-clause-bound c =
    let bound = subst (λ (sh : Shape). c.args.counted ≤ block_cells * block_count sh) c.requires.seat.1 c.requires.counted.bound in omega (arith, bound)

pub resume-requires-clause-done : goal.resume-requires-clause-done
resume-requires-clause-done c = is-done (view_of c.set_numbers-counts.new.seat) c.set_numbers-counts.ensures.part.alone.rest.rest

pub returns-clause-ran : goal.returns-clause-ran
returns-clause-ran c = ran-join (view_of c.args.seat.now) (view_of c.set_numbers-counts.new.seat) (view_of c.resume.new.seat) c.set_numbers-counts.ensures.part.ran c.resume.ensures.ran

pub returns-clause-runs : goal.returns-clause-runs
returns-clause-runs c =
    let x : View = view_of c.set_numbers-counts.new.seat in
    let p = c.set_numbers-counts.ensures.part in
    resumed-runs x (view_of c.resume.new.seat) p.alone.rest (part-owner Idle (view_of c.args.seat.now) x p c.requires.counted.owner) c.resume.ensures.step

pub returns-clause-ends : goal.returns-clause-ends
returns-clause-ends c =
    let v : View = view_of c.args.seat.now in
    let x : View = view_of c.set_numbers-counts.new.seat in
    let p = c.set_numbers-counts.ensures.part in
    record {
      idle = x;
      ran = p.ran;
      alone = p.alone;
      end = c.set_numbers-counts.ensures.end;
      exact = λ e. exact-end x p.alone (part-exact Idle v x p ∙ e);
      resumes = c.resume.ensures.step;
    }

pub returns-clause-collects : goal.returns-clause-collects
returns-clause-collects c u k =
    let v : View = view_of c.args.seat.now in
    let x : View = view_of c.set_numbers-counts.new.seat in
    let y : View = view_of c.resume.new.seat in
    let r = ran-join v x y c.set_numbers-counts.ensures.part.ran c.resume.ensures.ran in
    subst (λ (sh : Shape). collects_exactly sh (begins u) (events u y) ≡ true) (sym (ran-shape u v k.ran) ∙ c.requires.seat.1) (exact-more u.shape u v y k.ran r k.collects)

pub returns-clause-course : goal.returns-clause-course
returns-clause-course c =
    let v : View = view_of c.args.seat.now in
    let x : View = view_of c.set_numbers-counts.new.seat in
    let y : View = view_of c.resume.new.seat in
    let s = c.set_numbers-counts.ensures in
    let set = sets_numbers c.args.heap.now.shape c.set_numbers-counts.result in
    course-join [] [] set [] v x y (course-part Idle set v x refl s.part s.numbers) (course-drop x y c.resume.ensures.ran c.resume.ensures.step)

pub returns-clause-few : goal.returns-clause-few
returns-clause-few c =
    let v : View = view_of c.args.seat.now in
    let x : View = view_of c.set_numbers-counts.new.seat in
    let y : View = view_of c.resume.new.seat in
    let s = c.set_numbers-counts.ensures in
    let t = c.resume.ensures.step in
    few-join 8 1 v x y s.part.ran c.resume.ensures.ran s.few (few-after x y DropStep t.0 t.1.0)

pub returns-clause-keeps : goal.returns-clause-keeps
returns-clause-keeps c =
    let v : View = view_of c.args.seat.now in
    let x : View = view_of c.set_numbers-counts.new.seat in
    let y : View = view_of c.resume.new.seat in
    keeps-join v x y (part-keeps Idle v x c.set_numbers-counts.ensures.part) (resumed-keeps x y c.resume.ensures.ran c.resume.ensures.step)
