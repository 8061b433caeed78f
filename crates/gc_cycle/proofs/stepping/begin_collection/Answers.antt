use Rattle.std.proofs.Common.{◌≡◌, ◌≤◌, ◌∷◌, [], ap, arith, length, ◌∙◌, ◌⊎◌, ⊎_elim}
use Rattle.mark_core.specs.Numbers.{block_counter, card_counter}
use Rattle.mark_core.specs.Seats.{phase_number}
use Rattle.mark_core.specs.declared.kinds.Phase.{Phase}
use Rattle.mark_core.specs.declared.kinds.Phase.TheVariants.{Drain, Idle, Marking}
use Rattle.mark_core.specs.declared.kinds.Step.TheVariants.{DropStep, Reset, StorePhase}
use Rattle.packet_pools.specs.Seeking.{some_event}
use Rattle.packet_pools.proofs.Searches.{some-left}
use Rattle.gc_table.specs.Log.{all_steps, event, events, Only}
use Rattle.gc_table.specs.Seats.{view_of}
use Rattle.gc_table.specs.declared.view.View.{View}
use Rattle.gc_table.proofs.Running.{ran-events, ran-join}
use Rattle.gc_cycle.specs.Finishing.{finishes, IsAloneIn}
use Rattle.gc_cycle.specs.Sorts.{begins_exactly}
use Rattle.gc_cycle.proofs.Refills.Collected.{holds-phase}
use Rattle.gc_cycle.proofs.Ends.Completing.{part-exact}
use Rattle.gc_cycle.proofs.Ends.Spared.{finish-keeps}
use Rattle.gc_cycle.proofs.Exactly.{exact-begun}
use Rattle.gc_cycle.proofs.Stepped.{full-resumed, holds-idle, keeps-join, part-keeps, resumed-runs}
use Rattle.gc_table.specs.Running.{Ran}
use Rattle.gc_cycle.specs.Courses.{TakesCourse}
use Rattle.gc_cycle.proofs.Changes.{course-begun, course-drop, course-join}
use Rattle.gc_cycle.proofs.Few.{few-after, few-events, few-join}
use Rattle.gc_cycle.proofs.stepping.begin_collection.Goals as goal

pub returns-then-has_seen_full-clause-full : goal.returns-then-has_seen_full-clause-full
returns-then-has_seen_full-clause-full c =
    let v : View = view_of c.args.seat.now in
    let w : View = view_of c.resume.new.seat in
    let h = c.requires.stopped in (
      resumed-runs v w h.rest (record { section = h.section; unhelping = h.unhelping }) c.resume.ensures.step,
      full-resumed v w h c.if-has_seen_full.ensures.seen c.resume.ensures.ran c.resume.ensures.step,
    )

pub returns-clause-ran : goal.returns-clause-ran
returns-clause-ran c = ran-join (view_of c.args.seat.now) (view_of c.begin_drain.new.seat) (view_of c.reset_blocks.new.seat) c.begin_drain.ensures.ran c.reset_blocks.ensures.part.ran

pub returns-clause-exact : goal.returns-clause-exact
returns-clause-exact c f u q =
    let v : View = view_of c.args.seat.now in
    let w : View = view_of c.begin_drain.new.seat in
    let x : View = view_of c.reset_blocks.new.seat in
    let a = holds-idle v c.requires.stopped f in
    let b = c.begin_drain.ensures in
    let p = c.reset_blocks.ensures.part in
    exact-begun u v x q (ran-join v w x b.ran p.ran)
    (ap (some_event begins_exactly) (ran-events v w x b.ran p.ran) ∙ some-left begins_exactly (events v w) (events w x) (ap (some_event begins_exactly) (b.events Idle a)))
    (part-exact Drain w x p ∙ b.exact a)

begun-only : (v w : View) → IsAloneIn Idle v ⊎ IsAloneIn Marking v → ((p : Phase) → IsAloneIn p v → events v w ≡ event (StorePhase Drain) (phase_number p) ∷ event (Reset card_counter) 0 ∷ []) → Only finishes v w
begun-only v w h e = ⊎_elim (λ a. ap (all_steps finishes) (e Idle a)) (λ a. ap (all_steps finishes) (e Marking a)) h

pub returns-clause-keeps : goal.returns-clause-keeps
returns-clause-keeps c =
    let v : View = view_of c.args.seat.now in
    let w : View = view_of c.begin_drain.new.seat in
    let x : View = view_of c.reset_blocks.new.seat in
    let b = c.begin_drain.ensures in
    let a = (holds-phase v c.requires.stopped c.if-has_seen_full.ensures.other).0 in
    keeps-join v w x (finish-keeps v w b.ran (begun-only v w a b.events)) (part-keeps Drain w x c.reset_blocks.ensures.part)

begun-course : (v w : View) → Ran v w → IsAloneIn Idle v ⊎ IsAloneIn Marking v → ((p : Phase) → IsAloneIn p v → events v w ≡ event (StorePhase Drain) (phase_number p) ∷ event (Reset card_counter) 0 ∷ []) → TakesCourse (Drain ∷ []) (Reset card_counter ∷ []) v w
begun-course v w r h e = ⊎_elim (λ a. course-begun 0 v w r (e Idle a)) (λ a. course-begun 1 v w r (e Marking a)) h

pub returns-clause-course : goal.returns-clause-course
returns-clause-course c =
    let v : View = view_of c.args.seat.now in
    let w : View = view_of c.begin_drain.new.seat in
    let x : View = view_of c.reset_blocks.new.seat in
    let b = c.begin_drain.ensures in
    let a = (holds-phase v c.requires.stopped c.if-has_seen_full.ensures.other).0 in
    course-join (Drain ∷ []) [] (Reset card_counter ∷ []) (Reset block_counter ∷ []) v w x (begun-course v w b.ran a b.events) c.reset_blocks.ensures.course

pub returns-then-has_seen_full-clause-over : goal.returns-then-has_seen_full-clause-over
returns-then-has_seen_full-clause-over c = course-drop (view_of c.args.seat.now) (view_of c.resume.new.seat) c.resume.ensures.ran c.resume.ensures.step

pub returns-then-has_seen_full-clause-few : goal.returns-then-has_seen_full-clause-few
returns-then-has_seen_full-clause-few c = few-after (view_of c.args.seat.now) (view_of c.resume.new.seat) DropStep c.resume.ensures.step.0 c.resume.ensures.step.1.0

begun-few : (v w : View) → IsAloneIn Idle v ⊎ IsAloneIn Marking v → ((p : Phase) → IsAloneIn p v → events v w ≡ event (StorePhase Drain) (phase_number p) ∷ event (Reset card_counter) 0 ∷ []) → length (events v w) ≤ 2
begun-few v w h e = ⊎_elim (λ a. few-events 2 v w _ (e Idle a) (omega arith)) (λ a. few-events 2 v w _ (e Marking a) (omega arith)) h

pub returns-clause-few : goal.returns-clause-few
returns-clause-few c =
    let v : View = view_of c.args.seat.now in
    let w : View = view_of c.begin_drain.new.seat in
    let x : View = view_of c.reset_blocks.new.seat in
    let b = c.begin_drain.ensures in
    let a = (holds-phase v c.requires.stopped c.if-has_seen_full.ensures.other).0 in
    few-join 2 1 v w x b.ran c.reset_blocks.ensures.part.ran (begun-few v w a b.events) c.reset_blocks.ensures.few
