use Rattle.std.proofs.Common.{[], ◌∷◌, ap, ◌∙◌, subst}
use Rattle.std.specs.Prelude.{◌≤◌}
use Rattle.mark_core.specs.Layout.{block_count}
use Rattle.mark_core.specs.Numbers.{block_counter, card_counter}
use Rattle.mark_core.specs.declared.kinds.Phase.TheVariants.{Drain}
use Rattle.mark_core.specs.declared.kinds.Shape.{Shape}
use Rattle.mark_core.specs.declared.kinds.Step.TheVariants.{Reset}
use Rattle.packet_pools.specs.Seeking.{some_event}
use Rattle.packet_pools.proofs.Searches.{some-left}
use Rattle.gc_table.specs.Log.{events}
use Rattle.gc_table.specs.Seats.{view_of}
use Rattle.gc_table.specs.declared.view.View.{View}
use Rattle.gc_table.proofs.Running.{ran-events, ran-join}
use Rattle.sweeper.specs.Freeing.{block_floor}
use Rattle.gc_cycle.specs.Sorts.{begins_exactly}
use Rattle.gc_cycle.proofs.Changes.{course-join}
use Rattle.gc_cycle.proofs.Ends.Completing.{part-exact}
use Rattle.gc_cycle.proofs.Exactly.{exact-again, exact-begun}
use Rattle.gc_cycle.proofs.Ends.Spared.{finish-keeps}
use Rattle.gc_cycle.proofs.Few.{few-join}
use Rattle.gc_cycle.proofs.Stepped.{keeps-join, owner-kept, part-keeps}
use Rattle.gc_cycle.proofs.clear_steps.finish_clear.Goals as goal

pub begin_again-requires-clause-alone : goal.begin_again-requires-clause-alone
begin_again-requires-clause-alone c = c.requires.cleared.clears.alone

pub begin_again-requires-clause-end : goal.begin_again-requires-clause-end
begin_again-requires-clause-end c = subst (λ (sh : Shape). block_count sh ≤ block_floor (view_of c.args.seat.now)) c.requires.seat.1 c.requires.cleared.end

pub reset_blocks-requires-clause-owner : goal.reset_blocks-requires-clause-owner
reset_blocks-requires-clause-owner c =
    let b = c.begin_again.ensures.begun in owner-kept (view_of c.args.seat.now) (view_of c.begin_again.new.seat) b.ran b.only c.requires.cleared.clears.owner

pub returns-clause-ran : goal.returns-clause-ran
returns-clause-ran c = ran-join (view_of c.args.seat.now) (view_of c.begin_again.new.seat) (view_of c.reset_blocks.new.seat) c.begin_again.ensures.begun.ran c.reset_blocks.ensures.part.ran

pub returns-clause-exact : goal.returns-clause-exact
returns-clause-exact c u q =
    let x : View = view_of c.args.seat.now in
    let y : View = view_of c.begin_again.new.seat in
    let z : View = view_of c.reset_blocks.new.seat in
    let b = c.begin_again.ensures.begun in
    let r = c.reset_blocks.ensures.part in
    exact-begun u x z q (ran-join x y z b.ran r.ran)
    (ap (some_event begins_exactly) (ran-events x y z b.ran r.ran) ∙ some-left begins_exactly (events x y) (events y z) (exact-again x y b))
    (part-exact Drain y z r ∙ b.exact)

pub returns-clause-course : goal.returns-clause-course
returns-clause-course c =
    course-join (Drain ∷ []) [] (Reset card_counter ∷ []) (Reset block_counter ∷ []) (view_of c.args.seat.now) (view_of c.begin_again.new.seat) (view_of c.reset_blocks.new.seat) c.begin_again.ensures.course c.reset_blocks.ensures.course

pub returns-clause-few : goal.returns-clause-few
returns-clause-few c =
    few-join 2 1 (view_of c.args.seat.now) (view_of c.begin_again.new.seat) (view_of c.reset_blocks.new.seat) c.begin_again.ensures.begun.ran c.reset_blocks.ensures.part.ran c.begin_again.ensures.few c.reset_blocks.ensures.few

pub returns-clause-keeps : goal.returns-clause-keeps
returns-clause-keeps c =
    let x : View = view_of c.args.seat.now in
    let y : View = view_of c.begin_again.new.seat in
    let z : View = view_of c.reset_blocks.new.seat in
    let b = c.begin_again.ensures.begun in
    keeps-join x y z (finish-keeps x y b.ran b.only) (part-keeps Drain y z c.reset_blocks.ensures.part)
