use Rattle.std.proofs.Common.{[], ◌∷◌, ◌++◌, refl, ap, ◌∙◌, arith, not}
use Rattle.mark_core.specs.declared.kinds.Phase.TheVariants.{Clear, Drain}
use Rattle.mark_core.specs.declared.kinds.Step.TheVariants.{StorePhase}
use Rattle.mark_core.specs.Layout.{block_count}
use Rattle.gc_table.specs.Seats.{view_of}
use Rattle.gc_table.specs.declared.view.View.{View}
use Rattle.gc_table.specs.Log.{event, events}
use Rattle.gc_table.proofs.Running.{ran-events, ran-join, ran-only}
use Rattle.sweeper.specs.Sweepers.{is_clearing}
use Rattle.sweeper.proofs.SweptBlocks.{freed-join as freed-run}
use Rattle.gc_cycle.specs.Events.{never}
use Rattle.gc_cycle.specs.Finishing.{finishes}
use Rattle.card_clean.specs.Leaving.{rescans}
use Rattle.gc_cycle.specs.Sorts.{ends_cycle, tells_full, tries_marking}
use Rattle.gc_cycle.proofs.ClearedBlocks.{cleared-part, clearing-rescans, may-clear}
use Rattle.gc_cycle.proofs.Ends.Swept.{floor-above}
use Rattle.gc_cycle.proofs.Sequences.{total-none}
use Rattle.gc_cycle.proofs.Ends.Completing.{freed-move, freed-none, move-total, part-unended, part-untold, part-untried, total-run}
use Rattle.gc_cycle.proofs.Ends.Finishes.{begins-later, never-both}
use Rattle.gc_cycle.proofs.Parts.{move-finishes, part-finishes}
use Rattle.gc_cycle.proofs.clearing.clear_all_marks.Goals as goal

pub clear_rest-requires : goal.clear_rest-requires
clear_rest-requires c = let b = c.begin_clear.ensures in record { seat = (b.seat, may-clear (view_of c.begin_clear.new.seat) b.moved.alone) }

pub begin_again-requires-clause-alone : goal.begin_again-requires-clause-alone
begin_again-requires-clause-alone c = let r = c.clear_rest.ensures in (cleared-part (view_of c.begin_clear.new.seat) (view_of c.clear_rest.new.seat) c.begin_clear.ensures.moved.alone r.ran r.only r.state).alone

pub begin_again-requires-clause-end : goal.begin_again-requires-clause-end
begin_again-requires-clause-end c = floor-above (block_count c.args.heap.now.shape) (view_of c.clear_rest.new.seat) c.clear_rest.ensures.end

pub returns-clause-begun : goal.returns-clause-begun
returns-clause-begun c =
    let v : View = view_of c.args.seat.now in
    let w : View = view_of c.begin_clear.new.seat in
    let x : View = view_of c.clear_rest.new.seat in
    let y : View = view_of c.begin_again.new.seat in
    let m = c.begin_clear.ensures.moved in
    let r = c.clear_rest.ensures in
    let p = cleared-part w x m.alone r.ran r.only r.state in
    begins-later v x y (ran-join v w x m.ran p.ran)
    (ran-only finishes v w x m.ran p.ran (move-finishes Drain Clear v w m) (part-finishes Clear w x p))
    (ap (never tells_full) (ran-events v w x m.ran p.ran) ∙ never-both tells_full (events v w) (events w x) (ap (never tells_full) m.events_are) (ap not (part-untold Clear w x p)))
    (ap (never tries_marking) (ran-events v w x m.ran p.ran) ∙ never-both tries_marking (events v w) (events w x) (ap (never tries_marking) m.events_are) (ap not (part-untried Clear w x p)))
    (ap (never ends_cycle) (ran-events v w x m.ran p.ran) ∙ never-both ends_cycle (events v w) (events w x) (ap (never ends_cycle) m.events_are) (ap not (part-unended Clear w x p)))
    c.begin_again.ensures.begun

pub returns-clause-rescanned : goal.returns-clause-rescanned
returns-clause-rescanned c =
    let v : View = view_of c.args.seat.now in
    let w : View = view_of c.begin_clear.new.seat in
    let x : View = view_of c.clear_rest.new.seat in
    let y : View = view_of c.begin_again.new.seat in
    let m = c.begin_clear.ensures.moved in
    let r = c.clear_rest.ensures in
    let p = cleared-part w x m.alone r.ran r.only r.state in
    let b = c.begin_again.ensures.begun in
    let all = total-run rescans v w y m.ran (ran-join w x y p.ran b.ran) in
    let later = total-run rescans w x y p.ran b.ran in
    let one = move-total rescans Drain Clear (λ s n. refl) v w m in
    let two = total-none rescans is_clearing clearing-rescans (events w x) w r.only in
    let three = c.begin_again.ensures.rescanned in
    omega (arith, all, later, one, two, three)

pub returns-clause-freed : goal.returns-clause-freed
returns-clause-freed c =
    let v : View = view_of c.args.seat.now in
    let w : View = view_of c.begin_clear.new.seat in
    let x : View = view_of c.clear_rest.new.seat in
    let y : View = view_of c.begin_again.new.seat in
    let m = c.begin_clear.ensures.moved in
    let r = c.clear_rest.ensures in
    let p = cleared-part w x m.alone r.ran r.only r.state in
    let b = c.begin_again.ensures.begun in
    let all = freed-run v w y m.ran (ran-join w x y p.ran b.ran) in
    let later = freed-run w x y p.ran b.ran in
    let one = freed-move Drain Clear v w m in
    let two = freed-none Clear refl w x p in
    let three = c.begin_again.ensures.freed in
    omega (arith, all, later, one, two, three)

pub returns-clause-clears : goal.returns-clause-clears
returns-clause-clears c =
    let v : View = view_of c.args.seat.now in
    let w : View = view_of c.begin_clear.new.seat in
    let x : View = view_of c.clear_rest.new.seat in
    let y : View = view_of c.begin_again.new.seat in
    let m = c.begin_clear.ensures.moved in
    let rest = ran-join w x y c.clear_rest.ensures.ran c.begin_again.ensures.begun.ran in
    (events w y, ran-events v w y m.ran rest ∙ ap (λ es. es ++ events w y) (m.events_are ∙ ap (λ n. event (StorePhase Clear) n ∷ []) m.from_is))
