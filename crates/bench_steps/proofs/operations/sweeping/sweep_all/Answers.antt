use Rattle.std.proofs.Common.{◌≡◌, refl, sym, ap, subst, true, false, None}
use Rattle.std.proofs.lemmas.Bool.{and_from, or_left, false≢true}
use Rattle.mark_core.specs.Layout.{block_count}
use Rattle.mark_core.specs.Places.{the_next_block}
use Rattle.mark_core.specs.Seats.{is_the}
use Rattle.mark_core.specs.declared.kinds.Phase.TheVariants.{Sweep}
use Rattle.mark_core.specs.declared.kinds.Shape.{Shape}
use Rattle.mark_core.specs.declared.kinds.Step.{Step}
use Rattle.mark_core.specs.declared.kinds.Step.TheVariants.{NextBlock, ReadAlloc, ReadBlockMarks, StoreAlloc, ClearMarks, ReadStat}
use Rattle.gc_table.specs.declared.view.View.{View}
use Rattle.gc_table.specs.Log.{Only}
use Rattle.gc_table.specs.Running.{Alone, AtLeast, Ran, ends_alone}
use Rattle.gc_table.proofs.Noticing.{alone-kept}
use Rattle.sweeper.specs.Freeing.{IsOver}
use Rattle.sweeper.specs.Sweepers.{Sweeps, stopped_in, is_sweeping}
use Rattle.gc_table.specs.Seats.{view_of}
use Rattle.bench_steps.proofs.operations.sweeping.sweep_all.Goals as goal

-- A seat that is alone in the sweep may sweep, until all blocks were handed out.
sweeps-quiet : (step : Step) → is_sweeping step ≡ true → ends_alone step ≡ false
sweeps-quiet NextBlock e = refl
sweeps-quiet (ReadAlloc b) e = refl
sweeps-quiet ReadBlockMarks e = refl
sweeps-quiet StoreAlloc e = refl
sweeps-quiet ClearMarks e = refl
sweeps-quiet (ReadStat which) e = refl
sweeps-quiet step e = absurd (false≢true e)

-- once alone in the sweep it may sweep
may-sweep : (w : View) → Alone Sweep w → w.state.block ≡ None → Sweeps w
may-sweep w l none = record { may = or_left (stopped_in Sweep w) _ (and_from _ _ l.knows (ap (λ o. is_the o 3) l.phase)); free = none }

-- the sweep is over once all blocks were handed out
over : (v w : View) (sh : Shape) → Alone Sweep v → Ran v w → Only is_sweeping v w → Sweeps w → w.shape ≡ sh → AtLeast w the_next_block (block_count sh) → IsOver Sweep w
over v w sh l r o s is end =
    record { alone = alone-kept Sweep is_sweeping sweeps-quiet v w r o l; free = s.free; end = subst (λ (x : Shape). AtLeast w the_next_block (block_count x)) (sym is) end }

pub end_sweep-requires-clause-over : goal.end_sweep-requires-clause-over
end_sweep-requires-clause-over c =
    let r = c.sweep_rest.ensures in
    over (view_of c.begins_sweep.new.seat) (view_of c.sweep_rest.new.seat) c.args.heap.now.shape c.begins_sweep.ensures.alone.1 r.ran r.only r.seat.1 r.seat.0.1 r.end
