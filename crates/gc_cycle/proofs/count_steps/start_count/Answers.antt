use Rattle.std.proofs.Common.{◌≤◌, arith, refl, subst}
use Rattle.mark_core.specs.Layout.{block_count}
use Rattle.mark_core.specs.declared.kinds.Phase.TheVariants.{Idle, Sweep}
use Rattle.mark_core.specs.declared.kinds.Shape.{Shape}
use Rattle.gc_table.specs.Seats.{view_of}
use Rattle.gc_table.specs.declared.view.View.{View}
use Rattle.gc_table.proofs.Running.{ran-join}
use Rattle.sweeper.specs.Freeing.{block_floor}
use Rattle.gc_cycle.proofs.Ends.Completing.{move-exact}
use Rattle.gc_cycle.proofs.Exactly.{ends-now, exact-since}
use Rattle.gc_cycle.proofs.Ends.Spared.{finish-keeps}
use Rattle.gc_cycle.proofs.Parts.{move-finishes, part-none}
use Rattle.gc_cycle.proofs.Stepped.{owner-kept}
use Rattle.gc_cycle.proofs.count_steps.start_count.Goals as goal

pub end_sweep-requires-clause-alone : goal.end_sweep-requires-clause-alone
end_sweep-requires-clause-alone c = c.requires.swept.sweeps.alone

pub end_sweep-requires-clause-end : goal.end_sweep-requires-clause-end
end_sweep-requires-clause-end c = subst (λ (sh : Shape). block_count sh ≤ block_floor (view_of c.args.seat.now)) c.requires.seat.1 c.requires.swept.end

pub returns-clause-counts : goal.returns-clause-counts
returns-clause-counts c =
    let v : View = view_of c.args.seat.now in
    let w : View = view_of c.end_sweep.new.seat in
    let m = c.end_sweep.ensures.moved in
    record {
      owner = owner-kept v w m.ran (move-finishes Sweep Idle v w m) c.requires.swept.sweeps.owner;
      alone = m.alone;
      within = omega arith;
      noted = λ b l. absurd (omega (arith, l));
      count = refl;
      bound = omega arith;
    }

pub returns-clause-collects : goal.returns-clause-collects
returns-clause-collects c u k =
    let v : View = view_of c.args.seat.now in
    let w : View = view_of c.end_sweep.new.seat in
    let m = c.end_sweep.ensures.moved in
    (record { ran = ran-join u v w k.ran m.ran; collects = exact-since u v w k m.ran (ends-now v w w m (part-none Idle w m.alone) k.exact) }, move-exact Sweep Idle v w m k.exact)

pub returns-clause-keeps : goal.returns-clause-keeps
returns-clause-keeps c =
    let v : View = view_of c.args.seat.now in
    let w : View = view_of c.end_sweep.new.seat in
    let m = c.end_sweep.ensures.moved in
    finish-keeps v w m.ran (move-finishes Sweep Idle v w m)
