use Rattle.std.proofs.Common.{◌≡◌, ◌∙◌, ◌+◌, arith, sym, ap, subst, true, refl}
use Rattle.mark_core.specs.Numbers.{empty_offset}
use Rattle.mark_core.specs.declared.kinds.Shape.{Shape}
use Rattle.mark_core.specs.declared.kinds.Step.TheVariants.{ReadCount}
use Rattle.gc_table.specs.Log.{events}
use Rattle.gc_table.specs.Seats.{view_of}
use Rattle.gc_table.specs.declared.view.View.{View}
use Rattle.gc_table.proofs.History.Log.{events-after}
use Rattle.gc_table.specs.Running.{Ran}
use Rattle.gc_table.proofs.Running.{ran-events}
use Rattle.packet_pools.specs.Counts.{count_of}
use Rattle.packet_pools.specs.Seeking.{some_event}
use Rattle.gc_cycle.specs.Draining.{HelpsOn, StopsFor}
use Rattle.gc_cycle.specs.Events.{never}
use Rattle.gc_cycle.specs.Sorts.{passes_card, reads_count, sees_all_empty}
use Rattle.gc_cycle.specs.Standing.{is_at_rest}
use Rattle.gc_cycle.specs.declared.counts.HelpEnd.TheVariants.{NoWork}
use Rattle.gc_cycle.proofs.Ends.Finishes.{never-both}
use Rattle.gc_cycle.proofs.Stops.Admitted.{count-run, unpassed}
use Rattle.gc_cycle.proofs.Stops.HelperDrains.{helped-still, traced-first, traced-helps, waited-empty, waited-long}
use Rattle.gc_cycle.proofs.Traced.{nothing-rest}
use Rattle.gc_cycle.proofs.helping.help_drain.Goals as goal

pub loop-look-init : goal.loop-look-init
loop-look-init c =
    let u : View = view_of c.args.seat.now in
    let v : View = view_of c.trace-first.new.seat in
    let t = c.trace-first.ensures in
    record {
      sits = t.seat;
      helps =
          subst (λ h. HelpsOn c.args.quota (record { traced = c.trace-first.result.done; rescanned = 0; swept = 0; ended = h }) u v) (sym c.end_of.ensures)
          (traced-first c.args.quota c.trace-first.result u v c.requires.seat.1 t.traced t.ends t.most t.rescanned t.uncleaned);
      none = refl;
      unpassed = unpassed (events u v) t.uncounted t.uncleaned;
      looked = omega arith;
    }

pub sees_all_empty-requires-clause-rest : goal.sees_all_empty-requires-clause-rest
sees_all_empty-requires-clause-rest c =
    let v : View = view_of c.loop-look.seat in
    let i = c.loop-look.invariant in
    subst (λ (sh : Shape). is_at_rest sh v.state ≡ true) i.sits.1 (nothing-rest v.shape v.state i.helps.drained.helps.rest)

pub trace_on-helped-requires-clause-seat : goal.trace_on-helped-requires-clause-seat
trace_on-helped-requires-clause-seat c =
    let e = c.sees_all_empty.ensures in
    (e.seat, (traced-helps (view_of c.loop-look.seat) (view_of c.sees_all_empty.new.seat) c.loop-look.invariant.helps.drained.helps e.traced).helps)

pub trace_on-helped-requires-clause-drain : goal.trace_on-helped-requires-clause-drain
trace_on-helped-requires-clause-drain c =
    let e = c.sees_all_empty.ensures in
    let d = c.loop-look.invariant.helps.drained in
    (traced-helps (view_of c.loop-look.seat) (view_of c.sees_all_empty.new.seat) d.helps e.traced).phase ∙ (d.phase ∙ c.requires.drain)

pub trace_on-helped-requires-clause-quota : goal.trace_on-helped-requires-clause-quota
trace_on-helped-requires-clause-quota c =
    let i = c.loop-look.invariant in
    let stops : StopsFor NoWork c.args.quota c.loop-look.helped.traced (view_of c.args.seat.now) (view_of c.loop-look.seat) = subst (λ x. StopsFor x c.args.quota c.loop-look.helped.traced (view_of c.args.seat.now) (view_of c.loop-look.seat)) c.in-NoWork.is i.helps.stops in
    (i.helps.most, stops.0)

still-unpassed : (u v w : View) → Ran u v → Ran v w → never passes_card (events u v) ≡ true → never passes_card (events v w) ≡ true → never passes_card (events u w) ≡ true
still-unpassed u v w r q a b = ap (never passes_card) (ran-events u v w r q) ∙ never-both passes_card (events u v) (events v w) a b

pub loop-look-preserved : goal.loop-look-preserved
loop-look-preserved c =
    let u : View = view_of c.args.seat.now in
    let v : View = view_of c.loop-look.seat in
    let w : View = view_of c.sees_all_empty.new.seat in
    let x : View = view_of c.trace_on-helped.new.seat in
    let i = c.loop-look.invariant in
    let e = c.sees_all_empty.ensures in
    let t = c.trace_on-helped.ensures in
    let still = helped-still c.args.quota c.loop-look.helped u v w i.helps c.in-NoWork.is e.traced e.unpopped e.unpassed e.rescanned in
    let k = count-run reads_count u v w i.helps.drained.ran e.traced.ran in
    let m = count-run reads_count u w x still.drained.ran t.ran in
    let one : count_of reads_count (events v w) ≡ 1 = ap (count_of reads_count) (events-after v w ReadCount e.looks.0 e.looks.1) in
    let before = i.looked in
    record {
      sits = t.seat;
      helps = t.helps u still;
      none = t.none ∙ i.none;
      unpassed = still-unpassed u w x still.drained.ran t.ran (still-unpassed u v w i.helps.drained.ran e.traced.ran i.unpassed e.unpassed) t.unpassed;
      looked = omega (arith, k, m, one, before);
    }

pub returns-then-sees_all_empty-clause-helps : goal.returns-then-sees_all_empty-clause-helps
returns-then-sees_all_empty-clause-helps c =
    let e = c.sees_all_empty.ensures in
    helped-still c.args.quota c.loop-look.helped (view_of c.args.seat.now) (view_of c.loop-look.seat) (view_of c.sees_all_empty.new.seat) c.loop-look.invariant.helps c.in-NoWork.is e.traced e.unpopped e.unpassed e.rescanned

pub returns-then-sees_all_empty-clause-unpassed : goal.returns-then-sees_all_empty-clause-unpassed
returns-then-sees_all_empty-clause-unpassed c =
    let i = c.loop-look.invariant in
    let e = c.sees_all_empty.ensures in
    still-unpassed (view_of c.args.seat.now) (view_of c.loop-look.seat) (view_of c.sees_all_empty.new.seat) i.helps.drained.ran e.traced.ran i.unpassed e.unpassed

pub returns-then-sees_all_empty-clause-ends : goal.returns-then-sees_all_empty-clause-ends
returns-then-sees_all_empty-clause-ends c =
    let v : View = view_of c.loop-look.seat in
    let w : View = view_of c.sees_all_empty.new.seat in
    let e = c.sees_all_empty.ensures in
    waited-empty c.loop-look.helped.ended (view_of c.args.seat.now) v w c.loop-look.invariant.helps.drained.ran e.traced.ran
    (subst (λ (sh : Shape). some_event (sees_all_empty (empty_offset + sh.packets)) (events v w) ≡ true) (sym c.requires.seat.0.1) (e.empty c.if-sees_all_empty.true))

pub returns-clause-ends : goal.returns-clause-ends
returns-clause-ends c =
    let before = c.loop-look.invariant.looked in
    let past = c.loop-look-test.false in
    waited-long c.loop-look.helped.ended (view_of c.args.seat.now) (view_of c.loop-look.seat) (omega (arith, before, past))
