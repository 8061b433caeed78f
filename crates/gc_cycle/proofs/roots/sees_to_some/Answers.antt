use Rattle.std.proofs.Common.{◌≡◌, sym, ap, ◌∙◌, subst, true, false, ◌-◌, arith}
use Rattle.std.proofs.lemmas.Bool.{not-true}
use Rattle.mark_core.specs.Seats.{work_in_hand}
use Rattle.mark_core.specs.declared.kinds.Phase.TheVariants.{Drain}
use Rattle.mark_core.specs.declared.kinds.Shape.{Shape}
use Rattle.mark_core.specs.declared.seat.SeatState.{SeatState}
use Rattle.gc_table.specs.Log.{events}
use Rattle.gc_table.specs.Seats.{view_of}
use Rattle.gc_table.specs.declared.view.View.{View}
use Rattle.packet_pools.specs.OnlyTraced.{OnlyTraced, traces_cells}
use Rattle.packet_pools.specs.Seeking.{deferred_pools}
use Rattle.packet_pools.specs.Tracing.{Traces}
use Rattle.card_clean.specs.Taking.{NoPacket}
use Rattle.card_clean.proofs.Staying.{ready-stays, root-stays}
use Rattle.gc_table.proofs.History.Log.{only-more}
use Rattle.gc_table.proofs.Running.{ran-events, ran-only}
use Rattle.gc_cycle.specs.Statistics.{leaves_numbers}
use Rattle.gc_cycle.proofs.Leaving.{cells-leave}
use Rattle.gc_cycle.specs.Finishing.{IsAloneIn}
use Rattle.gc_cycle.specs.Lower.{HasTraced}
use Rattle.gc_cycle.specs.Standing.{is_at_rest}
use Rattle.gc_cycle.proofs.Idling.{idle-of, moves-quiet, traced-held, traced-of, traces-of}
use Rattle.gc_cycle.proofs.Ends.Moving.{no-work}
use Rattle.gc_cycle.proofs.Parts.{part-join}
use Rattle.gc_cycle.proofs.Ends.Rooted.{ready-of, rest-room}
use Rattle.gc_cycle.proofs.Traced.{alone-traces, nothing-rest, rescans-none, traced-part}
use Rattle.tracer.specs.Recycling.{Recycled}
use Rattle.card_clean.specs.Drained.{sees_roots}
use Rattle.gc_cycle.specs.Events.{never}
use Rattle.gc_cycle.specs.Sorts.{pops}
use Rattle.gc_cycle.proofs.Ends.Finishes.{never-both}
use Rattle.gc_cycle.proofs.CleaningSpares.{moved-untaken, moves-unpopped, sees-unpopped, untaken}
use Rattle.card_clean.specs.StepBounds.{see_to_steps}
use Rattle.tracer.specs.StepBounds.{recycle_steps}
use Rattle.gc_cycle.proofs.Few.{few-join}
use Rattle.std.proofs.lemmas.Bool.{true≢false}
use Rattle.mark_core.specs.Held.{holds_any}
use Rattle.gc_cycle.proofs.roots.sees_to_some.Goals as goal

rest-of : (v : View) → IsAloneIn Drain v → is_at_rest v.shape v.state ≡ true
rest-of v a = nothing-rest v.shape v.state a.rest.rest

seen : (sh : Shape) (v w : View) → w.shape ≡ sh → IsAloneIn Drain v → OnlyTraced v w → Traces w → w.state.held ≡ v.state.held → work_in_hand sh.fields w.state ≡ false → HasTraced v w
seen sh v w e a l t h k = traced-held v w l t h (ap (λ (x : Shape). work_in_hand x.fields w.state) e ∙ k) (rest-of v a)

pub see_to_some-requires-clause-seat : goal.see_to_some-requires-clause-seat
see_to_some-requires-clause-seat c =
    let v : View = view_of c.args.seat.now in
    (c.requires.seat, traces-of v.shape v (alone-traces v c.requires.alone.0) (rest-of v c.requires.alone.0))

pub see_to_some-requires-clause-ready : goal.see_to_some-requires-clause-ready
see_to_some-requires-clause-ready c = ready-of (view_of c.args.seat.now) c.requires.alone.0 c.requires.alone.1

pub see_to_some-requires-clause-free : goal.see_to_some-requires-clause-free
see_to_some-requires-clause-free c = let v : View = view_of c.args.seat.now in rest-room v c.args.seat.now.possible (rest-of v c.requires.alone.0)

pub see_to_some-requires-clause-work : goal.see_to_some-requires-clause-work
see_to_some-requires-clause-work c =
    let v : View = view_of c.args.seat.now in
    ap (λ (sh : Shape). work_in_hand sh.fields v.state) (sym c.requires.seat.1) ∙ not-true _ (no-work v c.requires.alone.0.rest)

pub returns-then-see_to_some-clause-part : goal.returns-then-see_to_some-clause-part
returns-then-see_to_some-clause-part c =
    let v : View = view_of c.args.seat.now in
    let w : View = view_of c.see_to_some.new.seat in
    let e = c.see_to_some.ensures in
    traced-part v w c.requires.alone.0 (seen c.args.heap.now.shape v w e.seat.0.1 c.requires.alone.0 e.only e.seat.1 e.held e.work)

pub returns-then-see_to_some-clause-next : goal.returns-then-see_to_some-clause-next
returns-then-see_to_some-clause-next c =
    let v : View = view_of c.args.seat.now in
    let e = c.see_to_some.ensures in
    (ready-stays v (view_of c.see_to_some.new.seat) e.only.ran e.only.only (ready-of v c.requires.alone.0 c.requires.alone.1)).next_block

pub returns-then-see_to_some-clause-rescanned : goal.returns-then-see_to_some-clause-rescanned
returns-then-see_to_some-clause-rescanned c = c.see_to_some.ensures.left

pub returns-then-see_to_some-clause-kept : goal.returns-then-see_to_some-clause-kept
returns-then-see_to_some-clause-kept c i k =
    let e = c.see_to_some.ensures.only in root-stays (view_of c.args.seat.now) (view_of c.see_to_some.new.seat) e.ran e.only i c.requires.alone.0.rest.alone k

pub recycle_deferred-requires-clause-seat : goal.recycle_deferred-requires-clause-seat
recycle_deferred-requires-clause-seat c = c.see_to_some.ensures.seat

pub recycle_deferred-requires-clause-idle : goal.recycle_deferred-requires-clause-idle
recycle_deferred-requires-clause-idle c =
    let v : View = view_of c.args.seat.now in
    let w : View = view_of c.see_to_some.new.seat in
    let e = c.see_to_some.ensures in
    idle-of w c.see_to_some.new.seat.possible (seen c.args.heap.now.shape v w e.seat.0.1 c.requires.alone.0 e.only e.seat.1 e.held e.work).rest

pub returns-clause-part : goal.returns-clause-part
returns-clause-part c =
    let v : View = view_of c.args.seat.now in
    let w : View = view_of c.see_to_some.new.seat in
    let x : View = view_of c.recycle_deferred.new.seat in
    let e = c.see_to_some.ensures in
    let r = c.recycle_deferred.ensures in
    let t = seen c.args.heap.now.shape v w e.seat.0.1 c.requires.alone.0 e.only e.seat.1 e.held e.work in
    let p = traced-part v w c.requires.alone.0 t in
    part-join Drain v w x p (traced-part w x p.alone (traced-of w x r.only ((λ i. is_at_rest (r.only.shape i) (r.state i)) ∙ t.rest)))

pub returns-clause-next : goal.returns-clause-next
returns-clause-next c =
    let v : View = view_of c.args.seat.now in
    let w : View = view_of c.see_to_some.new.seat in
    let e = c.see_to_some.ensures in
    let r = c.recycle_deferred.ensures in
    (ready-stays w (view_of c.recycle_deferred.new.seat) r.only.ran r.only.only (ready-stays v w e.only.ran e.only.only (ready-of v c.requires.alone.0 c.requires.alone.1))).next_block

pub returns-clause-rescanned : goal.returns-clause-rescanned
returns-clause-rescanned c =
    let v : View = view_of c.args.seat.now in
    let w : View = view_of c.see_to_some.new.seat in
    let x : View = view_of c.recycle_deferred.new.seat in
    let e = c.see_to_some.ensures in
    let r = c.recycle_deferred.ensures in
    rescans-none v w x e.only.ran r.only.ran e.left (moves-quiet deferred_pools (events w x) w r.recycled.moves)

pub returns-clause-lacks : goal.returns-clause-lacks
returns-clause-lacks c t =
    let v : View = view_of c.args.seat.now in
    let e = c.see_to_some.ensures in
    let r = c.recycle_deferred.ensures in
    record {
      looked = view_of c.see_to_some.new.seat;
      looks = e.only.ran;
      lacks = subst (λ (sh : Shape). NoPacket sh (events v (view_of c.see_to_some.new.seat))) (sym c.requires.seat.1) (e.none c.if-see_to_some.false).1;
      ran = r.only.ran;
      count = c.recycle_deferred.result;
      brings = subst (λ (sh : Shape). Recycled sh c.recycle_deferred.result (events (view_of c.see_to_some.new.seat) (view_of c.recycle_deferred.new.seat))) (sym c.requires.seat.1) r.recycled;
    }

pub returns-then-see_to_some-clause-numbers : goal.returns-then-see_to_some-clause-numbers
returns-then-see_to_some-clause-numbers c = only-more traces_cells leaves_numbers cells-leave (view_of c.args.seat.now) (view_of c.see_to_some.new.seat) c.see_to_some.ensures.only.only

pub returns-clause-numbers : goal.returns-clause-numbers
returns-clause-numbers c =
    let v : View = view_of c.args.seat.now in
    let w : View = view_of c.see_to_some.new.seat in
    let x : View = view_of c.recycle_deferred.new.seat in
    let e = c.see_to_some.ensures.only in
    let r = c.recycle_deferred.ensures.only in
    ran-only leaves_numbers v w x e.ran r.ran (only-more traces_cells leaves_numbers cells-leave v w e.only) (only-more traces_cells leaves_numbers cells-leave w x r.only)

pub returns-then-see_to_some-clause-unpopped : goal.returns-then-see_to_some-clause-unpopped
returns-then-see_to_some-clause-unpopped c = untaken sees_roots pops sees-unpopped (events (view_of c.args.seat.now) (view_of c.see_to_some.new.seat)) c.see_to_some.ensures.steps

pub returns-clause-unpopped : goal.returns-clause-unpopped
returns-clause-unpopped c =
    let v : View = view_of c.args.seat.now in
    let w : View = view_of c.see_to_some.new.seat in
    let x : View = view_of c.recycle_deferred.new.seat in
    let e = c.see_to_some.ensures in
    let r = c.recycle_deferred.ensures in
    ap (never pops) (ran-events v w x e.only.ran r.only.ran)
    ∙ never-both pops (events v w) (events w x) (untaken sees_roots pops sees-unpopped (events v w) e.steps) (moved-untaken deferred_pools pops (moves-unpopped deferred_pools) (events w x) r.recycled.moves)

pub returns-clause-kept : goal.returns-clause-kept
returns-clause-kept c i k =
    let v : View = view_of c.args.seat.now in
    let w : View = view_of c.see_to_some.new.seat in
    let e = c.see_to_some.ensures.only in
    let r = c.recycle_deferred.ensures.only in
    root-stays w (view_of c.recycle_deferred.new.seat) r.ran r.only i (ap (λ (s : SeatState). s.alone) e.rest ∙ c.requires.alone.0.rest.alone)
    (root-stays v w e.ran e.only i c.requires.alone.0.rest.alone k)

pub returns-then-see_to_some-clause-few : goal.returns-then-see_to_some-clause-few
returns-then-see_to_some-clause-few c = let few = c.see_to_some.ensures.few in omega (arith, few)

pub returns-clause-few : goal.returns-clause-few
returns-clause-few c =
    let sh : Shape = c.args.heap.now.shape in
    let e = c.see_to_some.ensures in
    let r = c.recycle_deferred.ensures in
    few-join (see_to_steps (c.args.end - c.args.from) sh) (recycle_steps sh) (view_of c.args.seat.now) (view_of c.see_to_some.new.seat) (view_of c.recycle_deferred.new.seat) e.only.ran r.only.ran e.few r.few

pub returns-clause-outside : goal.returns-clause-outside
returns-clause-outside c t = c.recycle_deferred.ensures.outside (ap (λ (s : SeatState). s.alone) c.see_to_some.ensures.only.rest ∙ c.requires.alone.0.rest.alone)

pub returns-clause-pooled : goal.returns-clause-pooled
returns-clause-pooled c none =
    let v : View = view_of c.args.seat.now in
    let held = ap holds_any (idle-of v c.args.seat.now.possible (rest-of v c.requires.alone.0)).held in
    absurd (true≢false (sym (c.see_to_some.ensures.pooled held none) ∙ c.if-see_to_some.false))
