use Rattle.std.proofs.Common.{◌-◌, ap, ◌∙◌, sym, subst, refl, ℕ, ◌*◌, arith}
use Rattle.mark_core.specs.Seats.{work_in_hand}
use Rattle.mark_core.specs.declared.kinds.Shape.{Shape}
use Rattle.gc_table.specs.Log.{events}
use Rattle.gc_table.specs.Seats.{view_of}
use Rattle.gc_table.specs.declared.view.View.{View}
use Rattle.gc_table.proofs.Running.{ran-events}
use Rattle.packet_pools.specs.Seeking.{output_pools}
use Rattle.tracer.specs.Recycling.{Recycled}
use Rattle.card_clean.specs.DirtyCards.{CleanedFrom}
use Rattle.card_clean.specs.Taking.{CleansWithPacket, NoPacket}
use Rattle.gc_cycle.specs.Events.{never}
use Rattle.gc_cycle.specs.Lower.{HasTraced}
use Rattle.gc_cycle.specs.Sorts.{clears, draws_or_clears, pops}
use Rattle.gc_cycle.specs.Standing.{is_at_rest}
use Rattle.gc_cycle.proofs.CleaningSpares.{none-with, moved-untaken, moves-uncleaned, moves-unpopped, scan-unpopped}
use Rattle.gc_cycle.proofs.Ends.Finishes.{never-both}
use Rattle.gc_cycle.proofs.Ends.Rooted.{rest-room}
use Rattle.gc_cycle.proofs.Idling.{rest-parts, traced-held, traces-of}
use Rattle.gc_cycle.proofs.Turns.{has-traced}
use Rattle.gc_cycle.proofs.Traced.{drains-on, drains-rest, drains-trace, rescans-none}
use Rattle.gc_cycle.proofs.Stops.Admitted.{uncleared}
use Rattle.gc_cycle.proofs.card_steps.cleans_some.Goals.{After-clean_some, After-recycle_deferred}
use Rattle.mark_core.specs.Cards.{card_cells}
use Rattle.packet_pools.specs.StepBounds.{any_steps}
use Rattle.tracer.specs.StepBounds.{recycle_steps}
use Rattle.gc_cycle.proofs.Few.{cards-fewer, few-join}
use Rattle.gc_cycle.proofs.card_steps.cleans_some.Goals as goal

traced : (c : After-clean_some) → HasTraced (view_of c.args.seat.now) (view_of c.clean_some.new.seat)
traced c =
    let v : View = view_of c.args.seat.now in
    let w : View = view_of c.clean_some.new.seat in
    let e = c.clean_some.ensures in
    traced-held v w e.only e.seat.1 e.held (ap (λ (sh : Shape). work_in_hand sh.fields w.state) e.seat.0.1 ∙ e.work) (drains-rest v c.requires.drains)

pub clean_some-requires-clause-seat : goal.clean_some-requires-clause-seat
clean_some-requires-clause-seat c =
    let v : View = view_of c.args.seat.now in
    let d = c.requires.drains in
    (c.requires.seat, traces-of v.shape v (drains-trace v d) (drains-rest v d))

pub clean_some-requires-clause-free : goal.clean_some-requires-clause-free
clean_some-requires-clause-free c = let v : View = view_of c.args.seat.now in rest-room v c.args.seat.now.possible (drains-rest v c.requires.drains)

pub clean_some-requires-clause-work : goal.clean_some-requires-clause-work
clean_some-requires-clause-work c =
    let v : View = view_of c.args.seat.now in ap (λ (sh : Shape). work_in_hand sh.fields v.state) (sym c.requires.seat.1) ∙ (rest-parts v.shape v.state (drains-rest v c.requires.drains)).work

pub returns-in-Some-clause-traced : goal.returns-in-Some-clause-traced
returns-in-Some-clause-traced c = traced c.before

pub returns-in-Some-clause-unpopped : goal.returns-in-Some-clause-unpopped
returns-in-Some-clause-unpopped c =
    none-with pops (moves-unpopped output_pools) scan-unpopped (λ k m. refl) (λ k m. refl) (λ k m. refl) (λ k m. refl) c.args.heap.now.shape c.args.first (c.args.end - c.args.first) c.in-Some.cleaned.rescanned (events (view_of c.args.seat.now) (view_of c.clean_some.new.seat)) (λ k m. refl) c.in-Some.ensures.some.2

pub returns-in-Some-clause-cleaned : goal.returns-in-Some-clause-cleaned
returns-in-Some-clause-cleaned c =
    let es = events (view_of c.args.seat.now) (view_of c.clean_some.new.seat) in
    (c.in-Some.cleaned.rescanned, subst (λ (sh : Shape). CleansWithPacket sh (CleanedFrom sh c.args.first (c.args.end - c.args.first) c.in-Some.cleaned.rescanned) es) (sym c.requires.seat.1) c.in-Some.ensures.some.2)

pub returns-in-Some-clause-counts : goal.returns-in-Some-clause-counts
returns-in-Some-clause-counts c = c.in-Some.ensures.cleared

pub returns-in-Some-clause-rescanned : goal.returns-in-Some-clause-rescanned
returns-in-Some-clause-rescanned c = c.in-Some.ensures.some.1

pub recycle_deferred-requires-clause-seat : goal.recycle_deferred-requires-clause-seat
recycle_deferred-requires-clause-seat c =
    let w : View = view_of c.clean_some.new.seat in
    (c.clean_some.ensures.seat.0, drains-trace w (drains-on (view_of c.args.seat.now) w c.requires.drains (traced c.before.before)))

pub recycle_deferred-requires-clause-rest : goal.recycle_deferred-requires-clause-rest
recycle_deferred-requires-clause-rest c =
    let w : View = view_of c.clean_some.new.seat in ap (λ (sh : Shape). is_at_rest sh w.state) (sym c.clean_some.ensures.seat.0.1) ∙ (traced c.before.before).rest

both-traced : (c : After-recycle_deferred) → HasTraced (view_of c.args.seat.now) (view_of c.recycle_deferred.new.seat)
both-traced c = has-traced (view_of c.args.seat.now) (view_of c.clean_some.new.seat) (view_of c.recycle_deferred.new.seat) (traced c.before.before.before) c.recycle_deferred.ensures.traced

pub returns-in-None-clause-traced : goal.returns-in-None-clause-traced
returns-in-None-clause-traced c = both-traced c

pub returns-in-None-clause-unpopped : goal.returns-in-None-clause-unpopped
returns-in-None-clause-unpopped c =
    let v : View = view_of c.args.seat.now in
    let w : View = view_of c.clean_some.new.seat in
    let x : View = view_of c.recycle_deferred.new.seat in
    let r = c.recycle_deferred.ensures in
    ap (never pops) (ran-events v w x c.clean_some.ensures.only.ran r.traced.ran)
    ∙ never-both pops (events v w) (events w x) (moved-untaken output_pools pops (moves-unpopped output_pools) (events v w) c.in-None.ensures.none.1) r.unpopped

pub returns-in-None-clause-uncleaned : goal.returns-in-None-clause-uncleaned
returns-in-None-clause-uncleaned c =
    let v : View = view_of c.args.seat.now in
    let w : View = view_of c.clean_some.new.seat in
    let x : View = view_of c.recycle_deferred.new.seat in
    let r = c.recycle_deferred.ensures in
    ap (never clears) (ran-events v w x c.clean_some.ensures.only.ran r.traced.ran)
    ∙ never-both clears (events v w) (events w x) (uncleared (events v w) (moved-untaken output_pools draws_or_clears (moves-uncleaned output_pools) (events v w) c.in-None.ensures.none.1)) (uncleared (events w x) r.uncleaned)

pub returns-in-None-clause-unscanned : goal.returns-in-None-clause-unscanned
returns-in-None-clause-unscanned c =
    let v : View = view_of c.args.seat.now in
    let w : View = view_of c.clean_some.new.seat in
    let x : View = view_of c.recycle_deferred.new.seat in
    let r = c.recycle_deferred.ensures in
    rescans-none v w x c.clean_some.ensures.only.ran r.traced.ran c.in-None.ensures.none.2 r.rescanned

pub returns-in-None-clause-lacks : goal.returns-in-None-clause-lacks
returns-in-None-clause-lacks c =
    let v : View = view_of c.args.seat.now in
    let w : View = view_of c.clean_some.new.seat in
    let x : View = view_of c.recycle_deferred.new.seat in
    let r = c.recycle_deferred.ensures in
    record {
      looked = w;
      looks = c.clean_some.ensures.only.ran;
      lacks = subst (λ (sh : Shape). NoPacket sh (events v w)) (sym c.requires.seat.1) c.in-None.ensures.none.0;
      ran = r.traced.ran;
      count = c.recycle_deferred.result;
      brings = subst (λ (sh : Shape). Recycled sh c.recycle_deferred.result (events w x)) (sym c.requires.seat.1) r.recycled;
    }

pub returns-in-Some-clause-few : goal.returns-in-Some-clause-few
returns-in-Some-clause-few c =
    let sh : Shape = c.args.heap.now.shape in
    let cards : ℕ = c.args.end - c.args.first in
    let e = c.in-Some.ensures in
    let few = cards-fewer cards cards c.in-Some.cleaned.rescanned (card_cells * cards) sh _ (omega arith) e.some.0 e.few.0 in
    omega (arith, few)

pub returns-in-None-clause-few : goal.returns-in-None-clause-few
returns-in-None-clause-few c =
    let sh : Shape = c.args.heap.now.shape in
    let r = c.recycle_deferred.ensures in
    let all = few-join (any_steps sh) (recycle_steps sh) (view_of c.args.seat.now) (view_of c.clean_some.new.seat) (view_of c.recycle_deferred.new.seat) c.clean_some.ensures.only.ran r.traced.ran c.in-None.ensures.few.1 r.few in
    omega (arith, all)
