use Rattle.std.proofs.Common.{ℕ, suc, ◌≡◌, ◌+◌, ◌-◌, arith, refl, ap, ◌∙◌, subst}
use Rattle.mark_core.specs.declared.seat.SeatState.{SeatState}
use Rattle.card_clean.proofs.Spilled.{spills-join}
use Rattle.mark_core.specs.declared.kinds.Shape.{Shape}
use Rattle.gc_table.specs.declared.view.View.{View}
use Rattle.gc_table.specs.Seats.{view_of}
use Rattle.gc_table.specs.Log.{events}
use Rattle.packet_pools.proofs.Filled.{fills-join}
use Rattle.packet_pools.proofs.TracedSteps.{cleaned-join}
use Rattle.gc_table.proofs.History.Log.{events-join}
use Rattle.card_clean.specs.DirtyCards.{CleanedFrom, CleanedWhereDirty}
use Rattle.card_clean.proofs.Cleared.{cleared-join}
use Rattle.card_clean.proofs.Leavings.{rescanned-join}
use Rattle.card_clean.proofs.Few.{pass-few}
use Rattle.packet_pools.specs.StepBounds.{room_left}
use Rattle.packet_pools.proofs.Overflows.{overflows-join}
use Rattle.card_clean.proofs.dirty_cards.clean_between.Goals as goal

pub clean_where_dirty-one-requires-clause-seat : goal.clean_where_dirty-one-requires-clause-seat
clean_where_dirty-one-requires-clause-seat c = let i = c.loop-card.invariant in (i.sits, i.traces)

pub clean_where_dirty-one-requires-clause-card : goal.clean_where_dirty-one-requires-clause-card
clean_where_dirty-one-requires-clause-card c = omega (arith, c.loop-card-test.true, c.requires.cards.1)

pub clean_where_dirty-one-requires-clause-out : goal.clean_where_dirty-one-requires-clause-out
clean_where_dirty-one-requires-clause-out c = let i = c.loop-card.invariant in (i.packet.held, i.packet.free)

pub clean_where_dirty-one-requires-clause-work : goal.clean_where_dirty-one-requires-clause-work
clean_where_dirty-one-requires-clause-work c = c.loop-card.invariant.work

pub loop-card-preserved : goal.loop-card-preserved
loop-card-preserved c =
    let sh : Shape = c.args.heap.now.shape in
    let v : View = view_of c.args.seat.now in
    let w : View = view_of c.loop-card.seat in
    let x : View = view_of c.clean_where_dirty-one.new.seat in
    let i = c.loop-card.invariant in
    let e = c.clean_where_dirty-one.ensures in
    let from : ℕ = c.args.first in
    let card : ℕ = c.loop-card.card in
    let done : ℕ = c.loop-card.rescanned in
    let one : ℕ = c.clean_where_dirty-one.result.rescanned in
    let at : card ≡ from + (card - from) = omega (arith, i.order) in
    let more : suc (card - from) ≡ card + 1 - from = omega (arith, i.order) in
    record {
      sits = e.seat.0;
      traces = e.seat.1;
      order = omega (arith, i.order);
      end = omega (arith, c.loop-card-test.true);
      only = cleaned-join v w x i.only e.only;
      packet = fills-join v w x c.args.out.now c.loop-card.out c.clean_where_dirty-one.new.out i.packet e.out;
      work = e.work;
      most = (omega (arith, i.most.0, e.most.0, i.order), omega (arith, i.most.1, e.most.1, i.order));
      cleared = let j = cleared-join v w x i.only.ran e.only.ran in omega (arith, j, i.cleared, e.cleared);
      left = let j = rescanned-join v w x i.only.ran e.only.ran in omega (arith, j, i.left, e.left);
      spills = λ still. spills-join (events v w) (events w x) (events v x) (events-join v w x i.only.log e.only.log) (i.spills still) (e.spills (ap (λ (s : SeatState). s.active) i.only.rest ∙ still));
      cleans =
          subst (λ k. CleanedFrom sh from k (done + one) (events v x)) more
          (done, one, events v w, events w x, events-join v w x i.only.log e.only.log, refl, i.cleans, subst (λ k. CleanedWhereDirty sh k one (events w x)) at e.cleans);
      tried = overflows-join sh c.args.search.now c.loop-card.search c.clean_where_dirty-one.new.search c.args.out.now c.loop-card.out c.clean_where_dirty-one.new.out (events v w) (events w x) (events v x) (events-join v w x i.only.log e.only.log) i.tried e.tried;
      few = pass-few from card done one (room_left sh c.args.search.now c.args.out.now.length) (room_left sh c.loop-card.search c.loop-card.out.length) (room_left sh c.clean_where_dirty-one.new.search c.clean_where_dirty-one.new.out.length) sh v w x i.order i.only.ran e.only.ran i.few e.few;
    }

pub returns-clause-few : goal.returns-clause-few
returns-clause-few c =
    let i = c.loop-card.invariant in
    let few = i.few in
    let end = i.end in
    omega (arith, few, end)
