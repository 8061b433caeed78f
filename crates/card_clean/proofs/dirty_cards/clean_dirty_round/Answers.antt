use Rattle.std.proofs.Common.{ℕ, suc, ◌≡◌, ◌+◌, ◌%◌, arith, refl, ap, ◌∙◌, subst}
use Rattle.mark_core.specs.declared.kinds.Shape.{Shape}
use Rattle.gc_table.specs.declared.view.View.{View}
use Rattle.gc_table.specs.Seats.{view_of}
use Rattle.gc_table.specs.Log.{events}
use Rattle.gc_table.proofs.History.Log.{events-join}
use Rattle.packet_pools.proofs.TracedSteps.{cleaned-join}
use Rattle.card_clean.specs.DirtyCards.{CleansStretch, CleansStretches, stretch_count}
use Rattle.card_clean.proofs.Leavings.{rescanned-join}
use Rattle.std.specs.Prelude.{min}
use Rattle.std.proofs.Math.Nat.{mul-le-mul_right}
use Rattle.mark_core.specs.Layout.{card_count}
use Rattle.card_clean.specs.DirtyCards.{stretch_cards}
use Rattle.card_clean.specs.StepBounds.{clean_some_steps}
use Rattle.card_clean.proofs.Few.{round-few}
use Rattle.card_clean.proofs.dirty_cards.clean_dirty_round.Goals as goal

pub loop-i-preserved : goal.loop-i-preserved
loop-i-preserved c =
    let sh : Shape = c.args.heap.now.shape in
    let v : View = view_of c.args.seat.now in
    let w : View = view_of c.loop-i.seat in
    let x : View = view_of c.clean_stretch-rescanned.new.seat in
    let i = c.loop-i.invariant in
    let e = c.clean_stretch-rescanned.ensures in
    let done : ℕ = c.loop-i.rescanned in
    let one : ℕ = c.clean_stretch-rescanned.result in
    let first : ℕ = c.first_stretch-begin.result in
    let cells : c.shape.result.cells ≡ sh.cells = ap (λ (s : Shape). s.cells) c.shape.ensures in
    let all : c.div_ceil-stretches.result ≡ stretch_count sh = let d = c.div_ceil-stretches.ensures in omega (arith, d, cells) in
    let more : suc c.loop-i.i ≡ c.loop-i.i + 1 = omega arith in
    record {
      sits = e.seat.0;
      traces = e.seat.1;
      only = cleaned-join v w x i.only e.only;
      held = e.held ∙ i.held;
      work = e.work;
      most = omega (arith, i.most, e.most);
      left = let j = rescanned-join v w x i.only.ran e.only.ran in omega (arith, j, i.left, e.left);
      cleans =
          subst (λ k. CleansStretches sh first k (done + one) (events v x)) more
          (done, one, events v w, events w x, events-join v w x i.only.log e.only.log, refl, i.cleans, subst (λ k. CleansStretch sh ((first + c.loop-i.i) % k) one (events w x)) all e.cleans);
      few = round-few c.loop-i.i done one (min stretch_cards (card_count sh)) sh v w x i.only.ran e.only.ran i.few e.few;
    }

pub returns-clause-few : goal.returns-clause-few
returns-clause-few c =
    let sh : Shape = c.args.heap.now.shape in
    let each : ℕ = clean_some_steps (min stretch_cards (card_count sh)) 0 sh in
    let cells : c.shape.result.cells ≡ sh.cells = ap (λ (s : Shape). s.cells) c.shape.ensures in
    let all : c.div_ceil-stretches.result ≡ stretch_count sh = let d = c.div_ceil-stretches.ensures in omega (arith, d, cells) in
    let end = c.loop-i.auto.i-end in
    let few = c.loop-i.invariant.few in
    let most = mul-le-mul_right {m = c.loop-i.i} {n = stretch_count sh} each (omega (arith, end, all)) in
    omega (arith, few, most)
