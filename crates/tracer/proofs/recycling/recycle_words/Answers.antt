use Rattle.std.proofs.Common.{ℕ, ◌≡◌, ◌+◌, ◌*◌, ◌/◌, ap, ◌∙◌, refl, arith, subst, ◌-◌}
use Rattle.mark_core.specs.Numbers.{word_bits}
use Rattle.mark_core.specs.declared.kinds.Shape.{Shape}
use Rattle.packet_pools.proofs.TracedSteps.{traced-join}
use Rattle.gc_table.proofs.History.Log.{events-join}
use Rattle.tracer.specs.Recycling.{Recycles}
use Rattle.tracer.proofs.Recycled.{recycles-join, idle-still}
use Rattle.gc_table.specs.declared.view.View.{View}
use Rattle.gc_table.specs.Seats.{view_of}
use Rattle.gc_table.specs.Log.{events}
use Rattle.tracer.specs.StepBounds.{packet_steps}
use Rattle.packet_pools.proofs.Few.{few-join}
use Rattle.tracer.proofs.recycling.recycle_words.Goals as goal

pub recycle_in_word-moved-requires-clause-idle : goal.recycle_in_word-moved-requires-clause-idle
recycle_in_word-moved-requires-clause-idle c = let i = c.loop-g.invariant in idle-still (view_of c.args.seat.now) (view_of c.loop-g.seat) i.only.shape i.state c.requires.idle

pub recycle_in_word-moved-requires-clause-packets : goal.recycle_in_word-moved-requires-clause-packets
recycle_in_word-moved-requires-clause-packets c =
    let packets : c.shape-g-end.result.packets ≡ c.args.heap.now.shape.packets = ap (λ (s : Shape). s.packets) c.shape-g-end.ensures in
    let below = c.loop-g-test.true in
    (omega arith, omega arith, omega (arith, packets, below))

pub loop-g-preserved : goal.loop-g-preserved
loop-g-preserved c =
    let v : View = view_of c.args.seat.now in
    let w : View = view_of c.loop-g.seat in
    let x : View = view_of c.recycle_in_word-moved.new.seat in
    let i = c.loop-g.invariant in
    let e = c.recycle_in_word-moved.ensures in
    let g : ℕ = c.loop-g.g in
    let next : word_bits * g + word_bits ≡ word_bits * (g + 1) = omega arith in
    record {
      sits = e.seat.0;
      traces = e.seat.1;
      only = traced-join v w x i.only e.only;
      state = e.state ∙ i.state;
      most = let m = i.most in let n = e.most in omega (arith, m, n);
      recycles = subst (λ h. Recycles 0 h (c.loop-g.moved + c.recycle_in_word-moved.result) (events v x)) next (recycles-join 0 (word_bits * g) (word_bits * g + word_bits) c.loop-g.moved c.recycle_in_word-moved.result _ (events v w) (events w x) (events v x) (events-join v w x i.only.log e.only.log) (omega arith) (omega arith) refl i.recycles e.recycles);
      few = (let all = few-join (g + packet_steps * (word_bits * g)) (1 + packet_steps * (word_bits * g + word_bits - word_bits * g)) v w x i.only.ran e.only.ran i.few e.few in omega (arith, all));
    }

pub returns-clause-recycles : goal.returns-clause-recycles
returns-clause-recycles c =
    let i = c.loop-g.invariant in
    let past = c.loop-g-test.false in
    let most = c.loop-g.auto.g-end in
    let packets : c.shape-g-end.result.packets ≡ c.args.heap.now.shape.packets = ap (λ (s : Shape). s.packets) c.shape-g-end.ensures in
    let last : c.loop-g.g ≡ c.args.heap.now.shape.packets / word_bits = omega (arith, past, most, packets) in
    subst (λ h. Recycles 0 (word_bits * h) c.loop-g.moved (events (view_of c.args.seat.now) (view_of c.loop-g.seat))) last i.recycles

pub returns-clause-few : goal.returns-clause-few
returns-clause-few c =
    let few = c.loop-g.invariant.few in
    let most = c.loop-g.auto.g-end in
    let packets : c.shape-g-end.result.packets ≡ c.args.heap.now.shape.packets = ap (λ (s : Shape). s.packets) c.shape-g-end.ensures in
    omega (arith, few, most, packets)
