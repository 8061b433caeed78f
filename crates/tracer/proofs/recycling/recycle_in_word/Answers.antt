use Rattle.std.proofs.Common.{◌≤◌, ◌*◌, ap, sym, ◌∙◌, subst, arith, ◌-◌}
use Rattle.mark_core.specs.Numbers.{deferred_pool_number, word_bits}
use Rattle.mark_core.specs.declared.kinds.Shape.{Shape}
use Rattle.mark_core.specs.declared.kinds.Step.TheVariants.{Look}
use Rattle.packet_pools.proofs.Doing.{traces-same, traced-look}
use Rattle.packet_pools.proofs.Conditions.{may-look}
use Rattle.packet_pools.proofs.TracedSteps.{traced-join}
use Rattle.gc_table.proofs.History.Log.{events-after, events-join}
use Rattle.tracer.proofs.Recycled.{recycles-empty, recycles-join, recycles-look, idle-still}
use Rattle.gc_table.specs.declared.view.View.{View}
use Rattle.gc_table.specs.Seats.{view_of}
use Rattle.gc_table.specs.Log.{events}
use Rattle.tracer.specs.StepBounds.{packet_steps}
use Rattle.packet_pools.proofs.Few.{few-after, few-join}
use Rattle.tracer.proofs.recycling.recycle_in_word.Goals as goal

pub look-requires-clause-may : goal.look-requires-clause-may
look-requires-clause-may c =
    let v : View = view_of c.args.seat.now in
    let q = c.requires.packets in
    let low : c.args.end ≤ v.shape.packets = subst (λ (s : Shape). c.args.end ≤ s.packets) (sym c.requires.seat.0.1) q.2 in
    let some = q.0 in
    may-look v deferred_pool_number c.args.g (omega arith) (omega (arith, low, some))

pub returns-then-look-eq0-clause-seat : goal.returns-then-look-eq0-clause-seat
returns-then-look-eq0-clause-seat c =
    let v : View = view_of c.args.seat.now in
    let w : View = view_of c.look.new.seat in
    let e = c.look.ensures.view.0 in
    (c.look.ensures.seat, traces-same v w (traced-look v w _ deferred_pool_number c.args.g c.look.ensures.view.1 e) (ap (λ (z : View). z.state) e) c.requires.seat.1)

pub returns-then-look-eq0-clause-only : goal.returns-then-look-eq0-clause-only
returns-then-look-eq0-clause-only c = traced-look (view_of c.args.seat.now) (view_of c.look.new.seat) _ deferred_pool_number c.args.g c.look.ensures.view.1 c.look.ensures.view.0

pub returns-then-look-eq0-clause-recycles : goal.returns-then-look-eq0-clause-recycles
returns-then-look-eq0-clause-recycles c =
    let v : View = view_of c.args.seat.now in
    let w : View = view_of c.look.new.seat in
    recycles-empty c.args.g c.args.end c.look.result (events v w) c.requires.packets.1 c.if-look-eq0.true (events-after v w (Look deferred_pool_number c.args.g) c.look.result c.look.ensures.view.0)

pub recycle_between-requires-clause-seat : goal.recycle_between-requires-clause-seat
recycle_between-requires-clause-seat c =
    let v : View = view_of c.args.seat.now in
    let w : View = view_of c.look.new.seat in
    let e = c.look.ensures.view.0 in
    (c.look.ensures.seat, traces-same v w (traced-look v w _ deferred_pool_number c.args.g c.look.ensures.view.1 e) (ap (λ (z : View). z.state) e) c.requires.seat.1)

pub recycle_between-requires-clause-idle : goal.recycle_between-requires-clause-idle
recycle_between-requires-clause-idle c =
    let v : View = view_of c.args.seat.now in
    let w : View = view_of c.look.new.seat in
    let e = c.look.ensures.view.0 in
    idle-still v w (ap (λ (z : View). z.shape) e) (ap (λ (z : View). z.state) e) c.requires.idle

pub recycle_between-requires-clause-packets : goal.recycle_between-requires-clause-packets
recycle_between-requires-clause-packets c = let q = c.requires.packets in let some = q.0 in (omega (arith, some), q.2)

pub returns-clause-only : goal.returns-clause-only
returns-clause-only c =
    let v : View = view_of c.args.seat.now in
    let w : View = view_of c.look.new.seat in
    traced-join v w (view_of c.recycle_between.new.seat) (traced-look v w _ deferred_pool_number c.args.g c.look.ensures.view.1 c.look.ensures.view.0) c.recycle_between.ensures.only

pub returns-clause-state : goal.returns-clause-state
returns-clause-state c = c.recycle_between.ensures.state ∙ ap (λ (z : View). z.state) c.look.ensures.view.0

pub returns-clause-recycles : goal.returns-clause-recycles
returns-clause-recycles c =
    let v : View = view_of c.args.seat.now in
    let w : View = view_of c.look.new.seat in
    let x : View = view_of c.recycle_between.new.seat in
    let e = c.look.ensures.view in
    let r = c.recycle_between.ensures in
    let some = c.requires.packets.0 in
    recycles-join (word_bits * c.args.g) (word_bits * c.args.g) c.args.end 0 c.recycle_between.result c.recycle_between.result (events v w) (events w x) (events v x)
    (events-join v w x (traced-look v w _ deferred_pool_number c.args.g e.1 e.0).log r.only.log)
    (omega arith) (omega (arith, some)) (omega arith)
    (recycles-look (word_bits * c.args.g) c.args.g c.look.result (events v w) (events-after v w (Look deferred_pool_number c.args.g) c.look.result e.0))
    r.recycles

pub returns-then-look-eq0-clause-few : goal.returns-then-look-eq0-clause-few
returns-then-look-eq0-clause-few c = let one = few-after (view_of c.args.seat.now) (view_of c.look.new.seat) (Look deferred_pool_number c.args.g) _ c.look.ensures.view.0 in omega (arith, one)

pub returns-clause-few : goal.returns-clause-few
returns-clause-few c =
    let v : View = view_of c.args.seat.now in
    let w : View = view_of c.look.new.seat in
    let e = c.look.ensures.view in
    let r = c.recycle_between.ensures in
    few-join 1 (packet_steps * (c.args.end - word_bits * c.args.g)) v w (view_of c.recycle_between.new.seat) (traced-look v w _ deferred_pool_number c.args.g e.1 e.0).ran r.only.ran (few-after v w _ _ e.0) r.few
