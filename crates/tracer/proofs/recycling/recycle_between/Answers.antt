use Rattle.std.proofs.Common.{◌≡◌, ◌≤◌, ◌+◌, Bool, true, false, cond, sym, ap, ◌∙◌, refl, arith, subst, ◌-◌, ◌*◌}
use mir.Val.{bool_byte}
use Rattle.packet_pools.proofs.TracedSteps.{traced-join}
use Rattle.gc_table.proofs.History.Log.{events-join}
use Rattle.tracer.specs.Recycling.{Recycles}
use Rattle.tracer.proofs.Recycled.{recycles-join, idle-still}
use Rattle.gc_table.specs.declared.view.View.{View}
use Rattle.gc_table.specs.Seats.{view_of}
use Rattle.gc_table.specs.Log.{events}
use Rattle.tracer.specs.StepBounds.{packet_steps}
use Rattle.packet_pools.proofs.Few.{few-join}
use Rattle.tracer.proofs.recycling.recycle_between.Goals as goal

pub recycle-requires-clause-idle : goal.recycle-requires-clause-idle
recycle-requires-clause-idle c = let i = c.loop-p.invariant in idle-still (view_of c.args.seat.now) (view_of c.loop-p.seat) i.only.shape i.state c.requires.idle

one-byte : (b : Bool) → bool_byte b ≡ cond b 1 0
one-byte true = refl
one-byte false = refl

byte-most : (b : Bool) → bool_byte b ≤ 1
byte-most true = omega arith
byte-most false = omega arith

pub loop-p-preserved : goal.loop-p-preserved
loop-p-preserved c =
    let v : View = view_of c.args.seat.now in
    let w : View = view_of c.loop-p.seat in
    let x : View = view_of c.recycle.new.seat in
    let i = c.loop-p.invariant in
    let e = c.recycle.ensures in
    let b : Bool = c.recycle.result in
    let byte = c.from-moved.ensures in
    let one = byte-most b in
    record {
      sits = e.seat.0;
      traces = e.seat.1;
      only = traced-join v w x i.only e.only;
      state = e.state ∙ i.state;
      most = omega (arith, i.most, byte, one);
      recycles =
          recycles-join c.args.first c.loop-p.p (c.loop-p.p + 1) c.loop-p.moved (cond b 1 0) _ (events v w) (events w x) (events v x) (events-join v w x i.only.log e.only.log) (let m = i.most in omega (arith, m)) (omega arith) (ap (λ n. c.loop-p.moved + n) (sym (byte ∙ one-byte b))) i.recycles e.recycles;
      few = (let all = few-join (packet_steps * (c.loop-p.p - c.args.first)) packet_steps v w x i.only.ran e.only.ran i.few e.few in let m = i.most in omega (arith, all, m));
    }

pub returns-clause-recycles : goal.returns-clause-recycles
returns-clause-recycles c =
    let i = c.loop-p.invariant in
    let fe = c.requires.packets.0 in
    let most = c.loop-p.auto.p-end (omega (arith, fe)) in
    let past = c.loop-p-test.false in
    let last : c.loop-p.p ≡ c.args.end = omega (arith, past, most) in
    subst (λ h. Recycles c.args.first h c.loop-p.moved (events (view_of c.args.seat.now) (view_of c.loop-p.seat))) last i.recycles

pub returns-clause-few : goal.returns-clause-few
returns-clause-few c =
    let few = c.loop-p.invariant.few in
    let fe = c.requires.packets.0 in
    let most = c.loop-p.auto.p-end (omega (arith, fe)) in
    omega (arith, few, most)
