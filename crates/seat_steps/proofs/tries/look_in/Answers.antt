use Rattle.std.proofs.Common.{◌∙◌, ap, sym}
use Rattle.mark_core.specs.declared.kinds.Step.TheVariants.{Observe}
use Rattle.gc_table.specs.Seats.{view_of}
use Rattle.gc_table.specs.declared.view.View.{View}
use Rattle.gc_table.proofs.History.Log.{events-after}
use Rattle.gc_table.proofs.Running.{ran-refl}
use Rattle.gc_cycle.proofs.Refills.Answered.{polled-mutates}
use Rattle.gc_cycle.proofs.Refills.KnownFull.{tells-none}
use Rattle.seat_turns.proofs.Seats.{going-seen, kept-heap}
use Rattle.seat_steps.proofs.AtTurn.{halts-still, looked-events, looked-full, looked-out, out-leaves, polled-out}
use Rattle.seat_steps.proofs.tries.look_in.Goals as goal

pub poll-requires : goal.poll-requires
poll-requires c = record { seat = c.requires.halts.works.sits }

pub reads_full-requires : goal.reads_full-requires
reads_full-requires c = let p = c.poll.ensures in record { seat = (p.seat, polled-mutates (view_of c.args.seat.now) (view_of c.poll.new.seat) p.step.0 p.step.1 c.requires.halts.works.mutates) }

pub returns-then-poll : goal.returns-then-poll
returns-then-poll c =
    let u : View = view_of c.args.seat.now in
    let v : View = view_of c.poll.new.seat in
    let p = c.poll.ensures in
    let t = p.step in
    let out = polled-out u v t.0 p.ran t.1 in
    record {
      looked = halts-still c.args.heap.now c.args.seat.now c.poll.new.seat c.requires.halts p.seat (polled-mutates u v t.0 t.1 c.requires.halts.works.mutates) out (ap (λ (x : View). x.state.cache) t.1);
      same = kept-heap u v out.section;
      leaves = out-leaves u v out;
      ran = p.ran;
      looks = (t.0, sym t.3 ∙ c.if-poll.true, events-after u v Observe t.0 t.1);
    }

pub returns-then-reads_full : goal.returns-then-reads_full
returns-then-reads_full c =
    let u : View = view_of c.args.seat.now in
    let v : View = view_of c.poll.new.seat in
    let w : View = view_of c.reads_full.new.seat in
    let p = c.poll.ensures in
    let t = p.step in
    let r = c.reads_full.ensures in
    let out = looked-out u v w t.0 p.ran t.1 r.read in
    let full = looked-full u v w t.0 p.ran t.1 r.read c.if-reads_full.ensures.full.1 in
    record {
      looked = (halts-still c.args.heap.now c.args.seat.now c.reads_full.new.seat c.requires.halts r.seat.0 r.seat.1 out (ap (λ (x : View). x.state.cache) r.read.1.0 ∙ ap (λ (x : View). x.state.cache) t.1), full.1);
      same = kept-heap u w out.section;
      leaves = out-leaves u w out;
      ran = out.ran;
      looks = ((t.0, r.read.0, sym t.3 ∙ c.if-poll.false, looked-events u v w t.0 p.ran t.1 r.read), full);
    }

pub returns : goal.returns
returns c =
    let u : View = view_of c.args.seat.now in
    let v : View = view_of c.poll.new.seat in
    let w : View = view_of c.reads_full.new.seat in
    let p = c.poll.ensures in
    let t = p.step in
    let r = c.reads_full.ensures in
    let out = looked-out u v w t.0 p.ran t.1 r.read in
    record {
      looked = (
        halts-still c.args.heap.now c.args.seat.now c.reads_full.new.seat c.requires.halts r.seat.0 r.seat.1 out (ap (λ (x : View). x.state.cache) r.read.1.0 ∙ ap (λ (x : View). x.state.cache) t.1),
        going-seen v w (c.if-reads_full.ensures.going v (ran-refl v) (tells-none v)),
      );
      same = kept-heap u w out.section;
      leaves = out-leaves u w out;
      ran = out.ran;
      looks = (t.0, r.read.0, sym t.3 ∙ c.if-poll.false, looked-events u v w t.0 p.ran t.1 r.read);
    }
