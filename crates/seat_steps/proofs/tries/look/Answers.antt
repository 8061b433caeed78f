use Rattle.std.proofs.Common.{◌∙◌, sym}
use Rattle.std.proofs.lemmas.Bool.{OnFalse_at, OnTrue_at}
use Rattle.mark_core.specs.declared.kinds.Step.TheVariants.{Observe}
use Rattle.gc_table.specs.Seats.{view_of}
use Rattle.gc_table.specs.declared.view.View.{View}
use Rattle.gc_table.proofs.History.Log.{events-after}
use Rattle.seat_turns.proofs.Seats.{kept-heap}
use Rattle.seat_steps.proofs.AtTurn.{holds-polled, looked-events, looked-full, looked-lags, looked-out, out-leaves, polled-lags, polled-out}
use Rattle.seat_steps.proofs.tries.look.Goals as goal

pub poll-requires : goal.poll-requires
poll-requires c = record { seat = c.requires.turn.holds.sits }

pub finds_full-requires : goal.finds_full-requires
finds_full-requires c =
    let p = c.poll.ensures in record { holds = holds-polled c.args.heap.now c.args.seat.now c.poll.new.seat c.requires.turn.holds p.seat p.step.0 p.step.1 }

pub returns-then-poll : goal.returns-then-poll
returns-then-poll c =
    let u : View = view_of c.args.seat.now in
    let v : View = view_of c.poll.new.seat in
    let p = c.poll.ensures in
    let t = p.step in
    let out = polled-out u v t.0 p.ran t.1 in
    record {
      looked = holds-polled c.args.heap.now c.args.seat.now c.poll.new.seat c.requires.turn.holds p.seat t.0 t.1;
      same = kept-heap u v out.section;
      leaves = out-leaves u v out;
      ran = p.ran;
      looks = (t.0, sym t.3 ∙ c.if-poll.true, events-after u v Observe t.0 t.1);
      lags = polled-lags u v t.0 t.1;
    }

pub returns-then-finds_full : goal.returns-then-finds_full
returns-then-finds_full c =
    let u : View = view_of c.args.seat.now in
    let v : View = view_of c.poll.new.seat in
    let w : View = view_of c.finds_full.new.seat in
    let p = c.poll.ensures in
    let t = p.step in
    let r = c.finds_full.ensures in
    let out = looked-out u v w t.0 p.ran t.1 r.read in
    let full = looked-full u v w t.0 p.ran t.1 r.read (OnTrue_at c.if-finds_full.true r.full) in
    record {
      looked = (r.holds, full.1);
      same = kept-heap u w out.section;
      leaves = out-leaves u w out;
      ran = out.ran;
      looks = ((t.0, r.read.0, sym t.3 ∙ c.if-poll.false, looked-events u v w t.0 p.ran t.1 r.read), full);
      lags = looked-lags u v w t.0 r.read.0 t.1 r.read.1.0;
    }

pub returns : goal.returns
returns c =
    let u : View = view_of c.args.seat.now in
    let v : View = view_of c.poll.new.seat in
    let w : View = view_of c.finds_full.new.seat in
    let p = c.poll.ensures in
    let t = p.step in
    let r = c.finds_full.ensures in
    let out = looked-out u v w t.0 p.ran t.1 r.read in
    record {
      looked = record { holds = r.holds; phase = OnFalse_at c.if-finds_full.false r.going };
      same = kept-heap u w out.section;
      leaves = out-leaves u w out;
      ran = out.ran;
      looks = (t.0, r.read.0, sym t.3 ∙ c.if-poll.false, looked-events u v w t.0 p.ran t.1 r.read);
      lags = looked-lags u v w t.0 r.read.0 t.1 r.read.1.0;
    }
