use Rattle.std.proofs.Common.{refl, ap, not, ◌∙◌}
use Rattle.mark_core.specs.Bits.{has_flag}
use Rattle.gc_table.specs.Seats.{view_of}
use Rattle.gc_table.specs.declared.view.View.{View}
use Rattle.gc_table.proofs.History.Log.{only-none}
use Rattle.gc_table.proofs.Running.{ran-refl}
use Rattle.stop_world.proofs.Flagged.{yours-free}
use Rattle.gc_cycle.specs.Sparing.{spares_part}
use Rattle.warehouse.proofs.Pacing.{ends-calm, ends-same, asked-paces, watched-paces}
use Rattle.warehouse.proofs.InTheStop.{spared-keeps, spared-turns}
use Rattle.warehouse.proofs.Stopping.{raise-unaware, calm-spares, stops-at, theirs-keeps, theirs-out, theirs-seasons, theirs-turns}
use Rattle.warehouse.proofs.season.stop_at_last.Goals as goal

pub loop-init : goal.loop-init
loop-init g c =
    let u : View = view_of c.args.seat.now in
    record {
      next = tt;
      finite = tt;
      sits = c.requires.seat.0;
      out = c.requires.seat.1;
      keeps = spared-keeps u u (ran-refl u) (only-none spares_part u) refl;
      seasons = refl;
      unturned = spared-turns u u (only-none spares_part u);
      paces = ends-same u;
    }

pub raise-requires-clause-bare : goal.raise-requires-clause-bare
raise-requires-clause-bare g c = c.loop.invariant.out.bare

pub await_stopped-requires-clause-raised : goal.await_stopped-requires-clause-raised
await_stopped-requires-clause-raised g c =
    let t = c.in-Yours.ensures.step in
    (ap (λ (x : View). x.state.raised) t.1 ∙ ap not (yours-free (has_flag t.0) t.3), c.raise.ensures.unmoved)

pub await_stopped-requires-clause-unaware : goal.await_stopped-requires-clause-unaware
await_stopped-requires-clause-unaware g c =
    let t = c.raise.ensures.step in
    raise-unaware t.0 (view_of c.loop.seat) (view_of c.raise.new.seat) c.loop.invariant.out (t.1, t.2)

pub returns-in-Yours-clause-stops : goal.returns-in-Yours-clause-stops
returns-in-Yours-clause-stops g c =
    let t = c.in-Yours.ensures.step in
    let i = c.loop.invariant in
    let a = c.await_stopped.ensures in
    stops-at t.0 (view_of c.loop.seat) (view_of c.raise.new.seat) i.out (t.1, t.2) (view_of c.args.seat.now) (view_of c.await_stopped.new.seat) i.keeps i.seasons i.unturned t.3 a.ran a.only a.stopped a.state

pub returns-in-Yours-clause-paces : goal.returns-in-Yours-clause-paces
returns-in-Yours-clause-paces g c =
    let t = c.in-Yours.ensures.step in
    let i = c.loop.invariant in
    let a = c.await_stopped.ensures in
    asked-paces t.0 (view_of c.loop.seat) (view_of c.raise.new.seat) (t.1, t.2) (view_of c.args.seat.now) (view_of c.await_stopped.new.seat) i.paces
    (watched-paces (view_of c.raise.new.seat) (view_of c.await_stopped.new.seat) a.ran a.only)

pub await_resumed_helping-requires : goal.await_resumed_helping-requires
await_resumed_helping-requires g c =
    let t = c.in-Theirs.ensures.step in
    record { seat = (c.raise.ensures.seat, theirs-out t.0 (view_of c.loop.seat) (view_of c.raise.new.seat) c.loop.invariant.out (t.1, t.2) t.3) }

pub loop-preserved : goal.loop-preserved
loop-preserved g c =
    let t = c.in-Theirs.ensures.step in
    let i = c.loop.invariant in
    let u : View = view_of c.args.seat.now in
    let v : View = view_of c.loop.seat in
    let w : View = view_of c.raise.new.seat in
    let x : View = view_of c.await_resumed_helping.new.seat in
    let a = c.await_resumed_helping.ensures in
    let spares = calm-spares w x a.only in
    record {
      next = tt;
      finite = tt;
      sits = a.seat.0;
      out = a.seat.1;
      keeps = theirs-keeps t.0 v w i.out (t.1, t.2) u x i.keeps a.ran spares (ap (λ o. o.position) a.own);
      seasons = theirs-seasons t.0 v w i.out (t.1, t.2) u x i.seasons a.ran spares;
      unturned = theirs-turns t.0 v w i.out (t.1, t.2) u x i.keeps.ran i.unturned a.ran spares;
      paces = asked-paces t.0 v w (t.1, t.2) u x i.paces (ends-calm w x a.ran a.only a.numbers);
    }
