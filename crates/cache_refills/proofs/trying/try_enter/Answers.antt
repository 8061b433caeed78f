use Rattle.std.proofs.Common.{ap}
use Rattle.gc_table.specs.Log.{all_steps}
use Rattle.gc_table.specs.Seats.{view_of}
use Rattle.gc_table.specs.declared.view.View.{View}
use Rattle.gc_table.proofs.History.Log.{only-more}
use Rattle.gc_cycle.specs.Mutating.{stays_calm}
use Rattle.gc_cycle.specs.Sparing.{spares_part}
use Rattle.gc_cycle.specs.Statistics.{leaves_numbers}
use Rattle.gc_cycle.proofs.Refills.Collected.{calm-spares}
use Rattle.gc_cycle.proofs.Stops.OutAndIn.{turns-out}
use Rattle.cache_refills.proofs.Refills.Passed.{come-cache, come-few, come-full, come-going, come-mutates, come-numbers, come-once, come-out, come-own}
use Rattle.std.proofs.Common.{arith}
use Rattle.gc_cycle.proofs.Few.{few-events}
use Rattle.cache_refills.proofs.trying.try_enter.Goals as goal

pub returns-then-not-enter : goal.returns-then-not-enter
returns-then-not-enter c =
    let u : View = view_of c.args.seat.now in
    let v : View = view_of c.enter.new.seat in
    let b = c.if-not-enter.ensures.turns in
    let t = turns-out u v c.requires.seat.1 c.enter.ensures.ran b in
    record {
      seat = c.enter.ensures.seat;
      enters = (b, t.0);
      out = t.1;
      own = t.2;
      spares = only-more stays_calm spares_part calm-spares u v t.1.only;
      numbers = ap (all_steps leaves_numbers) b.events;
      few = few-events 2 u v _ b.events (omega arith);
    }

pub reads_full-requires : goal.reads_full-requires
reads_full-requires c =
    record { seat = (c.enter.ensures.seat, come-mutates (view_of c.args.seat.now) (view_of c.enter.new.seat) c.requires.seat.1 c.requires.section c.enter.ensures.ran c.if-not-enter.ensures.enters) }

pub returns-then-reads_full : goal.returns-then-reads_full
returns-then-reads_full c =
    let u : View = view_of c.args.seat.now in
    let v : View = view_of c.enter.new.seat in
    let w : View = view_of c.reads_full.new.seat in
    let o = c.requires.seat.1 in
    let s = c.requires.section in
    let r = c.enter.ensures.ran in
    let e = c.if-not-enter.ensures.enters in
    let t = c.reads_full.ensures.read in
    let f = c.if-reads_full.ensures.full in
    let g = come-full u v w o s r e t f.0 f.1 in
    let out = come-out u v w o s r e t in
    record {
      seat = c.reads_full.ensures.seat.0;
      enters = (come-once u v w o s r e t, g.0, g.1);
      out = out;
      own = come-own u v w o s r e t;
      spares = only-more stays_calm spares_part calm-spares u w out.only;
      numbers = come-numbers u v w o s r e t;
      few = come-few u v w o s r e t;
    }

pub returns : goal.returns
returns c =
    let u : View = view_of c.args.seat.now in
    let v : View = view_of c.enter.new.seat in
    let w : View = view_of c.reads_full.new.seat in
    let o = c.requires.seat.1 in
    let s = c.requires.section in
    let r = c.enter.ensures.ran in
    let e = c.if-not-enter.ensures.enters in
    let t = c.reads_full.ensures.read in
    let out = come-out u v w o s r e t in
    record {
      seat = c.reads_full.ensures.seat.0;
      enters = (come-once u v w o s r e t, come-going u v w o s r e t c.if-reads_full.ensures.going, come-cache u v w o s r e t);
      out = out;
      own = come-own u v w o s r e t;
      spares = only-more stays_calm spares_part calm-spares u w out.only;
      numbers = come-numbers u v w o s r e t;
      few = come-few u v w o s r e t;
    }
