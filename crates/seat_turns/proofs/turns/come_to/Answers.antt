use Rattle.std.proofs.Common.{◌∙◌, [], ◌∷◌, refl, subst, sym}
use Rattle.gc_table.specs.Seats.{view_of}
use Rattle.seat_turns.proofs.Leaving.{leaves-join, leaves-none}
use Rattle.seat_turns.specs.Coming.{ComesTo, Polls}
use Rattle.seat_turns.proofs.Coming.{full-none, refill-none}
use Rattle.gc_table.specs.declared.view.View.{View}
use Rattle.mark_core.specs.declared.kinds.Shape.{Shape}
use Rattle.cache_refills.proofs.Telling.{told-join, told-more, told-none}
use Rattle.seat_turns.specs.Telling.{TellsFills}
use Rattle.seat_turns.proofs.Telling.{fills-first, fills-join, fills-last, fills-none, untold-none}
use Rattle.seat_turns.proofs.turns.come_to.Goals as goal

pub returns-in-Err-clause-leaves : goal.returns-in-Err-clause-leaves
returns-in-Err-clause-leaves g c = leaves-join (view_of c.args.seat.now) (view_of c.loop.seat) (view_of c.pass.new.seat) c.loop.invariant.leaves c.pass.ensures.leaves

pub returns-then-state-shape-clause-leaves : goal.returns-then-state-shape-clause-leaves
returns-then-state-shape-clause-leaves g c = leaves-join (view_of c.args.seat.now) (view_of c.loop.seat) (view_of c.pass.new.seat) c.loop.invariant.leaves c.pass.ensures.leaves

pub returns-in-Ok-with_free-clause-leaves : goal.returns-in-Ok-with_free-clause-leaves
returns-in-Ok-with_free-clause-leaves g c = leaves-join (view_of c.args.seat.now) (view_of c.loop.seat) (view_of c.pass.new.seat) c.loop.invariant.leaves c.pass.ensures.leaves

pub returns-in-Err-fill-clause-leaves : goal.returns-in-Err-fill-clause-leaves
returns-in-Err-fill-clause-leaves g c =
    leaves-join (view_of c.args.seat.now) (view_of c.loop.seat) (view_of c.fill.new.seat) c.loop.invariant.leaves (leaves-join (view_of c.loop.seat) (view_of c.pass.new.seat) (view_of c.fill.new.seat) c.pass.ensures.leaves c.fill.ensures.leaves)

pub loop-preserved : goal.loop-preserved
loop-preserved g c = record {
  next = tt;
  finite = tt;
  works = c.in-Ok-fill.ensures.ok.0;
  cached = c.in-Ok-fill.ensures.ok.1;
  same = c.fill.ensures.same ∙ (c.pass.ensures.same ∙ c.loop.invariant.same);
  leaves = leaves-join (view_of c.args.seat.now) (view_of c.loop.seat) (view_of c.fill.new.seat) c.loop.invariant.leaves (leaves-join (view_of c.loop.seat) (view_of c.pass.new.seat) (view_of c.fill.new.seat) c.pass.ensures.leaves c.fill.ensures.leaves);
  rounds = (
    (c.loop.cache, view_of c.loop.seat) ∷ c.loop.invariant.rounds.0,
    (
      c.loop.invariant.rounds.1,
      record {
        kept = c.in-Err-with_free.none;
        polled = view_of c.pass.new.seat;
        polls = subst (λ o. Polls c.loop.cache o (view_of c.loop.seat) (view_of c.pass.new.seat)) (sym c.in-Err-with_free.ensures.err) c.in-Ok.ensures.polls;
        fills = c.in-Ok-fill.ensures.fills;
      },
    ),
  );
  told =
      told-join g.W.Watch.hears (λ ns. TellsFills c.args.in_stops c.args.heap.now.shape ns (view_of c.args.seat.now) (view_of c.loop.seat)) (λ ns. TellsFills c.args.in_stops c.args.heap.now.shape ns (view_of c.pass.new.seat) (view_of c.fill.new.seat)) (λ ns. TellsFills c.args.in_stops c.args.heap.now.shape ns (view_of c.args.seat.now) (view_of c.fill.new.seat)) c.args.watch.now c.loop.watch c.fill.new.watch
      (λ ms ns a b. fills-join c.args.in_stops c.args.heap.now.shape ms ns (view_of c.args.seat.now) (view_of c.loop.seat) (view_of c.fill.new.seat) a (fills-first c.args.in_stops c.args.heap.now.shape ns (view_of c.loop.seat) (view_of c.pass.new.seat) (view_of c.fill.new.seat) c.pass.ensures.untold b)) c.loop.invariant.told c.fill.ensures.told;
}

pub loop-init : goal.loop-init
loop-init g c = record { next = tt; finite = tt; works = c.requires.works; cached = c.requires.cache; same = refl; leaves = leaves-none (view_of c.args.seat.now); rounds = ([], (refl, refl)); told = told-none g.W.Watch.hears (λ ns. TellsFills c.args.in_stops c.args.heap.now.shape ns (view_of c.args.seat.now) (view_of c.args.seat.now)) c.args.watch.now (fills-none c.args.in_stops c.args.heap.now.shape (view_of c.args.seat.now) (view_of c.args.seat.now) (untold-none (view_of c.args.seat.now))) }

pub returns-in-Err-clause-none : goal.returns-in-Err-clause-none
returns-in-Err-clause-none g c =
    let i = c.loop.invariant.rounds in
    full-none c.args.heap.now c.pass.new.seat c.in-Err.full c.args.in_stops c.args.heap.now.shape c.args.cache (view_of c.args.seat.now) (view_of c.pass.new.seat) c.in-Err.ensures.err
    (record { moments = i.0; cache = c.loop.cache; last = view_of c.loop.seat; rounds = i.1; polls = c.in-Err.ensures.full })

pub returns-then-state-shape-clause-none : goal.returns-then-state-shape-clause-none
returns-then-state-shape-clause-none g c =
    let i = c.loop.invariant.rounds in (c.in-Ok.kept, record { moments = i.0; cache = c.loop.cache; last = view_of c.loop.seat; rounds = i.1; polls = c.in-Ok.ensures.polls })

pub returns-in-Ok-with_free-clause-comes : goal.returns-in-Ok-with_free-clause-comes
returns-in-Ok-with_free-clause-comes g c =
    let i = c.loop.invariant.rounds in
    record {
      moments = i.0;
      cache = c.loop.cache;
      last = view_of c.loop.seat;
      rounds = i.1;
      polls = subst (λ o. Polls c.loop.cache o (view_of c.loop.seat) (view_of c.pass.new.seat)) c.in-Ok-with_free.ensures.ok.0 c.in-Ok.ensures.polls;
    }

pub returns-in-Err-fill-clause-none : goal.returns-in-Err-fill-clause-none
returns-in-Err-fill-clause-none g c =
    let i = c.loop.invariant.rounds in
    let kept = c.in-Err-with_free.none in
    let came : ComesTo c.args.in_stops c.args.heap.now.shape c.args.cache kept (view_of c.args.seat.now) (view_of c.pass.new.seat) =
    record {
      moments = i.0;
      cache = c.loop.cache;
      last = view_of c.loop.seat;
      rounds = i.1;
      polls = subst (λ o. Polls c.loop.cache o (view_of c.loop.seat) (view_of c.pass.new.seat)) (sym c.in-Err-with_free.ensures.err) c.in-Ok.ensures.polls;
    } in
    refill-none c.args.heap.now c.fill.new.seat c.in-Err-fill.full c.args.in_stops c.args.heap.now.shape c.args.cache (view_of c.args.seat.now) (view_of c.fill.new.seat) c.in-Err-fill.ensures.err
    (record { kept = kept; came = view_of c.pass.new.seat; comes = came; fills = c.in-Err-fill.ensures.full })

pub returns-in-Err-clause-told : goal.returns-in-Err-clause-told
returns-in-Err-clause-told g c =
    let sh : Shape = c.args.heap.now.shape in
    let u : View = view_of c.args.seat.now in
    let v : View = view_of c.loop.seat in
    let w : View = view_of c.pass.new.seat in
    told-more g.W.Watch.hears (λ ns. TellsFills c.args.in_stops sh ns u v) (λ ns. TellsFills c.args.in_stops sh ns u w) c.args.watch.now c.loop.watch (λ ns k. fills-last c.args.in_stops sh ns u v w k c.pass.ensures.untold) c.loop.invariant.told

pub returns-then-state-shape-clause-told : goal.returns-then-state-shape-clause-told
returns-then-state-shape-clause-told g c =
    let sh : Shape = c.args.heap.now.shape in
    let u : View = view_of c.args.seat.now in
    let v : View = view_of c.loop.seat in
    let w : View = view_of c.pass.new.seat in
    told-more g.W.Watch.hears (λ ns. TellsFills c.args.in_stops sh ns u v) (λ ns. TellsFills c.args.in_stops sh ns u w) c.args.watch.now c.loop.watch (λ ns k. fills-last c.args.in_stops sh ns u v w k c.pass.ensures.untold) c.loop.invariant.told

pub returns-in-Ok-with_free-clause-told : goal.returns-in-Ok-with_free-clause-told
returns-in-Ok-with_free-clause-told g c =
    let sh : Shape = c.args.heap.now.shape in
    let u : View = view_of c.args.seat.now in
    let v : View = view_of c.loop.seat in
    let w : View = view_of c.pass.new.seat in
    told-more g.W.Watch.hears (λ ns. TellsFills c.args.in_stops sh ns u v) (λ ns. TellsFills c.args.in_stops sh ns u w) c.args.watch.now c.loop.watch (λ ns k. fills-last c.args.in_stops sh ns u v w k c.pass.ensures.untold) c.loop.invariant.told

pub returns-in-Err-fill-clause-told : goal.returns-in-Err-fill-clause-told
returns-in-Err-fill-clause-told g c =
    let sh : Shape = c.args.heap.now.shape in
    let u : View = view_of c.args.seat.now in
    let v : View = view_of c.loop.seat in
    let w : View = view_of c.pass.new.seat in
    let x : View = view_of c.fill.new.seat in
    told-join g.W.Watch.hears (λ ns. TellsFills c.args.in_stops sh ns u v) (λ ns. TellsFills c.args.in_stops sh ns w x) (λ ns. TellsFills c.args.in_stops sh ns u x) c.args.watch.now c.loop.watch c.fill.new.watch
    (λ ms ns a b. fills-join c.args.in_stops sh ms ns u v x a (fills-first c.args.in_stops sh ns v w x c.pass.ensures.untold b)) c.loop.invariant.told c.fill.ensures.told
