use Rattle.std.proofs.Common.{◌≡◌, subst, true, ⊎_elim, arith}
use Rattle.mark_core.specs.declared.kinds.Phase.TheVariants.{Idle, Marking}
use Rattle.mark_core.specs.declared.kinds.Shape.{Shape}
use Rattle.gc_table.specs.Seats.{view_of}
use Rattle.gc_table.specs.declared.view.View.{View}
use Rattle.gc_table.specs.Log.{events}
use Rattle.gc_cycle.specs.Cycles.{collects_exactly}
use Rattle.card_clean.specs.Leaving.{rescans}
use Rattle.gc_cycle.specs.Moments.{begins}
use Rattle.gc_table.proofs.Running.{ran-only}
use Rattle.gc_cycle.specs.Finishing.{finishes, IsAloneIn}
use Rattle.gc_cycle.proofs.Ends.Completing.{total-run}
use Rattle.gc_cycle.proofs.Ends.Finishes.{before-more, exact-collects, exact-end, exact-fresh, exact-help, exact-not-full, exact-once, exact-ran, exact-unbegun}
use Rattle.gc_cycle.proofs.Ends.Spared.{finish-calm, finish-keeps, finish-position, finish-spares, untold-fills, untold-sees}
use Rattle.gc_cycle.proofs.finishing.precise.Goals as goal
use Rattle.sweeper.proofs.SweptBlocks.{freed-join as freed-run}

pub returns-clause-ends : goal.returns-clause-ends
returns-clause-ends g c =
    let u : View = view_of c.args.seat.now in
    let v : View = view_of c.begin_exactly-first.new.seat in
    let w : View = view_of c.complete.new.seat in
    let f = c.begin_exactly-first.ensures in
    let b = f.begun in
    let r = c.complete.ensures in
    let k = r.completes in
    let ran = exact-ran u v w b k in
    let only = ran-only finishes u v w b.ran k.ran b.only k.only in
    let untold = exact-not-full u v w b k in
    let fills = untold-fills (events u w) untold in
    let rescanned = total-run rescans u v w b.ran k.ran in
    let freed = freed-run u v w b.ran k.ran in
    record {
      alone = ⊎_elim (λ (a : IsAloneIn Idle u). a.rest) (λ (a : IsAloneIn Marking u). a.rest) c.requires.alone;
      idle = k.alone;
      keeps = finish-keeps u w ran only;
      position = finish-position u w ran only;
      ran = ran;
      only = only;
      drains = record { begun = v; begins = (b.ran, exact-fresh u v b); drains = r.drains };
      help = exact-help u v w b k;
      once = exact-once u v w b k;
      spares = finish-spares u w only fills;
      not_full = fills;
      unbegun = exact-unbegun u v w b k;
      calm = finish-calm u w only;
      going = untold-sees (events u w) untold;
      end = r.end;
      rescanned = let first = f.rescanned in let n = r.rescanned in omega (arith, rescanned, first, n);
      freed = let none = f.freed in let n = r.freed in omega (arith, freed, none, n);
    }

pub returns-clause-collects : goal.returns-clause-collects
returns-clause-collects g c =
    let v : View = view_of c.args.seat.now in
    let w : View = view_of c.complete.new.seat in
    subst (λ (sh : Shape). collects_exactly sh (begins v) (events v w) ≡ true) c.requires.seat.1 (exact-collects v (view_of c.begin_exactly-first.new.seat) w c.begin_exactly-first.ensures.begun c.complete.ensures.completes)

pub returns-clause-known : goal.returns-clause-known
returns-clause-known g c = (c.complete.ensures.completes.exactly c.begin_exactly-first.ensures.begun.exact).1

pub returns-clause-exact : goal.returns-clause-exact
returns-clause-exact g c = exact-end (view_of c.complete.new.seat) c.complete.ensures.completes.alone (returns-clause-known g c)

pub returns-clause-first : goal.returns-clause-first
returns-clause-first g c a = before-more (view_of c.args.seat.now) (view_of c.begin_exactly-first.new.seat) (view_of c.complete.new.seat) (c.begin_exactly-first.ensures.first a) c.complete.ensures.completes.ran
