use Rattle.std.proofs.Common.{◌<◌, arith, subst}
use Rattle.mark_core.specs.Layout.{root_count}
use Rattle.mark_core.specs.declared.kinds.Shape.{Shape}
use Rattle.gc_table.specs.Seats.{view_of}
use Rattle.gc_table.specs.declared.view.View.{View}
use Rattle.gc_cycle.proofs.Ends.Rooted.{ready-of}
use Rattle.gc_cycle.proofs.roots.sees_to_all_roots.Goals as goal

pub sees_to_some-requires-clause-roots : goal.sees_to_some-requires-clause-roots
sees_to_some-requires-clause-roots c = let all = c.count_roots-end.ensures in (omega arith, omega (arith, all))

pub returns-clause-rooted : goal.returns-clause-rooted
returns-clause-rooted c found =
    let w : View = view_of c.sees_to_some.new.seat in
    let e = c.sees_to_some.ensures in
    let all = c.count_roots-end.ensures in
    record {
      rest = e.part.alone.rest;
      rooted =
          record {
            ready = ready-of w e.part.alone e.next;
            roots = λ i l. let below : i < root_count c.args.heap.now.shape = subst (λ (sh : Shape). i < root_count sh) e.seat.1 l in e.noted found i (omega arith) (omega (arith, below, all));
          };
    }
