use Rattle.std.proofs.Common.{◌≡◌, ◌+◌}
use Rattle.std.specs.Prelude.{vec_len}
use Rattle.std.specs.Arc.{arc_value}
use Rattle.managed_heap.specs.WorldOpening.{AreNewOf, AreNumbered, IsFreshTracer}
use Rattle.managed_heap.proofs.dealt_tracers.deal_tracers.Given as goal

abbrev pub invariant-loop-at : goal.invariant-loop-at
invariant-loop-at g l = record {
  new : AreNewOf g.plan (arc_value l.heap) (1 + l.fn.sizes.mutators + l._at) l.seats.items;
  rest : vec_len l.seats + l._at ≡ vec_len l.fn.seats;
  fresh : AreNumbered (IsFreshTracer g.plan (arc_value l.heap) l.fn.sizes.name) (1 + l.fn.sizes.mutators) l.all.items;
  count : vec_len l.all ≡ l._at;
}
