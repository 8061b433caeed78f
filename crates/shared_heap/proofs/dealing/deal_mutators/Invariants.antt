use Rattle.std.proofs.Common.{◌≡◌, ◌+◌}
use Rattle.std.specs.Prelude.{length, vec_len}
use Rattle.std.specs.Arc.{arc_value}
use Rattle.gc_table.specs.Seats.{state_of}
use Rattle.shared_heap.specs.Lending.{AreFresh}
use Rattle.shared_heap.specs.Opening.{AreNew}
use Rattle.shared_heap.proofs.dealing.deal_mutators.Given as goal

abbrev pub invariant-loop-at : goal.invariant-loop-at
invariant-loop-at l = record {
  new : AreNew (arc_value l.heap) (1 + l._at) l.seats.items;
  rest : vec_len l.seats + l._at ≡ vec_len l.fn.seats;
  fresh : AreFresh (arc_value l.heap) l.fn.sizes.name 1 l.all.items;
  count : vec_len l.all ≡ l._at;
  long : length l.all.items ≡ l._at;
}

abbrev pub ghost-mutator_of : goal.ghost-mutator_of
ghost-mutator_of a = (state_of a.seat).number
