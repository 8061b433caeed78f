use Rattle.std.proofs.Common.{◌≡◌, ◌+◌, ◌-◌, ◌⊎◌, length}
use Rattle.std.specs.Prelude.{vec_len}
use Rattle.gc_play.specs.Crews.{AreAfter, AreSaid, WarehouseEndsAt, IsSeatLeftBy, Numbered, SomeKnows, SomeSeatKnows}
use Rattle.gc_play.specs.Dealing.{EachOne, IsDealt}
use Rattle.gc_play.proofs.gathering.gather.Given as goal

abbrev pub invariant-loop-taken : goal.invariant-loop-taken
invariant-loop-taken l = record {
  same : vec_len l.workers ≡ vec_len l.fn.workers;
  dealt : IsDealt (vec_len l.fn.workers) (length l.script.sections.warehouses - l.taken) l.workers.items;
  ends : EachOne (WarehouseEndsAt l.fn.ended l.heap l.script.sections l.season) l.workers.items;
  seats : Numbered (IsSeatLeftBy l.fn.ended l.heap l.script.sections l.season) (1 + (length l.script.sections.warehouses - l.taken)) l.seats.items;
  count : vec_len l.seats ≡ vec_len l.fn.seats + l.taken;
  tracers : AreAfter l.taken l.fn.seats.items l.seats.items;
  parts : length l.parts.items ≡ l.taken;
  said : AreSaid l.fn.ended l.script.sections l.season (1 + (length l.script.sections.warehouses - l.taken)) l.seats.items l.parts.items;
  knows : SomeKnows l.fn.workers.items → SomeKnows l.workers.items ⊎ SomeSeatKnows l.seats.items;
}
