use Rattle.std.proofs.Common.{◌≤◌, ◌+◌, ◌-◌, ◌*◌, length}
use Rattle.gc_table.specs.Log.{events}
use Rattle.gc_table.specs.Seats.{Sits, view_of}
use Rattle.packet_pools.specs.Counts.{count_of}
use Rattle.tracer.specs.StepBounds.{trace_steps}
use Rattle.card_clean.specs.StepBounds.{next_steps}
use Rattle.gc_cycle.specs.CardLooks.{looks_at_card}
use Rattle.cache_refills.specs.Pace.Deferring.{TracesApart}
use Rattle.cache_refills.specs.Pace.Payment.{TracesOn}
use Rattle.cache_refills.specs.Pace.StepBounds.{round_steps}
use Rattle.cache_refills.proofs.paying.trace_and_clean.Given as goal

abbrev pub invariant-loop-round : goal.invariant-loop-round
invariant-loop-round l = record {
  sits : Sits l.heap l.seat;
  left : l.left ≤ l.fn.looks;
  traces : TracesOn l.fn.quota 0 (l.fn.looks - l.left) l.paid (view_of l.fn.seat) (view_of l.seat);
  apart : TracesApart (view_of l.fn.seat) (view_of l.seat);
  late : count_of looks_at_card (events (view_of l.fn.seat) (view_of l.seat)) + l.left ≤ l.fn.looks;
  few : length (events (view_of l.fn.seat) (view_of l.seat)) ≤ trace_steps l.paid.done l.heap.shape + l._round * round_steps l.heap.shape + (l.fn.looks - l.left) * next_steps l.heap.shape;
}
