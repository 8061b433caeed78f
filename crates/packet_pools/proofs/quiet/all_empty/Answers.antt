use Rattle.std.proofs.Common.{◌+◌, ap, sym, ◌∙◌}
use Rattle.mark_core.specs.Numbers.{empty_offset}
use Rattle.mark_core.specs.declared.kinds.Shape.{Shape}
use Rattle.mark_core.proofs.Consequences.QuietReading.{quiet}
use Rattle.packet_pools.specs.Quiet.{IsQuietAt}
use Rattle.gc_table.specs.declared.view.View.{View}
use Rattle.gc_table.specs.Seats.{view_of}
use Rattle.packet_pools.proofs.Doing.{traced-read_count}
use Rattle.packet_pools.proofs.quiet.all_empty.Goals as goal

-- A count of all packets shows that nothing is left to trace.
quiet-at : (sh : Shape) → IsQuietAt sh (empty_offset + sh.packets)
quiet-at sh x s e h = quiet x.core s.core.formed (record { pools = s.core.sound.pools; counts = s.core.sound.counts }) (h ∙ ap (λ (x : Shape). empty_offset + x.packets) (sym e))

pub returns-clause-only : goal.returns-clause-only
returns-clause-only c = traced-read_count (view_of c.args.seat.now) (view_of c.read_count.new.seat) _ c.read_count.ensures.view.1 c.read_count.ensures.view.0

pub returns-clause-state : goal.returns-clause-state
returns-clause-state c = ap (λ (x : View). x.state) c.read_count.ensures.view.0

pub returns-clause-quiet : goal.returns-clause-quiet
returns-clause-quiet c = λ e. quiet-at c.args.heap.now.shape
