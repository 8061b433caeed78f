use Rattle.std.proofs.Common.{ap, ◌∙◌}
use Rattle.mark_core.specs.declared.kinds.Shape.{Shape}
use Rattle.gc_table.specs.Log.{events}
use Rattle.gc_table.specs.Seats.{view_of}
use Rattle.gc_table.specs.declared.view.View.{View}
use Rattle.packet_pools.specs.Seeking.{input_pools}
use Rattle.gc_cycle.specs.Sorts.{draws_or_clears, pops}
use Rattle.gc_cycle.specs.Standing.{is_at_rest}
use Rattle.gc_cycle.proofs.Idling.{moves-quiet, traced-of, traces-of}
use Rattle.gc_cycle.proofs.CleaningSpares.{moved-untaken, moves-uncleaned, moves-unpopped, uncounted-of}
use Rattle.gc_cycle.proofs.Stops.Admitted.{unpassed}
use Rattle.gc_cycle.proofs.tracing.lacks_work.Goals as goal

pub lacks_work-requires : goal.lacks_work-requires
lacks_work-requires c = record { seat = (c.requires.seat.0, traces-of c.args.heap.now.shape (view_of c.args.seat.now) c.requires.seat.1 c.requires.rest) }

pub returns-clause-traced : goal.returns-clause-traced
returns-clause-traced c =
    let w : View = view_of c.lacks_work.new.seat in
    let e = c.lacks_work.ensures in
    traced-of (view_of c.args.seat.now) w e.only (ap (λ (sh : Shape). is_at_rest sh w.state) e.seat.0.1 ∙ (ap (is_at_rest c.args.heap.now.shape) e.state ∙ c.requires.rest))

pub returns-clause-rescanned : goal.returns-clause-rescanned
returns-clause-rescanned c =
    let v : View = view_of c.args.seat.now in
    moves-quiet input_pools (events v (view_of c.lacks_work.new.seat)) v c.lacks_work.ensures.moves

pub returns-clause-unpassed : goal.returns-clause-unpassed
returns-clause-unpassed c =
    let v : View = view_of c.args.seat.now in
    let w : View = view_of c.lacks_work.new.seat in
    unpassed (events v w) (uncounted-of v w c.lacks_work.ensures.only) (moved-untaken input_pools draws_or_clears (moves-uncleaned input_pools) (events v w) c.lacks_work.ensures.moves)

pub returns-clause-unpopped : goal.returns-clause-unpopped
returns-clause-unpopped c = moved-untaken input_pools pops (moves-unpopped input_pools) (events (view_of c.args.seat.now) (view_of c.lacks_work.new.seat)) c.lacks_work.ensures.moves
