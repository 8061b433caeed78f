use Rattle.std.proofs.Common.{None}
use Rattle.gc_table.specs.Log.{events}
use Rattle.gc_table.specs.Seats.{view_of}
use Rattle.tracer.proofs.Searched.{quiet-of, searches-anew}
use Rattle.tracer.proofs.sharing.share_in_turn.Goals as goal

pub returns-then-turn-clause-tried : goal.returns-then-turn-clause-tried
returns-then-turn-clause-tried c =
    let es = events (view_of c.args.seat.now) (view_of c.share.new.seat) in
    searches-anew c.args.heap.now.shape c.args.search.now c.open.result es c.open.ensures (quiet-of es (c.share.ensures.part None).dirtied)
