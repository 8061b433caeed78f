use Rattle.std.proofs.Common.{◌≡◌, sym, ◌∙◌, subst, true}
use Rattle.packet_pools.specs.Seeking.{deferred_pools}
use Rattle.mark_core.specs.declared.kinds.Shape.{Shape}
use Rattle.gc_table.specs.Log.{events}
use Rattle.gc_table.specs.Seats.{view_of}
use Rattle.gc_table.specs.declared.view.View.{View}
use Rattle.gc_cycle.specs.Sorts.{draws_or_clears, pops, reads_root}
use Rattle.gc_cycle.specs.Standing.{is_at_rest}
use Rattle.gc_cycle.proofs.Idling.{idle-of, moves-quiet, traced-of, traces-of}
use Rattle.gc_cycle.proofs.CleaningSpares.{moved-untaken, moves-uncleaned, moves-unpopped, moves-unrooted, unread-of}
use Rattle.gc_cycle.specs.CardLooks.{looks_at_card}
use Rattle.gc_cycle.proofs.CardLooks.{moves-unlooked}
use Rattle.gc_cycle.proofs.tracing.recycle_deferred.Goals as goal

pub recycle_deferred-requires-clause-seat : goal.recycle_deferred-requires-clause-seat
recycle_deferred-requires-clause-seat c = (c.requires.seat.0, traces-of c.args.heap.now.shape (view_of c.args.seat.now) c.requires.seat.1 c.requires.rest)

pub recycle_deferred-requires-clause-idle : goal.recycle_deferred-requires-clause-idle
recycle_deferred-requires-clause-idle c =
    let v : View = view_of c.args.seat.now in
    idle-of v c.args.seat.now.possible (subst (λ (sh : Shape). is_at_rest sh v.state ≡ true) (sym c.requires.seat.0.1) c.requires.rest)

pub returns-clause-traced : goal.returns-clause-traced
returns-clause-traced c =
    let v : View = view_of c.args.seat.now in
    let w : View = view_of c.recycle_deferred.new.seat in
    let e = c.recycle_deferred.ensures in
    let before : is_at_rest v.shape v.state ≡ true = subst (λ (sh : Shape). is_at_rest sh v.state ≡ true) (sym c.requires.seat.0.1) c.requires.rest in
    traced-of v w e.only ((λ i. is_at_rest (e.only.shape i) (e.state i)) ∙ before)

pub returns-clause-rescanned : goal.returns-clause-rescanned
returns-clause-rescanned c =
    let v : View = view_of c.args.seat.now in
    moves-quiet deferred_pools (events v (view_of c.recycle_deferred.new.seat)) v c.recycle_deferred.ensures.recycled.moves

pub returns-clause-uncleaned : goal.returns-clause-uncleaned
returns-clause-uncleaned c = moved-untaken deferred_pools draws_or_clears (moves-uncleaned deferred_pools) (events (view_of c.args.seat.now) (view_of c.recycle_deferred.new.seat)) c.recycle_deferred.ensures.recycled.moves

pub returns-clause-unpopped : goal.returns-clause-unpopped
returns-clause-unpopped c = moved-untaken deferred_pools pops (moves-unpopped deferred_pools) (events (view_of c.args.seat.now) (view_of c.recycle_deferred.new.seat)) c.recycle_deferred.ensures.recycled.moves

pub returns-clause-unrooted : goal.returns-clause-unrooted
returns-clause-unrooted c = moved-untaken deferred_pools reads_root (moves-unrooted deferred_pools) (events (view_of c.args.seat.now) (view_of c.recycle_deferred.new.seat)) c.recycle_deferred.ensures.recycled.moves

pub returns-clause-unread : goal.returns-clause-unread
returns-clause-unread c = unread-of (view_of c.args.seat.now) (view_of c.recycle_deferred.new.seat) c.recycle_deferred.ensures.only

pub returns-clause-unlooked : goal.returns-clause-unlooked
returns-clause-unlooked c = moved-untaken deferred_pools looks_at_card (moves-unlooked deferred_pools) (events (view_of c.args.seat.now) (view_of c.recycle_deferred.new.seat)) c.recycle_deferred.ensures.recycled.moves
