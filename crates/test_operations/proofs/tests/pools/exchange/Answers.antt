use Rattle.std.proofs.Common.{ap, ◌∙◌}
use Rattle.mark_core.specs.Held.{drop_packet}
use Rattle.mark_core.specs.declared.seat.SeatState.{SeatState}
use Rattle.gc_table.specs.declared.view.View.{View}
use Rattle.gc_table.specs.Seats.{view_of}
use Rattle.packet_pools.specs.declared.held.Held.{Held}
use Rattle.packet_pools.proofs.Exchanged.{drop-with}
use Rattle.test_operations.proofs.tests.pools.exchange.Goals as goal

pub returns-in-Some-clause-state : goal.returns-in-Some-clause-state
returns-in-Some-clause-state c =
    let v : View = view_of c.args.seat.now in
    let h : Held = c.in-Some.held in
    let t = c.in-Some.ensures.some.0 in
    c.give.ensures.state ∙ (ap (λ (s : SeatState). record s { held = drop_packet s.held h.packet }) t.state ∙ (λ i. record v.state { held = drop-with v.state.held h.packet h.length t.unheld i }))
