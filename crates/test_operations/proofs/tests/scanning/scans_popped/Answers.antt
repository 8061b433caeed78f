use Rattle.std.proofs.Common.{ℕ, ◌≡◌, List, None, false, ap, ◌∙◌}
use Rattle.mark_core.specs.Seats.{work_in_hand}
use Rattle.mark_core.specs.declared.seat.SeatState.{SeatState}
use Rattle.gc_table.specs.Seats.{view_of}
use Rattle.gc_table.specs.declared.view.View.{View}
use Rattle.packet_pools.specs.Gains.{Takes}
use Rattle.packet_pools.specs.OnlyTraced.{OnlyTraced}
use Rattle.packet_pools.specs.Seeking.{input_pools}
use Rattle.packet_pools.specs.declared.held.Held.{Held}
use Rattle.tracer.proofs.Hand.{was-popped}
use Rattle.test_operations.proofs.tests.scanning.scans_popped.Goals as goal

-- a packet was taken, and neither work nor a block is in hand
taken : (v w : View) (qs : List ℕ) (h : Held) → OnlyTraced v w → Takes qs h v w → work_in_hand v.shape.fields v.state ≡ false → v.state.block ≡ None → (work_in_hand w.shape.fields w.state ≡ false) × (w.state.block ≡ None)
taken v w qs h l t idle block = ((λ i. work_in_hand (l.shape i).fields (t.state i)) ∙ idle, ap (λ (s : SeatState). s.block) t.state ∙ block)

pub begins_scan-requires-clause-cell : goal.begins_scan-requires-clause-cell
begins_scan-requires-clause-cell g c =
    let w : View = view_of c.take_input.new.seat in
    let e = c.in_ok-held.ensures in
    let p = c.in-Some.ensures.popped.2 in
    let h : Held = c.in_ok-held.held in
    let t = taken (view_of c.args.seat.now) w input_pools h e.only e.some.0 c.requires.1.idle c.if-not-is_idle.ensures.block in
    was-popped w (view_of c.pop.new.seat) h.packet c.in-Some.cell _ t.0 t.1 p.3 p.1
