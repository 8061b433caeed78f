-- Stamps of a shared world's mutators.
use Rattle.std.proofs.Common.{◌≡◌, ◌∙◌, List, ap, length, subst, sym, take}
use Rattle.mark_core.specs.declared.kinds.Event.{Event}
use Rattle.gc_table.specs.OpenRuns.{LogBegins}
use Rattle.gc_table.specs.Past.{log_of}
use Rattle.gc_table.specs.Seats.{view_of}
use Rattle.gc_table.specs.Seen.{Begins}
use Rattle.gc_table.specs.Stamps.{seen_by_stamp, stamp_view}
use Rattle.gc_table.specs.declared.seat.Heap.{Heap}
use Rattle.gc_table.specs.declared.view.View.{View}
use Rattle.gc_table.proofs.Stamped.{order_kept}
use Rattle.shared_heap.specs.Stamping.{CallsInOrder}

pub calls_in_order : CallsInOrder
calls_in_order a b x y z es fits after stamped on =
    let ours : stamp_view b.stamp ≡ view_of x.seat = stamped.of.1 ∙ after.sees.view in
    let same : (stamp_view a.stamp).shape ≡ (stamp_view b.stamp).shape = fits.1 ∙ sym (stamped.fits.1 ∙ ap (λ (h : Heap). h.shape) after.world) in
    let before : Begins (seen_by_stamp a.stamp) (seen_by_stamp b.stamp) = subst (λ (fs : List Event). Begins (seen_by_stamp a.stamp) fs) (sym stamped.of.0) after.told in
    let first : List Event = take (length (seen_by_stamp b.stamp)) es in
    subst (λ (v : View). ∥ LogBegins (stamp_view a.stamp).log (log_of v.shape first (stamp_view a.stamp).state.number) × (log_of v.shape first v.state.number ≡ v.log) ∥₁) ours (order_kept a.stamp b.stamp es same before on)
