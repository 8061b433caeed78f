use Rattle.std.proofs.Common.{◌∙◌, [], List, ap, arith}
use Rattle.std.specs.Prelude.{slice_get}
use Rattle.mark_core.specs.declared.kinds.Shape.{Shape}
use Rattle.mark_core.specs.declared.seat.SeatState.{SeatState}
use Rattle.gc_table.specs.Seats.{view_of}
use Rattle.gc_table.specs.declared.seat.HeapSeat.{HeapSeat}
use Rattle.gc_table.proofs.Running.{ran-opened}
use Rattle.managed_heap.proofs.Starting.{first-new, rest-new}
use Rattle.managed_heap.proofs.Beginning.{new-opens}
use Rattle.managed_heap.proofs.dealing.open_fitting.Goals as goal

pub open_turn-requires : goal.open_turn-requires
open_turn-requires c =
    let new = first-new [] c.in-Ok.made.0 0 c.first_of-zero.result c.first_of-zero.new.all.items c.in-Ok.made.1.items c.first_of-zero.ensures.first c.in-Ok.ensures.seats in
    (new-opens c.in-Ok.made.0 c.first_of-zero.result new, omega (arith, ap (λ (sh : Shape). sh.sections) c.in-Ok.ensures.shape))

pub share-requires-clause-new : goal.share-requires-clause-new
share-requires-clause-new c = rest-new [] c.in-Ok.made.0 0 c.first_of-zero.result c.first_of-zero.new.all.items c.in-Ok.made.1.items c.first_of-zero.ensures.first c.in-Ok.ensures.seats

pub share-requires-clause-first : goal.share-requires-clause-first
share-requires-clause-first c =
    let zero = c.first_of-zero.result in
    let opened = c.in-Ok.ensures.first zero (ap (λ (l : List HeapSeat). slice_get l 0) c.first_of-zero.ensures.first) in
    record {
      number = ap (λ (s : SeatState). s.number) c.if-not-open_turn.ensures.rests.1;
      opened = ran-opened (view_of zero) (view_of c.open_turn.new.seat) c.if-not-open_turn.ensures.ran ∙ opened;
    }
