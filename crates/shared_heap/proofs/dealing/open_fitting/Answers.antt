use Rattle.std.proofs.Common.{◌∙◌, List, ap, arith}
use Rattle.std.specs.Prelude.{slice_get}
use Rattle.mark_core.specs.declared.kinds.Shape.{Shape}
use Rattle.gc_table.specs.declared.seat.HeapSeat.{HeapSeat}
use Rattle.managed_heap.proofs.Starting.{first-new, rest-new}
use Rattle.shared_heap.specs.Planning.{root_plan}
use Rattle.gc_table.specs.Seats.{view_of}
use Rattle.gc_table.proofs.Running.{ran-opened}
use Rattle.shared_heap.proofs.Keeping.{root-seat}
use Rattle.shared_heap.proofs.Rooted.{makes-ran}
use Rattle.shared_heap.proofs.dealing.open_fitting.Goals as goal

pub open_turn-requires-clause-new : goal.open_turn-requires-clause-new
open_turn-requires-clause-new c =
    (first-new root_plan c.in-Ok.made.0 0 c.first_of-zero.result c.first_of-zero.new.all.items c.in-Ok.made.1.items c.first_of-zero.ensures.first c.in-Ok.ensures.seats, omega (arith, ap (λ (sh : Shape). sh.sections) c.in-Ok.ensures.shape))

pub share-requires-clause-new : goal.share-requires-clause-new
share-requires-clause-new c = rest-new root_plan c.in-Ok.made.0 0 c.first_of-zero.result c.first_of-zero.new.all.items c.in-Ok.made.1.items c.first_of-zero.ensures.first c.in-Ok.ensures.seats

pub share-requires-clause-zero : goal.share-requires-clause-zero
share-requires-clause-zero c =
    let x = c.first_of-zero.result in
    let y = c.open_turn.new.seat in
    let new = first-new root_plan c.in-Ok.made.0 0 x c.first_of-zero.new.all.items c.in-Ok.made.1.items c.first_of-zero.ensures.first c.in-Ok.ensures.seats in
    (c.if-not-open_turn.ensures.rests, root-seat c.in-Ok.made.0 x y new (omega (arith, ap (λ (sh : Shape). sh.sections) c.in-Ok.ensures.shape)) c.if-not-open_turn.ensures.makes)

pub share-requires-clause-opened : goal.share-requires-clause-opened
share-requires-clause-opened c =
    let x = c.first_of-zero.result in
    let first = c.in-Ok.ensures.first x (ap (λ (l : List HeapSeat). slice_get l 0) c.first_of-zero.ensures.first) in
    ran-opened (view_of x) (view_of c.open_turn.new.seat) (makes-ran (view_of x) (view_of c.open_turn.new.seat) c.if-not-open_turn.ensures.makes) ∙ first

pub open_turn-requires-clause-shared : goal.open_turn-requires-clause-shared
open_turn-requires-clause-shared c = ap (λ (sh : Shape). sh.sharing) c.in-Ok.ensures.shape

pub open_turn-requires-clause-room : goal.open_turn-requires-clause-room
open_turn-requires-clause-room c = omega (arith, ap (λ (sh : Shape). sh.objects) c.in-Ok.ensures.shape)
