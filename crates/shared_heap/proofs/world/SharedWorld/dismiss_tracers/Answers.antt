use Rattle.std.proofs.Common.{◌≡◌, rules, subst}
use Rattle.std.specs.Arc.{arc_value}
use Rattle.gc_table.specs.declared.seat.Heap.{Heap}
use Rattle.seat_turns.specs.Standing.{RestsOutside}
use Rattle.shared_heap.proofs.Telling.{section-zero, zero-told}
use Rattle.shared_heap.proofs.world.SharedWorld.dismiss_tracers.Goals as goal

pub tell_dismissed-requires-clause-section : goal.tell_dismissed-requires-clause-section
tell_dismissed-requires-clause-section g c = section-zero (arc_value c.args.self.now.heap) c.args.self.now.zero c.args.self.now.first

pub invariant_of-self : goal.invariant_of-self
invariant_of-self g c =
    let h : Heap = arc_value c.args.self.now.heap in
    let same : c.deref.result.now ≡ h = search rules in
    let e = c.tell_dismissed.ensures in
    let z = zero-told h c.args.self.now.sizes.tracers c.args.self.now.zero c.tell_dismissed.new.seat c.args.self.now.first c.args.self.now.opened (subst (λ (x : Heap). RestsOutside x c.tell_dismissed.new.seat) same e.rests) e.ran e.spares in
    record { rests = z.rests; first = z.first; opened = z.opened; room = c.args.self.now.room }
