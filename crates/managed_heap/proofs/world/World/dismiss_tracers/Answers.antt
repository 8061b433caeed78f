use Rattle.std.proofs.Common.{◌≡◌, rules, subst}
use Rattle.std.specs.Arc.{arc_value}
use Rattle.gc_table.specs.declared.seat.Heap.{Heap}
use Rattle.seat_turns.specs.Standing.{RestsOutside}
use Rattle.managed_heap.proofs.Beginning.{first-kept}
use Rattle.managed_heap.proofs.world.World.dismiss_tracers.Goals as goal

pub invariant_of-self : goal.invariant_of-self
invariant_of-self g c =
    let h : Heap = arc_value c.args.self.now.heap in
    let same : c.deref.result.now ≡ h = search rules in
    let e = c.tell_dismissed.ensures in
    record {
      rests = subst (λ (x : Heap). RestsOutside x c.tell_dismissed.new.seat) same e.rests;
      section = e.section;
      first = first-kept h c.args.self.now.sizes.tracers c.args.self.now.zero c.tell_dismissed.new.seat c.args.self.now.first e.ran;
      room = c.args.self.now.room;
    }
