use Rattle.mark_core.specs.declared.kinds.Phase.TheVariants.{Drain}
use Rattle.gc_table.specs.Seats.{view_of}
use Rattle.gc_cycle.proofs.Parts.{part-join}
use Rattle.gc_cycle.proofs.Traced.{rescans-none}
use Rattle.gc_cycle.proofs.roots.see_to_roots.Goals as goal

pub sees_to_all_roots-requires-2-clause-alone : goal.sees_to_all_roots-requires-2-clause-alone
sees_to_all_roots-requires-2-clause-alone c = let e = c.sees_to_all_roots.ensures in (e.part.alone, e.next)

pub returns-then-sees_to_all_roots-clause-seat : goal.returns-then-sees_to_all_roots-clause-seat
returns-then-sees_to_all_roots-clause-seat c = let e = c.sees_to_all_roots.ensures in (e.seat, e.rooted c.if-sees_to_all_roots.true)

pub returns-clause-seat : goal.returns-clause-seat
returns-clause-seat c = let f = c.sees_to_all_roots-2.ensures in (f.seat, f.rooted (f.pooled (c.sees_to_all_roots.ensures.outside c.if-sees_to_all_roots.false)))

pub returns-clause-part : goal.returns-clause-part
returns-clause-part c = part-join Drain (view_of c.args.seat.now) (view_of c.sees_to_all_roots.new.seat) (view_of c.sees_to_all_roots-2.new.seat) c.sees_to_all_roots.ensures.part c.sees_to_all_roots-2.ensures.part

pub returns-clause-rescanned : goal.returns-clause-rescanned
returns-clause-rescanned c =
    let e = c.sees_to_all_roots.ensures in
    let f = c.sees_to_all_roots-2.ensures in
    rescans-none (view_of c.args.seat.now) (view_of c.sees_to_all_roots.new.seat) (view_of c.sees_to_all_roots-2.new.seat) e.part.ran f.part.ran e.rescanned f.rescanned
