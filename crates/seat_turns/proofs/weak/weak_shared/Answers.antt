use Rattle.std.proofs.Common.{ℕ, ◌≡◌, ◌+◌, ◌*◌, ◌/◌, ◌%◌, arith, refl, subst}
use Rattle.mark_core.specs.Numbers.{section_span}
use Rattle.gc_table.specs.Seats.{view_of}
use Rattle.gc_table.specs.declared.view.View.{View}
use Rattle.mutator_ops.specs.Weak.{TakesWeak}
use Rattle.seat_turns.proofs.Held.{held-taken, held-unpublished, holds-shares}
use Rattle.seat_turns.proofs.weak.weak_shared.Goals as goal

pub share_weak-requires-clause-seat : goal.share_weak-requires-clause-seat
share_weak-requires-clause-seat c = holds-shares c.args.heap.now c.args.seat.now c.requires.turn c.requires.shared

pub returns-in_err-identity-clause-turn : goal.returns-in_err-identity-clause-turn
returns-in_err-identity-clause-turn c =
    let e = c.in_err-identity.ensures in held-unpublished c.args.heap.now c.args.seat.now c.share_weak.new.seat c.args.v c.requires.turn e.seat e.none

pub returns-clause-turn : goal.returns-clause-turn
returns-clause-turn c =
    let e = c.in_ok-identity.ensures in held-taken c.args.heap.now c.args.seat.now c.share_weak.new.seat c.args.v c.in_ok-identity.identity c.requires.turn e.seat c.requires.range e.takes

-- the numbers of the weak reference are the cell and the identity
pub returns-clause-takes : goal.returns-clause-takes
returns-clause-takes c =
    let v : View = view_of c.args.seat.now in
    let w : View = view_of c.share_weak.new.seat in
    let id : ℕ = c.in_ok-identity.identity in
    let whole : id ≡ id / section_span * section_span + id % section_span = omega arith in
    record {
      world_is = refl;
      place_is = (let word = c.word_of-place.ensures in let some = c.requires.some in omega (arith, word, some));
      takes = subst (λ k. TakesWeak c.args.v k v w) whole c.in_ok-identity.ensures.takes;
    }
