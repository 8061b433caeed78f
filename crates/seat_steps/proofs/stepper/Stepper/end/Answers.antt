use Rattle.std.proofs.Common.{refl, subst}
use Rattle.gc_table.specs.Seats.{view_of}
use Rattle.gc_table.specs.declared.seat.Heap.{Heap}
use Rattle.gc_cycle.specs.declared.counts.Counts.{Counts}
use Rattle.seat_steps.specs.Course.{EndsBy}
use Rattle.seat_steps.specs.declared.came.Came.TheVariants as cames
use Rattle.seat_turns.specs.Standing.{IsMutatorOutside}
use Rattle.seat_steps.proofs.Answered.{arrives-out, cycle-kept}
use Rattle.seat_steps.specs.declared.stepper.Stage.TheVariants as stages
use Rattle.seat_steps.proofs.Stages.{bounded-on, ends-out}
use Rattle.seat_steps.proofs.stepper.Stepper.end.Goals as goal

pub returns-in-Done : goal.returns-in-Done
returns-in-Done c = record { collects = λ precise most. ((c.requires.ending, subst (λ (k : Counts). EndsBy c.args.self.now.exact k cames.Done (view_of c.args.self.now.seat) (view_of c.end_to_turn.new.seat)) c.counts-counts.ensures.counts c.in-Done.ensures.ends, cycle-kept c.args.self.now _ refl), refl, record { heap = c.end_to_turn.ensures.same; leaves = c.end_to_turn.ensures.leaves; world = refl; name_is = refl; stops = refl; search = record { paid_is = refl; block = refl; seen = refl } }); bounded = λ most. bounded-on most c.args.self.now _ stages.Ending stages.Inside c.requires.ending refl c.end_to_turn.ensures.few }

pub returns-in_default : goal.returns-in_default
returns-in_default c =
    record {
      collects = λ precise most.
          ends-out precise most c.end_to_turn.result c.deref.result.now c.args.self.now _ c.in_default.not-Done c.end_to_turn.ensures.arrives c.requires.ending (subst (λ (k : Counts). EndsBy c.args.self.now.exact k c.end_to_turn.result (view_of c.args.self.now.seat) (view_of c.end_to_turn.new.seat)) c.counts-counts.ensures.counts c.end_to_turn.ensures.ends) (cycle-kept c.args.self.now _ refl) refl (record { heap = c.end_to_turn.ensures.same; leaves = c.end_to_turn.ensures.leaves; world = refl; name_is = refl; stops = refl; search = record { paid_is = refl; block = refl; seen = refl } });
      bounded = λ most. bounded-on most c.args.self.now _ stages.Ending stages.Outside c.requires.ending refl c.end_to_turn.ensures.few;
    }

pub invariant_of-self-in_default-clause-outside : goal.invariant_of-self-in_default-clause-outside
invariant_of-self-in_default-clause-outside c = λ is.
    subst (λ (h : Heap). IsMutatorOutside h c.end_to_turn.new.seat) c.deref.ensures (arrives-out c.end_to_turn.result c.deref.result.now c.end_to_turn.new.seat c.in_default.not-Done c.end_to_turn.ensures.arrives)
