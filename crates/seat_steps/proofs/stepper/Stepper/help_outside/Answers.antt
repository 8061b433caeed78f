use Rattle.std.proofs.Common.{ℕ, ◌≡◌, ◌∙◌, arith, inl, inr, refl, subst, sym}
use Rattle.gc_table.specs.Seats.{Across}
use Rattle.gc_table.specs.declared.seat.Heap.{Heap}
use Rattle.gc_cycle.specs.HelpTurns.{TakesShortTurn}
use Rattle.gc_cycle.specs.Pieces.{stretches_in}
use Rattle.mutator_ops.specs.Few.{AtMost}
use Rattle.seat_steps.specs.Helping.{help_steps}
use Rattle.seat_steps.specs.Steps.{draws_for, shape_of}
use Rattle.seat_steps.proofs.Helped.{few-in, helped-kept, helped-outside, turn-in}
use Rattle.seat_steps.proofs.Answered.{cycle-kept}
use Rattle.seat_steps.proofs.Sparing.{keeps-all, keeps-rest, sits-in}
use Rattle.seat_steps.proofs.stepper.Stepper.help_outside.Goals as goal
use Rattle.seat_steps.proofs.stepper.Stepper.help_outside.Goals.{After-help_turn}

pub help_turn-requires : goal.help_turn-requires
help_turn-requires c = let x = c.args.self.now in let o = x.outside c.requires.outside in record { seat = (sits-in _ _ x.seat c.deref-2.ensures o.sits, o.out) }

-- as many stretches as so many blocks have
draws : (c : After-help_turn) → c.stretches_of-stretches.result ≡ stretches_in c.deref-2.result.now.shape c.args.most
draws c = subst (λ (h : Heap). c.stretches_of-stretches.result ≡ stretches_in h.shape c.args.most) (c.deref.ensures ∙ sym c.deref-2.ensures) c.stretches_of-stretches.ensures

few : (c : After-help_turn) → Across (AtMost (help_steps c.args.most c.args.self.now)) c.args.self.now.seat c.help_turn.new.seat
few c = few-in _ _ c.args.most c.stretches_of-stretches.result c.args.self.now.seat c.help_turn.new.seat c.deref-2.ensures (draws c) c.help_turn.ensures.few

turned : (c : After-help_turn) (done : ℕ) → Across (TakesShortTurn c.args.most c.stretches_of-stretches.result done) c.args.self.now.seat c.help_turn.new.seat → Across (TakesShortTurn c.args.most (stretches_in (shape_of c.args.self.now) c.args.most) done) c.args.self.now.seat c.help_turn.new.seat
turned c done t = turn-in _ _ c.args.most c.stretches_of-stretches.result done c.args.self.now.seat c.help_turn.new.seat c.deref-2.ensures (draws c) t

pub returns-in-None : goal.returns-in-None
returns-in-None c =
    let x = c.args.self.now in
    let here = (goal.at.returns-in-None c).After-help_turn in
    let e = c.help_turn.ensures in
    record { helps = (inl c.in-None.ensures.closed, record { was = c.requires.outside; stays = c.requires.outside; few = few here; keeps = keeps-all x _ (keeps-rest x _ (helped-kept x.seat c.help_turn.new.seat e.out) refl refl) (cycle-kept x _ refl) }) }

pub returns-then-done-eq0 : goal.returns-then-done-eq0
returns-then-done-eq0 c =
    let x = c.args.self.now in
    let here = (goal.at.returns-then-done-eq0 c).After-help_turn in
    let y = c.help_turn.new.seat in
    let turn = turned here c.in-Some.done c.in-Some.ensures.helped in
    record {
      helps = (
        inr (subst (λ k. Across (TakesShortTurn c.args.most (draws_for c.args.most x) k) x.seat y) c.if-done-eq0.true turn),
        record { was = c.requires.outside; stays = c.requires.outside; few = few here; keeps = keeps-all x _ (keeps-rest x _ (helped-kept x.seat y c.help_turn.ensures.out) refl refl) (cycle-kept x _ refl) },
      );
    }

pub returns-else-done-eq0 : goal.returns-else-done-eq0
returns-else-done-eq0 c =
    let x = c.args.self.now in
    let here = (goal.at.returns-else-done-eq0 c).After-help_turn in
    record {
      helps = (
        (c.in-Some.done, omega (arith, c.if-done-eq0.false), turned here c.in-Some.done c.in-Some.ensures.helped),
        record { was = c.requires.outside; stays = c.requires.outside; few = few here; keeps = keeps-all x _ (keeps-rest x _ (helped-kept x.seat c.help_turn.new.seat c.help_turn.ensures.out) refl refl) (cycle-kept x _ refl) },
      );
    }

pub invariant_of-self-clause-outside : goal.invariant_of-self-clause-outside
invariant_of-self-clause-outside c = λ is.
    let x = c.args.self.now in
    let e = c.help_turn.ensures in
    helped-outside _ _ x.seat c.help_turn.new.seat c.deref-2.ensures (x.outside c.requires.outside) e.seat.0 e.seat.1 e.out
