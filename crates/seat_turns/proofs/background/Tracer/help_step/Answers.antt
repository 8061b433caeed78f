use Rattle.std.proofs.Common.{ℕ, ◌≡◌, ◌∙◌, ap, arith, inl, inr, refl, subst, sym}
use Rattle.gc_table.specs.Seats.{Across, Sits, view_of}
use Rattle.gc_table.specs.declared.seat.Heap.{Heap}
use Rattle.gc_cycle.specs.HelpTurns.{TakesShortTurn}
use Rattle.gc_cycle.specs.Pieces.{stretches_in}
use Rattle.seat_turns.specs.Tallying.{Tallies}
use Rattle.seat_turns.specs.TracerHelps.{HelpsInFew, TakesHelpTurn}
use Rattle.seat_turns.proofs.Helped.{short-few, short-turn}
use Rattle.seat_turns.proofs.Tallying.{tallies-only}
use Rattle.seat_turns.proofs.background.Tracer.help_step.Goals as goal
use Rattle.seat_turns.proofs.background.Tracer.help_step.Goals.{After-help_turn}

pub help_turn-requires : goal.help_turn-requires
help_turn-requires c = let x = c.args.self.now in record { seat = (subst (λ (h : Heap). Sits h x.seat) (sym c.deref-2.ensures) x.rests.sits, x.rests.out) }

-- as many stretches as so many blocks have
draws : (c : After-help_turn) → c.stretches_of-stretches.result ≡ stretches_in c.deref-2.result.now.shape c.args.most
draws c = subst (λ (h : Heap). c.stretches_of-stretches.result ≡ stretches_in h.shape c.args.most) (c.deref.ensures ∙ sym c.deref-2.ensures) c.stretches_of-stretches.ensures

shaped : (c : After-help_turn) → (view_of c.args.self.now.seat).shape ≡ c.deref-2.result.now.shape
shaped c = c.args.self.now.rests.sits.1 ∙ ap (λ (h : Heap). h.shape) (sym c.deref-2.ensures)

few : (c : After-help_turn) → Across (HelpsInFew c.args.most) c.args.self.now.seat c.help_turn.new.seat
few c = short-few c.deref-2.result.now.shape c.args.most c.stretches_of-stretches.result c.args.self.now.seat c.help_turn.new.seat (shaped c) (draws c) c.help_turn.ensures.few

-- nothing is told as traced
tally : (c : After-help_turn) → Across (Tallies c.args.self.now.traced c.args.self.now.traced) c.args.self.now.seat c.help_turn.new.seat
tally c = let e = c.help_turn.ensures in tallies-only c.args.self.now.traced (view_of c.args.self.now.seat) (view_of c.help_turn.new.seat) e.out.ran e.numbers

turned : (c : After-help_turn) (done : ℕ) → Across (TakesShortTurn c.args.most c.stretches_of-stretches.result done) c.args.self.now.seat c.help_turn.new.seat → Across (TakesHelpTurn c.args.most done) c.args.self.now.seat c.help_turn.new.seat
turned c done t = short-turn c.deref-2.result.now.shape c.args.most c.stretches_of-stretches.result done c.args.self.now.seat c.help_turn.new.seat (shaped c) (draws c) t

pub returns-in-None : goal.returns-in-None
returns-in-None c =
    let here = (goal.at.returns-in-None c).After-help_turn in
    record { helps = (inl c.in-None.ensures.closed, record { few = few here; tally = tally here; traced = refl; heap = refl; name = refl }) }

pub returns-then-done-eq0 : goal.returns-then-done-eq0
returns-then-done-eq0 c =
    let here = (goal.at.returns-then-done-eq0 c).After-help_turn in
    let turn = turned here c.in-Some.done c.in-Some.ensures.helped in
    record { helps = (inr (subst (λ k. Across (TakesHelpTurn c.args.most k) c.args.self.now.seat c.help_turn.new.seat) c.if-done-eq0.true turn), record { few = few here; tally = tally here; traced = refl; heap = refl; name = refl }) }

pub returns-else-done-eq0 : goal.returns-else-done-eq0
returns-else-done-eq0 c =
    let here = (goal.at.returns-else-done-eq0 c).After-help_turn in
    record { helps = ((c.in-Some.done, omega (arith, c.if-done-eq0.false), turned here c.in-Some.done c.in-Some.ensures.helped), record { few = few here; tally = tally here; traced = refl; heap = refl; name = refl }) }
