use Rattle.std.proofs.Common.{ℕ, ◌≡◌, ◌≤◌, ◌+◌, arith, refl, subst}
use Rattle.std.proofs.lemmas.Bool.{OnFalse_at, OnTrue_at}
use Rattle.mark_core.specs.Numbers.{done_count}
use Rattle.mark_core.specs.declared.kinds.Phase.{Phase}
use Rattle.mark_core.specs.declared.kinds.Phase.TheVariants as phases
use Rattle.mark_core.specs.declared.kinds.Step.TheVariants.{ReadStat}
use Rattle.gc_table.specs.Seats.{view_of}
use Rattle.gc_table.specs.declared.seat.Heap.{Heap}
use Rattle.gc_table.specs.declared.view.View.{View}
use Rattle.gc_table.proofs.Running.{ran-join}
use Rattle.mutator_ops.proofs.Few.{at-most-after, at-most-events, at-most-join}
use Rattle.seat_turns.specs.Standing.{RestsOutside}
use Rattle.seat_turns.specs.Tracing.{VisitsWorld, marking_steps}
use Rattle.seat_turns.specs.TracerTries.{TriesTo, TriesTurn, tried_steps}
use Rattle.seat_turns.specs.declared.try_turns.TryTurn.{TryTurn}
use Rattle.seat_turns.specs.declared.try_turns.TryTurn.TheVariants as tries
use Rattle.seat_turns.proofs.Tallying.{tallies-back, tallies-read, tallies-went}
use Rattle.seat_turns.proofs.Visiting.{tries-visit, unmarked, visits}
use Rattle.seat_turns.proofs.background.Tracer.try_turn.Goals as goal
use Rattle.seat_turns.proofs.background.Tracer.try_turn.Goals.{After-go_round}

pub returns-then-see_dismissals-ne0-clause-turn : goal.returns-then-see_dismissals-ne0-clause-turn
returns-then-see_dismissals-ne0-clause-turn c =
    let v : View = view_of c.args.self.now.seat in
    let u : View = view_of c.see_dismissals.new.seat in
    let n : ℕ = c.see_dismissals.result in
    let looks = c.see_dismissals.ensures.looks in
    record { dismissals = n; looked = u; looks = looks; takes = (omega (arith, c.if-see_dismissals-ne0.true), refl); few = at-most-after v u (ReadStat done_count) n looks.0 }

pub returns-then-not-goes_in-clause-turn : goal.returns-then-not-goes_in-clause-turn
returns-then-not-goes_in-clause-turn c =
    let v : View = view_of c.args.self.now.seat in
    let u : View = view_of c.see_dismissals.new.seat in
    let w : View = view_of c.goes_in.new.seat in
    let n : ℕ = c.see_dismissals.result in
    let d = c.see_dismissals.ensures in
    let back = OnFalse_at c.if-not-goes_in.true c.goes_in.ensures.turns in
    record {
      dismissals = n;
      looked = u;
      looks = d.looks;
      takes = (omega (arith, c.if-see_dismissals-ne0.false), back);
      few = at-most-join 1 2 v u w d.ran c.goes_in.ensures.ran (at-most-after v u (ReadStat done_count) n d.looks.0) (at-most-events 2 u w _ back.events (omega arith));
    }

-- what a visit came to
visited : (c : After-go_round) → VisitsWorld c.go_round.result (view_of c.see_dismissals.new.seat) (view_of c.go_round.new.seat)
visited c =
    let e = c.go_round.ensures in
    visits c.go_round.result c.deref-heap.result.now.shape (view_of c.see_dismissals.new.seat) (view_of c.goes_in.new.seat) (view_of c.go_round.new.seat) c.see_dismissals.ensures.seat.sits.1 c.goes_in.ensures.ran e.tally.ran (OnTrue_at c.if-not-goes_in.false c.goes_in.ensures.enters) e.rounds e.few

-- the turn that it was
turned :
    (c : After-go_round) (tried : TryTurn) (p : Phase) → c.go_round.result ≡ p → (VisitsWorld p (view_of c.see_dismissals.new.seat) (view_of c.go_round.new.seat) → TriesTo tried c.see_dismissals.result (view_of c.see_dismissals.new.seat) (view_of c.go_round.new.seat))
    → marking_steps p (view_of c.args.self.now.seat).shape + 4 ≤ tried_steps tried (view_of c.args.self.now.seat).shape → TriesTurn tried (view_of c.args.self.now.seat) (view_of c.go_round.new.seat)
turned c tried p is takes most =
    let u : View = view_of c.see_dismissals.new.seat in
    let w : View = view_of c.go_round.new.seat in
    let d = c.see_dismissals.ensures in
    let visit = subst (λ (q : Phase). VisitsWorld q u w) is (visited c) in
    tries-visit tried p c.see_dismissals.result (view_of c.args.self.now.seat) u w d.ran (ran-join u (view_of c.goes_in.new.seat) w c.goes_in.ensures.ran c.go_round.ensures.tally.ran) d.looks visit (takes visit) most

pub returns-in-Marking-clause-turn : goal.returns-in-Marking-clause-turn
returns-in-Marking-clause-turn c = turned (goal.at.returns-in-Marking-clause-turn c).After-go_round tries.Marked phases.Marking c.in-Marking.is (λ visit. (omega (arith, c.if-see_dismissals-ne0.false), visit)) (omega arith)

pub returns-in-Full-clause-turn : goal.returns-in-Full-clause-turn
returns-in-Full-clause-turn c = turned (goal.at.returns-in-Full-clause-turn c).After-go_round tries.Full phases.Full c.in-Full.is (λ visit. (omega (arith, c.if-see_dismissals-ne0.false), visit)) (omega arith)

pub returns-in_default-clause-turn : goal.returns-in_default-clause-turn
returns-in_default-clause-turn c =
    let none = unmarked c.go_round.result (view_of c.args.self.now.seat).shape c.in_default.not-Marking in
    turned (goal.at.returns-in_default-clause-turn c).After-go_round tries.Idle c.go_round.result refl (λ visit. (omega (arith, c.if-see_dismissals-ne0.false), (c.go_round.result, c.in_default.not-Marking, c.in_default.not-Full, visit))) (omega (arith, none))

pub go_round-requires : goal.go_round-requires
go_round-requires c = c.goes_in.ensures.inside c.if-not-goes_in.false

pub returns-then-see_dismissals-ne0-clause-tally : goal.returns-then-see_dismissals-ne0-clause-tally
returns-then-see_dismissals-ne0-clause-tally c = tallies-read c.args.self.now.traced c.see_dismissals.result (view_of c.args.self.now.seat) (view_of c.see_dismissals.new.seat) c.see_dismissals.ensures.ran c.see_dismissals.ensures.looks

pub returns-then-not-goes_in-clause-tally : goal.returns-then-not-goes_in-clause-tally
returns-then-not-goes_in-clause-tally c =
    tallies-back c.args.self.now.traced c.see_dismissals.result (view_of c.args.self.now.seat) (view_of c.see_dismissals.new.seat) (view_of c.goes_in.new.seat) c.see_dismissals.ensures.ran c.see_dismissals.ensures.looks c.goes_in.ensures.ran (OnFalse_at c.if-not-goes_in.true c.goes_in.ensures.turns)

pub returns-in-Marking-clause-tally : goal.returns-in-Marking-clause-tally
returns-in-Marking-clause-tally c =
    tallies-went c.args.self.now.traced c.go_round.new.tally c.see_dismissals.result (view_of c.args.self.now.seat) (view_of c.see_dismissals.new.seat) (view_of c.goes_in.new.seat) (view_of c.go_round.new.seat) c.see_dismissals.ensures.ran c.see_dismissals.ensures.looks c.goes_in.ensures.ran (OnTrue_at c.if-not-goes_in.false c.goes_in.ensures.enters) c.go_round.ensures.tally

pub returns-in-Full-clause-tally : goal.returns-in-Full-clause-tally
returns-in-Full-clause-tally c =
    tallies-went c.args.self.now.traced c.go_round.new.tally c.see_dismissals.result (view_of c.args.self.now.seat) (view_of c.see_dismissals.new.seat) (view_of c.goes_in.new.seat) (view_of c.go_round.new.seat) c.see_dismissals.ensures.ran c.see_dismissals.ensures.looks c.goes_in.ensures.ran (OnTrue_at c.if-not-goes_in.false c.goes_in.ensures.enters) c.go_round.ensures.tally

pub returns-in_default-clause-tally : goal.returns-in_default-clause-tally
returns-in_default-clause-tally c =
    tallies-went c.args.self.now.traced c.go_round.new.tally c.see_dismissals.result (view_of c.args.self.now.seat) (view_of c.see_dismissals.new.seat) (view_of c.goes_in.new.seat) (view_of c.go_round.new.seat) c.see_dismissals.ensures.ran c.see_dismissals.ensures.looks c.goes_in.ensures.ran (OnTrue_at c.if-not-goes_in.false c.goes_in.ensures.enters) c.go_round.ensures.tally

pub invariant_of-self-then-not-goes_in : goal.invariant_of-self-then-not-goes_in
invariant_of-self-then-not-goes_in c = record { rests = subst (λ (h : Heap). RestsOutside h c.goes_in.new.seat) c.deref-heap.ensures (c.goes_in.ensures.outside c.if-not-goes_in.true) }
