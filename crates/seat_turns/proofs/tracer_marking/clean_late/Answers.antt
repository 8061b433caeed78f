use Rattle.std.proofs.Common.{Bool, refl, subst, sym}
use Rattle.gc_table.specs.declared.view.View.{View}
use Rattle.gc_table.specs.Seats.{view_of}
use Rattle.packet_pools.proofs.Few.{few-join}
use Rattle.seat_turns.specs.TracerStanding.{GoesMarking}
use Rattle.seat_turns.specs.StepBounds.{cards_steps}
use Rattle.seat_turns.specs.CardPass.{PassesIf}
use Rattle.seat_turns.specs.Tending.{TendsCards}
use Rattle.seat_turns.proofs.TracerStanding.{marks-same}
use Rattle.seat_turns.proofs.Cards.{cards-join, cards-read}
use Rattle.seat_turns.proofs.tracer_marking.clean_late.Goals as goal
use Rattle.seat_turns.proofs.tracer_marking.clean_late.Goals.{After-is_far_on}

-- the look at the numbers
marks : (c : After-is_far_on) → GoesMarking c.args.heap.now c.is_far_on.new.seat
marks c = let e = c.is_far_on.ensures in marks-same c.args.heap.now c.args.seat.now c.is_far_on.new.seat c.requires e.seat e.state

looks : (c : After-is_far_on) → TendsCards 0 (view_of c.args.seat.now) (view_of c.is_far_on.new.seat)
looks c = let e = c.is_far_on.ensures in cards-read (view_of c.args.seat.now) (view_of c.is_far_on.new.seat) e.ran e.only

pub clean_cards-requires : goal.clean_cards-requires
clean_cards-requires c = marks (goal.at.clean_cards-requires c).After-is_far_on

pub returns-then-is_far_on-clause-tends : goal.returns-then-is_far_on-clause-tends
returns-then-is_far_on-clause-tends c =
    cards-join 0 0 0 (view_of c.args.seat.now) (view_of c.is_far_on.new.seat) (view_of c.clean_cards.new.seat) refl (looks (goal.at.returns-then-is_far_on-clause-tends c).After-is_far_on) c.clean_cards.ensures.tends

pub returns-then-is_far_on-clause-few : goal.returns-then-is_far_on-clause-few
returns-then-is_far_on-clause-few c =
    let d = c.is_far_on.ensures in
    let e = c.clean_cards.ensures in
    few-join 3 (cards_steps c.args.heap.now.shape) (view_of c.args.seat.now) (view_of c.is_far_on.new.seat) (view_of c.clean_cards.new.seat) d.ran e.tends.tends.ran d.few e.few

pub returns-else-is_far_on-clause-seat : goal.returns-else-is_far_on-clause-seat
returns-else-is_far_on-clause-seat c = marks (goal.at.returns-else-is_far_on-clause-seat c).After-is_far_on

pub returns-else-is_far_on-clause-tends : goal.returns-else-is_far_on-clause-tends
returns-else-is_far_on-clause-tends c = looks (goal.at.returns-else-is_far_on-clause-tends c).After-is_far_on

pub returns-then-is_far_on-clause-passes : goal.returns-then-is_far_on-clause-passes
returns-then-is_far_on-clause-passes c =
    let r : View = view_of c.is_far_on.new.seat in
    let w : View = view_of c.clean_cards.new.seat in
    let e = c.is_far_on.ensures in
    record {
      late = c.is_far_on.result;
      read = r;
      ran = e.ran;
      only = e.only;
      sees = e.late;
      few = e.few;
      passes = subst (λ (b : Bool). PassesIf b r w) (sym c.if-is_far_on.true) c.clean_cards.ensures.passes;
    }

pub returns-else-is_far_on-clause-passes : goal.returns-else-is_far_on-clause-passes
returns-else-is_far_on-clause-passes c =
    let r : View = view_of c.is_far_on.new.seat in
    let e = c.is_far_on.ensures in
    record { late = c.is_far_on.result; read = r; ran = e.ran; only = e.only; sees = e.late; few = e.few; passes = subst (λ (b : Bool). PassesIf b r r) (sym c.if-is_far_on.false) refl }
