use Rattle.std.proofs.Common.{ℕ, ◌≡◌, [], ◌∷◌, ap, arith, subst}
use Rattle.gc_table.specs.Seats.{view_of}
use Rattle.seat_turns.proofs.Fulls.{out-full}
use Rattle.seat_turns.proofs.Seats.{kept-heap, mutator-kept}
use Rattle.seat_turns.proofs.Leaving.{leaves-spared}
use Rattle.mutator_ops.proofs.Few.{at-most-events}
use Rattle.mark_core.specs.declared.seat.SeatState.{SeatState}
use Rattle.mark_core.specs.declared.kinds.Step.TheVariants.{LeaveStep, StorePosition}
use Rattle.gc_table.specs.Log.{event, events}
use Rattle.gc_table.specs.declared.view.View.{View}
use Rattle.seat_turns.proofs.gates.leave.Goals as goal

pub returns-clause-waits : goal.returns-clause-waits
returns-clause-waits c =
    let e = c.go_out.ensures in
    record { sits = e.seat.0; out = e.seat.1; mutator = mutator-kept (view_of c.args.seat.now) (view_of c.go_out.new.seat) c.requires.halts.works.mutator e.out.ran e.out.seat e.out.section }

pub returns-clause-same : goal.returns-clause-same
returns-clause-same c = kept-heap (view_of c.args.seat.now) (view_of c.go_out.new.seat) c.go_out.ensures.out.section

pub returns-clause-full : goal.returns-clause-full
returns-clause-full c = out-full (view_of c.args.seat.now) (view_of c.go_out.new.seat) c.go_out.ensures.out

pub returns-clause-ran : goal.returns-clause-ran
returns-clause-ran c = c.go_out.ensures.out.ran

pub returns-clause-leaves : goal.returns-clause-leaves
returns-clause-leaves c = let e = c.go_out.ensures in leaves-spared (view_of c.args.seat.now) (view_of c.go_out.new.seat) e.out.ran e.spares e.out.seat

pub returns-clause-few : goal.returns-clause-few
returns-clause-few c = at-most-events 2 (view_of c.args.seat.now) (view_of c.go_out.new.seat) _ c.go_out.ensures.left.1 (omega arith)

pub returns-clause-out : goal.returns-clause-out
returns-clause-out c =
    let left = c.go_out.ensures.left in
    let v : View = view_of c.args.seat.now in
    let w : View = view_of c.go_out.new.seat in
    let made : c.state.result.now.made ≡ v.state.made = ap (λ (s : SeatState). s.made) c.state.ensures in
    (left.0, subst (λ (n : ℕ). events v w ≡ event (StorePosition n) n ∷ event LeaveStep left.0 ∷ []) made left.1)
