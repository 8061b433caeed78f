use Rattle.std.proofs.Common.{◌≡◌, ◌∙◌, ap, eqb, false, inl, sym}
use Rattle.mark_core.specs.declared.seat.SeatState.{SeatState}
use Rattle.gc_table.specs.Seats.{view_of}
use Rattle.mutator_ops.specs.Upgrading.{FindsIdentity}
use Rattle.seat_turns.proofs.Held.{holds-shares}
use Rattle.seat_steps.specs.Deaths.{FindsBare}
use Rattle.seat_steps.proofs.Dying.{AskedCell, asked-cell, asked-few, asked-nil, asks-found, bare-turn, finds-bare, finds-other, may-ask, may-ident, may-nil, other-turn}
use Rattle.seat_steps.proofs.deaths.asks_for.Goals as goal
use Rattle.seat_steps.proofs.deaths.asks_for.Goals.{After-read_weak, After-hold_root}

pub read_weak-requires-clause-may : goal.read_weak-requires-clause-may
read_weak-requires-clause-may c = may-ask c.args.heap.now c.args.seat.now c.args.c c.requires.turn c.requires.shared c.requires.range.1

pub read_weak-requires-clause-asked : goal.read_weak-requires-clause-asked
read_weak-requires-clause-asked c = (holds-shares c.args.heap.now c.args.seat.now c.requires.turn c.requires.shared).1.shared

asked : (c : After-read_weak) → AskedCell c.args.heap.now c.args.seat.now c.read_weak.new.seat c.args.c c.read_weak.result
asked c = asked-cell c.args.heap.now c.args.seat.now c.read_weak.new.seat c.args.c c.read_weak.result c.requires.turn c.requires.shared c.requires.range.1 c.read_weak.ensures.view

bare : (c : After-read_weak) → (view_of c.read_weak.new.seat).state.got ≡ 0 → FindsBare c.args.c (view_of c.args.seat.now) (view_of c.read_weak.new.seat)
bare c none = finds-bare c.args.c c.read_weak.result (view_of c.args.seat.now) (view_of c.read_weak.new.seat) (asked c).ready c.read_weak.ensures.view none

-- nothing is there
pub returns-then-reference-eq0-clause-turn : goal.returns-then-reference-eq0-clause-turn
returns-then-reference-eq0-clause-turn c =
    let none : (view_of c.read_weak.new.seat).state.got ≡ 0 = sym (ap (λ (s : SeatState). s.got) c.state.ensures) ∙ c.if-reference-eq0.true in
    bare-turn c.args.heap.now c.args.seat.now c.read_weak.new.seat c.args.c c.read_weak.result (asked (goal.at.returns-then-reference-eq0-clause-turn c).After-read_weak) c.read_weak.ensures.seat none

pub returns-then-reference-eq0-clause-asks : goal.returns-then-reference-eq0-clause-asks
returns-then-reference-eq0-clause-asks c =
    let none : (view_of c.read_weak.new.seat).state.got ≡ 0 = sym (ap (λ (s : SeatState). s.got) c.state.ensures) ∙ c.if-reference-eq0.true in
    inl (bare (goal.at.returns-then-reference-eq0-clause-asks c).After-read_weak none)

pub returns-then-reference-eq0-clause-few : goal.returns-then-reference-eq0-clause-few
returns-then-reference-eq0-clause-few c =
    let none : (view_of c.read_weak.new.seat).state.got ≡ 0 = sym (ap (λ (s : SeatState). s.got) c.state.ensures) ∙ c.if-reference-eq0.true in
    asked-few c.args.v c.args.c c.args.identity false (view_of c.args.seat.now) (view_of c.read_weak.new.seat) (inl (bare (goal.at.returns-then-reference-eq0-clause-few c).After-read_weak none))

-- an object is there
pub read_ident-found-requires-clause-may : goal.read_ident-found-requires-clause-may
read_ident-found-requires-clause-may c =
    may-ident c.args.heap.now c.args.seat.now c.read_weak.new.seat c.args.c c.read_weak.result (asked (goal.at.read_ident-found-requires-clause-may c).After-read_weak)
    (λ z. c.if-reference-eq0.false (ap (λ (s : SeatState). s.got) c.state.ensures ∙ z))

pub hold_root-requires-clause-may : goal.hold_root-requires-clause-may
hold_root-requires-clause-may c =
    may-nil c.args.heap.now c.args.seat.now c.read_weak.new.seat c.read_ident-found.new.seat c.args.v c.args.c c.read_weak.result c.read_ident-found.result (asked (goal.at.hold_root-requires-clause-may c).After-read_weak) c.requires.range.0 c.read_ident-found.ensures.view

pub hold_root-requires-clause-asked : goal.hold_root-requires-clause-asked
hold_root-requires-clause-asked c =
    asked-nil c.args.heap.now c.args.seat.now c.read_weak.new.seat c.read_ident-found.new.seat c.args.v c.args.c c.read_weak.result c.read_ident-found.result (asked (goal.at.hold_root-requires-clause-asked c).After-read_weak) c.read_ident-found.ensures.view

found : (c : After-hold_root) (a : AskedCell c.args.heap.now c.args.seat.now c.read_weak.new.seat c.args.c c.read_weak.result) → FindsIdentity c.args.v c.args.c c.read_ident-found.result 0 (view_of c.args.seat.now) (view_of c.hold_root.new.seat)
found c a =
    finds-other c.args.heap.now c.args.seat.now c.read_weak.new.seat c.read_ident-found.new.seat (view_of c.hold_root.new.seat) c.args.v c.args.c c.read_weak.result c.read_ident-found.result c.hold_root.result a
    (λ z. c.if-reference-eq0.false (ap (λ (s : SeatState). s.got) c.state.ensures ∙ z)) c.read_ident-found.ensures.view c.hold_root.ensures.view

pub returns-clause-turn : goal.returns-clause-turn
returns-clause-turn c =
    let here = goal.at.returns-clause-turn c in
    let a = asked here.After-read_weak in
    other-turn c.args.heap.now c.args.seat.now c.read_weak.new.seat c.read_ident-found.new.seat c.hold_root.new.seat c.args.v c.args.c c.read_weak.result c.read_ident-found.result c.hold_root.result a c.requires.range.0 c.read_ident-found.ensures.view c.hold_root.ensures.view c.hold_root.ensures.seat
    (found here.After-hold_root a)

pub returns-clause-asks : goal.returns-clause-asks
returns-clause-asks c =
    let here = goal.at.returns-clause-asks c in
    asks-found c.args.v c.args.c c.args.identity c.read_ident-found.result (view_of c.args.seat.now) (view_of c.hold_root.new.seat) (found here.After-hold_root (asked here.After-read_weak))

pub returns-clause-few : goal.returns-clause-few
returns-clause-few c =
    let here = goal.at.returns-clause-few c in
    asked-few c.args.v c.args.c c.args.identity (eqb c.read_ident-found.result c.args.identity) (view_of c.args.seat.now) (view_of c.hold_root.new.seat)
    (asks-found c.args.v c.args.c c.args.identity c.read_ident-found.result (view_of c.args.seat.now) (view_of c.hold_root.new.seat) (found here.After-hold_root (asked here.After-read_weak)))
