use Rattle.std.proofs.Common.{◌≡◌, sym, ap, ◌∙◌, true}
use Rattle.mark_core.specs.Seats.{work_in_hand}
use Rattle.mark_core.specs.declared.kinds.Shape.{Shape}
use Rattle.gc_table.specs.Seats.{view_of}
use Rattle.gc_table.specs.declared.view.View.{View}
use Rattle.gc_cycle.specs.Standing.{is_at_rest}
use Rattle.gc_cycle.proofs.Idling.{rooted-by, traced-of}
use Rattle.gc_cycle.proofs.Ends.Moving.{no-work}
use Rattle.gc_cycle.proofs.Traced.{nothing-rest}
use Rattle.gc_cycle.proofs.cards.is_drained.Goals as goal
use Rattle.gc_cycle.proofs.Ends.Swept.{unless}

pub is_drained-requires-clause-rooted : goal.is_drained-requires-clause-rooted
is_drained-requires-clause-rooted c = c.requires.seat.1.rooted

pub is_drained-requires-clause-work : goal.is_drained-requires-clause-work
is_drained-requires-clause-work c =
    let v : View = view_of c.args.seat.now in
    ap (λ (sh : Shape). work_in_hand sh.fields v.state) (sym c.requires.seat.0.1) ∙ unless (work_in_hand v.shape.fields v.state) (no-work v c.requires.seat.1.rest)

pub returns-clause-seat : goal.returns-clause-seat
returns-clause-seat c =
    let v : View = view_of c.args.seat.now in
    let w : View = view_of c.is_drained.new.seat in
    let e = c.is_drained.ensures in
    let rest : is_at_rest w.shape w.state ≡ true = (λ i. is_at_rest (e.only.shape i) (e.state i)) ∙ nothing-rest v.shape v.state c.requires.seat.1.rest.rest in
    (e.seat, rooted-by v w e.only rest c.requires.seat.1)

pub returns-clause-traced : goal.returns-clause-traced
returns-clause-traced c =
    let v : View = view_of c.args.seat.now in
    let w : View = view_of c.is_drained.new.seat in
    let e = c.is_drained.ensures in
    traced-of v w e.only ((λ i. is_at_rest (e.only.shape i) (e.state i)) ∙ nothing-rest v.shape v.state c.requires.seat.1.rest.rest)

pub returns-clause-rescanned : goal.returns-clause-rescanned
returns-clause-rescanned c = c.is_drained.ensures.left

pub returns-clause-drained : goal.returns-clause-drained
unfolding returns-clause-seat
returns-clause-drained c full = record { rest = (returns-clause-seat c).1.rest; drained = c.is_drained.ensures.drained full }
