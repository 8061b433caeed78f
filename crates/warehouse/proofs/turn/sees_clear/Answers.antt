use Rattle.std.proofs.Common.{◌∙◌, ap, not, sym}
use Rattle.std.specs.Prelude.{Some}
use Rattle.std.proofs.lemmas.Bool.{OnFalse_from, not-false, not-true}
use Rattle.mark_core.specs.Seats.{saw}
use Rattle.mark_core.specs.declared.kinds.Phase.TheVariants.{Full}
use Rattle.gc_table.specs.Seats.{view_of}
use Rattle.warehouse.proofs.Glances.{glance-free, glance-full, glance-goes, glance-mutates, glances, poll-glances, poll-hindered, poll-mutates}
use Rattle.warehouse.proofs.turn.sees_clear.Goals as goal

pub returns-then-poll-clause-seat : goal.returns-then-poll-clause-seat
returns-then-poll-clause-seat c =
    let p = c.poll.ensures.step in
    (c.poll.ensures.seat, poll-mutates p.0 (view_of c.args.seat.now) (view_of c.poll.new.seat) (p.1, p.2) c.requires.seat.1)

pub returns-then-poll-clause-glances : goal.returns-then-poll-clause-glances
returns-then-poll-clause-glances c =
    let p = c.poll.ensures.step in
    poll-glances p.0 (view_of c.args.seat.now) (view_of c.poll.new.seat) (p.1, p.2) c.requires.seat.1

pub returns-clause-seat : goal.returns-clause-seat
returns-clause-seat c =
    let p = c.poll.ensures.step in
    let r = c.read_phase.ensures.view in
    (c.read_phase.ensures.seat, glance-mutates p.0 (view_of c.args.seat.now) (view_of c.poll.new.seat) (p.1, p.2) c.requires.seat.1 r.0 (view_of c.read_phase.new.seat) (r.1, r.2))

pub returns-clause-glances : goal.returns-clause-glances
returns-clause-glances c =
    let p = c.poll.ensures.step in
    let r = c.read_phase.ensures.view in
    glances p.0 (view_of c.args.seat.now) (view_of c.poll.new.seat) (p.1, p.2) c.requires.seat.1 r.0 (view_of c.read_phase.new.seat) (r.1, r.2)

pub returns-clause-free : goal.returns-clause-free
returns-clause-free c =
    let p = c.poll.ensures.step in
    let r = c.read_phase.ensures.view in
    λ is. glance-free p.0 (view_of c.args.seat.now) (view_of c.poll.new.seat) (p.1, p.2) c.requires.seat.1 r.0 (view_of c.read_phase.new.seat) (r.1, r.2) (sym p.3 ∙ c.if-poll.false)

pub returns-clause-clear : goal.returns-clause-clear
returns-clause-clear c =
    let p = c.poll.ensures.step in
    let r = c.read_phase.ensures.view in
    λ is. glance-goes p.0 (view_of c.args.seat.now) (view_of c.poll.new.seat) (p.1, p.2) c.requires.seat.1 r.0 (view_of c.read_phase.new.seat) (r.1, r.2)
    (ap (λ q. saw (Some q) Full) (sym r.3) ∙ (sym c.is_full.ensures ∙ not-true c.is_full.result is))

pub returns-then-poll-clause-hindered : goal.returns-then-poll-clause-hindered
returns-then-poll-clause-hindered c =
    let p = c.poll.ensures.step in
    poll-hindered p.0 (view_of c.args.seat.now) (view_of c.poll.new.seat) (p.1, p.2) c.requires.seat.1 (sym p.3 ∙ c.if-poll.true)

pub returns-clause-hindered : goal.returns-clause-hindered
returns-clause-hindered c =
    let p = c.poll.ensures.step in
    let r = c.read_phase.ensures.view in
    OnFalse_from (not c.is_full.result) _
    λ is. glance-full p.0 (view_of c.args.seat.now) (view_of c.poll.new.seat) (p.1, p.2) c.requires.seat.1 r.0 (view_of c.read_phase.new.seat) (r.1, r.2)
    (ap (λ q. saw (Some q) Full) (sym r.3) ∙ (sym c.is_full.ensures ∙ not-false c.is_full.result is))
