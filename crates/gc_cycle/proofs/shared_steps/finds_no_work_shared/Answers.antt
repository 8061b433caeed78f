use Rattle.std.proofs.Common.{ap, sym, ◌∙◌}
use Rattle.mark_core.specs.declared.kinds.Phase.TheVariants.{Drain}
use Rattle.mark_core.specs.declared.kinds.Shape.{Shape}
use Rattle.mark_core.specs.declared.seat.SeatState.{SeatState}
use Rattle.gc_table.specs.Seats.{view_of}
use Rattle.gc_table.specs.declared.view.View.{View}
use Rattle.gc_cycle.specs.Standing.{is_at_rest}
use Rattle.gc_cycle.proofs.OpenSteps.{exact-run, open-keeps, shared-on}
use Rattle.gc_cycle.proofs.Traced.{nothing-rest, traced-open}
use Rattle.gc_cycle.proofs.shared_steps.finds_no_work_shared.Goals as goal

pub sees_all_empty-requires-clause-rest : goal.sees_all_empty-requires-clause-rest
sees_all_empty-requires-clause-rest c =
    let v : View = view_of c.args.seat.now in ap (λ (sh : Shape). is_at_rest sh v.state) (sym c.requires.seat.1) ∙ nothing-rest v.shape v.state c.requires.drains.opened.rest

pub returns-clause-drains : goal.returns-clause-drains
returns-clause-drains c =
    let v : View = view_of c.args.seat.now in
    let w : View = view_of c.sees_all_empty.new.seat in
    shared-on Drain v w c.requires.drains (traced-open v w c.requires.drains.opened c.sees_all_empty.ensures.traced)

pub returns-clause-exact : goal.returns-clause-exact
returns-clause-exact c u k =
    let t = c.sees_all_empty.ensures.traced in
    exact-run u (view_of c.args.seat.now) (view_of c.sees_all_empty.new.seat) t.ran (ap (λ (s : SeatState). s.exact) t.record_is) k

pub returns-clause-keeps : goal.returns-clause-keeps
returns-clause-keeps c =
    let v : View = view_of c.args.seat.now in
    let w : View = view_of c.sees_all_empty.new.seat in
    open-keeps Drain v w (traced-open v w c.requires.drains.opened c.sees_all_empty.ensures.traced)
