use Rattle.std.proofs.Common.{ℕ, ◌≡◌, ◌+◌, sym, ap, ◌∙◌, refl}
use Rattle.mark_core.specs.declared.kinds.Shape.{Shape}
use Rattle.mark_core.specs.declared.kinds.Step.TheVariants.{NextSeason}
use Rattle.mark_core.specs.declared.seat.SeatState.{SeatState}
use Rattle.gc_table.specs.Seats.{view_of}
use Rattle.gc_table.specs.Sections.{planned}
use Rattle.gc_table.specs.declared.view.Meaning.{Meaning}
use Rattle.gc_table.specs.declared.view.View.{View}
use Rattle.managed_heap.proofs.Starting.{own-section}
use Rattle.managed_heap.proofs.FirstSeason.{alone-turn, may-turn}
use Rattle.gc_table.proofs.Running.{ran-join, ran-took}
use Rattle.gc_table.proofs.RecordSteps.{state-after}
use Rattle.managed_heap.proofs.opening.open_turn.Goals as goal
use Rattle.stop_world.specs.StopRecords.{stopped}

pub next_season-requires-clause-may : goal.next_season-requires-clause-may
next_season-requires-clause-may c =
    let q = c.requires in
    let r = c.if-not-raises.ensures in
    let s = c.if-not-stops_now.ensures in
    may-turn (view_of c.stops_now.new.seat) s.stopped.1 (ap (λ (x : SeatState). x.section) s.stopped.0.1 ∙ own-section c.args.heap.now.shape 0 q.1) (s.keeps.1 ∙ (r.keeps.1 ∙ q.0.2))

pub next_season-requires-clause-asked : goal.next_season-requires-clause-asked
next_season-requires-clause-asked c =
    let q = c.requires in
    let r = c.if-not-raises.ensures in
    let s = c.if-not-stops_now.ensures in
    let v : View = view_of c.stops_now.new.seat in
    let seasons : v.own.seasons ≡ 0 = s.keeps.1 ∙ (r.keeps.1 ∙ q.0.2) in
    let plan = s.keeps.2 ∙ (r.keeps.2 ∙ q.0.3) in (
      ap (λ (x : SeatState). x.section) s.stopped.0.1 ∙ own-section c.args.heap.now.shape 0 q.1,
      λ even. ap (λ (m : Meaning). m.heap) (s.keeps.0 ∙ (r.keeps.0 ∙ q.0.1)) ∙ sym (λ y. planned (s.stopped.0.0.1 y) (plan y) (seasons y + 1)),
    )

pub goes_on-requires : goal.goes_on-requires
goes_on-requires c =
    let sh : Shape = c.args.heap.now.shape in
    let v : View = view_of c.stops_now.new.seat in
    let w : View = view_of c.next_season.new.seat in
    let s = c.if-not-stops_now.ensures.stopped in
    let e = c.next_season.ensures in
    ((e.seat, state-after sh v w (stopped sh 0) NextSeason _ s.0.0.1 s.0.1 e.view.1.0), alone-turn v w e.view.0 e.view.1 s.1)

pub returns-clause-season : goal.returns-clause-season
returns-clause-season c =
    let r = c.if-not-raises.ensures in
    let s = c.if-not-stops_now.ensures in
    c.goes_on.ensures.season ∙ (ap (λ (x : View). x.own.seasons) c.next_season.ensures.view.1.0 ∙ ap (λ (n : ℕ). n + 1) (s.keeps.1 ∙ (r.keeps.1 ∙ c.requires.0.2)))

pub returns-clause-ran : goal.returns-clause-ran
returns-clause-ran c =
    let v = view_of c.args.seat.now in
    let raised = view_of c.raises.new.seat in
    let stopped = view_of c.stops_now.new.seat in
    let turned = view_of c.next_season.new.seat in
    let w = view_of c.goes_on.new.seat in
    let took = ran-took stopped turned NextSeason refl c.next_season.ensures.view in
    ran-join v raised w c.raises.ensures.ran (ran-join raised stopped w c.stops_now.ensures.ran (ran-join stopped turned w took c.goes_on.ensures.ran))
