use Rattle.std.proofs.Common.{◌≡◌, ◌+◌, sym, ap, ◌∙◌}
use Rattle.mark_core.specs.declared.kinds.Shape.{Shape}
use Rattle.mark_core.specs.declared.kinds.Step.TheVariants.{NextSeason}
use Rattle.mark_core.specs.declared.seat.SeatState.{SeatState}
use Rattle.gc_table.specs.Seats.{view_of}
use Rattle.gc_table.specs.Sections.{planned}
use Rattle.gc_table.specs.declared.view.Meaning.{Meaning}
use Rattle.gc_table.specs.declared.view.View.{View}
use Rattle.test_heaps.proofs.FirstSeason.{alone-turn, first-section, may-turn}
use Rattle.gc_table.proofs.RecordSteps.{state-after}
use Rattle.test_heaps.proofs.seasons.next_turn.Goals as goal
use Rattle.stop_world.specs.StopRecords.{stopped}

pub next_season-requires-clause-may : goal.next_season-requires-clause-may
next_season-requires-clause-may g c =
    let q = c.requires in
    let r = c.if-not-raises_own.ensures in
    let s = c.if-not-stops_idle.ensures in
    may-turn (view_of c.stops_idle.new.seat) s.stopped.1 (ap (λ (x : SeatState). x.section) s.stopped.0.1 ∙ first-section c.args.heap.now.shape q.1) (s.keeps.1 ∙ (r.keeps.1 ∙ q.0.2))

pub next_season-requires-clause-asked : goal.next_season-requires-clause-asked
next_season-requires-clause-asked g c =
    let q = c.requires in
    let r = c.if-not-raises_own.ensures in
    let s = c.if-not-stops_idle.ensures in
    let v : View = view_of c.stops_idle.new.seat in
    let seasons : v.own.seasons ≡ 0 = s.keeps.1 ∙ (r.keeps.1 ∙ q.0.2) in
    let plan = s.keeps.2 ∙ (r.keeps.2 ∙ q.0.3) in (
      ap (λ (x : SeatState). x.section) s.stopped.0.1 ∙ first-section c.args.heap.now.shape q.1,
      λ even. ap (λ (m : Meaning). m.heap) (s.keeps.0 ∙ (r.keeps.0 ∙ q.0.1)) ∙ sym (λ y. planned (s.stopped.0.0.1 y) (plan y) (seasons y + 1)),
    )

pub goes_on-requires : goal.goes_on-requires
goes_on-requires g c =
    let sh : Shape = c.args.heap.now.shape in
    let v : View = view_of c.stops_idle.new.seat in
    let w : View = view_of c.next_season.new.seat in
    let s = c.if-not-stops_idle.ensures.stopped in
    let e = c.next_season.ensures in
    ((e.seat, state-after sh v w (stopped sh 0) NextSeason _ s.0.0.1 s.0.1 e.view.1.0), alone-turn v w e.view.0 e.view.1 s.1)

pub returns-clause-meaning : goal.returns-clause-meaning
returns-clause-meaning g c =
    let r = c.if-not-raises_own.ensures in
    let s = c.if-not-stops_idle.ensures in
    c.goes_on.ensures.meaning ∙ (ap (λ (x : View). x.own.meaning) c.next_season.ensures.view.1.0 ∙ (s.keeps.0 ∙ r.keeps.0))
