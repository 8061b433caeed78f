use Rattle.std.proofs.Common.{ℕ, ◌+◌, ◌∙◌, ap, refl}
use Rattle.mark_core.specs.declared.kinds.Step.TheVariants.{NextSeason}
use Rattle.gc_table.specs.Seats.{view_of}
use Rattle.gc_table.specs.declared.view.View.{View}
use Rattle.gc_table.proofs.Running.{ran-took}
use Rattle.managed_heap.proofs.FirstSeason.{may-turn}
use Rattle.shared_heap.proofs.Rooted.{makes-after, makes-then, spares-join, spares-took}
use Rattle.shared_heap.proofs.Rooting.{turned}
use Rattle.shared_heap.proofs.opening.open_turn.Goals as goal

pub next_season-requires-clause-may : goal.next_season-requires-clause-may
next_season-requires-clause-may c =
    let k = c.if-not-stops.ensures.stops in
    may-turn (view_of c.stops.new.seat) k.idle.alone k.first.section k.first.seasons

pub goes_on-requires : goal.goes_on-requires
goes_on-requires c = turned c.args.heap.now c.stops.new.seat c.next_season.new.seat c.if-not-stops.ensures.stops.idle c.next_season.ensures.seat c.next_season.ensures.view

pub returns-clause-season : goal.returns-clause-season
returns-clause-season c =
    c.goes_on.ensures.season ∙ (ap (λ (x : View). x.own.seasons) c.next_season.ensures.view.1.0 ∙ ap (λ (n : ℕ). n + 1) c.if-not-stops.ensures.stops.first.seasons)

pub returns-clause-makes : goal.returns-clause-makes
returns-clause-makes c =
    let a = view_of c.args.seat.now in
    let entered = view_of c.goes_in.new.seat in
    let made = view_of c.makes_root.new.seat in
    let stopped = view_of c.stops.new.seat in
    let moved = view_of c.next_season.new.seat in
    let out = view_of c.goes_on.new.seat in
    let took = c.next_season.ensures.view in
    makes-then a made out
    (makes-after a entered made c.if-not-goes_in.ensures.comes c.if-not-makes_root.ensures.makes)
    (spares-join made moved out (spares-join made stopped moved c.if-not-stops.ensures.spares (spares-took stopped moved NextSeason refl (ran-took stopped moved NextSeason refl took) took)) c.goes_on.ensures.spares)
