use Rattle.std.proofs.Common.{arith, ap, sym, ◌∙◌, subst}
use Rattle.std.proofs.lemmas.Option.{get_or_from_slice_get}
use Rattle.gc_table.specs.Seats.{view_of}
use Rattle.gc_table.specs.declared.seat.HeapSeat.{HeapSeat}
use Rattle.gc_play.specs.Answers.{FinalEnds}
use Rattle.gc_play.specs.Crews.{own_of}
use Rattle.gc_play.proofs.Seasons.{end-traced, play-moved}
use Rattle.gc_play.proofs.playing.play_final.Goals as goal

pub close-requires-clause-left : goal.close-requires-clause-left
close-requires-clause-left g c = (c.play_seasons-ended.result.1, c.in-Ok-put_away.ensures.left)

pub returns-clause-ends : goal.returns-clause-ends
returns-clause-ends g c =
    let s = c.args.script.now.sections in
    let tracers = c.args.options.now.tracers in
    let made = c.in-Ok.made in
    let new = c.in-Ok.ensures.tracers in
    let ended = c.play_seasons-ended.result in
    let crew = c.play_seasons-ended.new.crew in
    let seats = c.in-Ok-put_away.left.0.items in
    subst (λ sh. FinalEnds c.close.result s sh tracers) c.in-Ok.ensures.shape
    (c.close.ensures.ends tracers ended.1 c.in-Ok-put_away.ensures.left
    (end-traced made.0 s tracers made.1.tracers.items c.play_seasons-ended.new.crew.tracers.items c.in-Ok-put_away.left.0.items new.1 (omega (arith, made.1.tracers.ok, new.0))
    c.in-Ok-put_away.ensures.tracers ended.0 ended.1 (own_of crew.catalogue).seasons (play-moved ended.0 made.0 s ended.1 crew c.play_seasons-ended.ensures.ends)
    (λ seat at. ap (λ (x : HeapSeat). (view_of x).own.seasons) (sym (get_or_from_slice_get seats 0 seat seat at) ∙ c.in-Ok-put_away.ensures.first seat)) c.play_seasons-ended.ensures.traced))
