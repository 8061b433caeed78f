use Rattle.std.proofs.Common.{◌∙◌, sym, ap, subst, is_some, refl, [], None}
use Rattle.gc_table.specs.Seats.{view_of}
use Rattle.gc_table.specs.declared.view.View.{View}
use Rattle.gc_cycle.specs.Answering.{GivesWay, HasCache}
use Rattle.gc_cycle.specs.Statistics.{GivesUp}
use Rattle.gc_cycle.proofs.Refills.Answered.{cached-still, gave-way, kept-way, polled-mutates}
use Rattle.mark_core.specs.declared.kinds.Step.TheVariants.{Observe}
use Rattle.gc_cycle.proofs.Changes.{by-join, changes-after, gives-join, keeps-up, only-changes}
use Rattle.gc_table.specs.Log.{all_steps}
use Rattle.gc_table.proofs.History.Log.{only-after}
use Rattle.gc_table.proofs.Running.{ran-join, ran-only}
use Rattle.gc_cycle.specs.Mutating.{spares_blocks}
use Rattle.gc_cycle.proofs.Stops.Spared.{spares-calm, spares-retires}
use Rattle.gc_cycle.proofs.collecting.give_way.Goals as goal

pub returns-then-not-poll-clause-seat : goal.returns-then-not-poll-clause-seat
returns-then-not-poll-clause-seat g c =
    let t = c.poll.ensures.step in
    (c.poll.ensures.seat, polled-mutates (view_of c.args.seat.now) (view_of c.poll.new.seat) t.0 t.1 c.requires.seat.1)

pub returns-then-not-poll-clause-gives : goal.returns-then-not-poll-clause-gives
returns-then-not-poll-clause-gives g c =
    let t = c.poll.ensures.step in
    kept-way (view_of c.args.seat.now) (view_of c.poll.new.seat) c.args.cache.now c.args.done t.0 c.poll.ensures.ran t.1 (sym t.3 ∙ c.if-not-poll.true) c.requires.cache

pub retire_some-requires-clause-seat : goal.retire_some-requires-clause-seat
retire_some-requires-clause-seat g c =
    let t = c.poll.ensures.step in
    (c.poll.ensures.seat, polled-mutates (view_of c.args.seat.now) (view_of c.poll.new.seat) t.0 t.1 c.requires.seat.1)

pub retire_some-requires-clause-cache : goal.retire_some-requires-clause-cache
retire_some-requires-clause-cache g c =
    subst (λ o. HasCache o (view_of c.poll.new.seat)) (sym c.take.ensures.value)
    (cached-still c.args.cache.now (view_of c.args.seat.now) (view_of c.poll.new.seat) (ap (λ (x : View). x.state.cache) c.poll.ensures.step.1) c.requires.cache)

pub go_in-requires-clause-section : goal.go_in-requires-clause-section
go_in-requires-clause-section g c = ap (λ o. is_some o) c.go_out.ensures.out.seat.section ∙ c.retire_some.ensures.seat.1.section

pub returns-clause-gives : goal.returns-clause-gives
returns-clause-gives g c =
    let t = c.poll.ensures.step in
    let r = c.retire_some.ensures in
    let o = c.go_out.ensures in
    let i = c.go_in.ensures in
    subst (λ kept. GivesWay c.args.cache.now kept c.args.done (view_of c.args.seat.now) (view_of c.go_in.new.seat)) (sym c.take.ensures.after)
    (gave-way (view_of c.args.seat.now) (view_of c.poll.new.seat) (view_of c.retire_some.new.seat) (view_of c.go_out.new.seat) (view_of c.go_in.new.seat) c.args.cache.now c.args.done t.0 o.left.0 c.poll.ensures.ran t.1 (sym t.3 ∙ c.if-not-poll.false) r.ran r.only o.out o.left.1 o.position i.entered i.waits i.offered i.away i.helps)

pub returns-then-not-poll-clause-numbers : goal.returns-then-not-poll-clause-numbers
returns-then-not-poll-clause-numbers g c =
    let v : View = view_of c.args.seat.now in
    let w : View = view_of c.poll.new.seat in
    let t = c.poll.ensures.step in
    keeps-up c.args.cache.now v w (changes-after v w Observe t.0 refl c.poll.ensures.ran t.1)

pub returns-clause-numbers : goal.returns-clause-numbers
returns-clause-numbers g c =
    let u : View = view_of c.args.seat.now in
    let v : View = view_of c.poll.new.seat in
    let w : View = view_of c.retire_some.new.seat in
    let x : View = view_of c.go_out.new.seat in
    let y : View = view_of c.go_in.new.seat in
    let t = c.poll.ensures.step in
    let o = c.go_out.ensures in
    let i = c.go_in.ensures in
    let old = c.args.cache.now in
    let given = subst (λ k. GivesUp k None v w) c.take.ensures.value c.retire_some.ensures.numbers in
    subst (λ k. GivesUp old k u y) (sym c.take.ensures.after)
    (gives-join old old None u v y (keeps-up old u v (changes-after u v Observe t.0 refl c.poll.ensures.ran t.1))
    (gives-join old None None v w y given
    (keeps-up None w y (by-join [] [] w x y (only-changes w x o.out.ran o.numbers) (only-changes x y i.entered.out.ran i.numbers)))))

pub returns-then-not-poll-clause-apart : goal.returns-then-not-poll-clause-apart
returns-then-not-poll-clause-apart g c =
    let t = c.poll.ensures.step in only-after spares_blocks (view_of c.args.seat.now) (view_of c.poll.new.seat) Observe t.0 refl t.1

pub returns-clause-apart : goal.returns-clause-apart
returns-clause-apart g c =
    let u : View = view_of c.args.seat.now in
    let v : View = view_of c.poll.new.seat in
    let w : View = view_of c.retire_some.new.seat in
    let x : View = view_of c.go_out.new.seat in
    let y : View = view_of c.go_in.new.seat in
    let t = c.poll.ensures.step in
    let r = c.retire_some.ensures in
    let o = c.go_out.ensures in
    let i = c.go_in.ensures in
    let again = i.entered.out.ran in
    ran-only spares_blocks u v y c.poll.ensures.ran (ran-join v w y r.ran (ran-join w x y o.out.ran again)) (only-after spares_blocks u v Observe t.0 refl t.1)
    (ran-only spares_blocks v w y r.ran (ran-join w x y o.out.ran again) (spares-retires v w r.only)
    (ran-only spares_blocks w x y o.out.ran again (ap (all_steps spares_blocks) o.left.1) (spares-calm x y i.entered.out.only i.unresumed)))
