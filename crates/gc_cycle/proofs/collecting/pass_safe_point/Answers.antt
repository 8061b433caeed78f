use Rattle.std.proofs.lemmas.Bool.{OnFalse_at, OnFalse_from, OnTrue_at, OnTrue_from}
use Rattle.gc_table.specs.Seats.{view_of}
use Rattle.gc_table.specs.declared.view.View.{View}
use Rattle.gc_table.proofs.History.Log.{only-more}
use Rattle.gc_table.proofs.Running.{ran-join, ran-only}
use Rattle.gc_cycle.specs.Mutating.{spares_blocks, stays_calm}
use Rattle.gc_cycle.specs.declared.counts.Safe.TheVariants as safes
use Rattle.gc_cycle.specs.Sparing.{spares_part}
use Rattle.gc_cycle.proofs.Refills.Answered.{passed-few, passed-out, passes}
use Rattle.gc_cycle.proofs.Refills.Collected.{calm-spares}
use Rattle.gc_cycle.proofs.Changes.{gives-join}
use Rattle.gc_cycle.proofs.Stops.Spared.{spares-answers}
use Rattle.gc_cycle.proofs.Unbegun.{calm-unbegun}
use Rattle.gc_cycle.proofs.collecting.pass_safe_point.Goals as goal

pub returns-clause-ran : goal.returns-clause-ran
returns-clause-ran g c = ran-join (view_of c.args.seat.now) (view_of c.give_way.new.seat) (view_of c.goes_on.new.seat) c.give_way.ensures.gives.out.ran c.goes_on.ensures.ran

pub returns-clause-going : goal.returns-clause-going
returns-clause-going g c =
    let u : View = view_of c.args.seat.now in
    let v : View = view_of c.give_way.new.seat in
    let w : View = view_of c.goes_on.new.seat in
    OnTrue_from c.goes_on.result _
    (λ is.
    passes u v w c.args.cache.now c.give_way.new.cache c.args.done (safes.Going c.goes_on.new.cache) c.give_way.ensures.gives c.goes_on.ensures.ran (OnTrue_at is c.goes_on.ensures.going))

pub returns-clause-full : goal.returns-clause-full
returns-clause-full g c =
    let u : View = view_of c.args.seat.now in
    let v : View = view_of c.give_way.new.seat in
    let w : View = view_of c.goes_on.new.seat in
    OnFalse_from c.goes_on.result _
    (λ is.
    let a = OnFalse_at is c.goes_on.ensures.full in (
      passes u v w c.args.cache.now c.give_way.new.cache c.args.done safes.Full c.give_way.ensures.gives c.goes_on.ensures.ran a.0,
      a.0.1,
      a.1,
    ))

pub returns-clause-polled : goal.returns-clause-polled
returns-clause-polled g c = (passed-out (view_of c.args.seat.now) (view_of c.give_way.new.seat) (view_of c.goes_on.new.seat) c.args.cache.now c.give_way.new.cache c.args.done c.give_way.ensures.gives c.goes_on.ensures.ran c.goes_on.ensures.only).1

pub returns-clause-calm : goal.returns-clause-calm
returns-clause-calm g c = (passed-out (view_of c.args.seat.now) (view_of c.give_way.new.seat) (view_of c.goes_on.new.seat) c.args.cache.now c.give_way.new.cache c.args.done c.give_way.ensures.gives c.goes_on.ensures.ran c.goes_on.ensures.only).0.calm

pub returns-clause-helping : goal.returns-clause-helping
returns-clause-helping g c = (passed-out (view_of c.args.seat.now) (view_of c.give_way.new.seat) (view_of c.goes_on.new.seat) c.args.cache.now c.give_way.new.cache c.args.done c.give_way.ensures.gives c.goes_on.ensures.ran c.goes_on.ensures.only).2

pub returns-clause-helps : goal.returns-clause-helps
returns-clause-helps g c = (passed-out (view_of c.args.seat.now) (view_of c.give_way.new.seat) (view_of c.goes_on.new.seat) c.args.cache.now c.give_way.new.cache c.args.done c.give_way.ensures.gives c.goes_on.ensures.ran c.goes_on.ensures.only).4

pub returns-clause-pops : goal.returns-clause-pops
returns-clause-pops g c = (passed-out (view_of c.args.seat.now) (view_of c.give_way.new.seat) (view_of c.goes_on.new.seat) c.args.cache.now c.give_way.new.cache c.args.done c.give_way.ensures.gives c.goes_on.ensures.ran c.goes_on.ensures.only).3

pub returns-clause-few : goal.returns-clause-few
returns-clause-few g c =
    passed-few (view_of c.args.seat.now) (view_of c.give_way.new.seat) (view_of c.goes_on.new.seat) c.args.cache.now c.give_way.new.cache c.args.done 5 c.give_way.ensures.gives c.goes_on.ensures.ran c.goes_on.ensures.few

pub returns-clause-not_full : goal.returns-clause-not_full
returns-clause-not_full g c = (passed-out (view_of c.args.seat.now) (view_of c.give_way.new.seat) (view_of c.goes_on.new.seat) c.args.cache.now c.give_way.new.cache c.args.done c.give_way.ensures.gives c.goes_on.ensures.ran c.goes_on.ensures.only).0.not_full

pub returns-clause-keeps : goal.returns-clause-keeps
returns-clause-keeps g c =
    let o = (passed-out (view_of c.args.seat.now) (view_of c.give_way.new.seat) (view_of c.goes_on.new.seat) c.args.cache.now c.give_way.new.cache c.args.done c.give_way.ensures.gives c.goes_on.ensures.ran c.goes_on.ensures.only).0 in
    (o.seat, o.section)

pub returns-clause-spares : goal.returns-clause-spares
returns-clause-spares g c =
    let v : View = view_of c.args.seat.now in
    let w : View = view_of c.goes_on.new.seat in
    only-more stays_calm spares_part calm-spares v w (passed-out v (view_of c.give_way.new.seat) w c.args.cache.now c.give_way.new.cache c.args.done c.give_way.ensures.gives c.goes_on.ensures.ran c.goes_on.ensures.only).0.only

pub returns-clause-numbers : goal.returns-clause-numbers
returns-clause-numbers g c =
    gives-join c.args.cache.now c.give_way.new.cache c.goes_on.new.cache (view_of c.args.seat.now) (view_of c.give_way.new.seat) (view_of c.goes_on.new.seat) c.give_way.ensures.numbers c.goes_on.ensures.numbers

pub returns-clause-unbegun : goal.returns-clause-unbegun
returns-clause-unbegun g c =
    let v : View = view_of c.args.seat.now in
    let w : View = view_of c.goes_on.new.seat in
    calm-unbegun v w (passed-out v (view_of c.give_way.new.seat) w c.args.cache.now c.give_way.new.cache c.args.done c.give_way.ensures.gives c.goes_on.ensures.ran c.goes_on.ensures.only).0.only

pub returns-clause-apart : goal.returns-clause-apart
returns-clause-apart g c =
    let v : View = view_of c.give_way.new.seat in
    let w : View = view_of c.goes_on.new.seat in
    let e = c.goes_on.ensures in
    ran-only spares_blocks (view_of c.args.seat.now) v w c.give_way.ensures.gives.out.ran e.ran c.give_way.ensures.apart (spares-answers v w e.only)
