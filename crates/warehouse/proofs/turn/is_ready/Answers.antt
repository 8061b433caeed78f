use Rattle.std.proofs.Common.{◌∙◌, inl, inr}
use Rattle.std.proofs.lemmas.Bool.{OnFalse_at, OnFalse_from}
use Rattle.gc_table.specs.Seats.{view_of}
use Rattle.gc_table.specs.declared.view.View.{View}
use Rattle.gc_table.proofs.History.Log.{only-more}
use Rattle.gc_cycle.specs.Mutating.{stays_calm}
use Rattle.gc_cycle.specs.Sparing.{spares_part}
use Rattle.gc_cycle.proofs.Refills.Collected.{calm-spares}
use Rattle.warehouse.proofs.Leavings.{waits-join}
use Rattle.warehouse.proofs.Others.{has-cache}
use Rattle.warehouse.proofs.Pacing.{paces-out}
use Rattle.warehouse.proofs.Readying.{looks-kept, looks-mutates, looks-stays, looks-waits, reads-ready}
use Rattle.warehouse.proofs.InTheStop.{stays-join, stays-spared, waits-calm}
use Rattle.warehouse.proofs.turn.is_ready.Goals as goal

pub returns-then-not-sees_clear-clause-cache : goal.returns-then-not-sees_clear-clause-cache
returns-then-not-sees_clear-clause-cache c = c.sees_clear.ensures.glances.cache

pub returns-then-not-sees_clear-clause-stays : goal.returns-then-not-sees_clear-clause-stays
returns-then-not-sees_clear-clause-stays c =
    let v : View = view_of c.args.seat.now in
    let w : View = view_of c.sees_clear.new.seat in
    let o = c.sees_clear.ensures.glances.out in
    stays-spared v w o.ran (only-more stays_calm spares_part calm-spares v w o.only) o.seat

pub returns-then-not-sees_clear-clause-waits : goal.returns-then-not-sees_clear-clause-waits
returns-then-not-sees_clear-clause-waits c =
    let v : View = view_of c.args.seat.now in
    let w : View = view_of c.sees_clear.new.seat in
    let o = c.sees_clear.ensures.glances.out in
    waits-calm v w o.ran (only-more stays_calm spares_part calm-spares v w o.only) o.calm (paces-out v w o c.sees_clear.ensures.glances.numbers)

pub returns-clause-seat : goal.returns-clause-seat
returns-clause-seat c = (c.is_turn.ensures.seat, looks-mutates (view_of c.sees_clear.new.seat) (view_of c.is_turn.new.seat) c.is_turn.ensures.looks c.sees_clear.ensures.seat.1)

pub returns-clause-cache : goal.returns-clause-cache
returns-clause-cache c = looks-kept (view_of c.sees_clear.new.seat) (view_of c.is_turn.new.seat) c.is_turn.ensures.looks ∙ c.sees_clear.ensures.glances.cache

pub returns-clause-ready : goal.returns-clause-ready
returns-clause-ready c =
    let v : View = view_of c.args.seat.now in
    let w : View = view_of c.sees_clear.new.seat in
    let g = c.sees_clear.ensures.glances in
    λ is kept has.
    reads-ready c.args.turn kept v w (view_of c.is_turn.new.seat) c.requires.owned g.out.ran (only-more stays_calm spares_part calm-spares v w g.out.only) g.out.calm g.out.seat g.polled (paces-out v w g.out g.numbers)
    (c.sees_clear.ensures.clear c.if-not-sees_clear.false) (has-cache kept v w g.cache has) c.requires.counted c.requires.turn c.is_turn.ensures.looks (c.is_turn.ensures.turn is)

pub returns-clause-stays : goal.returns-clause-stays
returns-clause-stays c =
    let v : View = view_of c.args.seat.now in
    let w : View = view_of c.sees_clear.new.seat in
    let x : View = view_of c.is_turn.new.seat in
    let o = c.sees_clear.ensures.glances.out in
    stays-join v w x (stays-spared v w o.ran (only-more stays_calm spares_part calm-spares v w o.only) o.seat) (looks-stays w x c.is_turn.ensures.looks)

pub returns-clause-waits : goal.returns-clause-waits
returns-clause-waits c =
    let v : View = view_of c.args.seat.now in
    let w : View = view_of c.sees_clear.new.seat in
    let x : View = view_of c.is_turn.new.seat in
    let o = c.sees_clear.ensures.glances.out in
    waits-join v w x (waits-calm v w o.ran (only-more stays_calm spares_part calm-spares v w o.only) o.calm (paces-out v w o c.sees_clear.ensures.glances.numbers)) (looks-waits w x c.is_turn.ensures.looks)

pub returns-then-not-sees_clear-clause-late : goal.returns-then-not-sees_clear-clause-late
returns-then-not-sees_clear-clause-late c = inl c.if-not-sees_clear.ensures.hindered

pub returns-clause-late : goal.returns-clause-late
returns-clause-late c = OnFalse_from c.is_turn.result _ (λ no. inr (OnFalse_at no c.is_turn.ensures.other))
