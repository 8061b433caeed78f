use Rattle.std.proofs.Common.{◌∙◌, ap, Option, subst, sym}
use Rattle.std.specs.Prelude.{is_some}
use Rattle.gc_table.specs.Seats.{view_of}
use Rattle.alloc_cache.specs.declared.cache.Cache.{Cache}
use Rattle.gc_cycle.specs.Answering.{HasCache}
use Rattle.warehouse.proofs.turn.leave_and_enter.Goals as goal
use Rattle.warehouse.proofs.Leavings.{waits-join}
use Rattle.warehouse.proofs.Pacing.{paces-out}
use Rattle.warehouse.proofs.InTheStop.{retired-stays, retired-waits, stays-join, stays-spared, waits-calm}

pub retire_some-requires-clause-cache : goal.retire_some-requires-clause-cache
retire_some-requires-clause-cache g c = subst (λ o. HasCache o (view_of c.args.seat.now)) (sym c.take.ensures.value) c.requires.cache

pub go_in-requires-clause-section : goal.go_in-requires-clause-section
go_in-requires-clause-section g c = ap (λ o. is_some o) (c.go_out.ensures.out.seat.section) ∙ c.retire_some.ensures.seat.1.section

pub returns-clause-stays : goal.returns-clause-stays
returns-clause-stays g c =
    let a = view_of c.args.seat.now in
    let b = view_of c.retire_some.new.seat in
    let d = view_of c.go_out.new.seat in
    let e = view_of c.go_in.new.seat in
    stays-join a b e (retired-stays a b c.retire_some.ensures.ran c.retire_some.ensures.state c.retire_some.ensures.own)
    (stays-join b d e (stays-spared b d c.go_out.ensures.out.ran c.go_out.ensures.spares c.go_out.ensures.out.seat) (stays-spared d e c.go_in.ensures.entered.out.ran c.go_in.ensures.spares c.go_in.ensures.entered.out.seat))

pub returns-clause-acts : goal.returns-clause-acts
returns-clause-acts g c =
    let a = view_of c.args.seat.now in
    let b = view_of c.retire_some.new.seat in
    let d = view_of c.go_out.new.seat in
    let e = view_of c.go_in.new.seat in
    let r = c.retire_some.ensures in
    let o = c.go_out.ensures in
    let i = c.go_in.ensures in
    let had = subst (λ (k : Option Cache). HasCache k a) (sym c.take.ensures.value) c.requires.cache in
    waits-join a b e (retired-waits c.take.result a b had r.ran r.only r.state r.numbers)
    (waits-join b d e (waits-calm b d o.out.ran o.spares o.out.calm (paces-out b d o.out o.numbers)) (waits-calm d e i.entered.out.ran i.spares i.entered.out.calm (paces-out d e i.entered.out i.numbers)))
