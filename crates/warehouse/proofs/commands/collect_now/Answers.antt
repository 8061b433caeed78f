use Rattle.std.proofs.Common.{arith, subst, sym}
use Rattle.std.specs.Prelude.{None}
use Rattle.gc_script.specs.Shown.{execution_of}
use Rattle.gc_table.specs.Seats.{view_of}
use Rattle.gc_cycle.specs.Answering.{CollectsTo, HasCache}
use Rattle.gc_cycle.specs.declared.counts.Safe.TheVariants as safes
use Rattle.warehouse.specs.Commands.{DoesOne}
use Rattle.warehouse.proofs.Collecting.{collects-full, collects-going, counted_up, no-cache-left}
use Rattle.warehouse.proofs.Pacing.{paces-collected}
use Rattle.warehouse.proofs.InTheStop.{retired-stays, retired-waits}
use Rattle.warehouse.proofs.commands.collect_now.Goals as goal

pub overflow_add-mutator : goal.overflow_add-mutator
overflow_add-mutator g c = omega (arith, c.requires.may.next.room.count)

pub retire_some-requires-clause-cache : goal.retire_some-requires-clause-cache
retire_some-requires-clause-cache g c = subst (λ o. HasCache o (view_of c.args.mutator.now.seat)) (sym c.take.ensures.value) c.requires.playing.cached

pub returns-in-Full-clause-stops : goal.returns-in-Full-clause-stops
returns-in-Full-clause-stops g c =
    let m = c.args.mutator.now in
    let s = c.retire_some.new.seat in
    let t = c.collect.new.seat in
    let r = c.retire_some.ensures in
    let k = c.collect.ensures in
    let had = subst (λ o. HasCache o (view_of m.seat)) (sym c.take.ensures.value) c.requires.playing.cached in (
      collects-full c.args.heap.now c.args.section.now (execution_of c.args.command.now) m c.args.cache.now s t c.requires.op c.requires.playing c.requires.may k.seat (retired-waits c.take.result (view_of m.seat) (view_of s) had r.ran r.only r.state r.numbers) (retired-stays (view_of m.seat) (view_of s) r.ran r.state r.own)
          k.ran k.spares k.keeps.0 k.once (paces-collected (view_of s) (view_of t) k.numbers k.unbegun) c.in-Full.ensures.collects c.in-Full.ensures.known,
      c.take.ensures.after,
    )

pub returns-in-Going-clause-does : goal.returns-in-Going-clause-does
returns-in-Going-clause-does g c =
    let m = c.args.mutator.now in
    let s = c.retire_some.new.seat in
    let t = c.collect.new.seat in
    let r = c.retire_some.ensures in
    let k = c.collect.ensures in
    let e = execution_of c.args.command.now in
    let had = subst (λ o. HasCache o (view_of m.seat)) (sym c.take.ensures.value) c.requires.playing.cached in
    subst (λ o. DoesOne c.args.heap.now c.args.section.now o e m (counted_up m t)) (sym c.take.ensures.after)
    (collects-going c.args.heap.now c.args.section.now e m c.args.cache.now s t c.requires.op c.requires.playing c.requires.may k.seat (retired-waits c.take.result (view_of m.seat) (view_of s) had r.ran r.only r.state r.numbers) (retired-stays (view_of m.seat) (view_of s) r.ran r.state r.own)
    k.ran k.spares k.keeps.0 k.once (paces-collected (view_of s) (view_of t) k.numbers k.unbegun) None (subst (λ o. CollectsTo (safes.Going o) m.count (view_of s) (view_of t)) (no-cache-left c.in-Going.kept m.count (view_of s) (view_of t) c.in-Going.ensures.collects) c.in-Going.ensures.collects))

pub spend_none-requires : goal.spend_none-requires
spend_none-requires g c = no-cache-left c.in-Going.kept c.args.mutator.now.count (view_of c.retire_some.new.seat) (view_of c.collect.new.seat) c.in-Going.ensures.collects
