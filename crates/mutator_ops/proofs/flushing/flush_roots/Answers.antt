use Rattle.std.proofs.Common.{ℕ, ◌≡◌, arith, subst}
use Rattle.mark_core.specs.Numbers.{section_variables}
use Rattle.gc_table.specs.declared.view.View.{View}
use Rattle.gc_table.specs.Seats.{view_of}
use Rattle.mutator_ops.proofs.Flushed.{FlushesTo, flushes-all, flushes-more, flushes-none, flushes-turn}
use Rattle.mutator_ops.proofs.flushing.flush_roots.Goals as goal

pub loop-v-init : goal.loop-v-init
loop-v-init c = record { sits = c.requires.seat; turn = c.requires.turn; flushes = flushes-none (view_of c.args.seat.now) }

pub flush_lagging-requires-clause-seat : goal.flush_lagging-requires-clause-seat
flush_lagging-requires-clause-seat c = c.loop-v.invariant.sits

pub flush_lagging-requires-clause-turn : goal.flush_lagging-requires-clause-turn
flush_lagging-requires-clause-turn c = c.loop-v.invariant.turn

pub loop-v-preserved : goal.loop-v-preserved
loop-v-preserved c =
    let i = c.loop-v.invariant in
    let more = flushes-more c.loop-v.v (view_of c.args.seat.now) (view_of c.loop-v.seat) (view_of c.flush_lagging.new.seat) (omega (arith, c.loop-v-test.true)) i.flushes c.flush_lagging.ensures.flushes in
    record { sits = c.flush_lagging.ensures.seat; turn = flushes-turn _ (view_of c.args.seat.now) (view_of c.flush_lagging.new.seat) more c.requires.turn; flushes = more }

pub returns-clause-seat : goal.returns-clause-seat
returns-clause-seat c = c.loop-v.invariant.sits

pub returns-clause-flushes : goal.returns-clause-flushes
returns-clause-flushes c =
    let v : View = view_of c.args.seat.now in
    let w : View = view_of c.loop-v.seat in
    let all : c.loop-v.v ≡ section_variables = omega (arith, c.loop-v-test.false, c.loop-v.auto.v-end) in
    flushes-all v w c.requires.few (subst (λ (k : ℕ). FlushesTo k v w) all c.loop-v.invariant.flushes)
