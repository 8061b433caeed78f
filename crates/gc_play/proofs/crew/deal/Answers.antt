use Rattle.std.proofs.Common.{◌≡◌, ◌+◌, length, sym, subst, arith}
use Rattle.std.specs.Prelude.{vec_len}
use Rattle.gc_play.specs.Crews.{IsNewSeatOfPlay, Numbered}
use Rattle.gc_play.specs.Dealing.{IsDealt}
use Rattle.gc_play.proofs.Parts.{warehouse-count}
use Rattle.gc_play.proofs.crew.deal.Goals as goal

pub remove-seat-requires : goal.remove-seat-requires
remove-seat-requires c = omega (arith, c.loop-at.invariant.rest, c.loop-at-test.true, c.requires.enough, warehouse-count c.args.script.now.sections c.warehouses-at-end.result.now c.warehouses-at-end.ensures.same)

pub deal_one-requires-clause-at : goal.deal_one-requires-clause-at
deal_one-requires-clause-at c = omega (arith, c.loop-at-test.true, warehouse-count c.args.script.now.sections c.warehouses-at-end.result.now c.warehouses-at-end.ensures.same)

all-dealt : (c : goal.After-loop-at) → c.loop-at.at ≡ length c.args.script.now.sections.warehouses
all-dealt c = omega (arith, c.loop-at-test.false, c.loop-at.auto.at-end, warehouse-count c.args.script.now.sections c.warehouses-at-end.result.now c.warehouses-at-end.ensures.same)

pub returns-clause-dealt : goal.returns-clause-dealt
returns-clause-dealt c =
    let i = c.loop-at.invariant in
    subst (λ n. IsDealt n (length c.args.script.now.sections.warehouses) c.loop-at.workers.items) (sym i.same) (subst (λ k. IsDealt (vec_len c.args.workers.now) k c.loop-at.workers.items) (all-dealt c) i.dealt)

pub returns-clause-some : goal.returns-clause-some
returns-clause-some c = omega (arith, c.loop-at.invariant.same, c.requires.some)

pub returns-clause-seats : goal.returns-clause-seats
returns-clause-seats c = subst (λ k. Numbered (IsNewSeatOfPlay c.args.heap.now c.args.script.now.sections) (1 + k) c.loop-at.seats.items) (all-dealt c) c.loop-at.invariant.seats

pub returns-clause-rest : goal.returns-clause-rest
returns-clause-rest c = subst (λ k. vec_len c.loop-at.seats + k ≡ vec_len c.args.seats.now) (all-dealt c) c.loop-at.invariant.rest
