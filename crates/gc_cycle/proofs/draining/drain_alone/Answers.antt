use Rattle.std.proofs.Common.{refl, sym, ap, ◌∙◌, arith, inl}
use Rattle.std.proofs.lemmas.Bool.{true≢false}
use Rattle.gc_cycle.proofs.Ends.Settled.{falls}
use Rattle.mark_core.specs.declared.kinds.Phase.TheVariants.{Drain}
use Rattle.gc_table.specs.Seats.{view_of}
use Rattle.gc_table.specs.declared.view.View.{View}
use Rattle.gc_table.proofs.Running.{ran-join}
use Rattle.card_clean.specs.Leaving.{rescans, rescanned_in}
use Rattle.gc_cycle.proofs.Ends.Completing.{total-run}
use Rattle.gc_cycle.proofs.Ends.DrainRounds.{begins-rounds, drains-alone, goes-on, goes-round}
use Rattle.gc_cycle.proofs.Ends.Moving.{may-reset_drain}
use Rattle.gc_cycle.proofs.Parts.{only-reset, part-join, part-reset}
use Rattle.gc_cycle.proofs.Traced.{rescans-none, traced-part}
use Rattle.gc_cycle.proofs.Ends.Rooted.{cleared}
use Rattle.gc_cycle.proofs.draining.drain_alone.Goals as goal

pub reset-requires-clause-may : goal.reset-requires-clause-may
reset-requires-clause-may c = may-reset_drain 1 (view_of c.args.seat.now) refl c.requires.alone

pub see_to_roots-requires-clause-alone : goal.see_to_roots-requires-clause-alone
see_to_roots-requires-clause-alone c =
    let v : View = view_of c.args.seat.now in
    let w : View = view_of c.reset.new.seat in
    ((part-reset Drain 1 v w c.reset.ensures.view c.requires.alone).alone, cleared v w c.requires.alone c.reset.ensures.view)

pub rounds-init : goal.rounds-init
rounds-init c =
    let v : View = view_of c.args.seat.now in
    let w : View = view_of c.reset.new.seat in
    let x : View = view_of c.see_to_roots.new.seat in
    let p = part-reset Drain 1 v w c.reset.ensures.view c.requires.alone in
    let q = c.see_to_roots.ensures.part in
    let none = rescans-none v w x p.ran q.ran (ap (rescanned_in v) (only-reset 1 v w c.reset.ensures.view)) c.see_to_roots.ensures.rescanned in
    record { sits = c.see_to_roots.ensures.seat.0; part = part-join Drain v w x p q; rooted = c.see_to_roots.ensures.seat.1; draining = begins-rounds v x (part-join Drain v w x p q) c.see_to_roots.ensures.seat.1; count = omega (arith, none) }

pub drain_round-requires-clause-drains : goal.drain_round-requires-clause-drains
drain_round-requires-clause-drains c =
    let i = c.rounds.invariant in inl (traced-part (view_of c.rounds.seat) (view_of c.is_drained.new.seat) i.part.alone c.is_drained.ensures.traced).alone

pub rounds-preserved : goal.rounds-preserved
rounds-preserved c =
    let v : View = view_of c.args.seat.now in
    let w : View = view_of c.rounds.seat in
    let x : View = view_of c.is_drained.new.seat in
    let y : View = view_of c.drain_round.new.seat in
    let i = c.rounds.invariant in
    let p = traced-part w x i.part.alone c.is_drained.ensures.traced in
    let q = traced-part x y p.alone c.drain_round.ensures.traced in
    let all = total-run rescans v w y i.part.ran (ran-join w x y p.ran q.ran) in
    let last = total-run rescans w x y p.ran q.ran in
    let none = c.is_drained.ensures.rescanned in
    let some = c.drain_round.ensures.rescanned in
    let sum = c.saturating_add-rescanned.ensures in
    let before = i.count in
    record {
      sits = c.drain_round.ensures.seat;
      part = part-join Drain v w y i.part (part-join Drain w x y p q);
      rooted = c.drain_round.ensures.traced.rooted c.is_drained.ensures.seat.1;
      draining = goes-on v w y i.draining (goes-round c.args.heap.now.shape w x y i.sits.1 p.ran (c.is_drained.ensures.undrained c.rounds-test.true) q.ran c.drain_round.ensures.brings c.drain_round.ensures.worked c.drain_round.ensures.cleans);
      count = omega (arith, all, last, none, some, sum, before);
    }

pub returns-clause-drains : goal.returns-clause-drains
returns-clause-drains c =
    let v : View = view_of c.args.seat.now in
    let w : View = view_of c.rounds.seat in
    let x : View = view_of c.is_drained.new.seat in
    let i = c.rounds.invariant in
    let e = c.is_drained.ensures in
    let p = traced-part w x i.part.alone e.traced in
    drains-alone c.args.heap.now.shape v w x i.draining i.sits.1 p.ran (e.over c.rounds-test.false) (part-join Drain v w x i.part p) (e.drained c.rounds-test.false)

pub returns-clause-rescanned : goal.returns-clause-rescanned
returns-clause-rescanned c =
    let i = c.rounds.invariant in
    let all = total-run rescans (view_of c.args.seat.now) (view_of c.rounds.seat) (view_of c.is_drained.new.seat) i.part.ran c.is_drained.ensures.traced.ran in
    let none = c.is_drained.ensures.rescanned in
    let before = i.count in
    omega (arith, all, none, before)

pub rounds-smaller : goal.rounds-smaller
rounds-smaller c =
    let w : View = view_of c.rounds.seat in
    let x : View = view_of c.is_drained.new.seat in
    let i = c.rounds.invariant in
    let e = c.is_drained.ensures in
    let p = traced-part w x i.part.alone e.traced in
    falls c.args.heap.now.shape w x (view_of c.drain_round.new.seat) i.part.alone e.traced (e.undrained c.rounds-test.true) (λ s. true≢false (sym (e.settled s) ∙ c.rounds-test.true)) (c.drain_round.ensures.shrinks p.alone (omega arith))
