use Rattle.std.proofs.Common.{◌<◌, ◌+◌, ◌-◌, ap, arith, Bool, inr, refl, subst}
use Rattle.std.specs.Arc.{arc_value}
use Rattle.mark_core.specs.Layout.{card_count}
use Rattle.mark_core.specs.declared.kinds.Phase.TheVariants.{Clear, Drain, Sweep}
use Rattle.mark_core.specs.declared.kinds.Step.TheVariants.{OpenStep}
use Rattle.gc_table.specs.Seats.{Across, Took, did, view_of}
use Rattle.gc_table.specs.declared.seat.Heap.{Heap}
use Rattle.gc_table.specs.declared.seat.HeapSeat.{HeapSeat}
use Rattle.gc_table.specs.declared.view.View.{View}
use Rattle.gc_table.proofs.Running.{ran-join}
use Rattle.mutator_ops.proofs.Few.{at-most-more}
use Rattle.gc_cycle.specs.Finishing.{IsMove}
use Rattle.gc_cycle.specs.Pieces.{LooksAt}
use Rattle.gc_cycle.specs.Stepping.{Keeps}
use Rattle.gc_cycle.specs.declared.card_steps.Look.TheVariants as looks
use Rattle.seat_steps.specs.Amounts.{DoesFew}
use Rattle.seat_steps.specs.Asked.{MarksSinceAsked}
use Rattle.seat_steps.specs.Collecting.{Collects}
use Rattle.seat_steps.specs.declared.stepper.Stage.TheVariants as stages
use Rattle.seat_steps.proofs.Amounts.{few-join, looks-neither, move-few, reads-few, cards-small}
use Rattle.seat_steps.proofs.Gates.{gate-few, gate-kept, gate-stays, opens}
use Rattle.seat_steps.proofs.Sparing.{Kept, goes-on, keeps-rest, kept-join, move-kept, part-kept, sits-in}
use Rattle.seat_steps.proofs.LookedAt.{all-empty, cards-left, packet-left}
use Rattle.seat_steps.proofs.SinceAsked.{clears-begun, marks-on, sweeps-begun, sweeps-on}
use Rattle.seat_steps.proofs.Stages.{bounded-on, step-on}
use Rattle.seat_steps.proofs.stepper.Stepper.look.Goals as goal
use Rattle.seat_steps.proofs.stepper.Stepper.look.Goals.{After-finds_all_marked, After-look_step}

-- the look at the cards
kept : (c : After-look_step) → Kept c.args.self.now.seat c.look_step.new.seat
kept c = let e = c.look_step.ensures in part-kept Drain c.args.self.now.seat c.look_step.new.seat e.part e.keeps

marks : (c : After-look_step) → MarksSinceAsked c.args.self.now.exact c.args.self.now.again (view_of c.look_step.new.seat)
marks c = let x = c.args.self.now in let e = c.look_step.ensures in marks-on x.exact x.again (view_of x.seat) (view_of c.look_step.new.seat) e.part.ran e.part.only e.exact (x.looking c.requires.looking).since

few : (c : After-look_step) → Across (DoesFew c.args.most) c.args.self.now.seat c.look_step.new.seat
few c =
    let x = c.args.self.now in
    let e = c.look_step.ensures in
    (looks-neither c.deref.result.now.shape x.next c.args.most c.look_step.result (view_of x.seat) (view_of c.look_step.new.seat) e.looked, e.few)

on : (c : After-look_step) (Stands : View → Type 0) → Stands (view_of c.look_step.new.seat) → Collects Stands (MarksSinceAsked c.args.self.now.exact c.args.self.now.again) (arc_value c.args.self.now.heap) c.look_step.new.seat
on c Stands stands = let x = c.args.self.now in goes-on _ _ x.seat c.look_step.new.seat c.deref.ensures (x.looking c.requires.looking).mutator (kept c) c.look_step.ensures.seat stands (marks c)

pub look_step-requires : goal.look_step-requires
look_step-requires c = let x = c.args.self.now in let s = x.looking c.requires.looking in record { seat = sits-in _ _ x.seat c.deref.ensures s.sits; looks = s.stands }

pub returns-in-Dirty-clause-collects : goal.returns-in-Dirty-clause-collects
returns-in-Dirty-clause-collects c =
    let x = c.args.self.now in
    λ precise. step-on precise c.args.most x _ stages.Looking stages.Cleaning c.requires.looking refl (refl, refl)
    (subst (λ (h : Heap). LooksAt h.shape x.next c.args.most (looks.Dirty c.in-Dirty.card) (did x.seat c.look_step.new.seat)) c.deref.ensures c.in-Dirty.ensures.looked, ((refl, refl), refl, refl), (refl, refl, refl))
    (keeps-rest x _ (kept (goal.at.returns-in-Dirty-clause-collects c).After-look_step) refl refl)

pub returns-in-Dirty-clause-bounded : goal.returns-in-Dirty-clause-bounded
returns-in-Dirty-clause-bounded c = bounded-on c.args.most c.args.self.now _ stages.Looking stages.Cleaning c.requires.looking refl (few (goal.at.returns-in-Dirty-clause-bounded c).After-look_step)

pub invariant_of-self-clause-cleaning : goal.invariant_of-self-clause-cleaning
invariant_of-self-clause-cleaning c = λ is. on (goal.at.invariant_of-self-clause-cleaning c).After-look_step _ c.in-Dirty.ensures.stands

pub returns-then-number-most-clause-collects : goal.returns-then-number-most-clause-collects
returns-then-number-most-clause-collects c =
    let x = c.args.self.now in
    let is = c.if-number-most.true in
    λ precise. step-on precise c.args.most x _ stages.Looking stages.Looking c.requires.looking c.requires.looking (refl, refl) (
      subst (λ (h : Heap). LooksAt h.shape x.next c.args.most (looks.Clean c.args.most) (did x.seat c.look_step.new.seat)) c.deref.ensures
          (subst (λ k. LooksAt c.deref.result.now.shape x.next c.args.most (looks.Clean k) (did x.seat c.look_step.new.seat)) is c.in-Clean.ensures.looked),
      ap (λ k. x.next + k) is,
      ((refl, refl), refl, refl),
      (refl, refl, refl),
    )
    (keeps-rest x _ (kept (goal.at.returns-then-number-most-clause-collects c).After-look_step) refl refl)

pub returns-then-number-most-clause-bounded : goal.returns-then-number-most-clause-bounded
returns-then-number-most-clause-bounded c = bounded-on c.args.most c.args.self.now _ stages.Looking stages.Looking c.requires.looking c.requires.looking (few (goal.at.returns-then-number-most-clause-bounded c).After-look_step)

pub invariant_of-self-then-number-most-clause-looking : goal.invariant_of-self-then-number-most-clause-looking
invariant_of-self-then-number-most-clause-looking c = λ is. on (goal.at.invariant_of-self-then-number-most-clause-looking c).After-look_step _ c.in-Clean.ensures.stands.0

pub finds_all_marked-requires-clause-looked : goal.finds_all_marked-requires-clause-looked
finds_all_marked-requires-clause-looked c = c.in-Clean.ensures.stands.1 c.if-number-most.false

-- and the look at the count of packets
read : (c : After-finds_all_marked) → Kept c.args.self.now.seat c.finds_all_marked.new.seat
read c =
    let f = c.finds_all_marked.ensures in
    let e = c.look_step.ensures in
    kept-join c.args.self.now.seat c.look_step.new.seat c.finds_all_marked.new.seat (part-kept Drain c.args.self.now.seat c.look_step.new.seat e.part e.keeps) (part-kept Drain c.look_step.new.seat c.finds_all_marked.new.seat f.part f.keeps)

marked : (c : After-finds_all_marked) → MarksSinceAsked c.args.self.now.exact c.args.self.now.again (view_of c.finds_all_marked.new.seat)
marked c =
    let x = c.args.self.now in
    let e = c.look_step.ensures in
    let f = c.finds_all_marked.ensures in
    let v = view_of c.look_step.new.seat in
    marks-on x.exact x.again v (view_of c.finds_all_marked.new.seat) f.part.ran f.part.only f.exact (marks-on x.exact x.again (view_of x.seat) v e.part.ran e.part.only e.exact (x.looking c.requires.looking).since)

left : (c : After-finds_all_marked) → card_count (arc_value c.args.self.now.heap).shape - c.args.self.now.next < c.args.most
left c =
    let x = c.args.self.now in
    let e = c.look_step.ensures in
    let f = c.finds_all_marked.ensures in
    subst (λ (h : Heap). card_count h.shape - x.next < c.args.most) c.deref.ensures
    (cards-left c.finds_all_marked.result c.deref.result.now.shape x.next c.in-Clean.number c.args.most (view_of x.seat) (view_of c.look_step.new.seat) (view_of c.finds_all_marked.new.seat) (sits-in _ _ x.seat c.deref.ensures (x.looking c.requires.looking).sits).1 e.part.ran f.part.ran c.in-Clean.ensures.looked c.if-number-most.false f.reads)

pub returns-then-not-finds_all_marked-clause-collects : goal.returns-then-not-finds_all_marked-clause-collects
returns-then-not-finds_all_marked-clause-collects c =
    let x = c.args.self.now in
    let here = (goal.at.returns-then-not-finds_all_marked-clause-collects c).After-finds_all_marked in
    let e = c.look_step.ensures in
    let f = c.finds_all_marked.ensures in
    let shape = (sits-in _ _ x.seat c.deref.ensures (x.looking c.requires.looking).sits).1 in
    λ precise. step-on precise c.args.most x _ stages.Looking stages.Draining c.requires.looking refl (refl, refl) (
      left here,
      packet-left c.finds_all_marked.result c.deref.result.now.shape x.next c.in-Clean.number c.args.most (view_of x.seat) (view_of c.look_step.new.seat) (view_of c.finds_all_marked.new.seat) shape e.part.ran f.part.ran c.in-Clean.ensures.looked c.if-number-most.false f.reads c.if-not-finds_all_marked.true,
      ((refl, refl), refl, refl),
      (refl, refl, refl),
    )
    (keeps-rest x _ (read here) refl refl)

fewer : (c : After-finds_all_marked) → Across (DoesFew (c.args.most + 1)) c.args.self.now.seat c.finds_all_marked.new.seat
fewer c =
    let x = c.args.self.now in
    let v = view_of c.look_step.new.seat in
    let w = view_of c.finds_all_marked.new.seat in
    let e = c.look_step.ensures in
    let f = c.finds_all_marked.ensures in
    few-join c.args.most 1 (view_of x.seat) v w e.part.ran f.part.ran (looks-neither c.deref.result.now.shape x.next c.args.most c.look_step.result (view_of x.seat) v e.looked, e.few) (reads-few c.finds_all_marked.result v w f.reads)

pub returns-then-not-finds_all_marked-clause-bounded : goal.returns-then-not-finds_all_marked-clause-bounded
returns-then-not-finds_all_marked-clause-bounded c = bounded-on c.args.most c.args.self.now _ stages.Looking stages.Draining c.requires.looking refl (fewer (goal.at.returns-then-not-finds_all_marked-clause-bounded c).After-finds_all_marked)

pub invariant_of-self-then-not-finds_all_marked-clause-draining : goal.invariant_of-self-then-not-finds_all_marked-clause-draining
invariant_of-self-then-not-finds_all_marked-clause-draining c = λ is.
    let x = c.args.self.now in
    let here = (goal.at.invariant_of-self-then-not-finds_all_marked-clause-draining c).After-finds_all_marked in
    goes-on _ _ x.seat c.finds_all_marked.new.seat c.deref-2.ensures (x.looking c.requires.looking).mutator (read here) c.finds_all_marked.ensures.seat c.if-not-finds_all_marked.ensures.not_yet (marked here)

pub returns-then-self-clause-collects : goal.returns-then-self-clause-collects
returns-then-self-clause-collects c =
    let x = c.args.self.now in
    let w = view_of c.finds_all_marked.new.seat in
    let here = (goal.at.returns-then-self-clause-collects c).After-finds_all_marked in
    let e = c.look_step.ensures in
    let f = c.finds_all_marked.ensures in
    let b = c.start_clear.ensures in
    let shape = (sits-in _ _ x.seat c.deref.ensures (x.looking c.requires.looking).sits).1 in
    λ precise. step-on precise c.args.most x _ stages.Looking stages.Clearing c.requires.looking refl (refl, refl) (
      left here,
      record {
        drained = w;
        looks = all-empty c.finds_all_marked.result c.deref.result.now.shape x.next c.in-Clean.number c.args.most (view_of x.seat) (view_of c.look_step.new.seat) w shape e.part.ran f.part.ran c.in-Clean.ensures.looked c.if-number-most.false f.reads c.if-not-finds_all_marked.false;
        moved = b.moved;
      },
      c.if-self.true,
      ((refl, refl), refl, refl),
      (refl, refl, refl),
    )
    (keeps-rest x _ (kept-join x.seat c.finds_all_marked.new.seat c.start_clear.new.seat (read here) (move-kept Drain Clear c.finds_all_marked.new.seat c.start_clear.new.seat b.moved b.keeps)) refl refl)

pub returns-then-self-clause-bounded : goal.returns-then-self-clause-bounded
returns-then-self-clause-bounded c =
    let u = view_of c.args.self.now.seat in
    let w = view_of c.finds_all_marked.new.seat in
    let y = view_of c.start_clear.new.seat in
    let here = (goal.at.returns-then-self-clause-bounded c).After-finds_all_marked in
    let moved = c.start_clear.ensures.moved in
    let all = few-join (c.args.most + 1) 1 u w y (read here).leaves.ran moved.ran (fewer here) (move-few Drain Clear w y moved) in
    bounded-on c.args.most c.args.self.now _ stages.Looking stages.Clearing c.requires.looking refl (all.0, at-most-more _ _ u y (omega arith) all.1)

pub invariant_of-self-then-self-clause-clearing : goal.invariant_of-self-then-self-clause-clearing
invariant_of-self-then-self-clause-clearing c = λ is.
    let x = c.args.self.now in
    let y = c.finds_all_marked.new.seat in
    let z = c.start_clear.new.seat in
    let here = (goal.at.invariant_of-self-then-self-clause-clearing c).After-finds_all_marked in
    let b = c.start_clear.ensures in
    goes-on _ _ x.seat z c.deref-then-self.ensures (x.looking c.requires.looking).mutator (kept-join x.seat y z (read here) (move-kept Drain Clear y z b.moved b.keeps)) b.seat b.clears (clears-begun x.exact x.again (view_of y) (view_of z) b.moved (marked here))

-- the sweep began, with helpers
begun : (x y z w : HeapSeat) → Kept x y → IsMove Drain Sweep (view_of y) (view_of z) → Keeps (view_of y) (view_of z) → Took OpenStep (view_of z) (view_of w) → Keeps (view_of z) (view_of w) → Kept x w
begun x y z w k m keeps t stay = kept-join x z w (kept-join x y z k (move-kept Drain Sweep y z m keeps)) (gate-kept Sweep z w (opens (view_of z) (view_of w) t) stay)

pub open_stop-requires-clause-owner : goal.open_stop-requires-clause-owner
open_stop-requires-clause-owner c = c.start_sweep.ensures.sweeps.owner

pub open_stop-requires-clause-alone : goal.open_stop-requires-clause-alone
open_stop-requires-clause-alone c = inr c.start_sweep.ensures.sweeps.alone

pub returns-clause-collects : goal.returns-clause-collects
returns-clause-collects c =
    let x = c.args.self.now in
    let w = view_of c.finds_all_marked.new.seat in
    let here = (goal.at.returns-clause-collects c).After-finds_all_marked in
    let e = c.look_step.ensures in
    let f = c.finds_all_marked.ensures in
    let b = c.start_sweep.ensures in
    let o = c.open_stop.ensures in
    let shape = (sits-in _ _ x.seat c.deref.ensures (x.looking c.requires.looking).sits).1 in
    λ precise. step-on precise c.args.most x _ stages.Looking stages.Sweeping c.requires.looking refl refl (
      left here,
      record {
        drained = w;
        looks = all-empty c.finds_all_marked.result c.deref.result.now.shape x.next c.in-Clean.number c.args.most (view_of x.seat) (view_of c.look_step.new.seat) w shape e.part.ran f.part.ran c.in-Clean.ensures.looked c.if-number-most.false f.reads c.if-not-finds_all_marked.false;
        begun = view_of c.start_sweep.new.seat;
        moved = b.moved;
        opens = o.step;
      },
      c.if-self.false,
      refl,
      ((refl, refl), refl, refl),
      (refl, refl, refl),
    )
    (keeps-rest x _ (begun x.seat c.finds_all_marked.new.seat c.start_sweep.new.seat c.open_stop.new.seat (read here) b.moved b.keeps o.step o.keeps) refl refl)

pub returns-clause-bounded : goal.returns-clause-bounded
returns-clause-bounded c =
    let u = view_of c.args.self.now.seat in
    let w = view_of c.finds_all_marked.new.seat in
    let y = view_of c.start_sweep.new.seat in
    let z = view_of c.open_stop.new.seat in
    let here = (goal.at.returns-clause-bounded c).After-finds_all_marked in
    let moved = c.start_sweep.ensures.moved in
    let g = opens y z c.open_stop.ensures.step in
    let all = few-join (c.args.most + 1) 1 u w y (read here).leaves.ran moved.ran (fewer here) (move-few Drain Sweep w y moved) in
    let more = few-join (c.args.most + 1 + 1) 1 u y z (ran-join u w y (read here).leaves.ran moved.ran) g.ran all (gate-few y z g) in
    bounded-on c.args.most c.args.self.now _ stages.Looking stages.Sweeping c.requires.looking refl (more.0, at-most-more _ _ u z (omega arith) more.1)

pub invariant_of-self-2-clause-sweeping : goal.invariant_of-self-2-clause-sweeping
invariant_of-self-2-clause-sweeping c = λ is.
    let x = c.args.self.now in
    let y = c.finds_all_marked.new.seat in
    let z = c.start_sweep.new.seat in
    let w = c.open_stop.new.seat in
    let here = (goal.at.invariant_of-self-2-clause-sweeping c).After-finds_all_marked in
    let b = c.start_sweep.ensures in
    let o = c.open_stop.ensures in
    let g = opens (view_of z) (view_of w) o.step in
    goes-on _ _ x.seat w c.deref-4.ensures (x.looking c.requires.looking).mutator (begun x.seat y z w (read here) b.moved b.keeps o.step o.keeps) o.seat (o.shared Sweep b.sweeps.alone)
    (sweeps-on x.exact (view_of z) (view_of w) g.ran (gate-stays Sweep (view_of z) (view_of w) g) o.exact
    (sweeps-begun x.exact (view_of y) (view_of z) b.moved b.exact (subst (λ (again : Bool). MarksSinceAsked x.exact again (view_of y)) c.if-self.false (marked here))))

pub overflow_add-self : goal.overflow_add-self
overflow_add-self c =
    let small = cards-small c.deref.result.now.shape c.deref.result.now.shaped in
    let count = c.in-Clean.ensures.looked.0 in
    omega (arith, small, count)
