use Rattle.std.proofs.Common.{ℕ, ◌≡◌, ◌<◌, ◌+◌, ◌∙◌, [], ◌∷◌, ap, arith, eqb-true, eq-eqb, inl, inr, refl, subst, sym}
use Rattle.std.proofs.lemmas.Bool.{true≢false}
use Rattle.std.specs.Prelude.{min}
use Rattle.std.specs.Arc.{arc_value}
use Rattle.mark_core.specs.declared.kinds.Phase.TheVariants.{Drain}
use Rattle.mark_core.specs.Numbers.{empty_offset}
use Rattle.mark_core.specs.declared.kinds.Shape.{Shape}
use Rattle.mark_core.specs.declared.kinds.Step.TheVariants.{ReadCount}
use Rattle.gc_table.specs.Log.{Only, all_steps, event}
use Rattle.gc_table.specs.Seats.{Across, Answered, did, view_of}
use Rattle.gc_table.specs.declared.seat.Heap.{Heap}
use Rattle.gc_table.specs.declared.seat.HeapSeat.{HeapSeat}
use Rattle.gc_table.specs.declared.view.View.{View}
use Rattle.gc_table.proofs.History.Log.{events-after}
use Rattle.gc_table.proofs.Running.{ran-answered, ran-join}
use Rattle.packet_pools.specs.Counts.{count_of}
use Rattle.tracer.specs.StepBounds.{recycle_steps, trace_steps}
use Rattle.mutator_ops.specs.Few.{AtMost}
use Rattle.mutator_ops.proofs.Few.{at-most-events, at-most-join, at-most-more}
use Rattle.gc_cycle.specs.Finishing.{most as greatest, stays_in}
use Rattle.gc_cycle.specs.Sorts.{draws_block, pops}
use Rattle.gc_cycle.specs.Stepping.{Keeps}
use Rattle.gc_cycle.proofs.Stops.Admitted.{count-run}
use Rattle.seat_steps.specs.Amounts.{DoesFew, DrawsNone}
use Rattle.seat_steps.specs.Asked.{MarksSinceAsked}
use Rattle.seat_steps.specs.Bounds.{tracing_steps}
use Rattle.seat_steps.specs.Collecting.{Collects}
use Rattle.seat_steps.specs.Passes.{SharesFor}
use Rattle.seat_steps.specs.declared.stepper.Stage.TheVariants as stages
use Rattle.seat_steps.proofs.Gates.{gate-few, gate-kept, gate-stays, shuts}
use Rattle.seat_steps.proofs.Sparing.{Kept, goes-on, keeps-rest, kept-join, sits-in, stays-kept}
use Rattle.seat_steps.proofs.Amounts.{draws-join, few-join, shared-draws-none, traced-more}
use Rattle.seat_steps.proofs.SinceAsked.{marks-on}
use Rattle.seat_steps.proofs.Stages.{bounded-on, step-on}
use Rattle.seat_steps.proofs.stepper.Stepper.empty.Goals as goal
use Rattle.seat_steps.proofs.stepper.Stepper.empty.Goals.{After-trace_shared-popped}

kept : (c : After-trace_shared-popped) → Kept c.args.self.now.seat c.trace_shared-popped.new.seat
kept c = let e = c.trace_shared-popped.ensures in stays-kept Drain c.args.self.now.seat c.trace_shared-popped.new.seat e.part.ran e.part.only e.keeps

traces : (c : After-trace_shared-popped) → Across (SharesFor c.args.most) c.args.self.now.seat c.trace_shared-popped.new.seat
traces c = let e = c.trace_shared-popped.ensures in let few = e.popped in record { part = e.part; brings = e.brings; worked = e.worked; at_most = omega (arith, few) }

undrawn : (c : After-trace_shared-popped) → Across DrawsNone c.args.self.now.seat c.trace_shared-popped.new.seat
undrawn c =
    let x = c.args.self.now in
    shared-draws-none (view_of x.seat) (view_of c.trace_shared-popped.new.seat) c.trace_shared-popped.ensures.part (x.emptying c.requires.emptying).stands

few : (c : After-trace_shared-popped) → Across (AtMost (tracing_steps c.args.most c.args.self.now)) c.args.self.now.seat c.trace_shared-popped.new.seat
few c =
    let u : View = view_of c.args.self.now.seat in
    let v : View = view_of c.trace_shared-popped.new.seat in
    let e = c.trace_shared-popped.ensures in
    subst (λ (h : Heap). AtMost (recycle_steps h.shape + trace_steps c.args.most h.shape) u v) c.deref.ensures
    (at-most-more _ _ u v (traced-more c.trace_shared-popped.result c.args.most c.deref.result.now.shape e.popped.0) e.few)

on : (c : After-trace_shared-popped) (Stands : View → Type 0) → Stands (view_of c.trace_shared-popped.new.seat) → Collects Stands (MarksSinceAsked c.args.self.now.exact c.args.self.now.again) (arc_value c.args.self.now.heap) c.trace_shared-popped.new.seat
on c Stands stands =
    let x = c.args.self.now in
    let s = x.emptying c.requires.emptying in
    let e = c.trace_shared-popped.ensures in
    goes-on _ _ x.seat c.trace_shared-popped.new.seat c.deref.ensures s.mutator (kept c) e.seat stands (marks-on x.exact x.again (view_of x.seat) (view_of c.trace_shared-popped.new.seat) e.part.ran e.part.only e.exact s.since)

pub trace_shared-popped-requires : goal.trace_shared-popped-requires
trace_shared-popped-requires c = let x = c.args.self.now in let s = x.emptying c.requires.emptying in record { seat = sits-in _ _ x.seat c.deref.ensures s.sits; drains = s.stands }

-- one look at the count of packets
look-few : (P : ℕ → Type 0) (v w : View) → Answered ReadCount P v w → DoesFew 1 v w
look-few P v w a =
    let is = events-after v w ReadCount a.0 a.1 in ((ap (count_of pops) is, λ blocks. ap (count_of (draws_block blocks)) is), at-most-events 1 v w _ is (omega arith))

look-stays : (P : ℕ → Type 0) (v w : View) → Answered ReadCount P v w → Only (stays_in Drain) v w
look-stays P v w a = ap (all_steps (stays_in Drain)) (events-after v w ReadCount a.0 a.1)

look-kept : (P : ℕ → Type 0) (x y : HeapSeat) → Answered ReadCount P (view_of x) (view_of y) → Keeps (view_of x) (view_of y) → Kept x y
look-kept P x y a k = stays-kept Drain x y (ran-answered (view_of x) (view_of y) ReadCount P refl a) (look-stays P (view_of x) (view_of y) a) k

pub returns-then-popped-most-clause-collects : goal.returns-then-popped-most-clause-collects
returns-then-popped-most-clause-collects c =
    let x = c.args.self.now in
    let here = (goal.at.returns-then-popped-most-clause-collects c).After-trace_shared-popped in
    let count = c.trace_shared-popped.ensures.popped.1 in
    let all = c.if-popped-most.true in
    let popped : count_of pops (did x.seat c.trace_shared-popped.new.seat) ≡ c.args.most = omega (arith, count, all) in
    let sum = c.saturating_add-self.ensures in
    let traced : c.saturating_add-self.result ≡ min (x.traced + count_of pops (did x.seat c.trace_shared-popped.new.seat)) greatest = omega (arith, sum, count) in
    λ precise. step-on precise c.args.most x _ stages.Emptying stages.Emptying c.requires.emptying c.requires.emptying (refl, refl) (inl (popped, traces here), ((refl, refl), refl, refl), (traced, refl, refl)) (keeps-rest x _ (kept here) refl refl)

pub returns-then-popped-most-clause-bounded : goal.returns-then-popped-most-clause-bounded
returns-then-popped-most-clause-bounded c =
    let here = (goal.at.returns-then-popped-most-clause-bounded c).After-trace_shared-popped in
    let u = view_of c.args.self.now.seat in
    let v = view_of c.trace_shared-popped.new.seat in
    let popped = c.trace_shared-popped.ensures.popped in
    bounded-on c.args.most c.args.self.now _ stages.Emptying stages.Emptying c.requires.emptying c.requires.emptying (omega (arith, popped), undrawn here, at-most-more _ _ u v (omega arith) (few here))

pub invariant_of-self-clause-emptying : goal.invariant_of-self-clause-emptying
invariant_of-self-clause-emptying c = λ is. on (goal.at.invariant_of-self-clause-emptying c).After-trace_shared-popped _ c.trace_shared-popped.ensures.drains

pub finds_no_work_shared-requires-clause-drains : goal.finds_no_work_shared-requires-clause-drains
finds_no_work_shared-requires-clause-drains c = c.trace_shared-popped.ensures.drains

pub returns-then-not-finds_no_work_shared-clause-collects : goal.returns-then-not-finds_no_work_shared-clause-collects
returns-then-not-finds_no_work_shared-clause-collects c =
    let x = c.args.self.now in
    let y = c.trace_shared-popped.new.seat in
    let z = c.finds_no_work_shared.new.seat in
    let u = view_of x.seat in
    let v = view_of y in
    let w = view_of z in
    let here = (goal.at.returns-then-not-finds_no_work_shared-clause-collects c).After-trace_shared-popped in
    let e = c.trace_shared-popped.ensures in
    let f = c.finds_no_work_shared.ensures in
    let a = f.looks in
    let both = count-run pops u v w e.part.ran (ran-answered v w ReadCount _ refl a) in
    let none = (look-few _ v w a).0.0 in
    let count = e.popped.1 in
    let bound = e.popped.0 in
    let other = c.if-popped-most.false in
    let fewer : count_of pops (did x.seat z) < c.args.most = omega (arith, both, none, count, bound, other) in
    let sum = c.saturating_add-self.ensures in
    let traced : c.saturating_add-self.result ≡ min (x.traced + count_of pops (did x.seat z)) greatest = omega (arith, sum, both, none, count) in
    let shape = (sits-in _ _ x.seat c.deref-2.ensures (x.emptying c.requires.emptying).sits).1 in
    λ precise. step-on precise c.args.most x _ stages.Emptying stages.Emptying c.requires.emptying c.requires.emptying (refl, refl) (
      inr (
        fewer,
        record {
          traced = v;
          traces = traces here;
          found = a.0;
          left = λ is. true≢false (sym (a.3 ∙ eq-eqb a.0 _ (is ∙ ap (λ (sh : Shape). empty_offset + sh.packets) shape)) ∙ c.if-not-finds_no_work_shared.true);
          looks = events-after v w ReadCount a.0 a.1;
        },
      ),
      ((refl, refl), refl, refl),
      (traced, refl, refl),
    )
    (keeps-rest x _ (kept-join x.seat y z (kept here) (look-kept _ y z a f.keeps)) refl refl)

pub returns-then-not-finds_no_work_shared-clause-bounded : goal.returns-then-not-finds_no_work_shared-clause-bounded
returns-then-not-finds_no_work_shared-clause-bounded c =
    let x = c.args.self.now in
    let u = view_of x.seat in
    let v = view_of c.trace_shared-popped.new.seat in
    let w = view_of c.finds_no_work_shared.new.seat in
    let here = (goal.at.returns-then-not-finds_no_work_shared-clause-bounded c).After-trace_shared-popped in
    let e = c.trace_shared-popped.ensures in
    let a = c.finds_no_work_shared.ensures.looks in
    let ran = ran-answered v w ReadCount _ refl a in
    let both = count-run pops u v w e.part.ran ran in
    let look = look-few _ v w a in
    let none = look.0.0 in
    let popped = e.popped in
    bounded-on c.args.most x _ stages.Emptying stages.Emptying c.requires.emptying c.requires.emptying (
      omega (arith, both, none, popped.0, popped.1),
      draws-join u v w e.part.ran ran (undrawn here) look.0.1,
      at-most-join (tracing_steps c.args.most x) 1 u v w e.part.ran ran (few here) look.1,
    )

marked : (c : After-trace_shared-popped) → MarksSinceAsked c.args.self.now.exact c.args.self.now.again (view_of c.trace_shared-popped.new.seat)
marked c =
    let x = c.args.self.now in
    let e = c.trace_shared-popped.ensures in
    marks-on x.exact x.again (view_of x.seat) (view_of c.trace_shared-popped.new.seat) e.part.ran e.part.only e.exact (x.emptying c.requires.emptying).since

pub invariant_of-self-then-not-finds_no_work_shared-clause-emptying : goal.invariant_of-self-then-not-finds_no_work_shared-clause-emptying
invariant_of-self-then-not-finds_no_work_shared-clause-emptying c = λ is.
    let x = c.args.self.now in
    let y = c.trace_shared-popped.new.seat in
    let z = c.finds_no_work_shared.new.seat in
    let here = (goal.at.invariant_of-self-then-not-finds_no_work_shared-clause-emptying c).After-trace_shared-popped in
    let f = c.finds_no_work_shared.ensures in
    let a = f.looks in
    goes-on _ _ x.seat z c.deref-2.ensures (x.emptying c.requires.emptying).mutator (kept-join x.seat y z (kept here) (look-kept _ y z a f.keeps)) f.seat f.drains
    (marks-on x.exact x.again (view_of y) (view_of z) (ran-answered (view_of y) (view_of z) ReadCount _ refl a) (look-stays _ (view_of y) (view_of z) a) f.exact (marked here))

pub shut_stop-requires-clause-shared : goal.shut_stop-requires-clause-shared
shut_stop-requires-clause-shared c = (Drain, c.finds_no_work_shared.ensures.drains)

pub returns-clause-collects : goal.returns-clause-collects
returns-clause-collects c =
    let x = c.args.self.now in
    let y = c.trace_shared-popped.new.seat in
    let z = c.finds_no_work_shared.new.seat in
    let q = c.shut_stop.new.seat in
    let u = view_of x.seat in
    let v = view_of y in
    let w = view_of z in
    let here = (goal.at.returns-clause-collects c).After-trace_shared-popped in
    let e = c.trace_shared-popped.ensures in
    let f = c.finds_no_work_shared.ensures in
    let h = c.shut_stop.ensures in
    let a = f.looks in
    let g = shuts w (view_of q) h.step in
    let ran = ran-answered v w ReadCount _ refl a in
    let both = count-run pops u v w e.part.ran ran in
    let all = count-run pops u w (view_of q) (ran-join u v w e.part.ran ran) g.ran in
    let none = (look-few _ v w a).0.0 in
    let last = (gate-few w (view_of q) g).0.0 in
    let count = e.popped.1 in
    let bound = e.popped.0 in
    let other = c.if-popped-most.false in
    let fewer : count_of pops (did x.seat q) < c.args.most = omega (arith, all, both, none, last, count, bound, other) in
    let sum = c.saturating_add-self.ensures in
    let traced : c.saturating_add-self.result ≡ min (x.traced + count_of pops (did x.seat q)) greatest = omega (arith, sum, all, both, none, last, count) in
    let shape = (sits-in _ _ x.seat c.deref-2.ensures (x.emptying c.requires.emptying).sits).1 in
    let found : a.0 ≡ empty_offset + u.shape.packets = eqb-true a.0 _ (sym a.3 ∙ c.if-not-finds_no_work_shared.false) ∙ ap (λ (sh : Shape). empty_offset + sh.packets) (sym shape) in
    λ precise. step-on precise c.args.most x _ stages.Emptying stages.Closing c.requires.emptying refl (refl, refl) (
      fewer,
      record { traced = v; traces = traces here; looked = w; looks = events-after v w ReadCount a.0 a.1 ∙ ap (λ n. event ReadCount n ∷ []) found; shuts = h.step },
      ((refl, refl), refl, refl),
      (traced, refl, refl),
    )
    (keeps-rest x _ (kept-join x.seat z q (kept-join x.seat y z (kept here) (look-kept _ y z a f.keeps)) (gate-kept Drain z q g h.keeps)) refl refl)

pub returns-clause-bounded : goal.returns-clause-bounded
returns-clause-bounded c =
    let x = c.args.self.now in
    let u = view_of x.seat in
    let v = view_of c.trace_shared-popped.new.seat in
    let w = view_of c.finds_no_work_shared.new.seat in
    let q = view_of c.shut_stop.new.seat in
    let here = (goal.at.returns-clause-bounded c).After-trace_shared-popped in
    let e = c.trace_shared-popped.ensures in
    let a = c.finds_no_work_shared.ensures.looks in
    let g = shuts w q c.shut_stop.ensures.step in
    let ran = ran-answered v w ReadCount _ refl a in
    let later = few-join 1 1 v w q ran g.ran (look-few _ v w a) (gate-few w q g) in
    let rest = ran-join v w q ran g.ran in
    let all = count-run pops u v q e.part.ran rest in
    let none = later.0.0 in
    let popped = e.popped in
    bounded-on c.args.most x _ stages.Emptying stages.Closing c.requires.emptying refl (
      omega (arith, all, none, popped.0, popped.1),
      draws-join u v q e.part.ran rest (undrawn here) later.0.1,
      at-most-join (tracing_steps c.args.most x) 2 u v q e.part.ran rest (few here) later.1,
    )

pub invariant_of-self-2-clause-closing : goal.invariant_of-self-2-clause-closing
invariant_of-self-2-clause-closing c = λ is.
    let x = c.args.self.now in
    let y = c.trace_shared-popped.new.seat in
    let z = c.finds_no_work_shared.new.seat in
    let q = c.shut_stop.new.seat in
    let here = (goal.at.invariant_of-self-2-clause-closing c).After-trace_shared-popped in
    let f = c.finds_no_work_shared.ensures in
    let h = c.shut_stop.ensures in
    let a = f.looks in
    let g = shuts (view_of z) (view_of q) h.step in
    goes-on _ _ x.seat q c.deref-3.ensures (x.emptying c.requires.emptying).mutator (kept-join x.seat z q (kept-join x.seat y z (kept here) (look-kept _ y z a f.keeps)) (gate-kept Drain z q g h.keeps)) h.seat (h.closing Drain f.drains)
    (marks-on x.exact x.again (view_of z) (view_of q) g.ran (gate-stays Drain (view_of z) (view_of q) g) h.exact
    (marks-on x.exact x.again (view_of y) (view_of z) (ran-answered (view_of y) (view_of z) ReadCount _ refl a) (look-stays _ (view_of y) (view_of z) a) f.exact (marked here)))
