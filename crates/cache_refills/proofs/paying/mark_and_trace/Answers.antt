use Rattle.std.proofs.Common.{◌≡◌, ◌<◌, ◌+◌, ◌%◌, ◌++◌, inl, inr, sym, ap, ◌∙◌, subst, true, arith}
use Rattle.mark_core.specs.declared.kinds.Shape.{Shape}
use Rattle.mark_core.specs.declared.seat.SeatState.{SeatState}
use Rattle.std.proofs.Math.Nat.{mod-lt}
use Rattle.std.proofs.lemmas.Bool.{or_right}
use Rattle.gc_table.specs.PlainSteps.{own_section}
use Rattle.gc_table.specs.Log.{events}
use Rattle.gc_table.specs.Seats.{view_of}
use Rattle.gc_table.specs.declared.view.View.{View}
use Rattle.cache_refills.specs.Pace.Payment.{MarksAndTraces}
use Rattle.gc_cycle.specs.Roots.{roots_scanned}
use Rattle.gc_cycle.specs.CardLooks.{looks_at_card}
use Rattle.gc_cycle.specs.Sorts.{draws_or_clears, pops, reads_pace}
use Rattle.gc_cycle.specs.Turns.{SeesToRoots}
use Rattle.gc_cycle.proofs.Turns.{has-traced, roots-left, roots-earlier, roots-later, roots-scanned}
use Rattle.cache_refills.proofs.Refills.Payment.{marks-none, marks-traces, never-run, none-traces, section-below, traces-within}
use Rattle.tracer.specs.StepBounds.{section_steps}
use Rattle.cache_refills.specs.Pace.StepBounds.{early_steps, quota_steps}
use Rattle.gc_cycle.proofs.Few.{few-join}
use Rattle.gc_cycle.proofs.Sequences.{this-moment}
use Rattle.gc_cycle.specs.Moments.{begins, finds_no_packet}
use Rattle.gc_table.proofs.Running.{ran-events, ran-join, ran-refl}
use Rattle.tracer.specs.declared.traced.Stopped.TheVariants.{NoWork}
use Rattle.cache_refills.proofs.Refills.Apart.{apart-none, leaves-by, leaves-join, recycles-none, stops-other, traces-later}
use Rattle.cache_refills.proofs.paying.mark_and_trace.Goals as goal

pub scan_roots-requires-clause-section : goal.scan_roots-requires-clause-section
scan_roots-requires-clause-section c =
    let v : View = view_of c.args.seat.now in
    subst (λ n. n < c.args.heap.now.shape.sections) (sym (c.unwrap_or-section.ensures ∙ ap (λ (s : SeatState). own_section s) c.state.ensures))
    (subst (λ (sh : Shape). own_section v.state < sh.sections) c.requires.seat.0.1 (section-below v c.args.seat.now.possible c.requires.seat.1.section))

pub returns-in-NoPacket-clause-pays : goal.returns-in-NoPacket-clause-pays
returns-in-NoPacket-clause-pays c =
    let u : View = view_of c.args.seat.now in
    let v : View = view_of c.scan_roots.new.seat in
    let e = c.in-NoPacket.ensures in
    subst (λ s. MarksAndTraces (own_section u.state) c.args.owed.objects c.args.owed.looks (record { quota = c.args.owed.objects; done = 0; stopped = s }) u v) (sym c.stopped_at.ensures)
    (marks-none (own_section u.state) c.args.owed.objects c.args.owed.looks u v e.traced e.unpopped e.unread e.uncleaned e.scans.0 e.scans.1)

-- some section there is: the seat's own
some-section : (sh : Shape) (v : View) → v.shape ≡ sh → own_section v.state < v.shape.sections → 0 < sh.sections
some-section sh v e own = let sections = ap (λ (s : Shape). s.sections) e in omega (arith, own, sections)

pub section_at-other-requires : goal.section_at-other-requires
section_at-other-requires c =
    let v : View = view_of c.args.seat.now in
    let sections = ap (λ (s : Shape). s.sections) c.shape.ensures in
    let some = some-section c.args.heap.now.shape v c.requires.seat.0.1 (section-below v c.args.seat.now.possible c.requires.seat.1.section) in
    omega (arith, some, sections)

pub scan_roots-requires-in-Done-clause-section : goal.scan_roots-requires-in-Done-clause-section
scan_roots-requires-in-Done-clause-section c =
    let v : View = view_of c.args.seat.now in
    let some = some-section c.args.heap.now.shape v c.requires.seat.0.1 (section-below v c.args.seat.now.possible c.requires.seat.1.section) in
    subst (λ n. n < c.args.heap.now.shape.sections) (sym (c.section_at-other.ensures ∙ ap (λ (s : Shape). c.args.owed.turn % s.sections) c.shape.ensures)) (mod-lt c.args.owed.turn some)

pub returns-in-Done-clause-pays : goal.returns-in-Done-clause-pays
returns-in-Done-clause-pays c =
    let u : View = view_of c.args.seat.now in
    let v : View = view_of c.scan_roots.new.seat in
    let y : View = view_of c.scan_roots-in-Done.new.seat in
    let x : View = view_of c.pass_early.new.seat in
    let w : View = view_of c.pay_quota.new.seat in
    let e = c.in-Done.ensures in
    let o = c.scan_roots-in-Done.ensures in
    let quota = c.args.owed.objects in
    let looks = c.args.owed.looks in
    let own = subst (λ n. roots_scanned n (events u v) ≡ true) (c.unwrap_or-section.ensures ∙ ap (λ (s : SeatState). own_section s) c.state.ensures) e.scans in
    marks-traces (own_section u.state) quota looks c.pay_quota.result u y w (has-traced u v y e.traced o.traced)
    (never-run pops u v y e.traced.ran o.traced.ran e.unpopped o.unpopped)
    (never-run reads_pace u v y e.traced.ran o.traced.ran e.unread o.unread)
    (never-run draws_or_clears u v y e.traced.ran o.traced.ran e.uncleaned o.uncleaned)
    (ap (roots_scanned (own_section u.state)) (ran-events u v y e.traced.ran o.traced.ran) ∙ roots-left (own_section u.state) (events u v) (events v y) own)
    (traces-within quota 0 (0 + looks) looks c.pay_quota.result y w (omega arith) (none-traces quota 0 0 looks c.pay_quota.result y x w c.pass_early.ensures.none c.pay_quota.ensures.traces))

pub returns-in-NoPacket-clause-few : goal.returns-in-NoPacket-clause-few
returns-in-NoPacket-clause-few c = let few = c.in-NoPacket.ensures.few in omega (arith, few)

pub returns-in-NoPacket-clause-other : goal.returns-in-NoPacket-clause-other
returns-in-NoPacket-clause-other c =
    let u : View = view_of c.args.seat.now in
    let e = c.in-NoPacket.ensures in
    or_right (roots_scanned (c.args.owed.turn % c.args.heap.now.shape.sections) (events u (view_of c.scan_roots.new.seat))) _
    (this-moment u.shape (finds_no_packet u.shape) (events u (view_of c.scan_roots.new.seat)) (begins u) e.scans.0)

pub returns-in-Done-clause-other : goal.returns-in-Done-clause-other
returns-in-Done-clause-other c =
    let u : View = view_of c.args.seat.now in
    let v : View = view_of c.scan_roots.new.seat in
    let y : View = view_of c.scan_roots-in-Done.new.seat in
    let x : View = view_of c.pass_early.new.seat in
    let w : View = view_of c.pay_quota.new.seat in
    let e = c.in-Done.ensures in
    let o = c.scan_roots-in-Done.ensures in
    let later = ran-join y x w c.pass_early.ensures.none.traced.ran c.pay_quota.ensures.traces.traced.ran in
    let seen = subst (λ n. SeesToRoots n v y) (c.section_at-other.ensures ∙ ap (λ (s : Shape). c.args.owed.turn % s.sections) c.shape.ensures) (roots-scanned c.section_at-other.result c.scan_roots-in-Done.result v y o.scans) in
    roots-earlier _ u y w (ran-join u v y e.traced.ran o.traced.ran) later (roots-later _ u v y e.traced.ran o.traced.ran seen)

pub returns-in-Done-clause-few : goal.returns-in-Done-clause-few
returns-in-Done-clause-few c =
    let sh : Shape = c.args.heap.now.shape in
    let e = c.in-Done.ensures in
    let u : View = view_of c.args.seat.now in
    let v : View = view_of c.scan_roots.new.seat in
    let y : View = view_of c.scan_roots-in-Done.new.seat in
    let x : View = view_of c.pass_early.new.seat in
    let w : View = view_of c.pay_quota.new.seat in
    let o = c.scan_roots-in-Done.ensures in
    let p = c.pass_early.ensures in
    let q = c.pay_quota.ensures in
    let quota = quota_steps c.pay_quota.result.done c.args.owed.looks sh in
    let paid = ran-join y x w p.none.traced.ran q.traces.traced.ran in
    let last = few-join (early_steps sh) quota y x w p.none.traced.ran q.traces.traced.ran p.few q.few in
    let most = few-join (section_steps sh) (early_steps sh + quota) v y w o.traced.ran paid o.few last in
    let all = few-join (section_steps sh) (section_steps sh + (early_steps sh + quota)) u v w e.traced.ran (ran-join v y w o.traced.ran paid) e.few most in
    omega (arith, all)

pub returns-in-NoPacket-clause-passes : goal.returns-in-NoPacket-clause-passes
returns-in-NoPacket-clause-passes c =
    let u : View = view_of c.args.seat.now in
    let e = c.in-NoPacket.ensures in
    inl (e.unlooked, this-moment u.shape (finds_no_packet u.shape) (events u (view_of c.scan_roots.new.seat)) (begins u) e.scans.0)

pub returns-in-Done-clause-passes : goal.returns-in-Done-clause-passes
returns-in-Done-clause-passes c =
    let u : View = view_of c.args.seat.now in
    let v : View = view_of c.scan_roots.new.seat in
    let y : View = view_of c.scan_roots-in-Done.new.seat in
    let x : View = view_of c.pass_early.new.seat in
    let w : View = view_of c.pay_quota.new.seat in
    let e = c.in-Done.ensures in
    let o = c.scan_roots-in-Done.ensures in
    let p = c.pass_early.ensures in
    let q = c.pay_quota.ensures in
    let before = ran-join u v y e.traced.ran o.traced.ran in
    inr
    (record {
      first = events u y;
      passing = events y x;
      rest = events x w;
      events_are = ran-events u y w before (ran-join y x w p.none.traced.ran q.traces.traced.ran) ∙ ap (λ es. events u y ++ es) (ran-events y x w p.none.traced.ran q.traces.traced.ran);
      unlooked = never-run looks_at_card u v y e.traced.ran o.traced.ran e.unlooked o.unlooked;
      passes = p.passes;
      late = q.late;
    })

pub returns-in-NoPacket-clause-recycles : goal.returns-in-NoPacket-clause-recycles
returns-in-NoPacket-clause-recycles c =
    let v : View = view_of c.scan_roots.new.seat in
    let e = c.in-NoPacket.ensures in
    record {
      traced = v;
      traces = apart-none (view_of c.args.seat.now) v (leaves-by (view_of c.args.seat.now) v e.traced.ran e.unpopped e.undeferred e.uncounted);
      ran = ran-refl v;
      recycles = recycles-none c.stopped_at.result c.args.heap.now.shape v (λ (k : c.stopped_at.result ≡ NoWork). stops-other c.args.owed.objects (sym c.stopped_at.ensures ∙ k));
    }

pub returns-in-Done-clause-recycles : goal.returns-in-Done-clause-recycles
returns-in-Done-clause-recycles c =
    let sh : Shape = c.args.heap.now.shape in
    let u : View = view_of c.args.seat.now in
    let v : View = view_of c.scan_roots.new.seat in
    let y : View = view_of c.scan_roots-in-Done.new.seat in
    let x : View = view_of c.pass_early.new.seat in
    let w : View = view_of c.pay_quota.new.seat in
    let e = c.in-Done.ensures in
    let o = c.scan_roots-in-Done.ensures in
    let q = c.pay_quota.ensures in
    let stopped = c.pay_quota.result.stopped in
    traces-later sh stopped u y w
    (leaves-join u v y (leaves-by u v e.traced.ran e.unpopped e.undeferred e.uncounted) (leaves-by v y o.traced.ran o.unpopped o.undeferred o.uncounted))
    (traces-later sh stopped y x w c.pass_early.ensures.leaves q.recycles)
