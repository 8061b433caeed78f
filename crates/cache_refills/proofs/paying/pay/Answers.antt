use Rattle.std.proofs.Common.{ℕ, ◌+◌, ◌*◌, arith, refl, false}
use Rattle.gc_table.specs.Seats.{view_of}
use Rattle.gc_table.proofs.Running.{own-kept}
use Rattle.cache_refills.specs.Pace.Payment.{pays_cells}
use Rattle.cache_refills.proofs.Refills.PaidFor.{paid-of, pays-kept}
use Rattle.mark_core.specs.declared.kinds.Shape.{Shape}
use Rattle.gc_table.specs.declared.view.View.{View}
use Rattle.mark_core.specs.declared.kinds.Step.TheVariants.{AddStat}
use Rattle.mark_core.specs.Numbers.{traced_count}
use Rattle.gc_table.proofs.Running.{ran-found, ran-join}
use Rattle.cache_refills.specs.Pace.Pacing.{card_looks}
use Rattle.tracer.specs.StepBounds.{section_steps}
use Rattle.cache_refills.specs.Pace.StepBounds.{early_steps, quota_steps}
use Rattle.gc_cycle.proofs.Few.{few-after, few-join}
use Rattle.cache_refills.proofs.Few.{quota-fewer}
use Rattle.cache_refills.proofs.Refills.Apart.{leaves-read, traces-later}
use Rattle.cache_refills.proofs.Refills.Early.{passes-next, sees-next}
use Rattle.cache_refills.proofs.paying.pay.Goals as goal

pub returns-clause-paid : goal.returns-clause-paid
returns-clause-paid c =
    let q = c.owed_now-owed.ensures in
    paid-of c.args.cells c.owed_now-owed.result.objects c.owed_now-owed.result.looks c.mark_and_trace-paid.result (view_of c.args.seat.now) (view_of c.owed_now-owed.new.seat) (view_of c.mark_and_trace-paid.new.seat) (view_of c.add_stat.new.seat) c.requires.seat.1 q.ran q.only q.state q.owed q.looks q.most c.mark_and_trace-paid.ensures.pays c.add_stat.ensures.view

pub returns-clause-own : goal.returns-clause-own
returns-clause-own c =
    let q = c.owed_now-owed.ensures in
    let p = paid-of c.args.cells c.owed_now-owed.result.objects c.owed_now-owed.result.looks c.mark_and_trace-paid.result (view_of c.args.seat.now) (view_of c.owed_now-owed.new.seat) (view_of c.mark_and_trace-paid.new.seat) (view_of c.add_stat.new.seat) c.requires.seat.1 q.ran q.only q.state q.owed q.looks q.most c.mark_and_trace-paid.ensures.pays c.add_stat.ensures.view in
    own-kept pays_cells pays-kept (view_of c.args.seat.now) (view_of c.add_stat.new.seat) p.ran p.only

pub returns-clause-few : goal.returns-clause-few
returns-clause-few c =
    let sh : Shape = c.args.heap.now.shape in
    let done : ℕ = c.mark_and_trace-paid.result.done in
    let looks : ℕ = c.owed_now-owed.result.looks in
    let u : View = view_of c.args.seat.now in
    let v : View = view_of c.owed_now-owed.new.seat in
    let w : View = view_of c.mark_and_trace-paid.new.seat in
    let x : View = view_of c.add_stat.new.seat in
    let q = c.owed_now-owed.ensures in
    let p = c.mark_and_trace-paid.ensures in
    let t = c.add_stat.ensures.view in
    let told = ran-found w x (AddStat traced_count done false) t.0 refl t.1 in
    let paid = quota-fewer done looks card_looks sh (quota_steps done looks sh) q.fewer (omega arith) in
    let last = few-join (2 * section_steps sh + early_steps sh + quota_steps done looks sh) 1 v w x p.pays.traced.ran told p.few (few-after w x _ _ t.1.0) in
    let all = few-join 4 (2 * section_steps sh + early_steps sh + quota_steps done looks sh + 1) u v x q.ran (ran-join v w x p.pays.traced.ran told) q.few last in
    omega (arith, all, paid)

pub returns-clause-passes : goal.returns-clause-passes
returns-clause-passes c =
    let o = c.owed_now-owed.result in
    let q = c.owed_now-owed.ensures in
    let p = c.mark_and_trace-paid.ensures in
    passes-next c.args.heap.now.shape c.args.cells o.from o.end o.looks c.mark_and_trace-paid.result.done (view_of c.args.seat.now) (view_of c.owed_now-owed.new.seat) (view_of c.mark_and_trace-paid.new.seat) (view_of c.add_stat.new.seat) q.ran q.only p.pays.traced.ran p.pays.unread c.add_stat.ensures.view q.from q.end q.looks p.passes

pub returns-clause-others : goal.returns-clause-others
returns-clause-others c =
    let o = c.owed_now-owed.result in
    let q = c.owed_now-owed.ensures in
    let p = c.mark_and_trace-paid.ensures in
    sees-next c.args.heap.now.shape c.args.cells o.from o.end o.looks c.mark_and_trace-paid.result.done (view_of c.args.seat.now) (view_of c.owed_now-owed.new.seat) (view_of c.mark_and_trace-paid.new.seat) (view_of c.add_stat.new.seat) q.ran q.only p.pays.traced.ran p.pays.unread c.add_stat.ensures.view o.turn q.turn p.other

pub returns-clause-defers : goal.returns-clause-defers
returns-clause-defers c =
    let u : View = view_of c.args.seat.now in
    let v : View = view_of c.owed_now-owed.new.seat in
    let w : View = view_of c.mark_and_trace-paid.new.seat in
    let q = c.owed_now-owed.ensures in
    record {
      recycled = w;
      traces = traces-later c.args.heap.now.shape c.mark_and_trace-paid.result.stopped u v w (leaves-read u v q.ran q.only q.uncounted) c.mark_and_trace-paid.ensures.recycles;
      tells = c.add_stat.ensures.view;
    }
