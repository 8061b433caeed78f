use Rattle.std.proofs.Common.{◌+◌, ◌*◌, arith}
use Rattle.gc_table.specs.Seats.{view_of}
use Rattle.gc_table.specs.declared.view.View.{View}
use Rattle.gc_table.proofs.Running.{ran-refl}
use Rattle.cache_refills.proofs.Refills.Apart.{recycles-none, recycles-work}
use Rattle.cache_refills.proofs.Refills.Payment.{traces-quiet, undrawn-few}
use Rattle.mark_core.specs.declared.kinds.Shape.{Shape}
use Rattle.tracer.specs.StepBounds.{recycle_steps, trace_steps}
use Rattle.card_clean.specs.StepBounds.{next_steps}
use Rattle.cache_refills.specs.Pace.StepBounds.{payment_rounds, round_steps}
use Rattle.gc_cycle.proofs.Few.{few-join}
use Rattle.gc_table.specs.Log.{events}
use Rattle.cache_refills.proofs.Refills.Early.{looks-join, unlooked-few}
use Rattle.cache_refills.proofs.paying.pay_quota.Goals as goal

pub returns-in-NoWork-clause-traces : goal.returns-in-NoWork-clause-traces
returns-in-NoWork-clause-traces c =
    let e = c.recycle_deferred.ensures in
    traces-quiet c.args.quota 0 c.args.looks c.trace_and_clean-paid.result (view_of c.args.seat.now) (view_of c.trace_and_clean-paid.new.seat) (view_of c.recycle_deferred.new.seat) c.trace_and_clean-paid.ensures.traces
    (record { traced = e.traced; looked = undrawn-few _ e.uncleaned; unpopped = e.unpopped; unread = e.unread; unrooted = e.unrooted })

pub returns-in-NoWork-clause-few : goal.returns-in-NoWork-clause-few
returns-in-NoWork-clause-few c =
    let sh : Shape = c.args.heap.now.shape in
    let a = c.trace_and_clean-paid.ensures in
    let e = c.recycle_deferred.ensures in
    few-join (trace_steps c.trace_and_clean-paid.result.done sh + payment_rounds * round_steps sh + c.args.looks * next_steps sh) (recycle_steps sh) (view_of c.args.seat.now) (view_of c.trace_and_clean-paid.new.seat) (view_of c.recycle_deferred.new.seat) a.traces.traced.ran e.traced.ran a.few e.few

pub returns-in-NoWork-clause-late : goal.returns-in-NoWork-clause-late
returns-in-NoWork-clause-late c =
    let v : View = view_of c.trace_and_clean-paid.new.seat in
    let w : View = view_of c.recycle_deferred.new.seat in
    let a = c.trace_and_clean-paid.ensures in
    let e = c.recycle_deferred.ensures in
    let all = looks-join c.args.looks 0 (view_of c.args.seat.now) v w a.traces.traced.ran e.traced.ran a.late (unlooked-few (events v w) e.unlooked) in
    omega (arith, all)

pub returns-in-NoWork-clause-recycles : goal.returns-in-NoWork-clause-recycles
returns-in-NoWork-clause-recycles c =
    let v : View = view_of c.trace_and_clean-paid.new.seat in
    let e = c.recycle_deferred.ensures in
    record {
      traced = v;
      traces = c.trace_and_clean-paid.ensures.apart;
      ran = e.traced.ran;
      recycles = recycles-work c.trace_and_clean-paid.result.stopped c.args.heap.now.shape c.recycle_deferred.result v (view_of c.recycle_deferred.new.seat) c.in-NoWork.is e.recycled;
    }

pub returns-in_default-clause-recycles : goal.returns-in_default-clause-recycles
returns-in_default-clause-recycles c =
    let v : View = view_of c.trace_and_clean-paid.new.seat in
    record {
      traced = v;
      traces = c.trace_and_clean-paid.ensures.apart;
      ran = ran-refl v;
      recycles = recycles-none c.trace_and_clean-paid.result.stopped c.args.heap.now.shape v c.in_default.not-NoWork;
    }
