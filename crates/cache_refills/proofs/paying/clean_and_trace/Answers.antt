use Rattle.std.proofs.Common.{ℕ, ◌≡◌, ◌≤◌, ◌+◌, ◌-◌, arith, length, subst}
use Rattle.gc_table.specs.Log.{events}
use Rattle.gc_table.specs.Seats.{view_of}
use Rattle.gc_table.specs.declared.view.View.{View}
use Rattle.gc_table.proofs.Running.{ran-join}
use Rattle.mark_core.specs.declared.kinds.Shape.{Shape}
use Rattle.tracer.specs.StepBounds.{trace_steps}
use Rattle.card_clean.specs.StepBounds.{clean_next_steps}
use Rattle.gc_cycle.proofs.Few.{few-join}
use Rattle.packet_pools.specs.Counts.{count_of}
use Rattle.gc_cycle.specs.Sorts.{draws}
use Rattle.cache_refills.specs.Pace.Deferring.{LeavesDeferred}
use Rattle.cache_refills.specs.Pace.Payment.{TracesNone}
use Rattle.card_clean.proofs.Few.{looks-fewer}
use Rattle.cache_refills.proofs.Refills.Apart.{apart-earlier, apart-none, apart-one, leaves-drawn}
use Rattle.cache_refills.proofs.Refills.Early.{looks-join, unlooked-few}
use Rattle.cache_refills.proofs.Refills.Payment.{none-traces, traces-on, traces-within}
use Rattle.cache_refills.proofs.paying.clean_and_trace.Goals as goal
use Rattle.cache_refills.proofs.paying.clean_and_trace.Goals.{After-clean_next}

-- what was done with cards: nothing was traced, and no packet taken out of the deferred pool
none : (n : ℕ) (c : After-clean_next) → count_of draws (events (view_of c.args.seat.now) (view_of c.clean_next.new.seat)) ≤ n → TracesNone n (view_of c.args.seat.now) (view_of c.clean_next.new.seat)
none n c few = let e = c.clean_next.ensures in record { traced = e.traced; looked = few; unpopped = e.unpopped; unread = e.unread; unrooted = e.unrooted }

leaves : (c : After-clean_next) → LeavesDeferred (view_of c.args.seat.now) (view_of c.clean_next.new.seat)
leaves c =
    let e = c.clean_next.ensures in
    leaves-drawn c.args.heap.now.shape (view_of c.args.seat.now) (view_of c.clean_next.new.seat) c.requires.seat.0.1 e.traced.ran e.unpopped e.undeferred e.counted

pub returns-in_default-clause-none : goal.returns-in_default-clause-none
returns-in_default-clause-none c = none c.args.looks (goal.at.returns-in_default-clause-none c).After-clean_next c.in_default.ensures.looked.1

pub returns-in_default-clause-late : goal.returns-in_default-clause-late
returns-in_default-clause-late c =
    let e = c.in_default.ensures in
    let late = e.late in
    let few = e.looked.1 in
    (tt, omega (arith, late, few))

pub returns-in_default-clause-apart : goal.returns-in_default-clause-apart
returns-in_default-clause-apart c = apart-none (view_of c.args.seat.now) (view_of c.clean_next.new.seat) (leaves (goal.at.returns-in_default-clause-apart c).After-clean_next)

pub returns-in_default-clause-few : goal.returns-in_default-clause-few
returns-in_default-clause-few c = (tt, looks-fewer c.args.looks c.args.heap.now.shape _ c.in_default.ensures.few.1)

pub returns-clause-some : goal.returns-clause-some
returns-clause-some c =
    let v : View = view_of c.args.seat.now in
    let w : View = view_of c.clean_next.new.seat in
    let x : View = view_of c.trace-more.new.seat in
    let e = c.in-Some.ensures in
    let t = c.trace-more.ensures in
    let b = c.args.before in
    let n : ℕ = c.args.looks - c.in-Some.left in
    let low = c.requires.quota in
    let drawn = e.looked.0 in
    let left = e.few.0.0 in (
      left,
      traces-within b.quota b.done (n + 0) n _ v x (omega arith)
          (none-traces b.quota b.done n 0 (record { quota = b.quota; done = b.done + c.trace-more.result.done; stopped = c.trace-more.result.stopped }) v w x (none n (goal.at.returns-clause-some c).After-clean_next (omega (arith, drawn, left)))
          (traces-on b.quota (b.quota - b.done) b.done c.trace-more.result w x t.traced t.ends t.most (omega (arith, low)) t.unread t.unrooted t.uncleaned)),
    )

pub returns-clause-ran : goal.returns-clause-ran
returns-clause-ran c = ran-join (view_of c.args.seat.now) (view_of c.clean_next.new.seat) (view_of c.trace-more.new.seat) c.in-Some.ensures.traced.ran c.trace-more.ensures.traced.ran

pub returns-clause-late : goal.returns-clause-late
returns-clause-late c =
    let v : View = view_of c.args.seat.now in
    let w : View = view_of c.clean_next.new.seat in
    let x : View = view_of c.trace-more.new.seat in
    let e = c.in-Some.ensures in
    let t = c.trace-more.ensures in
    let n : ℕ = c.args.looks - c.in-Some.left in
    let drawn = e.looked.0 in
    let left = e.few.0.0 in
    let late = e.late in
    let all = looks-join n 0 v w x e.traced.ran t.traced.ran (omega (arith, late, drawn, left)) (unlooked-few (events w x) t.unlooked) in
    (omega (arith, all, left), tt)

pub returns-clause-apart : goal.returns-clause-apart
returns-clause-apart c =
    let w : View = view_of c.clean_next.new.seat in
    let x : View = view_of c.trace-more.new.seat in
    let t = c.trace-more.ensures in
    apart-earlier (view_of c.args.seat.now) w x (leaves (goal.at.returns-clause-apart c).After-clean_next) (apart-one w x t.traced.ran t.deferral t.uncounted)

pub returns-clause-few : goal.returns-clause-few
returns-clause-few c =
    let sh : Shape = c.args.heap.now.shape in
    let v : View = view_of c.args.seat.now in
    let w : View = view_of c.clean_next.new.seat in
    let x : View = view_of c.trace-more.new.seat in
    let e = c.in-Some.ensures in
    let t = c.trace-more.ensures in
    let n : ℕ = c.args.looks - c.in-Some.left in
    let done : ℕ = c.trace-more.result.done in
    let same : done ≡ c.args.before.done + done - c.args.before.done = omega arith in
    let all = few-join (clean_next_steps n sh) (trace_steps done sh) v w x e.traced.ran t.traced.ran e.few.0.1 t.few in
    ((omega arith, subst (λ k. length (events v x) ≤ clean_next_steps n sh + trace_steps k sh) same all), tt)
