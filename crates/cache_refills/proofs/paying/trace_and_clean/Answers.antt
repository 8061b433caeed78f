use Rattle.std.proofs.Common.{ℕ, ◌+◌, ◌-◌, arith, ap, ◌∙◌, subst, zero-add}
use Rattle.mark_core.specs.declared.seat.SeatState.{SeatState}
use Rattle.gc_table.specs.Log.{events}
use Rattle.gc_table.specs.Seats.{view_of}
use Rattle.gc_table.specs.declared.view.View.{View}
use Rattle.cache_refills.specs.Pace.Payment.{TracesOn}
use Rattle.cache_refills.specs.Pace.StepBounds.{payment_rounds}
use Rattle.cache_refills.proofs.Few.{round-last, round-more, rounds-fewer}
use Rattle.cache_refills.proofs.Refills.Apart.{apart-join, apart-one}
use Rattle.cache_refills.proofs.Refills.Early.{looks-join, unlooked-few}
use Rattle.cache_refills.proofs.Refills.Payment.{mutates-on, traces-join, traces-none, traces-on, traces-within}
use Rattle.cache_refills.proofs.paying.trace_and_clean.Goals as goal

pub loop-round-init : goal.loop-round-init
loop-round-init c =
    let v : View = view_of c.args.seat.now in
    let w : View = view_of c.trace-first.new.seat in
    let t = c.trace-first.ensures in
    record {
      sits = t.seat;
      left = omega arith;
      traces =
          traces-within c.args.quota 0 0 (c.args.looks - c.args.looks) (record { quota = c.args.quota; done = c.trace-first.result.done; stopped = c.trace-first.result.stopped }) v w (omega arith)
          (subst (λ n. TracesOn c.args.quota 0 0 (record { quota = c.args.quota; done = n; stopped = c.trace-first.result.stopped }) v w) (zero-add c.trace-first.result.done)
          (traces-on c.args.quota c.args.quota 0 c.trace-first.result v w t.traced t.ends t.most (zero-add c.args.quota) t.unread t.unrooted t.uncleaned));
      apart = apart-one v w t.traced.ran t.deferral t.uncounted;
      late = let none = unlooked-few (events v w) t.unlooked in omega (arith, none);
      few = let few = t.few in omega (arith, few);
    }

pub returns-in_default : goal.returns-in_default
returns-in_default c =
    let i = c.loop-round.invariant in
    let t = c.loop-round-test.true in
    record {
      seat = i.sits;
      traces = traces-within c.args.quota 0 (c.args.looks - c.loop-round.left) c.args.looks c.loop-round.paid (view_of c.args.seat.now) (view_of c.loop-round.seat) (omega arith) i.traces;
      apart = i.apart;
      late = let late = i.late in omega (arith, late);
      few = rounds-fewer c.loop-round.paid.done c.loop-round._round payment_rounds (c.args.looks - c.loop-round.left) c.args.looks c.args.heap.now.shape _ (omega (arith, t)) (omega arith) i.few;
    }

pub clean_and_trace-requires-clause-seat : goal.clean_and_trace-requires-clause-seat
clean_and_trace-requires-clause-seat c = let i = c.loop-round.invariant in (i.sits, mutates-on (view_of c.args.seat.now) (view_of c.loop-round.seat) i.traces.traced c.requires.seat.1)

pub clean_and_trace-requires-clause-marking : goal.clean_and_trace-requires-clause-marking
clean_and_trace-requires-clause-marking c = ap (λ (s : SeatState). s.phase_seen) c.loop-round.invariant.traces.traced.record_is ∙ c.requires.marking

pub clean_and_trace-requires-clause-quota : goal.clean_and_trace-requires-clause-quota
clean_and_trace-requires-clause-quota c =
    let t = c.loop-round.invariant.traces in
    let q = t.quota_is in
    let m = t.most in
    omega (arith, q, m)

pub returns-in_default-clean_and_trace-clause-traces : goal.returns-in_default-clean_and_trace-clause-traces
returns-in_default-clean_and_trace-clause-traces c =
    let u : View = view_of c.args.seat.now in
    let w : View = view_of c.clean_and_trace.new.seat in
    let i = c.loop-round.invariant in
    let left = i.left in
    traces-within c.args.quota 0 (c.args.looks - c.loop-round.left + c.loop-round.left) c.args.looks c.loop-round.paid u w (omega (arith, left))
    (traces-none c.args.quota 0 (c.args.looks - c.loop-round.left) c.loop-round.left c.loop-round.paid u (view_of c.loop-round.seat) w i.traces c.in_default-clean_and_trace.ensures.none)

pub returns-in_default-clean_and_trace-clause-late : goal.returns-in_default-clean_and_trace-clause-late
returns-in_default-clean_and_trace-clause-late c =
    let i = c.loop-round.invariant in
    let e = c.in_default-clean_and_trace.ensures in
    let before = i.late in
    let left = i.left in
    let all = looks-join (c.args.looks - c.loop-round.left) c.loop-round.left (view_of c.args.seat.now) (view_of c.loop-round.seat) (view_of c.clean_and_trace.new.seat) i.traces.traced.ran e.ran (omega (arith, before, left)) e.late.1 in
    omega (arith, all, left)

pub returns-in_default-clean_and_trace-clause-apart : goal.returns-in_default-clean_and_trace-clause-apart
returns-in_default-clean_and_trace-clause-apart c = apart-join (view_of c.args.seat.now) (view_of c.loop-round.seat) (view_of c.clean_and_trace.new.seat) c.loop-round.invariant.apart c.in_default-clean_and_trace.ensures.apart

pub returns-in_default-clean_and_trace-clause-few : goal.returns-in_default-clean_and_trace-clause-few
returns-in_default-clean_and_trace-clause-few c =
    let i = c.loop-round.invariant in
    let e = c.in_default-clean_and_trace.ensures in
    let t = c.loop-round-test.true in
    rounds-fewer c.loop-round.paid.done (c.loop-round._round + 1) payment_rounds c.args.looks c.args.looks c.args.heap.now.shape _ (omega (arith, t)) (omega arith)
    (round-last c.loop-round.paid.done c.loop-round._round c.args.looks c.loop-round.left c.args.heap.now.shape (view_of c.args.seat.now) (view_of c.loop-round.seat) (view_of c.clean_and_trace.new.seat) i.traces.traced.ran e.ran i.left i.few e.few.1)

pub loop-round-preserved : goal.loop-round-preserved
loop-round-preserved c =
    let u : View = view_of c.args.seat.now in
    let v : View = view_of c.loop-round.seat in
    let w : View = view_of c.clean_and_trace.new.seat in
    let i = c.loop-round.invariant in
    let e = c.in-Some.ensures in
    let q = i.traces.quota_is in
    let left = i.left in
    let rest = e.some.0 in
    let before = i.late in
    let after = e.late.0 in
    let a : ℕ = c.args.looks - c.loop-round.left in
    let b : ℕ = c.loop-round.left - c.in-Some.rest in
    let all = looks-join a b u v w i.traces.traced.ran e.ran (omega (arith, before, left)) (omega (arith, after, rest)) in
    record {
      sits = e.seat;
      left = omega (arith, left, rest);
      traces =
          traces-within c.args.quota 0 (a + b) (c.args.looks - c.in-Some.rest) c.in-Some.more u w (omega (arith, left, rest))
          (traces-join c.args.quota 0 a b c.loop-round.paid c.in-Some.more u v w i.traces (subst (λ n. TracesOn n c.loop-round.paid.done b c.in-Some.more v w) q e.some.1));
      apart = apart-join u v w i.apart e.apart;
      late = omega (arith, all, left, rest);
      few =
          round-more c.loop-round.paid.done c.in-Some.more.done c.loop-round._round c.args.looks c.loop-round.left c.in-Some.rest c.args.heap.now.shape u v w i.traces.traced.ran e.ran e.few.0.0 left rest i.few e.few.0.1;
    }

pub returns-clause-seat : goal.returns-clause-seat
returns-clause-seat c = c.loop-round.invariant.sits

pub returns-clause-traces : goal.returns-clause-traces
returns-clause-traces c =
    traces-within c.args.quota 0 (c.args.looks - c.loop-round.left) c.args.looks c.loop-round.paid (view_of c.args.seat.now) (view_of c.loop-round.seat) (omega arith) c.loop-round.invariant.traces

pub returns-clause-few : goal.returns-clause-few
returns-clause-few c =
    let end = c.loop-round.auto in
    rounds-fewer c.loop-round.paid.done c.loop-round._round payment_rounds (c.args.looks - c.loop-round.left) c.args.looks c.args.heap.now.shape _ (omega (arith, end)) (omega arith) c.loop-round.invariant.few

pub returns-clause-late : goal.returns-clause-late
returns-clause-late c = let late = c.loop-round.invariant.late in omega (arith, late)

pub returns-clause-apart : goal.returns-clause-apart
returns-clause-apart c = c.loop-round.invariant.apart
