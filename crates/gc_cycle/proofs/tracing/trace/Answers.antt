use Rattle.std.proofs.Common.{ℕ, ◌≡◌, ◌<◌, ◌⊎◌, arith, sym, ap, ◌∙◌, subst, Bool, true, false, ⊎_elim}
use Rattle.std.proofs.lemmas.Bool.{false≢true, true≢false}
use Rattle.mark_core.specs.Held.{holds_any}
use Rattle.mark_core.specs.declared.kinds.Shape.{Shape}
use Rattle.mark_core.proofs.Marks.MarksIdle.{idle-cleaning}
use Rattle.gc_table.specs.Log.{events}
use Rattle.gc_table.specs.Seats.{view_of}
use Rattle.gc_table.specs.declared.view.View.{View}
use Rattle.tracer.specs.Causes.{FoundNoWork}
use Rattle.tracer.specs.Tally.{Tally, is_trace_step}
use Rattle.tracer.specs.declared.traced.Stopped.{Stopped}
use Rattle.tracer.specs.declared.traced.Stopped.TheVariants.{NoPacket, NoWork, Quota}
use Rattle.tracer.specs.declared.traced.Traced.{Traced}
use Rattle.gc_cycle.specs.Lower.{EndsTrace}
use Rattle.gc_cycle.specs.Sorts.{draws_or_clears, reads_root}
use Rattle.gc_cycle.specs.Standing.{is_at_rest}
use Rattle.gc_cycle.proofs.Ends.NoRescans.{calm, traces-begin_none}
use Rattle.gc_cycle.proofs.Idling.{idle-of, rest-again, rest-parts, traced-of, traces-of}
use Rattle.gc_cycle.proofs.CleaningSpares.{trace-steps, trace-uncleaned, trace-unrooted, uncounted-of, untaken, unread-of}
use Rattle.gc_cycle.specs.CardLooks.{looks_at_card}
use Rattle.gc_cycle.proofs.CardLooks.{trace-unlooked}
use Rattle.gc_cycle.proofs.tracing.trace.Goals as goal

abbrev is_quota : Stopped → Bool
is_quota Quota = true
is_quota step = false

abbrev is_none : Stopped → Bool
is_none NoPacket = true
is_none step = false

-- a trace ends at its quota, or when there is nothing to read from
ends : (quota : ℕ) (r : Traced) (v w : View) → ((r.stopped ≡ Quota) × (r.done ≡ quota)) ⊎ ((r.stopped ≡ NoWork) × (r.done < quota) × FoundNoWork v w) → Tally r.done r.deferred r.overflowed v w → EndsTrace quota r v w
ends quota r v w s t =
    ⊎_elim
    (λ (q : (r.stopped ≡ Quota) × (r.done ≡ quota)).
    record {
      done = t.done;
      all = (λ h. q.1, λ h. q.0);
      no_work = λ h. absurd (true≢false (sym (ap is_quota q.0) ∙ ap is_quota h));
      packet = λ h. absurd (true≢false (sym (ap is_quota q.0) ∙ ap is_quota h));
    })
    (λ (n : (r.stopped ≡ NoWork) × (r.done < quota) × FoundNoWork v w).
    record {
      done = t.done;
      all = (λ h. absurd (false≢true (sym (ap is_quota n.0) ∙ ap is_quota h)), λ h. let low = n.1 in absurd (omega (arith, low, h)));
      no_work = λ h. n.2;
      packet = λ h. absurd (false≢true (sym (ap is_none n.0) ∙ ap is_none h));
    })
    s

pub trace-requires-clause-seat : goal.trace-requires-clause-seat
trace-requires-clause-seat c = (c.requires.seat.0, traces-of c.args.heap.now.shape (view_of c.args.seat.now) c.requires.seat.1 c.requires.rest)

pub trace-requires-clause-idle : goal.trace-requires-clause-idle
trace-requires-clause-idle c =
    let v : View = view_of c.args.seat.now in
    idle-of v c.args.seat.now.possible (subst (λ (sh : Shape). is_at_rest sh v.state ≡ true) (sym c.requires.seat.0.1) c.requires.rest)

pub returns-clause-traced : goal.returns-clause-traced
returns-clause-traced c =
    let v : View = view_of c.args.seat.now in
    let w : View = view_of c.trace.new.seat in
    let e = c.trace.ensures in
    let before : is_at_rest v.shape v.state ≡ true = subst (λ (sh : Shape). is_at_rest sh v.state ≡ true) (sym c.requires.seat.0.1) c.requires.rest in
    traced-of v w e.only (rest-again v w e.only e.seat.1 (ap holds_any e.idle.held) e.idle.work before)

pub returns-clause-ends : goal.returns-clause-ends
returns-clause-ends c = ends c.args.quota c.trace.result (view_of c.args.seat.now) (view_of c.trace.new.seat) c.trace.ensures.stopped c.trace.ensures.tally

pub returns-clause-rescanned : goal.returns-clause-rescanned
returns-clause-rescanned c =
    let v : View = view_of c.args.seat.now in
    let es = events v (view_of c.trace.new.seat) in
    calm es v (traces-begin_none es (sym (trace-steps es) ∙ c.trace.ensures.tally.steps)) (idle-cleaning c.args.heap.now.shape.fields v.state (rest-parts c.args.heap.now.shape v.state c.requires.rest).work)

pub returns-clause-uncleaned : goal.returns-clause-uncleaned
returns-clause-uncleaned c =
    let es = events (view_of c.args.seat.now) (view_of c.trace.new.seat) in
    untaken is_trace_step draws_or_clears trace-uncleaned es (sym (trace-steps es) ∙ c.trace.ensures.tally.steps)

pub returns-clause-unrooted : goal.returns-clause-unrooted
returns-clause-unrooted c =
    let es = events (view_of c.args.seat.now) (view_of c.trace.new.seat) in
    untaken is_trace_step reads_root trace-unrooted es (sym (trace-steps es) ∙ c.trace.ensures.tally.steps)

pub returns-clause-most : goal.returns-clause-most
returns-clause-most c = ⊎_elim (λ a. let k = a.1 in omega (arith, k)) (λ b. let k = b.1 in omega (arith, k)) c.trace.ensures.stopped

pub returns-clause-unread : goal.returns-clause-unread
returns-clause-unread c = unread-of (view_of c.args.seat.now) (view_of c.trace.new.seat) c.trace.ensures.only

pub returns-clause-unlooked : goal.returns-clause-unlooked
returns-clause-unlooked c =
    let es = events (view_of c.args.seat.now) (view_of c.trace.new.seat) in
    untaken is_trace_step looks_at_card trace-unlooked es (sym (trace-steps es) ∙ c.trace.ensures.tally.steps)

pub returns-clause-uncounted : goal.returns-clause-uncounted
returns-clause-uncounted c = uncounted-of (view_of c.args.seat.now) (view_of c.trace.new.seat) c.trace.ensures.only
