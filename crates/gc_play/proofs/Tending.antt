-- What a tracer did inside, by what a marking tells.
use Rattle.std.proofs.Common.{ℕ, ◌≡◌, ◌<◌, ◌≤◌, ⊎_elim, List, [], ◌∷◌, ◌++◌, refl, sym, ap, ◌∙◌, subst, arith, Bool, true, false, not, cond, eq-eqb}
use Rattle.std.specs.Prelude.{◌==◌}
use Rattle.std.proofs.lemmas.List.{append-nil}
use Rattle.std.proofs.lemmas.Bool.{true≢false, and_parts, and_from, lt-ltb, or_left, or_right, ne_eqb}
use Rattle.mark_core.specs.Numbers.{traced_count}
use Rattle.mark_core.specs.Steps.WorldSteps.{has_nothing}
use Rattle.mark_core.specs.declared.kinds.Shape.{Shape}
use Rattle.mark_core.specs.declared.kinds.Step.{Step}
use Rattle.mark_core.specs.declared.kinds.Step.TheVariants.{AddStat, EnterStep, LeaveStep, ReadPhase, ReadStat, Reset, StorePhase}
use Rattle.mark_core.specs.declared.seat.SeatState.{SeatState}
use Rattle.gc_table.specs.Log.{all_steps, events}
use Rattle.gc_table.specs.Seats.{view_of}
use Rattle.gc_table.specs.declared.seat.Heap.{Heap}
use Rattle.gc_table.specs.declared.seat.HeapSeat.{HeapSeat}
use Rattle.gc_table.specs.declared.view.Entry.{Entry}
use Rattle.gc_table.specs.declared.view.View.{View}
use Rattle.gc_table.proofs.Running.{ran-events, ran-number, ran-plan, ran-section, ran-shape}
use Rattle.gc_table.specs.Entries.{event}
use Rattle.packet_pools.specs.Counts.{count_of}
use Rattle.packet_pools.specs.Seeking.{some_event}
use Rattle.packet_pools.proofs.Counting.{count-join}
use Rattle.tracer.specs.Causes.{FoundNoWork}
use Rattle.tracer.specs.Tally.{pops}
use Rattle.gc_cycle.specs.Sorts.{enters, looks_at_phase, tries_marking}
use Rattle.gc_cycle.specs.Statistics.{changing_step, numbers_changed, tells}
use Rattle.gc_cycle.proofs.Sequences.{none-of-steps, some-none}
use Rattle.seat_turns.specs.TracerStanding.{GoesMarking}
use Rattle.seat_turns.specs.Tending.{MarksAndRecycles, Tends, tends_inside, turn_quota}
use Rattle.gc_play.specs.Stays.{SeatStays}
use Rattle.gc_play.specs.Turns.{TracesInside, WaitsOutside, until_leave, is_leave, leaves_done, payment, seat_traces_on}
use Rattle.gc_play.proofs.Rounds.{traces-more}
use Rattle.gc_play.proofs.TurnCuts.{quiet-one, quiet-only, waits-join}

-- a seat that marked is the same
pub marked-stays : (n : ℕ) (h : Heap) (x y : HeapSeat) → GoesMarking h x → GoesMarking h y → Tends n (view_of x) (view_of y) → SeatStays (view_of x) (view_of y)
marked-stays n h x y a b t =
    let v : View = view_of x in
    let w : View = view_of y in
    record {
      shape = ran-shape v w t.ran;
      number = ran-number v w t.ran;
      section = ran-section v w t.ran;
      plan_is = ran-plan v w t.ran;
      own = t.own;
      idle = ap (λ (sh : Shape). has_nothing sh w.state) b.goes.sits.1 ∙ (b.goes.idle ∙ (sym a.goes.idle ∙ ap (λ (sh : Shape). has_nothing sh v.state) (sym a.goes.sits.1)));
      ran = t.ran;
    }

-- a marking popped as many cells as a turn traces, or fewer, and then nothing was left in hand and there was no packet to read from
pub marked-on : (sh : Shape) (n : ℕ) (v w : View) → v.shape ≡ sh → MarksAndRecycles n v w → seat_traces_on sh v.state (events v w) ≡ true
marked-on sh n v w e m =
    let u : View = m.between in
    let t = m.traces.tends in
    let some : n ≡ turn_quota → seat_traces_on sh v.state (events v u) ≡ true =
    λ q. or_left (count_of pops (events v u) == turn_quota) _ (eq-eqb (count_of pops (events v u)) turn_quota (t.done ∙ q)) in
    let none : (n < turn_quota) × FoundNoWork v u → seat_traces_on sh v.state (events v u) ≡ true =
    λ q. subst (λ (z : Shape). seat_traces_on z v.state (events v u) ≡ true) e
    (or_right (count_of pops (events v u) == turn_quota) _ (and_from _ _ (lt-ltb (count_of pops (events v u)) turn_quota (let d = t.done in let low = q.0 in omega (arith, d, low))) q.1)) in
    subst (λ l. seat_traces_on sh v.state l ≡ true) (sym (ran-events v u w t.ran m.tends.ran)) (traces-more sh v.state (events v u) (events u w) m.tends.done (⊎_elim some none m.traces.ends))

-- what such a step doesn't do
tend-leaves : (step : Step) → tends_inside step ≡ true → is_leave step ≡ false
tend-leaves LeaveStep e = sym e
tend-leaves step e = refl

tend-done : (step : Step) → tends_inside step ≡ true → leaves_done step ≡ true
tend-done (ReadStat which) e = e
tend-done step e = refl

tend-changes : (step : Step) (n : ℕ) → tends_inside step ≡ true → changing_step step n ≡ []
tend-changes (AddStat which by down) n e = absurd (true≢false (sym e))
tend-changes (Reset which) n e = absurd (true≢false (sym e))
tend-changes step n e = refl

tend-untried : (step : Step) (n : ℕ) → tends_inside step ≡ true → tries_marking step n ≡ false
tend-untried (StorePhase to) n e = absurd (true≢false (sym e))
tend-untried step n e = refl

tend-looks : (step : Step) (n : ℕ) → tends_inside step ≡ true → looks_at_phase step n ≡ false
tend-looks ReadPhase n e = sym e
tend-looks step n e = refl

tend-enters : (step : Step) (n : ℕ) → tends_inside step ≡ true → enters step n ≡ false
tend-enters EnterStep n e = sym e
tend-enters step n e = refl

-- the seat doesn't leave before what comes after such steps
tend-inside : (es fs : List Entry) → all_steps tends_inside es ≡ true → until_leave fs ≡ fs → until_leave (es ++ fs) ≡ es ++ fs
tend-inside [] fs o f = f
tend-inside (e ∷ es) fs o f =
    let p = and_parts (tends_inside e.step) (all_steps tends_inside es) o in
    ap (λ (b : Bool). cond b [] (e ∷ until_leave (es ++ fs))) (tend-leaves e.step p.0) ∙ ap (λ l. e ∷ l) (tend-inside es fs p.1 f)

-- no number is changed before what comes after such steps
none-changed : (es fs : List Entry) → all_steps tends_inside es ≡ true → numbers_changed (es ++ fs) ≡ numbers_changed fs
none-changed [] fs o = refl
none-changed (e ∷ es) fs o =
    let p = and_parts (tends_inside e.step) (all_steps tends_inside es) o in
    ap (λ l. l ++ numbers_changed (es ++ fs)) (tend-changes e.step e.found p.0) ∙ none-changed es fs p.1

all-done : (es : List Entry) → all_steps tends_inside es ≡ true → all_steps leaves_done es ≡ true
all-done [] o = refl
all-done (e ∷ es) o = let p = and_parts (tends_inside e.step) (all_steps tends_inside es) o in and_from _ _ (tend-done e.step p.0) (all-done es p.1)

tend-waits : (es : List Entry) → all_steps tends_inside es ≡ true → WaitsOutside es
tend-waits es o = record { quiet = quiet-only es (all-done es o); outside = ap not (none-of-steps tends_inside enters tend-enters es o) }

tend-blind : (es : List Entry) → all_steps tends_inside es ≡ true → some_event looks_at_phase es ≡ false
tend-blind es o = none-of-steps tends_inside looks_at_phase tend-looks es o

tend-unbegun : (es : List Entry) → all_steps tends_inside es ≡ true → some_event tries_marking es ≡ false
tend-unbegun es o = none-of-steps tends_inside tries_marking tend-untried es o

-- what is to be told if something was popped
payment-some : (n : ℕ) → 0 < n → payment n ≡ tells n ∷ []
payment-some n low = ap (λ b. cond b [] (tells n ∷ [])) (ne_eqb n 0 (λ z. omega (arith, z, low)))

-- nothing was popped
pub inside-idle : (sh : Shape) (s : SeatState) (n : ℕ) (es : List Entry) → n ≤ 0 → all_steps tends_inside es ≡ true → count_of pops es ≡ n → seat_traces_on sh s es ≡ true → TracesInside sh s es
inside-idle sh s n es none o count t =
    let nil : (es ++ []) ≡ es = append-nil es in
    let zero_is : count_of pops es ≡ 0 = omega (arith, count, none) in
    record {
      traces = t;
      pays = ap numbers_changed (sym nil) ∙ (none-changed es [] o ∙ ap payment (sym zero_is));
      unbegun = ap not (tend-unbegun es o);
      stays_in = ap until_leave (sym nil) ∙ (tend-inside es [] o refl ∙ nil);
      blind = ap not (tend-blind es o);
      waits = tend-waits es o;
    }

-- what was popped was told
pub inside-counted : (sh : Shape) (s : SeatState) (n m : ℕ) (es : List Entry) → 0 < n → all_steps tends_inside es ≡ true → count_of pops es ≡ n → seat_traces_on sh s es ≡ true → TracesInside sh s (es ++ event (AddStat traced_count n false) m ∷ [])
inside-counted sh s n m es low o count t =
    let last : List Entry = event (AddStat traced_count n false) m ∷ [] in
    let all : count_of pops (es ++ last) ≡ n = count-join pops es last ∙ omega (arith, count) in
    record {
      traces = traces-more sh s es last refl t;
      pays = none-changed es last o ∙ (sym (payment-some n low) ∙ ap payment (sym all));
      unbegun = ap not (some-none tries_marking es last (tend-unbegun es o) refl);
      stays_in = tend-inside es last o refl;
      blind = ap not (some-none looks_at_phase es last (tend-blind es o) refl);
      waits = waits-join es last (tend-waits es o) (record { quiet = quiet-one (AddStat traced_count n false) m refl; outside = refl });
    }
