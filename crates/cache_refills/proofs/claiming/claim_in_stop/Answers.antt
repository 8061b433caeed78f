use Rattle.std.proofs.Common.{ℕ, ◌≡◌, ◌≤◌, ◌⊎◌, ◌++◌, inl, List, true, refl, sym, ap, ◌∙◌, subst, Option, Some, inr, [], ◌∷◌, arith}
use Rattle.std.specs.Prelude.{is_some, unwrap_or}
use Rattle.std.proofs.lemmas.Bool.{true≢false}
use Rattle.mark_core.specs.declared.kinds.Phase.TheVariants.{Clear, Drain, Full, Idle, Marking, Sweep}
use Rattle.gc_table.specs.Rule.{KnowsFull}
use Rattle.gc_cycle.specs.Collecting.{HoldsWorld}
use Rattle.gc_table.specs.Notes.{look}
use Rattle.mark_core.specs.Places.{the_phase}
use Rattle.mark_core.specs.Seats.{phase_number}
use Rattle.mark_core.specs.declared.kinds.Phase.{Phase}
use Rattle.cache_refills.proofs.claiming.claim_in_stop.Goals.{in_default-via-in-Some+in_default, in_default-via-in_default}
use Rattle.mark_core.specs.declared.kinds.Shape.{Shape}
use Rattle.mark_core.specs.declared.seat.SeatState.{SeatState}
use Rattle.gc_table.specs.Log.{events}
use Rattle.gc_table.specs.Seats.{view_of}
use Rattle.gc_table.specs.declared.view.View.{View}
use Rattle.gc_table.proofs.Running.{ran-events}
use Rattle.cache_refills.specs.Refilling.{HasMissed}
use Rattle.cache_refills.proofs.Stops.StopsAgain.{none-later}
use Rattle.gc_cycle.specs.Moments.{begins}
use Rattle.gc_cycle.proofs.Refills.Collected.{exactly-collects, full-alone}
use Rattle.cache_refills.proofs.Stops.InStop.{claims-later, claims-none, fills-caused, fills-own, quiet-finish, rests-held, rests-later}
use Rattle.gc_cycle.proofs.Changes.{by-none, numbers-after, numbers-one}
use Rattle.gc_cycle.specs.Statistics.{taken}
use Rattle.cache_refills.proofs.Stops.InStops.{unbegun-empty, unbegun-join}
use Rattle.gc_table.specs.declared.view.Entry.{Entry}
use Rattle.gc_table.specs.Running.{Ran}
use Rattle.gc_table.proofs.History.Log.{events-none}
use Rattle.packet_pools.specs.Counts.{count_of}
use Rattle.packet_pools.specs.Seeking.{some_event}
use Rattle.packet_pools.proofs.Searches.{some-left}
use Rattle.gc_cycle.specs.Events.{each_after, since_or_all}
use Rattle.gc_cycle.specs.Sorts.{ends_cycle, raises_flag}
use Rattle.cache_refills.specs.Stops.{may_end}
use Rattle.cache_refills.proofs.Causes.{after-join}
use Rattle.cache_refills.proofs.Stops.Visits.{after-once, raised-may, some-counted, unended-later}
use Rattle.cache_refills.specs.Notices as notices
use Rattle.cache_refills.specs.Telling.{TellsStops}
use Rattle.cache_refills.proofs.Telling.{stops-join, stops-last, stops-one, told-join, told-none, told-one, untold-none}
use Rattle.cache_refills.proofs.claiming.claim_in_stop.Goals as goal

pub claim_or_collect-requires-clause-alone : goal.claim_or_collect-requires-clause-alone
claim_or_collect-requires-clause-alone g c =
    let u : View = view_of c.args.seat.now in
    let p = c.finish_cycle.ensures.ends in
    (p.idle, rests-later u (view_of c.finish_cycle.new.seat) p.ran p.only u refl refl (rests-held u c.requires.stopped))

pub claim_or_fill-requires-clause-alone : goal.claim_or_fill-requires-clause-alone
claim_or_fill-requires-clause-alone g c =
    let u : View = view_of c.args.seat.now in
    let p = c.precise.ensures.ends in
    (p.idle, rests-later u (view_of c.precise.new.seat) p.ran p.only u refl refl (rests-held u c.requires.stopped))

pub returns-in-Some-Full-clause-claims : goal.returns-in-Some-Full-clause-claims
returns-in-Some-Full-clause-claims g c =
    let is = rw c.in-Some-Full.is at c.in-Some-Full.field-0-is in
    claims-none (view_of c.args.seat.now) c.requires.stopped (ap (λ (s : SeatState). s.phase_seen) (sym c.state.ensures) ∙ (c.in-Some-Full.is ∙ ap Some is))

pub returns-in-Some-Full-clause-missed : goal.returns-in-Some-Full-clause-missed
returns-in-Some-Full-clause-missed g c =
    let is = rw c.in-Some-Full.is at c.in-Some-Full.field-0-is in
    inr (full-alone (view_of c.args.seat.now) c.requires.stopped (ap (λ (s : SeatState). s.phase_seen) (sym c.state.ensures) ∙ (c.in-Some-Full.is ∙ ap Some is))).phase

pub returns-in-Some-Marking-clause-missed : goal.returns-in-Some-Marking-clause-missed
returns-in-Some-Marking-clause-missed g c =
    let u : View = view_of c.args.seat.now in
    let v : View = view_of c.finish_cycle.new.seat in
    let w : View = view_of c.claim_or_collect.new.seat in
    let sh : Shape = c.args.heap.now.shape in
    let e = c.claim_or_collect.ensures in
    subst (λ es. HasMissed sh c.claim_or_collect.result es w) (sym (ran-events u v w c.finish_cycle.ensures.ends.ran e.claims.ran)) (none-later sh c.claim_or_collect.result (events u v) (events v w) w e.missed)

pub returns-in_default-clause-missed : goal.returns-in_default-clause-missed
returns-in_default-clause-missed g c =
    let u : View = view_of c.args.seat.now in
    let v : View = view_of c.precise.new.seat in
    let w : View = view_of c.claim_or_fill.new.seat in
    let sh : Shape = c.args.heap.now.shape in
    let p = c.precise.ensures.ends in
    let e = c.claim_or_fill.ensures in
    subst (λ es. HasMissed sh c.claim_or_fill.result es w) (sym (ran-events u v w p.ran e.claims.ran)) (e.missed (events u v) (exactly-collects sh (begins u) (events u v) c.precise.ensures.collects))

pub returns-in-Some-Marking-clause-claims : goal.returns-in-Some-Marking-clause-claims
returns-in-Some-Marking-clause-claims g c =
    let u : View = view_of c.args.seat.now in
    let v : View = view_of c.finish_cycle.new.seat in
    let p = c.finish_cycle.ensures.ends in
    claims-later c.claim_or_collect.result u v (view_of c.claim_or_collect.new.seat) (quiet-finish u v p.ran p.only p.spares p.going) c.claim_or_collect.ensures.claims

pub returns-in-Some-Marking-clause-fills : goal.returns-in-Some-Marking-clause-fills
returns-in-Some-Marking-clause-fills g c =
    let u : View = view_of c.args.seat.now in
    let v : View = view_of c.finish_cycle.new.seat in
    let p = c.finish_cycle.ensures.ends in
    fills-own c.args.heap.now.shape u v (view_of c.claim_or_collect.new.seat) (quiet-finish u v p.ran p.only p.spares p.going) c.claim_or_collect.ensures.claims.ran c.claim_or_collect.ensures.fills

pub returns-in_default-clause-claims : goal.returns-in_default-clause-claims
returns-in_default-clause-claims g c =
    let u : View = view_of c.args.seat.now in
    let v : View = view_of c.precise.new.seat in
    let p = c.precise.ensures.ends in
    claims-later c.claim_or_fill.result u v (view_of c.claim_or_fill.new.seat) (quiet-finish u v p.ran p.only p.spares p.going) c.claim_or_fill.ensures.claims

pub returns-in_default-clause-fills : goal.returns-in_default-clause-fills
returns-in_default-clause-fills g c =
    let u : View = view_of c.args.seat.now in
    let v : View = view_of c.precise.new.seat in
    let p = c.precise.ensures.ends in
    let f = c.claim_or_fill.ensures in
    fills-caused c.args.heap.now.shape u v (view_of c.claim_or_fill.new.seat) (quiet-finish u v p.ran p.only p.spares p.going) f.claims.ran
    (f.fills (events u v) (exactly-collects c.args.heap.now.shape (begins u) (events u v) c.precise.ensures.collects))

pub returns-in-Some-Full-clause-numbers : goal.returns-in-Some-Full-clause-numbers
returns-in-Some-Full-clause-numbers g c = let v : View = view_of c.args.seat.now in numbers-one [] v v (by-none v)

pub returns-in-Some-Marking-clause-numbers : goal.returns-in-Some-Marking-clause-numbers
returns-in-Some-Marking-clause-numbers g c =
    let u : View = view_of c.args.seat.now in
    let v : View = view_of c.finish_cycle.new.seat in
    let p = c.finish_cycle.ensures.ends in
    numbers-after (taken c.claim_or_collect.result) u v (view_of c.claim_or_collect.new.seat) p c.claim_or_collect.ensures.numbers

pub returns-in_default-clause-numbers : goal.returns-in_default-clause-numbers
returns-in_default-clause-numbers g c =
    let u : View = view_of c.args.seat.now in
    let v : View = view_of c.precise.new.seat in
    let p = c.precise.ensures.ends in
    numbers-after (taken c.claim_or_fill.result) u v (view_of c.claim_or_fill.new.seat) p c.claim_or_fill.ensures.numbers

pub returns-in-Some-Full-clause-unbegun : goal.returns-in-Some-Full-clause-unbegun
returns-in-Some-Full-clause-unbegun g c = unbegun-empty (view_of c.args.seat.now)

pub returns-in-Some-Marking-clause-unbegun : goal.returns-in-Some-Marking-clause-unbegun
returns-in-Some-Marking-clause-unbegun g c =
    let p = c.finish_cycle.ensures.ends in
    let e = c.claim_or_collect.ensures in
    unbegun-join (view_of c.args.seat.now) (view_of c.finish_cycle.new.seat) (view_of c.claim_or_collect.new.seat) p.ran e.claims.ran p.unbegun e.unbegun

pub returns-in_default-clause-unbegun : goal.returns-in_default-clause-unbegun
returns-in_default-clause-unbegun g c =
    let p = c.precise.ensures.ends in
    let e = c.claim_or_fill.ensures in
    unbegun-join (view_of c.args.seat.now) (view_of c.precise.new.seat) (view_of c.claim_or_fill.new.seat) p.ran e.claims.ran p.unbegun e.unbegun

-- a seat that holds the world, and read the phase as another, doesn't know the heap as full
not-full : (v : View) → HoldsWorld v → KnowsFull v → v.state.phase_seen ≡ Some Full
not-full v h k = by_phase h.phase h.left h.seen h.alone.phase
  where
    other : (n : ℕ) → look the_phase v.known ≡ Some n → 5 ≡ n
    other n e = ap (λ (o : Option ℕ). unwrap_or o 0) (sym k ∙ e)

    by_phase : (p : Phase) → (p ≡ Idle) ⊎ (p ≡ Marking) ⊎ (p ≡ Full) → v.state.phase_seen ≡ Some p → look the_phase v.known ≡ Some (phase_number p) → v.state.phase_seen ≡ Some Full
    by_phase Idle l s e = let x = other (phase_number Idle) e in absurd (omega (arith, x))
    by_phase Marking l s e = let x = other (phase_number Marking) e in absurd (omega (arith, x))
    by_phase Drain l s e = let x = other (phase_number Drain) e in absurd (omega (arith, x))
    by_phase Sweep l s e = let x = other (phase_number Sweep) e in absurd (omega (arith, x))
    by_phase Clear l s e = let x = other (phase_number Clear) e in absurd (omega (arith, x))
    by_phase Full l s e = s

pub returns-in_default-clause-full : goal.returns-in_default-clause-full
returns-in_default-clause-full g c = λ k.
    let u : View = view_of c.args.seat.now in
    let full : c.state.result.now.phase_seen ≡ Some Full = ap (λ (s : SeatState). s.phase_seen) c.state.ensures ∙ not-full u c.requires.stopped k in
    elim c.in_default.branch [
      | in_default-via-in-Some+in_default w ↦ absurd ((rw full at w.in_default.in-Idle-own.refused-1).2 refl)
      | in_default-via-in_default w ↦ absurd (true≢false (ap (λ (o : Option Phase). is_some o) (sym full ∙ w.in_default.is)))
    ]

-- a collection ended one cycle, and more may have come after it

ended-first : (u v w : View) → Ran u v → Ran v w → count_of ends_cycle (events u v) ≡ 1 → some_event ends_cycle (events u w) ≡ true
ended-first u v w r q one = ap (some_event ends_cycle) (ran-events u v w r q) ∙ some-left ends_cycle (events u v) (events v w) (some-counted ends_cycle (events u v) (omega (arith, one)))

collected-cycles : (sh : Shape) (before : List Entry) (u v w : View) → Ran u v → Ran v w → some_event raises_flag (since_or_all ends_cycle before) ≡ true → count_of ends_cycle (events u v) ≡ 1 → each_after (may_end sh) ends_cycle (before ++ events u v) (events v w) ≡ true → each_after (may_end sh) ends_cycle before (events u w) ≡ true
collected-cycles sh before u v w r q h one later =
    let few : count_of ends_cycle (events u v) ≤ 1 = omega (arith, one) in
    ap (each_after (may_end sh) ends_cycle before) (ran-events u v w r q)
    ∙ after-join (may_end sh) ends_cycle before (events u v) (events v w) (after-once (may_end sh) ends_cycle before (events u v) (λ xs n. raised-may sh before xs h n) few) later

pub returns-in-Some-Full-clause-ends : goal.returns-in-Some-Full-clause-ends
returns-in-Some-Full-clause-ends g c =
    let is = rw c.in-Some-Full.is at c.in-Some-Full.field-0-is in
    inr (full-alone (view_of c.args.seat.now) c.requires.stopped (ap (λ (s : SeatState). s.phase_seen) (sym c.state.ensures) ∙ (c.in-Some-Full.is ∙ ap Some is))).phase

pub returns-in-Some-Marking-clause-ends : goal.returns-in-Some-Marking-clause-ends
returns-in-Some-Marking-clause-ends g c =
    let p = c.finish_cycle.ensures.ends in
    inl (ended-first (view_of c.args.seat.now) (view_of c.finish_cycle.new.seat) (view_of c.claim_or_collect.new.seat) p.ran c.claim_or_collect.ensures.claims.ran p.once)

pub returns-in_default-clause-ends : goal.returns-in_default-clause-ends
returns-in_default-clause-ends g c =
    let p = c.precise.ensures.ends in inl (ended-first (view_of c.args.seat.now) (view_of c.precise.new.seat) (view_of c.claim_or_fill.new.seat) p.ran c.claim_or_fill.ensures.claims.ran p.once)

pub returns-in-Some-Full-clause-cycles : goal.returns-in-Some-Full-clause-cycles
returns-in-Some-Full-clause-cycles g c = λ before h. ap (each_after (may_end c.args.heap.now.shape) ends_cycle before) (events-none (view_of c.args.seat.now))

pub returns-in-Some-Marking-clause-cycles : goal.returns-in-Some-Marking-clause-cycles
returns-in-Some-Marking-clause-cycles g c = λ before h.
    let u : View = view_of c.args.seat.now in
    let v : View = view_of c.finish_cycle.new.seat in
    let p = c.finish_cycle.ensures.ends in
    let e = c.claim_or_collect.ensures in
    collected-cycles c.args.heap.now.shape before u v (view_of c.claim_or_collect.new.seat) p.ran e.claims.ran h p.once (e.cycles (before ++ events u v))

pub returns-in_default-clause-cycles : goal.returns-in_default-clause-cycles
returns-in_default-clause-cycles g c = λ before h.
    let u : View = view_of c.args.seat.now in
    let v : View = view_of c.precise.new.seat in
    let w : View = view_of c.claim_or_fill.new.seat in
    let p = c.precise.ensures.ends in
    let e = c.claim_or_fill.ensures in
    collected-cycles c.args.heap.now.shape before u v w p.ran e.claims.ran h p.once (unended-later c.args.heap.now.shape (before ++ events u v) (events v w) e.unended)

pub returns-in-Some-Full-clause-told : goal.returns-in-Some-Full-clause-told
returns-in-Some-Full-clause-told g c =
    let u : View = view_of c.args.seat.now in told-none g.W.Watch.hears (λ ns. TellsStops ns u u) c.args.watch.now (untold-none u)

pub returns-in-Some-Marking-clause-told : goal.returns-in-Some-Marking-clause-told
returns-in-Some-Marking-clause-told g c =
    let u : View = view_of c.args.seat.now in
    let v : View = view_of c.finish_cycle.new.seat in
    let w : View = view_of c.claim_or_collect.new.seat in
    let f = c.finish_cycle.ensures in
    let first = stops-one (notices.finishes c.finish_cycle.result) u v f.ends.ran (f.ends, f.ordinary) in
    told-join g.W.Watch.hears (λ ns. TellsStops ns u v) (λ ns. TellsStops ns v w) (λ ns. TellsStops ns u w) c.args.watch.now c.finishes.new.self c.claim_or_collect.new.watch (λ ms ns a b. stops-join ms ns u v w a b)
    (told-one g.W.Watch.hears (λ ns. TellsStops ns u v) (notices.finishes c.finish_cycle.result) c.args.watch.now c.finishes.new.self c.finishes.ensures first) c.claim_or_collect.ensures.told

pub returns-in_default-clause-told : goal.returns-in_default-clause-told
returns-in_default-clause-told g c =
    let u : View = view_of c.args.seat.now in
    let v : View = view_of c.precise.new.seat in
    let w : View = view_of c.claim_or_fill.new.seat in
    let p = c.precise.ensures in
    let n = notices.collects c.precise.result in
    let one = stops-one n u v p.ends.ran (record { ends = p.ends; collected = exactly-collects c.args.heap.now.shape (begins u) (events u v) p.collects; exact = p.exact }) in
    told-one g.W.Watch.hears (λ ns. TellsStops ns u w) n c.args.watch.now c.collects.new.self c.collects.ensures (stops-last (n ∷ []) u v w one c.claim_or_fill.ensures.untold)
