-- From a drain that has begun to the end of the cycle: the events of all parts.
use Rattle.std.proofs.Common.{ℕ, ◌≡◌, ◌+◌, List, [], ◌∷◌, ◌++◌, refl, sym, ap, ◌∙◌, Bool, true, false, not, ◌||◌, Some, arith}
use Rattle.std.proofs.lemmas.Bool.{and_from, or_left, true≢false}
use Rattle.mark_core.specs.Seats.{saw}
use Rattle.mark_core.specs.declared.kinds.Phase.TheVariants.{Idle, Drain, Sweep}
use Rattle.mark_core.specs.declared.kinds.Phase.{Phase}
use Rattle.mark_core.specs.declared.kinds.Shape.{Shape}
use Rattle.mark_core.specs.declared.kinds.Step.{Step}
use Rattle.mark_core.specs.declared.kinds.Step.TheVariants.{DropStep, ReadField, ReadPhase, StoreAlloc, StorePhase}
use Rattle.mark_core.specs.declared.seat.SeatState.{SeatState}
use Rattle.mark_core.specs.Effects.{seat_after}
use Rattle.mark_core.proofs.Writing.Frames.{changes_exact, exact_of, exact-kept}
use Rattle.gc_table.specs.declared.view.Entry.{Entry}
use Rattle.gc_table.specs.declared.view.View.{View}
use Rattle.packet_pools.specs.Counts.{count_of}
use Rattle.packet_pools.specs.Seeking.{some_event}
use Rattle.packet_pools.proofs.Counting.{count-join}
use Rattle.packet_pools.proofs.Searches.{some-left, some-right}
use Rattle.gc_table.specs.Log.{event, events}
use Rattle.gc_table.specs.Running.{after_all, Ran}
use Rattle.gc_table.proofs.Running.{ran-events, ran-join, ran-only, state-kept}
use Rattle.gc_cycle.specs.Cycles.{ends_exactly, opens_in_sweep}
use Rattle.gc_cycle.specs.DrainRounds.{DrainsAlone, DrainsTogether, DrainsToSweep, SweepsTogether}
use Rattle.gc_cycle.specs.Events.{Sort, followed_by, never, since_last}
use Rattle.gc_cycle.specs.Finishing.{Completes, finishes, IsMove, IsPart, stays, stays_in}
use Rattle.card_clean.specs.Leaving.{rescans, rescanned_in}
use Rattle.sweeper.specs.Freeing.{frees, freed_in}
use Rattle.gc_cycle.specs.Moments.{at_some_moment, begins, total_of}
use Rattle.gc_cycle.specs.Sorts.{ends_cycle, moves_to, opens_help, tells_full, tries_marking}
use Rattle.gc_cycle.proofs.Parts.{move-finishes, part-finishes, part-stays}
use Rattle.gc_cycle.proofs.Sequences.{count-none, followed-across, moments, moments-state, none-of-steps, since-this, some-moment-later, some-none, this-moment, total-join, total-none, freed-same}

-- a step that stays is no move
pub no-move : (p : Phase) (step : Step) (n : ℕ) → stays step ≡ true → moves_to p step n ≡ false
no-move p (StorePhase to) n e = absurd (true≢false (sym e))
no-move p step n e = refl

pub part-no-move : (q : Phase) (p : Phase) (v w : View) → IsPart p v w → some_event (moves_to q) (events v w) ≡ false
part-no-move q p v w h = none-of-steps stays (moves_to q) (no-move q) (events v w) (part-stays p v w h)

-- a step that stays doesn't tell that the heap is full
pub no-tell : (step : Step) (n : ℕ) → stays step ≡ true → tells_full step n ≡ false
no-tell (StorePhase to) n e = absurd (true≢false (sym e))
no-tell ReadPhase n e = absurd (true≢false (sym e))
no-tell step n e = refl

pub part-untold : (p : Phase) (v w : View) → IsPart p v w → some_event tells_full (events v w) ≡ false
part-untold p v w h = none-of-steps stays tells_full no-tell (events v w) (part-stays p v w h)

-- a step that stays begins no cycle
pub no-try : (step : Step) (n : ℕ) → stays step ≡ true → tries_marking step n ≡ false
no-try (StorePhase to) n e = absurd (true≢false (sym e))
no-try step n e = refl

pub part-untried : (p : Phase) (v w : View) → IsPart p v w → some_event tries_marking (events v w) ≡ false
part-untried p v w h = none-of-steps stays tries_marking no-try (events v w) (part-stays p v w h)

-- a step that stays ends no cycle
pub no-end : (step : Step) (n : ℕ) → stays step ≡ true → ends_cycle step n ≡ false
no-end (StorePhase to) n e = absurd (true≢false (sym e))
no-end step n e = refl

pub part-unended : (p : Phase) (v w : View) → IsPart p v w → some_event ends_cycle (events v w) ≡ false
part-unended p v w h = none-of-steps stays ends_cycle no-end (events v w) (part-stays p v w h)

keeps-exact : (step : Step) (sh : Shape) (s : SeatState) (old : ℕ) → stays step ≡ true → exact_of (seat_after sh s step old) ≡ exact_of s
keeps-exact (StorePhase to) sh s old e = absurd (true≢false (sym e))
keeps-exact DropStep sh s old e = absurd (true≢false (sym e))
keeps-exact step sh s old e = exact-kept sh s step old (changes-none step e)
  where
    changes-none : (t : Step) → stays t ≡ true → changes_exact t ≡ false
    changes-none (StorePhase to) d = absurd (true≢false (sym d))
    changes-none DropStep d = absurd (true≢false (sym d))
    changes-none t d = refl

pub part-exact : (p : Phase) (v w : View) → IsPart p v w → w.state.exact ≡ v.state.exact
part-exact p v w h = state-kept exact_of stays (λ sh s step old e. keeps-exact step sh s old e) v w h.ran (part-stays p v w h)

-- a move keeps it
pub move-exact : (from to : Phase) (v w : View) → IsMove from to v w → v.state.exact ≡ true → w.state.exact ≡ true
move-exact from to v w m e =
    let is = m.ran.steps ∙ ap (λ es. after_all es v) m.events_are in
    ap (λ (x : View). x.state.exact) is ∙ or_left v.state.exact _ e

-- the events of the drain, then the move to Sweep, the sweep, the move to Idle, and the count
abbrev pub course : List Entry → List Entry → List Entry → List Entry → List Entry
course a b d e = (a ++ b) ++ (event (StorePhase Sweep) 2 ∷ (d ++ (event (StorePhase Idle) 3 ∷ e)))

course-none : (f : Sort) (a b d e : List Entry) → some_event f a ≡ false → some_event f b ≡ false → some_event f d ≡ false → some_event f e ≡ false → f (StorePhase Sweep) 2 ≡ false → f (StorePhase Idle) 3 ≡ false → some_event f (course a b d e) ≡ false
course-none f a b d e ha hb hd he s i =
    some-none f (a ++ b) (event (StorePhase Sweep) 2 ∷ (d ++ (event (StorePhase Idle) 3 ∷ e))) (some-none f a b ha hb)
    (either (f (StorePhase Sweep) 2) _ s (some-none f d (event (StorePhase Idle) 3 ∷ e) hd (either (f (StorePhase Idle) 3) _ i he)))
  where
    either : (x y : Bool) → x ≡ false → y ≡ false → (x || y) ≡ false
    either true y h k = absurd (true≢false h)
    either false y h k = k

module _ (v0 v1 v2 v3 v4 v5 v6 : View) (p1 : IsPart Drain v0 v1) (o1 : some_event opens_help (events v0 v1) ≡ true) (p2 : IsPart Drain v1 v2) (m3 : IsMove Drain Sweep v2 v3) (p4 : IsPart Sweep v3 v4) (o4 : some_event opens_help (events v3 v4) ≡ true) (m5 : IsMove Sweep Idle v4 v5) (p6 : IsPart Idle v5 v6) where
  first : Ran v0 v2
  first = ran-join v0 v1 v2 p1.ran p2.ran

  last : Ran v4 v6
  last = ran-join v4 v5 v6 m5.ran p6.ran

  rest : Ran v2 v6
  rest = ran-join v2 v3 v6 m3.ran (ran-join v3 v4 v6 p4.ran last)

  pub whole : Ran v0 v6
  whole = ran-join v0 v2 v6 first rest

  last-events : events v4 v6 ≡ event (StorePhase Idle) 3 ∷ events v5 v6
  last-events = ran-events v4 v5 v6 m5.ran p6.ran ∙ ap (λ es. es ++ events v5 v6) (m5.events_are ∙ ap (λ n. event (StorePhase Idle) n ∷ []) m5.from_is)

  rest-events : events v2 v6 ≡ event (StorePhase Sweep) 2 ∷ (events v3 v4 ++ (event (StorePhase Idle) 3 ∷ events v5 v6))
  rest-events =
      ran-events v2 v3 v6 m3.ran (ran-join v3 v4 v6 p4.ran last)
      ∙ (ap (λ es. es ++ events v3 v6) (m3.events_are ∙ ap (λ n. event (StorePhase Sweep) n ∷ []) m3.from_is)
      ∙ ap (λ es. event (StorePhase Sweep) 2 ∷ es) (ran-events v3 v4 v6 p4.ran last ∙ ap (λ es. events v3 v4 ++ es) last-events))

  pub all-events : events v0 v6 ≡ course (events v0 v1) (events v1 v2) (events v3 v4) (events v5 v6)
  all-events =
      ran-events v0 v2 v6 first rest
      ∙ (ap (λ es. es ++ events v2 v6) (ran-events v0 v1 v2 p1.ran p2.ran) ∙ ap (λ es. (events v0 v1 ++ events v1 v2) ++ es) rest-events)

  nowhere : (f : Sort) → ((p : Phase) (v w : View) → IsPart p v w → some_event f (events v w) ≡ false) → f (StorePhase Sweep) 2 ≡ false → f (StorePhase Idle) 3 ≡ false → some_event f (events v0 v6) ≡ false
  nowhere f none s i =
      ap (some_event f) all-events ∙ course-none f (events v0 v1) (events v1 v2) (events v3 v4) (events v5 v6) (none Drain v0 v1 p1) (none Drain v1 v2 p2) (none Sweep v3 v4 p4) (none Idle v5 v6 p6) s i

  drain-help : followed_by opens_help (moves_to Sweep) (events v0 v6) ≡ true
  drain-help =
      ap (followed_by opens_help (moves_to Sweep)) all-events
      ∙ followed-across opens_help (moves_to Sweep) (events v0 v1 ++ events v1 v2) (event (StorePhase Sweep) 2 ∷ (events v3 v4 ++ (event (StorePhase Idle) 3 ∷ events v5 v6))) (some-left opens_help (events v0 v1) (events v1 v2) o1) refl

  no-sweep : some_event (moves_to Sweep) (events v3 v4 ++ (event (StorePhase Idle) 3 ∷ events v5 v6)) ≡ false
  no-sweep = some-none (moves_to Sweep) (events v3 v4) (event (StorePhase Idle) 3 ∷ events v5 v6) (part-no-move Sweep Sweep v3 v4 p4) (part-no-move Sweep Idle v5 v6 p6)

  sweep-help : opens_in_sweep (events v0 v6) ≡ true
  sweep-help =
      ap (λ es. followed_by opens_help (moves_to Idle) (since_last (moves_to Sweep) es)) all-events
      ∙ (ap (followed_by opens_help (moves_to Idle)) (since-this (moves_to Sweep) (events v0 v1 ++ events v1 v2) (event (StorePhase Sweep) 2) (events v3 v4 ++ (event (StorePhase Idle) 3 ∷ events v5 v6)) refl no-sweep)
      ∙ followed-across opens_help (moves_to Idle) (events v3 v4) (event (StorePhase Idle) 3 ∷ events v5 v6) o4 refl)

  ends : some_event ends_cycle (events v0 v6) ≡ true
  ends =
      ap (some_event ends_cycle) all-events
      ∙ some-right ends_cycle (events v0 v1 ++ events v1 v2) (event (StorePhase Sweep) 2 ∷ (events v3 v4 ++ (event (StorePhase Idle) 3 ∷ events v5 v6))) (some-right ends_cycle (events v3 v4) (event (StorePhase Idle) 3 ∷ events v5 v6) refl)

  once : count_of ends_cycle (events v0 v6) ≡ 1
  once =
      let drained : List Entry = events v0 v1 ++ events v1 v2 in
      let settled : List Entry = event (StorePhase Idle) 3 ∷ events v5 v6 in
      let all = ap (count_of ends_cycle) all-events in
      let two : count_of ends_cycle (drained ++ (event (StorePhase Sweep) 2 ∷ (events v3 v4 ++ settled))) ≡ count_of ends_cycle drained + (0 + count_of ends_cycle (events v3 v4 ++ settled)) = count-join ends_cycle drained (event (StorePhase Sweep) 2 ∷ (events v3 v4 ++ settled)) in
      let three : count_of ends_cycle (events v3 v4 ++ settled) ≡ count_of ends_cycle (events v3 v4) + (1 + count_of ends_cycle (events v5 v6)) = count-join ends_cycle (events v3 v4) settled in
      let a = count-none ends_cycle drained (some-none ends_cycle (events v0 v1) (events v1 v2) (part-unended Drain v0 v1 p1) (part-unended Drain v1 v2 p2)) in
      let b = count-none ends_cycle (events v3 v4) (part-unended Sweep v3 v4 p4) in
      let d = count-none ends_cycle (events v5 v6) (part-unended Idle v5 v6 p6) in
      omega (arith, all, two, three, a, b, d)

  to-sweep : Ran v0 v4
  to-sweep = ran-join v0 v2 v4 first (ran-join v2 v3 v4 m3.ran p4.ran)

  exact-there : v0.state.exact ≡ true → v4.state.exact ≡ true
  exact-there h = part-exact Sweep v3 v4 p4 ∙ move-exact Drain Sweep v2 v3 m3 (part-exact Drain v1 v2 p2 ∙ (part-exact Drain v0 v1 p1 ∙ h))

  ends-exactly : v0.state.exact ≡ true → at_some_moment v0.shape ends_exactly (begins v0) (events v0 v6) ≡ true
  ends-exactly h =
      let state = moments-state v0 (begins v0) (events v0 v4) refl ∙ ap (λ (x : View). x.state) (sym to-sweep.steps) in
      ap (at_some_moment v0.shape ends_exactly (begins v0)) (ran-events v0 v4 v6 to-sweep last)
      ∙ some-moment-later v0.shape ends_exactly (events v0 v4) (events v4 v6) (begins v0)
      (ap (at_some_moment v0.shape ends_exactly (moments v0.shape (begins v0) (events v0 v4))) last-events
      ∙ this-moment v0.shape ends_exactly (event (StorePhase Idle) 3 ∷ events v5 v6) (moments v0.shape (begins v0) (events v0 v4)) (and_from _ _ (ap (λ (s : SeatState). s.exact) state ∙ exact-there h) refl))

  pub completes : Completes v0 v6
  completes =
      record {
        ran = whole;
        only =
            ran-only finishes v0 v2 v6 first rest (ran-only finishes v0 v1 v2 p1.ran p2.ran (part-finishes Drain v0 v1 p1) (part-finishes Drain v1 v2 p2))
            (ran-only finishes v2 v3 v6 m3.ran (ran-join v3 v4 v6 p4.ran last) (move-finishes Drain Sweep v2 v3 m3)
            (ran-only finishes v3 v4 v6 p4.ran last (part-finishes Sweep v3 v4 p4) (ran-only finishes v4 v5 v6 m5.ran p6.ran (move-finishes Sweep Idle v4 v5 m5) (part-finishes Idle v5 v6 p6))));
        alone = p6.alone;
        no_drain = ap not (nowhere (moves_to Drain) (part-no-move Drain) refl refl);
        drain_help = drain-help;
        sweep_help = sweep-help;
        ends = ends;
        once = once;
        not_full = ap not (nowhere tells_full part-untold refl refl);
        unbegun = ap not (nowhere tries_marking part-untried refl refl);
        exactly = λ h. (ends-exactly h, part-exact Idle v5 v6 p6 ∙ move-exact Sweep Idle v4 v5 m5 (exact-there h));
      }

  -- the drain that it goes on with
  pub drains-sweep : DrainsTogether v0 v1 → DrainsAlone v1 v2 → SweepsTogether v3 v4 → DrainsToSweep v0 v6
  drains-sweep t a s =
      record {
        shared = v1;
        drained = v2;
        together = t;
        alone = a;
        after = rest;
        sweeps = (events v3 v4 ++ (event (StorePhase Idle) 3 ∷ events v5 v6), rest-events);
        moved = v3;
        swept = v4;
        moves = m3;
        shares = s;
        ends = last;
        last =
            ap (never (moves_to Drain)) rest-events
            ∙ ap not (some-none (moves_to Drain) (events v3 v4) (event (StorePhase Idle) 3 ∷ events v5 v6) (part-no-move Drain Sweep v3 v4 p4) (part-no-move Drain Idle v5 v6 p6));
      }

-- what a part doesn't do
pub none-in : (f : SeatState → Step → ℕ → ℕ) (p : Phase) → ((s : SeatState) (step : Step) (n : ℕ) → stays_in p step ≡ true → f s step n ≡ 0) → (v w : View) → IsPart p v w → total_of f v (events v w) ≡ 0
none-in f p h v w k = total-none f (stays_in p) h (events v w) v k.only

pub scans-none : (p : Phase) → saw (Some p) Drain ≡ false → (s : SeatState) (step : Step) (n : ℕ) → stays_in p step ≡ true → rescans s step n ≡ 0
scans-none p d s (ReadField c i) n e = absurd (true≢false (sym e ∙ d))
scans-none p d s step n e = refl

pub frees-none : (p : Phase) → saw (Some p) Sweep ≡ false → (s : SeatState) (step : Step) (n : ℕ) → stays_in p step ≡ true → frees s step n ≡ 0
frees-none p d s StoreAlloc n e = absurd (true≢false (sym e ∙ d))
frees-none p d s step n e = refl

pub total-run : (f : SeatState → Step → ℕ → ℕ) (u v w : View) → Ran u v → Ran v w → total_of f u (events u w) ≡ total_of f u (events u v) + total_of f v (events v w)
total-run f u v w r q = ap (total_of f u) (ran-events u v w r q) ∙ (total-join f u (events u v) (events v w) ∙ ap (λ x. total_of f u (events u v) + total_of f x (events v w)) (sym r.steps))

pub move-total : (f : SeatState → Step → ℕ → ℕ) (from to : Phase) → ((s : SeatState) (n : ℕ) → f s (StorePhase to) n ≡ 0) → (v w : View) → IsMove from to v w → total_of f v (events v w) ≡ 0
move-total f from to h v w m = ap (total_of f v) m.events_are ∙ (let z = h v.state m.found in omega (arith, z))

-- of the cells that were freed: none in such a part, the sum over two calls, and none in a move
pub freed-none : (p : Phase) → saw (Some p) Sweep ≡ false → (v w : View) → IsPart p v w → freed_in v (events v w) ≡ 0
freed-none p d v w k = sym (freed-same (events v w) v) ∙ none-in frees p (frees-none p d) v w k

pub freed-move : (from to : Phase) (v w : View) → IsMove from to v w → freed_in v (events v w) ≡ 0
freed-move from to v w m = sym (freed-same (events v w) v) ∙ move-total frees from to (λ s n. refl) v w m

module _ (v0 v1 v2 v3 v4 v5 v6 : View) (p1 : IsPart Drain v0 v1) (p2 : IsPart Drain v1 v2) (m3 : IsMove Drain Sweep v2 v3) (p4 : IsPart Sweep v3 v4) (m5 : IsMove Sweep Idle v4 v5) (p6 : IsPart Idle v5 v6) where
  after3 : Ran v3 v6
  after3 = ran-join v3 v4 v6 p4.ran (ran-join v4 v5 v6 m5.ran p6.ran)

  totals : (f : SeatState → Step → ℕ → ℕ) → total_of f v0 (events v0 v6) ≡ total_of f v0 (events v0 v1) + (total_of f v1 (events v1 v2) + (total_of f v2 (events v2 v3) + (total_of f v3 (events v3 v4) + (total_of f v4 (events v4 v5) + total_of f v5 (events v5 v6)))))
  totals f =
      total-run f v0 v1 v6 p1.ran (ran-join v1 v2 v6 p2.ran (ran-join v2 v3 v6 m3.ran after3))
      ∙ ap (λ n. total_of f v0 (events v0 v1) + n)
      (total-run f v1 v2 v6 p2.ran (ran-join v2 v3 v6 m3.ran after3)
      ∙ ap (λ n. total_of f v1 (events v1 v2) + n)
      (total-run f v2 v3 v6 m3.ran after3
      ∙ ap (λ n. total_of f v2 (events v2 v3) + n)
      (total-run f v3 v4 v6 p4.ran (ran-join v4 v5 v6 m5.ran p6.ran) ∙ ap (λ n. total_of f v3 (events v3 v4) + n) (total-run f v4 v5 v6 m5.ran p6.ran))))

  pub rescanned-in-all : rescanned_in v0 (events v0 v6) ≡ rescanned_in v0 (events v0 v1) + rescanned_in v1 (events v1 v2)
  rescanned-in-all =
      let t = totals rescans in
      let a = move-total rescans Drain Sweep (λ s n. refl) v2 v3 m3 in
      let b = none-in rescans Sweep (scans-none Sweep refl) v3 v4 p4 in
      let d = move-total rescans Sweep Idle (λ s n. refl) v4 v5 m5 in
      let e = none-in rescans Idle (scans-none Idle refl) v5 v6 p6 in
      omega (arith, t, a, b, d, e)

  freed-in-sweep : total_of frees v0 (events v0 v6) ≡ total_of frees v3 (events v3 v4)
  freed-in-sweep =
      let t = totals frees in
      let a = none-in frees Drain (frees-none Drain refl) v0 v1 p1 in
      let b = none-in frees Drain (frees-none Drain refl) v1 v2 p2 in
      let d = move-total frees Drain Sweep (λ s n. refl) v2 v3 m3 in
      let e = move-total frees Sweep Idle (λ s n. refl) v4 v5 m5 in
      let h = none-in frees Idle (frees-none Idle refl) v5 v6 p6 in
      omega (arith, t, a, b, d, e, h)

  pub freed-in-all : freed_in v0 (events v0 v6) ≡ freed_in v3 (events v3 v4)
  freed-in-all = sym (freed-same (events v0 v6) v0) ∙ (freed-in-sweep ∙ freed-same (events v3 v4) v3)
