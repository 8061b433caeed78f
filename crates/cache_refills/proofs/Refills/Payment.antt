-- A mutator's tracing increment, put together out of its calls.
use Rattle.std.proofs.Common.{ℕ, ◌≡◌, ◌≤◌, ◌+◌, List, [], ◌∷◌, ◌++◌, arith, refl, sym, ap, ◌∙◌, subst, Bool, true, false, not, ◌&&◌, Some, None, Option, ⊎_elim, cond, eqb-true, eq-eqb}
use Rattle.std.specs.Prelude.{◌==◌, ◌<◌, if◌then◌else◌, is_some, nat_lt, unwrap_or}
use Rattle.std.specs.List.{count_by, fold}
use Rattle.std.proofs.Math.Logic.{∥∥₁_elim}
use Rattle.std.proofs.Props.{props}
use Rattle.std.proofs.lemmas.Bool.{and_from, and_parts, false≢true, le-leb, ltb-true, not-true, or_cases, or_from, or_left, or_parts, or_right, true≢false}
use Rattle.mark_core.specs.Held.{Slot, Slots, holds_any}
use Rattle.mark_core.specs.declared.kinds.Shape.{Shape}
use Rattle.mark_core.specs.declared.kinds.Step.{Step}
use Rattle.mark_core.specs.declared.kinds.Step.TheVariants.{NextOfCards}
use Rattle.mark_core.specs.declared.seat.SeatState.{SeatState}
use Rattle.gc_table.specs.Log.{events}
use Rattle.gc_table.specs.PlainSteps.{own_section}
use Rattle.gc_table.specs.Rule.{IsPossible}
use Rattle.gc_table.specs.Running.{Ran}
use Rattle.gc_table.specs.Taking.{after}
use Rattle.gc_table.specs.declared.view.Entry.{Entry}
use Rattle.gc_table.specs.declared.view.View.{View}
use Rattle.gc_table.proofs.Running.{ran-events, ran-shape}
use Rattle.packet_pools.specs.Counts.{count_of}
use Rattle.packet_pools.specs.Seeking.{moves_packet, output_pools, some_event}
use Rattle.packet_pools.specs.Seeking.{no_output}
use Rattle.tracer.specs.Moments.{finds_none_to_fill, front}
use Rattle.tracer.specs.declared.traced.Stopped.{Stopped}
use Rattle.tracer.specs.declared.traced.Stopped.TheVariants.{Quota, NoWork, NoPacket}
use Rattle.tracer.specs.declared.traced.Traced.{Traced}
use Rattle.gc_cycle.specs.declared.counts.Paid.{Paid}
use Rattle.gc_cycle.specs.Events.{never, Sort}
use Rattle.cache_refills.specs.Pace.Payment.{is_out_of_room, is_out_of_work, MarksAndTraces, stop_of, StopsTracing, TracesNone, TracesOn}
use Rattle.gc_cycle.specs.Lower.{EndsTrace, HasTraced}
use Rattle.gc_cycle.specs.Moments.{Moment, after_moment, at_some_moment, begins, finds_no_packet, finds_no_room, finds_no_work}
use Rattle.gc_cycle.specs.Roots.{roots_scanned}
use Rattle.gc_cycle.specs.Sorts.{draws, draws_or_clears, pops, reads_pace, reads_root}
use Rattle.gc_cycle.specs.Standing.{Mutates}
use Rattle.gc_cycle.proofs.Stops.Admitted.{count-none, count-run}
use Rattle.gc_cycle.proofs.Searched.{both-widen, room-longer, room-widens, work-longer, work-widens}
use Rattle.gc_cycle.proofs.Sequences.{this-moment}
use Rattle.gc_cycle.proofs.Turns.{later-moment, earlier-moment, roots-left, has-traced}
use Rattle.gc_cycle.proofs.Ends.Finishes.{never-both as never-join}

pub quiet-longer : (f : Sort) (test : Moment → List Entry → Bool) (ys : List Entry) → never f ys ≡ true → ((m : Moment) (es : List Entry) → test m es ≡ true → test m (es ++ ys) ≡ true) → (m : Moment) (es : List Entry) → (never f es && test m es) ≡ true → (never f (es ++ ys) && test m (es ++ ys)) ≡ true
quiet-longer f test ys n g m es h = let p = and_parts (never f es) (test m es) h in and_from _ _ (never-join f es ys p.0 n) (g m es p.1)

-- if there is none like f, none follows any moment
pub quiet-moment : (sh : Shape) (f : Sort) (test : Moment → List Entry → Bool) (es : List Entry) (m : Moment) → never f es ≡ true → at_some_moment sh test m es ≡ true → at_some_moment sh (λ n later. never f later && test n later) m es ≡ true
quiet-moment sh f test [] m n h = h
quiet-moment sh f test (e ∷ es) m n h =
    ⊎_elim
    (λ (a : test m (e ∷ es) ≡ true). or_left (never f (e ∷ es) && test m (e ∷ es)) _ (and_from _ _ n a))
    (λ (b : at_some_moment sh test (after_moment sh m e) es ≡ true).
    or_right (never f (e ∷ es) && test m (e ∷ es)) _ (quiet-moment sh f test es (after_moment sh m e) (ap not (or_parts (f e.step e.found) (some_event f es) (not-true _ n)).1) b))
    (or_cases (test m (e ∷ es)) _ h)

pub moment-map : (sh : Shape) (test other : Moment → List Entry → Bool) → ((m : Moment) (es : List Entry) → test m es ≡ true → other m es ≡ true) → (es : List Entry) (m : Moment) → at_some_moment sh test m es ≡ true → at_some_moment sh other m es ≡ true
moment-map sh test other g [] m h = g m [] h
moment-map sh test other g (e ∷ es) m h =
    ⊎_elim
    (λ (a : test m (e ∷ es) ≡ true). or_left (other m (e ∷ es)) _ (g m (e ∷ es) a))
    (λ (b : at_some_moment sh test (after_moment sh m e) es ≡ true). or_right (other m (e ∷ es)) _ (moment-map sh test other g es (after_moment sh m e) b))
    (or_cases (test m (e ∷ es)) _ h)

none-counted : (n : ℕ) (hs : Slots) → holds_any hs ≡ false → fold (λ (m : ℕ) (h : Slot). m + cond (is_some h) 1 0) n hs ≡ n
none-counted n [] e = refl
none-counted n (None ∷ hs) e = none-counted (n + 0) hs e ∙ same n
  where
    same : (m : ℕ) → m + 0 ≡ m
    same m = omega arith
none-counted n (Some x ∷ hs) e = absurd (true≢false e)

none-held : (hs : Slots) → holds_any hs ≡ false → count_by (λ (h : Slot). is_some h) hs ≡ 0
none-held hs e = none-counted 0 hs e

fill-room : (sh : Shape) (m : Moment) (es : List Entry) → finds_none_to_fill sh m es ≡ true → finds_no_room sh m es ≡ true
fill-room sh m es h =
    let q = and_parts (not (holds_any m.state.held)) (no_output sh (front (moves_packet output_pools) es)) h in
    let none = none-held m.state.held (not-true _ q.0) in
    and_from _ _ (le-leb _ _ (omega (arith, none))) q.1

-- why it stopped is so of both calls
pub stops-later : (s : Stopped) (quota done : ℕ) (u v w : View) → Ran u v → Ran v w → StopsTracing s quota done v w → StopsTracing s quota done u w
stops-later Quota quota done u v w r q h = h
stops-later NoWork quota done u v w r q h =
    (h.0, later-moment (is_out_of_work u.shape) (both-widen (never reads_root) (finds_no_work u.shape) (work-widens u.shape)) u v w r q (subst (λ (sh : Shape). at_some_moment v.shape (is_out_of_work sh) (begins v) (events v w) ≡ true) (ran-shape u v r) h.1))
stops-later NoPacket quota done u v w r q h =
    (h.0, later-moment (is_out_of_room u.shape) (both-widen (never reads_root) (finds_no_room u.shape) (room-widens u.shape)) u v w r q (subst (λ (sh : Shape). at_some_moment v.shape (is_out_of_room sh) (begins v) (events v w) ≡ true) (ran-shape u v r) h.1))

pub stops-longer : (s : Stopped) (quota done : ℕ) (u v w : View) → Ran u v → Ran v w → never reads_root (events v w) ≡ true → StopsTracing s quota done u v → StopsTracing s quota done u w
stops-longer Quota quota done u v w r q n h = h
stops-longer NoWork quota done u v w r q n h =
    (h.0, earlier-moment (is_out_of_work u.shape) u v w (quiet-longer reads_root (finds_no_work u.shape) (events v w) n (work-longer u.shape (events v w))) r q h.1)
stops-longer NoPacket quota done u v w r q n h =
    (h.0, earlier-moment (is_out_of_room u.shape) u v w (quiet-longer reads_root (finds_no_room u.shape) (events v w) n (room-longer u.shape (events v w))) r q h.1)

-- why a trace stopped, after what was done before
pub traced-stops : (s : Stopped) (k before quota : ℕ) (r : Traced) (v w : View) → r.stopped ≡ s → before + k ≡ quota → EndsTrace k r v w → never reads_root (events v w) ≡ true → StopsTracing s quota (before + r.done) v w
traced-stops Quota k before quota r v w e q t n = let a = t.all.0 e in omega (arith, a, q)
traced-stops NoWork k before quota r v w e q t n =
    (λ f. let g : r.stopped ≡ Quota = t.all.1 (omega (arith, f, q)) in let x : NoWork ≡ Quota = sym e ∙ g in absurd (cc x), quiet-moment v.shape reads_root (finds_no_work v.shape) (events v w) (begins v) n (t.no_work e))
traced-stops NoPacket k before quota r v w e q t n = absurd (t.packet e)

-- why nothing was traced
pub none-stops : (quota : ℕ) (v w : View) → finds_no_packet v.shape (begins v) (events v w) ≡ true → never reads_root (events v w) ≡ true → StopsTracing (stop_of quota) quota 0 v w
none-stops quota v w h n = by_test (quota == 0) refl
  where
    by_test : (b : Bool) → (quota == 0) ≡ b → StopsTracing (if b then Quota else NoPacket) quota 0 v w
    by_test true e = sym (eqb-true quota 0 e)
    by_test false e = (
      λ z. absurd (true≢false (sym (eq-eqb quota 0 (sym z)) ∙ e)),
      quiet-moment v.shape reads_root (finds_no_room v.shape) (events v w) (begins v) n
          (moment-map v.shape (finds_none_to_fill v.shape) (finds_no_room v.shape) (fill-room v.shape) (events v w) (begins v)
          (and_parts (at_some_moment v.shape (finds_none_to_fill v.shape) (begins v) (events v w)) _ h).0),
    )

-- it is a mutator's still, with the phase that it read
pub mutates-on : (v w : View) → HasTraced v w → Mutates v → Mutates w
mutates-on v w t m =
    record {
      active = ap (λ (s : SeatState). s.active) t.record_is ∙ m.active;
      unhelping = ap (λ (s : SeatState). s.helping) t.record_is ∙ m.unhelping;
      section = ap (λ (s : SeatState). is_some s.section) t.record_is ∙ m.section;
      rest = t.rest;
    }

pub never-run : (f : Sort) (u v w : View) → Ran u v → Ran v w → never f (events u v) ≡ true → never f (events v w) ≡ true → never f (events u w) ≡ true
never-run f u v w r q a b = ap (never f) (ran-events u v w r q) ∙ never-join f (events u v) (events v w) a b

-- no card was drawn
undrawn : (es : List Entry) → never draws_or_clears es ≡ true → count_of draws es ≡ 0
undrawn es h = count-none draws es (ap not (none-drawn es (not-true _ h)))
  where
    drawn-one : (step : Step) (n : ℕ) → draws_or_clears step n ≡ false → draws step n ≡ false
    drawn-one NextOfCards n k = absurd (true≢false k)
    drawn-one step n k = refl

    none-drawn : (fs : List Entry) → some_event draws_or_clears fs ≡ false → some_event draws fs ≡ false
    none-drawn [] k = refl
    none-drawn (f ∷ fs) k =
        let q = or_parts (draws_or_clears f.step f.found) (some_event draws_or_clears fs) k in or_from (draws f.step f.found) (some_event draws fs) (drawn-one f.step f.found q.0) (none-drawn fs q.1)

-- this many cards were drawn in one call, and this many in the next
looked-join : (j k : ℕ) (u v w : View) → Ran u v → Ran v w → count_of draws (events u v) ≤ j → count_of draws (events v w) ≤ k → count_of draws (events u w) ≤ j + k
looked-join j k u v w r q a b = let both = count-run draws u v w r q in omega (arith, both, a, b)

pub undrawn-few : (es : List Entry) → never draws_or_clears es ≡ true → count_of draws es ≤ 0
undrawn-few es h = let none = undrawn es h in omega (arith, none)

-- a card was cleaned, or no packet was found for it
pub cleaned-none : (v w : View) → HasTraced v w → never pops (events v w) ≡ true → never reads_pace (events v w) ≡ true → never reads_root (events v w) ≡ true → never draws (events v w) ≡ true → TracesNone 0 v w
cleaned-none v w t p r q d = let none = count-none draws (events v w) d in record { traced = t; looked = omega (arith, none); unpopped = p; unread = r; unrooted = q }

-- a trace
pub traces-on : (quota k before : ℕ) (r : Traced) (v w : View) → HasTraced v w → EndsTrace k r v w → r.done ≤ k → before + k ≡ quota → never reads_pace (events v w) ≡ true → never reads_root (events v w) ≡ true → never draws_or_clears (events v w) ≡ true → TracesOn quota before 0 (record { quota = quota; done = before + r.done; stopped = r.stopped }) v w
traces-on quota k before r v w t e m q a b d =
    let none = undrawn (events v w) d in
    record {
      looked = omega (arith, none);
      traced = t;
      quota_is = refl;
      most = omega (arith, m, q);
      done = ap (λ n. before + n) e.done;
      unread = a;
      unrooted = b;
      stops = traced-stops r.stopped k before quota r v w refl q e b;
    }

-- after steps that traced nothing
pub none-traces : (quota before j k : ℕ) (p : Paid) (u v w : View) → TracesNone j u v → TracesOn quota before k p v w → TracesOn quota before (j + k) p u w
none-traces quota before j k p u v w a b =
    let counts = count-run pops u v w a.traced.ran b.traced.ran in
    let none = count-none pops (events u v) a.unpopped in
    let d = b.done in
    record {
      looked = looked-join j k u v w a.traced.ran b.traced.ran a.looked b.looked;
      traced = has-traced u v w a.traced b.traced;
      quota_is = b.quota_is;
      most = b.most;
      done = omega (arith, counts, none, d);
      unread = never-run reads_pace u v w a.traced.ran b.traced.ran a.unread b.unread;
      unrooted = never-run reads_root u v w a.traced.ran b.traced.ran a.unrooted b.unrooted;
      stops = stops-later p.stopped quota p.done u v w a.traced.ran b.traced.ran b.stops;
    }

-- before them
pub traces-none : (quota before j k : ℕ) (p : Paid) (u v w : View) → TracesOn quota before j p u v → TracesNone k v w → TracesOn quota before (j + k) p u w
traces-none quota before j k p u v w a b =
    let counts = count-run pops u v w a.traced.ran b.traced.ran in
    let none = count-none pops (events v w) b.unpopped in
    let d = a.done in
    record {
      looked = looked-join j k u v w a.traced.ran b.traced.ran a.looked b.looked;
      traced = has-traced u v w a.traced b.traced;
      quota_is = a.quota_is;
      most = a.most;
      done = omega (arith, counts, none, d);
      unread = never-run reads_pace u v w a.traced.ran b.traced.ran a.unread b.unread;
      unrooted = never-run reads_root u v w a.traced.ran b.traced.ran a.unrooted b.unrooted;
      stops = stops-longer p.stopped quota p.done u v w a.traced.ran b.traced.ran b.unrooted a.stops;
    }

-- one after another
pub traces-join : (quota before j k : ℕ) (p o : Paid) (u v w : View) → TracesOn quota before j p u v → TracesOn quota p.done k o v w → TracesOn quota before (j + k) o u w
traces-join quota before j k p o u v w a b =
    let counts = count-run pops u v w a.traced.ran b.traced.ran in
    let d = a.done in
    let e = b.done in
    record {
      looked = looked-join j k u v w a.traced.ran b.traced.ran a.looked b.looked;
      traced = has-traced u v w a.traced b.traced;
      quota_is = b.quota_is;
      most = b.most;
      done = omega (arith, counts, d, e);
      unread = never-run reads_pace u v w a.traced.ran b.traced.ran a.unread b.unread;
      unrooted = never-run reads_root u v w a.traced.ran b.traced.ran a.unrooted b.unrooted;
      stops = stops-later o.stopped quota o.done u v w a.traced.ran b.traced.ran b.stops;
    }

-- a larger number of looks
pub traces-within : (quota before j k : ℕ) (p : Paid) (u v : View) → j ≤ k → TracesOn quota before j p u v → TracesOn quota before k p u v
traces-within quota before j k p u v l a =
    let few = a.looked in
    record { traced = a.traced; quota_is = a.quota_is; most = a.most; done = a.done; looked = omega (arith, few, l); unread = a.unread; unrooted = a.unrooted; stops = a.stops }

-- before steps that traced nothing and drew no card
pub traces-quiet : (quota before looks : ℕ) (p : Paid) (u v w : View) → TracesOn quota before looks p u v → TracesNone 0 v w → TracesOn quota before looks p u w
traces-quiet quota before looks p u v w a b = traces-within quota before (looks + 0) looks p u w (omega arith) (traces-none quota before looks 0 p u v w a b)

-- the roots were seen to, and then a quota was traced
pub marks-traces : (section quota looks : ℕ) (p : Paid) (u v w : View) → HasTraced u v → never pops (events u v) ≡ true → never reads_pace (events u v) ≡ true → never draws_or_clears (events u v) ≡ true → roots_scanned section (events u v) ≡ true → TracesOn quota 0 looks p v w
    → MarksAndTraces section quota looks p u w
marks-traces section quota looks p u v w t n r c s b =
    let counts = count-run pops u v w t.ran b.traced.ran in
    let none = count-none pops (events u v) n in
    let d = b.done in
    record {
      looked = let none = undrawn (events u v) c in let all = count-run draws u v w t.ran b.traced.ran in let few = b.looked in omega (arith, none, all, few);
      traced = has-traced u v w t b.traced;
      roots = or_left (roots_scanned section (events u w)) _ (ap (roots_scanned section) (ran-events u v w t.ran b.traced.ran) ∙ roots-left section (events u v) (events v w) s);
      quota_is = b.quota_is;
      most = b.most;
      done = omega (arith, counts, none, d);
      unread = never-run reads_pace u v w t.ran b.traced.ran r b.unread;
      stops = stops-later p.stopped quota p.done u v w t.ran b.traced.ran b.stops;
    }

-- no packet could be taken
pub marks-none : (section quota looks : ℕ) (u v : View) → HasTraced u v → never pops (events u v) ≡ true → never reads_pace (events u v) ≡ true → never draws_or_clears (events u v) ≡ true → finds_no_packet u.shape (begins u) (events u v) ≡ true → never reads_root (events u v) ≡ true
    → MarksAndTraces section quota looks (record { quota = quota; done = 0; stopped = stop_of quota }) u v
marks-none section quota looks u v t n r c h b =
    record {
      looked = let none = undrawn (events u v) c in omega (arith, none);
      traced = t;
      roots = or_right (roots_scanned section (events u v)) _ (this-moment u.shape (finds_no_packet u.shape) (events u v) (begins u) h);
      quota_is = refl;
      most = omega arith;
      done = count-none pops (events u v) n;
      unread = r;
      stops = none-stops quota u v h b;
    }

-- a mutator has a section of the heap
inside : (b : Bool) (i n : ℕ) (o : Option ℕ) → nat_lt i n ≡ b → o ≡ (if b then Some i else None) → is_some o ≡ true → nat_lt (unwrap_or o 0) n ≡ true
inside true i n o e h s = ap (λ (x : Option ℕ). nat_lt (unwrap_or x 0) n) h ∙ e
inside false i n o e h s = absurd (false≢true (sym (ap (λ (x : Option ℕ). is_some x) h) ∙ s))

pub section-below : (v : View) → ∥ IsPossible v ∥₁ → is_some v.state.section ≡ true → own_section v.state < v.shape.sections
section-below v p s =
    ltb-true (own_section v.state) v.shape.sections
    (∥∥₁_elim p (Prim.hlevel props)
    (λ (q : IsPossible v).
    subst (λ (sh : Shape). nat_lt (own_section v.state) sh.sections ≡ true) (sym q.agrees.shape)
    (inside (nat_lt q.index q.state.core.shape.sections) q.index q.state.core.shape.sections v.state.section refl (q.whole.core.formed.seats q.index v.state q.agrees.seat).section s)))
