-- How much is done at a time, put together out of calls.
use Rattle.std.proofs.Common.{ℕ, ◌≡◌, List, [], ◌∷◌, arith, refl, sym, ap, ◌∙◌, subst, true, false, ⊎_elim, ◌++◌, Bool, not, ◌&&◌, ◌||◌}
use Rattle.std.specs.Prelude.{nat_le}
use Rattle.std.proofs.lemmas.Bool.{le-leb, leb-true, not-true, or_cases, or_from, or_left, or_parts, or_right, and_from, and_parts, true≢false}
use Rattle.mark_core.specs.declared.kinds.Shape.{Shape}
use Rattle.mark_core.specs.declared.kinds.Step.{Step}
use Rattle.mark_core.specs.declared.kinds.Step.TheVariants.{JoinHelpStep, Observe}
use Rattle.gc_table.specs.Log.{event, events}
use Rattle.gc_table.specs.Running.{Ran}
use Rattle.gc_table.specs.Taking.{after}
use Rattle.gc_table.specs.declared.view.View.{View}
use Rattle.gc_table.proofs.History.Log.{events-after, events-none}
use Rattle.gc_table.proofs.Running.{ran-events, ran-join, ran-refl, ran-shape, ran-only}
use Rattle.packet_pools.specs.Counts.{count_of}
use Rattle.tracer.specs.Recycling.{Recycled}
use Rattle.tracer.specs.declared.traced.Stopped.{Stopped}
use Rattle.tracer.specs.declared.traced.Stopped.TheVariants.{NoPacket, NoWork, Quota}
use Rattle.tracer.specs.declared.traced.RootScan.{RootScan}
use Rattle.tracer.specs.declared.traced.RootScan.TheVariants as roots
use Rattle.tracer.specs.declared.traced.Traced.{Traced}
use Rattle.gc_cycle.specs.Events.{Sort, never}
use Rattle.gc_cycle.specs.Lower.{EndsTrace, ScansRoots, HasTraced, traces_or_cleans}
use Rattle.gc_cycle.specs.Moments.{at_some_moment, begins, finds_no_packet, finds_no_work, Moment}
use Rattle.gc_cycle.specs.Roots.{roots_scanned, root_marked}
use Rattle.gc_cycle.specs.Sorts.{joins, lets_in, pops}
use Rattle.gc_cycle.specs.RoundParts.{BringsBack}
use Rattle.gc_cycle.specs.Turns.{DrainsFor, HelpsBetween, HelpsInTurns, SeesToRoots, StaysApart, WaitsBetween, WaitsInTurns}
use Rattle.gc_cycle.proofs.Stops.Admitted.{count-run, late, longer}
use Rattle.gc_cycle.proofs.Searched.{work-longer, work-widens, front-more, moment-wider, Widens}
use Rattle.gc_cycle.proofs.Sequences.{this-moment}
use Rattle.gc_cycle.proofs.Ends.Finishes.{never-both as never-join}
use Rattle.std.specs.List.{range_with_len}
use Rattle.mark_core.specs.Held.{holds_any}
use Rattle.mark_core.specs.Numbers.{section_variables}
use Rattle.mark_core.specs.declared.seat.SeatState.{SeatState}
use Rattle.gc_table.specs.declared.view.Entry.{Entry}
use Rattle.packet_pools.specs.Seeking.{input_pools, moves_packet, output_pools, no_input, no_output, some_event}
use Rattle.tracer.specs.Moments.{finds_none_to_fill, finds_none_to_read, front}
use Rattle.tracer.proofs.RootScans.{seen-left, seen-right}
use Rattle.packet_pools.proofs.Searches.{all-more, no-input-left, no-output-left}

-- What holds at a moment of one call holds of it and a further call together.
-- a moment of a later call is one of both
pub later-moment : (test : Moment → List Entry → Bool) → Widens test → (u v w : View) → Ran u v → Ran v w → at_some_moment v.shape test (begins v) (events v w) ≡ true → at_some_moment u.shape test (begins u) (events u w) ≡ true
later-moment test d u v w r q h = late test (λ s ps qs es sub k. d.wider (record { state = s; deferring = ps }) (record { state = s; deferring = qs }) es refl sub k) u v w r q h

-- a moment of an earlier call is one of both calls
pub earlier-moment : (test : Moment → List Entry → Bool) (u v w : View) → ((m : Moment) (es : List Entry) → test m es ≡ true → test m (es ++ events v w) ≡ true) → Ran u v → Ran v w → at_some_moment u.shape test (begins u) (events u v) ≡ true → at_some_moment u.shape test (begins u) (events u w) ≡ true
earlier-moment test u v w g r q h = ap (at_some_moment u.shape test (begins u)) (ran-events u v w r q) ∙ longer u.shape test (events v w) g (events u v) (begins u) h

-- no packet could be taken
fill-widens : (sh : Shape) → Widens (finds_none_to_fill sh)
fill-widens sh = record { wider = λ n m es e a h. subst (λ (s : SeatState). (not (holds_any s.held) && no_output sh (front (moves_packet output_pools) es)) ≡ true) e h }

read-widens : (sh : Shape) → Widens (finds_none_to_read sh)
read-widens sh = record { wider = λ n m es e a h. subst (λ (s : SeatState). (not (holds_any s.held) && no_input sh (front (moves_packet input_pools) es)) ≡ true) e h }

pub packet-widens : (sh : Shape) → Widens (finds_no_packet sh)
packet-widens sh =
    record {
      wider = λ n m es e a h.
          let q = and_parts (at_some_moment sh (finds_none_to_fill sh) n es) (at_some_moment sh (finds_none_to_read sh) n es) h in
          and_from _ _ (moment-wider sh (finds_none_to_fill sh) (fill-widens sh) es n m e a q.0) (moment-wider sh (finds_none_to_read sh) (read-widens sh) es n m e a q.1);
    }

fill-longer : (sh : Shape) (ys : List Entry) (m : Moment) (xs : List Entry) → finds_none_to_fill sh m xs ≡ true → finds_none_to_fill sh m (xs ++ ys) ≡ true
fill-longer sh ys m xs h =
    let q = and_parts (not (holds_any m.state.held)) (no_output sh (front (moves_packet output_pools) xs)) h in
    let f = front-more (moves_packet output_pools) xs ys in
    and_from _ _ q.0 (ap (no_output sh) f.1 ∙ no-output-left sh (front (moves_packet output_pools) xs) f.0 q.1)

read-longer : (sh : Shape) (ys : List Entry) (m : Moment) (xs : List Entry) → finds_none_to_read sh m xs ≡ true → finds_none_to_read sh m (xs ++ ys) ≡ true
read-longer sh ys m xs h =
    let q = and_parts (not (holds_any m.state.held)) (no_input sh (front (moves_packet input_pools) xs)) h in
    let f = front-more (moves_packet input_pools) xs ys in
    and_from _ _ q.0 (ap (no_input sh) f.1 ∙ no-input-left sh (front (moves_packet input_pools) xs) f.0 q.1)

pub packet-longer : (sh : Shape) (ys : List Entry) (m : Moment) (xs : List Entry) → finds_no_packet sh m xs ≡ true → finds_no_packet sh m (xs ++ ys) ≡ true
packet-longer sh ys m xs h =
    let q = and_parts (at_some_moment sh (finds_none_to_fill sh) m xs) (at_some_moment sh (finds_none_to_read sh) m xs) h in
    and_from _ _ (longer sh (finds_none_to_fill sh) ys (fill-longer sh ys) xs m q.0) (longer sh (finds_none_to_read sh) ys (read-longer sh ys) xs m q.1)

-- the roots stay seen to among more events
pub roots-left : (s : ℕ) (xs ys : List Entry) → roots_scanned s xs ≡ true → roots_scanned s (xs ++ ys) ≡ true
roots-left s xs ys h = all-more (λ v. root_marked s v xs) (λ v. root_marked s v (xs ++ ys)) (λ v k. seen-left s v xs ys k) (range_with_len 0 section_variables) h

pub roots-right : (s : ℕ) (xs ys : List Entry) → roots_scanned s ys ≡ true → roots_scanned s (xs ++ ys) ≡ true
roots-right s xs ys h = all-more (λ v. root_marked s v ys) (λ v. root_marked s v (xs ++ ys)) (λ v k. seen-right s v xs ys k) (range_with_len 0 section_variables) h

-- a seat that traced twice
pub has-traced : (u v w : View) → HasTraced u v → HasTraced v w → HasTraced u w
has-traced u v w a b =
    record {
      ran = ran-join u v w a.ran b.ran;
      only = ran-only traces_or_cleans u v w a.ran b.ran a.only b.only;
      rest = b.rest;
      record_is = b.record_is ∙ (λ i. record (a.record_is i) { below_card = w.state.below_card });
      rooted = λ k. b.rooted (a.rooted k);
    }

-- a trace, by how it stopped
pub traced-for : (s : Stopped) (quota : ℕ) (r : Traced) (v w : View) → r.stopped ≡ s → EndsTrace quota r v w → DrainsFor quota v w
traced-for Quota quota r v w e t = let all = t.all.0 e in let done = t.done in or_left _ _ (le-leb quota (count_of pops (events v w)) (omega (arith, all, done)))
traced-for NoWork quota r v w e t = or_right _ _ (t.no_work e)
traced-for NoPacket quota r v w e t = absurd (t.packet e)

-- it is so of all calls if it is so of one of them
pub drained-within : (quota : ℕ) (u v w x : View) → Ran u v → Ran v w → Ran w x → DrainsFor quota v w → DrainsFor quota u x
drained-within quota u v w x a b d h =
    ⊎_elim
    (λ (k : nat_le quota (count_of pops (events v w)) ≡ true).
    let some = leb-true quota (count_of pops (events v w)) k in
    let first = count-run pops u v x a (ran-join v w x b d) in
    let second = count-run pops v w x b d in
    or_left _ _ (le-leb quota (count_of pops (events u x)) (omega (arith, some, first, second))))
    (λ (k : at_some_moment v.shape (finds_no_work v.shape) (begins v) (events v w) ≡ true).
    or_right _ _
    (later-moment (finds_no_work u.shape) (work-widens u.shape) u v x a (ran-join v w x b d)
    (subst (λ (sh : Shape). at_some_moment v.shape (finds_no_work sh) (begins v) (events v x) ≡ true) (ran-shape u v a)
    (earlier-moment (finds_no_work v.shape) v w x (work-longer v.shape (events w x)) b d k))))
    (or_cases (nat_le quota (count_of pops (events v w))) _ h)

-- a trace among other calls
pub traced-within : (quota : ℕ) (r : Traced) (u v w x : View) → Ran u v → Ran v w → Ran w x → EndsTrace quota r v w → DrainsFor quota u x
traced-within quota r u v w x a b d t = drained-within quota u v w x a b d (traced-for r.stopped quota r v w refl t)

-- what was deferred was brought back, and then more was done
pub brings-back : (sh : Shape) (n : ℕ) (v w x : View) → v.shape ≡ sh → Ran v w → Recycled sh n (events v w) → Ran w x → BringsBack v x
brings-back sh n v w x e a r b = record { brought = w; first = a; count = n; brings = subst (λ (s : Shape). Recycled s n (events v w)) (sym e) r; last = b }

-- a scan of a section's roots, by its answer
pub roots-scanned : (section : ℕ) (r : RootScan) (v w : View) → ScansRoots section r v w → SeesToRoots section v w
roots-scanned section (roots.Done marked) v w s = or_left _ _ s
roots-scanned section roots.NoPacket v w s = or_right (roots_scanned section (events v w)) _ (this-moment v.shape (finds_no_packet v.shape) (events v w) (begins v) s.0)

-- it is so of two calls if it is so of the first
pub roots-earlier : (section : ℕ) (u v w : View) → Ran u v → Ran v w → SeesToRoots section u v → SeesToRoots section u w
roots-earlier section u v w a b h =
    ⊎_elim
    (λ (k : roots_scanned section (events u v) ≡ true). or_left _ _ (ap (roots_scanned section) (ran-events u v w a b) ∙ roots-left section (events u v) (events v w) k))
    (λ (k : at_some_moment u.shape (finds_no_packet u.shape) (begins u) (events u v) ≡ true).
    or_right (roots_scanned section (events u w)) _ (earlier-moment (finds_no_packet u.shape) u v w (packet-longer u.shape (events v w)) a b k))
    (or_cases (roots_scanned section (events u v)) _ h)

-- two calls saw to the roots if the second did
pub roots-later : (section : ℕ) (u v w : View) → Ran u v → Ran v w → SeesToRoots section v w → SeesToRoots section u w
roots-later section u v w a b h =
    ⊎_elim
    (λ (k : roots_scanned section (events v w) ≡ true). or_left _ _ (ap (roots_scanned section) (ran-events u v w a b) ∙ roots-right section (events u v) (events v w) k))
    (λ (k : at_some_moment v.shape (finds_no_packet v.shape) (begins v) (events v w) ≡ true).
    or_right (roots_scanned section (events u w)) _
    (later-moment (finds_no_packet u.shape) (packet-widens u.shape) u v w a b (subst (λ (sh : Shape). at_some_moment v.shape (finds_no_packet sh) (begins v) (events v w) ≡ true) (ran-shape u v a) k)))
    (or_cases (roots_scanned section (events v w)) _ h)

-- a seat that does nothing joins nobody
pub apart-none : (v : View) → StaysApart v v
apart-none v = record { ran = ran-refl v; apart = ap (never joins) (events-none v) }

pub apart-join : (u v w : View) → StaysApart u v → StaysApart v w → StaysApart u w
apart-join u v w a b = record { ran = ran-join u v w a.ran b.ran; apart = ap (never joins) (ran-events u v w a.ran b.ran) ∙ never-join joins (events u v) (events v w) a.apart b.apart }

-- a look whether a stop is under way joins no helpers
pub apart-look : (v w : View) (n : ℕ) → Ran v w → w ≡ after Observe n v → StaysApart v w
apart-look v w n r e = record { ran = r; apart = ap (never joins) (events-after v w Observe n e) }

or_false : (b : Bool) → (b || false) ≡ b
or_false true = refl
or_false false = refl

-- an event of one of two calls
some-both : (f : Sort) (xs ys : List Entry) → some_event f (xs ++ ys) ≡ (some_event f xs || some_event f ys)
some-both f [] ys = refl
some-both f (x ∷ xs) ys = ap (λ (b : Bool). f x.step x.found || b) (some-both f xs ys) ∙ associates (f x.step x.found) (some_event f xs) (some_event f ys)
  where
    associates : (a b c : Bool) → (a || (b || c)) ≡ ((a || b) || c)
    associates true b c = refl
    associates false b c = refl

-- the turns of a wait so far, and then more of it
pub between-join : (quota : ℕ) (start : View) (ts ss : List (View × View)) (u v w : View) → HelpsBetween quota start ts u v → HelpsBetween quota start ss v w → (rs : List (View × View)) × HelpsBetween quota start rs u w
between-join quota start [] [] u v w a b = ([], apart-join u v w a b)
between-join quota start [] (s ∷ ss) u v w a b = (s ∷ ss, (apart-join u v s.0 a b.0, b.1, b.2))
between-join quota start (t ∷ ts) ss u v w a b = let r = between-join quota start ts ss t.1 v w a.2 b in (t ∷ r.0, (a.0, a.1, r.1))

-- the waits of one call, and then those of another
waits-join : (ts ss : List (View × View)) (u v w : View) → WaitsBetween ts u v → WaitsBetween ss v w → (rs : List (View × View)) × WaitsBetween rs u w
waits-join [] [] u v w a b = ([], apart-join u v w a b)
waits-join [] (s ∷ ss) u v w a b = (s ∷ ss, (apart-join u v s.0 a b.0, b.1, b.2))
waits-join (t ∷ ts) ss u v w a b = let r = waits-join ts ss t.1 v w a.2 b in (t ∷ r.0, (a.0, a.1, r.1))

pub turns-join : (u v w : View) → HelpsInTurns u v → HelpsInTurns v w → HelpsInTurns u w
turns-join u v w a b = waits-join a.0 b.0 u v w a.1 b.1

pub turns-none : (v w : View) → StaysApart v w → HelpsInTurns v w
turns-none v w a = ([], a)

-- whether the seat was let in since the wait began
lets-join : (step : Step) (n : ℕ) → joins step n ≡ false → lets_in step n ≡ false
lets-join JoinHelpStep n e = absurd (true≢false e)
lets-join step n e = refl

pub unjoined : (es : List Entry) → never joins es ≡ true → some_event lets_in es ≡ false
unjoined [] h = refl
unjoined (e ∷ es) h =
    let p = or_parts (joins e.step e.found) (some_event joins es) (not-true _ h) in or_from (lets_in e.step e.found) (some_event lets_in es) (lets-join e.step e.found p.0) (unjoined es (ap not p.1))

pub first-looked : (u v w : View) (n : ℕ) → Ran u v → Ran v w → w ≡ after Observe n v → never lets_in (events u w) ≡ never lets_in (events u v)
first-looked u v w n r q e =
    ap (never lets_in) (ran-events u v w r q ∙ ap (λ es. events u v ++ es) (events-after v w Observe n e)) ∙ ap not (some-both lets_in (events u v) (event Observe n ∷ []) ∙ or_false (some_event lets_in (events u v)))

pub first-turned : (cards helped : Bool) (xs ys zs : List Entry) → cards ≡ never lets_in xs → some_event lets_in ys ≡ helped → some_event lets_in zs ≡ false → (cards && not helped) ≡ never lets_in (xs ++ (ys ++ zs))
first-turned cards helped xs ys zs a b z =
    (λ i. a i && not (sym b i))
    ∙ (both (some_event lets_in xs) (some_event lets_in ys)
    ∙ sym (ap not (some-both lets_in xs (ys ++ zs) ∙ ap (λ (c : Bool). some_event lets_in xs || c) (some-both lets_in ys zs ∙ (ap (λ (c : Bool). some_event lets_in ys || c) z ∙ or_false (some_event lets_in ys))))))
  where
    both : (b c : Bool) → (not b && not c) ≡ not (b || c)
    both true c = refl
    both false c = refl

pub turns-waited : (v w : View) → WaitsInTurns v w → HelpsInTurns v w
turns-waited v w h = ((v, w) ∷ [], (apart-none v, h, apart-none w))
