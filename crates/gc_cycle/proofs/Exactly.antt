-- A collection in steps that is precise, and the part of it that sweeps.
use Rattle.std.proofs.Common.{◌≡◌, List, [], ◌∷◌, ◌++◌, refl, sym, ap, ◌∙◌, subst, true, ◌&&◌, ⊎_elim}
use Rattle.std.proofs.lemmas.Bool.{and_from, and_parts, false≢true, or_cases, or_left, or_right}
use Rattle.mark_core.specs.declared.kinds.Phase.{Phase}
use Rattle.mark_core.specs.declared.kinds.Phase.TheVariants.{Idle, Sweep}
use Rattle.mark_core.specs.declared.kinds.Shape.{Shape}
use Rattle.mark_core.specs.declared.kinds.Step.TheVariants.{StorePhase}
use Rattle.mark_core.specs.declared.seat.SeatState.{SeatState}
use Rattle.gc_table.specs.declared.view.Entry.{Entry}
use Rattle.gc_table.specs.declared.view.View.{View}
use Rattle.gc_table.specs.Log.{event, events}
use Rattle.gc_table.specs.Running.{Ran}
use Rattle.gc_table.proofs.Running.{ran-events, ran-join, ran-shape}
use Rattle.packet_pools.specs.Seeking.{some_event}
use Rattle.packet_pools.proofs.Searches.{some-left, some-right}
use Rattle.gc_cycle.specs.Cycles.{collects_exactly, ends_exactly}
use Rattle.gc_cycle.specs.Finishing.{BeginsExactly, IsMove, IsPart}
use Rattle.gc_cycle.specs.Moments.{Moment, after_moment, at_some_moment, begins}
use Rattle.gc_cycle.specs.Sorts.{begins_exactly, ends_cycle}
use Rattle.gc_cycle.proofs.Ends.Completing.{move-exact, part-exact}
use Rattle.gc_cycle.proofs.Sequences.{moments, moments-state, some-moment-later, this-moment}
use Rattle.gc_cycle.specs.Stepping.{IsExactSince}

-- a part of the drain
pub exact-part : (p : Phase) (u v w : View) → IsPart p v w → IsExactSince u v → IsExactSince u w
exact-part p u v w h k =
    record {
      ran = ran-join u v w k.ran h.ran;
      began = ap (some_event begins_exactly) (ran-events u v w k.ran h.ran) ∙ some-left begins_exactly (events u v) (events v w) k.began;
      exact = part-exact p v w h ∙ k.exact;
    }

-- it began, after whatever was done before
pub exact-begun : (u v w : View) → Ran u v → Ran v w → some_event begins_exactly (events v w) ≡ true → w.state.exact ≡ true → IsExactSince u w
exact-begun u v w r q b e = record { ran = ran-join u v w r q; began = ap (some_event begins_exactly) (ran-events u v w r q) ∙ some-right begins_exactly (events u v) (events v w) b; exact = e }

-- it began again with no cell marked
pub exact-again : (v w : View) → BeginsExactly v w → some_event begins_exactly (events v w) ≡ true
exact-again v w b =
    ap (some_event begins_exactly) b.all ∙ some-right begins_exactly b.before (b.move ∷ b.rest) (or_left (begins_exactly b.move.step b.move.found) (some_event begins_exactly b.rest) b.begins)

collects-since : (sh : Shape) (xs ys : List Entry) (m : Moment) → some_event begins_exactly xs ≡ true → at_some_moment sh ends_exactly (moments sh m xs) ys ≡ true → collects_exactly sh m (xs ++ ys) ≡ true
collects-since sh [] ys m b h = absurd (false≢true b)
collects-since sh (x ∷ xs) ys m b h =
    ⊎_elim
    (λ (a : begins_exactly x.step x.found ≡ true).
    or_left (begins_exactly x.step x.found && at_some_moment sh ends_exactly (after_moment sh m x) (xs ++ ys)) (collects_exactly sh (after_moment sh m x) (xs ++ ys))
    (and_from _ _ a (some-moment-later sh ends_exactly xs ys (after_moment sh m x) h)))
    (λ (a : some_event begins_exactly xs ≡ true).
    or_right (begins_exactly x.step x.found && at_some_moment sh ends_exactly (after_moment sh m x) (xs ++ ys)) (collects_exactly sh (after_moment sh m x) (xs ++ ys)) (collects-since sh xs ys (after_moment sh m x) a h))
    (or_cases (begins_exactly x.step x.found) (some_event begins_exactly xs) b)

-- a cycle that began so ended so, over all steps since then
pub exact-since : (u v w : View) → IsExactSince u v → Ran v w → ((m : Moment) → m.state ≡ v.state → at_some_moment v.shape ends_exactly m (events v w) ≡ true) → collects_exactly u.shape (begins u) (events u w) ≡ true
exact-since u v w k r h =
    let sh : Shape = u.shape in
    let m : Moment = moments sh (begins u) (events u v) in
    let state : m.state ≡ v.state = moments-state u (begins u) (events u v) refl ∙ ap (λ (x : View). x.state) (sym k.ran.steps) in
    ap (collects_exactly sh (begins u)) (ran-events u v w k.ran r)
    ∙ collects-since sh (events u v) (events v w) (begins u) k.began (subst (λ (s : Shape). at_some_moment s ends_exactly m (events v w) ≡ true) (ran-shape u v k.ran) (h m state))

-- a cycle that ended exactly by these events did so by more events after them
ends-earlier : (sh : Shape) (m : Moment) (es ys : List Entry) → at_some_moment sh ends_exactly m es ≡ true → at_some_moment sh ends_exactly m (es ++ ys) ≡ true
ends-earlier sh m [] ys h = absurd (false≢true h)
ends-earlier sh m (e ∷ es) ys h =
    ⊎_elim
    (λ (a : ends_exactly m (e ∷ es) ≡ true). or_left (m.state.exact && ends_cycle e.step e.found) (at_some_moment sh ends_exactly (after_moment sh m e) (es ++ ys)) a)
    (λ (b : at_some_moment sh ends_exactly (after_moment sh m e) es ≡ true).
    or_right (m.state.exact && ends_cycle e.step e.found) (at_some_moment sh ends_exactly (after_moment sh m e) (es ++ ys)) (ends-earlier sh (after_moment sh m e) es ys b))
    (or_cases (ends_exactly m (e ∷ es)) (at_some_moment sh ends_exactly (after_moment sh m e) es) h)

exactly-earlier : (sh : Shape) (m : Moment) (es ys : List Entry) → collects_exactly sh m es ≡ true → collects_exactly sh m (es ++ ys) ≡ true
exactly-earlier sh m [] ys h = absurd (false≢true h)
exactly-earlier sh m (e ∷ es) ys h =
    ⊎_elim
    (λ (a : (begins_exactly e.step e.found && at_some_moment sh ends_exactly (after_moment sh m e) es) ≡ true).
    or_left (begins_exactly e.step e.found && at_some_moment sh ends_exactly (after_moment sh m e) (es ++ ys)) (collects_exactly sh (after_moment sh m e) (es ++ ys))
    (let p = and_parts (begins_exactly e.step e.found) (at_some_moment sh ends_exactly (after_moment sh m e) es) a in and_from _ _ p.0 (ends-earlier sh (after_moment sh m e) es ys p.1)))
    (λ (b : collects_exactly sh (after_moment sh m e) es ≡ true).
    or_right (begins_exactly e.step e.found && at_some_moment sh ends_exactly (after_moment sh m e) (es ++ ys)) (collects_exactly sh (after_moment sh m e) (es ++ ys)) (exactly-earlier sh (after_moment sh m e) es ys b))
    (or_cases (begins_exactly e.step e.found && at_some_moment sh ends_exactly (after_moment sh m e) es) (collects_exactly sh (after_moment sh m e) es) h)

pub exact-more : (sh : Shape) (u v w : View) → Ran u v → Ran v w → collects_exactly sh (begins u) (events u v) ≡ true → collects_exactly sh (begins u) (events u w) ≡ true
exact-more sh u v w r q h = ap (collects_exactly sh (begins u)) (ran-events u v w r q) ∙ exactly-earlier sh (begins u) (events u v) (events v w) h

-- a move of the phase
pub exact-move : (from to : Phase) (u v w : View) → IsMove from to v w → IsExactSince u v → IsExactSince u w
exact-move from to u v w m k =
    record {
      ran = ran-join u v w k.ran m.ran;
      began = ap (some_event begins_exactly) (ran-events u v w k.ran m.ran) ∙ some-left begins_exactly (events u v) (events v w) k.began;
      exact = move-exact from to v w m k.exact;
    }

-- the cycle ended, in a stop that began exactly
pub ends-now : (v w x : View) → IsMove Sweep Idle v w → IsPart Idle w x → v.state.exact ≡ true → (m : Moment) → m.state ≡ v.state → at_some_moment v.shape ends_exactly m (events v x) ≡ true
ends-now v w x h p e m same =
    let all : events v x ≡ event (StorePhase Idle) 3 ∷ events w x = ran-events v w x h.ran p.ran ∙ ap (λ es. es ++ events w x) (h.events_are ∙ ap (λ n. event (StorePhase Idle) n ∷ []) h.from_is) in
    ap (at_some_moment v.shape ends_exactly m) all
    ∙ this-moment v.shape ends_exactly (event (StorePhase Idle) 3 ∷ events w x) m (and_from _ _ (ap (λ (s : SeatState). s.exact) same ∙ e) refl)
