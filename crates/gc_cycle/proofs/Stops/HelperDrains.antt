-- What a helper has done, as it goes on.
use Rattle.std.proofs.Common.{ℕ, ◌≡◌, ◌≤◌, ◌+◌, zero-add, ◌++◌, arith, refl, sym, ap, ◌∙◌, subst, Bool, true, false, ◌&&◌, ◌||◌, ⊎_elim, Some}
use Rattle.std.specs.Prelude.{is_none, nat_le}
use Rattle.mark_core.specs.Numbers.{empty_offset}
use Rattle.packet_pools.specs.Counts.{count_of}
use Rattle.gc_cycle.specs.Helping.{PassesAll, PassesFirst, PassesIf, help_looks, waited}
use Rattle.std.proofs.lemmas.Bool.{le-leb, leb-true, or_cases, or_left, or_right}
use Rattle.mark_core.specs.Seats.{saw}
use Rattle.mark_core.specs.declared.kinds.Phase.TheVariants.{Drain, Sweep}
use Rattle.mark_core.specs.declared.kinds.Shape.{Shape}
use Rattle.mark_core.specs.declared.seat.SeatState.{SeatState}
use Rattle.gc_table.specs.declared.view.View.{View}
use Rattle.gc_table.specs.Log.{events}
use Rattle.gc_table.specs.Running.{Ran}
use Rattle.gc_table.proofs.Running.{ran-events, ran-join, ran-only, ran-shape}
use Rattle.packet_pools.specs.Seeking.{some_event}
use Rattle.packet_pools.proofs.Searches.{some-right}
use Rattle.gc_cycle.specs.Events.{never}
use Rattle.gc_cycle.specs.Lower.{EndsTrace, HasTraced, traces_or_cleans}
use Rattle.gc_cycle.specs.Moments.{at_some_moment, begins, finds_no_room}
use Rattle.card_clean.specs.Leaving.{rescans, rescanned_in}
use Rattle.tracer.specs.declared.traced.Stopped.{Stopped}
use Rattle.tracer.specs.declared.traced.Stopped.TheVariants as stops
use Rattle.tracer.specs.declared.traced.Traced.{Traced}
use Rattle.gc_cycle.specs.declared.counts.Helped.{Helped}
use Rattle.gc_cycle.specs.declared.counts.HelpEnd.{HelpEnd}
use Rattle.gc_cycle.specs.declared.counts.HelpEnd.TheVariants.{Quota, NoWork, NoPacket, Swept}
use Rattle.gc_cycle.specs.Draining.{DrainsOn, EndsAt, HelpsOn, StopsFor, end_as, is_idle_now}
use Rattle.gc_cycle.specs.Sorts.{draws_or_clears, passes_card, pops, reads_count, sees_all_empty}
use Rattle.gc_cycle.proofs.Stops.OutAndIn.{no-cache}
use Rattle.gc_cycle.specs.Standing.{Helps}
use Rattle.gc_cycle.proofs.Traced.{rest-nothing}
use Rattle.gc_cycle.proofs.Ends.Completing.{total-run}
use Rattle.gc_cycle.proofs.Stops.Admitted.{count-none, count-run, idle-grows, idle-longer, late, longer, room-grows, traced-idle, unpassed-uncleared}

-- a helper that traced is one still
pub traced-helps : (v w : View) → Helps v → HasTraced v w → DrainsOn v w
traced-helps v w h t =
    let seen : w.state.phase_seen ≡ v.state.phase_seen = ap (λ (s : SeatState). s.phase_seen) t.record_is in
    record {
      ran = t.ran;
      only = t.only;
      helps =
          record {
            admitted = ap (λ (s : SeatState). s.admitted) t.record_is ∙ h.admitted;
            phase = ap (λ o. saw o Drain || saw o Sweep) seen ∙ h.phase;
            rest = rest-nothing w.shape w.state t.rest (ap (λ (s : SeatState). is_none s.cache) t.record_is ∙ ap (λ o. is_none o) (no-cache v.shape v.state h.rest));
          };
      phase = seen;
    }

pub drains-join : (u v w : View) → DrainsOn u v → DrainsOn v w → DrainsOn u w
drains-join u v w a b = record { ran = ran-join u v w a.ran b.ran; only = ran-only traces_or_cleans u v w a.ran b.ran a.only b.only; helps = b.helps; phase = b.phase ∙ a.phase }

-- why it stopped is so of both calls
stops-later : (h : HelpEnd) (quota done : ℕ) (u v w : View) → Ran u v → Ran v w → StopsFor h quota done v w → StopsFor h quota done u w
stops-later Quota quota done u v w r q s = s
stops-later NoWork quota done u v w r q s =
    (s.0, late (is_idle_now u.shape) (idle-grows u.shape) u v w r q (subst (λ (sh : Shape). at_some_moment v.shape (is_idle_now sh) (begins v) (events v w) ≡ true) (ran-shape u v r) s.1))
stops-later NoPacket quota done u v w r q s =
    (s.0, late (finds_no_room u.shape) (room-grows u.shape) u v w r q (subst (λ (sh : Shape). at_some_moment v.shape (finds_no_room sh) (begins v) (events v w) ≡ true) (ran-shape u v r) s.1))
stops-later Swept quota done u v w r q s = s

-- how a trace ended
trace-stops : (s : Stopped) (k before quota : ℕ) (r : Traced) (v w : View) → r.stopped ≡ s → before + k ≡ quota → r.done ≤ k → EndsTrace k r v w → never draws_or_clears (events v w) ≡ true → StopsFor (end_as s) quota (before + r.done) v w
trace-stops stops.Quota k before quota r v w e q m t n = let a = t.all.0 e in omega (arith, a, q)
trace-stops stops.NoWork k before quota r v w e q m t n =
    (λ f. let g : r.stopped ≡ stops.Quota = t.all.1 (omega (arith, f, q)) in let x : stops.NoWork ≡ stops.Quota = sym e ∙ g in absurd (cc x), traced-idle v.shape (events v w) (begins v) n (t.no_work e))
trace-stops stops.NoPacket k before quota r v w e q m t n = absurd (t.packet e)

-- the first trace
pub traced-first : (quota : ℕ) (r : Traced) (v w : View) → Helps v → HasTraced v w → EndsTrace quota r v w → r.done ≤ quota → rescanned_in v (events v w) ≡ 0 → never draws_or_clears (events v w) ≡ true → HelpsOn quota (record { traced = r.done; rescanned = 0; swept = 0; ended = end_as r.stopped }) v w
traced-first quota r v w h a t m z u =
    record {
      drained = traced-helps v w h a;
      traced = t.done;
      rescanned = z;
      swept = refl;
      most = m;
      stops = subst (λ n. StopsFor (end_as r.stopped) quota n v w) (zero-add r.done) (trace-stops r.stopped quota 0 quota r v w refl (zero-add quota) m t u);
    }

-- a further trace
pub helped-traced : (quota k : ℕ) (before : Helped) (r : Traced) (u v w : View) → HelpsOn quota before u v → HasTraced v w → EndsTrace k r v w → r.done ≤ k → before.traced + k ≡ quota → rescanned_in v (events v w) ≡ 0 → never draws_or_clears (events v w) ≡ true → HelpsOn quota (record { traced = before.traced + r.done; rescanned = before.rescanned; swept = before.swept; ended = end_as r.stopped }) u w
helped-traced quota k before r u v w h a t m q z n =
    let one = count-run pops u v w h.drained.ran a.ran in
    let s1 = total-run rescans u v w h.drained.ran a.ran in
    record {
      drained = drains-join u v w h.drained (traced-helps v w h.drained.helps a);
      traced = let i = h.traced in let j = t.done in omega (arith, one, i, j);
      rescanned = let i = h.rescanned in omega (arith, s1, z, i);
      swept = h.swept;
      most = omega (arith, m, q);
      stops = stops-later (end_as r.stopped) quota (before.traced + r.done) u v w h.drained.ran a.ran (trace-stops r.stopped k before.traced quota r v w refl q m t n);
    }

-- cards were passed first
pub cleaned-first : (quota n : ℕ) (helped : Helped) (u v w : View) → Helps u → HasTraced u v → rescanned_in u (events u v) ≡ n → never pops (events u v) ≡ true → helped.rescanned ≡ 0 → HelpsOn quota helped v w → HelpsOn quota (record { traced = helped.traced; rescanned = n; swept = helped.swept; ended = helped.ended }) u w
cleaned-first quota n helped u v w helps a z p none h =
    let first = traced-helps u v helps a in
    let one = count-run pops u v w a.ran h.drained.ran in
    let no = count-none pops (events u v) p in
    let s1 = total-run rescans u v w a.ran h.drained.ran in
    record {
      drained = drains-join u v w first h.drained;
      traced = let i = h.traced in omega (arith, one, no, i);
      rescanned = let i = h.rescanned in omega (arith, s1, z, i, none);
      swept = h.swept;
      most = h.most;
      stops = stops-later helped.ended quota helped.traced u v w a.ran h.drained.ran h.stops;
    }

-- steps by which nothing was popped or scanned again, and no card passed, leave it so
pub helped-still : (quota : ℕ) (helped : Helped) (u v w : View) → HelpsOn quota helped u v → helped.ended ≡ NoWork → HasTraced v w → never pops (events v w) ≡ true → never passes_card (events v w) ≡ true → rescanned_in v (events v w) ≡ 0 → HelpsOn quota helped u w
helped-still quota helped u v w h e a p n z =
    let one = count-run pops u v w h.drained.ran a.ran in
    let none = count-none pops (events v w) p in
    let s1 = total-run rescans u v w h.drained.ran a.ran in
    let es : events u w ≡ events u v ++ events v w = ran-events u v w h.drained.ran a.ran in
    let stops : StopsFor NoWork quota helped.traced u v = subst (λ x. StopsFor x quota helped.traced u v) e h.stops in
    let moment : at_some_moment u.shape (is_idle_now u.shape) (begins u) (events u w) ≡ true =
    ap (at_some_moment u.shape (is_idle_now u.shape) (begins u)) es ∙ longer u.shape (is_idle_now u.shape) (events v w) (idle-longer u.shape (events v w) (unpassed-uncleared (events v w) n)) (events u v) (begins u) stops.1 in
    record {
      drained = drains-join u v w h.drained (traced-helps v w h.drained.helps a);
      traced = let i = h.traced in omega (arith, one, none, i);
      rescanned = let i = h.rescanned in omega (arith, s1, z, i);
      swept = h.swept;
      most = h.most;
      stops = subst (λ x. StopsFor x quota helped.traced u w) (sym e) (stops.0, moment);
    }

-- which cards it passed
pub passes-none : (cards : Bool) (v w : View) → (cards && saw v.state.phase_seen Drain) ≡ false → never passes_card (events v w) ≡ true → PassesFirst cards v w
passes-none cards v w e n = subst (λ (b : Bool). PassesIf b v w) (sym e) n

pub passes-all : (cards : Bool) (v w : View) → cards ≡ true → v.state.phase_seen ≡ Some Drain → PassesAll v w → PassesFirst cards v w
passes-all cards v w e p a = subst (λ (b : Bool). PassesIf b v w) (λ i. sym e i && saw (sym p i) Drain) a

-- a helper waited in the second of two calls
pub waited-later : (h : HelpEnd) (u v w : View) → Ran u v → Ran v w → EndsAt h v w → EndsAt h u w
waited-later NoWork u v w r q e =
    let f = sees_all_empty (empty_offset + u.shape.packets) in
    let there : (some_event f (events v w) || nat_le help_looks (count_of reads_count (events v w))) ≡ true = subst (λ (sh : Shape). waited sh (events v w) ≡ true) (ran-shape u v r) e in
    ⊎_elim
    (λ (a : some_event f (events v w) ≡ true). or_left _ _ (ap (some_event f) (ran-events u v w r q) ∙ some-right f (events u v) (events v w) a))
    (λ (a : nat_le help_looks (count_of reads_count (events v w)) ≡ true).
    let n = leb-true help_looks (count_of reads_count (events v w)) a in
    let k = count-run reads_count u v w r q in
    or_right (some_event f (events u w)) _ (le-leb help_looks (count_of reads_count (events u w)) (omega (arith, n, k))))
    (or_cases (some_event f (events v w)) _ there)
waited-later Quota u v w r q e = tt
waited-later NoPacket u v w r q e = tt
waited-later Swept u v w r q e = tt

-- if it says that all packets are empty
pub waited-empty : (h : HelpEnd) (u v w : View) → Ran u v → Ran v w → some_event (sees_all_empty (empty_offset + u.shape.packets)) (events v w) ≡ true → EndsAt h u w
waited-empty NoWork u v w r q e =
    let f = sees_all_empty (empty_offset + u.shape.packets) in or_left _ _ (ap (some_event f) (ran-events u v w r q) ∙ some-right f (events u v) (events v w) e)
waited-empty Quota u v w r q e = tt
waited-empty NoPacket u v w r q e = tt
waited-empty Swept u v w r q e = tt

-- if it looked often enough
pub waited-long : (h : HelpEnd) (u w : View) → help_looks ≤ count_of reads_count (events u w) → EndsAt h u w
waited-long NoWork u w n = or_right (some_event (sees_all_empty (empty_offset + u.shape.packets)) (events u w)) _ (le-leb help_looks (count_of reads_count (events u w)) n)
waited-long Quota u w n = tt
waited-long NoPacket u w n = tt
waited-long Swept u w n = tt
