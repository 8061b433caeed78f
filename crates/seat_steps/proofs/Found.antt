-- What a mutator found, in one call after another.
use Rattle.std.proofs.Common.{ℕ, ◌≡◌, ◌<◌, List, [], ◌∷◌, refl, sym, ap, ◌∙◌, subst, Bool, true, false, ◌||◌, Option, Some, None, ⊎_elim, inl, inr, arith, ◌+◌}
use Rattle.std.specs.Prelude.{if◌then◌else◌, is_some, Result, Ok, Err, IfErr, IfNone, IfSome}
use Rattle.std.specs.Int.Count.{ones}
use Rattle.std.proofs.lemmas.Bool.{false≢true, or_left, or_right}
use Rattle.mark_core.specs.Bits.{has_flag}
use Rattle.mark_core.specs.declared.kinds.Phase.TheVariants.{Full}
use Rattle.mark_core.specs.declared.kinds.Step.{Step}
use Rattle.mark_core.specs.declared.kinds.Step.TheVariants.{Observe, ReadPhase, ReadSeason}
use Rattle.gc_table.specs.Log.{events}
use Rattle.gc_table.specs.Rule.{KnowsFull}
use Rattle.gc_table.specs.Running.{after_all, Ran}
use Rattle.gc_table.specs.Seats.{Found}
use Rattle.gc_table.specs.declared.seat.Heap.{Heap}
use Rattle.gc_table.specs.declared.seat.HeapSeat.{HeapSeat}
use Rattle.gc_table.specs.declared.view.Entry.{Entry}
use Rattle.gc_table.specs.declared.view.View.{View}
use Rattle.gc_table.proofs.Running.{ran-events, ran-join, ran-refl, ran-shape, ran-took}
use Rattle.packet_pools.specs.Seeking.{some_event}
use Rattle.packet_pools.proofs.Searches.{some-left, some-right}
use Rattle.alloc_cache.specs.Caching.{IsCached}
use Rattle.alloc_cache.specs.declared.cache.Cache.{Cache}
use Rattle.stop_world.specs.Gates.{TurnsBack}
use Rattle.mutator_ops.specs.Few.{AtMost}
use Rattle.mutator_ops.proofs.Few.{at-most-after, at-most-events, at-most-join, at-most-more, at-most-none}
use Rattle.gc_cycle.specs.Events.{Sort, first_is}
use Rattle.gc_cycle.specs.Polling.{poll_found_stop, saw_full}
use Rattle.gc_cycle.specs.Sorts.{polls, reads_phase, sees_flag}
use Rattle.cache_refills.specs.Trying.{EntersOnce, PassesTo}
use Rattle.cache_refills.specs.declared.trying.Pass.{Pass}
use Rattle.cache_refills.specs.declared.trying.Pass.TheVariants as passes
use Rattle.seat_turns.specs.Coming.{FlushesFirst, LeavesTurn, StepsOut}
use Rattle.seat_turns.specs.SeasonLooks.{LooksAtSeason, SeesOther}
use Rattle.seat_turns.specs.Standing.{LacksFree, flush_steps}
use Rattle.seat_turns.proofs.Held.{flush-same}
use Rattle.seat_turns.proofs.Seats.{looks-ran}
use Rattle.seat_steps.specs.Causes.{ArrivesBy, ComesBy, ComesFreely, EntersBy, FoundStop, GoesFreely, HasFree, LacksBy, LooksBy, LooksFreely, LooksTo, PassesBy, PassesFreely, SawOther, finds_flag}
use Rattle.seat_steps.specs.Filling.{TriesSome}
use Rattle.seat_steps.specs.Pacing.{CarriesPace}
use Rattle.seat_steps.specs.Arriving.{Arrives, LacksCell, LeavesWorld}
use Rattle.seat_steps.specs.declared.came.Came.{Came}
use Rattle.seat_steps.specs.declared.came.Came.TheVariants as cames

-- if the first event like f is like g, one is like h
either : (b p q r s : Bool) → (p ≡ true → q ≡ true) → (r ≡ true → s ≡ true) → (if b then p else r) ≡ true → (q || s) ≡ true
either true p q r s x y e = or_left q s (x e)
either false p q r s x y e = or_right q s (y e)

first_some : (f g h : Sort) → ((step : Step) (n : ℕ) → g step n ≡ true → h step n ≡ true) → (es : List Entry) → first_is f g es ≡ true → some_event h es ≡ true
first_some f g h k [] e = absurd (false≢true e)
first_some f g h k (x ∷ es) e = either (f x.step x.found) (g x.step x.found) (h x.step x.found) (first_is f g es) (some_event h es) (k x.step x.found) (first_some f g h k es) e

sees_finds : (step : Step) (n : ℕ) → sees_flag step n ≡ true → finds_flag step n ≡ true
sees_finds Observe n e = e
sees_finds step n e = absurd (false≢true e)

-- what a safe point looked at
pub looks-by : (p : Pass) (handed kept : Option Cache) (done : ℕ) (v w : View) → PassesTo p handed kept done v w → LooksBy p handed kept v w
looks-by passes.Going handed kept done v w p = (p.same, (p.looks.0, p.looks.1, sym (ap poll_found_stop p.looks.2) ∙ p.clear, p.looks.2))
looks-by passes.Full handed kept done v w p = p.ends.read
looks-by passes.Out handed kept done v w p = first_some polls sees_flag finds_flag sees_finds (events v w) p.found

-- a stop that was found before the end, or after the beginning
pub found-left : (u v w : View) → Ran u v → Ran v w → FoundStop u v → FoundStop u w
found-left u v w a b f =
    ⊎_elim
    (λ (e : some_event finds_flag (events u v) ≡ true). inl (ap (some_event finds_flag) (ran-events u v w a b) ∙ some-left finds_flag (events u v) (events v w) e))
    (λ (s : SawOther u v). inr (record { looked = s.looked; before = s.before; other = s.other; last = ran-join s.looked v w s.last b }))
    f

pub found-right : (u v w : View) → Ran u v → Ran v w → FoundStop v w → FoundStop u w
found-right u v w a b f =
    ⊎_elim
    (λ (e : some_event finds_flag (events v w) ≡ true). inl (ap (some_event finds_flag) (ran-events u v w a b) ∙ some-right finds_flag (events u v) (events v w) e))
    (λ (s : SawOther v w). inr (record { looked = s.looked; before = ran-join u v s.looked a s.before; other = s.other; last = s.last }))
    f

pub found-other : (u v w x : View) → Ran u v → LooksAtSeason v w → SeesOther 1 w → Ran w x → FoundStop u x
found-other u v w x a s o b = inr (record { looked = w; before = ran-join u v w a (looks-ran v w s); other = o; last = b })

-- the phase was read as Full before the end, or after the beginning
pub full-left : (u v w : View) → Ran u v → Ran v w → saw_full (events u v) ≡ true → saw_full (events u w) ≡ true
full-left u v w a b e = ap saw_full (ran-events u v w a b) ∙ some-left (reads_phase Full) (events u v) (events v w) e

pub full-right : (u v w : View) → Ran u v → Ran v w → saw_full (events v w) ≡ true → saw_full (events u w) ≡ true
full-right u v w a b e = ap saw_full (ran-events u v w a b) ∙ some-right (reads_phase Full) (events u v) (events v w) e

-- the two looks of a safe point, and one at the season if it isn't known
looks_few : (v w : View) → LooksAtSeason v w → AtMost 1 v w
looks_few v w looks =
    ⊎_elim (λ (same : w ≡ v). subst (λ (x : View). AtMost 1 v x) (sym same) (at-most-none 1 v)) (λ (read : (n : ℕ) × Found ReadSeason n v w). at-most-after v w ReadSeason read.0 read.1.0) looks

pub two-few : (u v : View) → LooksFreely u v → AtMost 2 u v
two-few u v l = at-most-events 2 u v _ l.3 (omega arith)

season_kept : (u v : View) → Ran u v → LooksFreely u v → v.state.season_seen ≡ u.state.season_seen
season_kept u v r l = ap (λ (x : View). x.state.season_seen) (r.steps ∙ ap (λ (es : List Entry). after_all es u) l.3)

pub goes-freely : (u v w : View) → Ran u v → LooksFreely u v → LooksAtSeason v w → (is_some v.state.season_seen ≡ true → w ≡ v) → GoesFreely u w
goes-freely u v w r l s k =
    let q : Ran v w = looks-ran v w s in
    record {
      ran = ran-join u v w r q;
      looked = v;
      looks = l;
      season = s;
      few = at-most-join 2 1 u v w r q (two-few u v l) (looks_few v w s);
      known = λ i. subst (λ (x : View). AtMost 2 u x) (sym (k (ap (λ (o : Option ℕ). is_some o) (season_kept u v r l) ∙ i))) (two-few u v l);
    }

-- as many roots lag after it as before
pub lags-passed : (v w : View) → PassesFreely v w → flush_steps w ≡ flush_steps v
lags-passed v w p = flush-same v w (ran-shape v w p.ran) (ap (λ (x : View). x.state.lags) (p.ran.steps ∙ ap (λ (es : List Entry). after_all es v) p.looks.3))

-- what a safe point did at which nothing hindered the mutator
pub cache-kept : (v w : View) → PassesFreely v w → w.state.cache ≡ v.state.cache
cache-kept v w p = ap (λ (x : View). x.state.cache) (p.ran.steps ∙ ap (λ (es : List Entry). after_all es v) p.looks.3)

-- and one at which something did
pub hindered-by : (c : Came) (u v w : View) → (c ≡ cames.Done → ⊥) → LooksTo c u v → Ran u v → FlushesFirst LeavesTurn v w → Ran v w → flush_steps v ≡ flush_steps u → AtMost (flush_steps v + 5) v w → (KnowsFull v → KnowsFull w) → PassesBy c u w
hindered-by cames.Done u v w n l a t b same few k = absurd (n refl)
hindered-by cames.Stopped u v w n l a t b same few k =
    let found : FoundStop u v = inl (ap (some_event finds_flag) l.2 ∙ or_left (has_flag l.0) _ l.1) in
    let all = at-most-join 1 (flush_steps v + 5) u v w a b (at-most-events 1 u v _ l.2 (omega arith)) few in
    ((found-left u v w a b found, omega (arith, all, same)), record { looked = v; looks = l; leaves = t })
hindered-by cames.Full u v w n l a t b same few k =
    let all = at-most-join 2 (flush_steps v + 5) u v w a b (two-few u v l.0) few in (((full-left u v w a b l.1.0, k l.1.1), omega (arith, all, same)), record { looked = v; looks = l; leaves = t })
hindered-by c u v w n l a t b same few k = absurd l

pub hindered-few : (c : Came) (v w : View) → (c ≡ cames.Done → ⊥) → PassesBy c v w → AtMost (flush_steps v + 8) v w
hindered-few cames.Done v w n g = absurd (n refl)
hindered-few cames.Stopped v w n g = at-most-more (flush_steps v + 6) (flush_steps v + 8) v w (omega arith) g.0.1
hindered-few cames.Full v w n g = at-most-more (flush_steps v + 7) (flush_steps v + 8) v w (omega arith) g.0.1
hindered-few c v w n g = absurd g

-- who looked without a cache and was hindered came by these steps
pub turned-by : (c : Came) (u v w : View) → (c ≡ cames.Done → ⊥) → LooksTo c u v → StepsOut v w → ComesBy c u w
turned-by cames.Done u v w n l o = absurd (n refl)
turned-by cames.Stopped u v w n l o = record { looked = v; looks = inl l; leaves = o }
turned-by cames.Full u v w n l o = record { looked = v; looks = l; leaves = o }
turned-by c u v w n l o = absurd l

pub turned-found : (c : Came) (u v w : View) → (c ≡ cames.Done → ⊥) → LooksTo c u v → Ran u v → Ran v w → AtMost 2 v w → (KnowsFull v → KnowsFull w) → ArrivesBy c u w
turned-found cames.Done u v w n l a b few k = absurd (n refl)
turned-found cames.Stopped u v w n l a b few k =
    let found : FoundStop u v = inl (ap (some_event finds_flag) l.2 ∙ or_left (has_flag l.0) _ l.1) in
    (found-left u v w a b found, at-most-more 3 8 u w (omega arith) (at-most-join 1 2 u v w a b (at-most-events 1 u v _ l.2 (omega arith)) few))
turned-found cames.Full u v w n l a b few k = ((full-left u v w a b l.1.0, k l.1.1), at-most-more 4 8 u w (omega arith) (at-most-join 2 2 u v w a b (two-few u v l.0) few))
turned-found c u v w n l a b few k = absurd l

-- on the way in
pub turns-found : (v w : View) → TurnsBack v w → FoundStop v w
turns-found v w t = inl (ap (some_event finds_flag) t.events ∙ or_left (has_flag t.word) _ t.flag)

entered_few : (u v : View) → EntersOnce u v → AtMost 2 u v
entered_few u v e =
    at-most-join 1 1 u e.entered v e.ran (ran-took e.entered v ReadPhase refl e.reads) (at-most-events 1 u e.entered _ e.enters.events (omega arith)) (at-most-after e.entered v ReadPhase e.reads.0 e.reads.1.0)

pub enters-by : (c : Came) (u v w : View) → Ran u v → EntersOnce u v → Ran v w → ArrivesBy c v w → ComesBy c v w → CarriesPace u w → EntersBy c u w
enters-by cames.Done u v w r e q g m p =
    record {
      ran = ran-join u v w r q;
      entered = v;
      enters = e;
      goes = g;
      few = at-most-join 2 3 u v w r q (entered_few u v e) g.few;
    }
enters-by cames.Stopped u v w r e q g m p = ((found-right u v w r q g.0, at-most-join 2 8 u v w r q (entered_few u v e) g.1), p, inr (record { entered = v; enters = e; turns = m }))
enters-by cames.Full u v w r e q g m p = (((full-right u v w r q g.0.0, g.0.1), at-most-join 2 8 u v w r q (entered_few u v e) g.1), p, inr (record { entered = v; enters = e; turns = m }))
enters-by c u v w r e q g m p = absurd g

-- without a cell
pub lacks-by : (c : Came) (v w : View) → (c ≡ cames.Done → ⊥) → ArrivesBy c v w → LacksBy c v w
lacks-by cames.Done v w n g = absurd (n refl)
lacks-by cames.NoCell v w n g = absurd g
lacks-by c v w n g = g

-- however it came, it took few steps
pub arrives-few : (c : Came) (v w : View) → ArrivesBy c v w → AtMost 8 v w
arrives-few cames.Done v w g = at-most-more 3 8 v w (omega arith) g.few
arrives-few cames.Stopped v w g = g.1
arrives-few cames.Full v w g = g.1
arrives-few c v w g = absurd g

-- a cache with a free cell
pub not-lacking : (o : Option Cache) (h : Cache) → o ≡ Some h → 0 < ones h.cells → LacksFree o → ⊥
not-lacking o h e l n = let none : ones h.cells ≡ 0 = subst LacksFree e n in omega (arith, l, none)

pub err-both : {X E : Type 0} (r : Result X E) (P Q R : E → Type 0) → ((e : E) → P e → Q e → R e) → IfErr r P → IfErr r Q → IfErr r R
err-both (Ok x) P Q R k p q = tt
err-both (Err e) P Q R k p q = k e p q

pub err-weaker : {X E : Type 0} (r : Result X E) (P Q : E → Type 0) → ((e : E) → P e → Q e) → IfErr r P → IfErr r Q
err-weaker (Ok x) P Q k p = tt
err-weaker (Err e) P Q k p = k e p

-- who left has come to no cell
pub leaves-lacks : (c : Came) (h : Heap) (s : HeapSeat) → LeavesWorld c h s → LacksCell c h s
leaves-lacks cames.Stopped h s l = l
leaves-lacks cames.Full h s l = l
leaves-lacks c h s l = absurd l

pub arrives-lacks : (c : Came) (h : Heap) (s : HeapSeat) → (c ≡ cames.Done → ⊥) → Arrives c h s → LacksCell c h s
arrives-lacks cames.Done h s n a = absurd (n refl)
arrives-lacks cames.Stopped h s n a = a
arrives-lacks cames.Full h s n a = a
arrives-lacks c h s n a = absurd a

-- with a cell
pub comes-free : (v w : View) → PassesFreely v w → ComesFreely v w
comes-free v w p = record { passed = w; passes = p; ran = ran-refl w; few = λ _. p.few; besides = inl p.few }

-- if the cache of the record has a free cell, so does the one in hand
lacking_none : (o kept : Option Cache) (v : View) → IfSome o (λ h. IsCached h v) → IfNone o (v.state.cache ≡ None) → kept ≡ o → LacksFree kept → HasFree v.state.cache → ⊥
lacking_none None kept v some bare e l f = subst HasFree bare f
lacking_none (Some h) kept v some bare e l f = not-lacking kept h e (subst HasFree some f) l

pub lacked-before : (o none : Option Cache) (u v : View) → PassesFreely u v → IfSome o (λ h. IsCached h v) → IfNone o (v.state.cache ≡ None) → none ≡ o → LacksFree none → HasFree u.state.cache → ⊥
lacked-before o none u v p some bare e l f = lacking_none o none v some bare e l (subst HasFree (sym (cache-kept u v p)) f)

pub comes-filled :
    (o none : Option Cache) (u v w : View) → PassesFreely u v → Ran v w → IfSome o (λ h. IsCached h v) → IfNone o (v.state.cache ≡ None) → none ≡ o → LacksFree none → TriesSome (flush_steps u + 5) 3 u w → ComesFreely u w
comes-filled o none u v w p b some bare e l t =
    record {
      passed = v;
      passes = p;
      ran = b;
      few = λ f. absurd (lacked-before o none u v p some bare e l f);
      besides = inr t;
    }

pub ruleset looking = (looks-by)
