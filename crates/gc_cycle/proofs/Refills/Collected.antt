-- A mutator collects in a stop of its own.
use Rattle.std.proofs.Common.{ℕ, ◌≡◌, ◌≤◌, List, [], ◌∷◌, ◌++◌, arith, refl, sym, ap, ◌∙◌, subst, Bool, true, false, not, ◌&&◌, ◌||◌, Some, None, is_some, ⊎_elim, ◌⊎◌, inl, inr}
use Rattle.std.specs.Prelude.{IsFalse, IsTrue}
use Rattle.std.proofs.lemmas.Bool.{and_from, and_parts, cases_Bool, false≢true, not-true, or_cases, or_left, or_right, true≢false}
use Rattle.mark_core.specs.Effects.{seat_after}
use Rattle.mark_core.specs.Seats.{phase_number, phase_of, saw}
use Rattle.mark_core.specs.declared.kinds.Phase.{Phase}
use Rattle.mark_core.specs.declared.kinds.Phase.TheVariants.{Idle, Marking, Full}
use Rattle.mark_core.specs.declared.kinds.Shape.{Shape}
use Rattle.mark_core.specs.declared.seat.SeatState.{SeatState}
use Rattle.gc_table.specs.Rule.{KnowsFull}
use Rattle.gc_table.specs.Seats.{Took}
use Rattle.gc_table.specs.declared.view.Entry.{Entry}
use Rattle.gc_table.specs.declared.view.View.{View}
use Rattle.gc_table.specs.Log.{all_steps, events, Only}
use Rattle.gc_table.specs.Running.{Alone, Ran}
use Rattle.gc_table.proofs.History.Log.{events-after, only-after, only-more}
use Rattle.gc_table.proofs.Noticing.{found-noted}
use Rattle.gc_table.specs.Taking.{moves_from}
use Rattle.mark_core.specs.Places.{the_phase}
use Rattle.packet_pools.specs.Counts.{count_of}
use Rattle.packet_pools.proofs.Counting.{count-join}
use Rattle.gc_table.proofs.Running.{ran-events, ran-join, ran-only, ran-refl, ran-section, state-kept}
use Rattle.packet_pools.specs.Seeking.{some_event}
use Rattle.packet_pools.proofs.Searches.{some-left}
use Rattle.gc_cycle.specs.Answering.{answers, Collects, KeepsOn, TellsFull}
use Rattle.gc_cycle.specs.Cycles.{never_fills, collects, collects_exactly, ends_exactly}
use Rattle.gc_cycle.specs.Ending.{InEach, IsExact}
use Rattle.gc_cycle.specs.Events.{followed_by, never, Sort}
use Rattle.gc_cycle.specs.Finishing.{finishes, IsAloneIn}
use Rattle.gc_cycle.specs.Moments.{Moment, after_moment, at_some_moment}
use Rattle.gc_cycle.specs.Polling.{saw_full}
use Rattle.gc_cycle.specs.Sorts.{begins_exactly, ends_cycle, moves_to, raises_flag, reads_phase}
use Rattle.gc_cycle.specs.Standing.{IsAlone, KeepsSeat, KeepsSection, Mutates}
use Rattle.gc_cycle.proofs.Refills.KnownFull.{full-known, tells-more, tells-none}
use Rattle.gc_cycle.proofs.Refills.Answered.{answers-out, answers-try}
use Rattle.gc_cycle.proofs.Refills.OneCycle.{cycles-join, exactly-within, tried-unended}
use Rattle.gc_cycle.proofs.SectionKept.{keeps-seat, keeps-section}
use Rattle.gc_cycle.proofs.Stops.OutAndIn.{no-cache}
use Rattle.gc_cycle.proofs.Stops.FlagRaised.{calm-count, count-calls}
use Rattle.gc_cycle.proofs.Sequences.{followed-later, none-of-steps, some-none}
use Rattle.gc_cycle.proofs.Ends.Spared.{finish-position, keeps as finishes-keep}
use Rattle.gc_cycle.proofs.Traced.{nothing-rest}
use Rattle.mark_core.specs.declared.kinds.Step.{Step}
use Rattle.mark_core.specs.declared.kinds.Step.TheVariants.{ClaimBlock, DropStep, JoinHelpStep, LeaveHelpStep, RaiseStep, ReadCat, ReadOwn, ReadPhase, StorePhase, ReadStat, ReadSlot, ReadWeak}
use Rattle.gc_cycle.specs.Collecting.{EndsExactly, EndsStop, HoldsWorld, spares_section, TriesAgain}
use Rattle.gc_cycle.specs.Mutating.{keeps_section, stays_calm, StopsWorld, tries_stopping, TriesToStop}
use Rattle.gc_cycle.specs.Sparing.{spares_part}

some-same : {X : Type 0} {x y : X} → Some x ≡ Some y → x ≡ y
some-same {X} {x} {y} e = cc

pub section-spares : (step : Step) → spares_section step ≡ true → spares_part step ≡ true
section-spares (StorePhase to) e = e
section-spares (ReadOwn c i) e = absurd (false≢true e)
section-spares (ReadCat v) e = absurd (false≢true e)
section-spares (ReadSlot k) e = absurd (false≢true e)
section-spares (ReadWeak c) e = absurd (false≢true e)
section-spares step e = e

pub section-keeps : (step : Step) → spares_section step ≡ true → keeps_section step ≡ true
section-keeps (StorePhase to) e = refl
section-keeps step e = e

pub tries-section : (step : Step) → tries_stopping step ≡ true → spares_section step ≡ true
tries-section (ClaimBlock b) e = absurd (false≢true e)
tries-section RaiseStep e = refl
tries-section (StorePhase to) e = absurd (false≢true e)
tries-section (ReadStat which) e = refl
tries-section step e = e

pub calm-spares : (step : Step) → stays_calm step ≡ true → spares_part step ≡ true
calm-spares (ClaimBlock b) e = absurd (false≢true e)
calm-spares RaiseStep e = absurd (false≢true e)
calm-spares (StorePhase to) e = absurd (false≢true e)
calm-spares (ReadOwn c i) e = absurd (false≢true e)
calm-spares (ReadCat v) e = absurd (false≢true e)
calm-spares (ReadSlot k) e = absurd (false≢true e)
calm-spares (ReadWeak c) e = absurd (false≢true e)
calm-spares (ReadStat which) e = refl
calm-spares step e = e

helping-kept : (sh : Shape) (s : SeatState) (step : Step) (old : ℕ) → finishes step ≡ true → (seat_after sh s step old).helping ≡ s.helping
helping-kept sh s JoinHelpStep old e = absurd (false≢true e)
helping-kept sh s LeaveHelpStep old e = absurd (false≢true e)
helping-kept sh s step old e = refl

both : (step : Step) → keeps_section step ≡ true → spares_part step ≡ true → spares_section step ≡ true
both (StorePhase to) a b = b
both step a b = a

both-all : (es : List Entry) → all_steps keeps_section es ≡ true → all_steps spares_part es ≡ true → all_steps spares_section es ≡ true
both-all [] a b = refl
both-all (e ∷ es) a b =
    let p = and_parts (keeps_section e.step) (all_steps keeps_section es) a in
    let q = and_parts (spares_part e.step) (all_steps spares_part es) b in
    and_from (spares_section e.step) (all_steps spares_section es) (both e.step p.0 q.0) (both-all es p.1 q.1)

pub finished-section : (v w : View) → Only finishes v w → Only spares_part v w → Only spares_section v w
finished-section v w f s = both-all (events v w) (only-more finishes keeps_section finishes-keep v w f) s

-- an exact cycle is one
ends-some : (sh : Shape) (m : Moment) (es : List Entry) → at_some_moment sh ends_exactly m es ≡ true → some_event ends_cycle es ≡ true
ends-some sh m [] h = absurd (false≢true h)
ends-some sh m (e ∷ es) h =
    ⊎_elim
    (λ (a : ends_exactly m (e ∷ es) ≡ true). or_left (ends_cycle e.step e.found) (some_event ends_cycle es) (and_parts m.state.exact (ends_cycle e.step e.found) a).1)
    (λ (b : at_some_moment sh ends_exactly (after_moment sh m e) es ≡ true). or_right (ends_cycle e.step e.found) (some_event ends_cycle es) (ends-some sh (after_moment sh m e) es b))
    (or_cases (ends_exactly m (e ∷ es)) (at_some_moment sh ends_exactly (after_moment sh m e) es) h)

pub exactly-collects : (sh : Shape) (m : Moment) (es : List Entry) → collects_exactly sh m es ≡ true → collects es ≡ true
exactly-collects sh m [] h = absurd (false≢true h)
exactly-collects sh m (e ∷ es) h =
    ⊎_elim
    (λ (a : (begins_exactly e.step e.found && at_some_moment sh ends_exactly (after_moment sh m e) es) ≡ true).
    let p = and_parts (begins_exactly e.step e.found) _ a in
    or_left (begins_exactly e.step e.found && some_event ends_cycle es) (collects es) (and_from (begins_exactly e.step e.found) (some_event ends_cycle es) p.0 (ends-some sh (after_moment sh m e) es p.1)))
    (λ (b : collects_exactly sh (after_moment sh m e) es ≡ true). or_right (begins_exactly e.step e.found && some_event ends_cycle es) (collects es) (exactly-collects sh (after_moment sh m e) es b))
    (or_cases (begins_exactly e.step e.found && at_some_moment sh ends_exactly (after_moment sh m e) es) (collects_exactly sh (after_moment sh m e) es) h)

pub followed-earlier : (f g : Sort) (xs ys : List Entry) → followed_by f g xs ≡ true → followed_by f g (xs ++ ys) ≡ true
followed-earlier f g [] ys h = absurd (false≢true h)
followed-earlier f g (x ∷ xs) ys h =
    ⊎_elim
    (λ (a : (f x.step x.found && some_event g xs) ≡ true).
    let p = and_parts (f x.step x.found) (some_event g xs) a in
    or_left (f x.step x.found && some_event g (xs ++ ys)) (followed_by f g (xs ++ ys)) (and_from (f x.step x.found) (some_event g (xs ++ ys)) p.0 (some-left g xs ys p.1)))
    (λ (b : followed_by f g xs ≡ true). or_right (f x.step x.found && some_event g (xs ++ ys)) (followed_by f g (xs ++ ys)) (followed-earlier f g xs ys b))
    (or_cases (f x.step x.found && some_event g xs) (followed_by f g xs) h)

-- the seat that resumed the world is a mutator again
pub resumed-mutates : (v w : View) → IsAlone v → is_some v.state.section ≡ true → v.state.helping ≡ false → Took DropStep v w → Mutates w × (w.state.cache ≡ None)
resumed-mutates v w a s h t = (
  subst Mutates (sym t.1.0) (record { active = refl; unhelping = h; section = s; rest = nothing-rest v.shape v.state a.rest }),
  ap (λ (x : View). x.state.cache) t.1.0 ∙ no-cache v.shape v.state a.rest,
)

pub only-drop : (v w : View) → Took DropStep v w → Only tries_stopping v w
only-drop v w t = only-after tries_stopping v w DropStep t.0 refl t.1.0

-- the heap was full already
pub ends-at_full : (v w : View) → HoldsWorld v → v.state.phase_seen ≡ Some Full → Ran v w → Took DropStep v w → EndsStop v w
ends-at_full v w h f r t =
    let is : h.phase ≡ Full = some-same (sym h.seen ∙ f) in
    let known : KnowsFull v = h.alone.phase ∙ ap (λ p. Some (phase_number p)) is in
    record {
      ran = r;
      only = only-more tries_stopping spares_section tries-section v w (only-drop v w t);
      calm = ap (never raises_flag) (events-after v w DropStep t.0 t.1.0);
      cycles = let none = tried-unended v w (only-drop v w t) in omega (arith, none);
      cache = (resumed-mutates v w h.rest h.section h.unhelping t).1;
      position = ap (λ (x : View). x.own.position) t.1.0;
      collected = inr (full-known v w r (only-drop v w t) known);
    }

-- the seat that holds the world is alone in a phase of mutators, except Full
pub holds-phase : (v : View) → HoldsWorld v → (v.state.phase_seen ≡ Some Full → ⊥) → (IsAloneIn Idle v ⊎ IsAloneIn Marking v) × (KnowsFull v → ⊥)
holds-phase v h n =
    ⊎_elim
    (λ (i : h.phase ≡ Idle). (inl (in-phase Idle i), unfull Idle i (λ e. absurd (omega (arith, e)))))
    (λ (o : (h.phase ≡ Marking) ⊎ (h.phase ≡ Full)).
    ⊎_elim
    (λ (m : h.phase ≡ Marking). (inr (in-phase Marking m), unfull Marking m (λ e. absurd (omega (arith, e)))))
    (λ (f : h.phase ≡ Full). absurd (n (h.seen ∙ ap Some f)))
    o)
    h.left
  where
    in-phase : (p : Phase) → h.phase ≡ p → IsAloneIn p v
    in-phase p e = record { rest = h.rest; alone = subst (λ q. Alone q v) e h.alone }

    unfull : (p : Phase) → h.phase ≡ p → (phase_number p ≡ 5 → ⊥) → KnowsFull v → ⊥
    unfull p e k f = k (some-same (sym (h.alone.phase ∙ ap (λ q. Some (phase_number q)) e) ∙ f))

-- a precise collection was made
pub ends-collected : (v w x : View) → HoldsWorld v → (KnowsFull v → ⊥) → Ran v w → Only finishes v w → Only spares_part v w → never raises_flag (events v w) ≡ true → saw_full (events v w) ≡ false → collects (events v w) ≡ true → count_of ends_cycle (events v w) ≡ 1 → IsAloneIn Idle w → InEach IsExact w → Ran w x → Took DropStep w x → Mutates x × EndsStop v x
ends-collected v w x h n r f s calm going c one a exact q t =
    let section : is_some w.state.section ≡ true = ap (λ o. is_some o) (ran-section v w r) ∙ h.section in
    let unhelping : w.state.helping ≡ false = state-kept (λ (y : SeatState). y.helping) finishes helping-kept v w r f ∙ h.unhelping in
    let m = resumed-mutates w x a.rest section unhelping t in
    let es = ran-events v w x r q in
    let last = events-after w x DropStep t.0 t.1.0 in (
      m.0,
      record {
        ran = ran-join v w x r q;
        only = ran-only spares_section v w x r q (finished-section v w f s) (only-more tries_stopping spares_section tries-section w x (only-drop w x t));
        calm = ap (never raises_flag) es ∙ ap not (some-none raises_flag (events v w) (events w x) (not-true _ calm) (ap (some_event raises_flag) last));
        cycles = let none = tried-unended w x (only-drop w x t) in let all = cycles-join v w x 1 0 r q one (omega (arith, none)) in omega (arith, all);
        cache = m.1;
        position = ap (λ (y : View). y.own.position) t.1.0 ∙ finish-position v w r f;
        collected =
            inl (
              ap collects es ∙ followed-earlier begins_exactly ends_cycle (events v w) (events w x) c,
              ap saw_full es ∙ some-none (reads_phase Full) (events v w) (events w x) going (ap saw_full last),
              n,
              record { ended = w; before = r; later = q; stopped = a; collects = c; exact = exact },
            );
      },
    )

-- a mutator that stopped the world holds it
pub held : (v w : View) → Mutates v → TriesToStop v w → StopsWorld v w → HoldsWorld w
held v w m t s =
    record {
      rest = s.rest;
      section = ap (λ o. is_some o) t.seat.section ∙ m.section;
      unhelping = s.unhelping;
      phase = s.phase;
      alone = s.alone;
      seen = s.seen;
      left = s.left;
    }

-- the mutator looked once more, and goes on after the collection
pub goes-collected : (done : ℕ) (u w x y : View) → Ran u w → TellsFull u w → w.own.position ≡ done → Ran w x → Ran x y → EndsStop w x → KeepsOn None None x y → Collects done u y
goes-collected done u w x y r t at q p e k =
    let to_x : Ran u x = ran-join u w x r q in
    ⊎_elim
    (λ (c : IsTrue (collects (events w x)) × IsFalse (saw_full (events w x)) × (KnowsFull w → ⊥) × EndsExactly w x).
    let before : saw_full (events u w) ≡ false = ⊎_elim (λ (h : saw_full (events u w) ≡ true). absurd (c.2 (t h))) (λ (h : saw_full (events u w) ≡ false). h) (cases_Bool (saw_full (events u w))) in
    let none : saw_full (events u x) ≡ false = ap saw_full (ran-events u w x r q) ∙ some-none (reads_phase Full) (events u w) (events w x) before c.1 in
    let both : collects (events u x) ≡ true = ap collects (ran-events u w x r q) ∙ followed-later begins_exactly ends_cycle (events u w) (events w x) c.0 in
    record {
      goes_on = k.going u to_x (λ h. absurd (true≢false (sym h ∙ none)));
      cache = k.cached;
      position = ap (λ (z : View). z.own.position) k.looked.1.0 ∙ (e.position ∙ at);
      collected = ap collects (ran-events u x y to_x p) ∙ followed-earlier begins_exactly ends_cycle (events u x) (events x y) both;
      exact = exactly-within u w x y r p c.3;
    })
    (λ (f : KnowsFull x).
    let n = k.looked.0 in
    let is : n ≡ 5 = found-noted x ReadPhase n 5 the_phase k.looked.1.1 refl f in
    let g = k.going x (ran-refl x) (tells-none x) in
    absurd (true≢false (sym (ap saw_full (events-after x y ReadPhase n k.looked.1.0) ∙ ap (λ m. saw (Some (phase_of m)) Full || false) is) ∙ g.going)))
    e.collected

no-fill : (step : Step) (n : ℕ) → spares_section step ≡ true → moves_to Full step n ≡ false
no-fill (StorePhase to) n e = ap (λ (b : Bool). b && moves_from n to) (not-true (saw (Some to) Full) e)
no-fill step n e = refl

-- what such steps leave
pub section-kept : (v w : View) → Ran v w → Only spares_section v w → KeepsSeat v w × KeepsSection v w × (never_fills (events v w) ≡ true) × Only spares_part v w
section-kept v w r o =
    let k = only-more spares_section keeps_section section-keeps v w o in
    (keeps-seat v w r k, keeps-section v w r k, ap not (none-of-steps spares_section (moves_to Full) no-fill (events v w) o), only-more spares_section spares_part section-spares v w o)

pub answers-section : (v w : View) → Only answers v w → Only spares_section v w
answers-section v w o = only-more answers spares_section (λ step e. tries-section step (answers-try step e)) v w o

pub answers-uncounted : (v w : View) → Ran v w → Only answers v w → count_of raises_flag (events v w) ≡ 0
answers-uncounted v w r o = calm-count (events v w) (answers-out v w r o).calm

pub full-alone : (v : View) → HoldsWorld v → v.state.phase_seen ≡ Some Full → Alone Full v
full-alone v h f = subst (λ q. Alone q v) (some-same (sym h.seen ∙ f)) h.alone

pub none-raised : (k : ℕ) → k ≡ 0 → k ≤ 1
none-raised k e = omega (arith, e)

pub one-raised : (k : ℕ) → k ≡ 1 → k ≤ 1
one-raised k e = omega (arith, e)

pub tries-spare : (v w : View) → Only tries_stopping v w → Only spares_section v w
tries-spare v w o = only-more tries_stopping spares_section tries-section v w o

pub answers-tried : (v w : View) → Only answers v w → Only tries_stopping v w
answers-tried v w o = only-more answers tries_stopping answers-try v w o

-- a try that another seat's stop ended
pub tried : (done : ℕ) (u v w : View) → Ran u v → Only answers u v → TriesToStop v w → w.own.position ≡ done → count_of raises_flag (events v w) ≡ 0 → Mutates w → Ran u w × TriesAgain done u w × Only spares_section u w
tried done u v w r o t at n m =
    let only = ran-only tries_stopping u v w r t.ran (answers-tried u v o) t.only in
    (ran-join u v w r t.ran, record { mutates = m; cache = t.cache; position = at; only = only; calm = count-calls u v w 0 0 r t.ran (answers-uncounted u v r o) n }, tries-spare u w only)

-- a try that came to its own stop
pub stopped : (u v w x y : View) → Ran u v → Only answers u v → TriesToStop v w → count_of raises_flag (events v w) ≡ 1 → EndsStop w x → Ran x y → Only answers x y → Ran u y × Only spares_section u y × (count_of raises_flag (events u y) ≤ 1) × (count_of ends_cycle (events u y) ≤ 1)
stopped u v w x y r o t n e q p =
    let two = ran-join u v w r t.ran in
    let three = ran-join u w x two e.ran in
    let count = count-calls u x y 1 0 three q (count-calls u w x 1 0 two e.ran (count-calls u v w 0 1 r t.ran (answers-uncounted u v r o) n) (calm-count (events w x) e.calm)) (answers-uncounted x y q p) in
    let first = tried-unended u w (ran-only tries_stopping u v w r t.ran (answers-tried u v o) t.only) in
    let most = cycles-join u w x 0 1 two e.ran first e.cycles in
    let last = tried-unended x y (answers-tried x y p) in
    let all = ap (count_of ends_cycle) (ran-events u x y three q) ∙ count-join ends_cycle (events u x) (events x y) in (
      ran-join u x y three q,
      ran-only spares_section u x y three q (ran-only spares_section u w x two e.ran (tries-spare u w (ran-only tries_stopping u v w r t.ran (answers-tried u v o) t.only)) e.only) (answers-section x y p),
      one-raised (count_of raises_flag (events u y)) count,
      omega (arith, last, all, most),
    )

-- what was known before
pub tells-tried : (z u v w : View) → Ran z u → TellsFull z u → Ran u v → Only answers u v → TriesToStop v w → Ran z w × TellsFull z w
tells-tried z u v w r k q o t =
    let to_v = ran-join z u v r q in (ran-join z v w to_v t.ran, tells-more z v w to_v t.ran t.only (tells-more z u v r q (answers-tried u v o) k))
