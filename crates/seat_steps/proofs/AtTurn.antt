-- A mutator at its turn looks whether anything hinders it.
use Rattle.std.proofs.Common.{ℕ, ◌≡◌, ◌<◌, ◌||◌, [], ◌∷◌, ◌++◌, ◌∙◌, ap, refl, subst, sym, Bool, Some, true}
use Rattle.std.specs.Prelude.{if◌then◌else◌}
use Rattle.std.proofs.lemmas.Bool.{or_left}
use Rattle.mark_core.specs.Seats.{has_turn, phase_of, takes_part}
use Rattle.mark_core.specs.declared.kinds.Phase.{Phase}
use Rattle.mark_core.specs.declared.kinds.Phase.TheVariants.{Full}
use Rattle.mark_core.specs.declared.seat.SeatState.{SeatState}
use Rattle.mark_core.specs.declared.kinds.Step.TheVariants.{Observe, ReadPhase}
use Rattle.gc_table.specs.Log.{Only, event, events}
use Rattle.gc_table.specs.Rule.{KnowsFull}
use Rattle.gc_table.specs.Running.{Ran}
use Rattle.gc_table.specs.Seats.{Sits, Took, view_of}
use Rattle.gc_table.specs.Taking.{after}
use Rattle.gc_table.specs.declared.seat.Heap.{Heap}
use Rattle.gc_table.specs.declared.seat.HeapSeat.{HeapSeat}
use Rattle.gc_table.specs.declared.view.View.{View}
use Rattle.gc_table.proofs.History.Log.{events-after, only-after, only-more}
use Rattle.gc_table.proofs.Running.{ran-events, ran-took}
use Rattle.alloc_cache.specs.Caching.{is_whole}
use Rattle.gc_cycle.specs.Answering.{retires}
use Rattle.gc_cycle.specs.Mutating.{GoesOut, stays_calm, tries_stopping}
use Rattle.gc_cycle.specs.Polling.{saw_full}
use Rattle.gc_cycle.specs.Sparing.{spares_part}
use Rattle.gc_cycle.specs.Standing.{Mutates}
use Rattle.gc_cycle.proofs.Refills.Answered.{answers-calm, retires-answer}
use Rattle.gc_cycle.proofs.Refills.Collected.{calm-spares}
use Rattle.gc_cycle.proofs.Refills.KnownFull.{full-known, full-seen}
use Rattle.gc_cycle.proofs.SectionKept.{calm-tries, goes-out, out-join}
use Rattle.seat_turns.specs.Sharing.{LeavesHeap}
use Rattle.mutator_ops.specs.Flushing.{word_of_variables}
use Rattle.seat_turns.specs.Standing.{Halts, HoldsWorld, IsMutator, IsMutatorOutside, flush_steps, saw_going, settled}
use Rattle.seat_turns.proofs.Held.{flush-same}
use Rattle.seat_turns.proofs.Leaving.{leaves-spared}
use Rattle.seat_turns.proofs.Seats.{kept-works, seen-saw}
use Rattle.seat_steps.specs.Arriving.{Arrives, HasLooked, HasLookedIn}
use Rattle.seat_steps.specs.Causes.{FoundFull}
use Rattle.seat_steps.specs.declared.came.Came.{Came}
use Rattle.seat_steps.specs.declared.came.Came.TheVariants as cames
use Rattle.seat_steps.proofs.Found.{full-right}

pub out-leaves : (v w : View) → GoesOut v w → LeavesHeap v w
out-leaves v w g = leaves-spared v w g.ran (only-more stays_calm spares_part calm-spares v w g.only) g.seat

pub retired-full : (v w : View) → Ran v w → Only retires v w → KnowsFull v → KnowsFull w
retired-full v w r o k = full-known v w r (only-more retires tries_stopping (λ step e. calm-tries step (answers-calm step (retires-answer step e))) v w o) k

-- one look, at the world
module _ (u v : View) (n : ℕ) (r : Ran u v) (e : v ≡ after Observe n u) where
  pub polled-out : GoesOut u v
  polled-out = goes-out u v r (only-after stays_calm u v Observe n refl e)

-- and one at the phase
module _ (u v w : View) (n : ℕ) (r : Ran u v) (e : v ≡ after Observe n u) (t : Took ReadPhase v w) where
  second : Ran v w
  second = ran-took v w ReadPhase refl t

  pub looked-out : GoesOut u w
  looked-out = out-join u v w (polled-out u v n r e) (goes-out v w second (only-after stays_calm v w ReadPhase t.0 refl t.1.0))

  pub looked-events : events u w ≡ event Observe n ∷ event ReadPhase t.0 ∷ []
  looked-events = ran-events u v w r second ∙ (ap (λ es. es ++ events v w) (events-after u v Observe n e) ∙ ap (λ es. event Observe n ∷ es) (events-after v w ReadPhase t.0 t.1.0))

  pub looked-full : saw_full (events v w) ≡ true → FoundFull u w
  looked-full read =
      let all : saw_full (events u w) ≡ true = full-right u v w r second read in
      (all, (full-seen u w looked-out.ran (only-more stays_calm tries_stopping calm-tries u w looked-out.only) all).0)

-- neither look changes what it holds
module _ (h : Heap) (x y : HeapSeat) (k : HoldsWorld h x) (sits : Sits h y) (n : ℕ) where
  pub holds-polled : view_of y ≡ after Observe n (view_of x) → HoldsWorld h y
  holds-polled e =
      let m = k.mutates in
      let q = k.mutator in
      record {
        sits = sits;
        mutates = subst (λ (v : View). Mutates (settled v)) (sym e) (record { active = m.active; unhelping = m.unhelping; section = m.section; rest = m.rest });
        mutator = subst IsMutator (sym e) (record { uncatalogued = q.uncatalogued; section = q.section; counted = q.counted });
        turn = ap (λ (v : View). has_turn v.state.section v.state.season_seen) e ∙ k.turn;
        cache = ap (λ (v : View). is_whole v.state.cache) e ∙ k.cache;
        few = subst (λ (v : View). v.state.lags < word_of_variables) (sym e) k.few;
        own = λ alone. ap (λ (v : View). v.state.lags) e ∙ k.own alone;
      }

  pub holds-read : view_of y ≡ after ReadPhase n (view_of x) → HoldsWorld h y
  holds-read e =
      let m = k.mutates in
      let q = k.mutator in
      record {
        sits = sits;
        mutates = subst (λ (v : View). Mutates (settled v)) (sym e) (record { active = m.active; unhelping = m.unhelping; section = m.section; rest = m.rest });
        mutator = subst IsMutator (sym e) (record { uncatalogued = q.uncatalogued; section = q.section; counted = q.counted });
        turn = ap (λ (v : View). has_turn v.state.section v.state.season_seen) e ∙ k.turn;
        cache = ap (λ (v : View). is_whole v.state.cache) e ∙ k.cache;
        few = subst (λ (v : View). v.state.lags < word_of_variables) (sym e) k.few;
        own = λ alone. ap (λ (v : View). v.state.lags) e ∙ k.own alone;
      }

  -- the phase that was read is seen
  pub phase-saw : (p : Phase) → view_of y ≡ after ReadPhase n (view_of x) → p ≡ phase_of n → (p ≡ Full → ⊥) → saw_going (view_of y).state.phase_seen ≡ true
  phase-saw p e is other =
      let s : SeatState = (view_of x).state in
      let part : takes_part s ≡ true = or_left (s.active || s.knows) s.admitted (or_left s.active s.knows k.mutates.active) in
      let seen : (view_of y).state.phase_seen ≡ Some p = ap (λ (v : View). v.state.phase_seen) e ∙ ap (λ (b : Bool). if b then Some (phase_of n) else s.phase_seen) part ∙ ap (λ (q : Phase). Some q) (sym is) in
      seen-saw (view_of y).state (p, seen, other)

-- as many roots lag as before
pub polled-lags : (u v : View) (n : ℕ) → v ≡ after Observe n u → flush_steps v ≡ flush_steps u
polled-lags u v n e = flush-same u v (ap (λ (x : View). x.shape) e) (ap (λ (x : View). x.state.lags) e)

pub looked-lags : (u v w : View) (n m : ℕ) → v ≡ after Observe n u → w ≡ after ReadPhase m v → flush_steps w ≡ flush_steps u
looked-lags u v w n m e f = flush-same v w (ap (λ (x : View). x.shape) f) (ap (λ (x : View). x.state.lags) f) ∙ polled-lags u v n e

-- without a cache
module _ (h : Heap) (x y : HeapSeat) (k : Halts h x) (sits : Sits h y) (mutates : Mutates (view_of y)) (out : GoesOut (view_of x) (view_of y)) where
  pub halts-still : (view_of y).state.cache ≡ (view_of x).state.cache → Halts h y
  halts-still e = record { works = kept-works h x y k.works sits mutates out.ran out.seat out.section; cache = e ∙ k.cache }

pub turned-halts : (c : Came) (h : Heap) (s : HeapSeat) → (c ≡ cames.Done → ⊥) → HasLookedIn c h s → Halts h s
turned-halts cames.Done h s n l = absurd (n refl)
turned-halts cames.Stopped h s n l = l
turned-halts cames.Full h s n l = l.0
turned-halts c h s n l = absurd l

pub turned-out : (c : Came) (h : Heap) (x y : HeapSeat) → (c ≡ cames.Done → ⊥) → HasLookedIn c h x → IsMutatorOutside h y → (KnowsFull (view_of x) → KnowsFull (view_of y)) → Arrives c h y
turned-out cames.Done h x y n l out k = absurd (n refl)
turned-out cames.Stopped h x y n l out k = out
turned-out cames.Full h x y n l out k = (out, k l.1)
turned-out c h x y n l out k = absurd l

-- something hinders it
pub hindered-holds : (c : Came) (h : Heap) (s : HeapSeat) → (c ≡ cames.Done → ⊥) → HasLooked c h s → HoldsWorld h s
hindered-holds cames.Done h s n l = absurd (n refl)
hindered-holds cames.Stopped h s n l = l
hindered-holds cames.Full h s n l = l.0
hindered-holds c h s n l = absurd l

pub hindered-out : (c : Came) (h : Heap) (x y : HeapSeat) → (c ≡ cames.Done → ⊥) → HasLooked c h x → IsMutatorOutside h y → (KnowsFull (view_of x) → KnowsFull (view_of y)) → Arrives c h y
hindered-out cames.Done h x y n l out k = absurd (n refl)
hindered-out cames.Stopped h x y n l out k = out
hindered-out cames.Full h x y n l out k = (out, k l.1)
hindered-out c h x y n l out k = absurd l
