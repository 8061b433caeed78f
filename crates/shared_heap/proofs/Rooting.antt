-- The seat of section 0 makes the root, and then the season moves on.
use Rattle.std.proofs.Common.{ℕ, ◌≡◌, ◌+◌, ◌<◌, ◌∙◌, length, ap, arith, refl, sym, subst, true, Option, None, eqb-true, ⊎_elim}
use Rattle.std.specs.Prelude.{is_some, slice_set}
use Rattle.std.proofs.lemmas.Bool.{and_from}
use Rattle.mark_core.specs.Seats.{has_making, has_turn, may_mutate, work_in_hand}
use Rattle.mark_core.specs.Steps.WorldSteps.{has_nothing}
use Rattle.mark_core.specs.declared.kinds.Shape.{Shape}
use Rattle.mark_core.specs.declared.kinds.Step.TheVariants.{NextSeason, ReadSeason}
use Rattle.mark_core.specs.declared.seat.CacheState.{CacheState}
use Rattle.mark_core.specs.declared.seat.SeatState.{SeatState}
use Rattle.plain_heap.specs.PlainHeap.{Heap as PlainHeap}
use Rattle.plain_heap.specs.PlainStep.{heap_after}
use Rattle.plain_heap.specs.declared.operation.Op.TheVariants as ops
use Rattle.alloc_cache.specs.Caching.{IsCached}
use Rattle.alloc_cache.specs.Claiming.{Claims}
use Rattle.alloc_cache.specs.declared.cache.Cache.{Cache}
use Rattle.gc_table.specs.Running.{Ran}
use Rattle.gc_table.specs.Seats.{Found, Sits, Took, view_of}
use Rattle.gc_table.specs.declared.seat.Heap.{Heap}
use Rattle.gc_table.specs.declared.seat.HeapSeat.{HeapSeat}
use Rattle.gc_table.specs.declared.view.Meaning.{Meaning}
use Rattle.gc_table.specs.declared.view.SectionState.{SectionState}
use Rattle.gc_table.specs.declared.view.View.{View}
use Rattle.gc_table.proofs.Running.{ran-join, ran-plan, ran-shape}
use Rattle.gc_cycle.proofs.Idling.{rest-parts}
use Rattle.gc_cycle.specs.Standing.{KeepsSeat, KeepsSection, Mutates, is_at_rest}
use Rattle.alloc_cache.specs.Making.{with_cell}
use Rattle.mark_core.specs.Bits.{reference_in}
use Rattle.mutator_ops.specs.Flushing.{Flushes, word_of_variables}
use Rattle.mutator_ops.specs.Sharing.{ShareCreates}
use Rattle.mutator_ops.proofs.Flushed.{flush-with}
use Rattle.seat_turns.specs.SeasonLooks.{LooksAtSeason}
use Rattle.managed_heap.proofs.FirstSeason.{alone-turn}
use Rattle.managed_heap.proofs.Starting.{own-section}
use Rattle.shared_heap.specs.Opening.{HasFirstCache, HasRoot, IsAloneInIdle, IsAtFirstTurn, IsFirst, IsNewSeat, empty_in}

-- a seat that has done nothing
pub first-start : (h : Heap) (x : HeapSeat) → IsNewSeat h 0 x → 0 < h.shape.sections → IsFirst (empty_in h.shape) (view_of x)
first-start h x new l =
    record {
      section = ap (λ (s : SeatState). s.section) new.1.state ∙ own-section h.shape 0 l;
      plan = new.1.plan_is;
      seasons = ap (λ (o : SectionState). o.seasons) new.1.own;
      heap = ap (λ (o : SectionState). o.meaning.heap) new.1.own;
      counted = sym (ap (λ (s : SeatState). s.made) new.1.state);
    }

-- what isn't a mutator's work leaves it so
pub first-kept : (p : PlainHeap) (v w : View) → IsFirst p v → Ran v w → KeepsSeat v w → KeepsSection v w → IsFirst p w
first-kept p v w f ran seat section =
    record {
      section = seat.section ∙ f.section;
      plan = ran-plan v w ran ∙ f.plan;
      seasons = section.seasons ∙ f.seasons;
      heap = ap (λ (m : Meaning). m.heap) section.meaning ∙ f.heap;
      counted = f.counted ∙ sym seat.made;
    }

pub first-looked : (p : PlainHeap) (v w : View) → IsFirst p v → LooksAtSeason v w → IsFirst p w
first-looked p v w f looks =
    ⊎_elim (λ (same : w ≡ v). subst (IsFirst p) (sym same) f)
    (λ (read : (n : ℕ) × Found ReadSeason n v w). subst (IsFirst p) (sym read.1.0) (record { section = f.section; plan = f.plan; seasons = f.seasons; heap = f.heap; counted = f.counted }))
    looks

pub mutates-looked : (v w : View) → Mutates v → LooksAtSeason v w → Mutates w
mutates-looked v w m looks =
    ⊎_elim (λ (same : w ≡ v). subst Mutates (sym same) m)
    (λ (read : (n : ℕ) × Found ReadSeason n v w). subst Mutates (sym read.1.0) (record { active = m.active; unhelping = m.unhelping; section = m.section; rest = m.rest }))
    looks

pub cache-looked : (v w : View) → v.state.cache ≡ None → LooksAtSeason v w → w.state.cache ≡ None
cache-looked v w e looks =
    ⊎_elim (λ (same : w ≡ v). ap (λ (y : View). y.state.cache) same ∙ e) (λ (read : (n : ℕ) × Found ReadSeason n v w). ap (λ (y : View). y.state.cache) read.1.0 ∙ e) looks

-- a cache was claimed
pub first-cached : (h : Heap) (cache : Cache) (x y : HeapSeat) → IsAtFirstTurn h x → h.shape.sharing ≡ true → Sits h y → Ran (view_of x) (view_of y) → Claims cache (view_of x) (view_of y) → HasFirstCache h cache y
first-cached h cache x y t shared sits ran k =
    let v : View = view_of x in
    let w : View = view_of y in
    let f = t.first in
    let m = t.mutates in
    let rest = rest-parts v.shape v.state m.rest in
    record {
      sits = sits;
      first =
          record {
            section = ap (λ (s : SeatState). s.section) k.state ∙ f.section;
            plan = ran-plan v w ran ∙ f.plan;
            seasons = ap (λ (o : SectionState). o.seasons) k.own ∙ f.seasons;
            heap = ap (λ (o : SectionState). o.meaning.heap) k.own ∙ f.heap;
            counted = f.counted ∙ sym (ap (λ (s : SeatState). s.made) k.state);
          };
      cached = subst (λ (s : SeatState). IsCached cache (record w { state = s })) (sym k.state) refl;
      ready =
          record {
            shared = ap (λ (sh : Shape). sh.sharing) sits.1 ∙ shared;
            stores =
                record {
                  turn = ap may_mutate k.state ∙ and_from v.state.active (has_turn v.state.section v.state.season_seen) m.active ((λ i. has_turn (f.section i) (t.turn i)));
                  seen = (t.seen.0, ap (λ (s : SeatState). s.phase_seen) k.state ∙ t.seen.1, t.seen.2);
                  owes = ap (λ (s : SeatState). s.owes) k.state ∙ rest.owes;
                };
            idle = (λ i. work_in_hand (ran-shape v w ran i).fields (k.state i)) ∙ rest.work;
            whole = ap (λ (s : SeatState). has_making s.cache) k.state;
            register = ap (λ (s : SeatState). s.got) k.state ∙ eqb-true v.state.got 0 rest.register;
            counted = ap (λ (o : SectionState). length o.meaning.heap.objects) k.own ∙ (ap (λ (p : PlainHeap). length p.objects) f.heap ∙ (f.counted ∙ sym (ap (λ (s : SeatState). s.made) k.state)));
          };
      mutates = λ z shape state.
          let s : z.state ≡ record v.state { cache = None; made = z.state.made; env = z.state.env } = state ∙ ap (λ (q : SeatState). record q { cache = None; made = z.state.made; env = z.state.env }) k.state in
          record {
            active = ap (λ (q : SeatState). q.active) s ∙ m.active;
            unhelping = ap (λ (q : SeatState). q.helping) s ∙ m.unhelping;
            section = ap (λ (q : SeatState). is_some q.section) s ∙ m.section;
            rest =
                (λ i. is_at_rest ((shape ∙ ran-shape v w ran) i) (s i))
                ∙ ap (λ (c : Option CacheState). is_at_rest v.shape (record v.state { cache = c })) (sym t.cache)
                ∙ m.rest;
          };
    }

-- no root lags yet
first-lags : (h : Heap) (cache : Cache) (x : HeapSeat) → HasFirstCache h cache x → (view_of x).state.lags ≡ 0
first-lags h cache x t =
    let v : View = view_of x in
    let bare : View = record v { state = record v.state { cache = None } } in
    eqb-true v.state.lags 0 (rest-parts bare.shape bare.state (t.mutates bare refl refl).rest).lags

-- and one does, once the root was made
pub few-lag : (h : Heap) (cache : Cache) (cell : ℕ) (x y : HeapSeat) → HasFirstCache h cache x → ShareCreates 0 0 cell (view_of x) (view_of y) → (view_of y).state.lags < word_of_variables
few-lag h cache cell x y t d =
    let none = first-lags h cache x t in
    subst (λ (n : ℕ). n < word_of_variables) (sym (ap (λ (s : SeatState). s.lags) d.state)) (flush-with (view_of x).state.lags 0 (omega (arith, none)) (omega arith))

-- the root was made and stored, and the cache given up
pub rooted : (h : Heap) (cache : Cache) (cell : ℕ) (x y z w : HeapSeat) → HasFirstCache h cache x → Sits h w → ShareCreates 0 0 cell (view_of x) (view_of y) → Flushes (view_of y) (view_of z) → Ran (view_of z) (view_of w) → (view_of w).state ≡ record (view_of z).state { cache = None } → (view_of w).own ≡ (view_of z).own → HasRoot h w
rooted h cache cell x y z last t sits d flush later state same =
    let v : View = view_of x in
    let w : View = view_of last in
    let f = t.first in
    let own = same ∙ flush.own in
    let ran : Ran v w = ran-join v (view_of y) w d.ran (ran-join (view_of y) (view_of z) w flush.ran later) in
    let none = first-lags h cache x t in
    let s : w.state ≡ record (with_cell v.state cell) { cache = None; env = slice_set v.state.env 0 (reference_in (cell + 1)) } =
    state
    ∙ ap (λ (q : SeatState). record q { cache = None }) flush.state
    ∙ ap (λ (q : SeatState). record q { cache = None; lags = 0 }) d.state
    ∙ (λ i. record (with_cell v.state cell) { cache = None; env = slice_set v.state.env 0 (reference_in (cell + 1)); lags = sym none i }) in
    record {
      sits = sits;
      first =
          record {
            section = ap (λ (q : SeatState). q.section) s ∙ f.section;
            plan = ran-plan v w ran ∙ f.plan;
            seasons = ap (λ (o : SectionState). o.seasons) own ∙ (d.seasons ∙ f.seasons);
            heap = ap (λ (o : SectionState). o.meaning.heap) own ∙ (d.heap ∙ ap (λ (p : PlainHeap). heap_after p None (ops.New 0 0)) f.heap);
            counted = ap (λ m. m + 1) f.counted ∙ sym (ap (λ (q : SeatState). q.made) s);
          };
      mutates = t.mutates w (ran-shape v w ran) (s ∙ ap (λ (q : SeatState). record v.state { cache = None; made = q.made; env = q.env }) (sym s));
      cache = ap (λ (q : SeatState). q.cache) s;
    }

-- the season moved on, and the seat is alone still
pub turned : (h : Heap) (x y : HeapSeat) → IsAloneInIdle h x → Sits h y → Took NextSeason (view_of x) (view_of y) → IsAloneInIdle h y
turned h x y k sits took =
    let v : View = view_of x in
    let e = took.1.0 in
    record {
      sits = sits;
      rest = record { knows = ap (λ (q : View). q.state.knows) e ∙ k.rest.knows; alone = ap (λ (q : View). q.state.alone) e ∙ k.rest.alone; rest = subst (λ (q : View). has_nothing q.shape q.state ≡ true) (sym e) k.rest.rest };
      unhelping = ap (λ (q : View). q.state.helping) e ∙ k.unhelping;
      alone = alone-turn v (view_of y) took.0 took.1 k.alone;
    }
