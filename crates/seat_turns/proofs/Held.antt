-- A mutator whose roots may lag: what it may do, and that an operation leaves it so.
use Rattle.std.proofs.Common.{ℕ, suc, zero, ◌≡◌, ◌≤◌, ◌<◌, ◌++◌, ◌∙◌, List, [], ◌∷◌, length, Bool, true, false, Option, Some, ap, arith, refl, sym, subst}
use Rattle.std.specs.Prelude.{if◌then◌else◌, is_some}
use Rattle.std.proofs.lemmas.Bool.{and_from, and_parts, true≢false}
use Rattle.mark_core.specs.Bits.{has_bit, with_bit}
use Rattle.mark_core.specs.Numbers.{section_variables}
use Rattle.mark_core.specs.Seats.{has_making, has_turn}
use Rattle.mark_core.specs.declared.kinds.Shape.{Shape}
use Rattle.mark_core.specs.declared.kinds.Step.{Step}
use Rattle.mark_core.specs.declared.kinds.Step.TheVariants.{FlushRoot, ReadValue}
use Rattle.mark_core.specs.declared.seat.SeatState.{SeatState}
use Rattle.gc_table.specs.Log.{Only}
use Rattle.gc_table.specs.Rule.{KnowsFull}
use Rattle.gc_table.specs.Running.{Ran}
use Rattle.gc_table.specs.Seats.{Found, Sits, view_of}
use Rattle.gc_table.specs.declared.seat.Heap.{Heap}
use Rattle.gc_table.specs.declared.seat.HeapSeat.{HeapSeat}
use Rattle.gc_table.specs.declared.view.SectionState.{SectionState}
use Rattle.gc_table.specs.declared.view.View.{View}
use Rattle.gc_table.proofs.Running.{ran-found, ran-refl, ran-shape}
use Rattle.alloc_cache.specs.Caching.{is_whole}
use Rattle.gc_cycle.specs.Mutating.{tries_stopping}
use Rattle.gc_cycle.specs.Standing.{Mutates, is_at_rest}
use Rattle.gc_cycle.proofs.Refills.KnownFull.{full-known}
use Rattle.mutator_ops.specs.Flushing.{Flushes, flushing_step, flushing_steps, word_of_variables}
use Rattle.mutator_ops.specs.Sharing.{ShareCreates, SharesReady, holding}
use Rattle.mutator_ops.specs.Weak.{FindsUnpublished, TakesWeak}
use Rattle.card_clean.specs.Barrier.{cell_in}
use Rattle.mutator_ops.specs.Few.{AtMost}
use Rattle.mutator_ops.proofs.Few.{at-most-steps}
use Rattle.mutator_ops.proofs.Flushed.{flush-with, flushing-long}
use Rattle.mutator_ops.proofs.Upgraded.{weak-read}
use Rattle.mutator_ops.proofs.WeakTaken.{Rewrites, publishes, takes-rewrites, unpublished-rewrites}
use Rattle.seat_turns.specs.Sharing.{LeavesHeap, spares_heap, spares_tracers}
use Rattle.seat_turns.specs.Standing.{HoldsTurn, HoldsWorld, IsAtTurn, MayOperate, Plays, Works, flush_steps, saw_going, settled}
use Rattle.seat_turns.proofs.Done.{each, only-steps, operates-shares}
use Rattle.seat_turns.proofs.Seats.{at_rest, plan-kept, plays-turn, rests, saw-seen}

-- A mutator that holds may do what needs a seat that is ready.
pub holds-operates : (h : Heap) (x : HeapSeat) → HoldsTurn h x → MayOperate (view_of x)
holds-operates h x t =
    let s : SeatState = (view_of x).state in
    let k = t.holds in
    let rest = at_rest (view_of x).shape (settled (view_of x)).state k.mutates.rest in
    record {
      stores = record { turn = and_from s.active (has_turn s.section s.season_seen) k.mutates.active k.turn; seen = saw-seen s t.phase; owes = rest.owes };
      idle = rest.idle;
      whole = rest.whole;
      register = rest.register;
      counted = k.mutator.counted;
    }

pub holds-shares : (h : Heap) (x : HeapSeat) → HoldsTurn h x → h.shape.sharing ≡ true → Sits h x × SharesReady (view_of x)
holds-shares h x t shared = (t.holds.sits, operates-shares h x t.holds.sits (holds-operates h x t) shared)

-- At rest it holds nothing back, and is at its turn.
none-lags : (v : View) → v.state.lags ≡ 0 → settled v ≡ v
none-lags v none = λ i. record v { state = record v.state { lags = sym none i } }

pub holds-rests : (h : Heap) (x : HeapSeat) → HoldsTurn h x → (view_of x).state.lags ≡ 0 → IsAtTurn h x
holds-rests h x t none =
    let k = t.holds in record { works = record { sits = k.sits; mutates = subst Mutates (none-lags (view_of x) none) k.mutates; mutator = k.mutator }; turn = k.turn; phase = t.phase; cache = k.cache }

pub holds-own : (h : Heap) (x : HeapSeat) → HoldsTurn h x → h.shape.sharing ≡ false → IsAtTurn h x
holds-own h x t alone = holds-rests h x t (t.holds.own alone)

pub turn-holds : (h : Heap) (x : HeapSeat) → IsAtTurn h x → HoldsTurn h x
turn-holds h x t =
    let none : (view_of x).state.lags ≡ 0 = (at_rest (view_of x).shape (view_of x).state t.works.mutates.rest).lags in
    record {
      holds =
          record {
            sits = t.works.sits;
            mutates = subst Mutates (sym (none-lags (view_of x) none)) t.works.mutates;
            mutator = t.works.mutator;
            turn = t.turn;
            cache = t.cache;
            few = omega (arith, none);
            own = λ alone. none;
          };
      phase = t.phase;
    }

-- a mutator that may do an operation, with a cache that is whole, holds nothing back
pub plays-holds : (h : Heap) (x : HeapSeat) → Plays h x → is_whole (view_of x).state.cache ≡ true → HoldsTurn h x
plays-holds h x p cache = turn-holds h x (plays-turn h x p cache)

-- An operation on shared objects leaves it so.
-- what of the record an operation may change: the cache, the count of objects, the variables, and which of their roots lag
abbrev pub Operates : View → View → Type 0
Operates v w = w.state ≡ record v.state { cache = w.state.cache; made = w.state.made; env = w.state.env; lags = w.state.lags }

shared-here : (h : Heap) (y : HeapSeat) → Sits h y → SharesReady (view_of y) → h.shape.sharing ≡ true
shared-here h y sits ready = ap (λ (sh : Shape). sh.sharing) (sym sits.1) ∙ ready.shared

pub held-operated : (h : Heap) (x y : HeapSeat) → HoldsTurn h x → Sits h y → SharesReady (view_of y) → Ran (view_of x) (view_of y) → Operates (view_of x) (view_of y) → is_whole (view_of y).state.cache ≡ true
    → (view_of y).state.lags < word_of_variables → HoldsTurn h y
held-operated h x y t sits ready ran state cache few =
    let v : View = view_of x in
    let w : View = view_of y in
    let k = t.holds in
    let m = k.mutates in
    let q = k.mutator in
    let before : has_making v.state.cache ≡ false = (holds-operates h x t).whole in
    record {
      holds =
          record {
            sits = sits;
            mutates =
                record {
                  active = ap (λ (s : SeatState). s.active) state ∙ m.active;
                  unhelping = ap (λ (s : SeatState). s.helping) state ∙ m.unhelping;
                  section = ap (λ (s : SeatState). is_some s.section) state ∙ m.section;
                  rest =
                      (λ i. rests (ran-shape v w ran i) (record (state i) { cache = w.state.cache; lags = 0 }) (has_making w.state.cache))
                      ∙ ap (rests v.shape (settled v).state) (ready.whole ∙ sym before)
                      ∙ m.rest;
                };
            mutator = record { uncatalogued = plan-kept v w ran q.uncatalogued; section = ap (λ (s : SeatState). has_turn s.section (Some 1)) state ∙ q.section; counted = ready.counted };
            turn = ap (λ (s : SeatState). has_turn s.section s.season_seen) state ∙ k.turn;
            cache = cache;
            few = few;
            own = λ alone. absurd (true≢false (sym (shared-here h y sits ready) ∙ alone));
          };
      phase = ap (λ (s : SeatState). saw_going s.phase_seen) state ∙ t.phase;
    }

-- a variable was held
pub held-turn : (h : Heap) (x y : HeapSeat) (u r : ℕ) → HoldsTurn h x → Sits h y × SharesReady (view_of y) → Ran (view_of x) (view_of y) → u < section_variables → (view_of y).state ≡ holding (view_of x).state u r → HoldsTurn h y
held-turn h x y u r t ready ran low state =
    let v : View = view_of x in
    held-operated h x y t ready.0 ready.1 ran
    (state ∙ ap (λ (s : SeatState). record v.state { cache = s.cache; made = s.made; env = s.env; lags = s.lags }) (sym state))
    (ap (λ (s : SeatState). is_whole s.cache) state ∙ t.holds.cache)
    (subst (λ n. n < word_of_variables) (sym (ap (λ (s : SeatState). s.lags) state)) (flush-with v.state.lags u t.holds.few low))

-- nothing of the record changed
pub held-same : (h : Heap) (x y : HeapSeat) → HoldsTurn h x → Sits h y × SharesReady (view_of y) → Ran (view_of x) (view_of y) → (view_of y).state ≡ (view_of x).state → HoldsTurn h y
held-same h x y t ready ran state =
    let v : View = view_of x in
    held-operated h x y t ready.0 ready.1 ran
    (state ∙ ap (λ (s : SeatState). record v.state { cache = s.cache; made = s.made; env = s.env; lags = s.lags }) (sym state))
    (ap (λ (s : SeatState). is_whole s.cache) state ∙ t.holds.cache)
    (subst (λ n. n < word_of_variables) (sym (ap (λ (s : SeatState). s.lags) state)) t.holds.few)

pub held-read : (h : Heap) (x y : HeapSeat) (c n : ℕ) → HoldsTurn h x → Sits h y × SharesReady (view_of y) → Found (ReadValue c) n (view_of x) (view_of y) → HoldsTurn h y
held-read h x y c n t ready f = held-same h x y t ready (ran-found (view_of x) (view_of y) (ReadValue c) n refl f) (ap (λ (v : View). v.state) f.0)

pub held-still : (h : Heap) (x y : HeapSeat) → HoldsTurn h x → Sits h y × SharesReady (view_of y) → view_of y ≡ view_of x → HoldsTurn h y
held-still h x y t ready e = held-same h x y t ready (subst (λ (v : View). Ran (view_of x) v) (sym e) (ran-refl (view_of x))) (ap (λ (v : View). v.state) e)

-- an object was made, and held in a variable
pub held-made : (h : Heap) (x y : HeapSeat) (u n cell : ℕ) → HoldsTurn h x → Sits h y × SharesReady (view_of y) → u < section_variables → ShareCreates u n cell (view_of x) (view_of y) → is_whole (view_of y).state.cache ≡ true → HoldsTurn h y
held-made h x y u n cell t ready low e cache =
    let v : View = view_of x in
    let state = e.state in
    held-operated h x y t ready.0 ready.1 e.ran (state ∙ ap (λ (s : SeatState). record v.state { cache = s.cache; made = s.made; env = s.env; lags = s.lags }) (sym state)) cache
    (subst (λ n. n < word_of_variables) (sym (ap (λ (s : SeatState). s.lags) state)) (flush-with v.state.lags u t.holds.few low))

-- a weak reference was taken, or wasn't, as its object isn't published
held-rewrites : (h : Heap) (x y : HeapSeat) → HoldsTurn h x → Sits h y × SharesReady (view_of y) → Rewrites (view_of x) (view_of y) → (view_of y).state.lags < word_of_variables → HoldsTurn h y
held-rewrites h x y t ready e few =
    let v : View = view_of x in
    let state = e.state in
    held-operated h x y t ready.0 ready.1 e.ran (state ∙ ap (λ (s : SeatState). record v.state { cache = s.cache; made = s.made; env = s.env; lags = s.lags }) (sym state)) (e.whole ∙ t.holds.cache) few

pub held-taken : (h : Heap) (x y : HeapSeat) (u id : ℕ) → HoldsTurn h x → Sits h y × SharesReady (view_of y) → u < section_variables → TakesWeak u id (view_of x) (view_of y) → HoldsTurn h y
held-taken h x y u id t ready low e =
    let v : View = view_of x in
    let w : View = view_of y in
    let own : e.own.state.lags ≡ v.state.lags = ap (λ (s : SeatState). s.lags) (publishes (cell_in v.state u) v e.own e.publishes).state in
    let lags : w.state.lags ≡ with_bit v.state.lags u = ap (λ (s : SeatState). s.lags) e.finds.state ∙ ap (λ n. with_bit n u) own in
    held-rewrites h x y t ready (takes-rewrites u id v w e) (subst (λ n. n < word_of_variables) (sym lags) (flush-with v.state.lags u t.holds.few low))

pub held-unpublished : (h : Heap) (x y : HeapSeat) (u : ℕ) → HoldsTurn h x → Sits h y × SharesReady (view_of y) → FindsUnpublished u (view_of x) (view_of y) → HoldsTurn h y
held-unpublished h x y u t ready e =
    let v : View = view_of x in
    let w : View = view_of y in
    let c : ℕ = cell_in v.state u in
    let own : e.own.state.lags ≡ v.state.lags = ap (λ (s : SeatState). s.lags) (publishes c v e.own e.publishes).state in
    let lags : w.state.lags ≡ v.state.lags = ap (λ (s : SeatState). s.lags) (weak-read c e.bits e.own w e.finds).state ∙ own in
    held-rewrites h x y t ready (unpublished-rewrites u v w (holds-shares h x t (shared-here h y ready.0 ready.1)).1 e) (subst (λ n. n < word_of_variables) (sym lags) t.holds.few)

-- the same told of a heap that is this one
pub holds-in : (a h : Heap) (x : HeapSeat) → h ≡ a → HoldsTurn a x → a.shape.sharing ≡ true → Sits h x × SharesReady (view_of x)
holds-in a h x e t shared = subst (λ (k : Heap). Sits k x × SharesReady (view_of x)) (sym e) (holds-shares a x t shared)

pub held-in : (a h : Heap) (x y : HeapSeat) (u r : ℕ) → h ≡ a → HoldsTurn a x → Sits h y × SharesReady (view_of y) → Ran (view_of x) (view_of y) → u < section_variables → (view_of y).state ≡ holding (view_of x).state u r → HoldsTurn a y
held-in a h x y u r same t ready ran low e = held-turn a x y u r t (subst (λ (k : Heap). Sits k y × SharesReady (view_of y)) same ready) ran low e

pub held-same-in : (a h : Heap) (x y : HeapSeat) → h ≡ a → HoldsTurn a x → Sits h y × SharesReady (view_of y) → Ran (view_of x) (view_of y) → (view_of y).state ≡ (view_of x).state → HoldsTurn a y
held-same-in a h x y same t ready ran e = held-same a x y t (subst (λ (k : Heap). Sits k y × SharesReady (view_of y)) same ready) ran e

pub held-read-in : (a h : Heap) (x y : HeapSeat) (c n : ℕ) → h ≡ a → HoldsTurn a x → Sits h y × SharesReady (view_of y) → Found (ReadValue c) n (view_of x) (view_of y) → HoldsTurn a y
held-read-in a h x y c n same t ready f = held-read a x y c n t (subst (λ (k : Heap). Sits k y × SharesReady (view_of y)) same ready) f

pub held-still-in : (a h : Heap) (x y : HeapSeat) → h ≡ a → HoldsTurn a x → Sits h y × SharesReady (view_of y) → view_of y ≡ view_of x → HoldsTurn a y
held-still-in a h x y same t ready e = held-still a x y t (subst (λ (k : Heap). Sits k y × SharesReady (view_of y)) same ready) e

-- a mutator's section isn't the first one
pub holds-other : (h : Heap) (x : HeapSeat) → HoldsTurn h x → (view_of x).state.section ≡ Some 0 → ⊥
holds-other h x t e = true≢false (sym (subst (λ (o : Option ℕ). has_turn o (Some 1) ≡ true) e t.holds.mutator.section))

-- The variables whose roots lag are stored.
each-joined : (P : Step → Bool) (xs ys : List Step) → each P xs ≡ true → each P ys ≡ true → each P (xs ++ ys) ≡ true
each-joined P [] ys a b = b
each-joined P (x ∷ xs) ys a b = let r = and_parts (P x) (each P xs) a in and_from (P x) (each P (xs ++ ys)) r.0 (each-joined P xs ys r.1 b)

one-flush : (P : Step → Bool) (b : Bool) (u : ℕ) → P (FlushRoot u) ≡ true → each P (flushing_step b u) ≡ true
one-flush P true u e = and_from (P (FlushRoot u)) true e refl
one-flush P false u e = refl

each-flush : (P : Step → Bool) (lags n : ℕ) → ((u : ℕ) → P (FlushRoot u) ≡ true) → each P (flushing_steps lags n) ≡ true
each-flush P lags zero f = refl
each-flush P lags (suc n) f = each-joined P (flushing_steps lags n) (flushing_step (has_bit lags n) n) (each-flush P lags n f) (one-flush P (has_bit lags n) n (f n))

pub flushes-only : (P : Step → Bool) (v w : View) → Flushes v w → ((u : ℕ) → P (FlushRoot u) ≡ true) → Only P v w
flushes-only P v w e f = only-steps P v w (flushing_steps v.state.lags section_variables) e.steps_are (each-flush P v.state.lags section_variables f)

pub flushes-leave : (v w : View) → Flushes v w → LeavesHeap v w
flushes-leave v w e = record { ran = e.ran; only = flushes-only spares_heap v w e (λ u. refl); tracers = flushes-only spares_tracers v w e (λ u. refl); words = ap (λ (s : SeatState). s.env) e.state }

pub flushes-full : (v w : View) → Flushes v w → KnowsFull v → KnowsFull w
flushes-full v w e k = full-known v w e.ran (flushes-only tries_stopping v w e (λ u. refl)) k

pub flushed-works : (h : Heap) (x y : HeapSeat) → HoldsWorld h x → Sits h y → Flushes (view_of x) (view_of y) → Works h y
flushed-works h x y k sits e =
    let v : View = view_of x in
    let w : View = view_of y in
    let m = k.mutates in
    let q = k.mutator in
    let state = e.state in
    record {
      sits = sits;
      mutates =
          record {
            active = ap (λ (s : SeatState). s.active) state ∙ m.active;
            unhelping = ap (λ (s : SeatState). s.helping) state ∙ m.unhelping;
            section = ap (λ (s : SeatState). is_some s.section) state ∙ m.section;
            rest = (λ i. is_at_rest (ran-shape v w e.ran i) (state i)) ∙ m.rest;
          };
      mutator =
          record {
            uncatalogued = plan-kept v w e.ran q.uncatalogued;
            section = ap (λ (s : SeatState). has_turn s.section (Some 1)) state ∙ q.section;
            counted = ap (λ (o : SectionState). length o.meaning.heap.objects) e.own ∙ (q.counted ∙ sym (ap (λ (s : SeatState). s.made) state));
          };
    }

pub flushed-whole : (h : Heap) (x y : HeapSeat) → HoldsWorld h x → Flushes (view_of x) (view_of y) → is_whole (view_of y).state.cache ≡ true
flushed-whole h x y k e = ap (λ (s : SeatState). is_whole s.cache) e.state ∙ k.cache

pub flushed-turn : (h : Heap) (x y : HeapSeat) → HoldsWorld h x → saw_going (view_of x).state.phase_seen ≡ true → Sits h y → Flushes (view_of x) (view_of y) → IsAtTurn h y
flushed-turn h x y k phase sits e =
    record {
      works = flushed-works h x y k sits e;
      turn = ap (λ (s : SeatState). has_turn s.section s.season_seen) e.state ∙ k.turn;
      phase = ap (λ (s : SeatState). saw_going s.phase_seen) e.state ∙ phase;
      cache = flushed-whole h x y k e;
    }

-- how many steps that takes: 32 at most
most-by : (b : Bool) (v : View) → (if b then length (flushing_steps v.state.lags section_variables) else 0) ≤ section_variables
most-by true v = flushing-long v.state.lags section_variables
most-by false v = omega arith

pub flush-most : (v : View) → flush_steps v ≤ section_variables
flush-most v = most-by v.shape.sharing v

few-by : (b : Bool) (v w : View) → v.shape.sharing ≡ b → (b ≡ false → v.state.lags ≡ 0) → Flushes v w → AtMost (if b then length (flushing_steps v.state.lags section_variables) else 0) v w
few-by true v w shared own e = at-most-steps (length (flushing_steps v.state.lags section_variables)) v w (flushing_steps v.state.lags section_variables) e.steps_are (omega arith)
few-by false v w shared own e = at-most-steps 0 v w (flushing_steps 0 section_variables) (e.steps_are ∙ ap (λ n. flushing_steps n section_variables) (own refl)) (omega arith)

pub flushed-few : (h : Heap) (x : HeapSeat) (w : View) → HoldsWorld h x → Flushes (view_of x) w → AtMost (flush_steps (view_of x)) (view_of x) w
flushed-few h x w k e =
    let v : View = view_of x in few-by v.shape.sharing v w refl (λ alone. k.own (ap (λ (sh : Shape). sh.sharing) (sym k.sits.1) ∙ alone)) e

-- it rests on what lags
pub flush-same : (v w : View) → w.shape ≡ v.shape → w.state.lags ≡ v.state.lags → flush_steps w ≡ flush_steps v
flush-same v w shape lags = λ i. if (shape i).sharing then length (flushing_steps (lags i) section_variables) else 0
