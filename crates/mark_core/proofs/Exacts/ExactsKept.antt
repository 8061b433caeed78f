-- Each event that is allowed keeps the rule of an exact stop: in it every cell that stays is reachable.
use Rattle.std.proofs.Common.{ℕ, ◌≡◌, List, get_or, refl, sym, ap, ◌∙◌, Bool, true, false, ◌||◌, ◌⊎◌, inl, inr, ⊎_elim, arith, subst, eqb, Option, Some, None}
use Rattle.std.specs.List.{All, list_any}
use Rattle.std.proofs.lemmas.Bool.{cases_Bool, and_parts, false_from_ne_true, true≢false, false≢true, eqb-true}
use Rattle.std.proofs.lemmas.List.Folds.{list_any_none, list_any_at}
use Rattle.mark_core.specs.Layout.{Words, words_of}
use Rattle.mark_core.specs.Views.{standings, some_knows, Grasp, grasps, grasp_of, makers, blocks}
use Rattle.mark_core.specs.Sound.{some_exact}
use Rattle.mark_core.specs.Steps.WorldSteps.{begins_exact}
use Rattle.mark_core.specs.Effects.{seat_after}
use Rattle.mark_core.specs.Steps.{Core, failing_part, after_event}
use Rattle.mark_core.specs.Laws.{IsCore}
use Rattle.mark_core.proofs.Known.{found, words_left, seats_left}
use Rattle.mark_core.proofs.World.WorldReading.{any-passes, some-passes}
use Rattle.mark_core.proofs.World.WorldKept.{WorldSound}
use Rattle.mark_core.proofs.Blocks.BlocksStopped.{Taken, mine, kept-after, AllStill, still-from, still-known, knower, not-still, sweeping}
use Rattle.mark_core.proofs.Blocks.BlocksWords.{heap-left}
use Rattle.mark_core.proofs.Blocks.BlocksFacts.{ExactKnows, NotExact, exact-knows, none-exact}
use Rattle.mark_core.proofs.Writing.RegionWrites.{roots-kept, fields-kept, allocs-kept}
use Rattle.mark_core.proofs.Sweeps.SweepsSpared.{NoneUsed, none-used, use-published}
use Rattle.mark_core.specs.declared.kinds.Phase.{Phase}
use Rattle.mark_core.specs.declared.kinds.Phase.TheVariants.{Idle, Marking, Drain, Sweep, Clear, Full}
use Rattle.mark_core.specs.declared.kinds.Step.{Step}
use Rattle.mark_core.specs.declared.kinds.Step.TheVariants.{SetMark, StoreField, StoreRoot, StoreNew, PublishCells, DropStep, StorePhase, NextBlock, StoreAlloc, ClearMarks, Reset, ExchangeField, StoreSlot, FlushRoot}
use Rattle.mark_core.specs.declared.seat.SeatState.{SeatState}
use Rattle.std.specs.Prelude.{IsTrue, IfSome}
use Rattle.std.proofs.lemmas.List.{length-map, get_or-map}
use Rattle.std.proofs.lemmas.List.Elements.{All-map}
use Rattle.mark_core.specs.Shapes.{EachCell, IsShape}
use Rattle.mark_core.specs.Bits.{cell_bit}
use Rattle.mark_core.specs.Seats.{is_phase}
use Rattle.mark_core.specs.Cells.{in_use, IsReachableCell}
use Rattle.mark_core.specs.Rules.HeapRules.{Exact}
use Rattle.mark_core.proofs.Doing.{local-kept}
use Rattle.mark_core.proofs.Blocks.BlocksSteps.{publishes-nothing}
use Rattle.mark_core.proofs.Sweeps.SweepsKept.{phase-came, keeps, keeps-same, kept-first, world-left}
use Rattle.mark_core.proofs.Exacts.ExactsDrain.{Reached, MarksReached, ValueReached, marks-reached, value-reached}
use Rattle.mark_core.proofs.Exacts.ExactsMoves.{begins-white, drain-begins, no-values, kept-last}
use Rattle.mark_core.proofs.HeldBlock.{of-view}
use Rattle.mark_core.specs.declared.kinds.Shape.{Shape}
use Rattle.mark_core.specs.declared.kinds.Event.{Event}
use Rattle.mark_core.specs.Start.{start_words, start_seats}
use Rattle.mark_core.proofs.Pool.PoolStart.{each-seat}

-- A seat is exact after a step if one was before, or if the step began its drain; and while one is, no root and no field changes.
none_pass : {X : Type 0} (p : X → Bool) (xs : List X) → list_any p xs ≡ false → All (λ x. p x ≡ false) xs
none_pass p xs e j d h = false_from_ne_true (p (get_or xs j d)) (λ f. true≢false (sym (list_any_at p xs j d h f) ∙ e))

-- a step that makes its seat exact begins its drain
begun_by : (c : Core) (s : SeatState) (to : Phase) → s.exact ≡ false → (s.exact || begins_exact (words_of c.shape c.words).phase to) ≡ true → (StorePhase to ≡ StorePhase Drain) × (begins_exact (words_of c.shape c.words).phase Drain ≡ true)
begun_by c s Drain n e = (refl, ap (λ b. b || begins_exact (words_of c.shape c.words).phase Drain) (sym n) ∙ e)
begun_by c s Idle n e = absurd (false≢true (sym (ap (λ b. b || false) n) ∙ e))
begun_by c s Marking n e = absurd (false≢true (sym (ap (λ b. b || false) n) ∙ e))
begun_by c s Sweep n e = absurd (false≢true (sym (ap (λ b. b || false) n) ∙ e))
begun_by c s Clear n e = absurd (false≢true (sym (ap (λ b. b || false) n) ∙ e))
begun_by c s Full n e = absurd (false≢true (sym (ap (λ b. b || false) n) ∙ e))

exact_begun : (c : Core) (s : SeatState) (step : Step) → s.exact ≡ false → (seat_after c.shape s step (found c s step)).exact ≡ true → (step ≡ StorePhase Drain) × (begins_exact (words_of c.shape c.words).phase Drain ≡ true)
exact_begun c s (StorePhase to) n e = begun_by c s to n e
exact_begun c s DropStep n e = absurd (false≢true e)
exact_begun c s step n e = absurd (true≢false (sym e ∙ n))

pub exact-came : (c : Core) (i : ℕ) (s : SeatState) (step : Step) → Taken c i s step → some_exact (seats_left c i s step) ≡ true → (some_exact c.seats ≡ true) ⊎ ((step ≡ StorePhase Drain) × (begins_exact (words_of c.shape c.words).phase Drain ≡ true))
exact-came c i s step t e =
    ⊎_elim
    (λ (a : some_exact c.seats ≡ true). inl a)
    (λ (a : some_exact c.seats ≡ false).
    let all : All NotExact c.seats = none_pass (λ (x : SeatState). x.exact) c.seats a in
    ⊎_elim
    (λ (b : (seat_after c.shape s step (found c s step)).exact ≡ true). inr (exact_begun c s step (mine c i s step NotExact t all) b))
    (λ (b : (seat_after c.shape s step (found c s step)).exact ≡ false).
    absurd (true≢false (sym e ∙ list_any_none (λ (x : SeatState). x.exact) (seats_left c i s step) (none-exact c i s step all b))))
    (cases_Bool (seat_after c.shape s step (found c s step)).exact))
    (cases_Bool (some_exact c.seats))

-- if some seat is exact, some seat knows
exact_knower : (seats : List SeatState) (d : SeatState) → All ExactKnows seats → some_exact seats ≡ true → some_knows (standings seats) ≡ true
exact_knower seats d a e =
    let one = some-passes (λ (x : SeatState). x.exact) seats (any-passes (λ (x : SeatState). x.exact) seats e) in
    knower seats one.0 d one.1 (a one.0 d one.1 (one.2 d))

-- so no seat is active
pub exact-calm : (c : Core) (s : SeatState) → IsCore c → some_exact c.seats ≡ true → AllStill c
exact-calm c s k e = still-known c k (exact_knower c.seats s (λ j d h. (k.strong.seats_strong j d h).exact_needs_knows) e)

pub exact-unused : (c : Core) (s : SeatState) → IsCore c → some_exact c.seats ≡ true → NoneUsed c.seats
exact-unused c s k e = let w : Words = words_of c.shape c.words in none-used c.shape w.world w.help c.seats k.sound.world (exact-calm c s k e)

pub exact-unused_after : (c : Core) (i : ℕ) (s : SeatState) (step : Step) → Taken c i s step → WorldSound c.shape (words_left c s step) (seats_left c i s step) → some_exact (seats_left c i s step) ≡ true → NoneUsed (seats_left c i s step)
exact-unused_after c i s step t after e =
    let v : Words = words_left c s step in
    let seats : List SeatState = seats_left c i s step in
    none-used c.shape v.world v.help seats after.world (still-from c.shape v.world v.help seats after.world (exact_knower seats s (exact-knows c i s step t) e))

-- while no seat is active no reference changes
pub references-left : (c : Core) (i : ℕ) (s : SeatState) (step : Step) → Taken c i s step → AllStill c → ((words_left c s step).roots ≡ (words_of c.shape c.words).roots) × ((words_left c s step).fields ≡ (words_of c.shape c.words).fields)
references-left c i s (StoreField v f x) t still = not-still c i s (StoreField v f x) _ t still (and_parts s.active _ (and_parts _ _ t.ok.0).1).0
references-left c i s (ExchangeField v f x y) t still = not-still c i s (ExchangeField v f x y) _ t still (and_parts s.active _ (and_parts _ _ t.ok.0).1).0
references-left c i s (FlushRoot v) t still = not-still c i s (FlushRoot v) _ t still (and_parts s.active _ (and_parts _ _ t.ok.0).1).0
references-left c i s (StoreRoot v r) t still = not-still c i s (StoreRoot v r) _ t still (and_parts s.active _ (and_parts _ _ t.ok.0).1).0
references-left c i s (StoreSlot k r) t still = not-still c i s (StoreSlot k r) _ t still (and_parts s.active _ (and_parts _ _ t.ok.0).1).0
references-left c i s (StoreNew x part word) t still = not-still c i s (StoreNew x part word) _ t still (and_parts s.active _ (and_parts _ _ t.ok.0).1).0
references-left c i s (SetMark x) t still = (refl, refl)
references-left c i s PublishCells t still = (refl, refl)
references-left c i s (StorePhase to) t still = (refl, refl)
references-left c i s NextBlock t still = (refl, refl)
references-left c i s StoreAlloc t still = (refl, refl)
references-left c i s ClearMarks t still = (refl, refl)
references-left c i s (Reset which) t still = let w : Words = words_of c.shape c.words in (roots-kept c.shape s (Reset which) 0 w refl, fields-kept c.shape s (Reset which) 0 w refl)
references-left c i s step t still = let same = heap-left c i s step t refl in (same.roots, same.fields)

-- the rule of an exact stop, by the words and the seats
abbrev pub ExactSound : Shape → Words → List SeatState → Type 0
ExactSound sh w seats = Exact sh (some_exact seats) w.phase w.next_block w.roots w.allocs w.marks w.fields (grasps seats) (makers seats) (blocks seats)

-- cell x is reachable by these words
abbrev pub ReachedBy : Shape → Words → ℕ → Type 0
ReachedBy sh w x = IsReachableCell sh w.roots w.fields x

-- what was reachable is, while no seat is active
same_reach : (c : Core) (i : ℕ) (s : SeatState) (step : Step) (x : ℕ) → Taken c i s step → AllStill c → Reached c x → ReachedBy c.shape (words_left c s step) x
same_reach c i s step x t still r =
    let w : Words = words_of c.shape c.words in
    let same = references-left c i s step t still in
    let P : List ℕ → Type 0 = λ roots. IsReachableCell c.shape roots w.fields x in
    let Q : List ℕ → Type 0 = λ fields. IsReachableCell c.shape (words_left c s step).roots fields x in
    subst Q (sym same.1) (subst P (sym same.0) r)

-- a seat was exact before a step that isn't the beginning of a drain
was_exact : (c : Core) (i : ℕ) (s : SeatState) (step : Step) → Taken c i s step → (step ≡ StorePhase Drain → ⊥) → some_exact (seats_left c i s step) ≡ true → some_exact c.seats ≡ true
was_exact c i s step t n e = ⊎_elim (λ a. a) (λ a. absurd (n a.0)) (exact-came c i s step t e)

-- a step that leaves another phase than Drain doesn't begin one
not_drain : (c : Core) (s : SeatState) (step : Step) (n : ℕ) → (n ≡ 2 → ⊥) → (words_left c s step).phase ≡ n → step ≡ StorePhase Drain → ⊥
not_drain c s step n d p e =
    let P : Step → Type 0 = λ x. (words_left c s x).phase ≡ n in
    d (sym (subst P e p))

-- in a drain that goes on a seat was exact before
drain_was : (c : Core) (i : ℕ) (s : SeatState) (step : Step) → Taken c i s step → (words_of c.shape c.words).phase ≡ 2 → some_exact (seats_left c i s step) ≡ true → some_exact c.seats ≡ true
drain_was c i s step t p e =
    ⊎_elim
    (λ a. a)
    (λ a. absurd (false≢true (sym (ap (λ n. begins_exact n Drain) p) ∙ a.1)))
    (exact-came c i s step t e)

-- what is marked, and what is loaded, in a drain
abbrev pub DrainReached : Core → ℕ → SeatState → Step → Type 0
DrainReached c i s step = EachCell c.shape (λ x. IsTrue (cell_bit (words_left c s step).marks x) → ReachedBy c.shape (words_left c s step) x) × All (λ (y : SeatState). IfSome y.value (ReachedBy c.shape (words_left c s step))) (seats_left c i s step)

some_reach : (c : Core) (v : Words) (o : Option ℕ) → ((x : ℕ) → Reached c x → ReachedBy c.shape v x) → IfSome o (Reached c) → IfSome o (ReachedBy c.shape v)
some_reach c v None f h = tt
some_reach c v (Some x) f h = f x h

from_grasps : (c : Core) → All (λ (g : Grasp). IfSome g.value (Reached c)) (grasps c.seats) → All (ValueReached c) c.seats
from_grasps c a j d h = subst (λ (g : Grasp). IfSome g.value (Reached c)) (get_or-map grasp_of c.seats j d (grasp_of d) h) (a j (grasp_of d) (rw length-map h))

drain_goes_on : (c : Core) (i : ℕ) (s : SeatState) (step : Step) → Taken c i s step → (words_of c.shape c.words).phase ≡ 2 → some_exact (seats_left c i s step) ≡ true → DrainReached c i s step
drain_goes_on c i s step t p e =
    let before = drain_was c i s step t p e in
    let time : is_phase (words_of c.shape c.words).phase Drain ≡ true = ap (λ n. eqb n 2) p in
    let still = exact-calm c s t.core before in
    let marks : MarksReached c (words_of c.shape c.words).marks = t.core.sound.exact.drain_marks before time in
    let all : All (λ (g : Grasp). IfSome g.value (Reached c)) (grasps c.seats) = t.core.sound.exact.drain_values before time in
    let own : ValueReached c s = of-view grasp_of (λ (g : Grasp). IfSome g.value (Reached c)) c i s step t all in
    let reach = λ (x : ℕ) (r : Reached c x). same_reach c i s step x t still r in
    let values : All (ValueReached c) (seats_left c i s step) =
    local-kept (ValueReached c) c.shape step c.seats i (seat_after c.shape s step (found c s step)) (λ k. tt) (λ k. tt) (from_grasps c all) (value-reached c i s step t p (exact-unused c s t.core before) marks own) in
    (λ x h k. reach x (marks-reached c i s step t p marks own x h k), λ j d h. some_reach c (words_left c s step) (get_or (seats_left c i s step) j d).value reach (values j d h))

drain_begins : (c : Core) (i : ℕ) (s : SeatState) → Taken c i s (StorePhase Drain) → some_exact (seats_left c i s (StorePhase Drain)) ≡ true → DrainReached c i s (StorePhase Drain)
drain_begins c i s t e =
    let step : Step = StorePhase Drain in
    let from : begins_exact (words_of c.shape c.words).phase Drain ≡ true = ⊎_elim (λ a. drain-begins c i s t a) (λ a. a.1) (exact-came c i s step t e) in
    let none = no-values c t.core from in
    let P : SeatState → Type 0 = λ y. y.value ≡ None in
    let after : All P (seats_left c i s step) = local-kept P c.shape step c.seats i (seat_after c.shape s step (found c s step)) (λ k. refl) (λ k. refl) none (mine c i s step P t none) in
    (λ x h k. absurd (true≢false (sym k ∙ begins-white c i s t from x h)), λ j d h. rw (after j d h) tt)

in_drain : (c : Core) (i : ℕ) (s : SeatState) (step : Step) → Taken c i s step → some_exact (seats_left c i s step) ≡ true → (words_left c s step).phase ≡ 2 → DrainReached c i s step
in_drain c i s step t e p =
    ⊎_elim
    (λ (a : (words_of c.shape c.words).phase ≡ 2). drain_goes_on c i s step t a e)
    (λ (a : step ≡ StorePhase Drain).
    let P : Step → Type 0 = λ x. Taken c i s x → some_exact (seats_left c i s x) ≡ true → DrainReached c i s x in
    subst P (sym a) (drain_begins c i s) t e)
    (phase-came c i s step Drain t p)

-- what the sweep keeps
abbrev pub KeptReached : Core → ℕ → SeatState → Step → Type 0
KeptReached c i s step = EachCell c.shape (λ x. IsTrue (keeps (words_left c s step) (seats_left c i s step) x) → ReachedBy c.shape (words_left c s step) x)

sweep_begins : (c : Core) (i : ℕ) (s : SeatState) → Taken c i s (StorePhase Sweep) → some_exact c.seats ≡ true → KeptReached c i s (StorePhase Sweep)
sweep_begins c i s t e x h k =
    let w : Words = words_of c.shape c.words in
    let step : Step = StorePhase Sweep in
    let none = eqb-true w.next_block 0 (and_parts _ (eqb w.next_block 0) t.ok.1.0).1 in
    let first = kept-first w.next_block (blocks (seats_left c i s step)) w.allocs w.marks (makers (seats_left c i s step)) x none in
    t.core.sound.exact.drain_marks e t.ok.0 x h (sym first ∙ k)

in_sweep : (c : Core) (i : ℕ) (s : SeatState) (step : Step) → Taken c i s step → WorldSound c.shape (words_left c s step) (seats_left c i s step) → some_exact (seats_left c i s step) ≡ true → (words_left c s step).phase ≡ 3 → KeptReached c i s step
in_sweep c i s step t after e p =
    let before = was_exact c i s step t (not_drain c s step 3 (λ z. omega (arith, z)) p) e in
    ⊎_elim
    (λ (a : (words_of c.shape c.words).phase ≡ 3). λ x h k.
    same_reach c i s step x t (exact-calm c s t.core before) (t.core.sound.exact.sweep_kept before (ap (λ n. eqb n 3) a) x h (sym (keeps-same c i s step x t after a p h) ∙ k)))
    (λ (a : step ≡ StorePhase Sweep).
    let P : Step → Type 0 = λ x. Taken c i s x → KeptReached c i s x in
    subst P (sym a) (λ u. sweep_begins c i s u before) t)
    (phase-came c i s step Sweep t p)

-- what is in use
abbrev pub UsedReached : Core → ℕ → SeatState → Step → Type 0
UsedReached c i s step = EachCell c.shape (λ x. IsTrue (in_use (words_left c s step).allocs (makers (seats_left c i s step)) x) → ReachedBy c.shape (words_left c s step) x)

-- in Idle no allocation bit changes while no seat is active
idle_allocs : (c : Core) (i : ℕ) (s : SeatState) (step : Step) → Taken c i s step → AllStill c → (words_of c.shape c.words).phase ≡ 0 → (words_left c s step).allocs ≡ (words_of c.shape c.words).allocs
idle_allocs c i s StoreAlloc t still p = absurd (omega (arith, p, sweeping c i s StoreAlloc t t.ok.0))
idle_allocs c i s PublishCells t still p = publishes-nothing c i s t still
idle_allocs c i s (SetMark x) t still p = refl
idle_allocs c i s (StoreField v f x) t still p = refl
idle_allocs c i s (ExchangeField v f x y) t still p = refl
idle_allocs c i s (StoreRoot v r) t still p = refl
idle_allocs c i s (FlushRoot v) t still p = refl
idle_allocs c i s (StoreSlot k r) t still p = refl
idle_allocs c i s (StoreNew x part word) t still p = allocs-kept c.shape s (StoreNew x part word) word (words_of c.shape c.words) refl
idle_allocs c i s (StorePhase to) t still p = refl
idle_allocs c i s NextBlock t still p = refl
idle_allocs c i s ClearMarks t still p = refl
idle_allocs c i s (Reset which) t still p = allocs-kept c.shape s (Reset which) 0 (words_of c.shape c.words) refl
idle_allocs c i s step t still p = (heap-left c i s step t refl).allocs

idle_goes_on : (c : Core) (i : ℕ) (s : SeatState) (step : Step) → Taken c i s step → NoneUsed (seats_left c i s step) → some_exact c.seats ≡ true → (words_of c.shape c.words).phase ≡ 0 → UsedReached c i s step
idle_goes_on c i s step t unused before p x h k =
    let w : Words = words_of c.shape c.words in
    let v : Words = words_left c s step in
    let still = exact-calm c s t.core before in
    let bit : cell_bit w.allocs x ≡ true = ap (λ ws. cell_bit ws x) (sym (idle_allocs c i s step t still p)) ∙ (sym (use-published v.allocs (seats_left c i s step) x unused) ∙ k) in
    let was : in_use w.allocs (makers c.seats) x ≡ true = use-published w.allocs c.seats x (exact-unused c s t.core before) ∙ bit in
    same_reach c i s step x t still (t.core.sound.exact.idle_in_use before (ap (λ n. eqb n 0) p) x h was)

idle_begins : (c : Core) (i : ℕ) (s : SeatState) → Taken c i s (StorePhase Idle) → NoneUsed (seats_left c i s (StorePhase Idle)) → some_exact c.seats ≡ true → UsedReached c i s (StorePhase Idle)
idle_begins c i s t unused before x h k =
    let w : Words = words_of c.shape c.words in
    let bit : cell_bit w.allocs x ≡ true = sym (use-published w.allocs (seats_left c i s (StorePhase Idle)) x unused) ∙ k in
    let was : in_use w.allocs (makers c.seats) x ≡ true = use-published w.allocs c.seats x (exact-unused c s t.core before) ∙ bit in
    t.core.sound.exact.sweep_kept before t.ok.0 x h (kept-last c i s x t h ∙ was)

in_idle : (c : Core) (i : ℕ) (s : SeatState) (step : Step) → Taken c i s step → WorldSound c.shape (words_left c s step) (seats_left c i s step) → some_exact (seats_left c i s step) ≡ true → (words_left c s step).phase ≡ 0 → UsedReached c i s step
in_idle c i s step t after e p =
    let before = was_exact c i s step t (not_drain c s step 0 (λ z. omega (arith, z)) p) e in
    let unused = exact-unused_after c i s step t after e in
    ⊎_elim
    (λ (a : (words_of c.shape c.words).phase ≡ 0). idle_goes_on c i s step t unused before a)
    (λ (a : step ≡ StorePhase Idle).
    let P : Step → Type 0 = λ x. Taken c i s x → NoneUsed (seats_left c i s x) → UsedReached c i s x in
    subst P (sym a) (λ u n. idle_begins c i s u n before) t unused)
    (phase-came c i s step Idle t p)

exact_at : (c : Core) (i : ℕ) (s : SeatState) (step : Step) → Taken c i s step → WorldSound c.shape (words_left c s step) (seats_left c i s step) → ExactSound c.shape (words_left c s step) (seats_left c i s step)
exact_at c i s step t after =
    let v : Words = words_left c s step in
    record {
      drain_marks = λ e p. (in_drain c i s step t e (eqb-true v.phase 2 p)).0;
      drain_values = λ e p. All-map (λ (g : Grasp). IfSome g.value (ReachedBy c.shape v)) grasp_of (seats_left c i s step) (in_drain c i s step t e (eqb-true v.phase 2 p)).1;
      sweep_kept = λ e p. in_sweep c i s step t after e (eqb-true v.phase 3 p);
      idle_in_use = λ e p. in_idle c i s step t after e (eqb-true v.phase 0 p);
    }

-- each event that is allowed keeps the rule of an exact stop
pub exact-kept_by : (c : Core) (e : Event) → IsCore c → failing_part c e ≡ None → ExactSound (after_event c e).shape (words_of (after_event c e).shape (after_event c e).words) (after_event c e).seats
exact-kept_by c e k f = kept-after ExactSound c e k f (λ s a t. exact_at c e.seat s e.step t (world-left c e s k f a))

-- The state in which nothing has happened meets the rule of an exact stop, since no seat is exact.
no_such : (P : Type 0) → true ≡ false → P
no_such P e = absurd (true≢false e)

pub exact-starts : (sh : Shape) (n : ℕ) → IsShape sh → ExactSound sh (words_of sh (start_words sh)) (start_seats sh n)
exact-starts sh n z =
    let none : some_exact (start_seats sh n) ≡ false = list_any_none (λ (s : SeatState). s.exact) (start_seats sh n) (each-seat NotExact sh n (λ k. refl)) in
    let never = λ (P : Type 0) (e : some_exact (start_seats sh n) ≡ true). no_such P (sym e ∙ none) in
    record { drain_marks = never _; drain_values = never _; sweep_kept = never _; idle_in_use = never _ }
