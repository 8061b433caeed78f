-- A drain in which nothing is left to do has marked every reachable cell.
use Rattle.std.proofs.Common.{ℕ, ◌≡◌, ◌+◌, ◌-◌, ◌<◌, ◌≤◌, List, [], ◌∷◌, get_or, length, arith, refl, sym, ◌∙◌, subst, Bool, true, false, not, ◌||◌, ◌&&◌, eqb, Option, Some, None, ⊎_elim, ◌/◌, ◌%◌, ap, cond, ◌⊎◌, inl, inr}
use Rattle.std.specs.Prelude.{is_some, IsTrue, IsFalse, slice_index, IfSome, unwrap_or}
use Rattle.std.specs.List.{All, list_any, list_all}
use Rattle.std.proofs.lemmas.Bool.{true≢false, or_cases, and_parts, eqb-true, cases_lt, cases_Bool, eq-eqb}
use Rattle.std.proofs.lemmas.List.{get_or_past, get_or-map, length-map}
use Rattle.std.proofs.lemmas.List.Elements.{All-map}
use Rattle.std.proofs.lemmas.List.Folds.{list_all_at, list_any_none, list_any_at}
use Rattle.mark_core.specs.Shapes.{EachPacket}
use Rattle.mark_core.specs.Layout.{Words, words_of, region_sizes, block_count}
use Rattle.mark_core.specs.Bits.{cell_bit, nil_or, has_bit, all_ones}
use Rattle.mark_core.specs.Seats.{is_the, scan_left, cleaning_left, work_in_hand, is_phase, may_store, block_in_hand}
use Rattle.mark_core.specs.Views.{Grasp, grasps, grasp_of, hands, standings, Standing, Maker, makers, blocks}
use Rattle.mark_core.specs.Cells.{packet_length, field, IsCellPath, in_use, is_kept, is_swept_block, is_unswept, IsReachableCell}
use Rattle.mark_core.specs.Rules.WorldRules.{is_tracing, NoneActive, is_stopped_phase}
use Rattle.mark_core.specs.Steps.WorldSteps.{is_quiet, cards_clean, roots_marked, all_allocated}
use Rattle.mark_core.specs.Rules.ColourRules.{popped_is, tends, cleans_card, owes_card, will_read, has_value, is_marked_soon, IsWaiting, IsAccounted}
use Rattle.mark_core.specs.Closed.{sees_quiet, is_closed, IsQuiet, IsReachableIn}
use Rattle.mark_core.specs.Variables.{roots_now}
use Rattle.mark_core.proofs.Lagging.{Shows, idle-lags, now-still}
use Rattle.mark_core.specs.Start.{spent_seat}
use Rattle.mark_core.specs.Steps.{Core, after_event}
use Rattle.mark_core.specs.Sound.{IsSoundCore}
use Rattle.mark_core.specs.WellFormed.{IsWellFormed}
use Rattle.mark_core.specs.Laws.{ClosedMarksAll, FullIsReachable, IsCore, ReachableStay}
use Rattle.mark_core.proofs.Writing.Places.{region-length}
use Rattle.mark_core.proofs.Known.{bit-below, HasCache, in_use-below, acts, all-makers, Acted, words_left}
use Rattle.mark_core.proofs.Count.CountWork.{idle-from}
use Rattle.mark_core.proofs.Consequences.QuietReading.{quiet}
use Rattle.mark_core.proofs.World.WorldReading.{at-standing, any-passes, some-passes}
use Rattle.mark_core.proofs.Hands.HandsCleaning.{done-left, done-cleans, done-scan}
use Rattle.mark_core.specs.declared.kinds.Shape.{Shape}
use Rattle.mark_core.specs.declared.kinds.Phase.TheVariants.{Drain, Full, Sweep}
use Rattle.mark_core.specs.declared.seat.SeatState.{SeatState}
use Rattle.mark_core.specs.Cards.{card_of}
use Rattle.std.proofs.lemmas.Nat.Bits.{bit_at_ones}
use Rattle.std.proofs.lemmas.Option.{slice_get_within, get_or_from_slice_get}
use Rattle.mark_core.specs.declared.kinds.Step.TheVariants.{StorePhase, StoreAlloc}
use Rattle.std.proofs.Math.Bool.{and-false}
use Rattle.mark_core.specs.Strong.{IsStrongBlock}
use Rattle.mark_core.specs.Steps.SweepSteps.{survivors, own_block}
use Rattle.mark_core.proofs.HeldBlock.{allocs-length, marks-length, MayStore, may-store, own-strong}
use Rattle.mark_core.proofs.Blocks.BlocksStopped.{Taken, within, own-record, sweeping, still-stopped, still-while-knows}
use Rattle.mark_core.proofs.Blocks.BlocksStretch.{unswept-first}
use Rattle.mark_core.proofs.Writing.CellBits.{bit-both, bits-grow}
use Rattle.mark_core.specs.declared.kinds.Step.{Step}
use Rattle.mark_core.specs.declared.seat.BlockState.{BlockState}
use Rattle.mark_core.proofs.Used.UsedKept.{alloc-on}
use Rattle.mark_core.proofs.Pool.PoolsKept.{shape-kept}

-- a seat without work in hand that owes no card
pub record IsIdle (fields : ℕ) (g : Grasp) : Type 0 where
  pub popped : is_some g.popped ≡ false
  pub scan : scan_left fields g.scan ≡ false
  pub value : is_some g.value ≡ false
  pub fresh : is_some g.fresh ≡ false
  pub cleaning : cleaning_left g.cleaning ≡ false
  pub owes : g.owes ≡ None

idle_grasp : (fields : ℕ) (s : SeatState) → IsFalse (work_in_hand fields s) → s.owes ≡ None → IsIdle fields (grasp_of s)
idle_grasp fields s e o = let a = idle-from fields s e in record { popped = a.popped; scan = a.scan; value = a.value; fresh = a.fresh; cleaning = a.cleaning; owes = o }

none_popped : (o : Option (ℕ × Bool)) (c : ℕ) → is_some o ≡ false → popped_is o c ≡ false
none_popped None c e = refl
none_popped (Some x) c e = absurd (true≢false e)

none_named : (o : Option ℕ) (n : ℕ) → is_some o ≡ false → is_the o n ≡ false
none_named None n e = refl
none_named (Some x) n e = absurd (true≢false e)

none_tended : (fields c : ℕ) (g : Grasp) → IsIdle fields g → tends c g ≡ false
none_tended fields c g k = rw (none_popped g.popped c k.popped, none_named g.fresh c k.fresh, done-left g.cleaning c k.cleaning) refl

-- each element passes if all do
pub all-passes : {X : Type 0} (f : X → Bool) (xs : List X) (i : ℕ) (d : X) → i < length xs → list_all f xs ≡ true → f (get_or xs i d) ≡ true
all-passes f xs i d h e =
    ⊎_elim
    (λ (a : f (get_or xs i d) ≡ true). a)
    (λ (a : f (get_or xs i d) ≡ false). absurd (true≢false (sym e ∙ list_all_at f xs i d h a)))
    (cases_Bool (f (get_or xs i d)))

-- a clean card's word is nil
pub clean-card : (cards : List ℕ) (i : ℕ) → cards_clean cards ≡ true → get_or cards i 0 ≡ 0
clean-card cards i e =
    ⊎_elim
    (λ (h : i < length cards). eqb-true (get_or cards i 0) 0 (all-passes (λ (x : ℕ). eqb x 0) cards i 0 h e))
    (λ (h : length cards ≤ i). get_or_past cards i 0 h)
    (cases_lt i (length cards))

-- a reference that isn't nil goes to a cell with the property
pub goes-to : (p : ℕ → Bool) (r x : ℕ) → r ≡ x + 1 → nil_or p r ≡ true → p x ≡ true
goes-to p r x e n =
    ⊎_elim
    (λ (a : eqb r 0 ≡ true). absurd (omega (arith, e, eqb-true r 0 a)))
    (λ (a : p (r - 1) ≡ true). let y : r - 1 ≡ x = omega (arith, e) in subst (λ (z : ℕ). p z ≡ true) y a)
    (or_cases (eqb r 0) (p (r - 1)) n)

-- what a drain shows in which nothing is left to do
pub record IsDone (sh : Shape) (w : Words) (seats : List SeatState) : Type 0 where
  pub tracing : IsTrue (is_tracing w.phase)
  pub no_packet : EachPacket sh (λ p. packet_length w.heads (hands seats) p ≡ 0)
  pub idle : All (IsIdle sh.fields) (grasps seats)
  pub clean : cards_clean w.cards ≡ true
  pub roots : roots_marked w.roots w.marks ≡ true
  pub still : All (λ (s : SeatState). IsFalse s.active) seats

done_from : (c : Core) → IsWellFormed c → IsSoundCore c → is_closed c ≡ true → IsDone c.shape (words_of c.shape c.words) c.seats
done_from c formed k e =
    let sh : Shape = c.shape in
    let w : Words = words_of sh c.words in
    let d : SeatState = spent_seat sh 0 in
    let some : Bool = list_any (sees_quiet sh w) c.seats in
    let f = and_parts (some && is_phase w.phase Drain && cards_clean w.cards) (roots_marked w.roots w.marks) e in
    let b = and_parts (some && is_phase w.phase Drain) (cards_clean w.cards) f.0 in
    let a = and_parts some (is_phase w.phase Drain) b.0 in
    let drain : w.phase ≡ 2 = eqb-true w.phase 2 a.1 in
    let one = some-passes (sees_quiet sh w) c.seats (any-passes (sees_quiet sh w) c.seats a.0) in
    let s : SeatState = get_or c.seats one.0 d in
    let seen = and_parts s.knows (is_quiet sh w s) (one.2 d) in
    let full : w.empty ≡ 64 + sh.packets = eqb-true w.empty (64 + sh.packets) (and_parts (eqb w.empty (64 + sh.packets)) (not (work_in_hand sh.fields s)) seen.1).0 in
    let still : IsQuiet sh w.heads c.seats = quiet c formed (record { pools = k.pools; counts = k.counts }) full in
    let none : NoneActive (standings c.seats) = at-standing (λ (x : Standing). IsTrue x.knows → NoneActive (standings c.seats)) c.seats one.0 d one.1 k.world.knows_stopped seen.0 in
    record {
      tracing = rw drain refl;
      no_packet = still.no_packet;
      idle =
          All-map (IsIdle sh.fields) grasp_of c.seats
          (λ i s h. idle_grasp sh.fields (get_or c.seats i s) (still.no_seat i s h) (k.world.inactive_calm i s h (at-standing (λ (x : Standing). IsFalse x.active) c.seats i s h none)).no_card_owed);
      clean = b.1;
      roots = f.1;
      still = λ i s h. at-standing (λ (x : Standing). IsFalse x.active) c.seats i s h none;
    }

not_waiting : (sh : Shape) (w : Words) (seats : List SeatState) (c : ℕ) → IsDone sh w seats → IsWaiting sh w.cards w.heads w.entries (hands seats) (grasps seats) c → ⊥
not_waiting sh w seats c k (IsWaiting.queued q) = omega (arith, q.3, k.no_packet q.0 q.2)
not_waiting sh w seats c k (IsWaiting.tended e) = true≢false (sym e ∙ list_any_none (tends c) (grasps seats) (λ i g h. none_tended sh.fields c (get_or (grasps seats) i g) (k.idle i g h)))
not_waiting sh w seats c k (IsWaiting.dirty e) = absurd (omega (arith, e, clean-card w.cards (card_of c) k.clean))
not_waiting sh w seats c k (IsWaiting.cleaned e) =
    true≢false (sym e ∙ list_any_none (cleans_card (card_of c)) (grasps seats) (λ i g h. done-cleans (get_or (grasps seats) i g).cleaning (card_of c) (k.idle i g h).cleaning))

-- a field of a scanned cell goes to a marked cell
scanned_goes : (sh : Shape) (w : Words) (seats : List SeatState) (c i r : ℕ) → IsDone sh w seats → i < sh.fields → (nil_or (is_marked_soon w.marks (grasps seats)) r || list_any (will_read c i) (grasps seats)) ≡ true → nil_or (cell_bit w.marks) r ≡ true
scanned_goes sh w seats c i r k h e =
    let gs : List Grasp = grasps seats in
    let unread : list_any (will_read c i) gs ≡ false = list_any_none (will_read c i) gs (λ j g l. done-scan (get_or gs j g).scan sh.fields c i (k.idle j g l).scan h) in
    let unvalued : list_any (has_value (r - 1)) gs ≡ false = list_any_none (has_value (r - 1)) gs (λ j g l. none_named (get_or gs j g).value (r - 1) (k.idle j g l).value) in
    grind (arith, e, unread, unvalued)

names_marked : (sh : Shape) (w : Words) (seats : List SeatState) (c i : ℕ) → IsDone sh w seats → i < sh.fields → IsAccounted sh w.marks w.cards w.heads w.entries w.fields (hands seats) (grasps seats) c → nil_or (cell_bit w.marks) (field sh w.fields c i) ≡ true
names_marked sh w seats c i k h (IsAccounted.waiting a) = absurd (not_waiting sh w seats c k a)
names_marked sh w seats c i k h (IsAccounted.owed e) =
    absurd (true≢false (sym e ∙ list_any_none (owes_card (card_of c)) (grasps seats) (λ j g l. rw (k.idle j g l).owes refl)))
names_marked sh w seats c i k h (IsAccounted.scanned f) = scanned_goes sh w seats c i (field sh w.fields c i) k h (f i h)

-- every path leads to marked cells
path_marked : (c : Core) → IsWellFormed c → IsSoundCore c → IsDone c.shape (words_of c.shape c.words) c.seats → (x : ℕ) (ds : List ℕ) → IsCellPath c.shape (words_of c.shape c.words).roots (words_of c.shape c.words).fields (x ∷ ds)
    → cell_bit (words_of c.shape c.words).marks x ≡ true
path_marked c formed k done x [] p =
    let w : Words = words_of c.shape c.words in
    goes-to (cell_bit w.marks) (slice_index w.roots p.0) x p.2 (all-passes (nil_or (cell_bit w.marks)) w.roots p.0 0 p.1 done.roots)
path_marked c formed k done x (d ∷ ds) p =
    let sh : Shape = c.shape in
    let w : Words = words_of sh c.words in
    let m : cell_bit w.marks d ≡ true = path_marked c formed k done d ds p.1 in
    let long : length w.marks ≡ block_count sh = region-length (region_sizes sh) 5 c.words (omega (arith, formed.words)) in
    let below : d < sh.cells = bit-below sh w.marks d formed.shaped long m in
    ⊎_elim
    (λ (a : cell_bit w.allocs d ≡ true). goes-to (cell_bit w.marks) (field sh w.fields d p.0.0) x p.0.2 (names_marked sh w c.seats d p.0.0 done p.0.1 (k.published.accounted done.tracing d below m a)))
    (λ (a : cell_bit w.allocs d ≡ false). absurd (not_waiting sh w c.seats d done (k.unpublished.waits done.tracing d below m a)))
    (cases_Bool (cell_bit w.allocs d))

-- while no seat is active no root lags
all-show : (c : Core) → IsSoundCore c → All (λ (s : SeatState). IsFalse s.active) c.seats → All Shows c.seats
all-show c k a j d h = idle-lags (get_or c.seats j d) (a j d h) (k.season.lags_in_turn j d h)

-- so the roots are what the seats have
pub roots-still : (c : Core) → IsSoundCore c → All (λ (s : SeatState). IsFalse s.active) c.seats → roots_now (words_of c.shape c.words).roots c.seats ≡ (words_of c.shape c.words).roots
roots-still c k a = now-still (words_of c.shape c.words).roots c.seats (all-show c k a)

pub closed_marks : ClosedMarksAll
closed_marks c formed k e x p =
    let done : IsDone c.shape (words_of c.shape c.words) c.seats = done_from c formed k e in
    let q : IsReachableCell c.shape (words_of c.shape c.words).roots (words_of c.shape c.words).fields x =
    subst (λ (rs : List ℕ). IsReachableCell c.shape rs (words_of c.shape c.words).fields x) (roots-still c k done.still) p in
    path_marked c formed k done x q.0 q.1

-- The heap is found full only if every cell is reachable.
full_bit : (allocs : _) (x : ℕ) → x / 64 < length allocs → all_allocated allocs ≡ true → cell_bit allocs x ≡ true
full_bit allocs x h e =
    let word : get_or allocs (x / 64) 0 ≡ all_ones = eqb-true (get_or allocs (x / 64) 0) all_ones (all-passes (λ (y : ℕ). eqb y all_ones) allocs (x / 64) 0 h e) in
    let bit : has_bit all_ones (x % 64) ≡ true = eq-eqb _ _ (bit_at_ones 64 (x % 64) (omega arith)) in
    ap (λ (w : ℕ). has_bit w (x % 64)) word ∙ bit

pub full-reachable : FullIsReachable
full-reachable c seat k f x h =
    let w : Words = words_of c.shape c.words in
    let r = acts c (record { seat = seat; step = StorePhase Full }) k f in
    let s : SeatState = r.0 in
    let ok = r.1.ok in
    let may = and_parts (s.knows && all_allocated w.allocs) s.exact ok.1.0 in
    let full = (and_parts s.knows (all_allocated w.allocs) may.0).1 in
    let i : seat < length c.seats = slice_get_within c.seats seat s r.1.seat in
    let is : get_or c.seats seat s ≡ s = get_or_from_slice_get c.seats seat s s r.1.seat in
    let exact : list_any (λ (t : SeatState). t.exact) c.seats ≡ true = list_any_at (λ (t : SeatState). t.exact) c.seats seat s i (ap (λ (t : SeatState). t.exact) is ∙ may.1) in
    let long : length w.allocs ≡ block_count c.shape = region-length (region_sizes c.shape) 4 c.words (omega (arith, k.formed.words)) in
    let bit : cell_bit w.allocs x ≡ true = full_bit w.allocs x (omega (arith, h, long, k.formed.shaped.whole_blocks)) full in
    let here : Taken c seat s (StorePhase Full) = record { core = k; got = r.1.seat; live = r.1.live; ok = ok } in
    let still = still-while-knows c seat s (StorePhase Full) here (and_parts s.knows (all_allocated w.allocs) may.0).0 in
    subst (λ (rs : List ℕ). IsReachableCell c.shape rs w.fields x) (sym (roots-still c k.sound still)) (k.sound.exact.idle_in_use exact ok.0 x h (rw bit refl))

-- What the sweep keeps: every cell on a path, and of the block in hand the marked cells.
-- what the sweep keeps
abbrev pub Kept : Core → ℕ → Bool
Kept c x = is_kept (words_of c.shape c.words).next_block (blocks c.seats) (words_of c.shape c.words).allocs (words_of c.shape c.words).marks (makers c.seats) x

pub either-way : (b x y : Bool) → cond b x y ≡ true → (x ≡ true) ⊎ (y ≡ true)
either-way true x y e = inl e
either-way false x y e = inr e

-- a cell that the sweep keeps exists
pub kept-below : (c : Core) (x : ℕ) → IsCore c → Kept c x ≡ true → x < c.shape.cells
kept-below c x k e =
    let sh : Shape = c.shape in
    let w : Words = words_of sh c.words in
    let caches : All (HasCache sh) (makers c.seats) = all-makers sh c.seats (λ j t g. (k.formed.seats j t g).cache) in
    ⊎_elim
    (λ (a : in_use w.allocs (makers c.seats) x ≡ true). in_use-below sh w.allocs (makers c.seats) x k.formed.shaped (allocs-length c k) caches a)
    (λ (a : cell_bit w.marks x ≡ true). bit-below sh w.marks x k.formed.shaped (marks-length c k) a)
    (either-way (is_swept_block w.next_block (blocks c.seats) (x / 64)) (in_use w.allocs (makers c.seats) x) (cell_bit w.marks x) e)

-- in the sweep every cell on a path is kept
pub path-kept : (c : Core) → IsCore c → IsTrue (is_phase (words_of c.shape c.words).phase Sweep) → (x : ℕ) (ds : List ℕ) → IsCellPath c.shape (words_of c.shape c.words).roots (words_of c.shape c.words).fields (x ∷ ds)
    → Kept c x ≡ true
path-kept c k e x [] p =
    let w : Words = words_of c.shape c.words in
    goes-to (Kept c) (slice_index w.roots p.0) x p.2 (k.sound.sweeping.roots_kept e p.0 0 p.1)
path-kept c k e x (d ∷ ds) p =
    let w : Words = words_of c.shape c.words in
    let m = path-kept c k e d ds p.1 in
    goes-to (Kept c) (field c.shape w.fields d p.0.0) x p.0.2 (k.sound.sweeping.fields_kept e d (kept-below c d k m) m p.0.0 p.0.1)

-- in a block that isn't swept the marked cells are kept
pub kept-unswept : (next : ℕ) (bs : List (Option BlockState)) (allocs marks : List ℕ) (ms : List Maker) (x : ℕ) → list_any (is_unswept (x / 64)) bs ≡ true → is_kept next bs allocs marks ms x ≡ cell_bit marks x
kept-unswept next bs allocs marks ms x e = rw (e, and-false) refl

-- the block in hand of a seat that stores its bits isn't swept
pub own-unswept : (c : Core) (i : ℕ) (s : SeatState) (step : Step) (b : ℕ) → Taken c i s step → is_unswept b s.block ≡ true → list_any (is_unswept b) (blocks c.seats) ≡ true
own-unswept c i s step b k e =
    let at : get_or (blocks c.seats) i s.block ≡ s.block = get_or-map (λ (t : SeatState). t.block) c.seats i s s.block (within c i s step k) ∙ ap (λ (t : SeatState). t.block) (own-record c i s step s k) in
    list_any_at (is_unswept b) (blocks c.seats) i s.block (rw length-map (within c i s step k)) (ap (is_unswept b) at ∙ e)

-- a marked cell of the block in hand survives the sweep
pub survives : (phase next : ℕ) (allocs marks : List ℕ) (o : Option BlockState) (x : ℕ) → may_store o ≡ true → IfSome o (IsStrongBlock phase next allocs marks) → x / 64 ≡ unwrap_or (block_in_hand o) 0
    → cell_bit allocs x ≡ true → (is_unswept (x / 64) o ≡ true → cell_bit marks x ≡ true) → has_bit (survivors o) (x % 64) ≡ true
survives phase next allocs marks None x m k e a f = absurd (true≢false (sym m))
survives phase next allocs marks (Some b) x m k e a f =
    let y : MayStore b allocs marks = may-store phase next allocs marks b m k in
    let hand : is_unswept (x / 64) (Some b) ≡ true = ap (λ (j : ℕ). is_unswept j (Some b)) e ∙ (unswept-first b k.block_first ∙ ap not y.unstored) in
    bit-both (unwrap_or b.alloc_word 0) (unwrap_or b.mark_word 0) (x % 64)
    (subst (λ (w : ℕ). has_bit w (x % 64) ≡ true) (ap (λ (j : ℕ). slice_index allocs j) e ∙ y.alloc_word) a)
    (subst (λ (w : ℕ). has_bit w (x % 64) ≡ true) (ap (λ (j : ℕ). slice_index marks j) e ∙ y.mark_word) (f hand))

-- No event takes the allocation bit of a cell that is reachable.
-- a reachable cell of the block whose bits are stored is marked
stored_marked : (c : Core) (i : ℕ) (s : SeatState) (x : ℕ) → Taken c i s StoreAlloc → IsReachableCell c.shape (words_of c.shape c.words).roots (words_of c.shape c.words).fields x → is_unswept (x / 64) s.block ≡ true
    → cell_bit (words_of c.shape c.words).marks x ≡ true
stored_marked c i s x k p e =
    let w : Words = words_of c.shape c.words in
    let sweep : is_phase w.phase Sweep ≡ true = rw (sweeping c i s StoreAlloc k k.ok.0) refl in
    sym (kept-unswept w.next_block (blocks c.seats) w.allocs w.marks (makers c.seats) x (own-unswept c i s StoreAlloc (x / 64) k e)) ∙ path-kept c k.core sweep x p.0 p.1

stays_at : (c : Core) (i : ℕ) (s : SeatState) (step : Step) (x : ℕ) → Taken c i s step → IsReachableIn c x
    → cell_bit (words_of c.shape c.words).allocs x ≡ true → cell_bit (words_left c s step).allocs x ≡ true
stays_at c i s StoreAlloc x k p e =
    let w : Words = words_of c.shape c.words in
    let still = still-stopped c k.core (ap (λ (n : ℕ). is_stopped_phase n) (sweeping c i s StoreAlloc k k.ok.0)) in
    let q : IsReachableCell c.shape w.roots w.fields x = subst (λ (rs : List ℕ). IsReachableCell c.shape rs w.fields x) (roots-still c k.core.sound still) p in
    bits-grow w.allocs (own_block s) (survivors s.block) x
    (λ a _. survives w.phase w.next_block w.allocs w.marks s.block x k.ok.1.0 (own-strong c i s StoreAlloc k) (sym a) e (stored_marked c i s x k q))
    e
stays_at c i s step x k p e = alloc-on c i s step x k refl e

-- no event takes the allocation bit of a cell that is reachable
pub reachable_stay : ReachableStay
reachable_stay c e k f x p h =
    let r = acts c e k f in
    let s : SeatState = r.0 in
    let a : Acted c e s = r.1 in
    let here : Taken c e.seat s e.step = record { core = k; got = a.seat; live = a.live; ok = a.ok } in
    let P : Words → Type 0 = λ w. cell_bit w.allocs x ≡ true in
    let R : Shape → Type 0 = λ sh. cell_bit (words_of sh (after_event c e).words).allocs x ≡ true in
    subst R (sym (shape-kept c e)) (subst P (sym a.words) (stays_at c e.seat s e.step x here p h))
