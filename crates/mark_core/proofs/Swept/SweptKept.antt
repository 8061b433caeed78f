-- Each event that is allowed leaves no mark in a block that was handed out and that no seat has in its stretch any more.
use Rattle.std.proofs.Common.{ℕ, ◌≡◌, ◌≢◌, ◌+◌, ◌<◌, ◌≤◌, List, ◌++◌, set, get_or, length, arith, refl, sym, ap, ◌∙◌, subst, Bool, true, false, cond, eqb, Option, Some, None, ⊎_elim, ◌%◌, [], ◌∷◌, ◌||◌}
use Rattle.std.specs.Prelude.{IsFalse, slice_get, nat_lt, unwrap_or}
use Rattle.std.specs.List.{All}
use Rattle.std.proofs.lemmas.Bool.{and_parts, cases_eq, cases_lt, lt-ltb, false≢true, or_cases, or_from, ne_eqb, eqb-true}
use Rattle.std.proofs.lemmas.List.{length-set, length-append, get_or-set_other, get_or-map, get_or_append_left, map-set, map_push, set-get_or, get_or-set_same, length-map}
use Rattle.std.proofs.lemmas.Option.{slice_get_within, get_or_from_slice_get}
use Rattle.mark_core.specs.Layout.{block_count, Words, words_of}
use Rattle.mark_core.specs.Seats.{block_in_hand, in_stretch}
use Rattle.mark_core.specs.Views.{blocks}
use Rattle.mark_core.specs.Steps.ColourSteps.{with_alloc_word}
use Rattle.mark_core.specs.Steps.SweepSteps.{with_mark_word, with_stored, untouched, stretch_end, next_in_stretch, own_block}
use Rattle.mark_core.specs.Steps.WorldSteps.{may_be_joined, other_has_nothing}
use Rattle.mark_core.proofs.Blocks.BlocksStretch.{out-to, rest-in}
use Rattle.mark_core.proofs.Basics.{none-is}
use Rattle.mark_core.specs.declared.kinds.Shape.{Shape}
use Rattle.mark_core.specs.declared.seat.SeatState.{SeatState}
use Rattle.mark_core.specs.declared.seat.BlockState.{BlockState}
use Rattle.mark_core.specs.Start.{start_seat, spent_seat}
use Rattle.mark_core.specs.Swept.{NoneHas, IsSweepingPhase, IsSwept}
use Rattle.mark_core.specs.Laws.{EventsKeepSwept}
use Rattle.mark_core.specs.Effects.{written, seat_after}
use Rattle.mark_core.specs.Steps.{Core, after_event}
use Rattle.mark_core.proofs.Known.{Acted, found, words_left, seats_left, acts}
use Rattle.mark_core.proofs.Writing.Frames.{block-kept, changes_block}
use Rattle.mark_core.proofs.Writing.Writes.{phase-kept, next_block-kept, touches_phase, touches_next_block}
use Rattle.mark_core.proofs.Writing.RegionWrites.{marks-kept, touches_marks}
use Rattle.mark_core.proofs.HeldBlock.{marks-length}
use Rattle.mark_core.proofs.Pool.PoolsKept.{shape-kept}
use Rattle.mark_core.proofs.Blocks.BlocksStopped.{Taken, within, own-record, in-place, tracing, still-stopped, stopped-time, not-still}
use Rattle.mark_core.proofs.Blocks.BlocksWords.{heap-left}
use Rattle.mark_core.proofs.Blocks.BlocksSteps.{own-block}
use Rattle.mark_core.specs.declared.kinds.Phase.{Phase}
use Rattle.mark_core.specs.declared.kinds.Phase.TheVariants.{Idle, Marking, Drain, Sweep, Clear, Full}
use Rattle.mark_core.specs.declared.kinds.Step.{Step}
use Rattle.mark_core.specs.declared.kinds.Step.TheVariants.{ReadAlloc, SetMark, StoreField, StoreRoot, StoreNew, PublishCells, StorePhase, Split, Join, NextBlock, ReadBlockMarks, StoreAlloc, ClearMarks, Reset, ExchangeField, StoreSlot, FlushRoot}

-- Which blocks are in no stretch, when that of one seat is replaced.
-- what holds of each element, once one is replaced, held before if it held of that one
pub all-back : {X : Type 0} (P : X → Type 0) (xs : List X) (i : ℕ) (y : X) → ((d : X) → i < length xs → P (get_or xs i d)) → All P (set xs i y) → All P xs
all-back P xs i y own a j d h =
    ⊎_elim
    (λ (e : j ≡ i). rw e (own d (omega (arith, h, e))))
    (λ (n : j ≡ i → ⊥). subst P (get_or-set_other xs i j y d n) (a j d (rw length-set h)))
    (cases_eq j i)

-- what holds of each element of a longer list holds of those of the first part
pub all-front : {X : Type 0} (P : X → Type 0) (xs ys : List X) → All P (xs ++ ys) → All P xs
all-front P xs ys a j d h = subst P (get_or_append_left xs ys d j h) (a j d (rw length-append (omega (arith, h))))

-- block b isn't in the stretch of seat i
abbrev pub IsNot : ℕ → Option BlockState → Type 0
IsNot b o = IsFalse (in_stretch b o)

read_same : (b word : ℕ) (x : BlockState) (e : Bool) → IsNot b (Some (cond e (record x { alloc_word = Some word }) x)) → IsNot b (Some x)
read_same b word x true n = n
read_same b word x false n = n

-- a stretch of whose block words were read or stored is the same stretch
pub same-allocs : (b k word : ℕ) (o : Option BlockState) → IsNot b (with_alloc_word o k word) → IsNot b o
same-allocs b k word None n = refl
same-allocs b k word (Some x) n = read_same b word x (eqb x.block k) n

pub same-marks : (b word : ℕ) (o : Option BlockState) → IsNot b (with_mark_word o word) → IsNot b o
same-marks b word None n = refl
same-marks b word (Some x) n = n

pub same-stored : (b : ℕ) (o : Option BlockState) → IsNot b (with_stored o) → IsNot b o
same-stored b None n = refl
same-stored b (Some x) n = n

-- another block than that in hand isn't in the stretch if it isn't in the rest
pub rest-is-not : (b : ℕ) (o : Option BlockState) → b ≢ unwrap_or (block_in_hand o) 0 → IsNot b (next_in_stretch o) → IsNot b o
rest-is-not b o n k = sym (rest-in b o n) ∙ k

-- a block that was handed out, and isn't in the stretch that was just taken, was handed out before
pub takes-it : (sh : Shape) (n b : ℕ) (o : Option BlockState) → b < block_count sh → b < n + sh.stretch → IsNot b (cond (nat_lt n (block_count sh)) (Some (untouched n (stretch_end sh n))) o) → b < n
takes-it sh n b o h l k =
    ⊎_elim
    (λ (a : b < n). a)
    (λ (a : n ≤ b).
    let own : IsNot b (Some (untouched n (stretch_end sh n))) = rw (lt-ltb n (block_count sh) (omega (arith, h, a))) at k in
    let past : stretch_end sh n ≤ b = out-to b (untouched n (stretch_end sh n)) own a in
    absurd (omega (arith, past, h, l)))
    (cases_lt b n)

pub none-is-not : (b : ℕ) (o : Option BlockState) → o ≡ None → IsNot b o
none-is-not b o e = rw e refl

no_block : (sh : Shape) (x : SeatState) → other_has_nothing sh (Some x) ≡ true → x.block ≡ None
no_block sh x e = none-is x.block (and_parts _ _ (and_parts _ _ e).0).1

joined_none : (sh : Shape) (seats : List SeatState) (other : ℕ) (o : Option SeatState) (d : Option BlockState) → slice_get seats other ≡ o → may_be_joined o ≡ true → other_has_nothing sh o ≡ true → get_or (blocks seats) other d ≡ None
joined_none sh seats other None d g e f = absurd (false≢true e)
joined_none sh seats other (Some x) d g e f =
    get_or-map (λ (y : SeatState). y.block) seats other x d (slice_get_within seats other x g)
    ∙ (ap (λ (y : SeatState). y.block) (get_or_from_slice_get seats other x x g) ∙ no_block sh x f)

-- the seat whose record a join ends had no block
pub joined-is-not : (sh : Shape) (seats : List SeatState) (other b : ℕ) (d : Option BlockState) → may_be_joined (slice_get seats other) ≡ true → other_has_nothing sh (slice_get seats other) ≡ true → IsNot b (get_or (blocks seats) other d)
joined-is-not sh seats other b d e f = none-is-not b _ (joined_none sh seats other (slice_get seats other) d refl e f)

-- the blocks that are done have no mark
abbrev Swept : Core → Words → List (Option BlockState) → Type 0
Swept c w bs = IsSwept c.shape w.phase w.next_block w.marks bs

-- before a step of seat i, and after the step of that seat alone
abbrev Before : Core → Type 0
Before c = Swept c (words_of c.shape c.words) (blocks c.seats)

abbrev Left : Core → ℕ → SeatState → Step → Type 0
Left c i s step = Swept c (words_left c s step) (set (blocks c.seats) i (seat_after c.shape s step (found c s step)).block)

-- a seat in whose stretch b isn't hadn't it there before
abbrev WasNot : SeatState → Option BlockState → Type 0
WasNot s o = (b : ℕ) → IsNot b o → IsNot b s.block

-- no seat had block b in its stretch, if none has now, and the seat that acts hadn't
none_had : (c : Core) (i : ℕ) (s : SeatState) (step : Step) (o : Option BlockState) (b : ℕ) → Taken c i s step → IsNot b s.block → NoneHas b (set (blocks c.seats) i o) → NoneHas b (blocks c.seats)
none_had c i s step o b t own a = all-back (IsNot b) (blocks c.seats) i o (λ d h. subst (IsNot b) (sym (own-block c i s step d t)) own) a

-- the seat that acts has no block b in its stretch after the step, if no seat has
own_now : (c : Core) (i : ℕ) (s : SeatState) (step : Step) (o : Option BlockState) (b : ℕ) → Taken c i s step → NoneHas b (set (blocks c.seats) i o) → IsNot b o
own_now c i s step o b t a =
    let h : i < length (blocks c.seats) = rw length-map (within c i s step t) in
    subst (IsNot b) (get_or-set_same (blocks c.seats) i o None h) (a i None (rw length-set h))

-- a step that leaves the phase, the counter and the marks, and whose seat has the same block
stays : (c : Core) (i : ℕ) (s : SeatState) (step : Step) (v : Words) (o : Option BlockState) → Taken c i s step → Before c → v.phase ≡ (words_of c.shape c.words).phase → v.next_block ≡ (words_of c.shape c.words).next_block
    → v.marks ≡ (words_of c.shape c.words).marks → WasNot s o → Swept c v (set (blocks c.seats) i o)
stays c i s step v o t k p n m was =
    record {
      done_is_white = λ e b h l a.
          let own : IsNot b s.block = was b (own_now c i s step o b t a) in
          rw m (k.done_is_white (subst IsSweepingPhase p e) b h (omega (arith, l, n)) (none_had c i s step o b t own a));
    }

-- neither in Idle nor in Marking nor in Drain is the heap swept
never_swept : (phase n m : ℕ) (P : Type 0) → n < 3 → m < 3 → (eqb phase n || eqb phase m) ≡ true → IsSweepingPhase phase → P
never_swept phase n m P hn hm e f =
    let none = λ (k : ℕ) (h : k < 3) (a : eqb phase k ≡ true). λ (l : ℕ) (g : 3 ≤ l). ne_eqb phase l (λ z. omega (arith, h, g, z, eqb-true phase k a)) in
    let ends = λ (k : ℕ) (h : k < 3) (a : eqb phase k ≡ true). absurd {A = P} (false≢true (sym (or_from _ _ (none k h a 3 (omega arith)) (none k h a 4 (omega arith))) ∙ f)) in
    ⊎_elim (ends n hn) (ends m hm) (or_cases (eqb phase n) (eqb phase m) e)

-- outside Sweep and Clear nothing is asked
outside : (c : Core) (v : Words) (bs : List (Option BlockState)) → (IsSweepingPhase v.phase → ⊥) → Swept c v bs
outside c v bs n = record { done_is_white = λ e. absurd (n e) }

-- a step that changes neither what is read of the words nor the block in hand
unswept : (c : Core) (i : ℕ) (s : SeatState) (step : Step) → Taken c i s step → Before c → touches_phase step ≡ false → touches_next_block step ≡ false → touches_marks step ≡ false → changes_block step ≡ false → Left c i s step
unswept c i s step t k p n m o =
    let w : Words = words_of c.shape c.words in
    let v : ℕ = written c.shape s step (found c s step) in
    stays c i s step (words_left c s step) _ t k (phase-kept c.shape s step v w p) (next_block-kept c.shape s step v w n) (marks-kept c.shape s step v w m)
    (λ b h. subst (IsNot b) (block-kept c.shape s step (found c s step) o) h)

-- the next stretch is taken in hand
takes_next : (c : Core) (i : ℕ) (s : SeatState) → Taken c i s NextBlock → Before c → Left c i s NextBlock
takes_next c i s t k =
    let n : ℕ = (words_of c.shape c.words).next_block in
    let room : (n + c.shape.stretch) % 18446744073709551616 ≡ n + c.shape.stretch = omega (arith, t.core.sound.sweeping.blocks_bounded, t.core.formed.shaped.cells, t.core.formed.shaped.stretch) in
    let o : Option BlockState = (seat_after c.shape s NextBlock n).block in
    let none : s.block ≡ None = none-is s.block t.ok.1.0 in
    record {
      done_is_white = λ e b h l a.
          let before : b < n = takes-it c.shape n b s.block h (omega (arith, l, room)) (own_now c i s NextBlock o b t a) in
          k.done_is_white e b h before (none_had c i s NextBlock o b t (none-is-not b s.block none) a);
    }

-- the marks of the block in hand are cleared, and the seat goes on to the next one of its stretch
clears : (c : Core) (i : ℕ) (s : SeatState) → Taken c i s ClearMarks → Before c → Left c i s ClearMarks
clears c i s t k =
    let w : Words = words_of c.shape c.words in
    let g : ℕ = own_block s in
    let long : g < length w.marks = rw (marks-length c t.core) (in-place c i s ClearMarks t) in
    let o : Option BlockState = next_in_stretch s.block in
    record {
      done_is_white = λ e b h l a.
          ⊎_elim
          (λ (z : b ≡ g). rw z (get_or-set_same w.marks g 0 0 long))
          (λ (z : b ≡ g → ⊥).
          get_or-set_other w.marks g b 0 0 z ∙ k.done_is_white e b h l (none_had c i s ClearMarks o b t (rest-is-not b s.block z (own_now c i s ClearMarks o b t a)) a))
          (cases_eq b g);
    }

still_sweeping : (b : Bool) (phase : ℕ) → IsSweepingPhase (cond b 1 phase) → IsSweepingPhase phase
still_sweeping true phase e = absurd (false≢true e)
still_sweeping false phase e = e

-- a sweep begins before any block is handed out
begins : (c : Core) (v : Words) (bs : List (Option BlockState)) → v.next_block ≡ 0 → Swept c v bs
begins c v bs z = record { done_is_white = λ e b h l a. absurd (omega (arith, l, z)) }

moves : (c : Core) (i : ℕ) (s : SeatState) (to : Phase) → Taken c i s (StorePhase to) → Left c i s (StorePhase to)
moves c i s Idle t = outside c (words_left c s (StorePhase Idle)) _ (λ e. false≢true e)
moves c i s Marking t =
    let phase : ℕ = (words_of c.shape c.words).phase in
    outside c (words_left c s (StorePhase Marking)) _ (λ e. not-still c i s (StorePhase Marking) _ t (still-stopped c t.core (stopped-time phase (still_sweeping (eqb phase 0) phase e))) t.ok.1.0)
moves c i s Drain t = outside c (words_left c s (StorePhase Drain)) _ (λ e. false≢true e)
moves c i s Sweep t = begins c (words_left c s (StorePhase Sweep)) _ (eqb-true (words_of c.shape c.words).next_block 0 (and_parts _ _ t.ok.1.0).1)
moves c i s Clear t = begins c (words_left c s (StorePhase Clear)) _ (eqb-true (words_of c.shape c.words).next_block 0 (and_parts _ _ t.ok.1.0).1)
moves c i s Full t = outside c (words_left c s (StorePhase Full)) _ (λ e. false≢true e)

-- a counter that is reset isn't the phase
reset_phase : (c : Core) (s : SeatState) (which : ℕ) → IsSweepingPhase (words_left c s (Reset which)).phase → IsSweepingPhase (words_of c.shape c.words).phase
reset_phase c s which e = subst IsSweepingPhase (phase-kept c.shape s (Reset which) 0 (words_of c.shape c.words) refl) e

-- a step leaves no mark in the blocks that are done, as long as only the record of its own seat changed
swept_at : (c : Core) (i : ℕ) (s : SeatState) (step : Step) → Taken c i s step → Before c → Left c i s step
swept_at c i s (SetMark x) t k = outside c (words_left c s (SetMark x)) _ (never_swept (words_of c.shape c.words).phase 1 2 _ (omega arith) (omega arith) (tracing c i s (SetMark x) t t.ok.1.0))
swept_at c i s (Reset which) t k = outside c (words_left c s (Reset which)) _ (λ e. never_swept (words_of c.shape c.words).phase 0 2 _ (omega arith) (omega arith) (and_parts _ _ t.ok.0).1 (reset_phase c s which e))
swept_at c i s (StorePhase to) t k = moves c i s to t
swept_at c i s NextBlock t k = takes_next c i s t k
swept_at c i s ClearMarks t k = clears c i s t k
swept_at c i s StoreAlloc t k = stays c i s StoreAlloc (words_left c s StoreAlloc) _ t k refl refl refl (λ b h. same-stored b s.block h)
swept_at c i s (ReadAlloc g) t k =
    let same = heap-left c i s (ReadAlloc g) t refl in
    stays c i s (ReadAlloc g) (words_left c s (ReadAlloc g)) _ t k same.phase same.next_block same.marks (λ b h. same-allocs b g (found c s (ReadAlloc g)) s.block h)
swept_at c i s ReadBlockMarks t k =
    let same = heap-left c i s ReadBlockMarks t refl in
    stays c i s ReadBlockMarks (words_left c s ReadBlockMarks) _ t k same.phase same.next_block same.marks (λ b h. same-marks b (found c s ReadBlockMarks) s.block h)
swept_at c i s (StoreField v f x) t k = unswept c i s (StoreField v f x) t k refl refl refl refl
swept_at c i s (ExchangeField v f x y) t k = unswept c i s (ExchangeField v f x y) t k refl refl refl refl
swept_at c i s (StoreRoot v r) t k = unswept c i s (StoreRoot v r) t k refl refl refl refl
swept_at c i s (FlushRoot v) t k = unswept c i s (FlushRoot v) t k refl refl refl refl
swept_at c i s (StoreSlot j r) t k = unswept c i s (StoreSlot j r) t k refl refl refl refl
swept_at c i s (StoreNew x part word) t k = unswept c i s (StoreNew x part word) t k refl refl refl refl
swept_at c i s PublishCells t k = unswept c i s PublishCells t k refl refl refl refl
swept_at c i s step t k =
    let same = heap-left c i s step t refl in
    stays c i s step (words_left c s step) _ t k same.phase same.next_block same.marks (λ b h. subst (IsNot b) (block-kept c.shape s step (found c s step) refl) h)

-- a further seat has no block, and the one whose record ends had none
swept_others : (c : Core) (i : ℕ) (s : SeatState) (step : Step) → Taken c i s step → Swept c (words_left c s step) (blocks (set c.seats i (seat_after c.shape s step (found c s step)))) → Swept c (words_left c s step) (blocks (seats_left c i s step))
swept_others c i s Split t k =
    let seats : List SeatState = set c.seats i s in
    let x : SeatState = start_seat c.shape (length seats) in
    let more : blocks (seats ++ x ∷ []) ≡ blocks seats ++ None ∷ [] = map_push (λ (y : SeatState). y.block) seats x in
    record { done_is_white = λ e b h l a. k.done_is_white e b h l (all-front (IsNot b) (blocks seats) (None ∷ []) (subst (NoneHas b) more a)) }
swept_others c i s (Join other) t k =
    let seats : List SeatState = set c.seats i s in
    let back : seats ≡ c.seats = subst (λ (y : SeatState). set c.seats i y ≡ c.seats) (own-record c i s (Join other) s t) (set-get_or c.seats i s) in
    let ends : blocks (set seats other (spent_seat c.shape other)) ≡ set (blocks seats) other None = map-set (λ (y : SeatState). y.block) seats other (spent_seat c.shape other) in
    let free = and_parts _ _ (and_parts _ _ t.ok.0).0 in
    let none = and_parts _ _ t.ok.1.0 in
    record {
      done_is_white = λ e b h l a.
          let own : (d : Option BlockState) → other < length (blocks seats) → IsNot b (get_or (blocks seats) other d) = λ d g. rw back (joined-is-not c.shape c.seats other b d free.1 none.1) in
          k.done_is_white e b h l (all-back (IsNot b) (blocks seats) other None own (subst (NoneHas b) ends a));
    }
swept_others c i s step t k = k

-- each event that is allowed leaves no mark in the blocks that are done
pub swept_kept_by : EventsKeepSwept
swept_kept_by c e k before f =
    let r : (s : SeatState) × Acted c e s = acts c e k f in
    let a : Acted c e r.0 = r.1 in
    let s : SeatState = r.0 in
    let t : Taken c e.seat s e.step = record { core = k; got = a.seat; live = a.live; ok = a.ok } in
    let x : SeatState = seat_after c.shape s e.step (found c s e.step) in
    let v : Words = words_left c s e.step in
    let own : Swept c v (blocks (set c.seats e.seat x)) = subst (Swept c v) (sym (map-set (λ (y : SeatState). y.block) c.seats e.seat x)) (swept_at c e.seat s e.step t before) in
    let P : List SeatState → Type 0 = λ seats. Swept c v (blocks seats) in
    let Q : Words → Type 0 = λ w. Swept c w (blocks (after_event c e).seats) in
    let R : Shape → Type 0 = λ sh. let w = words_of sh (after_event c e).words in IsSwept sh w.phase w.next_block w.marks (blocks (after_event c e).seats) in
    subst R (sym (shape-kept c e)) (subst Q (sym a.words) (subst P (sym a.seats) (swept_others c e.seat s e.step t own)))
