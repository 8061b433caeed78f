-- The seats of a world are gathered when it is closed.
use Rattle.std.proofs.Common.{ℕ, zero, suc, ◌≡◌, ◌<◌, ◌≤◌, ◌+◌, ◌-◌, ◌⊎◌, ⊎_elim, inl, inr, arith, ◌∙◌, List, [], ◌∷◌, ◌++◌, All, ap, append-nil, append_assoc, length, refl, sym, subst, Some, drop, get_or, take}
use Rattle.std.specs.Prelude.{slice_get}
use Rattle.std.proofs.lemmas.List.{length-append}
use Rattle.std.proofs.lemmas.Option.{get_or_from_slice_get, same_Some, slice_get_within}
use Rattle.gc_table.specs.Ends.{IsEnd}
use Rattle.gc_table.specs.Seats.{state_of, view_of}
use Rattle.gc_table.specs.declared.seat.Heap.{Heap}
use Rattle.gc_table.specs.declared.seat.HeapSeat.{HeapSeat}
use Rattle.gc_table.specs.declared.words.Words.{Words}
use Rattle.seat_turns.specs.declared.background.Tracer.{Tracer}
use Rattle.std.specs.Arc.{arc_value}
use Rattle.managed_heap.specs.WorldClosing.{AreGathered}
use Rattle.managed_heap.specs.declared.gathered.Gathered.{Gathered}
use Rattle.managed_heap.specs.Gathering.{AreAll, AreInOrder, AreLeft, AreThere, Gathers, IsEndOf, IsFirstSeat, handed, seats_of}

-- Elements of lists.
-- a list is its first element and the others
pub first-and-rest : {A : Type 0} (xs : List A) (x : A) (rest : List A) → 0 < length xs → x ≡ get_or xs 0 x → rest ≡ take 0 xs ++ drop 1 xs → xs ≡ x ∷ rest
first-and-rest [] x rest l e r = absurd (omega (arith, l))
first-and-rest (y ∷ ys) x rest l e r = ap (λ v. v ∷ ys) (sym e) ∙ ap (λ l. x ∷ l) (sym r)

-- what is so of all is so of one
pub all-at : {X : Type 0} (P : X → Type 0) (xs : List X) → All P xs → (i : ℕ) (x : X) → slice_get xs i ≡ Some x → P x
all-at P xs h i x at = subst P (get_or_from_slice_get xs i x x at) (h i x (slice_get_within xs i x at))

-- what is found in two lists, one behind the other, is found in the first, or past it
pub split-at : (xs ys : List HeapSeat) (i : ℕ) (s : HeapSeat) → slice_get (xs ++ ys) i ≡ Some s → (slice_get xs i ≡ Some s) ⊎ (length xs ≤ i)
split-at [] ys i s e = inr (omega arith)
split-at (x ∷ xs) ys zero s e = inl e
split-at (x ∷ xs) ys (suc i) s e = ⊎_elim (λ (h : slice_get xs i ≡ Some s). inl h) (λ (l : length xs ≤ i). inr (omega (arith, l))) (split-at xs ys i s e)

pub got-past : (xs ys : List HeapSeat) (j k : ℕ) → k ≡ length xs + j → slice_get (xs ++ ys) k ≡ slice_get ys j
got-past [] ys j k e = ap (λ (n : ℕ). slice_get ys n) (let same : k ≡ j = omega (arith, e) in same)
got-past (x ∷ xs) ys j zero e = absurd (omega (arith, e))
got-past (x ∷ xs) ys j (suc k) e = got-past xs ys j k (omega (arith, e))

pub below-or-last : (k n : ℕ) → k < n + 1 → (k < n) ⊎ (k ≡ n)
below-or-last zero zero h = inr refl
below-or-last zero (suc n) h = inl (omega arith)
below-or-last (suc k) zero h = absurd (omega (arith, h))
below-or-last (suc k) (suc n) h = ⊎_elim (λ (l : k < n). inl (omega (arith, l))) (λ (e : k ≡ n). inr (ap suc e)) (below-or-last k n (omega (arith, h)))

-- one more has left
left_push : {X : Type 0} (L : X → HeapSeat → Type 0) (xs : List X) (ss : List HeapSeat) (x : X) (s : HeapSeat) → AreLeft L xs ss → L x s → AreLeft L (xs ++ x ∷ []) (ss ++ s ∷ [])
left_push L [] [] x s k h = (h, tt)
left_push L [] (t ∷ ts) x s k h = absurd k
left_push L (n ∷ ns) [] x s k h = absurd k
left_push L (n ∷ ns) (t ∷ ts) x s k h = (k.0, left_push L ns ts x s k.1 h)

pub left-long : {X : Type 0} (L : X → HeapSeat → Type 0) (xs : List X) (ss : List HeapSeat) → AreLeft L xs ss → length ss ≡ length xs
left-long L [] [] k = refl
left-long L [] (t ∷ ts) k = absurd k
left-long L (n ∷ ns) [] k = absurd k
left-long L (n ∷ ns) (t ∷ ts) k = ap suc (left-long L ns ts k.1)

pub left-at : {X : Type 0} (L : X → HeapSeat → Type 0) (xs : List X) (ss : List HeapSeat) → AreLeft L xs ss → (i : ℕ) (s : HeapSeat) → slice_get ss i ≡ Some s → (x : X) × (slice_get xs i ≡ Some x) × L x s
left-at L [] [] k i s e = absurd (cc)
left-at L [] (t ∷ ts) k i s e = absurd k
left-at L (n ∷ ns) [] k i s e = absurd k
left-at L (n ∷ ns) (t ∷ ts) k zero s e = (n, refl, subst (L n) (same_Some t s e) k.0)
left-at L (n ∷ ns) (t ∷ ts) k (suc i) s e = left-at L ns ts k.1 i s e

-- whatever their numbers
left_only : {X : Type 0} (seat_in : X → HeapSeat) (L : X → HeapSeat → Type 0) (xs : List X) (ss : List HeapSeat) → AreLeft (handed seat_in L) xs ss → AreLeft L xs ss
left_only seat_in L [] [] k = tt
left_only seat_in L [] (t ∷ ts) k = absurd k
left_only seat_in L (n ∷ ns) [] k = absurd k
left_only seat_in L (n ∷ ns) (t ∷ ts) k = (k.0.0, left_only seat_in L ns ts k.1)

-- of tracers their seats are left
tracers_left : (ts : List Tracer) (ss : List HeapSeat) → AreLeft (λ (t : Tracer) (s : HeapSeat). s ≡ t.seat) ts ss → ss ≡ seats_of ts
tracers_left [] [] k = refl
tracers_left [] (s ∷ ss) k = absurd k
tracers_left (t ∷ ts) [] k = absurd k
tracers_left (t ∷ ts) (s ∷ ss) k = ap (λ (l : List HeapSeat). s ∷ l) (tracers_left ts ss k.1) ∙ ap (λ (r : HeapSeat). r ∷ seats_of ts) k.0

pub seats-long : (ts : List Tracer) → length (seats_of ts) ≡ length ts
seats-long [] = refl
seats-long (t ∷ ts) = ap suc (seats-long ts)

module _ {X : Type 0} (seat_in : X → HeapSeat) (L : X → HeapSeat → Type 0) where
  -- nothing was gathered yet
  pub gathers-none : (all : List X) (before : List HeapSeat) → Gathers L all all before before
  gathers-none all before = record { front = []; parts = refl; rest = []; left = tt; seats_are = sym (append-nil before) }

  -- one more
  pub gathers-more : (all old more : List X) (x : X) (s : HeapSeat) (before seats after : List HeapSeat) → Gathers L all old before seats → old ≡ x ∷ more → L x s → after ≡ seats ++ s ∷ [] → Gathers L all more before after
  gathers-more all old more x s before seats after g first left pushed =
      record {
        front = g.front ++ x ∷ [];
        parts = g.parts ∙ ap (λ (l : List X). g.front ++ l) first ∙ sym (append_assoc g.front (x ∷ []) more);
        rest = g.rest ++ s ∷ [];
        left = left_push L g.front g.rest x s g.left left;
        seats_are = pushed ∙ ap (λ (l : List HeapSeat). l ++ s ∷ []) g.seats_are ∙ append_assoc before g.rest (s ∷ []);
      }

  module _ (all : List X) (before seats : List HeapSeat) (g : Gathers (handed seat_in L) all [] before seats) where
    whole : AreLeft (handed seat_in L) all g.rest
    whole = subst (λ (l : List X). AreLeft (handed seat_in L) l g.rest) (sym (g.parts ∙ append-nil g.front)) g.left

    pub gathers-left : AreLeft L all g.rest
    gathers-left = left_only seat_in L all g.rest whole

    -- a seat for each
    pub gathers-long : length seats ≡ length before + length all
    gathers-long = let e = length-append before g.rest in let l = left-long (handed seat_in L) all g.rest whole in let s = ap length g.seats_are in omega (arith, e, l, s)

    -- they stand in the order of their numbers, behind those that do
    pub gathers-numbered : (n : ℕ) → AreInOrder before → AreAll seat_in (length before) n all → AreInOrder seats
    gathers-numbered n numbered are =
        subst AreInOrder (sym g.seats_are)
        (λ i s at.
        ⊎_elim (λ (h : slice_get before i ≡ Some s). numbered i s h)
        (λ (past : length before ≤ i).
        let where_is : i ≡ length before + (i - length before) = omega (arith, past) in
        let x = left-at (handed seat_in L) all g.rest whole (i - length before) s (sym (got-past before g.rest (i - length before) i where_is) ∙ at) in
        x.2.1 ∙ (are.1 (i - length before) x.0 x.1 ∙ sym where_is))
        (split-at before g.rest i s at))

-- all were gathered, and the heap was closed with their seats
module _ {X : Type 0} (seat_in : X → HeapSeat) (L : X → HeapSeat → Type 0) (h : Heap) (tracers : ℕ) (root : HeapSeat) (ms : List X) (ts : List Tracer) (before workers seats : List HeapSeat)
    (first : IsFirstSeat h tracers root) (there : AreThere seat_in h tracers ms ts) (alone : before ≡ root ∷ []) (m : Gathers (handed seat_in L) ms [] before workers)
    (t : Gathers (handed (λ (t : Tracer). t.seat) (λ (t : Tracer) (s : HeapSeat). s ≡ t.seat)) ts [] workers seats) where
  one : length before ≡ 1
  one = ap length alone

  root_numbered : AreInOrder (root ∷ [])
  root_numbered zero s e = ap (λ (t : HeapSeat). (state_of t).number) (sym (same_Some root s e)) ∙ first.number
  root_numbered (suc i) s e = absurd (cc)

  workers_long : length workers ≡ h.shape.sections
  workers_long = let l = gathers-long seat_in L ms before workers m in omega (arith, one, l, there.sections)

  pub all-numbered : AreInOrder seats
  all-numbered =
      gathers-numbered (λ (t : Tracer). t.seat) (λ (t : Tracer) (s : HeapSeat). s ≡ t.seat) ts workers seats t tracers
      (gathers-numbered seat_in L ms before workers m (length ms) (subst AreInOrder (sym alone) root_numbered) (subst (λ (n : ℕ). AreAll seat_in n (length ms) ms) (sym one) there.mutators_are))
      (subst (λ (n : ℕ). AreAll (λ (t : Tracer). t.seat) n tracers ts) (sym workers_long) there.tracers_are)

  these : seats ≡ root ∷ m.rest ++ seats_of ts
  these =
      t.seats_are ∙ ap (λ (l : List HeapSeat). workers ++ l) (tracers_left ts t.rest (gathers-left (λ (t : Tracer). t.seat) (λ (t : Tracer) (s : HeapSeat). s ≡ t.seat) ts workers seats t))
      ∙ ap (λ (l : List HeapSeat). l ++ seats_of ts) (m.seats_are ∙ ap (λ (l : List HeapSeat). l ++ m.rest) alone)

  all-there : (view_of root).opened ≡ length (root ∷ m.rest ++ seats_of ts)
  all-there =
      let long = ap length m.seats_are in
      let both = length-append before m.rest in
      let tail = seats-long ts in
      let whole = length-append m.rest (seats_of ts) in
      let workers_are = workers_long in
      omega (arith, first.opened, there.tracers_are.0, one, long, both, tail, whole, workers_are)

  pub all-ended : (w : Words) → IsEnd h.shape seats w → IsEndOf L h root ms ts w
  all-ended w end =
      record {
        rest = m.rest;
        left = gathers-left seat_in L ms before workers m;
        workers = there.sections;
        ends = subst (λ (l : List HeapSeat). IsEnd h.shape l w) these end;
        all = all-there;
      }

  -- they were gathered, and the heap wasn't closed
  pub all-gathered : (g : Gathered) → arc_value g.heap ≡ h → g.seats.items ≡ seats → AreGathered L h root ms ts g
  all-gathered g heap_is seats_are =
      record {
        heap_is = heap_is;
        rest = m.rest;
        left = gathers-left seat_in L ms before workers m;
        seats_are = seats_are ∙ these;
        workers = there.sections;
        all = all-there;
      }
