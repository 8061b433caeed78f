-- What a step reads of cells goes to cells that exist: in a state that meets the rule.
use Rattle.std.proofs.Common.{ℕ, ◌≡◌, ◌+◌, ◌-◌, ◌*◌, ◌<◌, ◌≤◌, List, get_or, length, arith, refl, sym, ap, ◌∙◌, subst, true, false, not, ◌&&◌, Option, Some, None, eqb, ⊎_elim, ◌≢◌, zero, suc, [], ◌∷◌, ◌++◌, map, set, ◌⊎◌, inl, inr}
use Rattle.std.specs.Prelude.{IfSome, IsTrue, IsFalse, slice_get, unwrap_or, nat_lt, slice_index}
use Rattle.std.specs.List.{All}
use Rattle.std.proofs.lemmas.Bool.{and_parts, or_cases, or_left, cases_Bool, ltb-true, lt-ltb, eqb-true, eqb-false, not-true, true≢false, false≢true, cases_eq}
use Rattle.std.proofs.lemmas.List.{get_or-map, length-map}
use Rattle.std.proofs.lemmas.List.Elements.{All-map, All-get_or}
use Rattle.std.proofs.lemmas.Option.{slice_get-get_or, slice_get_within, get_or_from_slice_get, same_Some}
use Rattle.mark_core.specs.Layout.{Words, words_of, region_sizes, root_count, address}
use Rattle.mark_core.specs.Bits.{cell_bit, nil_or}
use Rattle.mark_core.specs.Held.{holds, holds_any, known_length, has_entry, length_in_hand}
use Rattle.mark_core.specs.Seats.{work_in_hand, scan_left, scans, may_scan, is_phase}
use Rattle.mark_core.specs.Views.{Grasp, hands, makers, grasp_of, maker_of}
use Rattle.mark_core.specs.Cells.{in_use, packet_length, entry, field, FieldsGo}
use Rattle.mark_core.specs.Rules.WorldRules.{is_tracing}
use Rattle.mark_core.specs.Rules.ColourRules.{goes_to}
use Rattle.mark_core.specs.Steps.ColourSteps.{may_read_field}
use Rattle.mark_core.specs.Parts.{parts}
use Rattle.mark_core.specs.Effects.{place}
use Rattle.mark_core.specs.Steps.{Core, AllTrue, others_after}
use Rattle.mark_core.specs.WellFormed.{IsWellFormed}
use Rattle.mark_core.specs.Laws.{IsCore}
use Rattle.mark_core.specs.declared.kinds.Phase.TheVariants.{Sweep}
use Rattle.mark_core.proofs.Writing.Places.{region-length, words-get}
use Rattle.mark_core.proofs.Writing.Ranges.{IsPlace, placed}
use Rattle.mark_core.proofs.Known.{found, in_range, HasCache, bit-below, in_use-below, reference-within, known-among, some_none}
use Rattle.mark_core.proofs.Pool.PoolSlots.{any-held}
use Rattle.mark_core.proofs.Count.CountWork.{work-reads}
use Rattle.mark_core.proofs.Formed.FormedGrasps.{Learns}
use Rattle.mark_core.specs.declared.kinds.Step.{Step}
use Rattle.mark_core.specs.declared.kinds.Step.TheVariants.{Pop, ReadField, ReadRoot, LoadSlot, Split, Join}
use Rattle.mark_core.specs.declared.seat.SeatState.{SeatState}
use Rattle.mark_core.specs.Start.{start_seat, spent_seat}
use Rattle.mark_core.specs.declared.kinds.Shape.{Shape}

-- The seats after a step: each is one of those before, the seat that acts, a new one, or one that ended.
-- a property of all elements holds of this one
pub one-of : {X : Type 0} (P : X → Type 0) (xs : List X) (i : ℕ) (x : X) → slice_get xs i ≡ Some x → All P xs → P x
one-of {X} P xs i x e a = subst P (get_or_from_slice_get xs i x x e) (a i x (slice_get_within xs i x e))

-- a property of what is read of all elements holds of what is read of this one
pub one-read : {X Y : Type 0} (f : X → Y) (P : Y → Type 0) (xs : List X) (i : ℕ) (x : X) → slice_get xs i ≡ Some x → All P (map f xs) → P (f x)
one-read {X} {Y} f P xs i x e a =
    let h : i < length xs = slice_get_within xs i x e in
    subst P (get_or-map f xs i x (f x) h ∙ ap f (get_or_from_slice_get xs i x x e)) (a i (f x) (rw length-map h))

-- each element has the property of its index
abbrev pub EachAt : {X : Type 0} (P : ℕ → X → Type 0) → List X → Type 0
EachAt {X} P xs = (i : ℕ) (x : X) → slice_get xs i ≡ Some x → P i x

-- an element of a list in which one was replaced
pub set-cases : {X : Type 0} (xs : List X) (i j : ℕ) (y x : X) → slice_get (set xs i y) j ≡ Some x → ((j ≡ i) × (y ≡ x)) ⊎ (slice_get xs j ≡ Some x)
set-cases {X} [] i j y x e = inr e
set-cases {X} (a ∷ xs) zero zero y x e = inl (refl, same_Some y x e)
set-cases {X} (a ∷ xs) zero (suc j) y x e = inr e
set-cases {X} (a ∷ xs) (suc i) zero y x e = inr e
set-cases {X} (a ∷ xs) (suc i) (suc j) y x e =
    ⊎_elim (λ (h : (j ≡ i) × (y ≡ x)). inl (ap (λ n. suc n) h.0, h.1)) (λ (h : slice_get xs j ≡ Some x). inr h) (set-cases xs i j y x e)

-- the one that was replaced, and any other
pub set-here : {X : Type 0} (xs : List X) (i : ℕ) (y x : X) → slice_get (set xs i y) i ≡ Some x → y ≡ x
set-here {X} [] i y x e = absurd (some_none x (sym e))
set-here {X} (a ∷ xs) zero y x e = same_Some y x e
set-here {X} (a ∷ xs) (suc i) y x e = set-here xs i y x e

pub set-there : {X : Type 0} (xs : List X) (i j : ℕ) (y x : X) → j ≢ i → slice_get (set xs i y) j ≡ Some x → slice_get xs j ≡ Some x
set-there {X} xs i j y x n e = ⊎_elim (λ (h : (j ≡ i) × (y ≡ x)). absurd (n h.0)) (λ (h : slice_get xs j ≡ Some x). h) (set-cases xs i j y x e)

-- an element of a list to which one was added
pub push-cases : {X : Type 0} (xs : List X) (j : ℕ) (y x : X) → slice_get (xs ++ y ∷ []) j ≡ Some x → ((j ≡ length xs) × (y ≡ x)) ⊎ (slice_get xs j ≡ Some x)
push-cases {X} [] zero y x e = inl (refl, same_Some y x e)
push-cases {X} [] (suc j) y x e = absurd (some_none x (sym e))
push-cases {X} (a ∷ xs) zero y x e = inr e
push-cases {X} (a ∷ xs) (suc j) y x e =
    ⊎_elim (λ (h : (j ≡ length xs) × (y ≡ x)). inl (ap (λ n. suc n) h.0, h.1)) (λ (h : slice_get xs j ≡ Some x). inr h) (push-cases xs j y x e)

-- a property of all elements of a list in which one was replaced, if each other one has it
pub all-but : {X : Type 0} (P : X → Type 0) (xs : List X) (i : ℕ) (y : X) → P y → ((j : ℕ) (x : X) → j ≢ i → slice_get xs j ≡ Some x → P x) → All P (set xs i y)
all-but {X} P xs i y h a j d l =
    let e : slice_get (set xs i y) j ≡ Some (get_or (set xs i y) j d) = slice_get-get_or (set xs i y) j d l in
    ⊎_elim
    (λ (s : j ≡ i). subst P (set-here xs i y (get_or (set xs i y) j d) (subst (λ n. slice_get (set xs i y) n ≡ Some (get_or (set xs i y) j d)) s e)) h)
    (λ (n : j ≢ i). a j (get_or (set xs i y) j d) n (set-there xs i j y (get_or (set xs i y) j d) n e))
    (cases_eq j i)

pub each-set : {X : Type 0} (P : ℕ → X → Type 0) (xs : List X) (i : ℕ) (y : X) → P i y → EachAt P xs → EachAt P (set xs i y)
each-set {X} P xs i y h a j x e =
    ⊎_elim
    (λ (c : (j ≡ i) × (y ≡ x)). subst (λ z. P j z) c.1 (subst (λ n. P n y) (sym c.0) h))
    (λ (c : slice_get xs j ≡ Some x). a j x c)
    (set-cases xs i j y x e)

pub each-push : {X : Type 0} (P : ℕ → X → Type 0) (xs : List X) (y : X) → P (length xs) y → EachAt P xs → EachAt P (xs ++ y ∷ [])
each-push {X} P xs y h a j x e =
    ⊎_elim
    (λ (c : (j ≡ length xs) × (y ≡ x)). subst (λ z. P j z) c.1 (subst (λ n. P n y) (sym c.0) h))
    (λ (c : slice_get xs j ≡ Some x). a j x c)
    (push-cases xs j y x e)

-- what is read of each element has the property of its index
pub each-read : {X Y : Type 0} (f : X → Y) (P : ℕ → Y → Type 0) (xs : List X) → EachAt (λ i x. P i (f x)) xs → EachAt P (map f xs)
each-read {X} {Y} f P [] a j y e = absurd (some_none y (sym e))
each-read {X} {Y} f P (x ∷ xs) a zero y e = subst (P 0) (same_Some (f x) y e) (a 0 x refl)
each-read {X} {Y} f P (x ∷ xs) a (suc j) y e = each-read f (λ i. P (suc i)) xs (λ i z g. a (suc i) z g) j y e

-- each seat has the property of its index after a step, if they had before, and a new record does
pub each-kept : (P : ℕ → SeatState → Type 0) (sh : Shape) (step : Step) (seats : List SeatState) (i : ℕ) (t : SeatState) → ((k : ℕ) → P k (start_seat sh k)) → ((k : ℕ) → P k (spent_seat sh k)) → EachAt P seats → P i t → EachAt P (others_after sh step (set seats i t))
each-kept P sh Split seats i t new old a h = each-push P (set seats i t) (start_seat sh (length (set seats i t))) (new (length (set seats i t))) (each-set P seats i t h a)
each-kept P sh (Join other) seats i t new old a h = each-set P (set seats i t) other (spent_seat sh other) (old other) (each-set P seats i t h a)
each-kept P sh step seats i t new old a h = each-set P seats i t h a

-- a cell in use exists
pub used-exists : (c : Core) (x : ℕ) → IsWellFormed c → in_use (words_of c.shape c.words).allocs (makers c.seats) x ≡ true → x < c.shape.cells
used-exists c x k e =
    let caches : All (HasCache c.shape) (makers c.seats) = All-map (HasCache c.shape) maker_of c.seats (λ i d h. (k.seats i (get_or c.seats i d) (slice_get-get_or c.seats i d h)).cache) in
    in_use-below c.shape (words_of c.shape c.words).allocs (makers c.seats) x k.shaped (region-length (region_sizes c.shape) 4 c.words (omega (arith, k.words))) caches e

-- a reference that is nil or goes to a cell in use is in range
pub goes-within : (c : Core) (r : ℕ) → IsWellFormed c → nil_or (in_use (words_of c.shape c.words).allocs (makers c.seats)) r ≡ true → r ≤ c.shape.cells
goes-within c r k e = reference-within c.shape (in_use (words_of c.shape c.words).allocs (makers c.seats)) r (λ x f. used-exists c x k f) e

-- a seat with a packet in hand is tracing
holder_traces : (c : Core) (i : ℕ) (s : SeatState) → IsCore c → slice_get c.seats i ≡ Some s → holds_any s.held ≡ true → is_tracing (words_of c.shape c.words).phase ≡ true
holder_traces c i s k g h =
    let phase : ℕ = (words_of c.shape c.words).phase in
    ⊎_elim
    (λ (e : is_tracing phase ≡ true). e)
    (λ (e : is_tracing phase ≡ false). absurd (true≢false (sym h ∙ one-read (λ (t : SeatState). t.held) (λ x. IsFalse (holds_any x)) c.seats i s g (k.sound.phases.hands_empty e))))
    (cases_Bool (is_tracing phase))

tracing_not : (phase : ℕ) → is_tracing phase ≡ true → IsFalse (is_phase phase Sweep)
tracing_not phase e =
    ⊎_elim
    (λ (a : eqb phase 1 ≡ true). ap (λ p. is_phase p Sweep) (eqb-true phase 1 a))
    (λ (a : eqb phase 2 ≡ true). ap (λ p. is_phase p Sweep) (eqb-true phase 2 a))
    (or_cases (eqb phase 1) (eqb phase 2) e)

-- the length of a packet with an entry is known
length_known : (o : Option ℕ) → not (eqb (unwrap_or o 0) 0) ≡ true → o ≡ Some (unwrap_or o 0)
length_known None e = absurd (false≢true e)
length_known (Some n) e = refl

last_below : (n : ℕ) → not (eqb n 0) ≡ true → n - 1 < n
last_below n e = omega (arith, λ (z : n ≡ 0). eqb-false n 0 (not-true _ e) z)

-- an entry goes to a cell that exists
entry_fits : (c : Core) (word : ℕ) → IsCore c → goes_to (cell_bit (words_of c.shape c.words).marks) word ≡ true → (0 < word) × (word ≤ c.shape.cells)
entry_fits c word k e =
    let w : Words = words_of c.shape c.words in
    let a = and_parts (not (eqb word 0)) (cell_bit w.marks (word - 1)) e in
    let some : 0 < word = omega (arith, λ (z : word ≡ 0). eqb-false word 0 (not-true _ a.0) z) in
    let below : word - 1 < c.shape.cells = bit-below c.shape w.marks (word - 1) k.formed.shaped (region-length (region_sizes c.shape) 5 c.words (omega (arith, k.formed.words))) a.1 in
    (some, omega (arith, some, below))

-- how long a packet in hand is
held_length : (c : Core) (i p : ℕ) (s : SeatState) → IsCore c → slice_get c.seats i ≡ Some s → p < c.shape.packets → has_entry s.held p ≡ true → packet_length (words_of c.shape c.words).heads (hands c.seats) p ≡ length_in_hand s.held p
held_length c i p s k g hp e =
    let w : Words = words_of c.shape c.words in
    let h : i < length c.seats = slice_get_within c.seats i s g in
    let mine : get_or (hands c.seats) i s.held ≡ s.held = get_or-map (λ (t : SeatState). t.held) c.seats i s s.held h ∙ ap (λ (t : SeatState). t.held) (get_or_from_slice_get c.seats i s s g) in
    let known : known_length (get_or (hands c.seats) i s.held) p ≡ Some (length_in_hand s.held p) = ap (λ x. known_length x p) mine ∙ length_known (known_length s.held p) e in
    rw (known-among (hands c.seats) i p (length_in_hand s.held p) s.held (rw length-map h) known (omega (arith, k.sound.pools.one_place p hp))) refl

-- the cell in scan is published, while a field of it is left
in_scan : (fields : ℕ) (allocs : List ℕ) (x f : ℕ) (o : Option (ℕ × ℕ)) → f < fields → scans o x f ≡ true → (IsTrue (scan_left fields o) → IfSome o (λ z. IsTrue (cell_bit allocs z.0))) → cell_bit allocs x ≡ true
in_scan fields allocs x f None l a h = absurd (false≢true a)
in_scan fields allocs x f (Some y) l a h =
    let b = and_parts (eqb y.0 x) (eqb y.1 f) a in
    let left : nat_lt y.1 fields ≡ true = lt-ltb y.1 fields (omega (arith, l, eqb-true y.1 f b.1)) in
    subst (λ z. cell_bit allocs z ≡ true) (eqb-true y.0 x b.0) (h left)

-- the cell that a seat may scan is published
scanned_published : (c : Core) (i x f : ℕ) (s : SeatState) → IsCore c → slice_get c.seats i ≡ Some s → f < c.shape.fields → may_read_field c.shape s x f ≡ true → cell_bit (words_of c.shape c.words).allocs x ≡ true
scanned_published c i x f s k g hf e =
    let w : Words = words_of c.shape c.words in
    let P : Grasp → Type 0 = λ y. IsTrue (scan_left c.shape.fields y.scan) → IfSome y.scan (λ z. IsTrue (cell_bit w.allocs z.0)) in
    let Q : Grasp → Type 0 = λ y. IsTrue (may_scan y.cleaning x) → IsTrue (cell_bit w.allocs x) in
    ⊎_elim
    (λ (a : scans s.scan x f ≡ true). in_scan c.shape.fields w.allocs x f s.scan hf a (one-read grasp_of P c.seats i s g k.sound.marks.scan_published))
    (λ (a : (eqb f 0 && may_scan s.cleaning x && not (scan_left c.shape.fields s.scan)) ≡ true).
    one-read grasp_of Q c.seats i s g (k.sound.marks.left_published x) (and_parts (eqb f 0) (may_scan s.cleaning x) (and_parts _ _ a).0).1)
    (or_cases (scans s.scan x f) (eqb f 0 && may_scan s.cleaning x && not (scan_left c.shape.fields s.scan)) e)

-- what a root names exists
learns_root : (c : Core) (j : ℕ) → IsCore c → j < root_count c.shape → slice_index c.words (address c.shape (2, j)) ≤ c.shape.cells
learns_root c j k at =
    let w : Words = words_of c.shape c.words in
    let long : j < length w.roots = omega (arith, at, region-length (region_sizes c.shape) 2 c.words (omega (arith, k.formed.words))) in
    let P : ℕ → Type 0 = λ r. IsTrue (nil_or (in_use w.allocs (makers c.seats)) r) in
    let word : get_or w.roots j 0 ≡ slice_index c.words (address c.shape (2, j)) = sym (words-get (region_sizes c.shape) 2 c.words j 0 at) in
    subst (λ r. r ≤ c.shape.cells) word (goes-within c (get_or w.roots j 0) k.formed (All-get_or P w.roots j 0 long k.sound.references.roots_in_use))

-- what a step learns exists
pub learns : (c : Core) (i : ℕ) (s : SeatState) (step : Step) → IsCore c → slice_get c.seats i ≡ Some s → AllTrue (parts c.shape (words_of c.shape c.words) c.seats s step) → Learns c.shape step (found c s step)
learns c i s (Pop p) k g ok =
    let w : Words = words_of c.shape c.words in
    let n : ℕ = length_in_hand s.held p in
    let a = and_parts (nat_lt p c.shape.packets) (holds s.held p) ok.0 in
    let hp : p < c.shape.packets = ltb-true p c.shape.packets a.0 in
    let at : IsPlace c.shape (place c.shape s (Pop p)) = placed c.shape w c.seats s (Pop p) (in_range c i s k g) ok in
    let long : packet_length w.heads (hands c.seats) p ≡ n = held_length c i p s k g hp ok.1.0 in
    let traces : is_tracing w.phase ≡ true = holder_traces c i s k g (any-held s.held p a.1) in
    let marked : goes_to (cell_bit w.marks) (entry c.shape w.entries p (n - 1)) ≡ true = k.sound.marks.entries_marked traces p hp (n - 1) (omega (arith, long, last_below n ok.1.0)) in
    let word : entry c.shape w.entries p (n - 1) ≡ found c s (Pop p) = sym (words-get (region_sizes c.shape) 8 c.words (p * c.shape.entries + (n - 1)) 0 at) in
    entry_fits c (found c s (Pop p)) k (subst (λ v. goes_to (cell_bit w.marks) v ≡ true) word marked)
learns c i s (ReadField x f) k g ok =
    let w : Words = words_of c.shape c.words in
    let a = and_parts (nat_lt x c.shape.cells && nat_lt f c.shape.fields) (may_read_field c.shape s x f) ok.0 in
    let range = and_parts (nat_lt x c.shape.cells) (nat_lt f c.shape.fields) a.0 in
    let hx : x < c.shape.cells = ltb-true x c.shape.cells range.0 in
    let hf : f < c.shape.fields = ltb-true f c.shape.fields range.1 in
    let at : IsPlace c.shape (place c.shape s (ReadField x f)) = placed c.shape w c.seats s (ReadField x f) (in_range c i s k g) ok in
    let work : holds_any s.held ≡ true = one-of (λ (t : SeatState). IsTrue (work_in_hand c.shape.fields t) → IsTrue (holds_any t.held)) c.seats i s g k.sound.counts.work_holds (work-reads c.shape s x f hf a.1) in
    let awake = tracing_not w.phase (holder_traces c i s k g work) in
    let used : in_use w.allocs (makers c.seats) x ≡ true = or_left _ _ (scanned_published c i x f s k g hf a.1) in
    let goes : FieldsGo c.shape w.fields (in_use w.allocs (makers c.seats)) x = k.sound.references.fields_in_use awake x hx used in
    let word : field c.shape w.fields x f ≡ found c s (ReadField x f) = sym (words-get (region_sizes c.shape) 11 c.words (x * c.shape.fields + f) 0 at) in
    subst (λ v. v ≤ c.shape.cells) word (goes-within c (field c.shape w.fields x f) k.formed (goes f hf))
learns c i s (ReadRoot section v) k g ok = learns_root c (section * 32 + v) k (placed c.shape (words_of c.shape c.words) c.seats s (ReadRoot section v) (in_range c i s k g) ok)
learns c i s (LoadSlot section j) k g ok =
    learns_root c (c.shape.sections * 32 + (section * c.shape.slots + j)) k (placed c.shape (words_of c.shape c.words) c.seats s (LoadSlot section j) (in_range c i s k g) ok)
learns c i s step k g ok = tt
