-- What the rule of marks says of each seat, whatever the phase, and how it is put together again.
use Rattle.std.proofs.Common.{ℕ, ◌≡◌, ◌<◌, List, get_or, length, arith, refl, sym, ◌∙◌, subst, Bool, true, false, Option, Some, None, ⊎_elim, ◌≢◌, ◌+◌, ◌-◌, ◌*◌, ◌/◌, ◌%◌, ◌≤◌, set, ap, not, eqb}
use Rattle.std.specs.Prelude.{IsTrue, IfSome, is_some}
use Rattle.std.specs.List.{All}
use Rattle.std.proofs.lemmas.Bool.{true≢false, cases_Bool, false≢true, and_parts, and_from, cases_eq, ne_eqb}
use Rattle.std.proofs.lemmas.List.{length-map, get_or-map, get_or-set_same, get_or-set_other}
use Rattle.std.proofs.lemmas.List.Elements.{All-map}
use Rattle.mark_core.specs.Shapes.{EachCell, IsShape, EachPacket}
use Rattle.mark_core.specs.Layout.{Words, words_of}
use Rattle.mark_core.specs.Bits.{cell_bit}
use Rattle.mark_core.specs.Seats.{scan_left, left_in, may_scan, work_in_hand}
use Rattle.mark_core.specs.Views.{Grasp, grasps, grasp_of, hands, makers}
use Rattle.mark_core.specs.Cells.{in_use, packet_length, entry}
use Rattle.mark_core.specs.Rules.WorldRules.{is_tracing}
use Rattle.mark_core.specs.Rules.ColourRules.{AreMarksSound, goes_to}
use Rattle.mark_core.specs.Start.{start_seat, spent_seat, start_words, start_seats}
use Rattle.mark_core.specs.Steps.{Core}
use Rattle.mark_core.specs.Laws.{IsCore}
use Rattle.mark_core.proofs.Hands.HandsCleaning.{scan-left}
use Rattle.mark_core.proofs.Hands.HandsRight.{free-from}
use Rattle.mark_core.proofs.Marks.MarksIdle.{idle-seats, idle-cleaning, left-works}
use Rattle.mark_core.proofs.Marks.MarksHands.{HandMarked, HandPublished, HandUsed}
use Rattle.mark_core.specs.declared.kinds.Shape.{Shape}
use Rattle.mark_core.specs.declared.seat.SeatState.{SeatState}
use Rattle.mark_core.proofs.Pool.PoolStart.{each-seat}
use Rattle.mark_core.proofs.World.WorldStart.{world-starts}
use Rattle.std.proofs.lemmas.Nat.{div-mul-add, mod-mul-add}
use Rattle.mark_core.specs.Held.{Slots}

-- The entries of packets are marked: kept when a packet gets shorter or stays, and when a marked cell is pushed.
-- each entry of each packet names a cell of this kind
abbrev pub EntriesGo : Shape → (ℕ → Bool) → List ℕ → List ℕ → List Slots → Type 0
EntriesGo sh m heads entries hss = EachPacket sh (λ p. (k : ℕ) → k < packet_length heads hss p → IsTrue (goes_to m (entry sh entries p k)))

-- a word that goes to a cell of one kind, if those are of another
pub goes-more : (m m' : ℕ → Bool) (word : ℕ) → ((x : ℕ) → m x ≡ true → m' x ≡ true) → goes_to m word ≡ true → goes_to m' word ≡ true
goes-more m m' word f e = let a = and_parts (not (eqb word 0)) (m (word - 1)) e in and_from (not (eqb word 0)) (m' (word - 1)) a.0 (f (word - 1) a.1)

goes_there : (m : ℕ → Bool) (c : ℕ) → m c ≡ true → goes_to m (c + 1) ≡ true
goes_there m c e =
    let some : eqb (c + 1) 0 ≡ false = ne_eqb (c + 1) 0 (λ z. omega (arith, z)) in
    let back : c + 1 - 1 ≡ c = omega arith in
    and_from (not (eqb (c + 1) 0)) (m (c + 1 - 1)) (ap not some) (ap m back ∙ e)

-- more cells are of this kind
pub entries-more : (sh : Shape) (m m' : ℕ → Bool) (heads entries : List ℕ) (hss : List Slots) → ((x : ℕ) → m x ≡ true → m' x ≡ true) → EntriesGo sh m heads entries hss → EntriesGo sh m' heads entries hss
entries-more sh m m' heads entries hss f a p hp k hk = goes-more m m' (entry sh entries p k) f (a p hp k hk)

-- packets get no longer
pub entries-fewer : (sh : Shape) (m : ℕ → Bool) (heads heads' entries : List ℕ) (hss gss : List Slots) → EachPacket sh (λ q. packet_length heads' gss q ≤ packet_length heads hss q) → EntriesGo sh m heads entries hss → EntriesGo sh m heads' entries gss
entries-fewer sh m heads heads' entries hss gss l a q hq k hk = a q hq k (omega (arith, l q hq, hk))

-- two entries have the same place if they are the same
same_entry : (e p q n k : ℕ) → n < e → k < e → q * e + k ≡ p * e + n → (q ≡ p) × (k ≡ n)
same_entry e p q n k hn hk s = (
  sym (div-mul-add q e k hk) ∙ (ap (λ x. x / e) s ∙ div-mul-add p e n hn),
  sym (mod-mul-add q e k hk) ∙ (ap (λ x. x % e) s ∙ mod-mul-add p e n hn),
)

-- packet p gets entry n
pub record Pushes (sh : Shape) (heads entries : List ℕ) (hss gss : List Slots) (p n : ℕ) : Type 0 where
  pub before : packet_length heads hss p ≡ n
  pub after : packet_length heads gss p ≡ n + 1
  pub others : (q : ℕ) → q ≢ p → packet_length heads gss q ≡ packet_length heads hss q
  pub rooms : EachPacket sh (λ q. packet_length heads hss q ≤ sh.entries)
  pub room : n < sh.entries
  pub place : p * sh.entries + n < length entries

-- an entry that was there stays
pub entry-stays : (sh : Shape) (heads entries : List ℕ) (hss gss : List Slots) (p n v q k : ℕ) → Pushes sh heads entries hss gss p n → q < sh.packets → k < packet_length heads hss q → (q ≡ p → k ≡ n → ⊥)
    → entry sh (set entries (p * sh.entries + n) v) q k ≡ entry sh entries q k
entry-stays sh heads entries hss gss p n v q k u hq hk d =
    let far : q * sh.entries + k ≢ p * sh.entries + n = λ s. let e = same_entry sh.entries p q n k u.room (omega (arith, hk, u.rooms q hq)) s in d e.0 e.1 in
    get_or-set_other entries (p * sh.entries + n) (q * sh.entries + k) v 0 far

old_entry : (sh : Shape) (m : ℕ → Bool) (heads entries : List ℕ) (hss gss : List Slots) (p n c q k : ℕ) → Pushes sh heads entries hss gss p n → q < sh.packets → k < packet_length heads hss q → (q ≡ p → k ≡ n → ⊥) → EntriesGo sh m heads entries hss
    → IsTrue (goes_to m (entry sh (set entries (p * sh.entries + n) (c + 1)) q k))
old_entry sh m heads entries hss gss p n c q k u hq hk d a = ap (goes_to m) (entry-stays sh heads entries hss gss p n (c + 1) q k u hq hk d) ∙ a q hq k hk

new_entry : (sh : Shape) (m : ℕ → Bool) (entries : List ℕ) (p n c : ℕ) → p * sh.entries + n < length entries → m c ≡ true → IsTrue (goes_to m (entry sh (set entries (p * sh.entries + n) (c + 1)) p n))
new_entry sh m entries p n c h e = ap (goes_to m) (get_or-set_same entries (p * sh.entries + n) (c + 1) 0 h) ∙ goes_there m c e

pub entries-pushed : (sh : Shape) (m : ℕ → Bool) (heads entries : List ℕ) (hss gss : List Slots) (p n c : ℕ) → Pushes sh heads entries hss gss p n → m c ≡ true → EntriesGo sh m heads entries hss
    → EntriesGo sh m heads (set entries (p * sh.entries + n) (c + 1)) gss
entries-pushed sh m heads entries hss gss p n c u e a q hq k hk =
    ⊎_elim
    (λ (s : q ≡ p).
    ⊎_elim
    (λ (t : k ≡ n). rw (s, t) (new_entry sh m entries p n c u.place e))
    (λ (t : k ≡ n → ⊥). old_entry sh m heads entries hss gss p n c q k u hq (rw s (omega (arith, t, rw s at hk, u.after, u.before))) (λ _ f. t f) a)
    (cases_eq k n))
    (λ (d : q ≡ p → ⊥). old_entry sh m heads entries hss gss p n c q k u hq (omega (arith, hk, u.others q d)) (λ f _. d f) a)
    (cases_eq q p)

none_some : {A : Type 0} (o : Option A) (P : A → Type 0) → is_some o ≡ false → IfSome o P
none_some None P e = tt
none_some (Some x) P e = absurd (true≢false e)

-- a seat without work has no such cell in hand
pub idle-marked : (fields : ℕ) (m : ℕ → Bool) (s : SeatState) → work_in_hand fields s ≡ false → HandMarked fields m s
idle-marked fields m s e =
    let free = free-from fields s e in
    record {
      popped = none_some s.popped _ free.popped;
      fresh = none_some s.fresh _ free.fresh;
      scan = λ f. absurd (true≢false (sym f ∙ free.scan));
      left = λ c f. left-works s.cleaning c _ (idle-cleaning fields s e) f;
    }

pub idle-published : (fields : ℕ) (a : ℕ → Bool) (s : SeatState) → work_in_hand fields s ≡ false → HandPublished fields a s
idle-published fields a s e =
    record { scan = λ f. absurd (true≢false (sym f ∙ (free-from fields s e).scan)); left = λ c f. left-works s.cleaning c _ (idle-cleaning fields s e) (scan-left s.cleaning c f) }

pub idle-used : (fields : ℕ) (u : ℕ → Bool) (s : SeatState) → work_in_hand fields s ≡ false → HandUsed u s
idle-used fields u s e = none_some s.value _ (free-from fields s e).value

-- a fact of each grasp, at that of a seat
at_grasp : (P : Grasp → Type 0) (seats : List SeatState) (i : ℕ) (d : SeatState) → i < length seats → All P (grasps seats) → P (grasp_of (get_or seats i d))
at_grasp P seats i d h a = subst P (get_or-map grasp_of seats i d (grasp_of d) h) (a i (grasp_of d) (rw length-map h))

-- the cells in hand are marked
pub marked-now : (c : Core) → IsCore c → All (HandMarked c.shape.fields (cell_bit (words_of c.shape c.words).marks)) c.seats
marked-now c k i d h =
    let w : Words = words_of c.shape c.words in
    let n : ℕ = c.shape.fields in
    let m : ℕ → Bool = cell_bit w.marks in
    ⊎_elim
    (λ (t : is_tracing w.phase ≡ true).
    let r : AreMarksSound c.shape w.phase w.allocs w.marks w.heads w.entries (hands c.seats) (grasps c.seats) (makers c.seats) = k.sound.marks in
    record {
      popped = at_grasp (λ (g : Grasp). IfSome g.popped (λ x. IsTrue (m x.0))) c.seats i d h (r.popped_marked t);
      fresh = at_grasp (λ (g : Grasp). IfSome g.fresh (λ x. IsTrue (m x))) c.seats i d h (r.fresh_marked t);
      scan = at_grasp (λ (g : Grasp). IsTrue (scan_left n g.scan) → IfSome g.scan (λ x. IsTrue (m x.0))) c.seats i d h (r.scan_marked t);
      left = λ x. at_grasp (λ (g : Grasp). IsTrue (left_in g.cleaning x) → IsTrue (m x)) c.seats i d h (r.left_marked t x);
    })
    (λ (t : is_tracing w.phase ≡ false). idle-marked n m (get_or c.seats i d) (idle-seats c k t i d h))
    (cases_Bool (is_tracing w.phase))

-- the cells in scan are published, and those that may be scanned
pub published-now : (c : Core) → IsCore c → All (HandPublished c.shape.fields (cell_bit (words_of c.shape c.words).allocs)) c.seats
published-now c k i d h =
    let a : ℕ → Bool = cell_bit (words_of c.shape c.words).allocs in
    record {
      scan = at_grasp (λ (g : Grasp). IsTrue (scan_left c.shape.fields g.scan) → IfSome g.scan (λ x. IsTrue (a x.0))) c.seats i d h k.sound.marks.scan_published;
      left = λ x. at_grasp (λ (g : Grasp). IsTrue (may_scan g.cleaning x) → IsTrue (a x)) c.seats i d h (k.sound.marks.left_published x);
    }

-- the cells that were loaded are in use
pub used-now : (c : Core) → IsCore c → All (HandUsed (in_use (words_of c.shape c.words).allocs (makers c.seats))) c.seats
used-now c k i d h = at_grasp (λ (g : Grasp). IfSome g.value (λ x. IsTrue (in_use (words_of c.shape c.words).allocs (makers c.seats) x))) c.seats i d h k.sound.marks.values_in_use

-- the entries of packets are marked
pub entries-now : (c : Core) → IsCore c → EntriesGo c.shape (cell_bit (words_of c.shape c.words).marks) (words_of c.shape c.words).heads (words_of c.shape c.words).entries (hands c.seats)
entries-now c k p hp j hj =
    let phase : ℕ = (words_of c.shape c.words).phase in
    ⊎_elim
    (λ (t : is_tracing phase ≡ true). k.sound.marks.entries_marked t p hp j hj)
    (λ (t : is_tracing phase ≡ false). absurd (omega (arith, hj, k.sound.phases.packets_empty t p hp)))
    (cases_Bool (is_tracing phase))

-- the rule of marks of these words and seats
abbrev pub MarksOf : Shape → Words → List SeatState → Type 0
MarksOf sh w seats = AreMarksSound sh w.phase w.allocs w.marks w.heads w.entries (hands seats) (grasps seats) (makers seats)

-- the rule of marks, with what it says of seats said of each seat
pub record MarksHeld (sh : Shape) (phase : ℕ) (allocs marks heads entries : List ℕ) (seats : List SeatState) : Type 0 where
  pub marked_in_use : EachCell sh (λ c. IsTrue (cell_bit marks c) → IsTrue (in_use allocs (makers seats) c))
  pub entries_marked : IsTrue (is_tracing phase) → EntriesGo sh (cell_bit marks) heads entries (hands seats)
  pub marked : IsTrue (is_tracing phase) → All (HandMarked sh.fields (cell_bit marks)) seats
  pub published : All (HandPublished sh.fields (cell_bit allocs)) seats
  pub used : All (HandUsed (in_use allocs (makers seats))) seats

pub marks-of : (sh : Shape) (phase : ℕ) (allocs marks heads entries : List ℕ) (seats : List SeatState) → MarksHeld sh phase allocs marks heads entries seats → AreMarksSound sh phase allocs marks heads entries (hands seats) (grasps seats) (makers seats)
marks-of sh phase allocs marks heads entries seats k =
    record {
      marked_in_use = k.marked_in_use;
      entries_marked = k.entries_marked;
      popped_marked = λ t. All-map (λ (g : Grasp). IfSome g.popped (λ x. IsTrue (cell_bit marks x.0))) grasp_of seats (λ i d h. (k.marked t i d h).popped);
      fresh_marked = λ t. All-map (λ (g : Grasp). IfSome g.fresh (λ x. IsTrue (cell_bit marks x))) grasp_of seats (λ i d h. (k.marked t i d h).fresh);
      scan_marked = λ t. All-map (λ (g : Grasp). IsTrue (scan_left sh.fields g.scan) → IfSome g.scan (λ x. IsTrue (cell_bit marks x.0))) grasp_of seats (λ i d h. (k.marked t i d h).scan);
      left_marked = λ t c. All-map (λ (g : Grasp). IsTrue (left_in g.cleaning c) → IsTrue (cell_bit marks c)) grasp_of seats (λ i d h. (k.marked t i d h).left c);
      scan_published = All-map (λ (g : Grasp). IsTrue (scan_left sh.fields g.scan) → IfSome g.scan (λ x. IsTrue (cell_bit allocs x.0))) grasp_of seats (λ i d h. (k.published i d h).scan);
      left_published = λ c. All-map (λ (g : Grasp). IsTrue (may_scan g.cleaning c) → IsTrue (cell_bit allocs c)) grasp_of seats (λ i d h. (k.published i d h).left c);
      values_in_use = All-map (λ (g : Grasp). IfSome g.value (λ c. IsTrue (in_use allocs (makers seats) c))) grasp_of seats (λ i d h. k.used i d h);
    }

-- a new seat and one whose record ended have nothing in hand
pub new-marked : (sh : Shape) (m : ℕ → Bool) (k : ℕ) → HandMarked sh.fields m (start_seat sh k)
new-marked sh m k = idle-marked sh.fields m (start_seat sh k) refl

pub ended-marked : (sh : Shape) (m : ℕ → Bool) (k : ℕ) → HandMarked sh.fields m (spent_seat sh k)
ended-marked sh m k = idle-marked sh.fields m (spent_seat sh k) refl

pub new-published : (sh : Shape) (a : ℕ → Bool) (k : ℕ) → HandPublished sh.fields a (start_seat sh k)
new-published sh a k = idle-published sh.fields a (start_seat sh k) refl

pub ended-published : (sh : Shape) (a : ℕ → Bool) (k : ℕ) → HandPublished sh.fields a (spent_seat sh k)
ended-published sh a k = idle-published sh.fields a (spent_seat sh k) refl

-- The state in which nothing has happened meets the rule of marks.
pub marks-starts : (sh : Shape) (n : ℕ) → IsShape sh → MarksOf sh (words_of sh (start_words sh)) (start_seats sh n)
marks-starts sh n z =
    let w : Words = words_of sh (start_words sh) in
    let white = (world-starts sh n z).phases.resting_white refl in
    marks-of sh w.phase w.allocs w.marks w.heads w.entries (start_seats sh n)
    (record {
      marked_in_use = λ x h e. absurd (true≢false (sym e ∙ white x h));
      entries_marked = λ t. absurd (false≢true t);
      marked = λ t. absurd (false≢true t);
      published = each-seat (HandPublished sh.fields (cell_bit w.allocs)) sh n (new-published sh (cell_bit w.allocs));
      used = each-seat (HandUsed (in_use w.allocs (makers (start_seats sh n)))) sh n (λ k. tt);
    })
