-- A step's own seat shuns the set after the step, if what it finds weakly misses the set.
use Rattle.std.proofs.Common.{ℕ, ◌≡◌, ◌+◌, ◌*◌, ◌/◌, ◌<◌, ◌≤◌, get_or, arith, refl, sym, ◌∙◌, subst, Bool, true, false, not, ◌&&◌, cond, eqb, Option, Some, None, ⊎_elim}
use Rattle.std.specs.Prelude.{IsTrue, IsFalse, IfSome, nat_lt, nat_le, unwrap_or}
use Rattle.std.proofs.lemmas.Bool.{true≢false, and_parts, or_cases, eqb-true, ltb-true, lt-ltb, cases_Bool}
use Rattle.std.proofs.lemmas.List.Elements.{All-set}
use Rattle.mark_core.specs.Layout.{Words, words_of, region_sizes, root_count, address}
use Rattle.mark_core.specs.Bits.{cell_bit, reference_in, cell_named, nil_or}
use Rattle.mark_core.specs.Held.{Slots, holds_any}
use Rattle.mark_core.specs.Seats.{last_made, work_in_hand, scans, scan_left, may_scan, left_in, free_in, may_mutate}
use Rattle.mark_core.specs.Views.{Grasp, grasp_of, Maker, makers, maker_of}
use Rattle.mark_core.specs.Cells.{field}
use Rattle.mark_core.specs.Rules.WorldRules.{is_tracing}
use Rattle.mark_core.specs.Steps.ColourSteps.{may_read_field}
use Rattle.mark_core.specs.Steps.MutatorSteps.{weak_reference, with_free, with_making, with_made, without_used}
use Rattle.mark_core.specs.Effects.{seat_after}
use Rattle.mark_core.specs.Steps.{Core}
use Rattle.mark_core.specs.Laws.{IsCore}
use Rattle.mark_core.specs.declared.kinds.Step.{Step}
use Rattle.mark_core.specs.declared.kinds.Step.TheVariants.{ReadField, ReadRoot, LoadSlot, SetMark, ReadOwn, ReadCat, ReadSlot, ReadWeak, StoreRoot, StoreSlot, StoreNew, PublishCells, ClaimBlock, ReleaseBlock, ReadFree, HoldRoot}
use Rattle.mark_core.specs.declared.seat.SeatState.{SeatState}
use Rattle.mark_core.specs.declared.seat.CacheState.{CacheState}
use Rattle.mark_core.proofs.Known.{found}
use Rattle.mark_core.proofs.Writing.Places.{words-get}
use Rattle.mark_core.proofs.HeldBlock.{of-view, roots-length}
use Rattle.mark_core.proofs.Blocks.BlocksStopped.{Taken, mine, in-place}
use Rattle.mark_core.proofs.Caches.CachesAt.{caching, maker-at}
use Rattle.mark_core.proofs.Caches.CachesSeat.{CacheFacts, next-free}
use Rattle.mark_core.proofs.Caches.CachesClaims.{free-unused}
use Rattle.mark_core.proofs.Count.CountWork.{work-reads}
use Rattle.mark_core.proofs.Exacts.ExactsDrain.{named-cell}
use Rattle.mark_core.proofs.Formed.FormedLearns.{learns, one-of}
use Rattle.mark_core.proofs.Hands.HandsCleaning.{scan-left}
use Rattle.mark_core.proofs.References.ReferencesRoots.{Used, has-use, read-whole, read-field, known-used, mutator-is, not-sweep}
use Rattle.garbage_laws.specs.Garbage.{reference_to, weak_found}
use Rattle.garbage_laws.proofs.Shuns.{Spares, Misses, SeatShuns, CoreShuns, nil-misses, has-missed, known-spared}

-- a root's word
root_misses : (D : ℕ → Type 0) (c : Core) (i : ℕ) (s : SeatState) (step : Step) (at : ℕ) → Taken c i s step → CoreShuns D c → at < root_count c.shape → found c s step ≡ get_or c.words (address c.shape (2, at)) 0 → Misses D (found c s step)
root_misses D c i s step at t a h e =
    let w : Words = words_of c.shape c.words in
    let word : found c s step ≡ get_or w.roots at 0 = e ∙ words-get (region_sizes c.shape) 2 c.words at 0 h in
    subst (Misses D) (sym word) (a.roots at 0 (subst (λ (n : ℕ). at < n) (sym (roots-length c t.core)) h))

root_whole : (c : Core) (i : ℕ) (s : SeatState) (step : Step) (at : ℕ) → Taken c i s step → at < root_count c.shape → found c s step ≡ get_or c.words (address c.shape (2, at)) 0 → reference_in (found c s step) ≡ found c s step
root_whole c i s step at t h e =
    let w : Words = words_of c.shape c.words in
    let word : found c s step ≡ get_or w.roots at 0 = e ∙ words-get (region_sizes c.shape) 2 c.words at 0 h in
    read-whole c i s step (found c s step) t (subst (λ (r : ℕ). nil_or (Used c) r ≡ true) (sym word) (t.core.sound.references.roots_in_use at 0 (subst (λ (n : ℕ). at < n) (sym (roots-length c t.core)) h)))

root_read : (D : ℕ → Type 0) (c : Core) (i : ℕ) (s : SeatState) (step : Step) (at : ℕ) → Taken c i s step → CoreShuns D c → at < root_count c.shape → found c s step ≡ get_or c.words (address c.shape (2, at)) 0 → Misses D (reference_in (found c s step))
root_read D c i s step at t a h e = subst (Misses D) (sym (root_whole c i s step at t h e)) (root_misses D c i s step at t a h e)

-- a field of an object that the seat knows
own_read : (D : ℕ → Type 0) (c : Core) (i : ℕ) (s : SeatState) (x j : ℕ) → Taken c i s (ReadOwn x j) → CoreShuns D c → SeatShuns D s → Misses D (reference_in (found c s (ReadOwn x j)))
own_read D c i s x j t a own =
    let w : Words = words_of c.shape c.words in
    let step : Step = ReadOwn x j in
    let p = and_parts (nat_lt x c.shape.cells && nat_lt j c.shape.fields) (may_mutate s) t.ok.0 in
    let q = and_parts (nat_lt x c.shape.cells) (nat_lt j c.shape.fields) p.0 in
    let hx : x < c.shape.cells = ltb-true x c.shape.cells q.0 in
    let hj : j < c.shape.fields = ltb-true j c.shape.fields q.1 in
    let used : Used c x ≡ true = known-used c i s step x t t.ok.1.0 in
    let word : found c s step ≡ field c.shape w.fields x j = words-get (region_sizes c.shape) 11 c.words (x * c.shape.fields + j) 0 (in-place c i s step t) in
    let goes : nil_or (Used c) (found c s step) ≡ true = subst (λ (r : ℕ). nil_or (Used c) r ≡ true) (sym word) (read-field c i s step x j t (mutator-is s p.1).0 hx used hj) in
    subst (Misses D) (sym (read-whole c i s step (found c s step) t goes)) (subst (Misses D) (sym word) (a.fields x hx used (known-spared D s x own t.ok.1.0) j hj))

-- a seat has work in hand only while cells are traced
traces : (c : Core) (i : ℕ) (s : SeatState) (x j : ℕ) → Taken c i s (ReadField x j) → j < c.shape.fields → may_read_field c.shape s x j ≡ true → is_tracing (words_of c.shape c.words).phase ≡ true
traces c i s x j t h e =
    let phase : ℕ = (words_of c.shape c.words).phase in
    let held : holds_any s.held ≡ true = mine c i s (ReadField x j) (λ (y : SeatState). IsTrue (work_in_hand c.shape.fields y) → IsTrue (holds_any y.held)) t t.core.sound.counts.work_holds (work-reads c.shape s x j h e) in
    ⊎_elim
    (λ (b : is_tracing phase ≡ true). b)
    (λ (b : is_tracing phase ≡ false). absurd (true≢false (sym held ∙ of-view (λ (y : SeatState). y.held) (λ (g : Slots). IsFalse (holds_any g)) c i s (ReadField x j) t (t.core.sound.phases.hands_empty b))))
    (cases_Bool (is_tracing phase))

scan_there : (fields : ℕ) (o : Option (ℕ × ℕ)) (x i : ℕ) (P : ℕ → Type 0) → scans o x i ≡ true → i < fields → (IsTrue (scan_left fields o) → IfSome o (λ z. P z.0)) → P x
scan_there fields None x i P e h f = absurd (true≢false (sym e))
scan_there fields (Some z) x i P e h f =
    let at = and_parts (eqb z.0 x) (eqb z.1 i) e in
    subst P (eqb-true z.0 x at.0) (f (lt-ltb z.1 fields (omega (arith, h, eqb-true z.1 i at.1))))

-- the cell of which a field is read is marked
read_marked : (c : Core) (i : ℕ) (s : SeatState) (x j : ℕ) → Taken c i s (ReadField x j) → j < c.shape.fields → may_read_field c.shape s x j ≡ true → cell_bit (words_of c.shape c.words).marks x ≡ true
read_marked c i s x j t h e =
    let w : Words = words_of c.shape c.words in
    let step : Step = ReadField x j in
    let time = traces c i s x j t h e in
    let P : ℕ → Type 0 = λ y. IsTrue (cell_bit w.marks y) in
    ⊎_elim
    (λ (a : scans s.scan x j ≡ true).
    scan_there c.shape.fields s.scan x j P a h (of-view grasp_of (λ (g : Grasp). IsTrue (scan_left c.shape.fields g.scan) → IfSome g.scan (λ z. P z.0)) c i s step t (t.core.sound.marks.scan_marked time)))
    (λ a.
    let both = and_parts (eqb j 0 && may_scan s.cleaning x) (not (scan_left c.shape.fields s.scan)) a in
    let left = scan-left s.cleaning x (and_parts (eqb j 0) (may_scan s.cleaning x) both.0).1 in
    of-view grasp_of (λ (g : Grasp). IsTrue (left_in g.cleaning x) → P x) c i s step t (t.core.sound.marks.left_marked time x) left)
    (or_cases (scans s.scan x j) (eqb j 0 && may_scan s.cleaning x && not (scan_left c.shape.fields s.scan)) e)

-- a word that misses the set names a cell outside it
named_spared : (D : ℕ → Type 0) (c : Core) (word : ℕ) → IsCore c → word ≤ c.shape.cells → Misses D word → IfSome (cell_named word) (Spares D)
named_spared D c word k h m = named-cell word (Spares D) (omega (arith, h, k.formed.shaped.cells)) m

-- a field of a marked cell
field_value : (D : ℕ → Type 0) (c : Core) (i : ℕ) (s : SeatState) (x j : ℕ) → Taken c i s (ReadField x j) → CoreShuns D c → IfSome (cell_named (found c s (ReadField x j))) (Spares D)
field_value D c i s x j t a =
    let w : Words = words_of c.shape c.words in
    let step : Step = ReadField x j in
    let p = and_parts (nat_lt x c.shape.cells && nat_lt j c.shape.fields) (may_read_field c.shape s x j) t.ok.0 in
    let q = and_parts (nat_lt x c.shape.cells) (nat_lt j c.shape.fields) p.0 in
    let hx : x < c.shape.cells = ltb-true x c.shape.cells q.0 in
    let hj : j < c.shape.fields = ltb-true j c.shape.fields q.1 in
    let marked = read_marked c i s x j t hj p.1 in
    let word : found c s step ≡ field c.shape w.fields x j = words-get (region_sizes c.shape) 11 c.words (x * c.shape.fields + j) 0 (in-place c i s step t) in
    named_spared D c (found c s step) t.core (learns c i s step t.core t.got t.ok) (subst (Misses D) (sym word) (a.fields x hx (t.core.sound.marks.marked_in_use x hx marked) (a.marks x hx marked) j hj))

-- the cell made last after a step
free_last : (D : ℕ → Type 0) (o : Option CacheState) (word : ℕ) → Misses D (reference_to (last_made o)) → Misses D (reference_to (last_made (with_free o word)))
free_last D None word h = h
free_last D (Some x) word h = h

making_last : (D : ℕ → Type 0) (o : Option CacheState) (y part : ℕ) → Misses D (reference_to (last_made o)) → Misses D (reference_to (last_made (with_making o y part)))
making_last D None y part h = h
making_last D (Some x) y part h = h

made_last : (D : ℕ → Type 0) (o : Option CacheState) (y : ℕ) → Spares D y → Misses D (reference_to (last_made (with_made o y)))
made_last D None y h = nil-misses D
made_last D (Some x) y h = λ z e d. h (subst D (omega (arith, e)) d)

published_last : (D : ℕ → Type 0) (o : Option CacheState) → Misses D (reference_to (last_made (without_used o)))
published_last D None = nil-misses D
published_last D (Some x) = nil-misses D

claimed_last : (D : ℕ → Type 0) (t : Bool) (b : ℕ) (o : Option CacheState) → Misses D (reference_to (last_made o)) → Misses D (reference_to (last_made (cond t (Some (record { block = b; unread = true; free = 0; used = 0; making = None; last = None })) o)))
claimed_last D true b o h = nil-misses D
claimed_last D false b o h = h

-- a cell that is being made isn't in use
pub new-unused : (c : Core) (i : ℕ) (s : SeatState) (x part word : ℕ) → Taken c i s (StoreNew x part word) → Used c x ≡ false
new-unused c i s x part word k =
    let w : Words = words_of c.shape c.words in
    let h : x < c.shape.cells = ltb-true x c.shape.cells (and_parts _ _ (and_parts _ _ k.ok.0).0).0 in
    let facts : CacheFacts s.cache = one-of (λ (m : Maker). CacheFacts m.cache) (makers c.seats) i (maker_of s) (maker-at c.seats i s k.got) (caching c k.core).facts in
    let free : free_in s.cache x ≡ true = next-free s.cache x part facts.made_from_free k.ok.1.0 in
    free-unused c.shape w.owners w.allocs (makers c.seats) i x (maker_of s) k.core.formed.shaped k.core.sound.caches.owned k.core.sound.caches.unpublished facts (maker-at c.seats i s k.got) h free

-- so it isn't in the set, whose cells are in use
pub new-spared : (D : ℕ → Type 0) (c : Core) (i : ℕ) (s : SeatState) (x part word : ℕ) → Taken c i s (StoreNew x part word) → CoreShuns D c → Spares D x
new-spared D c i s x part word t a d =
    let p = and_parts (nat_lt x c.shape.cells && nat_le part (c.shape.fields + 1)) (may_mutate s) t.ok.0 in
    let awake = not-sweep c i s (StoreNew x part word) t (mutator-is s p.1).0 in
    true≢false (sym (a.remain awake x d) ∙ new-unused c i s x part word t)

new_last : (D : ℕ → Type 0) (c : Core) (i : ℕ) (s : SeatState) (x part word : ℕ) → Taken c i s (StoreNew x part word) → CoreShuns D c → SeatShuns D s → Misses D (reference_to (last_made (seat_after c.shape s (StoreNew x part word) (found c s (StoreNew x part word))).cache))
new_last D c i s x part word t a own =
    let P : Bool → Type 0 = λ b. Misses D (reference_to (last_made (cond b (with_making s.cache x (part + 1)) (with_made s.cache x)))) in
    ⊎_elim
    (λ (b : nat_le part c.shape.fields ≡ true). subst P (sym b) (making_last D s.cache x (part + 1) own.last))
    (λ (b : nat_le part c.shape.fields ≡ false). subst P (sym b) (made_last D s.cache x (new-spared D c i s x part word t a)))
    (cases_Bool (nat_le part c.shape.fields))

-- the word that a weak read finds is the block's
weak_read : (D : ℕ → Type 0) (c : Core) (i : ℕ) (s : SeatState) (x : ℕ) → Taken c i s (ReadWeak x) → Misses D (weak_found c (Some s) (ReadWeak x)) → Misses D (weak_reference s x (found c s (ReadWeak x)))
weak_read D c i s x t m = subst (λ (word : ℕ). Misses D (weak_reference s x word)) (sym (words-get (region_sizes c.shape) 4 c.words (x / 64) 0 (in-place c i s (ReadWeak x) t))) m

-- what the step's own seat has afterwards
pub seat-shuns : (D : ℕ → Type 0) (c : Core) (i : ℕ) (s : SeatState) (step : Step) → Taken c i s step → CoreShuns D c → SeatShuns D s → Misses D (weak_found c (Some s) step) → SeatShuns D (seat_after c.shape s step (found c s step))
seat-shuns D c i s (ReadOwn x j) t a own m = record { got = own_read D c i s x j t a own; last = own.last; env = own.env; value = own.value }
seat-shuns D c i s (ReadCat v) t a own m =
    record { got = root_read D c i s (ReadCat v) (0 * 32 + v) t a (in-place c i s (ReadCat v) t) refl; last = own.last; env = own.env; value = own.value }
seat-shuns D c i s (ReadSlot k) t a own m =
    record { got = root_read D c i s (ReadSlot k) (c.shape.sections * 32 + (unwrap_or s.section 0 * c.shape.slots + k)) t a (in-place c i s (ReadSlot k) t) refl; last = own.last; env = own.env; value = own.value }
seat-shuns D c i s (ReadWeak x) t a own m = record { got = weak_read D c i s x t m; last = own.last; env = own.env; value = own.value }
seat-shuns D c i s (StoreSlot k r) t a own m = record { got = nil-misses D; last = own.last; env = own.env; value = own.value }
seat-shuns D c i s (StoreRoot v r) t a own m =
    let whole : reference_in r ≡ r = read-whole c i s (StoreRoot v r) r t (has-use c i s (StoreRoot v r) r t t.ok.1.0) in
    record { got = nil-misses D; last = own.last; env = All-set (Misses D) s.env v (reference_in r) (subst (Misses D) (sym whole) (has-missed D s r own t.ok.1.0)) own.env; value = own.value }
seat-shuns D c i s (HoldRoot v r) t a own m =
    let whole : reference_in r ≡ r = read-whole c i s (HoldRoot v r) r t (has-use c i s (HoldRoot v r) r t t.ok.1.0) in
    record { got = nil-misses D; last = own.last; env = All-set (Misses D) s.env v (reference_in r) (subst (Misses D) (sym whole) (has-missed D s r own t.ok.1.0)) own.env; value = own.value }
seat-shuns D c i s (StoreNew x part word) t a own m = record { got = own.got; last = new_last D c i s x part word t a own; env = own.env; value = own.value }
seat-shuns D c i s PublishCells t a own m = record { got = own.got; last = published_last D s.cache; env = own.env; value = own.value }
seat-shuns D c i s (ClaimBlock b) t a own m =
    record { got = own.got; last = claimed_last D (eqb (found c s (ClaimBlock b)) 0) b s.cache own.last; env = own.env; value = own.value }
seat-shuns D c i s ReleaseBlock t a own m = record { got = own.got; last = nil-misses D; env = own.env; value = own.value }
seat-shuns D c i s ReadFree t a own m = record { got = own.got; last = free_last D s.cache (found c s ReadFree) own.last; env = own.env; value = own.value }
seat-shuns D c i s (ReadField x j) t a own m = record { got = own.got; last = own.last; env = own.env; value = field_value D c i s x j t a }
seat-shuns D c i s (ReadRoot section v) t a own m =
    record {
      got = own.got;
      last = own.last;
      env = own.env;
      value = named_spared D c (found c s (ReadRoot section v)) t.core (learns c i s (ReadRoot section v) t.core t.got t.ok) (root_misses D c i s (ReadRoot section v) (section * 32 + v) t a (in-place c i s (ReadRoot section v) t) refl);
    }
seat-shuns D c i s (LoadSlot section k) t a own m =
    record {
      got = own.got;
      last = own.last;
      env = own.env;
      value = named_spared D c (found c s (LoadSlot section k)) t.core (learns c i s (LoadSlot section k) t.core t.got t.ok) (root_misses D c i s (LoadSlot section k) (c.shape.sections * 32 + (section * c.shape.slots + k)) t a (in-place c i s (LoadSlot section k) t) refl);
    }
seat-shuns D c i s (SetMark x) t a own m = record { got = own.got; last = own.last; env = own.env; value = tt }
seat-shuns D c i s step t a own m = record { got = own.got; last = own.last; env = own.env; value = own.value }
