-- A root is read, and what it refers to is marked.
use Rattle.mark_core.proofs.Writing.Ranges.{in-row}
use Rattle.std.proofs.Common.{ℕ, ◌≡◌, ◌≢◌, ◌<◌, ◌≤◌, ◌+◌, ◌-◌, ◌*◌, List, length, arith, refl, sym, ap, ◌∙◌, subst, Bool, true, false, inl, inr, ◌⊎◌, ⊎_elim}
use Rattle.std.specs.Prelude.{◌||◌, is_some}
use Rattle.std.proofs.lemmas.Bool.{and_from, lt-ltb, cases_eq, not_from_false}
use Rattle.mark_core.specs.Layout.{words_of, region_sizes, root_count}
use Rattle.mark_core.specs.Bits.{cell_of, nil_or}
use Rattle.mark_core.specs.Cells.{in_use}
use Rattle.mark_core.specs.Numbers.{section_variables}
use Rattle.mark_core.specs.Views.{makers}
use Rattle.mark_core.specs.Notes.{steady}
use Rattle.mark_core.specs.Seats.{work_in_hand, scan_left, cleaning_left}
use Rattle.mark_core.specs.declared.kinds.Shape.{Shape}
use Rattle.mark_core.specs.declared.kinds.Step.TheVariants.{ReadRoot, LoadSlot}
use Rattle.mark_core.proofs.Formed.FormedLearns.{goes-within}
use Rattle.mark_core.proofs.Writing.Places.{region-length}
use Rattle.mark_core.proofs.Pool.PoolSlots.{any-held}
use Rattle.gc_table.specs.declared.view.View.{View}
use Rattle.gc_table.specs.Taking.{May, Finds, after}
use Rattle.packet_pools.specs.declared.held.Held.{Held}
use Rattle.packet_pools.specs.Hands.{HoldsPacket}
use Rattle.packet_pools.specs.OnlyTraced.{OnlyTraced, IsNotedMarked}
use Rattle.packet_pools.specs.Scanning.{Pushes}
use Rattle.packet_pools.specs.Tracing.{traces}
use Rattle.packet_pools.proofs.Conditions.{may-trace}
use Rattle.packet_pools.proofs.Exchanged.{known-held}
use Rattle.packet_pools.proofs.Settled.{settles-left}
use Rattle.card_clean.specs.Drained.{IsNotedRoot, RootsBetween, slot_index}
use Rattle.gc_table.proofs.Noticing.{alone-steady}
use Rattle.card_clean.proofs.CardLooks.{noted-here}

pub may-read_root : (v : View) (section u : ℕ) (h : Held) → traces v ≡ true → section < v.shape.sections → u < section_variables → HoldsPacket h v → work_in_hand v.shape.fields v.state ≡ false → May (ReadRoot section u) v
may-read_root v section u h t there low held work c k w a = (
  and_from _ _
      (and_from _ _ (and_from _ _ (lt-ltb section c.core.shape.sections (subst (λ (sh : Shape). section < sh.sections) a.shape there)) (lt-ltb u section_variables low)) (may-trace c k v a t))
      (any-held v.state.held h.packet (known-held v.state.held h.packet h.length held.known)),
  (not_from_false _ (sym (ap (λ (sh : Shape). work_in_hand sh.fields v.state) a.shape) ∙ work), tt),
)

-- a root word is nil or names a cell that exists
root-small : (v : View) (n section u : ℕ) → section < v.shape.sections → u < section_variables → Finds (ReadRoot section u) n v → n ≤ 16777216
root-small v n section u there low f =
    let sh : Shape = f.state.core.shape in
    let ws : List ℕ = f.state.core.words in
    let p : ℕ → Bool = in_use (words_of sh ws).allocs (makers f.state.core.seats) in
    let i : ℕ = section * section_variables + u in
    let there_too : section < sh.sections = subst (λ (s : Shape). section < s.sections) f.agrees.shape there in
    let long : length (words_of sh ws).roots ≡ root_count sh = region-length (region_sizes sh) 2 ws (omega (arith, f.whole.core.formed.words)) in
    let within : i < length (words_of sh ws).roots = omega (arith, long, there_too, low) in
    let goes : nil_or p n ≡ true = subst (λ r. nil_or p r ≡ true) f.word (f.whole.core.sound.references.roots_in_use i 0 within) in
    let most : n ≤ sh.cells = goes-within f.state.core n f.whole.core.formed goes in
    omega (arith, most, f.whole.core.formed.shaped.cells.1)

-- a root that was read, and whose cell was marked after
pub root-noted : (v x : View) (n section u : ℕ) → section < v.shape.sections → u < section_variables → v.state.alone ≡ true → Finds (ReadRoot section u) n v → OnlyTraced (after (ReadRoot section u) n v) x → (n ≡ 0) ⊎ IsNotedMarked x (cell_of n) → IsNotedRoot (section * section_variables + u) x
root-noted v x n section u there low alone f k marked =
    let w : View = after (ReadRoot section u) n v in
    let at : ℕ × ℕ = (2, section * section_variables + u) in
    record {
      word = n;
      noted = k.notes at n refl (alone-steady w.state at n refl alone) (noted-here (steady w.state) at n v.known (alone-steady w.state at n refl alone));
      marked =
          ⊎_elim
          (λ (z : n ≡ 0). inl z)
          (λ (m : IsNotedMarked x (cell_of n)).
          ⊎_elim
          (λ (z : n ≡ 0). inl z)
          (λ (d : n ≢ 0). let same : cell_of n ≡ n - 1 = omega (arith, d, root-small v n section u there low f) in inr (subst (IsNotedMarked x) same m))
          (cases_eq n 0))
          marked;
    }

-- nothing is in hand after a cell was marked
pub marked-work : (v w : View) (h k : Held) (fields : ℕ) → scan_left fields v.state.scan ≡ false → cleaning_left v.state.cleaning ≡ false → Pushes h k v.state.scan v.state.cleaning v w → work_in_hand fields w.state ≡ false
marked-work v w h k fields over done p =
    let scan : scan_left fields w.state.scan ≡ false = ap (scan_left fields) p.scan ∙ over in
    let cleaning : cleaning_left w.state.cleaning ≡ false = settles-left v.state.cleaning w.state.cleaning p.cleaning done in
    λ i. is_some (p.hand.popped i) || scan i || is_some (p.hand.value i) || is_some (p.hand.fresh i) || cleaning i

-- the roots so far, and the next one
pub roots-next : (from i : ℕ) (v w : View) → ((k : ℕ) → IsNotedRoot k v → IsNotedRoot k w) → RootsBetween from i v → IsNotedRoot i w → RootsBetween from (i + 1) w
roots-next from i v w kept so_far one k low high =
    ⊎_elim
    (λ (s : k ≡ i). subst (λ j. IsNotedRoot j w) (sym s) one)
    (λ (d : k ≢ i). kept k (so_far k low (omega (arith, high, d))))
    (cases_eq k i)

pub may-load_slot : (v : View) (section q : ℕ) (h : Held) → traces v ≡ true → section < v.shape.sections → q < v.shape.slots → HoldsPacket h v → work_in_hand v.shape.fields v.state ≡ false → May (LoadSlot section q) v
may-load_slot v section q h t there low held work c k w a = (
  and_from _ _
      (and_from _ _
      (and_from _ _ (lt-ltb section c.core.shape.sections (subst (λ (sh : Shape). section < sh.sections) a.shape there)) (lt-ltb q c.core.shape.slots (subst (λ (sh : Shape). q < sh.slots) a.shape low))) (may-trace c k v a t))
      (any-held v.state.held h.packet (known-held v.state.held h.packet h.length held.known)),
  (not_from_false _ (sym (ap (λ (sh : Shape). work_in_hand sh.fields v.state) a.shape) ∙ work), tt),
)

-- a slot is nil or names a cell that exists
slot-small : (v : View) (n section q : ℕ) → section < v.shape.sections → q < v.shape.slots → Finds (LoadSlot section q) n v → n ≤ 16777216
slot-small v n section q there low f =
    let sh : Shape = f.state.core.shape in
    let ws : List ℕ = f.state.core.words in
    let p : ℕ → Bool = in_use (words_of sh ws).allocs (makers f.state.core.seats) in
    let i : ℕ = slot_index sh section q in
    let there_too : section < sh.sections = subst (λ (s : Shape). section < s.sections) f.agrees.shape there in
    let low_too : q < sh.slots = subst (λ (s : Shape). q < s.slots) f.agrees.shape low in
    let long : length (words_of sh ws).roots ≡ root_count sh = region-length (region_sizes sh) 2 ws (omega (arith, f.whole.core.formed.words)) in
    let within : i < length (words_of sh ws).roots = omega (arith, long, in-row section sh.sections sh.slots q there_too low_too) in
    let goes : nil_or p n ≡ true = subst (λ r. nil_or p r ≡ true) f.word (f.whole.core.sound.references.roots_in_use i 0 within) in
    let most : n ≤ sh.cells = goes-within f.state.core n f.whole.core.formed goes in
    omega (arith, most, f.whole.core.formed.shaped.cells.1)

-- a slot that was read, and whose cell was marked after
pub slot-noted : (v x : View) (n section q : ℕ) → section < v.shape.sections → q < v.shape.slots → v.state.alone ≡ true → Finds (LoadSlot section q) n v → OnlyTraced (after (LoadSlot section q) n v) x → (n ≡ 0) ⊎ IsNotedMarked x (cell_of n) → IsNotedRoot (slot_index v.shape section q) x
slot-noted v x n section q there low alone f k marked =
    let w : View = after (LoadSlot section q) n v in
    let at : ℕ × ℕ = (2, slot_index v.shape section q) in
    record {
      word = n;
      noted = k.notes at n refl (alone-steady w.state at n refl alone) (noted-here (steady w.state) at n v.known (alone-steady w.state at n refl alone));
      marked =
          ⊎_elim
          (λ (z : n ≡ 0). inl z)
          (λ (m : IsNotedMarked x (cell_of n)).
          ⊎_elim
          (λ (z : n ≡ 0). inl z)
          (λ (d : n ≢ 0). let same : cell_of n ≡ n - 1 = omega (arith, d, slot-small v n section q there low f) in inr (subst (IsNotedMarked x) same m))
          (cases_eq n 0))
          marked;
    }
