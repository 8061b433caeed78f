-- What a mutator reads into its register agrees with what the plain heap has there.
use Rattle.mark_core.proofs.References.ReferencesNow.{the-roots, cat-now, slot-now}
use Rattle.mark_core.proofs.Lagging.{now-seat}
use Rattle.mark_core.specs.Variables.{roots_now}
use Rattle.plain_heap.specs.declared.object.Ref.TheVariants as refs
use Rattle.std.proofs.Common.{ℕ, ◌≡◌, ◌+◌, ◌*◌, ◌<◌, ◌≤◌, zero, suc, List, set, arith, refl, sym, ap, subst, true, false, ◌&&◌, Option, Some, inr, inl, ◌∙◌}
use Rattle.std.specs.Prelude.{IsTrue, slice_get, slice_index, nat_lt, unwrap_or}
use Rattle.std.proofs.lemmas.Bool.{true≢false, and_parts, not-true, ltb-true}
use Rattle.std.proofs.lemmas.Option.{slice_get-get_or}
use Rattle.mark_core.specs.Layout.{Words, words_of, region_sizes, root_count}
use Rattle.mark_core.specs.Bits.{nil_or, reference_in}
use Rattle.mark_core.specs.Seats.{is_the, may_mutate}
use Rattle.mark_core.specs.Cells.{field}
use Rattle.mark_core.specs.Steps.{Core}
use Rattle.mark_core.proofs.Known.{found, words_left, seats_left}
use Rattle.mark_core.proofs.HeldBlock.{roots-length}
use Rattle.mark_core.proofs.Blocks.BlocksStopped.{Taken, in-place, words-read}
use Rattle.mark_core.proofs.Writing.Places.{words-get}
use Rattle.mark_core.proofs.References.ReferencesRoots.{known-used, Used, UsedAfter, read-whole, read-field}
use Rattle.mark_core.proofs.Used.UsedSeats.{IsMadeBy}
use Rattle.mark_core.proofs.Writing.Writes.{only_reads}
use Rattle.mark_core.specs.declared.kinds.Step.{Step}
use Rattle.mark_core.specs.declared.kinds.Step.TheVariants.{ReadOwn, ReadCat, ReadSlot}
use Rattle.mark_core.specs.declared.seat.SeatState.{SeatState}
use Rattle.plain_heap.specs.declared.object.Ref.{Ref}
use Rattle.plain_heap.specs.PlainHeap.{variable}
use Rattle.plain_heap.specs.PlainStep.{followed, lent_variable}
use Rattle.gc_table.specs.StandsFor.{object_count, WordAgrees, SeatStands, Stands, StandsIn, StandsFor}
use Rattle.gc_table.specs.declared.view.Meaning.{Meaning}
use Rattle.gc_table.specs.PlainSteps.{heap_in, catalogue_seen, own_section, meaning_of, no_meaning, changed, with_got, known_as}
use Rattle.gc_table.proofs.Stands.StandsAgree.{Stays, next-on, agrees-on, lent-agrees}
use Rattle.gc_table.proofs.Stands.StandsFrame.{cell-on, field-agrees, Moves, moved, had-meaning, counts-grow}
use Rattle.gc_table.proofs.Stands.StandsSeat.{Mutates, mutates, known-agrees}

-- only the register has changed
got_moves : (c : Core) (i : ℕ) (s : SeatState) (step : Step) (ms : List Meaning) (word : ℕ) (ref : Ref) → Taken c i s step → StandsFor c ms → Mutates c i s ms → ((y : ℕ) → IsMadeBy c.shape step y → ⊥)
    → WordAgrees (words_of c.shape c.words).identities (object_count ms) i word ref → Moves c i s step (words_of c.shape c.words) (record s { got = word }) (with_got ref (meaning_of ms i)) ms
got_moves c i s step ms word ref k st a none got =
    let w : Words = words_of c.shape c.words in
    let m : Meaning = meaning_of ms i in
    let n : Meaning = with_got ref m in
    let more : (j : ℕ) → object_count ms j ≤ object_count (set ms i n) j = counts-grow ms i m n a.there (omega arith) in
    let mine : SeatStands c.shape w.identities w.values (object_count ms) i s m = st.seats_agree i s m k.got a.there k.live in
    record {
      numbered = st.numbered i m a.there;
      more = omega arith;
      identities_kept = λ y u. refl;
      now_roots = the-roots c;
      now = now-seat w.roots c.seats i s (record s { got = word }) k.got refl refl;
      other_roots = λ v u d h. refl;
      slots_nil = st.slots_nil;
      own_roots = λ v h. agrees-on w.identities w.identities (object_count ms) (object_count (set ms i n)) i _ _ (λ some. refl) more (st.roots_agree i m a.there v h);
      cells =
          λ y h u.
          let before = had-meaning c i s step ms y k st (none y) h u in
          let stays : Stays c.shape w.identities w.identities w.values w.values w.fields w.fields (object_count ms) (object_count (set ms i n)) y =
          record { identity = refl; value = refl; each_field = λ j l. refl; targets = λ j l some. refl; more = more } in
          cell-on c.shape w.identities w.identities w.values w.values w.fields w.fields ms i m n y a.there stays (λ e q. refl)
          (λ e q. inr (next-on c.shape w.identities w.identities w.values w.values w.fields w.fields (object_count ms) (object_count (set ms i n)) m n y stays refl refl q)) before.1;
      other_making = λ v o d g live y part e. refl;
      own_seat =
          λ live.
          record { got = agrees-on w.identities w.identities (object_count ms) (object_count (set ms i n)) i word ref (λ some. refl) more got; made = mine.made; making = mine.making; last = mine.last };
    }

-- a step that reads a word into the register
pub got-read : (c : Core) (i : ℕ) (s : SeatState) (step : Step) (ms : List Meaning) (word : ℕ) (ref : Ref) → Taken c i s step → StandsFor c ms → Mutates c i s ms → ((y : ℕ) → IsMadeBy c.shape step y → ⊥) → only_reads step ≡ true
    → seats_left c i s step ≡ set c.seats i (record s { got = word }) → WordAgrees (words_of c.shape c.words).identities (object_count ms) i word ref → StandsIn c.shape (words_left c s step) (seats_left c i s step) (changed ms i (with_got ref))
got-read c i s step ms word ref k st a none reads is got =
    let w : Words = words_of c.shape c.words in
    let n : Meaning = with_got ref (meaning_of ms i) in
    let P : Words → List SeatState → Type 0 = λ x seats. Stands c.shape (roots_now x.roots seats) x.identities x.values x.fields (λ y. IsTrue (UsedAfter c i s step y)) seats (set ms i n) in
    let base : P w (set c.seats i (record s { got = word })) = moved c i s step w (record s { got = word }) n ms k st a (got_moves c i s step ms word ref k st a none got) in
    subst (λ (x : Words). P x (seats_left c i s step)) (sym (words-read c i s step k reads)) (subst (P w) (sym is) base)

-- the word in a field of an object that the seat knows agrees with what the plain heap has there
pub own-found : (c : Core) (i : ℕ) (s : SeatState) (x j : ℕ) (ms : List Meaning) → Taken c i s (ReadOwn x j) → StandsFor c ms → Mutates c i s ms
    → (reference_in (found c s (ReadOwn x j)) ≡ found c s (ReadOwn x j)) × WordAgrees (words_of c.shape c.words).identities (object_count ms) i (found c s (ReadOwn x j)) (followed (meaning_of ms i).heap (catalogue_seen ms i) (known_as s (meaning_of ms i) x) j)
own-found c i s x j ms k st a =
    let w : Words = words_of c.shape c.words in
    let step : Step = ReadOwn x j in
    let d = and_parts (nat_lt x c.shape.cells) (nat_lt j c.shape.fields) (and_parts (nat_lt x c.shape.cells && nat_lt j c.shape.fields) (may_mutate s) k.ok.0).0 in
    let hx : x < c.shape.cells = ltb-true x c.shape.cells d.0 in
    let hj : j < c.shape.fields = ltb-true j c.shape.fields d.1 in
    let m : Meaning = meaning_of ms i in
    let known : Used c x ≡ true = known-used c i s step x k k.ok.1.0 in
    let ref : Ref = followed m.heap (catalogue_seen ms i) (known_as s m x) j in
    let agrees : WordAgrees w.identities (object_count ms) i (field c.shape w.fields x j) ref =
    field-agrees c.shape w.identities w.values w.fields ms i x j m (known_as s m x) a.there hj (known-agrees c i s step ms x k st a k.ok.1.0) (st.cells_agree x hx known) in
    let old : found c s step ≡ field c.shape w.fields x j = words-get (region_sizes c.shape) 11 c.words (x * c.shape.fields + j) 0 (in-place c i s step k) in
    let goes : nil_or (Used c) (found c s step) ≡ true = subst (λ (r : ℕ). nil_or (Used c) r ≡ true) (sym old) (read-field c i s step x j k a.active hx known hj) in
    (read-whole c i s step (found c s step) k goes, subst (λ (word : ℕ). WordAgrees w.identities (object_count ms) i word ref) (sym old) agrees)

-- 17: a field of an object that the seat knows
pub read-own : (c : Core) (i : ℕ) (s : SeatState) (x j : ℕ) (ms : List Meaning) → Taken c i s (ReadOwn x j) → StandsFor c ms
    → StandsIn c.shape (words_left c s (ReadOwn x j)) (seats_left c i s (ReadOwn x j)) (changed ms (own_section s) (λ m. with_got (followed m.heap (catalogue_seen ms (own_section s)) (known_as s m x) j) m))
read-own c i s x j ms k st =
    let step : Step = ReadOwn x j in
    let a : Mutates c i s ms = mutates c i s step ms k st (and_parts (nat_lt x c.shape.cells && nat_lt j c.shape.fields) (may_mutate s) k.ok.0).1 in
    let m : Meaning = meaning_of ms i in
    let ref : Ref = followed m.heap (catalogue_seen ms i) (known_as s m x) j in
    let r = own-found c i s x j ms k st a in
    subst (λ (o : ℕ). StandsIn c.shape (words_left c s step) (seats_left c i s step) (changed ms o (λ n. with_got (followed n.heap (catalogue_seen ms o) (known_as s n x) j) n))) (sym a.own)
    (got-read c i s step ms (reference_in (found c s step)) ref k st a (λ y e. e) refl refl (subst (λ (word : ℕ). WordAgrees (words_of c.shape c.words).identities (object_count ms) i word ref) (sym r.0) r.1))

-- a variable of the catalogue, as a warehouse sees it
cat_agrees : (ids : List ℕ) (ms : List Meaning) (i v : ℕ) (word : ℕ) → is_the (Some i) 0 ≡ false → WordAgrees ids (object_count ms) 0 word (variable (meaning_of ms 0).heap v) → slice_get ms 0 ≡ Some (meaning_of ms 0)
    → WordAgrees ids (object_count ms) i word (lent_variable (catalogue_seen ms i) v)
cat_agrees ids ms zero v word e h g = absurd (true≢false e)
cat_agrees ids ms (suc i) v word e h g =
    subst (λ (r : Ref). WordAgrees ids (object_count ms) (suc i) word r) (sym (ap (λ o. lent_variable (heap_in o) v) g)) (lent-agrees ids (object_count ms) i word (variable (meaning_of ms 0).heap v) h)

-- the word in a variable of the catalogue agrees with what a warehouse sees there
pub cat-found : (c : Core) (i : ℕ) (s : SeatState) (v : ℕ) (ms : List Meaning) → Taken c i s (ReadCat v) → StandsFor c ms → Mutates c i s ms
    → (reference_in (found c s (ReadCat v)) ≡ found c s (ReadCat v)) × WordAgrees (words_of c.shape c.words).identities (object_count ms) i (found c s (ReadCat v)) (lent_variable (catalogue_seen ms i) v)
cat-found c i s v ms k st a =
    let w : Words = words_of c.shape c.words in
    let step : Step = ReadCat v in
    let hv : v < 32 = ltb-true v 32 (and_parts (nat_lt v 32) (may_mutate s) k.ok.0).0 in
    let first : slice_get ms 0 ≡ Some (meaning_of ms 0) = slice_get-get_or ms 0 no_meaning (omega (arith, st.sections, a.inside)) in
    let h : 0 * 32 + v < root_count c.shape = in-place c i s step k in
    let old : found c s step ≡ slice_index w.roots (0 * 32 + v) = words-get (region_sizes c.shape) 2 c.words (0 * 32 + v) 0 h in
    let goes : nil_or (Used c) (found c s step) ≡ true = subst (λ (r : ℕ). nil_or (Used c) r ≡ true) (sym old) (k.core.sound.references.roots_in_use (0 * 32 + v) 0 (subst (λ (n : ℕ). 0 * 32 + v < n) (sym (roots-length c k.core)) h)) in
    let other : is_the (Some i) 0 ≡ false = subst (λ (o : Option ℕ). is_the o 0 ≡ false) a.section (not-true (is_the s.section 0) k.ok.1.0) in
    let agrees : WordAgrees w.identities (object_count ms) i (slice_index (the-roots c) (0 * 32 + v)) (lent_variable (catalogue_seen ms i) v) = cat_agrees w.identities ms i v _ other (st.roots_agree 0 (meaning_of ms 0) first v hv) first in
    (read-whole c i s step (found c s step) k goes, subst (λ (word : ℕ). WordAgrees w.identities (object_count ms) i word (lent_variable (catalogue_seen ms i) v)) (sym (old ∙ sym (cat-now c i s step v k (and_parts (nat_lt v 32) (may_mutate s) k.ok.0).1 (not-true (is_the s.section 0) k.ok.1.0) hv))) agrees)

-- 17: a variable of the catalogue
pub read-cat : (c : Core) (i : ℕ) (s : SeatState) (v : ℕ) (ms : List Meaning) → Taken c i s (ReadCat v) → StandsFor c ms
    → StandsIn c.shape (words_left c s (ReadCat v)) (seats_left c i s (ReadCat v)) (changed ms (own_section s) (with_got (lent_variable (catalogue_seen ms (own_section s)) v)))
read-cat c i s v ms k st =
    let step : Step = ReadCat v in
    let a : Mutates c i s ms = mutates c i s step ms k st (and_parts (nat_lt v 32) (may_mutate s) k.ok.0).1 in
    let ref : Ref = lent_variable (catalogue_seen ms i) v in
    let r = cat-found c i s v ms k st a in
    subst (λ (o : ℕ). StandsIn c.shape (words_left c s step) (seats_left c i s step) (changed ms o (with_got (lent_variable (catalogue_seen ms o) v)))) (sym a.own)
    (got-read c i s step ms (reference_in (found c s step)) ref k st a (λ y e. e) refl refl (subst (λ (word : ℕ). WordAgrees (words_of c.shape c.words).identities (object_count ms) i word ref) (sym r.0) r.1))

-- 53: a slot, which is nil
pub read-slot : (c : Core) (i : ℕ) (s : SeatState) (j : ℕ) (ms : List Meaning) → Taken c i s (ReadSlot j) → StandsFor c ms
    → StandsIn c.shape (words_left c s (ReadSlot j)) (seats_left c i s (ReadSlot j)) (changed ms (own_section s) (with_got refs.Nil))
read-slot c i s j ms k st =
    let step : Step = ReadSlot j in
    let a : Mutates c i s ms = mutates c i s step ms k st (and_parts (nat_lt j c.shape.slots) (may_mutate s) k.ok.0).1 in
    let at : ℕ = unwrap_or s.section 0 * c.shape.slots + j in
    let here : c.shape.sections * 32 + at < root_count c.shape = in-place c i s step k in
    let nil : found c s step ≡ 0 = words-get (region_sizes c.shape) 2 c.words (c.shape.sections * 32 + at) 0 (in-place c i s step k) ∙ sym (slot-now c (c.shape.sections * 32 + at) k.core (omega arith) (omega (arith, here, roots-length c k.core))) ∙ st.slots_nil at in
    subst (λ (o : ℕ). StandsIn c.shape (words_left c s step) (seats_left c i s step) (changed ms o (with_got refs.Nil))) (sym a.own)
    (got-read c i s step ms (reference_in (found c s step)) refs.Nil k st a (λ y e. e) refl refl (inl (ap reference_in nil, refl)))
