-- What a mutator reads into its register refers to what the heap has there.
use Rattle.mark_core.specs.Steps.MutatorSteps.{weak_reference}
use Rattle.std.proofs.Common.{ℕ, ◌≡◌, ◌+◌, ◌*◌, ◌/◌, ◌<◌, List, set, length, arith, refl, sym, ap, ◌∙◌, subst, true, ◌&&◌, Option, Some, None, ◌≢◌, ◌≤◌, zero, suc, [], ◌∷◌, ◌++◌, get_or, ⊎_elim}
use Rattle.mark_core.proofs.References.ReferencesNow.{the-roots, cat-now, slot-now}
use Rattle.mark_core.proofs.Lagging.{now-seat}
use Rattle.mark_core.specs.Variables.{roots_now}
use Rattle.std.specs.Prelude.{IsTrue, slice_index, slice_index_or, nat_lt, slice_get}
use Rattle.std.proofs.lemmas.Bool.{not-true, and_parts, ltb-true, cases_eq, cases_lt}
use Rattle.plain_heap.specs.Paths.{Name}
use Rattle.mark_core.specs.Layout.{Words, words_of, region_sizes, root_count}
use Rattle.mark_core.specs.Bits.{nil_or, reference_in}
use Rattle.mark_core.specs.Seats.{may_mutate, is_the}
use Rattle.mark_core.specs.Cells.{field}
use Rattle.mark_core.specs.Steps.{Core}
use Rattle.mark_core.proofs.Known.{found, words_left, seats_left}
use Rattle.mark_core.proofs.HeldBlock.{roots-length}
use Rattle.mark_core.proofs.Blocks.BlocksStopped.{Taken, in-place, words-read}
use Rattle.mark_core.proofs.Writing.Places.{words-get}
use Rattle.mark_core.proofs.Writing.Writes.{only_reads}
use Rattle.mark_core.proofs.References.ReferencesRoots.{known-used, Used, UsedAfter, read-whole, read-field}
use Rattle.mark_core.proofs.Used.UsedSeats.{IsMadeBy}
use Rattle.mark_core.specs.declared.kinds.Step.{Step}
use Rattle.mark_core.specs.declared.kinds.Step.TheVariants.{ReadOwn, ReadCat, ReadSlot, ReadWeak}
use Rattle.mark_core.specs.declared.seat.SeatState.{SeatState}
use Rattle.gc_table.specs.RunWorlds.{World, WorldObject, WorldSection, variable_of, object_of, followed, in_section, with_register, name_at, referred, own_section, new_section, no_object, section_of, replaced, with_object}
use Rattle.gc_table.specs.Agreement.{HoldsObject, SeatAgrees, Agrees, AgreesIn, AgreesWith}
use Rattle.gc_table.proofs.Frame.{holds-on, Moves, moved, had-object, Mutates, mutates}
use Rattle.std.proofs.lemmas.List.{get_or-set_same, get_or-set_other, get_or_past, length-set}
use Rattle.std.proofs.lemmas.Option.{get_or_from_slice_get}

-- What stays, and what changes, when a section or an object of the heap changes.
-- an element that was written, and one of another place
pub get-set_same : {X : Type 0} (xs : List X) (i : ℕ) (x y : X) → slice_get xs i ≡ Some x → slice_get (set xs i y) i ≡ Some y
get-set_same [] zero x y e = cc
get-set_same [] (suc i) x y e = cc
get-set_same (z ∷ xs) zero x y e = refl
get-set_same (z ∷ xs) (suc i) x y e = get-set_same xs i x y e

pub get-set_other : {X : Type 0} (xs : List X) (i k : ℕ) (y : X) → k ≢ i → slice_get (set xs i y) k ≡ slice_get xs k
get-set_other [] i k y d = refl
get-set_other (x ∷ xs) zero zero y d = absurd (d refl)
get-set_other (x ∷ xs) zero (suc k) y d = refl
get-set_other (x ∷ xs) (suc i) zero y d = refl
get-set_other (x ∷ xs) (suc i) (suc k) y d = get-set_other xs i k y (λ e. d (ap (λ (n : ℕ). suc n) e))

-- an object that was added, and those before it
pub get-front : {X : Type 0} (xs : List X) (y : X) (k : ℕ) → k < length xs → slice_get (xs ++ y ∷ []) k ≡ slice_get xs k
get-front [] y k h = absurd (omega (arith, h))
get-front (x ∷ xs) y zero h = refl
get-front (x ∷ xs) y (suc k) h = get-front xs y k (omega (arith, h))

pub get-added : {X : Type 0} (xs : List X) (y : X) → slice_get (xs ++ y ∷ []) (length xs) ≡ Some y
get-added [] y = refl
get-added (x ∷ xs) y = get-added xs y

-- the section that changes, and another one
pub section-same : (world : World) (w : ℕ) (f : WorldSection → WorldSection) → w < length world → section_of (in_section world w f) w ≡ f (section_of world w)
section-same world w f h = get_or-set_same world w (f (section_of world w)) new_section h

pub section-other : (world : World) (w k : ℕ) (f : WorldSection → WorldSection) → k ≢ w → section_of (in_section world w f) k ≡ section_of world k
section-other world w k f d = get_or-set_other world w k (f (section_of world w)) new_section d

pub sections-kept : (world : World) (w : ℕ) (f : WorldSection → WorldSection) → length (in_section world w f) ≡ length world
sections-kept world w f = length-set world w (f (section_of world w))

-- what a change leaves of the one section, it leaves of every section
pub view-kept : {Y : Type 0} (view : WorldSection → Y) (world : World) (w k : ℕ) (f : WorldSection → WorldSection) → w < length world → (view (f (section_of world w)) ≡ view (section_of world w)) → view (section_of (in_section world w f) k) ≡ view (section_of world k)
view-kept {Y} view world w k f h same =
    ⊎_elim
    (λ (e : k ≡ w). subst (λ (j : ℕ). view (section_of (in_section world w f) j) ≡ view (section_of world j)) (sym e) (ap view (section-same world w f h) ∙ same))
    (λ (d : k ≢ w). ap view (section-other world w k f d))
    (cases_eq k w)

-- if the objects of the section stay, every object does
pub object-kept : (world : World) (w : ℕ) (f : WorldSection → WorldSection) (name : Name) → w < length world → (f (section_of world w)).objects ≡ (section_of world w).objects → object_of (in_section world w f) name ≡ object_of world name
object-kept world w f name h same = ap (λ (xs : List WorldObject). slice_get xs name.number) (view-kept (λ (x : WorldSection). x.objects) world w name.section f h same)

pub none-some : {A : Type 0} (x : A) → None ≡ Some x → ⊥
none-some {A} x e = cc

-- the section of an object exists
pub object-inside : (world : World) (name : Name) (o : WorldObject) → object_of world name ≡ Some o → name.section < length world
object-inside world name o e =
    ⊎_elim
    (λ (h : name.section < length world). h)
    (λ (h : length world ≤ name.section).
    absurd (none-some o (sym (ap (λ (x : WorldSection). slice_get x.objects name.number) (get_or_past world name.section new_section h)) ∙ e)))
    (cases_lt name.section (length world))

-- the object that changes
pub object-changed : (world : World) (name : Name) (f : WorldObject → WorldObject) (o : WorldObject) → object_of world name ≡ Some o → object_of (with_object world (Some name) f) name ≡ Some (f o)
object-changed world name f o e =
    let inside : name.section < length world = object-inside world name o e in
    let xs : List WorldObject = (section_of world name.section).objects in
    let was : get_or xs name.number no_object ≡ o = get_or_from_slice_get xs name.number o no_object e in
    ap (λ (x : WorldSection). slice_get x.objects name.number) (section-same world name.section (λ x. record x { objects = replaced x.objects name.number f }) inside)
    ∙ get-set_same xs name.number o (f (get_or xs name.number no_object)) e ∙ ap (λ (y : WorldObject). Some (f y)) was

-- every other object stays
pub object-other : (world : World) (name other : Name) (f : WorldObject → WorldObject) → name.section < length world → (other.section ≡ name.section → other.number ≢ name.number) → object_of (with_object world (Some name) f) other ≡ object_of world other
object-other world name other f inside apart =
    let g : WorldSection → WorldSection = λ x. record x { objects = replaced x.objects name.number f } in
    let xs : List WorldObject = (section_of world name.section).objects in
    ⊎_elim
    (λ (e : other.section ≡ name.section).
    subst (λ (j : ℕ). slice_get (section_of (in_section world name.section g) j).objects other.number ≡ slice_get (section_of world j).objects other.number) (sym e)
    (ap (λ (x : WorldSection). slice_get x.objects other.number) (section-same world name.section g inside) ∙ get-set_other xs name.number other.number (f (get_or xs name.number no_object)) (apart e)))
    (λ (d : other.section ≢ name.section). ap (λ (x : WorldSection). slice_get x.objects other.number) (section-other world name.section other.section g d))
    (cases_eq other.section name.section)

-- only the register has changed
got_moves : (c : Core) (i : ℕ) (s : SeatState) (step : Step) (world : World) (word : ℕ) (to : Option Name) → Taken c i s step → AgreesWith c world → Mutates c i s → ((y : ℕ) → IsMadeBy c.shape step y → ⊥)
    → referred (words_of c.shape c.words).identities word ≡ to → Moves c i s step (words_of c.shape c.words) (record s { got = word }) world (in_section world i (with_register to))
got_moves c i s step world word to k a mu none is =
    let w : Words = words_of c.shape c.words in
    let f : WorldSection → WorldSection = with_register to in
    let inside : i < length world = omega (arith, mu.inside, a.sections) in
    let had : SeatAgrees c.shape w.identities w.values world i s = a.seats_agree i s k.got mu.inside k.live in
    record {
      sections = sections-kept world i f;
      variables = λ j h. view-kept (λ (x : WorldSection). length x.variables) world i j f inside refl;
      identities_kept = λ y u. refl;
      now_roots = the-roots c;
      now = now-seat w.roots c.seats i s (record s { got = word }) k.got refl refl;
      roots = λ j v h hv. a.roots_agree j v h hv ∙ sym (view-kept (λ (x : WorldSection). slice_index_or x.variables v None) world i j f inside refl);
      slots = λ j q h hq. a.slots_agree j q h hq ∙ sym (view-kept (λ (x : WorldSection). slice_index_or x.variables (32 + q) None) world i j f inside refl);
      cells =
          λ y h u.
          holds-on c.shape w.identities w.identities w.values w.values w.fields w.fields world (in_section world i f) y
          (record { identity = refl; value = refl; each_field = λ j l. refl; targets = λ j l d e. refl; object = λ o e. object-kept world i f (name_at w.identities y) inside refl ∙ e })
          (had-object c i s step world y k a (none y) h u).1;
      other_register = λ j d. ap (λ (x : WorldSection). x.register) (section-other world i j f d);
      other_made = λ j d. ap (λ (x : WorldSection). length x.objects) (section-other world i j f d);
      other_coming = λ j d. ap (λ (x : WorldSection). x.coming) (section-other world i j f d);
      other_making = λ j o d g live y part e. refl;
      own_seat =
          λ h live.
          record {
            register = is ∙ sym (ap (λ (x : WorldSection). x.register) (section-same world i f inside));
            made = ap (λ (x : WorldSection). length x.objects) (section-same world i f inside) ∙ had.made;
            making = λ y part e l. had.making y part e l ∙ sym (ap (λ (x : WorldSection). x.coming) (section-same world i f inside));
            last = had.last;
          };
    }

-- a step that reads a word into the register
got_read : (c : Core) (i : ℕ) (s : SeatState) (step : Step) (world : World) (word : ℕ) (to : Option Name) → Taken c i s step → AgreesWith c world → Mutates c i s → ((y : ℕ) → IsMadeBy c.shape step y → ⊥) → only_reads step ≡ true
    → seats_left c i s step ≡ set c.seats i (record s { got = word }) → referred (words_of c.shape c.words).identities word ≡ to → AgreesIn c.shape (words_left c s step) (seats_left c i s step) (in_section world (own_section s) (with_register to))
got_read c i s step world word to k a mu none reads is got =
    let w : Words = words_of c.shape c.words in
    let P : Words → List SeatState → Type 0 = λ x seats. Agrees c.shape (roots_now x.roots seats) x.identities x.values x.fields (λ y. IsTrue (UsedAfter c i s step y)) seats (in_section world i (with_register to)) in
    let base : P w (set c.seats i (record s { got = word })) = moved c i s step w (record s { got = word }) world (in_section world i (with_register to)) k a (got_moves c i s step world word to k a mu none got) in
    subst (λ (j : ℕ). AgreesIn c.shape (words_left c s step) (seats_left c i s step) (in_section world j (with_register to))) (sym mu.own)
    (subst (λ (x : Words). P x (seats_left c i s step)) (sym (words-read c i s step k reads)) (subst (P w) (sym is) base))

-- a field of an object that the seat knows is read whole, and refers to what the heap has there
pub own-found : (c : Core) (i : ℕ) (s : SeatState) (x j : ℕ) (world : World) → Taken c i s (ReadOwn x j) → AgreesWith c world
    → (reference_in (found c s (ReadOwn x j)) ≡ found c s (ReadOwn x j)) × (referred (words_of c.shape c.words).identities (found c s (ReadOwn x j)) ≡ followed (object_of world (name_at (words_of c.shape c.words).identities x)) j)
    × ((o : WorldObject) × (object_of world (name_at (words_of c.shape c.words).identities x) ≡ Some o))
own-found c i s x j world k a =
    let w : Words = words_of c.shape c.words in
    let step : Step = ReadOwn x j in
    let b = and_parts (nat_lt x c.shape.cells && nat_lt j c.shape.fields) (may_mutate s) k.ok.0 in
    let d = and_parts (nat_lt x c.shape.cells) (nat_lt j c.shape.fields) b.0 in
    let mu : Mutates c i s = mutates c i s step k b.1 in
    let hx : x < c.shape.cells = ltb-true x c.shape.cells d.0 in
    let hj : j < c.shape.fields = ltb-true j c.shape.fields d.1 in
    let known : Used c x ≡ true = known-used c i s step x k k.ok.1.0 in
    let h : HoldsObject c.shape w.identities w.values w.fields world x = a.cells_agree x hx known in
    let old : found c s step ≡ field c.shape w.fields x j = words-get (region_sizes c.shape) 11 c.words (x * c.shape.fields + j) 0 (in-place c i s step k) in
    let goes : nil_or (Used c) (found c s step) ≡ true = subst (λ (r : ℕ). nil_or (Used c) r ≡ true) (sym old) (read-field c i s step x j k mu.active hx known hj) in
    (read-whole c i s step (found c s step) k goes, ap (referred w.identities) old ∙ h.each_field j hj ∙ sym (ap (λ (o : Option WorldObject). followed o j) h.there), (h.object, h.there))

-- 17: a field of an object that the seat knows
pub read-own : (c : Core) (i : ℕ) (s : SeatState) (x j : ℕ) (world : World) → Taken c i s (ReadOwn x j) → AgreesWith c world
    → AgreesIn c.shape (words_left c s (ReadOwn x j)) (seats_left c i s (ReadOwn x j)) (in_section world (own_section s) (with_register (followed (object_of world (name_at (words_of c.shape c.words).identities x)) j)))
read-own c i s x j world k a =
    let step : Step = ReadOwn x j in
    let ids : List ℕ = (words_of c.shape c.words).identities in
    let mu : Mutates c i s = mutates c i s step k (and_parts (nat_lt x c.shape.cells && nat_lt j c.shape.fields) (may_mutate s) k.ok.0).1 in
    let r = own-found c i s x j world k a in
    got_read c i s step world (reference_in (found c s step)) (followed (object_of world (name_at ids x)) j) k a mu (λ y e. e) refl refl (ap (referred ids) r.0 ∙ r.1)

-- a variable of the catalogue is read whole, and refers to what the heap has there
pub cat-found : (c : Core) (i : ℕ) (s : SeatState) (v : ℕ) (world : World) → Taken c i s (ReadCat v) → AgreesWith c world
    → (reference_in (found c s (ReadCat v)) ≡ found c s (ReadCat v)) × (referred (words_of c.shape c.words).identities (found c s (ReadCat v)) ≡ variable_of world 0 v)
cat-found c i s v world k a =
    let w : Words = words_of c.shape c.words in
    let step : Step = ReadCat v in
    let b = and_parts (nat_lt v 32) (may_mutate s) k.ok.0 in
    let mu : Mutates c i s = mutates c i s step k b.1 in
    let hv : v < 32 = ltb-true v 32 b.0 in
    let h : 0 * 32 + v < root_count c.shape = in-place c i s step k in
    let old : found c s step ≡ slice_index w.roots (0 * 32 + v) = words-get (region_sizes c.shape) 2 c.words (0 * 32 + v) 0 h in
    let goes : nil_or (Used c) (found c s step) ≡ true = subst (λ (r : ℕ). nil_or (Used c) r ≡ true) (sym old) (k.core.sound.references.roots_in_use (0 * 32 + v) 0 (subst (λ (n : ℕ). 0 * 32 + v < n) (sym (roots-length c k.core)) h)) in
    (read-whole c i s step (found c s step) k goes, ap (referred w.identities) (old ∙ sym (cat-now c i s step v k b.1 (not-true (is_the s.section 0) k.ok.1.0) hv)) ∙ a.roots_agree 0 v (omega (arith, mu.inside)) hv)

-- 17: a variable of the catalogue
pub read-cat : (c : Core) (i : ℕ) (s : SeatState) (v : ℕ) (world : World) → Taken c i s (ReadCat v) → AgreesWith c world
    → AgreesIn c.shape (words_left c s (ReadCat v)) (seats_left c i s (ReadCat v)) (in_section world (own_section s) (with_register (variable_of world 0 v)))
read-cat c i s v world k a =
    let step : Step = ReadCat v in
    let mu : Mutates c i s = mutates c i s step k (and_parts (nat_lt v 32) (may_mutate s) k.ok.0).1 in
    let r = cat-found c i s v world k a in
    got_read c i s step world (reference_in (found c s step)) (variable_of world 0 v) k a mu (λ y e. e) refl refl (ap (referred (words_of c.shape c.words).identities) r.0 ∙ r.1)

-- a slot of the section is read whole, and refers to what the heap has there
pub slot-found : (c : Core) (i : ℕ) (s : SeatState) (j : ℕ) (world : World) → Taken c i s (ReadSlot j) → AgreesWith c world
    → (reference_in (found c s (ReadSlot j)) ≡ found c s (ReadSlot j)) × (referred (words_of c.shape c.words).identities (found c s (ReadSlot j)) ≡ variable_of world (own_section s) (32 + j))
slot-found c i s j world k a =
    let w : Words = words_of c.shape c.words in
    let step : Step = ReadSlot j in
    let b = and_parts (nat_lt j c.shape.slots) (may_mutate s) k.ok.0 in
    let mu : Mutates c i s = mutates c i s step k b.1 in
    let at : ℕ = c.shape.sections * 32 + (own_section s * c.shape.slots + j) in
    let h : at < root_count c.shape = in-place c i s step k in
    let old : found c s step ≡ slice_index w.roots at = words-get (region_sizes c.shape) 2 c.words at 0 h in
    let goes : nil_or (Used c) (found c s step) ≡ true = subst (λ (r : ℕ). nil_or (Used c) r ≡ true) (sym old) (k.core.sound.references.roots_in_use at 0 (subst (λ (n : ℕ). at < n) (sym (roots-length c k.core)) h)) in
    (read-whole c i s step (found c s step) k goes, ap (referred w.identities) (old ∙ sym (slot-now c at k.core (omega arith) (omega (arith, h, roots-length c k.core)))) ∙ a.slots_agree (own_section s) j (omega (arith, mu.own, mu.inside)) (ltb-true j c.shape.slots b.0))

-- 53: a slot of the section
pub read-slot : (c : Core) (i : ℕ) (s : SeatState) (j : ℕ) (world : World) → Taken c i s (ReadSlot j) → AgreesWith c world
    → AgreesIn c.shape (words_left c s (ReadSlot j)) (seats_left c i s (ReadSlot j)) (in_section world (own_section s) (with_register (variable_of world (own_section s) (32 + j))))
read-slot c i s j world k a =
    let step : Step = ReadSlot j in
    let mu : Mutates c i s = mutates c i s step k (and_parts (nat_lt j c.shape.slots) (may_mutate s) k.ok.0).1 in
    let r = slot-found c i s j world k a in
    got_read c i s step world (reference_in (found c s step)) (variable_of world (own_section s) (32 + j)) k a mu (λ y e. e) refl refl (ap (referred (words_of c.shape c.words).identities) r.0 ∙ r.1)

-- 54: a cell that the seat asks for
pub read-weak : (c : Core) (i : ℕ) (s : SeatState) (x : ℕ) (world : World) → Taken c i s (ReadWeak x) → AgreesWith c world
    → AgreesIn c.shape (words_left c s (ReadWeak x)) (seats_left c i s (ReadWeak x))
    (in_section world (own_section s) (with_register (referred (words_of c.shape c.words).identities (weak_reference s x (slice_index (words_of c.shape c.words).allocs (x / 64))))))
read-weak c i s x world k a =
    let w : Words = words_of c.shape c.words in
    let step : Step = ReadWeak x in
    let mu : Mutates c i s = mutates c i s step k (and_parts (nat_lt x c.shape.cells) (may_mutate s) k.ok.0).1 in
    let old : found c s step ≡ slice_index w.allocs (x / 64) = words-get (region_sizes c.shape) 4 c.words (x / 64) 0 (in-place c i s step k) in
    got_read c i s step world (weak_reference s x (found c s step)) (referred w.identities (weak_reference s x (slice_index w.allocs (x / 64)))) k a mu (λ y e. e) refl refl (ap (λ (word : ℕ). referred w.identities (weak_reference s x word)) old)
