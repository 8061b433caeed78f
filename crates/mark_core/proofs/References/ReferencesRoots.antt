-- Roots, variables and registers name cells in use after a step, unless the sweep stores allocation bits.
use Rattle.std.proofs.Common.{ℕ, ◌≡◌, ◌+◌, ◌*◌, ◌-◌, ◌<◌, ◌≤◌, List, get_or, length, arith, refl, sym, ap, ◌∙◌, subst, Bool, true, false, not, ◌||◌, eqb, Option, Some, None, ⊎_elim, set, ◌&&◌, ◌/◌, ◌%◌, cond}
use Rattle.std.specs.Prelude.{IsTrue, IsFalse, IfSome, unwrap_or, nat_lt, slice_index}
use Rattle.std.specs.List.{All, list_any}
use Rattle.std.proofs.lemmas.Bool.{true≢false, and_parts, or_cases, or_left, or_right, eqb-true, cases_Bool, ltb-true, cases_lt, eq-eqb}
use Rattle.std.proofs.lemmas.List.{get_or-map, length-map, get_or-replicate, get_or_past}
use Rattle.std.proofs.lemmas.List.Elements.{All-set, All-map}
use Rattle.std.proofs.lemmas.List.Folds.{list_any_at, list_any_none}
use Rattle.std.proofs.lemmas.Option.{slice_get_read}
use Rattle.mark_core.specs.Layout.{Words, words_of, region_sizes, root_count, address, region_base, block_count}
use Rattle.mark_core.specs.Bits.{nil_or, reference_in, cell_bit, has_bit}
use Rattle.mark_core.specs.Seats.{used_in, last_made, is_the, has_turn, is_phase, may_mutate}
use Rattle.mark_core.specs.Views.{makers, maker_of, Maker}
use Rattle.mark_core.specs.Cells.{in_use, used_by, field, AllGo}
use Rattle.mark_core.specs.Rules.WorldRules.{is_stopped_phase}
use Rattle.mark_core.specs.Rules.HeapRules.{NamesInUse, EnvIsRoots, References}
use Rattle.mark_core.specs.Steps.MutatorSteps.{has_reference, names_last, knows_cell, weak_reference, seat_variable}
use Rattle.mark_core.specs.WellFormed.{IsSeat, IsCache}
use Rattle.mark_core.specs.Effects.{written, seat_after, place}
use Rattle.mark_core.specs.Steps.{Core}
use Rattle.mark_core.proofs.Known.{HasCache, in_use-below, reference-within, all-makers, found, words_left, seats_left}
use Rattle.mark_core.proofs.Blocks.BlocksStopped.{still-stopped, Taken, within, own-record, words-read, mine as own-fact, in-place}
use Rattle.mark_core.proofs.HeldBlock.{allocs-length, roots-length}
use Rattle.mark_core.proofs.Writing.RegionWrites.{roots-kept}
use Rattle.mark_core.proofs.Used.UsedKept.{frees, used-on}
use Rattle.mark_core.proofs.World.WorldReading.{any-passes, some-passes}
use Rattle.mark_core.specs.declared.kinds.Shape.{Shape}
use Rattle.mark_core.specs.declared.kinds.Phase.TheVariants.{Sweep}
use Rattle.mark_core.specs.declared.kinds.Step.{Step}
use Rattle.mark_core.specs.declared.kinds.Step.TheVariants.{ReadRoot, ReadCat, StoreRoot, LoadSlot, StoreSlot, ReadSlot, ReadOwn, ReadWeak, HoldRoot, FlushRoot}
use Rattle.mark_core.specs.declared.seat.SeatState.{SeatState}
use Rattle.mark_core.specs.declared.seat.CacheState.{CacheState}
use Rattle.mark_core.specs.Start.{start_seat, start_words, start_seats, full_pool}
use Rattle.mark_core.proofs.Writing.Places.{words-get, region-length}
use Rattle.mark_core.proofs.Consequences.Closing.{goes-to}
use Rattle.mark_core.proofs.Writing.Frames.{names_of, names-kept}
use Rattle.mark_core.proofs.Doing.{local-kept}
use Rattle.std.proofs.lemmas.Grind.{get_or_default_zero}
use Rattle.mark_core.specs.Shapes.{IsShape}
use Rattle.mark_core.proofs.Opening.{start-length}
use Rattle.mark_core.proofs.Pool.PoolStart.{in-gap, each-seat, gap, singles, tail_words}
use Rattle.mark_core.proofs.Writing.CellBits.{no-bit}

-- the cells in use before the step, and those after it
abbrev pub Used : Core → ℕ → Bool
Used c x = in_use (words_of c.shape c.words).allocs (makers c.seats) x

abbrev pub UsedAfter : Core → ℕ → SeatState → Step → ℕ → Bool
UsedAfter c i s step x = in_use (words_left c s step).allocs (makers (seats_left c i s step)) x

-- a reference that is nil or goes to a cell with one property goes to one with another that follows
pub nil-on : (p q : ℕ → Bool) (r : ℕ) → ((x : ℕ) → p x ≡ true → q x ≡ true) → nil_or p r ≡ true → nil_or q r ≡ true
nil-on p q r f e =
    ⊎_elim
    (λ (a : eqb r 0 ≡ true). or_left (eqb r 0) (q (r - 1)) a)
    (λ (a : p (r - 1) ≡ true). or_right (eqb r 0) (q (r - 1)) (f (r - 1) a))
    (or_cases (eqb r 0) (p (r - 1)) e)

-- the reference of a cell that has the property
pub names-cell : (p : ℕ → Bool) (r : ℕ) → p (r - 1) ≡ true → nil_or p r ≡ true
names-cell p r e = or_right (eqb r 0) (p (r - 1)) e

-- the step stores a root
abbrev pub stores_root : Step → Bool
stores_root (StoreRoot v r) = true
stores_root (FlushRoot v) = true
stores_root (StoreSlot k r) = true
stores_root step = false

-- every step but the store of a root leaves the roots
pub roots-same : (c : Core) (i : ℕ) (s : SeatState) (step : Step) → Taken c i s step → stores_root step ≡ false → (words_left c s step).roots ≡ (words_of c.shape c.words).roots
roots-same c i s (ReadRoot section v) k f = ap (λ (w : Words). w.roots) (words-read c i s (ReadRoot section v) k refl)
roots-same c i s (ReadCat v) k f = ap (λ (w : Words). w.roots) (words-read c i s (ReadCat v) k refl)
roots-same c i s (StoreRoot v r) k f = absurd (true≢false f)
roots-same c i s (FlushRoot v) k f = absurd (true≢false f)
roots-same c i s (StoreSlot j r) k f = absurd (true≢false f)
roots-same c i s (LoadSlot section j) k f = ap (λ (w : Words). w.roots) (words-read c i s (LoadSlot section j) k refl)
roots-same c i s (HoldRoot v r) k f = ap (λ (w : Words). w.roots) (words-read c i s (HoldRoot v r) k refl)
roots-same c i s (ReadSlot j) k f = ap (λ (w : Words). w.roots) (words-read c i s (ReadSlot j) k refl)
roots-same c i s step k f = roots-kept c.shape s step (written c.shape s step (found c s step)) (words_of c.shape c.words) refl

last_at : (y : CacheState) (o : Option ℕ) (x : ℕ) → IfSome o (λ c. IsTrue (used_in (Some y) c)) → is_the o x ≡ true → used_in (Some y) x ≡ true
last_at y None x k e = absurd (true≢false (sym e))
last_at y (Some z) x k e = subst (λ (j : ℕ). used_in (Some y) j ≡ true) (eqb-true z x e) k

last_used : (sh : Shape) (o : Option CacheState) (x : ℕ) → IfSome o (IsCache sh) → is_the (last_made o) x ≡ true → used_in o x ≡ true
last_used sh None x k e = absurd (true≢false (sym e))
last_used sh (Some y) x k e = last_at y y.last x k.last e

-- the record of the seat is in range
pub seat-formed : (c : Core) (i : ℕ) (s : SeatState) (step : Step) → Taken c i s step → IsSeat c.shape i s
seat-formed c i s step k = k.core.formed.seats i s (slice_get_read c.seats (length c.seats) i s refl (within c i s step k) (sym (own-record c i s step s k)))

-- a cell that the seat has made is in use
pub own-used : (c : Core) (i : ℕ) (s : SeatState) (step : Step) (x : ℕ) → Taken c i s step → used_in s.cache x ≡ true → Used c x ≡ true
own-used c i s step x k e =
    let mine : get_or (makers c.seats) i (maker_of s) ≡ maker_of s = get_or-map maker_of c.seats i s (maker_of s) (within c i s step k) ∙ ap maker_of (own-record c i s step s k) in
    or_right (cell_bit (words_of c.shape c.words).allocs x) (list_any (used_by x) (makers c.seats)) (list_any_at (used_by x) (makers c.seats) i (maker_of s) (rw length-map (within c i s step k)) (ap (used_by x) mine ∙ e))

-- a variable's reference goes where the property holds
pub in-env : (env : List ℕ) (r : ℕ) (p : ℕ → Bool) → AllGo p env → list_any (λ (x : ℕ). eqb x r) env ≡ true → nil_or p r ≡ true
in-env env r p a e =
    let one = some-passes (λ (x : ℕ). eqb x r) env (any-passes (λ (x : ℕ). eqb x r) env e) in
    subst (λ (y : ℕ). nil_or p y ≡ true) (eqb-true (get_or env one.0 0) r (one.2 0)) (a one.0 0 one.1)

-- a reference that the seat has is nil or goes to a cell in use
pub has-use : (c : Core) (i : ℕ) (s : SeatState) (step : Step) (r : ℕ) → Taken c i s step → has_reference s r ≡ true → nil_or (Used c) r ≡ true
has-use c i s step r k e =
    let names : NamesInUse (words_of c.shape c.words).allocs (makers c.seats) s = own-fact c i s step (NamesInUse (words_of c.shape c.words).allocs (makers c.seats)) k k.core.sound.references.seats_in_use in
    ⊎_elim
    (λ (a : (eqb r 0 || eqb r s.got || list_any (λ (x : ℕ). eqb x r) s.env) ≡ true).
    ⊎_elim
    (λ (b : (eqb r 0 || eqb r s.got) ≡ true).
    ⊎_elim
    (λ (z : eqb r 0 ≡ true). or_left (eqb r 0) (Used c (r - 1)) z)
    (λ (z : eqb r s.got ≡ true). subst (λ (g : ℕ). nil_or (Used c) g ≡ true) (sym (eqb-true r s.got z)) names.1)
    (or_cases (eqb r 0) (eqb r s.got) b))
    (λ (b : list_any (λ (x : ℕ). eqb x r) s.env ≡ true). in-env s.env r (Used c) names.0 b)
    (or_cases (eqb r 0 || eqb r s.got) (list_any (λ (x : ℕ). eqb x r) s.env) a))
    (λ (a : names_last s.cache r ≡ true).
    let last : used_in s.cache (r - 1) ≡ true = last_used c.shape s.cache (r - 1) (seat-formed c i s step k).cache (and_parts (not (eqb r 0)) (is_the (last_made s.cache) (r - 1)) a).1 in
    names-cell (Used c) r (own-used c i s step (r - 1) k last))
    (or_cases (eqb r 0 || eqb r s.got || list_any (λ (x : ℕ). eqb x r) s.env) (names_last s.cache r) e)

roots_stay : (c : Core) (i : ℕ) (s : SeatState) (step : Step) → Taken c i s step → frees step ≡ false → (words_left c s step).roots ≡ (words_of c.shape c.words).roots → AllGo (UsedAfter c i s step) (words_left c s step).roots
roots_stay c i s step k f e =
    subst (λ (rs : List ℕ). AllGo (UsedAfter c i s step) rs) (sym e)
    (λ j d h. nil-on (Used c) (UsedAfter c i s step) (get_or (words_of c.shape c.words).roots j d) (λ x u. used-on c i s step x k f u) (k.core.sound.references.roots_in_use j d h))

section_there : (o z : Option ℕ) → has_turn o z ≡ true → (w : ℕ) × (o ≡ Some w)
section_there None z e = absurd (true≢false (sym e))
section_there (Some w) z e = (w, refl)

sweep_stops : (phase : ℕ) → is_phase phase Sweep ≡ true → is_stopped_phase phase ≡ true
sweep_stops phase e = rw (eqb-true phase 3 e) refl

-- a mutator is outside the sweep
pub not-sweep : (c : Core) (i : ℕ) (s : SeatState) (step : Step) → Taken c i s step → s.active ≡ true → is_phase (words_of c.shape c.words).phase Sweep ≡ false
not-sweep c i s step k a =
    ⊎_elim
    (λ (e : is_phase (words_of c.shape c.words).phase Sweep ≡ true). absurd (true≢false (sym a ∙ own-fact c i s step (λ (t : SeatState). IsFalse t.active) k (still-stopped c k.core (sweep_stops (words_of c.shape c.words).phase e)))))
    (λ (e : is_phase (words_of c.shape c.words).phase Sweep ≡ false). e)
    (cases_Bool (is_phase (words_of c.shape c.words).phase Sweep))

-- a reference that the seat has is stored in a root
root_used : (c : Core) (i : ℕ) (s : SeatState) (step : Step) (at r : ℕ) → Taken c i s step → frees step ≡ false → has_reference s r ≡ true → AllGo (UsedAfter c i s step) (set (words_of c.shape c.words).roots at r)
root_used c i s step at r k f e =
    let on : (x : ℕ) → Used c x ≡ true → UsedAfter c i s step x ≡ true = λ x u. used-on c i s step x k f u in
    let Goes : ℕ → Type 0 = λ y. IsTrue (nil_or (UsedAfter c i s step) y) in
    let before : All Goes (words_of c.shape c.words).roots = λ j d h. nil-on (Used c) (UsedAfter c i s step) (get_or (words_of c.shape c.words).roots j d) on (k.core.sound.references.roots_in_use j d h) in
    All-set Goes (words_of c.shape c.words).roots at r (nil-on (Used c) (UsedAfter c i s step) r on (has-use c i s step r k e)) before

-- a variable is a reference that the seat has
pub has-variable : (s : SeatState) (v : ℕ) → v < length s.env → has_reference s (seat_variable s v) ≡ true
has-variable s v h =
    let r : ℕ = seat_variable s v in
    or_left (eqb r 0 || eqb r s.got || list_any (λ (x : ℕ). eqb x r) s.env) (names_last s.cache r)
    (or_right (eqb r 0 || eqb r s.got) (list_any (λ (x : ℕ). eqb x r) s.env) (list_any_at (λ (x : ℕ). eqb x r) s.env v 0 h (eq-eqb r r refl)))

-- the cells that roots name are in use after the step
pub roots-used : (c : Core) (i : ℕ) (s : SeatState) (step : Step) → Taken c i s step → frees step ≡ false → AllGo (UsedAfter c i s step) (words_left c s step).roots
roots-used c i s (StoreRoot v r) k f = root_used c i s (StoreRoot v r) (unwrap_or s.section 0 * 32 + v) r k f k.ok.1.0
roots-used c i s (FlushRoot v) k f =
    let h : v < length s.env = omega (arith, ltb-true v 32 (and_parts (nat_lt v 32) (may_mutate s) k.ok.0).0, (seat-formed c i s (FlushRoot v) k).env) in
    root_used c i s (FlushRoot v) (unwrap_or s.section 0 * 32 + v) (seat_variable s v) k f (has-variable s v h)
roots-used c i s (StoreSlot j r) k f = root_used c i s (StoreSlot j r) (c.shape.sections * 32 + (unwrap_or s.section 0 * c.shape.slots + j)) r k f k.ok.1.0
roots-used c i s step k f = roots_stay c i s step k f (roots-same c i s step k refl)

-- a reference to a cell in use is at most the number of cells, and so is read whole
pub read-whole : (c : Core) (i : ℕ) (s : SeatState) (step : Step) (r : ℕ) → Taken c i s step → nil_or (Used c) r ≡ true → reference_in r ≡ r
read-whole c i s step r k e =
    let caches : All (HasCache c.shape) (makers c.seats) = all-makers c.shape c.seats (λ j t g. (k.core.formed.seats j t g).cache) in
    let below : r ≤ c.shape.cells = reference-within c.shape (Used c) r (λ x u. in_use-below c.shape (words_of c.shape c.words).allocs (makers c.seats) x k.core.formed.shaped (allocs-length c k.core) caches u) e in
    omega (arith, below, k.core.formed.shaped.cells)

-- a mutator is active, and has a section
pub mutator-is : (s : SeatState) → may_mutate s ≡ true → (s.active ≡ true) × ((w : ℕ) × (s.section ≡ Some w))
mutator-is s e = let a = and_parts s.active (has_turn s.section s.season_seen) e in (a.0, section_there s.section s.season_seen a.1)

-- outside the sweep a field of a cell in use names a cell in use; a mutator is outside it
pub read-field : (c : Core) (i : ℕ) (s : SeatState) (step : Step) (x j : ℕ) → Taken c i s step → s.active ≡ true → x < c.shape.cells → Used c x ≡ true → j < c.shape.fields → nil_or (Used c) (field c.shape (words_of c.shape c.words).fields x j) ≡ true
read-field c i s step x j k a h u l = k.core.sound.references.fields_in_use (not-sweep c i s step k a) x h u j l

-- Variables and registers name cells in use after a step, and the variables are the roots of their section, unless the sweep stores allocation bits.
-- a seat whose variables and register are nil or go where the property holds
abbrev Goes : (ℕ → Bool) → List ℕ × ℕ → Type 0
Goes p n = AllGo p n.0 × IsTrue (nil_or p n.1)

goes_on : (p q : ℕ → Bool) (n : List ℕ × ℕ) → ((x : ℕ) → p x ≡ true → q x ≡ true) → Goes p n → Goes q n
goes_on p q n f g = ((λ j d h. nil-on p q (get_or n.0 j d) f (g.0 j d h)), nil-on p q n.1 f g.1)

-- a seat that has done nothing names nothing
pub new-names : (p : ℕ → Bool) (sh : Shape) (k : ℕ) → Goes p ((start_seat sh k).env, 0)
new-names p sh k = ((λ j d h. ap (nil_or p) (get_or-replicate 32 j 0 d (omega (arith, h)))), refl)

-- what the seat names
own_names : (c : Core) (i : ℕ) (s : SeatState) (step : Step) → Taken c i s step → Goes (Used c) (names_of s)
own_names c i s step k = own-fact c i s step (NamesInUse (words_of c.shape c.words).allocs (makers c.seats)) k k.core.sound.references.seats_in_use

-- a cell that the seat knows is in use
pub known-used : (c : Core) (i : ℕ) (s : SeatState) (step : Step) (x : ℕ) → Taken c i s step → knows_cell s x ≡ true → Used c x ≡ true
known-used c i s step x k e =
    let n = own_names c i s step k in
    ⊎_elim
    (λ (a : eqb s.got (x + 1) ≡ true). goes-to (Used c) s.got x (eqb-true s.got (x + 1) a) n.1)
    (λ (a : list_any (λ (y : ℕ). eqb y (x + 1)) s.env ≡ true). goes-to (Used c) (x + 1) x refl (in-env s.env (x + 1) (Used c) n.0 a))
    (or_cases (eqb s.got (x + 1)) (list_any (λ (y : ℕ). eqb y (x + 1)) s.env) e)

-- a root is read into the register
root_read : (c : Core) (i : ℕ) (s : SeatState) (step : Step) (at : ℕ) → Taken c i s step → at < root_count c.shape → place c.shape s step ≡ (2, at) → Goes (Used c) (s.env, reference_in (found c s step))
root_read c i s step at k h p =
    let w : Words = words_of c.shape c.words in
    let old : found c s step ≡ get_or w.roots at 0 = ap (λ (x : ℕ × ℕ). get_or c.words (address c.shape x) 0) p ∙ words-get (region_sizes c.shape) 2 c.words at 0 h in
    let e : nil_or (Used c) (found c s step) ≡ true = subst (λ (r : ℕ). nil_or (Used c) r ≡ true) (sym old) (k.core.sound.references.roots_in_use at 0 (subst (λ (n : ℕ). at < n) (sym (roots-length c k.core)) h)) in
    ((own_names c i s step k).0, subst (λ (r : ℕ). nil_or (Used c) r ≡ true) (sym (read-whole c i s step (found c s step) k e)) e)

-- the allocation bit that the seat finds is the cell's
pub weak-bit : (c : Core) (i : ℕ) (s : SeatState) (x : ℕ) → Taken c i s (ReadWeak x) → has_bit (found c s (ReadWeak x)) (x % 64) ≡ cell_bit (words_of c.shape c.words).allocs x
weak-bit c i s x k = ap (λ (word : ℕ). has_bit word (x % 64)) (words-get (region_sizes c.shape) 4 c.words (x / 64) 0 (in-place c i s (ReadWeak x) k))

-- a cell whose bit is set, or that the seat made, is in use
weak_used : (c : Core) (i : ℕ) (s : SeatState) (x : ℕ) → Taken c i s (ReadWeak x) → (has_bit (found c s (ReadWeak x)) (x % 64) || used_in s.cache x) ≡ true → Used c x ≡ true
weak_used c i s x k e =
    ⊎_elim
    (λ (a : has_bit (found c s (ReadWeak x)) (x % 64) ≡ true). or_left (cell_bit (words_of c.shape c.words).allocs x) (list_any (used_by x) (makers c.seats)) (sym (weak-bit c i s x k) ∙ a))
    (λ (a : used_in s.cache x ≡ true). own-used c i s (ReadWeak x) x k a)
    (or_cases (has_bit (found c s (ReadWeak x)) (x % 64)) (used_in s.cache x) e)

-- a reference to a cell in use, or nil
chosen_goes : (p : ℕ → Bool) (b : Bool) (r x : ℕ) → r ≡ x + 1 → (b ≡ true → p x ≡ true) → nil_or p (cond b r 0) ≡ true
chosen_goes p true r x e f = names-cell p r (subst (λ (y : ℕ). p y ≡ true) (omega (arith, e)) (f refl))
chosen_goes p false r x e f = refl

weak_goes : (c : Core) (i : ℕ) (s : SeatState) (x : ℕ) → Taken c i s (ReadWeak x) → nil_or (Used c) (weak_reference s x (found c s (ReadWeak x))) ≡ true
weak_goes c i s x k =
    let h : x < c.shape.cells = ltb-true x c.shape.cells (and_parts _ _ k.ok.0).0 in
    chosen_goes (Used c) (has_bit (found c s (ReadWeak x)) (x % 64) || used_in s.cache x) (reference_in (x + 1)) x (omega (arith, h, k.core.formed.shaped.cells)) (weak_used c i s x k)

-- what the seat names before, by the record that it has afterwards
names_then : (c : Core) (i : ℕ) (s : SeatState) (step : Step) → Taken c i s step → Goes (Used c) (names_of (seat_after c.shape s step (found c s step)))
names_then c i s (ReadOwn x j) k =
    let w : Words = words_of c.shape c.words in
    let step : Step = ReadOwn x j in
    let a = and_parts (nat_lt x c.shape.cells && nat_lt j c.shape.fields) (may_mutate s) k.ok.0 in
    let b = and_parts (nat_lt x c.shape.cells) (nat_lt j c.shape.fields) a.0 in
    let old : found c s step ≡ field c.shape w.fields x j = words-get (region_sizes c.shape) 11 c.words (x * c.shape.fields + j) 0 (in-place c i s step k) in
    let e : nil_or (Used c) (found c s step) ≡ true =
    subst (λ (r : ℕ). nil_or (Used c) r ≡ true) (sym old) (read-field c i s step x j k (mutator-is s a.1).0 (ltb-true x c.shape.cells b.0) (known-used c i s step x k k.ok.1.0) (ltb-true j c.shape.fields b.1)) in
    ((own_names c i s step k).0, subst (λ (r : ℕ). nil_or (Used c) r ≡ true) (sym (read-whole c i s step (found c s step) k e)) e)
names_then c i s (ReadCat v) k = root_read c i s (ReadCat v) (0 * 32 + v) k (in-place c i s (ReadCat v) k) refl
names_then c i s (ReadSlot j) k = root_read c i s (ReadSlot j) (c.shape.sections * 32 + (unwrap_or s.section 0 * c.shape.slots + j)) k (in-place c i s (ReadSlot j) k) refl
names_then c i s (StoreSlot j r) k = ((own_names c i s (StoreSlot j r) k).0, refl)
names_then c i s (ReadWeak x) k = ((own_names c i s (ReadWeak x) k).0, weak_goes c i s x k)
names_then c i s (StoreRoot v r) k =
    let e : nil_or (Used c) r ≡ true = has-use c i s (StoreRoot v r) r k k.ok.1.0 in
    let whole : nil_or (Used c) (reference_in r) ≡ true = subst (λ (y : ℕ). nil_or (Used c) y ≡ true) (sym (read-whole c i s (StoreRoot v r) r k e)) e in
    (All-set (λ (y : ℕ). IsTrue (nil_or (Used c) y)) s.env v (reference_in r) whole (own_names c i s (StoreRoot v r) k).0, refl)
names_then c i s (HoldRoot v r) k =
    let e : nil_or (Used c) r ≡ true = has-use c i s (HoldRoot v r) r k k.ok.1.0 in
    let whole : nil_or (Used c) (reference_in r) ≡ true = subst (λ (y : ℕ). nil_or (Used c) y ≡ true) (sym (read-whole c i s (HoldRoot v r) r k e)) e in
    (All-set (λ (y : ℕ). IsTrue (nil_or (Used c) y)) s.env v (reference_in r) whole (own_names c i s (HoldRoot v r) k).0, refl)
names_then c i s step k = subst (Goes (Used c)) (sym (names-kept c.shape s step (found c s step) refl)) (own_names c i s step k)

-- what each seat names is in use after the step
pub names-used : (c : Core) (i : ℕ) (s : SeatState) (step : Step) → Taken c i s step → frees step ≡ false → All (NamesInUse (words_left c s step).allocs (makers (seats_left c i s step))) (seats_left c i s step)
names-used c i s step k f =
    let P : SeatState → Type 0 = λ t. Goes (UsedAfter c i s step) (names_of t) in
    let on : (x : ℕ) → Used c x ≡ true → UsedAfter c i s step x ≡ true = λ x e. used-on c i s step x k f e in
    local-kept P c.shape step c.seats i (seat_after c.shape s step (found c s step)) (new-names (UsedAfter c i s step) c.shape) (new-names (UsedAfter c i s step) c.shape)
    (λ j d h. goes_on (Used c) (UsedAfter c i s step) (names_of (get_or c.seats j d)) on (k.core.sound.references.seats_in_use j d h))
    (goes_on (Used c) (UsedAfter c i s step) (names_of (seat_after c.shape s step (found c s step))) on (names_then c i s step k))

-- The state in which nothing has happened meets the rule of references.
roots_end : (sh : Shape) (k : ℕ) → root_count sh ≤ k → length (words_of sh (start_words sh)).roots ≤ k
roots_end sh k h = omega (arith, h, region-length (region_sizes sh) 2 (start_words sh) (omega (arith, start-length sh)))

-- every root is nil
pub no-root : (sh : Shape) (k : ℕ) → slice_index (words_of sh (start_words sh)).roots k ≡ 0
no-root sh k =
    ⊎_elim
    (λ (h : k < root_count sh).
    sym (words-get (region_sizes sh) 2 (start_words sh) k 0 h) ∙ in-gap (singles sh) (full_pool sh) (tail_words sh) 11 (gap sh) (region_base (region_sizes sh) 2 + k) refl (omega arith) (omega (arith, h)))
    (λ (h : root_count sh ≤ k). get_or_past (words_of sh (start_words sh)).roots k 0 (roots_end sh k h))
    (cases_lt k (root_count sh))

-- no cell is published
pub unpublished : (sh : Shape) → IsShape sh → (x : ℕ) → x < sh.cells → cell_bit (words_of sh (start_words sh)).allocs x ≡ false
unpublished sh z x h =
    let hb : x / 64 < block_count sh = omega (arith, h, z.whole_blocks) in
    let word : slice_index (words_of sh (start_words sh)).allocs (x / 64) ≡ 0 =
    sym (words-get (region_sizes sh) 4 (start_words sh) (x / 64) 0 hb) ∙ in-gap (singles sh) (full_pool sh) (tail_words sh) 11 (gap sh) (region_base (region_sizes sh) 4 + x / 64) refl (omega arith) (omega (arith, hb)) in
    ap (λ (w : ℕ). has_bit w (x % 64)) word ∙ no-bit (x % 64)

-- no cell is in use
pub none-used : (sh : Shape) (n : ℕ) → IsShape sh → (x : ℕ) → x < sh.cells → in_use (words_of sh (start_words sh)).allocs (makers (start_seats sh n)) x ≡ false
none-used sh n z x h =
    let none : list_any (used_by x) (makers (start_seats sh n)) ≡ false =
    list_any_none (used_by x) (makers (start_seats sh n)) (All-map (λ (m : Maker). used_by x m ≡ false) maker_of (start_seats sh n) (each-seat (λ (s : SeatState). used_by x (maker_of s) ≡ false) sh n (λ k. refl))) in
    rw (unpublished sh z x h, none) refl

start_env : (sh : Shape) (k : ℕ) (b : Bool) → IfSome (cond b (Some k) None) (λ w. (v : ℕ) → v < 32 → IsFalse (has_bit 0 v) → slice_index (start_seat sh k).env v ≡ slice_index (words_of sh (start_words sh)).roots (w * 32 + v))
start_env sh k true = λ v h b. get_or-replicate 32 v 0 0 h ∙ sym (no-root sh (k * 32 + v))
start_env sh k false = tt

pub references-starts : (sh : Shape) (n : ℕ) → IsShape sh
    → References sh (words_of sh (start_words sh)).phase (words_of sh (start_words sh)).roots (words_of sh (start_words sh)).allocs (words_of sh (start_words sh)).fields (makers (start_seats sh n)) (start_seats sh n)
references-starts sh n z =
    let w : Words = words_of sh (start_words sh) in
    let p : ℕ → Bool = in_use w.allocs (makers (start_seats sh n)) in
    record {
      roots_in_use = λ j d h. ap (nil_or p) (get_or_default_zero w.roots j d h ∙ no-root sh j);
      seats_in_use = each-seat (λ (s : SeatState). NamesInUse w.allocs (makers (start_seats sh n)) s) sh n (λ k. new-names p sh k);
      env_is_roots = each-seat (λ (s : SeatState). EnvIsRoots w.roots s) sh n (λ k e. start_env sh k (nat_lt k sh.sections));
      unseated_nil = λ k h l. no-root sh k;
      unseated_slots_nil = λ k h. no-root sh (sh.sections * 32 + k);
      fields_in_use = λ e x h u. absurd (true≢false (sym u ∙ none-used sh n z x h));
    }
