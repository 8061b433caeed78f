-- Each event that is allowed, and meets what is asked besides, leads to a state that stands for the plain heaps after it.
use Rattle.mark_core.specs.Variables.{roots_now}
use Rattle.std.proofs.Common.{ℕ, ◌≡◌, ◌+◌, ◌*◌, ◌<◌, List, length, refl, sym, subst, Bool, true, false, cond, Option, Some, None, ◌⊎◌, inl, inr, ◌≤◌, [], ◌∷◌, ◌++◌, set, arith, ⊎_elim, ◌∙◌, eqb, ap}
use Rattle.std.specs.Prelude.{IsFalse, IfSome, slice_index, IsTrue, slice_get}
use Rattle.std.proofs.lemmas.Bool.{false≢true, true≢false, and_parts}
use Rattle.mark_core.specs.Bits.{flag}
use Rattle.mark_core.specs.Seats.{has_making, makes, last_made}
use Rattle.mark_core.specs.Steps.MutatorSteps.{with_free, without_used}
use Rattle.mark_core.specs.declared.kinds.Shape.{Shape}
use Rattle.mark_core.specs.declared.seat.SeatState.{SeatState}
use Rattle.mark_core.specs.declared.seat.CacheState.{CacheState}
use Rattle.gc_table.specs.StandsFor.{WordAgrees, SeatStands, object_count, Stands, StandsIn, StandsFor}
use Rattle.gc_table.specs.declared.view.Meaning.{Meaning}
use Rattle.std.proofs.lemmas.List.{length-set, length-append}
use Rattle.mark_core.specs.Layout.{Words, words_of, put_word}
use Rattle.mark_core.specs.Start.{start_seat, spent_seat}
use Rattle.mark_core.specs.Effects.{seat_after, written}
use Rattle.mark_core.specs.Steps.{Core}
use Rattle.mark_core.proofs.Known.{found, words_left, seats_left}
use Rattle.mark_core.proofs.Blocks.BlocksStopped.{Taken, kept-after, words-read}
use Rattle.mark_core.proofs.Formed.FormedLearns.{set-cases, push-cases}
use Rattle.mark_core.proofs.References.ReferencesRoots.{Used, UsedAfter}
use Rattle.mark_core.proofs.References.ReferencesNow.{assigns_root, now-left, the-roots}
use Rattle.mark_core.proofs.Used.UsedSeats.{IsMadeBy}
use Rattle.mark_core.proofs.Used.UsedKept.{used-back}
use Rattle.mark_core.specs.declared.kinds.Step.{Step}
use Rattle.mark_core.specs.declared.kinds.Step.TheVariants.{Split, Join, ReadOwn, ReadCat, StoreField, StoreValue, StoreRoot, ClaimBlock, ReleaseBlock, ReadFree, StoreNew, PublishCells, ExchangeField, ExchangeValue, StoreSlot, ReadSlot, ReadField, ReadValue, ReadIdent, Reset, AddStat, ReadStat, ReadWeak, HoldRoot}
use Rattle.gc_table.proofs.Stands.StandsFrame.{stands-same}
use Rattle.std.proofs.lemmas.Option.{same_Some}
use Rattle.plain_heap.specs.declared.operation.Op.{Op}
use Rattle.gc_table.specs.PlainSteps.{meanings_after, AsksIn}
use Rattle.gc_table.specs.Laws.{EventsKeepStands}
use Rattle.gc_table.proofs.Stands.StandsNew.{store-new}
use Rattle.gc_table.proofs.Stands.StandsReads.{read-own, read-cat, read-slot}
use Rattle.gc_table.proofs.Stands.StandsRoots.{store-root, hold-root}
use Rattle.gc_table.proofs.Stands.StandsStores.{store-field, store-value}
use Rattle.mark_core.proofs.Writing.RegionWrites.{identities-kept, fields-kept}
use Rattle.mark_core.proofs.Writing.Writes.{at_counter}
use Rattle.mark_core.specs.Cells.{IsReachableCell}
use Rattle.mark_core.specs.Closed.{IsReachableIn}

-- Which steps change the identities, values and fields of cells.
-- the step stores a word of an object or of a new cell
abbrev pub stores_cell : Step → Bool
stores_cell (StoreField v i w) = true
stores_cell (StoreValue v n) = true
stores_cell (ExchangeField v i x y) = true
stores_cell (ExchangeValue v m n) = true
stores_cell (StoreNew c part word) = true
stores_cell step = false

-- every other step leaves the identities
pub identities-same : (c : Core) (i : ℕ) (s : SeatState) (step : Step) → Taken c i s step → stores_cell step ≡ false → (words_left c s step).identities ≡ (words_of c.shape c.words).identities
identities-same c i s (ReadIdent x) k e = ap (λ (w : Words). w.identities) (words-read c i s (ReadIdent x) k refl)
identities-same c i s (StoreNew x part word) k e = absurd (true≢false e)
identities-same c i s step k e = identities-kept c.shape s step (written c.shape s step (found c s step)) (words_of c.shape c.words) refl

-- a step that stores in no cell leaves the fields
pub fields-same : (c : Core) (i : ℕ) (s : SeatState) (step : Step) → Taken c i s step → stores_cell step ≡ false → (words_left c s step).fields ≡ (words_of c.shape c.words).fields
fields-same c i s (ReadField x j) k e = ap (λ (w : Words). w.fields) (words-read c i s (ReadField x j) k refl)
fields-same c i s (ReadOwn x j) k e = ap (λ (w : Words). w.fields) (words-read c i s (ReadOwn x j) k refl)
fields-same c i s (StoreField v j o) k e = absurd (true≢false e)
fields-same c i s (ExchangeField v j y o) k e = absurd (true≢false e)
fields-same c i s (StoreNew x part word) k e = absurd (true≢false e)
fields-same c i s step k e = fields-kept c.shape s step (written c.shape s step (found c s step)) (words_of c.shape c.words) refl

-- a step that stores in no cell leaves the values
pub values-same : (c : Core) (i : ℕ) (s : SeatState) (step : Step) → Taken c i s step → stores_cell step ≡ false → (words_left c s step).values ≡ (words_of c.shape c.words).values
values-same c i s (ReadValue x) k e = ap (λ (w : Words). w.values) (words-read c i s (ReadValue x) k refl)
values-same c i s (StoreValue v n) k e = absurd (true≢false e)
values-same c i s (ExchangeValue v m n) k e = absurd (true≢false e)
values-same c i s (StoreNew x part word) k e = absurd (true≢false e)
values-same c i s (Reset which) k e =
    let w : Words = words_of c.shape c.words in at_counter (λ at. (put_word at (written c.shape s (Reset which) (found c s (Reset which))) w).values ≡ w.values) which (λ i h. refl) (λ i. refl)
values-same c i s (AddStat which by down) k e =
    let w : Words = words_of c.shape c.words in
    at_counter (λ at. (put_word at (written c.shape s (AddStat which by down) (found c s (AddStat which by down))) w).values ≡ w.values) which (λ i h. refl) (λ i. refl)
values-same c i s (ReadStat which) k e =
    let w : Words = words_of c.shape c.words in at_counter (λ at. (put_word at (written c.shape s (ReadStat which) (found c s (ReadStat which))) w).values ≡ w.values) which (λ i h. refl) (λ i. refl)
values-same c i s step k e = refl

-- What a seat has at hand after the steps that leave the words of cells.
-- a cache in which nothing further is made
pub record MakesNoMore (o o' : Option CacheState) : Type 0 where
  pub makes : (c part : ℕ) → makes o' c part ≡ true → makes o c part ≡ true
  pub making : has_making o ≡ false → has_making o' ≡ false
  pub last : (last_made o' ≡ last_made o) ⊎ (last_made o' ≡ None)

pub same-making : (o : Option CacheState) → MakesNoMore o o
same-making o = record { makes = λ c part e. e; making = λ e. e; last = inl refl }

pub none-making : (o : Option CacheState) → MakesNoMore o None
none-making o = record { makes = λ c part e. absurd (false≢true e); making = λ e. refl; last = inr refl }

pub free-making : (o : Option CacheState) (word : ℕ) → MakesNoMore o (with_free o word)
free-making None word = same-making None
free-making (Some x) word = record { makes = λ c part e. e; making = λ e. e; last = inl refl }

pub published-making : (o : Option CacheState) → MakesNoMore o (without_used o)
published-making None = same-making None
published-making (Some x) = record { makes = λ c part e. e; making = λ e. e; last = inr refl }

pub claimed-making : (t : Bool) (b : ℕ) (o : Option CacheState) → MakesNoMore o (cond t (Some (record { block = b; unread = true; free = 0; used = 0; making = None; last = None })) o)
claimed-making true b o = record { makes = λ c part e. absurd (false≢true e); making = λ e. refl; last = inr refl }
claimed-making false b o = same-making o

last_less : (ids : List ℕ) (w made : ℕ) (o o' : Option ℕ) → (o' ≡ o) ⊎ (o' ≡ None) → IfSome o (λ c. (slice_index ids c + 1 ≡ w * flag + made) × (0 < made)) → IfSome o' (λ c. (slice_index ids c + 1 ≡ w * flag + made) × (0 < made))
last_less ids w made o o' (inl e) h = subst (λ (x : Option ℕ). IfSome x (λ c. (slice_index ids c + 1 ≡ w * flag + made) × (0 < made))) (sym e) h
last_less ids w made o o' (inr e) h = subst (λ (x : Option ℕ). IfSome x (λ c. (slice_index ids c + 1 ≡ w * flag + made) × (0 < made))) (sym e) tt

made_less : (n made : ℕ) (o o' : Option CacheState) → (has_making o ≡ false → has_making o' ≡ false) → (n ≡ made) ⊎ ((n + 1 ≡ made) × IsFalse (has_making o)) → (n ≡ made) ⊎ ((n + 1 ≡ made) × IsFalse (has_making o'))
made_less n made o o' f (inl e) = inl e
made_less n made o o' f (inr e) = inr (e.0, f e.1)

-- a seat whose record is the same but for its cache, in which nothing further is made
pub seat-less : (sh : Shape) (ids values : List ℕ) (p : ℕ → ℕ) (w : ℕ) (s t : SeatState) (m : Meaning) → t.got ≡ s.got → t.made ≡ s.made → MakesNoMore s.cache t.cache → SeatStands sh ids values p w s m → SeatStands sh ids values p w t m
seat-less sh ids values p w s t m got made less k =
    record {
      got = subst (λ (g : ℕ). WordAgrees ids p w g m.got) (sym got) k.got;
      made = subst (λ (n : ℕ). (length m.heap.objects ≡ n) ⊎ ((length m.heap.objects + 1 ≡ n) × IsFalse (has_making t.cache))) (sym made) (made_less (length m.heap.objects) s.made s.cache t.cache less.making k.made);
      making = λ c part e l. k.making c part (less.makes c part e) l;
      last = subst (λ (n : ℕ). IfSome (last_made t.cache) (λ c. (slice_index ids c + 1 ≡ w * flag + n) × (0 < n))) (sym made) (last_less ids w s.made (last_made s.cache) (last_made t.cache) less.last k.last);
    }

-- The steps that leave what words stand for: those that store no word of a cell and no root, and that read nothing into the register.
-- what the seat that acts has at hand before
pub own-stands : (c : Core) (i : ℕ) (s : SeatState) (step : Step) (ms : List Meaning) → Taken c i s step → StandsFor c ms → (m : Meaning) → slice_get ms i ≡ Some m → SeatStands c.shape (words_of c.shape c.words).identities (words_of c.shape c.words).values (object_count ms) i s m
own-stands c i s step ms k st m g = st.seats_agree i s m k.got g k.live

-- what each seat has at hand, in the words and meanings before the step
abbrev pub EachStands : Core → List SeatState → List Meaning → Type 0
EachStands c seats ms =
    (w : ℕ) (s : SeatState) (m : Meaning) → slice_get seats w ≡ Some s → slice_get ms w ≡ Some m → IsFalse s.spent → SeatStands c.shape (words_of c.shape c.words).identities (words_of c.shape c.words).values (object_count ms) w s m

-- no cell comes into use, and the words stay
pub still : (c : Core) (i : ℕ) (s : SeatState) (step : Step) (ms : List Meaning) → Taken c i s step → StandsFor c ms → assigns_root step ≡ false → stores_cell step ≡ false → ((x : ℕ) → IsMadeBy c.shape step x → ⊥) → length c.seats ≤ length (seats_left c i s step)
    → EachStands c (seats_left c i s step) ms → StandsIn c.shape (words_left c s step) (seats_left c i s step) ms
still c i s step ms k st r f none longer each =
    let w : Words = words_of c.shape c.words in
    let used : ℕ → Type 0 = λ x. IsTrue (Used c x) in
    let after : ℕ → Type 0 = λ x. IsTrue (UsedAfter c i s step x) in
    let seats : List SeatState = seats_left c i s step in
    let same : Stands c.shape (the-roots c) w.identities w.values w.fields after seats ms =
    stands-same c.shape (the-roots c) w.identities w.values w.fields used after c.seats seats ms (λ x h u. ⊎_elim (λ (a : Used c x ≡ true). a) (λ (a : IsMadeBy c.shape step x). absurd (none x a)) (used-back c i s step x k u)) each longer st in
    subst (λ (rs : List ℕ). Stands c.shape rs (words_left c s step).identities (words_left c s step).values (words_left c s step).fields after seats ms) (sym (now-left c i s step k r))
    (subst (λ (ids : List ℕ). Stands c.shape (the-roots c) ids (words_left c s step).values (words_left c s step).fields after seats ms) (sym (identities-same c i s step k f))
    (subst (λ (vs : List ℕ). Stands c.shape (the-roots c) w.identities vs (words_left c s step).fields after seats ms) (sym (values-same c i s step k f))
    (subst (λ (fs : List ℕ). Stands c.shape (the-roots c) w.identities w.values fs after seats ms) (sym (fields-same c i s step k f)) same)))

-- each seat when one record changed
pub each-but : (c : Core) (i : ℕ) (t : SeatState) (seats : List SeatState) (ms : List Meaning) → ((m : Meaning) → slice_get ms i ≡ Some m → IsFalse t.spent → SeatStands c.shape (words_of c.shape c.words).identities (words_of c.shape c.words).values (object_count ms) i t m)
    → EachStands c seats ms → EachStands c (set seats i t) ms
each-but c i t seats ms own each w s m f g live = of (set-cases seats i w t s f)
  where
    P : ℕ → SeatState → Type 0
    P j a = SeatStands c.shape (words_of c.shape c.words).identities (words_of c.shape c.words).values (object_count ms) j a m

    of : ((w ≡ i) × (t ≡ s)) ⊎ (slice_get seats w ≡ Some s) → P w s
    of (inl e) = subst (λ (j : ℕ). P j s) (sym e.0) (subst (λ (a : SeatState). IsFalse a.spent → P i a) e.1 (own m (subst (λ (j : ℕ). slice_get ms j ≡ Some m) e.0 g)) live)
    of (inr e) = each w s m e g live

-- a step of a seat that gets nothing and makes nothing further
pub still-seat : (c : Core) (i : ℕ) (s : SeatState) (step : Step) (ms : List Meaning) → Taken c i s step → StandsFor c ms → assigns_root step ≡ false → stores_cell step ≡ false → ((x : ℕ) → IsMadeBy c.shape step x → ⊥)
    → seats_left c i s step ≡ set c.seats i (seat_after c.shape s step (found c s step)) → (seat_after c.shape s step (found c s step)).got ≡ s.got → (seat_after c.shape s step (found c s step)).made ≡ s.made
    → MakesNoMore s.cache (seat_after c.shape s step (found c s step)).cache → StandsIn c.shape (words_left c s step) (seats_left c i s step) ms
still-seat c i s step ms k st r f none is got made less =
    let t : SeatState = seat_after c.shape s step (found c s step) in
    let w : Words = words_of c.shape c.words in
    still c i s step ms k st r f none (subst (λ (ss : List SeatState). length c.seats ≤ length ss) (sym is) (omega (arith, length-set c.seats i t)))
    (subst (λ (ss : List SeatState). EachStands c ss ms) (sym is)
    (each-but c i t c.seats ms (λ m g live. seat-less c.shape w.identities w.values (object_count ms) i s t m got made less (own-stands c i s step ms k st m g)) st.seats_agree))

-- 31: a further seat, whose section has done nothing
pub still-split : (c : Core) (i : ℕ) (s : SeatState) (ms : List Meaning) → Taken c i s Split → StandsFor c ms → StandsIn c.shape (words_left c s Split) (seats_left c i s Split) ms
still-split c i s ms k st = still c i s Split ms k st refl refl (λ x e. e) (rw (length-append, length-set) (omega arith)) each
  where
    n : ℕ
    n = length (set c.seats i s)

    new : SeatState
    new = start_seat c.shape n

    fresh : (w : ℕ) (m : Meaning) → w ≡ n → slice_get ms w ≡ Some m → SeatStands c.shape (words_of c.shape c.words).identities (words_of c.shape c.words).values (object_count ms) w new m
    fresh w m e g =
        let nothing = st.unseated w m (omega (arith, e, length-set c.seats i s)) g in record {
          got = inl (refl, nothing.0);
          made = inl nothing.1;
          making = λ x part f l. absurd (true≢false (sym f));
          last = tt;
        }

    before : EachStands c (set c.seats i s) ms
    before = each-but c i s c.seats ms (λ m g live. own-stands c i s Split ms k st m g) st.seats_agree

    each : EachStands c (set c.seats i s ++ new ∷ []) ms
    each w t m f g live = of (push-cases (set c.seats i s) w new t f)
      where
        of : ((w ≡ n) × (new ≡ t)) ⊎ (slice_get (set c.seats i s) w ≡ Some t) → SeatStands c.shape (words_of c.shape c.words).identities (words_of c.shape c.words).values (object_count ms) w t m
        of (inl e) = subst (λ (a : SeatState). SeatStands c.shape (words_of c.shape c.words).identities (words_of c.shape c.words).values (object_count ms) w a m) e.1 (fresh w m e.0 g)
        of (inr e) = before w t m e g live

-- 32: another seat ends
pub still-join : (c : Core) (i : ℕ) (s : SeatState) (other : ℕ) (ms : List Meaning) → Taken c i s (Join other) → StandsFor c ms → StandsIn c.shape (words_left c s (Join other)) (seats_left c i s (Join other)) ms
still-join c i s other ms k st =
    let ended : SeatState = spent_seat c.shape other in
    let before : EachStands c (set c.seats i s) ms = each-but c i s c.seats ms (λ m g live. own-stands c i s (Join other) ms k st m g) st.seats_agree in
    still c i s (Join other) ms k st refl refl (λ x e. e) (rw (length-set, length-set) (omega arith)) (each-but c other ended (set c.seats i s) ms (λ m g live. absurd (true≢false live)) before)

stands_at : (c : Core) (i : ℕ) (s : SeatState) (step : Step) (op : Op) (ms : List Meaning) → IsFalse c.shape.sharing → Taken c i s step → StandsFor c ms → AsksIn s ms step op → StandsIn c.shape (words_left c s step) (seats_left c i s step) (meanings_after c.shape s step op ms)
stands_at c i s (ReadOwn x j) op ms alone k st asks = read-own c i s x j ms k st
stands_at c i s (ReadCat v) op ms alone k st asks = read-cat c i s v ms k st
stands_at c i s (ReadSlot j) op ms alone k st asks = read-slot c i s j ms k st
stands_at c i s (StoreSlot j r) op ms alone k st asks = absurd asks
stands_at c i s (ReadWeak x) op ms alone k st asks = absurd asks
stands_at c i s (StoreField v j o) op ms alone k st asks = store-field c i s v j o op ms alone k st asks
stands_at c i s (StoreValue v n) op ms alone k st asks = store-value c i s v n op ms alone k st asks
stands_at c i s (ExchangeField v j y o) op ms alone k st asks = absurd (true≢false (sym (and_parts _ c.shape.sharing k.ok.1.0).1 ∙ alone))
stands_at c i s (ExchangeValue v m n) op ms alone k st asks = absurd (true≢false (sym (and_parts _ c.shape.sharing k.ok.1.0).1 ∙ alone))
stands_at c i s (StoreRoot v r) op ms alone k st asks = store-root c i s v r op ms k st asks
stands_at c i s (HoldRoot v r) op ms alone k st asks = hold-root c i s v r op ms k st asks
stands_at c i s (StoreNew x part word) op ms alone k st asks = store-new c i s x part word op ms k st asks
stands_at c i s Split op ms alone k st asks = still-split c i s ms k st
stands_at c i s (Join other) op ms alone k st asks = still-join c i s other ms k st
stands_at c i s (ClaimBlock b) op ms alone k st asks = still-seat c i s (ClaimBlock b) ms k st refl refl (λ x e. e) refl refl refl (claimed-making (eqb (found c s (ClaimBlock b)) 0) b s.cache)
stands_at c i s ReleaseBlock op ms alone k st asks = still-seat c i s ReleaseBlock ms k st refl refl (λ x e. e) refl refl refl (none-making s.cache)
stands_at c i s ReadFree op ms alone k st asks = still-seat c i s ReadFree ms k st refl refl (λ x e. e) refl refl refl (free-making s.cache (found c s ReadFree))
stands_at c i s PublishCells op ms alone k st asks = still-seat c i s PublishCells ms k st refl refl (λ x e. e) refl refl refl (published-making s.cache)
stands_at c i s step op ms alone k st asks = still-seat c i s step ms k st refl refl (λ x e. e) refl refl refl (same-making s.cache)

pub stands_kept : EventsKeepStands
stands_kept c e s op ms alone k st g asks f =
    kept-after (λ sh w seats. StandsIn sh w seats (meanings_after c.shape s e.step op ms)) c e k f
    (λ x a t.
    subst (λ (y : SeatState). Taken c e.seat y e.step → StandsIn c.shape (words_left c y e.step) (seats_left c e.seat y e.step) (meanings_after c.shape s e.step op ms)) (same_Some s x (sym g ∙ t.got))
    (λ u. stands_at c e.seat s e.step op ms alone u st asks) t)

-- A step that stores no reference leaves the paths: what was reachable is.
-- cell y is reachable by the words that the step leaves
abbrev pub ReachedAfter : Core → ℕ → SeatState → Step → ℕ → Type 0
ReachedAfter c i s step y = IsReachableCell c.shape (roots_now (words_left c s step).roots (seats_left c i s step)) (words_left c s step).fields y

pub reach-still : (c : Core) (i : ℕ) (s : SeatState) (step : Step) (y : ℕ) → Taken c i s step → assigns_root step ≡ false → stores_cell step ≡ false → IsReachableIn c y → ReachedAfter c i s step y
reach-still c i s step y k r f a =
    let w : Words = words_of c.shape c.words in
    let P : List ℕ → Type 0 = λ roots. IsReachableCell c.shape roots w.fields y in
    let Q : List ℕ → Type 0 = λ fields. IsReachableCell c.shape (roots_now (words_left c s step).roots (seats_left c i s step)) fields y in
    subst Q (sym (fields-same c i s step k f)) (subst P (sym (now-left c i s step k r)) a)
