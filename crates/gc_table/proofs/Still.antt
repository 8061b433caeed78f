-- The steps that leave the heap: those that store no word of a cell and no root, and that read nothing into the register.
use Rattle.std.proofs.Common.{ℕ, ◌≡◌, refl, ap, Bool, true, false, ◌≤◌, ◌<◌, List, [], ◌∷◌, ◌++◌, set, length, arith, sym, ◌∙◌, subst, Option, Some, None, ◌⊎◌, inl, inr, ⊎_elim, cond}
use Rattle.std.proofs.lemmas.Bool.{true≢false, false≢true}
use Rattle.mark_core.specs.Layout.{Words, words_of, put_word}
use Rattle.mark_core.specs.Effects.{written, seat_after}
use Rattle.mark_core.specs.Steps.{Core}
use Rattle.mark_core.proofs.Known.{found, words_left, seats_left}
use Rattle.mark_core.proofs.Blocks.BlocksStopped.{Taken, words-read}
use Rattle.mark_core.proofs.Writing.RegionWrites.{identities-kept, fields-kept}
use Rattle.mark_core.proofs.Writing.Writes.{at_counter}
use Rattle.mark_core.specs.declared.kinds.Step.{Step}
use Rattle.mark_core.specs.declared.kinds.Step.TheVariants.{ReadField, ReadOwn, ReadValue, ReadIdent, StoreField, StoreValue, StoreNew, Reset, AddStat, ReadStat, ExchangeField, ExchangeValue, Split, Join}
use Rattle.mark_core.specs.declared.seat.SeatState.{SeatState}
use Rattle.std.specs.Prelude.{IsTrue, IsFalse, slice_get}
use Rattle.std.proofs.lemmas.List.{length-set, length-append}
use Rattle.mark_core.specs.Seats.{last_made, makes}
use Rattle.mark_core.specs.Start.{start_seat, spent_seat}
use Rattle.mark_core.proofs.Formed.FormedLearns.{set-cases, push-cases}
use Rattle.mark_core.proofs.References.ReferencesRoots.{Used, UsedAfter}
use Rattle.mark_core.proofs.References.ReferencesNow.{assigns_root, now-left, the-roots}
use Rattle.mark_core.proofs.Used.UsedSeats.{IsMadeBy}
use Rattle.mark_core.proofs.Used.UsedKept.{used-back}
use Rattle.gc_table.specs.RunWorlds.{World, referred}
use Rattle.gc_table.specs.Agreement.{SeatAgrees, Agrees, AgreesIn, AgreesWith}
use Rattle.gc_table.proofs.Frame.{agrees-same, IsLast}
use Rattle.mark_core.specs.Steps.MutatorSteps.{with_free, without_used}
use Rattle.mark_core.specs.declared.seat.CacheState.{CacheState}

-- A cache in which nothing further is made.
-- what is being made was being made before, and no other cell was made last
pub record MakesNoMore (o o' : Option CacheState) : Type 0 where
  pub makes : (c part : ℕ) → makes o' c part ≡ true → makes o c part ≡ true
  pub last : (last_made o' ≡ last_made o) ⊎ (last_made o' ≡ None)

pub same-making : (o : Option CacheState) → MakesNoMore o o
same-making o = record { makes = λ c part e. e; last = inl refl }

pub none-making : (o : Option CacheState) → MakesNoMore o None
none-making o = record { makes = λ c part e. absurd (false≢true e); last = inr refl }

pub free-making : (o : Option CacheState) (word : ℕ) → MakesNoMore o (with_free o word)
free-making None word = same-making None
free-making (Some x) word = record { makes = λ c part e. e; last = inl refl }

pub published-making : (o : Option CacheState) → MakesNoMore o (without_used o)
published-making None = same-making None
published-making (Some x) = record { makes = λ c part e. e; last = inr refl }

pub claimed-making : (t : Bool) (b : ℕ) (o : Option CacheState) → MakesNoMore o (cond t (Some (record { block = b; unread = true; free = 0; used = 0; making = None; last = None })) o)
claimed-making true b o = record { makes = λ c part e. absurd (false≢true e); last = inr refl }
claimed-making false b o = same-making o

-- Which steps change the identities, values and fields of cells.
-- the step stores a word of an object or of a new cell
abbrev pub stores_cell : Step → Bool
stores_cell (StoreField v i w) = true
stores_cell (StoreValue v n) = true
stores_cell (ExchangeField v i x y) = true
stores_cell (ExchangeValue v m n) = true
stores_cell (StoreNew c part word) = true
stores_cell step = false

-- every other step leaves the identities
pub identities-same : (c : Core) (i : ℕ) (s : SeatState) (step : Step) → Taken c i s step → stores_cell step ≡ false → (words_left c s step).identities ≡ (words_of c.shape c.words).identities
identities-same c i s (ReadIdent x) k e = ap (λ (w : Words). w.identities) (words-read c i s (ReadIdent x) k refl)
identities-same c i s (StoreNew x part word) k e = absurd (true≢false e)
identities-same c i s step k e = identities-kept c.shape s step (written c.shape s step (found c s step)) (words_of c.shape c.words) refl

-- a step that stores in no cell leaves the fields
pub fields-same : (c : Core) (i : ℕ) (s : SeatState) (step : Step) → Taken c i s step → stores_cell step ≡ false → (words_left c s step).fields ≡ (words_of c.shape c.words).fields
fields-same c i s (ReadField x j) k e = ap (λ (w : Words). w.fields) (words-read c i s (ReadField x j) k refl)
fields-same c i s (ReadOwn x j) k e = ap (λ (w : Words). w.fields) (words-read c i s (ReadOwn x j) k refl)
fields-same c i s (StoreField v j o) k e = absurd (true≢false e)
fields-same c i s (ExchangeField v j x o) k e = absurd (true≢false e)
fields-same c i s (StoreNew x part word) k e = absurd (true≢false e)
fields-same c i s step k e = fields-kept c.shape s step (written c.shape s step (found c s step)) (words_of c.shape c.words) refl

-- a step that stores in no cell leaves the values
pub values-same : (c : Core) (i : ℕ) (s : SeatState) (step : Step) → Taken c i s step → stores_cell step ≡ false → (words_left c s step).values ≡ (words_of c.shape c.words).values
values-same c i s (ReadValue x) k e = ap (λ (w : Words). w.values) (words-read c i s (ReadValue x) k refl)
values-same c i s (StoreValue v n) k e = absurd (true≢false e)
values-same c i s (ExchangeValue v m n) k e = absurd (true≢false e)
values-same c i s (StoreNew x part word) k e = absurd (true≢false e)
values-same c i s (Reset which) k e =
    let w : Words = words_of c.shape c.words in at_counter (λ at. (put_word at (written c.shape s (Reset which) (found c s (Reset which))) w).values ≡ w.values) which (λ i h. refl) (λ i. refl)
values-same c i s (AddStat which by down) k e =
    let w : Words = words_of c.shape c.words in
    at_counter (λ at. (put_word at (written c.shape s (AddStat which by down) (found c s (AddStat which by down))) w).values ≡ w.values) which (λ i h. refl) (λ i. refl)
values-same c i s (ReadStat which) k e =
    let w : Words = words_of c.shape c.words in at_counter (λ at. (put_word at (written c.shape s (ReadStat which) (found c s (ReadStat which))) w).values ≡ w.values) which (λ i h. refl) (λ i. refl)
values-same c i s step k e = refl

-- seat w in the words before the step
abbrev pub HasNow : Core → World → ℕ → SeatState → Type 0
HasNow c world w s = SeatAgrees c.shape (words_of c.shape c.words).identities (words_of c.shape c.words).values world w s

-- each seat in the words before the step
abbrev pub EachAgrees : Core → List SeatState → World → Type 0
EachAgrees c seats world = (w : ℕ) (s : SeatState) → slice_get seats w ≡ Some s → w < c.shape.sections → IsFalse s.spent → HasNow c world w s

-- no cell comes into use, and the words stay
pub still : (c : Core) (i : ℕ) (s : SeatState) (step : Step) (world : World) → Taken c i s step → AgreesWith c world → assigns_root step ≡ false → stores_cell step ≡ false → ((x : ℕ) → IsMadeBy c.shape step x → ⊥) → length c.seats ≤ length (seats_left c i s step)
    → EachAgrees c (seats_left c i s step) world → AgreesIn c.shape (words_left c s step) (seats_left c i s step) world
still c i s step world k a r f none longer each =
    let w : Words = words_of c.shape c.words in
    let used : ℕ → Type 0 = λ x. IsTrue (Used c x) in
    let after : ℕ → Type 0 = λ x. IsTrue (UsedAfter c i s step x) in
    let seats : List SeatState = seats_left c i s step in
    let same : Agrees c.shape (the-roots c) w.identities w.values w.fields after seats world =
    agrees-same c.shape (the-roots c) w.identities w.values w.fields used after c.seats seats world (λ x h u. ⊎_elim (λ (e : Used c x ≡ true). e) (λ (e : IsMadeBy c.shape step x). absurd (none x e)) (used-back c i s step x k u)) each longer a in
    subst (λ (rs : List ℕ). Agrees c.shape rs (words_left c s step).identities (words_left c s step).values (words_left c s step).fields after seats world) (sym (now-left c i s step k r))
    (subst (λ (ids : List ℕ). Agrees c.shape (the-roots c) ids (words_left c s step).values (words_left c s step).fields after seats world) (sym (identities-same c i s step k f))
    (subst (λ (vs : List ℕ). Agrees c.shape (the-roots c) w.identities vs (words_left c s step).fields after seats world) (sym (values-same c i s step k f))
    (subst (λ (fs : List ℕ). Agrees c.shape (the-roots c) w.identities w.values fs after seats world) (sym (fields-same c i s step k f)) same)))

-- each seat when one record changed
pub each-but : (c : Core) (i : ℕ) (t : SeatState) (seats : List SeatState) (world : World) → (i < c.shape.sections → IsFalse t.spent → HasNow c world i t) → EachAgrees c seats world → EachAgrees c (set seats i t) world
each-but c i t seats world own each w s f h live =
    ⊎_elim
    (λ (e : (w ≡ i) × (t ≡ s)).
    subst (λ (j : ℕ). HasNow c world j s) (sym e.0) (subst (λ (y : SeatState). IsFalse y.spent → HasNow c world i y) e.1 (own (subst (λ (j : ℕ). j < c.shape.sections) e.0 h)) live))
    (λ (e : slice_get seats w ≡ Some s). each w s e h live)
    (set-cases seats i w t s f)

last_less : (ids : List ℕ) (w made : ℕ) (o o' : Option ℕ) → (o' ≡ o) ⊎ (o' ≡ None) → IsLast ids w made o → IsLast ids w made o'
last_less ids w made o o' (inl e) h = subst (IsLast ids w made) (sym e) h
last_less ids w made o o' (inr e) h = subst (IsLast ids w made) (sym e) tt

-- a step of a seat that gets nothing and makes nothing further
pub still-seat : (c : Core) (i : ℕ) (s : SeatState) (step : Step) (world : World) → Taken c i s step → AgreesWith c world → assigns_root step ≡ false → stores_cell step ≡ false → ((x : ℕ) → IsMadeBy c.shape step x → ⊥)
    → seats_left c i s step ≡ set c.seats i (seat_after c.shape s step (found c s step)) → (seat_after c.shape s step (found c s step)).got ≡ s.got → (seat_after c.shape s step (found c s step)).made ≡ s.made
    → MakesNoMore s.cache (seat_after c.shape s step (found c s step)).cache → AgreesIn c.shape (words_left c s step) (seats_left c i s step) world
still-seat c i s step world k a r f none is got made less =
    let t : SeatState = seat_after c.shape s step (found c s step) in
    let own : i < c.shape.sections → IsFalse t.spent → HasNow c world i t =
    λ h live.
    let had : HasNow c world i s = a.seats_agree i s k.got h k.live in
    record {
      register = ap (referred (words_of c.shape c.words).identities) got ∙ had.register;
      made = had.made ∙ sym made;
      making = λ x part e l. had.making x part (less.makes x part e) l;
      last = subst (λ (n : ℕ). IsLast (words_of c.shape c.words).identities i n (last_made t.cache)) (sym made) (last_less (words_of c.shape c.words).identities i s.made (last_made s.cache) (last_made t.cache) less.last had.last);
    } in
    still c i s step world k a r f none (subst (λ (ss : List SeatState). length c.seats ≤ length ss) (sym is) (omega (arith, length-set c.seats i t)))
    (subst (λ (ss : List SeatState). EachAgrees c ss world) (sym is) (each-but c i t c.seats world own a.seats_agree))

-- 31: a further seat, whose section has done nothing
pub still-split : (c : Core) (i : ℕ) (s : SeatState) (world : World) → Taken c i s Split → AgreesWith c world → AgreesIn c.shape (words_left c s Split) (seats_left c i s Split) world
still-split c i s world k a = still c i s Split world k a refl refl (λ x e. e) (rw (length-append, length-set) (omega arith)) each
  where
    n : ℕ
    n = length (set c.seats i s)

    new : SeatState
    new = start_seat c.shape n

    fresh : (w : ℕ) → w ≡ n → w < c.shape.sections → HasNow c world w new
    fresh w e h =
        let nothing = a.unseated w (omega (arith, e, length-set c.seats i s)) h in record {
          register = sym nothing.0;
          made = nothing.1;
          making = λ x part f l. absurd (true≢false (sym f));
          last = tt;
        }

    before : EachAgrees c (set c.seats i s) world
    before = each-but c i s c.seats world (λ h live. a.seats_agree i s k.got h live) a.seats_agree

    each : EachAgrees c (set c.seats i s ++ new ∷ []) world
    each w t f h live =
        ⊎_elim
        (λ (e : (w ≡ n) × (new ≡ t)). subst (λ (y : SeatState). HasNow c world w y) e.1 (fresh w e.0 h))
        (λ (e : slice_get (set c.seats i s) w ≡ Some t). before w t e h live)
        (push-cases (set c.seats i s) w new t f)

-- 32: another seat ends
pub still-join : (c : Core) (i : ℕ) (s : SeatState) (other : ℕ) (world : World) → Taken c i s (Join other) → AgreesWith c world → AgreesIn c.shape (words_left c s (Join other)) (seats_left c i s (Join other)) world
still-join c i s other world k a =
    let ended : SeatState = spent_seat c.shape other in
    let before : EachAgrees c (set c.seats i s) world = each-but c i s c.seats world (λ h live. a.seats_agree i s k.got h live) a.seats_agree in
    still c i s (Join other) world k a refl refl (λ x e. e) (rw (length-set, length-set) (omega arith)) (each-but c other ended (set c.seats i s) world (λ h live. absurd (true≢false live)) before)
