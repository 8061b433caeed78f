-- A seat is exact while it knows that the world is stopped, and a seat that is spent or has no section has no variable and no cache: kept by each step that is
-- allowed.
use Rattle.std.proofs.Common.{ℕ, ◌≡◌, ◌<◌, replicate, get_or, length, refl, sym, ap, ◌∙◌, Bool, true, false, ◌||◌, Option, Some, None, ⊎_elim, List, set, subst}
use Rattle.std.specs.Prelude.{IsTrue, IsFalse, is_none, is_some, IfSome}
use Rattle.std.specs.List.{All, AllPairs}
use Rattle.std.proofs.lemmas.Bool.{cases_Bool, and_parts, false≢true}
use Rattle.std.proofs.lemmas.List.Elements.{All-replicate, All-map}
use Rattle.mark_core.specs.Layout.{Words, words_of}
use Rattle.mark_core.specs.Steps.MutatorSteps.{with_free, without_used}
use Rattle.mark_core.specs.Seats.{is_phase, has_turn}
use Rattle.mark_core.specs.Effects.{written, seat_after}
use Rattle.mark_core.specs.Steps.{Core, failing_part, after_event}
use Rattle.mark_core.specs.Laws.{IsCore}
use Rattle.mark_core.proofs.Known.{found, words_left, seats_left}
use Rattle.mark_core.proofs.Doing.{local-kept}
use Rattle.mark_core.proofs.Writing.Writes.{phase-kept}
use Rattle.mark_core.proofs.Blocks.BlocksStopped.{Taken, mine, words-read, kept-after, still-known, knower, not-still}
use Rattle.mark_core.specs.declared.kinds.Phase.{Phase}
use Rattle.mark_core.specs.declared.kinds.Phase.TheVariants.{Idle, Marking, Drain, Sweep, Clear, Full}
use Rattle.mark_core.specs.declared.kinds.Step.{Step}
use Rattle.mark_core.specs.declared.kinds.Step.TheVariants.{ReadPhase, StoreRoot, ClaimBlock, ReleaseBlock, ReadFree, StoreNew, PublishCells, Observe, DropStep, StorePhase, HoldRoot}
use Rattle.mark_core.specs.declared.seat.SeatState.{SeatState}
use Rattle.std.proofs.lemmas.List.{map-set}
use Rattle.mark_core.specs.Views.{blocks}
use Rattle.mark_core.specs.Strong.{IsStrongBlock, overlap}
use Rattle.mark_core.proofs.Blocks.BlocksStretch.{hand-others, none-right}
use Rattle.mark_core.proofs.Blocks.BlocksSteps.{Hand, hand-at}
use Rattle.mark_core.specs.declared.kinds.Event.{Event}
use Rattle.mark_core.specs.Shapes.{IsShape}
use Rattle.mark_core.specs.Start.{start_words, start_seats}
use Rattle.mark_core.proofs.Pool.PoolStart.{each-seat}
use Rattle.mark_core.specs.declared.kinds.Shape.{Shape}

-- an exact seat knows
abbrev pub ExactKnows : SeatState → Type 0
ExactKnows s = IsTrue s.exact → IsTrue s.knows

-- a seat that is spent or has no section names nothing
abbrev pub SpentNames : SeatState → Type 0
SpentNames s = IsTrue (s.spent || is_none s.section) → All (λ r. r ≡ 0) s.env

-- a seat that is spent or has no section has no cache
abbrev pub SpentCache : SeatState → Type 0
SpentCache s = IsTrue (s.spent || is_none s.section) → s.cache ≡ None

-- the seat isn't exact
abbrev pub NotExact : SeatState → Type 0
NotExact s = IsFalse s.exact

or_none : (b c : Bool) → (b || false) ≡ c → b ≡ c
or_none true c e = e
or_none false c e = e

still_false : (b : Bool) → b ≡ false → (b || false) ≡ false
still_false b e = rw e refl

exact_moves : (c : Core) (i : ℕ) (s : SeatState) (to : Phase) → Taken c i s (StorePhase to) → ExactKnows s → ExactKnows (seat_after c.shape s (StorePhase to) (found c s (StorePhase to)))
exact_moves c i s Drain t k e = (and_parts s.knows _ t.ok.1.0).0
exact_moves c i s Idle t k e = k (or_none s.exact true e)
exact_moves c i s Marking t k e = k (or_none s.exact true e)
exact_moves c i s Sweep t k e = k (or_none s.exact true e)
exact_moves c i s Clear t k e = k (or_none s.exact true e)
exact_moves c i s Full t k e = k (or_none s.exact true e)

exact_after : (c : Core) (i : ℕ) (s : SeatState) (step : Step) → Taken c i s step → ExactKnows s → ExactKnows (seat_after c.shape s step (found c s step))
exact_after c i s Observe t k e = rw (k e) refl
exact_after c i s DropStep t k e = absurd (false≢true e)
exact_after c i s (StorePhase to) t k e = exact_moves c i s to t k e
exact_after c i s step t k e = k e

pub exact-knows : (c : Core) (i : ℕ) (s : SeatState) (step : Step) → Taken c i s step → All ExactKnows (seats_left c i s step)
exact-knows c i s step t =
    let all : All ExactKnows c.seats = λ j d h. (t.core.strong.seats_strong j d h).exact_needs_knows in
    local-kept ExactKnows c.shape step c.seats i (seat_after c.shape s step (found c s step)) (λ k e. absurd (false≢true e)) (λ k e. absurd (false≢true e)) all (exact_after c i s step t (mine c i s step ExactKnows t all))

has_section : (o season : Option ℕ) (P : Type 0) → has_turn o season ≡ true → is_none o ≡ true → P
has_section None season P e f = absurd (false≢true e)
has_section (Some x) season P e f = absurd (false≢true f)

names_after : (c : Core) (i : ℕ) (s : SeatState) (step : Step) → Taken c i s step → SpentNames s → SpentNames (seat_after c.shape s step (found c s step))
names_after c i s (StoreRoot v r) t k e =
    let none : is_none s.section ≡ true = rw t.live at e in
    has_section s.section s.season_seen _ (and_parts s.active _ (and_parts _ _ t.ok.0).1).1 none
names_after c i s (HoldRoot v r) t k e =
    let none : is_none s.section ≡ true = rw t.live at e in
    has_section s.section s.season_seen _ (and_parts s.active _ (and_parts _ _ t.ok.0).1).1 none
names_after c i s step t k e = k e

no_names : (k : ℕ) → All (λ (r : ℕ). r ≡ 0) (replicate k 0)
no_names k = All-replicate (λ (r : ℕ). r ≡ 0) k 0 refl

pub spent-names : (c : Core) (i : ℕ) (s : SeatState) (step : Step) → Taken c i s step → All SpentNames (seats_left c i s step)
spent-names c i s step t =
    let all : All SpentNames c.seats = λ j d h. (t.core.strong.seats_strong j d h).env_of_spent in
    local-kept SpentNames c.shape step c.seats i (seat_after c.shape s step (found c s step)) (λ k e. no_names 32) (λ k e. no_names 32) all (names_after c i s step t (mine c i s step SpentNames t all))

is_given : (o : Option ℕ) (P : Type 0) → is_some o ≡ true → is_none o ≡ true → P
is_given None P e f = absurd (false≢true e)
is_given (Some x) P e f = absurd (false≢true f)

cache_after : (c : Core) (i : ℕ) (s : SeatState) (step : Step) → Taken c i s step → SpentCache s → SpentCache (seat_after c.shape s step (found c s step))
cache_after c i s (ClaimBlock b) t k e =
    let none : is_none s.section ≡ true = rw t.live at e in
    is_given s.section _ (and_parts (s.active || s.knows) _ t.ok.1.0).1 none
cache_after c i s ReleaseBlock t k e = refl
cache_after c i s ReadFree t k e = ap (λ o. with_free o (found c s ReadFree)) (k e)
cache_after c i s (StoreNew y part word) t k e =
    let none : is_none s.section ≡ true = rw t.live at e in
    has_section s.section s.season_seen _ (and_parts s.active _ (and_parts _ _ t.ok.0).1).1 none
cache_after c i s PublishCells t k e = ap without_used (k e)
cache_after c i s step t k e = k e

pub spent-cache : (c : Core) (i : ℕ) (s : SeatState) (step : Step) → Taken c i s step → All SpentCache (seats_left c i s step)
spent-cache c i s step t =
    let all : All SpentCache c.seats = λ j d h. (t.core.strong.seats_strong j d h).cache_of_spent in
    local-kept SpentCache c.shape step c.seats i (seat_after c.shape s step (found c s step)) (λ k e. refl) (λ k e. refl) all (cache_after c i s step t (mine c i s step SpentCache t all))

-- if a seat is exact, no seat is active
pub exact-still : (c : Core) (j : ℕ) (d : SeatState) → IsCore c → j < length c.seats → IsTrue (get_or c.seats j d).exact → All (λ (x : SeatState). IsFalse x.active) c.seats
exact-still c j d k h e = still-known c k (knower c.seats j d h ((k.strong.seats_strong j d h).exact_needs_knows e))

-- if a mutator runs, no seat is exact
pub running-not-exact : (c : Core) (i : ℕ) (s : SeatState) (step : Step) → Taken c i s step → s.active ≡ true → All NotExact c.seats
running-not-exact c i s step t run j d h =
    ⊎_elim
    (λ (e : (get_or c.seats j d).exact ≡ true). not-still c i s step _ t (exact-still c j d t.core h e) run)
    (λ (e : (get_or c.seats j d).exact ≡ false). e)
    (cases_Bool (get_or c.seats j d).exact)

-- none is exact after a step that makes its own seat none
pub none-exact : (c : Core) (i : ℕ) (s : SeatState) (step : Step) → All NotExact c.seats → NotExact (seat_after c.shape s step (found c s step)) → All NotExact (seats_left c i s step)
none-exact c i s step a own = local-kept NotExact c.shape step c.seats i (seat_after c.shape s step (found c s step)) (λ k. refl) (λ k. refl) a own

-- in Marking no seat is exact
abbrev pub CalmMarking : Core → ℕ → SeatState → Step → Type 0
CalmMarking c i s step = IsTrue (is_phase (words_left c s step).phase Marking) → All NotExact (seats_left c i s step)

marking_moves : (c : Core) (i : ℕ) (s : SeatState) (to : Phase) → Taken c i s (StorePhase to) → CalmMarking c i s (StorePhase to)
marking_moves c i s Marking t e =
    let all = running-not-exact c i s (StorePhase Marking) t t.ok.1.0 in
    none-exact c i s (StorePhase Marking) all (still_false s.exact (mine c i s (StorePhase Marking) NotExact t all))
marking_moves c i s Idle t e = absurd (false≢true e)
marking_moves c i s Drain t e = absurd (false≢true e)
marking_moves c i s Sweep t e = absurd (false≢true e)
marking_moves c i s Clear t e = absurd (false≢true e)
marking_moves c i s Full t e = absurd (false≢true e)

pub marking-calm : (c : Core) (i : ℕ) (s : SeatState) (step : Step) → Taken c i s step → CalmMarking c i s step
marking-calm c i s (StorePhase to) t e = marking_moves c i s to t e
marking-calm c i s ReadPhase t e =
    let was = ap (λ (w : Words). is_phase w.phase Marking) (sym (words-read c i s ReadPhase t refl)) ∙ e in
    let all = t.core.strong.no_exact_in_marking was in
    none-exact c i s ReadPhase all (mine c i s ReadPhase NotExact t all)
marking-calm c i s DropStep t e = none-exact c i s DropStep (t.core.strong.no_exact_in_marking e) refl
marking-calm c i s step t e =
    let w : Words = words_of c.shape c.words in
    let was = ap (λ p. is_phase p Marking) (sym (phase-kept c.shape s step (written c.shape s step (found c s step)) w refl)) ∙ e in
    let all = t.core.strong.no_exact_in_marking was in
    none-exact c i s step all (mine c i s step NotExact t all)

-- Each event that is allowed keeps the facts of the blocks in hand, of exact seats and of spent ones.
-- the facts of the blocks in hand, of exact seats and of spent ones
pub record BlocksSound (w : Words) (seats : List SeatState) : Type 0 where
  pub blocks_strong : All (λ b. IfSome b (IsStrongBlock w.phase w.next_block w.allocs w.marks)) (blocks seats)
  pub one_block_one_seat : AllPairs (λ x y. IsFalse (overlap x y)) (blocks seats)
  pub exact_needs_knows : All ExactKnows seats
  pub no_exact_in_marking : IsTrue (is_phase w.phase Marking) → All NotExact seats
  pub env_of_spent : All SpentNames seats
  pub cache_of_spent : All SpentCache seats

blocks_at : (c : Core) (i : ℕ) (s : SeatState) (step : Step) → Taken c i s step → BlocksSound (words_left c s step) (seats_left c i s step)
blocks_at c i s step t =
    let v : Words = words_left c s step in
    let x : SeatState = seat_after c.shape s step (found c s step) in
    let own : Hand v (blocks (set c.seats i x)) = subst (Hand v) (sym (map-set (λ (y : SeatState). y.block) c.seats i x)) (hand-at c i s step t) in
    let all : Hand v (blocks (seats_left c i s step)) = hand-others v.phase v.next_block v.allocs v.marks c.shape step (set c.seats i x) own in
    record {
      blocks_strong = all.strong;
      one_block_one_seat = all.apart;
      exact_needs_knows = exact-knows c i s step t;
      no_exact_in_marking = marking-calm c i s step t;
      env_of_spent = spent-names c i s step t;
      cache_of_spent = spent-cache c i s step t;
    }

-- each event that is allowed keeps these facts
pub blocks-kept_by : (c : Core) (e : Event) → IsCore c → failing_part c e ≡ None → BlocksSound (words_of (after_event c e).shape (after_event c e).words) (after_event c e).seats
blocks-kept_by c e k f = kept-after (λ sh w seats. BlocksSound w seats) c e k f (λ s a t. blocks_at c e.seat s e.step t)

-- In the state in which nothing has happened no block is in hand, no seat is exact, and no seat names anything.
-- no block is in hand
pub no-blocks : (sh : Shape) (n : ℕ) → All (λ b. b ≡ None) (blocks (start_seats sh n))
no-blocks sh n = All-map (λ b. b ≡ None) (λ (s : SeatState). s.block) (start_seats sh n) (each-seat (λ (s : SeatState). s.block ≡ None) sh n (λ k. refl))

pub blocks-starts : (sh : Shape) (n : ℕ) → IsShape sh → BlocksSound (words_of sh (start_words sh)) (start_seats sh n)
blocks-starts sh n z =
    let w : Words = words_of sh (start_words sh) in
    let none = none-right w.phase w.next_block w.allocs w.marks (blocks (start_seats sh n)) (no-blocks sh n) in
    record {
      blocks_strong = none.strong;
      one_block_one_seat = none.apart;
      exact_needs_knows = each-seat ExactKnows sh n (λ k e. absurd (false≢true e));
      no_exact_in_marking = λ e. each-seat NotExact sh n (λ k. refl);
      env_of_spent = each-seat SpentNames sh n (λ k e. All-replicate (λ r. r ≡ 0) 32 0 refl);
      cache_of_spent = each-seat SpentCache sh n (λ k e. refl);
    }
