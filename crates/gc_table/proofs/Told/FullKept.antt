-- A heap that was found full stays so: the section that found it is named, every cell is published and reachable, and no seat stores any more.
use Rattle.std.proofs.Common.{ℕ, ◌≡◌, ap, ◌∙◌, subst, sym, get_or, true, false, cond, Bool, Option, Some, None, ◌+◌, ◌≤◌, ◌<◌, arith, refl, ◌&&◌, ◌||◌, eqb, ◌≢◌, List, length, ◌⊎◌, inl, inr, ⊎_elim}
use Rattle.std.specs.Prelude.{IsTrue, IsFalse, IfSome, nat_le, nat_lt, slice_get}
use Rattle.std.specs.List.{All}
use Rattle.std.proofs.lemmas.Bool.{true≢false, false≢true, and_parts, or_left, leb-true, ltb-true, ne_eqb, or_cases, or_right, cases_eq}
use Rattle.mark_core.specs.Layout.{Words, words_of, put_word}
use Rattle.mark_core.specs.Seats.{phase_of, takes_part, is_bare, is_phase, may_mutate, free_in, saw}
use Rattle.mark_core.specs.Views.{standings, standing_of}
use Rattle.mark_core.specs.Effects.{seat_after, written}
use Rattle.mark_core.specs.Strong.{IsStrongSeat}
use Rattle.mark_core.specs.Steps.{Core}
use Rattle.mark_core.proofs.Known.{found, seats_left, words_left, some_none}
use Rattle.mark_core.proofs.HeldBlock.{of-view}
use Rattle.mark_core.proofs.Blocks.BlocksStopped.{AllStill, sweeping, still-while-knows, Taken, mine, words-read}
use Rattle.mark_core.proofs.Doing.{local-kept}
use Rattle.mark_core.proofs.World.WorldReading.{numbers-of}
use Rattle.mark_core.proofs.World.WorldNumbers.{bare-out}
use Rattle.mark_core.proofs.World.WorldMoves.{Fits}
use Rattle.mark_core.specs.declared.kinds.Phase.{Phase}
use Rattle.mark_core.specs.declared.kinds.Phase.TheVariants.{Full, Idle, Marking, Drain, Sweep, Clear}
use Rattle.mark_core.specs.declared.kinds.Step.{Step}
use Rattle.mark_core.specs.declared.kinds.Step.TheVariants.{ReadPhase, EnterStep, LeaveStep, DropStep, StorePhase, LeaveHelpStep, StoreField, StoreValue, StoreRoot, StoreNew, StoreAlloc, StoreNamed, Reset, AddStat, ReadStat, ExchangeField, ExchangeValue, StoreSlot, HoldRoot}
use Rattle.mark_core.specs.declared.seat.SeatState.{SeatState}
use Rattle.mark_core.specs.Shapes.{EachCell}
use Rattle.mark_core.specs.Bits.{cell_bit}
use Rattle.mark_core.specs.Steps.WorldSteps.{is_move, phase_after}
use Rattle.mark_core.specs.Closed.{IsReachableIn}
use Rattle.mark_core.proofs.Blocks.BlocksWords.{statistic}
use Rattle.mark_core.proofs.Caches.CachesSeat.{all-facts, CacheFacts, next-free}
use Rattle.mark_core.proofs.References.ReferencesRoots.{mutator-is, seat-formed}
use Rattle.mark_core.proofs.Used.UsedKept.{alloc-on}
use Rattle.mark_core.proofs.Writing.Writes.{phase-kept, at_part}
use Rattle.gc_table.specs.PlainSteps.{HasSeenPhase}
use Rattle.gc_table.specs.TableState.{TableState, no_section, section_at, with_section, state_after}
use Rattle.gc_table.proofs.Stands.StandsKept.{ReachedAfter, reach-still}
use Rattle.gc_table.proofs.Stands.StandsSeat.{free-not-used}
use Rattle.gc_table.proofs.State.StateSteps.{Goes, taken, event, may-happen, sections_left, kept-whole, each-left}
use Rattle.mark_core.specs.Numbers.{done_count, last_count}
use Rattle.std.proofs.lemmas.Option.{same_Some, slice_get-get_or, get_or_from_slice_get}
use Rattle.mark_core.proofs.Consequences.Closing.{full-reachable}
use Rattle.mark_core.proofs.Sweeps.SweepsKept.{phase-came}
use Rattle.mark_core.proofs.Sweeps.SweepsSpared.{none-used, use-published}
use Rattle.gc_table.specs.declared.view.SectionState.{SectionState}
use Rattle.gc_table.specs.Sections.{section_after}
use Rattle.gc_table.specs.Told.{EachSection, Fullness}
use Rattle.gc_table.proofs.Stands.StandsFrame.{get-set_same, get-set_other}
use Rattle.gc_table.proofs.Stands.StandsStores.{reachable-used}

-- In a heap that was found full an active seat has seen nothing of the phase, or that it is full.
abbrev pub SeesFull : SeatState → Type 0
SeesFull s = IsTrue s.active → IfSome s.phase_seen (λ p. p ≡ Full)

-- a seat that is bare has seen nothing
bare_unseen : (c : Core) (i : ℕ) (s : SeatState) (step : Step) → Taken c i s step → is_bare s ≡ true → s.phase_seen ≡ None
bare_unseen c i s step k bare =
    let w : Words = words_of c.shape c.words in
    let all : All Fits (standings c.seats) = (numbers-of c.shape w.world w.help c.seats k.core.sound.world k.core.strong.seats_strong).fits in
    let fits : Fits (standing_of s) = of-view standing_of Fits c i s step k all in
    let strong : IsStrongSeat c.shape s = mine c i s step (IsStrongSeat c.shape) k k.core.strong.seats_strong in
    strong.seen_only_inside (bare-out s fits bare)

-- the phase that it reads is full
reads_full : (old : ℕ) (b : Bool) (o : Option Phase) → old ≡ 5 → IfSome o (λ p. p ≡ Full) → IfSome (cond b (Some (phase_of old)) o) (λ p. p ≡ Full)
reads_full old true o e h = ap phase_of e
reads_full old false o e h = h

seat_sees : (c : Core) (i : ℕ) (s : SeatState) (step : Step) → Taken c i s step → (words_of c.shape c.words).phase ≡ 5 → SeesFull s → SeesFull (seat_after c.shape s step (found c s step))
seat_sees c i s ReadPhase k e h = λ a. reads_full (found c s ReadPhase) (takes_part s) s.phase_seen e (h a)
seat_sees c i s EnterStep k e h = λ a. subst (λ (o : Option Phase). IfSome o (λ p. p ≡ Full)) (sym (bare_unseen c i s EnterStep k k.ok.0)) tt
seat_sees c i s LeaveStep k e h = λ a. absurd (false≢true a)
seat_sees c i s DropStep k e h = λ a. tt
seat_sees c i s LeaveHelpStep k e h = λ a. tt
seat_sees c i s step k e h = h

-- all seats, if the heap was full before
pub seen-on : (c : Core) (i : ℕ) (s : SeatState) (step : Step) → Taken c i s step → (words_of c.shape c.words).phase ≡ 5 → All SeesFull c.seats → All SeesFull (seats_left c i s step)
seen-on c i s step k e a =
    local-kept SeesFull c.shape step c.seats i (seat_after c.shape s step (found c s step)) (λ j t. absurd (false≢true t)) (λ j t. absurd (false≢true t)) a (seat_sees c i s step k e (mine c i s step SeesFull k a))

inactive_sees : (s : SeatState) → IsFalse s.active → SeesFull s
inactive_sees s f a = absurd (true≢false (sym a ∙ f))

-- all seats, if the heap is found full now, while no seat is active
pub seen-first : (c : Core) (i : ℕ) (s : SeatState) → Taken c i s (StorePhase Full) → AllStill c → All SeesFull (seats_left c i s (StorePhase Full))
seen-first c i s k still =
    let step : Step = StorePhase Full in
    let all : All SeesFull c.seats = λ j d h. inactive_sees (get_or c.seats j d) (still j d h) in
    local-kept SeesFull c.shape step c.seats i (seat_after c.shape s step (found c s step)) (λ j t. absurd (false≢true t)) (λ j t. absurd (false≢true t)) all (mine c i s step SeesFull k all)

-- While the heap is full its phase and its name stay, every cell stays published and reachable, and no seat stores.
-- the heap was found full
abbrev pub IsFull : Core → Type 0
IsFull c = (words_of c.shape c.words).phase ≡ 5

-- every cell is published, before a step and after it
abbrev pub AllPublished : Core → Type 0
AllPublished c = EachCell c.shape (λ y. IsTrue (cell_bit (words_of c.shape c.words).allocs y))

abbrev pub AllPublishedAfter : Core → SeatState → Step → Type 0
AllPublishedAfter c s step = EachCell c.shape (λ y. IsTrue (cell_bit (words_left c s step).allocs y))

no_move : (phase n : ℕ) (P : Type 0) → phase ≡ 5 → eqb 5 n ≡ false → eqb phase n ≡ true → P
no_move phase n P e f m = absurd (true≢false (sym m ∙ (ap (λ x. eqb x n) e ∙ f)))

-- no move leaves Full
move_stays : (phase : ℕ) (to : Phase) → phase ≡ 5 → is_move phase to ≡ true → phase_after phase to ≡ 5
move_stays phase Idle e m = no_move phase 3 _ e refl m
move_stays phase Marking e m = ap (λ x. phase_after x Marking) e
move_stays phase Drain e m = absurd (true≢false (sym m ∙ ap (λ x. is_move x Drain) e))
move_stays phase Sweep e m = no_move phase 2 _ e refl m
move_stays phase Clear e m = no_move phase 2 _ e refl m
move_stays phase Full e m = refl

pub phase-on : (c : Core) (i : ℕ) (s : SeatState) (step : Step) → Taken c i s step → IsFull c → (words_left c s step).phase ≡ 5
phase-on c i s (StorePhase to) k e = move_stays (words_of c.shape c.words).phase to e k.ok.0
phase-on c i s ReadPhase k e = ap (λ (w : Words). w.phase) (words-read c i s ReadPhase k refl) ∙ e
phase-on c i s step k e = phase-kept c.shape s step (written c.shape s step (found c s step)) (words_of c.shape c.words) refl ∙ e

-- the section that is named stays so
pub named-on : (c : Core) (i : ℕ) (s : SeatState) (step : Step) → Taken c i s step → IsFull c → (words_left c s step).named ≡ (words_of c.shape c.words).named
named-on c i s StoreNamed k e = no_move (words_of c.shape c.words).phase 0 _ e refl (and_parts _ (is_phase (words_of c.shape c.words).phase Idle) k.ok.0).1
named-on c i s (Reset which) k e =
    let phase : ℕ = (words_of c.shape c.words).phase in
    absurd (true≢false (sym (and_parts _ (is_phase phase Idle || is_phase phase Drain) k.ok.0).1 ∙ ap (λ x. is_phase x Idle || is_phase x Drain) e))
named-on c i s (AddStat which by down) k e =
    let w : Words = words_of c.shape c.words in
    let v : ℕ = written c.shape s (AddStat which by down) (found c s (AddStat which by down)) in
    let range = and_parts (nat_le last_count which) (nat_le which done_count) (and_parts _ _ k.ok.0).0 in
    let low : last_count ≤ which = leb-true last_count which range.0 in
    statistic (λ at. (put_word at v w).named ≡ w.named) which low (leb-true which done_count range.1) (rw (ne_eqb (4 + which) 5 (λ z. omega (arith, z, low))) refl)
named-on c i s (ReadStat which) k e = ap (λ (w : Words). w.named) (words-read c i s (ReadStat which) k refl)
named-on c i s (StoreNew x part word) k e =
    let w : Words = words_of c.shape c.words in at_part (λ at. (put_word at word w).named ≡ w.named) c.shape x part (λ j. refl) (λ j. refl) (λ j. refl)
named-on c i s step k e = refl

-- no cell is freed
pub published-on : (c : Core) (i : ℕ) (s : SeatState) (step : Step) → Taken c i s step → IsFull c → AllPublished c → AllPublishedAfter c s step
published-on c i s StoreAlloc k e a = absurd (omega (arith, e, sweeping c i s StoreAlloc k k.ok.0))
published-on c i s step k e a = λ y h. alloc-on c i s step y k refl (a y h)

not_full : (o : Option Phase) (p : Phase) (P : Type 0) → o ≡ Some p → (p ≡ Full → ⊥) → IfSome o (λ q. q ≡ Full) → P
not_full o p P e n h = absurd (n (subst (λ (z : Option Phase). IfSome z (λ q. q ≡ Full)) e h))

-- a mutator that has seen another phase isn't there
no_mutator : (c : Core) (i : ℕ) (s : SeatState) (step : Step) (P : Type 0) → Taken c i s step → All SeesFull c.seats → may_mutate s ≡ true → HasSeenPhase s → P
no_mutator c i s step P k all m seen = not_full s.phase_seen seen.0 P seen.1 seen.2 (mine c i s step SeesFull k all (mutator-is s m).0)

-- no cell is free
no_cell : (c : Core) (i : ℕ) (s : SeatState) (y part word : ℕ) (P : Type 0) → Taken c i s (StoreNew y part word) → AllPublished c → P
no_cell c i s y part word P k a =
    let step : Step = StoreNew y part word in
    let facts : CacheFacts s.cache = mine c i s step (λ (t : SeatState). CacheFacts t.cache) k (all-facts c k.core) in
    let free : free_in s.cache y ≡ true = next-free s.cache y part facts.made_from_free k.ok.1.0 in
    let b = and_parts (nat_lt y c.shape.cells && nat_le part (c.shape.fields + 1)) (may_mutate s) k.ok.0 in
    let below : y < c.shape.cells = ltb-true y c.shape.cells (and_parts (nat_lt y c.shape.cells) (nat_le part (c.shape.fields + 1)) b.0).0 in
    absurd (true≢false (sym (or_left (cell_bit (words_of c.shape c.words).allocs y) _ (a y below)) ∙ free-not-used c i s step y k free))

-- so every cell stays reachable
pub reached-on : (x : TableState) (i : ℕ) (s : SeatState) (step : Step) → Goes x i s step → All SeesFull x.core.seats → AllPublished x.core → EachCell x.core.shape (IsReachableIn x.core) → EachCell x.core.shape (ReachedAfter x.core i s step)
reached-on x i s (StoreField v j o) g seen a r = no_mutator x.core i s (StoreField v j o) _ (taken x i s (StoreField v j o) g) seen (and_parts _ _ g.ok.0).1 g.asks.0
reached-on x i s (ExchangeField v j y o) g seen a r = no_mutator x.core i s (ExchangeField v j y o) _ (taken x i s (ExchangeField v j y o) g) seen (and_parts _ _ g.ok.0).1 g.asks
reached-on x i s (StoreValue v n) g seen a r = no_mutator x.core i s (StoreValue v n) _ (taken x i s (StoreValue v n) g) seen (and_parts _ _ g.ok.0).1 g.asks.0
reached-on x i s (ExchangeValue v m n) g seen a r = no_mutator x.core i s (ExchangeValue v m n) _ (taken x i s (ExchangeValue v m n) g) seen (and_parts _ _ g.ok.0).1 g.asks
reached-on x i s (StoreRoot v t) g seen a r = no_mutator x.core i s (StoreRoot v t) _ (taken x i s (StoreRoot v t) g) seen (and_parts _ _ g.ok.0).1 g.asks.0
reached-on x i s (HoldRoot v t) g seen a r = no_mutator x.core i s (HoldRoot v t) _ (taken x i s (HoldRoot v t) g) seen (and_parts _ _ g.ok.0).1 g.asks.0
reached-on x i s (StoreSlot j t) g seen a r = no_mutator x.core i s (StoreSlot j t) _ (taken x i s (StoreSlot j t) g) seen (and_parts _ _ g.ok.0).1 g.asks.0
reached-on x i s (StoreNew y part word) g seen a r = no_cell x.core i s y part word _ (taken x i s (StoreNew y part word) g) a
reached-on x i s step g seen a r = λ y h. reach-still x.core i s step y (taken x i s step g) refl refl (r y h)

-- a section that has what each step of its seat leaves still has it
still_there : (P : SectionState → Type 0) (f : SectionState → SectionState) (o : Option ℕ) (xs : List SectionState) (k : ℕ) (y : SectionState) → ((z : SectionState) → P z → P (f z)) → slice_get xs k ≡ Some y → P y
    → (z : SectionState) × (slice_get (with_section o f xs) k ≡ Some z) × P z
still_there P f None xs k y keeps g p = (y, g, p)
still_there P f (Some w) xs k y keeps g p =
    ⊎_elim
    (λ (e : k ≡ w).
    let here : slice_get xs w ≡ Some y = subst (λ (j : ℕ). slice_get xs j ≡ Some y) e g in
    let at : section_at xs w ≡ y = get_or_from_slice_get xs w y no_section here in
    (f (section_at xs w), ap (λ j. slice_get (with_section (Some w) f xs) j) e ∙ get-set_same xs w y (f (section_at xs w)) here, keeps (section_at xs w) (subst P (sym at) p)))
    (λ (d : k ≢ w). (y, get-set_other xs w k (f (section_at xs w)) d ∙ g, p))
    (cases_eq k w)

-- a section that was full stays so
full_stays : (x : TableState) (s : SeatState) (step : Step) (y : SectionState) → IsTrue y.full → IsTrue (section_after x.core.shape x.plan s step y).full
full_stays x s (StorePhase to) y e = or_left y.full (saw (Some to) Full) e
full_stays x s step y e = e

-- one that is full was, or its seat has just found it full
full_came : (x : TableState) (s : SeatState) (step : Step) (y : SectionState) → IsTrue (section_after x.core.shape x.plan s step y).full → IsTrue y.full ⊎ (step ≡ StorePhase Full)
full_came x s (StorePhase to) y e = ⊎_elim (λ (a : y.full ≡ true). inl a) (λ (a : saw (Some to) Full ≡ true). inr (moves to a)) (or_cases y.full (saw (Some to) Full) e)
  where
    moves : (p : Phase) → saw (Some p) Full ≡ true → StorePhase p ≡ StorePhase Full
    moves Idle f = absurd (false≢true f)
    moves Marking f = absurd (false≢true f)
    moves Drain f = absurd (false≢true f)
    moves Sweep f = absurd (false≢true f)
    moves Clear f = absurd (false≢true f)
    moves Full f = refl
full_came x s step y e = inl e

-- what is asked of a seat that finds the heap full
finds : (x : TableState) (i : ℕ) (s : SeatState) → Goes x i s (StorePhase Full) → (w : ℕ) × (s.section ≡ Some w) × ((words_of x.core.shape x.core.words).named ≡ w)
finds x i s g = let a = g.asks refl in (a.0, a.1, same_Some _ _ a.2)

own_below : (b : Bool) (n i w : ℕ) → nat_lt i n ≡ b → Some w ≡ cond b (Some i) None → w < n
own_below true n i w e f = omega (arith, ltb-true i n e, same_Some w i f)
own_below false n i w e f = absurd (some_none w f)

-- the section of a seat is there
section_there : (x : TableState) (i : ℕ) (s : SeatState) (step : Step) (w : ℕ) → Goes x i s step → s.section ≡ Some w → slice_get x.sections w ≡ Some (section_at x.sections w)
section_there x i s step w g e =
    let k : Taken x.core i s step = taken x i s step g in
    let below : w < x.core.shape.sections = own_below (nat_lt i x.core.shape.sections) x.core.shape.sections i w refl (sym e ∙ (seat-formed x.core i s step k).section) in
    let long : length x.sections ≡ x.core.shape.sections = g.whole.sections in
    slice_get-get_or x.sections w no_section (omega (arith, below, long))

-- the first finding: every cell is reachable, so it is in use, and published
still_world : (x : TableState) (i : ℕ) (s : SeatState) → Goes x i s (StorePhase Full) → AllStill x.core
still_world x i s g = still-while-knows x.core i s (StorePhase Full) (taken x i s (StorePhase Full) g) (and_parts s.knows _ (and_parts _ _ g.ok.1.0).0).0

all_reached : (x : TableState) (i : ℕ) (s : SeatState) → Goes x i s (StorePhase Full) → EachCell x.core.shape (IsReachableIn x.core)
all_reached x i s g = full-reachable x.core i g.whole.core (may-happen x i s (StorePhase Full) g)

all_published : (x : TableState) (i : ℕ) (s : SeatState) → Goes x i s (StorePhase Full) → AllPublished x.core
all_published x i s g y h =
    let w : Words = words_of x.core.shape x.core.words in
    let none = none-used x.core.shape w.world w.help x.core.seats g.whole.core.sound.world (still_world x i s g) in
    sym (use-published w.allocs x.core.seats y none) ∙ reachable-used x.core y g.whole.core (all_reached x i s g y h)

-- what is true if the heap is full after a step
abbrev FullAfter : TableState → ℕ → SeatState → Step → Type 0
FullAfter x i s step = AllPublishedAfter x.core s step × EachCell x.core.shape (ReachedAfter x.core i s step) × All SeesFull (seats_left x.core i s step) × ((k : ℕ) × (y : SectionState) × (slice_get (sections_left x s step) k ≡ Some y) × IsTrue y.full)

goes_on : (x : TableState) (i : ℕ) (s : SeatState) (step : Step) → Goes x i s step → IsFull x.core → FullAfter x i s step
goes_on x i s step g e =
    let k : Taken x.core i s step = taken x i s step g in
    let told = g.whole.told.fullness in
    let one = told.found e in
    let there = still_there (λ y. IsTrue y.full) (section_after x.core.shape x.plan s step) s.section x.sections one.0 one.1 (full_stays x s step) one.2 one.3 in (
      published-on x.core i s step k e (told.published e),
      reached-on x i s step g (told.seen e) (told.published e) (told.reached e),
      seen-on x.core i s step k e (told.seen e),
      (one.0, there.0, there.1, there.2),
    )

-- the section whose seat finds the heap full
found_first : (x : TableState) (i : ℕ) (s : SeatState) → Goes x i s (StorePhase Full) → (k : ℕ) × (y : SectionState) × (slice_get (sections_left x s (StorePhase Full)) k ≡ Some y) × IsTrue y.full
found_first x i s g =
    let a = finds x i s g in
    let w : ℕ = a.0 in
    let f : SectionState → SectionState = section_after x.core.shape x.plan s (StorePhase Full) in
    let y : SectionState = section_at x.sections w in
    let own : sections_left x s (StorePhase Full) ≡ with_section (Some w) f x.sections = ap (λ o. with_section o f x.sections) a.1 in
    let there : slice_get (with_section (Some w) f x.sections) w ≡ Some (f y) = get-set_same x.sections w y (f y) (section_there x i s (StorePhase Full) w g a.1) in
    (w, f y, ap (λ xs. slice_get xs w) own ∙ there, or_right y.full true refl)

begins : (x : TableState) (i : ℕ) (s : SeatState) → Goes x i s (StorePhase Full) → FullAfter x i s (StorePhase Full)
begins x i s g = (all_published x i s g, (λ y h. reach-still x.core i s (StorePhase Full) y (taken x i s (StorePhase Full) g) refl refl (all_reached x i s g y h)), seen-first x.core i s (taken x i s (StorePhase Full) g) (still_world x i s g), found_first x i s g)

full_after : (x : TableState) (i : ℕ) (s : SeatState) (step : Step) → Goes x i s step → (words_left x.core s step).phase ≡ 5 → FullAfter x i s step
full_after x i s step g e =
    ⊎_elim
    (λ (a : IsFull x.core). goes_on x i s step g a)
    (λ (a : step ≡ StorePhase Full). subst (λ z. Goes x i s z → FullAfter x i s z) (sym a) (begins x i s) g)
    (phase-came x.core i s step Full (taken x i s step g) e)

-- the phase and the name, if section k is full after a step
abbrev IsNamed : TableState → SeatState → Step → ℕ → Type 0
IsNamed x s step k = ((words_left x.core s step).phase ≡ 5) × ((words_left x.core s step).named ≡ k)

was_full : (x : TableState) (i : ℕ) (s : SeatState) (step : Step) (k : ℕ) (y : SectionState) → Goes x i s step → slice_get x.sections k ≡ Some y → IsTrue y.full → IsNamed x s step k
was_full x i s step k y g there e =
    let t : Taken x.core i s step = taken x i s step g in
    let was = g.whole.told.fullness.found_by k y there e in
    (phase-on x.core i s step t was.0, named-on x.core i s step t was.0 ∙ was.1)

now_full : (x : TableState) (i : ℕ) (s : SeatState) (k : ℕ) → Goes x i s (StorePhase Full) → s.section ≡ Some k → IsNamed x s (StorePhase Full) k
now_full x i s k g e = let a = finds x i s g in (refl, a.2 ∙ same_Some a.0 k (sym a.1 ∙ e))

found_by : (x : TableState) (i : ℕ) (s : SeatState) (step : Step) → Goes x i s step → EachSection (sections_left x s step) (λ k y. IsTrue y.full → IsNamed x s step k)
found_by x i s step g =
    each-left (λ k y. IsTrue y.full → IsNamed x s step k) (section_after x.core.shape x.plan s step) s.section x.sections (λ k y there d e. was_full x i s step k y g there e)
    (λ k y there own e.
    ⊎_elim
    (λ (a : IsTrue y.full). was_full x i s step k y g there a)
    (λ (a : step ≡ StorePhase Full). subst (λ z. Goes x i s z → IsNamed x s z k) (sym a) (λ h. now_full x i s k h own) g)
    (full_came x s step y e))

pub fullness-kept : (x : TableState) (i : ℕ) (s : SeatState) (step : Step) → Goes x i s step
    → Fullness (state_after x (event i step)).core.shape (words_of (state_after x (event i step)).core.shape (state_after x (event i step)).core.words) (state_after x (event i step)).core.seats (state_after x (event i step)).sections
fullness-kept x i s step g =
    kept-whole Fullness x i s step g
    (record {
      found_by = found_by x i s step g;
      found = λ e. (full_after x i s step g e).3;
      published = λ e. (full_after x i s step g e).0;
      reached = λ e. (full_after x i s step g e).1;
      seen = λ e. (full_after x i s step g e).2;
    })
