-- Each step that a seat may take keeps objects apart: none was made in the cell of an older one that was reachable.
use Rattle.std.proofs.Common.{ℕ, ◌≡◌, ◌+◌, ◌%◌, ◌<◌, ◌≤◌, zero, suc, List, [], ◌∷◌, arith, refl, sym, ap, ◌∙◌, subst, Bool, true, false, ◌&&◌, eqb, Option, Some, None, ◌++◌, length, ◌⊎◌, inl, inr, ⊎_elim}
use Rattle.std.specs.Prelude.{IsFalse, IsTrue, IfSome, nat_lt, nat_le, slice_get, unwrap_or, drop, if◌then◌else◌, Contains}
use Rattle.std.proofs.lemmas.Bool.{true≢false, and_parts, eqb-true}
use Rattle.std.proofs.lemmas.Option.{same_Some, slice_get_within, slice_get-map, get_or_from_slice_get}
use Rattle.std.specs.Option.{option_map}
use Rattle.mark_core.specs.Layout.{words_of}
use Rattle.mark_core.specs.Seats.{has_turn, may_mutate}
use Rattle.mark_core.specs.Rules.HeapRules.{section_of_cell, number_of_cell}
use Rattle.mark_core.proofs.Blocks.BlocksStopped.{mine}
use Rattle.mark_core.proofs.Caches.CachesSeat.{next-makes}
use Rattle.mark_core.proofs.References.ReferencesRoots.{Used}
use Rattle.mark_core.specs.declared.kinds.Step.{Step}
use Rattle.mark_core.specs.declared.kinds.Step.TheVariants.{StoreNew, StoreField, StoreValue, StoreRoot, HoldRoot}
use Rattle.mark_core.specs.declared.seat.SeatState.{SeatState}
use Rattle.plain_heap.specs.PlainHeap.{Heap, empty_heap}
use Rattle.plain_heap.specs.Paths.{Name, IsReachable}
use Rattle.gc_table.specs.StandsFor.{heaps_of}
use Rattle.gc_table.specs.Sections.{planned, season_of, section_after}
use Rattle.gc_table.specs.Told.{heap_before, heaps_before, heaps_beside, AreApart, Turns}
use Rattle.gc_table.specs.TableState.{TableState, meanings_of, section_at, no_section, with_section, state_after}
use Rattle.gc_table.specs.declared.view.Place.{Place}
use Rattle.gc_table.specs.declared.view.PlainStep.{PlainStep}
use Rattle.gc_table.specs.declared.view.SectionState.{SectionState}
use Rattle.gc_table.proofs.Told.ApartHeaps.{reach-more, before-next, heaps-now, before-late, heaps-set}
use Rattle.gc_table.proofs.Stands.StandsReached.{heap-there, objects_have_cells}
use Rattle.gc_table.proofs.Stands.StandsSeat.{making-is-free, free-not-used}
use Rattle.gc_table.proofs.Stands.StandsStores.{used-exists}
use Rattle.gc_table.proofs.State.StateSteps.{Goes, taken, event, kept-whole, each-left}
use Rattle.gc_table.proofs.Rooted.{odd_turn}
use Rattle.mark_core.proofs.Formed.FormedLearns.{push-cases}
use Rattle.mark_core.specs.declared.kinds.Shape.{Shape}
use Rattle.plain_heap.specs.declared.operation.Op.{Op}

-- A new object isn't made in the cell of an object of its section that is reachable just before: that cell is in use, and the one being made is free.
-- the season word
abbrev pub season_in : TableState → ℕ
season_in x = (words_of x.core.shape x.core.words).season

-- an active seat that has read a season has read this one
abbrev KnowsSeason : ℕ → SeatState → Type 0
KnowsSeason z s = IsTrue s.active → IfSome s.season_seen (λ y. z ≡ y)

-- a season that a seat has seen in its turn
turn_seen : (o seen : Option ℕ) (w : ℕ) → o ≡ Some w → has_turn o seen ≡ true → (z : ℕ) × (seen ≡ Some z) × (has_turn (Some w) (Some z) ≡ true)
turn_seen o None w e h = absurd (true≢false (sym h ∙ ap (λ p. has_turn p None) e))
turn_seen o (Some z) w e h = (z, refl, subst (λ p. has_turn p (Some z) ≡ true) e h)

-- a mutator has read the season word as it is, and it is its section's turn
pub in-turn : (x : TableState) (i : ℕ) (s : SeatState) (step : Step) (w : ℕ) → Goes x i s step → may_mutate s ≡ true → s.section ≡ Some w → (season_of s ≡ season_in x) × (has_turn (Some w) (Some (season_of s)) ≡ true)
in-turn x i s step w g m e =
    let a = and_parts s.active (has_turn s.section s.season_seen) m in
    let z = turn_seen s.section s.season_seen w e a.1 in
    let knows : KnowsSeason (season_in x) s = mine x.core i s step (KnowsSeason (season_in x)) (taken x i s step g) g.whole.core.sound.season.season_known in
    let is : season_of s ≡ z.0 = ap (λ o. unwrap_or o 0) z.1 in
    let same : season_in x ≡ z.0 = subst (λ (o : Option ℕ). IfSome o (λ y. season_in x ≡ y)) z.1 (knows a.0) in
    (is ∙ sym same, subst (λ y. has_turn (Some w) (Some y) ≡ true) (sym is) z.2)

-- the heap of a section is one of all
section_heap : (xs : List SectionState) (w : ℕ) (y : SectionState) → slice_get xs w ≡ Some y → Contains (heaps_of (meanings_of xs)) y.meaning.heap
section_heap xs w y h = heap-there (meanings_of xs) w y.meaning (slice_get-map (λ (x : SectionState). x.meaning) xs w ∙ ap (option_map (λ (x : SectionState). x.meaning)) h)

-- there is a first section if there is any
first_there : (xs : List SectionState) (w : ℕ) (y : SectionState) → slice_get xs w ≡ Some y → slice_get xs 0 ≡ Some (section_at xs 0)
first_there [] w y h = absurd (omega (arith, slice_get_within [] w y h))
first_there (x ∷ xs) w y h = refl

-- the place of an object that the seat makes
abbrev pub made_place : SeatState → ℕ → SectionState → Place
made_place s c y = record { cell = c; season = season_of s; heap = y.meaning.heap }

-- in the warehouses' turn the plan says what the catalogue is
beside_warehouse : (x : TableState) (i : ℕ) (s : SeatState) (step : Step) (w c : ℕ) (y : SectionState) → Goes x i s step → may_mutate s ≡ true → s.section ≡ Some (suc w) → slice_get x.sections (suc w) ≡ Some y
    → (h : Heap) → Contains (heaps_beside x.core.shape x.plan x.sections (suc w) (made_place s c y)) h → Contains (heaps_of (meanings_of x.sections)) h
beside_warehouse x i s step w c y g m e there h (zero, below, is) =
    let turn = in-turn x i s step (suc w) g m e in
    let odd : season_in x % 2 ≡ 1 = subst (λ z. z % 2 ≡ 1) turn.0 (odd_turn w (season_of s) turn.1) in
    let plan : (section_at x.sections 0).meaning.heap ≡ planned x.core.shape x.plan (season_of s) = g.whole.told.seasons.planned_there odd ∙ ap (λ z. planned x.core.shape x.plan z) (sym turn.0) in
    subst (Contains (heaps_of (meanings_of x.sections))) (plan ∙ is) (section_heap x.sections 0 (section_at x.sections 0) (first_there x.sections (suc w) y there))
beside_warehouse x i s step w c y g m e there h (suc zero, below, is) = subst (Contains (heaps_of (meanings_of x.sections))) is (section_heap x.sections (suc w) y there)
beside_warehouse x i s step w c y g m e there h (suc (suc k), below, is) = absurd (omega (arith, below))

-- a warehouse's turns were all before an even season
warehouse_past : (z w n : ℕ) → n ≤ z → z % 2 ≡ 0 → has_turn (Some (suc w)) (Some n) ≡ true → n < z
warehouse_past z w n l even odd = let o : n % 2 ≡ 1 = odd_turn w n odd in omega (arith, l, even, o)

after_first : (j k : ℕ) → j ≡ 1 + k → j ≡ suc k
after_first j k e = omega (arith, e)

-- in the catalogue's turn the warehouses are as they were left
beside_catalogue : (x : TableState) (i : ℕ) (s : SeatState) (step : Step) (c : ℕ) (y : SectionState) (rest : List SectionState) → Goes x i s step → may_mutate s ≡ true → s.section ≡ Some 0 → x.sections ≡ y ∷ rest
    → heaps_beside x.core.shape x.plan x.sections 0 (made_place s c y) ≡ heaps_of (meanings_of x.sections)
beside_catalogue x i s step c y rest g m e split =
    let turn = in-turn x i s step 0 g m e in
    let z : ℕ = season_of s in
    let even : z % 2 ≡ 0 = eqb-true (z % 2) 0 turn.1 in
    let at : (k j : ℕ) (u : SectionState) → j ≡ 1 + k → slice_get rest k ≡ Some u → slice_get x.sections j ≡ Some u = λ k j u d h. ap (λ l. slice_get l j) split ∙ (ap (λ n. slice_get (y ∷ rest) n) (after_first j k d) ∙ h) in
    let past : (k j : ℕ) (u : SectionState) → j ≡ 1 + k → slice_get rest k ≡ Some u → (n : ℕ) (t : PlainStep) → slice_get u.history n ≡ Some t → t.season < z =
    λ k j u d h n t f.
    let a = g.whole.told.turns.turns_past j u (at k j u d h) n t f in
    warehouse_past z k t.season (subst (λ l. t.season ≤ l) (sym turn.0) a.0) even (subst (λ l. has_turn (Some l) (Some t.season) ≡ true) (after_first j k d) a.1) in
    let now : heaps_before x.core.shape z 1 rest ≡ heaps_of (meanings_of rest) =
    heaps-now x.core.shape z 1 rest
    (λ k j u d h.
    before-next z (empty_heap x.core.shape.fields j) u.history (past k j u d h)
    ∙ (ap (λ l. heap_before (l + 1) (empty_heap x.core.shape.fields j) u.history) turn.0 ∙ sym (g.whole.told.turns.last j u (at k j u d h)))) in
    ap (λ l. y.meaning.heap ∷ heaps_before x.core.shape z 1 (drop 1 l)) split ∙ (ap (λ hs. y.meaning.heap ∷ hs) now ∙ ap (λ l. heaps_of (meanings_of l)) (sym split))

-- so each heap beside a new object is one of those of now
beside_now : (x : TableState) (i : ℕ) (s : SeatState) (step : Step) (w c : ℕ) (y : SectionState) → Goes x i s step → may_mutate s ≡ true → s.section ≡ Some w → slice_get x.sections w ≡ Some y
    → (h : Heap) → Contains (heaps_beside x.core.shape x.plan x.sections w (made_place s c y)) h → Contains (heaps_of (meanings_of x.sections)) h
beside_now x i s step zero c y g m e there h a =
    let split = headed x.sections y there in
    subst (λ hs. Contains hs h) (beside_catalogue x i s step c y split.0 g m e split.1) a
  where
    headed : (xs : List SectionState) (y : SectionState) → slice_get xs 0 ≡ Some y → (rest : List SectionState) × (xs ≡ y ∷ rest)
    headed [] y h = absurd (omega (arith, slice_get_within [] 0 y h))
    headed (u ∷ us) y h = (us, ap (λ v. v ∷ us) (same_Some u y h))
beside_now x i s step (suc w) c y g m e there h a = beside_warehouse x i s step w c y g m e there h a

-- where a reachable object lies: its cell is in use
reached_lies : (x : TableState) (i : ℕ) (s : SeatState) (step : Step) (w m : ℕ) (y : SectionState) (o : Place) → IsFalse x.core.shape.sharing → Goes x i s step → slice_get x.sections w ≡ Some y → slice_get y.places m ≡ Some o
    → IsReachable (heaps_of (meanings_of x.sections)) (record { section = w; number = m }) → Used x.core o.cell ≡ true
reached_lies x i s step w m y o alone g there at reach =
    let ids : List ℕ = (words_of x.core.shape x.core.words).identities in
    let d = objects_have_cells x.core (meanings_of x.sections) g.whole.core (g.whole.stands alone) (record { section = w; number = m }) reach in
    let used : Used x.core d.0 ≡ true = d.1.0 in
    let lies = g.whole.told.placed.at_place d.0 (used-exists x.core g.whole.core d.0 used) used in
    let section : section_of_cell ids d.0 ≡ w = ap (λ (n : Name). n.section) d.1.1 in
    let number : number_of_cell ids d.0 ≡ m = ap (λ (n : Name). n.number) d.1.1 in
    let same : lies.0 ≡ y = same_Some lies.0 y (sym lies.1 ∙ ap (λ k. slice_get x.sections k) section ∙ there) in
    let place : lies.2.0 ≡ o = same_Some lies.2.0 o (sym lies.2.1 ∙ ap (λ k. slice_get lies.0.places k) number ∙ ap (λ (u : SectionState). slice_get u.places m) same ∙ at) in
    subst (λ k. Used x.core k ≡ true) (sym lies.2.2 ∙ ap (λ (p : Place). p.cell) place) used

-- the cell to which the last part goes isn't that of an object that is reachable just before
pub new-apart : (x : TableState) (i : ℕ) (s : SeatState) (c part word w m : ℕ) (y : SectionState) (o : Place) → IsFalse x.core.shape.sharing → Goes x i s (StoreNew c part word) → s.section ≡ Some w → 0 < part → slice_get x.sections w ≡ Some y → slice_get y.places m ≡ Some o
    → IsReachable (heaps_beside x.core.shape x.plan x.sections w (made_place s c y)) (record { section = w; number = m }) → c ≡ o.cell → ⊥
new-apart x i s c part word w m y o alone g e late there at reach same =
    let step : Step = StoreNew c part word in
    let may : may_mutate s ≡ true = (and_parts (nat_lt c x.core.shape.cells && nat_le part (x.core.shape.fields + 1)) (may_mutate s) g.ok.0).1 in
    let free = making-is-free x.core i s step c part (taken x i s step g) (next-makes s.cache c part (λ z. omega (arith, z, late)) g.ok.1.0) in
    let unused : Used x.core c ≡ false = free-not-used x.core i s step c (taken x i s step g) free in
    let now = reach-more (heaps_beside x.core.shape x.plan x.sections w (made_place s c y)) (heaps_of (meanings_of x.sections)) (beside_now x i s step w c y g may e there) (record { section = w; number = m }) reach in
    let used : Used x.core o.cell ≡ true = reached_lies x i s step w m y o alone g there at now in
    absurd (true≢false (sym used ∙ ap (Used x.core) (sym same) ∙ unused))

-- no turn of the section that changes is added before this season or an earlier one
abbrev AddsLate : ℕ → Option ℕ → (SectionState → SectionState) → List SectionState → Type 0
AddsLate season o f xs =
    (w z : ℕ) (y : SectionState) → o ≡ Some w → slice_get xs w ≡ Some y → z ≤ season → (base : Heap) → heap_before z base (f y).history ≡ heap_before z base y.history

-- two objects of a section, of which the newer wasn't made where the older was reachable
abbrev IsApart : Shape → List (List Op) → List SectionState → ℕ → ℕ → Place → Place → Type 0
IsApart sh plan xs w m p o = IsReachable (heaps_beside sh plan xs w p) (record { section = w; number = m }) → p.cell ≡ o.cell → ⊥

-- two objects of the section that changes were there, or the newer is new and lies apart
abbrev AddsApart : Shape → List (List Op) → ℕ → Option ℕ → (SectionState → SectionState) → List SectionState → Type 0
AddsApart sh plan season o f xs =
    (w : ℕ) (y : SectionState) → o ≡ Some w → slice_get xs w ≡ Some y → (n m : ℕ) (p q : Place) → m < n → slice_get (f y).places n ≡ Some p → slice_get (f y).places m ≡ Some q
    → ((slice_get y.places n ≡ Some p) × (slice_get y.places m ≡ Some q)) ⊎ ((p.season ≤ season) × IsApart sh plan xs w m p q)

-- the heaps beside an object are the same after the step
beside_same : (sh : Shape) (plan : List (List Op)) (season : ℕ) (o : Option ℕ) (f : SectionState → SectionState) (xs : List SectionState) (w : ℕ) (p : Place) → AddsLate season o f xs → p.season ≤ season
    → heaps_beside sh plan (with_section o f xs) w p ≡ heaps_beside sh plan xs w p
beside_same sh plan season o f xs (suc w) p late l = refl
beside_same sh plan season None f xs zero p late l = refl
beside_same sh plan season (Some k) f [] zero p late l = refl
beside_same sh plan season (Some zero) f (x ∷ xs) zero p late l = refl
beside_same sh plan season (Some (suc k)) f (x ∷ xs) zero p late l =
    ap (λ (hs : List Heap). p.heap ∷ hs)
    (heaps-set sh p.season 1 xs k (f (section_at xs k))
    (λ y g base. ap (λ (u : SectionState). heap_before p.season base (f u).history) (get_or_from_slice_get xs k y no_section g) ∙ late (suc k) p.season y refl g l base))

-- sections stay apart, if one changes so
apart_left : (sh : Shape) (plan : List (List Op)) (season : ℕ) (o : Option ℕ) (f : SectionState → SectionState) (xs : List SectionState) → Turns sh season xs → AreApart sh plan xs
    → AddsLate season o f xs → AddsApart sh plan season o f xs → AreApart sh plan (with_section o f xs)
apart_left sh plan season o f xs turns apart late adds = each-left P f o xs other own
  where
    P : ℕ → SectionState → Type 0
    P w y = (n m : ℕ) (p q : Place) → m < n → slice_get y.places n ≡ Some p → slice_get y.places m ≡ Some q → IsReachable (heaps_beside sh plan (with_section o f xs) w p) (record { section = w; number = m }) → p.cell ≡ q.cell → ⊥

    back : (w m : ℕ) (p q : Place) → p.season ≤ season → IsApart sh plan xs w m p q → IsApart sh plan (with_section o f xs) w m p q
    back w m p q l a r e = a (subst (λ hs. IsReachable hs (record { section = w; number = m })) (beside_same sh plan season o f xs w p late l) r) e

    old : (w : ℕ) (y : SectionState) → slice_get xs w ≡ Some y → (n m : ℕ) (p q : Place) → m < n → slice_get y.places n ≡ Some p → slice_get y.places m ≡ Some q → IsApart sh plan (with_section o f xs) w m p q
    old w y g n m p q l a b = back w m p q (turns.places_past w y g n p a).0 (apart w y g n m p q l a b)

    other : (w : ℕ) (y : SectionState) → slice_get xs w ≡ Some y → (o ≡ Some w → ⊥) → P w y
    other w y g d n m p q l a b = old w y g n m p q l a b

    own : (w : ℕ) (y : SectionState) → slice_get xs w ≡ Some y → o ≡ Some w → P w (f y)
    own w y g e n m p q l a b =
        ⊎_elim
        (λ (h : (slice_get y.places n ≡ Some p) × (slice_get y.places m ≡ Some q)). old w y g n m p q l h.0 h.1)
        (λ (h : (p.season ≤ season) × IsApart sh plan xs w m p q). back w m p q h.0 h.1)
        (adds w y e g n m p q l a b)

-- what is asked of the section that the step changes
abbrev StaysApart : TableState → SeatState → (SectionState → SectionState) → Type 0
StaysApart x s f = AddsLate (season_in x) s.section f x.sections × AddsApart x.core.shape x.plan (season_in x) s.section f x.sections

-- a turn of a mutator is one of this season
turn_late : (x : TableState) (i : ℕ) (s : SeatState) (step : Step) (w z : ℕ) (y : SectionState) (after base : Heap) → Goes x i s step → may_mutate s ≡ true → s.section ≡ Some w → z ≤ season_in x
    → heap_before z base (y.history ++ record { season = season_of s; heap = after } ∷ []) ≡ heap_before z base y.history
turn_late x i s step w z y after base g m e l = before-late z base y.history (record { season = season_of s; heap = after }) (subst (λ k. z ≤ k) (sym (in-turn x i s step w g m e).0) l)

-- of two places after a new one at the end, both were there, or the later one is new
new_places : (ps : List Place) (b : Bool) (new : Place) (n m : ℕ) (p q : Place) → m < n → slice_get (if b then ps ++ new ∷ [] else ps) n ≡ Some p → slice_get (if b then ps ++ new ∷ [] else ps) m ≡ Some q
    → ((slice_get ps n ≡ Some p) × (slice_get ps m ≡ Some q)) ⊎ ((b ≡ true) × (new ≡ p) × (slice_get ps m ≡ Some q))
new_places ps false new n m p q l a c = inl (a, c)
new_places ps true new n m p q l a c =
    ⊎_elim
    (λ (h : (n ≡ length ps) × (new ≡ p)). inr (refl, h.1, earlier (omega (arith, l, h.0))))
    (λ (h : slice_get ps n ≡ Some p). inl (h, earlier (omega (arith, l, slice_get_within ps n p h))))
    (push-cases ps n new p a)
  where
    earlier : m < length ps → slice_get ps m ≡ Some q
    earlier h = ⊎_elim (λ (k : (m ≡ length ps) × (new ≡ q)). absurd (omega (arith, h, k.0))) (λ (k : slice_get ps m ≡ Some q). k) (push-cases ps m new q c)

-- a new object lies apart
made_apart : (x : TableState) (i : ℕ) (s : SeatState) (c part word : ℕ) → IsFalse x.core.shape.sharing → Goes x i s (StoreNew c part word) → StaysApart x s (section_after x.core.shape x.plan s (StoreNew c part word))
made_apart x i s c part word alone g = (λ w z y e there l base. refl, adds)
  where
    step : Step
    step = StoreNew c part word

    may : may_mutate s ≡ true
    may = (and_parts _ (may_mutate s) g.ok.0).1

    last : Bool
    last = eqb part (x.core.shape.fields + 1)

    adds : AddsApart x.core.shape x.plan (season_in x) s.section (section_after x.core.shape x.plan s step) x.sections
    adds w y e there n m p q l a b =
        ⊎_elim
        (λ (h : (slice_get y.places n ≡ Some p) × (slice_get y.places m ≡ Some q)). inl h)
        (λ (h : (last ≡ true) × (made_place s c y ≡ p) × (slice_get y.places m ≡ Some q)).
        let late : 0 < part = omega (arith, eqb-true part (x.core.shape.fields + 1) h.0) in
        let now : season_of s ≤ season_in x = omega (arith, (in-turn x i s step w g may e).0) in
        inr (subst (λ (r : Place). (r.season ≤ season_in x) × IsApart x.core.shape x.plan x.sections w m r q) h.1 (now, new-apart x i s c part word w m y q alone g e late there h.2)))
        (new_places y.places last (made_place s c y) n m p q l a b)

stays_apart : (x : TableState) (i : ℕ) (s : SeatState) (step : Step) → IsFalse x.core.shape.sharing → Goes x i s step → StaysApart x s (section_after x.core.shape x.plan s step)
stays_apart x i s (StoreField v j o) alone g =
    (λ w z y e there l base. turn_late x i s (StoreField v j o) w z y _ base g (and_parts _ (may_mutate s) g.ok.0).1 e l, λ w y e there n m p q l a b. inl (a, b))
stays_apart x i s (StoreValue v n) alone g =
    (λ w z y e there l base. turn_late x i s (StoreValue v n) w z y _ base g (and_parts _ (may_mutate s) g.ok.0).1 e l, λ w y e there n m p q l a b. inl (a, b))
stays_apart x i s (StoreRoot v r) alone g =
    (λ w z y e there l base. turn_late x i s (StoreRoot v r) w z y _ base g (and_parts _ (may_mutate s) g.ok.0).1 e l, λ w y e there n m p q l a b. inl (a, b))
stays_apart x i s (HoldRoot v r) alone g =
    (λ w z y e there l base. turn_late x i s (HoldRoot v r) w z y _ base g (and_parts _ (may_mutate s) g.ok.0).1 e l, λ w y e there n m p q l a b. inl (a, b))
stays_apart x i s (StoreNew c part word) alone g = made_apart x i s c part word alone g
stays_apart x i s step alone g = (λ w z y e there l base. refl, λ w y e there n m p q l a b. inl (a, b))

-- each step that a seat may take keeps objects apart
pub apart-kept : (x : TableState) (i : ℕ) (s : SeatState) (step : Step) → IsFalse x.core.shape.sharing → Goes x i s step → AreApart (state_after x (event i step)).core.shape (state_after x (event i step)).plan (state_after x (event i step)).sections
apart-kept x i s step alone g =
    let a = stays_apart x i s step alone g in
    kept-whole (λ sh words seats xs. AreApart sh x.plan xs) x i s step g
    (apart_left x.core.shape x.plan (season_in x) s.section (section_after x.core.shape x.plan s step) x.sections g.whole.told.turns (g.whole.told.apart alone) a.0 a.1)
