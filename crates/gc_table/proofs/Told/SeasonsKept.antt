-- Only the catalogue's seat moves the season on, and it stores only in its own turn, so the warehouses find what the plan says.
use Rattle.std.proofs.Common.{ℕ, ◌≡◌, ◌+◌, ◌%◌, ◌<◌, zero, suc, List, length, arith, refl, sym, ap, ◌∙◌, subst, Bool, true, false, ◌&&◌, eqb, Option, Some, None, ⊎_elim}
use Rattle.std.specs.Prelude.{IsTrue, IfSome, nat_lt, unwrap_or}
use Rattle.std.proofs.lemmas.Bool.{true≢false, false≢true, and_parts, ltb-true, eqb-true, eq-eqb, cases_Bool}
use Rattle.std.proofs.lemmas.List.{get_or-set_same, get_or-set_other}
use Rattle.std.proofs.lemmas.Option.{same_Some}
use Rattle.mark_core.specs.Layout.{Words, words_of, region_sizes}
use Rattle.mark_core.specs.Seats.{has_turn, may_mutate}
use Rattle.mark_core.specs.Steps.MutatorSteps.{in_variables}
use Rattle.mark_core.specs.Effects.{written}
use Rattle.mark_core.specs.Steps.{Core}
use Rattle.mark_core.proofs.Writing.Places.{words-get}
use Rattle.mark_core.proofs.Known.{found, words_left}
use Rattle.mark_core.proofs.Blocks.BlocksStopped.{Taken, words-read, mine as own-fact}
use Rattle.mark_core.proofs.Writing.Writes.{season-kept}
use Rattle.mark_core.specs.declared.kinds.Shape.{Shape}
use Rattle.mark_core.specs.declared.kinds.Step.{Step}
use Rattle.mark_core.specs.declared.kinds.Step.TheVariants.{StoreField, StoreValue, StoreRoot, ReadSeason, NextSeason, HoldRoot}
use Rattle.mark_core.specs.declared.seat.SeatState.{SeatState}
use Rattle.plain_heap.specs.declared.operation.Op.{Op}
use Rattle.gc_table.specs.declared.view.SectionState.{SectionState}
use Rattle.gc_table.specs.PlainSteps.{own_section, changes_heap}
use Rattle.gc_table.specs.Sections.{planned, section_after}
use Rattle.gc_table.specs.TableState.{TableState, no_section, section_at, with_section, state_after}
use Rattle.gc_table.specs.Told.{Seasons}
use Rattle.gc_table.proofs.State.StateSteps.{Goes, event, taken, sections_left, kept-whole}

-- the season word
abbrev pub season_in : Core → ℕ
season_in c = (words_of c.shape c.words).season

-- the step moves the season on
abbrev pub moves_season : Step → Bool
moves_season NextSeason = true
moves_season step = false

-- every other step leaves it
pub season-same : (c : Core) (i : ℕ) (s : SeatState) (step : Step) → Taken c i s step → moves_season step ≡ false → (words_left c s step).season ≡ season_in c
season-same c i s NextSeason k e = absurd (true≢false e)
season-same c i s ReadSeason k e = ap (λ (w : Words). w.season) (words-read c i s ReadSeason k refl)
season-same c i s step k e = season-kept c.shape s step (written c.shape s step (found c s step)) (words_of c.shape c.words) refl

pub season-next : (c : Core) (i : ℕ) (s : SeatState) → Taken c i s NextSeason → (words_left c s NextSeason).season ≡ season_in c + 1
season-next c i s k =
    let same : found c s NextSeason ≡ season_in c = words-get (region_sizes c.shape) 13 c.words 1 0 (omega arith) in
    let below : season_in c < 128 = ltb-true (season_in c) 128 k.ok.1.1.0 in
    omega (arith, same, below)

turn_of : (season : ℕ) (o z : Option ℕ) → IfSome z (λ y. season ≡ y) → has_turn o z ≡ true → (w : ℕ) × (o ≡ Some w) × (z ≡ Some season) × (has_turn (Some w) (Some season) ≡ true)
turn_of season None z k e = absurd (false≢true e)
turn_of season (Some w) None k e = absurd (false≢true e)
turn_of season (Some w) (Some y) k e = (w, refl, ap (λ (n : ℕ). Some n) (sym k), subst (λ (n : ℕ). has_turn (Some w) (Some n) ≡ true) (sym k) e)

-- a mutator has seen the season as it is, and it is the turn of its section
pub in-turn : (c : Core) (i : ℕ) (s : SeatState) (step : Step) → Taken c i s step → may_mutate s ≡ true → (w : ℕ) × (s.section ≡ Some w) × (s.season_seen ≡ Some (season_in c)) × (has_turn (Some w) (Some (season_in c)) ≡ true)
in-turn c i s step k e =
    let a = and_parts s.active (has_turn s.section s.season_seen) e in
    turn_of (season_in c) s.section s.season_seen (own-fact c i s step (λ (t : SeatState). IsTrue t.active → IfSome t.season_seen (λ y. season_in c ≡ y)) k k.core.sound.season.season_known a.0) a.1

-- a store is a mutator's
pub storer-mutates : (c : Core) (i : ℕ) (s : SeatState) (step : Step) → Taken c i s step → changes_heap step ≡ true → may_mutate s ≡ true
storer-mutates c i s (StoreField v j o) k e = (and_parts (nat_lt v 32 && nat_lt j c.shape.fields && in_variables o) (may_mutate s) k.ok.0).1
storer-mutates c i s (StoreValue v n) k e = (and_parts (nat_lt v 32) (may_mutate s) k.ok.0).1
storer-mutates c i s (StoreRoot v r) k e = (and_parts (nat_lt v 32) (may_mutate s) k.ok.0).1
storer-mutates c i s (HoldRoot v r) k e = (and_parts (nat_lt v 32) (may_mutate s) k.ok.0).1
storer-mutates c i s step k e = absurd (false≢true e)

-- every step that is no store leaves the plain heap
pub heap-same : (sh : Shape) (plan : List (List Op)) (s : SeatState) (step : Step) (y : SectionState) → changes_heap step ≡ false → (section_after sh plan s step y).meaning.heap ≡ y.meaning.heap
heap-same sh plan s (StoreField v j o) y e = absurd (true≢false e)
heap-same sh plan s (StoreValue v n) y e = absurd (true≢false e)
heap-same sh plan s (StoreRoot v r) y e = absurd (true≢false e)
heap-same sh plan s (HoldRoot v r) y e = absurd (true≢false e)
heap-same sh plan s step y e = refl

seasons_same : (sh : Shape) (plan : List (List Op)) (s : SeatState) (step : Step) (y : SectionState) → moves_season step ≡ false → (section_after sh plan s step y).seasons ≡ y.seasons
seasons_same sh plan s NextSeason y e = absurd (true≢false e)
seasons_same sh plan s step y e = refl

-- the catalogue's section after a step is as before, or the seat's own
first_left : (P : SectionState → Type 0) (o : Option ℕ) (f : SectionState → SectionState) (xs : List SectionState) → 0 < length xs → P (section_at xs 0) → (o ≡ Some 0 → P (f (section_at xs 0))) → P (section_at (with_section o f xs) 0)
first_left P None f xs h other own = other
first_left P (Some zero) f xs h other own = subst P (sym (get_or-set_same xs 0 (f (section_at xs 0)) no_section h)) (own refl)
first_left P (Some (suc k)) f xs h other own = subst P (sym (get_or-set_other xs (suc k) 0 (f (section_at xs (suc k))) no_section (λ e. omega (arith, e)))) other

-- what is said of the catalogue's section
abbrev InSeason : Shape → List (List Op) → ℕ → SectionState → Type 0
InSeason sh plan season y = (season ≡ y.seasons) × (season % 2 ≡ 1 → y.meaning.heap ≡ planned sh plan season)

before : (x : TableState) (i : ℕ) (s : SeatState) (step : Step) → Goes x i s step → InSeason x.core.shape x.plan (season_in x.core) (section_at x.sections 0)
before x i s step g = (g.whole.told.seasons.moved, g.whole.told.seasons.planned_there)

some_sections : (x : TableState) (i : ℕ) (s : SeatState) (step : Step) → Goes x i s step → 0 < length x.sections
some_sections x i s step g = omega (arith, g.whole.core.formed.shaped.sections, g.whole.sections)

-- a store of the catalogue's seat is in an even season
even_there : (c : Core) (i : ℕ) (s : SeatState) (step : Step) → Taken c i s step → changes_heap step ≡ true → s.section ≡ Some 0 → season_in c % 2 ≡ 0
even_there c i s step k f e =
    let a = in-turn c i s step k (storer-mutates c i s step k f) in
    let zero_there : a.0 ≡ 0 = same_Some a.0 0 (sym a.1 ∙ e) in
    eqb-true (season_in c % 2) 0 (subst (λ (w : ℕ). has_turn (Some w) (Some (season_in c)) ≡ true) zero_there a.3)

-- a step that leaves the season
season_stays : (x : TableState) (i : ℕ) (s : SeatState) (step : Step) → Goes x i s step → moves_season step ≡ false → InSeason x.core.shape x.plan (season_in x.core) (section_at (sections_left x s step) 0)
season_stays x i s step g f =
    let y : SectionState = section_at x.sections 0 in
    let b = before x i s step g in
    first_left (InSeason x.core.shape x.plan (season_in x.core)) s.section (section_after x.core.shape x.plan s step) x.sections (some_sections x i s step g) b
    (λ e. (
      b.0 ∙ sym (seasons_same x.core.shape x.plan s step y f),
      λ odd.
          ⊎_elim
          (λ (h : changes_heap step ≡ true). absurd (omega (arith, odd, even_there x.core i s step (taken x i s step g) h e)))
          (λ (h : changes_heap step ≡ false). heap-same x.core.shape x.plan s step y h ∙ b.1 odd)
          (cases_Bool (changes_heap step)),
    ))

-- the catalogue's seat moves the season on
season_moves : (x : TableState) (i : ℕ) (s : SeatState) → Goes x i s NextSeason → InSeason x.core.shape x.plan (season_in x.core + 1) (section_at (sections_left x s NextSeason) 0)
season_moves x i s g =
    let y : SectionState = section_at x.sections 0 in
    let b = before x i s NextSeason g in
    let own : own_section s ≡ 0 = ap (λ (o : Option ℕ). unwrap_or o 0) g.asks.0 in
    let asked : IsTrue (eqb (y.seasons % 2) 0) → y.meaning.heap ≡ planned x.core.shape x.plan (y.seasons + 1) =
    subst (λ (w : ℕ). IsTrue (eqb ((section_at x.sections w).seasons % 2) 0) → (section_at x.sections w).meaning.heap ≡ planned x.core.shape x.plan ((section_at x.sections w).seasons + 1)) own g.asks.1 in
    let after : InSeason x.core.shape x.plan (season_in x.core + 1) (section_after x.core.shape x.plan s NextSeason y) =
    (ap (λ (n : ℕ). n + 1) b.0, λ odd. asked (eq-eqb (y.seasons % 2) 0 (omega (arith, odd, b.0))) ∙ ap (λ (n : ℕ). planned x.core.shape x.plan (n + 1)) (sym b.0)) in
    subst (λ (o : Option ℕ). InSeason x.core.shape x.plan (season_in x.core + 1) (section_at (with_section o (section_after x.core.shape x.plan s NextSeason) x.sections) 0)) (sym g.asks.0)
    (subst (InSeason x.core.shape x.plan (season_in x.core + 1)) (sym (get_or-set_same x.sections 0 (section_after x.core.shape x.plan s NextSeason y) no_section (some_sections x i s NextSeason g))) after)

seasons_at : (x : TableState) (i : ℕ) (s : SeatState) (step : Step) → Goes x i s step → InSeason x.core.shape x.plan (words_left x.core s step).season (section_at (sections_left x s step) 0)
seasons_at x i s NextSeason g = subst (λ (z : ℕ). InSeason x.core.shape x.plan z (section_at (sections_left x s NextSeason) 0)) (sym (season-next x.core i s (taken x i s NextSeason g))) (season_moves x i s g)
seasons_at x i s step g = subst (λ (z : ℕ). InSeason x.core.shape x.plan z (section_at (sections_left x s step) 0)) (sym (season-same x.core i s step (taken x i s step g) refl)) (season_stays x i s step g refl)

seasons_left : (x : TableState) (i : ℕ) (s : SeatState) (step : Step) → Goes x i s step → Seasons x.core.shape x.plan (words_left x.core s step).season (sections_left x s step)
seasons_left x i s step g = let a = seasons_at x i s step g in record { moved = a.0; planned_there = a.1 }

pub seasons-kept : (x : TableState) (i : ℕ) (s : SeatState) (step : Step) → Goes x i s step
    → Seasons (state_after x (event i step)).core.shape (state_after x (event i step)).plan (words_of (state_after x (event i step)).core.shape (state_after x (event i step)).core.words).season (state_after x (event i step)).sections
seasons-kept x i s step g = kept-whole (λ sh w seats xs. Seasons sh x.plan w.season xs) x i s step g (seasons_left x i s step g)
