-- After an exact cycle in the catalogue's turn each cell in use stays reachable, until the catalogue's seat stores again.
use Rattle.mark_core.proofs.References.ReferencesNow.{now-left, assigns_root}
use Rattle.mark_core.proofs.Consequences.Closing.{roots-still}
use Rattle.mark_core.proofs.Blocks.BlocksStopped.{still-while-knows}
use Rattle.mark_core.specs.Variables.{roots_now}
use Rattle.mark_core.specs.Cells.{IsReachableCell}
use Rattle.std.proofs.Common.{ℕ, zero, suc, ◌≡◌, ◌%◌, ◌<◌, List, [], ◌∷◌, set, length, arith, refl, sym, ap, ◌∙◌, subst, Bool, true, false, ◌&&◌, eqb, cond, Option, Some, None, ⊎_elim}
use Rattle.std.specs.Prelude.{IsTrue, IfSome}
use Rattle.std.proofs.lemmas.Bool.{false≢true, and_parts, or_cases, or_left, eqb-true, ne_eqb}
use Rattle.std.proofs.lemmas.List.{length-set, get_or-set_same}
use Rattle.std.proofs.lemmas.List.Folds.{list_any_at}
use Rattle.mark_core.specs.Shapes.{EachCell}
use Rattle.mark_core.specs.Layout.{Words, words_of}
use Rattle.mark_core.specs.Seats.{saw, is_the, has_turn, may_mutate}
use Rattle.mark_core.specs.Closed.{IsReachableIn}
use Rattle.mark_core.specs.Sound.{some_exact}
use Rattle.mark_core.specs.Effects.{seat_after}
use Rattle.mark_core.specs.Steps.{Core}
use Rattle.mark_core.proofs.Known.{found, words_left, seats_left}
use Rattle.mark_core.proofs.Blocks.BlocksStopped.{Taken, within, mine}
use Rattle.mark_core.proofs.Exacts.ExactsKept.{ExactSound, exact-kept_by}
use Rattle.mark_core.proofs.References.ReferencesRoots.{Used, UsedAfter}
use Rattle.mark_core.proofs.Used.UsedSeats.{IsMadeBy}
use Rattle.mark_core.proofs.Used.UsedKept.{used-back}
use Rattle.mark_core.specs.declared.kinds.Shape.{Shape}
use Rattle.mark_core.specs.declared.kinds.Phase.{Phase}
use Rattle.mark_core.specs.declared.kinds.Phase.TheVariants.{Idle, Marking, Drain, Sweep, Clear, Full}
use Rattle.mark_core.specs.declared.kinds.Step.{Step}
use Rattle.mark_core.specs.declared.kinds.Step.TheVariants.{StoreField, StoreValue, StoreRoot, StoreNew, StorePhase, NextSeason, ExchangeField, ExchangeValue, StoreSlot, HoldRoot}
use Rattle.mark_core.specs.declared.seat.SeatState.{SeatState}
use Rattle.plain_heap.specs.declared.operation.Op.{Op}
use Rattle.gc_table.specs.declared.view.SectionState.{SectionState}
use Rattle.gc_table.specs.Sections.{section_after}
use Rattle.gc_table.specs.TableState.{TableState, no_section, section_at, with_section, state_after}
use Rattle.gc_table.specs.Told.{IsSettled}
use Rattle.gc_table.proofs.Stands.StandsKept.{ReachedAfter, reach-still, stores_cell}
use Rattle.gc_table.proofs.State.StateSteps.{Goes, event, taken, may-happen, sections_left, kept-whole}

-- the first section that a step leaves is the one that was there, or the catalogue's own after the step
first_left : (P : SectionState → Type 0) (f : SectionState → SectionState) (o : Option ℕ) (xs : List SectionState) → P no_section → ((o ≡ Some 0 → ⊥) → P (section_at xs 0)) → (o ≡ Some 0 → P (f (section_at xs 0))) → P (section_at (with_section o f xs) 0)
first_left P f None xs none other own = other (λ e. absurd (cc))
first_left P f (Some zero) [] none other own = none
first_left P f (Some zero) (x ∷ xs) none other own = own refl
first_left P f (Some (suc w)) [] none other own = none
first_left P f (Some (suc w)) (x ∷ xs) none other own = other (λ e. absurd (cc))

-- each cell in use is reachable
abbrev AllReached : Core → Type 0
AllReached c = EachCell c.shape (λ y. IsTrue (Used c y) → IsReachableIn c y)

-- after the step each cell in use is reachable
abbrev AllReachedAfter : Core → ℕ → SeatState → Step → Type 0
AllReachedAfter c i s step = EachCell c.shape (λ y. IsTrue (UsedAfter c i s step y) → ReachedAfter c i s step y)

-- a step that stores no reference and makes no cell leaves them so
still_reached : (c : Core) (i : ℕ) (s : SeatState) (step : Step) → Taken c i s step → assigns_root step ≡ false → stores_cell step ≡ false → ((y : ℕ) → IsMadeBy c.shape step y → ⊥) → AllReached c → AllReachedAfter c i s step
still_reached c i s step k r f none a y h u =
    let was : Used c y ≡ true = ⊎_elim (λ (b : Used c y ≡ true). b) (λ (b : IsMadeBy c.shape step y). absurd (none y b)) (used-back c i s step y k u) in
    reach-still c i s step y k r f (a y h was)

-- what is settled before a step, and after it
abbrev Settled : Core → SectionState → Type 0
Settled c x = IsSettled c.shape (words_of c.shape c.words) c.seats x

abbrev SettledAfter : Core → ℕ → SeatState → Step → SectionState → Type 0
SettledAfter c i s step x = IsSettled c.shape (words_left c s step) (seats_left c i s step) x

still_settled : (c : Core) (i : ℕ) (s : SeatState) (step : Step) (x : SectionState) → Taken c i s step → assigns_root step ≡ false → stores_cell step ≡ false → ((y : ℕ) → IsMadeBy c.shape step y → ⊥) → Settled c x → SettledAfter c i s step x
still_settled c i s step x k r f none st e = let a = st e in (a.0, still_reached c i s step k r f none a.1)

-- in the catalogue's turn no other section has its own
not_turn : (o seen : Option ℕ) (season : ℕ) (P : Type 0) → (o ≡ Some 0 → ⊥) → season % 2 ≡ 0 → IfSome seen (λ z. season ≡ z) → has_turn o seen ≡ true → P
not_turn None seen season P d even k e = absurd (false≢true e)
not_turn (Some w) None season P d even k e = absurd (false≢true e)
not_turn (Some zero) (Some z) season P d even k e = absurd (d refl)
not_turn (Some (suc w)) (Some z) season P d even k e = let odd : z % 2 ≡ 1 = eqb-true (z % 2) 1 (sym (ap (λ (b : Bool). eqb (z % 2) (cond b 0 1)) (ne_eqb (suc w) 0 (λ h. omega (arith, h)))) ∙ e) in absurd (omega (arith, even, k, odd))

-- so no other seat may store
others_wait : (c : Core) (i : ℕ) (s : SeatState) (step : Step) (x : SectionState) → Taken c i s step → (s.section ≡ Some 0 → ⊥) → (words_of c.shape c.words).season ≡ x.seasons → Settled c x → may_mutate s ≡ true → SettledAfter c i s step x
others_wait c i s step x k d moved st m e =
    let a = and_parts s.active (has_turn s.section s.season_seen) m in
    let season : ℕ = (words_of c.shape c.words).season in
    let knows : IfSome s.season_seen (λ z. season ≡ z) = mine c i s step (λ (t : SeatState). IsTrue t.active → IfSome t.season_seen (λ z. season ≡ z)) k k.core.sound.season.season_known a.0 in
    not_turn s.section s.season_seen season _ d (ap (λ n. n % 2) moved ∙ (st e).0) knows a.1

-- a step of a seat that isn't the catalogue's
others : (c : Core) (i : ℕ) (s : SeatState) (step : Step) (x : SectionState) → Taken c i s step → (s.section ≡ Some 0 → ⊥) → (words_of c.shape c.words).season ≡ x.seasons → Settled c x → SettledAfter c i s step x
others c i s (StoreField v j o) x k d moved st = others_wait c i s (StoreField v j o) x k d moved st (and_parts _ _ k.ok.0).1
others c i s (ExchangeField v j y o) x k d moved st = others_wait c i s (ExchangeField v j y o) x k d moved st (and_parts _ _ k.ok.0).1
others c i s (ExchangeValue v m n) x k d moved st = others_wait c i s (ExchangeValue v m n) x k d moved st (and_parts _ _ k.ok.0).1
others c i s (StoreValue v n) x k d moved st = others_wait c i s (StoreValue v n) x k d moved st (and_parts _ _ k.ok.0).1
others c i s (StoreRoot v r) x k d moved st = others_wait c i s (StoreRoot v r) x k d moved st (and_parts _ _ k.ok.0).1
others c i s (HoldRoot v r) x k d moved st = others_wait c i s (HoldRoot v r) x k d moved st (and_parts _ _ k.ok.0).1
others c i s (StoreSlot j r) x k d moved st = others_wait c i s (StoreSlot j r) x k d moved st (and_parts _ _ k.ok.0).1
others c i s (StoreNew y part word) x k d moved st = others_wait c i s (StoreNew y part word) x k d moved st (and_parts _ _ k.ok.0).1
others c i s step x k d moved st = still_settled c i s step x k refl refl (λ y e. e) st

-- the seat that moves the phase stays exact
exact_still : (c : Core) (i : ℕ) (s : SeatState) → Taken c i s (StorePhase Idle) → s.exact ≡ true → some_exact (seats_left c i s (StorePhase Idle)) ≡ true
exact_still c i s k e =
    let t : SeatState = seat_after c.shape s (StorePhase Idle) (found c s (StorePhase Idle)) in
    let here : i < length c.seats = within c i s (StorePhase Idle) k in
    list_any_at (λ (a : SeatState). a.exact) (set c.seats i t) i s (rw (length-set c.seats i t) here) (ap (λ (a : SeatState). a.exact) (get_or-set_same c.seats i t s here) ∙ or_left s.exact false e)

-- an exact cycle has ended
ended : (c : Core) (i : ℕ) (s : SeatState) (x : SectionState) → Taken c i s (StorePhase Idle) → ExactSound c.shape (words_left c s (StorePhase Idle)) (seats_left c i s (StorePhase Idle)) → (s.exact && is_the s.section 0 && eqb (x.seasons % 2) 0) ≡ true
    → (x.seasons % 2 ≡ 0) × AllReachedAfter c i s (StorePhase Idle)
ended c i s x k exact e =
    let a = and_parts (s.exact && is_the s.section 0) (eqb (x.seasons % 2) 0) e in
    let still = still-while-knows c i s (StorePhase Idle) k (and_parts s.knows _ k.ok.1.0).0 in
    let same : roots_now (words_left c s (StorePhase Idle)).roots (seats_left c i s (StorePhase Idle)) ≡ (words_left c s (StorePhase Idle)).roots =
    now-left c i s (StorePhase Idle) k refl ∙ roots-still c k.core.sound still in
    (eqb-true (x.seasons % 2) 0 a.1, λ y h u. subst (λ (rs : List ℕ). IsReachableCell c.shape rs (words_left c s (StorePhase Idle)).fields y) (sym same) (exact.idle_in_use (exact_still c i s k (and_parts s.exact (is_the s.section 0) a.0).0) refl y h u))

-- 30: the catalogue's seat moves the phase
phase_moves : (c : Core) (i : ℕ) (s : SeatState) (to : Phase) (x : SectionState) → Taken c i s (StorePhase to) → ExactSound c.shape (words_left c s (StorePhase to)) (seats_left c i s (StorePhase to)) → (saw (Some to) Idle && s.exact && is_the s.section 0 && eqb (x.seasons % 2) 0) ≡ true
    → (x.seasons % 2 ≡ 0) × AllReachedAfter c i s (StorePhase to)
phase_moves c i s Idle x k exact e = ended c i s x k exact e
phase_moves c i s Marking x k exact e = absurd (false≢true e)
phase_moves c i s Drain x k exact e = absurd (false≢true e)
phase_moves c i s Sweep x k exact e = absurd (false≢true e)
phase_moves c i s Clear x k exact e = absurd (false≢true e)
phase_moves c i s Full x k exact e = absurd (false≢true e)

-- a step of the catalogue's seat
own : (c : Core) (i : ℕ) (s : SeatState) (step : Step) (plan : List (List Op)) (x : SectionState) → Taken c i s step → ExactSound c.shape (words_left c s step) (seats_left c i s step) → Settled c x → SettledAfter c i s step (section_after c.shape plan s step x)
own c i s (StoreField v j o) plan x k exact st e = absurd (false≢true e)
own c i s (ExchangeField v j y o) plan x k exact st e = absurd (false≢true e)
own c i s (ExchangeValue v m n) plan x k exact st e = absurd (false≢true e)
own c i s (StoreValue v n) plan x k exact st e = absurd (false≢true e)
own c i s (StoreRoot v r) plan x k exact st e = absurd (false≢true e)
own c i s (HoldRoot v r) plan x k exact st e = absurd (false≢true e)
own c i s (StoreSlot j r) plan x k exact st e = absurd (false≢true e)
own c i s (StoreNew y part word) plan x k exact st e = absurd (false≢true e)
own c i s NextSeason plan x k exact st e = absurd (false≢true e)
own c i s (StorePhase to) plan x k exact st e =
    ⊎_elim
    (λ (a : x.settled ≡ true). still_settled c i s (StorePhase to) x k refl refl (λ y z. z) st a)
    (λ a. phase_moves c i s to x k exact a)
    (or_cases x.settled (saw (Some to) Idle && s.exact && is_the s.section 0 && eqb (x.seasons % 2) 0) e)
own c i s step plan x k exact st e = still_settled c i s step x k refl refl (λ y z. z) st e

abbrev SettledRule : Shape → Words → List SeatState → List SectionState → Type 0
SettledRule sh w seats xs = ExactSound sh w seats → IsSettled sh w seats (section_at xs 0)

pub settled-kept : (x : TableState) (i : ℕ) (s : SeatState) (step : Step) → Goes x i s step
    → IsSettled (state_after x (event i step)).core.shape (words_of (state_after x (event i step)).core.shape (state_after x (event i step)).core.words) (state_after x (event i step)).core.seats (section_at (state_after x (event i step)).sections 0)
settled-kept x i s step g =
    let k : Taken x.core i s step = taken x i s step g in
    let told = g.whole.told in
    let after : SettledRule x.core.shape (words_left x.core s step) (seats_left x.core i s step) (sections_left x s step) =
    λ exact.
    first_left (SettledAfter x.core i s step) (section_after x.core.shape x.plan s step) s.section x.sections (λ e. absurd (false≢true e)) (λ d. others x.core i s step (section_at x.sections 0) k d told.seasons.moved told.settled)
    (λ d. own x.core i s step x.plan (section_at x.sections 0) k exact told.settled) in
    kept-whole SettledRule x i s step g after (exact-kept_by x.core (event i step) g.whole.core (may-happen x i s step g))
