-- Each step that leaves the phase keeps the rule of the phase.
use Rattle.std.proofs.Common.{ℕ, ◌≡◌, ◌≤◌, ◌<◌, List, [], ◌∷◌, ◌++◌, set, get_or, length, arith, refl, sym, ap, ◌∙◌, subst, true, not, ◌&&◌, eqb, Option, Some, None}
use Rattle.std.specs.Prelude.{IsTrue, IsFalse, slice_get}
use Rattle.std.specs.List.{All}
use Rattle.std.proofs.lemmas.Bool.{and_parts, false≢true}
use Rattle.std.proofs.lemmas.List.{map-set, map_push, length-map, get_or-map, set-get_or}
use Rattle.std.proofs.lemmas.List.Sums.{sum_by_push}
use Rattle.std.proofs.lemmas.Option.{slice_get_within, get_or_from_slice_get}
use Rattle.mark_core.specs.Layout.{Words, words_of}
use Rattle.mark_core.specs.Held.{holds_any}
use Rattle.mark_core.specs.Seats.{is_bare}
use Rattle.mark_core.specs.Views.{Standing, standings, standing_of, some_knows}
use Rattle.mark_core.specs.Steps.WorldSteps.{may_be_joined}
use Rattle.mark_core.specs.Rules.WorldRules.{is_stopped_phase}
use Rattle.mark_core.specs.Start.{start_seat, spent_seat}
use Rattle.mark_core.specs.Parts.{parts}
use Rattle.mark_core.specs.Effects.{written, seat_after}
use Rattle.mark_core.specs.Steps.{Core, AllTrue}
use Rattle.mark_core.proofs.Known.{found, words_left, seats_left}
use Rattle.mark_core.proofs.Doing.{local-kept}
use Rattle.mark_core.proofs.Writing.Writes.{touches_phase}
use Rattle.mark_core.proofs.Count.CountMoves.{bit}
use Rattle.mark_core.proofs.World.WorldMoves.{census-set, census-now, nowhere, Fits, Bare}
use Rattle.mark_core.proofs.World.WorldNumbers.{bare-from, Local}
use Rattle.mark_core.proofs.World.WorldReading.{any-passes, passes-any, implied}
use Rattle.mark_core.proofs.World.WorldPhases.{Sees, sees-after, hand-after, heads-after, InPhase, white-after, resting-not}
use Rattle.mark_core.specs.declared.kinds.Shape.{Shape}
use Rattle.mark_core.specs.declared.kinds.Step.{Step}
use Rattle.mark_core.specs.declared.kinds.Step.TheVariants.{Observe, DropStep, Split, Join}
use Rattle.mark_core.specs.declared.seat.SeatState.{SeatState}

-- a knower stays one if the seat that steps doesn't forget
pub knowers-set : (seats : List SeatState) (i : ℕ) (s t : SeatState) → i < length seats → get_or seats i s ≡ s → (s.knows ≡ true → t.knows ≡ true) → some_knows (standings seats) ≡ true → some_knows (standings (set seats i t)) ≡ true
knowers-set seats i s t h is f e =
    let ss : List Standing = standings seats in
    let long : i < length ss = rw length-map h in
    let at : get_or ss i (standing_of s) ≡ standing_of s = get_or-map standing_of seats i s (standing_of s) h ∙ ap standing_of is in
    let before = ap (λ t. t.knows) (census-now ss i (standing_of s) long at) in
    let after = ap (λ t. t.knows) (census-set ss i (standing_of t) long) in
    let some = any-passes (λ (x : Standing). x.knows) ss e in
    let now : some_knows (set ss i (standing_of t)) ≡ true = passes-any (λ (x : Standing). x.knows) (set ss i (standing_of t)) (omega (arith, before, after, some, implied s.knows t.knows f)) in
    subst (λ (xs : List Standing). some_knows xs ≡ true) (sym (map-set standing_of seats i t)) now

knowers_push : (sh : Shape) (seats : List SeatState) (k : ℕ) → some_knows (standings seats) ≡ true → some_knows (standings (seats ++ start_seat sh k ∷ [])) ≡ true
knowers_push sh seats k e =
    let ss : List Standing = standings seats in
    let more = sum_by_push (λ (x : Standing). bit x.knows) ss nowhere in
    let some = any-passes (λ (x : Standing). x.knows) ss e in
    let now : some_knows (ss ++ nowhere ∷ []) ≡ true = passes-any (λ (x : Standing). x.knows) (ss ++ nowhere ∷ []) (omega (arith, more, some)) in
    subst (λ (xs : List Standing). some_knows xs ≡ true) (sym (map_push standing_of seats (start_seat sh k))) now

-- the seat whose record ends doesn't know
knowers_end : (sh : Shape) (seats : List SeatState) (j : ℕ) (o : Option SeatState) → (IsTrue (some_knows (standings seats))) → All Fits (standings seats) → slice_get seats j ≡ o → may_be_joined o ≡ true → some_knows (standings (set seats j (spent_seat sh j))) ≡ true
knowers_end sh seats j None e f g m = absurd (false≢true m)
knowers_end sh seats j (Some o) e f g m =
    let h : j < length seats = slice_get_within seats j o g in
    let is : get_or seats j o ≡ o = get_or_from_slice_get seats j o o g in
    let fits : Fits (standing_of o) = subst Fits (get_or-map standing_of seats j o (standing_of o) h ∙ ap standing_of is) (f j (standing_of o) (rw length-map h)) in
    let bare : Bare (standing_of o) = bare-from o (and_parts (not o.spent) (is_bare o) m).1 in
    knowers-set seats j o (spent_seat sh j) h is (λ k. absurd (omega (arith, ap bit k, fits.knows_raised, bare.raised))) e

-- while the world stays stopped some seat knows it
knowers_at : (c : Core) (i : ℕ) (s : SeatState) (step : Step) → i < length c.seats → get_or c.seats i s ≡ s → All Fits (standings c.seats) → AllTrue (parts c.shape (words_of c.shape c.words) c.seats s step)
    → IsTrue (is_stopped_phase (words_of c.shape c.words).phase) → IsTrue (some_knows (standings c.seats)) → IsTrue (some_knows (standings (seats_left c i s step)))
knowers_at c i s Observe h is f ok st e = knowers-set c.seats i s (seat_after c.shape s Observe (found c s Observe)) h is (λ k. rw k refl) e
knowers_at c i s DropStep h is f ok st e = resting-not (words_of c.shape c.words).phase is_stopped_phase _ refl refl ok.1.1.0 st
knowers_at c i s Split h is f ok st e = knowers_push c.shape (set c.seats i s) (length (set c.seats i s)) (knowers-set c.seats i s s h is (λ k. k) e)
knowers_at c i s (Join other) h is f ok st e =
    let back : set c.seats i s ≡ c.seats = subst (λ (t : SeatState). set c.seats i t ≡ c.seats) is (set-get_or c.seats i s) in
    let first = and_parts (not (eqb other s.number) && may_be_joined (slice_get c.seats other)) (is_bare s) ok.0 in
    rw back (knowers_end c.shape c.seats other (slice_get c.seats other) e f refl (and_parts _ _ first.0).1)
knowers_at c i s step h is f ok st e = knowers-set c.seats i s (seat_after c.shape s step (found c s step)) h is (λ k. k) e

pub new-sees : (phase : ℕ) (sh : Shape) (k : ℕ) → Sees phase (start_seat sh k)
new-sees phase sh k = record { marking = λ a m. absurd (false≢true a); helper = λ a. tt }

ended_sees : (phase : ℕ) (sh : Shape) (k : ℕ) → Sees phase (spent_seat sh k)
ended_sees phase sh k = record { marking = λ a m. absurd (false≢true a); helper = λ a. tt }

-- what is needed of the state before the step, and of the seat that takes it
pub record Stepping (c : Core) (i : ℕ) (s : SeatState) : Type 0 where
  pub seat : i < length c.seats
  pub is : get_or c.seats i s ≡ s
  pub phase : InPhase c.shape (words_of c.shape c.words).phase (words_of c.shape c.words).marks (words_of c.shape c.words).heads c.seats
  pub fits : All Fits (standings c.seats)
  pub mine : Local c.shape s
  pub in_range : (words_of c.shape c.words).phase ≤ 5

-- the rule of the phase is kept by a step that leaves the phase
pub phase-stays : (c : Core) (i : ℕ) (s : SeatState) (step : Step) → Stepping c i s → (words_left c s step).phase ≡ (words_of c.shape c.words).phase
    → (touches_phase step ≡ true → found c s step ≡ (words_of c.shape c.words).phase) → AllTrue (parts c.shape (words_of c.shape c.words) c.seats s step)
    → InPhase c.shape (words_left c s step).phase (words_left c s step).marks
    (words_left c s step).heads (seats_left c i s step)
phase-stays c i s step k same read ok =
    let sh : Shape = c.shape in
    let w : Words = words_of sh c.words in
    let t : SeatState = seat_after sh s step (found c s step) in
    let fits : Fits (standing_of s) = subst Fits (get_or-map standing_of c.seats i s (standing_of s) k.seat ∙ ap standing_of k.is) (k.fits i (standing_of s) (rw length-map k.seat)) in
    let sees : Sees w.phase s = subst (Sees w.phase) k.is (k.phase.sees i s k.seat) in
    rw same
    (record {
      sees = local-kept (Sees w.phase) sh step c.seats i t (new-sees w.phase sh) (ended_sees w.phase sh) k.phase.sees (sees-after sh w c.seats s step (found c s step) sees k.mine fits k.in_range read ok);
      stopped = λ e. knowers_at c i s step k.seat k.is k.fits ok e (k.phase.stopped e);
      white = λ e. white-after c i s step sees e (k.phase.white e) ok;
      still =
          λ e.
          let b = k.phase.still e in
          let none : IsFalse (holds_any s.held) = subst (λ (x : SeatState). IsFalse (holds_any x.held)) k.is (b.0 i s k.seat) in (
            local-kept (λ (x : SeatState). IsFalse (holds_any x.held)) sh step c.seats i t (λ j. refl) (λ j. refl) b.0 (hand-after sh w c.seats s step (found c s step) sees e none ok),
            λ p h. ap (λ (hs : List ℕ). get_or hs p 0) (heads-after sh w c.seats s step (written sh s step (found c s step)) none ok) ∙ b.1 p h,
          );
    })
