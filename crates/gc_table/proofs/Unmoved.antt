-- The phase of a stop that has just begun.
use Rattle.std.proofs.Common.{ℕ, ◌≡◌, ◌<◌, List, [], ◌∷◌, ◌++◌, get_or, length, arith, inl, inr, ◌⊎◌, refl, sym, ap, ◌∙◌, subst, Bool, true, false, true≢false, not, ◌&&◌, ◌||◌, Some}
use Rattle.std.specs.Prelude.{slice_get}
use Rattle.std.proofs.lemmas.Bool.{and_parts, not-true, false_from_ne_true, false≢true, ne_eqb}
use Rattle.std.proofs.lemmas.List.{get_or-map, length-map}
use Rattle.mark_core.specs.Effects.{place, seat_after}
use Rattle.mark_core.specs.Layout.{words_of}
use Rattle.mark_core.specs.Notes.{same_place, steady}
use Rattle.mark_core.specs.Parts.{parts}
use Rattle.mark_core.specs.Places.{the_phase}
use Rattle.mark_core.specs.Steps.{Core, AllTrue}
use Rattle.mark_core.specs.Laws.{IsCore}
use Rattle.mark_core.specs.Views.{Standing, standing_of, standings}
use Rattle.mark_core.specs.Rules.WorldRules.{is_raised, is_stopped_phase}
use Rattle.mark_core.specs.Steps.WorldSteps.{is_stopped}
use Rattle.mark_core.specs.declared.kinds.Shape.{Shape}
use Rattle.mark_core.specs.declared.kinds.Step.{Step}
use Rattle.mark_core.specs.declared.kinds.Step.TheVariants.{ReadPhase, RaiseStep, Observe, DropStep, StorePhase, StoreNew, Reset, AddStat, ReadStat}
use Rattle.mark_core.specs.declared.seat.SeatState.{SeatState}
use Rattle.mark_core.proofs.Blocks.BlocksStopped.{one-passes}
use Rattle.mark_core.proofs.Notes.NotesBeside.{Sits, sits}
use Rattle.mark_core.proofs.World.WorldReading.{any-passes, some-passes}
use Rattle.mark_core.proofs.Writing.Writes.{at_part, at_counter}
use Rattle.gc_table.specs.declared.view.Entry.{Entry}
use Rattle.gc_table.specs.Stopping.{moves_on, moved_from, has_moved}

moved-snoc : (b : Bool) (es : List Entry) (e : Entry) → moved_from b (es ++ e ∷ []) ≡ moves_on (moved_from b es) e.step
moved-snoc b [] e = refl
moved-snoc b (x ∷ xs) e = moved-snoc (moves_on b x.step) xs e

-- the last event counts
pub moved-last : (es : List Entry) (e : Entry) → has_moved (es ++ e ∷ []) ≡ moves_on (has_moved es) e.step
moved-last es e = moved-snoc false es e

-- only one seat's flag is up: while that seat doesn't know that the world is stopped, no seat does, and the phase is none of those of a stop
pub none-knows : (c : Core) (i : ℕ) (s : SeatState) → IsCore c → slice_get c.seats i ≡ Some s → s.raised ≡ true → s.knows ≡ false → is_stopped_phase (words_of c.shape c.words).phase ≡ false
none-knows c i s k got raised unaware =
    let ss : List Standing = standings c.seats in
    let d : Standing = standing_of s in
    let sit : Sits c i s = sits c i s got in
    false_from_ne_true (is_stopped_phase (words_of c.shape c.words).phase)
    (λ e.
    let p = some-passes (λ (x : Standing). x.knows) ss (any-passes (λ (x : Standing). x.knows) ss (k.sound.phases.stopped e)) in
    let there : p.0 < length c.seats = subst (λ n. p.0 < n) (length-map c.seats standing_of) p.1 in
    let is : get_or ss p.0 d ≡ standing_of (get_or c.seats p.0 s) = get_or-map standing_of c.seats p.0 s d there in
    let knows : (get_or c.seats p.0 s).knows ≡ true = ap (λ (x : Standing). x.knows) (sym is) ∙ p.2 d in
    let other : is_raised (get_or ss p.0 d) ≡ true = ap is_raised is ∙ (k.strong.seats_strong p.0 s there).knows_is_raised knows in
    let mine : is_raised (get_or ss i d) ≡ true = ap is_raised (get_or-map standing_of c.seats i s d sit.within ∙ ap standing_of sit.is) ∙ raised in
    let same : p.0 ≡ i = one-passes is_raised ss p.0 i d p.1 (subst (λ n. i < n) (sym (length-map c.seats standing_of)) sit.within) k.sound.world.one_raised other mine in
    true≢false (sym knows ∙ (ap (λ j. (get_or c.seats j s).knows) same ∙ (ap (λ (x : SeatState). x.knows) sit.is ∙ unaware))))

-- a step other than a move of the phase writes another word, or reads this one
pub not-phase : (sh : Shape) (s : SeatState) (step : Step) (b : Bool) → moves_on b step ≡ false → (same_place (place sh s step) the_phase ≡ false) ⊎ (step ≡ ReadPhase)
not-phase sh s (StorePhase to) b e = absurd (true≢false e)
not-phase sh s ReadPhase b e = inr refl
not-phase sh s (StoreNew c part word) b e = inl (at_part (λ at. same_place at the_phase ≡ false) sh c part (λ i. refl) (λ i. refl) (λ i. refl))
not-phase sh s (Reset which) b e = inl (at_counter (λ at. same_place at the_phase ≡ false) which (λ i h. rw (ne_eqb i 1 (λ g. omega (arith, h, g))) refl) (λ i. refl))
not-phase sh s (AddStat which by down) b e = inl (at_counter (λ at. same_place at the_phase ≡ false) which (λ i h. rw (ne_eqb i 1 (λ g. omega (arith, h, g))) refl) (λ i. refl))
not-phase sh s (ReadStat which) b e = inl (at_counter (λ at. same_place at the_phase ≡ false) which (λ i h. rw (ne_eqb i 1 (λ g. omega (arith, h, g))) refl) (λ i. refl))
not-phase sh s step b e = inl refl

-- how a seat may come to know, without having moved the phase: it knew before, or its flag is up
pub knows-by : (c : Core) (s : SeatState) (step : Step) (n : ℕ) (b : Bool) → (s.knows ≡ true → s.raised ≡ true) → AllTrue (parts c.shape (words_of c.shape c.words) c.seats s step) → (seat_after c.shape s step n).knows ≡ true → moves_on b step ≡ false
    → ((s.knows ≡ true) × (b ≡ false)) ⊎ ((s.raised ≡ true) × (s.knows ≡ false))
knows-by c s RaiseStep n b h ok e m =
    let bare = and_parts (not s.counted && not s.raised) (not s.helping) ok.0 in
    absurd (true≢false (sym (h e) ∙ not-true s.raised (and_parts (not s.counted) (not s.raised) bare.0).1))
knows-by c s (StorePhase to) n b h ok e m = absurd (true≢false m)
knows-by c s DropStep n b h ok e m = absurd (false≢true e)
knows-by c s Observe n b h ok e m = by_know s.knows s.raised (is_stopped n) e
  where
    by_know : (k r z : Bool) → (k || (r && z)) ≡ true → ((k ≡ true) × (b ≡ false)) ⊎ ((r ≡ true) × (k ≡ false))
    by_know true r z e = inl (refl, m)
    by_know false true z e = inr (refl, refl)
    by_know false false z e = absurd (false≢true e)
knows-by c s step n b h ok e m = inl (e, m)

pub knower-steady : (s : SeatState) (n : ℕ) → s.knows ≡ true → steady s the_phase n ≡ true
knower-steady s n k = rw k (by_alone s.alone)
  where
    by_alone : (b : Bool) → (b || true) ≡ true
    by_alone true = refl
    by_alone false = refl
