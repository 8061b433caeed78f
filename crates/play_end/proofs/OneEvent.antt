-- What one event does to what the sections have come to: nothing that the plain run sees, or one plain step of one section.
use Rattle.std.proofs.Common.{◌≡◌, ◌≢◌, ◌⊎◌, inl, inr, ℕ, zero, suc, ◌+◌, ◌-◌, ◌*◌, ◌<◌, refl, ap, sym, ◌∙◌, subst, arith, List, [], ◌∷◌, ◌++◌, length, Bool, true, false, not, cond, eqb, ◌&&◌, ◌||◌, Option, Some, None, unwrap_or, length-set}
use Rattle.std.specs.List.{list_any}
use Rattle.std.specs.Prelude.{IsFalse, IfSome, slice_index, slice_get}
use Rattle.std.proofs.lemmas.Bool.{and_parts, or_right, not-true, eqb-true, eqb-false}
use Rattle.std.proofs.lemmas.List.{get_or-set_same, get_or-set_other}
use Rattle.mark_core.specs.Numbers.{section_span}
use Rattle.mark_core.specs.Rules.HeapRules.{section_of_cell, number_of_cell}
use Rattle.mark_core.specs.Seats.{is_the, last_made, may_mutate}
use Rattle.mark_core.specs.Steps.{failing_part}
use Rattle.mark_core.specs.Steps.MutatorSteps.{names_last}
use Rattle.mark_core.specs.declared.kinds.Event.{Event}
use Rattle.mark_core.specs.declared.kinds.Step.{Step}
use Rattle.mark_core.specs.declared.kinds.Step.TheVariants.{StoreField, StoreValue, StoreRoot, NextSeason, HoldRoot}
use Rattle.mark_core.specs.declared.seat.SeatState.{SeatState}
use Rattle.mark_core.proofs.Blocks.BlocksStopped.{Taken}
use Rattle.mark_core.proofs.Known.{acts}
use Rattle.mark_core.proofs.References.ReferencesRoots.{Used, has-use, seat-formed}
use Rattle.plain_heap.specs.declared.object.Object.{Object}
use Rattle.plain_heap.specs.declared.object.Ref.{Ref}
use Rattle.plain_heap.specs.declared.object.Ref.TheVariants as refs
use Rattle.plain_heap.specs.PlainHeap.{Heap, variable}
use Rattle.plain_heap.specs.PlainStep.{stored_at, replaced_by, with_field, with_value, with_new, assigned}
use Rattle.gc_table.specs.declared.view.Meaning.{Meaning}
use Rattle.gc_table.specs.declared.view.PlainStep.{PlainStep}
use Rattle.gc_table.specs.declared.view.SectionState.{SectionState}
use Rattle.gc_table.specs.PlainSteps.{changes_heap, meaning_of}
use Rattle.gc_table.specs.Rule.{IsState}
use Rattle.gc_table.specs.Sections.{named_by, season_of, section_after, stored_ref}
use Rattle.gc_table.specs.StandsFor.{name_at}
use Rattle.gc_table.specs.TableState.{TableState, meanings_of, no_section, section_at, with_section, sections_after, state_after}
use Rattle.gc_table.proofs.State.StateSteps.{sections_left}
use Rattle.gc_table.proofs.Stands.StandsRoots.{last-is}
use Rattle.gc_table.proofs.Stands.StandsSeat.{Mutates, mutates, names-used}
use Rattle.gc_table.proofs.Told.SeasonsKept.{in-turn, storer-mutates}
use Rattle.play_end.specs.Ended.{IsUsed}
use Rattle.play_end.proofs.EndListed.{the_words}

-- how often the season has moved on
abbrev pub season_in : List SectionState → ℕ
season_in xs = (section_at xs 0).seasons

-- no plain heap has changed; the season may have moved on
pub record Rests (xs ys : List SectionState) : Type 0 where
  pub heap : (w : ℕ) → (section_at ys w).meaning.heap ≡ (section_at xs w).meaning.heap
  pub history : (w : ℕ) → (section_at ys w).history ≡ (section_at xs w).history
  pub season : (season_in ys ≡ season_in xs) ⊎ (season_in ys ≡ season_in xs + 1)

-- a cell in use has the identity of the next object of section w
abbrev pub HasNewCell : TableState → ℕ → Type 0
HasNewCell x w = (c : ℕ) × IsUsed x.core c × (name_at (the_words x).identities c ≡ record { section = w; number = length (section_at x.sections w).meaning.heap.objects })

-- one section has made one plain step, and if it made an object, there was a cell with its identity
pub record Steps (x : TableState) (ys : List SectionState) : Type 0 where
  pub section : ℕ
  pub within : section < length x.sections
  pub step : PlainStep
  pub history : (section_at ys section).history ≡ (section_at x.sections section).history ++ step ∷ []
  pub heap : (section_at ys section).meaning.heap ≡ step.heap
  pub now : step.season ≡ season_in x.sections
  pub others : (w : ℕ) → w ≢ section → section_at ys w ≡ section_at x.sections w
  pub season : season_in ys ≡ season_in x.sections
  pub makes : length step.heap.objects ≡ length (section_at x.sections section).meaning.heap.objects + 1 → HasNewCell x section

-- what holds between a section and itself, and between it and what a step makes of it, holds of all sections when one changes
pub kept-at : (R : SectionState → SectionState → Type 0) → ((y : SectionState) → R y y) → (o : Option ℕ) (f : SectionState → SectionState) (xs : List SectionState) → ((y : SectionState) → R y (f y)) → (w : ℕ) → R (section_at xs w) (section_at (with_section o f xs) w)
kept-at R same None f xs step w = same (section_at xs w)
kept-at R same (Some k) f [] step w = same (section_at [] w)
kept-at R same (Some zero) f (x ∷ xs) step zero = step x
kept-at R same (Some zero) f (x ∷ xs) step (suc w) = same (section_at xs w)
kept-at R same (Some (suc k)) f (x ∷ xs) step zero = same x
kept-at R same (Some (suc k)) f (x ∷ xs) step (suc w) = kept-at R same (Some k) f xs step w

field-kept : {B : Type 0} (g : SectionState → B) (o : Option ℕ) (f : SectionState → SectionState) (xs : List SectionState) → ((y : SectionState) → g (f y) ≡ g y) → (w : ℕ) → g (section_at (with_section o f xs) w) ≡ g (section_at xs w)
field-kept g o f xs same w = kept-at (λ y z. g z ≡ g y) (λ y. refl) o f xs same w

season-moves : (o : Option ℕ) (f : SectionState → SectionState) (xs : List SectionState) → ((y : SectionState) → (f y).seasons ≡ y.seasons + 1) → (season_in (with_section o f xs) ≡ season_in xs) ⊎ (season_in (with_section o f xs) ≡ season_in xs + 1)
season-moves None f xs more = inl refl
season-moves (Some k) f [] more = inl refl
season-moves (Some zero) f (x ∷ xs) more = inr (more x)
season-moves (Some (suc k)) f (x ∷ xs) more = inl refl

rests : (o : Option ℕ) (f : SectionState → SectionState) (xs : List SectionState) → ((y : SectionState) → (f y).meaning.heap ≡ y.meaning.heap) → ((y : SectionState) → (f y).history ≡ y.history) → ((y : SectionState) → (f y).seasons ≡ y.seasons) → Rests xs (with_section o f xs)
rests o f xs heap history seasons = record { heap = field-kept (λ y. y.meaning.heap) o f xs heap; history = field-kept (λ y. y.history) o f xs history; season = inl (field-kept (λ y. y.seasons) o f xs seasons 0) }

-- a store in an object leaves as many
stored-long : (h : Heap) (ref : Ref) (change : Object → Object) → length (stored_at h ref change).objects ≡ length h.objects
stored-long h refs.Nil change = refl
stored-long h (refs.Cat n) change = refl
stored-long h (refs.Own n) change = of (slice_get h.objects n)
  where
    of : (o : Option Object) → length (replaced_by h n change o).objects ≡ length h.objects
    of None = refl
    of (Some object) = length-set h.objects n (change object)

module _ (x : TableState) (i : ℕ) (s : SeatState) (whole : IsState x) (alone : IsFalse x.core.shape.sharing) where
  abbrev ms : List Meaning
  ms = meanings_of x.sections

  -- what the words of the seat's section mean
  abbrev m : Meaning
  m = (section_at x.sections i).meaning

  -- the cell that the seat made last has the identity of its section's next object, if that one isn't there yet
  new-cell : (step : Step) (r : ℕ) → (t : Taken x.core i s step) → (a : Mutates x.core i s ms) → names_last s.cache r ≡ true → length (section_at x.sections i).meaning.heap.objects + 1 ≡ s.made → HasNewCell x i
  new-cell step r t a last room = (r - 1, used, λ y. record { section = section y; number = number y })
    where
      parts : (not (eqb r 0) ≡ true) × (is_the (last_made s.cache) (r - 1) ≡ true)
      parts = and_parts (not (eqb r 0)) (is_the (last_made s.cache) (r - 1)) last

      used : IsUsed x.core (r - 1)
      used =
          names-used (Used x.core) r (omega (arith, eqb-false r 0 (not-true (eqb r 0) parts.0)))
          (has-use x.core i s step r t (or_right (eqb r 0 || eqb r s.got || list_any (λ (c : ℕ). eqb c r) s.env) (names_last s.cache r) last))

      ids : List ℕ
      ids = (the_words x).identities

      identity : (slice_index ids (r - 1) + 1 ≡ i * section_span + s.made) × (0 < s.made)
      identity = subst (λ (o : Option ℕ). IfSome o (λ c. (slice_index ids c + 1 ≡ i * section_span + s.made) × (0 < s.made))) (last-is (last_made s.cache) (r - 1) parts.1) ((whole.stands alone).seats_agree i s (meaning_of ms i) t.got a.there t.live).last

      few : s.made < section_span
      few = omega (arith, (seat-formed x.core i s step t).made, whole.core.formed.shaped.objects)

      section : section_of_cell ids (r - 1) ≡ i
      section = omega (arith, identity.0, identity.1, few)

      number : number_of_cell ids (r - 1) ≡ length (section_at x.sections i).meaning.heap.objects
      number = omega (arith, identity.0, identity.1, few, room)

  -- a store of a mutator
  stores : (step : Step) (t : Taken x.core i s step) → changes_heap step ≡ true
      → ((y : SectionState) → (section_after x.core.shape x.plan s step y).history ≡ y.history ++ record { season = season_of s; heap = (section_after x.core.shape x.plan s step y).meaning.heap } ∷ [])
      → ((y : SectionState) → (section_after x.core.shape x.plan s step y).seasons ≡ y.seasons)
      → ((a : Mutates x.core i s ms) → length (section_after x.core.shape x.plan s step (section_at x.sections i)).meaning.heap.objects ≡ length (section_at x.sections i).meaning.heap.objects + 1 → HasNewCell x i)
      → Steps x (sections_left x s step)
  stores step t changes history seasons makes =
      let may : may_mutate s ≡ true = storer-mutates x.core i s step t changes in
      let a : Mutates x.core i s ms = mutates x.core i s step ms t (whole.stands alone) may in
      let seen = in-turn x.core i s step t may in
      let f : SectionState → SectionState = section_after x.core.shape x.plan s step in
      let inside : i < length x.sections = omega (arith, a.inside, whole.sections) in
      let now : section_at (with_section (Some i) f x.sections) i ≡ f (section_at x.sections i) = get_or-set_same x.sections i (f (section_at x.sections i)) no_section inside in
      subst (λ (o : Option ℕ). Steps x (with_section o f x.sections)) (sym a.section)
      (record {
        section = i;
        within = inside;
        step = record { season = season_of s; heap = (f (section_at x.sections i)).meaning.heap };
        history = ap (λ (y : SectionState). y.history) now ∙ history (section_at x.sections i);
        heap = ap (λ (y : SectionState). y.meaning.heap) now;
        now = ap (λ (o : Option ℕ). unwrap_or o 0) seen.2 ∙ whole.told.seasons.moved;
        others = λ w far. get_or-set_other x.sections i w (f (section_at x.sections i)) no_section far;
        season = field-kept (λ y. y.seasons) (Some i) f x.sections seasons 0;
        makes = makes a;
      })

  -- a root is stored: if that makes an object, a cell was made for it
  rooted-makes : (step : Step) (t : Taken x.core i s step) (a : Mutates x.core i s ms) (v r : ℕ) (b : Bool) → (names_last s.cache r && eqb (length m.heap.objects + 1) s.made) ≡ b
      → length (cond b (with_new m.heap v m.value) (assigned m.heap v (named_by s m r))).objects ≡ length m.heap.objects + 1 → HasNewCell x i
  rooted-makes step t a v r true is more = let p = and_parts (names_last s.cache r) (eqb (length m.heap.objects + 1) s.made) is in new-cell step r t a p.0 (eqb-true (length m.heap.objects + 1) s.made p.1)
  rooted-makes step t a v r false is more = absurd (omega (arith, more))

  by-step : (step : Step) → Taken x.core i s step → Rests x.sections (sections_left x s step) ⊎ Steps x (sections_left x s step)
  by-step (StoreField v j o) t =
      inr (stores (StoreField v j o) t refl (λ y. refl) (λ y. refl)
      (λ a more. absurd (omega (arith, more, stored-long m.heap (variable m.heap v) (λ object. with_field object j (stored_ref m.heap o))))))
  by-step (StoreValue v n) t =
      inr (stores (StoreValue v n) t refl (λ y. refl) (λ y. refl)
      (λ a more. absurd (omega (arith, more, stored-long m.heap (variable m.heap v) (λ object. with_value object n)))))
  by-step (StoreRoot v r) t =
      inr (stores (StoreRoot v r) t refl (λ y. refl) (λ y. refl)
      (λ a more. rooted-makes (StoreRoot v r) t a v r (names_last s.cache r && eqb (length m.heap.objects + 1) s.made) refl more))
  by-step (HoldRoot v r) t =
      inr (stores (HoldRoot v r) t refl (λ y. refl) (λ y. refl)
      (λ a more. rooted-makes (HoldRoot v r) t a v r (names_last s.cache r && eqb (length m.heap.objects + 1) s.made) refl more))
  by-step NextSeason t =
      let f : SectionState → SectionState = section_after x.core.shape x.plan s NextSeason in
      inl (record {
        heap = field-kept (λ y. y.meaning.heap) s.section f x.sections (λ y. refl);
        history = field-kept (λ y. y.history) s.section f x.sections (λ y. refl);
        season = season-moves s.section f x.sections (λ y. refl);
      })
  by-step step t = inl (rests s.section (section_after x.core.shape x.plan s step) x.sections (λ y. refl) (λ y. refl) (λ y. refl))

-- an event that is allowed
pub one-event : (x : TableState) (e : Event) → IsState x → IsFalse x.core.shape.sharing → failing_part x.core e ≡ None → Rests x.sections (state_after x e).sections ⊎ Steps x (state_after x e).sections
one-event x e whole alone ok =
    let r = acts x.core e whole.core ok in
    let t : Taken x.core e.seat r.0 e.step = record { core = whole.core; got = r.1.seat; live = r.1.live; ok = r.1.ok } in
    let is : (state_after x e).sections ≡ sections_left x r.0 e.step = ap (λ (o : Option SeatState). sections_after x.core.shape x.plan o e.step x.sections) r.1.seat in
    subst (λ (ys : List SectionState). Rests x.sections ys ⊎ Steps x ys) (sym is) (by-step x e.seat r.0 whole alone e.step t)
