-- A step that a seat may take from a state that meets the rule, if what is asked besides is met; and the words, records and sections that it leaves.
use Rattle.std.proofs.Common.{ℕ, zero, suc, ◌+◌, ◌≡◌, ◌≢◌, List, [], ◌∷◌, set, refl, sym, ap, ◌∙◌, subst, ⊎_elim, Bool, Option, Some, None, cond, ◌⊎◌}
use Rattle.std.specs.Prelude.{slice_get, IsFalse}
use Rattle.mark_core.specs.Layout.{Words, words_of}
use Rattle.mark_core.specs.Parts.{parts}
use Rattle.mark_core.specs.Steps.{AllTrue, first_false, failing_of, failing_part}
use Rattle.mark_core.specs.Laws.{NumbersFit}
use Rattle.mark_core.proofs.Known.{words_left, seats_left}
use Rattle.mark_core.proofs.Blocks.BlocksStopped.{Taken, kept-after}
use Rattle.mark_core.specs.declared.kinds.Shape.{Shape}
use Rattle.mark_core.specs.declared.kinds.Event.{Event}
use Rattle.mark_core.specs.declared.kinds.Step.{Step}
use Rattle.mark_core.specs.declared.seat.SeatState.{SeatState}
use Rattle.gc_table.specs.declared.view.SectionState.{SectionState}
use Rattle.gc_table.specs.Sections.{section_after}
use Rattle.gc_table.specs.TableState.{TableState, no_section, section_at, with_section, sections_after, state_after, AskedIn}
use Rattle.gc_table.specs.Told.{EachSection}
use Rattle.gc_table.specs.Rule.{IsState}
use Rattle.std.proofs.lemmas.Bool.{cases_eq}
use Rattle.std.proofs.lemmas.Option.{get_or_from_slice_get}
use Rattle.gc_table.proofs.Stands.StandsFrame.{get-set_same, get-set_other}

pub record Goes (x : TableState) (i : ℕ) (s : SeatState) (step : Step) : Type 0 where
  pub whole : IsState x
  pub got : slice_get x.core.seats i ≡ Some s
  pub live : IsFalse s.spent
  pub ok : AllTrue (parts x.core.shape (words_of x.core.shape x.core.words) x.core.seats s step)
  pub fits : NumbersFit step
  pub asks : AskedIn x s step

abbrev pub event : ℕ → Step → Event
event i step = record { seat = i; step = step }

pub taken : (x : TableState) (i : ℕ) (s : SeatState) (step : Step) → Goes x i s step → Taken x.core i s step
taken x i s step g = record { core = g.whole.core; got = g.got; live = g.live; ok = g.ok }

pub all-hold : (k : ℕ) (bs : List Bool) → AllTrue bs → first_false k bs ≡ None
all-hold k [] ok = refl
all-hold k (b ∷ bs) ok = ap (λ (x : Bool). cond x (first_false (k + 1) bs) (Some k)) ok.0 ∙ all-hold (k + 1) bs ok.1

pub may-happen : (x : TableState) (i : ℕ) (s : SeatState) (step : Step) → Goes x i s step → failing_part x.core (event i step) ≡ None
may-happen x i s step g =
    ap (λ o. failing_of x.core o step) g.got
    ∙ (ap (λ (b : Bool). cond b (Some 0) (first_false 1 (parts x.core.shape (words_of x.core.shape x.core.words) x.core.seats s step))) g.live ∙ all-hold 1 _ g.ok)

-- the sections that the step leaves
abbrev pub sections_left : TableState → SeatState → Step → List SectionState
sections_left x s step = with_section s.section (section_after x.core.shape x.plan s step) x.sections

pub sections-left : (x : TableState) (i : ℕ) (s : SeatState) (step : Step) → Goes x i s step → (state_after x (event i step)).sections ≡ sections_left x s step
sections-left x i s step g = ap (λ o. sections_after x.core.shape x.plan o step x.sections) g.got

pub some-same : {A : Type 0} (a b : A) → Some a ≡ Some b → a ≡ b
some-same a b e = cc

-- a rule that holds of what the step leaves holds of the state after it
pub kept-whole : (Rule : Shape → Words → List SeatState → List SectionState → Type 0) (x : TableState) (i : ℕ) (s : SeatState) (step : Step) (g : Goes x i s step)
    → Rule x.core.shape (words_left x.core s step) (seats_left x.core i s step) (sections_left x s step)
    → Rule (state_after x (event i step)).core.shape (words_of (state_after x (event i step)).core.shape (state_after x (event i step)).core.words) (state_after x (event i step)).core.seats (state_after x (event i step)).sections
kept-whole Rule x i s step g r =
    kept-after (λ sh w seats. Rule sh w seats (state_after x (event i step)).sections) x.core (event i step) g.whole.core (may-happen x i s step g)
    (λ t a k.
    let same : t ≡ s = some-same t s (sym a.seat ∙ g.got) in
    subst (λ (u : SeatState). Rule x.core.shape (words_left x.core u step) (seats_left x.core i u step) (state_after x (event i step)).sections) (sym same)
    (subst (λ xs. Rule x.core.shape (words_left x.core s step) (seats_left x.core i s step) xs) (sym (sections-left x i s step g)) r))

same_or : (w k : ℕ) → (w ≡ k) ⊎ (w ≢ k)
same_or w k = cases_eq w k

-- each section that the step leaves is one that was there, or the seat's own after the step
pub each-left : (P : ℕ → SectionState → Type 0) (f : SectionState → SectionState) (o : Option ℕ) (xs : List SectionState)
    → ((w : ℕ) (y : SectionState) → slice_get xs w ≡ Some y → (o ≡ Some w → ⊥) → P w y)
    → ((w : ℕ) (y : SectionState) → slice_get xs w ≡ Some y → o ≡ Some w → P w (f y))
    → EachSection (with_section o f xs) P
each-left P f None xs other own w y h = other w y h (λ e. absurd (cc))
each-left P f (Some k) xs other own w y h =
    ⊎_elim
    (λ (e : w ≡ k).
    let b = before xs k (f (section_at xs k)) (subst (λ (j : ℕ). slice_get (set xs k (f (section_at xs k))) j ≡ Some y) e h) in
    let at : section_at xs k ≡ b.0 = get_or_from_slice_get xs k b.0 no_section b.1 in
    let is : f b.0 ≡ y = ap f (sym at) ∙ some-same (f (section_at xs k)) y (sym (get-set_same xs k b.0 (f (section_at xs k)) b.1) ∙ subst (λ (j : ℕ). slice_get (set xs k (f (section_at xs k))) j ≡ Some y) e h) in
    subst (P w) is (own w b.0 (subst (λ (j : ℕ). slice_get xs j ≡ Some b.0) (sym e) b.1) (ap Some (sym e))))
    (λ (d : w ≢ k). other w y (sym (get-set_other xs k w (f (section_at xs k)) d) ∙ h) (λ e. d (sym (some-same k w e))))
    (same_or w k)
  where
    before : (ys : List SectionState) (j : ℕ) (z : SectionState) → slice_get (set ys j z) j ≡ Some y → (u : SectionState) × (slice_get ys j ≡ Some u)
    before [] j z e = absurd (cc)
    before (u ∷ us) zero z e = (u, refl)
    before (u ∷ us) (suc j) z e = before us j z e
