-- What is asked of a step by its seat's view holds in the state.
use Rattle.std.proofs.Common.{ℕ, ◌≡◌, refl, sym, ap, ◌∙◌, subst, arith, true, true≢false, Option, Some, None}
use Rattle.std.specs.Prelude.{slice_get, unwrap_or, List, IsTrue}
use Rattle.std.proofs.lemmas.Bool.{and_parts}
use Rattle.std.proofs.lemmas.Option.{get_or_from_slice_get}
use Rattle.mark_core.specs.Layout.{words_of}
use Rattle.mark_core.specs.Parts.{parts}
use Rattle.mark_core.specs.Places.{the_named}
use Rattle.mark_core.specs.Seats.{may_mutate, has_turn}
use Rattle.mark_core.specs.Steps.{Core, AllTrue}
use Rattle.mark_core.specs.Laws.{IsCore}
use Rattle.mark_core.proofs.References.ReferencesEnv.{section-is}
use Rattle.mark_core.proofs.Notes.NotesKept.{single-word}
use Rattle.mark_core.specs.declared.kinds.Shape.{Shape}
use Rattle.mark_core.specs.declared.kinds.Step.{Step}
use Rattle.mark_core.specs.declared.kinds.Step.TheVariants.{StoreField, StoreValue, StoreRoot, StoreNew, StorePhase, NextSeason, ExchangeField, ExchangeValue, StoreSlot, ReadWeak, HoldRoot}
use Rattle.mark_core.specs.declared.seat.SeatState.{SeatState}
use Rattle.plain_heap.specs.declared.operation.Op.{Op}
use Rattle.gc_table.specs.declared.view.SectionState.{SectionState}
use Rattle.gc_table.specs.declared.view.View.{View}
use Rattle.gc_table.specs.Notes.{look}
use Rattle.gc_table.specs.PlainSteps.{own_section, HasSeenPhase}
use Rattle.gc_table.specs.Sections.{AskedOf}
use Rattle.gc_table.specs.TableState.{TableState, no_section, section_at, AskedIn}
use Rattle.gc_table.specs.Rule.{IsState, Agrees}
use Rattle.gc_table.specs.Taking.{Asked}

-- the section of seat i is its number
pub own-number : (c : Core) (i k : ℕ) (s : SeatState) → IsCore c → slice_get c.seats i ≡ Some s → s.section ≡ Some k → k ≡ i
own-number c i k s core got e = section-is c.shape.sections i k s.section ((core.formed.seats i s got).section) e

-- a seat that may mutate has a section
pub has-section : (s : SeatState) → may_mutate s ≡ true → (w : ℕ) × (s.section ≡ Some w)
has-section s e = by_section s.section refl
  where
    turn : has_turn s.section s.season_seen ≡ true
    turn = (and_parts s.active (has_turn s.section s.season_seen) e).1

    by_section : (o : Option ℕ) → s.section ≡ o → (w : ℕ) × (s.section ≡ Some w)
    by_section None h = absurd (true≢false (sym turn ∙ ap (λ (p : Option ℕ). has_turn p s.season_seen) h))
    by_section (Some w) h = (w, h)

-- the view has the seat's own section as it is
pub own-is : (x : TableState) (i : ℕ) (v : View) (w : ℕ) → Agrees x i v → v.state.section ≡ Some w → v.own ≡ section_at x.sections (own_section v.state)
own-is x i v w a e = sym (ap (λ (o : Option ℕ). section_at x.sections (unwrap_or o 0)) e ∙ get_or_from_slice_get x.sections w v.own no_section (a.own w e))

-- if the seat has a section, what is asked of the view is asked of the state
asked_same : (x : TableState) (i : ℕ) (v : View) (w : ℕ) (step : Step) → Agrees x i v → v.state.section ≡ Some w → AskedOf v.shape v.plan v.state v.own (Some (words_of x.core.shape x.core.words).named) step → AskedIn x v.state step
asked_same x i v w step a e h =
    subst (λ (q : Shape × List (List Op) × SectionState). AskedOf q.0 q.1 v.state q.2 (Some (words_of x.core.shape x.core.words).named) step) (λ y. (a.shape y, a.plan y, own-is x i v w a e y)) h

named_there : (x : TableState) (i : ℕ) (v : View) (w : ℕ) → Agrees x i v → look the_named v.known ≡ Some w → Some (words_of x.core.shape x.core.words).named ≡ Some w
named_there x i v w a e = ap Some (sym (single-word x.core.shape x.core.words 5 (omega arith)) ∙ (a.noted the_named w e).1)

pub asked-in : (x : TableState) (i : ℕ) (v : View) (step : Step) → IsState x → Agrees x i v → AllTrue (parts x.core.shape (words_of x.core.shape x.core.words) x.core.seats v.state step) → Asked step v → AskedIn x v.state step
asked-in x i v (StoreField u j w) k a ok h = let m = has-section v.state (and_parts _ (may_mutate v.state) ok.0).1 in asked_same x i v m.0 (StoreField u j w) a m.1 h
asked-in x i v (StoreValue u n) k a ok h = let m = has-section v.state (and_parts _ (may_mutate v.state) ok.0).1 in asked_same x i v m.0 (StoreValue u n) a m.1 h
asked-in x i v (StoreRoot u r) k a ok h = let m = has-section v.state (and_parts _ (may_mutate v.state) ok.0).1 in asked_same x i v m.0 (StoreRoot u r) a m.1 h
asked-in x i v (HoldRoot u r) k a ok h = let m = has-section v.state (and_parts _ (may_mutate v.state) ok.0).1 in asked_same x i v m.0 (HoldRoot u r) a m.1 h
asked-in x i v (StoreNew c part word) k a ok h = let m = has-section v.state (and_parts _ (may_mutate v.state) ok.0).1 in asked_same x i v m.0 (StoreNew c part word) a m.1 h
asked-in x i v (StorePhase to) k a ok h = λ full. let q = h full in (q.0, q.1, named_there x i v q.0 a q.2)
asked-in x i v NextSeason k a ok h = asked_same x i v 0 NextSeason a h.0 h
asked-in x i v (ExchangeField u j w y) k a ok h = h
asked-in x i v (ExchangeValue u m n) k a ok h = h
asked-in x i v (StoreSlot u r) k a ok h = subst (λ (sh : Shape). HasSeenPhase v.state × IsTrue sh.sharing) a.shape h
asked-in x i v (ReadWeak u) k a ok h = subst (λ (sh : Shape). IsTrue sh.sharing) a.shape h
asked-in x i v step k a ok h = tt
