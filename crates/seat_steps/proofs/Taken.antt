-- A stepper that took a weak reference is told the object's death.
use Rattle.std.proofs.Common.{ℕ, ◌≡◌, ◌≢◌, ◌%◌, ◌∙◌, List, [], ◌∷◌, ◌++◌, ap, true, false, inl, inr, refl, subst, sym}
use Rattle.std.specs.Prelude.{slice_index}
use Rattle.mark_core.specs.Bits.{has_bit}
use Rattle.mark_core.specs.Cards.{block_cells}
use Rattle.mark_core.specs.Effects.{place}
use Rattle.mark_core.specs.Layout.{Words, words_of, region_sizes}
use Rattle.mark_core.specs.Steps.{Core}
use Rattle.mark_core.specs.Steps.MutatorSteps.{seat_variable as word_in, weak_reference}
use Rattle.mark_core.specs.Weak.{IsGone, IsWeak}
use Rattle.mark_core.specs.declared.kinds.Event.{Event}
use Rattle.mark_core.specs.declared.kinds.Step.{Step}
use Rattle.mark_core.specs.declared.kinds.Step.TheVariants.{HoldRoot, ReadIdent, ReadWeak}
use Rattle.mark_core.specs.declared.seat.SeatState.{SeatState}
use Rattle.mark_core.proofs.Blocks.BlocksStopped.{in-place}
use Rattle.mark_core.proofs.Known.{Acted, acts}
use Rattle.mark_core.proofs.Notes.NotesKept.{word-found}
use Rattle.mark_core.proofs.Writing.Places.{words-get}
use Rattle.mark_core.proofs.Writing.Ranges.{IsPlace}
use Rattle.gc_table.specs.AgreementLaws.{FindsCell, IsLost}
use Rattle.gc_table.specs.Entries.{event}
use Rattle.gc_table.specs.Finding.{heap_found}
use Rattle.gc_table.specs.Log.{events}
use Rattle.gc_table.specs.Running.{AllSeen, Ran}
use Rattle.gc_table.specs.Seats.{view_of}
use Rattle.gc_table.specs.Taking.{Finds, after}
use Rattle.gc_table.specs.Weak.{HasWeak}
use Rattle.gc_table.specs.declared.view.Entry.{Entry}
use Rattle.gc_table.specs.declared.view.View.{View}
use Rattle.gc_table.proofs.Finding.{steps-find}
use Rattle.gc_table.proofs.History.Log.{events-of}
use Rattle.gc_table.proofs.Losing.{lost_for_good}
use Rattle.gc_table.proofs.Remembering.{weak-more, weak_remembered}
use Rattle.gc_table.proofs.Running.{ran-grows}
use Rattle.gc_table.proofs.State.StateSteps.{some-same}
use Rattle.mutator_ops.specs.Upgrading.{Upgrades}
use Rattle.seat_turns.specs.Weak.{TakesWeakIn, identity_of}
use Rattle.seat_turns.specs.declared.weak.Weak.{Weak}
use Rattle.seat_steps.specs.Deaths.{AsksFor}
use Rattle.seat_steps.specs.Taken.{FindsDeath, FindsLost, TakenStays}

-- what a call did stands behind what was there
pub log_is : (v w : View) → Ran v w → w.log ≡ v.log ++ events v w
log_is v w ran = let g = ran-grows v w ran in g.1 ∙ ap (λ (l : List Entry). v.log ++ l) (sym (events-of v w g.0 g.1))

pub taken-stays : TakenStays
taken-stays weak x y ran h =
    subst (HasWeak weak.place (identity_of weak)) (sym (log_is (view_of x.seat) (view_of y.seat) ran)) (weak-more weak.place (identity_of weak) (view_of x.seat).log (events (view_of x.seat) (view_of y.seat)) h)

-- who takes one has it
pub takes-it : (name u : ℕ) (weak : Weak) (v x : View) → TakesWeakIn name u weak v x → HasWeak weak.place (identity_of weak) x.log
takes-it name u weak v x t =
    let finds = t.takes.finds in
    let own : View = t.takes.own in
    let word : ℕ = word_in v.state u in
    let reads : events own x ≡ event (ReadWeak weak.place) finds.bits ∷ event (ReadIdent weak.place) (identity_of weak) ∷ event (HoldRoot u word) finds.old ∷ [] =
    subst (λ (c : ℕ). events own x ≡ event (ReadWeak c) finds.bits ∷ event (ReadIdent c) (identity_of weak) ∷ event (HoldRoot u word) finds.old ∷ []) (sym t.place_is) finds.events_are in
    record {
      bits = finds.bits;
      before = own.log;
      later = event (HoldRoot u word) finds.old ∷ [];
      published = subst (λ (c : ℕ). has_bit finds.bits (c % block_cells) ≡ true) (sym t.place_is) t.takes.published;
      reads = log_is own x finds.ran ∙ ap (λ (l : List Entry). own.log ++ l) reads;
    }

-- what is gone at a step is lost for good in the heap that the step found
lost-there : (step : Step) (n id : ℕ) (v : View) (f : Finds step n v) → IsGone f.state.core id → FindsLost id step n v
lost-there step n id v f gone =
    let told = steps-find step n v f in
    record { finds = f; agrees = told.0; lost = λ later fit. lost_for_good f.state.core (heap_found step n v f) later id f.whole.core told.0 fit gone }

-- nothing was found in the cell
none-lost : (c id bits : ℕ) (v : View) → Finds (ReadWeak c) bits v → HasWeak c id v.log → weak_reference v.state c bits ≡ 0 → FindsLost id (ReadWeak c) bits v
none-lost c id bits v f h none =
    let tells : FindsCell f.state.core (heap_found (ReadWeak c) bits v f) v.state c (weak_reference v.state c bits) = (steps-find (ReadWeak c) bits v f).1 in
    let lost : IsLost f.state.core (heap_found (ReadWeak c) bits v f) id = tells.none none id (inl (weak_remembered (ReadWeak c) bits c id v f h)) in
    lost-there (ReadWeak c) bits id v f lost.gone

-- the identity that a mutator reads in a cell is the one that is there
ident-is : (c n : ℕ) (v : View) (f : Finds (ReadIdent c) n v) → slice_index (words_of f.state.core.shape f.state.core.words).identities c ≡ n
ident-is c n v f =
    let d : Core = f.state.core in
    let e : Event = record { seat = f.index; step = ReadIdent c } in
    let acted : (s : SeatState) × Acted d e s = acts d e f.whole.core f.allowed in
    let same : acted.0 ≡ v.state = some-same acted.0 v.state (sym acted.1.seat ∙ f.agrees.seat) in
    let here : IsPlace d.shape (place d.shape v.state (ReadIdent c)) =
    subst (λ (s : SeatState). IsPlace d.shape (place d.shape s (ReadIdent c))) same (in-place d f.index acted.0 (ReadIdent c) (record { core = f.whole.core; got = acted.1.seat; live = acted.1.live; ok = acted.1.ok })) in
    sym (words-get (region_sizes d.shape) 9 d.words c 0 here) ∙ word-found d.shape d.words (place d.shape v.state (ReadIdent c)) here ∙ f.word

-- another object was found in the cell
other-lost : (c id other bits : ℕ) (v : View) → Finds (ReadIdent c) other (after (ReadWeak c) bits v) → HasWeak c id v.log → other ≢ id → FindsLost id (ReadIdent c) other (after (ReadWeak c) bits v)
other-lost c id other bits v f h differs =
    let read : View = after (ReadWeak c) bits v in
    let weak : IsWeak f.state.core id c = weak_remembered (ReadIdent c) other c id read f (weak-more c id v.log (event (ReadWeak c) bits ∷ []) h) in
    let w : Words = words_of f.state.core.shape f.state.core.words in
    let there : slice_index w.identities c ≡ other = ident-is c other read f in
    lost-there (ReadIdent c) other id read f
    (record {
      given = weak.given;
      seated = weak.seated;
      only = λ y low used is. let p : y ≡ c = (weak.only y low used is).0 in differs (sym there ∙ subst (λ (j : ℕ). slice_index w.identities j ≡ id) p is);
    })

-- the words of the events of a call
pub seen-are : (v x : View) (es : List Entry) → Ran v x → events v x ≡ es → AllSeen es v
seen-are v x es ran e = subst (λ (fs : List Entry). AllSeen fs v) e ran.seen

other-found :
    (u c id other bits old : ℕ) (v x : View) → Ran v x → events v x ≡ event (ReadWeak c) bits ∷ event (ReadIdent c) other ∷ event (HoldRoot u 0) old ∷ [] → HasWeak c id v.log → other ≢ id
    → FindsLost id (ReadIdent c) other (after (ReadWeak c) bits v)
other-found u c id other bits old v x ran are h differs = other-lost c id other bits v ((seen-are v x (event (ReadWeak c) bits ∷ event (ReadIdent c) other ∷ event (HoldRoot u 0) old ∷ []) ran are).1.0.found refl) h differs

none-found : (more : List Entry) (c id bits : ℕ) (v x : View) → Ran v x → events v x ≡ event (ReadWeak c) bits ∷ more → HasWeak c id v.log → weak_reference v.state c bits ≡ 0 → FindsLost id (ReadWeak c) bits v
none-found more c id bits v x ran are h none = none-lost c id bits v ((seen-are v x (event (ReadWeak c) bits ∷ more) ran are).0.found refl) h none

pub upgrade-told : (u c id : ℕ) (v x : View) → HasWeak c id v.log → Upgrades u c id false v x → FindsDeath (λ old. event (HoldRoot u 0) old ∷ []) u c id v x
upgrade-told u c id v x h (inl e) = inl (e.bits, e.old, e.events_are, none-found (event (HoldRoot u 0) e.old ∷ []) c id e.bits v x e.ran e.events_are h e.none)
upgrade-told u c id v x h (inr (other, differs, e)) = inr (e.bits, other, e.old, e.events_are, other-found u c id other e.bits e.old v x e.ran e.events_are h differs)

pub asking-told : (u c id : ℕ) (v x : View) → HasWeak c id v.log → AsksFor u c id false v x → FindsDeath (λ old. []) u c id v x
asking-told u c id v x h (inl e) = inl (e.bits, 0, e.events_are, none-found [] c id e.bits v x e.ran e.events_are h e.none)
asking-told u c id v x h (inr (other, differs, e)) = inr (e.bits, other, e.old, e.events_are, other-found u c id other e.bits e.old v x e.ran e.events_are h differs)
