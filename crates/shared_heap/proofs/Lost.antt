-- What an upgrade of a weak reference tells of its object in the one heap of all mutators.
use Rattle.std.proofs.Common.{[], ℕ, ◌≡◌, ◌≢◌, ◌+◌, ◌∷◌, ◌∙◌, List, true, false, inl, inr, refl, sym, subst}
use Rattle.std.specs.Prelude.{slice_index}
use Rattle.mark_core.specs.Effects.{place}
use Rattle.mark_core.specs.Layout.{Words, words_of, region_sizes}
use Rattle.mark_core.specs.Steps.{Core}
use Rattle.mark_core.specs.Weak.{IsAt}
use Rattle.mark_core.specs.declared.kinds.Event.{Event}
use Rattle.mark_core.specs.declared.kinds.Step.TheVariants.{HoldRoot, ReadIdent, ReadWeak}
use Rattle.mark_core.specs.declared.seat.SeatState.{SeatState}
use Rattle.mark_core.proofs.Blocks.BlocksStopped.{in-place}
use Rattle.mark_core.proofs.Known.{Acted, acts}
use Rattle.mark_core.proofs.Notes.NotesKept.{word-found}
use Rattle.mark_core.proofs.Writing.Places.{words-get}
use Rattle.mark_core.proofs.Writing.Ranges.{IsPlace}
use Rattle.gc_table.specs.AgreementLaws.{IsLost}
use Rattle.gc_table.specs.Entries.{event}
use Rattle.gc_table.specs.Finding.{heap_found}
use Rattle.gc_table.specs.Seats.{view_of}
use Rattle.gc_table.specs.Taking.{Finds}
use Rattle.gc_table.specs.declared.view.Entry.{Entry}
use Rattle.gc_table.specs.declared.view.View.{View}
use Rattle.gc_table.proofs.Losing.{lost}
use Rattle.gc_table.proofs.State.StateSteps.{some-same}
use Rattle.mutator_ops.specs.Upgrading.{FindsIdentity, FindsNothing}
use Rattle.shared_heap.specs.Finding.{AllFindHeap, FindsHeap, UpgradeFound}
use Rattle.shared_heap.specs.declared.mutator.SharedMutator.{SharedMutator}
use Rattle.shared_heap.proofs.Finding.{calls-find}

-- the identity that a mutator reads in a cell is the one that is there
ident-is : (x n : ℕ) (v : View) (f : Finds (ReadIdent x) n v) → slice_index (words_of f.state.core.shape f.state.core.words).identities x ≡ n
ident-is x n v f =
    let c : Core = f.state.core in
    let e : Event = record { seat = f.index; step = ReadIdent x } in
    let acted : (s : SeatState) × Acted c e s = acts c e f.whole.core f.allowed in
    let same : acted.0 ≡ v.state = some-same acted.0 v.state (sym acted.1.seat ∙ f.agrees.seat) in
    let here : IsPlace c.shape (place c.shape v.state (ReadIdent x)) =
    subst (λ (s : SeatState). IsPlace c.shape (place c.shape s (ReadIdent x))) same (in-place c f.index acted.0 (ReadIdent x) (record { core = f.whole.core; got = acted.1.seat; live = acted.1.live; ok = acted.1.ok })) in
    sym (words-get (region_sizes c.shape) 9 c.words x 0 here) ∙ word-found c.shape c.words (place c.shape v.state (ReadIdent x)) here ∙ f.word

-- where another object is, the one that was there is lost
pub another-lost : (x id other : ℕ) (v : View) (q : FindsHeap (ReadIdent x) other v) → other ≢ id → IsAt q.finds.state.core id x → IsLost q.finds.state.core (heap_found (ReadIdent x) other v q.finds) id
another-lost x id other v q differs at =
    let c : Core = q.finds.state.core in
    let w : Words = words_of c.shape c.words in
    let there : slice_index w.identities x ≡ other = ident-is x other v q.finds in
    lost c (heap_found (ReadIdent x) other v q.finds) id q.finds.whole.core q.agrees
    (record {
      given = at.given;
      seated = at.seated;
      only = λ y low used is. let p : y ≡ x = at.only y low used is in differs (sym there ∙ subst (λ (j : ℕ). slice_index w.identities j ≡ id) p is);
    })

pub found-two :
    (u c id word : ℕ) (x y : SharedMutator) (e : FindsIdentity u c id word (view_of x.seat) (view_of y.seat))
    → AllFindHeap (event (ReadWeak c) e.bits ∷ event (ReadIdent c) id ∷ event (HoldRoot u word) e.old ∷ []) (view_of x.seat)
found-two u c id word x y e = subst (λ (es : List Entry). AllFindHeap es (view_of x.seat)) e.events_are (calls-find x y e.ran)

pub found-one : (u c : ℕ) (x y : SharedMutator) (e : FindsNothing u c (view_of x.seat) (view_of y.seat)) → AllFindHeap (event (ReadWeak c) e.bits ∷ event (HoldRoot u 0) e.old ∷ []) (view_of x.seat)
found-one u c x y e = subst (λ (es : List Entry). AllFindHeap es (view_of x.seat)) e.events_are (calls-find x y e.ran)

pub upgrade-found : UpgradeFound
upgrade-found u c id true x y e = let all = found-two u c id (c + 1) x y e in record { bits = e.bits; there = e.some; asked = all.0 refl; read = all.1.0 refl }
upgrade-found u c id false x y (inl e) =
    let asked : FindsHeap (ReadWeak c) e.bits (view_of x.seat) = (found-one u c x y e).0 refl in
    inl (record { bits = e.bits; none = e.none; asked = asked; lost = λ may. asked.tells.none e.none id may })
upgrade-found u c id false x y (inr (other, differs, e)) =
    let read = (found-two u c other 0 x y e).1.0 refl in
    inr (record { bits = e.bits; other = other; differs = differs; read = read; lost = another-lost c id other _ read differs })
