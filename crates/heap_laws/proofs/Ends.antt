-- The words of a closed heap that doesn't share objects are the plain heaps of its seats.
use Rattle.std.proofs.Common.{ℕ, ◌≡◌, ◌⊎◌, inl, inr, ◌+◌, ◌*◌, ◌<◌, ◌≤◌, List, length, arith, refl, sym, ap, ◌∙◌, subst, Bool, Option, None, Some, ⊎_elim}
use Rattle.std.specs.Prelude.{IfSome, IsFalse, if◌then◌else◌, slice_get, slice_index}
use Rattle.std.specs.Option.{option_map}
use Rattle.std.proofs.lemmas.Bool.{cases_lt, lt-ltb}
use Rattle.std.proofs.lemmas.Option.{slice_get-map, slice_get_within}
use Rattle.mark_core.specs.Laws.{IsCore}
use Rattle.mark_core.specs.Layout as layout
use Rattle.mark_core.specs.Steps.{Core}
use Rattle.mark_core.specs.Variables.{roots_now}
use Rattle.mark_core.specs.declared.kinds.Shape.{Shape}
use Rattle.mark_core.specs.declared.seat.SeatState.{SeatState}
use Rattle.mark_core.proofs.HeldBlock.{roots-length}
use Rattle.mark_core.proofs.Lagging.{Shows}
use Rattle.plain_heap.specs.Paths.{Name, IsReachable}
use Rattle.plain_heap.specs.PlainHeap.{variable}
use Rattle.gc_table.specs.Ends.{AreWords, IsEnd}
use Rattle.gc_table.specs.Laws.{IsCellOfObject, IsRunOf}
use Rattle.gc_table.specs.Seats.{view_of}
use Rattle.gc_table.specs.StandsFor.{HoldsObject, StandsFor, WordAgrees, heaps_of, name_at, object_count}
use Rattle.gc_table.specs.TableState.{meanings_of}
use Rattle.gc_table.specs.declared.seat.HeapSeat.{HeapSeat}
use Rattle.gc_table.specs.declared.view.Meaning.{Meaning}
use Rattle.gc_table.specs.declared.view.SectionState.{SectionState}
use Rattle.gc_table.specs.declared.words.Words.{Words}
use Rattle.gc_table.proofs.History.Past.{ended}
use Rattle.gc_table.proofs.Shown.{rest-shows, root-shown}
use Rattle.gc_table.proofs.Stands.StandsReached.{objects_have_cells}
use Rattle.heap_laws.specs.Ends.{EndsStand, IsHandedIn, WordsAre}
use Rattle.heap_laws.specs.Moments.{IsHistory}
use Rattle.heap_laws.proofs.Unlogged.{unlogged-shows}

-- the cell of an object, by the words that are handed out
abbrev HasCell : Shape → List Meaning → List ℕ → List ℕ → List ℕ → Name → Type 0
HasCell sh ms ids values fields name = (x : ℕ) × (name_at ids x ≡ name) × ((m : Meaning) × (slice_get ms name.section ≡ Some m) × HoldsObject sh ids values fields (object_count ms) m x)

ends_at : (sh : Shape) (seats : List HeapSeat) (w : Words) (end : IsEnd sh seats w) → IsFalse end.state.core.shape.sharing → WordsAre end.state.core.shape seats w
ends_at sh seats w end apart = record { meanings = ms; sections = stands.sections; own = own; roots = roots; objects = objects }
  where
    c : Core
    c = end.state.core

    ms : List Meaning
    ms = meanings_of end.state.sections

    stands : StandsFor c ms
    stands = end.whole.stands apart

    are : AreWords c.shape c.words w
    are = subst (λ (z : Shape). AreWords z c.words w) (sym end.shape) end.words

    old : layout.Words
    old = layout.words_of c.shape c.words

    own : (i : ℕ) (s : HeapSeat) (k : ℕ) → slice_get seats i ≡ Some s → (view_of s).state.section ≡ Some k → slice_get ms k ≡ Some (view_of s).own.meaning
    own i s k at section = slice_get-map (λ (x : SectionState). x.meaning) end.state.sections k ∙ ap (option_map (λ (x : SectionState). x.meaning)) (end.sections i s k at section)

    -- the roots as the seats have them
    now : List ℕ
    now = roots_now old.roots c.seats

    core : IsCore c
    core = end.whole.core

    run : IsRunOf sh seats w end.past
    run = ended sh seats w end

    history : IsHistory sh end.past
    history = record { allowed = run.allowed; sound = run.sound }

    -- nothing lags at a seat that was handed in, nor at one that took no part
    rests : (k : ℕ) → k < c.shape.sections → k < length seats → (o : Option SeatState) → slice_get c.seats k ≡ o → IfSome o Shows
    rests k within below None e = tt
    rests k within below (Some r) e =
        let section : r.section ≡ Some k = (core.formed.seats k r e).section ∙ ap (λ (b : Bool). if b then Some k else None) (lt-ltb k c.shape.sections within) in
        rest-shows c seats k r core e (end.resting k r k below e section)

    shows : (k : ℕ) → k < c.shape.sections → IsHandedIn seats k → IfSome (slice_get c.seats k) Shows
    shows k within (inl below) = rests k within below (slice_get c.seats k) refl
    shows k within (inr (s, first, all)) =
        ⊎_elim
        (λ (below : k < length seats). rests k within below (slice_get c.seats k) refl)
        (λ (past : length seats ≤ k). subst (λ (x : Core). IfSome (slice_get x.seats k) Shows) end.led.leads (unlogged-shows sh end.past k history (end.theirs s first all k past)))
        (cases_lt k (length seats))

    roots : (k : ℕ) (m : Meaning) → slice_get ms k ≡ Some m → (v : ℕ) → v < 32 → (word : ℕ) × WordAgrees w.idents.items (object_count ms) k word (variable m.heap v) × (IsHandedIn seats k → word ≡ slice_index w.roots.items (k * 32 + v))
    roots k m at v below =
        let within : k < c.shape.sections = omega (arith, slice_get_within ms k m at, stands.sections) in (
          slice_index now (k * 32 + v),
          subst (λ (ids : List ℕ). WordAgrees ids (object_count ms) k (slice_index now (k * 32 + v)) (variable m.heap v)) (sym are.idents) (stands.roots_agree k m at v below),
          λ handed.
              root-shown c k v (shows k within handed) below (omega (arith, within, below, roots-length c core))
              ∙ ap (λ (rs : List ℕ). slice_index rs (k * 32 + v)) (sym are.roots),
        )

    objects : (name : Name) → IsReachable (heaps_of ms) name → HasCell c.shape ms w.idents.items w.values.items w.fields.items name
    objects name reach =
        let r = objects_have_cells c ms end.whole.core stands name reach in
        let cell : IsCellOfObject c ms name r.0 = r.1 in
        let here : HasCell c.shape ms old.identities old.values old.fields name = (r.0, cell.1, cell.2) in
        subst (λ (ids : List ℕ). HasCell c.shape ms ids w.values.items w.fields.items name) (sym are.idents)
        (subst (λ (values : List ℕ). HasCell c.shape ms old.identities values w.fields.items name) (sym are.values)
        (subst (λ (fields : List ℕ). HasCell c.shape ms old.identities old.values fields name) (sym are.fields) here))

pub ends_stand : EndsStand
ends_stand sh seats w end apart = subst (λ (z : Shape). WordsAre z seats w) end.shape (ends_at sh seats w end (ap (λ (z : Shape). z.sharing) end.shape ∙ apart))
