-- What the workers' seasons come to together.
use Rattle.std.proofs.Common.{ℕ, ◌≡◌, List, All, get_or, refl, subst, Bool, true, false, inl, inr}
use Rattle.plain_heap.specs.Sections.{Sections}
use Rattle.gc_table.specs.Rule.{KnowsFull}
use Rattle.gc_table.specs.Seats.{view_of}
use Rattle.gc_table.specs.declared.seat.Heap.{Heap}
use Rattle.warehouse.specs.declared.mutator.Mutator.{Mutator}
use Rattle.play_end.specs.declared.played.Played.{Played}
use Rattle.play_end.specs.declared.played.Played.TheVariants.{Done, Full}
use Rattle.gc_play.specs.declared.workers.Worker.{Worker}
use Rattle.gc_play.specs.Dealing.{HaltsAt, WarehouseStopsAt, ShareEnds, SomeAt, SomeFull}
use Rattle.gc_play.specs.Crews.{SeasonTurnEnds}

some-map : {X : Type 0} (P Q : X → Type 0) → ((x : X) → P x → Q x) → (xs : List X) → SomeAt P xs → SomeAt Q xs
some-map P Q f xs e = (e.0, e.1, λ d. f (get_or xs e.0 d) (e.2 d))

share-halts : (b : Bool) (h : Heap) (s : Sections) (z : ℕ) (ms : List Mutator) → ShareEnds b h s z ms → All (HaltsAt h s z) ms
share-halts true h s z ms e = e.0
share-halts false h s z ms e = λ k d below. inr (inl (e k d below))

share-stops : (b : Bool) (h : Heap) (s : Sections) (z : ℕ) (ms : List Mutator) → b ≡ true → ShareEnds b h s z ms → SomeAt (WarehouseStopsAt h s z) ms
share-stops b h s z ms t e = (subst (λ x. ShareEnds x h s z ms) t e).1

module _ (h : Heap) (s : Sections) (z : ℕ) (ws : List Worker) (all : All (λ (x : Worker). ShareEnds x.full h s z x.mutators.items) ws) where
  pub turn_full : SomeFull ws → SeasonTurnEnds Full h s z ws
  turn_full some_full = (
    λ k d below. share-halts (get_or ws k d).full h s z (get_or ws k d).mutators.items (all k d below),
    (
      some_full.0,
      some_full.1,
      λ d.
          some-map (WarehouseStopsAt h s z) (λ (m : Mutator). KnowsFull (view_of m.seat)) (λ m x. x.stopped.full) (get_or ws some_full.0 d).mutators.items
          (share-stops (get_or ws some_full.0 d).full h s z (get_or ws some_full.0 d).mutators.items (some_full.2 d) (all some_full.0 d some_full.1)),
    ),
  )

-- a turn that all warehouses played to its end
pub turn-ended : (r : Played) (h : Heap) (s : Sections) (z : ℕ) (ws : List Worker) → (r ≡ Full → ⊥) → SeasonTurnEnds r h s z ws → SeasonTurnEnds Done h s z ws
turn-ended Done h s z ws n e = e
turn-ended Full h s z ws n e = absurd (n refl)
