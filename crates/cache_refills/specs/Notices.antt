-- What a watch may be told, and what it has heard.
use Rattle.std.specs.Prelude.{◌≡◌, List, [], ◌∷◌}
use Rattle.gc_cycle.specs.declared.counts.Counts.{Counts}
use Rattle.gc_cycle.specs.declared.counts.Paid.{Paid}

-- one notice
pub data Notice : Type 0 where
  -- the mutator has paid this for its cache
  pays : Paid → Notice
  -- the seat asks for a stop
  asks : Notice
  -- an ordinary cycle has ended in the stop, with these counts
  finishes : Counts → Notice
  -- a precise collection has ended in the stop, with these counts
  collects : Counts → Notice
  -- the world goes on
  resumes : Notice

-- from s the watch came to t by being told these notices, one after another, and nothing else
abbrev pub Hears : {S : Type 0} → (S → Notice → S → Type 0) → List Notice → S → S → Type 0
Hears hears [] s t = t ≡ s
Hears {S} hears (n ∷ ns) s t = (m : S) × hears s n m × Hears hears ns m t

-- the watch was told notices of which P holds
pub record IsTold {S : Type 0} (hears : S → Notice → S → Type 0) (P : List Notice → Type 0) (s t : S) : Type 0 where
  pub notices : List Notice
  pub heard : Hears hears notices s t
  pub tells : P notices
