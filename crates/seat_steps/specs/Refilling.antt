-- What a stepper that makes an object only by its cache, and that comes to a cache with a free cell in pieces, is told.
use Rattle.std.specs.Prelude.{ℕ, ◌≡◌, ◌≤◌, ◌<◌, ◌+◌, ◌-◌, ◌*◌, ◌⊎◌, length, min, Option, None, Some, IsTrue}
use Rattle.std.specs.Arc.{arc_value}
use Rattle.mark_core.specs.Layout.{block_count}
use Rattle.mark_core.specs.declared.seat.CacheState.{CacheState}
use Rattle.plain_heap.specs.PlainStep.{IsInRange}
use Rattle.plain_heap.specs.declared.operation.Op.{Op}
use Rattle.gc_table.specs.Seats.{Across, state_of, view_of}
use Rattle.mutator_ops.specs.Few.{AtMost}
use Rattle.cache_refills.specs.Pace.Pacing.{card_looks}
use Rattle.cache_refills.specs.Pace.StepBounds.{payment_steps}
use Rattle.cache_refills.specs.Pieces.{SeesBlocks}
use Rattle.cache_refills.specs.declared.pieces.Piece.{Piece}
use Rattle.cache_refills.specs.declared.pieces.Piece.TheVariants as pieces
use Rattle.seat_turns.specs.Standing.{flush_steps}
use Rattle.seat_steps.specs.Causes.{GoesFreely}
use Rattle.seat_steps.specs.Seeking.{CachedBy, RefillFailsBy, RefillsBy, SeeksOnce}
use Rattle.seat_steps.specs.declared.seeking.Sought.TheVariants as soughts
use Rattle.seat_steps.specs.declared.came.Came.{Came}
use Rattle.seat_steps.specs.declared.came.Came.TheVariants as cames
use Rattle.seat_steps.specs.Stepping.{KeepsAll, KeepsCycle, KeepsHeap, KeepsPlace, KeepsSearch, StepperDoes, fields_in, heap_of_stepper, is_collecting}
use Rattle.seat_steps.specs.Steps.{shape_of}
use Rattle.seat_steps.specs.declared.stepper.Stage.TheVariants.{Inside, Outside}
use Rattle.seat_steps.specs.declared.stepper.Stepper.{Stepper}

-- what making an object of a cell of the cache came to, if the section may make one
abbrev pub MakesCached : Came → Op → Stepper → Stepper → Type 0
MakesCached cames.Done op x y = StepperDoes op x y × Across (CachedBy cames.Done) x.seat y.seat × KeepsSearch x y
MakesCached cames.OutOfRange op x y = (IsInRange (fields_in x) op → ⊥) × (y ≡ x)
MakesCached cames.Outside op x y = (x.stage ≡ Outside) × (y ≡ x)
MakesCached cames.Collecting op x y = IsTrue (is_collecting x.stage) × (y ≡ x)
MakesCached cames.NoCache op x y = Across (CachedBy cames.NoCache) x.seat y.seat × (x.stage ≡ Inside) × (y.stage ≡ Inside) × KeepsAll x y
MakesCached cames.Spent op x y = ((arc_value x.heap).shape.objects ≤ length (heap_of_stepper x).objects) × (x.stage ≡ Inside) × (y ≡ x)
MakesCached cames.Stopped op x y = Across (CachedBy cames.Stopped) x.seat y.seat × (x.stage ≡ Inside) × (y.stage ≡ Outside) × KeepsAll x y
MakesCached cames.Full op x y = Across (CachedBy cames.Full) x.seat y.seat × (x.stage ≡ Inside) × (y.stage ≡ Outside) × KeepsAll x y
MakesCached c op x y = ⊥

-- how many blocks there are
abbrev pub blocks_of : Stepper → ℕ
blocks_of x = block_count (shape_of x)

-- how many blocks a step of a search looks at that is to look at this many at most: none that it has seen, and none behind the last
abbrev pub reach : ℕ → Stepper → ℕ
reach most x = min most (blocks_of x - x.seen)

abbrev pub looked : ℕ → Stepper → ℕ
looked most x = min (reach most x) (blocks_of x - x.block)

-- the next block, and how many were seen
abbrev pub SeenTo : Came → ℕ → Stepper → Stepper → Type 0
SeenTo cames.NotYet number x y = (y.seen ≡ x.seen + number) × (y.seen < blocks_of x)
SeenTo cames.NoCell number x y = (y.seen ≡ 0) × (blocks_of x ≤ x.seen + number)
SeenTo c number x y = ⊥

-- the stepper noted that this many more blocks were seen without a free cell, and from which one on its search goes on
pub record NotesSeen (number next : ℕ) (came : Came) (x y : Stepper) : Type 0 where
  pub seat : y.seat ≡ x.seat
  pub stage : y.stage ≡ x.stage
  pub heap : y.heap ≡ x.heap
  pub name_is : y.name ≡ x.name
  pub stops : y.in_stops ≡ x.in_stops
  pub paid_is : y.paid ≡ x.paid
  pub cycle : KeepsCycle x y
  pub block : y.block ≡ next
  pub seen : SeenTo came number x y

-- the block behind that of a cache
abbrev pub block_behind : Option CacheState → ℕ
block_behind None = 0
block_behind (Some c) = c.block + 1

-- the stepper is to search all blocks, from the one on that is behind the block of its mutator's cache
abbrev pub IsToSearch : Stepper → Type 0
IsToSearch x = (x.seen ≡ 0) × (x.block ≡ min (block_behind (state_of x.seat).cache) (blocks_of x))

-- the next search begins, of all blocks
pub record BeginsSearch (x y : Stepper) : Type 0 where
  pub seat : y.seat ≡ x.seat
  pub stage : y.stage ≡ x.stage
  pub heap : y.heap ≡ x.heap
  pub name_is : y.name ≡ x.name
  pub stops : y.in_stops ≡ x.in_stops
  pub paid_is : y.paid ≡ x.paid
  pub cycle : KeepsCycle x y
  pub search : IsToSearch y

-- from the block on where the search stood, this many blocks were looked at, in their order, and no other, and each was seen without a free cell; then a look at the
-- world found no stop; the search goes on behind these blocks, or at block 0; this many steps were taken at most
pub record LooksOn (most : ℕ) (x y : Stepper) : Type 0 where
  pub piece : Piece
  pub seeks : Across (SeeksOnce (flush_steps (view_of x.seat) + 3) GoesFreely x.block (reach most x) piece) x.seat y.seat
  pub sees : SeesBlocks x.block (x.block + looked most x) seeks.asked seeks.got
  pub few : Across (AtMost (3 * reach most x + (flush_steps (view_of x.seat) + 11))) x.seat y.seat
  pub next : (y.block ≡ x.block + looked most x) ⊎ ((y.block ≡ 0) × (x.block + looked most x ≡ blocks_of x))

-- marking was done, and no block was looked at; then a look at the world found no stop; the search stands where it stood
pub record FindsMarked (most : ℕ) (x y : Stepper) : Type 0 where
  pub seeks : Across (SeeksOnce (flush_steps (view_of x.seat) + 3) GoesFreely x.block (reach most x) pieces.MarkingDone) x.seat y.seat
  pub few : Across (AtMost (flush_steps (view_of x.seat) + 11)) x.seat y.seat
  pub place : KeepsPlace x y

-- why a collection is called for: as many blocks were seen as there are, in this step and those before it, or marking was done
abbrev pub LacksAll : ℕ → Stepper → Stepper → Type 0
LacksAll most x y = (LooksOn most x y × SeenTo cames.NoCell (looked most x) x y) ⊎ FindsMarked most x y

-- how many steps a step of a refill takes at most, whatever it comes to: three for each block that it looks at, those of a payment, and those that
-- store the roots that lag
abbrev pub refill_steps : ℕ → Stepper → ℕ
refill_steps most x = 3 * reach most x + payment_steps 1024 card_looks (shape_of x) + (flush_steps (view_of x.seat) + 17)

-- what a step of a refill came to
abbrev pub StepperRefills : ℕ → Came → Stepper → Stepper → Type 0
StepperRefills most cames.Done x y = RefillsBy x.block (reach most x) soughts.Free (view_of x.seat) (view_of y.seat) × Across (AtMost (refill_steps most x)) x.seat y.seat × IsToSearch y × (x.stage ≡ Inside) × (y.stage ≡ Inside) × KeepsHeap x y
StepperRefills most cames.NotYet x y = LooksOn most x y × SeenTo cames.NotYet (looked most x) x y × (x.stage ≡ Inside) × (y.stage ≡ Inside) × KeepsHeap x y
StepperRefills most cames.NoCell x y = LacksAll most x y × (x.stage ≡ Inside) × (y.stage ≡ Inside) × KeepsHeap x y
StepperRefills most cames.Stopped x y = Across (RefillFailsBy x.block (reach most x) cames.Stopped) x.seat y.seat × Across (AtMost (refill_steps most x)) x.seat y.seat × (x.stage ≡ Inside) × (y.stage ≡ Outside) × KeepsHeap x y × KeepsPlace x y
StepperRefills most cames.Full x y = Across (RefillFailsBy x.block (reach most x) cames.Full) x.seat y.seat × Across (AtMost (refill_steps most x)) x.seat y.seat × (x.stage ≡ Inside) × (y.stage ≡ Outside) × KeepsHeap x y × KeepsPlace x y
StepperRefills most cames.OutOfRange x y = (most ≡ 0) × (y ≡ x)
StepperRefills most cames.Outside x y = (x.stage ≡ Outside) × (y ≡ x)
StepperRefills most cames.Collecting x y = IsTrue (is_collecting x.stage) × (y ≡ x)
StepperRefills most c x y = ⊥
