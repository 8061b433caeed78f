-- What the command does that makes an object.
use Rattle.std.specs.Prelude.{ℕ, ◌≡◌, [], ◌∷◌, ◌++◌, false}
use Rattle.alloc_cache.specs.Making.{with_cell}
use Rattle.plain_heap.specs.declared.operation.Op.TheVariants as ops
use Rattle.gc_table.specs.Sections.{season_of}
use Rattle.gc_table.specs.declared.view.View.{View}
use Rattle.gc_table.specs.Log.{Only}
use Rattle.gc_table.specs.Running.{Ran}
use Rattle.mutator_ops.specs.Doing.{IsOneStep, IsStepped, belongs}

-- the object was made in this cell, which is its place, and a variable refers to it
pub record Creates (u n cell : ℕ) (v w : View) : Type 0 where
  pub ran : Ran v w
  pub only : Only (belongs (ops.New u n)) v w
  pub once : IsOneStep v w
  pub heap : IsStepped (ops.New u n) 0 v w
  pub undropped : w.own.meaning.heap.dropped ≡ v.own.meaning.heap.dropped
  pub state : w.state ≡ record (with_cell v.state cell) { env = w.state.env }
  pub own : w.own ≡ record v.own { meaning = w.own.meaning; history = w.own.history; places = v.own.places ++ record { cell = cell; season = season_of v.state; heap = v.own.meaning.heap } ∷ []; settled = false }
