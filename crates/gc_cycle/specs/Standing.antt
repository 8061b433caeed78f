-- Who may call: a mutator between two commands, the seat that stopped the world, a helper, and a seat outside.
use Rattle.std.specs.Prelude.{◌≡◌, ◌==◌, ◌&&◌, ◌||◌, not, Bool, is_none, is_some, IsTrue, IsFalse}
use Rattle.mark_core.specs.Seats.{empty_handed, has_making, is_bare, saw, work_in_hand}
use Rattle.mark_core.specs.Steps.WorldSteps.{has_nothing}
use Rattle.mark_core.specs.declared.kinds.Phase.TheVariants.{Drain, Sweep}
use Rattle.mark_core.specs.declared.kinds.Shape.{Shape}
use Rattle.mark_core.specs.declared.seat.SeatState.{SeatState}
use Rattle.gc_table.specs.declared.view.View.{View}

-- no packet, no work, no block in hand, no card owed, no cell half made, and no reference in the register
abbrev pub is_at_rest : Shape → SeatState → Bool
is_at_rest sh s = empty_handed s && not (work_in_hand sh.fields s) && is_none s.owes && is_none s.block && ((s.got == 0) && (s.lags == 0)) && not (has_making s.cache)

-- an active mutator between two commands
pub record Mutates (v : View) : Type 0 where
  pub active : IsTrue v.state.active
  pub unhelping : IsFalse v.state.helping
  pub section : IsTrue (is_some v.state.section)
  pub rest : IsTrue (is_at_rest v.shape v.state)

-- the seat stopped the world, and is alone, with nothing in hand
pub record IsAlone (v : View) : Type 0 where
  pub knows : IsTrue v.state.knows
  pub alone : IsTrue v.state.alone
  pub rest : IsTrue (has_nothing v.shape v.state)

-- a helper with nothing in hand
pub record IsAdmitted (v : View) : Type 0 where
  pub admitted : IsTrue v.state.admitted
  pub rest : IsTrue (has_nothing v.shape v.state)

-- a helper that knows the phase, with nothing in hand
pub record Helps (v : View) : Type 0 where
  pub admitted : IsTrue v.state.admitted
  pub phase : IsTrue (saw v.state.phase_seen Drain || saw v.state.phase_seen Sweep)
  pub rest : IsTrue (has_nothing v.shape v.state)

-- a seat outside the world, its stop and its help, with nothing in hand
pub record IsOut (v : View) : Type 0 where
  pub bare : IsTrue (is_bare v.state)
  pub rest : IsTrue (has_nothing v.shape v.state)

-- what the section has come to stays, but for its position and for what the ends of cycles say
pub record KeepsSection (v w : View) : Type 0 where
  pub meaning : w.own.meaning ≡ v.own.meaning
  pub places : w.own.places ≡ v.own.places
  pub turns : w.own.history ≡ v.own.history
  pub seasons : w.own.seasons ≡ v.own.seasons

-- the seat keeps its number, its section, its variables, and how many cells it has made
pub record KeepsSeat (v w : View) : Type 0 where
  pub number : w.state.number ≡ v.state.number
  pub section : w.state.section ≡ v.state.section
  pub env : w.state.env ≡ v.state.env
  pub made : w.state.made ≡ v.state.made
  pub spent : w.state.spent ≡ v.state.spent
