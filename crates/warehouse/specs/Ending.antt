-- The last stop of a play, and the part of a script that has no catalogue.
use Rattle.std.specs.Prelude.{◌≡◌, ◌+◌, ◌%◌, ◌==◌, IsTrue}
use Rattle.gc_table.specs.Log.{events}
use Rattle.gc_table.specs.Rule.{KnowsFull}
use Rattle.gc_table.specs.declared.view.View.{View}
use Rattle.packet_pools.specs.Counts.{count_of}
use Rattle.play_end.specs.declared.played.Played.{Played}
use Rattle.play_end.specs.declared.played.Played.TheVariants as plays
use Rattle.warehouse.specs.Pacing.{CountsOne}
use Rattle.warehouse.specs.Playing.{counts_part}
use Rattle.warehouse.specs.Turns.{KeepsPart}

-- the season moved on, and if that ended the last turn, an exact cycle ended in the same stop; or the phase was read as Full in it
abbrev pub PlaySettles : Played → View → View → Type 0
PlaySettles plays.Done v w = (w.own.seasons ≡ v.own.seasons + 1) × (IsTrue (v.own.seasons % 2 == 1) → IsTrue w.own.settled)
PlaySettles plays.Full v w = KnowsFull w

-- one part was counted, no other number was changed, no cycle was begun, and what the section has come to is as it was
pub record CountsAbsent (v w : View) : Type 0 where
  pub keeps : KeepsPart v w
  pub counted : count_of counts_part (events v w) ≡ 1
  pub counts : CountsOne v w
  pub seasons : w.own.seasons ≡ v.own.seasons
