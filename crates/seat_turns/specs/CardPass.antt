-- The cards that a tracer passes once a cycle is far on: exactly which steps it takes. Each is told of what the seat knew before and after.
use Rattle.std.specs.Prelude.{ℕ, ◌≡◌, ◌⊎◌, Bool, true, false, Some}
use Rattle.gc_table.specs.Log.{Only, events}
use Rattle.gc_table.specs.Running.{Ran}
use Rattle.gc_table.specs.declared.view.View.{View}
use Rattle.card_clean.specs.NextCards.{PassesNextCards, PassesNone}
use Rattle.tracer.specs.declared.traced.Stopped.{Stopped}
use Rattle.tracer.specs.declared.traced.Stopped.TheVariants.{NoWork}
use Rattle.cache_refills.specs.Pace.Pacing.{late_seen}
use Rattle.cache_refills.specs.Pace.Payment.{reads_number}
use Rattle.mutator_ops.specs.Few.{AtMost}

-- how many cards a turn passes, if the cycle is far on and there are as many
abbrev pub turn_cards : ℕ
turn_cards = 1024

-- as many cards as a turn has, or fewer, and then no card was left; a packet was taken at the first dirty one, for it and all that follow. Or no card was
-- cleaned: none was dirty, or no packet with room was found for the first dirty one
abbrev pub PassesSome : View → View → Type 0
PassesSome v w = PassesNone turn_cards v w ⊎ ((left : ℕ) × PassesNextCards false left turn_cards v w)

-- cards were passed if the cycle was far on
abbrev pub PassesIf : Bool → View → View → Type 0
PassesIf true v w = PassesSome v w
PassesIf false v w = w ≡ v

-- by three reads the seat saw whether the cycle was far on, which takes three numbers; and it passed cards if so
pub record PassesLate (v w : View) : Type 0 where
  pub late : Bool
  pub read : View
  pub ran : Ran v read
  pub only : Only reads_number v read
  pub sees : late_seen (events v read) ≡ Some late
  pub few : AtMost 3 v read
  pub passes : PassesIf late read w

-- cards were seen to if tracing stopped for want of work
abbrev pub PassesFor : Stopped → View → View → Type 0
PassesFor NoWork v w = PassesLate v w
PassesFor stopped v w = w ≡ v
