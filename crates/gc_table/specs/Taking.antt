-- When a seat may take a step, and its view afterwards.
use Rattle.std.specs.Prelude.{ℕ, ◌≡◌, List, [], ◌∷◌, ◌++◌, None}
use Rattle.mark_core.specs.Layout.{words_of}
use Rattle.mark_core.specs.Parts.{parts}
use Rattle.mark_core.specs.Effects.{place, written, seat_after}
use Rattle.mark_core.specs.Steps.{AllTrue, failing_part}
use Rattle.mark_core.specs.Places.{the_named}
use Rattle.mark_core.specs.Laws.{NumbersFit}
use Rattle.mark_core.specs.Notes.{word_at, steady, keeps_bound}
use Rattle.mark_core.specs.declared.kinds.Event.{Event}
use Rattle.mark_core.specs.declared.kinds.Step.{Step}
use Rattle.mark_core.specs.declared.kinds.Step.TheVariants.{Split, Join}
use Rattle.gc_table.specs.declared.view.View.{View}
pub use Rattle.gc_table.specs.Entries.{moves_from, won}
use Rattle.gc_table.specs.Entries.{event}
use Rattle.gc_table.specs.Notes.{look, noting}
use Rattle.gc_table.specs.Sections.{section_after, AskedOf}
use Rattle.gc_table.specs.Past.{LeadTo, IsLogged}
use Rattle.gc_table.specs.Reads.{Reads}
use Rattle.gc_table.specs.TableState.{TableState, start_state}
use Rattle.gc_table.specs.Rule.{IsState, Agrees, Leads}

-- the view after a step that found n
abbrev pub after : Step → ℕ → View → View
after step n v =
    record v {
      state = seat_after v.shape v.state step n;
      log = v.log ++ event step n ∷ [];
      known = noting (steady (seat_after v.shape v.state step n)) (place v.shape v.state step) (written v.shape v.state step n) v.known;
      floors = noting (λ at m. keeps_bound (seat_after v.shape v.state step n) at) (place v.shape v.state step) (written v.shape v.state step n) v.floors;
      own = section_after v.shape v.plan v.state step v.own;
    }

-- the condition of the step holds in every state that meets the rule and agrees with the view
abbrev pub May : Step → View → Type 0
May step v = (x : TableState) (i : ℕ) → IsState x → Agrees x i v → AllTrue (parts x.core.shape (words_of x.core.shape x.core.words) x.core.seats v.state step)

-- what is asked besides of a mutator's stores, of the next season and of a full heap
abbrev pub Asked : Step → View → Type 0
Asked step v = AskedOf v.shape v.plan v.state v.own (look the_named v.known) step

-- a step of one seat alone, whose numbers fit their types
abbrev pub IsOwn : Step → Type 0
IsOwn Split = ⊥
IsOwn (Join other) = ⊥
IsOwn step = NumbersFit step

-- what the step found is the word of a state that meets the rule and agrees with what the seat knew; and what a mutator reads is the plain heap's
pub record Finds (step : Step) (n : ℕ) (v : View) : Type 0 where
  pub state : TableState
  pub index : ℕ
  pub whole : IsState state
  pub agrees : Agrees state index v
  pub word : word_at state.core.shape state.core.words (place state.core.shape v.state step) ≡ n
  pub reads : Reads step n v
  pub allowed : failing_part state.core (record { seat = index; step = step }) ≡ None
  -- these events had led there, by states that each met the rule, and the seat's log is its part of them
  pub past : List Event
  pub led : LeadTo state.core.shape past state.core
  pub came : Leads past (start_state state.core.shape state.plan 1) state
  pub logged : IsLogged state.core.shape past state.core index v

-- what a store does doesn't rest on the word that it overwrites
abbrev pub IsBlind : Step → View → Type 0
IsBlind step v = (m n : ℕ) → (seat_after v.shape v.state step m ≡ seat_after v.shape v.state step n) × (written v.shape v.state step m ≡ written v.shape v.state step n)
