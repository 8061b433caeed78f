-- What an export answers that is for a shared world.
use Rattle.std.specs.Prelude.{ℕ, ◌≡◌, ◌+◌, ◌-◌, ◌<◌, ◌/◌, ◌%◌, ◌∷◌, [], Bool, Result, Ok, Err}
use Rattle.std.specs.Arc.{arc_value}
use Rattle.mark_core.specs.Steps.MutatorSteps.{seat_variable as word_in}
use Rattle.mark_core.specs.declared.kinds.Step.TheVariants.{ReadIdent, StoreSlot}
use Rattle.gc_table.specs.Seats.{Found, state_of}
use Rattle.mutator_ops.specs.Sharing.{FillsFound, TakesSteps}
use Rattle.seat_turns.specs.Clearing.{clearing_steps}
use Rattle.seat_turns.specs.Exchanging.{ExchangesField, ExchangesValue}
use Rattle.seat_steps.specs.declared.came.Came.{Came}
use Rattle.seat_steps.specs.declared.came.Came.TheVariants as cames
use Rattle.seat_steps.specs.Asking.{LacksObject}
use Rattle.seat_steps.specs.Acting.{ActsTo, CanExchange, HasSlots, IsSlot, IsVariable, StepperActs, WantsObject}
use Rattle.seat_steps.specs.declared.stepper.Stage.TheVariants.{Inside}
use Rattle.seat_steps.specs.declared.stepper.Stepper.{Stepper}
use Rattle.managed_heap_c.specs.Asking.{number_of_answer}

-- what an exchange of a field came to, by what the variable of C was and is: it tells whether the exchange was won, or nothing is written
abbrev pub ExchangesTo : ℕ → ℕ → ℕ → ℕ → ℕ → ℕ → Came → Stepper → Stepper → Type 0
ExchangesTo v i m n before after cames.Done x y = (won : Bool) × (after ≡ number_of_answer won) × StepperActs (CanExchange x v i m n) 3 (ExchangesField v i m n won) x y
ExchangesTo v i m n before after came x y = WantsObject came (CanExchange x v i m n) v x y × (after ≡ before)

-- the same of an exchange of a value
abbrev pub ExchangesValueTo : ℕ → ℕ → ℕ → ℕ → ℕ → Came → Stepper → Stepper → Type 0
ExchangesValueTo v m n before after cames.Done x y = (won : Bool) × (after ≡ number_of_answer won) × StepperActs (IsVariable v) 1 (ExchangesValue v m n won) x y
ExchangesValueTo v m n before after came x y = WantsObject came (IsVariable v) v x y × (after ≡ before)

-- slot k became what variable v is
abbrev pub Spills : ℕ → ℕ → Came → Stepper → Stepper → Type 0
Spills v k came x y = ActsTo came (IsSlot x v k) 1 (TakesSteps (StoreSlot k (word_in (state_of x.seat) v) ∷ [])) x y

-- variable v became what slot k was found to be
abbrev pub Fills : ℕ → ℕ → Came → Stepper → Stepper → Type 0
Fills v k came x y = ActsTo came (IsSlot x v k) 2 (FillsFound v k) x y

-- the slots from the one number on and below the other became nil
abbrev pub ForgetsSlots : ℕ → ℕ → Came → Stepper → Stepper → Type 0
ForgetsSlots from to came x y = ActsTo came (HasSlots x from to) (to - from) (TakesSteps (clearing_steps from (to - from))) x y

-- what asking for the place of a variable's object came to, in either kind of world; the mutator is as it was
abbrev pub PlacesTo : ℕ → ℕ → ℕ → Came → Stepper → Stepper → Type 0
PlacesTo v before after cames.Done x y = (word_in (state_of x.seat) v ≡ after + 1) × (after < (arc_value x.heap).shape.cells) × IsVariable v × (x.stage ≡ Inside) × (y ≡ x)
PlacesTo v before after came x y = LacksObject came v x × (y ≡ x) × (after ≡ before)

-- one read found the number of variable v's object, of which C has the maker's part and the rest
abbrev pub FindsNumber : ℕ → ℕ → ℕ → Stepper → Stepper → Type 0
FindsNumber v section number x y =
    (n : ℕ) × (section ≡ n / 4294967296) × (number ≡ n % 4294967296) × StepperActs (IsVariable v) 1 (Found (ReadIdent (word_in (state_of x.seat) v - 1)) n) x y

-- what asking for the number came to, by what the variables of C were and are
abbrev pub NumbersTo : ℕ → ℕ → ℕ → ℕ → ℕ → Came → Stepper → Stepper → Type 0
NumbersTo v section_before number_before section number cames.Done x y = FindsNumber v section number x y
NumbersTo v section_before number_before section number came x y = WantsObject came (IsVariable v) v x y × (section ≡ section_before) × (number ≡ number_before)

-- the place was written, or there is none and nothing is written
abbrev pub WritesPlace : Came → Result ℕ Came → ℕ → ℕ → Type 0
WritesPlace came (Ok place) before after = (came ≡ cames.Done) × (after ≡ place)
WritesPlace came (Err why) before after = (came ≡ why) × (after ≡ before)

-- both parts of the number were written, or there is none and nothing is written
abbrev pub WritesNumber : Came → Result ℕ Came → ℕ → ℕ → ℕ → ℕ → Type 0
WritesNumber came (Ok n) section_before number_before section number = (came ≡ cames.Done) × (section ≡ n / 4294967296) × (number ≡ n % 4294967296)
WritesNumber came (Err why) section_before number_before section number = (came ≡ why) × (section ≡ section_before) × (number ≡ number_before)
