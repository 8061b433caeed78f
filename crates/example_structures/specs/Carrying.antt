-- Which numbers a mutator put into a queue and took out of it, as its log tells.
use Rattle.std.specs.Prelude.{ℕ, ◌≡◌, ◌<◌, List, [], ◌∷◌, ◌++◌, Bool, true, false, Option, None, Some}
use Rattle.std.specs.declared.result.Result.{Result}
use Rattle.std.specs.declared.result.Result.TheVariants.{Err, Ok}
use Rattle.mark_core.specs.Steps.MutatorSteps.{seat_variable as word_in}
use Rattle.gc_table.specs.Seats.{state_of}
use Rattle.queue_laws.specs.NumberLogs.{Telling, all_told, puts_told, takes_told, telling_at, tellings}
use Rattle.seat_turns.specs.declared.refused.Refused.{Refused}
use Rattle.shared_heap.specs.declared.mutator.SharedMutator.{SharedMutator}
use Rattle.example_structures.specs.Fitting.{Began, FitsSince, HasFresh, MayLink, SeesFirst, hands, since}
use Rattle.example_structures.specs.declared.queue.taking.Look.{Look}
use Rattle.example_structures.specs.declared.queue.taking.Look.TheVariants.{Again, Empty, Taken}

-- of each node that was put in since by variable q's queue, with what number the mutator made it; None if it didn't make it, or stored a value since
abbrev pub numbers_put : ℕ → Began → SharedMutator → List (Option ℕ)
numbers_put q b m = puts_told b.fields (hands q) (telling_at (hands q) b.seat) (since b m)

-- of each that was taken out, what number the mutator had read there; None if it had read none
abbrev pub numbers_taken : ℕ → Began → SharedMutator → List (Option ℕ)
numbers_taken q b m = takes_told b.fields (hands q) (telling_at (hands q) b.seat) (since b m)

-- these numbers were put in, and these taken out, in this order
pub record Carried (q : ℕ) (b : Began) (puts takes : List ℕ) (x y : SharedMutator) : Type 0 where
  pub put : numbers_put q b y ≡ numbers_put q b x ++ all_told puts
  pub taken : numbers_taken q b y ≡ numbers_taken q b x ++ all_told takes

-- so it was if all that was done before fits
abbrev pub Carries : ℕ → List ℕ → List ℕ → SharedMutator → SharedMutator → Type 0
Carries q puts takes x y = (b : Began) → FitsSince q b x → Carried q b puts takes x y

-- these numbers, unless the call was refused
abbrev pub if_done : {A : Type 0} → Result A Refused → List ℕ → List ℕ
if_done (Ok a) ns = ns
if_done (Err e) ns = []

-- this number, if the exchange was won
abbrev pub if_won : Result Bool Refused → ℕ → List ℕ
if_won (Ok true) n = n ∷ []
if_won (Ok false) n = []
if_won (Err e) n = []

-- the number that a call took that answers this
abbrev pub number_in : Option ℕ → List ℕ
number_in None = []
number_in (Some n) = n ∷ []

abbrev pub number_taken : Result (Option ℕ) Refused → List ℕ
number_taken (Ok some) = number_in some
number_taken (Err e) = []

abbrev pub number_looked : Result Look Refused → List ℕ
number_looked (Ok (Taken n)) = n ∷ []
number_looked (Ok Empty) = []
number_looked (Ok Again) = []
number_looked (Err e) = []

-- what the mutator's log tells of its nodes
abbrev pub told_of : ℕ → Began → SharedMutator → Telling
told_of q b m = tellings b.fields (hands q) (telling_at (hands q) b.seat) (since b m)

-- variable 20 has a node that was made with this number
abbrev pub HasOwn : ℕ → Began → ℕ → SharedMutator → Type 0
HasOwn q b n m = (told_of q b m).own.number ≡ Some n

-- variable 23 has a node in which this number was read
abbrev pub HasNext : ℕ → Began → ℕ → SharedMutator → Type 0
HasNext q b n m = (told_of q b m).next.number ≡ Some n

-- no number was put in or taken out, and the node that was made stays as it was
abbrev pub KeepsNumbers : ℕ → SharedMutator → SharedMutator → Type 0
KeepsNumbers q x y = (b : Began) → FitsSince q b x → Carried q b [] [] x y × ((n : ℕ) → HasOwn q b n x → HasOwn q b n y)

-- the node that was made comes in with its number, or stays as it was
abbrev pub NumbersPut : ℕ → Began → ℕ → Result Bool Refused → SharedMutator → SharedMutator → Type 0
NumbersPut q b n result x y = Carried q b (if_won result n) [] x y × HasOwn q b n y

abbrev pub NumbersLinking : ℕ → Result Bool Refused → SharedMutator → SharedMutator → Type 0
NumbersLinking q result x y = (b : Began) → FitsSince q b x → MayLink q b x → (n : ℕ) → HasOwn q b n x → NumbersPut q b n result x y

abbrev pub NumbersPutting : ℕ → Result Bool Refused → SharedMutator → SharedMutator → Type 0
NumbersPutting q result x y = (b : Began) → FitsSince q b x → HasFresh b x → (n : ℕ) → HasOwn q b n x → NumbersPut q b n result x y

-- the node in variable 23 comes out with the number that was read there
abbrev pub NumbersFirst : ℕ → Result Bool Refused → SharedMutator → SharedMutator → Type 0
NumbersFirst q result x y = (b : Began) → FitsSince q b x → (n : ℕ) → HasNext q b n x → Carried q b [] (if_won result n) x y

-- nothing was read yet in variable 23's node, unless it refers to nothing
abbrev pub IsUnread : ℕ → Began → SharedMutator → Type 0
IsUnread q b m = 0 < word_in (state_of m.seat) 23 → (told_of q b m).next.number ≡ None

abbrev pub NumbersTaking : ℕ → Result Look Refused → SharedMutator → SharedMutator → Type 0
NumbersTaking q result x y = (b : Began) → FitsSince q b x → SeesFirst q b x → IsUnread q b x → Carried q b [] (number_looked result) x y
