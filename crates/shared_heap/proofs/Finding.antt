-- What the calls of a mutator find is what one plain heap had at that moment.
use Rattle.std.proofs.Common.{[], ℕ, ◌-◌, List, ◌∷◌, arith, refl, subst}
use Rattle.std.specs.Prelude.{IsFalse}
use Rattle.mark_core.specs.Bits.{reference_in}
use Rattle.mark_core.specs.Steps.MutatorSteps.{seat_variable as word_in}
use Rattle.mark_core.specs.declared.kinds.Step.{Step}
use Rattle.mark_core.specs.declared.kinds.Step.TheVariants.{HoldRoot, ReadOwn, ReadValue}
use Rattle.gc_table.specs.Entries.{event, is_store}
use Rattle.gc_table.specs.Running.{AllSeen}
use Rattle.gc_table.specs.Seats.{did, state_of, view_of}
use Rattle.gc_table.specs.Taking.{Finds, after}
use Rattle.gc_table.specs.declared.view.Entry.{Entry}
use Rattle.gc_table.specs.declared.view.View.{View}
use Rattle.gc_table.proofs.Finding.{steps-find}
use Rattle.heap_laws.proofs.Variables.{steps_read}
use Rattle.shared_heap.specs.Finding.{AllFindHeap, CallsFind, FieldFound, FindsHeap, SteppersFind, ValueFound}

found-heap : (step : Step) (n : ℕ) (v : View) → Finds step n v → FindsHeap step n v
found-heap step n v f =
    let told = steps-find step n v f in
    record { finds = f; agrees = told.0; tells = told.1; variables = steps_read.variables step n v f; reads = steps_read.reads step n v f }

all-found : (es : List Entry) (v : View) → AllSeen es v → AllFindHeap es v
all-found [] v seen = tt
all-found (e ∷ es) v seen = (λ looks. found-heap e.step e.found v (seen.0.found looks), all-found es (after e.step e.found v) seen.1)

pub calls-find : CallsFind
calls-find x y ran = all-found (did x.seat y.seat) (view_of x.seat) ran.seen

pub steppers-find : SteppersFind
steppers-find x y ran = all-found (did x.seat y.seat) (view_of x.seat) ran.seen

pub value-found : ValueFound
value-found v n x y done =
    let word : ℕ = word_in (state_of x.seat) v in
    let f : FindsHeap (ReadValue (word - 1)) n (view_of x.seat) = found-heap (ReadValue (word - 1)) n (view_of x.seat) done.does.1.1 in
    (f, f.reads v done.in_range (omega (arith, done.does.0)))

first-found : (e : Entry) (es : List Entry) (v : View) → AllFindHeap (e ∷ es) v → IsFalse (is_store e.step) → FindsHeap e.step e.found v
first-found e es v all looks = all.0 looks

pub field-found : FieldFound
field-found w v i x y f =
    let step : Step = ReadOwn (word_in (state_of x.seat) v - 1) i in
    let h : FindsHeap step f.found (view_of x.seat) =
    first-found (event step f.found) (event (HoldRoot w (reference_in f.found)) f.old ∷ []) (view_of x.seat)
    (subst (λ (es : List Entry). AllFindHeap es (view_of x.seat)) f.events_are (calls-find x y f.ran)) refl in
    (h, λ below some. h.reads v below (omega (arith, some)))

pub ruleset finding = (calls-find, steppers-find)
