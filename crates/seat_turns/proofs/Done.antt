-- An operation leaves the mutator at its turn, and is the one of the plain heap.
use Rattle.std.proofs.Common.{ℕ, ◌≡◌, ◌+◌, [], length, arith, ap, ◌∙◌, refl, sym, false, true, Option, None, Some, ◌-◌, ◌∷◌, ◌==◌, List, ◌++◌, map, Bool, ◌&&◌}
use Rattle.mark_core.specs.Numbers.{section_variables}
use Rattle.mark_core.specs.declared.kinds.Shape.{Shape}
use Rattle.mark_core.specs.declared.seat.SeatState.{SeatState}
use Rattle.plain_heap.specs.PlainHeap.{Heap as PlainHeap, variable}
use Rattle.plain_heap.specs.PlainStep.{heap_after, line_of, object_of, value_line}
use Rattle.plain_heap.specs.declared.object.Object.{Object}
use Rattle.plain_heap.specs.declared.operation.Line.{Line}
use Rattle.plain_heap.specs.declared.operation.Line.TheVariants as lines
use Rattle.plain_heap.specs.declared.operation.Op.{Op}
use Rattle.plain_heap.specs.declared.operation.Op.TheVariants as ops
use Rattle.plain_heap.specs.Sections.{lends}
use Rattle.gc_table.specs.Seats.{Answered, Sits, view_of}
use Rattle.gc_table.specs.Taking.{won}
use Rattle.gc_table.specs.declared.seat.Heap.{Heap}
use Rattle.gc_table.specs.declared.seat.HeapSeat.{HeapSeat}
use Rattle.gc_table.specs.declared.view.View.{View}
use Rattle.alloc_cache.specs.Caching.{is_whole}
use Rattle.mutator_ops.specs.Creating.{Creates}
use Rattle.mutator_ops.specs.Doing.{Does, seen, with_dropped}
use Rattle.mutator_ops.specs.Ready.{IsReady}
use Rattle.seat_turns.specs.Plain.{Steps, value_in, value_of_some}
use Rattle.mutator_ops.proofs.Knowing.{variables-count}
use Rattle.seat_turns.specs.Standing.{IsAtTurn, MayOperate, Plays, plain_of}
use Rattle.mutator_ops.specs.Few.{AtMost}
use Rattle.mutator_ops.specs.Sharing.{LendsFound, SetsField, SetsVariable, SharesReady, TakesSteps as SharedSteps, next_word, putting_steps, setting_steps}
use Rattle.mutator_ops.proofs.Few.{at-most-events, at-most-steps, putting-long, setting-long}
use Rattle.gc_table.specs.Running.{Ran}
use Rattle.seat_turns.proofs.Seats.{plays-made, plays-on, plays-turn, turn-plays}
use Rattle.seat_turns.proofs.Uncatalogued.{after-none, object-none, objects_of, sees-none}
use Rattle.std.proofs.lemmas.List.{length-map}
use Rattle.mark_core.specs.Steps.MutatorSteps.{seat_variable as word_in}
use Rattle.mark_core.specs.declared.kinds.Step.TheVariants.{StoreValue, DirtyCard, ExchangeValue, StoreNew, StoreRoot}
use Rattle.gc_table.specs.Log.{Only, events, steps_of, all_steps}
use Rattle.gc_table.specs.declared.view.Entry.{Entry}
use Rattle.card_clean.specs.Barrier.{Exchanged, barrier_steps, card_steps, cell_in, was_dirty}
use Rattle.mutator_ops.specs.Holding.{held_kind}
use Rattle.seat_turns.specs.Exchanging.{ExchangesField, ExchangesValue}
use Rattle.seat_turns.specs.Operating.{TakesSteps}
use Rattle.seat_turns.specs.Sharing.{spares_tracers}
use Rattle.std.specs.Prelude.{if◌then◌else◌}
use Rattle.std.specs.List.{range_with_len}
use Rattle.std.proofs.lemmas.Bool.{and_from, and_parts}
use Rattle.mark_core.specs.Cards.{card_of}
use Rattle.mark_core.specs.Seats.{used_in}
use Rattle.mark_core.specs.declared.kinds.Step.{Step}
use Rattle.alloc_cache.specs.Making.{making_steps, nil_fields}
use Rattle.mutator_ops.specs.Listing.{creating_steps, following_events, saying_steps, storing_steps}
use Rattle.mutator_ops.specs.declared.objects.Holds.{Holds}
use Rattle.mutator_ops.specs.declared.objects.Holds.TheVariants.{LentObject, Nothing, OwnObject}
use Rattle.gc_cycle.proofs.Stops.OutAndIn.{by-events as only-events}

-- The steps of an operation count no part that was played.
-- each of these steps is of this sort
abbrev pub each : (Step → Bool) → List Step → Bool
each P [] = true
each P (s ∷ ss) = P s && each P ss

all-each : (P : Step → Bool) (es : List Entry) → all_steps P es ≡ each P (steps_of es)
all-each P [] = refl
all-each P (e ∷ es) = ap (λ b. P e.step && b) (all-each P es)

each-join : (P : Step → Bool) (xs ys : List Step) → each P xs ≡ true → each P ys ≡ true → each P (xs ++ ys) ≡ true
each-join P [] ys a b = b
each-join P (x ∷ xs) ys a b = let r = and_parts (P x) (each P xs) a in and_from (P x) (each P (xs ++ ys)) r.0 (each-join P xs ys r.1 b)

-- by the list of the steps, and by that of the events
pub only-steps : (P : Step → Bool) (v w : View) (xs : List Step) → steps_of (events v w) ≡ xs → each P xs ≡ true → Only P v w
only-steps P v w xs e a = all-each P (events v w) ∙ (ap (each P) e ∙ a)

-- one of two lists
either : {X : Type 0} (f : X → Bool) (b : Bool) (x y : X) → f x ≡ true → f y ≡ true → f (if b then x else y) ≡ true
either f true x y p q = p
either f false x y p q = q

pub storing-spares : (h : Holds) (cell : ℕ) (steps : List Step) → each spares_tracers steps ≡ true → each spares_tracers (storing_steps h cell steps) ≡ true
storing-spares Nothing cell steps e = refl
storing-spares OwnObject cell steps e = e
storing-spares LentObject cell steps e = refl

pub barrier-spares : (s : SeatState) (u i : ℕ) (w : Option ℕ) (dirty : Bool) → each spares_tracers (barrier_steps s u i w dirty) ≡ true
barrier-spares s u i w dirty =
    let card : ℕ = card_of (cell_in s u) in
    either {X = List Step} (each spares_tracers) (used_in s.cache (cell_in s u)) [] (card_steps card dirty) refl
    (either {X = List Step} (each spares_tracers) dirty [] (DirtyCard card ∷ []) refl refl)

pub following-spares : (s : SeatState) (u w i found : ℕ) → all_steps spares_tracers (following_events s u w i found) ≡ true
following-spares s u w i found = either {X = List Entry} (all_steps spares_tracers) (word_in s w == 0) _ _ refl refl

pub saying-spares : (s : SeatState) (u : ℕ) → each spares_tracers (saying_steps s u) ≡ true
saying-spares s u = either {X = List Step} (each spares_tracers) (word_in s u == 0) _ _ refl refl

fields-spare : (c : ℕ) (ns : List ℕ) → each spares_tracers (map (λ i. StoreNew c i 0) ns) ≡ true
fields-spare c [] = refl
fields-spare c (n ∷ ns) = fields-spare c ns

pub creating-spares : (fields : ℕ) (s : SeatState) (u n cell : ℕ) → each spares_tracers (creating_steps fields s u n cell) ≡ true
creating-spares fields s u n cell =
    each-join spares_tracers (making_steps fields cell n (next_word s)) (StoreRoot u (cell + 1) ∷ [])
    (each-join spares_tracers (nil_fields cell fields) (StoreNew cell fields n ∷ StoreNew cell (fields + 1) (next_word s) ∷ []) (fields-spare cell (range_with_len 0 fields)) refl) refl

-- what a mutator that may do an operation has, if objects aren't shared
pub operates-ready : (v : View) → MayOperate v → v.shape.sharing ≡ false → IsReady v
operates-ready v k alone = record { owned = alone; stores = k.stores; idle = k.idle; whole = k.whole; register = k.register; counted = k.counted }

pub ready-operates : (v : View) → IsReady v → MayOperate v
ready-operates v k = record { stores = k.stores; idle = k.idle; whole = k.whole; register = k.register; counted = k.counted }

pub operates-shares : (h : Heap) (x : HeapSeat) → Sits h x → MayOperate (view_of x) → h.shape.sharing ≡ true → SharesReady (view_of x)
operates-shares h x sits k shared = record { shared = ap (λ (sh : Shape). sh.sharing) sits.1 ∙ shared; stores = k.stores; idle = k.idle; whole = k.whole; register = k.register; counted = k.counted }

-- what the heap says of its shape, the seat knows
pub alone-there : (h : Heap) (x : HeapSeat) → Sits h x → h.shape.sharing ≡ false → (view_of x).shape.sharing ≡ false
alone-there h x sits alone = ap (λ (sh : Shape). sh.sharing) sits.1 ∙ alone

-- an operation leaves the mutator at its turn
pub plays-does : (h : Heap) (op : Op) (d : ℕ) (x y : HeapSeat) → Plays h x → Sits h y → IsReady (view_of y) → Does op d (view_of x) (view_of y) → Plays h y
plays-does h op d x y p sits ready k = plays-on h x y p sits (ready-operates (view_of y) ready) k.ran k.state

-- what an operation makes of the plain heap
pub turn-count : (h : Heap) (x : HeapSeat) → IsAtTurn h x → h.shape.sharing ≡ false → length (plain_of x).variables ≡ section_variables
turn-count h x t alone = variables-count (view_of x) (alone-there h x t.works.sits alone) x.possible (turn-plays h x t).operates.stores.turn

pub steps-does : (op : Op) (d : ℕ) (h : Heap) (x y : HeapSeat) → IsAtTurn h x → h.shape.sharing ≡ false → lends op ≡ false → Does op d (view_of x) (view_of y) → Steps op (plain_of x) (plain_of y)
steps-does op d h s t turn alone own k =
    let v : View = view_of s in
    let w : View = view_of t in
    let x : PlainHeap = v.own.meaning.heap in
    let e = k.heap x.dropped ∙ after-none x (seen v) (sees-none v (turn.works.mutator.uncatalogued (alone-there h s turn.works.sits alone))) op own in
    record { objects = ap (λ (y : PlainHeap). y.objects) e; variables = ap (λ (y : PlainHeap). y.variables) e; count = turn-count h s turn alone }

-- what changes nothing of the plain heap leaves it
pub same-does : (op : Op) (v w : View) → ((x : PlainHeap) → heap_after x (seen v) op ≡ x) → Does op 0 v w → w.own.meaning.heap ≡ v.own.meaning.heap
same-does op v w fixed k =
    let x : PlainHeap = v.own.meaning.heap in
    let y : PlainHeap = w.own.meaning.heap in
    let none : x.dropped + 0 ≡ x.dropped = omega arith in
    ap (λ d. with_dropped d y) (k.undropped ∙ sym none) ∙ (k.heap x.dropped ∙ fixed x)

-- after the making of an object the mutator may do an operation again
pub plays-creates : (h : Heap) (u n cell : ℕ) (x y : HeapSeat) → Plays h x → Sits h y → IsReady (view_of y) → Creates u n cell (view_of x) (view_of y) → Plays h y
plays-creates h u n cell x y p sits ready k = plays-made h cell x y p sits (ready-operates (view_of y) ready) k.ran k.state

pub steps-creates : (u n cell : ℕ) (h : Heap) (x y : HeapSeat) → Plays h x → h.shape.sharing ≡ false → Creates u n cell (view_of x) (view_of y) → Steps (ops.New u n) (plain_of x) (plain_of y)
steps-creates u n cell h x y p alone k =
    let e = k.heap (plain_of x).dropped in
    record {
      objects = ap (λ (z : PlainHeap). z.objects) e;
      variables = ap (λ (z : PlainHeap). z.variables) e;
      count = variables-count (view_of x) (alone-there h x p.works.sits alone) x.possible p.operates.stores.turn;
    }

-- an operation leaves the mutator at its turn
pub turn-does : (h : Heap) (op : Op) (d : ℕ) (x y : HeapSeat) → IsAtTurn h x → Sits h y → IsReady (view_of y) → Does op d (view_of x) (view_of y) → IsAtTurn h y
turn-does h op d x y t sits ready k =
    plays-turn h y (plays-does h op d x y (turn-plays h x t) sits ready k) (ap (λ (s : SeatState). is_whole s.cache) k.state ∙ t.cache)

-- a mutator at its turn may do what needs a seat that is ready
pub turn-ready : (h : Heap) (x : HeapSeat) → IsAtTurn h x → h.shape.sharing ≡ false → Sits h x × IsReady (view_of x)
turn-ready h x t alone = (t.works.sits, operates-ready (view_of x) (turn-plays h x t).operates (alone-there h x t.works.sits alone))

-- the value that a line says
abbrev pub value_said : Line → Option ℕ
value_said lines.Nil = None
value_said (lines.Value n) = Some n
value_said (lines.Walk count total) = None

abbrev line_of_some : Option Line → Line
line_of_some None = lines.Nil
line_of_some (Some line) = line

said : (o : Option Object) → value_said (value_line o) ≡ value_of_some o
said None = refl
said (Some object) = refl

pub value-read : (x : PlainHeap) (v : ℕ) (catalogue : Option PlainHeap) (line : Line) → objects_of catalogue ≡ [] → Some line ≡ line_of x catalogue (ops.Say v) → value_said line ≡ value_in x v
value-read x v catalogue line none e =
    ap (λ (o : Option Line). value_said (line_of_some o)) e
    ∙ said (object_of x catalogue (variable x v))
    ∙ ap value_of_some (object-none x catalogue none (variable x v))

-- What a call of `mutator_ops` says, told at the mutator's turn: how its callers know their clauses, where objects aren't shared.
-- the mutator is at its turn still, and the operation is that one of its plain heap
pub record Operated (op : Op) (h : Heap) (x y : HeapSeat) : Type 0 where
  pub turn : IsAtTurn h y
  pub steps : Steps op (plain_of x) (plain_of y)

pub operated : (op : Op) (d : ℕ) (h : Heap) (x y : HeapSeat) → lends op ≡ false → IsAtTurn h x → h.shape.sharing ≡ false → Sits h y × IsReady (view_of y) → Does op d (view_of x) (view_of y) → Operated op h x y
operated op d h x y own turn alone ready k =
    record {
      turn = turn-does h op d x y turn ready.0 ready.1 k;
      steps = steps-does op d h x y turn alone own k;
    }

-- it dismisses no tracers
pub takes-spares : (op : Op) (v w : View) → TakesSteps op v w → Only spares_tracers v w
takes-spares (ops.Let u x) v w e = only-steps spares_tracers v w _ e refl
takes-spares (ops.Nil u) v w e = only-steps spares_tracers v w _ e refl
takes-spares (ops.Set u i x) v w e =
    only-steps spares_tracers v w _ e
    (storing-spares (held_kind (variable v.own.meaning.heap u)) (word_in v.state u - 1) (barrier_steps v.state u i (Some x) (was_dirty (events v w))) (barrier-spares v.state u i (Some x) (was_dirty (events v w))))
takes-spares (ops.Put u n) v w e =
    only-steps spares_tracers v w _ e (storing-spares (held_kind (variable v.own.meaning.heap u)) (word_in v.state u - 1) (StoreValue u n ∷ []) refl)
takes-spares (ops.Get u x i) v w e = only-events spares_tracers v w _ e.1 (following-spares v.state u x i e.0)
takes-spares (ops.Say u) v w e = only-steps spares_tracers v w _ e (saying-spares v.state u)
takes-spares op v w e = absurd e

-- each event is a step
pub events-long : (v w : View) → length (events v w) ≡ length (steps_of (events v w))
events-long v w = sym (length-map (events v w) (λ (x : Entry). x.step))

pub ruleset operating = (events-long)

-- what an exchange came to
pub exchanges-field : (u i p q : ℕ) (b : Bool) (v w : View) → Ran v w → Exchanged u i (Some p) (Some q) b v w → w.state ≡ v.state → ExchangesField u i p q b v w
exchanges-field u i p q b v w ran k e = record { ran = ran; exchanged = k; state = e }

pub exchanges-value : (u m n : ℕ) (b : Bool) (v w : View) → Ran v w → Answered (ExchangeValue u m n) (λ k. b ≡ won (ExchangeValue u m n) k) v w → ExchangesValue u m n b v w
exchanges-value u m n b v w ran k = record { ran = ran; found = k.0; finds = (k.1, k.2); won_by = k.3; state = ap (λ (z : View). z.state) k.1 }

-- and it takes no more steps than these
pub sets-few : (u r : ℕ) (v w : View) → SetsVariable u r v w → AtMost 1 v w
sets-few u r v w k = at-most-events 1 v w _ k.events_are (omega arith)

pub lends-few : (u c : ℕ) (v w : View) → LendsFound u c v w → AtMost 2 v w
lends-few u c v w k = at-most-events 2 v w _ k.events_are (omega arith)

pub setting-few : (u i x : ℕ) (v w : View) → SetsField u i x v w → AtMost 3 v w
setting-few u i x v w k = at-most-steps 3 v w (setting_steps v.state u i x (was_dirty (events v w))) k.steps_are (setting-long v.state u i x (was_dirty (events v w)))

pub putting-few : (u n : ℕ) (v w : View) → SharedSteps (putting_steps v.state u n) v w → AtMost 1 v w
putting-few u n v w k = at-most-steps 1 v w (putting_steps v.state u n) k.steps_are (putting-long v.state u n)
