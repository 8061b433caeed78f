-- What is claimed of the one heap of all sections, as statements for proofs to meet.
use Rattle.std.specs.Prelude.{ℕ, ◌≡◌, ◌≢◌, ◌⊎◌, ◌+◌, ◌/◌, ◌<◌, ◌≤◌, List, [], ◌∷◌, length, if◌then◌else◌, is_none, IsTrue, IsFalse, Option, Some, None, slice_get, slice_index, ◌==◌}
use Rattle.std.specs.List.{All, list_any}
use Rattle.plain_heap.specs.Paths.{Name}
use Rattle.mark_core.specs.Layout.{Words, words_of, address}
use Rattle.mark_core.specs.Cards.{block_cells}
use Rattle.mark_core.specs.Numbers.{most_seats, section_variables}
use Rattle.mark_core.specs.Seats.{used_in}
use Rattle.mark_core.specs.Shapes.{IsShape}
use Rattle.mark_core.specs.Bits.{nil_or}
use Rattle.mark_core.specs.Views.{makers}
use Rattle.mark_core.specs.Cells.{in_use, used_by}
use Rattle.mark_core.specs.Closed.{IsReachableIn, is_published}
use Rattle.mark_core.specs.Effects.{place}
use Rattle.mark_core.specs.Weak.{IsAt, IsGone, MayConclude}
use Rattle.mark_core.specs.Steps.{Core, failing_part, after_event, start_core, run_of}
use Rattle.mark_core.specs.Steps.MutatorSteps.{knows_cell, variable_or_nil, weak_reference}
use Rattle.mark_core.specs.Laws.{IsCore, NumbersFit, AllNumbersFit}
use Rattle.mark_core.specs.declared.kinds.Event.{Event}
use Rattle.mark_core.specs.declared.kinds.Shape.{Shape}
use Rattle.mark_core.specs.declared.kinds.Step.{Step}
use Rattle.mark_core.specs.declared.kinds.Step.TheVariants.{ReadOwn, ReadValue, ReadIdent, ReadCat, StoreField, StoreValue, StoreRoot, ExchangeField, ExchangeValue, StoreSlot, ReadSlot, ReadWeak, HoldRoot}
use Rattle.mark_core.specs.declared.seat.SeatState.{SeatState}
use Rattle.gc_table.specs.RunWorlds.{World, WorldObject, section_of, variable_of, object_of, reference_of, name_in, name_at, referred, own_section, world_by, start_world, stored, is_same, with_reference, with_value}
use Rattle.gc_table.specs.Agreement.{HoldsObject, AgreesWith}

-- the heap after a step, if the seat's record was looked up
abbrev pub world_of : Core → Option SeatState → Step → World → World
world_of c None step world = world
world_of c (Some s) step world = world_by c.shape (words_of c.shape c.words) s step world

-- the heap after an event that is allowed
abbrev pub world_after : Core → Event → World → World
world_after c e world = world_of c (slice_get c.seats e.seat) e.step world

-- the heap after the events up to the first that isn't allowed
abbrev pub world_run : List Event → Core → World → World
world_run [] c world = world
world_run (e ∷ es) c world = if is_none (failing_part c e) then world_run es (after_event c e) (world_after c e world) else world

-- the state in which nothing has happened agrees with a heap in which nothing was made
abbrev pub StartAgrees : Type 0
StartAgrees = (sh : Shape) (n : ℕ) → IsShape sh → AgreesWith (start_core sh n) (start_world sh)

-- each event that is allowed, whoever acts, leads to a state that agrees with the heap after it
abbrev pub EventsAgree : Type 0
EventsAgree = (c : Core) (e : Event) (world : World) → IsCore c → AgreesWith c world → failing_part c e ≡ None → AgreesWith (after_event c e) (world_after c e world)

-- field i of the object of this name refers to this
abbrev pub HasReference : World → Name → ℕ → Option Name → Type 0
HasReference world name i to = (object : WorldObject) × (object_of world name ≡ Some object) × (reference_of object i ≡ to)

-- the value of the object of this name is m
abbrev pub HasValue : World → Name → ℕ → Type 0
HasValue world name m = (object : WorldObject) × (object_of world name ≡ Some object) × (object.value ≡ m)

-- the seat of this section stores in the object of this name, to which one of its variables refers; an exchange stores if the object has what it expects
abbrev pub StoresIn : World → ℕ → Step → Name → Type 0
StoresIn world w (StoreField v i x) name = variable_of world w v ≡ Some name
StoresIn world w (StoreValue v n) name = variable_of world w v ≡ Some name
StoresIn world w (ExchangeField v i x y) name = (variable_of world w v ≡ Some name) × HasReference world name i (stored world w x)
StoresIn world w (ExchangeValue v m n) name = (variable_of world w v ≡ Some name) × HasValue world name m
StoresIn world w step name = ⊥

-- no step forgets an object, and none changes one but a store in it, or an exchange that finds there what it expects
abbrev pub NoneForgotten : Type 0
NoneForgotten =
    (sh : Shape) (w : Words) (s : SeatState) (step : Step) (world : World) (name : Name) (object : WorldObject) → object_of world name ≡ Some object
    → (after : WorldObject) × (object_of (world_by sh w s step world) name ≡ Some after) × ((after ≡ object) ⊎ StoresIn world (own_section s) step name)

-- a step of the seat whose record was looked up stores in the object of this name
abbrev pub StoresOf : World → Option SeatState → Step → Name → Type 0
StoresOf world None step name = ⊥
StoresOf world (Some s) step name = StoresIn world (own_section s) step name

-- none of the events up to the first that isn't allowed stores in the object of this name
abbrev pub Untouched : List Event → Core → World → Name → Type 0
Untouched [] c world name = Unit {0}
Untouched (e ∷ es) c world name = (StoresOf world (slice_get c.seats e.seat) e.step name → ⊥) × Untouched es (after_event c e) (world_after c e world) name

-- an object stays as it is as long as nobody stores in it
abbrev pub ObjectsStay : Type 0
ObjectsStay = (c : Core) (world : World) (es : List Event) (name : Name) (object : WorldObject) → object_of world name ≡ Some object → Untouched es c world name → object_of (world_run es c world) name ≡ Some object

-- what holds after every run of n seats, of its last state and of the heap
abbrev pub OnRuns : (Core → World → Type 0) → Type 0
OnRuns P =
    (sh : Shape) (n : ℕ) (es : List Event) → IsShape sh → 1 ≤ n → n ≤ most_seats → AllNumbersFit es
    → P (run_of es (start_core sh n)) (world_run es (start_core sh n) (start_world sh))

-- every run leads to a state that agrees with the heap
abbrev pub RunsAgree : Type 0
RunsAgree = OnRuns AgreesWith

-- the word that a step finds, if the seat's record was looked up
abbrev pub found_of : Core → Option SeatState → Step → ℕ
found_of c None step = 0
found_of c (Some s) step = slice_index c.words (address c.shape (place c.shape s step))

-- the register of section w or one of its variables refers to this object
abbrev pub KnowsName : World → ℕ → Name → Type 0
KnowsName world w name = ((section_of world w).register ≡ Some name) ⊎ ((v : ℕ) × (v < section_variables) × (variable_of world w v ≡ Some name))

-- the object of this name, which section w knows
abbrev pub KnownObject : World → ℕ → Name → WorldObject → Type 0
KnownObject world w name object = KnowsName world w name × (object_of world name ≡ Some object)

-- nil, an object that section w knows, or the one that it made last
abbrev pub MayHold : World → ℕ → Option Name → Type 0
MayHold world w None = Unit {0}
MayHold world w (Some name) = KnowsName world w name ⊎ ((name.section ≡ w) × (name.number + 1 ≡ length (section_of world w).objects))

-- what an exchange finds in field i of the object to which the seat's variable v refers
pub record FindsReference (c : Core) (world : World) (s : SeatState) (v i : ℕ) (x y : Option ℕ) (word : ℕ) : Type 0 where
  pub name : Name
  pub object : WorldObject
  pub variable : variable_of world (own_section s) v ≡ Some name
  pub there : object_of world name ≡ Some object
  pub exists : i < length object.refs
  pub found : referred (words_of c.shape c.words).identities word ≡ reference_of object i
  -- the seat has found its variable's word exactly if the heap has there what the variable refers to
  pub won : (word == variable_or_nil s x) ≡ is_same (reference_of object i) (stored world (own_section s) x)
  -- exactly then the reference is replaced
  pub after : object_of (world_by c.shape (words_of c.shape c.words) s (ExchangeField v i x y) world) name ≡ Some (if word == variable_or_nil s x then with_reference i (stored world (own_section s) y) object else object)

-- what an exchange finds as the value of the object to which the seat's variable v refers
pub record FindsValue (c : Core) (world : World) (s : SeatState) (v m n word : ℕ) : Type 0 where
  pub name : Name
  pub object : WorldObject
  pub variable : variable_of world (own_section s) v ≡ Some name
  pub there : object_of world name ≡ Some object
  pub found : word ≡ object.value
  -- the value is replaced exactly if it was the expected one
  pub after : object_of (world_by c.shape (words_of c.shape c.words) s (ExchangeValue v m n) world) name ≡ Some (if word == m then with_value n object else object)

-- the object `to` is what a field of the object `from` refers to
abbrev pub LeadsTo : World → Name → Name → Type 0
LeadsTo world from to = (object : WorldObject) × (object_of world from ≡ Some object) × ((i : ℕ) × (i < length object.refs) × (reference_of object i ≡ Some to))

-- a path from a variable or a slot of some section, with its last object first
abbrev pub IsWorldPath : World → Name → List Name → Type 0
IsWorldPath world name [] = (w v : ℕ) × (w < length world) × (v < length (section_of world w).variables) × (variable_of world w v ≡ Some name)
IsWorldPath world name (before ∷ path) = LeadsTo world before name × IsWorldPath world before path

-- a path ends with this object
abbrev pub IsReached : World → Name → Type 0
IsReached world name = (path : List Name) × IsWorldPath world name path

-- no object of this identity is in use, and no path leads to one
pub record IsLost (c : Core) (world : World) (id : ℕ) : Type 0 where
  pub gone : IsGone c id
  pub unreached : IsReached world (name_in id) → ⊥

-- what a seat finds in cell x, which it needn't know, if r is the reference that it is given
pub record FindsCell (c : Core) (world : World) (s : SeatState) (x r : ℕ) : Type 0 where
  -- an object of the heap, whole
  pub some : 0 < r → (r ≡ x + 1) × IsTrue (in_use (words_of c.shape c.words).allocs (makers c.seats) x) × HoldsObject c.shape (words_of c.shape c.words).identities (words_of c.shape c.words).values (words_of c.shape c.words).fields world x
  -- or none: then all is lost that was published there, and all of the seat's own section that was made there
  pub none : r ≡ 0 → (id : ℕ) → MayConclude c s id x → IsLost c world id
  -- a cell that the seat knows and is given no reference to: another seat made it, and hasn't published it
  pub unpublished : r ≡ 0 → IsTrue (knows_cell s x) → IsTrue (list_any (used_by x) (makers c.seats)) × IsFalse (used_in s.cache x)
  -- if another object is there, what was made there before is lost
  pub another : (id : ℕ) → IsAt c id x → (slice_index (words_of c.shape c.words).identities x ≡ id → ⊥) → IsLost c world id

-- the word that the step finds is what the heap has there, and what it stores in a variable the section has
abbrev pub TellsIn : Core → World → SeatState → Step → ℕ → Type 0
TellsIn c world s (ReadValue x) word =
    (object : WorldObject) × KnownObject world (own_section s) (name_at (words_of c.shape c.words).identities x) object × (word ≡ object.value)
TellsIn c world s (ReadOwn x i) word =
    (object : WorldObject) × KnownObject world (own_section s) (name_at (words_of c.shape c.words).identities x) object × (i < length object.refs) × (referred (words_of c.shape c.words).identities word ≡ reference_of object i)
TellsIn c world s (ReadIdent x) word = (object : WorldObject) × KnownObject world (own_section s) (name_in word) object
TellsIn c world s (ReadCat v) word = referred (words_of c.shape c.words).identities word ≡ variable_of world 0 v
TellsIn c world s (StoreRoot v r) word = MayHold world (own_section s) (referred (words_of c.shape c.words).identities r)
TellsIn c world s (HoldRoot v r) word = MayHold world (own_section s) (referred (words_of c.shape c.words).identities r)
TellsIn c world s (StoreSlot k r) word = MayHold world (own_section s) (referred (words_of c.shape c.words).identities r)
TellsIn c world s (ReadWeak x) word = FindsCell c world s x (weak_reference s x word)
TellsIn c world s (ReadSlot k) word = referred (words_of c.shape c.words).identities word ≡ variable_of world (own_section s) (section_variables + k)
TellsIn c world s (ExchangeField v i x y) word = FindsReference c world s v i x y word
TellsIn c world s (ExchangeValue v m n) word = FindsValue c world s v m n word
TellsIn c world s step word = Unit {0}

-- what the seat of an event finds, if its record was looked up
abbrev pub TellsOf : Core → World → Option SeatState → Step → Type 0
TellsOf c world None step = ⊥
TellsOf c world (Some s) step = TellsIn c world s step (found_of c (Some s) step)

-- whatever a mutator reads of an object or finds there by an exchange, in whatever run and after whoever stored in it, is what the heap has there
abbrev pub ReadsTell : Type 0
ReadsTell = OnRuns (λ c world. (e : Event) → failing_part c e ≡ None → TellsOf c world (slice_get c.seats e.seat) e.step)

-- a seat takes an exchange of a value, from m to n, of the object of this name, and finds this word
pub record Exchanges (c : Core) (world : World) (e : Event) (name : Name) (m n word : ℕ) : Type 0 where
  pub seat : SeatState
  pub there : slice_get c.seats e.seat ≡ Some seat
  pub variable : ℕ
  pub step : e.step ≡ ExchangeValue variable m n
  pub names : variable_of world (own_section seat) variable ≡ Some name
  pub allowed : failing_part c e ≡ None
  pub found : found_of c (Some seat) e.step ≡ word

-- once a seat has won an exchange of a value, nobody wins one that expects the same, before somebody stores in the object: each finds what the first one stored
abbrev pub WonOnce : Type 0
WonOnce =
    (c : Core) (world : World) (e : Event) (name : Name) (m n : ℕ) → IsCore c → AgreesWith c world → NumbersFit e.step → Exchanges c world e name m n m
    → (es : List Event) → AllNumbersFit es → Untouched es (after_event c e) (world_after c e world) name
    → (f : Event) (k word : ℕ) → Exchanges (run_of es (after_event c e)) (world_run es (after_event c e) (world_after c e world)) f name m k word
    → word ≡ n

-- a seat takes an exchange in field i of the object of this name, of one object for another, or of nil or for it, and finds this word
pub record ExchangesField (c : Core) (world : World) (e : Event) (name : Name) (i : ℕ) (from to : Option Name) (word : ℕ) : Type 0 where
  pub seat : SeatState
  pub there : slice_get c.seats e.seat ≡ Some seat
  pub variable : ℕ
  pub expected : Option ℕ
  pub new : Option ℕ
  pub step : e.step ≡ ExchangeField variable i expected new
  pub names : variable_of world (own_section seat) variable ≡ Some name
  pub expects : stored world (own_section seat) expected ≡ from
  pub gives : stored world (own_section seat) new ≡ to
  pub allowed : failing_part c e ≡ None
  pub found : found_of c (Some seat) e.step ≡ word

-- once a seat has won an exchange of a reference, every other exchange in this field finds what this one stored, before somebody stores in the object
abbrev pub FieldWonOnce : Type 0
FieldWonOnce =
    (c : Core) (world : World) (e : Event) (name : Name) (i : ℕ) (from to : Option Name) (word : ℕ) → IsCore c → AgreesWith c world → NumbersFit e.step → ExchangesField c world e name i from to word
    → referred (words_of c.shape c.words).identities word ≡ from
    → (es : List Event) → AllNumbersFit es → Untouched es (after_event c e) (world_after c e world) name
    → let d = run_of es (after_event c e) in
    (f : Event) (asked given : Option Name) (found : ℕ) → ExchangesField d (world_run es (after_event c e) (world_after c e world)) f name i asked given found
    → referred (words_of d.shape d.words).identities found ≡ to

-- the cell x is in use, is reachable, and has the words of the object of this name
abbrev pub IsCellFor : Core → World → Name → ℕ → Type 0
IsCellFor c world name x =
    let w = words_of c.shape c.words in
    IsTrue (in_use w.allocs (makers c.seats) x) × IsReachableIn c x × (name_at w.identities x ≡ name) × HoldsObject c.shape w.identities w.values w.fields world x

-- after every run each object that variables reach has a cell, whatever was swept
abbrev pub ReachedHaveCells : Type 0
ReachedHaveCells = OnRuns (λ c world. (name : Name) → IsReached world name → (x : ℕ) × IsCellFor c world name x)

-- after every run two words that are nil or name cells in use are the same if they refer to the same
abbrev pub SameWords : Type 0
SameWords =
    OnRuns
    (λ c world.
    let w = words_of c.shape c.words in
    (r q : ℕ) → IsTrue (nil_or (in_use w.allocs (makers c.seats)) r) → IsTrue (nil_or (in_use w.allocs (makers c.seats)) q) → referred w.identities r ≡ referred w.identities q → r ≡ q)

-- if a heap isn't shared, a seat stores in no other section's objects, whatever the run
abbrev pub UnsharedStores : Type 0
UnsharedStores =
    OnRuns
    (λ c world.
    (e : Event) (s : SeatState) → failing_part c e ≡ None → slice_get c.seats e.seat ≡ Some s → IsFalse c.shape.sharing → (name : Name) → StoresIn world (own_section s) e.step name
    → name.section ≡ own_section s)

-- what is lost stays lost, whatever anyone does: no path will ever lead there
abbrev pub LostForGood : Type 0
LostForGood =
    (c : Core) (world : World) (es : List Event) (id : ℕ) → IsCore c → AgreesWith c world → AllNumbersFit es → IsGone c id
    → IsLost (run_of es c) (world_run es c world) id

-- a seat asks for cell x, finds it published, and then reads this identity there, without a step of its own between: it has a weak reference. Whoever asks for the
-- cell later, and is given no reference or finds another identity, finds that the object is lost
abbrev pub DeathTold : Type 0
DeathTold =
    (c : Core) (world : World) (i j x : ℕ) (between later : List Event) → IsCore c → AgreesWith c world → IsTrue (is_published c x) → AllNumbersFit between
    → All (λ (e : Event). i ≢ e.seat) between → AllNumbersFit later
    → let asked : Event = record { seat = i; step = ReadWeak x } in
    let d = run_of between (after_event c asked) in
    let f = run_of later d in
    let w = words_of f.shape f.words in
    let id = slice_index (words_of d.shape d.words).identities x in
    let lost = IsLost f (world_run later d (world_run between (after_event c asked) (world_after c asked world))) id in
    failing_part c asked ≡ None → failing_part d (record { seat = i; step = ReadIdent x }) ≡ None → (s : SeatState) → slice_get f.seats j ≡ Some s
    → failing_part f (record { seat = j; step = ReadWeak x }) ≡ None
    → (weak_reference s x (slice_index w.allocs (x / block_cells)) ≡ 0 → lost) × ((slice_index w.identities x ≡ id → ⊥) → lost)
