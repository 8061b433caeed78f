-- The plain heap's own steps, each told without words: neither cells nor colours stand here.
use Rattle.std.specs.Prelude.{ℕ, zero, suc, ◌≡◌, ◌+◌, ◌==◌, if◌then◌else◌, nat_lt, List, [], ◌∷◌, length, take, Option, None, Some, slice_get}
use Rattle.plain_heap.specs.Paths.{Name}
use Rattle.mark_core.specs.Numbers.{section_variables}
use Rattle.mark_core.specs.Steps.{Core, failing_part}
use Rattle.mark_core.specs.declared.kinds.Event.{Event}
use Rattle.mark_core.specs.declared.kinds.Shape.{Shape}
use Rattle.mark_core.specs.declared.kinds.Step.{Step}
use Rattle.mark_core.specs.declared.kinds.Step.TheVariants.{ReadOwn, ReadCat, StoreField, StoreValue, StoreRoot, StoreNew, ExchangeField, ExchangeValue, StoreSlot, ReadSlot, ReadWeak, HoldRoot}
use Rattle.mark_core.specs.declared.seat.SeatState.{SeatState}
use Rattle.gc_table.specs.AgreementLaws.{world_after}
use Rattle.gc_table.specs.RunWorlds.{World, WorldObject, section_of, variable_of, object_of, followed, in_section, with_object, with_reference, with_value, with_exchanged, with_exchanged_value, with_register, with_variable, with_new, stored, own_section, start_world}
use Rattle.gc_table.specs.Sharing.{heap_after_events}
use Rattle.heap_laws.specs.Moments.{IsHistory, IsMoment}

-- a reference that a section has at hand: nil, its register's, a variable's, or that to the object which it made last
pub data Reference : Type 0 where
  Nil : Reference
  Register : Reference
  Variable : ℕ → Reference
  Newest : Reference

-- the last of this many objects of section w
abbrev pub newest : ℕ → ℕ → Option Name
newest w zero = None
newest w (suc n) = Some (record { section = w; number = n })

-- what it refers to
abbrev pub taken : World → ℕ → Reference → Option Name
taken world w Nil = None
taken world w Register = (section_of world w).register
taken world w (Variable v) = variable_of world w v
taken world w Newest = newest w (length (section_of world w).objects)

-- what field i of an object refers to, if there is one
abbrev pub field_of : World → Option Name → ℕ → Option Name
field_of world None i = None
field_of world (Some name) i = followed (object_of world name) i

-- what a section does
pub data Act : Type 0 where
  -- nothing to the plain heap
  Rests : Act
  -- field i, or the value, of the object of variable v
  SetsField : (v i : ℕ) → Option ℕ → Act
  SetsValue : (v n : ℕ) → Act
  ExchangesField : (v i : ℕ) → Option ℕ → Option ℕ → Act
  ExchangesValue : (v m n : ℕ) → Act
  -- variable v, or slot v - section_variables, refers to this
  Assigns : ℕ → Reference → Act
  -- the register refers to what this field does, or this variable of this section
  LoadsField : Reference → ℕ → Act
  LoadsVariable : (w v : ℕ) → Act
  -- the register refers to an object that there is, or to none
  Finds : Option Name → Act
  -- a new object has this value, and then is there
  Prepares : ℕ → Act
  Makes : Act

-- the heap after an act of section w
abbrev pub acted : ℕ → World → ℕ → Act → World
acted fields world w Rests = world
acted fields world w (SetsField v i x) = with_object world (variable_of world w v) (with_reference i (stored world w x))
acted fields world w (SetsValue v n) = with_object world (variable_of world w v) (with_value n)
acted fields world w (ExchangesField v i x y) = with_object world (variable_of world w v) (with_exchanged i (stored world w x) (stored world w y))
acted fields world w (ExchangesValue v m n) = with_object world (variable_of world w v) (with_exchanged_value m n)
acted fields world w (Assigns v r) = in_section world w (with_variable v (taken world w r))
acted fields world w (LoadsField r i) = in_section world w (with_register (field_of world (taken world w r) i))
acted fields world w (LoadsVariable u v) = in_section world w (with_register (variable_of world u v))
acted fields world w (Finds o) = in_section world w (with_register o)
acted fields world w (Prepares n) = in_section world w (λ x. record x { coming = n })
acted fields world w Makes = in_section world w (with_new fields)

-- the act of a step of the seat of section w, by the step alone: which reference is stored or followed, and what is found, is left to the act
abbrev pub IsActOf : ℕ → ℕ → Step → Act → Type 0
IsActOf fields w (StoreField v i x) act = act ≡ SetsField v i x
IsActOf fields w (StoreValue v n) act = act ≡ SetsValue v n
IsActOf fields w (ExchangeField v i x y) act = act ≡ ExchangesField v i x y
IsActOf fields w (ExchangeValue v m n) act = act ≡ ExchangesValue v m n
IsActOf fields w (StoreRoot v r) act = (from : Reference) × (act ≡ Assigns v from)
IsActOf fields w (HoldRoot v r) act = (from : Reference) × (act ≡ Assigns v from)
IsActOf fields w (StoreSlot k r) act = (from : Reference) × (act ≡ Assigns (section_variables + k) from)
IsActOf fields w (ReadOwn c i) act = (from : Reference) × (act ≡ LoadsField from i)
IsActOf fields w (ReadCat v) act = act ≡ LoadsVariable 0 v
IsActOf fields w (ReadSlot k) act = act ≡ LoadsVariable w (section_variables + k)
IsActOf fields w (ReadWeak c) act = (o : Option Name) × (act ≡ Finds o)
IsActOf fields w (StoreNew c part word) act = act ≡ (if nat_lt part fields then Rests else if part == fields then Prepares word else Makes)
IsActOf fields w step act = act ≡ Rests

-- this reference is to an object that there is
abbrev pub IsThere : World → Option Name → Type 0
IsThere world o = (name : Name) × (object : WorldObject) × (o ≡ Some name) × (object_of world name ≡ Some object)

-- there is an object to act on, if one is needed
abbrev pub MayAct : World → ℕ → Act → Type 0
MayAct world w (SetsField v i x) = IsThere world (variable_of world w v)
MayAct world w (SetsValue v n) = IsThere world (variable_of world w v)
MayAct world w (ExchangesField v i x y) = IsThere world (variable_of world w v)
MayAct world w (ExchangesValue v m n) = IsThere world (variable_of world w v)
MayAct world w (LoadsField r i) = IsThere world (taken world w r)
MayAct world w (Finds (Some name)) = IsThere world (Some name)
MayAct world w act = Unit {0}

-- what an event does to the plain heap
pub record ActsOn (c : Core) (world : World) (e : Event) (s : SeatState) (act : Act) : Type 0 where
  pub of_step : IsActOf c.shape.fields (own_section s) e.step act
  pub may : MayAct world (own_section s) act
  pub after : world_after c e world ≡ acted c.shape.fields world (own_section s) act

-- each allowed event is an act of its seat's section, or none
abbrev pub EventsAct : Type 0
EventsAct = (c : Core) (world : World) → IsMoment c world → (e : Event) (s : SeatState) → failing_part c e ≡ None → slice_get c.seats e.seat ≡ Some s → (act : Act) × ActsOn c world e s act

-- the heap after these acts, each with its section
abbrev pub heap_by : ℕ → List (ℕ × Act) → World → World
heap_by fields [] world = world
heap_by fields (a ∷ rest) world = heap_by fields rest (acted fields world a.0 a.1)

-- what happened to the plain heap is a list of acts alone, one for each event: no word is needed to tell the heap after any number of them
abbrev pub HeapsNeedNoWords : Type 0
HeapsNeedNoWords = (sh : Shape) (es : List Event) → IsHistory sh es
    → (acts : List (ℕ × Act)) × (length acts ≡ length es)
    × ((k : ℕ) (e : Event) (a : ℕ × Act) → slice_get es k ≡ Some e → slice_get acts k ≡ Some a → IsActOf sh.fields a.0 e.step a.1 × MayAct (heap_after_events sh es k) a.0 a.1)
    × ((k : ℕ) → heap_after_events sh es k ≡ heap_by sh.fields (take k acts) (start_world sh))
