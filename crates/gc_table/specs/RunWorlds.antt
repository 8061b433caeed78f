-- One heap of all sections that forgets nothing: each object that was ever made, by its name, and for each section its variables and its register. And what a
-- step does to it.
use Rattle.mark_core.specs.Cards.{block_cells}
use Rattle.mark_core.specs.Steps.MutatorSteps.{weak_reference}
use Rattle.std.specs.Prelude.{ℕ, zero, suc, ◌/◌, ◌%◌, ◌==◌, nat_lt, if◌then◌else◌, List, [], ◌∷◌, ◌++◌, replicate, Option, Some, None, unwrap_or, slice_get, slice_set, slice_index, slice_index_or, Bool, true, false, ◌&&◌, ◌+◌}
use Rattle.plain_heap.specs.Paths.{Name}
use Rattle.mark_core.specs.Layout.{Words}
use Rattle.mark_core.specs.Numbers.{section_variables, section_span}
use Rattle.mark_core.specs.declared.kinds.Shape.{Shape}
use Rattle.mark_core.specs.declared.kinds.Step.{Step}
use Rattle.mark_core.specs.declared.kinds.Step.TheVariants.{ReadOwn, ReadCat, StoreField, StoreValue, StoreRoot, StoreNew, ExchangeField, ExchangeValue, StoreSlot, ReadSlot, ReadWeak, HoldRoot}
use Rattle.mark_core.specs.declared.seat.SeatState.{SeatState}

-- an object: its value, and what each of its fields refers to, if it isn't nil
pub record WorldObject : Type 0 where
  pub value : ℕ
  pub refs : List (Option Name)

-- what a section has
pub record WorldSection : Type 0 where
  -- the objects that its seat made, in order
  pub objects : List WorldObject
  -- the variables, and the slots behind
  pub variables : List (Option Name)
  pub register : Option Name
  -- the value that its seat stored last in a cell that it makes
  pub coming : ℕ

-- the sections, in order
abbrev pub World : Type 0
World = List WorldSection

-- what stands where no section is
abbrev pub new_section : WorldSection
new_section = record { objects = []; variables = replicate section_variables None; register = None; coming = 0 }

-- a section that has done nothing, with its slots behind the variables
abbrev pub start_section : Shape → WorldSection
start_section sh = record new_section { variables = replicate (section_variables + sh.slots) None }

-- a heap in which nothing was made
abbrev pub start_world : Shape → World
start_world sh = replicate sh.sections (start_section sh)

-- section w
abbrev pub section_of : World → ℕ → WorldSection
section_of world w = slice_index_or world w new_section

-- what variable v of section w refers to; slot k is variable section_variables + k
abbrev pub variable_of : World → ℕ → ℕ → Option Name
variable_of world w v = slice_index_or (section_of world w).variables v None

-- the object of this name
abbrev pub object_of : World → Name → Option WorldObject
object_of world name = slice_get (section_of world name.section).objects name.number

-- what field i refers to
abbrev pub reference_of : WorldObject → ℕ → Option Name
reference_of object i = slice_index_or object.refs i None

-- what field i of an object refers to, if there is one
abbrev pub followed : Option WorldObject → ℕ → Option Name
followed None i = None
followed (Some object) i = reference_of object i

-- section w changes
abbrev pub in_section : World → ℕ → (WorldSection → WorldSection) → World
in_section world w f = slice_set world w (f (section_of world w))

-- what stands where no object is
abbrev pub no_object : WorldObject
no_object = record { value = 0; refs = [] }

-- one of the objects changes
abbrev pub replaced : List WorldObject → ℕ → (WorldObject → WorldObject) → List WorldObject
replaced objects number f = slice_set objects number (f (slice_index_or objects number no_object))

-- the object of this name changes, whichever section made it
abbrev pub with_object : World → Option Name → (WorldObject → WorldObject) → World
with_object world None f = world
with_object world (Some name) f = in_section world name.section (λ x. record x { objects = replaced x.objects name.number f })

-- the name in an identity
abbrev pub name_in : ℕ → Name
name_in identity = record { section = identity / section_span; number = identity % section_span }

-- the name of the object in cell c
abbrev pub name_at : List ℕ → ℕ → Name
name_at identities c = name_in (slice_index identities c)

-- what a word refers to: nothing if it is nil, or else the object in the cell that it names
abbrev pub referred : List ℕ → ℕ → Option Name
referred identities zero = None
referred identities (suc c) = Some (name_at identities c)

-- the section of a seat
abbrev pub own_section : SeatState → ℕ
own_section s = unwrap_or s.section 0

-- what is stored in a field: what a variable refers to, or nil
abbrev pub stored : World → ℕ → Option ℕ → Option Name
stored world w None = None
stored world w (Some v) = variable_of world w v

-- an object whose field i refers to this
abbrev pub with_reference : ℕ → Option Name → WorldObject → WorldObject
with_reference i to object = record object { refs = slice_set object.refs i to }

-- an object with this value
abbrev pub with_value : ℕ → WorldObject → WorldObject
with_value n object = record object { value = n }

-- both refer to nothing, or to one object
abbrev pub is_same : Option Name → Option Name → Bool
is_same None None = true
is_same None (Some y) = false
is_same (Some x) None = false
is_same (Some x) (Some y) = (x.section == y.section) && (x.number == y.number)

-- an object whose field i refers to `to` if it referred to `from`, and which else stays
abbrev pub with_exchanged : ℕ → Option Name → Option Name → WorldObject → WorldObject
with_exchanged i from to object = if is_same (reference_of object i) from then with_reference i to object else object

-- an object whose value is n if it was m, and which else stays
abbrev pub with_exchanged_value : ℕ → ℕ → WorldObject → WorldObject
with_exchanged_value m n object = if object.value == m then with_value n object else object

-- a section whose register refers to this
abbrev pub with_register : Option Name → WorldSection → WorldSection
with_register to x = record x { register = to }

-- a section whose variable v refers to this; its register is empty
abbrev pub with_variable : ℕ → Option Name → WorldSection → WorldSection
with_variable v to x = record x { variables = slice_set x.variables v to; register = None }

-- a section with one more object, of the value that was stored for it, and whose fields are nil
abbrev pub with_new : ℕ → WorldSection → WorldSection
with_new fields x = record x { objects = x.objects ++ record { value = x.coming; refs = replicate fields None } ∷ [] }

-- a part of a new cell is stored: nil fields, then the value, and with the identity there is one more object
abbrev pub with_part : ℕ → ℕ → ℕ → WorldSection → WorldSection
with_part fields part word x = if nat_lt part fields then x else if part == fields then record x { coming = word } else with_new fields x

-- what a seat's step does to the heap: what it stores, where and what it reads follows from the heap, and the words of the state before tell only which
-- objects are in which cells, and to who asks for a cell whether one is there
abbrev pub world_by : Shape → Words → SeatState → Step → World → World
world_by sh w s (StoreField v i x) world = with_object world (variable_of world (own_section s) v) (with_reference i (stored world (own_section s) x))
world_by sh w s (StoreValue v n) world = with_object world (variable_of world (own_section s) v) (with_value n)
world_by sh w s (ExchangeField v i x y) world =
    with_object world (variable_of world (own_section s) v) (with_exchanged i (stored world (own_section s) x) (stored world (own_section s) y))
world_by sh w s (ExchangeValue v m n) world = with_object world (variable_of world (own_section s) v) (with_exchanged_value m n)
world_by sh w s (StoreRoot v r) world = in_section world (own_section s) (with_variable v (referred w.identities r))
world_by sh w s (HoldRoot v r) world = in_section world (own_section s) (with_variable v (referred w.identities r))
world_by sh w s (StoreSlot k r) world = in_section world (own_section s) (with_variable (section_variables + k) (referred w.identities r))
world_by sh w s (ReadSlot k) world = in_section world (own_section s) (with_register (variable_of world (own_section s) (section_variables + k)))
world_by sh w s (ReadWeak c) world = in_section world (own_section s) (with_register (referred w.identities (weak_reference s c (slice_index w.allocs (c / block_cells)))))
world_by sh w s (ReadOwn c i) world = in_section world (own_section s) (with_register (followed (object_of world (name_at w.identities c)) i))
world_by sh w s (ReadCat v) world = in_section world (own_section s) (with_register (variable_of world 0 v))
world_by sh w s (StoreNew c part word) world = in_section world (own_section s) (with_part sh.fields part word)
world_by sh w s step world = world
