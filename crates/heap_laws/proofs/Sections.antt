-- What a step leaves of a section: of another seat's, of its own, and of each variable.
use Rattle.std.proofs.Common.{ℕ, ◌≡◌, ◌≢◌, ◌+◌, ◌<◌, ◌≤◌, ◌==◌, ◌&&◌, List, length, arith, refl, sym, ap, ◌∙◌, Bool, true, false, Option, None, Some, ⊎_elim}
use Rattle.std.specs.Prelude.{if◌then◌else◌, nat_le, nat_lt, slice_index_or}
use Rattle.std.proofs.lemmas.Bool.{and_parts, cases_lt, eqb-false, false≢true, not-true}
use Rattle.std.proofs.lemmas.List.{get_or-set_other, set_past}
use Rattle.plain_heap.specs.Paths.{Name}
use Rattle.mark_core.specs.Layout.{words_of}
use Rattle.mark_core.specs.Seats.{may_mutate}
use Rattle.mark_core.specs.Steps.{Core}
use Rattle.mark_core.specs.declared.kinds.Step.{Step}
use Rattle.mark_core.specs.declared.kinds.Step.TheVariants.{ExchangeField, ExchangeValue, ReadCat, ReadOwn, ReadSlot, ReadWeak, StoreField, StoreNew, StoreRoot, StoreSlot, StoreValue, HoldRoot}
use Rattle.mark_core.specs.declared.seat.SeatState.{SeatState}
use Rattle.mark_core.proofs.Blocks.BlocksStopped.{Taken}
use Rattle.gc_table.specs.RunWorlds.{World, WorldObject, WorldSection, in_section, own_section, replaced, section_of, variable_of, with_new, with_object, with_part, with_register, with_variable, world_by}
use Rattle.gc_table.proofs.Frame.{Mutates, mutates}
use Rattle.gc_table.proofs.Reading.{section-other, view-kept}
use Rattle.gc_table.specs.Lending.{leaves_variable}

-- what a change of one section leaves of each
pub change_keeps : {Y : Type 0} (view : WorldSection → Y) (world : World) (w k : ℕ) (f : WorldSection → WorldSection) → ((x : WorldSection) → view (f x) ≡ view x) → view (section_of (in_section world w f) k) ≡ view (section_of world k)
change_keeps {Y} view world w k f same =
    ⊎_elim
    (λ (h : w < length world). view-kept view world w k f h (same (section_of world w)))
    (λ (h : length world ≤ w). ap (λ (x : World). view (section_of x k)) (set_past world w (f (section_of world w)) h))
    (cases_lt w (length world))

-- a change of an object
pub object_keeps : {Y : Type 0} (view : WorldSection → Y) → ((x : WorldSection) (objects : List WorldObject) → view (record x { objects = objects }) ≡ view x) → (world : World) (to : Option Name) (f : WorldObject → WorldObject) (k : ℕ) → view (section_of (with_object world to f) k) ≡ view (section_of world k)
object_keeps {Y} view none world None f k = refl
object_keeps {Y} view none world (Some name) f k = change_keeps view world name.section k (λ x. record x { objects = replaced x.objects name.number f }) (λ x. none x (replaced x.objects name.number f))

-- the step changes the register or a variable of its seat's section
abbrev pub moves_section : Step → Bool
moves_section (StoreRoot w x) = true
moves_section (HoldRoot w x) = true
moves_section (StoreSlot k x) = true
moves_section (ReadSlot k) = true
moves_section (ReadWeak x) = true
moves_section (ReadOwn x j) = true
moves_section (ReadCat w) = true
moves_section (StoreNew x part word) = true
moves_section step = false

pub mutator_of : (c : Core) (i : ℕ) (s : SeatState) (step : Step) → Taken c i s step → moves_section step ≡ true → Mutates c i s
mutator_of c i s (StoreRoot w x) t e = mutates c i s (StoreRoot w x) t (and_parts (nat_lt w 32) (may_mutate s) t.ok.0).1
mutator_of c i s (HoldRoot w x) t e = mutates c i s (HoldRoot w x) t (and_parts (nat_lt w 32) (may_mutate s) t.ok.0).1
mutator_of c i s (StoreSlot k x) t e = mutates c i s (StoreSlot k x) t (and_parts (nat_lt k c.shape.slots) (may_mutate s) t.ok.0).1
mutator_of c i s (ReadSlot k) t e = mutates c i s (ReadSlot k) t (and_parts (nat_lt k c.shape.slots) (may_mutate s) t.ok.0).1
mutator_of c i s (ReadWeak x) t e = mutates c i s (ReadWeak x) t (and_parts (nat_lt x c.shape.cells) (may_mutate s) t.ok.0).1
mutator_of c i s (ReadOwn x j) t e = mutates c i s (ReadOwn x j) t (and_parts (nat_lt x c.shape.cells && nat_lt j c.shape.fields) (may_mutate s) t.ok.0).1
mutator_of c i s (ReadCat w) t e = mutates c i s (ReadCat w) t (and_parts (nat_lt w 32) (may_mutate s) t.ok.0).1
mutator_of c i s (StoreNew x part word) t e = mutates c i s (StoreNew x part word) t (and_parts (nat_lt x c.shape.cells && nat_le part (c.shape.fields + 1)) (may_mutate s) t.ok.0).1
mutator_of c i s step t e = absurd (false≢true e)

-- a step of another seat leaves the variables and the register of a section
pub section_stays : {Y : Type 0} (view : WorldSection → Y) → ((x : WorldSection) (objects : List WorldObject) → view (record x { objects = objects }) ≡ view x) → (c : Core) (j : ℕ) (s : SeatState) (step : Step) (world : World) (i : ℕ) → Taken c j s step → i ≢ j
    → view (section_of (world_by c.shape (words_of c.shape c.words) s step world) i) ≡ view (section_of world i)
section_stays {Y} view none c j s step world i t d = by_step step refl
  where
    other : (f : WorldSection → WorldSection) → moves_section step ≡ true → view (section_of (in_section world (own_section s) f) i) ≡ view (section_of world i)
    other f e = let mu : Mutates c j s = mutator_of c j s step t e in ap view (section-other world (own_section s) i f (λ z. d (z ∙ mu.own)))

    by_step : (a : Step) → step ≡ a → view (section_of (world_by c.shape (words_of c.shape c.words) s a world) i) ≡ view (section_of world i)
    by_step (StoreField w k x) e = object_keeps view none world (variable_of world (own_section s) w) _ i
    by_step (StoreValue w n) e = object_keeps view none world (variable_of world (own_section s) w) _ i
    by_step (ExchangeField w k x y) e = object_keeps view none world (variable_of world (own_section s) w) _ i
    by_step (ExchangeValue w m n) e = object_keeps view none world (variable_of world (own_section s) w) _ i
    by_step (StoreRoot w x) e = other (with_variable w _) (ap moves_section e)
    by_step (HoldRoot w x) e = other (with_variable w _) (ap moves_section e)
    by_step (StoreSlot k x) e = other (with_variable (32 + k) _) (ap moves_section e)
    by_step (ReadSlot k) e = other (with_register _) (ap moves_section e)
    by_step (ReadWeak x) e = other (with_register _) (ap moves_section e)
    by_step (ReadOwn x k) e = other (with_register _) (ap moves_section e)
    by_step (ReadCat w) e = other (with_register _) (ap moves_section e)
    by_step (StoreNew x part word) e = other (with_part c.shape.fields part word) (ap moves_section e)
    by_step a e = refl

-- a part of a new cell leaves variables
pub part_variable : (a q : Bool) (x y z : WorldSection) (v : ℕ) → y.variables ≡ x.variables → z.variables ≡ x.variables → slice_index_or (if a then x else if q then y else z).variables v None ≡ slice_index_or x.variables v None
part_variable true q x y z v e f = refl
part_variable false true x y z v e f = ap (λ (xs : List (Option Name)). slice_index_or xs v None) e
part_variable false false x y z v e f = ap (λ (xs : List (Option Name)). slice_index_or xs v None) f

-- a variable is changed by an assignment to it only
pub variable_stays : (c : Core) (s : SeatState) (step : Step) (world : World) (i y : ℕ) → y < 32 → leaves_variable y step ≡ true → variable_of (world_by c.shape (words_of c.shape c.words) s step world) i y ≡ variable_of world i y
variable_stays c s (StoreField v j x) world i y h e = object_keeps (λ (z : WorldSection). slice_index_or z.variables y None) (λ z objects. refl) world (variable_of world (own_section s) v) _ i
variable_stays c s (StoreValue v n) world i y h e = object_keeps (λ (z : WorldSection). slice_index_or z.variables y None) (λ z objects. refl) world (variable_of world (own_section s) v) _ i
variable_stays c s (ExchangeField v j x o) world i y h e = object_keeps (λ (z : WorldSection). slice_index_or z.variables y None) (λ z objects. refl) world (variable_of world (own_section s) v) _ i
variable_stays c s (ExchangeValue v m n) world i y h e = object_keeps (λ (z : WorldSection). slice_index_or z.variables y None) (λ z objects. refl) world (variable_of world (own_section s) v) _ i
variable_stays c s (StoreRoot w r) world i y h e =
    change_keeps (λ (z : WorldSection). slice_index_or z.variables y None) world (own_section s) i (with_variable w _) (λ x. get_or-set_other x.variables w y _ None (λ same. eqb-false w y (not-true (w == y) e) (sym same)))
variable_stays c s (HoldRoot w r) world i y h e =
    change_keeps (λ (z : WorldSection). slice_index_or z.variables y None) world (own_section s) i (with_variable w _) (λ x. get_or-set_other x.variables w y _ None (λ same. eqb-false w y (not-true (w == y) e) (sym same)))
variable_stays c s (StoreSlot k r) world i y h e =
    change_keeps (λ (z : WorldSection). slice_index_or z.variables y None) world (own_section s) i (with_variable (32 + k) _) (λ x. get_or-set_other x.variables (32 + k) y _ None (λ same. omega (arith, same, h)))
variable_stays c s (ReadSlot k) world i y h e = change_keeps (λ (z : WorldSection). slice_index_or z.variables y None) world (own_section s) i (with_register _) (λ x. refl)
variable_stays c s (ReadWeak x) world i y h e = change_keeps (λ (z : WorldSection). slice_index_or z.variables y None) world (own_section s) i (with_register _) (λ z. refl)
variable_stays c s (ReadOwn x j) world i y h e = change_keeps (λ (z : WorldSection). slice_index_or z.variables y None) world (own_section s) i (with_register _) (λ z. refl)
variable_stays c s (ReadCat v) world i y h e = change_keeps (λ (z : WorldSection). slice_index_or z.variables y None) world (own_section s) i (with_register _) (λ z. refl)
variable_stays c s (StoreNew x part word) world i y h e =
    change_keeps (λ (z : WorldSection). slice_index_or z.variables y None) world (own_section s) i (with_part c.shape.fields part word) (λ z. part_variable (nat_lt part c.shape.fields) (part == c.shape.fields) z (record z { coming = word }) (with_new c.shape.fields z) y refl refl)
variable_stays c s step world i y h e = refl
