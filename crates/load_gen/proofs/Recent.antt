-- Heaps whose variables hold only objects that are numbered from some number on, and what keeps them so.
use Rattle.std.proofs.Common.{◌≡◌, ℕ, ◌+◌, ◌<◌, ◌≤◌, inl, inr, List, [], ◌∷◌, ◌++◌, length, refl, sym, subst, arith}
use Rattle.std.proofs.lemmas.Bool.{cases_lt}
use Rattle.std.proofs.lemmas.List.{get_or_past, get_or_append_left, get_or_push, length-set, length-append}
use Rattle.std.proofs.lemmas.List.Elements.{All-set, All-replicate, AllWithin-set}
use Rattle.std.proofs.lemmas.Option.{slice_get_within, get_or_from_slice_get}
use Rattle.std.specs.Prelude.{All, Option, Some, None, slice_get, slice_set, slice_index_or}
use Rattle.std.specs.List.{AllWithin}
use Rattle.plain_heap.specs.declared.object.Ref.{Ref}
use Rattle.plain_heap.specs.declared.object.Ref.TheVariants as refs
use Rattle.plain_heap.specs.declared.object.Object.{Object}
use Rattle.plain_heap.specs.PlainHeap.{Heap}
use Rattle.plain_heap.specs.PlainStep.{field_of, followed, stored_at, replaced_by, with_field, new_object}

-- the reference is nil, or names an own object that is numbered so or higher
abbrev pub IsFrom : ℕ → Ref → Type 0
IsFrom base refs.Nil = Unit {0}
IsFrom base (refs.Own n) = base ≤ n
IsFrom base (refs.Cat n) = ⊥

-- each field of an object is such a reference
abbrev pub HasFrom : ℕ → Object → Type 0
HasFrom base object = All (IsFrom base) object.refs

-- variables, and the fields of the objects from `base` on, refer to objects from `base` on
pub record IsRecent (base : ℕ) (objects : List Object) (variables : List Ref) : Type 0 where
  pub start : base ≤ length objects
  pub held : All (IsFrom base) variables
  pub fields : AllWithin (HasFrom base) objects base (length objects)

-- what holds of each element and of the default holds of what is read
pub all_or : {X : Type 0} (P : X → Type 0) (xs : List X) (k : ℕ) (d : X) → P d → All P xs → P (slice_index_or xs k d)
all_or P xs k d p all = elim (cases_lt k (length xs)) as (λ x. P (slice_index_or xs k d)) [ inl l ↦ all k d l | inr past ↦ subst P (sym (get_or_past xs k d past)) p ]

-- what a variable holds
pub held_from : (base : ℕ) (objects : List Object) (variables : List Ref) (v : ℕ) → IsRecent base objects variables → IsFrom base (slice_index_or variables v refs.Nil)
held_from base objects variables v r = all_or (IsFrom base) variables v refs.Nil tt r.held

-- a variable is changed
pub assigned_recent : (base : ℕ) (objects : List Object) (variables : List Ref) (v : ℕ) (ref : Ref) → IsFrom base ref → IsRecent base objects variables → IsRecent base objects (slice_set variables v ref)
assigned_recent base objects variables v ref f r = record { start = r.start; held = All-set (IsFrom base) variables v ref f r.held; fields = r.fields }

-- an object that is found has the fields that are known of it
pub found_fields : (base : ℕ) (objects : List Object) (variables : List Ref) (n : ℕ) (object : Object) → IsRecent base objects variables → base ≤ n → slice_get objects n ≡ Some object → HasFrom base object
found_fields base objects variables n object r from there =
    subst (HasFrom base) (get_or_from_slice_get objects n object object there) (r.fields n object from (slice_get_within objects n object there))

field_from : (base : ℕ) (objects : List Object) (variables : List Ref) (n i : ℕ) (o : Option Object) → IsRecent base objects variables → base ≤ n → slice_get objects n ≡ o → IsFrom base (field_of o i)
field_from base objects variables n i None r from there = tt
field_from base objects variables n i (Some object) r from there = all_or (IsFrom base) object.refs i refs.Nil tt (found_fields base objects variables n object r from there)

-- what a field refers to
pub followed_from : (base : ℕ) (heap : Heap) (catalogue : Option Heap) (ref : Ref) (i : ℕ) → IsRecent base heap.objects heap.variables → IsFrom base ref → IsFrom base (followed heap catalogue ref i)
followed_from base heap catalogue refs.Nil i r from = tt
followed_from base heap catalogue (refs.Own n) i r from = field_from base heap.objects heap.variables n i (slice_get heap.objects n) r from refl
followed_from base heap catalogue (refs.Cat n) i r from = absurd from

-- another object, with such fields, in place of one
replaced_recent : (base : ℕ) (objects : List Object) (variables : List Ref) (n : ℕ) (object : Object) → n < length objects → HasFrom base object → IsRecent base objects variables → IsRecent base (slice_set objects n object) variables
replaced_recent base objects variables n object within has r = record {
  start = subst (λ (l : ℕ). base ≤ l) (sym (length-set objects n object)) r.start;
  held = r.held;
  fields = subst (AllWithin (HasFrom base) (slice_set objects n object) base) (sym (length-set objects n object)) (AllWithin-set (HasFrom base) objects base (length objects) n object within has r.fields);
}

-- a heap of which the same holds, with as many objects and the same variables
pub record IsStored (base : ℕ) (old new : Heap) : Type 0 where
  pub recent : IsRecent base new.objects new.variables
  pub sized : length new.objects ≡ length old.objects
  pub kept : new.variables ≡ old.variables

-- a reference is stored into a field of an object, if there is one
replaced_stored : (base : ℕ) (heap : Heap) (n i : ℕ) (ref : Ref) (o : Option Object) → IsRecent base heap.objects heap.variables → base ≤ n → IsFrom base ref → slice_get heap.objects n ≡ o
    → IsStored base heap (replaced_by heap n (λ object. with_field object i ref) o)
replaced_stored base heap n i ref None r from f there = record { recent = r; sized = refl; kept = refl }
replaced_stored base heap n i ref (Some object) r from f there = record {
  recent = replaced_recent base heap.objects heap.variables n (with_field object i ref) (slice_get_within heap.objects n object there)
      (All-set (IsFrom base) object.refs i ref f (found_fields base heap.objects heap.variables n object r from there)) r;
  sized = length-set heap.objects n (with_field object i ref);
  kept = refl;
}

-- a reference is stored through another
pub stored : (base : ℕ) (heap : Heap) (to : Ref) (i : ℕ) (ref : Ref) → IsRecent base heap.objects heap.variables → IsFrom base to → IsFrom base ref → IsStored base heap (stored_at heap to (λ object. with_field object i ref))
stored base heap refs.Nil i ref r from f = record { recent = r; sized = refl; kept = refl }
stored base heap (refs.Own n) i ref r from f = replaced_stored base heap n i ref (slice_get heap.objects n) r from f refl
stored base heap (refs.Cat n) i ref r from f = absurd from

-- one object more, with nil fields
pub pushed_recent : (base : ℕ) (objects : List Object) (variables : List Ref) (n : ℕ) → IsRecent base objects variables → IsRecent base (objects ++ new_object n ∷ []) variables
pushed_recent base objects variables n r = record {
  start = omega (arith, r.start, longer);
  held = r.held;
  fields = λ k d low high. elim (cases_lt k (length objects)) as (λ x. HasFrom base (slice_index_or (objects ++ new_object n ∷ []) k d)) [ inl l ↦ old k d low l | inr past ↦ last k d (omega (arith, past, high, longer)) ];
}
  where
    longer : length (objects ++ new_object n ∷ []) ≡ length objects + 1
    longer = length-append objects (new_object n ∷ [])

    old : (k : ℕ) (d : Object) → base ≤ k → k < length objects → HasFrom base (slice_index_or (objects ++ new_object n ∷ []) k d)
    old k d low l = subst (HasFrom base) (sym (get_or_append_left objects (new_object n ∷ []) d k l)) (r.fields k d low l)

    last : (k : ℕ) (d : Object) → length objects ≡ k → HasFrom base (slice_index_or (objects ++ new_object n ∷ []) k d)
    last k d e = subst (HasFrom base) (sym (get_or_push objects (new_object n) d k e)) (All-replicate (IsFrom base) 16 refs.Nil tt)
