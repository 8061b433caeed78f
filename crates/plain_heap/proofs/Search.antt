-- A search for the reachable objects, each with a path to it. What it finds is tested by what `Found` has.
use Rattle.std.proofs.Common.{ℕ, zero, suc, List, [], ◌∷◌}
use Rattle.std.specs.Prelude.{◌==◌, Option, Some, None, slice_get, if◌then◌else◌, fold}
use Rattle.std.specs.List.{flat_map}
use Rattle.plain_heap.specs.declared.object.Ref.{Ref}
use Rattle.plain_heap.specs.declared.object.Ref.TheVariants as refs
use Rattle.plain_heap.specs.declared.object.Object.{Object}
use Rattle.plain_heap.specs.PlainHeap.{Heap}
use Rattle.plain_heap.specs.Paths.{Name, name_of}
use Rattle.plain_heap.specs.Marking.{refs_in}
use Rattle.plain_heap.proofs.Found.{Witness, same, is_before}

abbrev value_in : Option Object → ℕ
value_in None = 0
value_in (Some object) = object.value

abbrev value_at : List Heap → Name → ℕ
value_at [] name = 0
value_at (heap ∷ heaps) name = if heap.section == name.section then value_in (slice_get heap.objects name.number) else value_at heaps name

abbrev refs_of : List Heap → Name → List Ref
refs_of [] name = []
refs_of (heap ∷ heaps) name = if heap.section == name.section then refs_in (slice_get heap.objects name.number) else refs_of heaps name

abbrev names_of : ℕ → Ref → List Name
names_of section refs.Nil = []
names_of section (refs.Own n) = record { section = section; number = n } ∷ []
names_of zero (refs.Cat n) = []
names_of (suc section) (refs.Cat n) = record { section = 0; number = n } ∷ []

abbrev witness : List Heap → Name → List Name → Witness
witness heaps name path = record { survivor = record { section = name.section; number = name.number; value = value_at heaps name }; path = path }

-- a further one, at its place in the order
abbrev added : Witness → List Witness → List Witness
added w [] = w ∷ []
added w (v ∷ vs) =
    if same (name_of w.survivor) (name_of v.survivor) then v ∷ vs
    else (if is_before (name_of w.survivor) (name_of v.survivor) then w ∷ v ∷ vs else v ∷ added w vs)

abbrev all_added : List Witness → List Witness → List Witness
all_added ws vs = fold (λ vs w. added w vs) vs ws

abbrev held : List Heap → List Witness
held heaps = flat_map (λ heap. flat_map (λ ref. flat_map (λ name. witness heaps name [] ∷ []) (names_of heap.section ref)) heap.variables) heaps

abbrev nexts : List Heap → Witness → List Witness
nexts heaps w = flat_map (λ ref. flat_map (λ name. witness heaps name (name_of w.survivor ∷ w.path) ∷ []) (names_of w.survivor.section ref)) (refs_of heaps (name_of w.survivor))

abbrev grown : List Heap → ℕ → List Witness → List Witness
grown heaps zero ws = ws
grown heaps (suc rounds) ws = grown heaps rounds (all_added (flat_map (nexts heaps) ws) ws)

-- what this many rounds find
abbrev pub searched : List Heap → ℕ → List Witness
searched heaps rounds = grown heaps rounds (all_added (held heaps) [])
