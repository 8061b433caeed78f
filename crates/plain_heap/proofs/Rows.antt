-- What operations do and print, computed by the definitions. The expected values were worked out by hand.
use Rattle.std.proofs.Common.{◌≡◌, List, [], ◌∷◌, refl}
use Rattle.std.specs.Prelude.{Option, Some, None}
use Rattle.plain_heap.specs.declared.object.Ref.TheVariants as refs
use Rattle.plain_heap.specs.declared.operation.Op.{Op}
use Rattle.plain_heap.specs.declared.operation.Op.TheVariants as ops
use Rattle.plain_heap.specs.declared.operation.Line.{Line}
use Rattle.plain_heap.specs.declared.operation.Line.TheVariants as lines
use Rattle.plain_heap.specs.PlainHeap.{Heap, empty_heap, variable}
use Rattle.plain_heap.specs.PlainStep.{line_of, new_object}
use Rattle.plain_heap.specs.PlainRun.{heap_from}

-- a catalogue: object 0 of value 40 in variable 0, which refers by its field 0 to object 1 of value 41
abbrev catalogue : Heap
catalogue = heap_from None (empty_heap 4 0) (ops.New 0 40 ∷ ops.New 1 41 ∷ ops.Set 0 0 1 ∷ [])

-- warehouse 1 after these operations
abbrev after : List Op → Heap
after done = heap_from (Some catalogue) (empty_heap 4 1) done

-- what it prints next
abbrev prints : List Op → Op → Option Line
prints done op = line_of (after done) (Some catalogue) op

-- two objects that refer to each other by field 2
abbrev circle : List Op
circle = ops.New 0 7 ∷ ops.New 1 8 ∷ ops.Set 0 2 1 ∷ ops.Set 1 2 0 ∷ []

new_takes_next_number : variable (after (ops.New 0 5 ∷ ops.New 0 6 ∷ [])) 0 ≡ refs.Own 1
new_takes_next_number = refl

new_forgets_nothing : (after (ops.New 0 5 ∷ ops.New 0 6 ∷ [])).objects ≡ new_object 5 ∷ new_object 6 ∷ []
new_forgets_nothing = refl

new_prints_nothing : prints [] (ops.New 0 5) ≡ None
new_prints_nothing = refl

let_copies : variable (after (ops.New 0 5 ∷ ops.Let 1 0 ∷ [])) 1 ≡ refs.Own 0
let_copies = refl

let_itself : after (ops.New 0 5 ∷ ops.Let 0 0 ∷ []) ≡ after (ops.New 0 5 ∷ [])
let_itself = refl

nil_lets_go : variable (after (ops.New 0 5 ∷ ops.Nil 0 ∷ [])) 0 ≡ refs.Nil
nil_lets_go = refl

set_stores : prints (ops.New 0 5 ∷ ops.New 1 8 ∷ ops.Set 0 2 1 ∷ []) (ops.Sum 0 2 9) ≡ Some (lines.Walk 2 13)
set_stores = refl

set_at_nil : after (ops.Set 0 0 0 ∷ []) ≡ empty_heap 4 1
set_at_nil = refl

get_reads : prints (ops.New 0 5 ∷ ops.New 1 8 ∷ ops.Set 0 2 1 ∷ ops.Get 0 0 2 ∷ []) (ops.Say 0) ≡ Some (lines.Value 8)
get_reads = refl

get_at_nil : variable (after (ops.New 0 5 ∷ ops.Get 0 1 0 ∷ [])) 0 ≡ refs.Nil
get_at_nil = refl

cat_lends : variable (after (ops.Cat 3 1 ∷ [])) 3 ≡ refs.Cat 1
cat_lends = refl

cat_of_nil : variable (after (ops.New 3 5 ∷ ops.Cat 3 9 ∷ [])) 3 ≡ refs.Nil
cat_of_nil = refl

get_lends : variable (after (ops.Cat 0 0 ∷ ops.Get 1 0 0 ∷ [])) 1 ≡ refs.Cat 1
get_lends = refl

put_stores : prints (ops.New 0 5 ∷ ops.Put 0 7 ∷ []) (ops.Say 0) ≡ Some (lines.Value 7)
put_stores = refl

put_at_nil : after (ops.Put 0 7 ∷ []) ≡ empty_heap 4 1
put_at_nil = refl

stores_into_catalogue_are_dropped : (after (ops.Cat 0 0 ∷ ops.Set 0 0 0 ∷ ops.Put 0 7 ∷ [])).dropped ≡ 2
stores_into_catalogue_are_dropped = refl

own_object_keeps_lent_reference : prints (ops.New 0 5 ∷ ops.Cat 1 0 ∷ ops.Set 0 0 1 ∷ []) (ops.Sum 0 0 9) ≡ Some (lines.Walk 3 86)
own_object_keeps_lent_reference = refl

say_nil : prints [] (ops.Say 0) ≡ Some lines.Nil
say_nil = refl

sum_from_nil : prints [] (ops.Sum 0 0 9) ≡ Some (lines.Walk 0 0)
sum_from_nil = refl

sum_counts_each_visit : prints circle (ops.Sum 0 2 5) ≡ Some (lines.Walk 5 37)
sum_counts_each_visit = refl

sum_stops_at_its_limit : prints circle (ops.Sum 0 2 1) ≡ Some (lines.Walk 1 7)
sum_stops_at_its_limit = refl

collect_is_not_seen : after (ops.New 0 5 ∷ ops.Collect ∷ []) ≡ after (ops.New 0 5 ∷ [])
collect_is_not_seen = refl
