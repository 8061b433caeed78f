-- The numbers of objects at the end of the plain runs.
use Rattle.std.proofs.Common.{◌≡◌, ℕ, ◌<◌, ◌≤◌, ap, arith, length}
use Rattle.std.specs.Prelude.{Some, slice_get}
use Rattle.std.proofs.lemmas.List.Sums.{get_or-le-sum_by, count_by-le-length}
use Rattle.std.proofs.lemmas.Option.{slice_get_within}
use Rattle.plain_heap.specs.declared.object.Object.{Object}
use Rattle.plain_heap.specs.PlainHeap.{Heap}
use Rattle.plain_heap.specs.Sections.{Execution, Sections, section_numbers, seasons, end_of, executed_of, executed_total, makes_object}
use Rattle.plain_heap.specs.PlainRun.{last_heap}
use Rattle.plain_heap.proofs.Turns.{section-at, at-last}
use Rattle.plain_heap.proofs.Steps.{objects-most}

-- the number of an object is small, as the commands of the script are few
pub number-few : (s : Sections) (w n : ℕ) (o : Object) → executed_total s ≤ 2000000 → w < length (section_numbers s) → slice_get (last_heap s w).objects n ≡ Some o → n < 2000000
number-few s w n o short inside at =
    let made = objects-most s w (end_of s w (seasons s)) in
    let last = ap (λ (h : Heap). length h.objects) (at-last s w (seasons s) (omega arith)) in
    let all = get_or-le-sum_by (λ v. length (executed_of s v)) (section_numbers s) w 0 inside in
    omega (
      arith,
      slice_get_within (last_heap s w).objects n o at,
      last,
      made,
      count_by-le-length (λ (e : Execution). makes_object e.op) (executed_of s w),
      all,
      ap (λ (v : ℕ). length (executed_of s v)) (section-at s w 0 inside),
      short,
    )
