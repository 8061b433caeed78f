use Rattle.std.proofs.Common.{◌≡◌, ℕ, ◌<◌, ◌-◌, ◌∙◌, length, map, ap, arith}
use Rattle.std.specs.List.{range_with_len}
use Rattle.std.proofs.lemmas.Slice.Zip.{AllZip-map}
use Rattle.rayon.specs.Numbers.{nat_range}
use Rattle.rayon.proofs.ToStd.{nat_range-All}
use Rattle.heap_dump.specs.Final.{object}
use Rattle.heap_dump.specs.Reading.{heap_of_dump}
use Rattle.dump_census.specs.Entries.{entry_of}
use Rattle.dump_census.proofs.Adding.{all_read}
use Rattle.dump_census.proofs.entries.read_entries.Goals as goal

pub collect-read-requires-clause-ready : goal.collect-read-requires-clause-ready
collect-read-requires-clause-ready g c κs within =
    let ends = c.into_par_iter.ensures in
    let n = length (heap_of_dump c.args.dump.now).records in
    let inside = nat_range-All (λ k. k < n) 0 c.records.result (λ i low high. omega (arith, c.records.ensures.count)) in
    rw (c.map.ensures.base, c.map.ensures.f, ends.0, ends.1) (λ k d lt. (inside k d lt, λ y p. tt))

pub returns-in-Ok : goal.returns-in-Ok
returns-in-Ok g c =
    let ends = c.into_par_iter.ensures in
    let h = heap_of_dump c.args.dump.now in
    let read = λ (k : ℕ). entry_of (object h k) in
    let done = c.in-Ok.ensures {u = tt} in
    let chain = rw (c.map.ensures.base, c.map.ensures.f) at done.1 in
    let whole : c.records.result - 0 ≡ length h.records = omega (arith, c.records.ensures.count) in
    let places = chain.1 ∙ (λ i. nat_range (ends.0 i) (ends.1 i)) ∙ ap (range_with_len 0) whole in
    all_read h c.in-Ok.entries.items (done.2 ∙ AllZip-map read chain.0 done.0 chain.2 ∙ ap (map read) places)
