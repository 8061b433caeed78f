use Rattle.std.proofs.Common.{◌≡◌, ◌∙◌, List, ℕ, map, length, ap, sym, subst}
use Rattle.std.proofs.lemmas.List.{with_items_is}
use Rattle.std.proofs.lemmas.List.Sorted.{IsNonDecreasingBy-from_sort}
use Rattle.std.specs.List.Sorted.{IsPermutation}
use Rattle.rayon.proofs.ToStd.{slice-map}
use Rattle.dump_census.specs.declared.entries.Entry.{Entry}
use Rattle.dump_census.specs.Values.{IsSortedOf}
use Rattle.dump_census.proofs.values.sorted_values.Goals as goal

abbrev value_of : Entry → ℕ
value_of e = e.value

pub returns-in-Ok : goal.returns-in-Ok
returns-in-Ok g c =
    let slice = ap (λ it. it.slice.now) c.map.ensures.base ∙ c.par_iter.ensures in
    let done = c.in-Ok.ensures {u = tt} in
    let read : c.deref_mut.result.now ≡ map value_of c.args.entries.now =
    c.deref_mut.ensures.value ∙ done.2 ∙ slice-map done.1.0 c.args.entries.now (done.1.1 ∙ slice) value_of done.0 done.1.2 in
    let sorted = c.par_sort_unstable.new.s in
    let up = IsNonDecreasingBy-from_sort (λ x. x) sorted c.par_sort_unstable.ensures.sorted in
    let same = with_items_is c.in-Ok.values sorted (c.par_sort_unstable.ensures.len ∙ ap length c.deref_mut.ensures.value ∙ sym c.in-Ok.values.ok.0) in
    let both : IsSortedOf (map value_of c.args.entries.now) sorted = (subst (λ (xs : List ℕ). IsPermutation xs sorted) read c.par_sort_unstable.ensures.permutation, λ i j le lt. up i j 0 le lt) in
    subst (IsSortedOf (map value_of c.args.entries.now)) (sym same) both
