use Rattle.std.proofs.Common.{List, ℕ, map, length, ap, subst, arith}
use Rattle.std.proofs.lemmas.List.{length-map}
use Rattle.std.proofs.lemmas.List.Sorted.{length_permutation}
use Rattle.rayon.proofs.ListFacts.{IfOk-then}
use Rattle.dump_census.specs.declared.entries.Entry.{Entry}
use Rattle.dump_census.specs.Values.{AreValueCounts}
use Rattle.dump_census.proofs.Tally.{in_any_order}
use Rattle.dump_census.proofs.values.count_values.Goals as goal

abbrev value_of : Entry → ℕ
value_of e = e.value

pub count_sorted-requires-clause-few : goal.count_sorted-requires-clause-few
count_sorted-requires-clause-few g c =
    omega (arith, ap length c.as_slice.ensures.value, length_permutation (map value_of c.args.entries.now) c.in-Ok.values.items c.in-Ok.ensures.0, length-map c.args.entries.now value_of, c.requires)

pub returns-in-Ok : goal.returns-in-Ok
returns-in-Ok g c =
    IfOk-then c.count_sorted.result _ _ c.count_sorted.ensures (λ v a.
    in_any_order (map value_of c.args.entries.now) c.in-Ok.values.items v.items c.in-Ok.ensures.0 (subst (λ (xs : List ℕ). AreValueCounts xs v.items) c.as_slice.ensures.value a))
