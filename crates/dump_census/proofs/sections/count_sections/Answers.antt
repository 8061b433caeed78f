use Rattle.std.proofs.Common.{◌≡◌, ◌∙◌, List, [], ◌∷◌, ◌++◌, ap, sym, arith}
use Rattle.std.proofs.lemmas.List.FromFn.{map-range_with_len_more}
use Rattle.dump_census.specs.declared.counts.SectionCount.{SectionCount}
use Rattle.dump_census.specs.Entries.{entry_count}
use Rattle.dump_census.proofs.sections.count_sections.Goals as goal

pub loop-w-preserved : goal.loop-w-preserved
loop-w-preserved g c =
    let count : record { count = c.count_records.result; total = c.add_values.result } ≡ entry_count c.args.entries.now c.loop-w.w =
    λ i. record { count = c.count_records.ensures i; total = c.add_values.ensures i } in
    c.in-Ok.ensures.items ∙ ap (λ (x : SectionCount). c.loop-w.counts.items ++ x ∷ []) count ∙ ap (λ (xs : List SectionCount). xs ++ entry_count c.args.entries.now c.loop-w.w ∷ []) c.loop-w.invariant
    ∙ sym (map-range_with_len_more (entry_count c.args.entries.now) 0 c.loop-w.w c.loop-w.w (omega arith))
