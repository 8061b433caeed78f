use Rattle.std.proofs.Common.{◌∙◌, ◌<◌, ◌^◌, List, ℕ, All, map, ap, sym, subst}
use Rattle.std.specs.Prelude.{count_by}
use Rattle.std.specs.List.{range_with_len}
use Rattle.heap_dump.specs.Reading.{heap_of_dump}
use Rattle.dump_census.specs.declared.entries.Entry.{Entry}
use Rattle.dump_census.specs.Entries.{entry_of, entry_count}
use Rattle.dump_census.specs.Rounds.{is_unknown}
use Rattle.dump_census.specs.Values.{AreValueCounts}
use Rattle.dump_census.proofs.Adding.{values_below, entries_count, entry_values}
use Rattle.dump_census.proofs.counting.census.Goals as goal

pub count_sections-requires-clause-small : goal.count_sections-requires-clause-small
count_sections-requires-clause-small g c κs within =
    subst (λ (es : List Entry). All (λ (e : Entry). e.value < 2 ^ 32) es) (sym (c.as_slice.ensures.value ∙ c.in-Ok.ensures)) (values_below (heap_of_dump c.args.dump.now) c.records-records.ensures.legal)

pub returns-in-Ok-count_values : goal.returns-in-Ok-count_values
returns-in-Ok-count_values g c =
    let h = heap_of_dump c.args.dump.now in
    let entries = c.as_slice.ensures.value ∙ c.in-Ok.ensures in
    let entries_again = c.as_slice-2.ensures.value ∙ c.in-Ok.ensures in
    record {
      of = c.in-Ok-find_levels.levels.found.items;
      leveled = c.in-Ok-find_levels.ensures.0;
      levels = c.in-Ok-find_levels.ensures.1;
      unreached = c.count_unreached.ensures ∙ ap (count_by is_unknown) c.as_slice-in-Ok-count_values.ensures.value;
      sections = c.in-Ok-count_sections.ensures ∙ ap (λ (es : List Entry). map (entry_count es) (range_with_len 0 c.sections.result)) entries
          ∙ ap (λ n. map (entry_count (map entry_of h.records)) (range_with_len 0 n)) c.sections.ensures ∙ (λ i. map (λ w. entries_count h.records w i) (range_with_len 0 h.sections));
      values = subst (λ (xs : List ℕ). AreValueCounts xs c.in-Ok-count_values.values.items)
          (ap (λ (es : List Entry). map (λ (e : Entry). e.value) es) entries_again ∙ entry_values h.records) c.in-Ok-count_values.ensures;
    }
