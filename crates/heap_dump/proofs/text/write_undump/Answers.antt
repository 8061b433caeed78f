use Rattle.std.proofs.Common.{◌≡◌, ◌++◌, ◌∙◌, ℕ, length, ap}
use Rattle.std.specs.Prelude.{flat_map}
use Rattle.play_report.proofs.Turns.{then_writes, stops_writes, same_writes, same_stops}
use Rattle.heap_dump.specs.Final.{DumpedHeap}
use Rattle.heap_dump.specs.Reading.{heap_of_dump}
use Rattle.heap_dump.specs.Text.{sizes_text, object_text, undump_text}
use Rattle.heap_dump.proofs.text.write_undump.Goals as goal

pieces : (h : DumpedHeap) (s f n : ℕ) → s ≡ h.sections → f ≡ h.fields → n ≡ length h.records → sizes_text s f n ++ flat_map object_text h.records ≡ undump_text h
pieces h s f n a b e =
    ap (λ x. sizes_text x f n ++ flat_map object_text h.records) a ∙ ap (λ x. sizes_text h.sections x n ++ flat_map object_text h.records) b
    ∙ ap (λ x. sizes_text h.sections h.fields x ++ flat_map object_text h.records) e

pub returns-in-Ok : goal.returns-in-Ok
returns-in-Ok g c =
    same_writes _ _ _ _ _ _ _ (pieces (heap_of_dump c.args.dump.now) _ _ _ c.sections.ensures c.fields.ensures c.records.ensures.count)
    (then_writes _ _ _ _ _ _ _ _ _ c.in-Ok.ensures.0 c.in-Ok.ensures.1 c.write_objects.ensures)

pub returns-in-Err : goal.returns-in-Err
returns-in-Err g c =
    same_stops _ _ _ _ _ _ (pieces (heap_of_dump c.args.dump.now) _ _ _ c.sections.ensures c.fields.ensures c.records.ensures.count) (stops_writes _ _ _ _ _ _ c.in-Err.ensures)
