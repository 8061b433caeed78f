use Rattle.std.proofs.Common.{◌+◌, ℕ, List, get_or, sym, subst}
use Rattle.play_report.specs.declared.report.Survivor.{Survivor}
use Rattle.heap_dump.specs.declared.final_heap.FinalRecord.{FinalRecord}
use Rattle.play_words.specs.DumpTelling.{IsSurvivor, AreRecords}
use Rattle.play_words.proofs.FinalHeap.Loops.{survivor-at, records-more}
use Rattle.play_words.proofs.commands.dump.telling.tell_survivors.Goals as goal

pub tell_survivor-requires-clause-place : goal.tell_survivor-requires-clause-place
tell_survivor-requires-clause-place c =
    c.requires.placed.each c.loop-survivor.survivor-index _
    (survivor-at c.args.report.now c.deref-survivor-items.result.now c.loop-survivor.survivor-index (record { section = 0; number = 0; value = 0 }) c.deref-survivor-items.ensures.value c.loop-survivor-test.true)

pub tell_survivor-requires-clause-fields : goal.tell_survivor-requires-clause-fields
tell_survivor-requires-clause-fields c =
    c.requires.fields c.loop-survivor.survivor-index _
    (survivor-at c.args.report.now c.deref-survivor-items.result.now c.loop-survivor.survivor-index (record { section = 0; number = 0; value = 0 }) c.deref-survivor-items.ensures.value c.loop-survivor-test.true)

pub loop-survivor-preserved : goal.loop-survivor-preserved
loop-survivor-preserved c =
    let r = c.args.report.now in
    let k : ℕ = c.loop-survivor.survivor-index in
    let y : Survivor = get_or c.deref-survivor-items.result.now k (record { section = 0; number = 0; value = 0 }) in
    let here : IsSurvivor r k y = survivor-at r c.deref-survivor-items.result.now k (record { section = 0; number = 0; value = 0 }) c.deref-survivor-items.ensures.value c.loop-survivor-test.true in
    subst (λ (l : List FinalRecord). AreRecords c.args.numbers.now r c.args.words.now c.args.fields (k + 1) l) (sym {A = List FinalRecord} c.in_ok-push.ensures.items)
    (records-more c.args.numbers.now r c.args.words.now c.args.fields k c.loop-survivor.told.items y c.tell_survivor.result c.loop-survivor.invariant here c.tell_survivor.ensures)
