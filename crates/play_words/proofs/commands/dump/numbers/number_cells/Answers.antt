use Rattle.std.proofs.Common.{◌≡◌, Some, ◌+◌, ◌∙◌, sym, subst, arith, ℕ, List, set, get_or}
use Rattle.std.specs.Prelude.{slice_get}
use Rattle.std.proofs.lemmas.List.{length-set}
use Rattle.std.proofs.lemmas.Option.{slice_get_within}
use Rattle.play_report.specs.declared.report.Survivor.{Survivor}
use Rattle.play_words.specs.DumpTelling.{IsSurvivor}
use Rattle.play_words.proofs.FinalHeap.Loops.{survivor-at, NumbersTo, numbers-more}
use Rattle.play_words.proofs.commands.dump.numbers.number_cells.Goals as goal

pub cell_of-cell-requires-clause-section : goal.cell_of-cell-requires-clause-section
cell_of-cell-requires-clause-section c =
    (c.requires.each c.loop-k.k _ (survivor-at c.args.report.now c.deref-survivor-items.result.now c.loop-k.k (record { section = 0; number = 0; value = 0 }) c.deref-survivor-items.ensures.value c.loop-k-test.true)).section

pub cell_of-cell-requires-clause-number : goal.cell_of-cell-requires-clause-number
cell_of-cell-requires-clause-number c =
    (c.requires.each c.loop-k.k _ (survivor-at c.args.report.now c.deref-survivor-items.result.now c.loop-k.k (record { section = 0; number = 0; value = 0 }) c.deref-survivor-items.ensures.value c.loop-k-test.true)).number

pub index_mut-requires : goal.index_mut-requires
index_mut-requires c =
    let here = survivor-at c.args.report.now c.deref-survivor-items.result.now c.loop-k.k (record { section = 0; number = 0; value = 0 }) c.deref-survivor-items.ensures.value c.loop-k-test.true in
    omega (arith, (c.requires.each c.loop-k.k _ here).cell, c.cell_of-cell.ensures, c.loop-k.invariant.count, c.loop-k.numbers.ok)

pub loop-k-preserved : goal.loop-k-preserved
loop-k-preserved c =
    let r = c.args.report.now in
    let y : Survivor = get_or c.deref-survivor-items.result.now c.loop-k.k (record { section = 0; number = 0; value = 0 }) in
    let here : IsSurvivor r c.loop-k.k y = survivor-at r c.deref-survivor-items.result.now c.loop-k.k (record { section = 0; number = 0; value = 0 }) c.deref-survivor-items.ensures.value c.loop-k-test.true in
    record {
      count = length-set c.loop-k.numbers.items c.cell_of-cell.result (c.loop-k.k + 1) ∙ c.loop-k.invariant.count;
      each =
          subst (λ (n : ℕ). NumbersTo r (c.loop-k.k + 1) (set c.loop-k.numbers.items n (c.loop-k.k + 1))) (sym c.cell_of-cell.ensures)
          (numbers-more r c.args.cells c.loop-k.k y c.loop-k.numbers.items c.requires c.loop-k.invariant.count here c.loop-k.invariant.each);
    }

pub returns : goal.returns
returns c =
    let items = c.deref-survivor-items.result.now in
    record {
      count = c.loop-k.invariant.count;
      each =
          λ k x at.
          c.loop-k.invariant.each k x
          (omega (arith, slice_get_within items k x (subst (λ (l : List Survivor). slice_get l k ≡ Some x) (sym c.deref-survivor-items.ensures.value) at), c.loop-k-test.false)) at;
    }
