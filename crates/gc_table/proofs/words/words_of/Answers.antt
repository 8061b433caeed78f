use Rattle.std.proofs.Common.{ℕ, List, ap, ◌∙◌, arith}
use Rattle.std.specs.Slots.{slots_items}
use Rattle.mark_core.specs.Layout.{region_sizes}
use Rattle.mark_core.specs.Bits.{reference_in}
use Rattle.mark_core.specs.Seats.{phase_of}
use Rattle.mark_core.proofs.Writing.Slices.{region-slice}
use Rattle.gc_table.proofs.Records.{got-is}
use Rattle.gc_table.proofs.words.words_of.Goals as goal

pub returns : goal.returns
returns c =
    let sizes : List ℕ = region_sizes c.args.bases.now.shape in
    let ws : List ℕ = slots_items c.args.closed.now.words in
    record {
      idents = c.region.ensures ∙ region-slice sizes 9 ws c.identity_at.result c.value_at.result (omega (arith, c.identity_at.ensures)) (omega (arith, c.value_at.ensures));
      values = c.region-2.ensures ∙ region-slice sizes 10 ws c.value_at-2.result c.field_at.result (omega (arith, c.value_at-2.ensures)) (omega (arith, c.field_at.ensures));
      fields = c.region-3.ensures ∙ region-slice sizes 11 ws c.field_at-2.result c.pool_at.result (omega (arith, c.field_at-2.ensures)) (omega (arith, c.pool_at.ensures));
      alloc = c.region-4.ensures ∙ region-slice sizes 4 ws c.alloc_at.result c.mark_at.result (omega (arith, c.alloc_at.ensures)) (omega (arith, c.mark_at.ensures));
      positions = c.region-5.ensures ∙ region-slice sizes 1 ws c.position_at.result c.root_at.result (omega (arith, c.position_at.ensures)) (omega (arith, c.root_at.ensures));
      phase = c.phase_of.ensures ∙ ap phase_of (got-is ws 1 c.word.result 0 c.word.ensures);
      named = c.reference_in.ensures ∙ ap reference_in (got-is ws 5 c.word-2.result 0 c.word-2.ensures);
      roots = c.region-6.ensures ∙ region-slice sizes 2 ws c.root_at-2.result c.owner_at.result (omega (arith, c.root_at-2.ensures)) (omega (arith, c.owner_at.ensures));
    }
