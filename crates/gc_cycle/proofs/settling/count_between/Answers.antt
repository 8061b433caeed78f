use Rattle.std.proofs.Common.{arith, refl}
use Rattle.gc_table.specs.Seats.{view_of}
use Rattle.gc_table.specs.declared.view.View.{View}
use Rattle.mark_core.specs.declared.kinds.Phase.TheVariants.{Idle}
use Rattle.std.proofs.lemmas.Nat.{ones-le}
use Rattle.gc_cycle.proofs.Ends.Sets.{allocs-more, ones-more, part-read, reads-next}
use Rattle.gc_cycle.proofs.Parts.{part-join}
use Rattle.mark_core.specs.declared.kinds.Step.TheVariants.{ReadAlloc}
use Rattle.gc_table.proofs.History.Log.{only-after}
use Rattle.gc_table.proofs.Running.{ran-found, ran-only}
use Rattle.gc_cycle.specs.Statistics.{leaves_numbers}
use Rattle.gc_cycle.proofs.settling.count_between.Goals as goal

pub loop-b-preserved : goal.loop-b-preserved
loop-b-preserved c =
    let u : View = view_of c.args.seat.now in
    let v : View = view_of c.loop-b.seat in
    let w : View = view_of c.read_alloc.new.seat in
    let i = c.loop-b.invariant in
    let b = c.loop-b.b in
    let n = c.read_alloc.result in
    let f = c.read_alloc.ensures.view in
    let one = ones-more v w b n f i.part.alone.rest i.noted in
    let few = ones-le 64 n c.read_alloc.type_inv in
    let count = i.count in
    let bound = i.bound in
    record {
      sits = c.read_alloc.ensures.seat;
      order = omega (arith, i.order);
      within = omega (arith, c.loop-b-test.true);
      part = part-join Idle u v w i.part (part-read v w b n f i.part.alone);
      numbers = ran-only leaves_numbers u v w i.part.ran (ran-found v w (ReadAlloc b) n refl f) i.numbers (only-after leaves_numbers v w (ReadAlloc b) n refl f.0);
      noted = allocs-more v w b n f i.part.alone.rest i.noted;
      count = omega (arith, one, count);
      bound = omega (arith, few, bound);
      reads = reads-next c.args.from b u v w n i.order i.part.ran f i.reads;
    }
