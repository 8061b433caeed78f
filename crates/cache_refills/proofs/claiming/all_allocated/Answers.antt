use Rattle.std.proofs.Common.{ℕ, ◌≡◌, ◌<◌, arith, refl, ap, ◌∙◌, subst, true, false, not, below_more, eq-eqb}
use Rattle.std.proofs.lemmas.Bool.{and_from, lt-ltb, ne_eqb, or_left}
use Rattle.mark_core.specs.Bits.{all_ones}
use Rattle.mark_core.specs.Layout.{block_count}
use Rattle.mark_core.specs.Places.{alloc_at}
use Rattle.mark_core.specs.declared.kinds.Shape.{Shape}
use Rattle.mark_core.specs.declared.kinds.Phase.TheVariants.{Idle}
use Rattle.mark_core.specs.declared.kinds.Step.TheVariants.{ReadAlloc}
use Rattle.gc_table.specs.Log.{events}
use Rattle.gc_table.specs.Running.{Known}
use Rattle.gc_table.specs.Seats.{view_of}
use Rattle.gc_table.specs.declared.view.View.{View}
use Rattle.gc_table.proofs.History.Log.{events-after, only-after}
use Rattle.gc_table.proofs.Running.{ran-events, ran-only}
use Rattle.packet_pools.specs.Seeking.{some_event}
use Rattle.packet_pools.proofs.Searches.{some-left, some-right}
use Rattle.gc_cycle.specs.Sorts.{reads_all_ones, reads_free_cell}
use Rattle.gc_cycle.proofs.Parts.{part-join}
use Rattle.gc_cycle.proofs.Ends.Sets.{part-read, read-here, read-kept}
use Rattle.gc_cycle.specs.Statistics.{leaves_numbers}
use Rattle.cache_refills.proofs.claiming.all_allocated.Goals as goal

pub loop-b-preserved : goal.loop-b-preserved
loop-b-preserved c =
    let u : View = view_of c.args.seat.now in
    let v : View = view_of c.loop-b.seat in
    let w : View = view_of c.read_alloc.new.seat in
    let i = c.loop-b.invariant in
    let b = c.loop-b.b in
    let n = c.read_alloc.result in
    let f = c.read_alloc.ensures.view in
    let is : n ≡ all_ones = c.if-read_alloc.false in
    let p = part-read v w b n f i.part.alone in
    let es = ran-events u v w i.part.ran p.ran in
    record {
      sits = c.read_alloc.ensures.seat;
      numbers = ran-only leaves_numbers u v w i.part.ran p.ran i.numbers (only-after leaves_numbers v w (ReadAlloc b) n refl f.0);
      part = part-join Idle u v w i.part p;
      seen =
          below_more _ _ (λ k l. ap (some_event (reads_all_ones k)) es ∙ some-left (reads_all_ones k) (events u v) (events v w) (i.seen k l))
          (ap (some_event (reads_all_ones b)) es
          ∙ some-right (reads_all_ones b) (events u v) (events v w)
          (ap (some_event (reads_all_ones b)) (events-after v w (ReadAlloc b) n f.0) ∙ or_left _ false (and_from _ _ (eq-eqb b b refl) (eq-eqb n all_ones is))));
      noted =
          below_more _ _ (λ k l. read-kept v w b n k all_ones f i.part.alone.rest (i.noted k l))
          (subst (λ m. Known w (alloc_at b) m) is (read-here v w b n f i.part.alone.rest));
    }

pub returns-then-read_alloc-clause-part : goal.returns-then-read_alloc-clause-part
returns-then-read_alloc-clause-part c =
    let u : View = view_of c.args.seat.now in
    let v : View = view_of c.loop-b.seat in
    let w : View = view_of c.read_alloc.new.seat in
    let i = c.loop-b.invariant in
    part-join Idle u v w i.part (part-read v w c.loop-b.b c.read_alloc.result c.read_alloc.ensures.view i.part.alone)

pub returns-then-read_alloc-clause-free : goal.returns-then-read_alloc-clause-free
returns-then-read_alloc-clause-free c =
    let u : View = view_of c.args.seat.now in
    let v : View = view_of c.loop-b.seat in
    let w : View = view_of c.read_alloc.new.seat in
    let i = c.loop-b.invariant in
    let b = c.loop-b.b in
    let n = c.read_alloc.result in
    let f = c.read_alloc.ensures.view in
    let blocks : ℕ = block_count c.args.heap.now.shape in
    let far = c.loop-b-test.true in
    let all = ap (λ (s : Shape). block_count s) c.shape-b-end.ensures in
    let low : b < blocks = omega (arith, far, all) in
    let here : reads_free_cell blocks (ReadAlloc b) n ≡ true = and_from _ _ (lt-ltb b blocks low) (ap not (ne_eqb n all_ones c.if-read_alloc.true)) in
    ap (some_event (reads_free_cell blocks)) (ran-events u v w i.part.ran (part-read v w b n f i.part.alone).ran)
    ∙ some-right (reads_free_cell blocks) (events u v) (events v w) (ap (some_event (reads_free_cell blocks)) (events-after v w (ReadAlloc b) n f.0) ∙ or_left _ false here)

pub returns-clause-full : goal.returns-clause-full
returns-clause-full c = λ h.
    let far = c.loop-b-test.false in
    let all = ap (λ (s : Shape). block_count s) c.shape-b-end.ensures in
    record { seen = λ k l. c.loop-b.invariant.seen k (omega (arith, far, all, l)); noted = λ k l. (c.loop-b.invariant.noted k (omega (arith, far, all, l))).0 }

pub returns-then-read_alloc-clause-numbers : goal.returns-then-read_alloc-clause-numbers
returns-then-read_alloc-clause-numbers c =
    let u : View = view_of c.args.seat.now in
    let v : View = view_of c.loop-b.seat in
    let w : View = view_of c.read_alloc.new.seat in
    let i = c.loop-b.invariant in
    let f = c.read_alloc.ensures.view in
    ran-only leaves_numbers u v w i.part.ran (part-read v w c.loop-b.b c.read_alloc.result f i.part.alone).ran i.numbers (only-after leaves_numbers v w (ReadAlloc c.loop-b.b) c.read_alloc.result refl f.0)
