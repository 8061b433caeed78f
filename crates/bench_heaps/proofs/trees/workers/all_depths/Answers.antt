use Rattle.std.proofs.Common.{ℕ, ◌≡◌, ◌+◌, ◌*◌, ◌<◌, ◌≤◌, ⊎_elim, List, length, refl, sym, ap, ◌∙◌, subst, arith}
use Rattle.std.specs.Prelude.{slice_index, slice_set}
use Rattle.std.proofs.lemmas.Bool.{cases_lt}
use Rattle.std.proofs.lemmas.List.{get_or-set_same, get_or-set_other, length-set}
use Rattle.managed_heap.specs.Calls.{heap_of}
use Rattle.bench_heaps.specs.Counts.{AreChecked, depth_at, share, trees_at}
use Rattle.bench_heaps.specs.Trees.{full}
use Rattle.bench_heaps.specs.declared.trees.words.Asked.{Asked}
use Rattle.bench_heaps.proofs.Building.{grows-join, grows-none}
use Rattle.bench_heaps.proofs.trees.workers.all_depths.Goals as goal

-- one depth more was counted
one-more : (a : Asked) (at i n : ℕ) (xs : List ℕ) → i < length xs → n ≡ share (trees_at a.depth i) a.workers at * full (depth_at i) → AreChecked a at i xs → AreChecked a at (i + 1) (slice_set xs i n)
one-more a at i n xs low e done k below fits =
    ⊎_elim (λ (lower : k < i). get_or-set_other xs i k n 0 (λ q. let q' : k ≡ i = q in omega (arith, q', lower)) ∙ done k lower fits)
    (λ (here : i ≤ k).
    let same : k ≡ i = omega (arith, here, below) in
    subst (λ j. slice_index (slice_set xs i n) j ≡ share (trees_at a.depth j) a.workers at * full (depth_at j)) (sym same) (get_or-set_same xs i n 0 low ∙ e))
    (cases_lt k i)

pub loop-i-init : goal.loop-i-init
loop-i-init g c = record { plays = c.requires.plays; long = refl; checked = λ k below fits. absurd (omega (arith, below)); grows = grows-none 1 (heap_of c.args.m.now) }

pub loop-i-preserved : goal.loop-i-preserved
loop-i-preserved g c =
    let i = c.loop-i.invariant in
    let a = c.args.asked.now in
    let trees = c.share-trees.ensures.exact ∙ ap (λ n. share n a.workers c.args.at) c.trees_at.ensures.exact in
    let counted = c.in_ok-nodes.ensures.counts ∙ ap (λ n. n * full c.depth_at-depth.result) trees ∙ ap (λ d. share (trees_at a.depth c.loop-i.i) a.workers c.args.at * full d) c.depth_at-depth.ensures in
    record {
      plays = c.in_ok-nodes.ensures.ok;
      long = length-set c.loop-i.checks c.loop-i.i c.in_ok-nodes.nodes ∙ i.long;
      checked = one-more a c.args.at c.loop-i.i c.in_ok-nodes.nodes c.loop-i.checks (omega (arith, i.long, c.loop-i-test.true)) counted i.checked;
      grows = grows-join 1 (heap_of c.args.m.now) (heap_of c.loop-i.m) (heap_of c.many.new.m) i.grows c.in_ok-nodes.ensures.grows;
    }
