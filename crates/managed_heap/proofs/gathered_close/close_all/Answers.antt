use Rattle.std.proofs.Common.{[], ◌≡◌, ◌∙◌, ◌++◌, ◌∷◌, All, List, ap, subst, sym}
use Rattle.std.proofs.lemmas.List.Elements.{All-cons, All-nil}
use Rattle.std.proofs.lemmas.Result.{IfErr-weaker, IfOk-weaker}
use Rattle.std.specs.Arc.{arc_value}
use Rattle.gc_table.specs.Ends.{HasRoom, IsEnd}
use Rattle.gc_table.specs.declared.seat.Heap.{Heap}
use Rattle.gc_table.specs.declared.seat.HeapSeat.{HeapSeat}
use Rattle.seat_turns.specs.Standing.{RestsOutside}
use Rattle.managed_heap.specs.declared.gathered.Gathered.{Gathered}
use Rattle.managed_heap.proofs.SeatsGathered.{all-ended, all-gathered, all-numbered}
use Rattle.managed_heap.proofs.gathered_close.close_all.Goals as goal

pub invariant_of-gathered-clause-numbered : goal.invariant_of-gathered-clause-numbered
invariant_of-gathered-clause-numbered g c =
    let into = c.into_heap-heap.ensures in
    let before : List HeapSeat = c.push_reserved.new.self.items in
    let root = g.W.Opened.zero_of c.args.world in
    let alone : before ≡ root ∷ [] = c.push_reserved.ensures.items ∙ (ap (λ (l : List HeapSeat). l ++ c.into_heap-heap.result.1 ∷ []) c.requires.room.0 ∙ ap (λ (s : HeapSeat). s ∷ []) into.zero) in
    all-numbered g.M.Lent.seat_in g.M.Lent.leaves (g.W.Opened.heap_of c.args.world) (g.W.Opened.tracers_of c.args.world) root c.args.mutators.items c.args.tracers.items before c.gather-workers.result.items c.gather-seats.result.items into.first c.requires.there alone c.gather-workers.ensures.gathers c.gather-seats.ensures.gathers

pub invariant_of-gathered-clause-rest : goal.invariant_of-gathered-clause-rest
invariant_of-gathered-clause-rest g c =
    let into = c.into_heap-heap.ensures in
    let before : List HeapSeat = c.push_reserved.new.self.items in
    let root = g.W.Opened.zero_of c.args.world in
    let h : Heap = g.W.Opened.heap_of c.args.world in
    let alone : before ≡ root ∷ [] = c.push_reserved.ensures.items ∙ (ap (λ (l : List HeapSeat). l ++ c.into_heap-heap.result.1 ∷ []) c.requires.room.0 ∙ ap (λ (s : HeapSeat). s ∷ []) into.zero) in
    let first : All (RestsOutside h) before = subst (All (RestsOutside h)) (sym alone) (All-cons (RestsOutside h) root [] into.rests (All-nil (RestsOutside h))) in
    subst (λ (x : Heap). All (RestsOutside x) c.gather-seats.result.items) (sym into.heap) (c.gather-seats.ensures.rest h c.requires.same_tracers (c.gather-workers.ensures.rest h c.requires.same first))

pub invariant_of-gathered-clause-room : goal.invariant_of-gathered-clause-room
invariant_of-gathered-clause-room g c = subst (λ (h : Heap). HasRoom h.shape c.args.words) (sym c.into_heap-heap.ensures.heap) c.requires.words

pub returns : goal.returns
returns g c =
    let into = c.into_heap-heap.ensures in
    let before : List HeapSeat = c.push_reserved.new.self.items in
    let seats : List HeapSeat = c.gather-seats.result.items in
    let root = g.W.Opened.zero_of c.args.world in
    let alone : before ≡ root ∷ [] = c.push_reserved.ensures.items ∙ (ap (λ (l : List HeapSeat). l ++ c.into_heap-heap.result.1 ∷ []) c.requires.room.0 ∙ ap (λ (s : HeapSeat). s ∷ []) into.zero) in
    record {
      closed =
          IfOk-weaker c.close.result
          _ _
          (λ w end.
          all-ended g.M.Lent.seat_in g.M.Lent.leaves (g.W.Opened.heap_of c.args.world) (g.W.Opened.tracers_of c.args.world) root c.args.mutators.items c.args.tracers.items before c.gather-workers.result.items seats into.first c.requires.there alone c.gather-workers.ensures.gathers c.gather-seats.ensures.gathers w
          (subst (λ (h : Heap). IsEnd h.shape seats w) into.heap end))
          c.close.ensures.closed;
      held =
          IfErr-weaker c.close.result
          _ _
          (λ (kept : Gathered) same.
          all-gathered g.M.Lent.seat_in g.M.Lent.leaves (g.W.Opened.heap_of c.args.world) (g.W.Opened.tracers_of c.args.world) root c.args.mutators.items c.args.tracers.items before c.gather-workers.result.items seats into.first c.requires.there alone c.gather-workers.ensures.gathers c.gather-seats.ensures.gathers kept
          (ap (λ a. arc_value a) same.0 ∙ into.heap)
          (ap (λ v. v.items) same.1))
          c.close.ensures.held;
    }
