-- The program: what its three mutators did, from the world's opening to its closing.
use Rattle.std.proofs.Common.{ℕ, ◌≡◌, ◌∙◌, List, [], ◌∷◌, ◌++◌, ap, arith, length, subst, sym}
use Rattle.std.specs.Prelude.{slice_get}
use Rattle.std.specs.Arc.{arc_value}
use Rattle.mark_core.specs.Steps.MutatorSteps.{seat_variable as word_in}
use Rattle.mark_core.specs.declared.kinds.Event.{Event}
use Rattle.mark_core.specs.declared.kinds.Shape.{Shape}
use Rattle.gc_table.specs.Past.{log_of}
use Rattle.gc_table.specs.Seats.{seen_of, state_of, view_of}
use Rattle.gc_table.specs.Seen.{Begins}
use Rattle.gc_table.specs.Stamps.{seen_by_stamp}
use Rattle.gc_table.specs.declared.seat.Heap.{Heap}
use Rattle.gc_table.specs.declared.seat.HeapSeat.{HeapSeat}
use Rattle.gc_table.specs.declared.view.Entry.{Entry}
use Rattle.gc_table.specs.declared.view.View.{View}
use Rattle.gc_table.specs.declared.words.Words.{Words}
use Rattle.queue_laws.specs.LentQueues.{LaysOut, QueueByLending, core_past, heap_past, word_by}
use Rattle.queue_laws.specs.Orders.{QueueByName}
use Rattle.queue_laws.specs.Queues.{Item, puts, takes}
use Rattle.seat_steps.specs.declared.stamping.Stamp.{Stamp}
use Rattle.shared_heap.specs.Calls.{LeavesFrom}
use Rattle.shared_heap.specs.Closing.{IsSharedEnd, all_seats}
use Rattle.shared_heap.specs.Lending.{IsFreshSharer}
use Rattle.shared_heap.specs.Logs.{Adds}
use Rattle.shared_heap.specs.Stamping.{GoesOnFrom}
use Rattle.shared_heap.specs.Threads.{IsWhole, ThreadsRun}
use Rattle.shared_heap.specs.declared.mutator.Place.{Place}
use Rattle.shared_heap.specs.declared.mutator.Place.TheVariants.{Outside}
use Rattle.shared_heap.specs.declared.mutator.SharedMutator.{SharedMutator}
use Rattle.shared_heap.specs.declared.world.SharedWorld.{SharedWorld}
use Rattle.example_structures.specs.Fitting.{hands}
use Rattle.example_queues.specs.Fifo.{IsFifo}
use Rattle.example_queues.specs.Lines.{AreInLine, HasAll, Stays}
use Rattle.example_queues.specs.Logs.{Comes, ComesToRoot, LaysRoot, LetsGo, Works}
use Rattle.example_queues.specs.Queueing.{IsQueued}
use Rattle.example_queues.specs.Teams.{AreNew}
use Rattle.example_queues.proofs.Ended.{TellsAll, first-log, in-order, second-log, tells-all}
use Rattle.example_queues.proofs.Lined.{begins-on}
use Rattle.example_queues.proofs.Merged.{fifo-by, none-left}
use Rattle.example_queues.proofs.Parting.{three-left}

-- the whole log of a mutator that had done nothing
whole_log : (P : List Entry → Type 0) (h : Heap) (name k : ℕ) (x y : SharedMutator) → IsFreshSharer h name k x → Adds P x y → P (view_of y.seat).log
whole_log P h name k x y f a = subst P (sym (a.log ∙ ap (λ (l : List Entry). l ++ a.more) f.log)) a.are

module _ (world : SharedWorld) (a0 b0 m0 a1 b1 m1 a2 b2 m2 mk a3 b3 m3 m4 : SharedMutator) (one two : Stamp) (w : Words) (pa ta pb tb : List ℕ) (new : AreNew world a0 b0 m0) (come_a : Comes a0 a1) (come_b : Comes b0 b1) (lay : LaysRoot m0 m1) (line : AreInLine one two a1 b1 m1 a2 b2 m2)
    (works_a : Works pa ta a2 a3) (works_b : Works pb tb b2 b3) (gone : LetsGo m2 mk) (go_one : GoesOnFrom one mk m3) (go_two : GoesOnFrom two m3 m4) where
  heap_m : arc_value m1.heap ≡ arc_value world.heap
  heap_m = lay.adds.heap ∙ new.maker.heap

  -- each mutator is the world's
  pub heap-first : arc_value a3.heap ≡ arc_value world.heap
  heap-first = works_a.world ∙ (line.first.world ∙ (come_a.adds.heap ∙ new.first.heap))

  pub heap-second : arc_value b3.heap ≡ arc_value world.heap
  heap-second = works_b.world ∙ (line.second.world ∙ (come_b.adds.heap ∙ new.second.heap))

  pub heap-maker : arc_value m4.heap ≡ arc_value world.heap
  heap-maker = go_two.world ∙ (go_one.world ∙ (gone.adds.heap ∙ (line.maker.world ∙ heap_m)))

  abbrev sh : Shape
  sh = (arc_value world.heap).shape

  -- of a mutator that stayed as it was
  tells_stays : (x y : SharedMutator) → Stays x y → TellsAll x → TellsAll y
  tells_stays x y s t v u low = subst (λ (z : View). word_by v u z.log ≡ word_in z.state v) (sym s.view) (t v u low)

  has_by : (i : ℕ) (m : SharedMutator) → HasAll (arc_value m1.heap).shape line.past m → (state_of m.seat).number ≡ i → length (log_of sh line.past i) ≡ length (view_of m.seat).log
  has_by i m h number =
      subst (λ (k : ℕ). length (log_of sh line.past k) ≡ length (view_of m.seat).log) number (subst (λ (z : Heap). length (log_of z.shape line.past (state_of m.seat).number) ≡ length (view_of m.seat).log) heap_m h)

  number_of : (x y : SharedMutator) → Stays x y → (state_of y.seat).number ≡ (state_of x.seat).number
  number_of x y s = ap (λ (v : View). v.state.number) s.view

  view_m : view_of m4.seat ≡ view_of mk.seat
  view_m = go_two.sees.view ∙ go_one.sees.view

  grows : (view_of m4.seat).log ≡ (view_of m2.seat).log ++ gone.adds.more
  grows = ap (λ (v : View). v.log) view_m ∙ gone.adds.log

  log_m : LaysOut sh.fields 0 (hands 0) (view_of m2.seat).log
  log_m =
      subst (λ (v : View). LaysOut sh.fields 0 (hands 0) v.log) (sym line.maker.view)
      (subst (λ (z : Heap). LaysOut z.shape.fields 0 (hands 0) (view_of m1.seat).log) new.maker.heap (whole_log (λ es. LaysOut (arc_value m0.heap).shape.fields 0 (hands 0) es) (arc_value world.heap) world.sizes.name 3 m0 m1 new.maker lay.adds))

  comes_by : (h : Heap) (name k : ℕ) (x y z : SharedMutator) → IsFreshSharer h name k x → Comes x y → Stays y z → ComesToRoot (view_of z.seat).log
  comes_by h name k x y z f c s = subst (λ (v : View). ComesToRoot v.log) (sym s.view) (whole_log ComesToRoot h name k x y f c.adds)

  rests : m4.place ≡ Outside
  rests = go_two.place ∙ (go_one.place ∙ gone.outside)

  module _ (end : IsSharedEnd world (a3 ∷ b3 ∷ m4 ∷ []) [] w) (es : List Event) (whole : IsWhole sh (all_seats world end.rest []) w es) where
    goes_on : Begins line.past es
    goes_on =
        let l = three-left a3 b3 m4 end.rest end.left in
        let seat : l.2 ≡ m4.seat = l.6.seat_is ∙ subst (λ (p : Place). LeavesFrom p m4.seat l.6.left.seat) rests l.6.leaves.leaves in
        let last : Begins (seen_of m4.seat) es = subst (λ (s : HeapSeat). Begins (seen_of s) es) seat (whole.run.since 3 l.2 (ap (λ (ss : List HeapSeat). slice_get (all_seats world ss []) 3) l.3)) in
        begins-on line.past (seen_by_stamp one.stamp) es line.one_goes_on
        (begins-on (seen_by_stamp one.stamp) (seen_of m3.seat) es go_one.told (begins-on (seen_of m3.seat) (seen_of m4.seat) es go_two.sees.own last))

    parted : IsWhole sh (all_seats world end.rest []) w (line.past ++ goes_on.0)
    parted = subst (IsWhole sh (all_seats world end.rest []) w) goes_on.1 whole

    pub queued-run : QueueByLending → QueueByName → IsQueued pa pb ta tb w
    queued-run lending name =
        let f = in-order world a3 b3 m4 w end line.past goes_on.0 parted a2 b2 shape_a shape_b told_a told_b comes_a comes_b has_a has_b m2 gone.adds.more grows gone.adds.are has_m works_a.fits works_b.fits pa ta pb tb works_a.numbers works_b.numbers log_m rests lending name in
        let q = f.0.queue in
        let P : List Item = puts q (core_past sh line.past) (heap_past sh line.past) goes_on.0 (length goes_on.0) in
        let T : List Item = takes q (core_past sh line.past) (heap_past sh line.past) goes_on.0 (length goes_on.0) in
        let one : IsFifo pa pb ta tb = fifo-by P T pa pb ta tb (f.0.order (length goes_on.0) (omega arith)).fifo (λ i d e. (f.1.only i d e).0) (λ i d e. (f.1.only i d e).1) f.1.first.0 f.1.second.0 f.1.first.1 f.1.second.1 in
        record {
          fifo = one;
          all = none-left pa pb ta tb one works_a.each works_b.each;
          world = world;
          first = a3;
          second = b3;
          maker = m4;
          ended = end;
          past = line.past;
          rest = goes_on.0;
          whole = parted;
          order = f.0;
          first_worked =
              record {
                before = a2;
                log = first-log world a3 b3 m4 w end line.past goes_on.0 parted a2 b2 shape_a shape_b told_a told_b comes_a comes_b has_a has_b m2 gone.adds.more grows gone.adds.are has_m works_a.fits works_b.fits pa ta pb tb works_a.numbers works_b.numbers log_m rests;
                each = works_a.each;
                moves = works_a.moves;
                put = f.1.first.0;
                taken = f.1.first.1;
              };
          second_worked =
              record {
                before = b2;
                log = second-log world a3 b3 m4 w end line.past goes_on.0 parted a2 b2 shape_a shape_b told_a told_b comes_a comes_b has_a has_b m2 gone.adds.more grows gone.adds.are has_m works_a.fits works_b.fits pa ta pb tb works_a.numbers works_b.numbers log_m rests;
                each = works_b.each;
                moves = works_b.moves;
                put = f.1.second.0;
                taken = f.1.second.1;
              };
        }
      where
        shape_a : (view_of a2.seat).shape.fields ≡ sh.fields
        shape_a = ap (λ (z : Shape). z.fields) (line.first_shape ∙ ap (λ (h : Heap). h.shape) heap_m)

        shape_b : (view_of b2.seat).shape.fields ≡ sh.fields
        shape_b = ap (λ (z : Shape). z.fields) (line.second_shape ∙ ap (λ (h : Heap). h.shape) heap_m)

        told_a : TellsAll a2
        told_a = tells_stays a1 a2 line.first (tells-all (arc_value world.heap) world.sizes.name 1 a0 a1 new.first come_a.told)

        told_b : TellsAll b2
        told_b = tells_stays b1 b2 line.second (tells-all (arc_value world.heap) world.sizes.name 2 b0 b1 new.second come_b.told)

        comes_a : ComesToRoot (view_of a2.seat).log
        comes_a = comes_by (arc_value world.heap) world.sizes.name 1 a0 a1 a2 new.first come_a line.first

        comes_b : ComesToRoot (view_of b2.seat).log
        comes_b = comes_by (arc_value world.heap) world.sizes.name 2 b0 b1 b2 new.second come_b line.second

        has_a : length (log_of sh line.past 1) ≡ length (view_of a2.seat).log
        has_a = has_by 1 a2 line.has_first (number_of a1 a2 line.first ∙ (come_a.number ∙ new.first.number))

        has_b : length (log_of sh line.past 2) ≡ length (view_of b2.seat).log
        has_b = has_by 2 b2 line.has_second (number_of b1 b2 line.second ∙ (come_b.number ∙ new.second.number))

        has_m : length (log_of sh line.past 3) ≡ length (view_of m2.seat).log
        has_m = has_by 3 m2 line.has_maker (number_of m1 m2 line.maker ∙ (lay.number ∙ new.maker.number))

  pub queued : ThreadsRun → QueueByLending → QueueByName → IsSharedEnd world (a3 ∷ b3 ∷ m4 ∷ []) [] w → IsQueued pa pb ta tb w
  queued runs lending name end = let r = runs world (a3 ∷ b3 ∷ m4 ∷ []) [] w end in queued-run end r.0 r.1 lending name
