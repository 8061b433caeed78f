-- What three mutators added to their logs ends in what the words of the closed world say.
use Rattle.std.proofs.Common.{ℕ, zero, suc, ◌≡◌, ◌≢◌, ◌⊎◌, ◌<◌, ◌≤◌, ◌∙◌, List, [], ◌∷◌, ◌++◌, append-nil, ap, arith, drop, inl, inr, length, refl, subst, sym, take, ⊎_elim, true, false, Option, None, Some}
use Rattle.std.specs.Prelude.{slice_get, slice_index}
use Rattle.std.specs.Arc.{arc_value}
use Rattle.std.proofs.Math.Seq.{take-length}
use Rattle.std.proofs.lemmas.List.{get_or-replicate}
use Rattle.mark_core.specs.Numbers.{section_variables}
use Rattle.mark_core.specs.Steps.{start_core}
use Rattle.mark_core.specs.Steps.MutatorSteps.{seat_variable as word_in}
use Rattle.mark_core.specs.declared.kinds.Event.{Event}
use Rattle.mark_core.specs.declared.kinds.Shape.{Shape}
use Rattle.mark_core.specs.declared.seat.SeatState.{SeatState}
use Rattle.gc_table.specs.Lending.{leaves_variable}
use Rattle.gc_table.specs.Log.{all_steps}
use Rattle.gc_table.specs.Past.{log_of}
use Rattle.gc_table.specs.Seats.{state_of, view_of}
use Rattle.gc_table.specs.declared.seat.Heap.{Heap}
use Rattle.gc_table.specs.declared.seat.HeapSeat.{HeapSeat}
use Rattle.gc_table.specs.declared.view.Entry.{Entry}
use Rattle.gc_table.specs.declared.words.Words.{Words}
use Rattle.gc_table.proofs.History.Log.{events-none}
use Rattle.gc_table.proofs.Lending.{all_split}
use Rattle.heap_laws.specs.Moments.{IsHistory}
use Rattle.heap_laws.proofs.Moments.{each-allowed}
use Rattle.queue_laws.specs.LentQueues.{IsRecordAfter, KeepsObjects, LaysOut, LentQueue, NumbersSince, QueueByLending, UsesLent, core_past, heap_past, keeps_objects, log_since, word_by}
use Rattle.queue_laws.specs.NumberLogs.{all_told, puts_told, takes_told, telling_at}
use Rattle.queue_laws.specs.Orders.{QueueByName}
use Rattle.queue_laws.specs.Queues.{Item, Queue, by_seat, puts, takes}
use Rattle.queue_laws.specs.Reads.{readings, starting}
use Rattle.queue_laws.specs.TakenNumbers.{AreNumbers}
use Rattle.queue_laws.proofs.Parts.{log-join}
use Rattle.shared_heap.specs.Calls.{LeavesFrom}
use Rattle.shared_heap.specs.Closing.{HasLeft, IsSharedEnd, all_seats}
use Rattle.shared_heap.specs.Lending.{IsFreshSharer}
use Rattle.shared_heap.specs.Threads.{IsWhole}
use Rattle.shared_heap.specs.declared.mutator.Place.{Place}
use Rattle.shared_heap.specs.declared.mutator.Place.TheVariants.{Outside}
use Rattle.shared_heap.specs.declared.mutator.SharedMutator.{SharedMutator}
use Rattle.shared_heap.specs.declared.world.SharedWorld.{SharedWorld}
use Rattle.example_structures.specs.Carrying.{Carries}
use Rattle.example_structures.specs.FitLaws.{began}
use Rattle.example_structures.specs.Fitting.{AddsFitting, Began, FitsSince, fit_all, hands, since}
use Rattle.example_structures.proofs.ByCalls.{by-calls}
use Rattle.example_structures.proofs.Carried.{carried-before, quiet-carried, quiet-same}
use Rattle.example_structures.proofs.FitCalls.{same-fits}
use Rattle.example_structures.proofs.FitLogs.{fit-each}
use Rattle.example_queues.specs.Fifo.{numbers_of}
use Rattle.example_queues.specs.Logs.{ComesToRoot}
use Rattle.example_queues.specs.Queueing.{IsFirstInFirstOut}
use Rattle.example_queues.proofs.Merged.{numbers-are}
use Rattle.example_queues.proofs.Opened.{fifo}
use Rattle.example_queues.proofs.Parting.{lays_some, none_parts, same_parts, three-left, zero_all}

-- the log tells what the mutator's variables refer to
abbrev pub TellsAll : SharedMutator → Type 0
TellsAll m = (v u : ℕ) → v < section_variables → word_by v u (view_of m.seat).log ≡ word_in (state_of m.seat) v

pub tells-all : (h : Heap) (name k : ℕ) (x y : SharedMutator) → IsFreshSharer h name k x → AddsFitting 1 x y → TellsAll y
tells-all h name k x y f a v u low =
    let p : FitsSince 1 (began x) y = a (began x) (by-calls.starts 1 x) in
    let log : since (began x) y ≡ (view_of y.seat).log = ap (λ (l : List Entry). drop (length l) (view_of y.seat).log) f.log in
    let nil : word_in (state_of x.seat) v ≡ 0 = ap (λ (l : List ℕ). slice_index l v) f.variables ∙ get_or-replicate section_variables v 0 0 low in
    sym (ap (λ (l : List Entry). (readings v u 0 (starting (state_of x.seat) v) l).word) log ∙ ap (λ (n : ℕ). (readings v u 0 (record { word = n; loaded = None; held = false }) (view_of y.seat).log).word) nil) ∙ p.told v u 0 low

another : (v : ℕ) → (u : ℕ) × (u < section_variables) × (v ≢ u)
another zero = (1, omega arith, λ e. omega (arith, e))
another (suc v) = (0, omega arith, λ e. omega (arith, e))

-- A thread from the moment on at which its log was this.
module _ (sh : Shape) (x y : SharedMutator) (shape : (view_of x.seat).shape.fields ≡ sh.fields) (told : TellsAll x) (fitting : AddsFitting 0 x y) where
  abbrev at : SeatState → Began
  at s = record { fields = sh.fields; seat = s; log = (view_of x.seat).log }

  none_since : (s : SeatState) → since (at s) x ≡ []
  none_since s = events-none (view_of x.seat)

  begun : (s : SeatState) → IsRecordAfter (view_of x.seat).log s → FitsSince 0 (at s) x
  begun s r =
      record {
        shape = shape;
        log = sym (append-nil (view_of x.seat).log) ∙ ap (λ (l : List Entry). (view_of x.seat).log ++ l) (sym (none_since s));
        fit = ap (λ (l : List Entry). fit_all sh.fields s (hands 0) [] l) (none_since s);
        left = ap (λ (l : List Entry). all_steps (leaves_variable 0) l) (none_since s);
        told =
            λ v u f low.
            let o = another v in
            ap (λ (l : List Entry). (readings v u f (starting s v) l).word) (none_since s) ∙ (r v o.0 low o.1 o.2 ∙ told v o.0 low);
      }

  pub since-fits : (s : SeatState) → IsRecordAfter (view_of x.seat).log s → FitsSince 0 (at s) y
  since-fits s r = fitting (at s) (begun s r)

  -- the numbers that its log tells since
  pub numbers-told : (ps ts : List ℕ) → Carries 0 ps ts x y → (s : SeatState) → IsRecordAfter (view_of x.seat).log s
      → (puts_told sh.fields (hands 0) (telling_at (hands 0) s) (since (at s) y) ≡ all_told ps) × (takes_told sh.fields (hands 0) (telling_at (hands 0) s) (since (at s) y) ≡ all_told ts)
  numbers-told ps ts carries s r =
      let k = carries (at s) (begun s r) in (
        k.put ∙ ap (λ (l : List Entry). puts_told sh.fields (hands 0) (telling_at (hands 0) s) l ++ all_told ps) (none_since s),
        k.taken ∙ ap (λ (l : List Entry). takes_told sh.fields (hands 0) (telling_at (hands 0) s) l ++ all_told ts) (none_since s),
      )

  own_record : IsRecordAfter (view_of x.seat).log (state_of x.seat)
  own_record v u low hu d = sym (told v u low)

  pub grown : (more : List Entry) × ((view_of y.seat).log ≡ (view_of x.seat).log ++ more) × ((s : SeatState) → IsRecordAfter (view_of x.seat).log s → (fit_all sh.fields s (hands 0) [] more ≡ true) × (all_steps (leaves_variable 0) more ≡ true))
  grown =
      let p = since-fits (state_of x.seat) own_record in
      (since (at (state_of x.seat)) y, p.log, λ s r. let q = since-fits s r in (q.fit, q.left))

  pub own-record : IsRecordAfter (view_of x.seat).log (state_of x.seat)
  own-record = own_record

module _ (world : SharedWorld) (a b m : SharedMutator) (w : Words) (end : IsSharedEnd world (a ∷ b ∷ m ∷ []) [] w) (past rest : List Event) (whole : IsWhole (arc_value world.heap).shape (all_seats world end.rest []) w (past ++ rest)) where
  abbrev sh : Shape
  sh = (arc_value world.heap).shape

  abbrev es : List Event
  es = past ++ rest

  history : IsHistory sh es
  history = record { allowed = whole.run.allowed; sound = whole.run.sound }

  parts : (i : ℕ) → log_of sh es i ≡ log_of sh past i ++ log_since sh past rest i
  parts i = log-join i past rest (start_core sh 1) (each-allowed sh es history)

  left : (r : HeapSeat) × (s : HeapSeat) × (t : HeapSeat) × (end.rest ≡ r ∷ s ∷ t ∷ []) × HasLeft a r × HasLeft b s × HasLeft m t
  left = three-left a b m end.rest end.left

  seats_are : all_seats world end.rest [] ≡ world.zero ∷ left.0 ∷ left.1 ∷ left.2 ∷ []
  seats_are = ap (λ (ss : List HeapSeat). all_seats world ss []) left.3

  log_at : (i : ℕ) (t : HeapSeat) → slice_get (world.zero ∷ left.0 ∷ left.1 ∷ left.2 ∷ []) i ≡ Some t → (view_of t).log ≡ log_of sh es i
  log_at i t e = whole.run.parts i t (ap (λ (ss : List HeapSeat). slice_get ss i) seats_are ∙ e)

  no_others : (i : ℕ) → 4 ≤ i → (log_of sh past i ≡ []) × (log_since sh past rest i ≡ [])
  no_others i l =
      let few = ap (λ (ss : List HeapSeat). length ss) seats_are in
      none_parts (log_of sh past i) (log_since sh past rest i) (sym (parts i) ∙ whole.no_others i (omega (arith, l, few)))

  zero_log : (all_steps keeps_objects (log_of sh past 0) ≡ true) × (all_steps keeps_objects (log_since sh past rest 0) ≡ true)
  zero_log =
      all_split keeps_objects (log_of sh past 0) (log_since sh past rest 0)
      (subst (λ (l : List Entry). all_steps keeps_objects l ≡ true) (log_at 0 world.zero refl ∙ parts 0) (zero_all sh.fields (view_of world.zero).log world.first.fields world.first.one.values))

  -- the numbers that the log of seat i tells, from this log on
  abbrev TellsNumbers : ℕ → List Entry → List ℕ → List ℕ → Type 0
  TellsNumbers i log ps ts = (s : SeatState) → IsRecordAfter log s
      → (puts_told sh.fields (hands 0) (telling_at (hands 0) s) (log_since sh past rest i) ≡ all_told ps) × (takes_told sh.fields (hands 0) (telling_at (hands 0) s) (log_since sh past rest i) ≡ all_told ts)

  -- a thread, from the mutator x on
  thread : (i : ℕ) (x y : SharedMutator) (t : HeapSeat) → slice_get (world.zero ∷ left.0 ∷ left.1 ∷ left.2 ∷ []) i ≡ Some t → HasLeft y t → (view_of x.seat).shape.fields ≡ sh.fields → TellsAll x → ComesToRoot (view_of x.seat).log → length (log_of sh past i) ≡ length (view_of x.seat).log → AddsFitting 0 x y
      → (ps ts : List ℕ) → Carries 0 ps ts x y
      → (log_of sh past i ≡ (view_of x.seat).log) × (all_steps keeps_objects (log_of sh past i) ≡ true) × UsesLent sh.fields 0 (hands 0) (log_of sh past i) (log_since sh past rest i) × TellsNumbers i (log_of sh past i) ps ts
  unfolding grown
  thread i x y t is gone shape told comes long fitting ps ts carries = (
    both.0,
    subst (λ (l : List Entry). all_steps keeps_objects l ≡ true) (sym both.0) comes.keeps,
    subst (λ (l : List Entry). UsesLent sh.fields 0 (hands 0) l (log_since sh past rest i)) (sym both.0)
        (subst (λ (l : List Entry). UsesLent sh.fields 0 (hands 0) (view_of x.seat).log l) (sym both.1) uses),
    subst (λ (l : List Entry). TellsNumbers i l ps ts) (sym both.0)
        (λ s r.
        let n = numbers-told sh x gone.left shape told (λ c p. same-fits y gone.left 0 gone.leaves.same c (fitting c p)) ps ts went s r in
        (ap (puts_told sh.fields (hands 0) (telling_at (hands 0) s)) both.1 ∙ n.0, ap (takes_told sh.fields (hands 0) (telling_at (hands 0) s)) both.1 ∙ n.1)),
  )
    where
      went : Carries 0 ps ts x gone.left
      went c p = carried-before 0 c x y gone.left ps ts (carries c p) (quiet-carried y gone.left 0 c (fitting c p) 20 (quiet-same y gone.left 20 gone.leaves.same))

      g : (more : List Entry) × ((view_of gone.left.seat).log ≡ (view_of x.seat).log ++ more) × ((s : SeatState) → IsRecordAfter (view_of x.seat).log s → (fit_all sh.fields s (hands 0) [] more ≡ true) × (all_steps (leaves_variable 0) more ≡ true))
      g = grown sh x gone.left shape told (λ c p. same-fits y gone.left 0 gone.leaves.same c (fitting c p))

      both : (log_of sh past i ≡ (view_of x.seat).log) × (log_since sh past rest i ≡ g.0)
      both =
          same_parts (log_of sh past i) (log_since sh past rest i) (view_of x.seat).log g.0
          (sym (parts i) ∙ (sym (log_at i t is) ∙ (ap (λ (s : HeapSeat). (view_of s).log) gone.seat_is ∙ g.1))) long

      uses : UsesLent sh.fields 0 (hands 0) (view_of x.seat).log g.0
      uses =
          record {
            lent = comes.lent None false;
            left = (g.2 (state_of x.seat) (own-record sh x gone.left shape told (λ c p. same-fits y gone.left 0 gone.leaves.same c (fitting c p)))).1;
            fit = λ s r before after e is. fit-each sh.fields s (hands 0) [] before after e (subst (λ (l : List Entry). fit_all sh.fields s (hands 0) [] l ≡ true) is (g.2 s r).0);
          }

  module _ (x y : SharedMutator) (shape_x : (view_of x.seat).shape.fields ≡ sh.fields) (shape_y : (view_of y.seat).shape.fields ≡ sh.fields) (told_x : TellsAll x) (told_y : TellsAll y) (comes_x : ComesToRoot (view_of x.seat).log) (comes_y : ComesToRoot (view_of y.seat).log)
      (has_x : length (log_of sh past 1) ≡ length (view_of x.seat).log) (has_y : length (log_of sh past 2) ≡ length (view_of y.seat).log) (z : SharedMutator) (more : List Entry) (grows : (view_of m.seat).log ≡ (view_of z.seat).log ++ more) (kept : all_steps keeps_objects more ≡ true) (has_m : length (log_of sh past 3) ≡ length (view_of z.seat).log) (fits_x : AddsFitting 0 x a) (fits_y : AddsFitting 0 y b) (pa ta pb tb : List ℕ) (carries_x : Carries 0 pa ta x a) (carries_y : Carries 0 pb tb y b) (lays : LaysOut sh.fields 0 (hands 0) (view_of z.seat).log)
      (rests : m.place ≡ Outside) where
    first : (log_of sh past 1 ≡ (view_of x.seat).log) × (all_steps keeps_objects (log_of sh past 1) ≡ true) × UsesLent sh.fields 0 (hands 0) (log_of sh past 1) (log_since sh past rest 1) × TellsNumbers 1 (log_of sh past 1) pa ta
    first = thread 1 x a left.0 refl left.4 shape_x told_x comes_x has_x fits_x pa ta carries_x

    second : (log_of sh past 2 ≡ (view_of y.seat).log) × (all_steps keeps_objects (log_of sh past 2) ≡ true) × UsesLent sh.fields 0 (hands 0) (log_of sh past 2) (log_since sh past rest 2) × TellsNumbers 2 (log_of sh past 2) pb tb
    second = thread 2 y b left.1 refl left.5 shape_y told_y comes_y has_y fits_y pb tb carries_y

    -- the maker changed no object since
    third : (log_of sh past 3 ≡ (view_of z.seat).log) × (log_since sh past rest 3 ≡ more)
    third =
        same_parts (log_of sh past 3) (log_since sh past rest 3) (view_of z.seat).log more
        (sym (parts 3)
        ∙ (sym (log_at 3 left.2 refl)
        ∙ (ap (λ (s : HeapSeat). (view_of s).log) (left.6.seat_is ∙ subst (λ (p : Place). LeavesFrom p m.seat left.6.left.seat) rests left.6.leaves.leaves) ∙ grows)))
        has_m

    others : (i : ℕ) → i ≢ 3 → all_steps keeps_objects (log_of sh past i) ≡ true
    others zero d = zero_log.0
    others (suc zero) d = first.1
    others (suc (suc zero)) d = second.1
    others (suc (suc (suc zero))) d = absurd (d refl)
    others (suc (suc (suc (suc i)))) d = ap (all_steps keeps_objects) (no_others (suc (suc (suc (suc i)))) (omega arith)).0

    abbrev Since : ℕ → Type 0
    Since i = (log_since sh past rest i ≡ []) ⊎ (KeepsObjects i (log_of sh past i) (log_since sh past rest i) ⊎ UsesLent sh.fields 0 (hands 0) (log_of sh past i) (log_since sh past rest i))

    each_since : (i : ℕ) → Since i
    each_since zero = inr (inl (inl refl, zero_log.1))
    each_since (suc zero) = inr (inr first.2)
    each_since (suc (suc zero)) = inr (inr second.2)
    each_since (suc (suc (suc zero))) = inr (inl (inr (subst (λ (l : List Entry). 0 < length l) (sym third.0) (lays_some (view_of z.seat).log lays)), subst (λ (l : List Entry). all_steps keeps_objects l ≡ true) (sym third.1) kept))
    each_since (suc (suc (suc (suc i)))) = inl (no_others (suc (suc (suc (suc i)))) (omega arith)).1

    lent_queue : LentQueue sh past rest 0 (hands 0) whole.root
    lent_queue =
        record {
          history = history;
          hands = by-calls.are_hands 0 (omega arith);
          below = omega arith;
          lends = λ k. ⊎_elim (λ z. inl z.0) (λ z. inr z) (whole.kept k);
          maker = 3;
          lays = subst (LaysOut sh.fields 0 (hands 0)) (sym third.0) lays;
          others = others;
          since = each_since;
        }

    -- the seats that aren't the threads' change no object
    idle_log : (i : ℕ) → i ≢ 1 → i ≢ 2 → all_steps keeps_objects (log_since sh past rest i) ≡ true
    idle_log zero d e = zero_log.1
    idle_log (suc zero) d e = absurd (d refl)
    idle_log (suc (suc zero)) d e = absurd (e refl)
    idle_log (suc (suc (suc zero))) d e = subst (λ (l : List Entry). all_steps keeps_objects l ≡ true) (sym third.1) kept
    idle_log (suc (suc (suc (suc i)))) d e = ap (all_steps keeps_objects) (no_others (suc (suc (suc (suc i)))) (omega arith)).1

    -- what a thread put in and took out, by the law
    numbered : (q : Queue) (i : ℕ) (log : List Entry) (s : SeatState) (ps ts : List ℕ) → log_of sh past i ≡ log → IsRecordAfter log s → TellsNumbers i (log_of sh past i) ps ts → NumbersSince sh past rest (hands 0) q i (length rest) s
        → (numbers_of (by_seat i (puts q (core_past sh past) (heap_past sh past) rest (length rest))) ≡ ps) × (numbers_of (by_seat i (takes q (core_past sh past) (heap_past sh past) rest (length rest))) ≡ ts)
    numbered q i log s ps ts is r tells n =
        let told = tells s (subst (λ (l : List Entry). IsRecordAfter l s) (sym is) r) in
        let all : log_since sh past (take (length rest) rest) i ≡ log_since sh past rest i = ap (λ (fs : List Event). log_since sh past fs i) (take-length rest) in
        let P : List Item = by_seat i (puts q (core_past sh past) (heap_past sh past) rest (length rest)) in
        let T : List Item = by_seat i (takes q (core_past sh past) (heap_past sh past) rest (length rest)) in (
          numbers-are ps P (subst (λ (ns : List (Option ℕ)). AreNumbers ns P) (ap (puts_told sh.fields (hands 0) (telling_at (hands 0) s)) all ∙ told.0) n.put),
          numbers-are ts T (subst (λ (ns : List (Option ℕ)). AreNumbers ns T) (ap (takes_told sh.fields (hands 0) (telling_at (hands 0) s)) all ∙ told.1) n.taken),
        )

    -- the numbers of both threads in the queue's order
    pub record HasNumbers (q : Queue) : Type 0 where
      pub first : (numbers_of (by_seat 1 (puts q (core_past sh past) (heap_past sh past) rest (length rest))) ≡ pa) × (numbers_of (by_seat 1 (takes q (core_past sh past) (heap_past sh past) rest (length rest))) ≡ ta)
      pub second : (numbers_of (by_seat 2 (puts q (core_past sh past) (heap_past sh past) rest (length rest))) ≡ pb) × (numbers_of (by_seat 2 (takes q (core_past sh past) (heap_past sh past) rest (length rest))) ≡ tb)
      pub only : (i : ℕ) → i ≢ 1 → i ≢ 2 → (by_seat i (puts q (core_past sh past) (heap_past sh past) rest (length rest)) ≡ []) × (by_seat i (takes q (core_past sh past) (heap_past sh past) rest (length rest)) ≡ [])

    pub in-order : QueueByLending → QueueByName → (order : IsFirstInFirstOut sh past rest whole.root) × HasNumbers order.queue
    in-order lending name =
        let f = fifo lending name sh past rest whole.root lent_queue in
        let end : length rest ≤ length rest = omega arith in
        let own_x = own_record sh x a shape_x told_x fits_x in
        let own_y = own_record sh y b shape_y told_y fits_y in (
          f.0,
          record {
            first = numbered f.0.queue 1 (view_of x.seat).log (state_of x.seat) pa ta first.0 own_x first.3 (f.1.told (length rest) end 1 first.2 (state_of x.seat) (subst (λ (l : List Entry). IsRecordAfter l (state_of x.seat)) (sym first.0) own_x));
            second = numbered f.0.queue 2 (view_of y.seat).log (state_of y.seat) pb tb second.0 own_y second.3 (f.1.told (length rest) end 2 second.2 (state_of y.seat) (subst (λ (l : List Entry). IsRecordAfter l (state_of y.seat)) (sym second.0) own_y));
            only = λ i d e. f.1.idle (length rest) end i (idle_log i d e);
          },
        )

    pub first-log : (view_of x.seat).log ≡ log_of sh past 1
    first-log = sym first.0

    pub second-log : (view_of y.seat).log ≡ log_of sh past 2
    second-log = sym second.0
