-- A mutator comes to a command.
use Rattle.std.proofs.Common.{ℕ, Bool, ◌≡◌, ◌-◌, ◌*◌, ◌%◌, ◌<◌, ◌≤◌, ◌==◌, ◌++◌, List, ◌∷◌, [], refl, sym, ap, ◌∙◌, subst, true, false, Option, Some, None, if◌then◌else◌, arith, ◌⊎◌, ⊎_elim, inl, inr, eq-eqb, ne_eqb}
use Rattle.std.specs.Prelude.{IsTrue, zero, suc}
use Rattle.std.proofs.lemmas.Bool.{false≢true}
use Rattle.mark_core.specs.Seats.{has_turn}
use Rattle.plain_heap.specs.PlainRun.{plain}
use Rattle.plain_heap.specs.Placement.{IsNew}
use Rattle.plain_heap.specs.Sections.{Execution, Parts, makes_object}
use Rattle.plain_heap.specs.declared.operation.Op.{Op}
use Rattle.plain_heap.specs.declared.operation.Op.TheVariants as ops
use Rattle.gc_table.specs.Log.{events}
use Rattle.gc_table.specs.Running.{Ran}
use Rattle.gc_table.specs.Seats.{Sits, view_of}
use Rattle.gc_table.specs.declared.seat.Heap.{Heap}
use Rattle.gc_table.specs.declared.seat.HeapSeat.{HeapSeat}
use Rattle.gc_table.specs.declared.view.Entry.{Entry}
use Rattle.gc_table.specs.declared.view.View.{View}
use Rattle.gc_table.proofs.Running.{ran-grows}
use Rattle.gc_table.proofs.History.Log.{events-of}
use Rattle.alloc_cache.specs.declared.cache.Cache.{Cache}
use Rattle.play_end.specs.Alike.{AreAlike}
use Rattle.play_end.specs.Done.{turn_word}
use Rattle.play_end.specs.Parts.{SaysSame}
use Rattle.warehouse.specs.Commands.{ComesOrStops, IsAtCommand, IsNextOf, StopsBefore}
use Rattle.cache_refills.specs.PartEvents.{polled_last}
use Rattle.warehouse.specs.Playing.{Acts, FindsFull, GetsReady, HasFree, HasRoomForCommands, ObjectsHaveCells, MayPass, Stays, DoesNothing, collects_by, player_of}
use Rattle.warehouse.specs.declared.mutator.Mutator.{Mutator}
use Rattle.warehouse.proofs.Leavings.{acts-join, within-still}
use Rattle.warehouse.proofs.Commanding.{stays-of}
use Rattle.warehouse.proofs.FullStops.{counted-kept}
use Rattle.warehouse.proofs.Readying.{polled-right}
use Rattle.mark_core.specs.declared.kinds.Shape.{Shape}
use Rattle.warehouse.proofs.InTheStop.{stays-join}

-- the season word of a section's turn
pub own-turn : (w z : ℕ) (o : Option ℕ) → 0 < z → o ≡ Some w → has_turn o (Some (turn_word w z)) ≡ true
own-turn zero z o pos is = ap (λ x. has_turn x (Some (2 * z - 2))) is ∙ eq-eqb ((2 * z - 2) % 2) 0 (omega (arith, pos))
own-turn (suc w) z o pos is =
    ap (λ x. has_turn x (Some (2 * z - 1))) is ∙ ap (λ b. (2 * z - 1) % 2 == (if b then 0 else 1)) (ne_eqb (suc w) 0 (λ e. omega (arith, e))) ∙ eq-eqb ((2 * z - 1) % 2) 1 (omega (arith, pos))

-- the mutator with its seat moved on
abbrev pub moved : Mutator → HeapSeat → Mutator
moved m s = record m { seat = s }

pub says-moved : (m : Mutator) (s : HeapSeat) → SaysSame (player_of m) (player_of (moved m s))
says-moved m s = record { count = refl; said = refl; dropped = refl; cells = refl }

pub room-moved : (m : Mutator) (s : HeapSeat) → Stays (view_of m.seat) (view_of s) → (left : List Execution) → HasRoomForCommands left m → HasRoomForCommands left (moved m s)
room-moved m s stays left r = record { said = r.said; places = r.places; count = r.count; made = omega (arith, r.made, stays.made, ap (λ (sh : Shape). sh.objects) stays.shape); dropped = r.dropped }

pub next-moved : (p : Parts) (turn : ℕ) (e : Execution) (m : Mutator) (s : HeapSeat) → Ran (view_of m.seat) (view_of s) → Stays (view_of m.seat) (view_of s) → IsNextOf p turn e m → IsNextOf p turn e (moved m s)
next-moved p turn e m s ran stays n =
    record {
      sections = n.sections;
      z = n.z;
      rest = n.rest;
      part = n.part;
      left = within-still n.sections p n.z (e ∷ n.rest) (player_of m) (player_of (moved m s)) (stays-of (view_of m.seat) (view_of s) ran) stays.still (says-moved m s) n.left;
      range = n.range;
      lends_is = n.lends_is;
      later = n.later;
      room = room-moved m s stays (e ∷ n.later) n.room;
    }

-- the log of its seat ends with what the call added
polled_log : (v w : View) → Ran v w → polled_last (events v w) ≡ true → polled_last w.log ≡ true
polled_log v w ran h =
    let g = ran-grows v w ran in
    ap polled_last (g.1 ∙ ap (λ (es : List Entry). v.log ++ es) (sym (events-of v w g.0 g.1))) ∙ polled-right v.log (events v w) h

pass-moved : (p : Parts) (turn : ℕ) (e : Execution) (kept : Option Cache) (m : Mutator) (s : HeapSeat) → Ran (view_of m.seat) (view_of s) → GetsReady turn kept (view_of m.seat) (view_of s) → IsNextOf p turn e (moved m s) → MayPass s p m.count
pass-moved p turn e kept m s ran k n =
    record {
      active = k.mutates.active;
      section = n.left.of.own;
      sections = n.sections;
      of = n.left.of;
      heap = subst (λ c. AreAlike (view_of s).own.meaning.heap (plain n.sections p.number c)) (sym n.left.after.count) n.left.after.done.heap;
      polled = polled_log (view_of m.seat) (view_of s) ran k.polled;
    }

module _ (h : Heap) (p : Parts) (turn : ℕ) (e : Execution) (m : Mutator) (s : HeapSeat) (sits : Sits h s) (counted : ObjectsHaveCells (view_of m.seat)) (next : IsNextOf p turn e m) where
  -- it is there
  pub comes-going : (kept : Option Cache) → GetsReady turn kept (view_of m.seat) (view_of s) → (IsTrue (makes_object e.op) → HasFree kept) → IsAtCommand h p turn kept e m (moved m s)
  comes-going kept k free =
      let ran : Ran (view_of m.seat) (view_of s) = (k.acts 0).ran in
      let still = next-moved p turn e m s ran k.stays next in
      record {
        playing = record { sits = sits; mutates = k.mutates; cached = k.cached; counted = counted-kept (view_of m.seat) (view_of s) k.stays.still.heap k.stays.made counted };
        stays = k.stays;
        says = says-moved m s;
        acts = k.acts;
        may = record { turn = turn; in_turn = k.turn_is; next = still };
        season = k.turn_is.season;
        room = room-moved m s k.stays;
        pass = pass-moved p turn e kept m s ran k still;
        free = free;
      }

  -- if the heap was found full, the mutator stops before the command
  pub comes-full : FindsFull m.count (view_of m.seat) (view_of s) → (IsTrue (view_of s).own.full → IsTrue (view_of m.seat).own.full ⊎ IsNew e.op) → StopsBefore h p e m (moved m s)
  comes-full k found =
      record {
        playing = record { sits = sits; mutates = k.ends.mutates; cached = k.ends.cache; counted = counted-kept (view_of m.seat) (view_of s) k.heap k.made counted };
        kept = record { heap = k.heap; turns = k.turns; places = k.places };
        says = says-moved m s;
        position = k.ends.position;
        known = k.known;
        found = found;
        acts = λ season. wider season;
      }
    where
      c : ℕ
      c = collects_by (e ∷ [])

      wider : (season : ℕ) → Acts season 0 c (view_of m.seat) (view_of s)
      wider season =
          let a = k.acts season in
          record { ran = a.ran; polled = a.polled; stopped = λ since. let q : _ ≤ 0 = a.stopped since in omega (arith, q); stored = a.stored; uncounted = a.uncounted; seasons = a.seasons; paced = a.paced }

-- if it makes an object, it is `new`
pub makes-new : (op : Op) → makes_object op ≡ true → IsNew op
makes-new (ops.New v n) b = tt
makes-new (ops.Let v w) b = absurd (false≢true b)
makes-new (ops.Nil v) b = absurd (false≢true b)
makes-new (ops.Set v i w) b = absurd (false≢true b)
makes-new (ops.Get v w i) b = absurd (false≢true b)
makes-new (ops.Cat v c) b = absurd (false≢true b)
makes-new (ops.Put v n) b = absurd (false≢true b)
makes-new (ops.Say v) b = absurd (false≢true b)
makes-new (ops.Sum v i limit) b = absurd (false≢true b)
makes-new ops.Collect b = absurd (false≢true b)

-- what the call before it says, of its answer
pub comes-by : (comes : Bool) (h : Heap) (p : Parts) (turn : ℕ) (kept : Option Cache) (e : Execution) (x y : Mutator) → (comes ≡ true → IsAtCommand h p turn kept e x y) → (comes ≡ false → StopsBefore h p e x y × (kept ≡ None)) → ComesOrStops comes h p turn kept e x y
comes-by true h p turn kept e x y at stops = at refl
comes-by false h p turn kept e x y at stops = stops refl

-- it waited, and then came to the command, or found the heap full
module _ (h : Heap) (p : Parts) (turn : ℕ) (e : Execution) (m : Mutator) (s : HeapSeat) (y : Mutator) (stays : Stays (view_of m.seat) (view_of s)) (waits : DoesNothing (view_of m.seat) (view_of s)) where
  says_later : SaysSame (player_of (moved m s)) (player_of y) → SaysSame (player_of m) (player_of y)
  says_later k = record { count = k.count; said = k.said; dropped = k.dropped; cells = k.cells }

  at_later : (kept : Option Cache) → IsAtCommand h p turn kept e (moved m s) y → IsAtCommand h p turn kept e m y
  at_later kept k =
      record {
        playing = k.playing;
        stays = stays-join (view_of m.seat) (view_of s) (view_of y.seat) stays k.stays;
        says = says_later k.says;
        acts = λ season. acts-join season 0 0 1 0 1 0 (view_of m.seat) (view_of s) (view_of y.seat) (waits season) (k.acts season) (omega arith) (omega arith);
        may = k.may;
        season = k.season;
        room = λ left r. k.room left (room-moved m s stays left r);
        pass = k.pass;
        free = k.free;
      }

  stops_later : StopsBefore h p e (moved m s) y → StopsBefore h p e m y
  stops_later k =
      let c : ℕ = collects_by (e ∷ []) in
      record {
        playing = k.playing;
        kept = record { heap = k.kept.heap ∙ stays.still.heap; turns = k.kept.turns ∙ stays.still.turns; places = k.kept.places ∙ stays.still.places };
        says = says_later k.says;
        position = k.position;
        known = k.known;
        found = λ full. ⊎_elim (λ a. inl (sym stays.still.full ∙ a)) (λ b. inr b) (k.found full);
        acts = λ season. acts-join season 0 0 0 c 0 c (view_of m.seat) (view_of s) (view_of y.seat) (waits season) (k.acts season) (omega arith) (omega arith);
      }

  pub comes-later : (comes : Bool) (kept : Option Cache) → ComesOrStops comes h p turn kept e (moved m s) y → ComesOrStops comes h p turn kept e m y
  comes-later true kept k = at_later kept k
  comes-later false kept k = (stops_later k.0, k.1)
