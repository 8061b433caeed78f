-- A part, from its beginning to its end.
use Rattle.std.proofs.Common.{ℕ, ◌≡◌, ◌+◌, ◌-◌, ◌≤◌, ◌||◌, List, [], ◌∷◌, length, take, drop, refl, sym, ap, ◌∙◌, subst, Bool, true, false, not, Option, Some, None, arith, ⊎_elim}
use Rattle.std.proofs.lemmas.Bool.{and_left, false≢true, or_parts}
use Rattle.mark_core.specs.Seats.{saw}
use Rattle.mark_core.specs.declared.kinds.Phase.TheVariants.{Full}
use Rattle.mark_core.specs.declared.kinds.Step.{Step}
use Rattle.mark_core.specs.declared.kinds.Step.TheVariants.{StorePhase}
use Rattle.plain_heap.specs.Placement.{IsNew}
use Rattle.plain_heap.specs.Sections.{Execution, Parts, Sections, end_of, joined}
use Rattle.gc_table.specs.Log.{events}
use Rattle.gc_table.specs.Rule.{KnowsFull}
use Rattle.gc_table.specs.Running.{Ran, after_all}
use Rattle.gc_table.specs.Seats.{Sits, view_of}
use Rattle.gc_table.specs.Taking.{after, moves_from}
use Rattle.gc_table.specs.declared.seat.Heap.{Heap}
use Rattle.gc_table.specs.declared.seat.HeapSeat.{HeapSeat}
use Rattle.gc_table.specs.declared.view.Entry.{Entry}
use Rattle.gc_table.specs.declared.view.View.{View}
use Rattle.packet_pools.specs.Seeking.{some_event}
use Rattle.alloc_cache.specs.declared.cache.Cache.{Cache}
use Rattle.play_end.specs.Done.{HasSaid, IsStill, turn_word}
use Rattle.play_end.specs.Parts.{IsAfterParts, Player, PlaysPart, SaysSame, StaysOf}
use Rattle.play_end.specs.declared.played.Played.{Played}
use Rattle.play_end.specs.declared.played.Played.TheVariants as plays
use Rattle.play_end.proofs.Within.{said-still, left-full, left-none}
use Rattle.play_end.proofs.Doing.{done-still}
use Rattle.warehouse.specs.Commands.{CountsPart, MayPlayPart, PlaysAll, StopsWithin}
use Rattle.gc_cycle.specs.Cycles.{never_fills}
use Rattle.warehouse.specs.Playing.{DoesEach, HasRoomForCommands, IsPartPlayed, IsPlaying, MayPlay, Stays, DoesNothing, collects_by, commands_of_part, player_of}
use Rattle.gc_cycle.specs.Sorts.{moves_to}
use Rattle.gc_cycle.specs.Standing.{Mutates}
use Rattle.cache_refills.specs.Stops.{stops_without_cause}
use Rattle.warehouse.specs.declared.mutator.Mutator.{Mutator}
use Rattle.warehouse.proofs.Leavings.{acts-join, waits-ran, of-stays, Told, told-left}
use Rattle.warehouse.proofs.Commanding.{stays-of}
use Rattle.warehouse.proofs.Coming.{moved, room-moved, says-moved}
use Rattle.warehouse.proofs.FullStops.{counted-kept}
use Rattle.warehouse.proofs.Going.{part-then}
use Rattle.warehouse.proofs.InOrder.{each-within}

-- a section that didn't find the heap full moved the phase nowhere so
full_step : (v : View) (step : Step) (n : ℕ) → (after step n v).own.full ≡ false → (v.own.full ≡ false) × (moves_to Full step n ≡ false)
full_step v (StorePhase to) n h =
    let p = or_parts v.own.full (saw (Some to) Full) h in
    (p.0, and_left (saw (Some to) Full) (moves_from n to) p.1)
full_step v step n h = (h, refl)

full_before : (es : List Entry) (v : View) → (after_all es v).own.full ≡ false → v.own.full ≡ false
full_before [] v h = h
full_before (e ∷ es) v h = (full_step v e.step e.found (full_before es (after e.step e.found v) h)).0

fills_none : (es : List Entry) (v : View) → (after_all es v).own.full ≡ false → some_event (moves_to Full) es ≡ false
fills_none [] v h = refl
fills_none (e ∷ es) v h =
    let next : View = after e.step e.found v in
    let here = (full_step v e.step e.found (full_before es next h)).1 in
    ap (λ b. b || some_event (moves_to Full) es) here ∙ fills_none es next h

pub unfilled : (v w : View) → Ran v w → w.own.full ≡ false → never_fills (events v w) ≡ true
unfilled v w ran h = ap not (fills_none (events v w) v (ap (λ (x : View). x.own.full) (sym ran.steps) ∙ h))

-- a player that waited has done the same parts
pub after-still : (s : Sections) (w z : ℕ) (x y : Player) → IsStill x.view.own y.view.own → SaysSame x y → y.view.own.position ≡ x.view.own.position → IsAfterParts s w z x → IsAfterParts s w z y
after-still s w z x y still same position a =
    let k : ℕ = end_of s w z in
    record {
      after =
          record {
            count = same.count ∙ a.after.count;
            done = done-still s w k x.view.own y.view.own a.after.done still;
            said =
                subst (λ said. HasSaid s w k said y.dropped y.cells y.view.own) (sym same.said)
                (subst (λ d. HasSaid s w k x.said d y.cells y.view.own) (sym same.dropped)
                (subst (λ cs. HasSaid s w k x.said x.dropped cs y.view.own) (sym same.cells) (said-still s w k x.said x.dropped x.cells x.view.own y.view.own a.after.said still)));
          };
      played = record { done = done-still s w k x.view.own y.view.own a.played.done still; position = position ∙ a.played.position; found_room = still.full ∙ a.played.found_room };
    }

-- from a mutator that entered (its seat is s then)
module _
    (h : Heap) (p : Parts) (z : ℕ) (x : Mutator) (s : HeapSeat) (may : MayPlay h p z x) (sits : Sits h s) (mutates : Mutates (view_of s)) (empty : (view_of s).state.cache ≡ None)
    (stays : Stays (view_of x.seat) (view_of s)) (waits : DoesNothing (view_of x.seat) (view_of s)) (position : (view_of s).own.position ≡ (view_of x.seat).own.position) where
  of : StaysOf (view_of x.seat) (view_of s)
  of = stays-of (view_of x.seat) (view_of s) (waits-ran (view_of x.seat) (view_of s) waits)

  pub begins-playing : IsPlaying h p None (moved x s)
  begins-playing = record { sits = sits; mutates = mutates; cached = empty; counted = counted-kept (view_of x.seat) (view_of s) stays.still.heap stays.made may.counted }

  pub begins-may : MayPlayPart p z (moved x s)
  begins-may =
      record {
        lends_is = may.lends_is;
        room = room-moved x s stays (joined (drop (z - 1) p.parts)) may.room;
        season = may.season;
        sections = may.sections;
        of = of-stays may.sections p (view_of x.seat) (view_of s) of may.of;
        before = after-still may.sections p.number (z - 1) (player_of x) (player_of (moved x s)) stays.still (says-moved x s) position may.before;
      }

  -- what was played since then was played since before
  plays_since : (played : Played) (y : Player) → PlaysPart played p z (player_of (moved x s)) y → PlaysPart played p z (player_of x) y
  plays_since played y k sections a before =
      k sections (of-stays sections p (view_of x.seat) (view_of s) of a) (after-still sections p.number (z - 1) (player_of x) (player_of (moved x s)) stays.still (says-moved x s) position before)

  -- it played all commands (y), and left (w)
  module _ (kept : Option Cache) (y w : Mutator) (all : PlaysAll h p z kept (commands_of_part p z) (moved x s) y) (leaves : CountsPart 1 h p y w) where
    done_plays : PlaysPart plays.Done p z (player_of x) (player_of w)
    done_plays = plays_since plays.Done (player_of w) (left-none p z (player_of (moved x s)) (player_of y) (player_of w) may.season all.left leaves.stays.still leaves.says (leaves.position ∙ leaves.says.count))

    done_told : Told (turn_word p.number z) (length (commands_of_part p z)) (collects_by (commands_of_part p z)) 1 (view_of x.seat) (view_of w.seat)
    done_told =
        let n : ℕ = length (commands_of_part p z) in
        let c : ℕ = collects_by (commands_of_part p z) in
        told-left (turn_word p.number z) n c 1 (view_of x.seat) (view_of y.seat) (view_of w.seat)
        (acts-join (turn_word p.number z) 0 0 n c n c (view_of x.seat) (view_of s) (view_of y.seat) (waits (turn_word p.number z)) all.acts (omega arith) (omega arith)) leaves.leaves

    done_count : w.count - x.count ≡ length (commands_of_part p z)
    done_count = omega (arith, leaves.says.count, all.count)

    pub part-done : IsPartPlayed plays.Done h p z x w
    part-done =
        let t = done_told in
        record {
          sits = leaves.sits;
          out = leaves.out;
          ran = t.ran;
          seasons = t.seasons;
          counted = counted-kept (view_of y.seat) (view_of w.seat) leaves.stays.still.heap leaves.stays.made all.playing.counted;
          room = λ is. leaves.room (joined (drop z p.parts))
              (all.room (joined (drop z p.parts)) (subst (λ es. HasRoomForCommands es (moved x s)) (part-then p z may.season) begins-may.room));
          plays = done_plays;
          position = leaves.position;
          tells =
              record {
                each = each-within x.count (commands_of_part p z) (view_of x.seat) (view_of s) (view_of y.seat) (view_of w.seat) (waits-ran (view_of x.seat) (view_of s) waits) leaves.leaves.ran all.each;
                plays = record { polled = omega (arith, t.polled, done_count); stopped = t.stopped };
                all = done_count;
                counted = t.counted;
                stored = t.stored;
                paced = t.paced;
                unfilled = unfilled (view_of x.seat) (view_of w.seat) t.ran (done_plays may.sections may.of may.before).played.found_room;
              };
        }

  -- the heap was full before one of them (y), and it left (w)
  module _ (y w : Mutator) (k : StopsWithin h p z (commands_of_part p z) (moved x s) y) (leaves : CountsPart 0 h p y w) (known : KnowsFull (view_of w.seat)) where
    was_room : (view_of k.before.seat).own.full ≡ false
    unfolding begins-may
    was_room = (k.left may.sections begins-may.of begins-may.before).found_room

    full_plays : PlaysPart plays.Full p z (player_of x) (player_of w)
    full_plays =
        plays_since plays.Full (player_of w)
        (left-full p z (k.e ∷ k.rest) (player_of (moved x s)) (player_of k.before) (player_of w) may.season k.left
        (record {
          heap = leaves.stays.still.heap ∙ k.stops.kept.heap;
          turns = leaves.stays.still.turns ∙ k.stops.kept.turns;
          places = leaves.stays.still.places ∙ k.stops.kept.places;
        })
        (leaves.position ∙ (leaves.says.count ∙ k.stops.says.count)) found known)
      where
        found : (view_of w.seat).own.full ≡ true → (e : Execution) × (more : List Execution) × (k.e ∷ k.rest ≡ e ∷ more) × IsNew e.op
        found full = (
          k.e,
          k.rest,
          refl,
          ⊎_elim (λ before. absurd (false≢true (sym was_room ∙ before))) (λ new. new) (k.stops.found (sym leaves.stays.still.full ∙ full)),
        )

    full_told : Told (turn_word p.number z) k.done (collects_by (take k.done (commands_of_part p z)) + collects_by (k.e ∷ [])) 0 (view_of x.seat) (view_of w.seat)
    full_told =
        let season : ℕ = turn_word p.number z in
        let c : ℕ = collects_by (take k.done (commands_of_part p z)) in
        let t : ℕ = c + collects_by (k.e ∷ []) in
        told-left season k.done t 0 (view_of x.seat) (view_of y.seat) (view_of w.seat)
        (acts-join season 0 0 k.done t k.done t (view_of x.seat) (view_of s) (view_of y.seat) (waits season) k.acts (omega arith) (omega arith)) leaves.leaves

    full_count : w.count - x.count ≡ k.done
    full_count = omega (arith, leaves.says.count, k.count)

    pub part-full : IsPartPlayed plays.Full h p z x w
    part-full =
        let t = full_told in
        let es : List Entry = events (view_of x.seat) (view_of w.seat) in
        let stops : ℕ = stops_without_cause (view_of x.seat).shape [] es in
        let part : List Execution = commands_of_part p z in
        record {
          sits = leaves.sits;
          out = leaves.out;
          ran = t.ran;
          seasons = t.seasons;
          counted = counted-kept (view_of y.seat) (view_of w.seat) leaves.stays.still.heap leaves.stays.made k.stops.playing.counted;
          room = λ is. absurd (not_done is);
          plays = full_plays;
          position = leaves.position;
          tells =
              record {
                each =
                    subst (λ d. DoesEach x.count (take d part) (view_of x.seat) (view_of w.seat)) (sym full_count)
                    (each-within x.count (take k.done part) (view_of x.seat) (view_of s) (view_of y.seat) (view_of w.seat) (waits-ran (view_of x.seat) (view_of s) waits) leaves.leaves.ran k.each);
                stops =
                    record {
                      polled = omega (arith, t.polled, full_count);
                      stopped = subst (λ d. stops ≤ collects_by (take d part) + collects_by (take 1 (drop d part))) (sym full_count)
                          (subst (λ l. stops ≤ collects_by (take k.done part) + collects_by (take 1 l)) (sym k.next) t.stopped);
                    };
                counted = t.counted;
                stored = t.stored;
                paced = t.paced;
              };
        }
      where
        done_or : Played → Bool
        done_or plays.Done = true
        done_or plays.Full = false

        not_done : plays.Full ≡ plays.Done → ⊥
        not_done e = false≢true (ap done_or e)
