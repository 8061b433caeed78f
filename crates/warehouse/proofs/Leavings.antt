-- A mutator leaves at the end of its part.
use Rattle.std.proofs.Common.{ℕ, ◌≡◌, ◌+◌, ◌≤◌, ◌++◌, List, [], ◌∷◌, refl, sym, ap, ◌∙◌, subst, true, false, not, arith, ◌&&◌, if◌then◌else◌, ◌⊎◌, Option, Some, IsTrue, ◌-◌, ◌<◌, map, length}
use Rattle.std.proofs.lemmas.Bool.{not-true}
use Rattle.mark_core.specs.declared.kinds.Step.TheVariants.{AddStat, LeaveStep, StorePosition}
use Rattle.gc_table.specs.Log.{Only, all_steps, event, events}
use Rattle.gc_table.specs.Rule.{KnowsFull}
use Rattle.gc_table.specs.Running.{Ran}
use Rattle.gc_table.specs.Seats.{Took, view_of}
use Rattle.gc_table.specs.declared.view.Entry.{Entry}
use Rattle.gc_table.specs.declared.view.View.{View}
use Rattle.gc_table.proofs.History.Log.{events-after}
use Rattle.gc_table.proofs.Running.{ran-events, ran-join, ran-shape, ran-took}
use Rattle.packet_pools.specs.Counts.{count_of}
use Rattle.packet_pools.proofs.Counting.{count-join, count-join as count_both}
use Rattle.play_end.specs.Playing.{moves_phase}
use Rattle.play_end.proofs.FullKnown.{full-kept}
use Rattle.warehouse.specs.Commands.{Leaves, DoesOne, IsAtCommand, PlaysOne, StopsBefore}
use Rattle.gc_cycle.specs.Events.{never}
use Rattle.warehouse.specs.Pacing.{Paces}
use Rattle.warehouse.specs.Playing.{Acts, DoesAt, Stays, DoesNothing, counts_part, collects_by, is_collect, player_of}
use Rattle.gc_cycle.specs.Sorts.{polls, raises_flag, stores_new}
use Rattle.mark_core.specs.Numbers.{done_count}
use Rattle.gc_cycle.specs.Sparing.{spares_part}
use Rattle.gc_cycle.proofs.Sequences.{count-none as none-count}
use Rattle.cache_refills.specs.Stops.{stops_without_cause, may_stop}
use Rattle.cache_refills.proofs.Refills.Payment.{never-run as never-join}
use Rattle.warehouse.specs.Storing.{stores_in}
use Rattle.packet_pools.specs.Seeking.{some_event}
use Rattle.warehouse.proofs.Pacing.{paces-counted, paces-join}
use Rattle.warehouse.proofs.Counting.{stored-join}
use Rattle.warehouse.proofs.InOrder.{polls-does}
use Rattle.warehouse.proofs.InTheStop.{waits-calm}
use Rattle.mark_core.specs.declared.kinds.Shape.{Shape}
use Rattle.plain_heap.specs.Placement.{IsNew}
use Rattle.plain_heap.specs.Sections.{Execution, Parts, Sections, end_of}
use Rattle.gc_table.specs.declared.seat.Heap.{Heap}
use Rattle.alloc_cache.specs.declared.cache.Cache.{Cache}
use Rattle.warehouse.specs.declared.mutator.Mutator.{Mutator}
use Rattle.warehouse.proofs.Commanding.{stays-of}
use Rattle.gc_table.specs.declared.view.Place.{Place}
use Rattle.play_end.specs.Done.{IsStill, turn_word}
use Rattle.play_end.proofs.Doing.{done-still}
use Rattle.play_end.proofs.Within.{left-next}
use Rattle.play_end.specs.Parts.{AreOf, DoesCommand, HasLeft, IsWithin, Player, SaysSame, StaysOf}

-- the stops of both, whatever came before the first
pub stops-both : (sh : Shape) (since xs ys : List Entry) (a b : ℕ) → stops_without_cause sh since xs ≤ a → ((s : List Entry) → stops_without_cause sh s ys ≤ b) → stops_without_cause sh since (xs ++ ys) ≤ a + b
stops-both sh since [] ys a b p q = let r : stops_without_cause sh since ys ≤ b = q since in omega (arith, r)
stops-both sh since (x ∷ xs) ys a b p q =
    let here : ℕ = if raises_flag x.step x.found && not (may_stop sh since) then 1 else 0 in
    let next : List Entry = if stores_new x.step x.found then [] else since ++ x ∷ [] in
    let r : stops_without_cause sh next (xs ++ ys) ≤ stops_without_cause sh next xs + b = stops-both sh next xs ys (stops_without_cause sh next xs) b (same (stops_without_cause sh next xs)) q in
    sums here (stops_without_cause sh next xs) (stops_without_cause sh next (xs ++ ys)) a b p r
  where
    same : (m : ℕ) → m ≤ m
    same m = omega arith

    sums : (h m k a b : ℕ) → h + m ≤ a → k ≤ m + b → h + k ≤ a + b
    sums h m k a b p r = omega (arith, p, r)

pub acts-join : (season a c a' c' A C : ℕ) (u v w : View) → Acts season a c u v → Acts season a' c' v w → A ≤ a + a' → c + c' ≤ C → Acts season A C u w
acts-join season a c a' c' A C u v w x y p r =
    let both : events u w ≡ events u v ++ events v w = ran-events u v w x.ran y.ran in
    let polled : count_of polls (events u w) ≡ count_of polls (events u v) + count_of polls (events v w) = ap (count_of polls) both ∙ count_both polls (events u v) (events v w) in
    record {
      ran = ran-join u v w x.ran y.ran;
      polled = omega (arith, p, x.polled, y.polled, polled);
      stopped = λ since.
          let later : (s : List Entry) → stops_without_cause u.shape s (events v w) ≤ c' = λ s. subst (λ sh. stops_without_cause sh s (events v w) ≤ c') (ran-shape u v x.ran) (y.stopped s) in
          let all : stops_without_cause u.shape since (events u w) ≤ c + c' = subst (λ es. stops_without_cause u.shape since es ≤ c + c') (sym both) (stops-both u.shape since (events u v) (events v w) c c' (x.stopped since) later) in
          omega (arith, all, r);
      stored = stored-join season u v w x.ran y.ran x.stored y.stored;
      uncounted = never-join counts_part u v w x.ran y.ran x.uncounted y.uncounted;
      seasons = y.seasons ∙ x.seasons;
      paced = paces-join u v w x.paced y.paced;
    }

-- waiting after waiting
pub waits-join : (u v w : View) → DoesNothing u v → DoesNothing v w → DoesNothing u w
waits-join u v w x y = λ season. acts-join season 0 0 0 0 0 0 u v w (x season) (y season) (omega arith) (omega arith)

pub waits-ran : (v w : View) → DoesNothing v w → Ran v w
waits-ran v w x = (x 0).ran

-- A command with what came before it.
-- What a player has left of a part, when it waits and when it does a command.
-- the section that these sections have stays
pub of-stays : (s : Sections) (p : Parts) (v w : View) → StaysOf v w → AreOf s p v → AreOf s p w
of-stays s p v w k a = record { owned = ap (λ sh. sh.sharing) k.shape ∙ a.owned; same = a.same; plan = k.plan ∙ a.plan; fields = ap (λ sh. sh.fields) k.shape ∙ a.fields; own = k.section ∙ a.own }

-- a player that waits is where it was
pub within-still : (s : Sections) (p : Parts) (z : ℕ) (rest : List Execution) (x y : Player) → StaysOf x.view y.view → IsStill x.view.own y.view.own → SaysSame x y → IsWithin s p z rest x → IsWithin s p z rest y
within-still s p z rest x y of still same k =
    let n : ℕ = end_of s p.number (z - 1) + length k.front in
    record {
      front = k.front;
      part = k.part;
      of = of-stays s p x.view y.view of k.of;
      after =
          record {
            count = same.count ∙ k.after.count;
            done = done-still s p.number n x.view.own y.view.own k.after.done still;
            said =
                record {
                  said_is = same.said ∙ k.after.said.said_is;
                  dropped_is = same.dropped ∙ k.after.said.dropped_is;
                  cells_are = same.cells ∙ k.after.said.cells_are ∙ ap (λ (ps : List Place). map (λ (q : Place). q.cell) ps) (sym still.places);
                };
          };
      found_room = still.full ∙ k.found_room;
    }

-- a player that waits has the same commands left
pub left-still : (p : Parts) (z : ℕ) (rest : List Execution) (old x y : Player) → StaysOf x.view y.view → IsStill x.view.own y.view.own → SaysSame x y → HasLeft p z rest old x → HasLeft p z rest old y
left-still p z rest old x y of still same left s a before = within-still s p z rest x y of still same (left s a before)

-- a player that waits until it is in its turn, and then does a command, has one fewer left
pub left-command : (p : Parts) (z : ℕ) (e : Execution) (rest : List Execution) (old x m y : Player) → 0 < z → StaysOf x.view m.view → IsStill x.view.own m.view.own → SaysSame x m
    → m.view.state.season_seen ≡ Some (turn_word p.number z) → DoesCommand e m y → HasLeft p z (e ∷ rest) old x → HasLeft p z rest old y
left-command p z e rest old x m y pos of still same season does left = left-next p z e rest old m y pos season (left-still p z (e ∷ rest) old x m of still same left) does

-- it was done
pub plays-from : (h : Heap) (p : Parts) (turn : ℕ) (kept still : Option Cache) (e : Execution) (x m y : Mutator) → IsAtCommand h p turn kept e x m → DoesOne h p still e m y → PlaysOne h p turn still e x y
plays-from h p turn kept still e x m y at ends =
    record {
      playing = ends.playing;
      left = λ old z rest pos word left.
          left-command p z e rest old (player_of x) (player_of m) (player_of y) pos (stays-of (view_of x.seat) (view_of m.seat) (at.acts 0).ran) at.stays.still at.says (at.season ∙ ap (λ n. Some n) word) ends.does left;
      count = ends.does.count ∙ ap (λ n. n + 1) at.says.count;
      room = λ later r. ends.room later (at.room (e ∷ later) r);
      own = polls-does x.count e (view_of x.seat) (view_of m.seat) (view_of y.seat) (at.acts 0).ran (at.acts 0).polled (subst (λ n. DoesAt n (is_collect e.op) (view_of m.seat) (view_of y.seat)) at.says.count ends.own);
      acts = acts-join turn 1 0 0 c 1 c (view_of x.seat) (view_of m.seat) (view_of y.seat) (at.acts turn) (ends.acts turn at.season) (omega arith) (omega arith);
    }
  where
    c : ℕ
    c = collects_by (e ∷ [])

-- the heap was full before it
pub stops-from : (h : Heap) (p : Parts) (turn : ℕ) (kept : Option Cache) (e : Execution) (x m y : Mutator) → IsAtCommand h p turn kept e x m → StopsBefore h p e m y → StopsBefore h p e x y
stops-from h p turn kept e x m y at ends =
    record {
      playing = ends.playing;
      kept =
          record {
            heap = ends.kept.heap ∙ at.stays.still.heap;
            turns = ends.kept.turns ∙ at.stays.still.turns;
            places = ends.kept.places ∙ at.stays.still.places;
          };
      says = record { count = ends.says.count ∙ at.says.count; said = ends.says.said ∙ at.says.said; dropped = ends.says.dropped ∙ at.says.dropped; cells = ends.says.cells ∙ at.says.cells };
      position = ends.position ∙ at.says.count;
      known = ends.known;
      found = λ full. subst (λ b. IsTrue b ⊎ IsNew e.op) at.stays.still.full (ends.found full);
      acts = λ season. acts-join season 1 0 0 c 0 c (view_of x.seat) (view_of m.seat) (view_of y.seat) (at.acts season) (ends.acts season) (omega arith) (omega arith);
    }
  where
    c : ℕ
    c = collects_by (e ∷ [])

-- a call that waits counts no part
pub leaves-waits : (v w : View) → DoesNothing v w → Leaves 0 v w
leaves-waits v w waits =
    record {
      ran = (waits 0).ran;
      stopped = λ since. let s = (waits 0).stopped since in omega (arith, s);
      stored = λ season. (waits season).stored;
      counted = none-count counts_part (events v w) (not-true (some_event counts_part (events v w)) (waits 0).uncounted);
      seasons = (waits 0).seasons;
      paced = (waits 0).paced;
    }

pub leaves-calm : (v w : View) → Ran v w → Only spares_part v w → never raises_flag (events v w) ≡ true → Paces v w → Leaves 0 v w
leaves-calm v w ran only b paced = leaves-waits v w (waits-calm v w ran only b paced)

pub leaves-join : (a b n : ℕ) (u v w : View) → Leaves a u v → Leaves b v w → a + b ≡ n → Leaves n u w
leaves-join a b n u v w x y sum =
    record {
      ran = ran-join u v w x.ran y.ran;
      stopped = λ since.
          let first : stops_without_cause u.shape since (events u v) ≤ 0 = let e = x.stopped since in omega (arith, e) in
          let later : (s : List Entry) → stops_without_cause u.shape s (events v w) ≤ 0 =
          λ s. let e = y.stopped s in subst (λ sh. stops_without_cause sh s (events v w) ≤ 0) (ran-shape u v x.ran) (omega (arith, e)) in
          let all : stops_without_cause u.shape since (events u v ++ events v w) ≤ 0 + 0 = stops-both u.shape since (events u v) (events v w) 0 0 first later in
          ap (stops_without_cause u.shape since) both ∙ none (stops_without_cause u.shape since (events u v ++ events v w)) all;
      stored = λ season. stored-join season u v w x.ran y.ran (x.stored season) (y.stored season);
      counted = ap (count_of counts_part) both ∙ count-join counts_part (events u v) (events v w) ∙ total;
      seasons = y.seasons ∙ x.seasons;
      paced = paces-join u v w x.paced y.paced;
    }
  where
    both : events u w ≡ events u v ++ events v w
    both = ran-events u v w x.ran y.ran

    none : (m : ℕ) → m ≤ 0 + 0 → m ≡ 0
    none m h = omega (arith, h)

    total : count_of counts_part (events u v) + count_of counts_part (events v w) ≡ n
    total = omega (arith, x.counted, y.counted, sum)

-- the part is counted
module _ (v w : View) (took : Took (AddStat done_count 1 false) v w) where
  pub counted-ran : Ran v w
  counted-ran = ran-took v w (AddStat done_count 1 false) refl took

  pub counted-stays : Stays v w
  counted-stays = subst (Stays v) (sym took.1.0) (record { still = record { heap = refl; turns = refl; places = refl; full = refl }; made = refl; shape = refl })

  pub leaves-counted : Leaves 1 v w
  leaves-counted =
      let one = events-after v w (AddStat done_count 1 false) took.0 took.1.0 in
      record {
        ran = counted-ran;
        stopped = λ since. ap (λ (es : List Entry). stops_without_cause v.shape since es) one;
        stored = λ season. ap (λ (es : List Entry). stores_in season v es) one;
        counted = ap (λ (es : List Entry). count_of counts_part es) one;
        seasons = ap (λ (x : View). x.own.seasons) took.1.0;
        paced = paces-counted v w took;
      }

-- what a mutator knows of a full heap it knows when it has left
pub full-left : (done n : ℕ) (v w : View) → Ran v w → events v w ≡ event (StorePosition done) done ∷ event LeaveStep n ∷ [] → KnowsFull v → KnowsFull w
full-left done n v w ran left known =
    full-kept v w ran (ap (all_steps (λ step. not (moves_phase step))) left) known

-- what the commands of a part did, with the leaving after them
pub record Told (season commands stops times : ℕ) (v w : View) : Type 0 where
  pub ran : Ran v w
  pub polled : commands ≤ count_of polls (events v w)
  pub stopped : stops_without_cause v.shape [] (events v w) ≤ stops
  pub stored : stores_in season v (events v w) ≡ true
  pub counted : count_of counts_part (events v w) ≡ times
  pub seasons : w.own.seasons ≡ v.own.seasons
  pub paced : Paces v w

pub told-left : (season n s times : ℕ) (u v w : View) → Acts season n s u v → Leaves times v w → Told season n s times u w
told-left season n s times u v w x y =
    record {
      ran = ran-join u v w x.ran y.ran;
      polled = omega (arith, x.polled, ap (count_of polls) both ∙ count-join polls (events u v) (events v w));
      stopped =
          let later : (k : List Entry) → stops_without_cause u.shape k (events v w) ≤ 0 =
          λ k. let e = y.stopped k in subst (λ sh. stops_without_cause sh k (events v w) ≤ 0) (ran-shape u v x.ran) (omega (arith, e)) in
          let all : stops_without_cause u.shape [] (events u v ++ events v w) ≤ s + 0 = stops-both u.shape [] (events u v) (events v w) s 0 (x.stopped []) later in
          let same = ap (stops_without_cause u.shape []) both in
          omega (arith, all, same);
      stored = stored-join season u v w x.ran y.ran x.stored (y.stored season);
      counted = ap (count_of counts_part) both ∙ count-join counts_part (events u v) (events v w) ∙ omega (arith, none, y.counted);
      seasons = y.seasons ∙ x.seasons;
      paced = paces-join u v w x.paced y.paced;
    }
  where
    both : events u w ≡ events u v ++ events v w
    both = ran-events u v w x.ran y.ran

    none : count_of counts_part (events u v) ≡ 0
    none = none-count counts_part (events u v) (not-true (some_event counts_part (events u v)) x.uncounted)
