-- A mutator collects, if the script says so.
use Rattle.std.proofs.Common.{ℕ, ◌≡◌, ◌+◌, ◌≤◌, ◌++◌, List, [], ◌∷◌, map, refl, sym, ap, ◌∙◌, subst, Option, Some, None, if◌then◌else◌, arith, inl, ◌==◌, ◌&&◌, Bool, not}
use Rattle.plain_heap.specs.PlainRun.{with_label}
use Rattle.plain_heap.specs.PlainStep.{line_of}
use Rattle.plain_heap.specs.Sections.{Execution, Parts, made_by, makes_object, printed_by, prints_line}
use Rattle.plain_heap.specs.declared.operation.Op.TheVariants as ops
use Rattle.gc_table.specs.Log.{Only, events}
use Rattle.gc_table.specs.Rule.{KnowsFull}
use Rattle.gc_table.specs.Running.{Ran}
use Rattle.gc_table.specs.Sections.{season_of}
use Rattle.gc_table.specs.Seats.{Sits, view_of}
use Rattle.gc_table.specs.declared.seat.Heap.{Heap}
use Rattle.gc_table.specs.declared.seat.HeapSeat.{HeapSeat}
use Rattle.gc_table.specs.declared.view.Place.{Place}
use Rattle.gc_table.specs.declared.view.View.{View}
use Rattle.gc_table.proofs.Running.{ran-join, ran-shape}
use Rattle.packet_pools.specs.Counts.{count_of}
use Rattle.alloc_cache.specs.declared.cache.Cache.{Cache}
use Rattle.mutator_ops.specs.Doing.{seen, belongs}
use Rattle.play_end.specs.Done.{SectionDoes}
use Rattle.play_end.specs.Parts.{DoesCommand}
use Rattle.play_end.specs.Playing.{drops}
use Rattle.play_end.proofs.Commands.{still-does}
use Rattle.gc_cycle.specs.Answering.{Collects, CollectsTo, EndsFull, HasCache}
use Rattle.warehouse.specs.Commands.{DoesOne, MayDo, StopsBefore}
use Rattle.warehouse.specs.Pacing.{Paces}
use Rattle.warehouse.specs.Playing.{Acts, DoesAt, IsPlaying, Stays, DoesNothing, collects_by, is_collect, player_of}
use Rattle.gc_cycle.specs.Sorts.{raises_flag}
use Rattle.gc_cycle.specs.Sparing.{spares_part}
use Rattle.gc_cycle.specs.Standing.{KeepsSeat, Mutates}
use Rattle.gc_cycle.specs.declared.counts.Safe.TheVariants as safes
use Rattle.warehouse.specs.declared.mutator.Mutator.{Mutator}
use Rattle.warehouse.proofs.Leavings.{acts-join}
use Rattle.warehouse.proofs.Causes.{acts-asked}
use Rattle.warehouse.proofs.Commanding.{stays-of}
use Rattle.warehouse.proofs.Coming.{moved, says-moved}
use Rattle.warehouse.proofs.FullStops.{counted-kept}
use Rattle.warehouse.proofs.Others.{made-later, stops-none, printed-more}
use Rattle.mark_core.specs.declared.kinds.Shape.{Shape}
use Rattle.warehouse.proofs.InTheStop.{stays-join, stays-spared}
use Rattle.std.specs.Prelude.{is_some, is_none}
use Rattle.std.proofs.lemmas.List.Sums.{sum_by-append}
use Rattle.mark_core.specs.Seats.{empty_handed, has_making, work_in_hand}
use Rattle.mark_core.specs.declared.seat.SeatState.{SeatState}
use Rattle.gc_table.proofs.History.Log.{only-more}
use Rattle.mutator_ops.specs.Creating.{Creates}
use Rattle.mutator_ops.specs.Ready.{IsReady}
use Rattle.warehouse.proofs.Counting.{command-seasons, command-uncounted, stored-turn}
use Rattle.warehouse.proofs.Pacing.{paces-command}
use Rattle.warehouse.proofs.TurnChanges.{is_of_command, of-command}

-- What `new` leaves to the mutator.
-- nothing in hand, but for whether a cell is half made
abbrev rests : Shape → SeatState → Bool → Bool
rests sh s making = empty_handed s && not (work_in_hand sh.fields s) && is_none s.owes && is_none s.block && ((s.got == 0) && (s.lags == 0)) && not making

pub mutates-new : (u n cell : ℕ) (v w : View) → Creates u n cell v w → IsReady v → IsReady w → Mutates v → Mutates w
mutates-new u n cell v w k before ready m =
    record {
      active = ap (λ (s : SeatState). s.active) k.state ∙ m.active;
      unhelping = ap (λ (s : SeatState). s.helping) k.state ∙ m.unhelping;
      section = ap (λ (s : SeatState). is_some s.section) k.state ∙ m.section;
      rest =
          (λ i. rests (ran-shape v w k.ran i) (record (k.state i) { cache = w.state.cache }) (has_making w.state.cache))
          ∙ ap (rests v.shape v.state) (ready.whole ∙ sym before.whole)
          ∙ m.rest;
    }

pub acts-new : (e : Execution) (u n cell : ℕ) (v w : View) → e.op ≡ ops.New u n → Creates u n cell v w → (season : ℕ) → v.state.season_seen ≡ Some season → Acts season 0 (collects_by (e ∷ [])) v w
acts-new e u n cell v w is k season read =
    let all = only-more (belongs (ops.New u n)) is_of_command (of-command (ops.New u n)) v w k.only in
    let none : collects_by (e ∷ []) ≡ 0 = ap (λ op. collects_by (record { line = e.line; label = e.label; op = op } ∷ [])) is in
    record {
      ran = k.ran;
      polled = omega arith;
      stopped = λ since. omega (arith, stops-none v.shape since (events v w) all);
      stored = stored-turn season (events v w) v all read;
      uncounted = command-uncounted (events v w) all;
      seasons = command-seasons v w k.ran all;
      paced = paces-command v w k.ran all;
    }

pub made-new : (e : Execution) (u n : ℕ) (later : List Execution) → e.op ≡ ops.New u n → made_by (e ∷ later) ≡ 1 + made_by later
made-new e u n later is =
    let both : made_by (e ∷ later) ≡ made_by (e ∷ []) + made_by later = sum_by-append (λ (x : Execution). if makes_object x.op then 1 else 0) (e ∷ []) later in
    let one : made_by (e ∷ []) ≡ 1 = ap (λ op. made_by (record { line = e.line; label = e.label; op = op } ∷ [])) is in
    both ∙ ap (λ m. m + made_by later) one

pub printed-later : (e : Execution) (later : List Execution) → printed_by later ≤ printed_by (e ∷ later)
printed-later e later =
    let more : printed_by (e ∷ later) ≡ (if prints_line e.op then 1 else 0) + printed_by later = printed-more e later in
    omega (arith, more)

append_none : {X : Type 0} (xs : List X) → xs ≡ xs ++ []
append_none [] = refl
append_none (x ∷ xs) = ap (λ ys. x ∷ ys) (append_none xs)

-- no cache is left
no_cache : (kept : Option Cache) (done : ℕ) (v w : View) → CollectsTo (safes.Going kept) done v w → HasCache kept w × Collects done v w
no_cache None done v w c = (c.cache, c)
no_cache (Some h) done v w c = absurd c

pub no-cache-left : (kept : Option Cache) (done : ℕ) (v w : View) → CollectsTo (safes.Going kept) done v w → kept ≡ None
no-cache-left None done v w c = refl
no-cache-left (Some h) done v w c = absurd c

-- the command counts one collection
one_collect : (e : Execution) → e.op ≡ ops.Collect → collects_by (e ∷ []) ≡ 1
one_collect e is = ap (λ op. collects_by (record { line = e.line; label = e.label; op = op } ∷ [])) is

-- the mutator with its seat moved on, and one command done
abbrev pub counted_up : Mutator → HeapSeat → Mutator
counted_up m s = record m { seat = s; count = m.count + 1 }

-- from a mutator whose seat gave its cache up (s), and collected then (t)
module _
    (h : Heap) (p : Parts) (e : Execution) (m : Mutator) (cache : Option Cache) (s t : HeapSeat) (is : e.op ≡ ops.Collect) (playing : IsPlaying h p cache m) (may : MayDo p e m) (sits : Sits h t)
    (waits : DoesNothing (view_of m.seat) (view_of s)) (stays : Stays (view_of m.seat) (view_of s)) (ran : Ran (view_of s) (view_of t)) (spares : Only spares_part (view_of s) (view_of t))
    (keeps : KeepsSeat (view_of s) (view_of t)) (once : count_of raises_flag (events (view_of s) (view_of t)) ≤ 1) (paced : Paces (view_of s) (view_of t)) where
  both_stay : Stays (view_of m.seat) (view_of t)
  both_stay = stays-join (view_of m.seat) (view_of s) (view_of t) stays (stays-spared (view_of s) (view_of t) ran spares keeps)

  both_ran : Ran (view_of m.seat) (view_of t)
  both_ran = ran-join (view_of m.seat) (view_of s) (view_of t) (waits 0).ran ran

  -- one stop may have had no cause
  asked : (season : ℕ) → Acts season 0 (collects_by (e ∷ [])) (view_of m.seat) (view_of t)
  asked season =
      subst (λ n. Acts season 0 n (view_of m.seat) (view_of t)) (sym (one_collect e is))
      (acts-join season 0 0 0 1 0 1 (view_of m.seat) (view_of s) (view_of t) (waits season) (acts-asked season (view_of s) (view_of t) ran spares once paced) (omega arith) (omega arith))

  collect_does : DoesCommand e (player_of m) (player_of (counted_up m t))
  collect_does =
      let v : View = view_of m.seat in
      let w : View = view_of t in
      record {
        of = stays-of v w both_ran;
        does = subst (λ op. SectionDoes (seen v) (season_of v.state) op v.own w.own) (sym is) (still-does (seen v) (season_of v.state) ops.Collect v.own w.own refl both_stay.still);
        count = refl;
        said = append_none (player_of m).said ∙ ap (λ op. (player_of m).said ++ with_label e.label (line_of v.own.meaning.heap (seen v) op) []) (sym is);
        dropped = plus_none m.dropped ∙ ap (λ op. m.dropped + (if drops v.own.meaning.heap op then 1 else 0)) (sym is);
        cells = may.next.left.after.said.cells_are ∙ ap (λ (ps : List Place). map (λ (q : Place). q.cell) ps) (sym both_stay.still.places);
      }
    where
      plus_none : (n : ℕ) → n ≡ n + 0
      plus_none n = omega arith

  pub collects-going : (kept : Option Cache) → CollectsTo (safes.Going kept) m.count (view_of s) (view_of t) → DoesOne h p kept e m (counted_up m t)
  collects-going kept c =
      let k = no_cache kept m.count (view_of s) (view_of t) c in
      record {
        playing = record { sits = sits; mutates = k.1.goes_on.mutates; cached = k.0; counted = counted-kept (view_of m.seat) (view_of t) both_stay.still.heap both_stay.made playing.counted };
        does = collect_does;
        room = λ later r.
            record {
              said = omega (arith, r.said, printed-later e later);
              places = omega (arith, r.places, made-later e later);
              count = omega (arith, r.count);
              made = omega (arith, r.made, made-later e later, both_stay.made, ap (λ (sh : Shape). sh.objects) both_stay.shape);
              dropped = omega (arith, r.dropped);
            };
        own = subst (λ op. DoesAt m.count (is_collect op) (view_of m.seat) (view_of t)) (sym is) (record { given = view_of s; before = (waits 0).ran; collects = k.1 });
        acts = λ season read. asked season;
      }

  pub collects-full : EndsFull m.count (view_of s) (view_of t) → KnowsFull (view_of t) → StopsBefore h p e m (moved m t)
  collects-full ends known =
      record {
        playing = record { sits = sits; mutates = ends.mutates; cached = ends.cache; counted = counted-kept (view_of m.seat) (view_of t) both_stay.still.heap both_stay.made playing.counted };
        kept = record { heap = both_stay.still.heap; turns = both_stay.still.turns; places = both_stay.still.places };
        says = says-moved m t;
        position = ends.position;
        known = known;
        found = λ full. inl (sym both_stay.still.full ∙ full);
        acts = asked;
      }
