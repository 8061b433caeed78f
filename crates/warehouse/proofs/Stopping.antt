-- The catalogue's seat stops the world, ends a cycle, turns the season, and leaves.
use Rattle.std.proofs.Common.{ℕ, ◌≡◌, ◌++◌, ◌&&◌, List, [], ◌∷◌, refl, sym, ap, ◌∙◌, subst, Bool, true, false, not, eqb-true, ⊎_elim, inr, if◌then◌else◌}
use Rattle.std.proofs.lemmas.Bool.{and_from, and_parts, false≢true, true≢false, or_cases, or_left}
use Rattle.mark_core.specs.Bits.{has_flag}
use Rattle.mark_core.specs.Effects.{seat_after}
use Rattle.mark_core.specs.Places.{the_phase}
use Rattle.mark_core.specs.Seats.{phase_number, phase_of}
use Rattle.mark_core.specs.Steps.WorldSteps.{has_nothing}
use Rattle.mark_core.specs.declared.kinds.Phase.TheVariants.{Full}
use Rattle.mark_core.specs.declared.kinds.Step.{Step}
use Rattle.mark_core.specs.declared.kinds.Step.TheVariants.{DropStep, LeaveStep, Observe, RaiseStep, ReadPhase}
use Rattle.mark_core.specs.declared.seat.SeatState.{SeatState}
use Rattle.gc_table.specs.Log.{Only, all_steps, event, events}
use Rattle.gc_table.specs.Rule.{KnowsFull}
use Rattle.gc_table.specs.Running.{AllSeen, IsSeen, Ran, after_all, changes_section}
use Rattle.gc_table.specs.Seats.{Found, Took}
use Rattle.gc_table.specs.Taking.{after}
use Rattle.gc_table.specs.declared.view.Entry.{Entry}
use Rattle.gc_table.specs.declared.view.View.{View}
use Rattle.gc_table.proofs.Joining.{full-steady}
use Rattle.gc_table.proofs.History.Log.{events-after, only-after, only-more}
use Rattle.gc_table.proofs.Noticing.{known-step}
use Rattle.gc_table.proofs.Running.{own-kept, ran-events, ran-found, ran-join, ran-only, ran-shape, ran-took, state-kept}
use Rattle.packet_pools.specs.Seeking.{some_event}
use Rattle.packet_pools.proofs.Searches.{some-right}
use Rattle.play_end.specs.Playing.{moves_phase}
use Rattle.play_end.proofs.FullKnown.{full-kept, full-read}
use Rattle.stop_world.specs.Waiting.{HasStopped, watches}
use Rattle.stop_world.specs.declared.Raised.{Raised}
use Rattle.stop_world.specs.declared.Raised.TheVariants.{Theirs, Yours}
use Rattle.stop_world.proofs.Passing.{read-number}
use Rattle.stop_world.proofs.Standing.{bare-parts, strong, unless}
use Rattle.gc_cycle.proofs.Refills.Collected.{calm-spares as calm_spares}
use Rattle.gc_cycle.specs.Events.{never}
use Rattle.gc_cycle.specs.Finishing.{finishes}
use Rattle.gc_cycle.specs.Mutating.{stays_calm}
use Rattle.gc_cycle.specs.Polling.{saw_full}
use Rattle.gc_cycle.specs.Sorts.{raises_flag, reads_phase}
use Rattle.gc_cycle.specs.Sparing.{spares_part}
use Rattle.gc_cycle.specs.Standing.{IsAlone, IsOut}
use Rattle.gc_cycle.proofs.Sequences.{some-none as neither, none-of-steps as none-of}
use Rattle.warehouse.specs.Turns.{LeavesNoCycle, KeepsPart, LeavesStop, StopsAt, in_stop, turns_season}
use Rattle.warehouse.proofs.Counting.{spares-seasons}
use Rattle.warehouse.proofs.InTheStop.{keeps-join, since-here, spared-keeps, spared-turns, helping_same}
use Rattle.cache_refills.proofs.Refills.Payment.{never-run as never-join}

-- the end of a cycle makes no helper
pub finishes-unhelped : (v w : View) → Ran v w → Only finishes v w → w.state.helping ≡ v.state.helping
finishes-unhelped v w ran only = state-kept (λ (s : SeatState). s.helping) finishes helping_same v w ran only

-- calm steps are none of a part's, and don't say that the heap is full
pub calm-spares : (v w : View) → Only stays_calm v w → Only spares_part v w
calm-spares v w only = only-more stays_calm spares_part calm_spares v w only

-- a cycle ends after it
pub ends-after :
    (v w x : View) → LeavesNoCycle false v w → Ran w x → Only spares_part w x → IsAlone x → never raises_flag (events w x) ≡ true → saw_full (events w x) ≡ false → x.own.position ≡ w.own.position → x.state.helping ≡ w.state.helping
    → LeavesNoCycle false v x
ends-after v w x e ran only alone calm going position helping =
    record {
      keeps = keeps-join v w x e.keeps (spared-keeps w x ran only position);
      seasons = spares-seasons w x ran only ∙ e.seasons;
      rest = alone;
      unturned = never-join turns_season v w x e.keeps.ran ran e.unturned (spared-turns w x only);
      calm = never-join raises_flag v w x e.keeps.ran ran e.calm calm;
      unhelping = helping ∙ e.unhelping;
      read = ap saw_full (ran-events v w x e.keeps.ran ran) ∙ neither (reads_phase Full) (events v w) (events w x) e.read going;
      found = e.found;
    }

-- the seat resumes the world, and leaves
module _ (v w x : View) (rest : IsAlone v) (unhelping : v.state.helping ≡ false) (drop : Took DropStep v w) (leave : Took LeaveStep w x) where
  drop_ran : Ran v w
  drop_ran = ran-took v w DropStep refl drop

  leave_ran : Ran w x
  leave_ran = ran-took w x LeaveStep refl leave

  pub dropped-nothing : has_nothing w.shape w.state ≡ true
  dropped-nothing = subst (λ (y : View). has_nothing y.shape y.state ≡ true) (sym drop.1.0) rest.rest

  pub left-out : IsOut x
  left-out =
      let helping : w.state.helping ≡ false = ap (λ (y : View). y.state.helping) drop.1.0 ∙ unhelping in
      let raised : w.state.raised ≡ false = ap (λ (y : View). y.state.raised) drop.1.0 in
      subst IsOut (sym leave.1.0)
      (record { bare = and_from (not false && not w.state.raised) (not w.state.helping) (ap not raised) (ap not helping); rest = dropped-nothing })

  pub leaves-stop : LeavesStop v x
  leaves-stop =
      let both = ran-join v w x drop_ran leave_ran in
      let only : Only spares_part v x = ran-only spares_part v w x drop_ran leave_ran (only-after spares_part v w DropStep drop.0 refl drop.1.0) (only-after spares_part w x LeaveStep leave.0 refl leave.1.0) in
      let still : Only (λ step. not (moves_phase step)) v x =
      ran-only (λ step. not (moves_phase step)) v w x drop_ran leave_ran (only-after (λ step. not (moves_phase step)) v w DropStep drop.0 refl drop.1.0) (only-after (λ step. not (moves_phase step)) w x LeaveStep leave.0 refl leave.1.0) in
      let one = events-after v w DropStep drop.0 drop.1.0 in
      let two = events-after w x LeaveStep leave.0 leave.1.0 in
      let all : events v x ≡ event DropStep drop.0 ∷ event LeaveStep leave.0 ∷ [] = ran-events v w x drop_ran leave_ran ∙ (λ i. one i ++ two i) in
      record {
        keeps = spared-keeps v x both only (ap (λ (y : View). y.own.position) leave.1.0 ∙ ap (λ (y : View). y.own.position) drop.1.0);
        seasons = spares-seasons v x both only;
        unturned = spared-turns v x only;
        calm = ap (λ (es : List Entry). never raises_flag es) all;
        unread = ap saw_full all;
        known = λ k. full-kept v x both still k;
        settled = λ s. ap (λ (y : View). y.own.settled) leave.1.0 ∙ (ap (λ (y : View). y.own.settled) drop.1.0 ∙ s);
      }

-- what is read of a full heap while the seat waits is known

know_step : (v : View) (step : Step) (n : ℕ) → watches step ≡ true → IsSeen step n v → KnowsFull v → KnowsFull (after step n v)
know_step v Observe n b seen k = (known-step v Observe n the_phase 5 (inr refl) seen (full-steady (seat_after v.shape v.state Observe n)) k).0
know_step v ReadPhase n b seen k = (known-step v ReadPhase n the_phase 5 (inr refl) seen (full-steady (seat_after v.shape v.state ReadPhase n)) k).0
know_step v step n b seen k = absurd (false≢true b)

know_on : (es : List Entry) (v : View) → all_steps watches es ≡ true → AllSeen es v → KnowsFull v → KnowsFull (after_all es v)
know_on [] v b seen k = k
know_on (e ∷ es) v b seen k =
    let p = and_parts (watches e.step) (all_steps watches es) b in
    know_on es (after e.step e.found v) p.1 seen.1 (know_step v e.step e.found p.0 seen.0 k)

know_here : (v : View) (step : Step) (n : ℕ) → watches step ≡ true → IsSeen step n v → reads_phase Full step n ≡ true → KnowsFull (after step n v)
know_here v ReadPhase n b seen h =
    let five : n ≡ 5 = sym (read-number v n (seen.found refl)) ∙ eqb-true (phase_number (phase_of n)) 5 h in
    subst (λ m. KnowsFull (after ReadPhase m v)) (sym five) (full-read v)
know_here v Observe n b seen h = absurd (false≢true h)
know_here v step n b seen h = absurd (false≢true b)

know_all : (es : List Entry) (v : View) → all_steps watches es ≡ true → AllSeen es v → saw_full es ≡ true → KnowsFull (after_all es v)
know_all [] v b seen h = absurd (false≢true h)
know_all (e ∷ es) v b seen h =
    let p = and_parts (watches e.step) (all_steps watches es) b in
    ⊎_elim (λ a. know_on es (after e.step e.found v) p.1 seen.1 (know_here v e.step e.found p.0 seen.0 a)) (λ a. know_all es (after e.step e.found v) p.1 seen.1 a) (or_cases (reads_phase Full e.step e.found) (saw_full es) h)

reads_know : (v w : View) → Ran v w → Only watches v w → saw_full (events v w) ≡ true → KnowsFull w
reads_know v w ran only h = subst KnowsFull (sym ran.steps) (know_all (events v w) v only ran.seen h)

watches_spare : (step : Step) → watches step ≡ true → spares_part step ≡ true
watches_spare Observe b = refl
watches_spare ReadPhase b = refl
watches_spare step b = absurd (false≢true b)

watches_section : (step : Step) → watches step ≡ true → changes_section step ≡ false
watches_section Observe b = refl
watches_section ReadPhase b = refl
watches_section step b = absurd (false≢true b)

watches_calm : (step : Step) (n : ℕ) → watches step ≡ true → raises_flag step n ≡ false
watches_calm Observe n b = refl
watches_calm ReadPhase n b = refl
watches_calm step n b = absurd (false≢true b)

-- the flag is raised
yours_free : (b : Bool) → Yours ≡ (if b then Theirs else Yours) → b ≡ false
yours_free false e = refl
yours_free true e = absurd (true≢false (ap is_yours e))
  where
    is_yours : Raised → Bool
    is_yours Yours = true
    is_yours Theirs = false

theirs_up : (b : Bool) → Theirs ≡ (if b then Theirs else Yours) → b ≡ true
theirs_up true e = refl
theirs_up false e = absurd (true≢false (ap is_theirs e))
  where
    is_theirs : Raised → Bool
    is_theirs Yours = false
    is_theirs Theirs = true

module _ (n : ℕ) (v w : View) (out : IsOut v) (found : Found RaiseStep n v w) where
  raise_ran : Ran v w
  raise_ran = ran-found v w RaiseStep n refl found

  raise_only : Only spares_part v w
  raise_only = only-after spares_part v w RaiseStep n refl found.0

  raise_keeps : KeepsPart v w
  raise_keeps = spared-keeps v w raise_ran raise_only (ap (λ (x : View). x.own.position) found.0)

  pub raise-unaware : w.state.knows ≡ false
  raise-unaware =
      let f = found.1 in
      let rules = strong f.state f.index v f.whole f.agrees in
      ap (λ (x : View). x.state.knows) found.0 ∙ unless v.state.knows v.state.raised (λ h. rules.knows_is_raised h) (bare-parts v.state out.bare).1

  -- by another seat: it waits
  pub theirs-out : Theirs ≡ (if has_flag n then Theirs else Yours) → IsOut w
  theirs-out h =
      let b = bare-parts v.state out.bare in
      subst IsOut (sym found.0)
      (record { bare = and_from (not v.state.counted && not (not (has_flag n))) (not v.state.helping) (and_from (not v.state.counted) (not (not (has_flag n))) (ap not b.0) (ap not (ap not (theirs_up (has_flag n) h)))) (ap not b.2); rest = out.rest })

  pub theirs-keeps : (u x : View) → KeepsPart u v → Ran w x → Only spares_part w x → x.own.position ≡ w.own.position → KeepsPart u x
  theirs-keeps u x before ran only position = keeps-join u v x before (keeps-join v w x raise_keeps (spared-keeps w x ran only position))

  pub theirs-seasons : (u x : View) → v.own.seasons ≡ u.own.seasons → Ran w x → Only spares_part w x → x.own.seasons ≡ u.own.seasons
  theirs-seasons u x before ran only = spares-seasons w x ran only ∙ (spares-seasons v w raise_ran raise_only ∙ before)

  pub theirs-turns : (u x : View) → Ran u v → never turns_season (events u v) ≡ true → Ran w x → Only spares_part w x → never turns_season (events u x) ≡ true
  theirs-turns u x r before ran only =
      never-join turns_season u v x r (ran-join v w x raise_ran ran) before (never-join turns_season v w x raise_ran ran (spared-turns v w raise_only) (spared-turns w x only))

  -- by this one: the world stops
  pub stops-at :
      (u x : View) → KeepsPart u v → v.own.seasons ≡ u.own.seasons → never turns_season (events u v) ≡ true → Yours ≡ (if has_flag n then Theirs else Yours) → Ran w x → Only watches w x → HasStopped x
      → x.state ≡ record w.state { knows = true; alone = true; phase_seen = x.state.phase_seen } → StopsAt u x
  stops-at u x keeps seasons unturned yours ran only stopped state =
      let spared : Only spares_part w x = only-more watches spares_part watches_spare w x only in
      let own = own-kept watches watches_section w x ran only in
      let later : Ran v x = ran-join v w x raise_ran ran in
      let calm : some_event raises_flag (events w x) ≡ false = none-of watches raises_flag watches_calm (events w x) only in
      let flag : raises_flag RaiseStep n ≡ true = ap not (yours_free (has_flag n) yours) in
      let one : events v x ≡ event RaiseStep n ∷ events w x = ran-events v w x raise_ran ran ∙ ap (λ (es : List Entry). es ++ events w x) (events-after v w RaiseStep n found.0) in
      let all : events u x ≡ events u v ++ (event RaiseStep n ∷ events w x) = ran-events u v x keeps.ran later ∙ ap (λ (es : List Entry). events u v ++ es) one in
      let here : in_stop (events u x) ≡ events w x = ap in_stop all ∙ since-here raises_flag (events u v) (events w x) (event RaiseStep n) flag calm in
      let nothing : has_nothing w.shape w.state ≡ true = subst (λ (y : View). has_nothing y.shape y.state ≡ true) (sym found.0) out.rest in
      record {
        keeps = theirs-keeps u x keeps ran spared (ap (λ o. o.position) own);
        seasons = theirs-seasons u x seasons ran spared;
        stopped = stopped;
        rest = (λ i. has_nothing (ran-shape w x ran i) (state i)) ∙ nothing;
        unturned = theirs-turns u x keeps.ran unturned ran spared;
        unhelping = ap (λ (s : SeatState). s.helping) state ∙ (ap (λ (y : View). y.state.helping) found.0 ∙ (bare-parts v.state out.bare).2);
        raised = ap (some_event raises_flag) all ∙ some-right raises_flag (events u v) (event RaiseStep n ∷ events w x) (or_left (raises_flag RaiseStep n) (some_event raises_flag (events w x)) flag);
        told = λ h. reads_know w x ran only (ap saw_full (sym here) ∙ h);
      }
