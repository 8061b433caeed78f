-- What the catalogue's seat knows once it has stopped the world: it is at rest, and it reads the phase.
use Rattle.std.proofs.Common.{ℕ, ◌≡◌, ◌||◌, List, refl, sym, ap, ◌∙◌, subst, Bool, true, false, not, Option, Some, eq-eqb, ◌++◌, ◌&&◌, [], ◌∷◌, if◌then◌else◌, ◌+◌, arith, None}
use Rattle.std.specs.Prelude.{unwrap_or}
use Rattle.std.proofs.lemmas.Bool.{false≢true, not-true, or_left, or_right}
use Rattle.mark_core.specs.Effects.{seat_after}
use Rattle.mark_core.specs.Seats.{phase_number, phase_of, saw}
use Rattle.mark_core.specs.Steps.WorldSteps.{has_nothing}
use Rattle.mark_core.specs.declared.kinds.Phase.{Phase}
use Rattle.mark_core.specs.declared.kinds.Phase.TheVariants.{Idle, Marking, Drain, Sweep, Clear, Full}
use Rattle.mark_core.specs.declared.kinds.Shape.{Shape}
use Rattle.mark_core.specs.declared.kinds.Step.{Step}
use Rattle.mark_core.specs.declared.kinds.Step.TheVariants.{JoinHelpStep, LeaveHelpStep, ReadPhase, NextSeason, StoreNew, StorePhase, StoreField, StoreValue, StoreRoot, ExchangeField, ExchangeValue, StoreSlot, AddStat, PublishCells, RaiseStep, ReleaseBlock, HoldRoot}
use Rattle.mark_core.specs.declared.seat.SeatState.{SeatState}
use Rattle.gc_table.specs.Running.{Alone, Ran, ends_alone}
use Rattle.gc_table.specs.Seats.{Found}
use Rattle.gc_table.specs.declared.view.Entry.{Entry}
use Rattle.gc_table.specs.declared.view.View.{View}
use Rattle.gc_table.proofs.History.Log.{events-after, only-after, only-more, events-none, only-none}
use Rattle.gc_table.proofs.Noticing.{alone-kept}
use Rattle.gc_table.proofs.Running.{ran-found, ran-join, state-kept, ran-refl, ran-shape}
use Rattle.stop_world.specs.Waiting.{HasStopped, is_mutators}
use Rattle.stop_world.proofs.Passing.{phase-read, read-number}
use Rattle.gc_cycle.specs.Events.{never, Sort, since_last}
use Rattle.gc_cycle.specs.Finishing.{finishes}
use Rattle.gc_cycle.specs.Polling.{saw_full}
use Rattle.gc_cycle.specs.Sorts.{raises_flag, moves_to, stores_new}
use Rattle.gc_cycle.specs.Sparing.{spares_part, fills_part}
use Rattle.warehouse.specs.Turns.{LeavesNoCycle, KeepsPart, turns_season}
use Rattle.gc_table.specs.Log.{Only, events}
use Rattle.gc_table.specs.Taking.{after}
use Rattle.packet_pools.specs.Seeking.{some_event}
use Rattle.play_end.specs.Playing.{leaves_play}
use Rattle.play_end.proofs.Commands.{still-then}
use Rattle.play_end.proofs.Runs.{still-run}
use Rattle.warehouse.proofs.Counting.{never-of, fills-stores, fills-uncounted, spares-fills, spares-seasons, stored-none, stores_none}
use Rattle.warehouse.specs.Pacing.{Paces}
use Rattle.warehouse.specs.Playing.{Acts, Stays, DoesNothing}
use Rattle.warehouse.proofs.Pacing.{paces-none, paces-retired}
use Rattle.warehouse.specs.Storing.{stores_in}
use Rattle.gc_cycle.specs.Standing.{KeepsSeat}
use Rattle.cache_refills.specs.Stops.{may_stop, stops_without_cause}
use Rattle.cache_refills.proofs.Refills.Rounds.{unfull as fills_none}
use Rattle.cache_refills.proofs.Refills.Payment.{never-run as never-join}
use Rattle.gc_table.specs.declared.view.SectionState.{SectionState}
use Rattle.alloc_cache.specs.declared.cache.Cache.{Cache}
use Rattle.gc_cycle.specs.Answering.{HasCache, retires}
use Rattle.gc_cycle.specs.Statistics.{GivesUp}

-- What the calls of a turn leave of the section.
-- What the calls of the collector leave, by the clauses that are asked of them.
pub spares-leaves : (fields : ℕ) (step : Step) → spares_part step ≡ true → leaves_play fields step ≡ true
spares-leaves fields (StoreField v i w) b = absurd (false≢true b)
spares-leaves fields (StoreValue v n) b = absurd (false≢true b)
spares-leaves fields (StoreRoot v r) b = absurd (false≢true b)
spares-leaves fields (HoldRoot v r) b = absurd (false≢true b)
spares-leaves fields (ExchangeField v i x y) b = absurd (false≢true b)
spares-leaves fields (ExchangeValue v m n) b = absurd (false≢true b)
spares-leaves fields (StoreSlot k r) b = absurd (false≢true b)
spares-leaves fields (StoreNew c part word) b = absurd (false≢true b)
spares-leaves fields (StorePhase to) b = b
spares-leaves fields step b = refl

pub stays-spared : (v w : View) → Ran v w → Only spares_part v w → KeepsSeat v w → Stays v w
stays-spared v w ran only keeps = record { still = still-run v w ran (only-more spares_part (leaves_play v.shape.fields) (spares-leaves v.shape.fields) v w only); made = keeps.made; shape = ran-shape v w ran }

pub stays-join : (u v w : View) → Stays u v → Stays v w → Stays u w
stays-join u v w a b =
    record {
      still = record { heap = b.still.heap ∙ a.still.heap; turns = b.still.turns ∙ a.still.turns; places = b.still.places ∙ a.still.places; full = b.still.full ∙ a.still.full };
      made = b.made ∙ a.made;
      shape = b.shape ∙ a.shape;
    }

or_none : (a b : Bool) → not (a || b) ≡ true → (a ≡ false) × (not b ≡ true)
or_none true b e = absurd (false≢true e)
or_none false b e = (refl, e)

calm : (sh : Shape) (since es : List Entry) → never raises_flag es ≡ true → stops_without_cause sh since es ≡ 0
calm sh since [] b = refl
calm sh since (e ∷ es) b =
    let p = or_none (raises_flag e.step e.found) (some_event raises_flag es) b in
    let later = stops_without_cause sh (if stores_new e.step e.found then [] else since ++ e ∷ []) es in
    ap (λ r. (if r && not (may_stop sh since) then 1 else 0) + later) p.0 ∙ plus later ∙ calm sh (if stores_new e.step e.found then [] else since ++ e ∷ []) es p.1
  where
    plus : (m : ℕ) → 0 + m ≡ m
    plus m = omega arith

-- what leaves a part stores nothing
pub spares-stores : (step : Step) → spares_part step ≡ true → stores_none step ≡ true
spares-stores step b = fills-stores step (spares-fills step b)

pub stored-spared : (season : ℕ) (v w : View) → Only spares_part v w → stores_in season v (events v w) ≡ true
stored-spared season v w only = stored-none season (events v w) v (only-more spares_part stores_none spares-stores v w only)

pub acts-calm : (season : ℕ) (v w : View) → Ran v w → Only spares_part v w → never raises_flag (events v w) ≡ true → Paces v w → Acts season 0 0 v w
acts-calm season v w ran only b paced =
    record {
      ran = ran;
      polled = omega arith;
      stopped = λ since. omega (arith, calm v.shape since (events v w) b);
      stored = stored-spared season v w only;
      uncounted = fills-uncounted (events v w) (only-more spares_part fills_part spares-fills v w only);
      seasons = spares-seasons v w ran only;
      paced = paced;
    }

-- a call that leaves the part, asks for no stop, and changes the numbers as it should
pub waits-calm : (v w : View) → Ran v w → Only spares_part v w → never raises_flag (events v w) ≡ true → Paces v w → DoesNothing v w
waits-calm v w ran only b paced = λ season. acts-calm season v w ran only b paced

pub stays-none : (v : View) → Stays v v
stays-none v = record { still = record { heap = refl; turns = refl; places = refl; full = refl }; made = refl; shape = refl }

pub waits-none : (v : View) → DoesNothing v v
waits-none v = waits-calm v v (ran-refl v) (only-none spares_part v) (ap (λ (es : List Entry). never raises_flag es) (events-none v)) (paces-none v)

-- Giving a cache up leaves the part that is played.
retires-spares : (step : Step) → retires step ≡ true → spares_part step ≡ true
retires-spares (AddStat which by down) e = e
retires-spares PublishCells e = refl
retires-spares ReleaseBlock e = refl
retires-spares step e = absurd (false≢true e)

retires-calm : (step : Step) (n : ℕ) → retires step ≡ true → raises_flag step n ≡ false
retires-calm RaiseStep n e = absurd (false≢true e)
retires-calm step n e = refl

pub retired-waits : (o : Option Cache) (v w : View) → HasCache o v → Ran v w → Only retires v w → w.state ≡ record v.state { cache = None } → GivesUp o None v w → DoesNothing v w
retired-waits o v w had ran only state gives =
    waits-calm v w ran (only-more retires spares_part retires-spares v w only) (never-of retires raises_flag retires-calm (events v w) only) (paces-retired o v w had only state gives)

pub retired-stays : (v w : View) → Ran v w → w.state ≡ record v.state { cache = None } → w.own ≡ v.own → Stays v w
retired-stays v w ran state own =
    record {
      still =
          record {
            heap = ap (λ (o : SectionState). o.meaning.heap) own;
            turns = ap (λ (o : SectionState). o.history) own;
            places = ap (λ (o : SectionState). o.places) own;
            full = ap (λ (o : SectionState). o.full) own;
          };
      made = ap (λ (s : SeatState). s.made) state;
      shape = ran-shape v w ran;
    }

turns_none : (step : Step) (n : ℕ) → spares_part step ≡ true → turns_season step n ≡ false
turns_none NextSeason n b = absurd (false≢true b)
turns_none step n b = refl

made_same : (sh : Shape) (s : SeatState) (step : Step) (old : ℕ) → spares_part step ≡ true → (seat_after sh s step old).made ≡ s.made
made_same sh s (StoreNew c part word) old b = absurd (false≢true b)
made_same sh s step old b = refl

pub seasons-step : (x : View) (step : Step) (n : ℕ) → spares_part step ≡ true → (after step n x).own.seasons ≡ x.own.seasons
seasons-step x NextSeason n b = absurd (false≢true b)
seasons-step x step n b = refl

pub spared-keeps : (v w : View) → Ran v w → Only spares_part v w → w.own.position ≡ v.own.position → KeepsPart v w
spared-keeps v w ran only position =
    record {
      ran = ran;
      still = still-run v w ran (only-more spares_part (leaves_play v.shape.fields) (spares-leaves v.shape.fields) v w only);
      position = position;
      made = state-kept (λ (s : SeatState). s.made) spares_part made_same v w ran only;
      unfilled = never-of spares_part (moves_to Full) fills_none (events v w) only;
    }

pub spared-turns : (v w : View) → Only spares_part v w → never turns_season (events v w) ≡ true
spared-turns v w only = never-of spares_part turns_season turns_none (events v w) only

pub keeps-join : (u v w : View) → KeepsPart u v → KeepsPart v w → KeepsPart u w
keeps-join u v w a b =
    record {
      ran = ran-join u v w a.ran b.ran;
      still = still-then u.own v.own w.own a.still b.still;
      position = b.position ∙ a.position;
      made = b.made ∙ a.made;
      unfilled = never-join (moves_to Full) u v w a.ran b.ran a.unfilled b.unfilled;
    }

same_some : (f : Sort) (xs ys : List Entry) → some_event f ys ≡ false → some_event f (xs ++ ys) ≡ some_event f xs
same_some f [] ys b = b
same_some f (x ∷ xs) ys b = ap (λ c. f x.step x.found || c) (same_some f xs ys b)

-- after the last such event come those that came since
pub since-here : (f : Sort) (xs ys : List Entry) (e : Entry) → f e.step e.found ≡ true → some_event f ys ≡ false → since_last f (xs ++ e ∷ ys) ≡ ys
since-here f [] ys e a b = ap (λ c. if c && not (some_event f ys) then ys else since_last f ys) a ∙ ap (λ c. if not c then ys else since_last f ys) b
since-here f (x ∷ xs) ys e a b =
    ap (λ c. if f x.step x.found && not c then xs ++ e ∷ ys else since_last f (xs ++ e ∷ ys)) (there xs) ∙ other (f x.step x.found) ∙ since-here f xs ys e a b
  where
    there : (zs : List Entry) → some_event f (zs ++ e ∷ ys) ≡ true
    there [] = ap (λ c. c || some_event f ys) a
    there (z ∷ zs) = or_right (f z.step z.found) (some_event f (zs ++ e ∷ ys)) (there zs)

    other : (d : Bool) → (if d && not true then xs ++ e ∷ ys else since_last f (xs ++ e ∷ ys)) ≡ since_last f (xs ++ e ∷ ys)
    other true = refl
    other false = refl

phase_back : (p : Phase) → phase_of (phase_number p) ≡ p
phase_back Idle = refl
phase_back Marking = refl
phase_back Drain = refl
phase_back Sweep = refl
phase_back Clear = refl
phase_back Full = refl

-- the phase is read in the stop
module _ (n : ℕ) (v w : View) (stopped : HasStopped v) (rest : has_nothing v.shape v.state ≡ true) (found : Found ReadPhase n v w) where
  read_ran : Ran v w
  read_ran = ran-found v w ReadPhase n refl found

  read_alone : Alone stopped.phase w
  read_alone = alone-kept stopped.phase (λ step. not (ends_alone step)) (λ step b. not-true (ends_alone step) b) v w read_ran (only-after (λ step. not (ends_alone step)) v w ReadPhase n refl found.0) stopped.alone

  same_number : phase_number stopped.phase ≡ n
  same_number =
      ap (λ (o : Option ℕ). unwrap_or o 0) (sym read_alone.phase ∙ (phase-read v w n (or_left v.state.knows v.state.admitted stopped.alone.knows) found).0) ∙ read-number v n found.1

  pub read-phase : phase_of n ≡ stopped.phase
  read-phase = ap phase_of (sym same_number) ∙ phase_back stopped.phase

  pub read-alone : (p : Phase) → phase_of n ≡ p → Alone p w
  read-alone p is = subst (λ q. Alone q w) (sym read-phase ∙ is) read_alone

  pub read-rest : has_nothing w.shape w.state ≡ true
  read-rest = subst (λ (x : View). has_nothing x.shape x.state ≡ true) (sym found.0) rest

  read_keeps : KeepsPart v w
  read_keeps = spared-keeps v w read_ran (only-after spares_part v w ReadPhase n refl found.0) (ap (λ (x : View). x.own.position) found.0)

  pub ends-read : (b : Bool) (p : Phase) → phase_of n ≡ p → saw (Some p) Full ≡ b → LeavesNoCycle b v w
  ends-read b p is full =
      let one = events-after v w ReadPhase n found.0 in
      let a = read-alone p is in
      record {
        keeps = read_keeps;
        seasons = ap (λ (x : View). x.own.seasons) found.0;
        rest = record { knows = a.knows; alone = a.alone; rest = read-rest };
        unturned = ap (λ (es : List Entry). never turns_season es) one;
        calm = ap (λ (es : List Entry). never raises_flag es) one;
        unhelping = ap (λ (x : View). x.state.helping) found.0;
        read = ap saw_full one ∙ ap (λ q. saw (Some q) Full || false) is ∙ or_none (saw (Some p) Full) ∙ full;
        found = λ known. sym full ∙ eq-eqb (phase_number p) 5 (ap phase_number (sym is ∙ read-phase) ∙ ap (λ (o : Option ℕ). unwrap_or o 0) (sym stopped.alone.phase ∙ known));
      }
    where
      or_none : (c : Bool) → (c || false) ≡ c
      or_none true = refl
      or_none false = refl

-- if it is neither Full nor Marking, no cycle is under way
pub idle-left : (p : Phase) → is_mutators p ≡ true → (p ≡ Full → ⊥) → (p ≡ Marking → ⊥) → p ≡ Idle
idle-left Idle m f g = refl
idle-left Marking m f g = absurd (g refl)
idle-left Full m f g = absurd (f refl)
idle-left Drain m f g = absurd (false≢true m)
idle-left Sweep m f g = absurd (false≢true m)
idle-left Clear m f g = absurd (false≢true m)

pub helping_same : (sh : Shape) (s : SeatState) (step : Step) (old : ℕ) → finishes step ≡ true → (seat_after sh s step old).helping ≡ s.helping
helping_same sh s JoinHelpStep old b = absurd (false≢true b)
helping_same sh s LeaveHelpStep old b = absurd (false≢true b)
helping_same sh s step old b = refl
