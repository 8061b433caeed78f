-- When a seat draws no block: if it knows a phase in which none is handed out, and if it doesn't know that the world is stopped.
use Rattle.std.proofs.Common.{ℕ, ◌≡◌, ◌==◌, ◌⊎◌, List, [], ◌∷◌, ◌++◌, inl, inr, refl, sym, ap, ◌∙◌, subst, Bool, true, false, ◌&&◌, ◌||◌, Option, Some, None, cond, true≢false, ⊎_elim, arith}
use Rattle.std.proofs.lemmas.Bool.{and_from, and_parts, false≢true, or_from}
use Rattle.mark_core.specs.Effects.{seat_after}
use Rattle.mark_core.specs.Layout.{words_of}
use Rattle.mark_core.specs.Places.{the_phase}
use Rattle.mark_core.specs.Seats.{is_phase, phase_number, saw}
use Rattle.mark_core.specs.Steps.{AllTrue, failing_of, first_false}
use Rattle.mark_core.specs.Steps.SweepSteps.{next_block_parts}
use Rattle.mark_core.specs.Steps.WorldSteps.{phase_after}
use Rattle.mark_core.specs.declared.kinds.Phase.{Phase}
use Rattle.mark_core.specs.declared.kinds.Phase.TheVariants.{Clear, Drain, Full, Idle, Marking, Sweep}
use Rattle.mark_core.specs.declared.kinds.Shape.{Shape}
use Rattle.mark_core.specs.declared.kinds.Step.{Step}
use Rattle.mark_core.specs.declared.kinds.Step.TheVariants.{DropStep, JoinHelpStep, LeaveHelpStep, NextBlock, Observe, OpenStep, Pop, RaiseStep, ReadField, ReadPhase, StoreAlloc, StorePhase}
use Rattle.mark_core.specs.declared.seat.SeatState.{SeatState}
use Rattle.mark_core.proofs.Known.{parts_hold, some_none}
use Rattle.mark_core.proofs.Notes.NotesKept.{single-word}
use Rattle.gc_table.specs.Log.{Only, all_steps, events}
use Rattle.gc_table.specs.Notes.{look}
use Rattle.gc_table.specs.Running.{AllSeen, Alone, IsSeen, Ran}
use Rattle.gc_table.specs.Taking.{after}
use Rattle.gc_table.specs.declared.view.Entry.{Entry}
use Rattle.gc_table.specs.declared.view.View.{View}
use Rattle.gc_table.proofs.History.Log.{only-more}
use Rattle.gc_table.proofs.Noticing.{found-noted, known-elsewhere, known-here, known-step, knows-stays, knows-steady, spares-phase}
use Rattle.packet_pools.specs.Fields.{picked}
use Rattle.packet_pools.specs.Seeking.{some_event}
use Rattle.stop_world.proofs.Standing.{bare-admitted}
use Rattle.gc_cycle.specs.Collecting.{HoldsWorld}
use Rattle.gc_cycle.specs.Courses.{TakesCourse, goes_on, phase_stored}
use Rattle.gc_cycle.specs.Finishing.{IsOpen, IsPart, stays_in}
use Rattle.gc_cycle.specs.Sorts.{draws_block}
use Rattle.gc_cycle.proofs.Sequences.{count-none}
use Rattle.seat_steps.specs.Amounts.{DrawsNone}

-- the seat knows that the world is stopped, in a phase that is neither Sweep nor Clear
pub record Stands (v : View) : Type 0 where
  pub knows : v.state.knows ≡ true
  pub phase : ℕ
  pub noted : look the_phase v.known ≡ Some phase
  pub sweepless : is_phase phase Sweep ≡ false
  pub clearless : is_phase phase Clear ≡ false

-- the seat doesn't know that the world is stopped, and has raised no flag
pub record Runs (v : View) : Type 0 where
  pub unaware : v.state.knows ≡ false
  pub unraised : v.state.raised ≡ false

-- the seat is no helper, and stands or runs so
pub record IsApart (v : View) : Type 0 where
  pub unhelping : v.state.helping ≡ false
  pub apart : Stands v ⊎ Runs v

-- neither sweeper nor clearer
no_phase : (k a x y z : Bool) → x ≡ false → z ≡ false → a ≡ false → (((k && x) || (a && y)) || (k && z)) ≡ true → ⊥
no_phase true true x y z p q r e = true≢false r
no_phase true false true y z p q r e = true≢false p
no_phase true false false y true p q r e = true≢false q
no_phase true false false y false p q r e = false≢true e
no_phase false true x y z p q r e = true≢false r
no_phase false false x y z p q r e = false≢true e

no_stop : (k a x y z : Bool) → k ≡ false → a ≡ false → (((k && x) || (a && y)) || (k && z)) ≡ true → ⊥
no_stop true a x y z p r e = true≢false p
no_stop false true x y z p r e = true≢false r
no_stop false false x y z p r e = false≢true e

unspent : (b : Bool) (o : Option ℕ) → cond b (Some 0) o ≡ None → o ≡ None
unspent true o e = absurd (some_none 0 e)
unspent false o e = e

-- a seat that takes a block, and is no helper, knows that the world is stopped, and sweeps or clears
module _ (v : View) (n : ℕ) (unhelping : v.state.helping ≡ false) (s : IsSeen NextBlock n v) where
  unmet : Stands v → ⊥
  unmet t =
      let f = s.found refl in
      let c = f.state.core in
      let w = words_of c.shape c.words in
      let ok : AllTrue (next_block_parts w.phase v.state) = parts_hold 1 (next_block_parts w.phase v.state) (unspent v.state.spent (first_false 1 (next_block_parts w.phase v.state)) (subst (λ (o : Option SeatState). failing_of c o NextBlock ≡ None) f.agrees.seat f.allowed)) in
      let is : w.phase ≡ t.phase = sym (single-word c.shape c.words 1 (omega arith)) ∙ (f.agrees.noted the_phase t.phase t.noted).1 in
      no_phase v.state.knows v.state.admitted (is_phase w.phase Sweep) (saw v.state.phase_seen Sweep) (is_phase w.phase Clear) (ap (λ k. is_phase k Sweep) is ∙ t.sweepless) (ap (λ k. is_phase k Clear) is ∙ t.clearless)
      (bare-admitted f.state f.index v f.whole f.agrees unhelping)
      ok.0

  pub running-draws-none : Runs v → ⊥
  running-draws-none t =
      let f = s.found refl in
      let c = f.state.core in
      let w = words_of c.shape c.words in
      let ok : AllTrue (next_block_parts w.phase v.state) = parts_hold 1 (next_block_parts w.phase v.state) (unspent v.state.spent (first_false 1 (next_block_parts w.phase v.state)) (subst (λ (o : Option SeatState). failing_of c o NextBlock ≡ None) f.agrees.seat f.allowed)) in
      no_stop v.state.knows v.state.admitted (is_phase w.phase Sweep) (saw v.state.phase_seen Sweep) (is_phase w.phase Clear) t.unaware (bare-admitted f.state f.index v f.whole f.agrees unhelping) ok.0

undrawn : (v : View) (n : ℕ) → IsApart v → IsSeen NextBlock n v → ⊥
undrawn v n i s = ⊎_elim (λ (t : Stands v). unmet v n i.unhelping s t) (λ (t : Runs v). running-draws-none v n i.unhelping s t) i.apart

-- a step of a seat that goes on without a sweep, and without clearing marks
abbrev keeps_apart : Step → Bool
keeps_apart (StorePhase Sweep) = false
keeps_apart (StorePhase Clear) = false
keeps_apart step = goes_on step

keeps_goes : (step : Step) → keeps_apart step ≡ true → goes_on step ≡ true
keeps_goes (StorePhase Sweep) e = absurd (false≢true e)
keeps_goes (StorePhase Clear) e = absurd (false≢true e)
keeps_goes step e = e

pub unhelping-on : (sh : Shape) (s : SeatState) (step : Step) (n : ℕ) → goes_on step ≡ true → s.helping ≡ false → (seat_after sh s step n).helping ≡ false
unhelping-on sh s JoinHelpStep n a e = absurd (false≢true a)
unhelping-on sh s LeaveHelpStep n a e = absurd (false≢true a)
unhelping-on sh s step n a e = e

unaware_on : (sh : Shape) (s : SeatState) (step : Step) (n : ℕ) → s.knows ≡ false → s.raised ≡ false → (seat_after sh s step n).knows ≡ false
unaware_on sh s Observe n k r = rw (k, r) refl
unaware_on sh s DropStep n k r = refl
unaware_on sh s step n k r = k

unraised_on : (sh : Shape) (s : SeatState) (step : Step) (n : ℕ) → goes_on step ≡ true → s.raised ≡ false → (seat_after sh s step n).raised ≡ false
unraised_on sh s RaiseStep n a r = absurd (false≢true a)
unraised_on sh s DropStep n a r = refl
unraised_on sh s step n a r = r

pub runs-on : (v : View) (step : Step) (n : ℕ) → goes_on step ≡ true → Runs v → Runs (after step n v)
runs-on v step n g t = record { unaware = unaware_on v.shape v.state step n t.unaware t.unraised; unraised = unraised_on v.shape v.state step n g t.unraised }

-- a try to begin a cycle leaves such a phase
tried : (n : ℕ) → is_phase n Sweep ≡ false → is_phase n Clear ≡ false → (is_phase (phase_after n Marking) Sweep ≡ false) × (is_phase (phase_after n Marking) Clear ≡ false)
tried n s c = by (is_phase n Idle)
  where
    by : (b : Bool) → (is_phase (cond b 1 n) Sweep ≡ false) × (is_phase (cond b 1 n) Clear ≡ false)
    by true = (refl, refl)
    by false = (s, c)

module _ (v : View) (n : ℕ) (t : Stands v) where
  -- the phase was moved to this one
  moved_to : (to : Phase) → is_phase (phase_after n to) Sweep ≡ false → is_phase (phase_after n to) Clear ≡ false → Stands (after (StorePhase to) n v)
  moved_to to s c =
      record {
        knows = t.knows;
        phase = phase_after n to;
        noted = (known-here v (StorePhase to) n the_phase refl (knows-steady (seat_after v.shape v.state (StorePhase to) n) (phase_after n to) t.knows)).0;
        sweepless = s;
        clearless = c;
      }

  opened : Stands (after OpenStep n v)
  opened =
      record {
        knows = t.knows;
        phase = t.phase;
        noted = (known-elsewhere v OpenStep n the_phase t.phase refl (knows-steady (seat_after v.shape v.state OpenStep n) t.phase t.knows) t.noted).0;
        sweepless = t.sweepless;
        clearless = t.clearless;
      }

stands_on : (v : View) (step : Step) (n : ℕ) → keeps_apart step ≡ true → IsSeen step n v → Stands v → Stands (after step n v) ⊎ Runs (after step n v)
stands_on v DropStep n a s t = inr (record { unaware = refl; unraised = refl })
stands_on v OpenStep n a s t = inl (opened v n t)
stands_on v (StorePhase Idle) n a s t = inl (moved_to v n t Idle refl refl)
stands_on v (StorePhase Drain) n a s t = inl (moved_to v n t Drain refl refl)
stands_on v (StorePhase Full) n a s t = inl (moved_to v n t Full refl refl)
stands_on v (StorePhase Marking) n a s t =
    let is = found-noted v (StorePhase Marking) n t.phase the_phase (s.found refl) refl t.noted in
    let left = tried n (ap (λ k. is_phase k Sweep) is ∙ t.sweepless) (ap (λ k. is_phase k Clear) is ∙ t.clearless) in
    inl (moved_to v n t Marking left.0 left.1)
stands_on v (StorePhase Sweep) n a s t = absurd (false≢true a)
stands_on v (StorePhase Clear) n a s t = absurd (false≢true a)
stands_on v step n a s t =
    let knows = knows-stays v.shape v.state step n refl t.knows in
    inl
    (record {
      knows = knows;
      phase = t.phase;
      noted = (known-step v step n the_phase t.phase (spares-phase v.shape v.state step refl) s (knows-steady (seat_after v.shape v.state step n) t.phase knows) t.noted).0;
      sweepless = t.sweepless;
      clearless = t.clearless;
    })

apart_on : (v : View) (step : Step) (n : ℕ) → keeps_apart step ≡ true → IsSeen step n v → IsApart v → IsApart (after step n v)
apart_on v step n a s i =
    record {
      unhelping = unhelping-on v.shape v.state step n (keeps_goes step a) i.unhelping;
      apart = ⊎_elim (λ (t : Stands v). stands_on v step n a s t) (λ (t : Runs v). inr (runs-on v step n (keeps_goes step a) t)) i.apart;
    }

draws_none : (blocks : ℕ) (v : View) (step : Step) (n : ℕ) → IsApart v → IsSeen step n v → draws_block blocks step n ≡ false
draws_none blocks v NextBlock n i s = absurd (undrawn v n i s)
draws_none blocks v step n i s = refl

all_undrawn : (blocks : ℕ) (es : List Entry) (v : View) → all_steps keeps_apart es ≡ true → AllSeen es v → IsApart v → some_event (draws_block blocks) es ≡ false
all_undrawn blocks [] v a s i = refl
all_undrawn blocks (e ∷ es) v a s i =
    let p = and_parts (keeps_apart e.step) (all_steps keeps_apart es) a in
    or_from (draws_block blocks e.step e.found) (some_event (draws_block blocks) es) (draws_none blocks v e.step e.found i s.0) (all_undrawn blocks es (after e.step e.found v) p.1 s.1 (apart_on v e.step e.found p.0 s.0 i))

-- a seat that is alone in a phase stands so
pub alone-apart : (p : Phase) (v : View) → is_phase (phase_number p) Sweep ≡ false → is_phase (phase_number p) Clear ≡ false → v.state.helping ≡ false → Alone p v → IsApart v
alone-apart p v s c h a = record { unhelping = h; apart = inl (record { knows = a.knows; phase = phase_number p; noted = a.phase; sweepless = s; clearless = c }) }

-- so does one that drains beside helpers
pub open-apart : (v : View) → v.state.helping ≡ false → IsOpen Drain v → IsApart v
open-apart v h o = record { unhelping = h; apart = inl (record { knows = o.knows; phase = phase_number Drain; noted = o.phase.0; sweepless = refl; clearless = refl }) }

other : (p q : Phase) → (phase_number p == phase_number p) ≡ true → (phase_number p == phase_number q) ≡ false → p ≡ q → ⊥
other p q s n e = true≢false (sym s ∙ (ap (λ (r : Phase). phase_number p == phase_number r) e ∙ n))

-- one that has stopped the world does, in the phase that the mutators left
pub holds-apart : (v : View) → HoldsWorld v → IsApart v
holds-apart v h = by h.phase h.left h.alone
  where
    by : (p : Phase) → (p ≡ Idle) ⊎ (p ≡ Marking) ⊎ (p ≡ Full) → Alone p v → IsApart v
    by Idle l a = alone-apart Idle v refl refl h.unhelping a
    by Marking l a = alone-apart Marking v refl refl h.unhelping a
    by Drain l a = alone-apart Drain v refl refl h.unhelping a
    by Full l a = alone-apart Full v refl refl h.unhelping a
    by Sweep l a = absurd (⊎_elim (λ e. other Sweep Idle refl refl e) (λ m. ⊎_elim (λ e. other Sweep Marking refl refl e) (λ e. other Sweep Full refl refl e) m) l)
    by Clear l a = absurd (⊎_elim (λ e. other Clear Idle refl refl e) (λ m. ⊎_elim (λ e. other Clear Marking refl refl e) (λ e. other Clear Full refl refl e) m) l)

-- a part of a stop
part_keeps : (p : Phase) (step : Step) → stays_in p step ≡ true → keeps_apart step ≡ true
part_keeps p (StorePhase to) e = absurd (false≢true e)
part_keeps p ReadPhase e = absurd (false≢true e)
part_keeps p DropStep e = absurd (false≢true e)
part_keeps p StoreAlloc e = refl
part_keeps p (Pop packet) e = refl
part_keeps p (ReadField c i) e = refl
part_keeps p step e = e

pub stays-draws-none : (p : Phase) (v w : View) → Ran v w → Only (stays_in p) v w → IsApart v → DrawsNone v w
stays-draws-none p v w r o i = λ blocks. count-none (draws_block blocks) (events v w) (all_undrawn blocks (events v w) v (only-more (stays_in p) keeps_apart (part_keeps p) v w o) r.seen i)

pub part-draws-none : (p : Phase) (v w : View) → IsPart p v w → IsApart v → DrawsNone v w
part-draws-none p v w h i = stays-draws-none p v w h.ran h.only i

-- a course through such phases
abbrev pub all_apart : List Phase → Bool
all_apart [] = true
all_apart (Sweep ∷ ps) = false
all_apart (Clear ∷ ps) = false
all_apart (p ∷ ps) = all_apart ps

step_keeps : (step : Step) (n : ℕ) (ps : List Phase) → goes_on step ≡ true → all_apart (phase_stored step n ++ ps) ≡ true → (keeps_apart step ≡ true) × (all_apart ps ≡ true)
step_keeps (StorePhase Idle) n ps g a = (refl, a)
step_keeps (StorePhase Marking) n ps g a = (refl, a)
step_keeps (StorePhase Drain) n ps g a = (refl, a)
step_keeps (StorePhase Full) n ps g a = (refl, a)
step_keeps (StorePhase Sweep) n ps g a = absurd (false≢true a)
step_keeps (StorePhase Clear) n ps g a = absurd (false≢true a)
step_keeps step n ps g a = (g, a)

course_keeps : (es : List Entry) → all_steps goes_on es ≡ true → all_apart (picked phase_stored es) ≡ true → all_steps keeps_apart es ≡ true
course_keeps [] g a = refl
course_keeps (e ∷ es) g a =
    let p = and_parts (goes_on e.step) (all_steps goes_on es) g in
    let q = step_keeps e.step e.found (picked phase_stored es) p.0 a in
    and_from (keeps_apart e.step) (all_steps keeps_apart es) q.0 (course_keeps es p.1 q.1)

pub course-draws-none : (ps : List Phase) (ss : List Step) (v w : View) → all_apart ps ≡ true → TakesCourse ps ss v w → IsApart v → DrawsNone v w
course-draws-none ps ss v w a c i =
    λ blocks. count-none (draws_block blocks) (events v w) (all_undrawn blocks (events v w) v (course_keeps (events v w) c.only (ap all_apart c.moved ∙ a)) c.changed.ran.seen i)
