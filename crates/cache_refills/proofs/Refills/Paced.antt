-- What a mutator knows of the cycle on the way to a block: none was due, or one is marking.
use Rattle.std.proofs.Common.{ℕ, ◌≡◌, ◌≤◌, zero, suc, List, [], ◌∷◌, ◌++◌, arith, refl, sym, ap, ◌∙◌, subst, Bool, true, false, not, ◌&&◌, ◌||◌, Some, None, Option, ⊎_elim, ◌⊎◌, inl, inr}
use Rattle.std.proofs.lemmas.Bool.{and_from, and_parts, cases_Bool, false≢true, or_cases, or_left, or_right, true≢false}
use Rattle.mark_core.specs.Cells.{or_else}
use Rattle.mark_core.specs.Effects.{seat_after}
use Rattle.mark_core.specs.Notes.{steady, word_at}
use Rattle.mark_core.specs.Numbers.{free_count, last_count, rescanned_count}
use Rattle.mark_core.specs.Places.{the_phase}
use Rattle.mark_core.specs.Seats.{is_phase}
use Rattle.mark_core.specs.Rules.WorldRules.{is_stopped_phase}
use Rattle.mark_core.specs.declared.kinds.Phase.TheVariants.{Full, Marking}
use Rattle.mark_core.specs.declared.kinds.Shape.{Shape}
use Rattle.mark_core.specs.declared.kinds.Step.{Step}
use Rattle.mark_core.specs.declared.kinds.Step.TheVariants.{AddStat, ClaimBlock, ReadCount, ReadFree, ReadPhase, ReadStat, ReleaseBlock, StorePhase}
use Rattle.mark_core.specs.declared.seat.SeatState.{SeatState}
use Rattle.mark_core.proofs.Blocks.BlocksStopped.{still-known}
use Rattle.mark_core.proofs.Notes.NotesBeside.{of-sits, sits}
use Rattle.mark_core.proofs.Notes.NotesKept.{single-word}
use Rattle.gc_table.specs.Log.{all_steps, events, Only}
use Rattle.gc_table.specs.Rule.{Agrees, IsState, KnowsFull}
use Rattle.gc_table.specs.Running.{AllSeen, ends_alone, IsSeen, Known, Ran, after_all}
use Rattle.gc_table.specs.Taking.{after, Finds}
use Rattle.gc_table.specs.TableState.{TableState}
use Rattle.gc_table.specs.declared.view.Entry.{Entry}
use Rattle.gc_table.specs.declared.view.View.{View}
use Rattle.gc_table.proofs.History.Log.{only-more}
use Rattle.gc_table.proofs.Noticing.{found-noted, known-here, known-step, spares-phase}
use Rattle.gc_table.proofs.Running.{run-keeps}
use Rattle.gc_table.proofs.Joining.{full-steady as steady-full}
use Rattle.packet_pools.specs.Seeking.{some_event}
use Rattle.alloc_cache.specs.Claiming.{seeks_block}
use Rattle.cache_refills.specs.Pace.Pacing.{due_by, kicks, KicksOff, last_read, not_due, read_of, tries_marking, was_not_due}
use Rattle.cache_refills.specs.Refilling.{IsPaced, KnowsCycle, looks_for_end, prepares}

pub steady-marking : (s : SeatState) → s.active ≡ true → steady s the_phase 1 ≡ true
steady-marking s a = or_right s.alone _ (or_left (s.knows || s.admitted || (s.active && is_phase 1 Marking)) (is_phase 1 Full) (or_right (s.knows || s.admitted) _ (and_from s.active true a refl)))

active-kept : (sh : Shape) (s : SeatState) (step : Step) (old : ℕ) → prepares step ≡ true → (seat_after sh s step old).active ≡ s.active
active-kept sh s (ReadStat which) old e = refl
active-kept sh s ReadCount old e = refl
active-kept sh s (StorePhase to) old e = refl
active-kept sh s (ClaimBlock b) old e = refl
active-kept sh s ReadFree old e = refl
active-kept sh s ReleaseBlock old e = refl
active-kept sh s (AddStat which by down) old e = refl
active-kept sh s step old e = absurd (false≢true e)

left-number : (n : ℕ) → n ≤ 5 → is_stopped_phase n ≡ false → (n ≡ 0) ⊎ ((n ≡ 1) ⊎ (n ≡ 5))
left-number zero h e = inl refl
left-number (suc zero) h e = inr (inl refl)
left-number (suc (suc zero)) h e = absurd (true≢false e)
left-number (suc (suc (suc zero))) h e = absurd (true≢false e)
left-number (suc (suc (suc (suc zero)))) h e = absurd (true≢false e)
left-number (suc (suc (suc (suc (suc zero))))) h e = inr (inr refl)
left-number (suc (suc (suc (suc (suc (suc n)))))) h e = absurd (omega (arith, h))

-- while a mutator is active the phase is none of those of a stop
active-number : (x : TableState) (i : ℕ) (v : View) (n : ℕ) → IsState x → Agrees x i v → v.state.active ≡ true → word_at x.core.shape x.core.words the_phase ≡ n → (n ≡ 0) ⊎ ((n ≡ 1) ⊎ (n ≡ 5))
active-number x i v n k a active w =
    let c = x.core in
    let is = sym (single-word c.shape c.words 1 (omega arith)) ∙ w in
    let still : is_stopped_phase n ≡ false =
    ⊎_elim
    (λ (h : is_stopped_phase n ≡ true).
    let known = k.core.sound.phases.stopped (ap is_stopped_phase is ∙ h) in
    absurd (true≢false (sym active ∙ of-sits (λ (s : SeatState). s.active ≡ false) c i v.state (sits c i v.state a.seat) (still-known c k.core known))))
    (λ (h : is_stopped_phase n ≡ false). h)
    (cases_Bool (is_stopped_phase n)) in
    left-number n (subst (λ m. m ≤ 5) is k.core.formed.phase) still

pub active-read : (v : View) (n : ℕ) → Finds ReadPhase n v → v.state.active ≡ true → (n ≡ 0) ⊎ ((n ≡ 1) ⊎ (n ≡ 5))
active-read v n f a = active-number f.state f.index v n f.whole f.agrees a f.word

active-tried : (v : View) (n : ℕ) → Finds (StorePhase Marking) n v → v.state.active ≡ true → (n ≡ 0) ⊎ ((n ≡ 1) ⊎ (n ≡ 5))
active-tried v n f a = active-number f.state f.index v n f.whole f.agrees a f.word

-- a try to begin a cycle leaves one marking, or the heap full
tried-knows : (v : View) (n : ℕ) → Finds (StorePhase Marking) n v → v.state.active ≡ true → KnowsCycle (after (StorePhase Marking) n v)
tried-knows v n f a =
    ⊎_elim
    (λ (z : n ≡ 0). inl (subst (λ k. Known (after (StorePhase Marking) k v) the_phase 1) (sym z) (known-here v (StorePhase Marking) 0 the_phase refl (steady-marking (seat_after v.shape v.state (StorePhase Marking) 0) a))))
    (λ (r : (n ≡ 1) ⊎ (n ≡ 5)).
    ⊎_elim
    (λ (z : n ≡ 1). inl (subst (λ k. Known (after (StorePhase Marking) k v) the_phase 1) (sym z) (known-here v (StorePhase Marking) 1 the_phase refl (steady-marking (seat_after v.shape v.state (StorePhase Marking) 1) a))))
    (λ (z : n ≡ 5). inr (subst (λ k. Known (after (StorePhase Marking) k v) the_phase 5) (sym z) (known-here v (StorePhase Marking) 5 the_phase refl (steady-full (seat_after v.shape v.state (StorePhase Marking) 5)))))
    r)
    (active-tried v n f a)

cycle-other : (v : View) (step : Step) (n : ℕ) → ends_alone step ≡ false → (seat_after v.shape v.state step n).active ≡ v.state.active → IsSeen step n v → v.state.active ≡ true → KnowsCycle v → KnowsCycle (after step n v)
cycle-other v step n quiet same s a k =
    let w = seat_after v.shape v.state step n in
    ⊎_elim
    (λ (h : Known v the_phase 1). inl (known-step v step n the_phase 1 (spares-phase v.shape v.state step quiet) s (steady-marking w (same ∙ a)) h.0))
    (λ (h : Known v the_phase 5). inr (known-step v step n the_phase 5 (spares-phase v.shape v.state step quiet) s (steady-full w) h.0))
    k

-- the phase that is known stays so on the way to a block
pub cycle-step : (v : View) (step : Step) (n : ℕ) → prepares step ≡ true → IsSeen step n v → v.state.active ≡ true → KnowsCycle v → KnowsCycle (after step n v)
cycle-step v (StorePhase Marking) n e s a k = tried-knows v n (s.found refl) a
cycle-step v (ReadStat which) n e s a k = cycle-other v (ReadStat which) n refl refl s a k
cycle-step v ReadCount n e s a k = cycle-other v ReadCount n refl refl s a k
cycle-step v (ClaimBlock b) n e s a k = cycle-other v (ClaimBlock b) n refl refl s a k
cycle-step v ReadFree n e s a k = cycle-other v ReadFree n refl refl s a k
cycle-step v ReleaseBlock n e s a k = cycle-other v ReleaseBlock n refl refl s a k
cycle-step v (AddStat which by down) n e s a k = cycle-other v (AddStat which by down) n refl refl s a k
cycle-step v step n e s a k = absurd (false≢true e)

pub cycle-kept : (v w : View) → Ran v w → Only prepares v w → v.state.active ≡ true → KnowsCycle v → KnowsCycle w
cycle-kept v w r o a k =
    (run-keeps prepares (λ (x : View). KnowsCycle x × (x.state.active ≡ true))
    (λ x step n p s q. (cycle-step x step n p s q.1 q.0, active-kept x.shape x.state step n p ∙ q.1))
    v w r o (k, a)).0

full-other : (v : View) (step : Step) (n : ℕ) → ends_alone step ≡ false → IsSeen step n v → Known v the_phase 5 → Known (after step n v) the_phase 5
full-other v step n quiet s k = known-step v step n the_phase 5 (spares-phase v.shape v.state step quiet) s (steady-full (seat_after v.shape v.state step n)) k.0

-- the heap that is known to be full is so still
full-step : (v : View) (step : Step) (n : ℕ) → prepares step ≡ true → IsSeen step n v → Known v the_phase 5 → Known (after step n v) the_phase 5
full-step v (StorePhase Marking) n e s k =
    let is : n ≡ 5 = found-noted v (StorePhase Marking) n 5 the_phase (s.found refl) refl k.0 in
    subst (λ m. Known (after (StorePhase Marking) m v) the_phase 5) (sym is) (known-here v (StorePhase Marking) 5 the_phase refl (steady-full (seat_after v.shape v.state (StorePhase Marking) 5)))
full-step v (ReadStat which) n e s k = full-other v (ReadStat which) n refl s k
full-step v ReadCount n e s k = full-other v ReadCount n refl s k
full-step v (ClaimBlock b) n e s k = full-other v (ClaimBlock b) n refl s k
full-step v ReadFree n e s k = full-other v ReadFree n refl s k
full-step v ReleaseBlock n e s k = full-other v ReleaseBlock n refl s k
full-step v (AddStat which by down) n e s k = full-other v (AddStat which by down) n refl s k
full-step v step n e s k = absurd (false≢true e)

pub full-kept : (v w : View) → Ran v w → Only prepares v w → KnowsFull v → KnowsFull w
full-kept v w r o k = (run-keeps prepares (λ (x : View). Known x the_phase 5) full-step v w r o (k, steady-full v.state)).0

-- kicking off

pub kicks-prepare : (step : Step) → kicks step ≡ true → prepares step ≡ true
kicks-prepare (ReadStat which) e = refl
kicks-prepare (StorePhase Marking) e = refl
kicks-prepare step e = absurd (false≢true e)

pub looks-prepare : (step : Step) → looks_for_end step ≡ true → prepares step ≡ true
looks-prepare (ReadStat which) e = refl
looks-prepare ReadCount e = refl
looks-prepare step e = absurd (false≢true e)

pub seeks-prepare : (step : Step) → seeks_block step ≡ true → prepares step ≡ true
seeks-prepare (ClaimBlock b) e = refl
seeks-prepare ReadFree e = refl
seeks-prepare ReleaseBlock e = refl
seeks-prepare step e = absurd (false≢true e)

tries-here : (v : View) (step : Step) (n : ℕ) → tries_marking step n ≡ true → IsSeen step n v → v.state.active ≡ true → KnowsCycle (after step n v)
tries-here v (StorePhase Marking) n e s a = tried-knows v n (s.found refl) a
tries-here v step n e s a = absurd (false≢true e)

cycle-all : (es : List Entry) (v : View) → all_steps prepares es ≡ true → AllSeen es v → v.state.active ≡ true → (some_event tries_marking es ≡ true) ⊎ KnowsCycle v → KnowsCycle (after_all es v)
cycle-all [] v o s a (inl h) = absurd (false≢true h)
cycle-all [] v o s a (inr k) = k
cycle-all (e ∷ es) v o s a (inl h) =
    let p = and_parts (prepares e.step) (all_steps prepares es) o in
    let active = active-kept v.shape v.state e.step e.found p.0 ∙ a in
    ⊎_elim
    (λ (here : tries_marking e.step e.found ≡ true). cycle-all es (after e.step e.found v) p.1 s.1 active (inr (tries-here v e.step e.found here s.0 a)))
    (λ (later : some_event tries_marking es ≡ true). cycle-all es (after e.step e.found v) p.1 s.1 active (inl later))
    (or_cases (tries_marking e.step e.found) (some_event tries_marking es) h)
cycle-all (e ∷ es) v o s a (inr k) =
    let p = and_parts (prepares e.step) (all_steps prepares es) o in
    cycle-all es (after e.step e.found v) p.1 s.1 (active-kept v.shape v.state e.step e.found p.0 ∙ a) (inr (cycle-step v e.step e.found p.0 s.0 a k))

-- no cycle was due, or one is marking
pub kicked-paced : (began : Bool) (v w : View) → Ran v w → Only kicks v w → v.state.active ≡ true → KicksOff began (events v w) → IsPaced (events v w) w
kicked-paced began v w r o a k =
    ⊎_elim
    (λ (d : k.due ≡ true). inr (subst (λ (x : View). KnowsCycle x) (sym r.steps) (cycle-all (events v w) v (only-more kicks prepares kicks-prepare v w o) r.seen a (inl (k.tried ∙ d)))))
    (λ (d : k.due ≡ false). inl (ap not_due k.read ∙ ap not d))
    (cases_Bool k.due)

not-due-more : (a b d x y z : Option ℕ) → not_due (due_by a b d) ≡ true → not_due (due_by (or_else a x) (or_else b y) (or_else d z)) ≡ true
not-due-more (Some a) (Some b) (Some d) x y z e = e
not-due-more None b d x y z e = absurd (false≢true e)
not-due-more (Some a) None d x y z e = absurd (false≢true e)
not-due-more (Some a) (Some b) None x y z e = absurd (false≢true e)

pub paced-later : (xs ys : List Entry) → was_not_due ys ≡ true → was_not_due (xs ++ ys) ≡ true
paced-later [] ys h = h
paced-later (x ∷ xs) ys h = not-due-more (last_read last_count (xs ++ ys)) (last_read rescanned_count (xs ++ ys)) (last_read free_count (xs ++ ys)) (read_of last_count x.step x.found) (read_of rescanned_count x.step x.found) (read_of free_count x.step x.found) (paced-later xs ys h)

reads-none : (which : ℕ) (step : Step) (n : ℕ) → seeks_block step ≡ true → read_of which step n ≡ None
reads-none which (ClaimBlock b) n e = refl
reads-none which ReadFree n e = refl
reads-none which ReleaseBlock n e = refl
reads-none which step n e = absurd (false≢true e)

last-none : (which : ℕ) (ys : List Entry) → all_steps seeks_block ys ≡ true → last_read which ys ≡ None
last-none which [] o = refl
last-none which (y ∷ ys) o =
    let p = and_parts (seeks_block y.step) (all_steps seeks_block ys) o in
    ap (λ q. or_else q (read_of which y.step y.found)) (last-none which ys p.1) ∙ reads-none which y.step y.found p.0

last-same : (which : ℕ) (xs ys : List Entry) → all_steps seeks_block ys ≡ true → last_read which (xs ++ ys) ≡ last_read which xs
last-same which [] ys o = last-none which ys o
last-same which (x ∷ xs) ys o = ap (λ q. or_else q (read_of which x.step x.found)) (last-same which xs ys o)

-- a search for a block reads none of the numbers
pub paced-searched : (xs ys : List Entry) → all_steps seeks_block ys ≡ true → was_not_due xs ≡ true → was_not_due (xs ++ ys) ≡ true
paced-searched xs ys o h = (λ i. not_due (due_by (last-same last_count xs ys o i) (last-same rescanned_count xs ys o i) (last-same free_count xs ys o i))) ∙ h
