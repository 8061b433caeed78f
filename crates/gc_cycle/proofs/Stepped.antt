-- The steps of a collection that doesn't wait.
use Rattle.std.proofs.Common.{ℕ, ◌≡◌, ◌≤◌, ◌-◌, ◌/◌, ◌%◌, refl, sym, ap, ◌∙◌, Bool, true, false, Option, ◌&&◌, ◌||◌, Some, None, subst, eqb-true, eq-eqb, ◌⊎◌, inl, inr, ⊎_elim, ◌<◌, ◌*◌, List, length, arith}
use Rattle.std.specs.Prelude.{is_some, ◌==◌}
use Rattle.std.proofs.lemmas.Bool.{false≢true, and_from, or_cases, or_left, or_right}
use Rattle.mark_core.specs.Cards.{block_cells}
use Rattle.mark_core.specs.Effects.{seat_after}
use Rattle.mark_core.specs.Layout.{block_count}
use Rattle.mark_core.specs.Numbers.{block_counter}
use Rattle.mark_core.specs.Places.{mark_at, the_phase, alloc_at}
use Rattle.mark_core.specs.Seats.{cleaning_left, is_the}
use Rattle.mark_core.specs.Steps.WorldSteps.{has_nothing, is_stopped}
use Rattle.mark_core.specs.declared.kinds.Phase.{Phase}
use Rattle.mark_core.specs.declared.kinds.Phase.TheVariants.{Drain, Full, Idle, Sweep}
use Rattle.mark_core.specs.declared.kinds.Shape.{Shape}
use Rattle.mark_core.specs.declared.kinds.Step.{Step}
use Rattle.mark_core.specs.declared.kinds.Step.TheVariants.{DropStep, JoinHelpStep, LeaveHelpStep, Observe, ReadPhase, ReadStat, Reset, ReadAlloc}
use Rattle.mark_core.specs.declared.seat.Cleaning.{Cleaning}
use Rattle.mark_core.specs.declared.seat.SeatState.{SeatState}
use Rattle.gc_table.specs.Log.{Only, steps_of}
use Rattle.gc_table.specs.Notes.{look}
use Rattle.gc_table.specs.Rule.{KnowsFull}
use Rattle.gc_table.specs.Running.{Alone, Ran}
use Rattle.gc_table.specs.Seats.{Found, Took}
use Rattle.gc_table.specs.Taking.{after}
use Rattle.gc_table.specs.declared.view.View.{View}
use Rattle.gc_table.proofs.History.Log.{only-more}
use Rattle.gc_table.proofs.Noticing.{alone-kept, alone-steady}
use Rattle.gc_table.proofs.Running.{ran-shape, state-kept}
use Rattle.packet_pools.specs.OnlyTraced.{IsNotedMarked}
use Rattle.card_clean.specs.Drained.{IsNotedRoot}
use Rattle.stop_world.specs.Waiting.{HasStopped, Waits}
use Rattle.stop_world.proofs.Waits.{stopped-in, stopped-state, waits-join, waits-observe, waits-read}
use Rattle.sweeper.specs.Freeing.{block_floor}
use Rattle.sweeper.specs.Sweepers.{is_sweeping}
use Rattle.sweeper.proofs.Sweepers.{sweeping-stays as sweeps-quiet}
use Rattle.gc_cycle.specs.Collecting.{HoldsWorld}
use Rattle.gc_cycle.specs.Drained.{RootedAlone}
use Rattle.gc_cycle.specs.Finishing.{finishes, IsAloneIn, IsPart, stays_in, AllocsNoted, ones_noted}
use Rattle.gc_cycle.specs.Lower.{sweeps_next}
use Rattle.gc_cycle.specs.Mutating.{keeps_section, tries_stopping}
use Rattle.gc_cycle.specs.Standing.{IsAlone}
use Rattle.gc_cycle.proofs.Refills.Collected.{full-alone, only-drop, resumed-mutates}
use Rattle.gc_cycle.proofs.Refills.KnownFull.{full-known}
use Rattle.gc_cycle.proofs.SectionKept.{keeps-seat, keeps-section, tries-keep}
use Rattle.gc_cycle.proofs.Stops.FlagRaised.{mutators-left}
use Rattle.gc_cycle.proofs.Parts.{part-finishes, part-reset}
use Rattle.gc_cycle.proofs.Ends.Rooted.{cleared}
use Rattle.gc_cycle.proofs.Ends.Swept.{done-of, nothing_by, sweeps-stay}
use Rattle.gc_cycle.proofs.Ends.Spared.{finish-keeps}
use Rattle.gc_cycle.specs.Stepping.{AwaitsStop, Drains, IsOwner, HasSwept, Keeps, RunsAgain, notes_root, says_marked, says_root, IsAtRoots, IsAtSweep}
use Rattle.std.specs.List.{range_with_len}
use Rattle.std.proofs.lemmas.List.{length-map}
use Rattle.std.proofs.lemmas.List.FromFn.{length-range_with_len}
use Rattle.gc_table.specs.declared.view.Entry.{Entry}
use Rattle.gc_cycle.specs.Settling.{alloc_reads}
use Rattle.gc_cycle.specs.Pieces.{CountsFrom, HasCounted}

helping-kept : (sh : Shape) (s : SeatState) (step : Step) (old : ℕ) → finishes step ≡ true → (seat_after sh s step old).helping ≡ s.helping
helping-kept sh s JoinHelpStep old e = absurd (false≢true e)
helping-kept sh s LeaveHelpStep old e = absurd (false≢true e)
helping-kept sh s step old e = refl

pub owner-kept : (v w : View) → Ran v w → Only finishes v w → IsOwner v → IsOwner w
owner-kept v w r o k =
    record {
      section = ap (λ (q : Option ℕ). is_some q) (finish-keeps v w r o).0.section ∙ k.section;
      unhelping = state-kept (λ (s : SeatState). s.helping) finishes helping-kept v w r o ∙ k.unhelping;
    }

pub part-owner : (p : Phase) (v w : View) → IsPart p v w → IsOwner v → IsOwner w
part-owner p v w h k = owner-kept v w h.ran (part-finishes p v w h) k

pub part-keeps : (p : Phase) (v w : View) → IsPart p v w → Keeps v w
part-keeps p v w h = finish-keeps v w h.ran (part-finishes p v w h)

pub keeps-join : (u v w : View) → Keeps u v → Keeps v w → Keeps u w
keeps-join u v w a b = (
  record { number = b.0.number ∙ a.0.number; section = b.0.section ∙ a.0.section; env = b.0.env ∙ a.0.env; made = b.0.made ∙ a.0.made; spent = b.0.spent ∙ a.0.spent },
  record { meaning = b.1.meaning ∙ a.1.meaning; places = b.1.places ∙ a.1.places; turns = b.1.turns ∙ a.1.turns; seasons = b.1.seasons ∙ a.1.seasons },
)

-- the world goes on
pub resumed-runs : (v w : View) → IsAlone v → IsOwner v → Took DropStep v w → RunsAgain w
resumed-runs v w a k t = let m = resumed-mutates v w a k.section k.unhelping t in record { mutates = m.0; cache = m.1 }

pub resumed-keeps : (v w : View) → Ran v w → Took DropStep v w → Keeps v w
resumed-keeps v w r t = let o = only-more tries_stopping keeps_section tries-keep v w (only-drop v w t) in (keeps-seat v w r o, keeps-section v w r o)

-- the world hasn't stopped yet
pub asks-still : (v w : View) (n : ℕ) → AwaitsStop v → Found Observe n v w → w.state.knows ≡ false → AwaitsStop w
asks-still v w n a f k =
    let t = waits-observe v w n a.aware f in
    record {
      owner = record { section = ap (λ (s : SeatState). is_some s.section) t.state ∙ a.owner.section; unhelping = ap (λ (s : SeatState). s.helping) t.state ∙ a.owner.unhelping };
      aware = t.aware;
      unaware = k;
      rest = ap (λ (sh : Shape). has_nothing sh w.state) (ran-shape v w t.ran) ∙ (ap (λ (s : SeatState). has_nothing v.shape s) t.state ∙ a.rest);
    }

by-knowing : (k r s : Bool) → k ≡ false → r ≡ true → (k || (r && s)) ≡ s
by-knowing true r s e f = absurd (false≢true (sym e))
by-knowing false true s e f = refl
by-knowing false false s e f = absurd (false≢true f)

-- the seat knows that the world has stopped if its look found so
pub knows-found : (v w : View) (n : ℕ) → AwaitsStop v → Found Observe n v w → w.state.knows ≡ is_stopped n
knows-found v w n a f = ap (λ (x : View). x.state.knows) f.0 ∙ by-knowing v.state.knows v.state.raised (is_stopped n) a.unaware a.aware.raised

-- it has stopped, in a phase that mutators leave
pub stopped-holds : (u w x : View) (n m : ℕ) → AwaitsStop u → Found Observe n u w → w.state.knows ≡ true → Found ReadPhase m w x → HoldsWorld x
stopped-holds u w x n m a f k g =
    let first : Waits u w = waits-observe u w n a.aware f in
    let h : HasStopped x = stopped-in w x m first.aware k g in
    let t : Waits u x = waits-join u w x first (waits-read w x m first.aware g) in
    let state = stopped-state u x t h in
    record {
      rest =
          record {
            knows = ap (λ (s : SeatState). s.knows) state;
            alone = ap (λ (s : SeatState). s.alone) state;
            rest = ap (λ (sh : Shape). has_nothing sh x.state) (ran-shape u x t.ran) ∙ (ap (λ (s : SeatState). has_nothing u.shape s) state ∙ a.rest);
          };
      section = ap (λ (s : SeatState). is_some s.section) state ∙ a.owner.section;
      unhelping = ap (λ (s : SeatState). s.helping) state ∙ a.owner.unhelping;
      phase = h.phase;
      alone = h.alone;
      seen = h.seen;
      left = mutators-left h.phase h.left;
    }

some-same : {X : Type 0} {x y : X} → Some x ≡ Some y → x ≡ y
some-same e = cc

-- if the phase was read as Idle, the seat is alone in it
pub holds-idle : (v : View) → HoldsWorld v → v.state.phase_seen ≡ Some Idle → IsAloneIn Idle v
holds-idle v h f = record { rest = h.rest; alone = subst (λ q. Alone q v) (some-same (sym h.seen ∙ f)) h.alone }

-- if the heap was full, it is so still
pub full-resumed : (v w : View) → HoldsWorld v → v.state.phase_seen ≡ Some Full → Ran v w → Took DropStep v w → KnowsFull w
full-resumed v w h f r t = full-known v w r (only-drop v w t) (full-alone v h f).phase

-- the counter of blocks is set
pub reset-roots : (v w : View) → IsOwner v → IsAloneIn Drain v → w ≡ after (Reset block_counter) 0 v → IsAtRoots w
reset-roots v w k a is =
    let p = part-reset Drain 1 v w is a in
    record { owner = part-owner Drain v w p k; alone = p.alone; next_block = cleared v w a is }

-- sweeping alone

swept-alone : (v w : View) → IsAloneIn Sweep v → Ran v w → Only is_sweeping v w → (b : Bool) (y : Option Cleaning) → w.state ≡ record v.state { below_block = b; cleaning = y } → (cleaning_left v.state.cleaning ≡ false → cleaning_left y ≡ false) → IsPart Sweep v w
swept-alone v w a r o b y e left =
    record {
      ran = r;
      only = only-more is_sweeping (stays_in Sweep) sweeps-stay v w o;
      alone =
          record {
            rest =
                record {
                  knows = ap (λ (s : SeatState). s.knows) e ∙ a.rest.knows;
                  alone = ap (λ (s : SeatState). s.alone) e ∙ a.rest.alone;
                  rest =
                      ap (λ (x : Shape). has_nothing x w.state) (ran-shape v w r)
                      ∙ (ap (λ (s : SeatState). has_nothing v.shape s) e ∙ (ap (nothing_by v.shape v.state) (left (done-of v a.rest.rest) ∙ sym (done-of v a.rest.rest)) ∙ a.rest.rest));
                };
            alone = alone-kept Sweep is_sweeping sweeps-quiet v w r o a.alone;
          };
    }

pub next-sweeps : (step : Step) → sweeps_next step ≡ true → is_sweeping step ≡ true
next-sweeps (ReadStat which) e = refl
next-sweeps step e = e

-- the next block
pub next-alone : (v w : View) → IsAloneIn Sweep v → Ran v w → Only sweeps_next v w → w.state ≡ record v.state { below_block = w.state.below_block; cleaning = w.state.cleaning } → (cleaning_left v.state.cleaning ≡ false → cleaning_left w.state.cleaning ≡ false) → IsPart Sweep v w
next-alone v w a r o e left = swept-alone v w a r (only-more sweeps_next is_sweeping next-sweeps v w o) w.state.below_block w.state.cleaning e left

-- a seat that is alone in the sweep may take a block
pub may-sweep : (v : View) → IsAloneIn Sweep v → (v.state.knows && is_the (look the_phase v.known) 3) ≡ true
may-sweep v a = and_from _ _ a.rest.knows (ap (λ q. is_the q 3) a.alone.phase)

pub sweeps-on : (v w : View) → IsAtSweep v → IsPart Sweep v w → IsAtSweep w
sweeps-on v w s p = record { owner = part-owner Sweep v w p s.owner; alone = p.alone }

-- none is left
pub has-swept : (sh : Shape) (v : View) → v.shape ≡ sh → IsAtSweep v → block_count sh ≤ block_floor v → HasSwept v
has-swept sh v e s b = record { sweeps = s; end = subst (λ k. block_count k ≤ block_floor v) (sym e) b }

-- what is noted of a root, told by a test and by a fact

says-root : (v : View) (o : Option ℕ) (word : ℕ) → o ≡ Some word → (word ≡ 0) ⊎ IsNotedMarked v (word - 1) → says_root v o ≡ true
says-root v o word e h =
    ap (λ q. says_root v q) e
    ∙ ⊎_elim
    (λ (z : word ≡ 0). or_left (word == 0) _ (eq-eqb word 0 z))
    (λ (m : IsNotedMarked v (word - 1)). or_right (word == 0) _ (ap (λ q. says_marked q ((word - 1) % block_cells)) m.1 ∙ m.2))
    h

marked-from : (v : View) (c : ℕ) (o : Option ℕ) → look (mark_at (c / block_cells)) v.known ≡ o → says_marked o (c % block_cells) ≡ true → IsNotedMarked v c
marked-from v c None e h = absurd (false≢true h)
marked-from v c (Some n) e h = (n, e, h)

root-from : (i : ℕ) (v : View) (o : Option ℕ) → look (2, i) v.known ≡ o → says_root v o ≡ true → IsNotedRoot i v
root-from i v None e h = absurd (false≢true h)
root-from i v (Some w) e h =
    record {
      word = w;
      noted = e;
      marked =
          ⊎_elim
          (λ (z : (w == 0) ≡ true). inl (eqb-true w 0 z))
          (λ (m : says_marked (look (mark_at ((w - 1) / block_cells)) v.known) ((w - 1) % block_cells) ≡ true). inr (marked-from v (w - 1) (look (mark_at ((w - 1) / block_cells)) v.known) refl m))
          (or_cases (w == 0) (says_marked (look (mark_at ((w - 1) / block_cells)) v.known) ((w - 1) % block_cells)) h);
    }

pub notes-of : (i : ℕ) (v : View) → IsNotedRoot i v → notes_root i v ≡ true
notes-of i v n = says-root v (look (2, i) v.known) n.word n.noted n.marked

pub root-noted : (i : ℕ) (v : View) → notes_root i v ≡ true → IsNotedRoot i v
root-noted i v h = root-from i v (look (2, i) v.known) refl h

pub drains-of : (v : View) → IsOwner v → RootedAlone v → Drains v
drains-of v k r =
    record { owner = k; rest = r.rest; drain = r.rooted.ready.drains; next_block = r.rooted.ready.next_block; roots = λ i h. notes-of i v (r.rooted.roots i h) }

pub rooted-back : (v : View) → Drains v → RootedAlone v
rooted-back v d =
    record { rest = d.rest; rooted = record { ready = record { drains = d.drain; next_block = d.next_block }; roots = λ i h. root-noted i v (d.roots i h) } }

-- A seat that is alone counts the cells in use, in pieces.
-- how many blocks were read
pub reads-few : (from n most : ℕ) (es : List Entry) → steps_of es ≡ alloc_reads from n → n ≤ most → length es ≤ most
reads-few from n most es e l =
    let long = sym (length-map es (λ (x : Entry). x.step)) ∙ (ap length e ∙ (length-map (range_with_len from n) (λ b. ReadAlloc b) ∙ length-range_with_len from n)) in omega (arith, long, l)

-- what is noted of an allocation word, told by a test and by a fact
some-noted : (o : Option ℕ) → is_some o ≡ true → (n : ℕ) × (o ≡ Some n)
some-noted None e = absurd (false≢true e)
some-noted (Some n) e = (n, refl)

pub allocs-of : (n : ℕ) (v : View) → v.state.alone ≡ true → ((b : ℕ) → b < n → is_some (look (alloc_at b) v.known) ≡ true) → AllocsNoted n v
allocs-of n v alone noted b l = let s = some-noted (look (alloc_at b) v.known) (noted b l) in (s.0, (s.1, alone-steady v.state (alloc_at b) s.0 refl alone))

pub allocs-told : (n : ℕ) (v : View) → AllocsNoted n v → (b : ℕ) → b < n → is_some (look (alloc_at b) v.known) ≡ true
allocs-told n v noted b l = ap (λ (o : Option ℕ). is_some o) (noted b l).1.0

-- more blocks were counted
pub counts-on : (sh : Shape) (from to counted more : ℕ) (v w : View) → w.shape ≡ sh → CountsFrom from counted v → IsPart Idle v w → to ≤ block_count sh → AllocsNoted to w → more ≡ ones_noted to w → more ≤ block_cells * to → CountsFrom to more w
counts-on sh from to counted more v w e c p within noted count bound =
    record { owner = part-owner Idle v w p c.owner; alone = p.alone; within = subst (λ (x : Shape). to ≤ block_count x) (sym e) within; noted = allocs-told to w noted; count = count; bound = bound }

-- none is left
pub counted-all : (n counted : ℕ) (v : View) → CountsFrom n counted v → block_count v.shape ≤ n → HasCounted counted v
counted-all n counted v c all = let within = c.within in let same : n ≡ block_count v.shape = omega (arith, all, within) in subst (λ k. CountsFrom k counted v) same c
