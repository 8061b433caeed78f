-- While a seat is alone in a drain, what goes into packets and what is left to cards was white before.
use Rattle.std.proofs.Common.{ℕ, ◌≡◌, ◌+◌, ◌≤◌, ◌/◌, ◌%◌, List, [], ◌∷◌, arith, refl, ap, Bool, true, false, not, cond, eqb, Option, None, Some}
use Rattle.std.specs.Prelude.{IfSome, is_some, is_none, ◌&&◌, ◌||◌}
use Rattle.std.proofs.lemmas.Bool.{and_parts, false≢true, or_left, or_parts, or_right, true≢false}
use Rattle.mark_core.specs.Bits.{has_bit}
use Rattle.mark_core.specs.Cards.{block_cells, card_of}
use Rattle.mark_core.specs.Places.{the_phase}
use Rattle.mark_core.specs.Seats.{is_the, saw, work_in_hand}
use Rattle.mark_core.specs.Steps.ColourSteps.{fresh_off, popped_after, popped_off}
use Rattle.mark_core.specs.declared.kinds.Phase.TheVariants.{Drain, Marking}
use Rattle.mark_core.specs.declared.kinds.Step.{Step}
use Rattle.mark_core.specs.declared.kinds.Step.TheVariants.{Reserve, Take, Give, Credit, Push, Pop, Look, ReadCount, ReadAlloc, ReadField, ReadRoot, SetMark, DirtyCard, ClearCard, ReadMarks, ReadCard, StoreLength, ReadLength, LoadSlot}
use Rattle.mark_core.specs.declared.seat.SeatState.{SeatState}
use Rattle.mark_core.proofs.Count.CountMoves.{bit}
use Rattle.gc_table.specs.Log.{all_steps, events}
use Rattle.gc_table.specs.Notes.{look}
use Rattle.gc_table.specs.Running.{Alone, AllSeen, IsSeen, after_all}
use Rattle.gc_table.specs.Taking.{after}
use Rattle.gc_table.specs.declared.view.Entry.{Entry}
use Rattle.gc_table.specs.declared.view.View.{View}
use Rattle.gc_table.proofs.Noticing.{alone-step}
use Rattle.packet_pools.specs.Counts.{count_of, dirties, marks_white, pushes}
use Rattle.packet_pools.specs.OnlyTraced.{OnlyTraced, traces_cells}
use Rattle.packet_pools.specs.Tracing.{traces}
use Rattle.packet_pools.proofs.TracedSteps.{tracing-alone}
use Rattle.work_laws.specs.Queueing.{lacks_bit}
use Rattle.tracer.specs.Deferral.{defers}
use Rattle.tracer.specs.Hands.{IsIdle}
use Rattle.tracer.specs.Tally.{Tally, count_by, spills}
use Rattle.tracer.proofs.InStop.{none-lacks}

-- the popped cell, if there is one, wasn't found unpublished
abbrev IsSound : Option (ℕ × Bool) → Type 0
IsSound o = IfSome o (λ x. x.1 ≡ false)

-- alone in a drain, with no unpublished cell in hand
pub record DrainsLone (v : View) : Type 0 where
  pub alone : Alone Drain v
  pub still : v.state.active ≡ false
  pub popped : IsSound v.state.popped

lone-traces : (v : View) → Alone Drain v → traces v ≡ true
lone-traces v a =
    or_left ((v.state.active && saw v.state.phase_seen Marking) || (v.state.knows && is_the (look the_phase v.known) 2)) (v.state.admitted && saw v.state.phase_seen Drain)
    (or_right (v.state.active && saw v.state.phase_seen Marking) (v.state.knows && is_the (look the_phase v.known) 2) (λ i. a.knows i && is_the (a.phase i) 2))

read-sound : (x : ℕ × Bool) (here set : Bool) → x.1 ≡ false → (here && not set) ≡ false → IsSound (cond here (cond set None (Some (x.0, true))) (Some x))
read-sound x true true e h = tt
read-sound x true false e h = absurd (true≢false h)
read-sound x false set e h = e

after-read : (o : Option (ℕ × Bool)) (b n : ℕ) → IsSound o → lacks_bit o b n ≡ false → IsSound (popped_after o b n)
after-read None b n s h = tt
after-read (Some x) b n s h = read-sound x (eqb (x.0 / block_cells) b) (has_bit n (x.0 % block_cells)) s h

after-push : (o : Option (ℕ × Bool)) (b : Bool) → IsSound o → IsSound (cond b o None)
after-push o true s = s
after-push o false s = tt

off-by : (x : ℕ × Bool) (b : Bool) → x.1 ≡ false → IsSound (cond b None (Some x))
off-by x true e = tt
off-by x false e = e

after-dirty : (o : Option (ℕ × Bool)) (card : ℕ) → IsSound o → IsSound (popped_off o card)
after-dirty None card s = tt
after-dirty (Some x) card s = off-by x (x.1 && eqb (card_of x.0) card) s

popped-sound : (v : View) (step : Step) (n : ℕ) → traces_cells step ≡ true → IsSeen step n v → DrainsLone v → IsSound (after step n v).state.popped
popped-sound v (Pop p) n t s d = refl
popped-sound v (ReadAlloc b) n t s d = after-read v.state.popped b n d.popped (none-lacks v b n (s.found refl) (lone-traces v d.alone) d.still)
popped-sound v (Push p c) n t s d = after-push v.state.popped (is_the v.state.fresh c) d.popped
popped-sound v (DirtyCard card) n t s d = after-dirty v.state.popped card d.popped
popped-sound v Reserve n t s d = d.popped
popped-sound v (Take q p) n t s d = d.popped
popped-sound v (Give p e) n t s d = d.popped
popped-sound v Credit n t s d = d.popped
popped-sound v (Look q g) n t s d = d.popped
popped-sound v ReadCount n t s d = d.popped
popped-sound v (ReadField c i) n t s d = d.popped
popped-sound v (ReadRoot section k) n t s d = d.popped
popped-sound v (LoadSlot section k) n t s d = d.popped
popped-sound v (SetMark c) n t s d = d.popped
popped-sound v (ClearCard card) n t s d = d.popped
popped-sound v (ReadMarks b) n t s d = d.popped
popped-sound v (ReadCard card) n t s d = d.popped
popped-sound v (StoreLength p) n t s d = d.popped
popped-sound v (ReadLength p) n t s d = d.popped
popped-sound v step n t s d = absurd (false≢true t)

stays-still : (v : View) (step : Step) (n : ℕ) → traces_cells step ≡ true → v.state.active ≡ false → (after step n v).state.active ≡ false
stays-still v Reserve n t e = e
stays-still v (Take q p) n t e = e
stays-still v (Give p d) n t e = e
stays-still v Credit n t e = e
stays-still v (Push p c) n t e = e
stays-still v (Pop p) n t e = e
stays-still v (Look q g) n t e = e
stays-still v ReadCount n t e = e
stays-still v (ReadAlloc b) n t e = e
stays-still v (ReadField c i) n t e = e
stays-still v (ReadRoot section k) n t e = e
stays-still v (LoadSlot section k) n t e = e
stays-still v (SetMark c) n t e = e
stays-still v (DirtyCard card) n t e = e
stays-still v (ClearCard card) n t e = e
stays-still v (ReadMarks b) n t e = e
stays-still v (ReadCard card) n t e = e
stays-still v (StoreLength p) n t e = e
stays-still v (ReadLength p) n t e = e
stays-still v step n t e = absurd (false≢true t)

lone-step : (v : View) (step : Step) (n : ℕ) → traces_cells step ≡ true → IsSeen step n v → DrainsLone v → DrainsLone (after step n v)
lone-step v step n t s d =
    record { alone = alone-step Drain v step n (tracing-alone step t) s d.alone; still = stays-still v step n t d.still; popped = popped-sound v step n t s d }

abbrev has : Option ℕ → ℕ
has o = bit (is_some o)

mark-by : (o : Option ℕ) (c : ℕ) (b : Bool) → has (cond b o (Some c)) ≤ has o + bit (not b)
mark-by o c true = omega arith
mark-by o c false = omega arith

push-by : (o : Option ℕ) (c : ℕ) → 1 + has (cond (is_the o c) None o) ≤ has o + bit (not (is_the o c))
push-by None c = omega arith
push-by (Some x) c = by_cell (eqb x c)
  where
    by_cell : (b : Bool) → 1 + has (cond b None (Some x)) ≤ 1 + bit (not b)
    by_cell true = omega arith
    by_cell false = omega arith

-- only a fresh cell answers for the card
dirty-by : (o : Option ℕ) (p : Option (ℕ × Bool)) (card : ℕ) → IsSound p → bit ((is_some o && is_none (fresh_off o card)) || (is_some p && is_none (popped_off p card))) + has (fresh_off o card) ≤ has o
dirty-by None None card s = omega arith
dirty-by None (Some x) card s = by_seen x.1 s
  where
    by_seen : (b : Bool) → b ≡ false → bit (is_none (cond (b && eqb (card_of x.0) card) None (Some x))) + 0 ≤ 0
    by_seen true e = absurd (true≢false e)
    by_seen false e = omega arith
dirty-by (Some c) None card s = by_card (eqb (card_of c) card)
  where
    by_card : (b : Bool) → bit (is_none (cond b None (Some c)) || false) + has (cond b None (Some c)) ≤ 1
    by_card true = omega arith
    by_card false = omega arith
dirty-by (Some c) (Some x) card s = by_both (eqb (card_of c) card) x.1 s
  where
    by_both : (b d : Bool) → d ≡ false → bit (is_none (cond b None (Some c)) || is_none (cond (d && eqb (card_of x.0) card) None (Some x))) + has (cond b None (Some c)) ≤ 1
    by_both true d e = omega arith
    by_both false true e = absurd (true≢false e)
    by_both false false e = omega arith

spill-step : (v : View) (step : Step) (n : ℕ) → traces_cells step ≡ true → DrainsLone v
    → bit (pushes step n) + bit (spills v.state step) + has (after step n v).state.fresh ≤ has v.state.fresh + bit (marks_white step n) + bit (defers v.state step)
spill-step v (Push p c) n t d = let l = push-by v.state.fresh c in omega (arith, l)
spill-step v (SetMark c) n t d = let l = mark-by v.state.fresh c (has_bit n (c % block_cells)) in omega (arith, l)
spill-step v (DirtyCard card) n t d = let l = dirty-by v.state.fresh v.state.popped card d.popped in omega (arith, l)
spill-step v Reserve n t d = omega arith
spill-step v (Take q p) n t d = omega arith
spill-step v (Give p e) n t d = omega arith
spill-step v Credit n t d = omega arith
spill-step v (Pop p) n t d = omega arith
spill-step v (Look q g) n t d = omega arith
spill-step v ReadCount n t d = omega arith
spill-step v (ReadAlloc b) n t d = omega arith
spill-step v (ReadField c i) n t d = omega arith
spill-step v (ReadRoot section k) n t d = omega arith
spill-step v (LoadSlot section k) n t d = omega arith
spill-step v (ClearCard card) n t d = omega arith
spill-step v (ReadMarks b) n t d = omega arith
spill-step v (ReadCard card) n t d = omega arith
spill-step v (StoreLength p) n t d = omega arith
spill-step v (ReadLength p) n t d = omega arith
spill-step v step n t d = absurd (false≢true t)

all-spill : (es : List Entry) (v : View) → all_steps traces_cells es ≡ true → AllSeen es v → DrainsLone v
    → count_of pushes es + count_by spills v es + has (after_all es v).state.fresh ≤ has v.state.fresh + count_of marks_white es + count_by defers v es
all-spill [] v o s d = omega arith
all-spill (e ∷ es) v o s d =
    let p = and_parts (traces_cells e.step) (all_steps traces_cells es) o in
    let one = spill-step v e.step e.found p.0 d in
    let rest = all-spill es (after e.step e.found v) p.1 s.1 (lone-step v e.step e.found p.0 s.0 d) in
    omega (arith, one, rest)

none-fresh : (fields : ℕ) (s : SeatState) → work_in_hand fields s ≡ false → (is_some s.fresh ≡ false) × (is_some s.popped ≡ false)
none-fresh fields s e =
    let a = or_parts _ _ (or_parts _ _ e).0 in
    (a.1, (or_parts _ _ (or_parts _ _ a.0).0).0)

none-popped : (o : Option (ℕ × Bool)) → is_some o ≡ false → IsSound o
none-popped None e = tt
none-popped (Some x) e = absurd (true≢false e)

-- a trace that deferred none put no more into packets, and left no more to cards, than it found white
pub trace-spills : (done lost : ℕ) (v w : View) → OnlyTraced v w → Tally done 0 lost v w → IsIdle v → Alone Drain v → v.state.active ≡ false → count_of pushes (events v w) + count_of dirties (events v w) ≤ count_of marks_white (events v w)
trace-spills done lost v w o t i a still =
    let none = none-fresh v.shape.fields v.state i.work in
    let all = all-spill (events v w) v o.only o.ran.seen (record { alone = a; still = still; popped = none-popped v.state.popped none.1 }) in
    let fresh = ap bit none.0 in
    omega (arith, all, fresh, t.deferred, t.overflowed, t.dirtied)
