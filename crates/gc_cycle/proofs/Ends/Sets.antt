-- The steps of a seat that is alone, and counts and sets the numbers for the next cycle.
use Rattle.std.proofs.Common.{ℕ, ◌≡◌, ◌≤◌, ◌+◌, ◌-◌, List, [], ◌∷◌, ◌++◌, suc, zero, arith, refl, sym, ap, ◌∙◌, subst, Bool, true, false, not, ◌&&◌, ◌||◌, Some, None, Option, is_some, eq-eqb, eqb-true, inl, inr, ⊎_elim}
use Rattle.std.specs.Prelude.{◌==◌, is_none, unwrap_or}
use Rattle.std.specs.Int.Count.{ones}
use Rattle.std.proofs.lemmas.Bool.{and_from, and_parts, cases_eq, false≢true, le-leb, ne_eqb, not-true, or_from, or_left, or_parts, or_right, true≢false}
use Rattle.mark_core.specs.Bits.{wrapped_sum}
use Rattle.mark_core.specs.Steps.ColourSteps.{cleaning_after, popped_after, scan_after, with_alloc_word}
use Rattle.mark_core.specs.Effects.{seat_after}
use Rattle.mark_core.specs.Notes.{is_gate, same_place, steady}
use Rattle.mark_core.specs.Places.{alloc_at, counter_at}
use Rattle.mark_core.specs.Seats.{cleaning_left, empty_handed, scan_left, takes_part, work_in_hand}
use Rattle.mark_core.specs.Steps.WorldSteps.{has_nothing}
use Rattle.mark_core.proofs.Writing.Writes.{at_counter}
use Rattle.mark_core.specs.declared.kinds.Phase.TheVariants.{Idle}
use Rattle.mark_core.specs.declared.kinds.Shape.{Shape}
use Rattle.mark_core.specs.declared.kinds.Step.{Step}
use Rattle.mark_core.specs.declared.kinds.Step.TheVariants.{AddStat, ReadAlloc, Reset}
use Rattle.mark_core.specs.declared.seat.BlockState.{BlockState}
use Rattle.mark_core.specs.declared.seat.SeatState.{SeatState}
use Rattle.gc_table.specs.Log.{events, steps_of}
use Rattle.gc_table.specs.Seats.{Found, Took}
use Rattle.gc_table.specs.Taking.{after, Finds, May}
use Rattle.gc_table.specs.declared.view.View.{View}
use Rattle.gc_table.specs.Running.{ends_alone, IsSeen, Known, Ran}
use Rattle.gc_table.proofs.History.Log.{events-after, only-after}
use Rattle.gc_table.proofs.Noticing.{alone-steady, alone-step, found-noted, known-alone, known-here, known-step, Spares}
use Rattle.gc_table.proofs.Running.{ran-events, ran-found, ran-only}
use Rattle.tracer.proofs.Recycled.{steps-append}
use Rattle.tracer.proofs.Hand.{alloc-left as cleaned}
use Rattle.gc_cycle.specs.Finishing.{AllocsNoted, IsAloneIn, IsPart, ones_noted, stays_in}
use Rattle.gc_cycle.specs.Settling.{adjusts, alloc_reads, Sets}
use Rattle.mark_core.specs.Numbers.{done_count, free_count, last_count}
use Rattle.gc_cycle.specs.Standing.{IsAlone}
use Rattle.gc_cycle.proofs.Ends.Moving.{may-reset_idle, no-block}
use Rattle.gc_cycle.proofs.Parts.{part-join, part-reset, part-step}

-- a read of allocation bits

is-none : {X : Type 0} (o : Option X) → is_some o ≡ false → o ≡ None
is-none None e = refl
is-none (Some x) e = absurd (true≢false e)

idle-read : (fields : ℕ) (sh : Shape) (s : SeatState) (b n : ℕ) → work_in_hand fields s ≡ false → work_in_hand fields (seat_after sh s (ReadAlloc b) n) ≡ false
idle-read fields sh s b n e =
    let a = or_parts (is_some s.popped || scan_left fields s.scan || is_some s.value || is_some s.fresh) (cleaning_left s.cleaning) e in
    let f = or_parts (is_some s.popped || scan_left fields s.scan || is_some s.value) (is_some s.fresh) a.0 in
    let g = or_parts (is_some s.popped || scan_left fields s.scan) (is_some s.value) f.0 in
    let h = or_parts (is_some s.popped) (scan_left fields s.scan) g.0 in
    let none = is-none s.popped h.0 in
    let first : is_some (popped_after s.popped b n) || scan_left fields (scan_after s.popped s.scan b n) || is_some s.value || is_some s.fresh ≡ false =
    ap (λ o. is_some (popped_after o b n) || scan_left fields (scan_after o s.scan b n) || is_some s.value || is_some s.fresh) none
    ∙ (ap (λ (o : Option (ℕ × Bool)). is_some o || scan_left fields s.scan || is_some s.value || is_some s.fresh) (sym none) ∙ a.0) in
    or_from _ (cleaning_left (cleaning_after s.cleaning b n)) first (cleaned s.cleaning b n a.1)

-- it leaves nothing in hand
read-nothing : (sh : Shape) (s : SeatState) (b n : ℕ) → s.block ≡ None → has_nothing sh s ≡ true → has_nothing sh (seat_after sh s (ReadAlloc b) n) ≡ true
read-nothing sh s b n none e =
    let p5 = and_parts _ ((s.got == 0) && (s.lags == 0)) e in
    let p4 = and_parts (empty_handed s && not (work_in_hand sh.fields s) && is_none s.owes && is_none s.cache) (is_none s.block) p5.0 in
    let p3 = and_parts (empty_handed s && not (work_in_hand sh.fields s) && is_none s.owes) (is_none s.cache) p4.0 in
    let p2 = and_parts (empty_handed s && not (work_in_hand sh.fields s)) (is_none s.owes) p3.0 in
    let p1 = and_parts (empty_handed s) (not (work_in_hand sh.fields s)) p2.0 in
    and_from _ ((s.got == 0) && (s.lags == 0))
    (and_from _ (is_none (with_alloc_word s.block b n))
    (and_from _ (is_none s.cache) (and_from _ (is_none s.owes) (and_from (empty_handed s) _ p1.0 (ap not (idle-read sh.fields sh s b n (not-true _ p1.1)))) p2.1) p3.1)
    (ap (λ (o : Option BlockState). is_none (with_alloc_word o b n)) none))
    p5.1

pub read-seen : (v : View) (b n : ℕ) → Finds (ReadAlloc b) n v → IsSeen (ReadAlloc b) n v
read-seen v b n f = record { found = λ e. f; stored = λ e. absurd (false≢true e) }

read-alone : (v : View) (b n : ℕ) → Finds (ReadAlloc b) n v → IsAloneIn Idle v → IsAloneIn Idle (after (ReadAlloc b) n v)
read-alone v b n f a =
    record {
      rest = record { knows = a.rest.knows; alone = a.rest.alone; rest = read-nothing v.shape v.state b n (no-block v a.rest) a.rest.rest };
      alone = alone-step Idle v (ReadAlloc b) n refl (read-seen v b n f) a.alone;
    }

pub part-read : (v w : View) (b n : ℕ) → Found (ReadAlloc b) n v w → IsAloneIn Idle v → IsPart Idle v w
part-read v w b n f a =
    record {
      ran = ran-found v w (ReadAlloc b) n refl f;
      only = only-after (stays_in Idle) v w (ReadAlloc b) n refl f.0;
      alone = subst (IsAloneIn Idle) (sym f.0) (read-alone v b n f.1 a);
    }

takes : (v : View) → IsAlone v → takes_part v.state ≡ true
takes v a = or_left (v.state.active || v.state.knows) v.state.admitted (or_right v.state.active v.state.knows a.knows)

-- the words that were noted stay so, and this one is noted

pub read-kept : (v w : View) (b n c word : ℕ) → Found (ReadAlloc b) n v w → IsAlone v → Known v (alloc_at c) word → Known w (alloc_at c) word
read-kept v w b n c word f a k =
    subst (λ (x : View). Known x (alloc_at c) word) (sym f.0)
    (known-step v (ReadAlloc b) n (alloc_at c) word (inr refl) (read-seen v b n f.1) (alone-steady (seat_after v.shape v.state (ReadAlloc b) n) (alloc_at c) word refl a.alone) k.0)

pub read-here : (v w : View) (b n : ℕ) → Found (ReadAlloc b) n v w → IsAlone v → Known w (alloc_at b) n
read-here v w b n f a =
    subst (λ (x : View). Known x (alloc_at b) n) (sym f.0)
    (known-here v (ReadAlloc b) n (alloc_at b) (eq-eqb b b refl) (alone-steady (seat_after v.shape v.state (ReadAlloc b) n) (alloc_at b) n refl a.alone))

-- notes of the words of blocks that stay
abbrev pub KeepsAllocs : View → View → Type 0
KeepsAllocs v w = (b word : ℕ) → Known v (alloc_at b) word → Known w (alloc_at b) word

pub allocs-kept : (n : ℕ) (v w : View) → AllocsNoted n v → KeepsAllocs v w → AllocsNoted n w
allocs-kept n v w a k b l = let one = a b l in (one.0, k b one.0 one.1)

pub ones-kept : (n : ℕ) (v w : View) → AllocsNoted n v → KeepsAllocs v w → ones_noted n w ≡ ones_noted n v
ones-kept zero v w a k = refl
ones-kept (suc n) v w a k =
    let one = a n (omega arith) in
    let rest = ones-kept n v w (λ b l. a b (omega (arith, l))) k in
    let new = ap (λ o. ones (unwrap_or o 0)) (k n one.0 one.1).0 in
    let old = ap (λ o. ones (unwrap_or o 0)) one.1.0 in
    omega (arith, rest, new, old)

pub allocs-more : (v w : View) (b n : ℕ) → Found (ReadAlloc b) n v w → IsAlone v → AllocsNoted b v → AllocsNoted (b + 1) w
allocs-more v w b n f a h c l =
    ⊎_elim
    (λ (e : c ≡ b). (n, subst (λ x. Known w (alloc_at x) n) (sym e) (read-here v w b n f a)))
    (λ (d : c ≡ b → ⊥). let one = h c (omega (arith, l, d)) in (one.0, read-kept v w b n c one.0 f a one.1))
    (cases_eq c b)

pub ones-more : (v w : View) (b n : ℕ) → Found (ReadAlloc b) n v w → IsAlone v → AllocsNoted b v → ones_noted (b + 1) w ≡ ones_noted b v + ones n
ones-more v w b n f a h =
    let same = ones-kept b v w h (λ c word k. read-kept v w b n c word f a k) in
    let new = ap (λ o. ones (unwrap_or o 0)) (read-here v w b n f a).0 in
    let next : b + 1 ≡ suc b = omega arith in
    let more : ones_noted (b + 1) w ≡ ones_noted (suc b) w = ap (λ k. ones_noted k w) next in
    omega (arith, same, new, more)

-- the blocks whose bits were read

reads-longer : (from n : ℕ) → alloc_reads from (suc n) ≡ alloc_reads from n ++ ReadAlloc (from + n) ∷ []
reads-longer from zero = let z : from ≡ from + 0 = omega arith in ap (λ k. ReadAlloc k ∷ []) z
reads-longer from (suc n) =
    let z : from + 1 + n ≡ from + suc n = omega arith in
    ap (λ (l : List Step). ReadAlloc from ∷ l) (reads-longer (from + 1) n ∙ ap (λ k. alloc_reads (from + 1) n ++ ReadAlloc k ∷ []) z)

-- the blocks so far, and the next one
pub reads-next : (from b : ℕ) (u v w : View) (n : ℕ) → from ≤ b → Ran u v → Found (ReadAlloc b) n v w → steps_of (events u v) ≡ alloc_reads from (b - from) → steps_of (events u w) ≡ alloc_reads from (b + 1 - from)
reads-next from b u v w n l r f e =
    let more : suc (b - from) ≡ b + 1 - from = omega (arith, l) in
    let at : from + (b - from) ≡ b = omega (arith, l) in
    let one = ap steps_of (events-after v w (ReadAlloc b) n f.0) in
    ap steps_of (ran-events u v w r (ran-found v w (ReadAlloc b) n refl f))
    ∙ (steps-append (events u v) (events v w)
    ∙ ((λ i. e i ++ one i) ∙ sym (ap (alloc_reads from) (sym more) ∙ (reads-longer from (b - from) ∙ ap (λ k. alloc_reads from (b - from) ++ ReadAlloc k ∷ []) at))))

-- a step at a counter or statistic

adjusts-quiet : (which : ℕ) (step : Step) → adjusts which step ≡ true → ends_alone step ≡ false
adjusts-quiet which (Reset w) e = refl
adjusts-quiet which (AddStat w by down) e = refl
adjusts-quiet which step e = absurd (false≢true e)

adjusts-elsewhere : (which : ℕ) (at : ℕ × ℕ) → same_place (counter_at which) at ≡ false → Spares (adjusts which) at
adjusts-elsewhere which at h sh s (Reset w) e = inl (ap (λ k. same_place (counter_at k) at) (eqb-true w which e) ∙ h)
adjusts-elsewhere which at h sh s (AddStat w by down) e = inl (ap (λ k. same_place (counter_at k) at) (eqb-true w which e) ∙ h)
adjusts-elsewhere which at h sh s step e = absurd (false≢true e)

-- what was noted of another word stays
pub sets-kept : (which number : ℕ) (v w : View) (at : ℕ × ℕ) (m : ℕ) → same_place (counter_at which) at ≡ false → is_gate at ≡ false → IsAloneIn Idle v → Sets which number v w → Known v at m → Known w at m
sets-kept which number v w at m apart g a s k = known-alone (adjusts which) at m (adjusts-quiet which) (adjusts-elsewhere which at apart) g v w s.part.ran s.only a.rest.alone k

same-here : (at : ℕ × ℕ) → same_place at at ≡ true
same-here at = and_from _ _ (eq-eqb at.0 at.0 refl) (eq-eqb at.1 at.1 refl)

no-gate : (which : ℕ) → is_gate (counter_at which) ≡ false
no-gate which = at_counter (λ at. is_gate at ≡ false) which (λ i h. rw (ne_eqb i 0 (λ g. omega (arith, h, g))) refl) (λ i. refl)

steady-here : (s : SeatState) (which n : ℕ) → s.alone ≡ true → steady s (counter_at which) n ≡ true
steady-here s which n a = alone-steady s (counter_at which) n (no-gate which) a

pub sets-join : (which m n : ℕ) (u v w : View) → Sets which m u v → Sets which n v w → Sets which n u w
sets-join which m n u v w a b =
    record { part = part-join Idle u v w a.part b.part; only = ran-only (adjusts which) u v w a.part.ran b.part.ran a.only b.only; known = b.known }

pub sets-clear : (which : ℕ) (v w : View) → w ≡ after (Reset which) 0 v → IsAloneIn Idle v → Sets which 0 v w
sets-clear which v w is a =
    record {
      part = part-reset Idle which v w is a;
      only = only-after (adjusts which) v w (Reset which) 0 (eq-eqb which which refl) is;
      known =
          subst (λ (x : View). Known x (counter_at which) 0) (sym is)
          (known-here v (Reset which) 0 (counter_at which) (same-here (counter_at which)) (steady-here v.state which 0 a.rest.alone));
    }

-- none of them is the count of parts that were played
pub apart : (which : ℕ) → which ≤ free_count → not (which == done_count) ≡ true
apart which l = ap not (ne_eqb which done_count (λ e. omega (arith, l, e)))

pub sets-add : (which by : ℕ) (v w : View) (m : ℕ) → which ≤ free_count → Took (AddStat which by false) v w → IsAloneIn Idle v → Known v (counter_at which) m → Sets which (wrapped_sum m by) v w
sets-add which by v w m low t a k =
    let n = t.0 in
    let f = t.1 in
    let step : Step = AddStat which by false in
    let same : n ≡ m = found-noted v step n m (counter_at which) f.1 (same-here (counter_at which)) k.0 in
    let seen : IsSeen step n v = record { found = λ e. f.1; stored = λ e. absurd (false≢true e) } in
    record {
      part = part-step Idle v w step n refl (apart which low) refl seen f.0 a;
      only = only-after (adjusts which) v w step n (eq-eqb which which refl) f.0;
      known =
          subst (λ (x : View). Known x (counter_at which) (wrapped_sum m by)) (sym f.0)
          (subst (λ z. Known (after step n v) (counter_at which) (wrapped_sum z by)) same
          (known-here v step n (counter_at which) (same-here (counter_at which)) (steady-here v.state which (wrapped_sum n by) a.rest.alone)));
    }

pub may-add : (which by : ℕ) (v : View) → IsAlone v → last_count ≤ which → which ≤ free_count → May (AddStat which by false) v
may-add which by v h l m x i k a = (
  and_from _ _ (and_from _ _ (le-leb _ _ l) (le-leb _ _ (omega (arith, m)))) (takes v h),
  (or_left (not (which == done_count)) _ (apart which m), tt),
)

pub may-clear : (which : ℕ) (v : View) → which ≤ free_count → IsAloneIn Idle v → May (Reset which) v
may-clear which v l a = may-reset_idle which v (le-leb _ _ l) a
