-- A seat that is outside and doesn't leave hasn't come in meanwhile.
use Rattle.std.proofs.Common.{ℕ, ◌≡◌, List, [], ◌∷◌, refl, sym, ap, ◌∙◌, Bool, true, false, ◌||◌, ⊎_elim, ◌++◌, not}
use Rattle.std.proofs.lemmas.Bool.{false≢true, not-true, or_cases, or_parts, true≢false, and_from, or_left, or_right}
use Rattle.mark_core.specs.Effects.{seat_after}
use Rattle.mark_core.specs.declared.kinds.Shape.{Shape}
use Rattle.mark_core.specs.declared.kinds.Step.{Step}
use Rattle.mark_core.specs.declared.kinds.Step.TheVariants.{DropStep, EnterStep, LeaveStep}
use Rattle.mark_core.specs.declared.seat.SeatState.{SeatState}
use Rattle.gc_table.specs.Log.{events, event}
use Rattle.gc_table.specs.Running.{after_all, Ran}
use Rattle.gc_table.specs.Taking.{after}
use Rattle.gc_table.specs.declared.view.Entry.{Entry}
use Rattle.gc_table.specs.declared.view.View.{View}
use Rattle.packet_pools.specs.Seeking.{some_event}
use Rattle.gc_cycle.specs.Events.{never, each_after, since_or_all}
use Rattle.gc_cycle.specs.Sorts.{comes_in, leaves, resumes, pops_or_clears, raises_flag}
use Rattle.gc_cycle.specs.Standing.{IsOut}
use Rattle.gc_cycle.proofs.Stops.OutAndIn.{bare-parts}
use Rattle.packet_pools.proofs.Searches.{some-left, some-right}
use Rattle.gc_cycle.specs.Mutating.{is_in_stop}
use Rattle.gc_cycle.proofs.Sequences.{since-this}
use Rattle.gc_cycle.proofs.Since.{all-since, since-earlier, since-unlike}

counted-kept : (sh : Shape) (s : SeatState) (step : Step) (old : ℕ) → leaves step old ≡ false → s.counted ≡ true → (seat_after sh s step old).counted ≡ true
counted-kept sh s LeaveStep old e h = absurd (true≢false e)
counted-kept sh s EnterStep old e h = refl
counted-kept sh s DropStep old e h = refl
counted-kept sh s step old e h = h

counted-in : (sh : Shape) (s : SeatState) (step : Step) (old : ℕ) → comes_in step old ≡ true → (seat_after sh s step old).counted ≡ true
counted-in sh s EnterStep old e = refl
counted-in sh s DropStep old e = refl
counted-in sh s step old e = absurd (false≢true e)

counted-on : (es : List Entry) (v : View) → some_event leaves es ≡ false → v.state.counted ≡ true → (after_all es v).state.counted ≡ true
counted-on [] v n h = h
counted-on (e ∷ es) v n h =
    let p = or_parts (leaves e.step e.found) (some_event leaves es) n in counted-on es (after e.step e.found v) p.1 (counted-kept v.shape v.state e.step e.found p.0 h)

came-counted : (es : List Entry) (v : View) → some_event leaves es ≡ false → some_event comes_in es ≡ true → (after_all es v).state.counted ≡ true
came-counted [] v n h = absurd (false≢true h)
came-counted (e ∷ es) v n h =
    let p = or_parts (leaves e.step e.found) (some_event leaves es) n in
    ⊎_elim
    (λ (k : comes_in e.step e.found ≡ true). counted-on es (after e.step e.found v) p.1 (counted-in v.shape v.state e.step e.found k))
    (λ (k : some_event comes_in es ≡ true). came-counted es (after e.step e.found v) p.1 k)
    (or_cases (comes_in e.step e.found) (some_event comes_in es) h)

pub stayed-out : (v w : View) → Ran v w → never leaves (events v w) ≡ true → IsOut w → some_event comes_in (events v w) ≡ false
stayed-out v w r n o = either (some_event comes_in (events v w)) refl
  where
    either : (b : Bool) → some_event comes_in (events v w) ≡ b → b ≡ false
    either false e = refl
    either true e =
        absurd
        (true≢false
        (sym (ap (λ (x : View). x.state.counted) r.steps ∙ came-counted (events v w) v (not-true _ n) e) ∙ (bare-parts w.state o.bare).0))

-- one who didn't come in didn't resume the world
pub unresumed-out : (es : List Entry) → some_event comes_in es ≡ false → some_event resumes es ≡ false
unresumed-out [] h = refl
unresumed-out (e ∷ es) h =
    let p = or_parts (comes_in e.step e.found) (some_event comes_in es) h in
    ap (λ (b : Bool). b || some_event resumes es) (unlike e.step e.found p.0) ∙ unresumed-out es p.1
  where
    unlike : (step : Step) (n : ℕ) → comes_in step n ≡ false → resumes step n ≡ false
    unlike DropStep n k = absurd (true≢false k)
    unlike step n k = refl

-- A seat that waits in a stop, or holds one: what it does meanwhile.
-- whatever came before, it is in the stop
pub stop-later : (xs ys : List Entry) → is_in_stop ys ≡ true → is_in_stop (xs ++ ys) ≡ true
stop-later xs ys h =
    ⊎_elim
    (λ (k : some_event leaves (since_or_all comes_in ys) ≡ true). or_left _ (some_event raises_flag (since_or_all resumes (xs ++ ys))) (since-earlier (some_event leaves) comes_in (λ us vs e. some-right leaves us vs e) xs ys k))
    (λ (k : some_event raises_flag (since_or_all resumes ys) ≡ true). or_right (some_event leaves (since_or_all comes_in (xs ++ ys))) _ (since-earlier (some_event raises_flag) resumes (λ us vs e. some-right raises_flag us vs e) xs ys k))
    (or_cases (some_event leaves (since_or_all comes_in ys)) (some_event raises_flag (since_or_all resumes ys)) h)

-- it stays in it until it comes in
pub stop-on : (before es : List Entry) → some_event comes_in es ≡ false → is_in_stop before ≡ true → is_in_stop (before ++ es) ≡ true
stop-on before es n h =
    ⊎_elim
    (λ (k : some_event leaves (since_or_all comes_in before) ≡ true).
    or_left _ (some_event raises_flag (since_or_all resumes (before ++ es))) (ap (some_event leaves) (since-unlike comes_in before es n) ∙ some-left leaves (since_or_all comes_in before) es k))
    (λ (k : some_event raises_flag (since_or_all resumes before) ≡ true).
    or_right (some_event leaves (since_or_all comes_in (before ++ es))) _ (ap (some_event raises_flag) (since-unlike resumes before es (unresumed-out es n)) ∙ some-left raises_flag (since_or_all resumes before) es k))
    (or_cases (some_event leaves (since_or_all comes_in before)) (some_event raises_flag (since_or_all resumes before)) h)

pub works-on : (before es : List Entry) → some_event comes_in es ≡ false → is_in_stop before ≡ true → each_after is_in_stop pops_or_clears before es ≡ true
works-on before [] n h = refl
works-on before (e ∷ es) n h =
    let p = or_parts (comes_in e.step e.found) (some_event comes_in es) n in
    and_from _ _ (or_right (not (pops_or_clears e.step e.found)) _ h) (works-on (before ++ e ∷ []) es p.1 (stop-on before (e ∷ []) (ap (λ (b : Bool). b || false) p.0) h))

-- it came in and turned back
pub turned-stop : (before : List Entry) (n m : ℕ) → is_in_stop (before ++ event EnterStep n ∷ event LeaveStep m ∷ []) ≡ true
turned-stop before n m =
    let es : List Entry = event EnterStep n ∷ event LeaveStep m ∷ [] in
    or_left _ (some_event raises_flag (since_or_all resumes (before ++ es)))
    (ap (some_event leaves) (all-since comes_in (before ++ es) true (some-right comes_in before es refl) ∙ since-this comes_in before (event EnterStep n) (event LeaveStep m ∷ []) refl refl))
