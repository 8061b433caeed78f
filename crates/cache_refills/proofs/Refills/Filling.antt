-- The seat that stopped the world says that the heap is full, once it has seen that every cell is published.
use Rattle.std.proofs.Common.{ℕ, ◌≡◌, ◌<◌, List, [], ◌∷◌, ◌++◌, suc, get_or, length, arith, refl, sym, ap, ◌∙◌, subst, Bool, true, false, not, ◌&&◌, Some, None, Option, is_some, inl, inr}
use Rattle.std.specs.Prelude.{◌==◌, IfNone, unwrap_or}
use Rattle.std.specs.List.{list_all}
use Rattle.std.proofs.lemmas.Bool.{and_from, eq-eqb, false≢true, or_right, true≢false}
use Rattle.mark_core.specs.Bits.{all_ones}
use Rattle.mark_core.specs.Effects.{written}
use Rattle.mark_core.specs.Layout.{block_count, region_sizes, words_of}
use Rattle.mark_core.specs.Places.{alloc_at, the_named}
use Rattle.mark_core.specs.Seats.{is_phase}
use Rattle.mark_core.specs.Steps.WorldSteps.{all_allocated}
use Rattle.mark_core.specs.declared.kinds.Phase.TheVariants.{Full, Idle}
use Rattle.mark_core.specs.declared.kinds.Shape.{Shape}
use Rattle.mark_core.specs.declared.kinds.Step.{Step}
use Rattle.mark_core.specs.declared.kinds.Step.TheVariants.{StoreNamed, StorePhase}
use Rattle.mark_core.proofs.Writing.Places.{region-length}
use Rattle.gc_table.specs.Log.{all_steps, event, events}
use Rattle.gc_table.specs.Notes.{look}
use Rattle.gc_table.specs.Rule.{Agrees, IsState, KnowsFull}
use Rattle.gc_table.specs.Running.{Ran}
use Rattle.gc_table.specs.Seats.{Stored}
use Rattle.gc_table.specs.Taking.{after, Finds, May}
use Rattle.gc_table.specs.TableState.{TableState}
use Rattle.gc_table.specs.declared.view.Entry.{Entry}
use Rattle.gc_table.specs.declared.view.View.{View}
use Rattle.gc_table.proofs.History.Log.{events-after}
use Rattle.gc_table.proofs.Noticing.{alone-steady, known-elsewhere, known-here}
use Rattle.gc_table.proofs.Running.{ran-events, ran-join, ran-only}
use Rattle.packet_pools.specs.Seeking.{some_event}
use Rattle.packet_pools.proofs.Searches.{some-left, some-right}
use Rattle.stop_world.proofs.Passing.{phase-is}
use Rattle.alloc_cache.specs.Claiming.{seeks_block}
use Rattle.alloc_cache.specs.declared.cache.Cache.{Cache}
use Rattle.gc_cycle.specs.Cycles.{collects, may_fill, sees_all_full, sees_free_cell}
use Rattle.gc_cycle.specs.Events.{each_after, never, since_last}
use Rattle.gc_cycle.specs.Finishing.{finishes, IsAloneIn, IsPart, stays}
use Rattle.gc_cycle.specs.Mutating.{keeps_section}
use Rattle.gc_cycle.specs.Polling.{saw_full}
use Rattle.cache_refills.specs.Refilling.{ClaimsAlone, HasMissed, RestsAlone, SeesFull}
use Rattle.gc_cycle.specs.Sorts.{begins_exactly, ends_cycle, moves_to, names, raises_flag, reads_all_ones, reads_free_cell, resumes}
use Rattle.cache_refills.specs.Stops.{claim_failed, misses_block}
use Rattle.cache_refills.proofs.Causes.{after-join, each-in, failed-later, search-failed, since-more}
use Rattle.gc_cycle.proofs.Refills.Collected.{followed-earlier}
use Rattle.gc_cycle.proofs.Stops.OutAndIn.{no-cache}
use Rattle.cache_refills.proofs.Stops.InStop.{claims-later, ClaimsNone, quiet-part, rests-later, resume-in, unfills}
use Rattle.gc_cycle.proofs.Ends.Moving.{moved}
use Rattle.gc_cycle.proofs.Parts.{move-finishes, part-finishes, part-join, part-stays, part-step}
use Rattle.gc_cycle.proofs.Sequences.{none-of-steps, some-none}
use Rattle.gc_cycle.proofs.Ends.Finishes.{some-of-followed as followed-some}
use Rattle.gc_cycle.proofs.Ends.Completing.{no-end as unended}

-- every word of allocation bits is all ones, in each state that agrees with such notes

all-pass : {X : Type 0} (f : X → Bool) (xs : List X) (d : X) → ((i : ℕ) → i < length xs → f (get_or xs i d) ≡ true) → list_all f xs ≡ true
all-pass f [] d h = refl
all-pass f (x ∷ xs) d h = and_from (f x) (list_all f xs) (h 0 (omega arith)) (all-pass f xs d (λ i l. h (suc i) (omega (arith, l))))

-- each block's word is noted so
abbrev pub NotesFull : View → Type 0
NotesFull v = (b : ℕ) → b < block_count v.shape → look (alloc_at b) v.known ≡ Some all_ones

all-published : (x : TableState) (i : ℕ) (v : View) → IsState x → Agrees x i v → NotesFull v → all_allocated (words_of x.core.shape x.core.words).allocs ≡ true
all-published x i v k a h =
    let sh : Shape = x.core.shape in
    let allocs : List ℕ = (words_of sh x.core.words).allocs in
    let long : length allocs ≡ block_count sh = region-length (region_sizes sh) 4 x.core.words (omega (arith, k.core.formed.words)) in
    all-pass (λ n. n == all_ones) allocs 0
    (λ b l. eq-eqb (get_or allocs b 0) all_ones (a.noted (alloc_at b) all_ones (h b (subst (λ (s : Shape). b < block_count s) (sym a.shape) (omega (arith, long, l))))).1)

-- the section may be named, and after that the heap said to be full

pub may-name : (v : View) → IsAloneIn Idle v → is_some v.state.section ≡ true → May StoreNamed v
may-name v h s x i k a = (and_from _ _ (and_from _ _ h.rest.knows s) (ap (λ n. is_phase n Idle) (phase-is x i v 0 a h.alone.phase)), tt)

pub may-fill : (v : View) → IsAloneIn Idle v → v.state.exact ≡ true → NotesFull v → May (StorePhase Full) v
may-fill v h e n x i k a = (
  ap (λ m. is_phase m Idle) (phase-is x i v 0 a h.alone.phase),
  (and_from _ _ (and_from _ _ h.rest.knows (all-published x i v k a n)) e, (or_right (not v.state.knows) v.state.alone h.rest.alone, tt)),
)

-- what naming the section leaves

pub named-part : (v w : View) → Stored StoreNamed v w → IsAloneIn Idle v → IsPart Idle v w
named-part v w s a =
    part-step Idle v w StoreNamed (written v.shape v.state StoreNamed 0) refl refl refl (record { found = λ e. absurd (true≢false e); stored = λ e. refl }) s a

pub named-kept : (v w : View) → Stored StoreNamed v w → IsAloneIn Idle v → NotesFull v → NotesFull w
named-kept v w s a h =
    subst NotesFull (sym s)
    (λ b l.
    (known-elsewhere v StoreNamed (written v.shape v.state StoreNamed 0) (alloc_at b) all_ones refl (alone-steady v.state (alloc_at b) all_ones refl a.rest.alone) (h b l)).0)

some-of : (o : Option ℕ) → is_some o ≡ true → (n : ℕ) × (o ≡ Some n)
some-of None e = absurd (false≢true e)
some-of (Some n) e = (n, refl)

-- its name is the section's number
pub named-asked : (v w : View) → Stored StoreNamed v w → IsAloneIn Idle v → is_some v.state.section ≡ true → (n : ℕ) × (w.state.section ≡ Some n) × (look the_named w.known ≡ Some n)
named-asked v w s a k =
    let g = some-of v.state.section k in
    let m = written v.shape v.state StoreNamed 0 in
    let here = known-here v StoreNamed m the_named refl (alone-steady v.state the_named m refl a.rest.alone) in
    (g.0, ap (λ (x : View). x.state.section) s ∙ g.1, ap (λ (x : View). look the_named x.known) s ∙ (here.0 ∙ ap (λ o. Some (unwrap_or o 0)) g.1))

-- the heap was said to be full

pub full-claims : (u v w x : View) (n : ℕ) → IsPart Idle u v → RestsAlone u → Stored StoreNamed v w → x ≡ after (StorePhase Full) n w → Finds (StorePhase Full) n w → ClaimsAlone None u x
full-claims u v w x n p b s is f =
    let part = part-join Idle u v w p (named-part v w s p.alone) in
    let m = moved Idle Full w x n refl part.alone is f in
    let rests : RestsAlone x =
    rests-later u x (ran-join u w x part.ran m.ran) (ran-only finishes u w x part.ran m.ran (part-finishes Idle u w part) (move-finishes Idle Full w x m)) u refl refl b in
    claims-later None u w x (quiet-part Idle u w part)
    (record {
      ran = m.ran;
      only = ap (all_steps keeps_section) m.events_are;
      calm = ap (never raises_flag) m.events_are;
      stopped = ap (never resumes) m.events_are;
      going = ap saw_full m.events_are;
      resume = resume-in Full x refl m.alone rests;
      cached = no-cache x.shape x.state m.alone.rest.rest;
      position = ap (λ (z : View). z.own.position) is;
      some = tt;
      none = inr m.alone.alone.phase;
    })

-- the seat knows it
pub full-told : (u v w x : View) (n : ℕ) → IsPart Idle u v → Stored StoreNamed v w → x ≡ after (StorePhase Full) n w → Finds (StorePhase Full) n w → KnowsFull x
full-told u v w x n p s is f = (moved Idle Full w x n refl (part-join Idle u v w p (named-part v w s p.alone)).alone is f).alone.alone.phase

pub seeks-unended : (step : Step) (n : ℕ) → seeks_block step ≡ true → ends_cycle step n ≡ false
seeks-unended (StorePhase to) n e = absurd (false≢true e)
seeks-unended step n e = refl

-- after a collection in the same stop a block with a free cell was read, and a search found none
pub looked-missed : (sh : Shape) (o : Option Cache) (u v w : View) → 0 < block_count sh → IsPart Idle u v → sees_free_cell sh (events u v) ≡ true → Ran v w → IfNone o (ClaimsNone sh v w) → (before : List Entry) → collects before ≡ true → HasMissed sh o (before ++ events u w) w
looked-missed sh None u v w some p s r n before c =
    let es = ran-events u v w p.ran r in
    let none : some_event ends_cycle (events u w) ≡ false =
    ap (some_event ends_cycle) es
    ∙ some-none ends_cycle (events u v) (events v w) (none-of-steps stays ends_cycle unended (events u v) (part-stays Idle u v p)) (none-of-steps seeks_block ends_cycle seeks-unended (events v w) n.3) in
    inl
    (ap (misses_block sh) (since-more ends_cycle before (events u w) (followed-some begins_exactly ends_cycle before c) none)
    ∙ and_from _ _
    (some-right (reads_free_cell (block_count sh)) (since_last ends_cycle before) (events u w) (ap (sees_free_cell sh) es ∙ some-left (reads_free_cell (block_count sh)) (events u v) (events v w) s))
    (failed-later sh (since_last ends_cycle before) (events u w) (ap (claim_failed sh) es ∙ failed-later sh (events u v) (events v w) (search-failed sh (events v w) some n.3 n.2))))
looked-missed sh (Some h) u v w some p s r n before c = tt

-- after a precise collection in the same stop there was cause
pub full-fills : (sh : Shape) (u v w x : View) (n : ℕ) → IsPart Idle u v → SeesFull sh u v → Stored StoreNamed v w → x ≡ after (StorePhase Full) n w → Finds (StorePhase Full) n w → (before : List Entry) → collects before ≡ true → each_after (may_fill sh) (moves_to Full) before (events u x) ≡ true
full-fills sh u v w x n p full s is f before c =
    let named = named-part v w s p.alone in
    let part = part-join Idle u v w p named in
    let es : List Entry = events u w in
    let last : Ran w x = (moved Idle Full w x n refl part.alone is f).ran in
    let none : some_event ends_cycle es ≡ false = none-of-steps stays ends_cycle unended es (part-stays Idle u w part) in
    let first : List Entry = since_last ends_cycle before in
    let since : since_last ends_cycle (before ++ es) ≡ first ++ es = since-more ends_cycle before es (followed-some begins_exactly ends_cycle before c) none in
    let seen : sees_all_full sh (first ++ es) ≡ true =
    each-in (λ b. some_event (reads_all_ones b) (first ++ es)) (block_count sh) 0
    (λ b l. some-right (reads_all_ones b) first es (ap (some_event (reads_all_ones b)) (ran-events u v w p.ran named.ran) ∙ some-left (reads_all_ones b) (events u v) (events v w) (full.seen b (omega (arith, l))))) in
    let name : some_event names es ≡ true =
    ap (some_event names) (ran-events u v w p.ran named.ran) ∙ some-right names (events u v) (events v w) (ap (some_event names) (events-after v w StoreNamed (written v.shape v.state StoreNamed 0) s)) in
    let cause : may_fill sh (before ++ es) ≡ true =
    and_from (collects (before ++ es) && sees_all_full sh (since_last ends_cycle (before ++ es))) (some_event names (before ++ es))
    (and_from (collects (before ++ es)) _ (followed-earlier begins_exactly ends_cycle before es c) (ap (sees_all_full sh) since ∙ seen)) (some-right names before es name) in
    ap (each_after (may_fill sh) (moves_to Full) before) (ran-events u w x part.ran last ∙ ap (λ xs. es ++ xs) (events-after w x (StorePhase Full) n is))
    ∙ after-join (may_fill sh) (moves_to Full) before es (event (StorePhase Full) n ∷ []) (unfills sh before u w (quiet-part Idle u w part).spares)
    (and_from _ _ (or_right false (may_fill sh (before ++ es)) cause) refl)
