-- Changes of the statistics, over the events of calls one after another.
use Rattle.std.proofs.Common.{ℕ, ◌≡◌, List, [], ◌∷◌, ◌++◌, refl, sym, ap, ◌∙◌, subst, true, Some, None, Option, is_some, ⊎_elim, ◌⊎◌, inl, inr, Bool, false, not}
use Rattle.std.proofs.lemmas.Bool.{false≢true, true≢false, and_parts}
use Rattle.mark_core.specs.declared.kinds.Step.{Step}
use Rattle.mark_core.specs.declared.kinds.Step.TheVariants.{AddStat, Reset, PublishCells, ReleaseBlock, DropStep, Pop, StorePhase}
use Rattle.gc_table.specs.Log.{events, Only, steps_of, all_steps, event}
use Rattle.gc_table.specs.Running.{Ran}
use Rattle.gc_table.specs.Taking.{after}
use Rattle.gc_table.specs.declared.view.View.{View}
use Rattle.gc_table.proofs.History.Log.{events-none, only-after, events-after, only-more}
use Rattle.gc_table.proofs.Running.{ran-events, ran-join, ran-refl, ran-only, ran-after, ran-found}
use Rattle.packet_pools.proofs.Reading.{picked-join}
use Rattle.alloc_cache.specs.declared.cache.Cache.{Cache}
use Rattle.gc_cycle.specs.OneCycle.{EndsCycle}
use Rattle.gc_cycle.specs.declared.counts.Counts.{Counts}
use Rattle.gc_cycle.specs.Statistics.{BetweenCycles, changing_step, ChangesBy, ChangesNumbers, given_up, gives_back, GivesUp, leaves_numbers, numbers_changed, taken, takes_off}
use Rattle.std.specs.Prelude.{◌==◌, if◌then◌else◌, IfNone, IfSome}
use Rattle.std.specs.Int.Count.{ones}
use Rattle.mark_core.specs.Numbers.{free_count, card_counter, last_count, rescanned_count, traced_count}
use Rattle.gc_table.specs.declared.view.Entry.{Entry}
use Rattle.alloc_cache.specs.Claiming.{claimed_by, Claims, seeks_block}
use Rattle.alloc_cache.specs.Retiring.{retiring_steps}
use Rattle.packet_pools.specs.Fields.{picked}
use Rattle.mark_core.specs.Seats.{saw}
use Rattle.mark_core.specs.declared.kinds.Phase.{Phase}
use Rattle.mark_core.specs.declared.kinds.Phase.TheVariants.{Drain}
use Rattle.gc_table.specs.Seats.{Took}
use Rattle.gc_cycle.specs.Courses.{goes_on, phase_stored, TakesCourse}
use Rattle.gc_cycle.specs.Events.{never}
use Rattle.gc_cycle.specs.Finishing.{finishes, IsPart, stays, stays_in}
use Rattle.gc_cycle.specs.Sorts.{pops}
use Rattle.gc_cycle.proofs.Ends.Finishes.{never-both}
use Rattle.gc_cycle.proofs.Parts.{part-finishes, part-stays, reset-seen}
use Rattle.gc_cycle.proofs.Sequences.{none-of-steps}

-- What a claim, a payment and a cache given up do to the statistics.
-- What no event tells.
pub picked-none : {X : Type 0} (P : Step → Bool) (f : Step → ℕ → List X) → ((step : Step) (n : ℕ) → P step ≡ true → f step n ≡ []) → (es : List Entry) → all_steps P es ≡ true → picked f es ≡ []
picked-none P f h [] a = refl
picked-none P f h (e ∷ es) a = let p = and_parts (P e.step) (all_steps P es) a in λ i. h e.step e.found p.0 i ++ picked-none P f h es p.1 i

-- a search for a block changes no number
seeks-none : (step : Step) (n : ℕ) → seeks_block step ≡ true → changing_step step n ≡ []
seeks-none (AddStat which by down) n e = absurd (false≢true e)
seeks-none (Reset which) n e = absurd (false≢true e)
seeks-none step n e = refl

pub seeks-by : (v w : View) → Ran v w → Only seeks_block v w → ChangesBy [] v w
seeks-by v w r o = record { ran = r; all = picked-none seeks_block changing_step seeks-none (events v w) o }

-- the claim at its end takes the free cells of the block off
pub claim-by : (h : Cache) (v w : View) → Ran v w → Claims h v w → ChangesBy (takes_off h ∷ []) v w
claim-by h v w r k =
    let e = k.events_are in
    record {
      ran = r;
      all =
          ap numbers_changed e.3
          ∙ (picked-join changing_step e.0 (claimed_by h e.1 e.2) ∙ ap (λ l. l ++ takes_off h ∷ []) (picked-none seeks_block changing_step seeks-none e.0 e.5));
    }

-- whatever its answer
pub claim-any : (o : Option Cache) (v w : View) → Ran v w → IfSome o (λ h. Claims h v w) → IfNone o (Only seeks_block v w) → ChangesBy (taken o) v w
claim-any None v w r s n = seeks-by v w r n
claim-any (Some h) v w r s n = claim-by h v w r s

-- a cache given up

abbrev changed_of : List Step → List Step
changed_of [] = []
changed_of (s ∷ ss) = changing_step s 0 ++ changed_of ss

found-any : (step : Step) (n : ℕ) → changing_step step n ≡ changing_step step 0
found-any (AddStat which by down) n = refl
found-any (Reset which) n = refl
found-any step n = refl

by-steps : (es : List Entry) → numbers_changed es ≡ changed_of (steps_of es)
by-steps [] = refl
by-steps (e ∷ es) = λ i. found-any e.step e.found i ++ by-steps es i

retiring-changed : (b : Bool) (n : ℕ) → changed_of ((if b then [] else PublishCells ∷ []) ++ AddStat free_count n false ∷ ReleaseBlock ∷ []) ≡ AddStat free_count n false ∷ []
retiring-changed true n = refl
retiring-changed false n = refl

pub retire-by : (h : Cache) (used : ℕ) (v w : View) → Ran v w → steps_of (events v w) ≡ retiring_steps h used → ChangesBy (gives_back h ∷ []) v w
retire-by h used v w r s = record { ran = r; all = by-steps (events v w) ∙ (ap changed_of s ∙ retiring-changed (used == 0) (ones h.cells)) }

pub retire-up : (h : Cache) (used : ℕ) (v w : View) → Ran v w → steps_of (events v w) ≡ retiring_steps h used → GivesUp (Some h) None v w
retire-up h used v w r s = record { changed = retire-by h used v w r s; same = inr refl }

-- steps that change no number
leaves-none : (step : Step) (n : ℕ) → leaves_numbers step ≡ true → changing_step step n ≡ []
leaves-none (AddStat which by down) n e = absurd (false≢true e)
leaves-none (Reset which) n e = absurd (false≢true e)
leaves-none step n e = refl

pub only-changes : (v w : View) → Ran v w → Only leaves_numbers v w → ChangesBy [] v w
only-changes v w r o = record { ran = r; all = picked-none leaves_numbers changing_step leaves-none (events v w) o }

-- one step
pub changes-after : (v w : View) (step : Step) (n : ℕ) → leaves_numbers step ≡ true → Ran v w → w ≡ after step n v → ChangesBy [] v w
changes-after v w step n h r e = only-changes v w r (only-after leaves_numbers v w step n h e)

pub by-none : (v : View) → ChangesBy [] v v
by-none v = record { ran = ran-refl v; all = ap numbers_changed (events-none v) }

-- one call after another
pub by-join : (ss tt : List Step) (u v w : View) → ChangesBy ss u v → ChangesBy tt v w → ChangesBy (ss ++ tt) u w
by-join ss ts u v w a b =
    record { ran = ran-join u v w a.ran b.ran; all = ap numbers_changed (ran-events u v w a.ran b.ran) ∙ (picked-join changing_step (events u v) (events v w) ∙ (λ i. a.all i ++ b.all i)) }

-- the ends of cycles of one call, and then those of another
between-first : (ss : List Step) (ys : List (View × View)) (u v w : View) → ChangesBy [] u v → BetweenCycles ss ys v w → BetweenCycles ss ys u w
between-first ss [] u v w a b = by-join [] ss u v w a b
between-first ss (y ∷ ys) u v w a b = (by-join [] [] u v y.0 a b.0, b.1, b.2)

between-join : (ss : List Step) (xs ys : List (View × View)) (u v w : View) → BetweenCycles [] xs u v → BetweenCycles ss ys v w → (zs : List (View × View)) × BetweenCycles ss zs u w
between-join ss [] ys u v w a b = (ys, between-first ss ys u v w a b)
between-join ss (x ∷ xs) ys u v w a b = let r = between-join ss xs ys x.1 v w a.2 b in (x ∷ r.0, (a.0, a.1, r.1))

pub numbers-join : (ss : List Step) (u v w : View) → ChangesNumbers [] u v → ChangesNumbers ss v w → ChangesNumbers ss u w
numbers-join ss u v w a b = between-join ss a.0 b.0 u v w a.1 b.1

between-more : (ss ts : List Step) (xs : List (View × View)) (u v w : View) → BetweenCycles ss xs u v → ChangesBy ts v w → BetweenCycles (ss ++ ts) xs u w
between-more ss ts [] u v w a b = by-join ss ts u v w a b
between-more ss ts (x ∷ xs) u v w a b = (a.0, a.1, between-more ss ts xs x.1 v w a.2 b)

pub numbers-more : (ss ts : List Step) (u v w : View) → ChangesNumbers ss u v → ChangesBy ts v w → ChangesNumbers (ss ++ ts) u w
numbers-more ss ts u v w a b = (a.0, between-more ss ts a.0 u v w a.1 b)

pub numbers-one : (ss : List Step) (v w : View) → ChangesBy ss v w → ChangesNumbers ss v w
numbers-one ss v w c = ([], c)

-- a cycle ended, and then more was done
pub numbers-after : {counts : Counts} (ss : List Step) (u v w : View) → EndsCycle counts u v → ChangesNumbers ss v w → ChangesNumbers ss u w
numbers-after {counts} ss u v w e k = ((u, v) ∷ k.0, (by-none u, (counts, e), k.1))

-- a collection in a stop of its own, with what comes before and after it
pub numbers-collected : (u v w x y : View) → ChangesBy [] u v → ChangesBy [] v w → ChangesNumbers [] w x → ChangesBy [] x y → ChangesNumbers [] u y
numbers-collected u v w x y a b c d = numbers-join [] u w y (numbers-one [] u w (by-join [] [] u v w a b)) (numbers-more [] [] w x y c d)

-- a cache that is kept
same-none : (o : Option Cache) → given_up o o ≡ []
same-none None = refl
same-none (Some h) = refl

pub keeps-up : (o : Option Cache) (v w : View) → ChangesBy [] v w → GivesUp o o v w
keeps-up o v w c = record { changed = subst (λ s. ChangesBy s v w) (sym (same-none o)) c; same = inl refl }

-- kept or given up, and then again
not-some : {X : Type 0} {h : Cache} {o : Option Cache} → Some h ≡ o → o ≡ None → X
not-some e n = absurd (true≢false (ap is_some (e ∙ n)))

some-same : {h k : Cache} → Some h ≡ Some k → h ≡ k
some-same e = cc

given-twice : (a b c : Option Cache) → (b ≡ a) ⊎ (b ≡ None) → (c ≡ b) ⊎ (c ≡ None) → given_up a b ++ given_up b c ≡ given_up a c
given-twice None None c x y = refl
given-twice None (Some k) c x y = ⊎_elim (λ e. not-some refl e) (λ e. not-some refl e) x
given-twice (Some h) None None x y = refl
given-twice (Some h) None (Some l) x y = ⊎_elim (λ e. not-some refl e) (λ e. not-some refl e) y
given-twice (Some h) (Some k) None x y = ⊎_elim (λ (e : Some k ≡ Some h). ap (λ z. gives_back z ∷ []) (some-same e)) (λ (e : Some k ≡ None). not-some refl e) x
given-twice (Some h) (Some k) (Some l) x y = refl

pub gives-join : (a b c : Option Cache) (u v w : View) → GivesUp a b u v → GivesUp b c v w → GivesUp a c u w
gives-join a b c u v w x y =
    record {
      changed = subst (λ s. ChangesBy s u w) (given-twice a b c x.same y.same) (by-join (given_up a b) (given_up b c) u v w x.changed y.changed);
      same = ⊎_elim (λ (e : c ≡ b). ⊎_elim (λ (f : b ≡ a). inl (e ∙ f)) (λ (f : b ≡ None). inr (e ∙ f)) x.same) (λ (e : c ≡ None). inr e) y.same;
    }

-- The course of a collection, put together out of calls.
-- How the numbers for the next cycle are set, and how a drain begins: by which steps, and through which phases.
-- one step that changes a number
pub reset-changes : (which : ℕ) (v w : View) → w ≡ after (Reset which) 0 v → ChangesBy (Reset which ∷ []) v w
reset-changes which v w e = record { ran = ran-after v w (Reset which) 0 e (reset-seen v which); all = ap numbers_changed (events-after v w (Reset which) 0 e) }

pub add-changes : (which by : ℕ) (v w : View) → Took (AddStat which by false) v w → ChangesBy (AddStat which by false ∷ []) v w
add-changes which by v w t =
    record { ran = ran-found v w (AddStat which by false) t.0 refl t.1; all = ap numbers_changed (events-after v w (AddStat which by false) t.0 t.1.0) }

-- a statistic is set
abbrev sets : ℕ → ℕ → List Step
sets which n = Reset which ∷ AddStat which n false ∷ []

-- the numbers for the next cycle are set, one after another
pub settled-changes : (a b d : ℕ) (v0 v1 v2 v3 v4 v5 v6 : View) → ChangesBy [] v0 v1 → ChangesBy (Reset last_count ∷ AddStat last_count a false ∷ []) v1 v2 → ChangesBy (Reset rescanned_count ∷ AddStat rescanned_count b false ∷ []) v2 v3
    → ChangesBy (Reset free_count ∷ AddStat free_count d false ∷ []) v3 v4 → ChangesBy (Reset traced_count ∷ []) v4 v5 → ChangesBy (Reset card_counter ∷ []) v5 v6
    → ChangesBy (Reset last_count ∷ AddStat last_count a false ∷ Reset rescanned_count ∷ AddStat rescanned_count b false ∷ Reset free_count ∷ AddStat free_count d false ∷ Reset traced_count ∷ Reset card_counter ∷ []) v0 v6
settled-changes a b d v0 v1 v2 v3 v4 v5 v6 p q r s t k =
    let last : List Step = Reset traced_count ∷ Reset card_counter ∷ [] in
    by-join [] (sets last_count a ++ (sets rescanned_count b ++ (sets free_count d ++ last))) v0 v1 v6 p
    (by-join (sets last_count a) (sets rescanned_count b ++ (sets free_count d ++ last)) v1 v2 v6 q
    (by-join (sets rescanned_count b) (sets free_count d ++ last) v2 v3 v6 r (by-join (sets free_count d) last v3 v4 v6 s (by-join (Reset traced_count ∷ []) (Reset card_counter ∷ []) v4 v5 v6 t k))))

-- the drain begins, and the pass over the cards
pub course-begun : (n : ℕ) (v w : View) → Ran v w → events v w ≡ event (StorePhase Drain) n ∷ event (Reset card_counter) 0 ∷ [] → TakesCourse (Drain ∷ []) (Reset card_counter ∷ []) v w
course-begun n v w r e = record { only = ap (all_steps goes_on) e; moved = ap (picked phase_stored) e; changed = record { ran = r; all = ap numbers_changed e }; unpopped = ap (never pops) e }

-- one call after another
pub course-join : (ps qs : List Phase) (ss ts : List Step) (u v w : View) → TakesCourse ps ss u v → TakesCourse qs ts v w → TakesCourse (ps ++ qs) (ss ++ ts) u w
course-join ps qs ss ts u v w a b =
    record {
      only = ran-only goes_on u v w a.changed.ran b.changed.ran a.only b.only;
      moved = ap (picked phase_stored) (ran-events u v w a.changed.ran b.changed.ran) ∙ (picked-join phase_stored (events u v) (events v w) ∙ (λ i. a.moved i ++ b.moved i));
      changed = by-join ss ts u v w a.changed b.changed;
      unpopped = ap (never pops) (ran-events u v w a.changed.ran b.changed.ran) ∙ never-both pops (events u v) (events v w) a.unpopped b.unpopped;
    }

finishes-on : (step : Step) → finishes step ≡ true → goes_on step ≡ true
finishes-on DropStep e = refl
finishes-on step e = e

stays-unmoved : (step : Step) (n : ℕ) → stays step ≡ true → phase_stored step n ≡ []
stays-unmoved (StorePhase to) n e = absurd (false≢true e)
stays-unmoved step n e = refl

unpopped-in : (p : Phase) → saw (Some p) Drain ≡ false → (step : Step) (n : ℕ) → stays_in p step ≡ true → pops step n ≡ false
unpopped-in p d (Pop packet) n e = absurd (true≢false (sym e ∙ d))
unpopped-in p d step n e = refl

-- cells are popped only in a drain
pub part-unpopped : (p : Phase) → saw (Some p) Drain ≡ false → (v w : View) → IsPart p v w → never pops (events v w) ≡ true
part-unpopped p d v w h = ap not (none-of-steps (stays_in p) pops (unpopped-in p d) (events v w) h.only)

-- a part of the stop
pub course-part : (p : Phase) (ss : List Step) (v w : View) → saw (Some p) Drain ≡ false → IsPart p v w → ChangesBy ss v w → TakesCourse [] ss v w
course-part p ss v w d h k =
    record {
      only = only-more finishes goes_on finishes-on v w (part-finishes p v w h);
      moved = picked-none stays phase_stored stays-unmoved (events v w) (part-stays p v w h);
      changed = k;
      unpopped = part-unpopped p d v w h;
    }

-- a counter is set to 0
pub course-reset : (which : ℕ) (v w : View) → w ≡ after (Reset which) 0 v → TakesCourse [] (Reset which ∷ []) v w
course-reset which v w e =
    let es = events-after v w (Reset which) 0 e in
    record { only = ap (all_steps goes_on) es; moved = ap (picked phase_stored) es; changed = reset-changes which v w e; unpopped = ap (never pops) es }

-- the world goes on
pub course-drop : (v w : View) → Ran v w → Took DropStep v w → TakesCourse [] [] v w
course-drop v w r t =
    record {
      only = only-after goes_on v w DropStep t.0 refl t.1.0;
      moved = ap (picked phase_stored) (events-after v w DropStep t.0 t.1.0);
      changed = changes-after v w DropStep t.0 refl r t.1.0;
      unpopped = ap (never pops) (events-after v w DropStep t.0 t.1.0);
    }
