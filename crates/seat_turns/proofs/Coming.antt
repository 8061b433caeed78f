-- Safe points one after another, rounds, and what an operation's steps are not.
use Rattle.std.proofs.Common.{ℕ, ◌≡◌, ◌||◌, List, [], ◌∷◌, refl, sym, ap, ◌∙◌, subst, Bool, true, false, Option, None, Some, ⊎_elim, inl, inr}
use Rattle.std.specs.Prelude.{◌⊎◌, if◌then◌else◌, IfNone, IfSome}
use Rattle.std.proofs.lemmas.Bool.{false≢true, or_left, or_right}
use Rattle.mark_core.specs.declared.kinds.Phase.TheVariants.{Full}
use Rattle.mark_core.specs.declared.kinds.Shape.{Shape}
use Rattle.mark_core.specs.declared.kinds.Step.{Step}
use Rattle.mark_core.specs.declared.kinds.Step.TheVariants.{ReadSeason}
use Rattle.gc_table.specs.Log.{events, steps_of}
use Rattle.gc_table.specs.Seats.{Found}
use Rattle.gc_table.specs.declared.seat.Heap.{Heap}
use Rattle.gc_table.specs.declared.seat.HeapSeat.{HeapSeat}
use Rattle.gc_table.specs.declared.view.Entry.{Entry}
use Rattle.gc_table.specs.declared.view.View.{View}
use Rattle.gc_table.proofs.History.Log.{events-after, events-none}
use Rattle.gc_table.proofs.Running.{ran-events, ran-found}
use Rattle.packet_pools.specs.Seeking.{some_event}
use Rattle.packet_pools.proofs.Searches.{some-left, some-right}
use Rattle.alloc_cache.specs.declared.cache.Cache.{Cache}
use Rattle.alloc_cache.specs.Caching.{IsCached}
use Rattle.gc_cycle.specs.Answering.{HasCache, PassesSafely}
use Rattle.gc_cycle.specs.Cycles.{never_fills}
use Rattle.gc_cycle.specs.Events.{Sort, first_is, never}
use Rattle.gc_cycle.specs.Mutating.{works_in_stops}
use Rattle.gc_cycle.specs.Polling.{poll_found_stop, saw_full}
use Rattle.gc_cycle.specs.Sorts.{joins, moves_to, polls, raises_flag, reads_phase, sees_flag, tries_marking}
use Rattle.gc_cycle.specs.Statistics.{GivesUp}
use Rattle.gc_cycle.specs.Turns.{HelpsInTurns}
use Rattle.gc_cycle.specs.declared.counts.Refill.{Refill}
use Rattle.gc_cycle.specs.declared.counts.Refill.TheVariants as refills
use Rattle.gc_cycle.proofs.Changes.{by-none, changes-after, gives-join, keeps-up}
use Rattle.gc_cycle.proofs.Ends.Finishes.{never-both}
use Rattle.gc_cycle.proofs.Stops.Popping.{works-join}
use Rattle.gc_cycle.proofs.Turns.{apart-none, turns-join, turns-none}
use Rattle.seat_turns.specs.SeasonLooks.{LooksAtSeason}
use Rattle.seat_turns.specs.Coming.{ComesTo, ComesToNone, FillsWith, FindsFull, Polls, RefillsBeside, RefillsBy, RefillsInStops, hinders, passing}
use Rattle.seat_turns.specs.Halting.{HaltsFull}
use Rattle.seat_turns.specs.declared.refused.Refused.{Refused}
use Rattle.seat_turns.specs.declared.refused.Refused.TheVariants as refusals

-- one of two is so
either_or : (a b c d : Bool) → (a ≡ true → c ≡ true) → (b ≡ true → d ≡ true) → (a || b) ≡ true → (c || d) ≡ true
either_or true b c d p q e = or_left c d (p refl)
either_or false b c d p q e = or_right c d (q e)

pub some_more : (f g : Sort) → ((step : Step) (n : ℕ) → f step n ≡ true → g step n ≡ true) → (es : List Entry) → some_event f es ≡ true → some_event g es ≡ true
some_more f g k [] e = absurd (false≢true e)
some_more f g k (x ∷ xs) e = either_or (f x.step x.found) (some_event f xs) (g x.step x.found) (some_event g xs) (k x.step x.found) (some_more f g k xs) e

-- if the first event like f is like g, one is like h
either_if : (b p q r s : Bool) → (p ≡ true → q ≡ true) → (r ≡ true → s ≡ true) → (if b then p else r) ≡ true → (q || s) ≡ true
either_if true p q r s x y e = or_left q s (x e)
either_if false p q r s x y e = or_right q s (y e)

pub first_some : (f g h : Sort) → ((step : Step) (n : ℕ) → g step n ≡ true → h step n ≡ true) → (es : List Entry) → first_is f g es ≡ true → some_event h es ≡ true
first_some f g h k [] e = absurd (false≢true e)
first_some f g h k (x ∷ xs) e = either_if (f x.step x.found) (g x.step x.found) (h x.step x.found) (first_is f g xs) (some_event h xs) (k x.step x.found) (first_some f g h k xs) e

-- why a safe point gave up the cache
pub passes-cause : (handed kept : Option Cache) (done : ℕ) (v w : View) → PassesSafely handed kept done v w → (kept ≡ handed) ⊎ (some_event hinders (events v w) ≡ true)
passes-cause handed kept done v w p = by (poll_found_stop (events v w)) refl
  where
    by : (b : Bool) → poll_found_stop (events v w) ≡ b → (kept ≡ handed) ⊎ (some_event hinders (events v w) ≡ true)
    by true e = inr (first_some polls sees_flag hinders (λ step n h. or_left (sees_flag step n) (reads_phase Full step n) h) (events v w) e)
    by false e = inl (p.same ∙ ap (λ (b : Bool). if b then None else handed) e)

pub full-cause : (v w : View) → saw_full (events v w) ≡ true → some_event hinders (events v w) ≡ true
full-cause v w e = some_more (reads_phase Full) hinders (λ step n h. or_right (sees_flag step n) (reads_phase Full step n) h) (events v w) e

-- no flag was raised, no cycle begun, the heap wasn't said to be full, cells were popped and cards cleared only in stops, by turns of help, and a number changed
-- only if the cache was given up, which it was only if something hindered
pub record Calm (handed kept : Option Cache) (v w : View) : Type 0 where
  pub calm : never raises_flag (events v w) ≡ true
  pub not_full : never_fills (events v w) ≡ true
  pub unbegun : never tries_marking (events v w) ≡ true
  pub numbers : GivesUp handed kept v w
  pub pops : works_in_stops (events v w) ≡ true
  pub helps : HelpsInTurns v w
  pub cause : (kept ≡ handed) ⊎ (some_event hinders (events v w) ≡ true)

pub calm-none : (o : Option Cache) (v : View) → Calm o o v v
calm-none o v = record { calm = ap (never raises_flag) (events-none v); not_full = ap never_fills (events-none v); unbegun = ap (never tries_marking) (events-none v); numbers = keeps-up o v v (by-none v); pops = ap works_in_stops (events-none v); helps = turns-none v v (apart-none v); cause = inl refl }

pub calm-join : (a b c : Option Cache) (u v w : View) → Calm a b u v → Calm b c v w → Calm a c u w
calm-join a b c u v w x y =
    let all = ran-events u v w x.numbers.changed.ran y.numbers.changed.ran in
    record {
      calm = ap (never raises_flag) all ∙ never-both raises_flag (events u v) (events v w) x.calm y.calm;
      not_full = ap never_fills all ∙ never-both (moves_to Full) (events u v) (events v w) x.not_full y.not_full;
      unbegun = ap (never tries_marking) all ∙ never-both tries_marking (events u v) (events v w) x.unbegun y.unbegun;
      numbers = gives-join a b c u v w x.numbers y.numbers;
      pops = ap works_in_stops all ∙ works-join (events u v) (events v w) x.pops y.pops;
      helps = turns-join u v w x.helps y.helps;
      cause =
          ⊎_elim
          (λ (same : c ≡ b).
          ⊎_elim (λ (still : b ≡ a). inl (same ∙ still))
          (λ (h : some_event hinders (events u v) ≡ true). inr (ap (some_event hinders) all ∙ some-left hinders (events u v) (events v w) h)) x.cause)
          (λ (h : some_event hinders (events v w) ≡ true). inr (ap (some_event hinders) all ∙ some-right hinders (events u v) (events v w) h))
          y.cause;
    }

pub calm-looked : (o : Option Cache) (v w : View) → LooksAtSeason v w → Calm o o v w
calm-looked o v w looks = ⊎_elim (λ (same : w ≡ v). subst (Calm o o v) (sym same) (calm-none o v)) (λ (read : (n : ℕ) × Found ReadSeason n v w). by read.0 read.1) looks
  where
    by : (n : ℕ) → Found ReadSeason n v w → Calm o o v w
    by n found =
        let one = events-after v w ReadSeason n found.0 in
        record {
          calm = ap (never raises_flag) one;
          not_full = ap never_fills one;
          unbegun = ap (never tries_marking) one;
          numbers = keeps-up o v w (changes-after v w ReadSeason n refl (ran-found v w ReadSeason n refl found) found.0);
          pops = ap works_in_stops one;
          helps = turns-none v w (record { ran = ran-found v w ReadSeason n refl found; apart = ap (never joins) one });
          cause = inl refl;
        }

pub polls-by : (a b : Option Cache) (v w : View) → Calm a b v w → some_event polls (events v w) ≡ true → (never hinders (events v w) ≡ true → steps_of (events v w) ≡ passing v.state.season_seen) → Polls a b v w
polls-by a b v w k p l = record { polled = p; calm = k.calm; not_full = k.not_full; unbegun = k.unbegun; numbers = k.numbers; pops = k.pops; helps = k.helps; cause = k.cause; looks = l }

-- why no cell is come to, by what the seat stands at
pub full-none : (h : Heap) (s : HeapSeat) (e : Refused) (in_stops : Bool) (sh : Shape) (handed : Option Cache) (v w : View) → HaltsFull e h s → ComesTo in_stops sh handed None v w → ComesToNone e in_stops sh handed v w
full-none h s refusals.Full b sh handed v w halts comes = inl comes
full-none h s refusals.Spent b sh handed v w halts comes = absurd halts
full-none h s refusals.Outside b sh handed v w halts comes = absurd halts
full-none h s refusals.OutOfRange b sh handed v w halts comes = absurd halts
full-none h s refusals.Nil b sh handed v w halts comes = absurd halts

pub refill-none : (h : Heap) (s : HeapSeat) (e : Refused) (in_stops : Bool) (sh : Shape) (handed : Option Cache) (v w : View) → HaltsFull e h s → FindsFull in_stops sh handed v w → ComesToNone e in_stops sh handed v w
refill-none h s refusals.Full b sh handed v w halts finds = inr finds
refill-none h s refusals.Spent b sh handed v w halts finds = absurd halts
refill-none h s refusals.Outside b sh handed v w halts finds = absurd halts
refill-none h s refusals.OutOfRange b sh handed v w halts finds = absurd halts
refill-none h s refusals.Nil b sh handed v w halts finds = absurd halts

-- a refill, by whether the mutator collects only in stops
pub by-stops : (b : Bool) (sh : Shape) (r : Refill) (v w : View) → b ≡ true → RefillsInStops sh r v w → RefillsBy b sh r v w
by-stops b sh r v w e x = subst (λ (b : Bool). RefillsBy b sh r v w) (sym e) x

pub by-pace : (b : Bool) (sh : Shape) (r : Refill) (v w : View) → b ≡ false → RefillsBeside sh r v w → RefillsBy b sh r v w
by-pace b sh r v w e x = subst (λ (b : Bool). RefillsBy b sh r v w) (sym e) x

-- what a call that gave the seat a cache did, told of a longer one
pub filled-with : (kept : Option Cache) (P Q : Refill → View → View → Type 0) (u v w : View) → ((r : Refill) → P r v w → Q r u w) → FillsWith P kept v w → FillsWith Q kept u w
filled-with None P Q u v w f x = absurd x
filled-with (Some h) P Q u v w f x = (x.0, f (refills.Cache h x.0) x.1)

-- the cache that the record has
pub own-cache : (o : Option Cache) (v : View) → IfSome o (λ h. IsCached h v) → IfNone o (v.state.cache ≡ None) → HasCache o v
own-cache None v some none = none
own-cache (Some h) v some none = some
