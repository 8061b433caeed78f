-- Calls one after another, by what they change of the numbers that pace a cycle.
use Rattle.std.proofs.Common.{ℕ, ◌≡◌, List, [], ◌∷◌, refl, ap, ◌∙◌, true, false, Option, None}
use Rattle.std.proofs.lemmas.Bool.{false≢true}
use Rattle.mark_core.specs.Numbers.{done_count}
use Rattle.mark_core.specs.declared.kinds.Step.{Step}
use Rattle.mark_core.specs.declared.kinds.Step.TheVariants.{AddStat, Reset, StorePhase, DropStep, LeaveStep, NextSeason, RaiseStep, ReadPhase}
use Rattle.mark_core.specs.declared.seat.SeatState.{SeatState}
use Rattle.gc_table.specs.Log.{Only, event, events}
use Rattle.gc_table.specs.Running.{Ran}
use Rattle.gc_table.specs.Seats.{Took, Found}
use Rattle.gc_table.specs.Taking.{after}
use Rattle.gc_table.specs.declared.view.Entry.{Entry}
use Rattle.gc_table.specs.declared.view.View.{View}
use Rattle.gc_table.proofs.History.Log.{events-after, events-none, only-more}
use Rattle.gc_table.proofs.Running.{ran-join, ran-found, ran-took}
use Rattle.packet_pools.specs.Seeking.{some_event}
use Rattle.alloc_cache.specs.declared.cache.Cache.{Cache}
use Rattle.gc_cycle.specs.Answering.{HasCache, retires}
use Rattle.gc_cycle.specs.Events.{never}
use Rattle.gc_cycle.specs.Mutating.{GoesOut, stays_calm}
use Rattle.gc_cycle.specs.Sorts.{polls, raises_flag, tries_marking}
use Rattle.gc_cycle.specs.OneCycle.{EndsCycle}
use Rattle.gc_cycle.specs.declared.counts.Counts.{Counts}
use Rattle.gc_cycle.specs.Statistics.{BetweenCycles, ChangesBy, ChangesNumbers, GivesUp, RefillsNumbers, leaves_numbers}
use Rattle.gc_cycle.specs.declared.counts.Refill.{Refill}
use Rattle.gc_cycle.proofs.Changes.{by-join, by-none, changes-after, numbers-after, numbers-join, numbers-one, only-changes, add-changes}
use Rattle.gc_cycle.proofs.Unbegun.{calm-unbegun}
use Rattle.gc_cycle.proofs.Leaving.{watches-leave as watches_numbers}
use Rattle.cache_refills.specs.Getting.{RefillsTo}
use Rattle.cache_refills.specs.Pace.Pacing.{begins_where_due}
use Rattle.cache_refills.proofs.Refills.Payment.{never-run as never-join}
use Rattle.warehouse.specs.Pacing.{Changes, EndsCyclesAlone, LeavesPace, Paces, PacesBetween, by_collection, by_counting, by_refill, by_retiring, by_safe_point}
use Rattle.warehouse.proofs.Counting.{never-of}
use Rattle.warehouse.proofs.TurnChanges.{is_of_command}
use Rattle.stop_world.specs.Waiting.{watches}

untried : (v : View) → never tries_marking (events v v) ≡ true
untried v = ap (λ (es : List Entry). never tries_marking es) (events-none v)

leaves_both : (u v w : View) → LeavesPace u v → LeavesPace v w → LeavesPace u w
leaves_both u v w a b =
    record { changed = by-join [] [] u v w a.changed b.changed; unbegun = never-join tries_marking u v w a.changed.ran b.changed.ran a.unbegun b.unbegun }

paces_first : (ys : List (View × View)) (u v w : View) → LeavesPace u v → PacesBetween ys v w → PacesBetween ys u w
paces_first [] u v w a b = leaves_both u v w a b
paces_first (y ∷ ys) u v w a b = (leaves_both u v y.0 a b.0, b.1, b.2)

paces_both : (xs ys : List (View × View)) (u v w : View) → PacesBetween xs u v → PacesBetween ys v w → (zs : List (View × View)) × PacesBetween zs u w
paces_both [] ys u v w a b = (ys, paces_first ys u v w a b)
paces_both (x ∷ xs) ys u v w a b = let r = paces_both xs ys x.1 v w a.2 b in (x ∷ r.0, (a.0, a.1, r.1))

-- one call after another
pub paces-join : (u v w : View) → Paces u v → Paces v w → Paces u w
paces-join u v w a b = paces_both a.0 b.0 u v w a.1 b.1

-- no number is changed, and no cycle begun
pub paces-calm : (v w : View) → ChangesBy [] v w → never tries_marking (events v w) ≡ true → Paces v w
paces-calm v w c b = ([], record { changed = c; unbegun = b })

pub paces-none : (v : View) → Paces v v
paces-none v = paces-calm v v (by-none v) (untried v)

-- one step
pub paces-after : (step : Step) (n : ℕ) (v w : View) → leaves_numbers step ≡ true → never tries_marking (event step n ∷ []) ≡ true → Ran v w → w ≡ after step n v → Paces v w
paces-after step n v w h t ran is = paces-calm v w (changes-after v w step n h ran is) (ap (λ (es : List Entry). never tries_marking es) (events-after v w step n is) ∙ t)

-- the seat goes out, or comes in
pub paces-out : (v w : View) → GoesOut v w → Only leaves_numbers v w → Paces v w
paces-out v w o n = paces-calm v w (only-changes v w o.ran n) (calm-unbegun v w o.only)

command_numbers : (step : Step) → is_of_command step ≡ true → leaves_numbers step ≡ true
command_numbers (AddStat which by down) e = absurd (false≢true e)
command_numbers (Reset which) e = absurd (false≢true e)
command_numbers step e = refl

command_untried : (step : Step) (n : ℕ) → is_of_command step ≡ true → tries_marking step n ≡ false
command_untried (StorePhase to) n e = absurd (false≢true e)
command_untried step n e = refl

-- a command is done
pub paces-command : (v w : View) → Ran v w → Only is_of_command v w → Paces v w
paces-command v w ran only =
    paces-calm v w (only-changes v w ran (only-more is_of_command leaves_numbers command_numbers v w only)) (never-of is_of_command tries_marking command_untried (events v w) only)

one_change : (v w : View) → Changes v w → Paces v w
one_change v w c = ((v, w) ∷ [], (record { changed = by-none v; unbegun = untried v }, c, record { changed = by-none w; unbegun = untried w }))

retires_untried : (step : Step) (n : ℕ) → retires step ≡ true → tries_marking step n ≡ false
retires_untried (StorePhase to) n e = absurd (false≢true e)
retires_untried step n e = refl

-- a cache is given up
pub paces-retired : (o : Option Cache) (v w : View) → HasCache o v → Only retires v w → w.state ≡ record v.state { cache = None } → GivesUp o None v w → Paces v w
paces-retired o v w had only state gives =
    one_change v w
    (by_retiring (record { handed = o; had = had; none = ap (λ (s : SeatState). s.cache) state; numbers = gives; unbegun = never-of retires tries_marking retires_untried (events v w) only }))

-- a safe point is passed
pub paces-passed :
    (handed kept : Option Cache) (v w : View) → HasCache handed v → HasCache kept w → some_event polls (events v w) ≡ true → never raises_flag (events v w) ≡ true → GivesUp handed kept v w
    → never tries_marking (events v w) ≡ true → Paces v w
paces-passed handed kept v w had has polled calm gives unbegun =
    one_change v w (by_safe_point (record { handed = handed; kept = kept; had = had; has = has; polled = polled; calm = calm; numbers = gives; unbegun = unbegun }))

-- a cache is asked for
pub paces-refilled : (r : Refill) (done : ℕ) (v w : View) → RefillsTo r done v w → RefillsNumbers r v w → begins_where_due (events v w) ≡ true → Paces v w
paces-refilled r done v w refills numbers due = one_change v w (by_refill (record { refill = r; done = done; refills = refills; numbers = numbers; due = due }))

-- a collection is made
pub paces-collected : (v w : View) → ChangesNumbers [] v w → never tries_marking (events v w) ≡ true → Paces v w
paces-collected v w numbers unbegun = one_change v w (by_collection (record { numbers = numbers; unbegun = unbegun }))

-- a part is counted
module _ (v w : View) (took : Took (AddStat done_count 1 false) v w) where
  pub counted-by : ChangesBy (AddStat done_count 1 false ∷ []) v w
  counted-by = add-changes done_count 1 v w took

  pub counted-untried : never tries_marking (events v w) ≡ true
  counted-untried = ap (λ (es : List Entry). never tries_marking es) (events-after v w (AddStat done_count 1 false) took.0 took.1.0)

  pub paces-counted : Paces v w
  paces-counted = one_change v w (by_counting (record { changed = counted-by; unbegun = counted-untried }))

-- between two turns: one call after another
ran_between : (ends : List (View × View)) (v w : View) → BetweenCycles [] ends v w → Ran v w
ran_between [] v w b = b.ran
ran_between (e ∷ ends) v w b = ran-join v e.0 w b.0.ran (ran-join e.0 e.1 w b.1.1.ran (ran_between ends e.1 w b.2))

pub ends-ran : (v w : View) → EndsCyclesAlone v w → Ran v w
ends-ran v w a = ran_between a.numbers.0 v w a.numbers.1

pub ends-both : (u v w : View) → EndsCyclesAlone u v → EndsCyclesAlone v w → EndsCyclesAlone u w
ends-both u v w a b =
    record { numbers = numbers-join [] u v w a.numbers b.numbers; unbegun = never-join tries_marking u v w (ends-ran u v a) (ends-ran v w b) a.unbegun b.unbegun }

-- no number is changed
pub ends-none : (v w : View) → Ran v w → Only leaves_numbers v w → never tries_marking (events v w) ≡ true → EndsCyclesAlone v w
ends-none v w ran only b = record { numbers = numbers-one [] v w (only-changes v w ran only); unbegun = b }

pub ends-same : (v : View) → EndsCyclesAlone v v
ends-same v = record { numbers = numbers-one [] v v (by-none v); unbegun = untried v }

-- one step
pub ends-step : (step : Step) (n : ℕ) (v w : View) → leaves_numbers step ≡ true → never tries_marking (event step n ∷ []) ≡ true → Ran v w → w ≡ after step n v → EndsCyclesAlone v w
ends-step step n v w h t ran is =
    record { numbers = numbers-one [] v w (changes-after v w step n h ran is); unbegun = ap (λ (es : List Entry). never tries_marking es) (events-after v w step n is) ∙ t }

-- the seat waits for the end of another's stop
pub ends-calm : (v w : View) → Ran v w → Only stays_calm v w → Only leaves_numbers v w → EndsCyclesAlone v w
ends-calm v w ran calm only = ends-none v w ran only (calm-unbegun v w calm)

-- a cycle ends
pub ends-cycle : {counts : Counts} (v w : View) → EndsCycle counts v w → EndsCyclesAlone v w
ends-cycle v w e = record { numbers = numbers-after [] v w w e (numbers-one [] w w (by-none w)); unbegun = e.unbegun }

watches_untried : (step : Step) (n : ℕ) → watches step ≡ true → tries_marking step n ≡ false
watches_untried (StorePhase to) n e = absurd (false≢true e)
watches_untried step n e = refl

-- the seat waits until the world is stopped
pub watched-paces : (v w : View) → Ran v w → Only watches v w → EndsCyclesAlone v w
watched-paces v w ran only = ends-none v w ran (only-more watches leaves_numbers watches_numbers v w only) (never-of watches tries_marking watches_untried (events v w) only)

-- the seat raised the flag, or tried to, and did something else
pub asked-paces : (n : ℕ) (v w : View) → Found RaiseStep n v w → (u x : View) → EndsCyclesAlone u v → EndsCyclesAlone w x → EndsCyclesAlone u x
asked-paces n v w found u x before after = ends-both u v x before (ends-both v w x (ends-step RaiseStep n v w refl refl (ran-found v w RaiseStep n refl found) found.0) after)

-- the phase was read
pub read-paces : (n : ℕ) (v w : View) → Found ReadPhase n v w → EndsCyclesAlone v w
read-paces n v w found = ends-step ReadPhase n v w refl refl (ran-found v w ReadPhase n refl found) found.0

-- the season moved on
pub turned-paces : (v w : View) → Took NextSeason v w → EndsCyclesAlone v w
turned-paces v w took = ends-step NextSeason took.0 v w refl refl (ran-took v w NextSeason refl took) took.1.0

-- the seat resumed the world, and left
pub left-paces : (v w x : View) → Took DropStep v w → Took LeaveStep w x → EndsCyclesAlone v x
left-paces v w x drop leave =
    ends-both v w x (ends-step DropStep drop.0 v w refl refl (ran-took v w DropStep refl drop) drop.1.0) (ends-step LeaveStep leave.0 w x refl refl (ran-took w x LeaveStep refl leave) leave.1.0)
