-- What a call does to the pace of cycles, in one call after another.
use Rattle.std.proofs.Common.{ℕ, ◌≡◌, ◌+◌, ◌&&◌, List, [], ◌∷◌, ◌++◌, map, refl, sym, ap, ◌∙◌, subst, Bool, true, false, not, Option, Some, None, ⊎_elim, inl, inr}
use Rattle.std.specs.List.{range_with_len}
use Rattle.std.proofs.lemmas.Bool.{and_from, and_parts, false≢true}
use Rattle.std.specs.Prelude.{◌⊎◌, IfNone, IfSome}
use Rattle.mark_core.specs.declared.kinds.Step.{Step}
use Rattle.mark_core.specs.declared.kinds.Step.TheVariants.{AddStat, LeaveStep, Observe, ReadPhase, ReadSeason, Reset, StoreNew, StorePhase, StorePosition}
use Rattle.mark_core.specs.declared.seat.CacheState.{CacheState}
use Rattle.mark_core.specs.declared.seat.SeatState.{SeatState}
use Rattle.gc_table.specs.Log.{Only, all_steps, event, events, steps_of}
use Rattle.gc_table.specs.Running.{Ran, after_all}
use Rattle.gc_table.specs.Seats.{Found, view_of}
use Rattle.gc_table.specs.declared.seat.Heap.{Heap}
use Rattle.gc_table.specs.declared.seat.HeapSeat.{HeapSeat}
use Rattle.gc_table.specs.declared.view.Entry.{Entry}
use Rattle.gc_table.specs.declared.view.View.{View}
use Rattle.gc_table.proofs.History.Log.{events-after, events-none, only-more}
use Rattle.gc_table.proofs.Running.{ran-events, ran-join, ran-refl}
use Rattle.alloc_cache.specs.Caching.{IsCached}
use Rattle.alloc_cache.specs.declared.cache.Cache.{Cache}
use Rattle.gc_cycle.specs.Answering.{HasCache, retires}
use Rattle.gc_cycle.specs.Events.{never}
use Rattle.gc_cycle.specs.Mutating.{GoesOut, stays_calm}
use Rattle.gc_cycle.specs.Sorts.{tries_marking}
use Rattle.gc_cycle.specs.Standing.{IsOut}
use Rattle.gc_cycle.specs.Statistics.{ChangesBy, GivesUp, RoundNumbers, given_up, leaves_numbers, numbers_changed}
use Rattle.gc_cycle.specs.declared.counts.Refill.{Refill}
use Rattle.gc_cycle.proofs.Changes.{by-join, by-none, only-changes}
use Rattle.gc_cycle.proofs.Ends.Finishes.{never-both}
use Rattle.gc_cycle.proofs.Refills.Answered.{answers-calm, retires-answer}
use Rattle.gc_cycle.proofs.Stops.OutAndIn.{free-to-leave}
use Rattle.gc_cycle.proofs.Sequences.{none-of-steps}
use Rattle.gc_cycle.proofs.Unbegun.{calm-unbegun}
use Rattle.alloc_cache.specs.Making.{making_steps, nil_fields}
use Rattle.cache_refills.specs.Getting.{RefillsTo}
use Rattle.cache_refills.specs.Pace.Pacing.{begins_where_due}
use Rattle.cache_refills.specs.Trying.{EntersTo, PassesTo}
use Rattle.cache_refills.specs.declared.trying.Pass.{Pass}
use Rattle.cache_refills.specs.declared.trying.Pass.TheVariants as passes
use Rattle.mutator_ops.specs.Flushing.{Flushes}
use Rattle.seat_turns.specs.Coming.{GivesCache, LeavesTurn, StepsOut}
use Rattle.seat_turns.proofs.Held.{flushes-only}
use Rattle.seat_turns.specs.SeasonLooks.{LooksAtSeason}
use Rattle.seat_steps.specs.Arriving.{Passes, Tries}
use Rattle.seat_steps.specs.Causes.{LooksBy, LooksFreely, LooksTo}
use Rattle.seat_steps.specs.Pacing.{CarriesPace, KeepsPace, Paces, PacesTry, back}
use Rattle.seat_steps.specs.declared.came.Came.{Came}
use Rattle.seat_steps.specs.declared.came.Came.TheVariants as cames

unbegun-join : (u v w : View) → Ran u v → Ran v w → never tries_marking (events u v) ≡ true → never tries_marking (events v w) ≡ true → never tries_marking (events u w) ≡ true
unbegun-join u v w r q a b = ap (never tries_marking) (ran-events u v w r q) ∙ never-both tries_marking (events u v) (events v w) a b

-- who has no cache gives none back
none-back : (v w : View) → v.state.cache ≡ None → ChangesBy (back v.state.cache) v w → ChangesBy [] v w
none-back v w none c = subst (λ o. ChangesBy (back o) v w) none c

given : (o : Option CacheState) (u v w : View) → ChangesBy (back o) u v → ChangesBy [] v w → ChangesBy (back o) u w
given None u v w x y = by-join [] [] u v w x y
given (Some c) u v w x y = by-join (back (Some c)) [] u v w x y

pub carries-none : (v : View) → CarriesPace v v
carries-none v = record { ran = ran-refl v; unbegun = ap (never tries_marking) (events-none v); numbers = inl (refl, by-none v) }

pub carries-keeps : (v w : View) → CarriesPace v w → KeepsPace v w
carries-keeps v w c = record { ran = c.ran; unbegun = c.unbegun; numbers = ⊎_elim (λ (a : (w.state.cache ≡ v.state.cache) × ChangesBy [] v w). inl a.1) (λ (a : (w.state.cache ≡ None) × ChangesBy (back v.state.cache) v w). inr a.1) c.numbers }

-- more before it
pub keeps-first : (u v w : View) → CarriesPace u v → KeepsPace v w → KeepsPace u w
keeps-first u v w a b =
    record {
      ran = ran-join u v w a.ran b.ran;
      unbegun = unbegun-join u v w a.ran b.ran a.unbegun b.unbegun;
      numbers =
          ⊎_elim
          (λ (x : (v.state.cache ≡ u.state.cache) × ChangesBy [] u v).
          ⊎_elim
          (λ (y : ChangesBy [] v w). inl (by-join [] [] u v w x.1 y))
          (λ (y : ChangesBy (back v.state.cache) v w). inr (subst (λ o. ChangesBy (back o) u w) x.0 (by-join [] (back v.state.cache) u v w x.1 y)))
          b.numbers)
          (λ (x : (v.state.cache ≡ None) × ChangesBy (back u.state.cache) u v).
          let later : ChangesBy [] v w = ⊎_elim (λ (y : ChangesBy [] v w). y) (λ (y : ChangesBy (back v.state.cache) v w). none-back v w x.0 y) b.numbers in
          inr (given u.state.cache u v w x.1 later))
          a.numbers;
    }

pub carries-join : (u v w : View) → CarriesPace u v → CarriesPace v w → CarriesPace u w
carries-join u v w a b =
    let k = keeps-first u v w a (carries-keeps v w b) in
    record {
      ran = k.ran;
      unbegun = k.unbegun;
      numbers =
          ⊎_elim
          (λ (x : (v.state.cache ≡ u.state.cache) × ChangesBy [] u v).
          ⊎_elim
          (λ (y : (w.state.cache ≡ v.state.cache) × ChangesBy [] v w). inl (y.0 ∙ x.0, by-join [] [] u v w x.1 y.1))
          (λ (y : (w.state.cache ≡ None) × ChangesBy (back v.state.cache) v w). inr (y.0, subst (λ o. ChangesBy (back o) u w) x.0 (by-join [] (back v.state.cache) u v w x.1 y.1)))
          b.numbers)
          (λ (x : (v.state.cache ≡ None) × ChangesBy (back u.state.cache) u v).
          ⊎_elim
          (λ (y : (w.state.cache ≡ v.state.cache) × ChangesBy [] v w). inr (y.0 ∙ x.0, given u.state.cache u v w x.1 y.1))
          (λ (y : (w.state.cache ≡ None) × ChangesBy (back v.state.cache) v w). inr (y.0, given u.state.cache u v w x.1 (none-back v w x.0 y.1)))
          b.numbers)
          a.numbers;
    }

-- more after it that changes no number
pub keeps-last : (u v w : View) → KeepsPace u v → never tries_marking (events v w) ≡ true → ChangesBy [] v w → KeepsPace u w
keeps-last u v w a n c =
    record {
      ran = ran-join u v w a.ran c.ran;
      unbegun = unbegun-join u v w a.ran c.ran a.unbegun n;
      numbers = ⊎_elim (λ (x : ChangesBy [] u v). inl (by-join [] [] u v w x c)) (λ (x : ChangesBy (back u.state.cache) u v). inr (given u.state.cache u v w x c)) a.numbers;
    }

pub paces-first : (u v w : View) → CarriesPace u v → Paces v w → Paces u w
paces-first u v w a p =
    ⊎_elim
    (λ (k : KeepsPace v w). inl (keeps-first u v w a k))
    (λ (t : PacesTry v w). inr (record { asked = t.asked; first = carries-join u v t.asked a t.first; got = t.got; ran = t.ran; tried = t.tried; gets = t.gets; due = t.due; numbers = t.numbers; last = t.last }))
    p

pub paces-last : (u v w : View) → Paces u v → never tries_marking (events v w) ≡ true → ChangesBy [] v w → Paces u w
paces-last u v w p n c =
    ⊎_elim
    (λ (k : KeepsPace u v). inl (keeps-last u v w k n c))
    (λ (t : PacesTry u v). inr (record { asked = t.asked; first = t.first; got = t.got; ran = t.ran; tried = t.tried; gets = t.gets; due = t.due; numbers = t.numbers; last = keeps-last t.got v w t.last n c }))
    p

-- the cache was given up, a try was made, and then the pace was kept
pub paces-try : (o : Option Refill) (u v w x : View) → CarriesPace u v → Ran v w → IfSome o (λ r. RefillsTo r v.state.made v w) → begins_where_due (events v w) ≡ true → RoundNumbers o v w → CarriesPace w x → Paces u x
paces-try o u v w x a r gets due numbers b = inr (record { asked = v; first = a; got = w; ran = r; tried = o; gets = gets; due = due; numbers = numbers; last = carries-keeps w x b })

-- by the list of the events
carries-events : (v w : View) (es : List Entry) → Ran v w → events v w ≡ es → never tries_marking es ≡ true → numbers_changed es ≡ [] → (after_all es v).state.cache ≡ v.state.cache → CarriesPace v w
carries-events v w es r e n none same =
    record {
      ran = r;
      unbegun = ap (never tries_marking) e ∙ n;
      numbers = inl (ap (λ (x : View). x.state.cache) (r.steps ∙ ap (λ (zs : List Entry). after_all zs v) e) ∙ same, record { ran = r; all = ap numbers_changed e ∙ none });
    }

pub carries-looks : (v w : View) → Ran v w → LooksFreely v w → CarriesPace v w
carries-looks v w r l = carries-events v w (event Observe l.0 ∷ event ReadPhase l.1 ∷ []) r l.3 refl refl refl

pub carries-looked : (c : Came) (v w : View) → Ran v w → LooksTo c v w → CarriesPace v w
carries-looked cames.Done v w r l = carries-looks v w r l
carries-looked cames.Stopped v w r l = carries-events v w (event Observe l.0 ∷ []) r l.2 refl refl refl
carries-looked cames.Full v w r l = carries-looks v w r l.0
carries-looked c v w r l = absurd l

pub carries-season : (v w : View) → Ran v w → LooksAtSeason v w → CarriesPace v w
carries-season v w r looks =
    ⊎_elim
    (λ (same : w ≡ v). subst (CarriesPace v) (sym same) (carries-none v))
    (λ (read : (n : ℕ) × Found ReadSeason n v w). carries-events v w (event ReadSeason read.0 ∷ []) r (events-after v w ReadSeason read.0 read.1.0) refl refl refl)
    looks

-- the roots that lag were stored
pub carries-flushed : (v w : View) → Flushes v w → CarriesPace v w
carries-flushed v w f =
    record {
      ran = f.ran;
      unbegun = calm-unbegun v w (flushes-only stays_calm v w f (λ u. refl));
      numbers = inl (ap (λ (s : SeatState). s.cache) f.state, only-changes v w f.ran (flushes-only leaves_numbers v w f (λ u. refl)));
    }

pub carries-out : (v w : View) → Ran v w → StepsOut v w → CarriesPace v w
carries-out v w r o = carries-events v w (event (StorePosition v.state.made) v.state.made ∷ event LeaveStep o.0 ∷ []) r o.1 refl refl refl

-- the cache was given up
back-of : (handed : Option Cache) (v : View) → HasCache handed v → given_up handed None ≡ back v.state.cache
back-of None v h = ap (λ o. back o) (sym h)
back-of (Some k) v h = ap (λ o. back o) (sym h)

given-back : (handed kept : Option Cache) (v w : View) → HasCache handed v → kept ≡ None → w.state.cache ≡ None → never tries_marking (events v w) ≡ true → GivesUp handed kept v w → CarriesPace v w
given-back handed kept v w h e none n g =
    record {
      ran = g.changed.ran;
      unbegun = n;
      numbers = inr (none, subst (λ s. ChangesBy s v w) (back-of handed v h) (subst (λ k. ChangesBy (given_up handed k) v w) e g.changed));
    }

pub carries-given : (handed : Option Cache) (v w : View) → HasCache handed v → w.state.cache ≡ None → GivesCache handed v w → CarriesPace v w
carries-given handed v w h none g =
    given-back handed None v w h refl none (calm-unbegun v w (only-more retires stays_calm (λ step e. answers-calm step (retires-answer step e)) v w g.only)) g.numbers

-- who is outside has no cache
out-none : (w : View) → IsOut w → w.state.cache ≡ None
out-none w o = (free-to-leave w o.rest).cache

-- a try to come in, and a safe point
pub carries-in : (p : Pass) (h : Heap) (x y : HeapSeat) → IsOut (view_of x) → Tries p h y → GoesOut (view_of x) (view_of y) → Only leaves_numbers (view_of x) (view_of y) → CarriesPace (view_of x) (view_of y)
carries-in p h x y o t g n =
    record {
      ran = g.ran;
      unbegun = calm-unbegun (view_of x) (view_of y) g.only;
      numbers = inl (none p t ∙ sym (out-none (view_of x) o), only-changes (view_of x) (view_of y) g.ran n);
    }
  where
    none : (p : Pass) → Tries p h y → (view_of y).state.cache ≡ None
    none passes.Going t = t.cache
    none passes.Full t = t.0.cache
    none passes.Out t = out-none (view_of y) t.out

pub carries-pass : (p : Pass) (h : Heap) (handed kept : Option Cache) (x y : HeapSeat) → HasCache handed (view_of x) → Passes p h y kept → LooksBy p handed kept (view_of x) (view_of y) → GoesOut (view_of x) (view_of y) → GivesUp handed kept (view_of x) (view_of y) → CarriesPace (view_of x) (view_of y)
carries-pass passes.Going h handed kept x y c p l o g = carries-looks (view_of x) (view_of y) o.ran l.1
carries-pass passes.Full h handed kept x y c p l o g = given-back handed kept (view_of x) (view_of y) c p.2 p.0.cache (calm-unbegun (view_of x) (view_of y) o.only) g
carries-pass passes.Out h handed kept x y c p l o g = given-back handed kept (view_of x) (view_of y) c p.1 (out-none (view_of y) p.0.out) (calm-unbegun (view_of x) (view_of y) o.only) g

pub paces-none : (v : View) → Paces v v
paces-none v = inl (carries-keeps v v (carries-none v))

-- an object is made by steps that change nothing of this

abbrev pub quiet : Step → Bool
quiet (StorePhase to) = false
quiet (AddStat which by down) = false
quiet (Reset which) = false
quiet step = true

abbrev each_quiet : List Step → Bool
each_quiet [] = true
each_quiet (s ∷ ss) = quiet s && each_quiet ss

only-quiet : (es : List Entry) → each_quiet (steps_of es) ≡ true → all_steps quiet es ≡ true
only-quiet [] h = refl
only-quiet (e ∷ es) h = let p = and_parts (quiet e.step) (each_quiet (steps_of es)) h in and_from (quiet e.step) (all_steps quiet es) p.0 (only-quiet es p.1)

quiet-join : (xs ys : List Step) → each_quiet xs ≡ true → each_quiet ys ≡ true → each_quiet (xs ++ ys) ≡ true
quiet-join [] ys a b = b
quiet-join (x ∷ xs) ys a b = let p = and_parts (quiet x) (each_quiet xs) a in and_from (quiet x) (each_quiet (xs ++ ys)) p.0 (quiet-join xs ys p.1 b)

fields-quiet : (c : ℕ) (ns : List ℕ) → each_quiet (map (λ i. StoreNew c i 0) ns) ≡ true
fields-quiet c [] = refl
fields-quiet c (n ∷ ns) = fields-quiet c ns

creating-quiet : (fields cell n word : ℕ) (last : Step) → quiet last ≡ true → each_quiet (making_steps fields cell n word ++ last ∷ []) ≡ true
creating-quiet fields cell n word last e =
    quiet-join (making_steps fields cell n word) (last ∷ [])
    (quiet-join (nil_fields cell fields) (StoreNew cell fields n ∷ StoreNew cell (fields + 1) word ∷ []) (fields-quiet cell (range_with_len 0 fields)) refl) (and_from (quiet last) true e refl)

quiet-numbers : (step : Step) → quiet step ≡ true → leaves_numbers step ≡ true
quiet-numbers (AddStat which by down) e = absurd (false≢true e)
quiet-numbers (Reset which) e = absurd (false≢true e)
quiet-numbers step e = refl

quiet-unbegun : (step : Step) (n : ℕ) → quiet step ≡ true → tries_marking step n ≡ false
quiet-unbegun (StorePhase to) n e = absurd (false≢true e)
quiet-unbegun step n e = refl

-- begins no cycle, and changes no number
abbrev pub IsQuiet : View → View → Type 0
IsQuiet v w = (never tries_marking (events v w) ≡ true) × ChangesBy [] v w

pub creates-quiet : (fields cell n word : ℕ) (last : Step) (v w : View) → quiet last ≡ true → Ran v w → steps_of (events v w) ≡ making_steps fields cell n word ++ last ∷ [] → IsQuiet v w
creates-quiet fields cell n word last v w e r s =
    let only : Only quiet v w = only-quiet (events v w) (ap each_quiet s ∙ creating-quiet fields cell n word last e) in
    (ap not (none-of-steps quiet tries_marking quiet-unbegun (events v w) only), only-changes v w r (only-more quiet leaves_numbers quiet-numbers v w only))
