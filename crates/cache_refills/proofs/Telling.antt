-- What a watch is told of two parts of a call, one after the other.
use Rattle.std.proofs.Common.{◌≡◌, List, [], ◌∷◌, ◌++◌, append_assoc, refl, sym, ap, ◌∙◌, subst, Bool, true, false, not, ◌&&◌, Some, None, Option, ℕ}
use Rattle.std.specs.Prelude.{if◌then◌else◌}
use Rattle.std.proofs.lemmas.Bool.{false≢true, or_parts}
use Rattle.mark_core.specs.declared.kinds.Step.{Step}
use Rattle.mark_core.specs.declared.kinds.Step.TheVariants.{ClaimBlock, DropStep, RaiseStep}
use Rattle.gc_table.specs.Log.{events, Only}
use Rattle.gc_table.specs.Running.{Ran}
use Rattle.gc_table.specs.Seats.{Took}
use Rattle.gc_table.specs.declared.view.Entry.{Entry}
use Rattle.gc_table.specs.declared.view.View.{View}
use Rattle.gc_table.proofs.History.Log.{only-more, only-none}
use Rattle.gc_table.proofs.Running.{ran-events, ran-join, ran-only, ran-refl, ran-took}
use Rattle.packet_pools.specs.Seeking.{some_event}
use Rattle.packet_pools.proofs.Searches.{some-right}
use Rattle.gc_cycle.specs.Events.{Sort, since_last}
use Rattle.gc_cycle.specs.Mutating.{AsksOnce, spares_blocks, spares_world}
use Rattle.gc_cycle.specs.Sorts.{claims, resumes}
use Rattle.gc_cycle.specs.declared.counts.Refill.{Refill}
use Rattle.gc_cycle.specs.declared.counts.Refill.TheVariants as refills
use Rattle.gc_cycle.proofs.Ends.Finishes.{since-later}
use Rattle.gc_cycle.proofs.Sequences.{none-of-steps}
use Rattle.cache_refills.specs.Notices.{Hears, IsTold, Notice}
use Rattle.cache_refills.specs.Notices as notices
use Rattle.cache_refills.specs.Pace.Paying.{claimed_in_stop}
use Rattle.cache_refills.specs.Telling.{IsInside, IsToldOf, IsUntold, TellsPaid, TellsRefill, TellsRound, TellsStops, payment}
use Rattle.std.proofs.lemmas.List.{append-nil}

-- what a watch has heard

pub hears-join : {S : Type 0} (hears : S → Notice → S → Type 0) (ms ns : List Notice) (s t u : S) → Hears hears ms s t → Hears hears ns t u → Hears hears (ms ++ ns) s u
hears-join hears [] ns s t u a b = subst (λ x. Hears hears ns x u) a b
hears-join hears (m ∷ ms) ns s t u a b = (a.0, a.1, hears-join hears ms ns a.0 t u a.2 b)

module _ {S : Type 0} (hears : S → Notice → S → Type 0) where
  pub told-none : (P : List Notice → Type 0) (s : S) → P [] → IsTold hears P s s
  told-none P s p = record { notices = []; heard = refl; tells = p }

  pub told-one : (P : List Notice → Type 0) (n : Notice) (s t : S) → hears s n t → P (n ∷ []) → IsTold hears P s t
  told-one P n s t h p = record { notices = n ∷ []; heard = (t, h, refl); tells = p }

  pub told-more : (P Q : List Notice → Type 0) (s t : S) → ((ns : List Notice) → P ns → Q ns) → IsTold hears P s t → IsTold hears Q s t
  told-more P Q s t f k = record { notices = k.notices; heard = k.heard; tells = f k.notices k.tells }

  pub told-join : (P Q R : List Notice → Type 0) (s t u : S) → ((ms ns : List Notice) → P ms → Q ns → R (ms ++ ns)) → IsTold hears P s t → IsTold hears Q t u → IsTold hears R s u
  told-join P Q R s t u f a b =
      record {
        notices = a.notices ++ b.notices;
        heard = hears-join hears a.notices b.notices s t u a.heard b.heard;
        tells = f a.notices b.notices a.tells b.tells;
      }

-- steps of which it isn't told

blocks-world : (step : Step) → spares_blocks step ≡ true → spares_world step ≡ true
blocks-world (ClaimBlock b) e = absurd (false≢true e)
blocks-world step e = e

pub blocks-untold : (v w : View) → Ran v w → Only spares_blocks v w → IsUntold v w
blocks-untold v w r o = (r, only-more spares_blocks spares_world blocks-world v w o)

pub untold-none : (v : View) → IsUntold v v
untold-none v = (ran-refl v, only-none spares_world v)

pub untold-join : (u v w : View) → IsUntold u v → IsUntold v w → IsUntold u w
untold-join u v w a b = (ran-join u v w a.0 b.0, ran-only spares_world u v w a.0 b.0 a.1 b.1)

-- stops

pub stops-first : (ns : List Notice) (u v w : View) → IsUntold u v → TellsStops ns v w → TellsStops ns u w
stops-first [] u v w a k = untold-join u v w a k
stops-first (n ∷ ns) u v w a k = (k.0, k.1, untold-join u v k.0 a k.2, k.3, k.4, k.5)

pub stops-join : (ms ns : List Notice) (u v w : View) → TellsStops ms u v → TellsStops ns v w → TellsStops (ms ++ ns) u w
stops-join [] ns u v w a b = stops-first ns u v w a b
stops-join (m ∷ ms) ns u v w a b = (a.0, a.1, a.2, a.3, a.4, stops-join ms ns a.1 v w a.5 b)

pub stops-last : (ns : List Notice) (u v w : View) → TellsStops ns u v → IsUntold v w → TellsStops ns u w
stops-last [] u v w a b = untold-join u v w a b
stops-last (n ∷ ns) u v w a b = (a.0, a.1, a.2, a.3, a.4, stops-last ns a.1 v w a.5 b)

pub stops-one : (n : Notice) (v w : View) → Ran v w → IsToldOf n v w → TellsStops (n ∷ []) v w
stops-one n v w r k = (v, w, untold-none v, k, r, untold-none w)

-- one try to raise the flag
pub stops-asking : (v w : View) → AsksOnce v w → TellsStops (notices.asks ∷ []) v w
stops-asking v w k =
    let before = blocks-untold v k.asking k.leaves.0 k.leaves.1 in
    (k.asking, k.asked, before, k.asks, ran-took k.asking k.asked RaiseStep refl k.asks, blocks-untold k.asked w k.waits.0 k.waits.1)

pub stops-resuming : (v w : View) → Took DropStep v w → TellsStops (notices.resumes ∷ []) v w
stops-resuming v w t = stops-one notices.resumes v w (ran-took v w DropStep refl t) t

-- the answer of a refill

pub paid-later : (r : Refill) (ns : List Notice) (xs ys : List Entry) → TellsPaid r ns ys → TellsPaid r ns (xs ++ ys)
paid-later (refills.Cache h paid) ns xs ys k =
    let since = since-later claims xs ys k.0 in
    (some-right claims xs ys k.0, k.1 ∙ ap (λ es. if some_event resumes es then [] else notices.pays paid ∷ []) (sym since))
paid-later refills.Full ns xs ys k = k

pub refill-later : (r : Refill) (ms ns : List Notice) (u v w : View) → Ran u v → Ran v w → TellsStops ms u v → TellsRefill r ns v w → TellsRefill r (ms ++ ns) u w
refill-later r ms ns u v w p q a k =
    record {
      stops = ms ++ k.stops;
      last = k.last;
      all = ap (λ xs. ms ++ xs) k.all ∙ sym (append_assoc ms k.stops k.last);
      tells = stops-join ms k.stops u v w a k.tells;
      paid = subst (λ es. TellsPaid r k.last es) (sym (ran-events u v w p q)) (paid-later r k.last (events u v) (events v w) k.paid);
    }

pub telling-later : (o : Option Refill) (ns : List Notice) (u v w : View) → Ran v w → IsUntold u v → TellsRound o ns v w → TellsRound o ns u w
telling-later None ns u v w q a k = stops-first ns u v w a k
telling-later (Some r) ns u v w q a k = refill-later r [] ns u v w a.0 q a k

-- a cache that was claimed outside a stop
world-unresumed : (step : Step) (n : ℕ) → spares_world step ≡ true → resumes step n ≡ false
world-unresumed DropStep n e = absurd (false≢true e)
world-unresumed step n e = refl

since-none : (f g : Sort) (es : List Entry) → some_event f es ≡ false → some_event f (since_last g es) ≡ false
since-none f g [] h = refl
since-none f g (e ∷ es) h =
    let p = or_parts (f e.step e.found) (some_event f es) h in elim (g e.step e.found && not (some_event g es)) as (λ (b : Bool). some_event f (if b then es else since_last g es) ≡ false) [ true ↦ p.1 | false ↦ since-none f g es p.1 ]

pub untold-outside : (v w : View) → IsUntold v w → claimed_in_stop (events v w) ≡ false
untold-outside v w k = since-none resumes claims (events v w) (none-of-steps spares_world resumes world-unresumed (events v w) k.1)

pub outside-refill : (r : Refill) (ns : List Notice) (v w : View) → IsUntold v w → some_event claims (events v w) ≡ true → ns ≡ payment r → TellsRefill r ns v w
outside-refill (refills.Cache h paid) ns v w k c e =
    record { stops = []; last = ns; all = refl; tells = k; paid = (c, e ∙ ap (λ (b : Bool). if b then [] else notices.pays paid ∷ []) (sym (untold-outside v w k))) }
outside-refill refills.Full ns v w k c e = record { stops = []; last = ns; all = refl; tells = k; paid = e }

-- a cache that was claimed in one
pub inside-round : (o : Option Refill) (ns : List Notice) (v w : View) → IsInside o (events v w) → TellsStops ns v w → TellsRound o ns v w
inside-round None ns v w i k = k
inside-round (Some refills.Full) ns v w i k = record { stops = ns; last = []; all = sym (append-nil ns); tells = k; paid = refl }
inside-round (Some (refills.Cache h paid)) ns v w i k =
    record { stops = ns; last = []; all = sym (append-nil ns); tells = k; paid = (i.0, ap (λ (b : Bool). if b then [] else notices.pays paid ∷ []) (sym i.1)) }
