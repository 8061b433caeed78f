-- A mutator's rounds so far, none of which had an answer, and what the call leaves once one has.
use Rattle.std.proofs.Common.{ℕ, ◌≡◌, [], ap, ◌∙◌, subst, true, Some, None, List, ◌∷◌, ◌++◌, refl, sym, Option, ⊎_elim, inl, inr}
use Rattle.std.proofs.lemmas.Bool.{false≢true}
use Rattle.mark_core.specs.declared.kinds.Shape.{Shape}
use Rattle.mark_core.specs.declared.kinds.Step.{Step}
use Rattle.mark_core.specs.declared.kinds.Step.TheVariants.{ReadCat, ReadOwn, ReadSlot, DropStep, ReadPhase, ReadWeak}
use Rattle.gc_table.specs.Log.{events, Only}
use Rattle.gc_table.specs.Running.{Ran}
use Rattle.gc_table.specs.declared.view.View.{View}
use Rattle.gc_table.proofs.History.Log.{events-none, only-more, only-none}
use Rattle.gc_table.proofs.Running.{ran-events, ran-join, ran-only, ran-refl, ran-took}
use Rattle.gc_cycle.specs.Answering.{StoredAt, TellsFull}
use Rattle.gc_cycle.specs.declared.counts.Refill.{Refill}
use Rattle.gc_cycle.specs.Cycles.{fills_with_cause}
use Rattle.cache_refills.specs.Refilling.{IsRound}
use Rattle.gc_cycle.specs.Sparing.{fills_part, spares_part}
use Rattle.gc_cycle.specs.Standing.{Mutates}
use Rattle.gc_cycle.specs.Statistics.{ChangesNumbers, RefillsNumbers, ChangesBy, gives_back, GivesUp, PaysNumbers, RoundNumbers, taken, takes_off, tells}
use Rattle.cache_refills.specs.RefillRules.{KeepsRefillRules}
use Rattle.cache_refills.specs.Stops.{cycles_with_cause, may_stop_again, resumes_with_end, stops_again_with_cause, stops_collect, stops_in_visit, stops_with_cause}
use Rattle.cache_refills.proofs.Stops.StopsAgain.{again-join, again-stops-join}
use Rattle.gc_cycle.specs.Mutating.{keeps_section, pops_in_stops}
use Rattle.cache_refills.proofs.Refills.Popping.{pops-join}
use Rattle.cache_refills.proofs.Causes.{fills-join, stops-join}
use Rattle.cache_refills.proofs.Stops.Visits.{collects-join, cycles-join, ends-join, visits-join}
use Rattle.gc_cycle.proofs.SectionKept.{keeps-seat, keeps-section}
use Rattle.cache_refills.proofs.Positions.{stored-none}
use Rattle.cache_refills.proofs.Refills.Rounds.{shaped, spares-refill}
use Rattle.gc_table.specs.Seats.{Took}
use Rattle.alloc_cache.specs.Claiming.{Claims}
use Rattle.alloc_cache.specs.declared.cache.Cache.{Cache}
use Rattle.gc_cycle.specs.declared.counts.Paid.{Paid}
use Rattle.gc_cycle.specs.declared.counts.Refill.TheVariants as refills
use Rattle.gc_cycle.proofs.Changes.{by-join, changes-after, numbers-join, numbers-more, numbers-one, claim-by}

-- What a mutator's rounds do to the statistics.
-- a round with an answer, with steps before it
pub refills-later : (r : Refill) (u v w : View) → ChangesNumbers [] u v → RefillsNumbers r v w → RefillsNumbers r u w
refills-later (refills.Cache h paid) u v w a b =
    ⊎_elim (λ (x : ChangesNumbers (takes_off h ∷ []) v w). inl (numbers-join _ u v w a x)) (λ (x : ChangesNumbers (takes_off h ∷ tells paid.done ∷ []) v w). inr (numbers-join _ u v w a x)) b
refills-later refills.Full u v w a b =
    ⊎_elim (λ (x : ChangesNumbers [] v w). inl (numbers-join [] u v w a x)) (λ (x : (h : Cache) × ChangesNumbers (takes_off h ∷ gives_back h ∷ []) v w). inr (x.0, numbers-join _ u v w a x.1)) b

-- a round, with steps before it
pub rounds-later : (o : Option Refill) (u v w : View) → ChangesNumbers [] u v → RoundNumbers o v w → RoundNumbers o u w
rounds-later None u v w a b = numbers-join [] u v w a b
rounds-later (Some r) u v w a b = refills-later r u v w a b

-- steps that change no number
pub leaves-first : (o : Option Refill) (u v w : View) → ChangesBy [] u v → RoundNumbers o v w → RoundNumbers o u w
leaves-first o u v w l b = rounds-later o u v w (numbers-one [] u v l) b

-- an answer without a claim
pub leaves-full : (v w : View) → ChangesBy [] v w → RefillsNumbers refills.Full v w
leaves-full v w l = inl (numbers-one [] v w l)

-- a claim, and what was paid for it
pub claims-refill : (r : Refill) (h : Cache) (v w x : View) → Ran v w → Claims h v w → PaysNumbers h r w x → RefillsNumbers r v x
claims-refill (refills.Cache k paid) h v w x r c p =
    let c : ChangesBy (takes_off k ∷ []) v w = subst (λ z. ChangesBy (takes_off z ∷ []) v w) (sym p.0) (claim-by h v w r c) in
    ⊎_elim
    (λ (q : ChangesBy [] w x). inl (numbers-one _ v x (by-join (takes_off k ∷ []) [] v w x c q)))
    (λ (q : ChangesBy (tells paid.done ∷ []) w x). inr (numbers-one _ v x (by-join (takes_off k ∷ []) (tells paid.done ∷ []) v w x c q)))
    p.1
claims-refill refills.Full h v w x r c p = inr (h, numbers-one _ v x (by-join (takes_off h ∷ []) (gives_back h ∷ []) v w x (claim-by h v w r c) p))

-- a stop of its own: what was done before and in it, and the end of the stop
pub stop-takes : (ss : List Step) (u v w x : View) → ChangesBy [] u v → ChangesNumbers ss v w → Ran w x → Took DropStep w x → ChangesNumbers (ss ++ []) u x
stop-takes ss u v w x l k r d = numbers-join (ss ++ []) u v x (numbers-one [] u v l) (numbers-more ss [] v w x k (changes-after w x DropStep d.0 refl r d.1.0))

-- after the stop the mutator went on with what it had claimed
pub stop-none : (o : Option Cache) (u x y : View) → None ≡ o → ChangesNumbers (taken o ++ []) u x → Took ReadPhase x y → ChangesNumbers [] u y
stop-none o u x y e k t =
    let none : ChangesNumbers [] u x = subst (λ p. ChangesNumbers (taken p ++ []) u x) (sym e) k in numbers-more [] [] u x y none (changes-after x y ReadPhase t.0 refl (ran-took x y ReadPhase refl t) t.1.0)

pub stop-some : (o : Option Cache) (h : Cache) (paid : Paid) (u x y : View) → Some h ≡ o → ChangesNumbers (taken o ++ []) u x → Took ReadPhase x y → RefillsNumbers (refills.Cache h paid) u y
stop-some o h paid u x y e k t =
    let some : ChangesNumbers (takes_off h ∷ []) u x = subst (λ p. ChangesNumbers (taken p ++ []) u x) (sym e) k in
    inl (numbers-more (takes_off h ∷ []) [] u x y some (changes-after x y ReadPhase t.0 refl (ran-took x y ReadPhase refl t) t.1.0))

-- the heap is full after the stop, and the cache was given up
pub stop-full : (o : Option Cache) (u x y : View) → ChangesNumbers (taken o ++ []) u x → GivesUp o None x y → RefillsNumbers refills.Full u y
stop-full None u x y k g = inl (numbers-more [] [] u x y k g.changed)
stop-full (Some h) u x y k g = inr (h, numbers-more (takes_off h ∷ []) (gives_back h ∷ []) u x y k g.changed)

-- the rounds so far
pub record HasTried (done : ℕ) (u v : View) : Type 0 where
  pub mutates : Mutates v
  pub cache : v.state.cache ≡ None
  pub position : StoredAt done u v
  pub tells : (z : View) → Ran z u → TellsFull z u → TellsFull z v
  pub spares : Only spares_part u v
  pub ran : Ran u v
  pub only : Only keeps_section u v
  pub stops : stops_with_cause u.shape (events u v) ≡ true
  pub fills : fills_with_cause u.shape (events u v) ≡ true
  pub again : stops_again_with_cause u.shape (events u v) ≡ true
  pub missed : may_stop_again u.shape (events u v) ≡ true
  pub visit : stops_in_visit u.shape (events u v) ≡ true
  pub ended : resumes_with_end (events u v) ≡ true
  pub cycles : cycles_with_cause u.shape (events u v) ≡ true
  pub pops : pops_in_stops (events u v) ≡ true

pub tried-none : (done : ℕ) (v : View) → Mutates v → v.state.cache ≡ None → HasTried done v v
tried-none done v m n =
    record {
      mutates = m;
      cache = n;
      position = stored-none done v;
      tells = λ u r t. t;
      spares = only-none spares_part v;
      ran = ran-refl v;
      only = only-none keeps_section v;
      stops = ap (stops_with_cause v.shape) (events-none v);
      fills = ap (fills_with_cause v.shape) (events-none v);
      again = ap (stops_again_with_cause v.shape) (events-none v);
      missed = ap (may_stop_again v.shape) (events-none v);
      visit = ap (stops_in_visit v.shape) (events-none v);
      ended = ap resumes_with_end (events-none v);
      cycles = ap (cycles_with_cause v.shape) (events-none v);
      pops = ap pops_in_stops (events-none v);
    }

-- one round more
pub tried-more : (done : ℕ) (u v w : View) → HasTried done u v → IsRound None done v w → stops_with_cause v.shape (events v w) ≡ true → stops_in_visit v.shape (events v w) ≡ true → HasTried done u w
tried-more done u v w a r s i =
    record {
      mutates = r.none.mutates;
      cache = r.none.cache;
      position = λ h. r.none.position;
      tells = λ z q t. r.none.tells z (ran-join z u v q a.ran) (a.tells z q t);
      spares = ran-only spares_part u v w a.ran r.ran a.spares r.none.spares;
      ran = ran-join u v w a.ran r.ran;
      only = ran-only keeps_section u v w a.ran r.ran a.only r.only;
      stops = ap (stops_with_cause u.shape) (ran-events u v w a.ran r.ran) ∙ stops-join u.shape (events u v) (events v w) a.stops (shaped stops_with_cause u v w a.ran s);
      fills = ap (fills_with_cause u.shape) (ran-events u v w a.ran r.ran) ∙ fills-join u.shape (events u v) (events v w) a.fills (shaped fills_with_cause u v w a.ran r.fills);
      again = ap (stops_again_with_cause u.shape) (ran-events u v w a.ran r.ran) ∙ again-stops-join u.shape (events u v) (events v w) a.again a.missed (shaped stops_again_with_cause u v w a.ran r.again);
      missed = ap (may_stop_again u.shape) (ran-events u v w a.ran r.ran) ∙ again-join u.shape (events u v) (events v w) a.missed (shaped may_stop_again u v w a.ran r.none.missed);
      visit = ap (stops_in_visit u.shape) (ran-events u v w a.ran r.ran) ∙ visits-join u.shape (events u v) (events v w) a.visit (shaped stops_in_visit u v w a.ran i);
      ended = ap resumes_with_end (ran-events u v w a.ran r.ran) ∙ ends-join (events u v) (events v w) a.ended r.none.ended;
      pops = ap pops_in_stops (ran-events u v w a.ran r.ran) ∙ pops-join (events u v) (events v w) a.pops r.none.pops;
      cycles = ap (cycles_with_cause u.shape) (ran-events u v w a.ran r.ran) ∙ cycles-join u.shape (events u v) (events v w) a.cycles (shaped cycles_with_cause u v w a.ran r.cycles);
    }

keeps-fill : (step : Step) → keeps_section step ≡ true → fills_part step ≡ true
keeps-fill (ReadOwn c i) e = absurd (false≢true e)
keeps-fill (ReadCat v) e = absurd (false≢true e)
keeps-fill (ReadSlot k) e = absurd (false≢true e)
keeps-fill (ReadWeak c) e = absurd (false≢true e)
keeps-fill step e = e

-- what a call of rounds leaves, once one of them has an answer
pub ends-round : (r : Refill) (done : ℕ) (u v w : View) → HasTried done u v → IsRound (Some r) done v w → stops_with_cause v.shape (events v w) ≡ true → stops_in_visit v.shape (events v w) ≡ true → ChangesNumbers [] u v → RefillsNumbers r v w → KeepsRefillRules u.shape r u w
ends-round r done u v w a i s t n m =
    let ran = ran-join u v w a.ran i.ran in
    let only = ran-only keeps_section u v w a.ran i.ran a.only i.only in
    record {
      ran = ran;
      stops = ap (stops_with_cause u.shape) (ran-events u v w a.ran i.ran) ∙ stops-join u.shape (events u v) (events v w) a.stops (shaped stops_with_cause u v w a.ran s);
      fills = ap (fills_with_cause u.shape) (ran-events u v w a.ran i.ran) ∙ fills-join u.shape (events u v) (events v w) a.fills (shaped fills_with_cause u v w a.ran i.fills);
      again = ap (stops_again_with_cause u.shape) (ran-events u v w a.ran i.ran) ∙ again-stops-join u.shape (events u v) (events v w) a.again a.missed (shaped stops_again_with_cause u v w a.ran i.again);
      visit = ap (stops_in_visit u.shape) (ran-events u v w a.ran i.ran) ∙ visits-join u.shape (events u v) (events v w) a.visit (shaped stops_in_visit u v w a.ran t);
      collects = ap stops_collect (ran-events u v w a.ran i.ran) ∙ collects-join (events u v) (events v w) a.ended i.collects;
      cycles = ap (cycles_with_cause u.shape) (ran-events u v w a.ran i.ran) ∙ cycles-join u.shape (events u v) (events v w) a.cycles (shaped cycles_with_cause u v w a.ran i.cycles);
      keeps = (keeps-seat u w ran only, keeps-section u w ran only);
      only = only-more keeps_section fills_part keeps-fill u w only;
      spares = spares-refill r u v w a.ran i.ran a.spares i.spares;
      numbers = refills-later r u v w n m;
    }

-- the same at a shape that is that of the view
pub rules-at : (sh : Shape) (r : Refill) (u w : View) → u.shape ≡ sh → KeepsRefillRules u.shape r u w → KeepsRefillRules sh r u w
rules-at sh r u w e k = subst (λ (s : Shape). KeepsRefillRules s r u w) e k
