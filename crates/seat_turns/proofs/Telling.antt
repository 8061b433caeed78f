-- What a watch is told of two parts of a call, and steps of which it isn't told.
use Rattle.std.proofs.Common.{ℕ, zero, suc, ◌≡◌, ◌+◌, List, [], ◌∷◌, ◌++◌, append_assoc, refl, sym, ap, ◌∙◌, subst, Bool, true, false, ◌&&◌}
use Rattle.std.specs.Prelude.{map, ◌⊎◌}
use Rattle.std.specs.List.{range_with_len}
use Rattle.std.proofs.Common.{⊎_elim}
use Rattle.std.proofs.lemmas.Bool.{and_from, and_parts}
use Rattle.std.proofs.lemmas.List.{append-nil}
use Rattle.mark_core.specs.Bits.{has_bit}
use Rattle.mark_core.specs.declared.kinds.Shape.{Shape}
use Rattle.mark_core.specs.declared.kinds.Step.{Step}
use Rattle.mark_core.specs.declared.kinds.Step.TheVariants.{HoldRoot, LeaveStep, ReadSeason, StoreNew, StorePosition, StoreRoot}
use Rattle.mark_core.specs.declared.seat.SeatState.{SeatState}
use Rattle.mark_core.specs.Numbers.{section_variables}
use Rattle.gc_table.specs.Log.{all_steps, events, Only, steps_of}
use Rattle.gc_table.specs.Running.{Ran}
use Rattle.gc_table.specs.declared.view.Entry.{Entry}
use Rattle.gc_table.specs.declared.view.View.{View}
use Rattle.gc_table.proofs.History.Log.{only-after, only-none}
use Rattle.gc_table.proofs.Running.{ran-join, ran-only, ran-refl}
use Rattle.alloc_cache.specs.Making.{making_steps, nil_fields}
use Rattle.gc_cycle.specs.Mutating.{spares_blocks}
use Rattle.gc_cycle.specs.declared.counts.Refill.{Refill}
use Rattle.cache_refills.specs.Notices.{Notice}
use Rattle.cache_refills.specs.Getting.{RefillsTo}
use Rattle.cache_refills.specs.InStops.{FillsTo, begins_none}
use Rattle.cache_refills.specs.Pace.Pacing.{begins_where_due}
use Rattle.cache_refills.specs.Pace.Paying.{pops_where_paid}
use Rattle.cache_refills.specs.RefillRules.{KeepsRefillRules}
use Rattle.gc_cycle.specs.Mutating.{pops_in_stops}
use Rattle.mutator_ops.specs.Flushing.{Flushes, flushing_step, flushing_steps}
use Rattle.mutator_ops.specs.Listing.{creating_steps}
use Rattle.mutator_ops.specs.Sharing.{next_word}
use Rattle.seat_turns.specs.Coming.{RefillsBeside, RefillsInStops, StepsOut}
use Rattle.seat_turns.specs.SeasonLooks.{LooksAtSeason}
use Rattle.seat_turns.specs.Sharing.{MakesShared}
use Rattle.seat_turns.specs.Telling.{all_notices, GoesUntold, TellsEach, TellsFill, TellsFills}

-- steps of which nothing is told

pub untold-join : (u v w : View) → GoesUntold u v → GoesUntold v w → GoesUntold u w
untold-join u v w a b = (ran-join u v w a.0 b.0, ran-only spares_blocks u v w a.0 b.0 a.1 b.1)

pub untold-none : (v : View) → GoesUntold v v
untold-none v = (ran-refl v, only-none spares_blocks v)

pub season-spares : (v w : View) → LooksAtSeason v w → Only spares_blocks v w
season-spares v w k =
    ⊎_elim (λ (e : w ≡ v). subst (λ (x : View). Only spares_blocks v x) (sym e) (only-none spares_blocks v)) (λ f. only-after spares_blocks v w ReadSeason f.0 refl f.1.0) k

pub out-untold : (v w : View) → Ran v w → StepsOut v w → GoesUntold v w
out-untold v w r k = (r, ap (all_steps spares_blocks) k.1)

-- all steps of a list are of this sort
all_of : (Step → Bool) → List Step → Bool
all_of P [] = true
all_of P (s ∷ ss) = P s && all_of P ss

module _ (P : Step → Bool) where
  of-steps : (es : List Entry) (ss : List Step) → steps_of es ≡ ss → all_of P ss ≡ true → all_steps P es ≡ true
  unfolding all_of
  of-steps es ss e h = same es ∙ (ap (all_of P) e ∙ h)
    where
      same : (fs : List Entry) → all_steps P fs ≡ all_of P (steps_of fs)
      same [] = refl
      same (f ∷ fs) = ap (λ (b : Bool). P f.step && b) (same fs)

  of-both : (xs ys : List Step) → all_of P xs ≡ true → all_of P ys ≡ true → all_of P (xs ++ ys) ≡ true
  unfolding all_of
  of-both [] ys a b = b
  of-both (x ∷ xs) ys a b = let p = and_parts (P x) (all_of P xs) a in and_from (P x) (all_of P (xs ++ ys)) p.0 (of-both xs ys p.1 b)

fields-spare : (c : ℕ) (is : List ℕ) → all_of spares_blocks (map (λ i. StoreNew c i 0) is) ≡ true
unfolding all_of
fields-spare c [] = refl
fields-spare c (i ∷ is) = fields-spare c is

making-spares : (fields c value identity : ℕ) → all_of spares_blocks (making_steps fields c value identity) ≡ true
unfolding all_of
making-spares fields c value identity = of-both spares_blocks (nil_fields c fields) (StoreNew c fields value ∷ StoreNew c (fields + 1) identity ∷ []) (fields-spare c (range_with_len 0 fields)) refl

pub created-untold : (fields : ℕ) (s : SeatState) (u n cell : ℕ) (v w : View) → Ran v w → steps_of (events v w) ≡ creating_steps fields s u n cell → GoesUntold v w
unfolding all_of
created-untold fields s u n cell v w r e =
    (r, of-steps spares_blocks (events v w) (creating_steps fields s u n cell) e (of-both spares_blocks (making_steps fields cell n (next_word s)) (StoreRoot u (cell + 1) ∷ []) (making-spares fields cell n (next_word s)) refl))

pub shared-untold : (u n : ℕ) (v w : View) → MakesShared u n v w → GoesUntold v w
unfolding all_of
shared-untold u n v w k =
    let c = k.creates in
    let making = making_steps v.shape.fields k.cell n (next_word v.state) in
    (c.ran, of-steps spares_blocks (events v w) (making ++ HoldRoot u (k.cell + 1) ∷ []) c.steps_are (of-both spares_blocks making (HoldRoot u (k.cell + 1) ∷ []) (making-spares v.shape.fields k.cell n (next_word v.state)) refl))

one-flushed : (lags : Bool) (n : ℕ) → all_of spares_blocks (flushing_step lags n) ≡ true
unfolding all_of
one-flushed true n = refl
one-flushed false n = refl

flushing-spares : (lags n : ℕ) → all_of spares_blocks (flushing_steps lags n) ≡ true
unfolding all_of
flushing-spares lags zero = refl
flushing-spares lags (suc n) = of-both spares_blocks (flushing_steps lags n) (flushing_step (has_bit lags n) n) (flushing-spares lags n) (one-flushed (has_bit lags n) n)

pub flushed-untold : (v w : View) → Flushes v w → GoesUntold v w
flushed-untold v w k = (k.ran, of-steps spares_blocks (events v w) (flushing_steps v.state.lags section_variables) k.steps_are (flushing-spares v.state.lags section_variables))

-- refills

each-first : (i : Bool) (sh : Shape) (rounds : List (List Notice)) (u v w : View) → GoesUntold u v → TellsEach i sh rounds v w → TellsEach i sh rounds u w
each-first i sh [] u v w a k = untold-join u v w a k
each-first i sh (ns ∷ rounds) u v w a k = (k.0, k.1, untold-join u v k.0 a k.2, k.3, k.4, k.5)

each-join : (i : Bool) (sh : Shape) (xs ys : List (List Notice)) (u v w : View) → TellsEach i sh xs u v → TellsEach i sh ys v w → TellsEach i sh (xs ++ ys) u w
each-join i sh [] ys u v w a b = each-first i sh ys u v w a b
each-join i sh (ns ∷ xs) ys u v w a b = (a.0, a.1, a.2, a.3, a.4, each-join i sh xs ys a.1 v w a.5 b)

all-join : (xs ys : List (List Notice)) → all_notices (xs ++ ys) ≡ all_notices xs ++ all_notices ys
all-join [] ys = refl
all-join (ns ∷ xs) ys = ap (λ (zs : List Notice). ns ++ zs) (all-join xs ys) ∙ sym (append_assoc ns (all_notices xs) (all_notices ys))

pub fills-none : (i : Bool) (sh : Shape) (v w : View) → GoesUntold v w → TellsFills i sh [] v w
fills-none i sh v w k = record { rounds = []; all = refl; tells = k }

pub fills-join : (i : Bool) (sh : Shape) (ms ns : List Notice) (u v w : View) → TellsFills i sh ms u v → TellsFills i sh ns v w → TellsFills i sh (ms ++ ns) u w
fills-join i sh ms ns u v w a b =
    record {
      rounds = a.rounds ++ b.rounds;
      all = (λ j. a.all j ++ b.all j) ∙ sym (all-join a.rounds b.rounds);
      tells = each-join i sh a.rounds b.rounds u v w a.tells b.tells;
    }

pub fills-first : (i : Bool) (sh : Shape) (ns : List Notice) (u v w : View) → GoesUntold u v → TellsFills i sh ns v w → TellsFills i sh ns u w
fills-first i sh ns u v w a k = fills-join i sh [] ns u v w (fills-none i sh u v a) k

pub fills-last : (i : Bool) (sh : Shape) (ns : List Notice) (u v w : View) → TellsFills i sh ns u v → GoesUntold v w → TellsFills i sh ns u w
fills-last i sh ns u v w k a = subst (λ (xs : List Notice). TellsFills i sh xs u w) (append-nil ns) (fills-join i sh ns [] u v w k (fills-none i sh v w a))

pub fills-one : (i : Bool) (sh : Shape) (ns : List Notice) (v w : View) → Ran v w → TellsFill i sh ns v w → TellsFills i sh ns v w
fills-one i sh ns v w r k = record { rounds = ns ∷ []; all = sym (append-nil ns); tells = (v, w, untold-none v, r, k, untold-none w) }

-- a refill's rules, as they are kept

pub beside-of : (sh : Shape) (r : Refill) (n : ℕ) (v w : View) → n ≡ v.state.made → KeepsRefillRules sh r v w → RefillsTo r n v w → pops_where_paid (events v w) ≡ true → begins_where_due (events v w) ≡ true → RefillsBeside sh r v w
beside-of sh r n v w e k f p d =
    record {
      ran = k.ran;
      refills = subst (λ (m : ℕ). RefillsTo r m v w) e f;
      stops = k.stops;
      visit = k.visit;
      again = k.again;
      collects = k.collects;
      cycles = k.cycles;
      pops = p;
      fills = k.fills;
      due = d;
      only = k.only;
      numbers = k.numbers;
    }

pub in-stops-of : (sh : Shape) (r : Refill) (n : ℕ) (v w : View) → n ≡ v.state.made → KeepsRefillRules sh r v w → FillsTo r n v w → pops_in_stops (events v w) ≡ true → begins_none (events v w) ≡ true → RefillsInStops sh r v w
in-stops-of sh r n v w e k f p d =
    record {
      ran = k.ran;
      fills = subst (λ (m : ℕ). FillsTo r m v w) e f;
      stops = k.stops;
      visit = k.visit;
      again = k.again;
      collects = k.collects;
      cycles = k.cycles;
      pops = p;
      full = k.fills;
      unbegun = d;
      only = k.only;
      numbers = k.numbers;
    }
