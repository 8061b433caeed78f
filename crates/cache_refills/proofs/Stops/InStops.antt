-- A cache without a cycle: what was looked at and claimed, and that no cycle was begun.
use Rattle.std.proofs.Common.{ℕ, ◌≡◌, List, [], ◌∷◌, ◌++◌, refl, sym, ap, ◌∙◌, subst, Bool, true, false, not, ◌||◌, Some, None, Option}
use Rattle.std.specs.Prelude.{IfNone, IfSome}
use Rattle.std.specs.Int.Count.{ones}
use Rattle.std.proofs.lemmas.Bool.{false≢true, not-true}
use Rattle.std.proofs.lemmas.List.{append_assoc}
use Rattle.mark_core.specs.Numbers.{free_count}
use Rattle.mark_core.specs.declared.kinds.Step.{Step}
use Rattle.mark_core.specs.declared.kinds.Step.TheVariants.{AddStat, ClaimBlock, DropStep, ReadFree, ReadPhase, StorePhase}
use Rattle.mark_core.specs.declared.kinds.Phase.{Phase}
use Rattle.mark_core.specs.declared.kinds.Shape.{Shape}
use Rattle.gc_table.specs.Log.{event, events, Only}
use Rattle.gc_table.specs.Running.{Ran}
use Rattle.gc_table.specs.declared.view.Entry.{Entry}
use Rattle.gc_table.specs.Seats.{Took}
use Rattle.gc_table.specs.Taking.{after}
use Rattle.gc_table.specs.declared.view.View.{View}
use Rattle.gc_table.proofs.History.Log.{events-after, events-none, only-after, only-more}
use Rattle.gc_table.proofs.Running.{ran-events, ran-join, ran-took}
use Rattle.packet_pools.specs.Fields.{picked}
use Rattle.packet_pools.specs.Seeking.{some_event}
use Rattle.alloc_cache.specs.Claiming.{claimed_by, Claims, seeks_block}
use Rattle.alloc_cache.specs.declared.cache.Cache.{Cache}
use Rattle.gc_cycle.specs.Answering.{answers, KeepsOn, StoredAt, TellsFull}
use Rattle.gc_cycle.specs.declared.counts.Refill.{Refill}
use Rattle.gc_cycle.specs.declared.counts.Refill.TheVariants as refills
use Rattle.cache_refills.specs.Getting.{RefillsTo}
use Rattle.cache_refills.specs.InStops.{begins_none, FillsCache, FillsTo, HasSearched}
use Rattle.gc_cycle.specs.Finishing.{IsPart}
use Rattle.gc_cycle.specs.Mutating.{tries_stopping}
use Rattle.gc_cycle.proofs.Ends.Completing.{part-unended, part-untried}
use Rattle.cache_refills.proofs.Stops.InStop.{ClaimsNone}
use Rattle.cache_refills.specs.Pace.Pacing.{tries_marking}
use Rattle.cache_refills.specs.Pace.Paying.{since_claim}
use Rattle.cache_refills.specs.Refilling.{EndsClaimed}
use Rattle.gc_cycle.specs.Events.{never}
use Rattle.gc_cycle.specs.Sorts.{claims, ends_cycle, lowers_free}
use Rattle.gc_cycle.proofs.Refills.Answered.{answers-try}
use Rattle.cache_refills.proofs.Refills.Claimed.{claim-only, claims_block, claims-end, claims-only}
use Rattle.cache_refills.proofs.Positions.{stays_inside, stored-more}
use Rattle.cache_refills.proofs.Refills.Rounds.{leads-prepared}
use Rattle.cache_refills.proofs.Refills.Filling.{seeks-unended}
use Rattle.gc_cycle.proofs.Sequences.{none-of-steps, since-this, some-none}

-- steps that begin no cycle

tries-unbegun : (step : Step) (n : ℕ) → tries_stopping step ≡ true → tries_marking step n ≡ false
tries-unbegun (StorePhase to) n e = absurd (false≢true e)
tries-unbegun step n e = refl

seeks-unbegun : (step : Step) (n : ℕ) → seeks_block step ≡ true → tries_marking step n ≡ false
seeks-unbegun (StorePhase to) n e = absurd (false≢true e)
seeks-unbegun step n e = refl

claims-unbegun : (step : Step) (n : ℕ) → claims_block step ≡ true → tries_marking step n ≡ false
claims-unbegun (StorePhase to) n e = absurd (false≢true e)
claims-unbegun step n e = refl

unbegun-none : (es : List Entry) → some_event tries_marking es ≡ false → begins_none es ≡ true
unbegun-none es h = ap not h

pub unbegun-empty : (v : View) → begins_none (events v v) ≡ true
unbegun-empty v = ap begins_none (events-none v)

pub unbegun-join : (u v w : View) → Ran u v → Ran v w → begins_none (events u v) ≡ true → begins_none (events v w) ≡ true → begins_none (events u w) ≡ true
unbegun-join u v w r q a b = ap begins_none (ran-events u v w r q) ∙ ap not (some-none tries_marking (events u v) (events v w) (not-true _ a) (not-true _ b))

pub unbegun-tries : (v w : View) → Only tries_stopping v w → begins_none (events v w) ≡ true
unbegun-tries v w o = unbegun-none (events v w) (none-of-steps tries_stopping tries_marking tries-unbegun (events v w) o)

pub unbegun-seeks : (v w : View) → Only seeks_block v w → begins_none (events v w) ≡ true
unbegun-seeks v w o = unbegun-none (events v w) (none-of-steps seeks_block tries_marking seeks-unbegun (events v w) o)

pub unbegun-claims : (h : Cache) (v w : View) → Claims h v w → begins_none (events v w) ≡ true
unbegun-claims h v w k = unbegun-none (events v w) (none-of-steps claims_block tries_marking claims-unbegun (events v w) (claim-only h v w k))

pub unbegun-answers : (v w : View) → Only answers v w → begins_none (events v w) ≡ true
unbegun-answers v w o = unbegun-tries v w (only-more answers tries_stopping answers-try v w o)

-- one step
pub unbegun-after : (v w : View) (step : Step) (n : ℕ) → tries_marking step n ≡ false → w ≡ after step n v → begins_none (events v w) ≡ true
unbegun-after v w step n h e = ap begins_none (events-after v w step n e) ∙ ap (λ (b : Bool). not (b || false)) h

-- a claim, whatever its answer
pub unbegun-any : (sh : Shape) (o : Option Cache) (v w : View) → IfSome o (λ h. Claims h v w) → IfNone o (ClaimsNone sh v w) → begins_none (events v w) ≡ true
unbegun-any sh None v w s n = unbegun-seeks v w n.3
unbegun-any sh (Some h) v w s n = unbegun-claims h v w s

-- a part of a stop
pub unbegun-part : (p : Phase) (v w : View) → IsPart p v w → begins_none (events v w) ≡ true
unbegun-part p v w h = ap not (part-untried p v w h)

-- a stop, what was done in it, its end, and a look at the phase after it
pub unbegun-stop : (u v w x y : View) → Ran u v → Ran v w → Ran w x → Ran x y → Only tries_stopping u v → begins_none (events v w) ≡ true → Took DropStep w x → Only answers x y → begins_none (events u y) ≡ true
unbegun-stop u v w x y r q d l o k t a =
    unbegun-join u v y r (ran-join v w y q (ran-join w x y d l)) (unbegun-tries u v o)
    (unbegun-join v w y q (ran-join w x y d l) k (unbegun-join w x y d l (unbegun-after w x DropStep t.0 refl t.1.0) (unbegun-answers x y a)))

-- steps that end no cycle

claims-unended : (step : Step) (n : ℕ) → claims_block step ≡ true → ends_cycle step n ≡ false
claims-unended (StorePhase to) n e = absurd (false≢true e)
claims-unended step n e = refl

pub unended-seeks : (v w : View) → Only seeks_block v w → never ends_cycle (events v w) ≡ true
unended-seeks v w o = ap not (none-of-steps seeks_block ends_cycle seeks-unended (events v w) o)

pub unended-claims : (h : Cache) (v w : View) → Claims h v w → never ends_cycle (events v w) ≡ true
unended-claims h v w k = ap not (none-of-steps claims_block ends_cycle claims-unended (events v w) (claim-only h v w k))

-- a claim, whatever its answer
pub unended-any : (sh : Shape) (o : Option Cache) (v w : View) → IfSome o (λ h. Claims h v w) → IfNone o (ClaimsNone sh v w) → never ends_cycle (events v w) ≡ true
unended-any sh None v w s n = unended-seeks v w n.3
unended-any sh (Some h) v w s n = unended-claims h v w s

pub unended-part : (p : Phase) (v w : View) → IsPart p v w → never ends_cycle (events v w) ≡ true
unended-part p v w h = ap not (part-unended p v w h)

pub unended-after : (v w : View) (step : Step) (n : ℕ) → ends_cycle step n ≡ false → w ≡ after step n v → never ends_cycle (events v w) ≡ true
unended-after v w step n h e = ap (never ends_cycle) (events-after v w step n e) ∙ ap (λ (b : Bool). not (b || false)) h

pub unended-join : (u v w : View) → Ran u v → Ran v w → never ends_cycle (events u v) ≡ true → never ends_cycle (events v w) ≡ true → never ends_cycle (events u w) ≡ true
unended-join u v w r q a b = ap (never ends_cycle) (ran-events u v w r q) ∙ ap not (some-none ends_cycle (events u v) (events v w) (not-true _ a) (not-true _ b))

-- the answer

pub fills-from : (r : Refill) (done : ℕ) (u w : View) → RefillsTo r done u w → FillsTo r done u w
fills-from (refills.Cache h paid) done u w g = record { goes_on = g.goes_on; cached = g.cached; position = g.position; free = g.free; told = g.told }
fills-from refills.Full done u w g = g

pub searched : (h : Cache) (done : ℕ) (u v w : View) → Ran u v → TellsFull u v → StoredAt done u v → Ran v w → Claims h v w → HasSearched h done u w
searched h done u v w r t s q k =
    let l = leads-prepared v w q (claims-only h v w k) in
    record {
      ran = ran-join u v w r q;
      tells = l.tells u r t;
      position = stored-more done u v w r q l.inside s;
      first = events u v ++ k.events_are.0;
      claimed = claims-end h u v w r q k;
    }

-- it looked at the phase, and keeps the cache
pub keeps-fills : (h kept : Cache) (done : ℕ) (u v w : View) → HasSearched h done u v → KeepsOn (Some h) (Some kept) v w → FillsCache kept done u w
keeps-fills h kept done u v w k a =
    let e : EndsClaimed kept k.first u v = subst (λ p. IfSome p (λ z. EndsClaimed z k.first u v)) (sym a.same) k.claimed in
    let t = a.looked in
    let ran : Ran v w = ran-took v w ReadPhase refl t in
    let claim : Entry = record { step = ClaimBlock kept.block; found = 0; won = true } in
    let rest : List Entry = record { step = ReadFree; found = e.word; won = true } ∷ record { step = AddStat free_count (ones kept.cells) true; found = e.count; won = true } ∷ event ReadPhase t.0 ∷ [] in
    let all : events u w ≡ k.first ++ (claim ∷ rest) =
    ran-events u v w k.ran ran
    ∙ ((λ i. e.all i ++ events-after v w ReadPhase t.0 t.1.0 i) ∙ append_assoc k.first (claimed_by kept e.word e.count) (event ReadPhase t.0 ∷ [])) in
    record {
      goes_on = a.going u k.ran k.tells;
      cached = a.cached;
      position = stored-more done u v w k.ran ran (only-after stays_inside v w ReadPhase t.0 refl t.1.0) k.position;
      free = e.free;
      told = ap (picked lowers_free) (ap since_claim all ∙ since-this claims k.first claim rest refl refl);
    }
