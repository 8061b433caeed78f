-- What a mutator that claims a block does, and what it has then.
use Rattle.std.proofs.Common.{ℕ, ◌≡◌, ◌<◌, List, [], ◌∷◌, ◌++◌, arith, refl, sym, ap, ◌∙◌, subst, Bool, true, not, None, ⊎_elim, inl, inr, zero, suc}
use Rattle.std.specs.Prelude.{◌==◌}
use Rattle.std.specs.Int.Count.{ones}
use Rattle.std.proofs.lemmas.Bool.{and_from, and_parts, false≢true}
use Rattle.std.proofs.lemmas.List.{append_assoc}
use Rattle.std.proofs.lemmas.Nat.{zero_from_ones}
use Rattle.mark_core.specs.Steps.MutatorSteps.{used_bits}
use Rattle.mark_core.specs.Seats.{has_making, last_made}
use Rattle.mark_core.specs.declared.kinds.Shape.{Shape}
use Rattle.mark_core.specs.declared.kinds.Step.{Step}
use Rattle.mark_core.specs.declared.kinds.Step.TheVariants.{AddStat, ClaimBlock, ReadFree, ReleaseBlock}
use Rattle.mark_core.specs.declared.seat.SeatState.{SeatState}
use Rattle.gc_table.specs.Log.{all_steps, events, Only}
use Rattle.gc_table.specs.Running.{Ran}
use Rattle.gc_table.specs.declared.view.Entry.{Entry}
use Rattle.gc_table.specs.declared.view.View.{View}
use Rattle.gc_table.proofs.History.Log.{only-more}
use Rattle.gc_table.proofs.Running.{ran-events, ran-join}
use Rattle.alloc_cache.specs.Caching.{cached, IsCached}
use Rattle.alloc_cache.specs.Claiming.{claimed_by, Claims, seeks_block}
use Rattle.alloc_cache.specs.declared.cache.Cache.{Cache}
use Rattle.gc_cycle.specs.Answering.{StoredAt, TellsFull}
use Rattle.cache_refills.specs.Refilling.{EndsClaimed, HasClaimed, IsPaced, prepares}
use Rattle.mark_core.specs.Numbers.{done_count}
use Rattle.gc_cycle.specs.Standing.{is_at_rest}
use Rattle.cache_refills.proofs.Refills.Paced.{cycle-kept, paced-searched}
use Rattle.packet_pools.specs.Seeking.{some_event}
use Rattle.packet_pools.proofs.Searches.{some-right}
use Rattle.gc_cycle.specs.Sorts.{claims}
use Rattle.cache_refills.proofs.Positions.{stored-more}
use Rattle.cache_refills.proofs.Refills.Rounds.{leads-prepared}

-- a step of the search for a block, or of its claim
abbrev pub claims_block : Step → Bool
claims_block (AddStat which by down) = not (which == done_count)
claims_block step = seeks_block step

pub seeks-claim : (step : Step) → seeks_block step ≡ true → claims_block step ≡ true
seeks-claim (AddStat which by down) e = absurd (false≢true e)
seeks-claim step e = e

pub claims-prepare : (step : Step) → claims_block step ≡ true → prepares step ≡ true
claims-prepare (ClaimBlock b) e = refl
claims-prepare ReadFree e = refl
claims-prepare ReleaseBlock e = refl
claims-prepare (AddStat which by down) e = e
claims-prepare step e = absurd (false≢true e)

claim-steps : (h : Cache) (first : List Entry) (word count : ℕ) → all_steps seeks_block first ≡ true → all_steps claims_block (first ++ claimed_by h word count) ≡ true
claim-steps h [] word count o = refl
claim-steps h (e ∷ es) word count o =
    let p = and_parts (seeks_block e.step) (all_steps seeks_block es) o in and_from _ _ (seeks-claim e.step p.0) (claim-steps h es word count p.1)

pub claim-only : (h : Cache) (v w : View) → Claims h v w → Only claims_block v w
claim-only h v w k = let e = k.events_are in ap (all_steps claims_block) e.3 ∙ claim-steps h e.0 e.1 e.2 e.5

pub claims-only : (h : Cache) (v w : View) → Claims h v w → Only prepares v w
claims-only h v w k = only-more claims_block prepares claims-prepare v w (claim-only h v w k)

-- its events are a claim
pub claims-block : (h : Cache) (v w : View) → Claims h v w → some_event claims (events v w) ≡ true
claims-block h v w k = let e = k.events_are in ap (some_event claims) e.3 ∙ some-right claims e.0 (claimed_by h e.1 e.2) refl

pub claims-cached : (h : Cache) (v w : View) → Claims h v w → IsCached h w
claims-cached h v w k = subst (λ c. c ≡ cached h.block h.cells (used_bits c) (last_made c)) (sym (ap (λ (s : SeatState). s.cache) k.state)) refl

pub with-cache : (sh : Shape) (s : SeatState) (h : Cache) → is_at_rest sh s ≡ true → is_at_rest sh (record s { cache = cached h.block h.cells 0 None }) ≡ true
with-cache sh s h e = and_from _ true (and_parts _ (not (has_making s.cache)) e).0 refl

pub some-ones : (n : ℕ) → 0 < n → 0 < ones n
some-ones n l = either (ones n) refl
  where
    either : (k : ℕ) → ones n ≡ k → 0 < k
    either zero e = let z = zero_from_ones n e in absurd (omega (arith, l, z))
    either (suc k) e = omega arith

-- the events of earlier calls before those of the claim
pub claims-end : (h : Cache) (u v w : View) → Ran u v → Ran v w → (k : Claims h v w) → EndsClaimed h (events u v ++ k.events_are.0) u w
claims-end h u v w r q k =
    let e = k.events_are in
    record {
      word = e.1;
      count = e.2;
      all = ran-events u v w r q ∙ (ap (λ es. events u v ++ es) e.3 ∙ sym (append_assoc (events u v) e.0 (claimed_by h e.1 e.2)));
      free = some-ones h.cells k.some;
    }

pub claims-claimed : (h : Cache) (done : ℕ) (u v w : View) → v.state.active ≡ true → Ran u v → TellsFull u v → StoredAt done u v → IsPaced (events u v) v → Ran v w → Claims h v w → HasClaimed h done u w
claims-claimed h done u v w a r t s p q k =
    let o = claims-only h v w k in
    let l = leads-prepared v w q o in
    record {
      ran = ran-join u v w r q;
      tells = l.tells u r t;
      position = stored-more done u v w r q l.inside s;
      first = events u v ++ k.events_are.0;
      claimed = claims-end h u v w r q k;
      paced =
          ⊎_elim
          (λ n. inl (paced-searched (events u v) k.events_are.0 k.events_are.5 n))
          (λ c. inr (cycle-kept v w q o a c))
          p;
    }
