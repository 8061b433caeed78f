-- A mutator's round on the way to a cache, and what it has done before it claims a block or stops the world.
use Rattle.std.proofs.Common.{ℕ, ◌≡◌, ◌<◌, ◌≤◌, List, [], ◌++◌, arith, refl, sym, ap, ◌∙◌, subst, Bool, true, false, ◌&&◌, Some, None, Option, ⊎_elim, inl, inr, zero, suc}
use Rattle.std.specs.Prelude.{IfNone, IfSome}
use Rattle.std.specs.Bool.{OnFalse}
use Rattle.std.proofs.Math.Logic.{∥∥₁_elim}
use Rattle.std.proofs.Props.{props}
use Rattle.std.proofs.lemmas.Bool.{false≢true, not-true, true≢false}
use Rattle.mark_core.specs.Effects.{seat_after}
use Rattle.mark_core.specs.Layout.{block_count}
use Rattle.mark_core.specs.Notes.{steady}
use Rattle.mark_core.specs.Places.{the_phase}
use Rattle.mark_core.specs.Seats.{phase_number, phase_of, saw}
use Rattle.mark_core.specs.declared.kinds.Phase.TheVariants.{Full, Marking}
use Rattle.mark_core.specs.declared.kinds.Shape.{Shape}
use Rattle.mark_core.specs.declared.kinds.Step.{Step}
use Rattle.mark_core.specs.declared.kinds.Step.TheVariants.{AddStat, ClaimBlock, DropStep, EnterStep, ReadCount, ReadFree, ReadPhase, ReadStat, ReleaseBlock, StorePhase}
use Rattle.gc_table.specs.Log.{event, events, Only}
use Rattle.gc_table.specs.Rule.{IsPossible}
use Rattle.gc_table.specs.Running.{Known, Ran}
use Rattle.gc_table.specs.Seats.{Took}
use Rattle.gc_table.specs.Taking.{after, moves_from}
use Rattle.gc_table.specs.declared.view.Entry.{Entry}
use Rattle.gc_table.specs.declared.view.View.{View}
use Rattle.gc_table.proofs.History.Log.{events-after, only-after, only-more}
use Rattle.gc_table.proofs.Noticing.{known-here}
use Rattle.gc_table.proofs.Running.{ran-events, ran-join, ran-only, ran-shape, ran-took}
use Rattle.packet_pools.specs.Seeking.{some_event}
use Rattle.packet_pools.proofs.Searches.{some-parts}
use Rattle.alloc_cache.specs.Claiming.{NoBlock, seeks_block}
use Rattle.gc_cycle.specs.Answering.{KeepsOn, TellsFull}
use Rattle.gc_cycle.specs.declared.counts.Refill.{Refill}
use Rattle.gc_cycle.specs.declared.counts.Refill.TheVariants as refills
use Rattle.gc_cycle.specs.Cycles.{fills_with_cause}
use Rattle.gc_cycle.specs.Mutating.{keeps_section, pops_in_stops, stays_calm}
use Rattle.cache_refills.specs.Pace.Pacing.{was_not_due}
use Rattle.gc_cycle.specs.Polling.{saw_full}
use Rattle.cache_refills.specs.Refilling.{IsPaced, IsRound, prepares, SeesEnd, TriesOn}
use Rattle.gc_cycle.specs.Sorts.{comes_in, ends_cycle, moves_to, pops, raises_flag, reads_phase}
use Rattle.gc_cycle.specs.Sparing.{SparesRefill, spares_part}
use Rattle.gc_cycle.specs.Standing.{Mutates}
use Rattle.cache_refills.specs.Stops.{cycles_with_cause, may_stop, may_stop_again, resumes_with_end, stops_again_with_cause, stops_collect}
use Rattle.cache_refills.proofs.Stops.StopsAgain.{again-join, again-stops-join, prepared-unended, quiet-again, unraised-again}
use Rattle.cache_refills.proofs.Causes.{done-stops, failed-stops, fills-join, search-failed, unfilled}
use Rattle.cache_refills.proofs.Stops.Visits.{collects-join, cycles-join, ended-all, ends-join, unended-cycles, unresumed-ends}
use Rattle.gc_cycle.proofs.Refills.Collected.{calm-spares}
use Rattle.gc_cycle.proofs.Refills.KnownFull.{phase-seen}
use Rattle.gc_cycle.proofs.SectionKept.{calm-keeps, no-raise as calm-unraised}
use Rattle.cache_refills.proofs.Refills.Popping.{pops-join, prepared-pops, unpopped}
use Rattle.cache_refills.proofs.Refills.Paced.{full-kept, paced-later, steady-marking}
use Rattle.cache_refills.proofs.Positions.{prepares-inside, stays_inside}
use Rattle.gc_cycle.proofs.Sequences.{none-of-steps, some-none}
use Rattle.gc_cycle.proofs.Stops.Outside.{unresumed-out}
use Rattle.stop_world.proofs.Passing.{read-most as found-low}

pub on-false : {P : Type 0} (b : Bool) → P → OnFalse b P
on-false true p = tt
on-false false p = p

-- what the steps on the way to a block leave

prepares-keep : (step : Step) → prepares step ≡ true → keeps_section step ≡ true
prepares-keep (ReadStat which) e = refl
prepares-keep ReadCount e = refl
prepares-keep (StorePhase Marking) e = refl
prepares-keep (ClaimBlock b) e = refl
prepares-keep ReadFree e = refl
prepares-keep ReleaseBlock e = refl
prepares-keep (AddStat which by down) e = e
prepares-keep step e = absurd (false≢true e)

prepares-spare : (step : Step) → prepares step ≡ true → spares_part step ≡ true
prepares-spare (ReadStat which) e = refl
prepares-spare ReadCount e = refl
prepares-spare (StorePhase Marking) e = refl
prepares-spare (ClaimBlock b) e = refl
prepares-spare ReadFree e = refl
prepares-spare ReleaseBlock e = refl
prepares-spare (AddStat which by down) e = e
prepares-spare step e = absurd (false≢true e)

unraised : (step : Step) (n : ℕ) → prepares step ≡ true → raises_flag step n ≡ false
unraised (ReadStat which) n e = refl
unraised ReadCount n e = refl
unraised (StorePhase Marking) n e = refl
unraised (ClaimBlock b) n e = refl
unraised ReadFree n e = refl
unraised ReleaseBlock n e = refl
unraised (AddStat which by down) n e = refl
unraised step n e = absurd (false≢true e)

prepares-in : (step : Step) (n : ℕ) → prepares step ≡ true → comes_in step n ≡ false
prepares-in EnterStep n e = absurd (false≢true e)
prepares-in DropStep n e = absurd (false≢true e)
prepares-in step n e = refl

-- on the way to a block the phase isn't read
pub unlooked : (step : Step) (n : ℕ) → prepares step ≡ true → reads_phase Full step n ≡ false
unlooked (ReadStat which) n e = refl
unlooked ReadCount n e = refl
unlooked (StorePhase Marking) n e = refl
unlooked (ClaimBlock b) n e = refl
unlooked ReadFree n e = refl
unlooked ReleaseBlock n e = refl
unlooked (AddStat which by down) n e = refl
unlooked step n e = absurd (false≢true e)

pub unfull : (step : Step) (n : ℕ) → spares_part step ≡ true → moves_to Full step n ≡ false
unfull (StorePhase to) n e = ap (λ (b : Bool). b && moves_from n to) (not-true (saw (Some to) Full) e)
unfull step n e = refl

-- such steps say nothing of a full heap and raise no flag, and what was known of it is known still
pub record Leads (v w : View) : Type 0 where
  pub ran : Ran v w
  pub keeps : Only keeps_section v w
  pub spares : Only spares_part v w
  pub calm : some_event raises_flag (events v w) ≡ false
  pub unended : some_event ends_cycle (events v w) ≡ false
  pub inside : Only stays_inside v w
  pub within : some_event comes_in (events v w) ≡ false
  pub unpopped : some_event pops (events v w) ≡ false
  pub tells : (u : View) → Ran u v → TellsFull u v → TellsFull u w

pub leads-prepared : (v w : View) → Ran v w → Only prepares v w → Leads v w
leads-prepared v w r o =
    record {
      ran = r;
      keeps = only-more prepares keeps_section prepares-keep v w o;
      spares = only-more prepares spares_part prepares-spare v w o;
      calm = none-of-steps prepares raises_flag unraised (events v w) o;
      unended = prepared-unended (events v w) o;
      inside = only-more prepares stays_inside prepares-inside v w o;
      within = none-of-steps prepares comes_in prepares-in (events v w) o;
      unpopped = prepared-pops v w o;
      tells =
          λ u q t h.
          ⊎_elim
          (λ (a : saw_full (events u v) ≡ true). full-kept v w r o (t a))
          (λ (b : saw_full (events v w) ≡ true). absurd (true≢false (sym b ∙ none-of-steps prepares (reads_phase Full) unlooked (events v w) o)))
          (some-parts (reads_phase Full) (events u v) (events v w) (sym (ap saw_full (ran-events u v w q r)) ∙ h));
    }

pub leads-looked : (v w : View) → KeepsOn None None v w → Leads v w
leads-looked v w k =
    let t = k.looked in
    let r : Ran v w = ran-took v w ReadPhase refl t in
    record {
      ran = r;
      keeps = only-after keeps_section v w ReadPhase t.0 refl t.1.0;
      spares = only-after spares_part v w ReadPhase t.0 refl t.1.0;
      calm = ap (some_event raises_flag) (events-after v w ReadPhase t.0 t.1.0);
      unended = ap (some_event ends_cycle) (events-after v w ReadPhase t.0 t.1.0);
      inside = only-after stays_inside v w ReadPhase t.0 refl t.1.0;
      within = ap (some_event comes_in) (events-after v w ReadPhase t.0 t.1.0);
      unpopped = ap (some_event pops) (events-after v w ReadPhase t.0 t.1.0);
      tells = λ u q o h. absurd (true≢false (sym h ∙ (k.going u q o).going));
    }

pub leads-join : (u v w : View) → Leads u v → Leads v w → Leads u w
leads-join u v w a b =
    record {
      ran = ran-join u v w a.ran b.ran;
      keeps = ran-only keeps_section u v w a.ran b.ran a.keeps b.keeps;
      spares = ran-only spares_part u v w a.ran b.ran a.spares b.spares;
      calm = ap (some_event raises_flag) (ran-events u v w a.ran b.ran) ∙ some-none raises_flag (events u v) (events v w) a.calm b.calm;
      unended = ap (some_event ends_cycle) (ran-events u v w a.ran b.ran) ∙ some-none ends_cycle (events u v) (events v w) a.unended b.unended;
      inside = ran-only stays_inside u v w a.ran b.ran a.inside b.inside;
      within = ap (some_event comes_in) (ran-events u v w a.ran b.ran) ∙ some-none comes_in (events u v) (events v w) a.within b.within;
      unpopped = ap (some_event pops) (ran-events u v w a.ran b.ran) ∙ some-none pops (events u v) (events v w) a.unpopped b.unpopped;
      tells = λ z q t. b.tells z (ran-join z u v q a.ran) (a.tells z q t);
    }

unfilled-by : (v w : View) → Only spares_part v w → fills_with_cause v.shape (events v w) ≡ true
unfilled-by v w o = unfilled v.shape (events v w) (none-of-steps spares_part (moves_to Full) unfull (events v w) o)

-- what a test by the shape says of a later call
pub shaped : (test : Shape → List Entry → Bool) (v w x : View) → Ran v w → test w.shape (events w x) ≡ true → test v.shape (events w x) ≡ true
shaped test v w x r h = subst (λ (sh : Shape). test sh (events w x) ≡ true) (ran-shape v w r) h

pub spares-refill : (r : Refill) (u v w : View) → Ran u v → Ran v w → Only spares_part u v → SparesRefill r v w → SparesRefill r u w
spares-refill (refills.Cache h paid) u v w a b o s = ran-only spares_part u v w a b o s
spares-refill refills.Full u v w a b o s = s

-- a round, with steps before it
pub round-later : (done : ℕ) (u v w : View) (o : Option Refill) → Leads u v → IsRound o done v w → IsRound o done u w
round-later done u v w o l r =
    record {
      ran = ran-join u v w l.ran r.ran;
      only = ran-only keeps_section u v w l.ran r.ran l.keeps r.only;
      fills = ap (fills_with_cause u.shape) (ran-events u v w l.ran r.ran) ∙ fills-join u.shape (events u v) (events v w) (unfilled-by u v l.spares) (shaped fills_with_cause u v w l.ran r.fills);
      again = ap (stops_again_with_cause u.shape) (ran-events u v w l.ran r.ran) ∙ again-stops-join u.shape (events u v) (events v w) (unraised-again u.shape [] (events u v) l.calm) lead (shaped stops_again_with_cause u v w l.ran r.again);
      collects = ap stops_collect (ran-events u v w l.ran r.ran) ∙ collects-join (events u v) (events v w) still r.collects;
      cycles = ap (cycles_with_cause u.shape) (ran-events u v w l.ran r.ran) ∙ cycles-join u.shape (events u v) (events v w) (unended-cycles u.shape (events u v) l.unended) (shaped cycles_with_cause u v w l.ran r.cycles);
      none = none-later o r.none;
      spares = some-later o r.spares;
    }
  where
    lead : may_stop_again u.shape (events u v) ≡ true
    lead = quiet-again u.shape (events u v) l.calm l.unended

    still : resumes_with_end (events u v) ≡ true
    still = unresumed-ends (events u v) (unresumed-out (events u v) l.within)

    none-later : (p : Option Refill) → IfNone p (TriesOn done v w) → IfNone p (TriesOn done u w)
    none-later None t =
        record {
          mutates = t.mutates;
          cache = t.cache;
          position = t.position;
          tells = λ z q k. t.tells z (ran-join z u v q l.ran) (l.tells z q k);
          spares = ran-only spares_part u v w l.ran r.ran l.spares t.spares;
          missed = ap (may_stop_again u.shape) (ran-events u v w l.ran r.ran) ∙ again-join u.shape (events u v) (events v w) lead (shaped may_stop_again u v w l.ran t.missed);
          pops = ap pops_in_stops (ran-events u v w l.ran r.ran) ∙ pops-join (events u v) (events v w) (unpopped (events u v) l.unpopped) t.pops;
          ended = ap resumes_with_end (ran-events u v w l.ran r.ran) ∙ ends-join (events u v) (events v w) still t.ended;
        }
    none-later (Some x) t = tt

    some-later : (p : Option Refill) → IfSome p (λ x. SparesRefill x v w) → IfSome p (λ x. SparesRefill x u w)
    some-later None s = tt
    some-later (Some x) s = spares-refill x u v w l.ran r.ran l.spares s

calm-unended : (step : Step) (n : ℕ) → stays_calm step ≡ true → ends_cycle step n ≡ false
calm-unended (StorePhase to) n e = absurd (false≢true e)
calm-unended step n e = refl

-- a round that ended with an answer, and calmly
pub round-calm : (done : ℕ) (v w : View) (r : Refill) → Ran v w → Only stays_calm v w → some_event comes_in (events v w) ≡ false → SparesRefill r v w → IsRound (Some r) done v w
round-calm done v w r q o i s =
    record {
      ran = q;
      only = only-more stays_calm keeps_section calm-keeps v w o;
      fills = unfilled-by v w (only-more stays_calm spares_part calm-spares v w o);
      again = unraised-again v.shape [] (events v w) (none-of-steps stays_calm raises_flag calm-unraised (events v w) o);
      collects = ended-all (events v w) (unresumed-ends (events v w) (unresumed-out (events v w) i));
      cycles = unended-cycles v.shape (events v w) (none-of-steps stays_calm ends_cycle calm-unended (events v w) o);
      none = tt;
      spares = s;
    }

pub calm-raises : (v w : View) → Only stays_calm v w → some_event raises_flag (events v w) ≡ false
calm-raises v w o = none-of-steps stays_calm raises_flag calm-unraised (events v w) o

-- there is a block
pub some-blocks : (v : View) → ∥ IsPossible v ∥₁ → 0 < block_count v.shape
some-blocks v p = ∥∥₁_elim p (Prim.hlevel props) (λ (q : IsPossible v). subst (λ (sh : Shape). 0 < block_count sh) (sym q.agrees.shape) (positive q))
  where
    positive : (q : IsPossible v) → 0 < block_count q.state.core.shape
    positive q = let s = q.whole.core.formed.shaped.cells.0 in omega (arith, s)

pub searched-stops : (sh : Shape) (v w : View) → 0 < block_count sh → Only seeks_block v w → NoBlock sh (events v w) → may_stop sh (events v w) ≡ true
searched-stops sh v w some o n = failed-stops sh (events v w) (search-failed sh (events v w) some o n)

-- the phase was read as Marking, and marking is done
pub marked-stops : (sh : Shape) (u v w : View) → (t : Took ReadPhase u v) → phase_of t.0 ≡ Marking → Ran v w → SeesEnd sh (events v w) → may_stop sh (events u w) ≡ true
marked-stops sh u v w t p r s =
    ap (may_stop sh) (ran-events u v w (ran-took u v ReadPhase refl t) r ∙ ap (λ es. es ++ events v w) (events-after u v ReadPhase t.0 t.1.0))
    ∙ done-stops sh (event ReadPhase t.0) (events v w) (ap (λ q. saw (Some q) Marking) p) s.cards s.empty

-- a mutator that reads the phase as Marking knows it
pub marking-known : (v w : View) (t : Took ReadPhase v w) → w.state.active ≡ true → phase_of t.0 ≡ Marking → Known w the_phase 1
marking-known v w t a p =
    let is : t.0 ≡ 1 = number t.0 (found-low v t.0 t.1.1) p in
    subst (λ (x : View). Known x the_phase 1) (sym t.1.0)
    (subst (λ k. Known (after ReadPhase t.0 v) the_phase k) is
    (known-here v ReadPhase t.0 the_phase refl (subst (λ k. steady (seat_after v.shape v.state ReadPhase t.0) the_phase k ≡ true) (sym is) (steady-marking (seat_after v.shape v.state ReadPhase t.0) (sym (ap (λ (x : View). x.state.active) t.1.0) ∙ a)))))
  where
    number : (n : ℕ) → n ≤ 5 → phase_of n ≡ Marking → n ≡ 1
    number zero l e = let k : 0 ≡ 1 = ap phase_number e in absurd (omega (arith, k))
    number (suc zero) l e = refl
    number (suc (suc zero)) l e = let k : 2 ≡ 1 = ap phase_number e in absurd (omega (arith, k))
    number (suc (suc (suc zero))) l e = let k : 3 ≡ 1 = ap phase_number e in absurd (omega (arith, k))
    number (suc (suc (suc (suc zero)))) l e = let k : 4 ≡ 1 = ap phase_number e in absurd (omega (arith, k))
    number (suc (suc (suc (suc (suc zero))))) l e = let k : 5 ≡ 1 = ap phase_number e in absurd (omega (arith, k))
    number (suc (suc (suc (suc (suc (suc n)))))) l e = absurd (omega (arith, l))

-- what is read of the phase is noted of the seat
pub looked-seen : (v w : View) (t : Took ReadPhase v w) → Mutates v → w.state.phase_seen ≡ Some Marking → phase_of t.0 ≡ Marking
looked-seen v w t m e = some-same (sym (phase-seen v w t.0 t.1 m) ∙ e)
  where
    some-same : {X : Type 0} {x y : X} → Some x ≡ Some y → x ≡ y
    some-same e = cc

-- an answer of a later call, if there is one
pub later-some : {P Q : Refill → Type 0} (o : Option Refill) → ((r : Refill) → P r → Q r) → IfSome o P → IfSome o Q
later-some None f p = tt
later-some (Some r) f p = f r p

-- what was read last is so after whatever was read before
pub paced-after : (u v w : View) → Ran u v → Ran v w → IsPaced (events v w) w → IsPaced (events u w) w
paced-after u v w r q p = ⊎_elim (λ n. inl (ap was_not_due (ran-events u v w r q) ∙ paced-later (events u v) (events v w) n)) (λ c. inr c) p
