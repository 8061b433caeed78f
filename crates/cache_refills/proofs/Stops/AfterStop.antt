-- A mutator's round in a stop of its own: it stopped the world, claimed a block or found none, resumed the world, and read the phase once more.
use Rattle.std.proofs.Common.{ℕ, ◌≡◌, List, [], ◌∷◌, ◌++◌, refl, sym, ap, ◌∙◌, subst, Bool, true, false, not, ◌&&◌, ◌||◌, Some, None, Option, ⊎_elim, ◌⊎◌}
use Rattle.std.specs.Prelude.{IfNone, IfSome, is_none}
use Rattle.std.specs.Int.Count.{ones}
use Rattle.std.proofs.lemmas.Bool.{and_parts, not-true, or_right, true≢false}
use Rattle.std.proofs.lemmas.List.{append-nil, append_assoc}
use Rattle.mark_core.specs.Places.{the_phase}
use Rattle.mark_core.specs.Seats.{empty_handed, phase_of, saw, work_in_hand}
use Rattle.mark_core.specs.declared.kinds.Phase.TheVariants.{Full}
use Rattle.mark_core.specs.declared.kinds.Shape.{Shape}
use Rattle.mark_core.specs.declared.kinds.Step.TheVariants.{AddStat, ClaimBlock, DropStep, ReadFree, ReadPhase}
use Rattle.gc_table.specs.Log.{event, events, Only}
use Rattle.gc_table.specs.Rule.{KnowsFull}
use Rattle.gc_table.specs.Running.{Ran}
use Rattle.gc_table.specs.Seats.{Took}
use Rattle.gc_table.specs.declared.view.Entry.{Entry}
use Rattle.gc_table.specs.declared.view.View.{View}
use Rattle.gc_table.proofs.History.Log.{events-after, only-more}
use Rattle.gc_table.proofs.Noticing.{found-noted}
use Rattle.gc_table.proofs.Running.{ran-events, ran-join, ran-only, ran-refl, ran-took}
use Rattle.packet_pools.specs.Counts.{count_of}
use Rattle.packet_pools.specs.Fields.{picked}
use Rattle.packet_pools.specs.Seeking.{some_event}
use Rattle.packet_pools.proofs.Searches.{some-parts}
use Rattle.stop_world.specs.Gates.{IsDone}
use Rattle.mark_core.specs.Numbers.{free_count}
use Rattle.alloc_cache.specs.Claiming.{claimed_by}
use Rattle.alloc_cache.specs.declared.cache.Cache.{Cache}
use Rattle.cache_refills.specs.Getting.{GetsCache}
use Rattle.gc_cycle.specs.Answering.{answers, KeepsOn, TellsFull}
use Rattle.gc_cycle.specs.declared.counts.Paid.{Paid}
use Rattle.gc_cycle.specs.declared.counts.Refill.TheVariants as refills
use Rattle.gc_cycle.specs.Cycles.{fills_with_cause, may_fill}
use Rattle.gc_cycle.specs.Events.{each_after, never, since_last, since_or_all}
use Rattle.gc_cycle.specs.Mutating.{keeps_section, pops_in_stops, tries_stopping, TriesToStop}
use Rattle.cache_refills.specs.Pace.Paying.{in_stop, IsFree, since_claim}
use Rattle.gc_cycle.specs.Polling.{saw_full}
use Rattle.cache_refills.specs.Refilling.{ClaimsAlone, EndsClaimed, HasMissed, IsRound, MayResume}
use Rattle.gc_cycle.specs.Sorts.{claims, ends_cycle, lowers_free, moves_to, pops, raises_flag, raises_traced, reads_phase, resumes}
use Rattle.gc_cycle.specs.Sparing.{spares_part}
use Rattle.gc_cycle.specs.Standing.{Mutates}
use Rattle.cache_refills.specs.Stops.{cycles_with_cause, may_end, may_stop_again, misses_block, resumes_with_end, stops_again_with_cause}
use Rattle.cache_refills.proofs.Stops.StopsAgain.{missed-later, missed-more, none-counted, quiet-again, raised-first, tried-unended, unraised-again}
use Rattle.gc_cycle.proofs.Refills.Answered.{answers-out}
use Rattle.cache_refills.proofs.Causes.{after-join, after-none, fills-since, unfilled}
use Rattle.cache_refills.proofs.Stops.StopEnds.{stop-cycles, stop-ends, stop-full, stop-pops}
use Rattle.cache_refills.proofs.Stops.Visits.{ended-all, unended-cycles, unresumed-ends}
use Rattle.gc_cycle.proofs.Refills.Collected.{answers-tried, one-raised, only-drop, section-spares, tries-section}
use Rattle.gc_cycle.proofs.Refills.KnownFull.{full-known, tells-more, tells-none}
use Rattle.gc_cycle.proofs.SectionKept.{tries-keep, tries-never-fill}
use Rattle.gc_cycle.proofs.Stops.OutAndIn.{none-of}
use Rattle.gc_cycle.proofs.Sequences.{since-this, some-none}

-- what trying to stop the world leaves

tries-spare : (v w : View) → Only tries_stopping v w → Only spares_part v w
tries-spare v w o = only-more tries_stopping spares_part (λ step e. section-spares step (tries-section step e)) v w o

tries-unfull : (v w : View) → Only tries_stopping v w → some_event (moves_to Full) (events v w) ≡ false
tries-unfull v w o = not-true _ (tries-never-fill (events v w) o)

-- another seat's stop came first
pub round-theirs : (done : ℕ) (v w : View) → TriesToStop v w → w.own.position ≡ done → count_of raises_flag (events v w) ≡ 0 → never resumes (events v w) ≡ true → pops_in_stops (events v w) ≡ true → Mutates w → IsRound None done v w
round-theirs done v w t at count still away m =
    let calm : some_event raises_flag (events v w) ≡ false = none-counted raises_flag (events v w) count in
    record {
      ran = t.ran;
      only = only-more tries_stopping keeps_section tries-keep v w t.only;
      fills = unfilled v.shape (events v w) (tries-unfull v w t.only);
      again = unraised-again v.shape [] (events v w) calm;
      collects = ended-all (events v w) (unresumed-ends (events v w) (not-true _ still));
      cycles = unended-cycles v.shape (events v w) (tried-unended (events v w) t.only);
      none =
          record {
            mutates = m;
            cache = t.cache;
            position = at;
            tells = λ u r k. tells-more u v w r t.ran t.only k;
            spares = tries-spare v w t.only;
            missed = quiet-again v.shape (events v w) calm (tried-unended (events v w) t.only);
            ended = unresumed-ends (events v w) (not-true _ still);
            pops = away;
          };
      spares = tt;
    }

-- what is done in a stop ends cycles only with cause, if the flag was raised before
abbrev pub CyclesIn : Shape → View → View → Type 0
CyclesIn sh v w = (before : List Entry) → some_event raises_flag (since_or_all ends_cycle before) ≡ true → each_after (may_end sh) ends_cycle before (events v w) ≡ true

-- resuming the world

pub done-resuming : (v : View) → MayResume v → IsDone v
done-resuming v m =
    let p5 = and_parts _ _ m.rest in
    let p4 = and_parts _ _ p5.0 in
    let p3 = and_parts _ (is_none v.state.block) p4.0 in
    let p2 = and_parts (empty_handed v.state && not (work_in_hand v.shape.fields v.state)) _ p3.0 in
    let p1 = and_parts (empty_handed v.state) (not (work_in_hand v.shape.fields v.state)) p2.0 in
    record { handed = p1.0; idle = not-true _ p1.1; block = none-of v.state.block p3.1 }

-- the whole round, from the stop on
module _ (o : Option Cache) (u v w x y : View) (t : TriesToStop u v) (once : count_of raises_flag (events u v) ≡ 1) (c : ClaimsAlone o v w) (d : Took DropStep w x) (q : Ran x y) (a : Only answers x y) where
  dropped : Ran w x
  dropped = ran-took w x DropStep refl d

  tail : Ran w y
  tail = ran-join w x y dropped q

  tail-only : Only tries_stopping w y
  tail-only = ran-only tries_stopping w x y dropped q (only-drop w x d) (answers-tried x y a)

  later : Ran v y
  later = ran-join v w y c.ran tail

  pub round-ran : Ran u y
  round-ran = ran-join u v y t.ran later

  round-keeps : Only keeps_section u y
  round-keeps =
      ran-only keeps_section u v y t.ran later (only-more tries_stopping keeps_section tries-keep u v t.only)
      (ran-only keeps_section v w y c.ran tail c.only (only-more tries_stopping keeps_section tries-keep w y tail-only))

  round-spares : Only spares_part v w → Only spares_part u y
  round-spares s = ran-only spares_part u v y t.ran later (tries-spare u v t.only) (ran-only spares_part v w y c.ran tail s (tries-spare w y tail-only))

  -- it had cause to say that the heap is full
  round-fills : (sh : Shape) → some_event raises_flag (events u v) ≡ true → each_after (may_fill sh) (moves_to Full) [] (events v w) ≡ true → fills_with_cause sh (events u y) ≡ true
  round-fills sh raised fills =
      ap (fills_with_cause sh) (ran-events u v y t.ran later ∙ ap (λ es. events u v ++ es) (ran-events v w y c.ran tail))
      ∙ after-join test (moves_to Full) [] (events u v) (events v w ++ events w y) (unfilled sh (events u v) (tries-unfull u v t.only))
      (after-join test (moves_to Full) (events u v) (events v w) (events w y)
      (subst (λ es. each_after test (moves_to Full) es (events v w) ≡ true) (append-nil (events u v)) (fills-since sh (events u v) [] (events v w) raised refl (not-true _ c.calm) fills))
      (after-none test (moves_to Full) (events u v ++ events v w) (events w y) (tries-unfull w y tail-only)))
    where
      test : List Entry → Bool
      test es = may_fill sh (since_last raises_flag es)

  -- the flag was raised once, before the stop
  round-again : (sh : Shape) → stops_again_with_cause sh (events u y) ≡ true
  round-again sh =
      ap (stops_again_with_cause sh) (ran-events u v y t.ran later)
      ∙ after-join (may_stop_again sh) raises_flag [] (events u v) (events v y) (raised-first sh (events u v) [] t.only (one-raised (count_of raises_flag (events u v)) once) refl refl)
      (unraised-again sh (events u v) (events v y) (ap (some_event raises_flag) (ran-events v w y c.ran tail) ∙ some-none raises_flag (events v w) (events w y) (not-true _ c.calm) unraised))
    where
      unraised : some_event raises_flag (events w y) ≡ false
      unraised =
          ap (some_event raises_flag) (ran-events w x y dropped q)
          ∙ some-none raises_flag (events w x) (events x y) (ap (some_event raises_flag) (events-after w x DropStep d.0 d.1.0)) (not-true _ (answers-out x y q a).calm)

  -- which cycles ended in it
  round-cycles : (sh : Shape) → u.shape ≡ sh → some_event raises_flag (events u v) ≡ true → CyclesIn sh v w → cycles_with_cause u.shape (events u y) ≡ true
  round-cycles sh e raised cycles =
      subst (λ (z : Shape). cycles_with_cause z (events u y) ≡ true) (sym e) (stop-cycles sh u v w y t.ran c.ran tail t.only tail-only raised cycles)

  -- one did if the heap isn't full
  round-ends : some_event raises_flag (events u v) ≡ true → never resumes (events u v) ≡ true → (some_event ends_cycle (events v w) ≡ true) ⊎ KnowsFull w → (KnowsFull w → ⊥) → resumes_with_end (events u y) ≡ true
  round-ends raised still ends n =
      ⊎_elim
      (λ (s : some_event ends_cycle (events v w) ≡ true). stop-ends u v w x y t.ran c.ran d q a raised still c.calm c.stopped s)
      (λ (f : KnowsFull w). absurd (n f))
      ends

  -- a block with a free cell was missed in it
  round-missed : (sh : Shape) → misses_block sh (since_last ends_cycle (events v w)) ≡ true → may_stop_again sh (events u y) ≡ true
  round-missed sh s =
      or_right (never raises_flag (events u y) && never ends_cycle (events u y)) _
      (ap (λ es. misses_block sh (since_last ends_cycle es)) (ran-events u v y t.ran later ∙ ap (λ es. events u v ++ es) (ran-events v w y c.ran tail))
      ∙ missed-later sh (events u v) (events v w ++ events w y) (missed-more sh (events v w) (events w y) s (tried-unended (events w y) tail-only)))

  -- what was known of a full heap is so still
  claim-tells : (z : View) → (KnowsFull v → KnowsFull w) → Ran z u → TellsFull z u → TellsFull z w
  claim-tells z full r k h =
      let before = ran-join z u v r t.ran in
      ⊎_elim
      (λ (b : saw_full (events z v) ≡ true). full (tells-more z u v r t.ran t.only k b))
      (λ (b : saw_full (events v w) ≡ true). absurd (true≢false (sym b ∙ c.going)))
      (some-parts (reads_phase Full) (events z v) (events v w) (sym (ap saw_full (ran-events z v w before c.ran)) ∙ h))

  to-claim : (z : View) → Ran z u → Ran z w
  to-claim z r = ran-join z v w (ran-join z u v r t.ran) c.ran

  pub to-drop : (z : View) → Ran z u → Ran z x
  to-drop z r = ran-join z w x (to-claim z r) dropped

  drop-tells : (z : View) → (KnowsFull v → KnowsFull w) → Ran z u → TellsFull z u → TellsFull z x
  drop-tells z full r k = tells-more z w x (to-claim z r) dropped (only-drop w x d) (claim-tells z full r k)

  -- if the mutator goes on, the heap wasn't said to be full
  unfull : (kept : Option Cache) → KeepsOn o kept x y → KnowsFull w → ⊥
  unfull kept k f =
      let n = k.looked.0 in
      let is : n ≡ 5 = found-noted x ReadPhase n 5 the_phase k.looked.1.1 refl (full-known w x dropped (only-drop w x d) f) in
      let g = k.going x (ran-refl x) (tells-none x) in
      true≢false (sym (ap saw_full (events-after x y ReadPhase n k.looked.1.0) ∙ ap (λ m. saw (Some (phase_of m)) Full || false) is) ∙ g.going)

  -- the position that was stored stays
  position-end : (kept : Option Cache) → KeepsOn o kept x y → y.own.position ≡ v.own.position
  position-end kept k = ap (λ (z : View). z.own.position) k.looked.1.0 ∙ (ap (λ (z : View). z.own.position) d.1.0 ∙ c.position)

  -- the heap is full
  pub round-full : (done : ℕ) (sh : Shape) → u.shape ≡ sh → some_event raises_flag (events u v) ≡ true → each_after (may_fill sh) (moves_to Full) [] (events v w) ≡ true → never resumes (events u v) ≡ true → CyclesIn sh v w → saw_full (events x y) ≡ true → KnowsFull y → IsRound (Some refills.Full) done u y
  round-full done sh e raised fills still cycles read f =
      record {
        ran = round-ran;
        only = round-keeps;
        fills = subst (λ (z : Shape). fills_with_cause z (events u y) ≡ true) (sym e) (round-fills sh raised fills);
        again = round-again u.shape;
        collects = stop-full u v w x y t.ran c.ran d q a still c.stopped read;
        cycles = round-cycles sh e raised cycles;
        none = tt;
        spares = f;
      }

  -- there is no block, and the heap isn't full
  pub round-none : (done : ℕ) (sh : Shape) → v.own.position ≡ done → u.shape ≡ sh → some_event raises_flag (events u v) ≡ true → each_after (may_fill sh) (moves_to Full) [] (events v w) ≡ true → never resumes (events u v) ≡ true → CyclesIn sh v w → (some_event ends_cycle (events v w) ≡ true) ⊎ KnowsFull w → pops_in_stops (events u v) ≡ true → (KnowsFull v → KnowsFull w) → HasMissed sh o (events v w) w → KeepsOn o None x y → Mutates y → IsRound None done u y
  round-none done sh at e raised fills still cycles ends away full none k m =
      record {
        ran = round-ran;
        only = round-keeps;
        fills = subst (λ (z : Shape). fills_with_cause z (events u y) ≡ true) (sym e) (round-fills sh raised fills);
        again = round-again u.shape;
        collects = ended-all (events u y) (round-ends raised still ends (unfull None k));
        cycles = round-cycles sh e raised cycles;
        none =
            record {
              mutates = m;
              cache = k.cached;
              position = position-end None k ∙ at;
              tells = λ z r h. tells-more z w y (to-claim z r) tail tail-only (claim-tells z full r h);
              spares = round-spares spared;
              missed = subst (λ (z : Shape). may_stop_again z (events u y) ≡ true) (sym e) (round-missed sh missed);
              ended = round-ends raised still ends (unfull None k);
              pops = stop-pops u v w x y t.ran c.ran d q a away raised still c.stopped;
            };
        spares = tt;
      }
    where
      missed : misses_block sh (since_last ends_cycle (events v w)) ≡ true
      missed =
          ⊎_elim (λ (s : misses_block sh (since_last ends_cycle (events v w)) ≡ true). s) (λ (f : KnowsFull w). absurd (unfull None k f))
          (subst (λ p. HasMissed sh p (events v w) w) (sym k.same) none)

      spared : Only spares_part v w
      spared = ⊎_elim (λ (s : Only spares_part v w). s) (λ (f : KnowsFull w). absurd (unfull None k f)) (subst (λ p. IfNone p (Only spares_part v w ⊎ KnowsFull w)) (sym k.same) c.none)

  -- a block was claimed
  claimed : (h : Cache) → KeepsOn o (Some h) x y → Only spares_part v w × ((first : List Entry) × EndsClaimed h first v w)
  claimed h k = subst (λ p. IfSome p (λ z. Only spares_part v w × ((first : List Entry) × EndsClaimed z first v w))) (sym k.same) c.some

  pub round-cache : (done : ℕ) (sh : Shape) → u.shape ≡ sh → some_event raises_flag (events u v) ≡ true → each_after (may_fill sh) (moves_to Full) [] (events v w) ≡ true → never resumes (events u v) ≡ true → CyclesIn sh v w → (some_event ends_cycle (events v w) ≡ true) ⊎ KnowsFull w → (h : Cache) (paid : Paid) → KeepsOn o (Some h) x y → IsRound (Some (refills.Cache h paid)) done u y
  round-cache done sh e raised fills still cycles ends h paid k =
      record {
        ran = round-ran;
        only = round-keeps;
        fills = subst (λ (z : Shape). fills_with_cause z (events u y) ≡ true) (sym e) (round-fills sh raised fills);
        again = round-again u.shape;
        collects = ended-all (events u y) (round-ends raised still ends (unfull (Some h) k));
        cycles = round-cycles sh e raised cycles;
        none = tt;
        spares = round-spares (claimed h k).0;
      }

  -- its free cells were taken off the number of free cells in the stop, and nothing was owed
  pub round-gets : (done : ℕ) (z : View) → v.own.position ≡ done → (KnowsFull v → KnowsFull w) → Ran z u → TellsFull z u → (h : Cache) (paid : Paid) → IsFree paid → KeepsOn o (Some h) x y → GetsCache h paid done z y
  round-gets done z at full r b h paid free k =
      let first : List Entry = (claimed h k).1.0 in
      let e : EndsClaimed h first v w = (claimed h k).1.1 in
      let m = d.0 in
      let n = k.looked.0 in
      let claim : Entry = record { step = ClaimBlock h.block; found = 0; won = true } in
      let tails : List Entry = event DropStep m ∷ event ReadPhase n ∷ [] in
      let rest : List Entry = record { step = ReadFree; found = e.word; won = true } ∷ record { step = AddStat free_count (ones h.cells) true; found = e.count; won = true } ∷ tails in
      let last : events w y ≡ tails =
      ran-events w x y dropped q ∙ (ap (λ es. es ++ events x y) (events-after w x DropStep m d.1.0) ∙ ap (λ es. event DropStep m ∷ es) (events-after x y ReadPhase n k.looked.1.0)) in
      let own : events v y ≡ first ++ (claim ∷ rest) =
      ran-events v w y c.ran tail
      ∙ (ap (λ es. es ++ events w y) e.all ∙ (ap (λ es. (first ++ claimed_by h e.word e.count) ++ es) last ∙ append_assoc first (claimed_by h e.word e.count) tails)) in
      let all : events z y ≡ (events z v ++ first) ++ (claim ∷ rest) =
      ran-events z v y (ran-join z u v r t.ran) later ∙ (ap (λ es. events z v ++ es) own ∙ sym (append_assoc (events z v) first (claim ∷ rest))) in
      let since : since_claim (events z y) ≡ rest = ap since_claim all ∙ since-this claims (events z v ++ first) claim rest refl refl in
      record {
        goes_on = k.going z (to-drop z r) (drop-tells z full r b);
        cached = k.cached;
        position = λ left. position-end (Some h) k ∙ at;
        free = e.free;
        told = ap (picked lowers_free) since;
        beyond = λ outside marking. absurd (true≢false (sym (ap (some_event resumes) since) ∙ outside));
        pays = in_stop (record { inside = ap (some_event resumes) since; unpopped = ap (never pops) since; untold = ap (picked raises_traced) since; free = free });
      }
