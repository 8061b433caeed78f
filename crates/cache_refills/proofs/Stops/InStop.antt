-- A mutator that stopped the world and looks for a block in it.
use Rattle.std.proofs.Common.{ℕ, ◌≡◌, List, [], ◌++◌, refl, sym, ap, ◌∙◌, subst, true, false, not, ◌&&◌, Option, Some, None, is_some, inl, inr, ◌⊎◌}
use Rattle.std.specs.Prelude.{IfNone, IfSome}
use Rattle.std.proofs.lemmas.Bool.{and_from, false≢true, not-true, or_right}
use Rattle.std.proofs.lemmas.List.{append-nil, append_assoc}
use Rattle.mark_core.specs.Seats.{is_the, phase_number}
use Rattle.mark_core.specs.Effects.{seat_after}
use Rattle.mark_core.specs.Rules.WorldRules.{is_resting}
use Rattle.mark_core.specs.Steps.WorldSteps.{has_nothing}
use Rattle.mark_core.specs.declared.kinds.Phase.{Phase}
use Rattle.mark_core.specs.declared.kinds.Phase.TheVariants.{Full, Idle}
use Rattle.mark_core.specs.declared.kinds.Shape.{Shape}
use Rattle.mark_core.specs.declared.kinds.Step.{Step}
use Rattle.mark_core.specs.declared.kinds.Step.TheVariants.{AddStat, ClaimBlock, DropStep, JoinHelpStep, LeaveHelpStep, ReadFree, ReleaseBlock}
use Rattle.mark_core.specs.declared.seat.SeatState.{SeatState}
use Rattle.gc_table.specs.Log.{events, Only}
use Rattle.gc_table.specs.Rule.{KnowsFull}
use Rattle.gc_table.specs.Running.{ends_alone, Ran}
use Rattle.gc_table.specs.declared.view.Entry.{Entry}
use Rattle.gc_table.specs.declared.view.View.{View}
use Rattle.gc_table.proofs.History.Log.{events-none, only-more, only-none}
use Rattle.gc_table.proofs.Noticing.{alone-kept}
use Rattle.gc_table.proofs.Running.{ran-events, ran-identity, ran-join, ran-only, ran-refl, ran-shape, state-kept}
use Rattle.packet_pools.specs.Seeking.{some_event}
use Rattle.alloc_cache.specs.Claiming.{claimed_by, Claims, MayClaim, NoBlock, notes_idle, seeks_block}
use Rattle.alloc_cache.specs.declared.cache.Cache.{Cache}
use Rattle.gc_cycle.specs.Answering.{HasCache}
use Rattle.gc_cycle.specs.Collecting.{HoldsWorld}
use Rattle.gc_cycle.specs.Cycles.{may_fill}
use Rattle.gc_cycle.specs.Events.{each_after, never}
use Rattle.gc_cycle.specs.Finishing.{finishes, IsAloneIn, IsPart}
use Rattle.gc_cycle.specs.Mutating.{keeps_section}
use Rattle.gc_cycle.specs.Polling.{saw_full}
use Rattle.cache_refills.specs.Refilling.{ClaimsAlone, EndsClaimed, MayResume, prepares, RestsAlone}
use Rattle.gc_cycle.specs.Sorts.{moves_to, raises_flag, reads_phase, resumes, tells_full}
use Rattle.gc_cycle.specs.Sparing.{spares_part}
use Rattle.gc_cycle.specs.Standing.{is_at_rest}
use Rattle.cache_refills.proofs.Causes.{after-earlier, after-join, after-none, fill-later}
use Rattle.gc_cycle.proofs.Refills.Collected.{full-alone}
use Rattle.gc_cycle.proofs.Ends.Completing.{part-untold}
use Rattle.gc_cycle.proofs.Stops.OutAndIn.{no-cache}
use Rattle.gc_cycle.proofs.Parts.{part-finishes}
use Rattle.cache_refills.proofs.Positions.{position-kept}
use Rattle.cache_refills.proofs.Refills.Claimed.{claim-only, claims-cached, claims-prepare, claims_block, seeks-claim, some-ones, with-cache}
use Rattle.cache_refills.proofs.Refills.Rounds.{leads-prepared, unfull}
use Rattle.gc_cycle.proofs.Sequences.{none-of-steps, some-none}
use Rattle.gc_cycle.proofs.Ends.Spared.{finish-calm, finish-position, finish-spares, untold-fills, untold-sees, keeps as finishes-keep}
use Rattle.gc_cycle.proofs.Traced.{nothing-rest}

seeks-quiet : (step : Step) → seeks_block step ≡ true → ends_alone step ≡ false
seeks-quiet (ClaimBlock b) e = refl
seeks-quiet ReadFree e = refl
seeks-quiet ReleaseBlock e = refl
seeks-quiet step e = absurd (false≢true e)

-- a search in vain leaves the seat alone
pub alone-same : (v w : View) → w.state ≡ v.state → Ran v w → Only seeks_block v w → IsAloneIn Idle v → IsAloneIn Idle w
alone-same v w e r o a =
    record {
      rest =
          record {
            knows = ap (λ (s : SeatState). s.knows) e ∙ a.rest.knows;
            alone = ap (λ (s : SeatState). s.alone) e ∙ a.rest.alone;
            rest = ap (λ (sh : Shape). has_nothing sh w.state) (ran-shape v w r) ∙ (ap (λ (s : SeatState). has_nothing v.shape s) e ∙ a.rest.rest);
          };
      alone = alone-kept Idle seeks_block seeks-quiet v w r o a.alone;
    }

helping-kept : (sh : Shape) (s : SeatState) (step : Step) (old : ℕ) → finishes step ≡ true → (seat_after sh s step old).helping ≡ s.helping
helping-kept sh s JoinHelpStep old e = absurd (false≢true e)
helping-kept sh s LeaveHelpStep old e = absurd (false≢true e)
helping-kept sh s step old e = refl

-- a collection leaves it a mutator's seat
pub rests-later : (v w : View) → Ran v w → Only finishes v w → (u : View) → v.state.section ≡ u.state.section → v.state.helping ≡ u.state.helping → RestsAlone u → RestsAlone w
rests-later v w r o u s h a =
    record {
      section = ap (λ p. is_some p.1) (ran-identity v w r) ∙ (ap (λ p. is_some p) s ∙ a.section);
      unhelping = state-kept (λ (x : SeatState). x.helping) finishes helping-kept v w r o ∙ (h ∙ a.unhelping);
    }

-- steps in a stop by which the heap wasn't said to be full, nor read to be
pub record Quiet (v w : View) : Type 0 where
  pub ran : Ran v w
  pub keeps : Only keeps_section v w
  pub spares : Only spares_part v w
  pub calm : some_event raises_flag (events v w) ≡ false
  pub stopped : some_event resumes (events v w) ≡ false
  pub going : saw_full (events v w) ≡ false
  pub position : w.own.position ≡ v.own.position

pub quiet-join : (u v w : View) → Quiet u v → Quiet v w → Quiet u w
quiet-join u v w a b =
    let es = ran-events u v w a.ran b.ran in
    record {
      ran = ran-join u v w a.ran b.ran;
      keeps = ran-only keeps_section u v w a.ran b.ran a.keeps b.keeps;
      spares = ran-only spares_part u v w a.ran b.ran a.spares b.spares;
      calm = ap (some_event raises_flag) es ∙ some-none raises_flag (events u v) (events v w) a.calm b.calm;
      stopped = ap (some_event resumes) es ∙ some-none resumes (events u v) (events v w) a.stopped b.stopped;
      going = ap saw_full es ∙ some-none (reads_phase Full) (events u v) (events v w) a.going b.going;
      position = b.position ∙ a.position;
    }

finish-stopped : (step : Step) (n : ℕ) → finishes step ≡ true → resumes step n ≡ false
finish-stopped DropStep n e = absurd (false≢true e)
finish-stopped step n e = refl

claim-stopped : (step : Step) (n : ℕ) → claims_block step ≡ true → resumes step n ≡ false
claim-stopped DropStep n e = absurd (false≢true e)
claim-stopped step n e = refl

-- a collection
pub quiet-finish : (v w : View) → Ran v w → Only finishes v w → Only spares_part v w → saw_full (events v w) ≡ false → Quiet v w
quiet-finish v w r o s g = record { ran = r; keeps = only-more finishes keeps_section finishes-keep v w o; spares = s; calm = not-true _ (finish-calm v w o); stopped = none-of-steps finishes resumes finish-stopped (events v w) o; going = g; position = finish-position v w r o }

-- a part of it
pub quiet-part : (p : Phase) (v w : View) → IsPart p v w → Quiet v w
quiet-part p v w h =
    let o = part-finishes p v w h in
    let n : never tells_full (events v w) ≡ true = ap not (part-untold p v w h) in
    quiet-finish v w h.ran o (finish-spares v w o (untold-fills (events v w) n)) (untold-sees (events v w) n)

claims-quiet : (step : Step) → claims_block step ≡ true → ends_alone step ≡ false
claims-quiet (ClaimBlock b) e = refl
claims-quiet ReadFree e = refl
claims-quiet ReleaseBlock e = refl
claims-quiet (AddStat which by down) e = refl
claims-quiet step e = absurd (false≢true e)

unlooked : (step : Step) (n : ℕ) → claims_block step ≡ true → reads_phase Full step n ≡ false
unlooked (ClaimBlock b) n e = refl
unlooked ReadFree n e = refl
unlooked ReleaseBlock n e = refl
unlooked (AddStat which by down) n e = refl
unlooked step n e = absurd (false≢true e)

quiet-steps : (v w : View) → Ran v w → Only claims_block v w → Quiet v w
quiet-steps v w r o =
    let l = leads-prepared v w r (only-more claims_block prepares claims-prepare v w o) in
    record { ran = r; keeps = l.keeps; spares = l.spares; calm = l.calm; stopped = none-of-steps claims_block resumes claim-stopped (events v w) o; going = none-of-steps claims_block (reads_phase Full) unlooked (events v w) o; position = position-kept v w r l.inside }

-- what a search for a block that found none leaves
abbrev pub ClaimsNone : Shape → View → View → Type 0
ClaimsNone sh v w = (w.state ≡ v.state) × (w.own ≡ v.own) × NoBlock sh (events v w) × Only seeks_block v w

pub quiet-claim : (o : Option Cache) (sh : Shape) (v w : View) → Ran v w → IfSome o (λ h. Claims h v w) → IfNone o (ClaimsNone sh v w) → Quiet v w
quiet-claim None sh v w r s n = quiet-steps v w r (only-more seeks_block claims_block seeks-claim v w n.3)
quiet-claim (Some h) sh v w r s n = quiet-steps v w r (claim-only h v w s)

-- the seat may claim a block

pub may-claim : (v : View) → IsAloneIn Idle v → RestsAlone v → MayClaim v
may-claim v a b =
    record {
      section = b.section;
      none = no-cache v.shape v.state a.rest.rest;
      may = or_right v.state.active (v.state.knows && notes_idle v) (and_from _ _ a.rest.knows (ap (λ o. is_the o 0) a.alone.phase));
    }

-- and resume the world

pub resume-in : (p : Phase) (v : View) → is_resting (phase_number p) ≡ true → IsAloneIn p v → RestsAlone v → MayResume v
resume-in p v e a b =
    record { phase = p; resting = e; alone = a.alone; section = b.section; unhelping = b.unhelping; rest = nothing-rest v.shape v.state a.rest.rest }

resume-claimed : (h : Cache) (v w : View) → IsAloneIn Idle v → RestsAlone v → Ran v w → Claims h v w → MayResume w
resume-claimed h v w a b r k =
    let e = k.state in
    record {
      phase = Idle;
      resting = refl;
      alone = alone-kept Idle claims_block claims-quiet v w r (claim-only h v w k) a.alone;
      section = ap (λ (s : SeatState). is_some s.section) e ∙ b.section;
      unhelping = ap (λ (s : SeatState). s.helping) e ∙ b.unhelping;
      rest =
          ap (λ (sh : Shape). is_at_rest sh w.state) (ran-shape v w r)
          ∙ (ap (λ (s : SeatState). is_at_rest v.shape s) e ∙ with-cache v.shape v.state h (nothing-rest v.shape v.state a.rest.rest));
    }

rests-same : (v w : View) → w.state ≡ v.state → RestsAlone v → RestsAlone w
rests-same v w e b = record { section = ap (λ (s : SeatState). is_some s.section) e ∙ b.section; unhelping = ap (λ (s : SeatState). s.helping) e ∙ b.unhelping }

-- what a claim in the stop leaves

claims-by : (o : Option Cache) (v w : View) → Quiet v w → MayResume w → HasCache o w → IfSome o (λ h. (first : List Entry) × EndsClaimed h first v w) → ClaimsAlone o v w
claims-by o v w q m c e =
    record { ran = q.ran; only = q.keeps; calm = ap not q.calm; stopped = ap not q.stopped; going = q.going; resume = m; cached = c; position = q.position; some = some o e; none = none o }
  where
    some : (p : Option Cache) → IfSome p (λ h. (first : List Entry) × EndsClaimed h first v w) → IfSome p (λ h. Only spares_part v w × ((first : List Entry) × EndsClaimed h first v w))
    some None k = tt
    some (Some h) k = (q.spares, k)

    none : (p : Option Cache) → IfNone p (Only spares_part v w ⊎ KnowsFull w)
    none None = inl q.spares
    none (Some h) = tt

pub claims-alone : (o : Option Cache) (sh : Shape) (v w : View) → IsAloneIn Idle v → RestsAlone v → Ran v w → IfSome o (λ h. Claims h v w) → IfNone o (ClaimsNone sh v w) → ClaimsAlone o v w
claims-alone None sh v w a b r s n =
    let still = alone-same v w n.0 r n.3 a in
    claims-by None v w (quiet-claim None sh v w r s n) (resume-in Idle w refl still (rests-same v w n.0 b)) (no-cache w.shape w.state still.rest.rest) tt
claims-alone (Some h) sh v w a b r s n =
    let e = s.events_are in
    claims-by (Some h) v w (quiet-claim (Some h) sh v w r s n) (resume-claimed h v w a b r s) (claims-cached h v w s) (e.0, record { word = e.1; count = e.2; all = e.3; free = some-ones h.cells s.some })

ends-later : (h : Cache) (u v w : View) → Ran u v → Ran v w → (first : List Entry) → EndsClaimed h first v w → EndsClaimed h (events u v ++ first) u w
ends-later h u v w r q first e =
    record {
      word = e.word;
      count = e.count;
      all = ran-events u v w r q ∙ (ap (λ es. events u v ++ es) e.all ∙ sym (append_assoc (events u v) first (claimed_by h e.word e.count)));
      free = e.free;
    }

-- with steps before it
pub claims-later : (o : Option Cache) (u v w : View) → Quiet u v → ClaimsAlone o v w → ClaimsAlone o u w
claims-later o u v w q c =
    let es = ran-events u v w q.ran c.ran in
    record {
      ran = ran-join u v w q.ran c.ran;
      only = ran-only keeps_section u v w q.ran c.ran q.keeps c.only;
      calm = ap (never raises_flag) es ∙ ap not (some-none raises_flag (events u v) (events v w) q.calm (not-true _ c.calm));
      stopped = ap (never resumes) es ∙ ap not (some-none resumes (events u v) (events v w) q.stopped (not-true _ c.stopped));
      going = ap saw_full es ∙ some-none (reads_phase Full) (events u v) (events v w) q.going c.going;
      resume = c.resume;
      cached = c.cached;
      position = c.position ∙ q.position;
      some = some o c.some;
      none = none o c.none;
    }
  where
    more : Only spares_part v w → Only spares_part u w
    more s = ran-only spares_part u v w q.ran c.ran q.spares s

    some : (p : Option Cache) → IfSome p (λ h. Only spares_part v w × ((first : List Entry) × EndsClaimed h first v w)) → IfSome p (λ h. Only spares_part u w × ((first : List Entry) × EndsClaimed h first u w))
    some None k = tt
    some (Some h) k = (more k.0, (events u v ++ k.1.0, ends-later h u v w q.ran c.ran k.1.0 k.1.1))

    none : (p : Option Cache) → IfNone p (Only spares_part v w ⊎ KnowsFull w) → IfNone p (Only spares_part u w ⊎ KnowsFull w)
    none None (inl s) = inl (more s)
    none None (inr k) = inr k
    none (Some h) k = tt

-- the heap was full already

pub rests-held : (v : View) → HoldsWorld v → RestsAlone v
rests-held v h = record { section = h.section; unhelping = h.unhelping }

pub claims-none : (v : View) → HoldsWorld v → v.state.phase_seen ≡ Some Full → ClaimsAlone None v v
claims-none v h f =
    let a = full-alone v h f in
    record {
      ran = ran-refl v;
      only = only-none keeps_section v;
      calm = ap (never raises_flag) (events-none v);
      stopped = ap (never resumes) (events-none v);
      going = ap saw_full (events-none v);
      resume = resume-in Full v refl (record { rest = h.rest; alone = a }) (rests-held v h);
      cached = no-cache v.shape v.state h.rest.rest;
      position = refl;
      some = tt;
      none = inr a.phase;
    }

-- causes to say that the heap is full

-- it wasn't said
pub unfills : (sh : Shape) (before : List Entry) (v w : View) → Only spares_part v w → each_after (may_fill sh) (moves_to Full) before (events v w) ≡ true
unfills sh before v w o = after-none (may_fill sh) (moves_to Full) before (events v w) (none-of-steps spares_part (moves_to Full) unfull (events v w) o)

-- a call with cause by what came before
pub fills-caused : (sh : Shape) (u v w : View) → Quiet u v → Ran v w → each_after (may_fill sh) (moves_to Full) (events u v) (events v w) ≡ true → each_after (may_fill sh) (moves_to Full) [] (events u w) ≡ true
fills-caused sh u v w q r h =
    ap (each_after (may_fill sh) (moves_to Full) []) (ran-events u v w q.ran r) ∙ after-join (may_fill sh) (moves_to Full) [] (events u v) (events v w) (unfills sh [] u v q.spares) h

-- a call with a cause of its own
pub fills-own : (sh : Shape) (u v w : View) → Quiet u v → Ran v w → each_after (may_fill sh) (moves_to Full) [] (events v w) ≡ true → each_after (may_fill sh) (moves_to Full) [] (events u w) ≡ true
fills-own sh u v w q r h =
    fills-caused sh u v w q r
    (subst (λ es. each_after (may_fill sh) (moves_to Full) es (events v w) ≡ true) (append-nil (events u v))
    (after-earlier (may_fill sh) (may_fill sh) (moves_to Full) (events u v) (λ es k. fill-later sh (events u v) es k) [] (events v w) h))
