-- A mutator's answer: it goes on, or the heap is full.
use Rattle.std.proofs.Common.{ℕ, ◌≡◌, ◌≤◌, ◌+◌, arith, length, List, [], ◌∷◌, ◌++◌, refl, sym, ap, ◌∙◌, subst, Bool, true, false, not, ◌||◌, Some, None, Option, is_some}
use Rattle.std.specs.Prelude.{if◌then◌else◌}
use Rattle.std.proofs.lemmas.Bool.{and_from, false≢true, or_left, or_parts, true≢false}
use Rattle.mark_core.specs.Bits.{has_flag}
use Rattle.mark_core.specs.declared.kinds.Phase.TheVariants.{Full}
use Rattle.mark_core.specs.declared.kinds.Step.{Step}
use Rattle.mark_core.specs.declared.kinds.Step.TheVariants.{AddStat, LeaveStep, Observe, PublishCells, ReadPhase, ReleaseBlock, StorePosition}
use Rattle.mark_core.specs.declared.seat.SeatState.{SeatState}
use Rattle.mark_core.specs.Steps.MutatorSteps.{used_bits}
use Rattle.mark_core.specs.Seats.{last_made}
use Rattle.gc_table.specs.Rule.{KnowsFull}
use Rattle.gc_table.specs.Seats.{Stored, Took}
use Rattle.gc_table.specs.Taking.{after}
use Rattle.gc_table.specs.declared.view.Entry.{Entry}
use Rattle.gc_table.specs.declared.view.View.{View}
use Rattle.gc_table.specs.Log.{all_steps, event, events, Only}
use Rattle.gc_table.specs.Running.{Ran}
use Rattle.gc_table.proofs.History.Log.{events-after, only-after, only-more}
use Rattle.gc_table.proofs.Running.{ran-events, ran-join, ran-only, ran-refl, ran-stored, ran-took}
use Rattle.packet_pools.specs.Seeking.{some_event}
use Rattle.packet_pools.proofs.Searches.{some-left, some-right}
use Rattle.alloc_cache.specs.Caching.{cached}
use Rattle.alloc_cache.specs.declared.cache.Cache.{Cache}
use Rattle.gc_cycle.specs.Answering.{answers, AnswersTo, EndsFull, GivesWay, HasCache, retires, SafeTo, TellsFull, waits_helping}
use Rattle.gc_cycle.specs.declared.counts.Safe.{Safe}
use Rattle.gc_cycle.specs.declared.counts.Safe.TheVariants as safes
use Rattle.gc_cycle.specs.Events.{each_after, first_is, never, Sort}
use Rattle.gc_cycle.specs.Mutating.{GoesOut, HasEntered, is_in_stop, works_in_stops, stays_calm, tries_stopping}
use Rattle.gc_cycle.specs.Polling.{offered_help, poll_found_stop, saw_full}
use Rattle.gc_cycle.specs.Sorts.{joins, leaves, polls, pops_or_clears, reads_phase, sees_flag}
use Rattle.gc_cycle.specs.Standing.{Mutates}
use Rattle.gc_cycle.specs.Turns.{HelpsInTurns, StaysApart}
use Rattle.gc_cycle.proofs.Few.{few-events, few-join}
use Rattle.gc_cycle.proofs.Refills.KnownFull.{full-seen, tells-more, tells-none}
use Rattle.gc_cycle.proofs.SectionKept.{calm-tries, goes-out, out-join}
use Rattle.gc_cycle.proofs.Sequences.{none-of-steps}
use Rattle.gc_cycle.proofs.Stops.Popping.{answered-works, works-join, unworked}
use Rattle.gc_cycle.proofs.Stops.Waits.{stayed-waits, waits-join}
use Rattle.gc_cycle.proofs.Turns.{apart-join, apart-look, turns-join, turns-none}

pub answers-calm : (step : Step) → answers step ≡ true → stays_calm step ≡ true
answers-calm ReadPhase e = refl
answers-calm PublishCells e = refl
answers-calm (AddStat which by down) e = e
answers-calm ReleaseBlock e = refl
answers-calm (StorePosition done) e = refl
answers-calm step e = absurd (false≢true e)

pub answers-try : (step : Step) → answers step ≡ true → tries_stopping step ≡ true
answers-try step e = calm-tries step (answers-calm step e)

pub retires-answer : (step : Step) → retires step ≡ true → answers step ≡ true
retires-answer PublishCells e = refl
retires-answer (AddStat which by down) e = e
retires-answer ReleaseBlock e = refl
retires-answer step e = absurd (false≢true e)

no-leave : (step : Step) (n : ℕ) → answers step ≡ true → leaves step n ≡ false
no-leave ReadPhase n e = refl
no-leave PublishCells n e = refl
no-leave (AddStat which by down) n e = refl
no-leave ReleaseBlock n e = refl
no-leave (StorePosition done) n e = refl
no-leave step n e = absurd (false≢true e)

no-poll : (step : Step) (n : ℕ) → answers step ≡ true → polls step n ≡ false
no-poll ReadPhase n e = refl
no-poll PublishCells n e = refl
no-poll (AddStat which by down) n e = refl
no-poll ReleaseBlock n e = refl
no-poll (StorePosition done) n e = refl
no-poll step n e = absurd (false≢true e)

no-join : (step : Step) (n : ℕ) → answers step ≡ true → joins step n ≡ false
no-join ReadPhase n e = refl
no-join PublishCells n e = refl
no-join (AddStat which by down) n e = refl
no-join ReleaseBlock n e = refl
no-join (StorePosition done) n e = refl
no-join step n e = absurd (false≢true e)

-- nobody joins the helpers by such steps
apart-answers : (v w : View) → Ran v w → Only answers v w → StaysApart v w
apart-answers v w r o = record { ran = r; apart = ap not (none-of-steps answers joins no-join (events v w) o) }

-- such steps leave nothing and poll nothing
pub answers-stay : (es : List Entry) → all_steps answers es ≡ true → some_event leaves es ≡ false
answers-stay es o = none-of-steps answers leaves no-leave es o

-- without a poll none found a stop
pub unpolled : (es : List Entry) → some_event polls es ≡ false → offered_help es ≡ true
unpolled es h = or_left (not (poll_found_stop es)) _ (ap not (unfound es h))
  where
    unfound : (xs : List Entry) → some_event polls xs ≡ false → first_is polls sees_flag xs ≡ false
    unfound [] k = refl
    unfound (x ∷ xs) k =
        let p = or_parts (polls x.step x.found) (some_event polls xs) k in
        ap (λ (b : Bool). if b then sees_flag x.step x.found else first_is polls sees_flag xs) p.0 ∙ unfound xs p.1

pub answers-offered : (es : List Entry) → all_steps answers es ≡ true → offered_help es ≡ true
answers-offered es o = unpolled es (none-of-steps answers polls no-poll es o)

-- the first poll is that of the first call, if that polled
pub first-left : (f g : Sort) (xs ys : List Entry) → some_event f xs ≡ true → first_is f g (xs ++ ys) ≡ first_is f g xs
first-left f g [] ys h = absurd (false≢true h)
first-left f g (x ∷ xs) ys h = either (f x.step x.found) (first-left f g xs ys) h
  where
    either : (b : Bool) → (some_event f xs ≡ true → first_is f g (xs ++ ys) ≡ first_is f g xs) → (b || some_event f xs) ≡ true → (if b then g x.step x.found else first_is f g (xs ++ ys)) ≡ (if b then g x.step x.found else first_is f g xs)
    either true k e = refl
    either false k e = k e

-- a record whose cache is the same has it still
pub cached-still : (o : Option Cache) (v w : View) → w.state.cache ≡ v.state.cache → HasCache o v → HasCache o w
cached-still None v w e h = e ∙ h
cached-still (Some h) v w e k = subst (λ c. c ≡ cached h.block h.cells (used_bits c) (last_made c)) (sym e) k

-- a mutator with the same record is one still
pub mutates-same : (v w : View) → w.state ≡ v.state → w.shape ≡ v.shape → Mutates v → Mutates w
mutates-same v w e f m =
    record {
      active = ap (λ (s : SeatState). s.active) e ∙ m.active;
      unhelping = ap (λ (s : SeatState). s.helping) e ∙ m.unhelping;
      section = ap (λ (s : SeatState). is_some s.section) e ∙ m.section;
      rest = rw (e, f) m.rest;
    }

-- the heap is full: the phase was read, the cache given up, and the position stored
pub ends-full : (v w x y : View) (done : ℕ) → Took ReadPhase v w → saw_full (events v w) ≡ true → w.state.phase_seen ≡ Some Full → Ran w x → Only retires w x → Mutates x → x.state.cache ≡ None → x.state.phase_seen ≡ w.state.phase_seen → Stored (StorePosition done) x y → Ran v y × Only answers v y × EndsFull done v y × KnowsFull y
ends-full v w x y done t saw seen r o m none same s =
    let first : Ran v w = ran-took v w ReadPhase refl t in
    let last : Ran x y = ran-stored x y (StorePosition done) refl s in
    let later : Ran w y = ran-join w x y r last in
    let all : Ran v y = ran-join v w y first later in
    let only : Only answers v y =
    ran-only answers v w y first later (only-after answers v w ReadPhase t.0 refl t.1.0)
    (ran-only answers w x y r last (only-more retires answers retires-answer w x o) (only-after answers x y (StorePosition done) done refl s)) in
    let read : saw_full (events v y) ≡ true = ap saw_full (ran-events v w y first later) ∙ some-left (reads_phase Full) (events v w) (events w y) saw in
    let state : y.state ≡ x.state = ap (λ (z : View). z.state) s in (
      all,
      only,
      record {
        mutates = mutates-same x y state (ap (λ (z : View). z.shape) s) m;
        read = read;
        seen = ap (λ (z : SeatState). z.phase_seen) state ∙ (same ∙ seen);
        cache = ap (λ (z : SeatState). z.cache) state ∙ none;
        position = ap (λ (z : View). z.own.position) s;
      },
      (full-seen v y all (only-more answers tries_stopping answers-try v y only) read).0,
    )

-- a heap found full by the last call of two was found full by both
pub full-later : (done : ℕ) (u v w : View) → Ran u v → Ran v w → EndsFull done v w → EndsFull done u w
full-later done u v w r q e =
    record {
      mutates = e.mutates;
      read = ap saw_full (ran-events u v w r q) ∙ some-right (reads_phase Full) (events u v) (events v w) e.read;
      seen = e.seen;
      cache = e.cache;
      position = e.position;
    }

-- a poll leaves a mutator as it is
pub polled-mutates : (v w : View) (n : ℕ) → w ≡ after Observe n v → Mutates v → Mutates w
polled-mutates v w n e m = subst Mutates (sym e) (record { active = m.active; unhelping = m.unhelping; section = m.section; rest = m.rest })

-- no stop is under way
pub kept-way : (v w : View) (handed : Option Cache) (done n : ℕ) → Ran v w → w ≡ after Observe n v → has_flag n ≡ false → HasCache handed v → GivesWay handed handed done v w
kept-way v w handed done n r e f h =
    let es : events v w ≡ event Observe n ∷ [] = events-after v w Observe n e in
    let found : poll_found_stop (events v w) ≡ false = ap poll_found_stop es ∙ f in
    record {
      out = goes-out v w r (only-after stays_calm v w Observe n refl e);
      cached = cached-still handed v w (ap (λ (x : View). x.state.cache) e) h;
      polled = ap (some_event polls) es;
      same = ap (λ (b : Bool). if b then None else handed) (sym found);
      position = λ k. absurd (true≢false (sym k ∙ found));
      waits = ap waits_helping es;
      looks = λ k. (n, es);
      pops = ap works_in_stops es;
      helps = turns-none v w (apart-look v w n r e);
    }

-- what the waiting says of events before which the seat didn't leave
waits-later : (xs ys : List Entry) → some_event leaves xs ≡ false → waits_helping ys ≡ true → waits_helping (xs ++ ys) ≡ true
waits-later [] ys h w = w
waits-later (x ∷ xs) ys h w =
    let p = or_parts (leaves x.step x.found) (some_event leaves xs) h in
    and_from (not (leaves x.step x.found) || offered_help (xs ++ ys)) (waits_helping (xs ++ ys)) (or_left (not (leaves x.step x.found)) _ (ap not p.0)) (waits-later xs ys p.1 w)

-- a stop was under way
pub gave-way : (u v w x y : View) (handed : Option Cache) (done n m : ℕ) → Ran u v → v ≡ after Observe n u → has_flag n ≡ true → Ran v w → Only retires v w → GoesOut w x → events w x ≡ event (StorePosition done) done ∷ event LeaveStep m ∷ [] → x.own.position ≡ done → HasEntered x y → waits_helping (events x y) ≡ true → offered_help (events x y) ≡ true → ((before : List Entry) → is_in_stop before ≡ true → each_after is_in_stop pops_or_clears before (events x y) ≡ true) → HelpsInTurns x y → GivesWay handed None done u y
gave-way u v w x y handed done n m r e f q o g es at h waits offered away helps =
    let last : Ran w y = ran-join w x y g.ran h.out.ran in
    let later : Ran v y = ran-join v w y q last in
    let ends : events w y ≡ event (StorePosition done) done ∷ event LeaveStep m ∷ events x y = ran-events w x y g.ran h.out.ran ∙ ap (λ xs. xs ++ events x y) es in
    let rest : events v y ≡ events v w ++ (event (StorePosition done) done ∷ event LeaveStep m ∷ events x y) = ran-events v w y q last ∙ ap (λ xs. events v w ++ xs) ends in
    let all : events u y ≡ event Observe n ∷ (events v w ++ (event (StorePosition done) done ∷ event LeaveStep m ∷ events x y)) =
    ran-events u v y r later ∙ (ap (λ xs. xs ++ events v y) (events-after u v Observe n e) ∙ ap (λ xs. event Observe n ∷ xs) rest) in
    let found : poll_found_stop (events u y) ≡ true = ap poll_found_stop all ∙ f in
    let tail : some_event leaves (events w y) ≡ true = ap (some_event leaves) ends in
    let waited : waits_helping (event (StorePosition done) done ∷ event LeaveStep m ∷ events x y) ≡ true = and_from _ _ refl (and_from (offered_help (events x y)) (waits_helping (events x y)) offered waits) in
    record {
      out = out-join u v y (goes-out u v r (only-after stays_calm u v Observe n refl e)) (out-join v w y (goes-out v w q (only-more retires stays_calm (λ step k. answers-calm step (retires-answer step k)) v w o)) (out-join w x y g h.out));
      cached = h.cache;
      polled = ap (some_event polls) all;
      same = ap (λ (b : Bool). if b then None else handed) (sym found);
      position =
          λ k. (
            h.position ∙ at,
            ap (some_event leaves) (ran-events u v y r later)
                ∙ some-right leaves (events u v) (events v y) (ap (some_event leaves) (ran-events v w y q last) ∙ some-right leaves (events v w) (events w y) tail),
          );
      waits =
          ap waits_helping all
          ∙ waits-later (events v w) (event (StorePosition done) done ∷ event LeaveStep m ∷ events x y) (answers-stay (events v w) (only-more retires answers retires-answer v w o)) waited;
      looks = λ k. absurd (true≢false (sym found ∙ k));
      pops =
          ap works_in_stops all
          ∙ works-join (event Observe n ∷ events v w) (event (StorePosition done) done ∷ event LeaveStep m ∷ events x y) (unworked (event Observe n ∷ events v w) (answered-works v w (only-more retires answers retires-answer v w o)))
          (away (event (StorePosition done) done ∷ event LeaveStep m ∷ []) refl);
      helps =
          turns-join u w y (turns-none u w (apart-join u v w (apart-look u v n r e) (apart-answers v w q (only-more retires answers retires-answer v w o))))
          (turns-join w x y (turns-none w x (record { ran = g.ran; apart = ap (never joins) es })) helps);
    }

-- a safe point: the mutator gave way, and then looked whether the heap is full
pub passes : (u v w : View) (handed kept : Option Cache) (done : ℕ) (safe : Safe) → GivesWay handed kept done u v → Ran v w → AnswersTo safe kept done v w → SafeTo safe handed done u w
passes u v w handed kept done (safes.Going k) g r a =
    let found : poll_found_stop (events u w) ≡ poll_found_stop (events u v) =
    ap poll_found_stop (ran-events u v w g.out.ran r) ∙ first-left polls sees_flag (events u v) (events v w) g.polled in
    let tells : TellsFull u v = tells-more u u v (ran-refl u) g.out.ran (only-more stays_calm tries_stopping calm-tries u v g.out.only) (tells-none u) in
    record {
      goes_on = a.going u g.out.ran tells;
      cached = a.cached;
      same = a.same ∙ (g.same ∙ ap (λ (b : Bool). if b then None else handed) (sym found));
      position =
          λ h.
          let p = g.position (sym found ∙ h) in
          (ap (λ (z : View). z.own.position) a.looked.1.0 ∙ p.0, ap (some_event leaves) (ran-events u v w g.out.ran r) ∙ some-left leaves (events u v) (events v w) p.1);
      looks =
          λ h.
          let l = g.looks (sym found ∙ h) in
          (l.0, a.looked.0, ran-events u v w g.out.ran r ∙ (ap (λ es. es ++ events v w) l.1 ∙ ap (λ es. event Observe l.0 ∷ es) (events-after v w ReadPhase a.looked.0 a.looked.1.0)));
    }
passes u v w handed kept done safes.Full g r a = full-later done u v w g.out.ran r a.0

pub answers-out : (v w : View) → Ran v w → Only answers v w → GoesOut v w
answers-out v w r o = goes-out v w r (only-more answers stays_calm answers-calm v w o)

-- no stop was under way: it looked at the world, and did what its answer takes
pub passed-few : (u v w : View) (handed kept : Option Cache) (done m : ℕ) → GivesWay handed kept done u v → Ran v w → length (events v w) ≤ m → poll_found_stop (events u w) ≡ false → length (events u w) ≤ 1 + m
passed-few u v w handed kept done m g r few h =
    let found : poll_found_stop (events u w) ≡ poll_found_stop (events u v) =
    ap poll_found_stop (ran-events u v w g.out.ran r) ∙ first-left polls sees_flag (events u v) (events v w) g.polled in
    let l = g.looks (sym found ∙ h) in
    few-join 1 m u v w g.out.ran r (few-events 1 u v (event Observe l.0 ∷ []) l.1 (omega arith)) few

pub passed-out : (u v w : View) (handed kept : Option Cache) (done : ℕ) → GivesWay handed kept done u v → Ran v w → Only answers v w → GoesOut u w × (some_event polls (events u w) ≡ true) × (waits_helping (events u w) ≡ true) × (works_in_stops (events u w) ≡ true) × HelpsInTurns u w
passed-out u v w handed kept done g r o =
    let es = ran-events u v w g.out.ran r in (
      out-join u v w g.out (answers-out v w r o),
      ap (some_event polls) es ∙ some-left polls (events u v) (events v w) g.polled,
      ap waits_helping es ∙ waits-join (events u v) (events v w) g.waits (stayed-waits (events v w) (ap not (answers-stay (events v w) o))) (answers-offered (events v w) o),
      ap works_in_stops es ∙ works-join (events u v) (events v w) g.pops (unworked (events v w) (answered-works v w o)),
      turns-join u v w g.helps (turns-none v w (apart-answers v w r o)),
    )
