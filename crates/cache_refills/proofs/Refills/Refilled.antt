-- A mutator's answer, once it has claimed a block and looked at the phase: it paid while a cycle was marking, and owed nothing if none was.
use Rattle.std.proofs.Common.{ℕ, ◌≡◌, List, [], ◌∷◌, ◌++◌, ◌+◌, length, arith, refl, sym, ap, ◌∙◌, subst, Bool, true, false, not, ◌&&◌, ◌||◌, Some, None, Option, ⊎_elim, ◌⊎◌}
use Rattle.std.specs.Prelude.{if◌then◌else◌, is_some, unwrap_or}
use Rattle.std.specs.Int.Count.{ones}
use Rattle.std.proofs.lemmas.Bool.{not-true, or_cases, or_left, or_right, true≢false}
use Rattle.std.proofs.lemmas.List.{append_assoc}
use Rattle.mark_core.specs.Cells.{or_else}
use Rattle.mark_core.specs.Steps.MutatorSteps.{used_bits}
use Rattle.mark_core.specs.Places.{the_phase}
use Rattle.mark_core.specs.Seats.{phase_of, saw}
use Rattle.mark_core.specs.declared.kinds.Phase.{Phase}
use Rattle.mark_core.specs.declared.kinds.Phase.TheVariants.{Full, Idle, Marking}
use Rattle.mark_core.specs.declared.kinds.Shape.{Shape}
use Rattle.mark_core.specs.declared.kinds.Step.TheVariants.{AddStat, ClaimBlock, ReadFree, ReadPhase, StorePosition}
use Rattle.mark_core.specs.declared.seat.SeatState.{SeatState}
use Rattle.gc_table.specs.Log.{event, events, Only, steps_of}
use Rattle.gc_table.specs.PlainSteps.{own_section}
use Rattle.gc_table.specs.Rule.{KnowsFull}
use Rattle.gc_table.specs.Running.{Known, Ran}
use Rattle.gc_table.specs.Seats.{Found, Stored}
use Rattle.gc_table.specs.Taking.{Finds}
use Rattle.gc_table.specs.declared.view.Entry.{Entry}
use Rattle.gc_table.specs.declared.view.View.{View}
use Rattle.gc_table.proofs.History.Log.{events-after, only-after, only-more}
use Rattle.gc_table.proofs.Noticing.{found-noted}
use Rattle.gc_table.proofs.Running.{ran-events, ran-found, ran-join, ran-only, ran-section, ran-shape}
use Rattle.packet_pools.specs.Counts.{count_of}
use Rattle.packet_pools.specs.Fields.{picked}
use Rattle.packet_pools.specs.Seeking.{some_event}
use Rattle.packet_pools.proofs.Searches.{some-left, some-right}
use Rattle.tracer.specs.declared.traced.Stopped.{Stopped}
use Rattle.tracer.specs.declared.traced.Stopped.TheVariants.{Quota, NoWork, NoPacket}
use Rattle.alloc_cache.specs.Caching.{IsCached}
use Rattle.mark_core.specs.Numbers.{free_count, last_count, rescanned_count, traced_count}
use Rattle.alloc_cache.specs.Claiming.{claimed_by}
use Rattle.alloc_cache.specs.Retiring.{retiring_steps}
use Rattle.alloc_cache.specs.declared.cache.Cache.{Cache}
use Rattle.cache_refills.specs.Getting.{GetsCache, LooksBeyond}
use Rattle.cache_refills.specs.Pace.Deferring.{RecyclesLast}
use Rattle.cache_refills.specs.Pace.Early.{PassesNext}
use Rattle.cache_refills.specs.Pace.Others.{SeesToNext}
use Rattle.gc_cycle.specs.Answering.{answers, EndsFull, GoesOn, last_phase}
use Rattle.gc_cycle.specs.declared.counts.Paid.{Paid}
use Rattle.gc_cycle.specs.Events.{before_last, never, Sort, until_first}
use Rattle.gc_cycle.specs.Moments.{at_some_moment, begins, finds_no_packet, finds_no_room, finds_no_work}
use Rattle.gc_cycle.specs.Mutating.{stays_calm}
use Rattle.cache_refills.specs.Pace.Pacing.{floor_by, last_read, late_by, late_seen, looks_by, looks_seen, owed_by, owed_seen, quota_by, was_not_due}
use Rattle.cache_refills.specs.Pace.Paying.{claimed_in_stop, IsFree, Pays, PaysInIdle, PaysInMarking, roots_are_read, since_claim, StopsAs}
use Rattle.cache_refills.specs.Pace.Paying.Pays.{in_idle, in_marking}
use Rattle.cache_refills.specs.Pace.Payment.{HasPaid, pays_cells}
use Rattle.gc_cycle.specs.Polling.{saw_full}
use Rattle.cache_refills.specs.Refilling.{HasClaimed}
use Rattle.gc_cycle.specs.Roots.{roots_scanned}
use Rattle.gc_cycle.specs.Sorts.{claims, draws, lowers_free, pops, raises_flag, raises_traced, reads_phase, resumes}
use Rattle.gc_cycle.specs.Standing.{Mutates}
use Rattle.gc_cycle.proofs.Refills.Answered.{cached-still, ends-full}
use Rattle.gc_cycle.proofs.Refills.KnownFull.{goes-on, mutates-still, phase-seen}
use Rattle.cache_refills.proofs.Refills.Paced.{active-read}
use Rattle.gc_cycle.proofs.Changes.{picked-none}
use Rattle.cache_refills.proofs.Refills.PaidFor.{pays-unclaimed}
use Rattle.cache_refills.proofs.Refills.PaysOnly.{looked-before, pays-calm, pays-unlooked, pays-unlowered, pays-unresumed}
use Rattle.gc_cycle.proofs.Turns.{later-moment, packet-widens, roots-right}
use Rattle.cache_refills.proofs.Positions.{pays-inside, stays_inside, stored-more}
use Rattle.gc_cycle.proofs.Refills.Retired.{retired-mutates, retired-only}
use Rattle.gc_cycle.proofs.Searched.{both-widen, room-widens, work-widens}
use Rattle.gc_cycle.proofs.Sequences.{none-of-steps, since-this, some-none}
use Rattle.gc_cycle.proofs.CleaningSpares.{untaken}

-- before the last event like f
before-this : (f : Sort) (xs : List Entry) (e : Entry) (ys : List Entry) → f e.step e.found ≡ true → some_event f ys ≡ false → before_last f (xs ++ (e ∷ ys)) ≡ xs
before-this f [] e ys here none = ap (λ (b : Bool). if b then e ∷ before_last f ys else []) none
before-this f (x ∷ xs) e ys here none =
    ap (λ (b : Bool). if b then x ∷ before_last f (xs ++ (e ∷ ys)) else []) (some-right f xs (e ∷ ys) (or_left _ _ here)) ∙ ap (λ es. x ∷ es) (before-this f xs e ys here none)

-- why it stopped to trace is so after whatever was done before
stops-after : (s : Stopped) (quota done : ℕ) (u v w : View) → Ran u v → Ran v w → StopsAs s v.shape quota done (begins v) (events v w) → StopsAs s u.shape quota done (begins u) (events u w)
stops-after Quota quota done u v w r q h = h
stops-after NoWork quota done u v w r q h = (
  h.0,
  later-moment (λ m later. roots_are_read later && finds_no_work u.shape m later) (both-widen roots_are_read (finds_no_work u.shape) (work-widens u.shape)) u v w r q
      (subst (λ (sh : Shape). at_some_moment v.shape (λ m later. roots_are_read later && finds_no_work sh m later) (begins v) (events v w) ≡ true) (ran-shape u v r) h.1),
)
stops-after NoPacket quota done u v w r q h = (
  h.0,
  later-moment (λ m later. roots_are_read later && finds_no_room u.shape m later) (both-widen roots_are_read (finds_no_room u.shape) (room-widens u.shape)) u v w r q
      (subst (λ (sh : Shape). at_some_moment v.shape (λ m later. roots_are_read later && finds_no_room sh m later) (begins v) (events v w) ≡ true) (ran-shape u v r) h.1),
)

-- an event that reads no number leaves that which was read last
or-none : (o : Option ℕ) → or_else o None ≡ o
or-none None = refl
or-none (Some n) = refl

-- it claimed this block by the call from u to v, read the phase as n, and paid by the call from w to x
module _ (h : Cache) (done : ℕ) (u v w x : View) (n : ℕ) (k : HasClaimed h done u v) (f : Found ReadPhase n v w) (r : Ran w x) (o : Only pays_cells w x) where
  looked : Ran v w
  looked = ran-found v w ReadPhase n refl f

  before : Ran u w
  before = ran-join u v w k.ran looked

  later : Ran v x
  later = ran-join v w x looked r

  -- from the claim of the block to the payment
  abbrev first : List Entry
  first = record { step = ReadFree; found = k.claimed.word; won = true } ∷ record { step = AddStat free_count (ones h.cells) true; found = k.claimed.count; won = true } ∷ event ReadPhase n ∷ []

  whole : events u x ≡ k.first ++ (record { step = ClaimBlock h.block; found = 0; won = true } ∷ (first ++ events w x))
  whole =
      ran-events u v x k.ran later
      ∙ ((λ i. k.claimed.all i ++ (ran-events v w x looked r ∙ ap (λ es. es ++ events w x) (events-after v w ReadPhase n f.0)) i)
      ∙ append_assoc k.first (claimed_by h k.claimed.word k.claimed.count) (event ReadPhase n ∷ events w x))

  unclaimed : some_event claims (first ++ events w x) ≡ false
  unclaimed = not-true _ (untaken pays_cells claims pays-unclaimed (events w x) o)

  since : since_claim (events u x) ≡ first ++ events w x
  since = ap since_claim whole ∙ since-this claims k.first (record { step = ClaimBlock h.block; found = 0; won = true }) (first ++ events w x) refl unclaimed

  ahead : before_last claims (events u x) ≡ k.first
  ahead = ap (before_last claims) whole ∙ before-this claims k.first (record { step = ClaimBlock h.block; found = 0; won = true }) (first ++ events w x) refl unclaimed

  outside : claimed_in_stop (events u x) ≡ false
  outside = ap (some_event resumes) since ∙ none-of-steps pays_cells resumes pays-unresumed (events w x) o

  goes : Mutates v → Mutates x → x.state.phase_seen ≡ w.state.phase_seen → saw (Some (phase_of n)) Full ≡ false → GoesOn u x
  goes m now seen low =
      let g : GoesOn u w = goes-on u v w n k.ran k.tells f m low in
      let es : events u x ≡ events u w ++ events w x = ran-events u w x before r in
      let last : last_phase (events u x) ≡ last_phase (events u w) = ap last_phase es ∙ looked-before (events u w) (events w x) o in
      record {
        mutates = now;
        read = ap (λ p. is_some p) last ∙ g.read;
        seen = seen ∙ (g.seen ∙ sym last);
        going = ap saw_full es ∙ some-none (reads_phase Full) (events u w) (events w x) g.going (none-of-steps pays_cells (reads_phase Full) pays-unlooked (events w x) o);
      }

  inside : Only stays_inside v x
  inside = ran-only stays_inside v w x looked r (only-after stays_inside v w ReadPhase n refl f.0) (only-more pays_cells stays_inside pays-inside w x o)

  told : picked lowers_free (since_claim (events u x)) ≡ ones h.cells ∷ []
  told = ap (picked lowers_free) since ∙ ap (λ l. ones h.cells ∷ l) (picked-none pays_cells lowers_free pays-unlowered (events w x) o)

  gets-cache : (p : Paid) → Mutates v → IsCached h v → Mutates x → x.state.cache ≡ w.state.cache → x.state.phase_seen ≡ w.state.phase_seen → saw (Some (phase_of n)) Full ≡ false → Pays u.shape (own_section u.state) (ones h.cells) p (begins u) (events u x) → (some_event (reads_phase Marking) (since_claim (events u x)) ≡ true → LooksBeyond u.shape (ones h.cells) p u x) → GetsCache h p done u x
  gets-cache p m cached now kept seen low pays beyond =
      record {
        goes_on = goes m now seen low;
        cached = cached-still (Some h) v x (kept ∙ ap (λ (z : View). z.state.cache) f.0) cached;
        position = stored-more done u v x k.ran later inside k.position;
        free = k.claimed.free;
        told = told;
        pays = pays;
        beyond = λ outside marking. beyond marking;
      }

  section : own_section w.state ≡ own_section u.state
  section = ap (λ (s : Option ℕ). unwrap_or s 0) (ran-section u w before)

  read-after : (which : ℕ) (es : List Entry) → last_read which (first ++ es) ≡ last_read which es
  read-after which es = or-none (or_else (or_else (last_read which es) None) None) ∙ (or-none (or_else (last_read which es) None) ∙ or-none (last_read which es))

  owed-after : (cells : ℕ) (es : List Entry) → owed_seen cells (first ++ es) ≡ owed_seen cells es
  owed-after cells es =
      λ i. owed_by (quota_by cells (read-after last_count es i) (read-after rescanned_count es i) (read-after traced_count es i) (read-after free_count es i)) (floor_by cells (read-after last_count es i) (read-after free_count es i))

  late-after : (es : List Entry) → late_seen (first ++ es) ≡ late_seen es
  late-after es = λ i. late_by (read-after last_count es i) (read-after traced_count es i) (read-after free_count es i)

  -- while a cycle was marking
  pays-marking : (p : Paid) → HasPaid (ones h.cells) p w x → phase_of n ≡ Marking → PaysInMarking u.shape (own_section u.state) (ones h.cells) p (begins u) (events u x)
  pays-marking p q e =
      record {
        outside = outside;
        read = ap (some_event (reads_phase Marking)) since ∙ or_left (saw (Some (phase_of n)) Marking) _ (ap (λ z. saw (Some z) Marking) e);
        roots =
            ⊎_elim
            (λ (a : roots_scanned (own_section w.state) (events w x) ≡ true).
            or_left (roots_scanned (own_section u.state) (since_claim (events u x))) _
            (ap (roots_scanned (own_section u.state)) since ∙ roots-right (own_section u.state) first (events w x) (subst (λ s. roots_scanned s (events w x) ≡ true) section a)))
            (λ (b : at_some_moment w.shape (λ m later. never claims later && finds_no_packet w.shape m later) (begins w) (events w x) ≡ true).
            or_right (roots_scanned (own_section u.state) (since_claim (events u x))) _
            (later-moment (λ m later. never claims later && finds_no_packet u.shape m later) (both-widen (never claims) (finds_no_packet u.shape) (packet-widens u.shape)) u w x before r
            (subst (λ (sh : Shape). at_some_moment w.shape (λ m later. never claims later && finds_no_packet sh m later) (begins w) (events w x) ≡ true) (ran-shape u w before) b)))
            (or_cases (roots_scanned (own_section w.state) (events w x)) _ q.roots);
        owed = ap (owed_seen (ones h.cells)) since ∙ (owed-after (ones h.cells) (events w x) ∙ q.owed);
        early = ap (λ es. owed_seen (ones h.cells) (until_first pops es)) since ∙ (owed-after (ones h.cells) (until_first pops (events w x)) ∙ q.early);
        most = q.most;
        short = q.short;
        looked =
            let s : count_of draws (since_claim (events u x)) ≡ 0 + (0 + (0 + count_of draws (events w x))) = ap (count_of draws) since in
            let l : looks_seen (since_claim (events u x)) ≡ looks_seen (events w x) = ap looks_seen since ∙ ap looks_by (late-after (events w x)) in
            let few = q.looked in
            omega (arith, s, l, few);
        done = let s : count_of pops (since_claim (events u x)) ≡ 0 + (0 + (0 + count_of pops (events w x))) = ap (count_of pops) since in let d = q.done in omega (arith, s, d);
        stopped = stops-after p.stopped p.quota p.done u w x before r q.stopped;
        told = ap (picked raises_traced) since ∙ q.told;
      }

  -- while none was
  pays-idle : (p : Paid) → IsFree p → n ≡ 0 → events w x ≡ [] → PaysInIdle p (events u x)
  pays-idle p free e none =
      record {
        outside = outside;
        read = ap (some_event (reads_phase Idle)) since ∙ or_left (saw (Some (phase_of n)) Idle) _ (ap (λ m. saw (Some (phase_of m)) Idle) e);
        unmarked = ap (never (reads_phase Marking)) alone ∙ ap (λ m. not (saw (Some (phase_of m)) Marking || false)) e;
        unpopped = ap (never pops) alone;
        untold = ap (picked raises_traced) alone;
        free = free;
        few = let three = ap length alone in omega (arith, three);
        cause = or_left (was_not_due (before_last claims (events u x))) (some_event raises_flag (events u x)) (ap was_not_due ahead ∙ due);
      }
    where
      alone : since_claim (events u x) ≡ first
      alone = since ∙ ap (λ es. first ++ es) none

      other : (m : ℕ) → Known v the_phase (1 + m) → ⊥
      other m t = let is : n ≡ 1 + m = found-noted v ReadPhase n (1 + m) the_phase f.1 refl t.0 in absurd (omega (arith, is, e))

      due : was_not_due k.first ≡ true
      due =
          ⊎_elim
          (λ (a : was_not_due k.first ≡ true). a)
          (λ c. absurd (⊎_elim (λ (a : Known v the_phase 1). other 0 a) (λ (b : Known v the_phase 5). other 4 b) c))
          k.paced

  pub gets-paid : (p : Paid) → Mutates v → IsCached h v → HasPaid (ones h.cells) p w x → phase_of n ≡ Marking → PassesNext u.shape (ones h.cells) w x → SeesToNext u.shape w x → RecyclesLast u.shape p w x → GetsCache h p done u x
  gets-paid p m cached q e passes others defers =
      gets-cache p m cached q.mutates q.cache q.seen (ap (λ z. saw (Some z) Full) e) (in_marking (pays-marking p q e))
      (λ marking. record { paying = w; before = before; pays = r; claimed = claimed; unclaimed = untaken pays_cells claims pays-unclaimed (events w x) o; passes = passes; others = others; defers = defers })
    where
      claimed : some_event claims (events u w) ≡ true
      claimed =
          ap (some_event claims) (ran-events u v w k.ran looked)
          ∙ some-left claims (events u v) (events v w)
          (ap (some_event claims) k.claimed.all ∙ some-right claims k.first (claimed_by h k.claimed.word k.claimed.count) refl)

  pub gets-free : (p : Paid) → Mutates v → IsCached h v → IsFree p → n ≡ 0 → events w x ≡ [] → Mutates x → x.state.cache ≡ w.state.cache → x.state.phase_seen ≡ w.state.phase_seen → GetsCache h p done u x
  gets-free p m cached free e none now kept seen = gets-cache p m cached now kept seen (ap (λ i. saw (Some (phase_of i)) Full) e) (in_idle (pays-idle p free e none))
      (λ marking. absurd (true≢false (sym marking ∙ not-true _ (pays-idle p free e none).unmarked)))

-- it looked at the phase, and paid
pub looked-ran : (v w x : View) (n : ℕ) → Found ReadPhase n v w → Ran w x → Ran v x
looked-ran v w x n f r = ran-join v w x (ran-found v w ReadPhase n refl f) r

pub looked-calm : (v w x : View) (n : ℕ) → Found ReadPhase n v w → Ran w x → Only pays_cells w x → Only stays_calm v x
looked-calm v w x n f r o = ran-only stays_calm v w x (ran-found v w ReadPhase n refl f) r (only-after stays_calm v w ReadPhase n refl f.0) (only-more pays_cells stays_calm pays-calm w x o)

-- an active mutator that reads the phase neither as Marking nor as Full reads it as Idle
pub read-idle : (v : View) (n : ℕ) (p : Phase) → Finds ReadPhase n v → v.state.active ≡ true → p ≡ phase_of n → (p ≡ Marking → ⊥) → (p ≡ Full → ⊥) → n ≡ 0
read-idle v n p f a is unmarking unfull =
    ⊎_elim
    (λ (z : n ≡ 0). z)
    (λ (y : (n ≡ 1) ⊎ (n ≡ 5)). absurd (⊎_elim (λ (z : n ≡ 1). unmarking (is ∙ ap phase_of z)) (λ (z : n ≡ 5). unfull (is ∙ ap phase_of z)) y))
    (active-read v n f a)

-- if the heap is full by then, the cache is given up
pub gives-up : (v w x y : View) (h : Cache) (done n : ℕ) → Mutates v → Found ReadPhase n v w → phase_of n ≡ Full → Ran w x → x.state ≡ record w.state { cache = None } → steps_of (events w x) ≡ retiring_steps h (used_bits w.state.cache) → Stored (StorePosition done) x y → Ran v y × Only answers v y × EndsFull done v y × KnowsFull y
gives-up v w x y h done n m f e r none steps stored =
    ends-full v w x y done (n, f)
    (ap saw_full (events-after v w ReadPhase n f.0) ∙ ap (λ z. saw (Some z) Full || false) e)
    (phase-seen v w n f m ∙ ap (λ z. Some z) e)
    r
    (retired-only w x h (used_bits w.state.cache) steps)
    (retired-mutates w x (mutates-still v w n f m) r none)
    (ap (λ (s : SeatState). s.cache) none)
    (ap (λ (s : SeatState). s.phase_seen) none)
    stored
