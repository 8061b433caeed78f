-- A mutator that doesn't wait: at a safe point, at the gate, and on the way to a cache.
use Rattle.std.proofs.Common.{ℕ, ◌≡◌, ◌<◌, ◌≤◌, [], ◌∷◌, ◌++◌, arith, length, refl, sym, ap, ◌∙◌, subst, Bool, true, false, not, Some, None, Option, is_some}
use Rattle.std.specs.Prelude.{if◌then◌else◌, IfNone, IfSome}
use Rattle.std.proofs.lemmas.Bool.{not-true}
use Rattle.mark_core.specs.Bits.{has_flag}
use Rattle.mark_core.specs.Layout.{block_count}
use Rattle.mark_core.specs.declared.kinds.Phase.TheVariants.{Full}
use Rattle.mark_core.specs.declared.kinds.Shape.{Shape}
use Rattle.mark_core.specs.declared.kinds.Step.TheVariants.{Observe, ReadPhase}
use Rattle.mark_core.specs.declared.seat.SeatState.{SeatState}
use Rattle.gc_table.specs.Rule.{KnowsFull}
use Rattle.gc_table.specs.Seats.{Took}
use Rattle.gc_table.specs.Taking.{after}
use Rattle.gc_table.specs.declared.view.View.{View}
use Rattle.gc_table.specs.Log.{all_steps, event, events, Only}
use Rattle.gc_table.specs.Running.{Ran}
use Rattle.gc_table.proofs.History.Log.{events-after, only-after, only-more}
use Rattle.gc_table.proofs.Running.{ran-events, ran-join, ran-only, ran-refl, ran-shape, ran-took}
use Rattle.packet_pools.specs.Seeking.{some_event}
use Rattle.packet_pools.proofs.Searches.{some-right}
use Rattle.alloc_cache.specs.Claiming.{NoBlock, seeks_block}
use Rattle.alloc_cache.specs.declared.cache.Cache.{Cache}
use Rattle.stop_world.specs.Gates.{Enters}
use Rattle.gc_cycle.specs.Answering.{answers, AnswersTo, EndsFull, GoesOn, HasCache, retires, TellsFull}
use Rattle.gc_cycle.specs.declared.counts.Refill.{Refill}
use Rattle.gc_cycle.specs.declared.counts.Safe.TheVariants as safes
use Rattle.gc_cycle.specs.Mutating.{GoesOut, keeps_section, stays_calm, tries_stopping}
use Rattle.gc_cycle.specs.Polling.{poll_found_stop, saw_full}
use Rattle.cache_refills.specs.Refilling.{prepares}
use Rattle.gc_cycle.specs.Sorts.{polls, raises_flag, reads_phase, sees_flag}
use Rattle.gc_cycle.specs.Sparing.{spares_part}
use Rattle.gc_cycle.specs.Standing.{IsOut, KeepsSeat, KeepsSection, Mutates}
use Rattle.gc_cycle.specs.Statistics.{leaves_numbers}
use Rattle.cache_refills.specs.Stops.{claim_failed}
use Rattle.cache_refills.specs.Trying.{CallsForCollection, EntersOnce, FindsNoBlock, GoesPast, PassesFull, PlaysOn}
use Rattle.gc_cycle.proofs.Refills.Answered.{answers-calm, first-left, kept-way, mutates-same, passed-out, passes, retires-answer}
use Rattle.cache_refills.proofs.Causes.{failed-later, failed-stops, search-failed}
use Rattle.gc_cycle.proofs.Refills.Collected.{calm-spares}
use Rattle.gc_cycle.proofs.Refills.KnownFull.{full-seen, mutates-still, tells-more, tells-none}
use Rattle.gc_cycle.proofs.SectionKept.{calm-keeps, calm-tries, goes-out, keeps-seat, keeps-section, out-join}
use Rattle.gc_cycle.proofs.Few.{few-after, few-events, few-join}
use Rattle.gc_cycle.proofs.Stops.OutAndIn.{enters-in}
use Rattle.cache_refills.proofs.Refills.Paced.{seeks-prepare}
use Rattle.cache_refills.proofs.Refills.Rounds.{Leads, unlooked}
use Rattle.gc_cycle.proofs.Sequences.{none-of-steps, some-none}

-- a safe point that found a stop
pub stepped-out : (u v w x : View) (n : ℕ) → Ran u v → v ≡ after Observe n u → has_flag n ≡ true → Ran v w → Only retires v w → GoesOut w x → GoesOut u x × (poll_found_stop (events u x) ≡ true) × (some_event polls (events u x) ≡ true)
stepped-out u v w x n r e f q o g =
    let all : events u x ≡ event Observe n ∷ events v x = ran-events u v x r (ran-join v w x q g.ran) ∙ ap (λ es. es ++ events v x) (events-after u v Observe n e) in (
      out-join u v x (goes-out u v r (only-after stays_calm u v Observe n refl e)) (out-join v w x (goes-out v w q (only-more retires stays_calm (λ step k. answers-calm step (retires-answer step k)) v w o)) g),
      ap poll_found_stop all ∙ f,
      ap (some_event polls) all,
    )

-- a safe point that found none
module _ (u v w : View) (n done : ℕ) (handed : Option Cache) (r : Ran u v) (e : v ≡ after Observe n u) (f : has_flag n ≡ false) (h : HasCache handed u) (q : Ran v w) where
  unseen : poll_found_stop (events u w) ≡ false
  unseen =
      let es = events-after u v Observe n e in
      ap poll_found_stop (ran-events u v w r q) ∙ (first-left polls sees_flag (events u v) (events v w) (ap (some_event polls) es) ∙ (ap poll_found_stop es ∙ f))

  -- the look at the world, and the one at the phase
  two-looks : (t : Took ReadPhase v w) → events u w ≡ event Observe n ∷ event ReadPhase t.0 ∷ []
  two-looks t = ran-events u v w r q ∙ (ap (λ es. es ++ events v w) (events-after u v Observe n e) ∙ ap (λ es. event Observe n ∷ es) (events-after v w ReadPhase t.0 t.1.0))

  pub gone-past : (kept : Option Cache) → AnswersTo (safes.Going kept) handed done v w → GoesPast handed kept u w
  gone-past kept a =
      let s = passes u v w handed handed done (safes.Going kept) (kept-way u v handed done n r e f h) q a in
      record { clear = unseen; looks = (n, a.looked.0, two-looks a.looked); goes_on = s.goes_on; cached = s.cached; same = s.same ∙ ap (λ (b : Bool). if b then None else handed) unseen }

  pub gone-full : (kept : Option Cache) → AnswersTo safes.Full handed done v w × (kept ≡ None) → PassesFull kept done u w
  gone-full kept a = record { clear = unseen; ends = passes u v w handed handed done safes.Full (kept-way u v handed done n r e f h) q a.0; known = a.0.1; none = a.1 }

  pub gone-out : Only answers v w → GoesOut u w × (some_event polls (events u w) ≡ true)
  gone-out o = let p = passed-out u v w handed handed done (kept-way u v handed done n r e f h) q o in (p.0, p.1)

pub come-mutates : (u v : View) → IsOut u → is_some u.state.section ≡ true → Ran u v → Enters u v → Mutates v
come-mutates u v o s r e = (enters-in u v o s r e).0

-- the seat entered, and read the phase
module _ (u v w : View) (o : IsOut u) (s : is_some u.state.section ≡ true) (r : Ran u v) (e : Enters u v) (t : Took ReadPhase v w) where
  second : Ran v w
  second = ran-took v w ReadPhase refl t

  whole : Ran u w
  whole = ran-join u v w r second

  pub come-out : GoesOut u w
  come-out = out-join u v w (enters-in u v o s r e).1 (goes-out v w second (only-after stays_calm v w ReadPhase t.0 refl t.1.0))

  pub come-own : w.own ≡ u.own
  come-own = ap (λ (x : View). x.own) t.1.0 ∙ (enters-in u v o s r e).2

  pub come-once : EntersOnce u w
  come-once = record { entered = v; ran = r; enters = e; reads = t }

  pub come-cache : w.state.cache ≡ None
  come-cache = ap (λ (x : View). x.state.cache) t.1.0 ∙ (enters-in u v o s r e).3

  pub come-numbers : Only leaves_numbers u w
  come-numbers = ran-only leaves_numbers u v w r second (ap (all_steps leaves_numbers) e.events) (only-after leaves_numbers v w ReadPhase t.0 refl t.1.0)

  pub come-few : length (events u w) ≤ 2
  come-few = few-join 1 1 u v w r second (few-events 1 u v _ e.events (omega arith)) (few-after v w ReadPhase t.0 t.1.0)

  pub come-going : ((x : View) → Ran x v → TellsFull x v → GoesOn x w) → GoesOn u w
  come-going g = g u r (tells-more u u v (ran-refl u) r (only-more stays_calm tries_stopping calm-tries u v (enters-in u v o s r e).1.only) (tells-none u))

  pub come-full : w.state.phase_seen ≡ Some Full → saw_full (events v w) ≡ true → EndsFull u.own.position u w × KnowsFull w
  come-full seen read =
      let all : saw_full (events u w) ≡ true = ap saw_full (ran-events u v w r second) ∙ some-right (reads_phase Full) (events u v) (events v w) read in (
        record { mutates = mutates-still v w t.0 t.1 (come-mutates u v o s r e); read = all; seen = seen; cache = come-cache; position = ap (λ y. y.position) come-own },
        (full-seen u w whole (only-more stays_calm tries_stopping calm-tries u w come-out.only) all).0,
      )

-- what was done before an answer

pub plays-calm : (v w : View) → Ran v w → Only stays_calm v w → PlaysOn v w
plays-calm v w r o = record { ran = r; keeps = only-more stays_calm keeps_section calm-keeps v w o; spares = only-more stays_calm spares_part calm-spares v w o; calm = (goes-out v w r o).calm }

pub plays-leads : (v w : View) → Leads v w → PlaysOn v w
plays-leads v w l = record { ran = l.ran; keeps = l.keeps; spares = l.spares; calm = ap not l.calm }

pub plays-join : (u v w : View) → PlaysOn u v → PlaysOn v w → PlaysOn u w
plays-join u v w a b =
    record {
      ran = ran-join u v w a.ran b.ran;
      keeps = ran-only keeps_section u v w a.ran b.ran a.keeps b.keeps;
      spares = ran-only spares_part u v w a.ran b.ran a.spares b.spares;
      calm = ap not (ap (some_event raises_flag) (ran-events u v w a.ran b.ran) ∙ some-none raises_flag (events u v) (events v w) (not-true _ a.calm) (not-true _ b.calm));
    }

pub plays-keeps : (v w : View) → PlaysOn v w → KeepsSeat v w × KeepsSection v w
plays-keeps v w p = (keeps-seat v w p.ran p.keeps, keeps-section v w p.ran p.keeps)

pub unseen-full : (v w : View) → Only prepares v w → saw_full (events v w) ≡ false
unseen-full v w o = none-of-steps prepares (reads_phase Full) unlooked (events v w) o

pub unseen-join : (u v w : View) → Ran u v → Ran v w → saw_full (events u v) ≡ false → saw_full (events v w) ≡ false → saw_full (events u w) ≡ false
unseen-join u v w r q a b = ap saw_full (ran-events u v w r q) ∙ some-none (reads_phase Full) (events u v) (events v w) a b

-- no block was found
pub found-none : (sh : Shape) (v w : View) → Mutates v → v.state.cache ≡ None → v.shape ≡ sh → 0 < block_count v.shape → Ran v w → w.state ≡ v.state → NoBlock sh (events v w) → Only seeks_block v w → FindsNoBlock v w
found-none sh v w m none e some r s n o =
    record {
      mutates = mutates-same v w s (ran-shape v w r) m;
      cache = ap (λ (x : SeatState). x.cache) s ∙ none;
      going = unseen-full v w (only-more seeks_block prepares seeks-prepare v w o);
      failed = search-failed v.shape (events v w) some o (subst (λ (k : Shape). NoBlock k (events v w)) (sym e) n);
    }

-- a collection is called for if no block was found
pub none-calls : (o : Option Refill) (u v w : View) → Ran u v → Ran v w → saw_full (events u v) ≡ false → IfNone o (FindsNoBlock v w) → IfNone o (CallsForCollection u w)
none-calls None u v w r q a n =
    let sh : Shape = u.shape in
    record {
      mutates = n.mutates;
      cache = n.cache;
      going = unseen-join u v w r q a n.going;
      cause =
          failed-stops sh (events u w)
          (ap (claim_failed sh) (ran-events u v w r q) ∙ failed-later sh (events u v) (events v w) (subst (λ (k : Shape). claim_failed k (events v w) ≡ true) (ran-shape u v r) n.failed));
    }
none-calls (Some x) u v w r q a n = tt

pub both-some : (P Q : Refill → Type 0) (o : Option Refill) → IfSome o P → IfSome o Q → IfSome o (λ r. P r × Q r)
both-some P Q None a b = tt
both-some P Q (Some r) a b = (a, b)
