-- A refill in pieces: what the pieces come to together.
use Rattle.std.proofs.Common.{ℕ, ◌≡◌, ◌<◌, ◌≤◌, List, ◌++◌, arith, refl, sym, ap, ◌∙◌, subst, Bool, true, false, not, Some, ⊎_elim}
use Rattle.std.specs.Prelude.{if◌then◌else◌}
use Rattle.std.proofs.lemmas.Bool.{cases_lt, not-true, or_left, or_right}
use Rattle.mark_core.specs.Layout.{block_count}
use Rattle.mark_core.specs.declared.kinds.Phase.TheVariants.{Marking}
use Rattle.mark_core.specs.declared.kinds.Shape.{Shape}
use Rattle.mark_core.specs.declared.kinds.Step.TheVariants.{ReadPhase}
use Rattle.mark_core.specs.Seats.{phase_of, saw}
use Rattle.gc_table.specs.Log.{event, events}
use Rattle.gc_table.specs.Running.{Ran}
use Rattle.gc_table.specs.Seats.{Took}
use Rattle.gc_table.specs.declared.view.Entry.{Entry}
use Rattle.gc_table.specs.declared.view.View.{View}
use Rattle.gc_table.proofs.History.Log.{events-after}
use Rattle.gc_table.proofs.Running.{ran-events, ran-join, ran-shape, ran-took}
use Rattle.packet_pools.specs.Seeking.{some_event}
use Rattle.alloc_cache.specs.Claiming.{seen_taken}
use Rattle.alloc_cache.proofs.Searches.{seen-front as taken-more}
use Rattle.gc_cycle.specs.declared.counts.Refill.{Refill}
use Rattle.gc_cycle.specs.Events.{never, since_last, since_or_all, Sort}
use Rattle.gc_cycle.specs.Sorts.{comes_in}
use Rattle.cache_refills.specs.Pieces.{ComesTo, may_collect, refill_of, round_failed, SeenBelow, SeesBlocks, takes_cells}
use Rattle.cache_refills.specs.Refilling.{SeesEnd}
use Rattle.cache_refills.specs.Stops.{marking_done, no_block, this_visit}
use Rattle.cache_refills.specs.declared.pieces.Piece.{Piece}
use Rattle.cache_refills.specs.declared.pieces.Piece.TheVariants as pieces
use Rattle.cache_refills.proofs.Causes.{done-here, done-later, each-in}
use Rattle.cache_refills.proofs.Refills.Payment.{never-run}
use Rattle.cache_refills.proofs.Refills.Pieced.{none-some, seen-later}

-- more blocks were seen after others
pub seen-on : (lo hi : ℕ) (u v w : View) → Ran v w → SeenBelow lo u v → SeesBlocks lo hi v w → SeenBelow hi u w
seen-on lo hi u v w q a s =
    record {
      ran = ran-join u v w a.ran q;
      inside = never-run comes_in u v w a.ran q a.inside s.inside;
      without = never-run takes_cells u v w a.ran q a.without s.without;
      seen =
          λ b l.
          ⊎_elim
          (λ (e : b < lo). ap (seen_taken b) (ran-events u v w a.ran q) ∙ taken-more b (events u v) (events v w) (a.seen b e))
          (λ (e : lo ≤ b). seen-later u v w b a.ran q (s.seen b e l))
          (cases_lt b lo);
    }

-- if there is none like f, all events are those since the last one
all-since : (f : Sort) (es : List Entry) → never f es ≡ true → since_or_all f es ≡ es
all-since f es n = ap (λ (b : Bool). if b then since_last f es else es) (not-true _ n)

-- each block was seen
pub seen-all : (sh : Shape) (u w : View) → SeenBelow (block_count sh) u w → round_failed sh (events u w) ≡ true
seen-all sh u w a =
    let visit : this_visit (events u w) ≡ events u w = all-since comes_in (events u w) a.inside in
    ap (λ es. no_block sh (since_or_all takes_cells es)) visit
    ∙ (ap (no_block sh) (all-since takes_cells (events u w) a.without) ∙ each-in (λ b. seen_taken b (events u w)) (block_count sh) 0 (λ b l. a.seen b (omega (arith, l))))

-- the phase was read as Marking, and marking is done
pub marked-done : (sh : Shape) (u v w : View) → (t : Took ReadPhase u v) → phase_of t.0 ≡ Marking → Ran v w → SeesEnd sh (events v w) → marking_done sh (events u w) ≡ true
marked-done sh u v w t p r s =
    ap (marking_done sh) (ran-events u v w (ran-took u v ReadPhase refl t) r ∙ ap (λ es. es ++ events v w) (events-after u v ReadPhase t.0 t.1.0))
    ∙ done-here sh (event ReadPhase t.0) (events v w) (ap (λ q. saw (Some q) Marking) p) s.cards s.empty

pub done-collects : (sh : Shape) (u v w : View) → Ran u v → Ran v w → marking_done sh (events v w) ≡ true → may_collect sh (events u w) ≡ true
done-collects sh u v w r q h = or_right (round_failed sh (events u w)) _ (ap (marking_done sh) (ran-events u v w r q) ∙ done-later sh (events u v) (events v w) h)

-- a search of all blocks that are left
pub ended-collects : (from : ℕ) (u v w : View) → Ran v w → SeenBelow from u v → SeesBlocks from (block_count v.shape) v w → may_collect w.shape (events u w) ≡ true
ended-collects from u v w q a s =
    or_left (round_failed w.shape (events u w)) _ (seen-all w.shape u w (seen-on from (block_count w.shape) u v w q a (subst (λ (sh : Shape). SeesBlocks from (block_count sh) v w) (sym (ran-shape v w q)) s)))

-- a piece with an answer
pub answered-comes : (o : Piece) (r : Refill) (u w : View) → refill_of o ≡ Some r → ComesTo o u w
answered-comes (pieces.Cache h paid) r u w e = tt
answered-comes pieces.Full r u w e = tt
answered-comes (pieces.Next n) r u w e = absurd (none-some r e)
answered-comes pieces.Ended r u w e = absurd (none-some r e)
answered-comes pieces.MarkingDone r u w e = absurd (none-some r e)

-- steps by which the seat neither comes in nor gets a block with a free cell leave what was seen
pub seen-keeps : (n : ℕ) (u v w : View) → Ran v w → some_event comes_in (events v w) ≡ false → never takes_cells (events v w) ≡ true → SeenBelow n u v → SeenBelow n u w
seen-keeps n u v w q i l a =
    record {
      ran = ran-join u v w a.ran q;
      inside = never-run comes_in u v w a.ran q a.inside (ap not i);
      without = never-run takes_cells u v w a.ran q a.without l;
      seen = λ b e. ap (seen_taken b) (ran-events u v w a.ran q) ∙ taken-more b (events u v) (events v w) (a.seen b e);
    }
