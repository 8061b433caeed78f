use Rattle.std.proofs.Common.{ℕ, ◌≡◌, ◌++◌, Option, Some, None, true, ap, ◌∙◌, refl, subst, inl, inr}
use Rattle.std.proofs.lemmas.Result.{IfErr-weaker, IfOk-weaker}
use Rattle.gc_table.specs.Log.{events}
use Rattle.gc_table.specs.Seats.{view_of}
use Rattle.gc_table.specs.declared.view.View.{View}
use Rattle.gc_table.proofs.Running.{ran-events, ran-join}
use Rattle.alloc_cache.specs.declared.cache.Cache.{Cache}
use Rattle.gc_cycle.specs.Answering.{CollectsTo}
use Rattle.gc_cycle.specs.Cycles.{collects}
use Rattle.gc_cycle.specs.Sorts.{begins_exactly, ends_cycle}
use Rattle.gc_cycle.specs.declared.counts.Safe.TheVariants as safes
use Rattle.gc_cycle.proofs.Refills.Collected.{followed-earlier}
use Rattle.gc_cycle.proofs.Sequences.{followed-later}
use Rattle.seat_turns.proofs.Seats.{collected-mutates, kept-works}
use Rattle.seat_turns.proofs.Leaving.{leaves-join, leaves-spared}
use Rattle.mark_core.specs.declared.seat.SeatState.{SeatState}
use Rattle.seat_turns.specs.Coming.{CollectsOnce, PollsOutWith, PollsWith}
use Rattle.seat_turns.proofs.gates.collect_turn.Goals as goal

pub come_to_turn-requires-clause-works : goal.come_to_turn-requires-clause-works
come_to_turn-requires-clause-works g c =
    let r = c.in-Going.ensures in
    kept-works c.args.heap.now c.retire_own_cache.new.seat c.collect.new.seat c.retire_own_cache.ensures.halts.works r.seat (collected-mutates c.in-Going.cache _ (view_of c.retire_own_cache.new.seat) (view_of c.collect.new.seat) r.collects) r.ran r.keeps.0 r.keeps.1

pub leave_full-requires-clause-halts : goal.leave_full-requires-clause-halts
leave_full-requires-clause-halts g c =
    let r = c.in-Full.ensures in
    record { works = kept-works c.args.heap.now c.retire_own_cache.new.seat c.collect.new.seat c.retire_own_cache.ensures.halts.works r.seat r.collects.mutates r.ran r.keeps.0 r.keeps.1; cache = r.collects.cache }

collected : (kept : Option Cache) (done : ℕ) (v w : View) → CollectsTo (safes.Going kept) done v w → collects (events v w) ≡ true
collected None done v w c = c.collected
collected (Some h) done v w c = absurd c

pub returns-in-Going-clause-ok : goal.returns-in-Going-clause-ok
returns-in-Going-clause-ok g c =
    let x = view_of c.args.seat.now in
    let y = view_of c.retire_own_cache.new.seat in
    let z = view_of c.collect.new.seat in
    let w = view_of c.come_to_turn.new.seat in
    let r = c.in-Going.ensures in
    let rest = followed-earlier begins_exactly ends_cycle (events y z) (events z w) (collected c.in-Going.cache _ y z r.collects) in
    let parts : events x w ≡ events x y ++ (events y z ++ events z w) = ran-events x y w c.retire_own_cache.ensures.ran (ran-join y z w r.ran c.come_to_turn.ensures.ran) ∙ ap (λ es. events x y ++ es) (ran-events y z w r.ran c.come_to_turn.ensures.ran) in
    let all : collects (events x w) ≡ true = ap collects parts ∙ followed-later begins_exactly ends_cycle (events x y) (events y z ++ events z w) rest in
    IfOk-weaker c.come_to_turn.result _ _ (λ _ turn. (turn, all)) c.come_to_turn.ensures.ok

pub returns-in-Going-clause-leaves : goal.returns-in-Going-clause-leaves
returns-in-Going-clause-leaves g c =
    let x = view_of c.args.seat.now in
    let y = view_of c.retire_own_cache.new.seat in
    let z = view_of c.collect.new.seat in
    let w = view_of c.come_to_turn.new.seat in
    let r = c.in-Going.ensures in
    leaves-join x y w c.retire_own_cache.ensures.leaves (leaves-join y z w (leaves-spared y z r.ran r.spares r.keeps.0) c.come_to_turn.ensures.leaves)

pub returns-in-Full-clause-leaves : goal.returns-in-Full-clause-leaves
returns-in-Full-clause-leaves g c =
    let x = view_of c.args.seat.now in
    let y = view_of c.retire_own_cache.new.seat in
    let z = view_of c.collect.new.seat in
    let w = view_of c.leave_full.new.seat in
    let r = c.in-Full.ensures in
    leaves-join x y w c.retire_own_cache.ensures.leaves (leaves-join y z w (leaves-spared y z r.ran r.spares r.keeps.0) c.leave_full.ensures.leaves)

-- the answer has no cache
none-kept : (kept : Option Cache) (done : ℕ) (v w : View) → CollectsTo (safes.Going kept) done v w → kept ≡ None
none-kept None done v w c = refl
none-kept (Some h) done v w c = absurd c

collects-none : (kept : Option Cache) (done n : ℕ) (v w : View) → done ≡ n → CollectsTo (safes.Going kept) done v w → CollectsTo (safes.Going None) n v w
collects-none None done n v w e c = subst (λ (k : ℕ). CollectsTo (safes.Going None) k v w) e c
collects-none (Some h) done n v w e c = absurd c

pub returns-in-Going-clause-collects : goal.returns-in-Going-clause-collects
returns-in-Going-clause-collects g c =
    let y : View = view_of c.retire_own_cache.new.seat in
    let z : View = view_of c.collect.new.seat in
    let w : View = view_of c.come_to_turn.new.seat in
    let r = c.in-Going.ensures in
    let gone = none-kept c.in-Going.cache _ y z r.collects in
    let made : c.state.result.now.made ≡ y.state.made = ap (λ (s : SeatState). s.made) c.state.ensures in
    let once : CollectsOnce (safes.Going None) y z =
    record { ran = r.ran; collects = collects-none c.in-Going.cache _ y.state.made y z made r.collects; once = r.once; cycles = r.cycles; not_full = r.not_full; unbegun = r.unbegun; numbers = r.numbers; pops = r.pops } in
    IfOk-weaker c.come_to_turn.result _ _ (λ _ polls. record { given = y; gives = c.retire_own_cache.ensures.gives; collected = z; collects = once; polls = subst (λ (o : Option Cache). PollsWith o z w) gone polls }) c.come_to_turn.ensures.polls

pub returns-in-Going-clause-none : goal.returns-in-Going-clause-none
returns-in-Going-clause-none g c =
    let y : View = view_of c.retire_own_cache.new.seat in
    let z : View = view_of c.collect.new.seat in
    let w : View = view_of c.come_to_turn.new.seat in
    let r = c.in-Going.ensures in
    let gone = none-kept c.in-Going.cache _ y z r.collects in
    let made : c.state.result.now.made ≡ y.state.made = ap (λ (s : SeatState). s.made) c.state.ensures in
    let once : CollectsOnce (safes.Going None) y z =
    record { ran = r.ran; collects = collects-none c.in-Going.cache _ y.state.made y z made r.collects; once = r.once; cycles = r.cycles; not_full = r.not_full; unbegun = r.unbegun; numbers = r.numbers; pops = r.pops } in
    IfErr-weaker c.come_to_turn.result _ _ (λ _ polls. record { given = y; gives = c.retire_own_cache.ensures.gives; collected = z; ends = inr (once, subst (λ (o : Option Cache). PollsOutWith o z w) gone polls) }) c.come_to_turn.ensures.full

pub returns-in-Full-clause-none : goal.returns-in-Full-clause-none
returns-in-Full-clause-none g c =
    let y : View = view_of c.retire_own_cache.new.seat in
    let z : View = view_of c.collect.new.seat in
    let r = c.in-Full.ensures in
    let made : c.state.result.now.made ≡ y.state.made = ap (λ (s : SeatState). s.made) c.state.ensures in
    record {
      given = y;
      gives = c.retire_own_cache.ensures.gives;
      collected = z;
      ends = inl (record { ran = r.ran; collects = subst (λ (n : ℕ). CollectsTo safes.Full n y z) made r.collects; once = r.once; cycles = r.cycles; not_full = r.not_full; unbegun = r.unbegun; numbers = r.numbers; pops = r.pops }, c.leave_full.ensures.out);
    }
