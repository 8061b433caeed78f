use Rattle.std.proofs.Common.{◌≡◌, arith, [], ap, length, ◌∙◌, subst, sym, true, ◌+◌, ◌*◌}
use Rattle.mark_core.specs.declared.kinds.Shape.{Shape}
use Rattle.mark_core.specs.declared.kinds.Step.TheVariants.{ReadPhase}
use Rattle.gc_table.specs.Log.{events}
use Rattle.gc_table.specs.Seats.{view_of}
use Rattle.gc_table.specs.declared.view.View.{View}
use Rattle.gc_table.proofs.History.Log.{only-more}
use Rattle.gc_table.proofs.Running.{ran-join, ran-refl, ran-shape}
use Rattle.gc_cycle.specs.Answering.{answers}
use Rattle.gc_cycle.specs.Mutating.{stays_calm}
use Rattle.gc_cycle.proofs.Changes.{by-join, numbers-one}
use Rattle.gc_cycle.proofs.Few.{few-after, few-join}
use Rattle.gc_cycle.proofs.Refills.Answered.{answers-calm}
use Rattle.gc_cycle.proofs.Refills.KnownFull.{tells-none}
use Rattle.cache_refills.specs.Pieces.{refill_of}
use Rattle.cache_refills.specs.Stops.{marking_done}
use Rattle.cache_refills.proofs.Due.{due-calm, due-join}
use Rattle.cache_refills.proofs.Positions.{stored-more, stored-none}
use Rattle.cache_refills.proofs.Refills.Passed.{both-some, plays-calm, plays-join, plays-keeps, plays-leads, unseen-full, unseen-join}
use Rattle.cache_refills.proofs.Refills.Pieced.{calm-leaves, leaves-join, looked-leaves, none-without, sees-later, short-later}
use Rattle.cache_refills.proofs.Refills.Popping.{answered-pops, stops-paid, unpopped}
use Rattle.cache_refills.proofs.Refills.Visiting.{leads-paid, none-pops}
use Rattle.cache_refills.proofs.Refills.RoundsSoFar.{leaves-first, leaves-full}
use Rattle.cache_refills.proofs.Refills.Rounds.{later-some, leads-join, leads-looked, leads-prepared, looked-seen, marking-known, paced-after, spares-refill}
use Rattle.cache_refills.proofs.Refills.Together.{done-collects, marked-done, seen-keeps}
use Rattle.cache_refills.specs.Pace.Pacing.{card_looks}
use Rattle.cache_refills.specs.Pace.StepBounds.{payment_steps}
use Rattle.cache_refills.proofs.pieces.try_refill_some.Goals as goal

pub returns-then-stores_if_full : goal.returns-then-stores_if_full
returns-then-stores_if_full c =
    let v : View = view_of c.args.seat.now in
    let w : View = view_of c.stores_if_full.new.seat in
    let e = c.stores_if_full.ensures in
    let f = c.if-stores_if_full.ensures.full in
    let calm = only-more answers stays_calm answers-calm v w e.only in
    let p = plays-calm v w e.ran calm in
    let none = ap length (calm-leaves v w calm) in
    let few = e.few in
    record {
      seat = e.seat.0;
      plays = p;
      refills = (f.0, f.1);
      none = tt;
      sees = omega (arith, none);
      calls = λ u a. tt;
      few = omega (arith, few);
      longest = omega (arith, few);
      keeps = plays-keeps v w p;
      due = due-calm v w calm;
      pops = stops-paid (events v w) (unpopped (events v w) (answered-pops v w e.only));
      unpopped = tt;
      numbers = leaves-full v w e.numbers;
    }

pub begins_or_ends-requires-clause-marking : goal.begins_or_ends-requires-clause-marking
begins_or_ends-requires-clause-marking c =
    let v : View = view_of c.args.seat.now in
    let w : View = view_of c.stores_if_full.new.seat in
    let t = c.if-stores_if_full.ensures.going.looked in
    λ h. marking-known v w t c.stores_if_full.ensures.seat.1.active (looked-seen v w t c.requires.seat.1 h)

pub returns-then-begins_or_ends : goal.returns-then-begins_or_ends
returns-then-begins_or_ends c =
    let v : View = view_of c.args.seat.now in
    let w : View = view_of c.stores_if_full.new.seat in
    let x : View = view_of c.begins_or_ends.new.seat in
    let e = c.stores_if_full.ensures in
    let k = c.if-stores_if_full.ensures.going in
    let s = c.begins_or_ends.ensures in
    let d = c.if-begins_or_ends.ensures.done in
    let l = leads-join v w x (leads-looked v w k) (leads-prepared w x s.ran s.only) in
    let p = plays-leads v x l in
    let marked : marking_done c.args.heap.now.shape (events v x) ≡ true = marked-done c.args.heap.now.shape v w x k.looked (looked-seen v w k.looked c.requires.seat.1 d.0) s.ran d.1 in
    let five = few-join 1 4 v w x e.ran s.ran (few-after v w ReadPhase k.looked.0 k.looked.1.0) s.few in
    record {
      seat = s.seat.0;
      plays = p;
      refills = tt;
      none =
          record {
            mutates = s.seat.1;
            cache = s.cache ∙ k.cached;
            going = unseen-join v w x e.ran s.ran (k.going v (ran-refl v) (tells-none v)).going (unseen-full w x s.only);
          };
      sees = ((leaves-join v w x e.ran s.ran (looked-leaves v w k.looked) s.leaves).untried, subst (λ (sh : Shape). marking_done sh (events v x) ≡ true) (sym c.requires.seat.0.1) marked);
      calls = λ u a. done-collects x.shape u v x a.ran l.ran (subst (λ (sh : Shape). marking_done sh (events v x) ≡ true) (sym (ran-shape v x l.ran ∙ c.requires.seat.0.1)) marked);
      few = five;
      longest = omega (arith, five);
      keeps = plays-keeps v x p;
      due = due-join v w x e.ran s.ran (due-calm v w (only-more answers stays_calm answers-calm v w e.only)) s.due;
      pops = stops-paid (events v x) (unpopped (events v x) l.unpopped);
      unpopped = l.unpopped;
      numbers = numbers-one [] v x (by-join [] [] v w x e.numbers s.numbers);
    }

pub returns : goal.returns
returns c =
    let v : View = view_of c.args.seat.now in
    let w : View = view_of c.stores_if_full.new.seat in
    let x : View = view_of c.begins_or_ends.new.seat in
    let y : View = view_of c.search_some.new.seat in
    let e = c.stores_if_full.ensures in
    let k = c.if-stores_if_full.ensures.going in
    let s = c.begins_or_ends.ensures in
    let t = c.search_some.ensures in
    let o = refill_of c.search_some.result in
    let a = leads-looked v w k in
    let l = leads-join v w x a (leads-prepared w x s.ran s.only) in
    let p = plays-join v x y (plays-leads v x l) t.plays in
    let unseen = unseen-join v w x e.ran s.ran (k.going v (ran-refl v) (tells-none v)).going (unseen-full w x s.only) in
    let all = ran-join v v x (ran-refl v) l.ran in
    let still = leaves-join v w x e.ran s.ran (looked-leaves v w k.looked) s.leaves in
    let five = few-join 1 4 v w x e.ran s.ran (few-after v w ReadPhase k.looked.0 k.looked.1.0) s.few in
    let long = few-join 5 (3 * c.args.most + 1 + payment_steps 1024 card_looks c.args.heap.now.shape) v x y l.ran t.plays.ran five t.longest in
    record {
      seat = t.seat;
      plays = p;
      refills =
          both-some _ _ o
          (later-some o (λ r f. f v all (l.tells v (ran-refl v) (tells-none v)) (stored-more c.args.done v v x (ran-refl v) l.ran l.inside (stored-none c.args.done v)) (paced-after v w x a.ran s.ran c.if-begins_or_ends.ensures.paced)) t.some)
          (later-some o (λ r f. spares-refill r v x y l.ran t.plays.ran l.spares f) t.spares);
      none = none-without o v x y l.ran t.plays.ran unseen t.none;
      sees = sees-later c.args.from c.args.most c.search_some.result v x y l.ran t.plays.ran l.within still t.sees;
      calls = λ u b. t.calls u (seen-keeps c.args.from u v x l.ran l.within still.without b);
      few = short-later 5 c.args.most c.search_some.result v x y l.ran t.plays.ran five t.few;
      longest = omega (arith, long);
      keeps = plays-keeps v y p;
      due = due-join v w y e.ran (ran-join w x y s.ran t.plays.ran) (due-calm v w (only-more answers stays_calm answers-calm v w e.only)) (due-join w x y s.ran t.plays.ran s.due t.due);
      pops = leads-paid v x y l t.plays.ran t.pops;
      unpopped = none-pops o v x y l t.plays.ran t.unpopped;
      numbers = leaves-first o v x y (by-join [] [] v w x e.numbers s.numbers) t.numbers;
    }
