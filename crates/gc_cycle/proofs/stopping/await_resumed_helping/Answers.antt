use Rattle.std.proofs.Common.{◌≡◌, [], ◌∷◌, ◌++◌, sym, subst, ap, ◌∙◌, inl, inr, refl, Bool, not, ◌&&◌}
use Rattle.mark_core.specs.declared.kinds.Step.TheVariants.{Observe}
use Rattle.gc_table.specs.Seats.{view_of}
use Rattle.gc_table.specs.declared.view.View.{View}
use Rattle.packet_pools.specs.Seeking.{some_event}
use Rattle.packet_pools.proofs.Searches.{some-left, some-right}
use Rattle.gc_table.specs.Log.{events}
use Rattle.gc_table.proofs.History.Log.{events-after, events-none, only-after, only-none}
use Rattle.gc_table.proofs.Running.{ran-events, ran-join, ran-only}
use Rattle.gc_cycle.specs.Events.{never}
use Rattle.gc_cycle.specs.Sorts.{joins, leaves, lets_in}
use Rattle.gc_cycle.proofs.Stops.Waits.{stays-join, stays-look}
use Rattle.gc_cycle.proofs.SectionKept.{out-join, out-none}
use Rattle.gc_cycle.proofs.Stops.OutAndIn.{offered-last, polled-out, resumed-last}
use Rattle.gc_cycle.specs.Turns.{HelpsOnce, help_quota}
use Rattle.gc_cycle.proofs.Turns.{apart-look, apart-none, between-join, first-looked, first-turned, unjoined}
use Rattle.gc_cycle.specs.Statistics.{leaves_numbers}
use Rattle.gc_cycle.proofs.stopping.await_resumed_helping.Goals as goal
use Rattle.gc_cycle.proofs.stopping.await_resumed_helping.Goals.{then-cards, else-cards}

pub loop-init : goal.loop-init
loop-init g c =
    let u : View = view_of c.args.seat.now in
    record {
      next = tt;
      finite = tt;
      sits = c.requires.seat.0;
      out = c.requires.seat.1;
      goes = out-none u;
      own = refl;
      offered = inl (events-none u);
      inside = ap (never leaves) (events-none u);
      numbers = only-none leaves_numbers u;
      helps = ([], apart-none u);
      first = sym (ap (never lets_in) (events-none u));
    }

pub loop-preserved : goal.loop-preserved
loop-preserved g c =
    let u : View = view_of c.args.seat.now in
    let v : View = view_of c.loop.seat in
    let w : View = view_of c.poll.new.seat in
    let x : View = view_of c.help_once-helped.new.seat in
    let y : View = view_of c.pause.new.seat in
    let i = c.loop.invariant in
    let t = c.poll.ensures.step in
    let p = polled-out v w t.0 c.poll.ensures.ran t.1 in
    let h = c.help_once-helped.ensures in
    let q = c.pause.ensures in
    let to_y = out-join w x y h.out q.out in
    let from_v = out-join v w y p.0 to_y in
    let helped = ran-events w x y h.out.ran q.out.ran in
    let joined : c.if-cards.cards ≡ (c.loop.cards && not c.help_once-helped.result) =
    elim c.if-cards.branch [
      | then-cards b ↦ b.cards-is ∙ sym (λ i. b.if-cards.true i && not c.help_once-helped.result)
      | else-cards b ↦ b.cards-is ∙ (b.if-cards.false ∙ sym (λ i. b.if-cards.false i && not c.help_once-helped.result))
    ] in
    record {
      next = tt;
      finite = tt;
      sits = q.seat.0;
      out = q.seat.1;
      goes = out-join u v y i.goes from_v;
      own = q.own ∙ (h.own ∙ (p.1 ∙ i.own));
      inside =
          ap (never leaves) (ran-events u w y (out-join u v w i.goes p.0).ran to_y.ran)
          ∙ stays-join (events u w) (events w y) (stays-look u v w t.0 i.goes.ran c.poll.ensures.ran t.1 i.inside)
          (ap (never leaves) helped ∙ stays-join (events w x) (events x y) h.inside q.inside);
      offered =
          inr
          (ap (some_event joins) (ran-events u w y (out-join u v w i.goes p.0).ran to_y.ran)
          ∙ some-right joins (events u w) (events w y) (ap (some_event joins) helped ∙ some-left joins (events w x) (events x y) h.offered));
      numbers =
          ran-only leaves_numbers u v y i.goes.ran from_v.ran i.numbers
          (ran-only leaves_numbers v w y c.poll.ensures.ran to_y.ran (only-after leaves_numbers v w Observe t.0 refl t.1) (ran-only leaves_numbers w x y h.out.ran q.out.ran h.numbers q.numbers));
      helps =
          between-join help_quota u i.helps.0 ((w, x) ∷ []) u v y i.helps.1 (
            apart-look v w t.0 c.poll.ensures.ran t.1,
            subst (λ (b : Bool). HelpsOnce b help_quota w x) (i.first ∙ sym (first-looked u v w t.0 i.goes.ran c.poll.ensures.ran t.1)) h.helps,
            record { ran = q.out.ran; apart = q.apart },
          );
      first =
          joined
          ∙ first-turned c.loop.cards c.help_once-helped.result (events u w) (events w x) (events x y) (i.first ∙ sym (first-looked u v w t.0 i.goes.ran c.poll.ensures.ran t.1)) h.let_in (unjoined (events x y) q.apart)
          ∙ sym (ap (never lets_in) (ran-events u w y (out-join u v w i.goes p.0).ran to_y.ran ∙ ap (λ es. events u w ++ es) helped));
    }

pub returns-then-not-poll-clause-ran : goal.returns-then-not-poll-clause-ran
returns-then-not-poll-clause-ran g c = ran-join (view_of c.args.seat.now) (view_of c.loop.seat) (view_of c.poll.new.seat) c.loop.invariant.goes.ran c.poll.ensures.ran

pub returns-then-not-poll-clause-resumed : goal.returns-then-not-poll-clause-resumed
returns-then-not-poll-clause-resumed g c =
    let u : View = view_of c.args.seat.now in
    let v : View = view_of c.loop.seat in
    let w : View = view_of c.poll.new.seat in
    let t = c.poll.ensures.step in
    resumed-last u w (events u v) t.0 (ran-events u v w c.loop.invariant.goes.ran c.poll.ensures.ran ∙ ap (λ es. events u v ++ es) (events-after v w Observe t.0 t.1)) (sym t.3 ∙ c.if-not-poll.true)

pub returns-then-not-poll-clause-offered : goal.returns-then-not-poll-clause-offered
returns-then-not-poll-clause-offered g c =
    let u : View = view_of c.args.seat.now in
    let v : View = view_of c.loop.seat in
    let w : View = view_of c.poll.new.seat in
    let t = c.poll.ensures.step in
    offered-last u w (events u v) t.0 (ran-events u v w c.loop.invariant.goes.ran c.poll.ensures.ran ∙ ap (λ es. events u v ++ es) (events-after v w Observe t.0 t.1)) (sym t.3 ∙ c.if-not-poll.true) c.loop.invariant.offered

pub returns-then-not-poll-clause-only : goal.returns-then-not-poll-clause-only
returns-then-not-poll-clause-only g c =
    let u : View = view_of c.args.seat.now in
    let v : View = view_of c.loop.seat in
    let w : View = view_of c.poll.new.seat in
    let t = c.poll.ensures.step in
    (out-join u v w c.loop.invariant.goes (polled-out v w t.0 c.poll.ensures.ran t.1).0).only

pub returns-then-not-poll-clause-not_full : goal.returns-then-not-poll-clause-not_full
returns-then-not-poll-clause-not_full g c =
    let u : View = view_of c.args.seat.now in
    let v : View = view_of c.loop.seat in
    let w : View = view_of c.poll.new.seat in
    let t = c.poll.ensures.step in
    (out-join u v w c.loop.invariant.goes (polled-out v w t.0 c.poll.ensures.ran t.1).0).not_full

pub returns-then-not-poll-clause-inside : goal.returns-then-not-poll-clause-inside
returns-then-not-poll-clause-inside g c =
    let t = c.poll.ensures.step in
    stays-look (view_of c.args.seat.now) (view_of c.loop.seat) (view_of c.poll.new.seat) t.0 c.loop.invariant.goes.ran c.poll.ensures.ran t.1 c.loop.invariant.inside

pub returns-then-not-poll-clause-helps : goal.returns-then-not-poll-clause-helps
returns-then-not-poll-clause-helps g c =
    let i = c.loop.invariant in
    let u : View = view_of c.args.seat.now in
    let v : View = view_of c.loop.seat in
    let w : View = view_of c.poll.new.seat in
    let t = c.poll.ensures.step in
    let turns = between-join help_quota u i.helps.0 [] u v w i.helps.1 (apart-look v w t.0 c.poll.ensures.ran t.1) in
    record { turns = turns.0; helps = turns.1; resumed = returns-then-not-poll-clause-resumed g c }

pub returns-then-not-poll-clause-numbers : goal.returns-then-not-poll-clause-numbers
returns-then-not-poll-clause-numbers g c =
    let v : View = view_of c.loop.seat in
    let w : View = view_of c.poll.new.seat in
    let i = c.loop.invariant in
    let t = c.poll.ensures.step in
    ran-only leaves_numbers (view_of c.args.seat.now) v w i.goes.ran c.poll.ensures.ran i.numbers (only-after leaves_numbers v w Observe t.0 refl t.1)
