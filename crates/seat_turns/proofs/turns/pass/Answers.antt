use Rattle.std.proofs.Common.{◌∙◌, ap, inl, inr, refl, sym, None}
use Rattle.std.proofs.lemmas.Bool.{OnFalse_at, not-true, true≢false}
use Rattle.gc_table.specs.Log.{events}
use Rattle.packet_pools.specs.Seeking.{some_event}
use Rattle.packet_pools.proofs.Searches.{some-left, some-right}
use Rattle.gc_cycle.specs.Sorts.{polls}
use Rattle.gc_table.specs.Seats.{view_of}
use Rattle.gc_cycle.specs.Answering.{HasCache}
use Rattle.seat_turns.specs.Standing.{Plays, Works}
use Rattle.gc_table.proofs.Running.{ran-events, ran-join, ran-refl}
use Rattle.seat_turns.proofs.Seats.{first-turn, going-seen, kept-heap, kept-works, looks-cached, looks-heap, looks-ran, looks-seen, looks-works, plays-turn, whole-cache, works-ready}
use Rattle.seat_turns.proofs.Leaving.{leaves-join, leaves-looked, leaves-none, leaves-spared}
use Rattle.seat_turns.specs.Coming.{hinders}
use Rattle.seat_turns.proofs.Coming.{Calm, calm-join, calm-looked, calm-none, full-cause, passes-cause, polls-by}
use Rattle.seat_turns.proofs.Passing.{turn-looks}
use Rattle.gc_table.proofs.History.Log.{only-none}
use Rattle.gc_table.proofs.Running.{ran-only}
use Rattle.gc_cycle.specs.Mutating.{spares_blocks}
use Rattle.seat_turns.proofs.Telling.{season-spares}
use Rattle.seat_turns.proofs.turns.pass.Goals as goal

pub returns-in-Full-clause-err : goal.returns-in-Full-clause-err
returns-in-Full-clause-err g c =
    let s = c.safe_point.ensures in
    (record { works = kept-works c.args.heap.now c.loop.seat c.safe_point.new.seat c.loop.invariant.works s.seat c.in-Full.ensures.safe.mutates s.ran s.keeps.0 s.keeps.1; cache = c.in-Full.ensures.safe.cache }, c.in-Full.ensures.known)

pub returns-in-Full-clause-same : goal.returns-in-Full-clause-same
returns-in-Full-clause-same g c = kept-heap (view_of c.loop.seat) (view_of c.safe_point.new.seat) c.safe_point.ensures.keeps.1 ∙ c.loop.invariant.same

pub returns-in-Full-clause-ran : goal.returns-in-Full-clause-ran
returns-in-Full-clause-ran g c = ran-join (view_of c.args.seat.now) (view_of c.loop.seat) (view_of c.safe_point.new.seat) c.loop.invariant.ran c.safe_point.ensures.ran

pub is_turn-requires : goal.is_turn-requires
is_turn-requires g c = record { seat = (c.safe_point.ensures.seat, c.in-Going.ensures.safe.goes_on.mutates) }

pub returns-then-is_turn-clause-ok : goal.returns-then-is_turn-clause-ok
returns-then-is_turn-clause-ok g c =
    let s = c.safe_point.ensures in
    let t = c.is_turn.ensures in
    let h = c.args.heap.now in
    let x = c.loop.seat in
    let y = c.safe_point.new.seat in
    let z = c.is_turn.new.seat in
    let safe = c.in-Going.ensures.safe in
    let works : Works h y = kept-works h x y c.loop.invariant.works s.seat safe.goes_on.mutates s.ran s.keeps.0 s.keeps.1 in
    let looked : Works h z = looks-works h y z works t.seat t.looks in (
      works-ready h z looked (looks-seen (view_of y) (view_of z) (going-seen (view_of x) (view_of y) safe.goes_on) t.looks) (first-turn (view_of z) looked.mutator (t.turn c.if-is_turn.true)),
      looks-cached c.in-Going.kept (view_of y) (view_of z) safe.cached t.looks,
    )

pub returns-then-is_turn-clause-turn : goal.returns-then-is_turn-clause-turn
returns-then-is_turn-clause-turn g c =
    let z = c.is_turn.new.seat in
    let q : Plays c.args.heap.now z × HasCache c.in-Going.kept (view_of z) = returns-then-is_turn-clause-ok g c in
    plays-turn c.args.heap.now z q.0 (whole-cache c.in-Going.kept (view_of z) q.1)

pub returns-then-is_turn-clause-same : goal.returns-then-is_turn-clause-same
returns-then-is_turn-clause-same g c =
    looks-heap (view_of c.safe_point.new.seat) (view_of c.is_turn.new.seat) c.is_turn.ensures.looks ∙ (kept-heap (view_of c.loop.seat) (view_of c.safe_point.new.seat) c.safe_point.ensures.keeps.1 ∙ c.loop.invariant.same)

pub returns-then-is_turn-clause-ran : goal.returns-then-is_turn-clause-ran
returns-then-is_turn-clause-ran g c =
    let x = view_of c.loop.seat in
    let y = view_of c.safe_point.new.seat in
    let z = view_of c.is_turn.new.seat in
    ran-join (view_of c.args.seat.now) x z c.loop.invariant.ran (ran-join x y z c.safe_point.ensures.ran (looks-ran y z c.is_turn.ensures.looks))

pub loop-preserved : goal.loop-preserved
loop-preserved g c =
    let s = c.safe_point.ensures in
    let t = c.is_turn.ensures in
    let h = c.args.heap.now in
    let x = c.loop.seat in
    let y = c.safe_point.new.seat in
    let z = c.is_turn.new.seat in
    let safe = c.in-Going.ensures.safe in
    record {
      next = tt;
      finite = tt;
      works = looks-works h y z (kept-works h x y c.loop.invariant.works s.seat safe.goes_on.mutates s.ran s.keeps.0 s.keeps.1) t.seat t.looks;
      cached = looks-cached c.in-Going.kept (view_of y) (view_of z) safe.cached t.looks;
      same = looks-heap (view_of y) (view_of z) t.looks ∙ (kept-heap (view_of x) (view_of y) s.keeps.1 ∙ c.loop.invariant.same);
      ran = ran-join (view_of c.args.seat.now) (view_of x) (view_of z) c.loop.invariant.ran (ran-join (view_of x) (view_of y) (view_of z) s.ran (looks-ran (view_of y) (view_of z) t.looks));
      leaves =
          leaves-join (view_of c.args.seat.now) (view_of x) (view_of z) c.loop.invariant.leaves
          (leaves-join (view_of x) (view_of y) (view_of z) (leaves-spared (view_of x) (view_of y) s.ran s.spares s.keeps.0) (leaves-looked (view_of y) (view_of z) t.looks));
      quiet =
          calm-join c.args.cache c.loop.cache c.in-Going.kept (view_of c.args.seat.now) (view_of x) (view_of z) c.loop.invariant.quiet
          (calm-join c.loop.cache c.in-Going.kept c.in-Going.kept (view_of x) (view_of y) (view_of z)
          (record { calm = s.calm; not_full = s.not_full; unbegun = s.unbegun; numbers = c.in-Going.ensures.numbers; pops = s.pops; helps = s.helps; cause = passes-cause c.loop.cache c.in-Going.kept _ (view_of x) (view_of y) safe })
          (calm-looked c.in-Going.kept (view_of y) (view_of z) t.looks));
      since = inr (OnFalse_at c.if-is_turn.false t.other);
      apart =
          ran-only spares_blocks (view_of c.args.seat.now) (view_of x) (view_of z) c.loop.invariant.ran (ran-join (view_of x) (view_of y) (view_of z) s.ran (looks-ran (view_of y) (view_of z) t.looks)) c.loop.invariant.apart
          (ran-only spares_blocks (view_of x) (view_of y) (view_of z) s.ran (looks-ran (view_of y) (view_of z) t.looks) s.apart (season-spares (view_of y) (view_of z) t.looks));
    }

pub returns-in-Full-clause-leaves : goal.returns-in-Full-clause-leaves
returns-in-Full-clause-leaves g c =
    let s = c.safe_point.ensures in
    leaves-join (view_of c.args.seat.now) (view_of c.loop.seat) (view_of c.safe_point.new.seat) c.loop.invariant.leaves (leaves-spared (view_of c.loop.seat) (view_of c.safe_point.new.seat) s.ran s.spares s.keeps.0)

pub returns-then-is_turn-clause-leaves : goal.returns-then-is_turn-clause-leaves
returns-then-is_turn-clause-leaves g c =
    let x = view_of c.loop.seat in
    let y = view_of c.safe_point.new.seat in
    let z = view_of c.is_turn.new.seat in
    let s = c.safe_point.ensures in
    leaves-join (view_of c.args.seat.now) x z c.loop.invariant.leaves (leaves-join x y z (leaves-spared x y s.ran s.spares s.keeps.0) (leaves-looked y z c.is_turn.ensures.looks))

pub loop-init : goal.loop-init
loop-init g c = record { next = tt; finite = tt; works = c.requires.works; cached = c.requires.cache; same = refl; ran = ran-refl (view_of c.args.seat.now); leaves = leaves-none (view_of c.args.seat.now); quiet = calm-none c.args.cache (view_of c.args.seat.now); since = inl refl; apart = only-none spares_blocks (view_of c.args.seat.now) }

pub returns-in-Full-clause-full : goal.returns-in-Full-clause-full
returns-in-Full-clause-full g c =
    let a = view_of c.args.seat.now in
    let x = view_of c.loop.seat in
    let y = view_of c.safe_point.new.seat in
    let s = c.safe_point.ensures in
    let i = c.loop.invariant in
    let full = full-cause x y c.in-Full.ensures.safe.read in
    let here : Calm c.loop.cache None x y =
    record { calm = s.calm; not_full = s.not_full; unbegun = s.unbegun; numbers = c.in-Full.ensures.numbers; pops = s.pops; helps = s.helps; cause = inr full } in
    let all = ran-events a x y i.ran s.ran in
    polls-by c.args.cache None a y (calm-join c.args.cache c.loop.cache None a x y i.quiet here) (ap (some_event polls) all ∙ some-right polls (events a x) (events x y) s.polled)
    (λ n. absurd (true≢false (sym (ap (some_event hinders) all ∙ some-right hinders (events a x) (events x y) full) ∙ not-true _ n)))

pub returns-then-is_turn-clause-polls : goal.returns-then-is_turn-clause-polls
returns-then-is_turn-clause-polls g c =
    let a = view_of c.args.seat.now in
    let x = view_of c.loop.seat in
    let y = view_of c.safe_point.new.seat in
    let z = view_of c.is_turn.new.seat in
    let s = c.safe_point.ensures in
    let t = c.is_turn.ensures in
    let i = c.loop.invariant in
    let kept = c.in-Going.kept in
    let safe = c.in-Going.ensures.safe in
    let here : Calm c.loop.cache kept x y =
    record { calm = s.calm; not_full = s.not_full; unbegun = s.unbegun; numbers = c.in-Going.ensures.numbers; pops = s.pops; helps = s.helps; cause = passes-cause c.loop.cache kept _ x y safe } in
    let looked = looks-ran y z t.looks in
    let later = ran-join x y z s.ran looked in
    polls-by c.args.cache kept a z (calm-join c.args.cache c.loop.cache kept a x z i.quiet (calm-join c.loop.cache kept kept x y z here (calm-looked kept y z t.looks)))
    (ap (some_event polls) (ran-events a x z i.ran later)
    ∙ some-right polls (events a x) (events x z) (ap (some_event polls) (ran-events x y z s.ran looked) ∙ some-left polls (events x y) (events y z) s.polled))
    (turn-looks c.loop.cache kept _ 1 a x y z i.ran s.ran looked i.since safe t.looks t.known (t.turn c.if-is_turn.true))

pub returns-in-Full-clause-untold : goal.returns-in-Full-clause-untold
returns-in-Full-clause-untold g c =
    let a = view_of c.args.seat.now in
    let x = view_of c.loop.seat in
    let y = view_of c.safe_point.new.seat in
    let i = c.loop.invariant in
    let s = c.safe_point.ensures in
    (ran-join a x y i.ran s.ran, ran-only spares_blocks a x y i.ran s.ran i.apart s.apart)

pub returns-then-is_turn-clause-untold : goal.returns-then-is_turn-clause-untold
returns-then-is_turn-clause-untold g c =
    let a = view_of c.args.seat.now in
    let x = view_of c.loop.seat in
    let y = view_of c.safe_point.new.seat in
    let z = view_of c.is_turn.new.seat in
    let i = c.loop.invariant in
    let s = c.safe_point.ensures in
    let t = c.is_turn.ensures in
    let looked = looks-ran y z t.looks in
    let later = ran-join x y z s.ran looked in
    (ran-join a x z i.ran later, ran-only spares_blocks a x z i.ran later i.apart (ran-only spares_blocks x y z s.ran looked s.apart (season-spares y z t.looks)))
