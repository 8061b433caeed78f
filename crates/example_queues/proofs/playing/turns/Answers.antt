use Rattle.std.proofs.Common.{ℕ, ◌≡◌, ◌+◌, List, [], subst, sym, take, Bool, true, false}
use Rattle.std.specs.Prelude.{if◌then◌else◌}
use Rattle.std.proofs.lemmas.Bool.{false≢true}
use Rattle.example_queues.specs.Logs.{Works}
use Rattle.example_queues.proofs.Worked.{works-all, works-more, works-none}
use Rattle.example_queues.proofs.playing.turns.Goals as goal

pub loop-number-init : goal.loop-number-init
loop-number-init g c = subst (λ (l : List ℕ). Works [] l c.args.m.now c.args.m.now) (sym c.new-taken.ensures.items) (works-none c.args.m.now)

-- what a push that had memory leaves
if_pushed : (test : Bool) (xs ys zs : List ℕ) → test ≡ true → zs ≡ (if test then xs else ys) → zs ≡ xs
if_pushed true xs ys zs e h = h
if_pushed false xs ys zs e h = absurd (false≢true e)

pub loop-number-preserved : goal.loop-number-preserved
loop-number-preserved g c =
    let i = c.loop-number.number-index in
    subst (λ (l : List ℕ). Works (take (i + 1) c.args.numbers.now) l c.args.m.now c.turn.new.m) (sym (if_pushed _ _ _ _ c.if-is_err.ensures.negation c.push.ensures.items))
    (works-more c.args.numbers.now c.loop-number.taken.items i c.in_ok-one.one c.args.m.now c.loop-number.m c.turn.new.m c.loop-number-test.true c.loop-number.invariant c.in_ok-one.ensures.works)

pub returns : goal.returns
returns g c = record { works = works-all c.args.numbers.now c.loop-number.taken.items c.loop-number.number-index c.args.m.now c.loop-number.m c.loop-number-test.false c.loop-number.invariant }
