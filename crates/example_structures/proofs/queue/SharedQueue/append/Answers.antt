use Rattle.std.proofs.Common.{arith, []}
use Rattle.example_structures.proofs.FitCalls.{get-fits, variable-fits, variable-fresh}
use Rattle.example_structures.proofs.FitLooks.{above, sees-last}
use Rattle.example_structures.proofs.FitQueue.{may-follow-seen}
use Rattle.example_structures.proofs.Carried.{carried-later, quiet-carried, quiet-get, quiet-own, quiet-variable}
use Rattle.example_structures.specs.Carrying.{if_won}
use Rattle.example_structures.proofs.queue.SharedQueue.append.Goals as goal

pub returns-then-is_nil-clause-fits : goal.returns-then-is_nil-clause-fits
returns-then-is_nil-clause-fits c = λ b p f.
    let k = sees-last c.args.self.queue c.args.self.caller c.args.m.now c.get.new.m c.see.new.m c.get.ensures.follows c.see.ensures.follows b p f in
    c.link.ensures.fits b k.fits (k.last, c.is_nil.ensures.nil c.if-is_nil.true, k.fresh)

pub returns-clause-fits : goal.returns-clause-fits
returns-clause-fits c = λ b p f.
    let q = c.args.self.queue in
    let low = c.args.self.caller in
    let k = sees-last q c.args.self.caller c.args.m.now c.get.new.m c.see.new.m c.get.ensures.follows c.see.ensures.follows b p f in
    let some = above _ (c.is_nil.ensures.some c.if-is_nil.false) in
    let moved = c.follow.ensures.fits b k.fits (may-follow-seen q b c.see.new.m (k.last (k.some some)) (k.behind some)) in
    let one = variable-fits c.follow.new.m c.forget.new.m q 21 0 (λ e. omega (arith, e, low)) c.forget.ensures.sets b moved.0 in (
      variable-fits c.forget.new.m c.forget-2.new.m q 22 0 (λ e. omega (arith, e, low)) c.forget-2.ensures.sets b one,
      variable-fresh c.forget.new.m c.forget-2.new.m q 22 0 b one (λ e. omega (arith, e)) c.forget-2.ensures.sets
          (variable-fresh c.follow.new.m c.forget.new.m q 21 0 b moved.0 (λ e. omega (arith, e)) c.forget.ensures.sets (moved.1 k.fresh)),
    )

pub returns-then-is_nil-clause-numbers : goal.returns-then-is_nil-clause-numbers
returns-then-is_nil-clause-numbers c = λ b p f n had.
    let q = c.args.self.queue in
    let x = c.args.m.now in
    let y = c.get.new.m in
    let z = c.see.new.m in
    let k = sees-last q c.args.self.caller x y z c.get.ensures.follows c.see.ensures.follows b p f in
    let one = quiet-get x y 20 22 q 1 (λ e. omega (arith, e)) c.get.ensures.follows in
    let two = quiet-get y z 20 21 22 0 (λ e. omega (arith, e)) c.see.ensures.follows in
    let p1 = get-fits x y q 22 q 1 (λ e. let low = c.args.self.caller in omega (arith, e, low)) c.get.ensures.follows b p in
    let r = c.link.ensures.numbers b k.fits (k.last, c.is_nil.ensures.nil c.if-is_nil.true, k.fresh) n (quiet-own y z q b p1 two n (quiet-own x y q b p one n had)) in
    (carried-later q b x y c.link.new.m (if_won c.link.result n) [] (quiet-carried x y q b p 20 one) (carried-later q b y z c.link.new.m (if_won c.link.result n) [] (quiet-carried y z q b p1 20 two) r.0), r.1)

pub returns-clause-numbers : goal.returns-clause-numbers
returns-clause-numbers c = λ b p f n had.
    let q = c.args.self.queue in
    let low = c.args.self.caller in
    let x = c.args.m.now in
    let y = c.get.new.m in
    let z = c.see.new.m in
    let w = c.follow.new.m in
    let u = c.forget.new.m in
    let v = c.forget-2.new.m in
    let k = sees-last q c.args.self.caller x y z c.get.ensures.follows c.see.ensures.follows b p f in
    let some = above _ (c.is_nil.ensures.some c.if-is_nil.false) in
    let moved = c.follow.ensures.fits b k.fits (may-follow-seen q b z (k.last (k.some some)) (k.behind some)) in
    let p1 = get-fits x y q 22 q 1 (λ e. omega (arith, e, low)) c.get.ensures.follows b p in
    let p4 = variable-fits w u q 21 0 (λ e. omega (arith, e, low)) c.forget.ensures.sets b moved.0 in
    let one = quiet-get x y 20 22 q 1 (λ e. omega (arith, e)) c.get.ensures.follows in
    let two = quiet-get y z 20 21 22 0 (λ e. omega (arith, e)) c.see.ensures.follows in
    let three = c.follow.ensures.numbers b k.fits in
    let four = quiet-variable w u 20 21 0 (λ e. omega (arith, e)) c.forget.ensures.sets in
    let five = quiet-variable u v 20 22 0 (λ e. omega (arith, e)) c.forget-2.ensures.sets in (
      carried-later q b x y v [] [] (quiet-carried x y q b p 20 one)
          (carried-later q b y z v [] [] (quiet-carried y z q b p1 20 two)
          (carried-later q b z w v [] [] three.0 (carried-later q b w u v [] [] (quiet-carried w u q b moved.0 20 four) (quiet-carried u v q b p4 20 five)))),
      quiet-own u v q b p4 five n (quiet-own w u q b moved.0 four n (three.1 n (quiet-own y z q b p1 two n (quiet-own x y q b p one n had)))),
    )
