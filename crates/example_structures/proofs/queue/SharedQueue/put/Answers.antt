use Rattle.std.proofs.Common.{ℕ, List, [], ◌∷◌, arith, rules, subst, sym, ◌+◌, ◌≡◌, ◌∙◌, Bool, true, false}
use Rattle.std.specs.Prelude.{if◌then◌else◌}
use Rattle.example_structures.specs.Queues.{Moves}
use Rattle.example_structures.proofs.Counted.{moves-before, moves-join, moves-later}
use Rattle.example_structures.proofs.FitCalls.{get-fits, same-fits, variable-fits}
use Rattle.example_structures.proofs.FitChanges.{made-fits, made-fresh}
use Rattle.example_structures.proofs.FitLooks.{if-lost}
use Rattle.example_structures.proofs.FitQueue.{may-keep-own}
use Rattle.example_structures.specs.Carrying.{Carried}
use Rattle.example_structures.proofs.Carried.{carried-before, carried-later, made-own, quiet-carried, quiet-get, quiet-made, quiet-same, quiet-variable}
use Rattle.example_structures.proofs.CarriedMoves.{none-done, put-next}
use Rattle.example_structures.proofs.queue.SharedQueue.put.Goals.{in-None, in-Some+then-is_in}
use Rattle.example_structures.proofs.queue.SharedQueue.put.Goals as goal

pub returns-in_err-make-clause-fits : goal.returns-in_err-make-clause-fits
returns-in_err-make-clause-fits g c = λ b p.
    let q = c.args.self.queue in
    let low = c.args.self.caller in
    same-fits c.begin.new.m c.make.new.m q c.in_err-make.ensures.same b (get-fits c.args.m.now c.begin.new.m q 20 20 1 (λ e. omega (arith, e, low)) c.in_ok-begin.ensures.follows b p)

pub loop-round-init : goal.loop-round-init
loop-round-init g c =
    let q = c.args.self.queue in
    let low = c.args.self.caller in
    record {
      next = search rules;
      finite = search rules;
      inside = c.keep.ensures.inside;
      world = c.keep.ensures.world ∙ (c.make.ensures.world ∙ c.begin.ensures.world);
      moves = moves-later c.args.m.now c.begin.new.m c.keep.new.m q 0 0 c.begin.ensures.none (moves-later c.begin.new.m c.make.new.m c.keep.new.m q 0 0 c.make.ensures.none c.keep.ensures.moves);
      fits =
          λ b p.
          let one = get-fits c.args.m.now c.begin.new.m q 20 20 1 (λ e. omega (arith, e, low)) c.in_ok-begin.ensures.follows b p in
          let fresh = made-fresh c.begin.new.m c.make.new.m q c.args.number b one c.in_ok-make.ensures.makes in
          let two = made-fits c.begin.new.m c.make.new.m 20 c.args.number c.in_ok-make.ensures.makes (omega arith) q (λ e. omega (arith, e, low)) b one in
          let kept = c.keep.ensures.fits b two (may-keep-own q b c.make.new.m fresh) in
          (kept.0, kept.1 fresh);
      numbers =
          λ b p.
          let x = c.args.m.now in
          let y = c.begin.new.m in
          let z = c.make.new.m in
          let w = c.keep.new.m in
          let one = get-fits x y q 20 20 1 (λ e. omega (arith, e, low)) c.in_ok-begin.ensures.follows b p in
          let two = made-fits y z 20 c.args.number c.in_ok-make.ensures.makes (omega arith) q (λ e. omega (arith, e, low)) b one in
          let own = made-own y z q b one c.args.number c.in_ok-make.ensures.makes in
          let kept = c.keep.ensures.numbers b two in (
            carried-later q b x y w [] [] (quiet-carried x y q b p 23 (quiet-get x y 23 20 20 1 (λ e. omega (arith, e)) c.in_ok-begin.ensures.follows))
                (carried-later q b y z w [] [] (quiet-carried y z q b one 23 (quiet-made y z 23 20 c.args.number (λ e. omega (arith, e)) c.in_ok-make.ensures.makes)) kept.0),
            kept.1 c.args.number own,
          );
    }

-- no node came in yet
none_yet : (b : Bool) → b ≡ false → (n : Bool) → (if b then 1 else 0) + (if n then 1 else 0) ≡ (if n then 1 else 0)
none_yet b e n = subst (λ (d : Bool). (if d then 1 else 0) + (if n then 1 else 0) ≡ (if n then 1 else 0)) (sym e) (omega arith)

pub loop-round-preserved : goal.loop-round-preserved
loop-round-preserved g c =
    let q = c.args.self.queue in
    let won = c.in_ok-is_in.is_in in
    let before = c.loop-round.invariant in
    record {
      next = tt;
      finite = tt;
      inside = c.in_ok-is_in.ensures.put.0;
      world = c.try_put.ensures.world ∙ before.world;
      moves =
          subst (λ n. Moves q n 0 c.args.m.now c.try_put.new.m) (none_yet c.loop-round.is_in c.if-is_in.false won)
          (moves-join c.args.m.now c.loop-round.m c.try_put.new.m q (if c.loop-round.is_in then 1 else 0) 0 (if won then 1 else 0) 0 before.moves c.in_ok-is_in.ensures.put.1);
      fits = λ b p. let k = before.fits b p in c.in_ok-is_in.ensures.fits b k.0 (if-lost b c.loop-round.m c.loop-round.is_in c.if-is_in.false k.1);
      numbers =
          λ b p.
          let k = before.fits b p in
          let n = before.numbers b p in
          let m = c.in_ok-is_in.ensures.numbers b k.0 (if-lost b c.loop-round.m c.loop-round.is_in c.if-is_in.false k.1) c.args.number n.1 in
          (put-next q b c.args.m.now c.loop-round.m c.try_put.new.m c.loop-round.is_in won c.args.number c.if-is_in.false n.0 m.0, m.1);
    }

pub returns-clause-put : goal.returns-clause-put
returns-clause-put g c =
    let q = c.args.self.queue in
    let won : c.loop-round.is_in ≡ true = elim c.match-next.branch [
      | in-None w ↦ search rules
      | in-Some+then-is_in w ↦ w.if-is_in.true
    ] in (
      c.forget.ensures.inside,
      moves-before c.args.m.now c.loop-round.m c.forget.new.m q 1 0 (subst (λ (b : Bool). Moves q (if b then 1 else 0) 0 c.args.m.now c.loop-round.m) won c.loop-round.invariant.moves) c.forget.ensures.none,
    )

pub returns-clause-fits : goal.returns-clause-fits
returns-clause-fits g c = λ b p. variable-fits c.loop-round.m c.forget.new.m c.args.self.queue 20 0 (λ e. let low = c.args.self.caller in omega (arith, e, low)) c.forget.ensures.sets b (c.loop-round.invariant.fits b p).0

pub returns-clause-numbers : goal.returns-clause-numbers
returns-clause-numbers g c = λ b p.
    let q = c.args.self.queue in
    let low = c.args.self.caller in
    let won : c.loop-round.is_in ≡ true = elim c.match-next.branch [
      | in-None w ↦ search rules
      | in-Some+then-is_in w ↦ w.if-is_in.true
    ] in
    let k = c.loop-round.invariant.numbers b p in
    let gone = quiet-variable c.loop-round.m c.forget.new.m 23 20 0 (λ e. omega (arith, e)) c.forget.ensures.sets in
    carried-before q b c.args.m.now c.loop-round.m c.forget.new.m (c.args.number ∷ []) []
    (subst (λ (i : Bool). Carried q b (if i then c.args.number ∷ [] else []) [] c.args.m.now c.loop-round.m) won k.0)
    (quiet-carried c.loop-round.m c.forget.new.m q b (c.loop-round.invariant.fits b p).0 23 gone)

pub returns-in_err-make-clause-numbers : goal.returns-in_err-make-clause-numbers
returns-in_err-make-clause-numbers g c = λ b p.
    let q = c.args.self.queue in
    let low = c.args.self.caller in
    let x = c.args.m.now in
    let y = c.begin.new.m in
    let z = c.make.new.m in
    let one = get-fits x y q 20 20 1 (λ e. omega (arith, e, low)) c.in_ok-begin.ensures.follows b p in
    subst (λ (ns : List ℕ). Carried q b ns [] x z) (none-done c.from_residual-in_err-make.result (c.args.number ∷ []) c.from_residual-in_err-make.ensures.0)
    (carried-later q b x y z [] [] (quiet-carried x y q b p 23 (quiet-get x y 23 20 20 1 (λ e. omega (arith, e)) c.in_ok-begin.ensures.follows)) (quiet-carried y z q b one 23 (quiet-same y z 23 c.in_err-make.ensures.same)))

pub returns-in_err-is_in-clause-fits : goal.returns-in_err-is_in-clause-fits
returns-in_err-is_in-clause-fits g c = λ b p.
    let k = c.loop-round.invariant.fits b p in
    (c.try_put.ensures.fits b k.0 (if-lost b c.loop-round.m c.loop-round.is_in c.if-is_in.false k.1)).0

pub returns-in_err-is_in-clause-numbers : goal.returns-in_err-is_in-clause-numbers
returns-in_err-is_in-clause-numbers g c = λ b p.
    let q = c.args.self.queue in
    let x = c.args.m.now in
    let y = c.loop-round.m in
    let k = c.loop-round.invariant.fits b p in
    let n = c.loop-round.invariant.numbers b p in
    let m = c.in_err-is_in.ensures.numbers b k.0 (if-lost b y c.loop-round.is_in c.if-is_in.false k.1) c.args.number n.1 in
    subst (λ (ns : List ℕ). Carried q b ns [] x c.try_put.new.m) (none-done c.from_residual-in_err-is_in.result (c.args.number ∷ []) c.from_residual-in_err-is_in.ensures.0)
    (carried-later q b x y c.try_put.new.m [] [] (subst (λ (i : Bool). Carried q b (if i then c.args.number ∷ [] else []) [] x y) c.if-is_in.false n.0) m.0)
