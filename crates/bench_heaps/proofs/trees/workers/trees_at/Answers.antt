use Rattle.std.proofs.Common.{◌-◌, ◌*◌, ◌^◌, ◌≤◌, arith}
use Rattle.std.proofs.Math.Nat.{pow-le-pow_right}
use Rattle.std.proofs.lemmas.Nat.{one_shl}
use Rattle.bench_heaps.proofs.trees.workers.trees_at.Goals as goal

pub returns-clause-few : goal.returns-clause-few
returns-clause-few c =
    let k = c.args.depth - 2 * c.args.i in
    let small : k ≤ 13 = omega (arith, c.requires.0) in
    let p : 2 ^ k ≤ 2 ^ 13 = pow-le-pow_right (omega arith) small in
    omega (arith, p, one_shl k 32 (omega (arith, small)))
