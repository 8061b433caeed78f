use Rattle.shared_heap.proofs.Logs.{root-quiet, same-quiet}
use Rattle.example_heaps.proofs.Ended.{if-ok}
use Rattle.example_heaps.proofs.Joined.{raises-first, raises-last}
use Rattle.example_heaps.proofs.counting.act.Goals as goal

pub returns : goal.returns
returns g c =
    let v = c.args.m.now in
    let w = c.enter.new.self in
    let x = c.root.new.self in
    let y = c.raise.new.m in
    let z = c.leave.new.self in
    let n = c.args.times in
    let entered = if-ok c.enter.result _ c.if-is_err.ensures.value c.enter.ensures.entered in
    let rooted = if-ok c.root.result _ c.if-is_err-2.ensures.value c.root.ensures.done in
    record {
      raised =
          raises-first v y z n
          (raises-last v w y n (same-quiet v w entered.1.same) (raises-last w x y n (root-quiet _ w x 0 0 rooted.1) c.if-not-raise.ensures.raised))
          (same-quiet y z c.leave.ensures.left.same);
    }
