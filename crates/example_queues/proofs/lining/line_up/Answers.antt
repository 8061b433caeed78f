use Rattle.example_queues.proofs.Lined.{in-line}
use Rattle.example_queues.proofs.lining.line_up.Goals as goal

pub returns : goal.returns
returns c =
    let a = c.args.first.now in
    let b = c.args.second.now in
    let m = c.args.maker.now in
    record {
      line =
          in-line c.order_kept.ensures a c.stamp-one.new.self c.after-2.new.self c.stamp.new.self b c.stamp-two.new.self c.after-else-not-after-3.new.self c.stamp-2.new.self m c.after.new.self c.after-else-not-after.new.self c.stamp-laid.new.self c.stamp-again.new.self c.stamp-one.result c.stamp-two.result
          c.stamp-laid.result c.stamp-again.result c.stamp.result c.stamp-2.result c.requires.first c.requires.second c.stamp-one.ensures.stamps c.stamp-two.ensures.stamps c.if-not-after.ensures.after c.if-not-after-2.ensures.after c.stamp-laid.ensures.stamps c.stamp-again.ensures.stamps
          c.if-not-after-3.ensures.after c.if-not-after-4.ensures.after c.stamp.ensures.stamps c.stamp-2.ensures.stamps;
    }
