use Rattle.example_queues.proofs.Queued.{queued}
use Rattle.example_queues.proofs.playing.run_queue.Goals as goal

pub returns : goal.returns
returns g c =
    let p = c.in_ok-world.field-0 in
    let l = c.in_ok-one.field-0 in
    record {
      queued =
          queued p.world p.first p.second p.maker c.come.new.m c.come-else-not-come.new.m c.lay.new.m c.line_up.new.first c.line_up.new.second c.line_up.new.maker c.let_go.new.m c.play.new.first c.play.new.second c.after.new.self c.after-else-not-after.new.self l.first l.second c.in_ok-words.words
          c.args.firsts.now c.in_ok-taken_first.taken_first.items c.args.seconds.now c.in_ok-taken_first.taken_second.items c.in_ok-world.ensures.new c.if-not-come.ensures.comes c.if-not-come-2.ensures.comes c.if-not-lay.ensures.laid c.in_ok-one.ensures.line c.in_ok-taken_first.ensures.first c.in_ok-taken_first.ensures.second c.if-not-let_go.ensures.gone c.if-not-after.ensures.after c.if-not-after-2.ensures.after
          c.threads_run.ensures c.queue_by_lending.ensures c.queue_by_name.ensures c.in_ok-words.ensures.ended;
    }
