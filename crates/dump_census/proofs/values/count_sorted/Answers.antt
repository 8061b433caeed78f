use Rattle.std.proofs.Common.{refl, arith, take, length-take}
use Rattle.dump_census.proofs.Tally.{count_small, tally_more}
use Rattle.dump_census.proofs.values.count_sorted.Goals as goal

pub count_value-requires : goal.count_value-requires
count_value-requires c = λ i lt.
    omega (
      arith,
      count_small (take c.loop-value.value-index c.args.values.now) c.loop-value.counts.items i c.loop-value.invariant lt,
      length-take c.loop-value.value-index c.args.values.now,
      c.loop-value-test.true,
      c.requires.few,
    )

pub loop-value-preserved : goal.loop-value-preserved
loop-value-preserved c =
    tally_more c.args.values.now c.loop-value.value-index _ c.loop-value.counts.items c.count_value.new.counts.items c.requires.rising c.loop-value-test.true refl c.loop-value.invariant c.in-Ok.ensures
