use Rattle.std.proofs.Common.{◌∙◌, refl}
use Rattle.managed_heap_c.proofs.Made.{sets-more, sets-none}
use Rattle.managed_heap_c.proofs.making.set_all.Goals as goal

pub loop-i-init : goal.loop-i-init
loop-i-init c = record { inside = c.requires.inside; fields = refl; sets = sets-none c.args.v c.args.fields.now c.args.stepper.now }

pub loop-i-preserved : goal.loop-i-preserved
loop-i-preserved c =
    let i = c.loop-i.invariant in
    let e = c.set_given.ensures in
    record {
      inside = e.inside;
      fields = e.fields ∙ i.fields;
      sets = sets-more c.loop-i.i c.args.v c.args.fields.now c.args.stepper.now c.loop-i.stepper c.set_given.new.stepper i.sets e.sets;
    }
