use Rattle.std.proofs.Common.{◌∙◌, ap, refl}
use Rattle.managed_heap_c.proofs.Unpacked.{takes-more, takes-none}
use Rattle.managed_heap_c.proofs.unpacking.take_fields.Goals as goal

pub loop-i-init : goal.loop-i-init
loop-i-init c = record { inside = c.requires.inside; fields = refl; takes = takes-none c.args.v c.args.first c.args.stepper.now }

pub loop-i-preserved : goal.loop-i-preserved
loop-i-preserved c =
    let i = c.loop-i.invariant in
    let e = c.take_field.ensures.takes in
    record {
      inside = e.0.inside;
      fields = ap (λ h. h.shape.fields) e.0.world ∙ i.fields;
      takes = takes-more c.loop-i.i c.args.v c.args.first c.args.stepper.now c.loop-i.stepper c.take_field.new.stepper i.takes e;
    }
