use Rattle.std.proofs.Common.{◌∙◌, sym}
use Rattle.std.proofs.lemmas.Bool.{OnTrue_at}
use Rattle.managed_heap_c.proofs.Unpacked.{takes-few}
use Rattle.managed_heap_c.proofs.unpacking.fields_in.Goals as goal

pub returns-in-Inside : goal.returns-in-Inside
returns-in-Inside c =
    let a = c.args in
    let t = c.take_fields in
    record {
      takes = (
        OnTrue_at c.if-not-can_take_fields.false c.can_take_fields.ensures.can,
        sym c.stage.ensures.stage ∙ c.in-Inside.is,
        t.ensures.takes,
        takes-few a.count a.v a.first a.stepper.now t.new.stepper t.ensures.takes,
      );
    }
