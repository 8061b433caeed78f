use Rattle.std.proofs.Common.{◌≡◌, ◌+◌, get_or, sym, ap, ◌∙◌, subst, arith}
use Rattle.std.proofs.lemmas.Option.{slice_get-get_or}
use Rattle.gc_table.specs.Seats.{IsFresh, view_of}
use Rattle.plain_heap.specs.PlainRun.{plan_of}
use Rattle.mark_core.specs.declared.kinds.Shape.{Shape}
use Rattle.gc_play.proofs.playing.make_heap.Goals as goal

pub returns-in-Ok-clause-seats : goal.returns-in-Ok-clause-seats
returns-in-Ok-clause-seats c i d low =
    let e = c.in-Ok.ensures in
    let q = e.2 i (get_or c.in-Ok.made.1.items i d) (slice_get-get_or c.in-Ok.made.1.items i d low) in
    let z = c.shape_of-shape.ensures.same in
    record { sits = q.0; fresh = subst (λ (y : Shape). IsFresh y (plan_of c.args.script.now.sections) (0 + i) (view_of (get_or c.in-Ok.made.1.items i d))) (sym e.0) (subst (λ k. IsFresh c.shape_of-shape.result (plan_of c.args.script.now.sections) k (view_of (get_or c.in-Ok.made.1.items i d))) (let z0 : i ≡ 0 + i = omega arith in z0) q.1); owned = ap (λ (y : Shape). y.sharing) (e.0 ∙ z); sections = ap (λ (y : Shape). y.sections) (e.0 ∙ z); fields = ap (λ (y : Shape). y.fields) (e.0 ∙ z); objects = ap (λ (y : Shape). y.objects) (e.0 ∙ z) }
