use Rattle.std.proofs.Common.{◌≡◌, ◌≤◌, ◌+◌, ◌++◌, ◌∷◌, [], ℕ, map, length, ap, ◌∙◌, arith}
use Rattle.std.proofs.lemmas.List.{length-map}
use Rattle.plain_heap.specs.Sections.{Parts}
use Rattle.gc_script.specs.Finished.{parts_shown}
use Rattle.gc_script.proofs.Numbering.{numbered_first, numbered_next, numbered_last, numbered_here, none_left}
use Rattle.gc_script.proofs.finish.numbered_sections.Goals as goal

pub overflow_cast-number : goal.overflow_cast-number
overflow_cast-number c =
    let here = numbered_here c.args.fields _ c.loop-parts.sections.items _ _ _ c.loop-parts.invariant.2 (ap (map parts_shown) c.in-Some.ensures.steps.0) in
    omega (arith, here.0, c.loop-parts.sections.ok.0, c.len.ensures)

pub overflow_add-number : goal.overflow_add-number
overflow_add-number c =
    let here = numbered_here c.args.fields _ c.loop-parts.sections.items _ _ _ c.loop-parts.invariant.2 (ap (map parts_shown) c.in-Some.ensures.steps.0) in
    omega (arith, here.0, c.loop-parts.sections.ok.0, c.len.ensures)

pub make-requires : goal.make-requires
make-requires c = (numbered_here c.args.fields _ c.loop-parts.sections.items _ _ _ c.loop-parts.invariant.2 (ap (map parts_shown) c.in-Some.ensures.steps.0)).1

pub loop-parts-init : goal.loop-parts-init
loop-parts-init c =
    let many = length-map c.args.warehouses.items parts_shown in
    let few : length (map parts_shown c.args.warehouses.items) ≤ 32 = omega (arith, c.requires.few) in
    (tt, tt, numbered_first c.args.fields _ _ _ c.requires.small few c.new-sections.ensures.items (ap (map parts_shown) c.into_iter-parts-iterator.ensures.into_iter_gives.0))

pub loop-parts-preserved : goal.loop-parts-preserved
loop-parts-preserved c =
    let number : c.len.result ≡ length c.loop-parts.sections.items = omega (arith, c.loop-parts.sections.ok.0, c.len.ensures) in
    let made : c.make.result ≡ record { number = length c.loop-parts.sections.items + 1; fields = c.args.fields; parts = parts_shown c.in-Some.parts } =
    c.make.ensures ∙ ap (λ (n : ℕ). record { number = n + 1; fields = c.args.fields; parts = parts_shown c.in-Some.parts }) number in (
      tt,
      tt,
      numbered_next c.args.fields _ c.loop-parts.sections.items c.push.new.self.items _ _ _ c.loop-parts.invariant.2 (ap (map parts_shown) c.in-Some.ensures.steps.0)
          (c.in-Ok.ensures.items ∙ ap (λ (x : Parts). c.loop-parts.sections.items ++ x ∷ []) made),
    )

pub returns : goal.returns
returns c =
    let none : length c.loop-parts.parts-iterator.rest.items ≡ 0 = omega (arith, c.loop-parts.parts-iterator.rest.ok.0, c.in-None.ensures.steps.0) in
    numbered_last c.args.fields _ _ _ c.loop-parts.invariant.2 (ap (map parts_shown) (none_left _ none))
