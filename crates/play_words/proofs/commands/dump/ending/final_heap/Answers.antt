use Rattle.std.proofs.Common.{◌≡◌, ◌∙◌, ap, sym, subst, arith, ℕ, length}
use Rattle.std.proofs.lemmas.Result.{IfOk-weaker}
use Rattle.heap_dump.specs.Final.{DumpedHeap, HasDump}
use Rattle.heap_dump.specs.Told.{heap_told}
use Rattle.play_words.specs.Final.{IsFinalHeap}
use Rattle.play_words.specs.DumpTelling.{ArePlaced, HasFields, cell_of_survivor}
use Rattle.play_words.proofs.FinalHeap.Reached.{are-placed}
use Rattle.play_words.proofs.FinalHeap.Told.{has-fields}
use Rattle.play_words.proofs.FinalHeap.Made.{is-made, roots-within}
use Rattle.play_words.proofs.commands.dump.ending.final_heap.Goals as goal

pub number_cells-requires : goal.number_cells-requires
number_cells-requires c =
    let w = c.args.words.now in
    let count : length w.idents.items ≡ c.len.result = omega (arith, c.len.ensures, w.idents.ok) in
    subst (ArePlaced c.args.report.now) count (are-placed c.args.script.now.sections c.args.report.now w c.requires)

pub tell_roots-requires : goal.tell_roots-requires
tell_roots-requires c =
    let w = c.args.words.now in
    let count : length c.deref.result.now ≡ length w.idents.items = ap length c.deref.ensures.value ∙ (c.in-Ok.ensures.count ∙ (let long : c.len.result ≡ length w.idents.items = omega (arith, c.len.ensures, w.idents.ok) in long)) in
    roots-within c.args.script.now.sections c.args.report.now w c.requires c.deref.result.now c.deref-2.result.now count c.deref-2.ensures.value

pub tell_survivors-requires-clause-placed : goal.tell_survivors-requires-clause-placed
tell_survivors-requires-clause-placed c =
    let w = c.args.words.now in
    let count : length c.deref-3.result.now ≡ length w.idents.items = ap length c.deref-3.ensures.value ∙ (c.in-Ok.ensures.count ∙ (let long : c.len.result ≡ length w.idents.items = omega (arith, c.len.ensures, w.idents.ok) in long)) in
    subst (ArePlaced c.args.report.now) (sym count) (are-placed c.args.script.now.sections c.args.report.now w c.requires)

pub tell_survivors-requires-clause-fields : goal.tell_survivors-requires-clause-fields
tell_survivors-requires-clause-fields c =
    λ k x at.
    let w = c.args.words.now in
    let r = c.args.report.now in
    let count : length c.deref-3.result.now ≡ length w.idents.items = ap length c.deref-3.ensures.value ∙ (c.in-Ok.ensures.count ∙ (let long : c.len.result ≡ length w.idents.items = omega (arith, c.len.ensures, w.idents.ok) in long)) in
    subst (λ (f : ℕ). HasFields w f (length c.deref-3.result.now) (cell_of_survivor r x)) (sym c.fields-fields.ensures.same)
    (subst (λ (n : ℕ). HasFields w c.args.script.now.sections.fields n (cell_of_survivor r x)) (sym count) (has-fields c.args.script.now.sections r w c.requires k x at))

pub make-requires-clause-legal : goal.make-requires-clause-legal
make-requires-clause-legal c =
    (is-made c.args.script.now.sections c.args.report.now c.args.words.now c.requires c.len.result c.fields-fields.result c.count_sections.result c.in-Ok.numbers.items c.deref.result.now c.deref-3.result.now c.deref-2.result.now c.in-Ok-tell_roots.roots.items
    c.deref-4.result.now c.in-Ok-tell_survivors.records.items c.deref-5.result.now
    (record { some = omega (arith, c.fields-fields.ensures); few = omega (arith, c.fields-fields.ensures); sections = omega (arith, c.count_sections.ensures); short = c.seasons-seasons.ensures.few })
    (omega (arith, c.len.ensures, c.args.words.now.idents.ok)) c.fields-fields.ensures.same c.count_sections.ensures.same c.in-Ok.ensures c.deref.ensures.value c.deref-2.ensures.value c.in-Ok-tell_roots.ensures c.deref-4.ensures.value c.deref-3.ensures.value
    c.in-Ok-tell_survivors.ensures c.deref-5.ensures.value).legal

pub make-requires-clause-rest : goal.make-requires-clause-rest
make-requires-clause-rest c =
    (is-made c.args.script.now.sections c.args.report.now c.args.words.now c.requires c.len.result c.fields-fields.result c.count_sections.result c.in-Ok.numbers.items c.deref.result.now c.deref-3.result.now c.deref-2.result.now c.in-Ok-tell_roots.roots.items
    c.deref-4.result.now c.in-Ok-tell_survivors.records.items c.deref-5.result.now
    (record { some = omega (arith, c.fields-fields.ensures); few = omega (arith, c.fields-fields.ensures); sections = omega (arith, c.count_sections.ensures); short = c.seasons-seasons.ensures.few })
    (omega (arith, c.len.ensures, c.args.words.now.idents.ok)) c.fields-fields.ensures.same c.count_sections.ensures.same c.in-Ok.ensures c.deref.ensures.value c.deref-2.ensures.value c.in-Ok-tell_roots.ensures c.deref-4.ensures.value c.deref-3.ensures.value
    c.in-Ok-tell_survivors.ensures c.deref-5.ensures.value).rest

pub returns-clause-heap : goal.returns-clause-heap
returns-clause-heap c =
    let s = c.args.script.now.sections in
    let h : DumpedHeap = heap_told c.fields-fields.result c.count_sections.result c.deref-4.result.now c.deref-5.result.now in
    let made : IsFinalHeap s h =
    (is-made c.args.script.now.sections c.args.report.now c.args.words.now c.requires c.len.result c.fields-fields.result c.count_sections.result c.in-Ok.numbers.items c.deref.result.now c.deref-3.result.now c.deref-2.result.now c.in-Ok-tell_roots.roots.items
    c.deref-4.result.now c.in-Ok-tell_survivors.records.items c.deref-5.result.now
    (record { some = omega (arith, c.fields-fields.ensures); few = omega (arith, c.fields-fields.ensures); sections = omega (arith, c.count_sections.ensures); short = c.seasons-seasons.ensures.few })
    (omega (arith, c.len.ensures, c.args.words.now.idents.ok)) c.fields-fields.ensures.same c.count_sections.ensures.same c.in-Ok.ensures c.deref.ensures.value c.deref-2.ensures.value c.in-Ok-tell_roots.ensures c.deref-4.ensures.value c.deref-3.ensures.value
    c.in-Ok-tell_survivors.ensures c.deref-5.ensures.value).final in
    IfOk-weaker c.make.result (λ x. x ≡ h) (IsFinalHeap s) (λ x is. subst (IsFinalHeap s) (sym is) made) c.make.ensures

pub returns-clause-legal : goal.returns-clause-legal
returns-clause-legal c =
    let h : DumpedHeap = heap_told c.fields-fields.result c.count_sections.result c.deref-4.result.now c.deref-5.result.now in
    let made : HasDump h =
    (is-made c.args.script.now.sections c.args.report.now c.args.words.now c.requires c.len.result c.fields-fields.result c.count_sections.result c.in-Ok.numbers.items c.deref.result.now c.deref-3.result.now c.deref-2.result.now c.in-Ok-tell_roots.roots.items
    c.deref-4.result.now c.in-Ok-tell_survivors.records.items c.deref-5.result.now
    (record { some = omega (arith, c.fields-fields.ensures); few = omega (arith, c.fields-fields.ensures); sections = omega (arith, c.count_sections.ensures); short = c.seasons-seasons.ensures.few })
    (omega (arith, c.len.ensures, c.args.words.now.idents.ok)) c.fields-fields.ensures.same c.count_sections.ensures.same c.in-Ok.ensures c.deref.ensures.value c.deref-2.ensures.value c.in-Ok-tell_roots.ensures c.deref-4.ensures.value c.deref-3.ensures.value
    c.in-Ok-tell_survivors.ensures c.deref-5.ensures.value).legal in
    IfOk-weaker c.make.result (λ x. x ≡ h) HasDump (λ x is. subst HasDump (sym is) made) c.make.ensures
