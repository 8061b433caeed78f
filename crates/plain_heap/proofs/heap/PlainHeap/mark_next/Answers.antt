use Rattle.std.proofs.Common.{◌≡◌, subst, sym, refl, ap, ◌∙◌, OnOk, List}
use Rattle.std.specs.Prelude.{Contains, slice_get, Some}
use Rattle.std.proofs.lemmas.Option.{slice_get_read}
use Rattle.plain_heap.specs.declared.object.Ref.{Ref}
use Rattle.plain_heap.specs.declared.object.Ref.TheVariants as refs
use Rattle.plain_heap.specs.declared.object.Object.{Object}
use Rattle.plain_heap.specs.PlainHeap.{Heap}
use Rattle.plain_heap.specs.Marking.{Marks, refs_in, refs_at}
use Rattle.plain_heap.proofs.heap.PlainHeap.mark_next.Goals as goal

pub returns-in-Some : goal.returns-in-Some
returns-in-Some c =
    let l = c.in-Some.ensures.lookup in
    let there = slice_get_read _ _ _ _ refl l.3.0 l.1 in
    let here : slice_get c.self.inside.objects.items c.args.n ≡ Some c.in-Some.object.now = ap (λ (xs : List Object). slice_get xs c.args.n) (sym c.deref.ensures.value) ∙ there in
    let same : refs_at c.args.self.now c.args.n ≡ c.in-Some.object.now.refs = ap (λ (h : Heap). refs_at h c.args.n) (sym c.self.view_is) ∙ ap refs_in here in
    subst (λ (rs : List Ref). OnOk c.mark_all.result (Marks (λ m. Contains rs (refs.Own m)) c.args.marks.now.items c.mark_all.new.marks.items c.args.waiting.now.items c.mark_all.new.waiting.items)) (sym same) c.mark_all.ensures
