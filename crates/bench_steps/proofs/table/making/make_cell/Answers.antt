use Rattle.std.proofs.Common.{◌≡◌, ◌+◌, ◌<◌, ◌∙◌, arith, ap, sym}
use Rattle.std.specs.Prelude.{is_some, slice_set}
use Rattle.mark_core.specs.Bits.{reference_in}
use Rattle.mark_core.specs.Steps.MutatorSteps.{with_made}
use Rattle.mark_core.specs.declared.kinds.Step.TheVariants.{StoreNew, StoreRoot}
use Rattle.mark_core.specs.declared.kinds.Shape.{Shape}
use Rattle.mark_core.specs.declared.seat.SeatState.{SeatState}
use Rattle.plain_heap.specs.declared.operation.Op.TheVariants.{New}
use Rattle.gc_table.specs.Seats.{view_of}
use Rattle.bench_steps.specs.Making.{MayMakeCells, maker}
use Rattle.bench_steps.proofs.Makers.{made-whole, made-some, four-at, asks-new, one-more, may-at, at-after, three_stored, identity-met, root-met, free-there, three-at}
use Rattle.bench_steps.proofs.table.making.make_cell.Goals as goal

pub store_new-requires-clause-asked : goal.store_new-requires-clause-asked
store_new-requires-clause-asked c first = let m = c.requires.makes.0 in m.objects ∙ sym (ap (λ (s : SeatState). s.made) m.at.2)

pub store_new-requires-4-clause-may : goal.store_new-requires-4-clause-may
store_new-requires-4-clause-may c =
    let h = c.args.heap.now in
    let x = c.args.seat.now in
    let m = c.requires.makes.0 in
    let d = c.make-c.result in
    let made : (view_of x).state.made ≡ m.made = ap (λ (s : SeatState). s.made) m.at.2 in
    let few : m.made < 2000000 = omega (arith, made, c.requires.few) in
    let small : d < 4096 = omega (arith, c.make-c.ensures, c.requires.cell) in
    let word : c.from-identity.result ≡ m.made = c.from-identity.ensures ∙ ap (λ (s : SeatState). s.made) c.state.ensures ∙ made in
    let free = free-there h x m d c.args.number c.requires.makes.1 c.make-c.ensures in
    let at = three-at h x c.store_new.new.seat c.store_new-2.new.seat c.store_new-3.new.seat m d c.from.result c.store_new.ensures.seat c.store_new.ensures.view c.store_new-2.ensures.seat c.store_new-2.ensures.view c.store_new-3.ensures.seat c.store_new-3.ensures.view in
    may-at h (maker m.phase m.season m.env (three_stored m.cache d) m.made) c.store_new-3.new.seat (StoreNew d 3 c.from-identity.result) at (λ w seats. identity-met m.phase m.season m.env m.cache m.made d c.from-identity.result w seats m.turn free small few word)

pub store_root-requires-clause-may : goal.store_root-requires-clause-may
store_root-requires-clause-may c =
    let h = c.args.heap.now in
    let x = c.args.seat.now in
    let m = c.requires.makes.0 in
    let d = c.make-c.result in
    let free = free-there h x m d c.args.number c.requires.makes.1 c.make-c.ensures in
    let four = four-at h x c.store_new.new.seat c.store_new-2.new.seat c.store_new-3.new.seat c.store_new-4.new.seat m d c.from.result c.from-identity.result c.store_new.ensures.seat c.store_new.ensures.view c.store_new-2.ensures.seat c.store_new-2.ensures.view c.store_new-3.ensures.seat c.store_new-3.ensures.view c.store_new-4.ensures.seat c.store_new-4.ensures.view in
    let names : c.from-2.result + 1 ≡ d + 1 = omega (arith, c.from-2.ensures, c.make-c.ensures) in
    may-at h (maker m.phase m.season m.env (with_made (three_stored m.cache d) d) (m.made + 1)) c.store_new-4.new.seat (StoreRoot 0 (c.from-2.result + 1)) four.0 (λ w seats. root-met m.phase m.season m.env m.cache (m.made + 1) d (c.from-2.result + 1) w seats m.turn free names)

pub store_root-requires-clause-asked : goal.store_root-requires-clause-asked
store_root-requires-clause-asked c =
    let h = c.args.heap.now in
    let x = c.args.seat.now in
    let y = c.store_new-4.new.seat in
    let m = c.requires.makes.0 in
    let d = c.make-c.result in
    let free = free-there h x m d c.args.number c.requires.makes.1 c.make-c.ensures in
    let four = four-at h x c.store_new.new.seat c.store_new-2.new.seat c.store_new-3.new.seat y m d c.from.result c.from-identity.result c.store_new.ensures.seat c.store_new.ensures.view c.store_new-2.ensures.seat c.store_new-2.ensures.view c.store_new-3.ensures.seat c.store_new-3.ensures.view c.store_new-4.ensures.seat c.store_new-4.ensures.view in
    let names : c.from-2.result + 1 ≡ d + 1 = omega (arith, c.from-2.ensures, c.make-c.ensures) in
    let asks = asks-new h y m.phase m.season m.env m.cache m.made d (c.from-2.result + 1) m.seen four.0 four.1 free names in
    (asks.0, λ alone. (New 0 (view_of y).own.meaning.value, asks))

pub returns : goal.returns
returns c =
    let h = c.args.heap.now in
    let x = c.args.seat.now in
    let y = c.store_new-4.new.seat in
    let z = c.store_root.new.seat in
    let m = c.requires.makes.0 in
    let d = c.make-c.result in
    let r = c.from-2.result + 1 in
    let free = free-there h x m d c.args.number c.requires.makes.1 c.make-c.ensures in
    let four = four-at h x c.store_new.new.seat c.store_new-2.new.seat c.store_new-3.new.seat y m d c.from.result c.from-identity.result c.store_new.ensures.seat c.store_new.ensures.view c.store_new-2.ensures.seat c.store_new-2.ensures.view c.store_new-3.ensures.seat c.store_new-3.ensures.view c.store_new-4.ensures.seat c.store_new-4.ensures.view in
    let names : c.from-2.result + 1 ≡ d + 1 = omega (arith, c.from-2.ensures, c.make-c.ensures) in
    let asks = asks-new h y m.phase m.season m.env m.cache m.made d r m.seen four.0 four.1 free names in
    let cache = with_made (three_stored m.cache d) d in
    let at = at-after h (maker m.phase m.season m.env cache (m.made + 1)) y z (StoreRoot 0 r) _ four.0 c.store_root.ensures.seat c.store_root.ensures.view in
    let objects = one-more y z r (view_of y).own.meaning.value (ap (λ (sh : Shape). sh.sharing) (four.0.1.1 ∙ four.0.0)) asks c.store_root.ensures.plain ∙ ap (λ k. k + 1) four.1 in
    let makes : MayMakeCells h z = record { phase = m.phase; season = m.season; env = slice_set m.env 0 (reference_in r); cache = cache; made = m.made + 1; seen = m.seen; turn = m.turn; whole = made-whole m.cache d; at = at; objects = objects } in
    (makes, ap (λ (s : SeatState). is_some s.cache) at.2 ∙ made-some m.cache d free, ap (λ (s : SeatState). s.made) at.2 ∙ ap (λ k. k + 1) (sym (ap (λ (s : SeatState). s.made) m.at.2)))
