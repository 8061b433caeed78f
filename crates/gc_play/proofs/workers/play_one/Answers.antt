use Rattle.std.proofs.Common.{ℕ, ◌≡◌, ◌+◌, ◌-◌, ◌≤◌, length, get_or, sym, ap, ◌∙◌, subst, arith}
use Rattle.std.proofs.lemmas.List.{length-map}
use Rattle.std.proofs.lemmas.Bool.{true≢false, ne_eqb}
use Rattle.plain_heap.specs.Sections.{Sections, Parts, section_of, counted, warehouse_sections}
use Rattle.warehouse.specs.Playing.{MayPlay}
use Rattle.gc_play.specs.Dealing.{seat_number, OneEnds}
use Rattle.gc_play.proofs.Parts.{counted-long, counted-at, may-play, one-ends}
use Rattle.gc_play.proofs.workers.play_one.Goals as goal

pub bounds-warehouses-number : goal.bounds-warehouses-number
bounds-warehouses-number g c =
    let s = c.args.script.now.sections in
    let w = c.requires.before.warehouse in
    let n = c.number.ensures in
    let e = ap length c.warehouses.ensures.same in
    omega (arith, w.first, w.last, n, e, length-map (counted 1 (length s.warehouses)) (section_of s), counted-long 1 (length s.warehouses))

-- what stands at a warehouse's place
at-place : (s : Sections) (w n : ℕ) (a : Parts) (xs : _) → xs ≡ warehouse_sections s → 1 ≤ w → w ≤ length s.warehouses → n ≡ w → a ≡ get_or xs (n - 1) a → a ≡ section_of s w
at-place s w n a xs e low high same is =
    is ∙ (ap (λ l. get_or l (n - 1) a) e ∙ (counted-at s 1 (length s.warehouses) (n - 1) a (omega (arith, low, high, same)) ∙ ap (section_of s) (let k : 1 + (n - 1) ≡ w = omega (arith, low, same) in k)))

pub play_part-requires : goal.play_part-requires
play_part-requires g c =
    let s = c.args.script.now.sections in
    let b = c.requires.before in
    let w = seat_number c.args.mutator.now in
    let place = at-place s w c.number.result c.index-warehouses-number.result c.warehouses.result.now c.warehouses.ensures.same b.warehouse.first b.warehouse.last c.number.ensures c.index-warehouses-number.is in
    subst (λ (a : Parts). MayPlay c.args.heap.now a c.args.season c.args.mutator.now) (sym place)
    (may-play c.args.heap.now s w c.args.season c.args.mutator.now c.requires.season (λ none. absurd (true≢false (sym none ∙ ne_eqb w 0 (λ z. omega (arith, z, b.warehouse.first))))) b.played)

ends : (g : _) (c : goal.After-play_part g) → OneEnds c.play_part.result c.args.heap.now c.args.script.now.sections c.args.season c.play_part.new.mutator × (seat_number c.play_part.new.mutator ≡ seat_number c.args.mutator.now)
ends g c =
    let s = c.args.script.now.sections in
    let b = c.requires.before in
    let place = at-place s (seat_number c.args.mutator.now) c.number.result c.index-warehouses-number.result c.warehouses.result.now c.warehouses.ensures.same b.warehouse.first b.warehouse.last c.number.ensures c.index-warehouses-number.is in
    one-ends c.play_part.result c.args.heap.now s c.args.season c.args.mutator.now c.play_part.new.mutator c.index-warehouses-number.result place b.warehouse b.played c.play_part.ensures

pub returns-clause-part : goal.returns-clause-part
returns-clause-part g c = (ends g c).0

pub returns-clause-number : goal.returns-clause-number
returns-clause-number g c = (ends g c).1
