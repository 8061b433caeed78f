use Rattle.std.proofs.Common.{◌≡◌, ◌+◌, ◌++◌, List, [], ◌∷◌, length, Some, ap, arith}
use Rattle.std.proofs.lemmas.List.{length-append}
use Rattle.mark_core.specs.declared.kinds.Step.{Step}
use Rattle.mark_core.specs.declared.kinds.Step.TheVariants.{HoldRoot, StoreRoot}
use Rattle.alloc_cache.specs.Making.{making_steps}
use Rattle.mutator_ops.specs.Listing.{creating_steps}
use Rattle.mutator_ops.specs.Sharing.{next_word}
use Rattle.mark_core.specs.declared.kinds.Shape.{Shape}
use Rattle.gc_table.specs.Seats.{view_of}
use Rattle.mutator_ops.proofs.Few.{at-most-steps, creating-long}
use Rattle.seat_turns.proofs.Held.{held-made, holds-shares}
use Rattle.seat_turns.proofs.Seats.{whole-cache}
use Rattle.seat_turns.proofs.sharing.make_shared_in.Goals as goal

pub returns-clause-few : goal.returns-clause-few
returns-clause-few c =
    let v = view_of c.args.seat.now in
    let k = c.in-Some.ensures.creates.1 in
    let fields = ap (λ (sh : Shape). sh.fields) c.requires.turn.holds.sits.1 in
    let long = creating-long v.shape.fields v.state c.args.v c.args.value c.in-Some._cell in
    let words : List Step = making_steps v.shape.fields c.in-Some._cell c.args.value (next_word v.state) in
    let held : length (words ++ HoldRoot c.args.v (c.in-Some._cell + 1) ∷ []) ≡ length words + 1 = length-append words (HoldRoot c.args.v (c.in-Some._cell + 1) ∷ []) in
    let stored : length (creating_steps v.shape.fields v.state c.args.v c.args.value c.in-Some._cell) ≡ length words + 1 = length-append words (StoreRoot c.args.v (c.in-Some._cell + 1) ∷ []) in
    at-most-steps (c.args.heap.now.shape.fields + 3) v (view_of c.share_create.new.seat) (words ++ HoldRoot c.args.v (c.in-Some._cell + 1) ∷ []) k.steps_are (omega (arith, fields, long, held, stored))

pub share_create-requires-clause-seat : goal.share_create-requires-clause-seat
share_create-requires-clause-seat c = holds-shares c.args.heap.now c.args.seat.now c.requires.turn c.requires.shared

pub returns-clause-turn : goal.returns-clause-turn
returns-clause-turn c =
    held-made c.args.heap.now c.args.seat.now c.share_create.new.seat c.args.v c.args.value c.in-Some._cell c.requires.turn c.share_create.ensures.seat c.requires.range c.in-Some.ensures.creates.1
    (whole-cache (Some _) (view_of c.share_create.new.seat) c.share_create.ensures.cache)
