use Rattle.std.proofs.Common.{◌<◌, refl, ap, ◌∙◌, subst, inr, Option, Some, None, []}
use Rattle.std.specs.Prelude.{is_some, IfNone}
use Rattle.mark_core.specs.Layout.{block_count}
use Rattle.mark_core.specs.declared.kinds.Phase.TheVariants.{Idle, Full}
use Rattle.mark_core.specs.declared.kinds.Shape.{Shape}
use Rattle.gc_table.specs.Seats.{view_of}
use Rattle.gc_table.specs.declared.view.View.{View}
use Rattle.gc_table.proofs.Running.{ran-join, ran-section, ran-stored, ran-found}
use Rattle.gc_cycle.proofs.Ends.Completing.{part-exact}
use Rattle.cache_refills.proofs.Refills.Filling.{full-claims, full-fills, full-told, looked-missed, may-fill, may-name, named-asked, named-kept, named-part}
use Rattle.cache_refills.proofs.Stops.InStop.{claims-alone, claims-later, may-claim, quiet-claim, quiet-join, quiet-part, rests-later, unfills, ClaimsNone}
use Rattle.gc_cycle.proofs.Parts.{part-finishes}
use Rattle.cache_refills.proofs.Refills.Rounds.{some-blocks}
use Rattle.alloc_cache.specs.Claiming.{seeks_block}
use Rattle.mark_core.specs.declared.kinds.Step.TheVariants.{StoreNamed, StorePhase}
use Rattle.mark_core.specs.Effects.{written}
use Rattle.gc_table.specs.Log.{Only}
use Rattle.alloc_cache.specs.declared.cache.Cache.{Cache}
use Rattle.gc_cycle.proofs.Changes.{by-join, changes-after, numbers-one, only-changes, claim-any}
use Rattle.gc_cycle.specs.Statistics.{taken}
use Rattle.cache_refills.proofs.Stops.InStops.{unbegun-after, unbegun-any, unbegun-join, unbegun-part, unended-after, unended-any, unended-join, unended-part}
use Rattle.gc_cycle.specs.Mutating.{spares_world}
use Rattle.gc_table.proofs.History.Log.{only-after}
use Rattle.cache_refills.proofs.Stops.Told.{claims-untold, part-untold}
use Rattle.cache_refills.proofs.Telling.{untold-join}
use Rattle.cache_refills.proofs.claiming.claim_or_fill.Goals as goal

pub store_named-requires-clause-may : goal.store_named-requires-clause-may
store_named-requires-clause-may c =
    let u : View = view_of c.args.seat.now in
    let v : View = view_of c.all_allocated.new.seat in
    let p = c.all_allocated.ensures.part in
    may-name v p.alone (ap (λ o. is_some o) (ran-section u v p.ran) ∙ c.requires.alone.1.section)

pub store_phase-requires-clause-may : goal.store_phase-requires-clause-may
store_phase-requires-clause-may c =
    let u : View = view_of c.args.seat.now in
    let v : View = view_of c.all_allocated.new.seat in
    let w : View = view_of c.store_named.new.seat in
    let p = c.all_allocated.ensures.part in
    let s = c.store_named.ensures.view in
    let full = c.if-all_allocated.ensures.full refl in
    may-fill w (named-part v w s p.alone).alone (ap (λ (x : View). x.state.exact) s ∙ (part-exact Idle u v p ∙ c.requires.exact))
    (named-kept v w s p.alone (λ b l. full.noted b (subst (λ (sh : Shape). b < block_count sh) c.all_allocated.ensures.seat.1 l)))

pub store_phase-requires-clause-asked : goal.store_phase-requires-clause-asked
store_phase-requires-clause-asked c = λ h.
    let u : View = view_of c.args.seat.now in
    let v : View = view_of c.all_allocated.new.seat in
    let p = c.all_allocated.ensures.part in
    named-asked v (view_of c.store_named.new.seat) c.store_named.ensures.view p.alone (ap (λ o. is_some o) (ran-section u v p.ran) ∙ c.requires.alone.1.section)

pub returns-then-all_allocated-clause-claims : goal.returns-then-all_allocated-clause-claims
returns-then-all_allocated-clause-claims c =
    let t = c.store_phase.ensures.view in
    full-claims (view_of c.args.seat.now) (view_of c.all_allocated.new.seat) (view_of c.store_named.new.seat) (view_of c.store_phase.new.seat) t.0 c.all_allocated.ensures.part c.requires.alone.1 c.store_named.ensures.view t.1 t.2

pub returns-then-all_allocated-clause-fills : goal.returns-then-all_allocated-clause-fills
returns-then-all_allocated-clause-fills c = λ before h.
    let t = c.store_phase.ensures.view in
    full-fills c.args.heap.now.shape (view_of c.args.seat.now) (view_of c.all_allocated.new.seat) (view_of c.store_named.new.seat) (view_of c.store_phase.new.seat) t.0 c.all_allocated.ensures.part (c.if-all_allocated.ensures.full refl) c.store_named.ensures.view t.1 t.2 before h

pub returns-then-all_allocated-clause-missed : goal.returns-then-all_allocated-clause-missed
returns-then-all_allocated-clause-missed c = λ before h.
    let t = c.store_phase.ensures.view in
    inr (full-told (view_of c.args.seat.now) (view_of c.all_allocated.new.seat) (view_of c.store_named.new.seat) (view_of c.store_phase.new.seat) t.0 c.all_allocated.ensures.part c.store_named.ensures.view t.1 t.2)

pub claim-requires : goal.claim-requires
claim-requires c =
    let u : View = view_of c.args.seat.now in
    let v : View = view_of c.all_allocated.new.seat in
    let p = c.all_allocated.ensures.part in
    record { seat = (c.all_allocated.ensures.seat, may-claim v p.alone (rests-later u v p.ran (part-finishes Idle u v p) u refl refl c.requires.alone.1)) }

pub returns-clause-claims : goal.returns-clause-claims
returns-clause-claims c =
    let u : View = view_of c.args.seat.now in
    let v : View = view_of c.all_allocated.new.seat in
    let w : View = view_of c.claim.new.seat in
    let p = c.all_allocated.ensures.part in
    let e = c.claim.ensures in
    claims-later c.claim.result u v w (quiet-part Idle u v p)
    (claims-alone c.claim.result c.args.heap.now.shape v w p.alone (rests-later u v p.ran (part-finishes Idle u v p) u refl refl c.requires.alone.1) e.ran e.some e.none)

pub returns-clause-missed : goal.returns-clause-missed
returns-clause-missed c = λ before h.
    let e = c.claim.ensures in
    let some : 0 < block_count c.args.heap.now.shape = subst (λ (s : Shape). 0 < block_count s) c.requires.seat.1 (some-blocks (view_of c.args.seat.now) c.args.seat.now.possible) in
    looked-missed c.args.heap.now.shape c.claim.result (view_of c.args.seat.now) (view_of c.all_allocated.new.seat) (view_of c.claim.new.seat) some c.all_allocated.ensures.part c.if-all_allocated.ensures.free e.ran e.none before h

pub returns-clause-fills : goal.returns-clause-fills
returns-clause-fills c = λ before h.
    let u : View = view_of c.args.seat.now in
    let v : View = view_of c.all_allocated.new.seat in
    let w : View = view_of c.claim.new.seat in
    let e = c.claim.ensures in
    unfills c.args.heap.now.shape before u w (quiet-join u v w (quiet-part Idle u v c.all_allocated.ensures.part) (quiet-claim c.claim.result c.args.heap.now.shape v w e.ran e.some e.none)).spares

none-only : (sh : Shape) (o : Option Cache) (v w : View) → IfNone o (ClaimsNone sh v w) → IfNone o (Only seeks_block v w)
none-only sh None v w n = n.3
none-only sh (Some h) v w n = tt

pub returns-then-all_allocated-clause-numbers : goal.returns-then-all_allocated-clause-numbers
returns-then-all_allocated-clause-numbers c =
    let u : View = view_of c.args.seat.now in
    let v : View = view_of c.all_allocated.new.seat in
    let w : View = view_of c.store_named.new.seat in
    let x : View = view_of c.store_phase.new.seat in
    let a = c.all_allocated.ensures in
    let s = c.store_named.ensures.view in
    let t = c.store_phase.ensures.view in
    let named = changes-after v w StoreNamed (written v.shape v.state StoreNamed 0) refl (ran-stored v w StoreNamed refl s) s in
    let full = changes-after w x (StorePhase Full) t.0 refl (ran-found w x (StorePhase Full) t.0 refl (t.1, t.2)) t.1 in
    numbers-one [] u x (by-join [] [] u v x (only-changes u v a.part.ran a.numbers) (by-join [] [] v w x named full))

pub returns-clause-numbers : goal.returns-clause-numbers
returns-clause-numbers c =
    let u : View = view_of c.args.seat.now in
    let v : View = view_of c.all_allocated.new.seat in
    let w : View = view_of c.claim.new.seat in
    let a = c.all_allocated.ensures in
    let e = c.claim.ensures in
    let o = c.claim.result in
    numbers-one (taken o) u w (by-join [] (taken o) u v w (only-changes u v a.part.ran a.numbers) (claim-any o v w e.ran e.some (none-only c.args.heap.now.shape o v w e.none)))

pub returns-then-all_allocated-clause-unbegun : goal.returns-then-all_allocated-clause-unbegun
returns-then-all_allocated-clause-unbegun c =
    let u : View = view_of c.args.seat.now in
    let v : View = view_of c.all_allocated.new.seat in
    let w : View = view_of c.store_named.new.seat in
    let x : View = view_of c.store_phase.new.seat in
    let a = c.all_allocated.ensures.part in
    let s = c.store_named.ensures.view in
    let t = c.store_phase.ensures.view in
    let named = ran-stored v w StoreNamed refl s in
    let full = ran-found w x (StorePhase Full) t.0 refl (t.1, t.2) in
    unbegun-join u v x a.ran (ran-join v w x named full) (unbegun-part Idle u v a)
    (unbegun-join v w x named full (unbegun-after v w StoreNamed (written v.shape v.state StoreNamed 0) refl s) (unbegun-after w x (StorePhase Full) t.0 refl t.1))

pub returns-clause-unbegun : goal.returns-clause-unbegun
returns-clause-unbegun c =
    let u : View = view_of c.args.seat.now in
    let v : View = view_of c.all_allocated.new.seat in
    let w : View = view_of c.claim.new.seat in
    let a = c.all_allocated.ensures.part in
    let e = c.claim.ensures in
    unbegun-join u v w a.ran e.ran (unbegun-part Idle u v a) (unbegun-any c.args.heap.now.shape c.claim.result v w e.some e.none)

pub returns-then-all_allocated-clause-unended : goal.returns-then-all_allocated-clause-unended
returns-then-all_allocated-clause-unended c =
    let u : View = view_of c.args.seat.now in
    let v : View = view_of c.all_allocated.new.seat in
    let w : View = view_of c.store_named.new.seat in
    let x : View = view_of c.store_phase.new.seat in
    let a = c.all_allocated.ensures.part in
    let s = c.store_named.ensures.view in
    let t = c.store_phase.ensures.view in
    let named = ran-stored v w StoreNamed refl s in
    let full = ran-found w x (StorePhase Full) t.0 refl (t.1, t.2) in
    unended-join u v x a.ran (ran-join v w x named full) (unended-part Idle u v a)
    (unended-join v w x named full (unended-after v w StoreNamed (written v.shape v.state StoreNamed 0) refl s) (unended-after w x (StorePhase Full) t.0 refl t.1))

pub returns-clause-unended : goal.returns-clause-unended
returns-clause-unended c =
    let u : View = view_of c.args.seat.now in
    let v : View = view_of c.all_allocated.new.seat in
    let w : View = view_of c.claim.new.seat in
    let a = c.all_allocated.ensures.part in
    let e = c.claim.ensures in
    unended-join u v w a.ran e.ran (unended-part Idle u v a) (unended-any c.args.heap.now.shape c.claim.result v w e.some e.none)

pub returns-then-all_allocated-clause-untold : goal.returns-then-all_allocated-clause-untold
returns-then-all_allocated-clause-untold c =
    let u : View = view_of c.args.seat.now in
    let v : View = view_of c.all_allocated.new.seat in
    let w : View = view_of c.store_named.new.seat in
    let x : View = view_of c.store_phase.new.seat in
    let s = c.store_named.ensures.view in
    let t = c.store_phase.ensures.view in
    untold-join u v x (part-untold Idle u v c.all_allocated.ensures.part)
    (untold-join v w x (ran-stored v w StoreNamed refl s, only-after spares_world v w StoreNamed (written v.shape v.state StoreNamed 0) refl s)
    (ran-found w x (StorePhase Full) t.0 refl (t.1, t.2), only-after spares_world w x (StorePhase Full) t.0 refl t.1))

pub returns-clause-untold : goal.returns-clause-untold
returns-clause-untold c =
    let u : View = view_of c.args.seat.now in
    let v : View = view_of c.all_allocated.new.seat in
    let w : View = view_of c.claim.new.seat in
    let e = c.claim.ensures in
    untold-join u v w (part-untold Idle u v c.all_allocated.ensures.part) (claims-untold c.args.heap.now.shape c.claim.result v w e.ran e.some e.none)
