use Rattle.std.proofs.Common.{Some, None, true, refl, cond}
use Rattle.std.specs.Prelude.{◌==◌}
use Rattle.mark_core.specs.declared.kinds.Step.TheVariants.{ClaimBlock}
use Rattle.mark_core.specs.declared.seat.CacheState.{CacheState}
use Rattle.bench_steps.proofs.Makers.{makes-after, claimed-whole}
use Rattle.bench_steps.proofs.table.making.claim.Goals as goal

pub returns-clause-makes : goal.returns-clause-makes
returns-clause-makes c =
    let h = c.args.heap.now in
    let x = c.args.seat.now in
    let r = c.claim_block in
    let v = r.ensures.view in
    let m = c.requires.makes.0 in
    let new : CacheState = record { block = c.args.b; unread = true; free = 0; used = 0; making = None; last = None } in
    let makes = makes-after h x r.new.seat (ClaimBlock c.args.b) v.0 (cond (v.0 == 0) (Some new) m.cache) m r.ensures.seat v.1 refl (claimed-whole (v.0 == 0) new m.cache refl m.whole) refl in
    (makes.0, makes.2)
