use Rattle.std.proofs.Common.{ℕ, ◌≡◌, ◌+◌, arith, inl, inr, refl, subst}
use Rattle.std.proofs.lemmas.Result.{IfOk-weaker}
use Rattle.gc_table.specs.Seats.{view_of}
use Rattle.seat_turns.specs.Standing.{flush_steps}
use Rattle.seat_turns.proofs.Leaving.{leaves-join}
use Rattle.seat_steps.specs.PaidTries.{CountsPiece}
use Rattle.seat_steps.proofs.PaidCounts.{pieces-first}
use Rattle.seat_steps.proofs.Found.{err-weaker}
use Rattle.seat_steps.proofs.Searched.{fails-first, given-up, had-free}
use Rattle.seat_steps.proofs.seeking.refill_once.Goals as goal

pub returns-in-Ok-clause-sought : goal.returns-in-Ok-clause-sought
returns-in-Ok-clause-sought c = (had-free c.cache_of.result c.in-Ok.free (view_of c.args.seat.now) c.cache_of.ensures.some c.in-Ok.ensures.ok.0 c.in-Ok.ensures.ok.1, inl refl)

pub returns-in-Err-clause-leaves : goal.returns-in-Err-clause-leaves
returns-in-Err-clause-leaves c = leaves-join (view_of c.args.seat.now) (view_of c.retire_flushed.new.seat) (view_of c.seek.new.seat) c.retire_flushed.ensures.leaves c.seek.ensures.leaves

pub returns-in-Err-clause-sought : goal.returns-in-Err-clause-sought
returns-in-Err-clause-sought c =
    let u = view_of c.args.seat.now in
    let v = view_of c.retire_flushed.new.seat in
    let w = view_of c.seek.new.seat in
    IfOk-weaker c.seek.result _ _ (λ s k. given-up c.args.from c.args.most u v w c.retire_flushed.ensures.ran c.retire_flushed.ensures.few c.retire_flushed.ensures.paces s k) c.seek.ensures.sought

pub returns-in-Err-clause-found : goal.returns-in-Err-clause-found
returns-in-Err-clause-found c =
    let u = view_of c.args.seat.now in
    let v = view_of c.retire_flushed.new.seat in
    let w = view_of c.seek.new.seat in
    err-weaker c.seek.result _ _ (λ came k. fails-first c.args.from c.args.most u v w c.retire_flushed.ensures.ran c.retire_flushed.ensures.few c.retire_flushed.ensures.paces came c.seek.ensures.ran k) c.seek.ensures.found

pub returns-in-Ok-clause-pays : goal.returns-in-Ok-clause-pays
returns-in-Ok-clause-pays c = inl (refl, refl)

pub returns-in-Err-clause-pays : goal.returns-in-Err-clause-pays
returns-in-Err-clause-pays c =
    let u = view_of c.args.seat.now in
    let w = view_of c.seek.new.seat in
    inr (subst (λ (k : ℕ). CountsPiece k 8 c.args.from c.args.most c.args.paid.now c.seek.new.paid u w) (let z : flush_steps u + 3 + 0 ≡ flush_steps u + 3 = omega arith in z)
    (pieces-first (flush_steps u + 3) 0 8 c.args.from c.args.most c.args.paid.now c.seek.new.paid u (view_of c.retire_flushed.new.seat) w c.retire_flushed.ensures.ran c.retire_flushed.ensures.few c.retire_flushed.ensures.paces c.seek.ensures.pays))
