use Rattle.seat_turns.proofs.Leaving.{leaves-join}
use Rattle.std.proofs.Common.{◌+◌, arith, inl, inr, refl, subst, Option}
use Rattle.std.specs.Prelude.{IfSome}
use Rattle.alloc_cache.specs.Caching.{IsCached}
use Rattle.alloc_cache.specs.declared.cache.Cache.{Cache}
use Rattle.mutator_ops.proofs.Few.{at-most-more}
use Rattle.seat_turns.specs.Standing.{flush_steps}
use Rattle.std.proofs.lemmas.Result.{IfOk-weaker}
use Rattle.gc_table.specs.Seats.{view_of}
use Rattle.gc_table.specs.declared.view.View.{View}
use Rattle.gc_table.proofs.Running.{ran-join}
use Rattle.seat_steps.proofs.PaidCounts.{counts-looked}
use Rattle.seat_steps.proofs.Filled.{fills-makes, passes-makes, tries-looked}
use Rattle.seat_steps.proofs.Found.{arrives-lacks, comes-filled, comes-free, err-weaker, hindered-few, lags-passed}
use Rattle.seat_steps.proofs.Paced.{carries-keeps, paces-first}
use Rattle.seat_steps.proofs.getting.come_once.Goals as goal

pub returns-in-Ok-clause-ok : goal.returns-in-Ok-clause-ok
returns-in-Ok-clause-ok c =
    let y = c.pass_once.new.seat in
    (c.in-Done.ensures.arrives, subst (λ (o : Option Cache). IfSome o (λ k. IsCached k (view_of y))) c.in-Ok.ensures.ok.0 c.cache_of.ensures.some)

pub returns-in_default-clause-err : goal.returns-in_default-clause-err
returns-in_default-clause-err c = arrives-lacks c.pass_once.result c.args.heap.now c.pass_once.new.seat c.in_default.not-Done c.pass_once.ensures.arrives

pub returns-in_default-clause-found : goal.returns-in_default-clause-found
returns-in_default-clause-found c = passes-makes c.pass_once.result (view_of c.args.seat.now) (view_of c.pass_once.new.seat) c.in_default.not-Done c.pass_once.ensures.found
    (inl (carries-keeps (view_of c.args.seat.now) (view_of c.pass_once.new.seat) c.pass_once.ensures.paces))

pub returns-in_default-clause-pays : goal.returns-in_default-clause-pays
returns-in_default-clause-pays c = inl (hindered-few c.pass_once.result (view_of c.args.seat.now) (view_of c.pass_once.new.seat) c.in_default.not-Done c.pass_once.ensures.found, refl)

pub returns-in-Ok-clause-freely : goal.returns-in-Ok-clause-freely
returns-in-Ok-clause-freely c = comes-free (view_of c.args.seat.now) (view_of c.pass_once.new.seat) c.in-Done.ensures.found

pub returns-in-Ok-clause-pays : goal.returns-in-Ok-clause-pays
returns-in-Ok-clause-pays c = inl (at-most-more 2 (flush_steps (view_of c.args.seat.now) + 8) (view_of c.args.seat.now) (view_of c.pass_once.new.seat) (omega arith) c.in-Done.ensures.found.few, refl)

pub returns-in-Err-clause-ran : goal.returns-in-Err-clause-ran
returns-in-Err-clause-ran c = ran-join (view_of c.args.seat.now) (view_of c.pass_once.new.seat) (view_of c.fill_flushed.new.seat) c.pass_once.ensures.ran c.fill_flushed.ensures.ran

pub returns-in-Err-clause-freely : goal.returns-in-Err-clause-freely
returns-in-Err-clause-freely c =
    let u : View = view_of c.args.seat.now in
    let v : View = view_of c.pass_once.new.seat in
    let w : View = view_of c.fill_flushed.new.seat in
    let e = c.in-Err.ensures in
    let p = c.in-Done.ensures.found in
    IfOk-weaker c.fill_flushed.result _ _
    (λ free t. comes-filled c.cache_of.result c.in-Err.none u v w p c.fill_flushed.ensures.ran c.cache_of.ensures.some c.cache_of.ensures.none e.err e.lacks (t.0, tries-looked 3 t.0 u v w p.ran p.few (lags-passed u v p) t.1))
    c.fill_flushed.ensures.besides

pub returns-in-Err-clause-found : goal.returns-in-Err-clause-found
returns-in-Err-clause-found c =
    let u : View = view_of c.args.seat.now in
    let v : View = view_of c.pass_once.new.seat in
    let w : View = view_of c.fill_flushed.new.seat in
    let p = c.in-Done.ensures.found in
    err-weaker c.fill_flushed.result _ _ (λ came m. fills-makes came u v w p.ran p.few (lags-passed u v p) c.fill_flushed.ensures.ran m (paces-first u v w c.pass_once.ensures.paces c.fill_flushed.ensures.paces)) c.fill_flushed.ensures.found

pub returns-in-Err-clause-leaves : goal.returns-in-Err-clause-leaves
returns-in-Err-clause-leaves c = leaves-join (view_of c.args.seat.now) (view_of c.pass_once.new.seat) (view_of c.fill_flushed.new.seat) c.pass_once.ensures.leaves c.fill_flushed.ensures.leaves

pub returns-in-Err-clause-pays : goal.returns-in-Err-clause-pays
returns-in-Err-clause-pays c =
    let u : View = view_of c.args.seat.now in
    let v : View = view_of c.pass_once.new.seat in
    let p = c.in-Done.ensures.found in
    inr (counts-looked 8 c.args.paid.now c.fill_flushed.new.paid u v (view_of c.fill_flushed.new.seat) p.ran p.few (lags-passed u v p) c.fill_flushed.ensures.pays)

pub returns-in-Ok-clause-paces : goal.returns-in-Ok-clause-paces
returns-in-Ok-clause-paces c = inl (carries-keeps (view_of c.args.seat.now) (view_of c.pass_once.new.seat) c.pass_once.ensures.paces)

pub returns-in-Err-clause-paces : goal.returns-in-Err-clause-paces
returns-in-Err-clause-paces c = paces-first (view_of c.args.seat.now) (view_of c.pass_once.new.seat) (view_of c.fill_flushed.new.seat) c.pass_once.ensures.paces c.fill_flushed.ensures.paces

pub returns-in_default-clause-paces : goal.returns-in_default-clause-paces
returns-in_default-clause-paces c = inl (carries-keeps (view_of c.args.seat.now) (view_of c.pass_once.new.seat) c.pass_once.ensures.paces)

pub fill_flushed-requires-clause-turn : goal.fill_flushed-requires-clause-turn
fill_flushed-requires-clause-turn c = c.in-Done.ensures.arrives
