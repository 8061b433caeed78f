use Rattle.std.proofs.Common.{◌≡◌, [], refl, subst, sym}
use Rattle.gc_cycle.specs.declared.counts.Refill.{Refill}
use Rattle.gc_cycle.specs.declared.counts.Refill.TheVariants as refills
use Rattle.cache_refills.specs.Notices.{IsTold}
use Rattle.cache_refills.specs.Telling.{payment}
use Rattle.cache_refills.proofs.Telling.{told-none, told-one}
use Rattle.cache_refills.proofs.refilling.tell_paid.Goals as goal

pub returns-in-Cache : goal.returns-in-Cache
returns-in-Cache g c =
    subst (λ (r : Refill). IsTold g.W.Watch.hears (λ ns. ns ≡ payment r) c.args.watch.now c.pays.new.self) (sym c.in-Cache.is) (told-one g.W.Watch.hears _ _ c.args.watch.now c.pays.new.self c.pays.ensures refl)

pub returns-in-Full : goal.returns-in-Full
returns-in-Full g c =
    subst (λ (r : Refill). IsTold g.W.Watch.hears (λ ns. ns ≡ payment r) c.args.watch.now c.args.watch.now) (sym c.in-Full.is) (told-none g.W.Watch.hears (λ ns. ns ≡ payment refills.Full) c.args.watch.now refl)
