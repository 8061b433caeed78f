use Rattle.std.proofs.Common.{◌≡◌, ◌+◌, ◌-◌, ◌*◌, ◌<◌, inl, inr, refl, subst, arith}
use Rattle.gc_play.specs.Crews.{CatalogueAt, CatalogueSettles, own_of}
use Rattle.gc_play.specs.Dealing.{EachOne, StandsAt}
use Rattle.gc_play.proofs.Catalogues.{may-move, settled}
use Rattle.gc_play.proofs.Parts.{some-season}
use Rattle.gc_play.specs.Traced.{SeasonsTraced}
use Rattle.gc_play.proofs.Seasons.{play-traced, season-moved, seasons-all, seasons-more}
use Rattle.gc_play.proofs.playing.play_seasons.Goals as goal

pub settle-requires-clause-seat : goal.settle-requires-clause-seat
settle-requires-clause-seat g c κs within =
    let h = c.args.heap.now in
    let s = c.args.script.now.sections in
    let n = c.seasons-all.result in
    let first : 0 < n = omega (arith, some-season s, c.seasons-all.ensures.same) in
    let few : 2 * n - 1 < 128 = omega (arith, c.requires.script.few, c.seasons-all.ensures.same) in
    let all : c.loop-before.before ≡ n = omega (arith, c.loop-before-test.false, c.loop-before.auto.before-end) in
    let at = subst (λ k. CatalogueAt h s k (2 * k - 1) c.loop-before.crew.catalogue) all c.loop-before.invariant.crew.catalogue in
    (may-move h s n (2 * n - 1) c.loop-before.crew.catalogue first few (inr refl) at).0

pub settle-requires-clause-turn : goal.settle-requires-clause-turn
settle-requires-clause-turn g c κs within =
    let h = c.args.heap.now in
    let s = c.args.script.now.sections in
    let n = c.seasons-all.result in
    let first : 0 < n = omega (arith, some-season s, c.seasons-all.ensures.same) in
    let few : 2 * n - 1 < 128 = omega (arith, c.requires.script.few, c.seasons-all.ensures.same) in
    let all : c.loop-before.before ≡ n = omega (arith, c.loop-before-test.false, c.loop-before.auto.before-end) in
    let at = subst (λ k. CatalogueAt h s k (2 * k - 1) c.loop-before.crew.catalogue) all c.loop-before.invariant.crew.catalogue in
    (may-move h s n (2 * n - 1) c.loop-before.crew.catalogue first few (inr refl) at).1

pub returns-in-Done-settle-clause-ends : goal.returns-in-Done-settle-clause-ends
returns-in-Done-settle-clause-ends g c =
    let h = c.args.heap.now in
    let s = c.args.script.now.sections in
    let i = c.loop-before.invariant.crew in
    let all : c.loop-before.before ≡ c.seasons-all.result = omega (arith, c.loop-before-test.false, c.loop-before.auto.before-end) in
    let n = c.seasons-all.result in
    let first : 0 < n = omega (arith, some-season s, c.seasons-all.ensures.same) in
    let at = subst (λ k. CatalogueAt h s k (2 * k - 1) c.loop-before.crew.catalogue) all i.catalogue in
    let e = subst (λ r. CatalogueSettles r h s n c.settle.new.catalogue) c.in-Done-settle.is (settled h s n c.settle.result c.loop-before.crew.catalogue c.settle.new.catalogue first c.settle.ensures.leaves c.settle.ensures.ends c.settle.ensures.settles at) in
    (record { catalogue = e.0; some = i.some; dealt = i.dealt; played = subst (λ n. EachOne (StandsAt h s n) c.loop-before.crew.workers.items) all i.played; going = i.going; tracers = i.tracers }, e.1)

pub returns-in-Done-settle-clause-season : goal.returns-in-Done-settle-clause-season
returns-in-Done-settle-clause-season g c = omega (arith, some-season c.args.script.now.sections, c.seasons-all.ensures.same)

pub returns-in-Full-clause-ends : goal.returns-in-Full-clause-ends
returns-in-Full-clause-ends g c =
    let h = c.args.heap.now in
    let s = c.args.script.now.sections in
    let i = c.loop-before.invariant.crew in
    let all : c.loop-before.before ≡ c.seasons-all.result = omega (arith, c.loop-before-test.false, c.loop-before.auto.before-end) in
    let n = c.seasons-all.result in
    let first : 0 < n = omega (arith, some-season s, c.seasons-all.ensures.same) in
    let at = subst (λ k. CatalogueAt h s k (2 * k - 1) c.loop-before.crew.catalogue) all i.catalogue in
    let e = subst (λ r. CatalogueSettles r h s n c.settle.new.catalogue) c.in-Full.is (settled h s n c.settle.result c.loop-before.crew.catalogue c.settle.new.catalogue first c.settle.ensures.leaves c.settle.ensures.ends c.settle.ensures.settles at) in
    let played : EachOne (StandsAt h s c.seasons-all.result) c.loop-before.crew.workers.items = subst (λ n. EachOne (StandsAt h s n) c.loop-before.crew.workers.items) all i.played in
    record {
      season = omega (arith, some-season s, c.seasons-all.ensures.same);
      moved = 2 * n - 1;
      turn = (omega arith, omega arith);
      catalogue = e.0;
      some = i.some;
      dealt = i.dealt;
      halted = λ k d low j m below. inr (inl (played k d low j m below));
      known = inl e.1;
      tracers = i.tracers;
    }

pub returns-in-Full-clause-season : goal.returns-in-Full-clause-season
returns-in-Full-clause-season g c = omega (arith, some-season c.args.script.now.sections, c.seasons-all.ensures.same)

pub returns-in-Done-settle-clause-traced : goal.returns-in-Done-settle-clause-traced
returns-in-Done-settle-clause-traced g c =
    let h = c.args.heap.now in
    let s = c.args.script.now.sections in
    let all : c.loop-before.before ≡ c.seasons-all.result = omega (arith, c.loop-before-test.false, c.loop-before.auto.before-end) in
    let n = c.seasons-all.result in
    let first : 0 < n = omega (arith, some-season s, c.seasons-all.ensures.same) in
    let at = subst (λ k. CatalogueAt h s k (2 * k - 1) c.loop-before.crew.catalogue) all c.loop-before.invariant.crew.catalogue in
    let e = subst (λ r. CatalogueSettles r h s n c.settle.new.catalogue) c.in-Done-settle.is (settled h s n c.settle.result c.loop-before.crew.catalogue c.settle.new.catalogue first c.settle.ensures.leaves c.settle.ensures.ends c.settle.ensures.settles at) in
    seasons-all h s n c.args.crew.now.tracers.items c.loop-before.crew.tracers.items (subst (λ k. SeasonsTraced h s k c.args.crew.now.tracers.items c.loop-before.crew.tracers.items) all c.loop-before.invariant.traced) (own_of c.settle.new.catalogue).seasons first (inr e.0.moved_is)

pub returns-in-Full-clause-traced : goal.returns-in-Full-clause-traced
returns-in-Full-clause-traced g c =
    let h = c.args.heap.now in
    let s = c.args.script.now.sections in
    let all : c.loop-before.before ≡ c.seasons-all.result = omega (arith, c.loop-before-test.false, c.loop-before.auto.before-end) in
    let n = c.seasons-all.result in
    let first : 0 < n = omega (arith, some-season s, c.seasons-all.ensures.same) in
    let at = subst (λ k. CatalogueAt h s k (2 * k - 1) c.loop-before.crew.catalogue) all c.loop-before.invariant.crew.catalogue in
    let e = subst (λ r. CatalogueSettles r h s n c.settle.new.catalogue) c.in-Full.is (settled h s n c.settle.result c.loop-before.crew.catalogue c.settle.new.catalogue first c.settle.ensures.leaves c.settle.ensures.ends c.settle.ensures.settles at) in
    seasons-all h s n c.args.crew.now.tracers.items c.loop-before.crew.tracers.items (subst (λ k. SeasonsTraced h s k c.args.crew.now.tracers.items c.loop-before.crew.tracers.items) all c.loop-before.invariant.traced) (own_of c.settle.new.catalogue).seasons first (inl e.0.moved_is)

pub loop-before-preserved : goal.loop-before-preserved
loop-before-preserved g c =
    let i = c.loop-before.invariant in
    record {
      crew = c.in-Done.ensures.ends;
      traced = seasons-more c.args.heap.now c.args.script.now.sections c.loop-before.before c.args.crew.now.tracers.items c.loop-before.crew.tracers.items c.play_season.new.crew.tracers.items i.traced
          (c.in-Done.ensures.traced.reached c.in-Done.ensures.ends.catalogue.moved_is);
    }

pub returns-in_default-clause-traced : goal.returns-in_default-clause-traced
returns-in_default-clause-traced g c =
    let i = c.loop-before.invariant in
    let new = c.play_season.new.crew in
    let moved = season-moved c.play_season.result c.args.heap.now c.args.script.now.sections (c.loop-before.before + 1) new c.play_season.ensures.ends in
    play-traced c.args.heap.now c.args.script.now.sections c.loop-before.before c.args.crew.now.tracers.items c.loop-before.crew.tracers.items new.tracers.items i.traced (own_of new.catalogue).seasons moved.0 moved.1 c.play_season.ensures.traced
