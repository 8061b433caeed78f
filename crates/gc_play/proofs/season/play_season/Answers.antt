use Rattle.std.proofs.Common.{ℕ, ◌≡◌, ◌∙◌, ◌+◌, ◌-◌, ◌*◌, ◌≤◌, length, inl, inr, refl, subst, arith}
use Rattle.gc_play.specs.Crews.{CatalogueAt, SeasonTurnEnds, TurnMoves}
use Rattle.gc_play.proofs.Catalogues.{may-move, part-ended, turn-moved, turned}
use Rattle.gc_play.proofs.Dealt.{same-dealt}
use Rattle.gc_play.proofs.SeasonTurns.{turn-ended}
use Rattle.gc_play.proofs.season.play_season.Goals as goal

pub next_turn-requires-clause-seat : goal.next_turn-requires-clause-seat
next_turn-requires-clause-seat g c κs within =
    let h = c.args.heap.now in
    let s = c.args.script.now.sections in
    let z = c.args.season in
    let before = c.play_catalogue.new.catalogue in
    let at = part-ended c.play_catalogue.result h s z (2 * z - 2) before c.in_default-play_catalogue.not-Full c.play_catalogue.ensures in
    (may-move h s z (2 * z - 2) before (omega (arith, c.requires.season.0)) (omega (arith, c.requires.season.1)) (inl refl) at).0

pub next_turn-requires-clause-turn : goal.next_turn-requires-clause-turn
next_turn-requires-clause-turn g c κs within =
    let h = c.args.heap.now in
    let s = c.args.script.now.sections in
    let z = c.args.season in
    let before = c.play_catalogue.new.catalogue in
    let at = part-ended c.play_catalogue.result h s z (2 * z - 2) before c.in_default-play_catalogue.not-Full c.play_catalogue.ensures in
    (may-move h s z (2 * z - 2) before (omega (arith, c.requires.season.0)) (omega (arith, c.requires.season.1)) (inl refl) at).1

-- how often the season was moved on before it began, and before the warehouses' turn
begun : (z : ℕ) → 1 ≤ z → (2 * z - 3 ≤ 2 * z - 3) × (2 * z - 3 ≤ 2 * z - 2)
begun z one = (omega arith, omega (arith, one))

turning : (z : ℕ) → 1 ≤ z → (2 * z - 3 ≤ 2 * z - 2) × (2 * z - 2 ≤ 2 * z - 2)
turning z one = (omega (arith, one), omega arith)

pub returns-in-Full-clause-ends : goal.returns-in-Full-clause-ends
returns-in-Full-clause-ends g c =
    let z = c.args.season in
    let b = c.requires.before in
    record { moved = 2 * z - 3; turn = begun z c.requires.season.0; catalogue = c.in-Full.ensures; some = b.some; dealt = b.dealt; waiting = b.played; tracers = b.tracers }

pub returns-in-Full-clause-traced : goal.returns-in-Full-clause-traced
returns-in-Full-clause-traced g c =
    let is = c.in-Full.ensures.moved_is in
    record { reached = λ last. absurd (omega (arith, last, is, c.requires.season.0)); unreached = λ _. refl }

pub returns-in-Full-play_catalogue-clause-ends : goal.returns-in-Full-play_catalogue-clause-ends
returns-in-Full-play_catalogue-clause-ends g c =
    let z = c.args.season in
    let b = c.requires.before in
    record { moved = 2 * z - 2; turn = turning z c.requires.season.0; catalogue = c.in-Full-play_catalogue.ensures; some = b.some; dealt = b.dealt; waiting = b.played; tracers = b.tracers }

pub returns-in-Full-play_catalogue-clause-traced : goal.returns-in-Full-play_catalogue-clause-traced
returns-in-Full-play_catalogue-clause-traced g c =
    let is = c.in-Full-play_catalogue.ensures.moved_is in
    record { reached = λ last. absurd (omega (arith, last, is, c.requires.season.0)); unreached = λ _. refl }

pub returns-in-Full-next_turn-clause-ends : goal.returns-in-Full-next_turn-clause-ends
returns-in-Full-next_turn-clause-ends g c =
    let h = c.args.heap.now in
    let s = c.args.script.now.sections in
    let z = c.args.season in
    let before = c.play_catalogue.new.catalogue in
    let at = part-ended c.play_catalogue.result h s z (2 * z - 2) before c.in_default-play_catalogue.not-Full c.play_catalogue.ensures in
    let after = c.next_turn.new.catalogue in
    let e = subst (λ r. TurnMoves r h s z (2 * z - 2) after) c.in-Full-next_turn.is (turned h s z c.next_turn.result (2 * z - 2) before after c.next_turn.ensures.leaves c.next_turn.ensures.ends at) in
    let b = c.requires.before in
    record {
      season = omega (arith, c.requires.season.0);
      moved = 2 * z - 2;
      turn = (omega arith, omega (arith, c.requires.season.0));
      catalogue = e.0;
      some = b.some;
      dealt = b.dealt;
      halted = λ k d low j m below. inl (b.played k d low j m below);
      known = inl e.1;
      tracers = b.tracers;
    }

pub returns-in-Full-next_turn-clause-traced : goal.returns-in-Full-next_turn-clause-traced
returns-in-Full-next_turn-clause-traced g c =
    let h = c.args.heap.now in
    let s = c.args.script.now.sections in
    let z = c.args.season in
    let before = c.play_catalogue.new.catalogue in
    let at = part-ended c.play_catalogue.result h s z (2 * z - 2) before c.in_default-play_catalogue.not-Full c.play_catalogue.ensures in
    let after = c.next_turn.new.catalogue in
    let e = subst (λ r. TurnMoves r h s z (2 * z - 2) after) c.in-Full-next_turn.is (turned h s z c.next_turn.result (2 * z - 2) before after c.next_turn.ensures.leaves c.next_turn.ensures.ends at) in
    record { reached = λ last. absurd (omega (arith, last, e.0.moved_is, c.requires.season.0)); unreached = λ _. refl }

pub returns-in-Full-play_turn-clause-ends : goal.returns-in-Full-play_turn-clause-ends
returns-in-Full-play_turn-clause-ends g c =
    let h = c.args.heap.now in
    let s = c.args.script.now.sections in
    let z = c.args.season in
    let before = c.play_catalogue.new.catalogue in
    let at = part-ended c.play_catalogue.result h s z (2 * z - 2) before c.in_default-play_catalogue.not-Full c.play_catalogue.ensures in
    let after = c.next_turn.new.catalogue in
    let q = turn-moved c.next_turn.result h s z (2 * z - 2) after c.in_default-next_turn.not-Full (turned h s z c.next_turn.result (2 * z - 2) before after c.next_turn.ensures.leaves c.next_turn.ensures.ends at) in
    let b = c.requires.before in
    let t = c.play_turn.ensures in
    let e = subst (λ r. SeasonTurnEnds r h s z c.play_turn.new.workers.items) c.in-Full-play_turn.is t.ends in
    let one : 2 * z - 2 + 1 ≡ 2 * z - 1 = omega (arith, c.requires.season.0) in
    record {
      season = omega (arith, c.requires.season.0);
      moved = 2 * z - 1;
      turn = (omega (arith, c.requires.season.0), omega arith);
      catalogue = record { seated = q.seated; moved_is = q.moved_is ∙ one; played = q.played };
      some = omega (arith, b.some, t.same.count, c.play_turn.new.workers.ok, c.args.crew.now.workers.ok);
      dealt = same-dealt (length s.warehouses) c.args.crew.now.workers c.play_turn.new.workers t.same b.dealt;
      halted = e.0;
      known = inr e.1;
      tracers = t.tracers;
    }

pub returns-in-Full-play_turn-clause-traced : goal.returns-in-Full-play_turn-clause-traced
returns-in-Full-play_turn-clause-traced g c =
    let h = c.args.heap.now in
    let s = c.args.script.now.sections in
    let z = c.args.season in
    let before = c.play_catalogue.new.catalogue in
    let at = part-ended c.play_catalogue.result h s z (2 * z - 2) before c.in_default-play_catalogue.not-Full c.play_catalogue.ensures in
    let after = c.next_turn.new.catalogue in
    let is = (turn-moved c.next_turn.result h s z (2 * z - 2) after c.in_default-next_turn.not-Full (turned h s z c.next_turn.result (2 * z - 2) before after c.next_turn.ensures.leaves c.next_turn.ensures.ends at)).moved_is in
    record { reached = λ _. c.play_turn.ensures.traced; unreached = λ few. absurd (omega (arith, few, is, c.requires.season.0)) }

pub returns-clause-traced : goal.returns-clause-traced
returns-clause-traced g c =
    let h = c.args.heap.now in
    let s = c.args.script.now.sections in
    let z = c.args.season in
    let before = c.play_catalogue.new.catalogue in
    let at = part-ended c.play_catalogue.result h s z (2 * z - 2) before c.in_default-play_catalogue.not-Full c.play_catalogue.ensures in
    let after = c.next_turn.new.catalogue in
    let is = (turn-moved c.next_turn.result h s z (2 * z - 2) after c.in_default-next_turn.not-Full (turned h s z c.next_turn.result (2 * z - 2) before after c.next_turn.ensures.leaves c.next_turn.ensures.ends at)).moved_is in
    record { reached = λ _. c.play_turn.ensures.traced; unreached = λ few. absurd (omega (arith, few, is, c.requires.season.0)) }

pub returns-clause-ends : goal.returns-clause-ends
returns-clause-ends g c =
    let h = c.args.heap.now in
    let s = c.args.script.now.sections in
    let z = c.args.season in
    let before = c.play_catalogue.new.catalogue in
    let at = part-ended c.play_catalogue.result h s z (2 * z - 2) before c.in_default-play_catalogue.not-Full c.play_catalogue.ensures in
    let after = c.next_turn.new.catalogue in
    let q = turn-moved c.next_turn.result h s z (2 * z - 2) after c.in_default-next_turn.not-Full (turned h s z c.next_turn.result (2 * z - 2) before after c.next_turn.ensures.leaves c.next_turn.ensures.ends at) in
    let b = c.requires.before in
    let t = c.play_turn.ensures in
    let e = turn-ended c.play_turn.result h s z c.play_turn.new.workers.items c.in_default-play_turn.not-Full t.ends in
    record {
      catalogue = subst (λ k. CatalogueAt h s z k after) (let one : 2 * z - 2 + 1 ≡ 2 * z - 1 = omega (arith, c.requires.season.0) in one) q;
      some = omega (arith, b.some, t.same.count, c.play_turn.new.workers.ok, c.args.crew.now.workers.ok);
      dealt = same-dealt (length s.warehouses) c.args.crew.now.workers c.play_turn.new.workers t.same b.dealt;
      played = e.0;
      going = e.1;
      tracers = t.tracers;
    }
