use Rattle.std.proofs.Common.{ℕ, ◌≡◌, ◌≤◌, ◌%◌, length, arith, sym, ap, ◌∙◌, subst, true, Some, None, nat_eq}
use Rattle.mark_core.specs.Seats.{has_making, may_mutate, work_in_hand}
use Rattle.mark_core.specs.declared.kinds.Phase.TheVariants.{Marking}
use Rattle.mark_core.specs.declared.kinds.Step.TheVariants.{ReadSeason}
use Rattle.mark_core.specs.declared.kinds.Shape.{Shape}
use Rattle.mark_core.specs.declared.seat.SeatState.{SeatState}
use Rattle.gc_table.specs.declared.view.View.{View}
use Rattle.gc_table.specs.PlainSteps.{HasSeenPhase}
use Rattle.gc_table.specs.SeatRecords.{inside}
use Rattle.gc_table.specs.Taking.{after}
use Rattle.gc_table.proofs.RecordSteps.{state-after}
use Rattle.mutator_ops.specs.Ready.{IsReady}
use Rattle.bench_steps.specs.Standing.{sizes, Waiting}
use Rattle.std.proofs.lemmas.Bool.{OnTrue_from}
use Rattle.gc_table.specs.Seats.{view_of}
use Rattle.bench_steps.proofs.operations.opening.sees_turn.Goals as goal

-- A seat that reads its own turn's season, when it has entered and done nothing else, may make cells and store in them.
has-seen : (s : SeatState) → s.phase_seen ≡ Some Marking → HasSeenPhase s
has-seen s e = (Marking, e, λ full. absurd (cc))

in-turn : (v w : View) (n : ℕ) → v.shape ≡ sizes → v.state ≡ inside sizes 0 → length v.own.meaning.heap.objects ≡ 0 → w ≡ after ReadSeason n v → nat_eq (n % 2) 0 ≡ true → IsReady w × (w.state.cache ≡ None) × (w.state.made ≤ 0)
in-turn v w n shaped is none e even =
    let s = state-after sizes v w (inside sizes 0) ReadSeason n shaped is e in
    let made : w.state.made ≡ 0 = ap (λ (t : SeatState). t.made) s in (
      record {
        owned = ap (λ (u : View). u.shape.sharing) e ∙ ap (λ (sh : Shape). sh.sharing) shaped;
        stores =
            record {
              turn = ap (λ (t : SeatState). may_mutate t) s ∙ even;
              seen = has-seen w.state (ap (λ (t : SeatState). t.phase_seen) s);
              owes = ap (λ (t : SeatState). t.owes) s;
            };
        idle = ap (λ (t : SeatState). work_in_hand w.shape.fields t) s;
        whole = ap (λ (t : SeatState). has_making t.cache) s;
        register = ap (λ (t : SeatState). t.got) s;
        counted = ap (λ (u : View). length u.own.meaning.heap.objects) e ∙ (none ∙ sym made);
      },
      ap (λ (t : SeatState). t.cache) s,
      omega (arith, made),
    )

pub returns : goal.returns
returns c =
    let q = c.requires in
    let e = c.read_season.ensures in
    let n = c.read_season.result in
    OnTrue_from (nat_eq (n % 2) 0) (Waiting c.args.heap.now 0 c.read_season.new.seat)
    (λ even.
    let r = in-turn (view_of c.args.seat.now) (view_of c.read_season.new.seat) n (q.1.0.1 ∙ q.0) (q.1.1 ∙ ap (λ (x : Shape). inside x 0) q.0) q.2 e.view.0 even in
    (q.0, e.seat, r.0, r.1, r.2))
