use Rattle.std.proofs.Common.{ℕ, ◌≡◌, ◌≢◌, ◌+◌, ◌-◌, ◌*◌, ◌/◌, ◌≤◌, refl, subst, arith}
use Rattle.plain_heap.specs.Sections.{seasons}
use Rattle.gc_play.specs.declared.season.Ended.{Ended}
use Rattle.gc_play.specs.declared.season.Ended.TheVariants.{Done, First, Later}
use Rattle.gc_play.specs.Crews.{AreSaid, IsSeatLeftBy, Numbered, SettlesEnd}
use Rattle.gc_play.specs.Traced.{MovedBy, TracersRan}
use Rattle.gc_play.proofs.Ending.{all-played, are-parts, are-ready, are-seated, have-stopped, some-knows}
use Rattle.gc_play.proofs.playing.close.Goals as goal

pub close_played-requires-clause-made : goal.close_played-requires-clause-made
close_played-requires-clause-made c =
    let l = c.requires.left in
    are-seated c.args.ended c.args.heap c.args.script.now.sections l.0 c.args.seats.items c.requires.made l.1.left

pub close_played-requires-clause-played : goal.close_played-requires-clause-played
close_played-requires-clause-played c =
    let h = c.args.heap in
    let s = c.args.script.now.sections in
    let z = c.requires.left.0 in
    let l = c.requires.left.1 in
    let xs = c.args.seats.items in
    all-played h s z xs c.requires.made (subst (λ r. Numbered (IsSeatLeftBy r h s z) 0 xs) c.in-Done.is l.left) (l.all c.in-Done.is) (subst (λ r. SettlesEnd r xs) c.in-Done.is l.settles)

pub close_played-requires-clause-parts : goal.close_played-requires-clause-parts
close_played-requires-clause-parts c =
    let h = c.args.heap in
    let s = c.args.script.now.sections in
    let z = c.requires.left.0 in
    let l = c.requires.left.1 in
    let xs = c.args.seats.items in
    are-parts h s z xs c.requires.made c.args.parts.items (l.all c.in-Done.is) l.parts (subst (λ r. AreSaid r s z 0 xs c.args.parts.items) c.in-Done.is l.said)

pub returns-in-Ok-clause-answers : goal.returns-in-Ok-clause-answers
returns-in-Ok-clause-answers c = c.in-Ok.ensures.report

pub returns-in-Ok-clause-ends : goal.returns-in-Ok-clause-ends
returns-in-Ok-clause-ends c tracers z l traced =
    let h = c.args.heap in
    let s = c.args.script.now.sections in
    let xs = c.args.seats.items in
    let all = l.all c.in-Done.is in
    let left : Numbered (IsSeatLeftBy Done h s z) 0 xs = subst (λ r. Numbered (IsSeatLeftBy r h s z) 0 xs) c.in-Done.is l.left in
    let twice : traced.moved ≡ 2 * z = subst (λ r. MovedBy r z traced.moved) c.in-Done.is traced.ended in
    let turns : (traced.moved + 1) / 2 ≡ seasons s = omega (arith, twice, all) in
    record {
      seats = xs;
      closed = record { end = c.in-Ok.ensures.words; made = are-seated Done h s z xs c.requires.made left };
      played = all-played h s z xs c.requires.made left all (subst (λ r. SettlesEnd r xs) c.in-Done.is l.settles);
      parts = c.in-Ok.ensures.parts;
      held = c.in-Ok.ensures.held;
      traced = subst (λ n. TracersRan s h.shape tracers n xs) turns traced.traced;
    }

pub close_full-requires : goal.close_full-requires
close_full-requires c =
    let h = c.args.heap in
    let s = c.args.script.now.sections in
    let z = c.requires.left.0 in
    let l = c.requires.left.1 in
    let xs = c.args.seats.items in
    let r = c.args.ended in
    record {
      some = omega (arith, c.requires.made.enough, c.args.seats.ok);
      seats = are-ready r h s z xs c.requires.made l.left;
      made = are-seated r h s z xs c.requires.made l.left;
      stopped = (z, have-stopped h s z xs c.requires.made r c.in_default.not-Done l.season l.left);
      full = some-knows h s z xs c.requires.made r c.in_default.not-Done l.knows;
    }

-- how often a play that came to no end moved the season on
stopped-moved : (r : Ended) (z moved : ℕ) → r ≢ Done → MovedBy r z moved → (2 * z - 3 ≤ moved) × (moved ≤ 2 * z - 1)
stopped-moved Done z moved n e = absurd (n refl)
stopped-moved First z moved n (least, most) = (least, omega (arith, most))
stopped-moved Later z moved n (least, most) = (omega (arith, least), most)

pub returns-in-Ok-close_full-clause-ends : goal.returns-in-Ok-close_full-clause-ends
returns-in-Ok-close_full-clause-ends c tracers z l traced =
    let h = c.args.heap in
    let s = c.args.script.now.sections in
    let xs = c.args.seats.items in
    let r = c.args.ended in
    let w = c.in-Ok-close_full.ensures.words in
    record {
      season = z;
      words = w.0;
      seats = xs;
      closed = record { end = w.1; made = are-seated r h s z xs c.requires.made l.left };
      stopped = have-stopped h s z xs c.requires.made r c.in_default.not-Done l.season l.left;
      stored = w.2;
      moved = traced.moved;
      moved_is = traced.moved_is;
      within = stopped-moved r z traced.moved c.in_default.not-Done traced.ended;
      traced = traced.traced;
    }
