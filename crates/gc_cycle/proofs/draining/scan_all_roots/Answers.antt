use Rattle.std.proofs.Common.{arith, ap, below_more, sym, ◌∙◌}
use Rattle.mark_core.specs.declared.kinds.Shape.{Shape}
use Rattle.gc_table.specs.Seats.{view_of}
use Rattle.gc_table.specs.declared.view.View.{View}
use Rattle.gc_table.proofs.History.Log.{events-none}
use Rattle.card_clean.specs.Leaving.{rescanned_in}
use Rattle.gc_cycle.specs.Standing.{is_at_rest}
use Rattle.gc_cycle.proofs.Turns.{has-traced, roots-earlier, roots-later, roots-scanned}
use Rattle.gc_cycle.proofs.Traced.{drains-on, drains-rest, drains-trace, rescans-none, traced-nothing-done}
use Rattle.gc_cycle.proofs.draining.scan_all_roots.Goals as goal

pub loop-section-init : goal.loop-section-init
loop-section-init c =
    let v : View = view_of c.args.seat.now in
    record { sits = c.requires.seat; drains = c.requires.drains; traced = traced-nothing-done v (drains-rest v c.requires.drains); none = ap (rescanned_in v) (events-none v); roots = λ s l. absurd (omega (arith, l)) }

pub scan_roots-requires-clause-seat : goal.scan_roots-requires-clause-seat
scan_roots-requires-clause-seat c = let i = c.loop-section.invariant in (i.sits, drains-trace (view_of c.loop-section.seat) i.drains)

pub scan_roots-requires-clause-rest : goal.scan_roots-requires-clause-rest
scan_roots-requires-clause-rest c =
    let v : View = view_of c.loop-section.seat in
    let i = c.loop-section.invariant in
    ap (λ (sh : Shape). is_at_rest sh v.state) (sym i.sits.1) ∙ drains-rest v i.drains

pub loop-section-preserved : goal.loop-section-preserved
loop-section-preserved c =
    let v : View = view_of c.args.seat.now in
    let w : View = view_of c.loop-section.seat in
    let x : View = view_of c.scan_roots.new.seat in
    let i = c.loop-section.invariant in
    let e = c.scan_roots.ensures in
    let r = i.traced.ran in
    let p = e.traced.ran in
    record {
      sits = e.seat;
      drains = drains-on w x i.drains e.traced;
      traced = has-traced v w x i.traced e.traced;
      none = rescans-none v w x r p i.none e.rescanned;
      roots = below_more _ _ (λ s l. roots-earlier s v w x r p (i.roots s l)) (roots-later c.loop-section.section v w x r p (roots-scanned c.loop-section.section c.scan_roots.result w x e.scans));
    }

pub returns-clause-roots : goal.returns-clause-roots
returns-clause-roots c = λ s l.
    let far = c.loop-section-test.false in
    let all = ap (λ (sh : Shape). sh.sections) c.shape-section-end.ensures in
    c.loop-section.invariant.roots s (omega (arith, far, all, l))
