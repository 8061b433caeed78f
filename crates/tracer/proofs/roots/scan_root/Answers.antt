use Rattle.std.proofs.Common.{ℕ, ◌<◌, Some, None, List, [], ◌∷◌, ◌++◌, sym, ap, ◌∙◌, subst, arith}
use Rattle.std.proofs.lemmas.Bool.{ne_eqb}
use Rattle.mark_core.specs.Seats.{work_in_hand}
use Rattle.mark_core.specs.declared.kinds.Shape.{Shape}
use Rattle.mark_core.specs.declared.kinds.Step.TheVariants.{ReadRoot}
use Rattle.gc_table.specs.declared.view.Entry.{Entry}
use Rattle.packet_pools.specs.Fields.{AsksToMark}
use Rattle.packet_pools.specs.Scanning.{InHand}
use Rattle.packet_pools.proofs.Doing.{traces-on}
use Rattle.packet_pools.proofs.TracedSteps.{traced-join}
use Rattle.gc_table.proofs.History.Log.{events-after, events-join}
use Rattle.tracer.proofs.Carried.{carries-fill, carries-free, carries-head, carries-same}
use Rattle.packet_pools.proofs.ScanSteps.{traced-read_root}
use Rattle.tracer.proofs.RootScans.{cell-seen, holds-one, loaded, marked-work, may-read_root, nil-seen, nil-work, root-cell, root-nil}
use Rattle.gc_table.specs.declared.view.View.{View}
use Rattle.gc_table.specs.Seats.{view_of}
use Rattle.gc_table.specs.Log.{events}
use Rattle.packet_pools.specs.Counts.{dirties}
use Rattle.packet_pools.specs.Seeking.{some_event, was_got}
use Rattle.packet_pools.proofs.Few.{few-after, few-sum}
use Rattle.packet_pools.proofs.Tried.{searches-join, searches-still}
use Rattle.tracer.proofs.roots.scan_root.Goals as goal

pub read_root-word-requires-clause-may : goal.read_root-word-requires-clause-may
read_root-word-requires-clause-may c =
    let v : View = view_of c.args.seat.now in
    let shape = c.requires.seat.0.1 in
    may-read_root v c.args.section c.args.variable c.requires.seat.1.may
    (subst (λ (s : Shape). c.args.section < s.sections) (sym shape) c.requires.root.0)
    c.requires.root.1
    (holds-one c.args.out.now [] v c.requires.out)
    (ap (λ (s : Shape). work_in_hand s.fields v.state) shape ∙ c.requires.work)

pub returns-then-word-eq0-clause-seat : goal.returns-then-word-eq0-clause-seat
returns-then-word-eq0-clause-seat c =
    let v : View = view_of c.args.seat.now in
    let w : View = view_of c.read_root-word.new.seat in
    let e = c.read_root-word.ensures.view in
    (c.read_root-word.ensures.seat, traces-on v w (traced-read_root v w _ c.args.section c.args.variable e.1 e.0) c.requires.seat.1 (ap (λ (z : View). z.state.reserved) e.0) (ap (λ (z : View). z.state.credit) e.0))

pub returns-then-word-eq0-clause-only : goal.returns-then-word-eq0-clause-only
returns-then-word-eq0-clause-only c =
    let e = c.read_root-word.ensures.view in
    traced-read_root (view_of c.args.seat.now) (view_of c.read_root-word.new.seat) _ c.args.section c.args.variable e.1 e.0

pub returns-then-word-eq0-clause-out : goal.returns-then-word-eq0-clause-out
returns-then-word-eq0-clause-out c =
    let v : View = view_of c.args.seat.now in
    let w : View = view_of c.read_root-word.new.seat in
    let e = c.read_root-word.ensures.view in
    carries-same v w (ap (λ (z : View). z.shape) e.0) (c.args.out.now ∷ []) (ap (λ (z : View). z.state.held) e.0) c.requires.out

pub returns-then-word-eq0-clause-work : goal.returns-then-word-eq0-clause-work
returns-then-word-eq0-clause-work c =
    let e = c.read_root-word.ensures.view in
    nil-work (view_of c.args.seat.now) (view_of c.read_root-word.new.seat) c.args.section c.args.variable _ e.0 c.args.heap.now.shape.fields c.requires.work c.if-word-eq0.true

pub returns-then-word-eq0-clause-follows : goal.returns-then-word-eq0-clause-follows
returns-then-word-eq0-clause-follows c =
    let v : View = view_of c.args.seat.now in
    let w : View = view_of c.read_root-word.new.seat in
    root-nil c.args.heap.now.shape c.args.section c.args.variable c.read_root-word.result (events v w) (events-after v w (ReadRoot c.args.section c.args.variable) _ c.read_root-word.ensures.view.0) c.if-word-eq0.true

pub mark_cell-requires-clause-seat : goal.mark_cell-requires-clause-seat
mark_cell-requires-clause-seat c =
    let v : View = view_of c.args.seat.now in
    let w : View = view_of c.read_root-word.new.seat in
    let e = c.read_root-word.ensures.view in
    (c.read_root-word.ensures.seat, traces-on v w (traced-read_root v w _ c.args.section c.args.variable e.1 e.0) c.requires.seat.1 (ap (λ (z : View). z.state.reserved) e.0) (ap (λ (z : View). z.state.credit) e.0))

pub mark_cell-requires-clause-out : goal.mark_cell-requires-clause-out
mark_cell-requires-clause-out c =
    let v : View = view_of c.args.seat.now in
    let w : View = view_of c.read_root-word.new.seat in
    let e = c.read_root-word.ensures.view in
    let k = carries-same v w (ap (λ (z : View). z.shape) e.0) (c.args.out.now ∷ []) (ap (λ (z : View). z.state.held) e.0) c.requires.out in
    (carries-head c.args.out.now [] w k, carries-free (c.args.out.now ∷ []) w (omega arith) k)

pub mark_cell-requires-clause-hand : goal.mark_cell-requires-clause-hand
mark_cell-requires-clause-hand c =
    let w : View = view_of c.read_root-word.new.seat in
    let e = c.read_root-word.ensures.view in
    subst (λ k. InHand (Some k) None w.state) (sym c.cell_of.ensures)
    (loaded (view_of c.args.seat.now) w c.args.section c.args.variable _ e.0 c.args.heap.now.shape.fields c.requires.work (ne_eqb c.read_root-word.result 0 c.if-word-eq0.false))

pub returns-clause-only : goal.returns-clause-only
returns-clause-only c =
    let v : View = view_of c.args.seat.now in
    let w : View = view_of c.read_root-word.new.seat in
    let e = c.read_root-word.ensures.view in
    traced-join v w (view_of c.mark_cell.new.seat) (traced-read_root v w _ c.args.section c.args.variable e.1 e.0) c.mark_cell.ensures.only

pub returns-clause-out : goal.returns-clause-out
returns-clause-out c =
    let v : View = view_of c.args.seat.now in
    let w : View = view_of c.read_root-word.new.seat in
    let x : View = view_of c.mark_cell.new.seat in
    let e = c.read_root-word.ensures.view in
    let m = c.mark_cell.ensures in
    carries-fill w x m.only.shape c.args.out.now c.mark_cell.new.out [] m.pushes.packet
    (carries-same v w (ap (λ (z : View). z.shape) e.0) (c.args.out.now ∷ []) (ap (λ (z : View). z.state.held) e.0) c.requires.out)

pub returns-clause-work : goal.returns-clause-work
returns-clause-work c =
    let e = c.read_root-word.ensures.view in
    marked-work (view_of c.args.seat.now) (view_of c.read_root-word.new.seat) c.args.section c.args.variable _ e.0 c.args.heap.now.shape.fields c.requires.work (view_of c.mark_cell.new.seat) c.args.out.now c.mark_cell.new.out c.mark_cell.ensures.pushes

pub returns-clause-follows : goal.returns-clause-follows
returns-clause-follows c =
    let v : View = view_of c.args.seat.now in
    let w : View = view_of c.read_root-word.new.seat in
    let x : View = view_of c.mark_cell.new.seat in
    let n : ℕ = c.read_root-word.result in
    let e = c.read_root-word.ensures.view in
    let m = c.mark_cell.ensures in
    root-cell c.args.heap.now.shape c.args.section c.args.variable n _ _ _ (events w x) (events v x)
    (events-join v w x (traced-read_root v w n c.args.section c.args.variable e.1 e.0).log m.only.log ∙ ap (λ (l : List Entry). l ++ events w x) (events-after v w _ _ e.0))
    (ne_eqb n 0 c.if-word-eq0.false)
    (subst (λ (k : ℕ). AsksToMark (k ∷ []) (events w x)) c.cell_of.ensures m.asks)
    m.counts

pub returns-then-word-eq0-clause-seen : goal.returns-then-word-eq0-clause-seen
returns-then-word-eq0-clause-seen c =
    let v : View = view_of c.args.seat.now in
    let w : View = view_of c.read_root-word.new.seat in
    nil-seen c.args.section c.args.variable c.read_root-word.result (events v w) (events-after v w (ReadRoot c.args.section c.args.variable) _ c.read_root-word.ensures.view.0) c.if-word-eq0.true

pub returns-clause-seen : goal.returns-clause-seen
returns-clause-seen c =
    let v : View = view_of c.args.seat.now in
    let w : View = view_of c.read_root-word.new.seat in
    let x : View = view_of c.mark_cell.new.seat in
    let n : ℕ = c.read_root-word.result in
    let e = c.read_root-word.ensures.view in
    let m = c.mark_cell.ensures in
    cell-seen c.args.section c.args.variable n (events w x) (events v x)
    (events-join v w x (traced-read_root v w n c.args.section c.args.variable e.1 e.0).log m.only.log ∙ ap (λ (l : List Entry). l ++ events w x) (events-after v w _ _ e.0))
    (subst (λ (k : ℕ). AsksToMark (k ∷ []) (events w x)) c.cell_of.ensures m.asks).asked

pub returns-then-word-eq0-clause-few : goal.returns-then-word-eq0-clause-few
returns-then-word-eq0-clause-few c = let one = few-after (view_of c.args.seat.now) (view_of c.read_root-word.new.seat) (ReadRoot c.args.section c.args.variable) _ c.read_root-word.ensures.view.0 in omega (arith, one)

pub returns-clause-few : goal.returns-clause-few
returns-clause-few c =
    let v : View = view_of c.args.seat.now in
    let w : View = view_of c.read_root-word.new.seat in
    let e = c.read_root-word.ensures.view in
    let m = c.mark_cell.ensures in
    let all = few-sum v w (view_of c.mark_cell.new.seat) (traced-read_root v w _ c.args.section c.args.variable e.1 e.0).ran m.only.ran in
    let one = few-after v w _ _ e.0 in
    let rest = m.few in
    omega (arith, all, one, rest)

pub returns-then-word-eq0-clause-tried : goal.returns-then-word-eq0-clause-tried
returns-then-word-eq0-clause-tried c =
    let v : View = view_of c.args.seat.now in
    let w : View = view_of c.read_root-word.new.seat in
    let one = events-after v w (ReadRoot c.args.section c.args.variable) _ c.read_root-word.ensures.view.0 in
    searches-still c.args.heap.now.shape c.args.search.now c.args.out.now (events v w) (ap (some_event dirties) one) (λ p. ap (was_got p) one)

pub returns-clause-tried : goal.returns-clause-tried
returns-clause-tried c =
    let sh : Shape = c.args.heap.now.shape in
    let v : View = view_of c.args.seat.now in
    let w : View = view_of c.read_root-word.new.seat in
    let x : View = view_of c.mark_cell.new.seat in
    let s = c.args.search.now in
    let h = c.args.out.now in
    let e = c.read_root-word.ensures.view in
    let m = c.mark_cell.ensures in
    let one = events-after v w (ReadRoot c.args.section c.args.variable) _ e.0 in
    searches-join sh s s c.mark_cell.new.search h h c.mark_cell.new.out (events v w) (events w x) (events v x)
    (events-join v w x (traced-read_root v w _ c.args.section c.args.variable e.1 e.0).log m.only.log)
    (searches-still sh s h (events v w) (ap (some_event dirties) one) (λ p. ap (was_got p) one))
    m.tried
