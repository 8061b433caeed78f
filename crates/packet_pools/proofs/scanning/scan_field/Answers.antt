use Rattle.std.proofs.Common.{ℕ, ◌-◌, ◌≡◌, ◌<◌, [], ◌∷◌, ◌++◌, List, sym, ap, ◌∙◌, subst, arith}
use Rattle.std.specs.Prelude.{IsTrue}
use Rattle.mark_core.specs.Steps.ColourSteps.{may_read_field}
use Rattle.mark_core.specs.declared.kinds.Shape.{Shape}
use Rattle.mark_core.specs.declared.kinds.Step.TheVariants.{ReadField}
use Rattle.gc_table.specs.declared.view.Entry.{Entry}
use Rattle.gc_table.specs.declared.view.View.{View}
use Rattle.gc_table.specs.Seats.{view_of}
use Rattle.gc_table.specs.Log.{events}
use Rattle.packet_pools.specs.Scanning.{Pushes}
use Rattle.packet_pools.specs.Counts.{CountsMarked}
use Rattle.gc_table.proofs.History.Log.{entry_of, events-after, events-join}
use Rattle.packet_pools.proofs.TracedSteps.{traced-join}
use Rattle.packet_pools.proofs.Doing.{traces-on}
use Rattle.packet_pools.proofs.ScanSteps.{may-read_field, traced-read_field}
use Rattle.packet_pools.specs.Fields.{AsksToMark}
use Rattle.std.proofs.lemmas.Bool.{ne_eqb}
use Rattle.packet_pools.proofs.Reading.{follows-cell, follows-nil}
use Rattle.packet_pools.specs.Counts.{dirties}
use Rattle.packet_pools.specs.Seeking.{some_event, was_got}
use Rattle.packet_pools.proofs.Few.{few-after, few-sum}
use Rattle.packet_pools.proofs.Tried.{searches-join, searches-still}
use Rattle.packet_pools.proofs.Counting.{counts-join, counts-read}
use Rattle.packet_pools.proofs.scanning.scan_field.Goals as goal

pub read_field-word-requires-clause-may : goal.read_field-word-requires-clause-may
read_field-word-requires-clause-may c =
    let v : View = view_of c.args.seat.now in
    let shape : v.shape ≡ c.args.heap.now.shape = c.requires.seat.0.1 in
    may-read_field v c.args.cell c.args.i (subst (λ (sh : Shape). c.args.i < sh.fields) (sym shape) c.requires.field.0) (subst (λ (sh : Shape). IsTrue (may_read_field sh v.state c.args.cell c.args.i)) (sym shape) c.requires.field.1) c.requires.hand

pub returns-then-word-eq0-clause-seat : goal.returns-then-word-eq0-clause-seat
returns-then-word-eq0-clause-seat c =
    let v : View = view_of c.args.seat.now in
    let w : View = view_of c.read_field-word.new.seat in
    let e = c.read_field-word.ensures.view in
    (c.read_field-word.ensures.seat, traces-on v w (traced-read_field v w _ c.args.cell c.args.i e.1 e.0) c.requires.seat.1 (ap (λ (z : View). z.state.reserved) e.0) (ap (λ (z : View). z.state.credit) e.0))

pub returns-then-word-eq0-clause-only : goal.returns-then-word-eq0-clause-only
returns-then-word-eq0-clause-only c =
    let e = c.read_field-word.ensures.view in
    traced-read_field (view_of c.args.seat.now) (view_of c.read_field-word.new.seat) _ c.args.cell c.args.i e.1 e.0

pub returns-then-word-eq0-clause-counts : goal.returns-then-word-eq0-clause-counts
returns-then-word-eq0-clause-counts c =
    let sh : Shape = c.args.heap.now.shape in
    let v : View = view_of c.args.seat.now in
    let w : View = view_of c.read_field-word.new.seat in
    let e = c.read_field-word.ensures.view in
    subst (λ z. CountsMarked sh z.marked (z.marked - z.overflowed) z.overflowed (events v w)) (sym c.none.ensures)
    (subst (CountsMarked sh 0 0 0) (sym (events-after v w (ReadField c.args.cell c.args.i) _ e.0)) (counts-read sh c.args.cell c.args.i _))

pub mark_cell-requires-clause-seat : goal.mark_cell-requires-clause-seat
mark_cell-requires-clause-seat c =
    let v : View = view_of c.args.seat.now in
    let w : View = view_of c.read_field-word.new.seat in
    let e = c.read_field-word.ensures.view in
    (c.read_field-word.ensures.seat, traces-on v w (traced-read_field v w _ c.args.cell c.args.i e.1 e.0) c.requires.seat.1 (ap (λ (z : View). z.state.reserved) e.0) (ap (λ (z : View). z.state.credit) e.0))

pub returns-clause-only : goal.returns-clause-only
returns-clause-only c =
    let v : View = view_of c.args.seat.now in
    let w : View = view_of c.read_field-word.new.seat in
    let e = c.read_field-word.ensures.view in
    traced-join v w (view_of c.mark_cell.new.seat) (traced-read_field v w _ c.args.cell c.args.i e.1 e.0) c.mark_cell.ensures.only

pub returns-clause-pushes : goal.returns-clause-pushes
returns-clause-pushes c =
    let x : View = view_of c.mark_cell.new.seat in
    let p =
    subst (λ (z : View). Pushes c.args.out.now c.mark_cell.new.out z.state.scan z.state.cleaning z x) c.read_field-word.ensures.view.0 c.mark_cell.ensures.pushes in
    record {
      packet = record { held = p.packet.held; free = p.packet.free; frees = p.packet.frees; slots = p.packet.slots };
      hand = p.hand;
      scan = p.scan;
      cleaning = p.cleaning;
      owes = p.owes;
    }

pub returns-clause-counts : goal.returns-clause-counts
returns-clause-counts c =
    let sh : Shape = c.args.heap.now.shape in
    let v : View = view_of c.args.seat.now in
    let w : View = view_of c.read_field-word.new.seat in
    let x : View = view_of c.mark_cell.new.seat in
    let e = c.read_field-word.ensures.view in
    let m = c.mark_cell.ensures in
    counts-join sh 0 _ _ 0 _ _ 0 _ _ (entry_of (ReadField c.args.cell c.args.i) c.read_field-word.result ∷ []) (events w x) (events v x)
    (events-join v w x (traced-read_field v w _ c.args.cell c.args.i e.1 e.0).log m.only.log ∙ ap (λ (l : List Entry). l ++ events w x) (events-after v w _ _ e.0))
    (omega arith)
    (omega arith)
    (omega arith)
    (counts-read sh c.args.cell c.args.i _)
    m.counts

pub returns-then-word-eq0-clause-follows : goal.returns-then-word-eq0-clause-follows
returns-then-word-eq0-clause-follows c =
    let v : View = view_of c.args.seat.now in
    let w : View = view_of c.read_field-word.new.seat in
    follows-nil c.args.cell c.args.i c.read_field-word.result (events v w) (events-after v w (ReadField c.args.cell c.args.i) _ c.read_field-word.ensures.view.0) c.if-word-eq0.true

pub returns-clause-follows : goal.returns-clause-follows
returns-clause-follows c =
    let v : View = view_of c.args.seat.now in
    let w : View = view_of c.read_field-word.new.seat in
    let x : View = view_of c.mark_cell.new.seat in
    let n : ℕ = c.read_field-word.result in
    let e = c.read_field-word.ensures.view in
    let m = c.mark_cell.ensures in
    follows-cell c.args.cell c.args.i n (events w x) (events v x)
    (events-join v w x (traced-read_field v w n c.args.cell c.args.i e.1 e.0).log m.only.log ∙ ap (λ (l : List Entry). l ++ events w x) (events-after v w _ _ e.0))
    (ne_eqb n 0 c.if-word-eq0.false)
    (subst (λ (k : ℕ). AsksToMark (k ∷ []) (events w x)) c.cell_of.ensures m.asks)

pub returns-then-word-eq0-clause-few : goal.returns-then-word-eq0-clause-few
returns-then-word-eq0-clause-few c = let one = few-after (view_of c.args.seat.now) (view_of c.read_field-word.new.seat) (ReadField c.args.cell c.args.i) _ c.read_field-word.ensures.view.0 in omega (arith, one)

pub returns-clause-few : goal.returns-clause-few
returns-clause-few c =
    let v : View = view_of c.args.seat.now in
    let w : View = view_of c.read_field-word.new.seat in
    let e = c.read_field-word.ensures.view in
    let m = c.mark_cell.ensures in
    let all = few-sum v w (view_of c.mark_cell.new.seat) (traced-read_field v w _ c.args.cell c.args.i e.1 e.0).ran m.only.ran in
    let one = few-after v w _ _ e.0 in
    let rest = m.few in
    omega (arith, all, one, rest)

pub returns-then-word-eq0-clause-tried : goal.returns-then-word-eq0-clause-tried
returns-then-word-eq0-clause-tried c =
    let e = events-after (view_of c.args.seat.now) (view_of c.read_field-word.new.seat) (ReadField c.args.cell c.args.i) _ c.read_field-word.ensures.view.0 in
    searches-still c.args.heap.now.shape c.args.search.now c.args.out.now (events (view_of c.args.seat.now) (view_of c.read_field-word.new.seat)) (ap (some_event dirties) e) (λ p. ap (was_got p) e)

pub returns-clause-tried : goal.returns-clause-tried
returns-clause-tried c =
    let sh : Shape = c.args.heap.now.shape in
    let v : View = view_of c.args.seat.now in
    let w : View = view_of c.read_field-word.new.seat in
    let x : View = view_of c.mark_cell.new.seat in
    let t = c.args.search.now in
    let h = c.args.out.now in
    let s = c.read_field-word.ensures.view in
    let m = c.mark_cell.ensures in
    let e = events-after v w (ReadField c.args.cell c.args.i) _ s.0 in
    searches-join sh t t c.mark_cell.new.search h h c.mark_cell.new.out (events v w) (events w x) (events v x)
    (events-join v w x (traced-read_field v w _ c.args.cell c.args.i s.1 s.0).log m.only.log)
    (searches-still sh t h (events v w) (ap (some_event dirties) e) (λ z. ap (was_got z) e))
    m.tried
