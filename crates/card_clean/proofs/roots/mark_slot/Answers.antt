use Rattle.std.proofs.Common.{refl, ℕ, [], ◌∷◌, ◌≡◌, ◌<◌, arith, sym, ap, ◌∙◌, subst, Bool, cond, Some, None, inl, inr}
use Rattle.std.proofs.lemmas.Bool.{ne_eqb}
use Rattle.mark_core.specs.Bits.{cell_of}
use Rattle.mark_core.specs.Seats.{work_in_hand, scan_left, cleaning_left}
use Rattle.mark_core.specs.declared.kinds.Shape.{Shape}
use Rattle.mark_core.specs.declared.kinds.Step.TheVariants.{LoadSlot}
use Rattle.gc_table.specs.declared.view.View.{View}
use Rattle.gc_table.specs.Seats.{view_of}
use Rattle.gc_table.specs.Taking.{after}
use Rattle.packet_pools.specs.OnlyTraced.{OnlyTraced, IsNotedMarked}
use Rattle.packet_pools.proofs.Doing.{traces-on}
use Rattle.packet_pools.proofs.TracedSteps.{traced-join, traced-refl}
use Rattle.card_clean.specs.Drained.{roots_read, sees_roots, IsNotedRoot, slot_index}
use Rattle.card_clean.proofs.Rooting.{may-load_slot, slot-noted, marked-work}
use Rattle.packet_pools.proofs.ScanSteps.{traced-load_slot}
use Rattle.card_clean.proofs.Steps.{idle-hand}
use Rattle.card_clean.proofs.Leavings.{rescanned-join, rescanned-unread, marks-see}
use Rattle.card_clean.specs.Leaving.{rescanned_in}
use Rattle.gc_table.specs.Log.{events}
use Rattle.gc_table.proofs.History.Log.{events-after, events-join, only-after}
use Rattle.gc_table.proofs.Running.{ran-only}
use Rattle.card_clean.proofs.RootReads.{reads-join, scans-none}
use Rattle.packet_pools.specs.Fields.{picked}
use Rattle.packet_pools.specs.Counts.{dirties}
use Rattle.packet_pools.specs.Seeking.{some_event, was_got}
use Rattle.packet_pools.proofs.Few.{few-after, few-sum}
use Rattle.packet_pools.proofs.Tried.{searches-join, searches-still}
use Rattle.card_clean.proofs.roots.mark_slot.Goals as goal

pub load_slot-word-requires-clause-may : goal.load_slot-word-requires-clause-may
load_slot-word-requires-clause-may c =
    let v : View = view_of c.args.seat.now in
    let shape : v.shape ≡ c.args.heap.now.shape = c.requires.seat.0.1 in
    may-load_slot v c.args.section c.args.k c.args.out.now c.requires.seat.1.may (subst (λ (sh : Shape). c.args.section < sh.sections) (sym shape) c.requires.root.0) (subst (λ (sh : Shape). c.args.k < sh.slots) (sym shape) c.requires.root.1) c.requires.out.0 (ap (λ (sh : Shape). work_in_hand sh.fields v.state) shape ∙ c.requires.work)

pub returns-else-word-ne0-clause-only : goal.returns-else-word-ne0-clause-only
returns-else-word-ne0-clause-only c = let e = c.load_slot-word.ensures.view in traced-load_slot (view_of c.args.seat.now) (view_of c.load_slot-word.new.seat) c.load_slot-word.result c.args.section c.args.k e.1 e.0

pub returns-else-word-ne0-clause-seat : goal.returns-else-word-ne0-clause-seat
returns-else-word-ne0-clause-seat c =
    let v : View = view_of c.args.seat.now in
    let w : View = view_of c.load_slot-word.new.seat in
    let e = c.load_slot-word.ensures.view in
    (c.load_slot-word.ensures.seat, traces-on v w (traced-load_slot v w c.load_slot-word.result c.args.section c.args.k e.1 e.0) c.requires.seat.1 (ap (λ (z : View). z.state.reserved) e.0) (ap (λ (z : View). z.state.credit) e.0))

pub returns-else-word-ne0-clause-noted : goal.returns-else-word-ne0-clause-noted
returns-else-word-ne0-clause-noted c alone =
    let v : View = view_of c.args.seat.now in
    let n : ℕ = c.load_slot-word.result in
    let e = c.load_slot-word.ensures.view in
    let x : View = after (LoadSlot c.args.section c.args.k) n v in
    subst (λ (sh : Shape). IsNotedRoot (slot_index sh c.args.section c.args.k) (view_of c.load_slot-word.new.seat)) c.requires.seat.0.1
    (subst (IsNotedRoot (slot_index v.shape c.args.section c.args.k)) (sym e.0) (slot-noted v x n c.args.section c.args.k (subst (λ (sh : Shape). c.args.section < sh.sections) (sym c.requires.seat.0.1) c.requires.root.0) (subst (λ (sh : Shape). c.args.k < sh.slots) (sym c.requires.seat.0.1) c.requires.root.1) alone e.1 (traced-refl x) (inl c.if-word-ne0.false)))

pub mark_cell-requires-clause-seat : goal.mark_cell-requires-clause-seat
mark_cell-requires-clause-seat c =
    let v : View = view_of c.args.seat.now in
    let w : View = view_of c.load_slot-word.new.seat in
    let e = c.load_slot-word.ensures.view in
    (c.load_slot-word.ensures.seat, traces-on v w (traced-load_slot v w c.load_slot-word.result c.args.section c.args.k e.1 e.0) c.requires.seat.1 (ap (λ (z : View). z.state.reserved) e.0) (ap (λ (z : View). z.state.credit) e.0))

pub mark_cell-requires-clause-hand : goal.mark_cell-requires-clause-hand
mark_cell-requires-clause-hand c =
    let n : ℕ = c.load_slot-word.result in
    let e = c.load_slot-word.ensures.view.0 in
    let h = (idle-hand c.args.heap.now.shape.fields (view_of c.args.seat.now).state c.requires.work).0 in
    record {
      popped = ap (λ (z : View). z.state.popped) e ∙ h.popped;
      value = ap (λ (z : View). z.state.value) e ∙ (ap (λ (b : Bool). cond b None (Some (cell_of n))) (ne_eqb n 0 c.if-word-ne0.true) ∙ ap Some (sym c.cell_of.ensures));
      fresh = ap (λ (z : View). z.state.fresh) e ∙ h.fresh;
    }

pub returns-then-word-ne0-clause-only : goal.returns-then-word-ne0-clause-only
returns-then-word-ne0-clause-only c =
    let v : View = view_of c.args.seat.now in
    let w : View = view_of c.load_slot-word.new.seat in
    let e = c.load_slot-word.ensures.view in
    traced-join v w (view_of c.mark_cell.new.seat) (traced-load_slot v w c.load_slot-word.result c.args.section c.args.k e.1 e.0) c.mark_cell.ensures.only

pub returns-then-word-ne0-clause-work : goal.returns-then-word-ne0-clause-work
returns-then-word-ne0-clause-work c =
    let w : View = view_of c.load_slot-word.new.seat in
    let x : View = view_of c.mark_cell.new.seat in
    let e = c.load_slot-word.ensures.view.0 in
    let fields : ℕ = c.args.heap.now.shape.fields in
    let h = idle-hand fields (view_of c.args.seat.now).state c.requires.work in
    marked-work w x c.args.out.now c.mark_cell.new.out fields (ap (λ (z : View). scan_left fields z.state.scan) e ∙ h.1) (ap (λ (z : View). cleaning_left z.state.cleaning) e ∙ h.2) c.mark_cell.ensures.pushes

pub returns-then-word-ne0-clause-noted : goal.returns-then-word-ne0-clause-noted
returns-then-word-ne0-clause-noted c alone =
    let v : View = view_of c.args.seat.now in
    let x : View = view_of c.mark_cell.new.seat in
    let n : ℕ = c.load_slot-word.result in
    let e = c.load_slot-word.ensures.view in
    let m = c.mark_cell.ensures in
    subst (λ (sh : Shape). IsNotedRoot (slot_index sh c.args.section c.args.k) x) c.requires.seat.0.1
    (slot-noted v x n c.args.section c.args.k (subst (λ (sh : Shape). c.args.section < sh.sections) (sym c.requires.seat.0.1) c.requires.root.0) (subst (λ (sh : Shape). c.args.k < sh.slots) (sym c.requires.seat.0.1) c.requires.root.1) alone e.1 (subst (λ z. OnlyTraced z x) e.0 m.only)
    (inr (subst (IsNotedMarked x) c.cell_of.ensures (m.noted (ap (λ (z : View). z.state.alone) e.0 ∙ alone)))))

pub returns-else-word-ne0-clause-left : goal.returns-else-word-ne0-clause-left
returns-else-word-ne0-clause-left c =
    let v : View = view_of c.args.seat.now in
    let e = c.load_slot-word.ensures.view in
    ap (rescanned_in v) (events-after v (view_of c.load_slot-word.new.seat) (LoadSlot c.args.section c.args.k) c.load_slot-word.result e.0)

pub returns-then-word-ne0-clause-left : goal.returns-then-word-ne0-clause-left
returns-then-word-ne0-clause-left c =
    let v : View = view_of c.args.seat.now in
    let w : View = view_of c.load_slot-word.new.seat in
    let x : View = view_of c.mark_cell.new.seat in
    let e = c.load_slot-word.ensures.view in
    let first : rescanned_in v (events v w) ≡ 0 = ap (rescanned_in v) (events-after v w (LoadSlot c.args.section c.args.k) c.load_slot-word.result e.0) in
    let second = rescanned-unread (events w x) w c.mark_cell.ensures.asks.read in
    let j = rescanned-join v w x (traced-load_slot v w c.load_slot-word.result c.args.section c.args.k e.1 e.0).ran c.mark_cell.ensures.only.ran in
    omega (arith, j, first, second)

pub returns-else-word-ne0-clause-steps : goal.returns-else-word-ne0-clause-steps
returns-else-word-ne0-clause-steps c =
    only-after sees_roots (view_of c.args.seat.now) (view_of c.load_slot-word.new.seat) (LoadSlot c.args.section c.args.k) c.load_slot-word.result refl c.load_slot-word.ensures.view.0

pub returns-then-word-ne0-clause-steps : goal.returns-then-word-ne0-clause-steps
returns-then-word-ne0-clause-steps c =
    let v : View = view_of c.args.seat.now in
    let w : View = view_of c.load_slot-word.new.seat in
    let x : View = view_of c.mark_cell.new.seat in
    let e = c.load_slot-word.ensures.view in
    let m = c.mark_cell.ensures in
    ran-only sees_roots v w x (traced-load_slot v w c.load_slot-word.result c.args.section c.args.k e.1 e.0).ran m.only.ran (only-after sees_roots v w (LoadSlot c.args.section c.args.k) c.load_slot-word.result refl e.0)
    (marks-see (events w x) m.counts.scans m.asks.read)

pub returns-else-word-ne0-clause-reads : goal.returns-else-word-ne0-clause-reads
returns-else-word-ne0-clause-reads c =
    ap (picked (roots_read c.args.heap.now.shape)) (events-after (view_of c.args.seat.now) (view_of c.load_slot-word.new.seat) (LoadSlot c.args.section c.args.k) c.load_slot-word.result c.load_slot-word.ensures.view.0)

pub returns-then-word-ne0-clause-reads : goal.returns-then-word-ne0-clause-reads
returns-then-word-ne0-clause-reads c =
    let sh : Shape = c.args.heap.now.shape in
    let v : View = view_of c.args.seat.now in
    let w : View = view_of c.load_slot-word.new.seat in
    let x : View = view_of c.mark_cell.new.seat in
    let e = c.load_slot-word.ensures.view in
    let m = c.mark_cell.ensures in
    let first : picked (roots_read sh) (events v w) ≡ slot_index sh c.args.section c.args.k ∷ [] = ap (picked (roots_read sh)) (events-after v w (LoadSlot c.args.section c.args.k) c.load_slot-word.result e.0) in
    reads-join sh (slot_index sh c.args.section c.args.k ∷ []) [] v w x (traced-load_slot v w c.load_slot-word.result c.args.section c.args.k e.1 e.0) m.only first (scans-none sh (events w x) m.counts.scans)

pub returns-else-word-ne0-clause-few : goal.returns-else-word-ne0-clause-few
returns-else-word-ne0-clause-few c = let one = few-after (view_of c.args.seat.now) (view_of c.load_slot-word.new.seat) (LoadSlot c.args.section c.args.k) _ c.load_slot-word.ensures.view.0 in omega (arith, one)

pub returns-then-word-ne0-clause-few : goal.returns-then-word-ne0-clause-few
returns-then-word-ne0-clause-few c =
    let v : View = view_of c.args.seat.now in
    let w : View = view_of c.load_slot-word.new.seat in
    let e = c.load_slot-word.ensures.view in
    let m = c.mark_cell.ensures in
    let all = few-sum v w (view_of c.mark_cell.new.seat) (traced-load_slot v w c.load_slot-word.result c.args.section c.args.k e.1 e.0).ran m.only.ran in
    let one = few-after v w _ _ e.0 in
    let rest = m.few in
    omega (arith, all, one, rest)

pub returns-else-word-ne0-clause-tried : goal.returns-else-word-ne0-clause-tried
returns-else-word-ne0-clause-tried c =
    let v : View = view_of c.args.seat.now in
    let w : View = view_of c.load_slot-word.new.seat in
    let one = events-after v w (LoadSlot c.args.section c.args.k) c.load_slot-word.result c.load_slot-word.ensures.view.0 in
    searches-still c.args.heap.now.shape c.args.search.now c.args.out.now (events v w) (ap (some_event dirties) one) (λ p. ap (was_got p) one)

pub returns-then-word-ne0-clause-tried : goal.returns-then-word-ne0-clause-tried
returns-then-word-ne0-clause-tried c =
    let sh : Shape = c.args.heap.now.shape in
    let v : View = view_of c.args.seat.now in
    let w : View = view_of c.load_slot-word.new.seat in
    let x : View = view_of c.mark_cell.new.seat in
    let s = c.args.search.now in
    let h = c.args.out.now in
    let e = c.load_slot-word.ensures.view in
    let m = c.mark_cell.ensures in
    let one = events-after v w (LoadSlot c.args.section c.args.k) c.load_slot-word.result e.0 in
    searches-join sh s s c.mark_cell.new.search h h c.mark_cell.new.out (events v w) (events w x) (events v x)
    (events-join v w x (traced-load_slot v w c.load_slot-word.result c.args.section c.args.k e.1 e.0).log m.only.log)
    (searches-still sh s h (events v w) (ap (some_event dirties) one) (λ p. ap (was_got p) one))
    m.tried
