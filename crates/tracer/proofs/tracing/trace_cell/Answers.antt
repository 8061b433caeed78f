use Rattle.std.proofs.Common.{ℕ, ◌≡◌, ◌/◌, ◌%◌, ◌+◌, ◌≤◌, arith, Option, Bool, true, false, not, cond, sym, ap, ◌∙◌, subst, refl}
use mir.Val.{bool_byte}
use Rattle.mark_core.specs.Bits.{has_bit}
use Rattle.mark_core.specs.Cards.{block_cells}
use Rattle.mark_core.specs.declared.kinds.Shape.{Shape}
use Rattle.mark_core.specs.declared.kinds.Step.TheVariants.{ReadAlloc}
use Rattle.gc_table.specs.Seats.{Found, view_of}
use Rattle.gc_table.specs.Taking.{May, Finds, after}
use Rattle.packet_pools.specs.Tracing.{Traces}
use Rattle.packet_pools.proofs.Doing.{traces-on}
use Rattle.packet_pools.proofs.TracedSteps.{traced-join}
use Rattle.tracer.specs.Hands.{packet_of, packets_of}
use Rattle.tracer.specs.Parts.{HasPopped, Did}
use Rattle.tracer.proofs.Carried.{carries-same}
use Rattle.tracer.proofs.Hand.{alloc-cleaning, traced-read_alloc, may-read_alloc, published, scanned, unpublished}
use Rattle.std.proofs.lemmas.Bool.{true≢false}
use Rattle.tracer.proofs.InStop.{cell-published}
use Rattle.tracer.proofs.Joined.{did-then}
use Rattle.tracer.proofs.OneStep.{did-alloc}
use Rattle.gc_table.specs.declared.view.View.{View}
use Rattle.packet_pools.specs.OnlyTraced.{OnlyTraced}
use Rattle.gc_table.specs.Log.{events}
use Rattle.packet_pools.specs.Counts.{dirties}
use Rattle.packet_pools.specs.Seeking.{some_event}
use Rattle.packet_pools.specs.StepBounds.{follow_steps}
use Rattle.packet_pools.specs.declared.search.Search.{Search}
use Rattle.packet_pools.proofs.Few.{few-after, few-sum}
use Rattle.gc_table.proofs.History.Log.{events-after, events-join}
use Rattle.tracer.specs.Searched.{Searches}
use Rattle.tracer.specs.StepBounds.{deferring_left}
use Rattle.tracer.proofs.Few.{some-field}
use Rattle.tracer.proofs.Searched.{searches-join, searches-still}
use Rattle.tracer.proofs.tracing.trace_cell.Goals as goal

pub read_alloc-word-requires-clause-may : goal.read_alloc-word-requires-clause-may
read_alloc-word-requires-clause-may c =
    let v : View = view_of c.args.seat.now in
    subst (λ k. May (ReadAlloc (k / block_cells)) v) (sym c.number.ensures) (may-read_alloc v c.args.cell false c.requires.seat.1.may c.requires.cell.popped)

-- the word of the cell's block was read
pub record WasRead (cell n : ℕ) (v w : View) : Type 0 where
  pub view : w ≡ after (ReadAlloc (cell / block_cells)) n v
  pub only : OnlyTraced v w
  pub traces : Traces w

was-read : (cell k n : ℕ) (v w : View) → HasPopped cell false v → Traces v → k ≡ cell → Found (ReadAlloc (k / block_cells)) n v w → WasRead cell n v w
was-read cell k n v w p t is f =
    let e : w ≡ after (ReadAlloc (cell / block_cells)) n v = f.0 ∙ ap (λ x. after (ReadAlloc (x / block_cells)) n v) is in
    let later : OnlyTraced v w = traced-read_alloc v w cell n p e (subst (λ x. Finds (ReadAlloc (x / block_cells)) n v) is f.1) in
    record { view = e; only = later; traces = traces-on v w later t (ap (λ (z : View). z.state.reserved) e) (ap (λ (z : View). z.state.credit) e) }

-- an allocation word was read first
searches-after : (sh : Shape) (s t : Search) (b n : ℕ) (v w x : View) → w ≡ after (ReadAlloc b) n v → OnlyTraced v w → OnlyTraced w x → Searches sh s t (events w x) → Searches sh s t (events v x)
searches-after sh s t b n v w x e a later on =
    searches-join sh s s t (events v w) (events w x) (events v x) (events-join v w x a.log later.log) (searches-still sh s (events v w) (ap (some_event dirties) (events-after v w (ReadAlloc b) n e))) on

pub scan-scanned-requires-clause-seat : goal.scan-scanned-requires-clause-seat
scan-scanned-requires-clause-seat c =
    (c.read_alloc-word.ensures.seat, (was-read c.args.cell c.number.result c.read_alloc-word.result (view_of c.args.seat.now) (view_of c.read_alloc-word.new.seat) c.requires.cell c.requires.seat.1 c.number.ensures c.read_alloc-word.ensures.view).traces)

pub scan-scanned-requires-clause-packets : goal.scan-scanned-requires-clause-packets
scan-scanned-requires-clause-packets c =
    let v : View = view_of c.args.seat.now in
    let w : View = view_of c.read_alloc-word.new.seat in
    let r = was-read c.args.cell c.number.result c.read_alloc-word.result v w c.requires.cell c.requires.seat.1 c.number.ensures c.read_alloc-word.ensures.view in
    carries-same v w r.only.shape (packets_of c.args.packets.now) (ap (λ (z : View). z.state.held) r.view) c.requires.packets.0

zero-plus : (n : ℕ) → 0 + n ≡ n
zero-plus n = omega arith

bit-of : (n a b : ℕ) (d e : Bool) → a ≡ b → d ≡ has_bit n (a % block_cells) → d ≡ e → has_bit n (b % block_cells) ≡ e
bit-of n a b d e is h t = ap (λ x. has_bit n (x % block_cells)) (sym is) ∙ (sym h ∙ t)

pub scan-scanned-requires-clause-hand : goal.scan-scanned-requires-clause-hand
scan-scanned-requires-clause-hand c =
    let v : View = view_of c.args.seat.now in
    let w : View = view_of c.read_alloc-word.new.seat in
    let n : ℕ = c.read_alloc-word.result in
    let r = was-read c.args.cell c.number.result n v w c.requires.cell c.requires.seat.1 c.number.ensures c.read_alloc-word.ensures.view in
    (published v w c.args.cell n c.requires.cell r.view (bit-of n c.number-2.result c.args.cell c.has_bit.result true c.number-2.ensures c.has_bit.ensures c.if-has_bit.true), alloc-cleaning v w c.args.cell n c.requires.cell r.view)

pub scan-scanned-requires-clause-scan : goal.scan-scanned-requires-clause-scan
scan-scanned-requires-clause-scan c =
    let v : View = view_of c.args.seat.now in
    let w : View = view_of c.read_alloc-word.new.seat in
    let n : ℕ = c.read_alloc-word.result in
    let r = was-read c.args.cell c.number.result n v w c.requires.cell c.requires.seat.1 c.number.ensures c.read_alloc-word.ensures.view in
    scanned v w c.args.cell n c.requires.cell r.view (bit-of n c.number-2.result c.args.cell c.has_bit.result true c.number-2.ensures c.has_bit.ensures c.if-has_bit.true)

pub returns-then-has_bit-clause-only : goal.returns-then-has_bit-clause-only
returns-then-has_bit-clause-only c =
    let v : View = view_of c.args.seat.now in
    let w : View = view_of c.read_alloc-word.new.seat in
    let r = was-read c.args.cell c.number.result c.read_alloc-word.result v w c.requires.cell c.requires.seat.1 c.number.ensures c.read_alloc-word.ensures.view in
    traced-join v w (view_of c.scan-scanned.new.seat) r.only c.scan-scanned.ensures.only

pub returns-then-has_bit-clause-part : goal.returns-then-has_bit-clause-part
returns-then-has_bit-clause-part c =
    let v : View = view_of c.args.seat.now in
    let w : View = view_of c.read_alloc-word.new.seat in
    let x : View = view_of c.scan-scanned.new.seat in
    let n : ℕ = c.scan-scanned.result.overflowed in
    let o : Option ℕ = packet_of c.args.packets.now.deferred in
    let r = was-read c.args.cell c.number.result c.read_alloc-word.result v w c.requires.cell c.requires.seat.1 c.number.ensures c.read_alloc-word.ensures.view in
    let s = c.scan-scanned.ensures in
    subst (λ q. Did o q 0 0 n v (events v x)) (sym (ap packet_of s.packets.1))
    (did-then o o o 0 0 0 0 0 n 0 0 n v w x r.only s.only refl refl (zero-plus n) (did-alloc o (c.args.cell / block_cells) _ v w r.view) (s.part o))

pub defer-overflowed-requires-clause-seat : goal.defer-overflowed-requires-clause-seat
defer-overflowed-requires-clause-seat c =
    (c.read_alloc-word.ensures.seat, (was-read c.args.cell c.number.result c.read_alloc-word.result (view_of c.args.seat.now) (view_of c.read_alloc-word.new.seat) c.requires.cell c.requires.seat.1 c.number.ensures c.read_alloc-word.ensures.view).traces)

pub defer-overflowed-requires-clause-packets : goal.defer-overflowed-requires-clause-packets
defer-overflowed-requires-clause-packets c =
    let v : View = view_of c.args.seat.now in
    let w : View = view_of c.read_alloc-word.new.seat in
    let r = was-read c.args.cell c.number.result c.read_alloc-word.result v w c.requires.cell c.requires.seat.1 c.number.ensures c.read_alloc-word.ensures.view in
    (carries-same v w r.only.shape (packets_of c.args.packets.now) (ap (λ (z : View). z.state.held) r.view) c.requires.packets.0, c.requires.packets.1)

pub defer-overflowed-requires-clause-cell : goal.defer-overflowed-requires-clause-cell
defer-overflowed-requires-clause-cell c =
    let v : View = view_of c.args.seat.now in
    let w : View = view_of c.read_alloc-word.new.seat in
    let n : ℕ = c.read_alloc-word.result in
    let r = was-read c.args.cell c.number.result n v w c.requires.cell c.requires.seat.1 c.number.ensures c.read_alloc-word.ensures.view in
    unpublished v w c.args.cell n c.requires.cell r.view (bit-of n c.number-2.result c.args.cell c.has_bit.result false c.number-2.ensures c.has_bit.ensures c.if-has_bit.false)

pub returns-clause-only : goal.returns-clause-only
returns-clause-only c =
    let v : View = view_of c.args.seat.now in
    let w : View = view_of c.read_alloc-word.new.seat in
    let r = was-read c.args.cell c.number.result c.read_alloc-word.result v w c.requires.cell c.requires.seat.1 c.number.ensures c.read_alloc-word.ensures.view in
    traced-join v w (view_of c.defer-overflowed.new.seat) r.only c.defer-overflowed.ensures.only

kept-byte : (b : Bool) → cond b 0 1 ≡ bool_byte (not b)
kept-byte true = refl
kept-byte false = refl

lost-byte : (b : Bool) → cond b 1 0 ≡ bool_byte b
lost-byte true = refl
lost-byte false = refl

pub returns-clause-part : goal.returns-clause-part
returns-clause-part c =
    let v : View = view_of c.args.seat.now in
    let w : View = view_of c.read_alloc-word.new.seat in
    let x : View = view_of c.defer-overflowed.new.seat in
    let b : Bool = c.defer-overflowed.result in
    let o : Option ℕ = packet_of c.args.packets.now.deferred in
    let q : Option ℕ = packet_of c.defer-overflowed.new.packets.deferred in
    let r = was-read c.args.cell c.number.result c.read_alloc-word.result v w c.requires.cell c.requires.seat.1 c.number.ensures c.read_alloc-word.ensures.view in
    let p = c.defer-overflowed.ensures in
    did-then o o q 0 0 0 (cond b 0 1) 0 (cond b 1 0) 0 c.from.result c.from-2.result v w x r.only p.only refl
    (zero-plus (cond b 0 1) ∙ (kept-byte b ∙ sym c.from.ensures))
    (zero-plus (cond b 1 0) ∙ (lost-byte b ∙ sym c.from-2.ensures))
    (did-alloc o (c.args.cell / block_cells) _ v w r.view)
    p.part

pub returns-then-has_bit-clause-tried : goal.returns-then-has_bit-clause-tried
returns-then-has_bit-clause-tried c =
    let sh : Shape = c.args.heap.now.shape in
    let v : View = view_of c.args.seat.now in
    let w : View = view_of c.read_alloc-word.new.seat in
    let k = c.scan-scanned.new in
    let x : View = view_of k.seat in
    let r = was-read c.args.cell c.number.result c.read_alloc-word.result v w c.requires.cell c.requires.seat.1 c.number.ensures c.read_alloc-word.ensures.view in
    searches-after sh c.args.search.now k.search (c.args.cell / block_cells) _ v w x r.view r.only c.scan-scanned.ensures.only c.scan-scanned.ensures.tried

pub returns-clause-tried : goal.returns-clause-tried
returns-clause-tried c =
    let sh : Shape = c.args.heap.now.shape in
    let v : View = view_of c.args.seat.now in
    let w : View = view_of c.read_alloc-word.new.seat in
    let k = c.defer-overflowed.new in
    let x : View = view_of k.seat in
    let r = was-read c.args.cell c.number.result c.read_alloc-word.result v w c.requires.cell c.requires.seat.1 c.number.ensures c.read_alloc-word.ensures.view in
    searches-after sh c.args.search.now k.search (c.args.cell / block_cells) _ v w x r.view r.only c.defer-overflowed.ensures.only c.defer-overflowed.ensures.tried

pub returns-then-has_bit-clause-few : goal.returns-then-has_bit-clause-few
returns-then-has_bit-clause-few c =
    let sh : Shape = c.args.heap.now.shape in
    let v : View = view_of c.args.seat.now in
    let w : View = view_of c.read_alloc-word.new.seat in
    let r = was-read c.args.cell c.number.result c.read_alloc-word.result v w c.requires.cell c.requires.seat.1 c.number.ensures c.read_alloc-word.ensures.view in
    let s = c.scan-scanned.ensures in
    let all = few-sum v w (view_of c.scan-scanned.new.seat) r.only.ran s.only.ran in
    let one = few-after v w _ _ r.view in
    let few = s.few in
    let same = ap (deferring_left sh) s.packets.1 in
    omega (arith, all, one, few, same)

pub returns-clause-few : goal.returns-clause-few
returns-clause-few c =
    let sh : Shape = c.args.heap.now.shape in
    let v : View = view_of c.args.seat.now in
    let w : View = view_of c.read_alloc-word.new.seat in
    let r = was-read c.args.cell c.number.result c.read_alloc-word.result v w c.requires.cell c.requires.seat.1 c.number.ensures c.read_alloc-word.ensures.view in
    let p = c.defer-overflowed.ensures in
    let all = few-sum v w (view_of c.defer-overflowed.new.seat) r.only.ran p.only.ran in
    let one = few-after v w _ _ r.view in
    let few = p.few in
    let some = some-field sh.fields (follow_steps sh) c.args.heap.now.shaped.fields.0 in
    omega (arith, all, one, few, some)

byte-most : (b : Bool) → bool_byte b ≤ 1
byte-most true = omega arith
byte-most false = omega arith

pub returns-clause-most : goal.returns-clause-most
returns-clause-most c =
    let kept = byte-most (not c.defer-overflowed.result) in
    let lost = byte-most c.defer-overflowed.result in
    let one = c.from.ensures in
    let two = c.from-2.ensures in
    (omega (arith, kept, one), omega (arith, lost, two))

pub returns-clause-undeferred : goal.returns-clause-undeferred
returns-clause-undeferred c = λ still.
    let v : View = view_of c.args.seat.now in
    let n : ℕ = c.read_alloc-word.result in
    let finds : Finds (ReadAlloc (c.args.cell / block_cells)) n v = subst (λ x. Finds (ReadAlloc (x / block_cells)) n v) c.number.ensures c.read_alloc-word.ensures.view.1 in
    absurd (true≢false (sym (cell-published v c.args.cell n c.requires.cell finds c.requires.seat.1.may still) ∙ bit-of n c.number-2.result c.args.cell c.has_bit.result false c.number-2.ensures c.has_bit.ensures c.if-has_bit.false))
