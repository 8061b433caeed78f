use Rattle.std.proofs.Common.{ℕ, ◌≡◌, ◌≤◌, ◌*◌, ◌/◌, List, ap, subst, refl, arith, ◌+◌, ◌-◌, length}
use Rattle.mark_core.specs.Numbers.{word_bits}
use Rattle.mark_core.specs.declared.kinds.Shape.{Shape}
use Rattle.packet_pools.proofs.TracedSteps.{traced-join}
use Rattle.gc_table.proofs.History.Log.{events-join}
use Rattle.tracer.specs.Recycling.{Recycled, Recycles}
use Rattle.tracer.proofs.Recycled.{recycles-join, idle-still}
use Rattle.gc_table.specs.declared.view.Entry.{Entry}
use Rattle.gc_table.specs.declared.view.View.{View}
use Rattle.gc_table.specs.Seats.{view_of}
use Rattle.gc_table.specs.Log.{events}
use Rattle.tracer.specs.StepBounds.{packet_steps}
use Rattle.packet_pools.proofs.Few.{few-join}
use Rattle.std.specs.Prelude.{◌<◌, IsTrue}
use Rattle.mark_core.specs.Numbers.{deferred_pool_number}
use Rattle.packet_pools.specs.OnlyTraced.{OnlyTraced}
use Rattle.packet_pools.specs.Outside.{AreNotedOutside}
use Rattle.tracer.proofs.Emptied.{emptied}
use Rattle.tracer.proofs.recycling.recycle_deferred.Goals as goal

-- all packets were seen to
all-seen : (sh : Shape) (hi n : ℕ) (es : List Entry) → sh.packets ≤ hi → Recycles 0 hi n es → Recycled sh n es
all-seen sh hi n es most r = record { all = λ p l. r.all p (omega arith) (omega (arith, l, most)); count = r.count; once = r.once; moves = r.moves }

-- the deferred pool is empty then
none-left : (sh : Shape) (n : ℕ) (v w : View) → v.shape ≡ sh → OnlyTraced v w → Recycled sh n (events v w) → IsTrue v.state.alone → AreNotedOutside deferred_pool_number w
none-left sh n v w shape only r alone p low =
    let here : p < v.shape.packets = subst (λ (s : Shape). p < s.packets) only.shape low in
    emptied v w only.ran r.moves alone (λ q l. r.all q (subst (λ (s : Shape). q < s.packets) shape l)) p here

pub returns-then-packets-eq0-clause-recycled : goal.returns-then-packets-eq0-clause-recycled
returns-then-packets-eq0-clause-recycled c =
    let sh : Shape = c.args.heap.now.shape in
    let packets : c.shape-packets.result.packets ≡ sh.packets = ap (λ (s : Shape). s.packets) c.shape-packets.ensures in
    let whole = c.if-packets-eq0.true in
    all-seen sh (word_bits * (sh.packets / word_bits)) _ _ (omega (arith, packets, whole)) c.recycle_words-moved.ensures.recycles

pub recycle_in_word-requires-clause-idle : goal.recycle_in_word-requires-clause-idle
recycle_in_word-requires-clause-idle c = let e = c.recycle_words-moved.ensures in idle-still (view_of c.args.seat.now) (view_of c.recycle_words-moved.new.seat) e.only.shape e.state c.requires.idle

pub returns-clause-only : goal.returns-clause-only
returns-clause-only c = traced-join (view_of c.args.seat.now) (view_of c.recycle_words-moved.new.seat) (view_of c.recycle_in_word.new.seat) c.recycle_words-moved.ensures.only c.recycle_in_word.ensures.only

pub returns-clause-recycled : goal.returns-clause-recycled
returns-clause-recycled c =
    let sh : Shape = c.args.heap.now.shape in
    let v : View = view_of c.args.seat.now in
    let w : View = view_of c.recycle_words-moved.new.seat in
    let x : View = view_of c.recycle_in_word.new.seat in
    let a = c.recycle_words-moved.ensures in
    let b = c.recycle_in_word.ensures in
    let packets : c.shape-packets.result.packets ≡ sh.packets = ap (λ (s : Shape). s.packets) c.shape-packets.ensures in
    all-seen sh sh.packets _ _ (omega arith)
    (recycles-join 0 (word_bits * (sh.packets / word_bits)) sh.packets c.recycle_words-moved.result c.recycle_in_word.result _ (events v w) (events w x) (events v x)
    (events-join v w x a.only.log b.only.log) (omega arith) (omega arith) refl a.recycles
    (subst (λ (k : ℕ). Recycles (word_bits * (k / word_bits)) k c.recycle_in_word.result (events w x)) packets b.recycles))

pub returns-then-packets-eq0-clause-few : goal.returns-then-packets-eq0-clause-few
returns-then-packets-eq0-clause-few c = let few = c.recycle_words-moved.ensures.few in omega (arith, few)

pub returns-clause-few : goal.returns-clause-few
returns-clause-few c =
    let sh : Shape = c.args.heap.now.shape in
    let v : View = view_of c.args.seat.now in
    let w : View = view_of c.recycle_words-moved.new.seat in
    let x : View = view_of c.recycle_in_word.new.seat in
    let a = c.recycle_words-moved.ensures in
    let b = c.recycle_in_word.ensures in
    let packets : c.shape-packets.result.packets ≡ sh.packets = ap (λ (s : Shape). s.packets) c.shape-packets.ensures in
    let last = subst (λ (k : ℕ). length (events w x) ≤ 1 + packet_steps * (k - word_bits * (k / word_bits))) packets b.few in
    let rest = c.if-packets-eq0.false in
    let all = few-join (sh.packets / word_bits + packet_steps * (word_bits * (sh.packets / word_bits))) (1 + packet_steps * (sh.packets - word_bits * (sh.packets / word_bits))) v w x a.only.ran b.only.ran a.few last in
    omega (arith, all, rest, packets)

pub returns-then-packets-eq0-clause-outside : goal.returns-then-packets-eq0-clause-outside
returns-then-packets-eq0-clause-outside c =
    let sh : Shape = c.args.heap.now.shape in
    let a = c.recycle_words-moved.ensures in
    let packets : c.shape-packets.result.packets ≡ sh.packets = ap (λ (s : Shape). s.packets) c.shape-packets.ensures in
    let whole = c.if-packets-eq0.true in
    none-left sh _ (view_of c.args.seat.now) (view_of c.recycle_words-moved.new.seat) c.requires.seat.0.1 a.only (all-seen sh (word_bits * (sh.packets / word_bits)) _ _ (omega (arith, packets, whole)) a.recycles)

pub returns-clause-outside : goal.returns-clause-outside
returns-clause-outside c =
    let sh : Shape = c.args.heap.now.shape in
    let v : View = view_of c.args.seat.now in
    let w : View = view_of c.recycle_words-moved.new.seat in
    let x : View = view_of c.recycle_in_word.new.seat in
    let a = c.recycle_words-moved.ensures in
    let b = c.recycle_in_word.ensures in
    let packets : c.shape-packets.result.packets ≡ sh.packets = ap (λ (s : Shape). s.packets) c.shape-packets.ensures in
    none-left sh _ v x c.requires.seat.0.1 (traced-join v w x a.only b.only)
    (all-seen sh sh.packets _ _ (omega arith)
    (recycles-join 0 (word_bits * (sh.packets / word_bits)) sh.packets c.recycle_words-moved.result c.recycle_in_word.result _ (events v w) (events w x) (events v x)
    (events-join v w x a.only.log b.only.log) (omega arith) (omega arith) refl a.recycles
    (subst (λ (k : ℕ). Recycles (word_bits * (k / word_bits)) k c.recycle_in_word.result (events w x)) packets b.recycles)))
