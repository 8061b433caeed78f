use Rattle.std.proofs.Common.{ℕ, ◌≡◌, ◌<◌, ◌%◌, refl, sym, ap, ◌∙◌, subst, arith, true, false, eq-eqb}
use Rattle.std.specs.Prelude.{IsTrue}
use Rattle.std.proofs.lemmas.Bool.{and_from, not_from_false, or_left, true≢false}
use Rattle.mark_core.specs.Bits.{has_bit}
use Rattle.mark_core.specs.Held.{has_free_slot}
use Rattle.mark_core.specs.Numbers.{deferred_pool_number, word_bits}
use Rattle.mark_core.specs.declared.kinds.Shape.{Shape}
use Rattle.mark_core.specs.declared.kinds.Step.TheVariants.{Take}
use Rattle.gc_table.specs.declared.view.View.{View}
use Rattle.gc_table.specs.Seats.{view_of}
use Rattle.gc_table.specs.Log.{steps_of}
use Rattle.packet_pools.specs.Gains.{Seeks}
use Rattle.packet_pools.specs.Seeking.{loses, was_lost}
use Rattle.packet_pools.specs.Tracing.{Traces}
use Rattle.gc_table.proofs.History.Log.{events-after}
use Rattle.packet_pools.proofs.Conditions.{may-read_length, may-take}
use Rattle.packet_pools.proofs.Doing.{seeks-from, traces-same, traced-take}
use Rattle.packet_pools.proofs.TracedSteps.{traced-refl}
use Rattle.packet_pools.proofs.TakenOne.{lost-state}
use Rattle.packet_pools.proofs.TakenRead.{both, gains, only-traced, traces, w-holds, w-there, w-unread}
use Rattle.packet_pools.proofs.deferred.take_deferred_at.Goals as goal

there : (sh : Shape) (v : View) (p : ℕ) → v.shape ≡ sh → p < sh.packets → p < v.shape.packets
there sh v p e h = subst (λ (s : Shape). p < s.packets) (sym e) h

seeks : (v : View) → Traces v → IsTrue (has_free_slot v.state.held) → Seeks deferred_pool_number v
seeks v t free = seeks-from deferred_pool_number v v (omega arith) refl (traced-refl v) refl t free

pub take-requires-clause-may : goal.take-requires-clause-may
take-requires-clause-may c =
    let v : View = view_of c.args.seat.now in
    let k = seeks v c.requires.seat.1 c.requires.free in
    may-take v deferred_pool_number c.args.p k.may k.pool (there c.args.heap.now.shape v c.args.p c.requires.seat.0.1 c.requires.packet.0) c.requires.packet.1 k.reserved k.free

pub returns-then-not-take-clause-only : goal.returns-then-not-take-clause-only
returns-then-not-take-clause-only c = traced-take (view_of c.args.seat.now) (view_of c.take.new.seat) _ deferred_pool_number c.args.p c.take.ensures.view.2 c.take.ensures.view.1

pub returns-then-not-take-clause-seat : goal.returns-then-not-take-clause-seat
returns-then-not-take-clause-seat c =
    let v : View = view_of c.args.seat.now in
    let w : View = view_of c.take.new.seat in
    let t = c.take.ensures.view in
    let lost : has_bit t.0 (c.args.p % word_bits) ≡ false = sym t.3 ∙ c.if-not-take.true in
    (c.take.ensures.seat, traces-same v w (traced-take v w _ deferred_pool_number c.args.p t.2 t.1) (ap (λ (x : View). x.state) t.1 ∙ lost-state v.shape v.state deferred_pool_number c.args.p t.0 lost) c.requires.seat.1)

pub returns-then-not-take-clause-none : goal.returns-then-not-take-clause-none
returns-then-not-take-clause-none c =
    let v : View = view_of c.args.seat.now in
    let w : View = view_of c.take.new.seat in
    let t = c.take.ensures.view in
    let p : ℕ = c.args.p in
    let es = events-after v w (Take deferred_pool_number p) t.0 t.1 in
    let lost : has_bit t.0 (p % word_bits) ≡ false = sym t.3 ∙ c.if-not-take.true in (
      ap (λ (x : View). x.state) t.1 ∙ lost-state v.shape v.state deferred_pool_number p t.0 lost,
      ap (was_lost deferred_pool_number p) es ∙ or_left (loses deferred_pool_number p (Take deferred_pool_number p) t.0) _ (and_from _ _ (eq-eqb p p refl) (not_from_false _ lost)),
      ap steps_of es,
    )

pub read_length-length-requires-clause-may : goal.read_length-length-requires-clause-may
read_length-length-requires-clause-may c =
    let v : View = view_of c.args.seat.now in
    let w : View = view_of c.take.new.seat in
    let k = seeks v c.requires.seat.1 c.requires.free in
    let t = c.take.ensures.view in
    let p : ℕ = c.args.p in
    let low = there c.args.heap.now.shape v p c.requires.seat.0.1 c.requires.packet.0 in
    let bit : has_bit t.0 (p % word_bits) ≡ true = sym t.3 ∙ c.if-not-take.false in
    may-read_length w p (w-there v w deferred_pool_number p t.0 k low c.requires.packet.1 t.1 bit) (w-holds v w deferred_pool_number p t.0 k low c.requires.packet.1 t.1 bit) (w-unread v w deferred_pool_number p t.0 k low c.requires.packet.1 t.1 bit)

pub returns-clause-seat : goal.returns-clause-seat
returns-clause-seat c =
    let v : View = view_of c.args.seat.now in
    let k = seeks v c.requires.seat.1 c.requires.free in
    let t = c.take.ensures.view in
    let r = c.read_length-length.ensures.view in
    let low = there c.args.heap.now.shape v c.args.p c.requires.seat.0.1 c.requires.packet.0 in
    (c.read_length-length.ensures.seat, traces v (view_of c.take.new.seat) deferred_pool_number c.args.p t.0 k low c.requires.packet.1 t.1 (sym t.3 ∙ c.if-not-take.false) (view_of c.read_length-length.new.seat) r.0 c.read_length-length.result r.1 r.2 r.3 t.2)

pub returns-clause-only : goal.returns-clause-only
returns-clause-only c =
    let v : View = view_of c.args.seat.now in
    let k = seeks v c.requires.seat.1 c.requires.free in
    let t = c.take.ensures.view in
    let r = c.read_length-length.ensures.view in
    let low = there c.args.heap.now.shape v c.args.p c.requires.seat.0.1 c.requires.packet.0 in
    only-traced v (view_of c.take.new.seat) deferred_pool_number c.args.p t.0 k low c.requires.packet.1 t.1 (sym t.3 ∙ c.if-not-take.false) (view_of c.read_length-length.new.seat) r.0 c.read_length-length.result r.1 r.2 r.3 t.2

pub returns-clause-some : goal.returns-clause-some
returns-clause-some c =
    let v : View = view_of c.args.seat.now in
    let w : View = view_of c.take.new.seat in
    let x : View = view_of c.read_length-length.new.seat in
    let p : ℕ = c.args.p in
    let k = seeks v c.requires.seat.1 c.requires.free in
    let t = c.take.ensures.view in
    let r = c.read_length-length.ensures.view in
    let low = there c.args.heap.now.shape v p c.requires.seat.0.1 c.requires.packet.0 in
    let bit : has_bit t.0 (p % word_bits) ≡ true = sym t.3 ∙ c.if-not-take.false in
    let n : ℕ = c.read_length-length.result in (
      gains v w deferred_pool_number p t.0 k low c.requires.packet.1 t.1 bit x r.0 n r.1 r.2 r.3 false (λ e. absurd (true≢false (sym e))),
      refl,
      ap steps_of (both v w deferred_pool_number p t.0 k low c.requires.packet.1 t.1 bit x r.0 n r.1 r.2 r.3),
    )
