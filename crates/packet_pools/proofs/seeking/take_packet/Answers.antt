use Rattle.std.proofs.Common.{ℕ, ◌≡◌, ◌<◌, ◌≤◌, ◌+◌, ◌%◌, ◌/◌, [], ◌∷◌, sym, ap, ◌∙◌, subst, arith, Bool, true, false, eqb}
use Rattle.std.specs.Prelude.{IsTrue}
use Rattle.std.proofs.lemmas.Bool.{true≢false}
use Rattle.mark_core.specs.Bits.{has_bit}
use Rattle.mark_core.specs.Numbers.{high_pool_number, word_bits}
use Rattle.mark_core.specs.Seats.{work_in_hand}
use Rattle.mark_core.specs.declared.kinds.Shape.{Shape}
use Rattle.mark_core.specs.declared.kinds.Step.TheVariants.{Take}
use Rattle.gc_table.specs.declared.view.View.{View}
use Rattle.gc_table.specs.Seats.{view_of}
use Rattle.gc_table.specs.Log.{events}
use Rattle.packet_pools.specs.Gains.{MissesPackets}
use Rattle.gc_table.proofs.History.Log.{events-after}
use Rattle.packet_pools.proofs.TracedSteps.{traced-join}
use Rattle.packet_pools.proofs.Conditions.{may-take, may-read_length}
use Rattle.packet_pools.specs.StepBounds.{try_steps}
use Rattle.packet_pools.proofs.Few.{few-after, few-join, few-steps, given-full, some-tries}
use Rattle.packet_pools.proofs.Doing.{traced-read_length, traced-take}
use Rattle.packet_pools.proofs.TakenOne.{lost-state, lost-misses, work-holds}
use Rattle.packet_pools.proofs.TakenRead.{w-there, w-holds, w-unread, only-traced, held, gains, traces, keeps-another, back-state, back-misses, fits}
use Rattle.mark_core.specs.Places.{pool_at}
use Rattle.mark_core.specs.Steps.PacketSteps.{pool_for}
use Rattle.mark_core.specs.declared.seat.SeatState.{SeatState}
use Rattle.gc_table.proofs.Noticing.{found-noted}
use Rattle.packet_pools.specs.Outside.{KeepsOutside}
use Rattle.packet_pools.proofs.TracedSteps.{place-again}
use Rattle.packet_pools.proofs.Outside.{keeps-take, keeps-read_length, keeps-join, full-high}
use Rattle.packet_pools.proofs.seeking.take_packet.Goals.{else-not_full-via-then-not_full+else-length-shape, else-not_full-via-else-not_full}
use Rattle.packet_pools.proofs.seeking.take_packet.Goals as goal

there : (sh : Shape) (v : View) (p : ℕ) → v.shape ≡ sh → p < sh.packets → p < v.shape.packets
there sh v p e h = subst (λ (s : Shape). p < s.packets) (sym e) h

pub take-requires-clause-may : goal.take-requires-clause-may
take-requires-clause-may c =
    let v : View = view_of c.args.seat.now in
    let k = c.requires.seat.1 in
    may-take v c.args.q c.args.p k.may k.pool (there c.args.heap.now.shape v c.args.p c.requires.seat.0.1 c.requires.packet.0) c.requires.packet.1 k.reserved k.free

pub returns-then-not-take-clause-only : goal.returns-then-not-take-clause-only
returns-then-not-take-clause-only c = traced-take (view_of c.args.seat.now) (view_of c.take.new.seat) _ c.args.q c.args.p c.take.ensures.view.2 c.take.ensures.view.1

pub returns-then-not-take-clause-none : goal.returns-then-not-take-clause-none
returns-then-not-take-clause-none c =
    let v : View = view_of c.args.seat.now in
    let w : View = view_of c.take.new.seat in
    let t = c.take.ensures.view in
    let lost : has_bit t.0 (c.args.p % word_bits) ≡ false = sym t.3 ∙ c.if-not-take.true in (
      ap (λ (x : View). x.state) t.1 ∙ lost-state v.shape v.state c.args.q c.args.p t.0 lost,
      subst (MissesPackets c.args.heap.now.shape c.args.q c.args.not_full c.args.p (c.args.p + 1)) (sym (events-after v w (Take c.args.q c.args.p) t.0 t.1)) (lost-misses c.args.heap.now.shape c.args.q c.args.not_full c.args.p t.0 lost),
    )

pub read_length-length-requires-clause-may : goal.read_length-length-requires-clause-may
read_length-length-requires-clause-may c =
    let v : View = view_of c.args.seat.now in
    let w : View = view_of c.take.new.seat in
    let k = c.requires.seat.1 in
    let t = c.take.ensures.view in
    let p : ℕ = c.args.p in
    let low = there c.args.heap.now.shape v p c.requires.seat.0.1 c.requires.packet.0 in
    let bit : has_bit t.0 (p % word_bits) ≡ true = sym t.3 ∙ c.if-not-take.false in
    may-read_length w p (w-there v w c.args.q p t.0 k low c.requires.packet.1 t.1 bit) (w-holds v w c.args.q p t.0 k low c.requires.packet.1 t.1 bit) (w-unread v w c.args.q p t.0 k low c.requires.packet.1 t.1 bit)

pub give-requires-clause-seat : goal.give-requires-clause-seat
give-requires-clause-seat c =
    let v : View = view_of c.args.seat.now in
    let t = c.take.ensures.view in
    let r = c.read_length-length.ensures.view in
    let low = there c.args.heap.now.shape v c.args.p c.requires.seat.0.1 c.requires.packet.0 in
    (c.read_length-length.ensures.seat, traces v (view_of c.take.new.seat) c.args.q c.args.p t.0 c.requires.seat.1 low c.requires.packet.1 t.1 (sym t.3 ∙ c.if-not-take.false) (view_of c.read_length-length.new.seat) r.0 c.read_length-length.result r.1 r.2 r.3 t.2)

pub give-requires-clause-held : goal.give-requires-clause-held
give-requires-clause-held c =
    let v : View = view_of c.args.seat.now in
    let t = c.take.ensures.view in
    let r = c.read_length-length.ensures.view in
    let low = there c.args.heap.now.shape v c.args.p c.requires.seat.0.1 c.requires.packet.0 in
    held v (view_of c.take.new.seat) c.args.q c.args.p t.0 c.requires.seat.1 low c.requires.packet.1 t.1 (sym t.3 ∙ c.if-not-take.false) (view_of c.read_length-length.new.seat) r.0 c.read_length-length.result r.1 r.2 r.3

pub give-requires-clause-work : goal.give-requires-clause-work
give-requires-clause-work c =
    let v : View = view_of c.args.seat.now in
    let x : View = view_of c.read_length-length.new.seat in
    let t = c.take.ensures.view in
    let r = c.read_length-length.ensures.view in
    let low = there c.args.heap.now.shape v c.args.p c.requires.seat.0.1 c.requires.packet.0 in
    λ e. keeps-another v (view_of c.take.new.seat) c.args.q c.args.p t.0 c.requires.seat.1 low c.requires.packet.1 t.1 (sym t.3 ∙ c.if-not-take.false) x r.0 c.read_length-length.result r.1 r.2 r.3 (work-holds (Take c.args.q c.args.p) t.0 v t.2) (ap (λ (s : Shape). work_in_hand s.fields x.state) c.read_length-length.ensures.seat.1 ∙ e)

pub returns-then-length-shape-clause-only : goal.returns-then-length-shape-clause-only
returns-then-length-shape-clause-only c =
    let v : View = view_of c.args.seat.now in
    let x : View = view_of c.read_length-length.new.seat in
    let t = c.take.ensures.view in
    let r = c.read_length-length.ensures.view in
    let low = there c.args.heap.now.shape v c.args.p c.requires.seat.0.1 c.requires.packet.0 in
    traced-join v x (view_of c.give.new.seat) (only-traced v (view_of c.take.new.seat) c.args.q c.args.p t.0 c.requires.seat.1 low c.requires.packet.1 t.1 (sym t.3 ∙ c.if-not-take.false) x r.0 c.read_length-length.result r.1 r.2 r.3 t.2) c.give.ensures.only

pub returns-then-length-shape-clause-none : goal.returns-then-length-shape-clause-none
returns-then-length-shape-clause-none c =
    let sh : Shape = c.args.heap.now.shape in
    let v : View = view_of c.args.seat.now in
    let w : View = view_of c.take.new.seat in
    let x : View = view_of c.read_length-length.new.seat in
    let y : View = view_of c.give.new.seat in
    let q : ℕ = c.args.q in
    let p : ℕ = c.args.p in
    let t = c.take.ensures.view in
    let r = c.read_length-length.ensures.view in
    let k = c.requires.seat.1 in
    let low = there sh v p c.requires.seat.0.1 c.requires.packet.0 in
    let bit : has_bit t.0 (p % word_bits) ≡ true = sym t.3 ∙ c.if-not-take.false in
    let high : q ≡ high_pool_number = c.requires.high c.if-not_full.true in
    let n : ℕ = c.read_length-length.result in
    let full : n ≡ v.shape.entries = c.if-length-shape.true ∙ ap (λ (s : Shape). s.entries) (c.shape.ensures ∙ sym c.requires.seat.0.1) in
    let g = c.give.ensures in (
      back-state v w q p t.0 k low c.requires.packet.1 t.1 bit x r.0 n r.1 r.2 r.3 y high g.state g.only (eqb n 0) g.steps full,
      subst (λ (z : Shape × Bool). MissesPackets z.0 q z.1 p (p + 1) (events v y)) (λ i. (c.requires.seat.0.1 i, sym c.if-not_full.true i)) (back-misses v w q p t.0 k low c.requires.packet.1 t.1 bit x r.0 n r.1 r.2 r.3 y high g.state g.only (eqb n 0) g.steps full),
    )

pub returns-clause-only : goal.returns-clause-only
returns-clause-only c =
    let v : View = view_of c.args.seat.now in
    let x : View = view_of c.read_length-length.new.seat in
    let t = c.take.ensures.view in
    let r = c.read_length-length.ensures.view in
    let low = there c.args.heap.now.shape v c.args.p c.requires.seat.0.1 c.requires.packet.0 in
    only-traced v (view_of c.take.new.seat) c.args.q c.args.p t.0 c.requires.seat.1 low c.requires.packet.1 t.1 (sym t.3 ∙ c.if-not-take.false) x r.0 c.read_length-length.result r.1 r.2 r.3 t.2

pub returns-clause-some : goal.returns-clause-some
returns-clause-some c =
    let sh : Shape = c.args.heap.now.shape in
    let v : View = view_of c.args.seat.now in
    let w : View = view_of c.take.new.seat in
    let x : View = view_of c.read_length-length.new.seat in
    let q : ℕ = c.args.q in
    let p : ℕ = c.args.p in
    let t = c.take.ensures.view in
    let r = c.read_length-length.ensures.view in
    let k = c.requires.seat.1 in
    let low = there sh v p c.requires.seat.0.1 c.requires.packet.0 in
    let bit : has_bit t.0 (p % word_bits) ≡ true = sym t.3 ∙ c.if-not-take.false in
    let n : ℕ = c.read_length-length.result in
    let most : n ≤ v.shape.entries = fits v w q p t.0 k low c.requires.packet.1 t.1 bit x r.0 n r.1 r.2 r.3 in
    let roomy : IsTrue c.args.not_full → n < v.shape.entries = λ e. elim c.else-not_full.branch [
      | else-not_full-via-then-not_full+else-length-shape u ↦
          (let e : v.shape.entries ≡ u.shape.result.entries = ap (λ (s : Shape). s.entries) (c.requires.seat.0.1 ∙ sym u.shape.ensures) in let d = u.if-length-shape.false in omega (arith, most, e, d))
      | else-not_full-via-else-not_full u ↦ absurd (true≢false (sym e ∙ u.if-not_full.false))
    ] in
    gains v w q p t.0 k low c.requires.packet.1 t.1 bit x r.0 n r.1 r.2 r.3 c.args.not_full roomy

pub returns-then-not-take-clause-few : goal.returns-then-not-take-clause-few
returns-then-not-take-clause-few c =
    let one = few-after (view_of c.args.seat.now) (view_of c.take.new.seat) (Take c.args.q c.args.p) _ c.take.ensures.view.1 in
    let some = some-tries c.args.not_full in
    omega (arith, one, some)

pub returns-then-length-shape-clause-few : goal.returns-then-length-shape-clause-few
returns-then-length-shape-clause-few c =
    let v : View = view_of c.args.seat.now in
    let w : View = view_of c.take.new.seat in
    let x : View = view_of c.read_length-length.new.seat in
    let y : View = view_of c.give.new.seat in
    let t = c.take.ensures.view in
    let r = c.read_length-length.ensures.view in
    let low = there c.args.heap.now.shape v c.args.p c.requires.seat.0.1 c.requires.packet.0 in
    let only = only-traced v w c.args.q c.args.p t.0 c.requires.seat.1 low c.requires.packet.1 t.1 (sym t.3 ∙ c.if-not-take.false) x r.0 c.read_length-length.result r.1 r.2 r.3 t.2 in
    let pair = few-join 1 1 v w x (traced-take v w t.0 c.args.q c.args.p t.2 t.1).ran (traced-read_length w x r.0 c.args.p r.2 r.1).ran (few-after v w _ _ t.1) (few-after w x _ _ r.1) in
    let full = c.if-length-shape.true ∙ ap (λ (s : Shape). s.entries) c.shape.ensures in
    let two = c.args.heap.now.shaped.entries.0 in
    let back = few-steps 2 x y _ c.give.ensures.steps (given-full c.args.p c.read_length-length.result false (omega (arith, full, two))) in
    let all = few-join 2 2 v x y only.ran c.give.ensures.only.ran pair back in
    let tries = ap try_steps c.if-not_full.true in
    omega (arith, all, tries)

pub returns-clause-few : goal.returns-clause-few
returns-clause-few c =
    let v : View = view_of c.args.seat.now in
    let w : View = view_of c.take.new.seat in
    let x : View = view_of c.read_length-length.new.seat in
    let t = c.take.ensures.view in
    let r = c.read_length-length.ensures.view in
    let pair = few-join 1 1 v w x (traced-take v w t.0 c.args.q c.args.p t.2 t.1).ran (traced-read_length w x r.0 c.args.p r.2 r.1).ran (few-after v w _ _ t.1) (few-after w x _ _ r.1) in
    let some = some-tries c.args.not_full in
    omega (arith, pair, some)

pub returns-then-not-take-clause-outside : goal.returns-then-not-take-clause-outside
returns-then-not-take-clause-outside c =
    let v : View = view_of c.args.seat.now in
    let t = c.take.ensures.view in
    keeps-take v (view_of c.take.new.seat) t.0 c.args.q c.args.p (there c.args.heap.now.shape v c.args.p c.requires.seat.0.1 c.requires.packet.0) t.2 t.1

pub returns-then-not-take-clause-clear : goal.returns-then-not-take-clause-clear
returns-then-not-take-clause-clear c = λ room n noted.
    let v : View = view_of c.args.seat.now in
    let at : ℕ × ℕ = pool_at v.shape c.args.q (c.args.p / word_bits) in
    let t = c.take.ensures.view in
    let lost : has_bit t.0 (c.args.p % word_bits) ≡ false = sym t.3 ∙ c.if-not-take.true in
    ap (λ x. has_bit x (c.args.p % word_bits)) (sym (found-noted v (Take c.args.q c.args.p) t.0 n at t.2 (place-again at) noted)) ∙ lost

pub returns-then-length-shape-clause-outside : goal.returns-then-length-shape-clause-outside
returns-then-length-shape-clause-outside c =
    let sh : Shape = c.args.heap.now.shape in
    let v : View = view_of c.args.seat.now in
    let w : View = view_of c.take.new.seat in
    let x : View = view_of c.read_length-length.new.seat in
    let y : View = view_of c.give.new.seat in
    let t = c.take.ensures.view in
    let r = c.read_length-length.ensures.view in
    let high : c.args.q ≡ high_pool_number = c.requires.high c.if-not_full.true in
    let full : c.read_length-length.result ≡ sh.entries = c.if-length-shape.true ∙ ap (λ (s : Shape). s.entries) c.shape.ensures in
    let to : pool_for sh c.read_length-length.result false ≡ c.args.q = full-high sh c.read_length-length.result c.args.heap.now.shaped.entries.0 full ∙ sym high in
    let took = keeps-take v w t.0 c.args.q c.args.p (there sh v c.args.p c.requires.seat.0.1 c.requires.packet.0) t.2 t.1 in
    let read = keeps-read_length w x r.0 (c.args.q ∷ []) c.args.p r.2 r.1 in
    let gave = subst (λ q. KeepsOutside (q ∷ []) x y) to c.give.ensures.outside in
    let one = traced-take v w t.0 c.args.q c.args.p t.2 t.1 in
    let two = traced-read_length w x r.0 c.args.p r.2 r.1 in
    keeps-join (c.args.q ∷ []) v x y (two.shape ∙ one.shape) (ap (λ (s : SeatState). s.alone) (two.rest ∙ one.rest))
    (keeps-join (c.args.q ∷ []) v w x one.shape (ap (λ (s : SeatState). s.alone) one.rest) took read)
    gave

pub returns-then-length-shape-clause-clear : goal.returns-then-length-shape-clause-clear
returns-then-length-shape-clause-clear c = λ room n noted. absurd (true≢false (sym c.if-not_full.true ∙ room))
