use Rattle.std.proofs.Common.{ℕ, ◌≡◌, ◌<◌, ◌∙◌, None, Option, Some, ap, eq-eqb, false, refl, subst, sym, true}
use Rattle.std.proofs.lemmas.Bool.{or_left}
use Rattle.mark_core.specs.Held.{known_length}
use Rattle.mark_core.specs.Seats.{is_the, work_in_hand}
use Rattle.mark_core.specs.Steps.PacketSteps.{may_push}
use Rattle.mark_core.specs.declared.kinds.Shape.{Shape}
use Rattle.mark_core.specs.declared.kinds.Step.TheVariants.{ReadRoot, SetMark}
use Rattle.mark_core.specs.declared.seat.SeatState.{SeatState}
use Rattle.mark_core.proofs.Pool.PoolSlots.{any-held}
use Rattle.gc_table.specs.Seats.{Found, view_of}
use Rattle.gc_table.specs.Taking.{Finds, after}
use Rattle.gc_table.specs.declared.view.View.{View}
use Rattle.packet_pools.specs.Hands.{HoldsPacket}
use Rattle.packet_pools.specs.Tracing.{Traces}
use Rattle.packet_pools.specs.declared.held.Held.{Held}
use Rattle.packet_pools.proofs.Doing.{traces-on}
use Rattle.packet_pools.proofs.Exchanged.{known-held}
use Rattle.packet_pools.proofs.Filled.{held-same}
use Rattle.packet_pools.proofs.ScanSteps.{may-set_mark, traced-read_root, traced-set_mark}
use Rattle.tracer.proofs.Hand.{none-of}
use Rattle.tracer.proofs.RootScans.{may-read_root}
use Rattle.test_operations.proofs.tests.refusing.marks.Goals as goal

-- a root was read
module _ (v w : View) (section u n : ℕ) (f : Found (ReadRoot section u) n v w) where
  read-traces : Traces v → Traces w
  read-traces t = traces-on v w (traced-read_root v w n section u f.1 f.0) t (ap (λ (z : View). z.state.reserved) f.0) (ap (λ (z : View). z.state.credit) f.0)

  read-held : (h : Held) → HoldsPacket h v → HoldsPacket h w
  read-held h k = held-same v w h (ap (λ (z : View). z.shape) f.0) (ap (λ (z : View). known_length z.state.held h.packet) f.0) k

-- a cell was marked
module _ (v w : View) (x n : ℕ) (e : w ≡ after (SetMark x) n v) where
  marked-traces : Finds (SetMark x) n v → v.state.fresh ≡ None → Traces v → Traces w
  marked-traces f none t = traces-on v w (traced-set_mark v w n x f none e) t (ap (λ (z : View). z.state.reserved) e) (ap (λ (z : View). z.state.credit) e)

  marked-held : (h : Held) → HoldsPacket h v → HoldsPacket h w
  marked-held h k = held-same v w h (ap (λ (z : View). z.shape) e) (ap (λ (z : View). known_length z.state.held h.packet) e) k

-- a fresh cell may go into a packet
may-go : (s : SeatState) (x : ℕ) → s.fresh ≡ Some x → may_push s x ≡ true
may-go s x e = or_left _ _ (ap (λ (o : Option ℕ). is_the o x) e ∙ eq-eqb x x refl)

pub read_root-requires-clause-may : goal.read_root-requires-clause-may
read_root-requires-clause-may g c =
    let v : View = view_of c.args.seat.now in
    let h : Held = c.args.held.now in
    let shape = c.requires.seat.0.1 in
    let idle : work_in_hand v.shape.fields v.state ≡ false =
    ap (λ (s : Shape). work_in_hand s.fields v.state) (shape ∙ sym c.shape.ensures) ∙ (sym c.work_in_hand.ensures ∙ c.if-work_in_hand.false) in
    may-read_root v 1 c.args.v c.requires.seat.1.may
    (subst (λ (s : Shape). 1 < s.sections) (sym shape) c.requires.root.0)
    c.requires.root.1
    (any-held v.state.held h.packet (known-held v.state.held h.packet h.length c.requires.held.known))
    idle

pub set_mark-requires-clause-may : goal.set_mark-requires-clause-may
set_mark-requires-clause-may g c =
    may-set_mark (view_of c.read_root.new.seat) c.in-Some.cell
    (read-traces (view_of c.args.seat.now) (view_of c.read_root.new.seat) 1 c.args.v _ c.read_root.ensures.view c.requires.seat.1).may
    (sym (ap (λ (s : SeatState). s.value) c.state.ensures) ∙ c.in-Some.is)

pub returns-clause-seat : goal.returns-clause-seat
returns-clause-seat g c =
    let v : View = view_of c.args.seat.now in
    let w : View = view_of c.read_root.new.seat in
    let s = c.set_mark.ensures.view in (
      c.set_mark.ensures.seat,
      marked-traces w (view_of c.set_mark.new.seat) c.in-Some.cell s.0 s.1 s.2 (sym (ap (λ (s : SeatState). s.fresh) c.state-2.ensures) ∙ none-of _ (sym c.is_some.ensures ∙ c.if-is_some.false)) (read-traces v w 1 c.args.v _ c.read_root.ensures.view c.requires.seat.1),
    )

pub returns-clause-held : goal.returns-clause-held
returns-clause-held g c =
    let v : View = view_of c.args.seat.now in
    let w : View = view_of c.read_root.new.seat in
    let s = c.set_mark.ensures.view in
    marked-held w (view_of c.set_mark.new.seat) c.in-Some.cell s.0 s.1 c.args.held.now (read-held v w 1 c.args.v _ c.read_root.ensures.view c.args.held.now c.requires.held)

pub returns-clause-may : goal.returns-clause-may
returns-clause-may g c = may-go (view_of c.set_mark.new.seat).state c.in-Some-fresh.fresh (sym (ap (λ (s : SeatState). s.fresh) c.state-3.ensures) ∙ c.in-Some-fresh.is)
