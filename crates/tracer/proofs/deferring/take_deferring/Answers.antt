use Rattle.std.proofs.Common.{[], ◌∷◌, ◌≡◌, arith, refl, sym, ap, ◌∙◌, subst, Option}
use Rattle.mark_core.specs.declared.kinds.Shape.{Shape}
use Rattle.gc_table.specs.Log.{events}
use Rattle.gc_table.specs.declared.view.View.{View}
use Rattle.gc_table.specs.Seats.{view_of}
use Rattle.gc_table.proofs.History.Log.{events-none}
use Rattle.packet_pools.specs.Counts.{dirties}
use Rattle.packet_pools.specs.Seeking.{some_event}
use Rattle.packet_pools.specs.declared.held.Held.{Held}
use Rattle.packet_pools.specs.Gains.{Brings}
use Rattle.packet_pools.proofs.Counting.{quiet}
use Rattle.packet_pools.proofs.Doing.{if-none, if-some}
use Rattle.packet_pools.proofs.Few.{few-none}
use Rattle.tracer.specs.Hands.{Carries, in_front, packets_of}
use Rattle.tracer.specs.Searched.{Searches}
use Rattle.tracer.specs.StepBounds.{deferring_left}
use Rattle.tracer.proofs.Carried.{brought-either, carries-free, deferred-first, packets-three}
use Rattle.tracer.proofs.Few.{deferring-found}
use Rattle.tracer.proofs.Moves.{either-way}
use Rattle.tracer.proofs.Searched.{searches-looked, searches-still}
use Rattle.tracer.proofs.deferring.take_deferring.Goals as goal

pub take_other-requires-clause-free : goal.take_other-requires-clause-free
take_other-requires-clause-free c = carries-free (packets_of c.args.packets.now) (view_of c.args.seat.now) (packets-three c.args.packets.now) c.requires.packets.0

pub returns-in-Some-clause-packets : goal.returns-in-Some-clause-packets
returns-in-Some-clause-packets c =
    let v : View = view_of c.args.seat.now in
    let i : Held = c.args.packets.now.input in
    let o = c.args.packets.now.output in
    let was = sym c.replace.ensures.value ∙ c.in-Some.is in (
      λ j. record { input = i; output = o; deferred = c.replace.ensures.after j },
      subst (λ d. Carries (c.in-Some.held ∷ i ∷ in_front o (in_front d [])) v) (sym c.replace.ensures.after)
          (deferred-first i o c.in-Some.held v (subst (λ d. Carries (i ∷ in_front o (in_front d [])) v) was c.requires.packets.0)),
    )

pub returns-in-None-clause-packets : goal.returns-in-None-clause-packets
returns-in-None-clause-packets c =
    let v : View = view_of c.args.seat.now in
    let w : View = view_of c.take_other.new.seat in
    let i : Held = c.args.packets.now.input in
    let o = c.args.packets.now.output in
    let e = c.take_other.ensures in
    let was = sym c.replace.ensures.value ∙ (c.in-None.is ∙ sym c.replace.ensures.after) in (
      λ j. record { input = i; output = o; deferred = c.replace.ensures.after j },
      brought-either c.take_other.result (i ∷ in_front o (in_front c.replace.new.dest [])) v w e.only.shape
          (carries-free (packets_of c.args.packets.now) v (packets-three c.args.packets.now) c.requires.packets.0)
          (if-some c.take_other.result _ (λ h. Brings h v w) (λ h t. t.0) e.some)
          (if-none c.take_other.result _ (w.state ≡ v.state) (λ n. n.0) e.none)
          (subst (λ d. Carries (i ∷ in_front o (in_front d [])) v) was c.requires.packets.0),
    )

pub returns-in-Some-clause-tried : goal.returns-in-Some-clause-tried
returns-in-Some-clause-tried c =
    let v : View = view_of c.args.seat.now in
    searches-still c.args.heap.now.shape c.args.search.now (events v v) (ap (some_event dirties) (events-none v))

-- a packet that is full
abbrev some-full : Shape → Held
some-full sh = record { packet = 0; length = sh.entries }

pub returns-in-None-clause-tried : goal.returns-in-None-clause-tried
returns-in-None-clause-tried c =
    let sh : Shape = c.args.heap.now.shape in
    let v : View = view_of c.args.seat.now in
    let w : View = view_of c.take_other.new.seat in
    let s = c.args.search.now in
    let t = c.take_other.new.search in
    let r : Option Held = c.take_other.result in
    let e = c.take_other.ensures in
    let still = quiet (events v w) e.moves in
    either-way r (Searches sh s t (events v w))
    (if-some r _ (λ h. Searches sh s t (events v w)) (λ h b. searches-looked sh s t (some-full sh) h (events v w) still (b.2 (some-full sh) refl)) e.some)
    (if-none r _ (Searches sh s t (events v w)) (λ n. searches-looked sh s t (some-full sh) (some-full sh) (events v w) still (n.2 (some-full sh) refl)) e.none)

pub returns-in-Some-clause-few : goal.returns-in-Some-clause-few
returns-in-Some-clause-few c =
    let none = few-none (view_of c.args.seat.now) in
    let same = ap (deferring_left c.args.heap.now.shape) (sym c.replace.ensures.value ∙ c.in-Some.is) in
    omega (arith, none, same)

pub returns-in-None-clause-few : goal.returns-in-None-clause-few
returns-in-None-clause-few c =
    let sh : Shape = c.args.heap.now.shape in
    let r : Option Held = c.take_other.result in
    let few = c.take_other.ensures.few in
    let all = deferring-found sh c.args.search.now c.take_other.new.search r _ few.0 few.1 in
    let same = ap (deferring_left sh) (sym c.replace.ensures.value ∙ c.in-None.is) in
    omega (arith, all, same)
