use Rattle.std.proofs.Common.{◌≡◌, ◌∙◌, ◌%◌, [], ◌∷◌, ◌++◌, ap, arith, refl, sym}
use Rattle.std.specs.Prelude.{length}
use Rattle.mark_core.specs.Bits.{reference_in}
use Rattle.mark_core.specs.Numbers.{reference_bound}
use Rattle.mark_core.specs.declared.kinds.Step.TheVariants.{HoldRoot, ReadCat}
use Rattle.mark_core.specs.declared.seat.SeatState.{SeatState}
use Rattle.gc_table.specs.Seats.{view_of}
use Rattle.gc_table.specs.declared.view.View.{View}
use Rattle.gc_table.specs.Log.{event}
use Rattle.gc_table.proofs.History.Log.{events-after}
use Rattle.gc_table.proofs.Running.{ran-events, ran-found, ran-join}
use Rattle.mutator_ops.specs.Sharing.{holding}
use Rattle.mutator_ops.proofs.Storing.{count-read, held-on, may-share_read, state-read}
use Rattle.mutator_ops.proofs.sharing.share_lend.Goals as goal

pub hold_root-requires-clause-may : goal.hold_root-requires-clause-may
hold_root-requires-clause-may c =
    may-share_read c.args.v c.from.result (view_of c.args.seat.now) (view_of c.read_cat.new.seat) c.requires.seat.1 (let f = c.read_cat.ensures.view in ap (λ (y : View). y.state) f.0 ∙ ap (λ (y : View). record (view_of c.args.seat.now).state { got = y.state.got }) (sym f.0)) c.requires.range.0
    (c.from.ensures ∙ ap (λ (s : SeatState). s.got) c.state.ensures)

read_state : (c : goal.After-hold_root) → (view_of c.read_cat.new.seat).state ≡ record (view_of c.args.seat.now).state { got = (view_of c.read_cat.new.seat).state.got }
read_state c = let f = c.read_cat.ensures.view in ap (λ (y : View). y.state) f.0 ∙ ap (λ (y : View). record (view_of c.args.seat.now).state { got = y.state.got }) (sym f.0)

held_is : (c : goal.After-hold_root) → (view_of c.hold_root.new.seat).state ≡ holding (view_of c.args.seat.now).state c.args.v (reference_in c.from.result)
held_is c = state-read c.args.v c.from.result c.hold_root.result (view_of c.args.seat.now) (view_of c.read_cat.new.seat) (view_of c.hold_root.new.seat) c.requires.seat.1.register (read_state c) c.hold_root.ensures.view.0

pub returns-clause-seat : goal.returns-clause-seat
returns-clause-seat c =
    let v : View = view_of c.args.seat.now in
    let x : View = view_of c.read_cat.new.seat in
    let w : View = view_of c.hold_root.new.seat in
    let q = c.requires.seat.1 in
    let f = c.read_cat.ensures.view in
    let e = c.hold_root.ensures.view.0 in
    let m = c.hold_root.result in
    let same : length x.own.meaning.heap.objects ≡ length v.own.meaning.heap.objects = ap (λ (y : View). length y.own.meaning.heap.objects) f.0 in
    let counted : length x.own.meaning.heap.objects ≡ x.state.made = same ∙ q.counted ∙ sym (ap (λ (t : SeatState). t.made) (read_state c)) in
    (c.hold_root.ensures.seat, held-on c.args.v (reference_in c.from.result) v w q (ap (λ (y : View). y.shape) e ∙ ap (λ (y : View). y.shape) f.0) (held_is c) (count-read c.args.v c.from.result m x w counted e ∙ same))

pub returns-clause-lends : goal.returns-clause-lends
returns-clause-lends c =
    let v : View = view_of c.args.seat.now in
    let x : View = view_of c.read_cat.new.seat in
    let w : View = view_of c.hold_root.new.seat in
    let n = c.read_cat.result in
    let m = c.hold_root.result in
    let r = c.from.result in
    let f = c.read_cat.ensures.view in
    let e = c.hold_root.ensures.view.0 in
    let one = ran-found v x (ReadCat c.args.c) n refl f in
    let two = ran-found x w (HoldRoot c.args.v r) m refl c.hold_root.ensures.view in
    let word : r ≡ reference_in n = c.from.ensures ∙ ap (λ (t : SeatState). t.got) c.state.ensures ∙ ap (λ (y : View). y.state.got) f.0 in
    let whole : reference_in r ≡ reference_in n = ap reference_in word ∙ (let z : reference_in n % reference_bound ≡ reference_in n = omega arith in z) in
    record {
      ran = ran-join v x w one two;
      found = n;
      old = m;
      events_are =
          ran-events v x w one two ∙ (λ i. events-after v x (ReadCat c.args.c) n f.0 i ++ events-after x w (HoldRoot c.args.v r) m e i)
          ∙ (λ i. event (ReadCat c.args.c) n ∷ event (HoldRoot c.args.v (word i)) m ∷ []);
      state = held_is c ∙ ap (holding v.state c.args.v) whole;
    }
