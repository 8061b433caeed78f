use Rattle.std.proofs.Common.{ℕ, ◌≡◌, ◌∙◌, ap, sym}
use Rattle.mark_core.specs.declared.seat.SeatState.{SeatState}
use Rattle.gc_table.specs.Seats.{view_of}
use Rattle.gc_table.specs.declared.view.View.{View}
use Rattle.gc_table.proofs.Fitting.{possible-live}
use Rattle.mutator_ops.specs.Weak.{TakesWeak}
use Rattle.mutator_ops.proofs.Storing.{may-share_read}
use Rattle.mutator_ops.proofs.Upgraded.{IsRead, ends-ready, ident-read, may-identify, weak-got, weak-read, weak-whole}
use Rattle.mutator_ops.proofs.WeakTaken.{Asks, asks, asks-low, asks-may, finds-unpublished, takes-rewrites, takes-weak, unpublished-rewrites, unread-ready}
use Rattle.mutator_ops.proofs.weak.share_weak.Goals as goal

pub read_weak-requires-clause-may : goal.read_weak-requires-clause-may
read_weak-requires-clause-may c =
    let a : Asks c.args.v c.make-cell.result (view_of c.args.seat.now) (view_of c.publish_own.new.seat) =
    asks c.args.seat.now c.publish_own.new.seat c.requires.range c.requires.some c.word_of-word.ensures c.make-cell.ensures c.publish_own.ensures.publishes c.publish_own.ensures.seat.1 c.publish_own.ensures.none in
    asks-may c.args.v c.make-cell.result (view_of c.args.seat.now) (view_of c.publish_own.new.seat) a

pub read_weak-requires-clause-asked : goal.read_weak-requires-clause-asked
read_weak-requires-clause-asked c = c.publish_own.ensures.seat.1.shared

-- another made the object
pub returns-then-reference-eq0-clause-seat : goal.returns-then-reference-eq0-clause-seat
returns-then-reference-eq0-clause-seat c =
    let v : View = view_of c.args.seat.now in
    let w : View = view_of c.publish_own.new.seat in
    let x : View = view_of c.read_weak.new.seat in
    let none : x.state.got ≡ 0 = sym (ap (λ (s : SeatState). s.got) c.state.ensures) ∙ c.if-reference-eq0.true in
    (c.read_weak.ensures.seat, unread-ready c.make-cell.result c.read_weak.result w x c.publish_own.ensures.seat.1 c.read_weak.ensures.view none)

pub returns-then-reference-eq0-clause-none : goal.returns-then-reference-eq0-clause-none
returns-then-reference-eq0-clause-none c =
    let v : View = view_of c.args.seat.now in
    let w : View = view_of c.publish_own.new.seat in
    let x : View = view_of c.read_weak.new.seat in
    let a : Asks c.args.v c.make-cell.result (view_of c.args.seat.now) (view_of c.publish_own.new.seat) =
    asks c.args.seat.now c.publish_own.new.seat c.requires.range c.requires.some c.word_of-word.ensures c.make-cell.ensures c.publish_own.ensures.publishes c.publish_own.ensures.seat.1 c.publish_own.ensures.none in
    let none : x.state.got ≡ 0 = sym (ap (λ (s : SeatState). s.got) c.state.ensures) ∙ c.if-reference-eq0.true in
    finds-unpublished c.args.v c.make-cell.result c.read_weak.result v w x a c.read_weak.ensures.view none

pub returns-then-reference-eq0-clause-few : goal.returns-then-reference-eq0-clause-few
returns-then-reference-eq0-clause-few c =
    let v : View = view_of c.args.seat.now in
    let w : View = view_of c.publish_own.new.seat in
    let x : View = view_of c.read_weak.new.seat in
    let a : Asks c.args.v c.make-cell.result (view_of c.args.seat.now) (view_of c.publish_own.new.seat) =
    asks c.args.seat.now c.publish_own.new.seat c.requires.range c.requires.some c.word_of-word.ensures c.make-cell.ensures c.publish_own.ensures.publishes c.publish_own.ensures.seat.1 c.publish_own.ensures.none in
    let none : x.state.got ≡ 0 = sym (ap (λ (s : SeatState). s.got) c.state.ensures) ∙ c.if-reference-eq0.true in
    (unpublished-rewrites c.args.v v x c.requires.seat.1 (finds-unpublished c.args.v c.make-cell.result c.read_weak.result v w x a c.read_weak.ensures.view none)).few

-- the object is published
pub read_ident-identity-requires-clause-may : goal.read_ident-identity-requires-clause-may
read_ident-identity-requires-clause-may c =
    let v : View = view_of c.args.seat.now in
    let w : View = view_of c.publish_own.new.seat in
    let x : View = view_of c.read_weak.new.seat in
    let a : Asks c.args.v c.make-cell.result (view_of c.args.seat.now) (view_of c.publish_own.new.seat) =
    asks c.args.seat.now c.publish_own.new.seat c.requires.range c.requires.some c.word_of-word.ensures c.make-cell.ensures c.publish_own.ensures.publishes c.publish_own.ensures.seat.1 c.publish_own.ensures.none in
    let k : ℕ = c.make-cell.result in
    let n : ℕ = c.read_weak.result in
    let f = c.read_weak.ensures.view in
    let some = λ (z : x.state.got ≡ 0). c.if-reference-eq0.false (ap (λ (s : SeatState). s.got) c.state.ensures ∙ z) in
    may-identify k w x (possible-live x c.read_weak.new.seat.possible) a.ready (weak-read k n w x f) (weak-got k n w x f ∙ weak-whole k n w x f (asks-low c.args.v k n v w x a f) some)

pub hold_root-requires-clause-may : goal.hold_root-requires-clause-may
hold_root-requires-clause-may c =
    let w : View = view_of c.publish_own.new.seat in
    let x : View = view_of c.read_weak.new.seat in
    let y : View = view_of c.read_ident-identity.new.seat in
    let q : IsRead w y = ident-read c.make-cell.result c.read_ident-identity.result w x y (weak-read c.make-cell.result c.read_weak.result w x c.read_weak.ensures.view) c.read_ident-identity.ensures.view in
    may-share_read c.args.v c.from.result w y c.publish_own.ensures.seat.1 q.state c.requires.range
    (c.from.ensures ∙ ap (λ (s : SeatState). s.got) c.state.ensures ∙ sym (ap (λ (z : View). z.state.got) c.read_ident-identity.ensures.view.0))

pub returns-clause-seat : goal.returns-clause-seat
returns-clause-seat c =
    let w : View = view_of c.publish_own.new.seat in
    let x : View = view_of c.read_weak.new.seat in
    let y : View = view_of c.read_ident-identity.new.seat in
    let q : IsRead w y = ident-read c.make-cell.result c.read_ident-identity.result w x y (weak-read c.make-cell.result c.read_weak.result w x c.read_weak.ensures.view) c.read_ident-identity.ensures.view in
    (c.hold_root.ensures.seat, ends-ready c.args.v c.from.result c.hold_root.result w y (view_of c.hold_root.new.seat) c.publish_own.ensures.seat.1 q c.hold_root.ensures.view.0)

taken : (c : goal.After-hold_root) → TakesWeak c.args.v c.read_ident-identity.result (view_of c.args.seat.now) (view_of c.hold_root.new.seat)
taken c =
    let v : View = view_of c.args.seat.now in
    let w : View = view_of c.publish_own.new.seat in
    let x : View = view_of c.read_weak.new.seat in
    let y : View = view_of c.read_ident-identity.new.seat in
    let a : Asks c.args.v c.make-cell.result (view_of c.args.seat.now) (view_of c.publish_own.new.seat) =
    asks c.args.seat.now c.publish_own.new.seat c.requires.range c.requires.some c.word_of-word.ensures c.make-cell.ensures c.publish_own.ensures.publishes c.publish_own.ensures.seat.1 c.publish_own.ensures.none in
    let some = λ (z : x.state.got ≡ 0). c.if-reference-eq0.false (ap (λ (s : SeatState). s.got) c.state.ensures ∙ z) in
    takes-weak c.args.v c.make-cell.result c.from.result c.read_ident-identity.result c.read_weak.result c.hold_root.result v w x y (view_of c.hold_root.new.seat) a c.read_weak.ensures.view some c.read_ident-identity.ensures.view
    (c.from.ensures ∙ ap (λ (s : SeatState). s.got) c.state.ensures) c.hold_root.ensures.view

pub returns-clause-takes : goal.returns-clause-takes
returns-clause-takes c = taken c

pub returns-clause-few : goal.returns-clause-few
returns-clause-few c = (takes-rewrites c.args.v c.read_ident-identity.result (view_of c.args.seat.now) (view_of c.hold_root.new.seat) (taken c)).few
