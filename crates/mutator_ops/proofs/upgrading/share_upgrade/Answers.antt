use Rattle.std.proofs.Common.{ℕ, ◌≡◌, ◌+◌, ◌<◌, ◌∙◌, ap, inl, inr, refl, sym, subst}
use Rattle.mark_core.specs.Bits.{reference_in}
use Rattle.mark_core.specs.declared.kinds.Shape.{Shape}
use Rattle.mark_core.specs.declared.seat.SeatState.{SeatState}
use Rattle.gc_table.specs.Seats.{view_of}
use Rattle.gc_table.specs.declared.view.View.{View}
use Rattle.gc_table.proofs.Fitting.{possible-live}
use Rattle.mutator_ops.specs.Upgrading.{FindsIdentity}
use Rattle.mutator_ops.proofs.Storing.{may-share_read}
use Rattle.mutator_ops.proofs.Upgraded.{IsRead, ends-ready, finds-identity, finds-nothing, ident-read, may-clear, may-identify, may-read_weak, weak-fits, weak-got, weak-read, weak-whole}
use Rattle.mutator_ops.proofs.upgrading.share_upgrade.Goals as goal

pub read_weak-requires-clause-may : goal.read_weak-requires-clause-may
read_weak-requires-clause-may c =
    may-read_weak c.args.c (view_of c.args.seat.now) c.requires.seat.1 (subst (λ (sh : Shape). c.args.c < sh.cells) (sym c.requires.seat.0.1) c.requires.range.1)

pub read_weak-requires-clause-asked : goal.read_weak-requires-clause-asked
read_weak-requires-clause-asked c = c.requires.seat.1.shared

-- nothing is there
pub hold_root-requires-clause-may : goal.hold_root-requires-clause-may
hold_root-requires-clause-may c =
    let v : View = view_of c.args.seat.now in
    let x : View = view_of c.read_weak.new.seat in
    may-clear c.args.v v x c.requires.seat.1 (weak-read c.args.c c.read_weak.result v x c.read_weak.ensures.view) c.requires.range.0

pub returns-then-reference-eq0-clause-seat : goal.returns-then-reference-eq0-clause-seat
returns-then-reference-eq0-clause-seat c =
    let v : View = view_of c.args.seat.now in
    let x : View = view_of c.read_weak.new.seat in
    (c.hold_root.ensures.seat, ends-ready c.args.v 0 c.hold_root.result v x (view_of c.hold_root.new.seat) c.requires.seat.1 (weak-read c.args.c c.read_weak.result v x c.read_weak.ensures.view) c.hold_root.ensures.view.0)

pub returns-then-reference-eq0-clause-upgrades : goal.returns-then-reference-eq0-clause-upgrades
returns-then-reference-eq0-clause-upgrades c =
    let none : (view_of c.read_weak.new.seat).state.got ≡ 0 = sym (ap (λ (s : SeatState). s.got) c.state.ensures) ∙ c.if-reference-eq0.true in
    inl (finds-nothing c.args.v c.args.c c.read_weak.result c.hold_root.result (view_of c.args.seat.now) (view_of c.read_weak.new.seat) (view_of c.hold_root.new.seat) c.requires.seat.1 c.read_weak.ensures.view none c.hold_root.ensures.view)

-- an object is there
pub read_ident-requires-clause-may : goal.read_ident-requires-clause-may
read_ident-requires-clause-may c =
    let v : View = view_of c.args.seat.now in
    let x : View = view_of c.read_weak.new.seat in
    let f = c.read_weak.ensures.view in
    let some = λ (z : x.state.got ≡ 0). c.if-reference-eq0.false (ap (λ (s : SeatState). s.got) c.state.ensures ∙ z) in
    let low : c.args.c < v.shape.cells = subst (λ (sh : Shape). c.args.c < sh.cells) (sym c.requires.seat.0.1) c.requires.range.1 in
    may-identify c.args.c v x (possible-live x c.read_weak.new.seat.possible) c.requires.seat.1 (weak-read c.args.c c.read_weak.result v x f) (weak-got c.args.c c.read_weak.result v x f ∙ weak-whole c.args.c c.read_weak.result v x f low some)

-- it is the right one
pub hold_root-requires-then-read_ident-identity-clause-may : goal.hold_root-requires-then-read_ident-identity-clause-may
hold_root-requires-then-read_ident-identity-clause-may c =
    let v : View = view_of c.args.seat.now in
    let x : View = view_of c.read_weak.new.seat in
    let y : View = view_of c.read_ident.new.seat in
    let q : IsRead v y = ident-read c.args.c c.read_ident.result v x y (weak-read c.args.c c.read_weak.result v x c.read_weak.ensures.view) c.read_ident.ensures.view in
    may-share_read c.args.v c.from.result v y c.requires.seat.1 q.state c.requires.range.0
    (c.from.ensures ∙ ap (λ (s : SeatState). s.got) c.state.ensures ∙ sym (ap (λ (z : View). z.state.got) c.read_ident.ensures.view.0))

pub returns-then-read_ident-identity-clause-seat : goal.returns-then-read_ident-identity-clause-seat
returns-then-read_ident-identity-clause-seat c =
    let v : View = view_of c.args.seat.now in
    let x : View = view_of c.read_weak.new.seat in
    let y : View = view_of c.read_ident.new.seat in
    let q : IsRead v y = ident-read c.args.c c.read_ident.result v x y (weak-read c.args.c c.read_weak.result v x c.read_weak.ensures.view) c.read_ident.ensures.view in
    (c.hold_root-then-read_ident-identity.ensures.seat, ends-ready c.args.v c.from.result c.hold_root-then-read_ident-identity.result v y (view_of c.hold_root-then-read_ident-identity.new.seat) c.requires.seat.1 q c.hold_root-then-read_ident-identity.ensures.view.0)

pub returns-then-read_ident-identity-clause-upgrades : goal.returns-then-read_ident-identity-clause-upgrades
returns-then-read_ident-identity-clause-upgrades c =
    let v : View = view_of c.args.seat.now in
    let x : View = view_of c.read_weak.new.seat in
    let y : View = view_of c.read_ident.new.seat in
    let w : View = view_of c.hold_root-then-read_ident-identity.new.seat in
    let f = c.read_weak.ensures.view in
    let some = λ (z : x.state.got ≡ 0). c.if-reference-eq0.false (ap (λ (s : SeatState). s.got) c.state.ensures ∙ z) in
    let low : c.args.c < v.shape.cells = subst (λ (sh : Shape). c.args.c < sh.cells) (sym c.requires.seat.0.1) c.requires.range.1 in
    let n = c.read_weak.result in
    let word : c.from.result ≡ c.args.c + 1 = c.from.ensures ∙ ap (λ (s : SeatState). s.got) c.state.ensures ∙ weak-got c.args.c n v x f ∙ weak-whole c.args.c n v x f low some in
    let kept : reference_in c.from.result ≡ c.from.result = ap reference_in word ∙ weak-fits c.args.c n v x f low ∙ sym word in
    subst (λ (k : ℕ). FindsIdentity c.args.v c.args.c k (c.args.c + 1) v w) c.if-read_ident-identity.true
    (subst (λ (k : ℕ). FindsIdentity c.args.v c.args.c c.read_ident.result k v w) word
    (finds-identity c.args.v c.args.c n c.read_ident.result c.from.result c.hold_root-then-read_ident-identity.result v x y w c.requires.seat.1 f low some c.read_ident.ensures.view kept c.hold_root-then-read_ident-identity.ensures.view))

-- it is another
pub hold_root-requires-else-read_ident-identity-clause-may : goal.hold_root-requires-else-read_ident-identity-clause-may
hold_root-requires-else-read_ident-identity-clause-may c =
    let v : View = view_of c.args.seat.now in
    let x : View = view_of c.read_weak.new.seat in
    let y : View = view_of c.read_ident.new.seat in
    may-clear c.args.v v y c.requires.seat.1 (ident-read c.args.c c.read_ident.result v x y (weak-read c.args.c c.read_weak.result v x c.read_weak.ensures.view) c.read_ident.ensures.view) c.requires.range.0

pub returns-else-read_ident-identity-clause-seat : goal.returns-else-read_ident-identity-clause-seat
returns-else-read_ident-identity-clause-seat c =
    let v : View = view_of c.args.seat.now in
    let x : View = view_of c.read_weak.new.seat in
    let y : View = view_of c.read_ident.new.seat in
    let q : IsRead v y = ident-read c.args.c c.read_ident.result v x y (weak-read c.args.c c.read_weak.result v x c.read_weak.ensures.view) c.read_ident.ensures.view in
    (c.hold_root-else-read_ident-identity.ensures.seat, ends-ready c.args.v 0 c.hold_root-else-read_ident-identity.result v y (view_of c.hold_root-else-read_ident-identity.new.seat) c.requires.seat.1 q c.hold_root-else-read_ident-identity.ensures.view.0)

pub returns-else-read_ident-identity-clause-upgrades : goal.returns-else-read_ident-identity-clause-upgrades
returns-else-read_ident-identity-clause-upgrades c =
    let v : View = view_of c.args.seat.now in
    let x : View = view_of c.read_weak.new.seat in
    let y : View = view_of c.read_ident.new.seat in
    let f = c.read_weak.ensures.view in
    let some = λ (z : x.state.got ≡ 0). c.if-reference-eq0.false (ap (λ (s : SeatState). s.got) c.state.ensures ∙ z) in
    let low : c.args.c < v.shape.cells = subst (λ (sh : Shape). c.args.c < sh.cells) (sym c.requires.seat.0.1) c.requires.range.1 in
    inr (c.read_ident.result, c.if-read_ident-identity.false, finds-identity c.args.v c.args.c c.read_weak.result c.read_ident.result 0 c.hold_root-else-read_ident-identity.result v x y (view_of c.hold_root-else-read_ident-identity.new.seat) c.requires.seat.1 f low some c.read_ident.ensures.view refl c.hold_root-else-read_ident-identity.ensures.view)
