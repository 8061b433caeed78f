use Rattle.std.proofs.Common.{ℕ, ◌≡◌, ◌<◌, ◌≤◌, ◌+◌, length, arith, ap, ◌∙◌, refl, subst, sym}
use Rattle.mark_core.specs.Numbers.{high_pool_number}
use Rattle.mark_core.specs.declared.kinds.Shape.{Shape}
use Rattle.gc_table.specs.declared.view.View.{View}
use Rattle.gc_table.specs.Log.{events}
use Rattle.gc_table.specs.Seats.{view_of}
use Rattle.gc_table.proofs.History.Log.{events-join}
use Rattle.packet_pools.specs.declared.held.Held.{Held}
use Rattle.packet_pools.specs.declared.search.Search.{Search}
use Rattle.packet_pools.specs.declared.search.Search.TheVariants.{Open, Tried}
use Rattle.packet_pools.specs.Gains.{Brings, GainsFirst}
use Rattle.packet_pools.specs.Seeking.{only_moves, output_pools}
use Rattle.packet_pools.specs.StepBounds.{give_steps, left_steps, room_left}
use Rattle.packet_pools.specs.Tried.{LeadsFull, StaysFull}
use Rattle.packet_pools.proofs.Doing.{if-none, if-some, some-both}
use Rattle.packet_pools.proofs.Few.{few-sum}
use Rattle.packet_pools.proofs.RoomLeft.{room-found, room-late, room-spare}
use Rattle.packet_pools.proofs.Searches.{moves-join}
use Rattle.packet_pools.proofs.Spare.{brings-later, moves-spare}
use Rattle.packet_pools.proofs.TracedSteps.{traced-join}
use Rattle.packet_pools.proofs.Tried.{leads-first, leads-join}
use Rattle.packet_pools.proofs.room.take_other.Goals as goal

-- what the search of the high pool answers
abbrev Found : Shape → ℕ → Search → View → View → Held → Type 0
Found sh from t v w h = GainsFirst sh high_pool_number from h v w × Brings h v w × (t ≡ Tried (h.packet + 1)) × LeadsFull sh (Tried from) t h (events v w)

has-room : (sh : Shape) (from : ℕ) (h : Held) (v w : View) → v.shape ≡ sh → GainsFirst sh high_pool_number from h v w → h.length < sh.entries
has-room sh from h v w shape g = subst (λ (s : Shape). h.length < s.entries) shape (g.gains.roomy refl)

pub returns-in-Tried-clause-some : goal.returns-in-Tried-clause-some
returns-in-Tried-clause-some c =
    let sh : Shape = c.args.heap.now.shape in
    let v : View = view_of c.args.seat.now in
    let w : View = view_of c.take_on.new.seat in
    let t : Search = c.take_on.new.search in
    if-some c.take_on.result (Found sh c.in-Tried.from t v w) (λ h. Brings h v w × (h.length < sh.entries) × LeadsFull sh c.args.search.now t h (events v w))
    (λ h k. (k.1, has-room sh c.in-Tried.from h v w c.requires.seat.0.1 k.0, subst (λ (s : Search). LeadsFull sh s t h (events v w)) (sym c.in-Tried.is) k.3))
    c.take_on.ensures.some

pub returns-in-Tried-clause-few : goal.returns-in-Tried-clause-few
returns-in-Tried-clause-few c =
    let sh : Shape = c.args.heap.now.shape in
    let v : View = view_of c.args.seat.now in
    let w : View = view_of c.take_on.new.seat in
    let s : Search = c.args.search.now in
    let t : Search = c.take_on.new.search in
    let e = c.take_on.ensures in
    let left = ap (left_steps sh) c.in-Tried.is in (
      some-both c.take_on.result (Found sh c.in-Tried.from t v w) (λ h. length (events v w) + 2 + left_steps sh t ≤ left_steps sh (Tried c.in-Tried.from)) (λ h. length (events v w) + give_steps + room_left sh t h.length ≤ room_left sh s sh.entries)
          (λ h k few. room-found sh s t h.length (length (events v w)) (has-room sh c.in-Tried.from h v w c.requires.seat.0.1 k.0) (omega (arith, few, left)))
          e.some e.few.0,
      if-none c.take_on.result (length (events v w) + left_steps sh t ≤ left_steps sh (Tried c.in-Tried.from)) (length (events v w) + left_steps sh t ≤ left_steps sh s) (λ few. omega (arith, few, left)) e.few.1,
    )

pub returns-in-Some-clause-moves : goal.returns-in-Some-clause-moves
returns-in-Some-clause-moves c = moves-spare (events (view_of c.args.seat.now) (view_of c.take_spare.new.seat)) c.in-Some.ensures.some.0.moves

pub returns-in-Some-clause-few : goal.returns-in-Some-clause-few
returns-in-Some-clause-few c =
    let sh : Shape = c.args.heap.now.shape in
    let d : ℕ = length (events (view_of c.args.seat.now) (view_of c.take_spare.new.seat)) in
    let h : Held = c.in-Some.held in
    let few = c.in-Some.ensures.few in (
      subst (λ (s : Search). d + give_steps + room_left sh s h.length ≤ room_left sh s sh.entries) (sym c.in-Open.is) (room-spare sh h.length d c.args.heap.now.shaped.entries.0 c.in-Some.ensures.some.1 (omega (arith, few))),
      tt,
    )

pub returns-in-None-clause-only : goal.returns-in-None-clause-only
returns-in-None-clause-only c = traced-join (view_of c.args.seat.now) (view_of c.take_spare.new.seat) (view_of c.take_on-in-None.new.seat) c.in-None.ensures.only c.take_on-in-None.ensures.only

pub returns-in-None-clause-some : goal.returns-in-None-clause-some
returns-in-None-clause-some c =
    let sh : Shape = c.args.heap.now.shape in
    let v : View = view_of c.args.seat.now in
    let a : View = view_of c.take_spare.new.seat in
    let w : View = view_of c.take_on-in-None.new.seat in
    let t : Search = c.take_on-in-None.new.search in
    let e = c.in-None.ensures in
    let f = c.take_on-in-None.ensures in
    let es = events-join v a w e.only.log f.only.log in
    if-some c.take_on-in-None.result (Found sh 0 t a w) (λ h. Brings h v w × (h.length < sh.entries) × LeadsFull sh c.args.search.now t h (events v w))
    (λ h k. (
      brings-later h v a w e.none.0 k.1,
      has-room sh 0 h a w e.seat.0.1 k.0,
      subst (λ (s : Search). LeadsFull sh s t h (events v w)) (sym c.in-Open.is) (λ g full. leads-join sh Open (Tried 0) t g g h (events v a) (events a w) (events v w) es (leads-first sh g (events v a) e.none.1) (k.3 g full)),
    ))
    f.some

pub returns-in-None-clause-none : goal.returns-in-None-clause-none
returns-in-None-clause-none c =
    let sh : Shape = c.args.heap.now.shape in
    let v : View = view_of c.args.seat.now in
    let a : View = view_of c.take_spare.new.seat in
    let w : View = view_of c.take_on-in-None.new.seat in
    let t : Search = c.take_on-in-None.new.search in
    let e = c.in-None.ensures in
    let f = c.take_on-in-None.ensures in
    let es = events-join v a w e.only.log f.only.log in
    if-none c.take_on-in-None.result ((w.state ≡ a.state) × (t ≡ Tried sh.packets) × StaysFull sh (Tried 0) t (events a w)) ((w.state ≡ v.state) × (t ≡ Tried sh.packets) × StaysFull sh c.args.search.now t (events v w))
    (λ k. (
      k.0 ∙ e.none.0,
      k.1,
      subst (λ (s : Search). StaysFull sh s t (events v w)) (sym c.in-Open.is) (λ g full. leads-join sh Open (Tried 0) t g g g (events v a) (events a w) (events v w) es (leads-first sh g (events v a) e.none.1) (k.2 g full)),
    ))
    f.none

pub returns-in-None-clause-moves : goal.returns-in-None-clause-moves
returns-in-None-clause-moves c =
    let v : View = view_of c.args.seat.now in
    let a : View = view_of c.take_spare.new.seat in
    let w : View = view_of c.take_on-in-None.new.seat in
    let e = c.in-None.ensures in
    let f = c.take_on-in-None.ensures in
    ap (only_moves output_pools) (events-join v a w e.only.log f.only.log) ∙ moves-join output_pools (events v a) (events a w) (moves-spare (events v a) e.none.2) f.moves

pub returns-in-None-clause-few : goal.returns-in-None-clause-few
returns-in-None-clause-few c =
    let sh : Shape = c.args.heap.now.shape in
    let v : View = view_of c.args.seat.now in
    let a : View = view_of c.take_spare.new.seat in
    let w : View = view_of c.take_on-in-None.new.seat in
    let s : Search = c.args.search.now in
    let t : Search = c.take_on-in-None.new.search in
    let e = c.in-None.ensures in
    let f = c.take_on-in-None.ensures in
    let few = e.few in
    let sum = few-sum v a w e.only.ran f.only.ran in
    let left = ap (left_steps sh) c.in-Open.is in
    let room = ap (λ (x : Search). room_left sh x sh.entries) c.in-Open.is in (
      some-both c.take_on-in-None.result (Found sh 0 t a w) (λ h. length (events a w) + 2 + left_steps sh t ≤ left_steps sh (Tried 0)) (λ h. length (events v w) + give_steps + room_left sh t h.length ≤ room_left sh s sh.entries)
          (λ h k last. let all = room-late sh t h.length (length (events v a)) (length (events a w)) (has-room sh 0 h a w e.seat.0.1 k.0) (omega (arith, few)) last in omega (arith, all, sum, room))
          f.some f.few.0,
      if-none c.take_on-in-None.result (length (events a w) + left_steps sh t ≤ left_steps sh (Tried 0)) (length (events v w) + left_steps sh t ≤ left_steps sh s) (λ last. omega (arith, last, few, sum, left)) f.few.1,
    )
