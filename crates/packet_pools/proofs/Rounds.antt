-- The fields of an object, one after another.
use Rattle.std.proofs.Common.{ℕ, ◌≡◌, ◌<◌, ◌≤◌, ◌+◌, refl, sym, ap, ◌∙◌, subst, arith, Bool, true, false, cond, Some, None, Option, inl, ⊎_elim}
use Rattle.std.specs.Prelude.{nat_lt, is_some, ◌||◌, ◌&&◌, not}
use Rattle.std.proofs.lemmas.Bool.{lt-ltb, le-ltb, or_right, cases_lt}
use Rattle.mark_core.specs.Steps.ColourSteps.{may_read_field, without_cell}
use Rattle.mark_core.specs.Seats.{cleaning_left, may_scan, work_in_hand, scan_left, scans}
use Rattle.mark_core.specs.Held.{has_free_slot}
use Rattle.mark_core.specs.declared.kinds.Shape.{Shape}
use Rattle.mark_core.specs.declared.seat.Cleaning.{Cleaning}
use Rattle.mark_core.specs.declared.seat.SeatState.{SeatState}
use Rattle.gc_table.specs.declared.view.View.{View}
use Rattle.packet_pools.specs.declared.held.Held.{Held}
use Rattle.packet_pools.specs.Scanning.{InHand, Pushes, Settles, scan_end, cleaning_end}
use Rattle.packet_pools.specs.Hands.{HoldsPacket}
use Rattle.packet_pools.proofs.Filled.{fills-same}
use Rattle.packet_pools.proofs.Settled.{settles-same, settles-without, settles-left, without-left, without-twice}
use Rattle.packet_pools.proofs.Pushed.{pushes-join}

-- the cleaning once the fields from next on and below i were read
abbrev pub cleaned : ℕ → ℕ → ℕ → Option Cleaning → Option Cleaning
cleaned c next i x = cond (nat_lt next i) (without_cell x c) x

cleaned-more : (c : ℕ) (b : Bool) (x y : Option Cleaning) → Settles (cond b (without_cell x c) x) y → Settles (without_cell x c) (without_cell y c)
cleaned-more c true x y s = subst (λ z. Settles z (without_cell y c)) (without-twice x c) (settles-without (without_cell x c) y c s)
cleaned-more c false x y s = settles-without x y c s

-- one field more
pub round : (u v w : View) (h k l : Held) (c next i : ℕ) → next ≤ i → Pushes h k (Some (c, i)) (cleaned c next i u.state.cleaning) u v → Pushes k l (Some (c, i + 1)) (without_cell v.state.cleaning c) v w → Pushes h l (Some (c, i + 1)) (cleaned c next (i + 1) u.state.cleaning) u w
round u v w h k l c next i le a b =
    pushes-join u v w h k l (Some (c, i)) (Some (c, i + 1)) (cleaned c next i u.state.cleaning) (without_cell v.state.cleaning c) (cleaned c next (i + 1) u.state.cleaning) a b
    (subst (λ (x : Bool). Settles (cond x (without_cell u.state.cleaning c) u.state.cleaning) (without_cell v.state.cleaning c)) (sym (lt-ltb next (i + 1) (omega (arith, le))))
    (cleaned-more c (nat_lt next i) u.state.cleaning v.state.cleaning a.cleaning))

-- the first round
pub starts : (v : View) (h : Held) (c next : ℕ) → v.state.scan ≡ Some (c, next) → InHand None None v.state → HoldsPacket h v → has_free_slot v.state.held ≡ true → Pushes h h (Some (c, next)) (cleaned c next next v.state.cleaning) v v
starts v h c next scan hand k free =
    record {
      packet = fills-same v v h refl refl k free;
      hand = hand;
      scan = scan;
      cleaning = subst (λ (b : Bool). Settles (cond b (without_cell v.state.cleaning c) v.state.cleaning) v.state.cleaning) (sym (le-ltb next next (omega arith))) (settles-same v.state.cleaning);
      owes = inl refl;
    }

-- no field is left
pub finished : (v w : View) (h k : Held) (c next i fields : ℕ) → (next < fields → i ≡ fields) → (fields ≤ next → i ≡ next) → Pushes h k (Some (c, i)) (cleaned c next i v.state.cleaning) v w
    → Pushes h k (scan_end fields (Some (c, next))) (cleaning_end fields (Some (c, next)) v.state.cleaning) v w
finished v w h k c next i fields more none p =
    ⊎_elim
    (λ (l : next < fields).
    subst (λ (b : Bool). Pushes h k (cond b (Some (c, fields)) (Some (c, next))) (cond b (without_cell v.state.cleaning c) v.state.cleaning) v w) (sym (lt-ltb next fields l))
    (subst (λ (b : Bool). Pushes h k (Some (c, fields)) (cond b (without_cell v.state.cleaning c) v.state.cleaning) v w) (lt-ltb next fields l)
    (subst (λ x. Pushes h k (Some (c, x)) (cleaned c next x v.state.cleaning) v w) (more l) p)))
    (λ (l : fields ≤ next).
    subst (λ (b : Bool). Pushes h k (cond b (Some (c, fields)) (Some (c, next))) (cond b (without_cell v.state.cleaning c) v.state.cleaning) v w) (sym (le-ltb next fields l))
    (subst (λ (b : Bool). Pushes h k (Some (c, next)) (cond b (without_cell v.state.cleaning c) v.state.cleaning) v w) (le-ltb next next (omega arith))
    (subst (λ x. Pushes h k (Some (c, x)) (cleaned c next x v.state.cleaning) v w) (none l) p)))
    (cases_lt next fields)

scan-over : (fields : ℕ) (o : Option (ℕ × ℕ)) → scan_left fields (scan_end fields o) ≡ false
scan-over fields None = refl
scan-over fields (Some x) = by_left (nat_lt x.1 fields) refl
  where
    by_left : (b : Bool) → nat_lt x.1 fields ≡ b → scan_left fields (cond b (Some (x.0, fields)) (Some x)) ≡ false
    by_left true e = le-ltb fields fields (omega arith)
    by_left false e = e

cleaning-over : (fields : ℕ) (o : Option (ℕ × ℕ)) (x : Option Cleaning) → cleaning_left x ≡ false → cleaning_left (cleaning_end fields o x) ≡ false
cleaning-over fields None x e = e
cleaning-over fields (Some s) x e = by_left (nat_lt s.1 fields)
  where
    by_left : (b : Bool) → cleaning_left (cond b (without_cell x s.0) x) ≡ false
    by_left true = without-left x s.0 e
    by_left false = e

-- then no work is in hand
pub no-work : (v w : View) (h k : Held) (fields : ℕ) → Pushes h k (scan_end fields v.state.scan) (cleaning_end fields v.state.scan v.state.cleaning) v w → cleaning_left v.state.cleaning ≡ false → work_in_hand fields w.state ≡ false
no-work v w h k fields p e =
    let scan : scan_left fields w.state.scan ≡ false = ap (scan_left fields) p.scan ∙ scan-over fields v.state.scan in
    let cleaning : cleaning_left w.state.cleaning ≡ false = settles-left (cleaning_end fields v.state.scan v.state.cleaning) w.state.cleaning p.cleaning (cleaning-over fields v.state.scan v.state.cleaning e) in
    λ i. is_some (p.hand.popped i) || scan i || is_some (p.hand.value i) || is_some (p.hand.fresh i) || cleaning i

rest-settles : (c : ℕ) (b : Bool) (x y : Option Cleaning) → Settles (without_cell x c) y → Settles (without_cell x c) (cond b (without_cell y c) y)
rest-settles c true x y s = cleaned-more c true x y s
rest-settles c false x y s = s

-- the first field of a cell left in cleaning was read, and then the others
pub read_again : (u v w : View) (h k l : Held) (c fields : ℕ) → 1 ≤ fields → Pushes h k (Some (c, 1)) (without_cell u.state.cleaning c) u v → Pushes k l (scan_end fields (Some (c, 1))) (cleaning_end fields (Some (c, 1)) v.state.cleaning) v w
    → Pushes h l (Some (c, fields)) (without_cell u.state.cleaning c) u w
read_again u v w h k l c fields some a b =
    ⊎_elim
    (λ (e : 1 < fields). subst (λ (x : Bool). Pushes h l (cond x (Some (c, fields)) (Some (c, 1))) (without_cell u.state.cleaning c) u w) (lt-ltb 1 fields e) all)
    (λ (e : fields ≤ 1).
    let one : 1 ≡ fields = omega (arith, some, e) in
    subst (λ n. Pushes h l (Some (c, n)) (without_cell u.state.cleaning c) u w) one
    (subst (λ (x : Bool). Pushes h l (cond x (Some (c, fields)) (Some (c, 1))) (without_cell u.state.cleaning c) u w) (le-ltb 1 fields e) all))
    (cases_lt 1 fields)
  where
    all : Pushes h l (scan_end fields (Some (c, 1))) (without_cell u.state.cleaning c) u w
    all =
        pushes-join u v w h k l (Some (c, 1)) (scan_end fields (Some (c, 1))) (without_cell u.state.cleaning c) (cleaning_end fields (Some (c, 1)) v.state.cleaning) (without_cell u.state.cleaning c) a b
        (rest-settles c (nat_lt 1 fields) u.state.cleaning v.state.cleaning a.cleaning)

-- the first field of a cell left in cleaning may be read
pub first-field : (sh : Shape) (s : SeatState) (c : ℕ) → may_scan s.cleaning c ≡ true → scan_left sh.fields s.scan ≡ false → may_read_field sh s c 0 ≡ true
first-field sh s c may over = or_right (scans s.scan c 0) _ (λ i. may i && not (over i))
