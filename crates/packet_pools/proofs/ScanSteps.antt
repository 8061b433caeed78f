-- When a seat may take the steps of a scan, by what it knows.
use Rattle.std.proofs.Common.{ℕ, ◌≡◌, ◌<◌, ◌≤◌, ◌/◌, arith, refl, sym, ap, ◌∙◌, subst, Bool, cond, true, not, Some, None, Option, eqb, eqb-true, eq-eqb, ⊎_elim}
use Rattle.std.specs.Prelude.{IfSome, ◌&&◌, ◌||◌, is_some, is_none}
use Rattle.std.proofs.lemmas.Bool.{false≢true, and_parts, and_from, or_cases, or_left, or_right, lt-ltb}
use Rattle.mark_core.specs.Shapes.{IsShape}
use Rattle.mark_core.specs.Layout.{card_count}
use Rattle.mark_core.specs.Steps.ColourSteps.{fresh_off, may_read_field}
use Rattle.mark_core.specs.Seats.{takes_part, is_the, scans, may_scan, scan_left, in_set, saw}
use Rattle.mark_core.specs.WellFormed.{IsSeat, IsCleaning}
use Rattle.mark_core.specs.declared.kinds.Shape.{Shape}
use Rattle.mark_core.specs.declared.kinds.Phase.TheVariants.{Marking, Drain}
use Rattle.mark_core.specs.declared.kinds.Step.TheVariants.{ReadField, ReadRoot, SetMark, DirtyCard, LoadSlot}
use Rattle.mark_core.specs.declared.seat.Cleaning.{Cleaning}
use Rattle.mark_core.specs.declared.seat.SeatState.{SeatState}
use Rattle.gc_table.specs.declared.view.View.{View}
use Rattle.gc_table.specs.Taking.{May, Finds, after}
use Rattle.packet_pools.specs.Keeping.{answers_for}
use Rattle.packet_pools.specs.OnlyTraced.{OnlyTraced, OnlyCleaned}
use Rattle.packet_pools.specs.Tracing.{traces, notes_drain}
use Rattle.packet_pools.specs.Scanning.{InHand}
use Rattle.packet_pools.proofs.Conditions.{may-trace}
use Rattle.packet_pools.proofs.TracedSteps.{cleaned-step, cleaned-to, traced-step, traced-read, traced-to, seen-found, seen-stored}
use Rattle.mark_core.specs.Cards.{block_cells, block_of_card, card_of}

-- a seat that traces takes part
pub traces-part : (v : View) → traces v ≡ true → takes_part v.state ≡ true
traces-part v t =
    ⊎_elim
    (λ e. or_left _ v.state.admitted
    (⊎_elim
    (λ a. or_left _ v.state.knows (and_parts v.state.active (saw v.state.phase_seen Marking) a).0)
    (λ k. or_right v.state.active _ (and_parts v.state.knows (notes_drain v) k).0)
    (or_cases _ _ e)))
    (λ h. or_right (v.state.active || v.state.knows) _ (and_parts v.state.admitted (saw v.state.phase_seen Drain) h).0)
    (or_cases _ _ t)

scanned-below : (sh : Shape) (o : Option (ℕ × ℕ)) (x i : ℕ) → IfSome o (λ y. (y.0 < sh.cells) × (y.1 ≤ sh.fields)) → scans o x i ≡ true → x < sh.cells
scanned-below sh None x i h e = absurd (false≢true e)
scanned-below sh (Some y) x i h e = subst (λ n. n < sh.cells) (eqb-true y.0 x (and_parts (eqb y.0 x) (eqb y.1 i) e).0) h.0

left-below : (sh : Shape) (o : Option Cleaning) (x : ℕ) → IsShape sh → IfSome o (IsCleaning sh) → may_scan o x ≡ true → x < sh.cells
left-below sh None x s h e = absurd (false≢true e)
left-below sh (Some y) x s h e =
    let block = eqb-true (block_of_card y.card) (x / block_cells) (and_parts (eqb (block_of_card y.card) (x / block_cells)) _ (and_parts (in_set (block_of_card y.card) y.left x) (in_set (block_of_card y.card) y.published x) e).0).0 in
    omega (arith, h.card, s.whole_blocks, block)

-- a cell with a field to read exists
field-below : (sh : Shape) (k : ℕ) (s : SeatState) (x i : ℕ) → IsShape sh → IsSeat sh k s → may_read_field sh s x i ≡ true → x < sh.cells
field-below sh k s x i shaped f e =
    ⊎_elim
    (λ a. scanned-below sh s.scan x i f.scan a)
    (λ b. left-below sh s.cleaning x shaped f.cleaning (and_parts (eqb i 0) (may_scan s.cleaning x) (and_parts (eqb i 0 && may_scan s.cleaning x) (not (scan_left sh.fields s.scan)) b).0).1)
    (or_cases (scans s.scan x i) _ e)

the-below : (sh : Shape) (o : Option ℕ) (x : ℕ) → IfSome o (λ c. c < sh.cells) → o ≡ Some x → x < sh.cells
the-below sh o x h e = subst (λ (p : Option ℕ). IfSome p (λ c. c < sh.cells)) e h

module _ (v : View) where
  pub may-read_field : (x i : ℕ) → i < v.shape.fields → may_read_field v.shape v.state x i ≡ true → InHand None None v.state → May (ReadField x i) v
  may-read_field x i low may hand c k w a =
      let there = ap (λ (sh : Shape). may_read_field sh v.state x i) (sym a.shape) ∙ may in (
        and_from _ _
            (and_from _ _ (lt-ltb x c.core.shape.cells (field-below c.core.shape k v.state x i w.core.formed.shaped (w.core.formed.seats k v.state a.seat) there)) (lt-ltb i c.core.shape.fields (subst (λ (sh : Shape). i < sh.fields) a.shape low)))
            there,
        (λ j. not (is_some (hand.popped j) || is_some (hand.value j) || is_some (hand.fresh j)), tt),
      )

  pub may-set_mark : (x : ℕ) → traces v ≡ true → v.state.value ≡ Some x → May (SetMark x) v
  may-set_mark x t e c k w a = (
    and_from _ _ (lt-ltb x c.core.shape.cells (the-below c.core.shape v.state.value x (w.core.formed.seats k v.state a.seat).value e)) (ap (λ (o : Option ℕ). is_the o x) e ∙ eq-eqb x x refl),
    (may-trace c k v a t, tt),
  )

  pub may-dirty_card : (x : ℕ) → traces v ≡ true → v.state.fresh ≡ Some x → May (DirtyCard (card_of x)) v
  may-dirty_card x t e c k w a =
      let below = the-below c.core.shape v.state.fresh x (w.core.formed.seats k v.state a.seat).fresh e in
      let whole = w.core.formed.shaped.whole_blocks in
      (and_from _ _ (lt-ltb (card_of x) (card_count c.core.shape) (omega (arith, below, whole))) (traces-part v t), tt)

module _ (v w : View) (n : ℕ) where
  pub traced-read_field : (x i : ℕ) → Finds (ReadField x i) n v → w ≡ after (ReadField x i) n v → OnlyTraced v w
  traced-read_field x i f e = traced-to v w (ReadField x i) n e (traced-read v (ReadField x i) n refl refl f refl refl refl refl refl)

  pub traced-set_mark : (x : ℕ) → Finds (SetMark x) n v → v.state.fresh ≡ None → w ≡ after (SetMark x) n v → OnlyTraced v w
  traced-set_mark x f none e = traced-to v w (SetMark x) n e (traced-step v (SetMark x) n refl refl refl (seen-found v (SetMark x) n refl f) refl (ap (λ (o : Option ℕ). not (is_some o)) none))

  pub traced-dirty_card : (card : ℕ) → n ≡ 1 → answers_for v.state card ≡ true → w ≡ after (DirtyCard card) n v → OnlyTraced v w
  traced-dirty_card card f answers e = traced-to v w (DirtyCard card) n e (traced-step v (DirtyCard card) n refl refl refl (seen-stored v (DirtyCard card) n refl f) refl answers)

  -- a card is dirtied with no cell in hand
  pub cleaned-dirty_card : (card : ℕ) → n ≡ 1 → w ≡ after (DirtyCard card) n v → OnlyCleaned v w
  cleaned-dirty_card card f e = cleaned-to v w (DirtyCard card) n e (cleaned-step v (DirtyCard card) n refl refl refl (seen-stored v (DirtyCard card) n refl f) refl)

  pub traced-read_root : (section u : ℕ) → Finds (ReadRoot section u) n v → w ≡ after (ReadRoot section u) n v → OnlyTraced v w
  traced-read_root section u f e = traced-to v w (ReadRoot section u) n e (traced-read v (ReadRoot section u) n refl refl f refl refl refl refl refl)

  pub traced-load_slot : (section k : ℕ) → Finds (LoadSlot section k) n v → w ≡ after (LoadSlot section k) n v → OnlyTraced v w
  traced-load_slot section k f e = traced-to v w (LoadSlot section k) n e (traced-read v (LoadSlot section k) n refl refl f refl refl refl refl refl)

-- the card of a fresh cell
pub fresh-answers : (s : SeatState) (x card : ℕ) → s.fresh ≡ Some x → card_of x ≡ card → answers_for s card ≡ true
fresh-answers s x card e b =
    or_left _ _
    (ap (λ (o : Option ℕ). is_some o && is_none (fresh_off o card)) e ∙ ap (λ (c : Bool). is_none (cond c None (Some x))) (eq-eqb (card_of x) card b))
