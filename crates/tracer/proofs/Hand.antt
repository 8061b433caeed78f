-- What is in a tracer's hand after each step on a popped cell.
use Rattle.std.proofs.Common.{ℕ, ◌≡◌, ◌<◌, ◌/◌, ◌%◌, arith, refl, sym, ap, ◌∙◌, subst, Bool, cond, true, false, not, Some, None, Option, eqb-true, eq-eqb}
use Rattle.std.specs.Prelude.{IfSome, ◌&&◌, ◌||◌, ◌==◌, is_some, is_none, bit_and}
use Rattle.std.specs.Int.Bits.{and_zero_l}
use Rattle.std.proofs.lemmas.Bool.{and_from, false≢true, lt-ltb, or_from, or_parts, or_right}
use Rattle.mark_core.specs.Bits.{cell_of, complement, has_bit}
use Rattle.mark_core.specs.Layout.{block_count, card_count}
use Rattle.mark_core.specs.Seats.{cleaning_left, is_the, scan_left, work_in_hand}
use Rattle.mark_core.specs.Steps.ColourSteps.{cleaning_after, fresh_off, popped_after, popped_off, redirty_off, scan_after, seen_in, with_alloc_word}
use Rattle.mark_core.specs.declared.kinds.Shape.{Shape}
use Rattle.mark_core.specs.declared.kinds.Step.TheVariants.{DirtyCard, Pop, Push, ReadAlloc}
use Rattle.mark_core.specs.declared.seat.Cleaning.{Cleaning}
use Rattle.mark_core.specs.declared.seat.SeatState.{SeatState}
use Rattle.gc_table.specs.declared.view.View.{View}
use Rattle.gc_table.specs.Taking.{May, Finds, after}
use Rattle.packet_pools.specs.Keeping.{answers_for}
use Rattle.packet_pools.specs.OnlyTraced.{OnlyTraced, rest_of}
use Rattle.packet_pools.specs.Tracing.{traces}
use Rattle.packet_pools.specs.Scanning.{InHand}
use Rattle.packet_pools.proofs.TracedSteps.{traced-read, traced-to}
use Rattle.packet_pools.proofs.ScanSteps.{traces-part}
use Rattle.tracer.specs.Parts.{HasPopped}
use Rattle.mark_core.specs.Cards.{block_cells, block_of_card, card_of}

popped-below : (sh : Shape) (o : Option (ℕ × Bool)) (c : ℕ) (b : Bool) → IfSome o (λ x. x.0 < sh.cells) → o ≡ Some (c, b) → c < sh.cells
popped-below sh o c b h e = subst (λ (p : Option (ℕ × Bool)). IfSome p (λ x. x.0 < sh.cells)) e h

module _ (v : View) (c : ℕ) (b : Bool) (t : traces v ≡ true) (e : v.state.popped ≡ Some (c, b)) where
  pub may-read_alloc : May (ReadAlloc (c / block_cells)) v
  may-read_alloc x k w a =
      let below = popped-below x.core.shape v.state.popped c b (w.core.formed.seats k v.state a.seat).popped e in
      let whole = w.core.formed.shaped.whole_blocks in
      (and_from _ _ (lt-ltb (c / block_cells) (block_count x.core.shape) (omega (arith, below, whole))) (traces-part v t), tt)

  pub may-dirty_popped : May (DirtyCard (card_of c)) v
  may-dirty_popped x k w a =
      let below = popped-below x.core.shape v.state.popped c b (w.core.formed.seats k v.state a.seat).popped e in
      let whole = w.core.formed.shaped.whole_blocks in
      (and_from _ _ (lt-ltb (card_of c) (card_count x.core.shape) (omega (arith, below, whole))) (traces-part v t), tt)

-- the card of a cell that was popped and seen unpublished
pub popped-answers : (s : SeatState) (x card : ℕ) → s.popped ≡ Some (x, true) → card_of x ≡ card → answers_for s card ≡ true
popped-answers s x card e b =
    or_right (is_some s.fresh && _) _
    (ap (λ (o : Option (ℕ × Bool)). is_some o && is_none (popped_off o card)) e ∙ ap (λ (d : Bool). is_none {T = ℕ × Bool} (cond (true && d) None (Some (x, true)))) (eq-eqb (card_of x) card b))

-- the parts of an idle hand
pub record IsFree (fields : ℕ) (s : SeatState) : Type 0 where
  pub scan : scan_left fields s.scan ≡ false
  pub value : is_some s.value ≡ false
  pub fresh : is_some s.fresh ≡ false
  pub cleaning : cleaning_left s.cleaning ≡ false

pub free-of : (fields : ℕ) (s : SeatState) → work_in_hand fields s ≡ false → IsFree fields s
free-of fields s e =
    let a = or_parts _ (cleaning_left s.cleaning) e in
    let b = or_parts _ (is_some s.fresh) a.0 in
    let c = or_parts _ (is_some s.value) b.0 in
    let d = or_parts (is_some s.popped) (scan_left fields s.scan) c.0 in
    record { scan = d.1; value = c.1; fresh = b.1; cleaning = a.1 }

pub work-of : (fields : ℕ) (s : SeatState) → is_some s.popped ≡ false → IsFree fields s → work_in_hand fields s ≡ false
work-of fields s p f = or_from _ _ (or_from _ _ (or_from _ _ (or_from _ _ p f.scan) f.value) f.fresh) f.cleaning

pub others-of : (fields : ℕ) (s : SeatState) → work_in_hand fields s ≡ false → work_in_hand fields (record s { popped = None }) ≡ false
others-of fields s e = let f = free-of fields s e in work-of fields (record s { popped = None }) refl (record { scan = f.scan; value = f.value; fresh = f.fresh; cleaning = f.cleaning })

pub none-of : {X : Type 0} (o : Option X) → is_some o ≡ false → o ≡ None
none-of None e = refl
none-of (Some x) e = absurd (false≢true (sym e))

from-not : (b : Bool) → not b ≡ false → b ≡ true
from-not true e = refl
from-not false e = absurd (false≢true (sym e))

seen-left : (x : Cleaning) (word : ℕ) → cleaning_left (Some x) ≡ false → cleaning_left (Some (seen_in x word)) ≡ false
seen-left x word e =
    let a = or_parts (not x.known || not (x.left == 0)) x.redirty e in
    let b = or_parts (not x.known) (not (x.left == 0)) a.0 in
    let left : x.left ≡ 0 = eqb-true x.left 0 (from-not (x.left == 0) b.1) in
    or_from _ _
    (or_from _ _ b.0 (ap (λ l. not (bit_and l word == 0)) left ∙ ap (λ l. not (l == 0)) (and_zero_l word)))
    (or_from _ _ a.1 (ap (λ l. not (bit_and l (complement word) == 0)) left ∙ ap (λ l. not (l == 0)) (and_zero_l (complement word))))

-- a cleaning that is done stays so
pub alloc-left : (o : Option Cleaning) (b word : ℕ) → cleaning_left o ≡ false → cleaning_left (cleaning_after o b word) ≡ false
alloc-left None b word e = refl
alloc-left (Some x) b word e = either (x.known && (block_of_card x.card == b))
  where
    either : (d : Bool) → cleaning_left (Some (cond d (seen_in x word) x)) ≡ false
    either true = seen-left x word e
    either false = e

module _ (v w : View) (c n : ℕ) (p : HasPopped c false v) (e : w ≡ after (ReadAlloc (c / block_cells)) n v) where
  pub traced-read_alloc : Finds (ReadAlloc (c / block_cells)) n v → OnlyTraced v w
  traced-read_alloc f =
      let block : with_alloc_word v.state.block (c / block_cells) n ≡ v.state.block = ap (λ o. with_alloc_word o (c / block_cells) n) p.block ∙ sym p.block in
      traced-to v w (ReadAlloc (c / block_cells)) n e (traced-read v (ReadAlloc (c / block_cells)) n refl refl f (λ i. rest_of (record v.state { block = block i })) refl refl refl refl)

  free : IsFree v.shape.fields (record v.state { popped = None })
  free = free-of v.shape.fields (record v.state { popped = None }) p.others

  pub alloc-cleaning : cleaning_left w.state.cleaning ≡ false
  alloc-cleaning = ap (λ (z : View). cleaning_left z.state.cleaning) e ∙ alloc-left v.state.cleaning (c / block_cells) n free.cleaning

  -- the cell is published, and is in scan
  pub published : has_bit n (c % block_cells) ≡ true → InHand None None w.state
  published bit =
      record {
        popped =
            ap (λ (z : View). z.state.popped) e
            ∙ (ap (λ o. popped_after o (c / block_cells) n) p.popped
            ∙ (ap (λ (d : Bool). cond d (cond (has_bit n (c % block_cells)) None (Some (c, true))) (Some (c, false))) (eq-eqb (c / block_cells) (c / block_cells) refl) ∙ ap (λ (d : Bool). cond d None (Some (c, true))) bit));
        value = ap (λ (z : View). z.state.value) e ∙ none-of v.state.value free.value;
        fresh = ap (λ (z : View). z.state.fresh) e ∙ none-of v.state.fresh free.fresh;
      }

  -- it is scanned from its first field on
  pub scanned : has_bit n (c % block_cells) ≡ true → w.state.scan ≡ Some (c, 0)
  scanned bit =
      ap (λ (z : View). z.state.scan) e
      ∙ (ap (λ o. scan_after o v.state.scan (c / block_cells) n) p.popped
      ∙ (ap (λ (d : Bool). cond (d && has_bit n (c % block_cells)) (Some (c, 0)) v.state.scan) (eq-eqb (c / block_cells) (c / block_cells) refl) ∙ ap (λ (d : Bool). cond d (Some (c, 0)) v.state.scan) bit))

  -- the cell isn't
  pub unpublished : has_bit n (c % block_cells) ≡ false → HasPopped c true w
  unpublished bit =
      record {
        popped =
            ap (λ (z : View). z.state.popped) e
            ∙ (ap (λ o. popped_after o (c / block_cells) n) p.popped
            ∙ (ap (λ (d : Bool). cond d (cond (has_bit n (c % block_cells)) None (Some (c, true))) (Some (c, false))) (eq-eqb (c / block_cells) (c / block_cells) refl) ∙ ap (λ (d : Bool). cond d None (Some (c, true))) bit));
        others =
            work-of w.shape.fields (record w.state { popped = None }) refl
            (record {
              scan =
                  ap (λ (z : View). scan_left z.shape.fields z.state.scan) e
                  ∙ (ap (λ o. scan_left v.shape.fields (scan_after o v.state.scan (c / block_cells) n)) p.popped
                  ∙ (ap (λ (d : Bool). scan_left v.shape.fields (cond ((c / block_cells == c / block_cells) && d) (Some (c, 0)) v.state.scan)) bit
                  ∙ (ap (λ (d : Bool). scan_left v.shape.fields (cond (d && false) (Some (c, 0)) v.state.scan)) (eq-eqb (c / block_cells) (c / block_cells) refl) ∙ free.scan)));
              value = ap (λ (z : View). is_some z.state.value) e ∙ free.value;
              fresh = ap (λ (z : View). is_some z.state.fresh) e ∙ free.fresh;
              cleaning = alloc-cleaning;
            });
        block = ap (λ (z : View). z.state.block) e ∙ ap (λ o. with_alloc_word o (c / block_cells) n) p.block;
      }

-- a popped cell was pushed
module _ (v w : View) (q c n : ℕ) (p : HasPopped c true v) (e : w ≡ after (Push q c) n v) where
  pub popped-fresh : v.state.fresh ≡ None
  popped-fresh = none-of v.state.fresh (free-of v.shape.fields (record v.state { popped = None }) p.others).fresh

  pub pushed-work : work_in_hand w.shape.fields w.state ≡ false
  pushed-work =
      let f = free-of v.shape.fields (record v.state { popped = None }) p.others in
      work-of w.shape.fields w.state
      (ap (λ (z : View). is_some z.state.popped) e ∙ ap (λ (o : Option ℕ). is_some (cond (is_the o c) v.state.popped None)) popped-fresh)
      (record {
        scan = ap (λ (z : View). scan_left z.shape.fields z.state.scan) e ∙ f.scan;
        value = ap (λ (z : View). is_some z.state.value) e ∙ f.value;
        fresh = ap (λ (z : View). is_some z.state.fresh) e ∙ ap (λ (o : Option ℕ). is_some (cond (is_the o c) None o)) popped-fresh;
        cleaning = ap (λ (z : View). cleaning_left z.state.cleaning) e ∙ f.cleaning;
      })

-- a cell was popped
pub was-popped : (v w : View) (q c n : ℕ) → work_in_hand v.shape.fields v.state ≡ false → v.state.block ≡ None → c ≡ cell_of n → w ≡ after (Pop q) n v → HasPopped c false w
was-popped v w q c n idle block is e =
    record {
      popped = ap (λ (z : View). z.state.popped) e ∙ ap (λ x. Some (x, false)) (sym is);
      others = ap (λ (z : View). work_in_hand z.shape.fields (record z.state { popped = None })) e ∙ others-of v.shape.fields v.state idle;
      block = ap (λ (z : View). z.state.block) e ∙ block;
    }

off-left : (o : Option Cleaning) (card : ℕ) → cleaning_left o ≡ false → cleaning_left (redirty_off o card) ≡ false
off-left None card h = h
off-left (Some x) card h = either (x.card == card)
  where
    either : (b : Bool) → cleaning_left (Some (cond b (record x { redirty = false }) x)) ≡ false
    either true = or_from _ _ (or_parts (not x.known || not (x.left == 0)) x.redirty h).0 refl
    either false = h

-- the card of a popped cell was dirtied
pub dirtied-work : (v w : View) (c card n : ℕ) → v.state.popped ≡ Some (c, true) → card_of c ≡ card → work_in_hand v.shape.fields (record v.state { popped = None }) ≡ false → w ≡ after (DirtyCard card) n v → work_in_hand w.shape.fields w.state ≡ false
dirtied-work v w c card n popped same others e =
    let f = free-of v.shape.fields (record v.state { popped = None }) others in
    let none : v.state.fresh ≡ None = none-of v.state.fresh f.fresh in
    work-of w.shape.fields w.state
    (ap (λ (z : View). is_some z.state.popped) e
    ∙ (ap (λ (o : Option (ℕ × Bool)). is_some (popped_off o card)) popped ∙ ap (λ (d : Bool). is_some {T = ℕ × Bool} (cond (true && d) None (Some (c, true)))) (eq-eqb (card_of c) card same)))
    (record {
      scan = ap (λ (z : View). scan_left z.shape.fields z.state.scan) e ∙ f.scan;
      value = ap (λ (z : View). is_some z.state.value) e ∙ f.value;
      fresh = ap (λ (z : View). is_some z.state.fresh) e ∙ ap (λ (o : Option ℕ). is_some (fresh_off o card)) none;
      cleaning = ap (λ (z : View). cleaning_left z.state.cleaning) e ∙ off-left v.state.cleaning card f.cleaning;
    })
