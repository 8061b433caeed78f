-- A step that is allowed in Sweep leaves the roots, the fields, and which cells are spared.
use Rattle.std.proofs.Common.{ℕ, ◌≡◌, ◌≢◌, ◌/◌, ◌%◌, ◌<◌, List, set, get_or, length, arith, refl, sym, ap, ◌∙◌, true, false, not, ◌&&◌, Option, Some, None, ⊎_elim, ◌+◌, ◌≤◌, [], ◌∷◌, ◌++◌, subst, Bool, ◌||◌, cond, eqb}
use Rattle.std.specs.Prelude.{IfSome, is_some, unwrap_or, bit_and, slice_get, nat_lt}
use Rattle.std.proofs.lemmas.Bool.{cases_eq, and_parts, not-true, false≢true, ltb-false, true≢false}
use Rattle.std.proofs.lemmas.List.{get_or-set_same, length-map, get_or-map, map-set, map_push, set-get_or}
use Rattle.mark_core.specs.Bits.{has_bit, cell_bit}
use Rattle.mark_core.specs.Seats.{block_in_hand, may_store, is_swept, is_phase}
use Rattle.mark_core.specs.Cells.{is_unswept, is_swept_block}
use Rattle.mark_core.specs.Steps.SweepSteps.{survivors, with_stored, next_in_stretch, with_mark_word, untouched, stretch_end}
use Rattle.mark_core.specs.Strong.{IsStrongBlock}
use Rattle.mark_core.proofs.Blocks.BlocksStopped.{Others, or-false, any-same, Taken, within, own-record, in-place, AllStill, tracing, still-stopped, not-still}
use Rattle.mark_core.proofs.Blocks.BlocksStretch.{IsBlock, AreApart, rest-swept, unswept-elsewhere, unswept-first}
use Rattle.mark_core.proofs.Sweeps.SweepsSpared.{is_spared, swept-own, swept-done, swept-other, bit-within, spared-same, swept-taken, swept-past, none-used, use-published}
use Rattle.mark_core.proofs.Writing.CellBits.{bit-there}
use Rattle.mark_core.specs.declared.seat.BlockState.{BlockState}
use Rattle.std.specs.List.{list_any}
use Rattle.std.proofs.lemmas.List.Folds.{list_any-append}
use Rattle.std.proofs.lemmas.Option.{slice_get_within, get_or_from_slice_get}
use Rattle.mark_core.specs.Shapes.{EachCell}
use Rattle.mark_core.specs.Layout.{Words, words_of, region_sizes, block_count}
use Rattle.mark_core.specs.Views.{blocks}
use Rattle.mark_core.specs.Steps.ColourSteps.{with_alloc_word}
use Rattle.mark_core.specs.Rules.WorldRules.{is_stopped_phase}
use Rattle.mark_core.specs.Steps.WorldSteps.{other_has_nothing}
use Rattle.mark_core.specs.Start.{start_seat, spent_seat}
use Rattle.mark_core.specs.Effects.{seat_after}
use Rattle.mark_core.specs.Steps.{Core}
use Rattle.mark_core.proofs.Writing.Places.{region-length}
use Rattle.mark_core.proofs.Known.{found, words_left, seats_left}
use Rattle.mark_core.proofs.Blocks.BlocksWords.{heap-left}
use Rattle.mark_core.proofs.Blocks.BlocksSteps.{own-block, own-right, others-apart, publishes-nothing}
use Rattle.mark_core.proofs.Basics.{none-is}
use Rattle.mark_core.specs.declared.kinds.Shape.{Shape}
use Rattle.mark_core.specs.declared.kinds.Phase.TheVariants.{Sweep}
use Rattle.mark_core.specs.declared.kinds.Step.{Step}
use Rattle.mark_core.specs.declared.kinds.Step.TheVariants.{ReadAlloc, SetMark, StoreField, StoreRoot, StoreNew, PublishCells, StorePhase, Split, Join, NextBlock, ReadBlockMarks, StoreAlloc, ClearMarks, Reset, ExchangeField, StoreSlot, FlushRoot}
use Rattle.mark_core.specs.declared.seat.SeatState.{SeatState}

-- A block that is swept spares the cells that were spared before, and so does one whose marks are cleared then.
-- a word that was read and kept is the present one
kept_word : (o : Option ℕ) (v : ℕ) → is_some o ≡ true → IfSome o (λ word. v ≡ word) → unwrap_or o 0 ≡ v
kept_word None v e h = absurd (false≢true e)
kept_word (Some word) v e h = sym h

pub spared-swept : (nb : ℕ) (bs : List (Option BlockState)) (allocs marks : List ℕ) (x : ℕ) → is_swept_block nb bs (x / 64) ≡ true → is_spared nb bs allocs marks x ≡ cell_bit allocs x
spared-swept nb bs allocs marks x e = rw e refl

pub spared-unswept : (nb : ℕ) (bs : List (Option BlockState)) (allocs marks : List ℕ) (x : ℕ) → is_swept_block nb bs (x / 64) ≡ false → is_spared nb bs allocs marks x ≡ cell_bit marks x
spared-unswept nb bs allocs marks x e = rw e refl

-- if the block and both bits of a cell stay, so does whether it is spared
same_spared : (nb : ℕ) (bs bs' : List (Option BlockState)) (allocs marks allocs' marks' : List ℕ) (x : ℕ) → is_swept_block nb bs' (x / 64) ≡ is_swept_block nb bs (x / 64) → cell_bit allocs' x ≡ cell_bit allocs x → cell_bit marks' x ≡ cell_bit marks x
    → is_spared nb bs' allocs' marks' x ≡ is_spared nb bs allocs marks x
same_spared nb bs bs' allocs marks allocs' marks' x e a m = rw (e, a, m) refl

-- a block in hand was handed out
counted : (phase nb : ℕ) (allocs marks : List ℕ) (x : BlockState) → IsStrongBlock phase nb allocs marks x → x.block < nb
counted phase nb allocs marks x k = omega (arith, k.block_first, k.stretch_counted)

-- a cell of the block that is swept
stored_here : (phase nb : ℕ) (bs : List (Option BlockState)) (i : ℕ) (x : BlockState) (allocs marks : List ℕ) (y : ℕ) → i < length bs → ((d : Option BlockState) → get_or bs i d ≡ Some x) → Others i (AreApart (Some x)) bs
    → IsStrongBlock phase nb allocs marks x → may_store (Some x) ≡ true → x.block < length allocs → (cell_bit marks y ≡ true → cell_bit allocs y ≡ true) → y / 64 ≡ x.block
    → is_spared nb (set bs i (with_stored (Some x))) (set allocs x.block (survivors (Some x))) marks y ≡ is_spared nb bs allocs marks y
stored_here phase nb bs i x allocs marks y h is apart k may long marked e =
    let read = and_parts (is_some x.alloc_word && is_some x.mark_word) (not x.stored) may in
    let words = and_parts (is_some x.alloc_word) (is_some x.mark_word) read.0 in
    let fresh : x.stored ≡ false = not-true x.stored read.1 in
    let a : unwrap_or x.alloc_word 0 ≡ get_or allocs x.block 0 = kept_word x.alloc_word (get_or allocs x.block 0) words.0 (k.alloc_kept fresh) in
    let m : unwrap_or x.mark_word 0 ≡ get_or marks x.block 0 = kept_word x.mark_word (get_or marks x.block 0) words.1 (k.mark_kept fresh) in
    let v : ℕ = survivors (Some x) in
    let before : is_swept_block nb bs (y / 64) ≡ false = ap (is_swept_block nb bs) e ∙ (swept-own nb bs i x h is apart k.block_first (counted phase nb allocs marks x k) ∙ fresh) in
    let done : is_unswept x.block (with_stored (Some x)) ≡ false = unswept-first (record x { stored = true }) k.block_first in
    let after : is_swept_block nb (set bs i (with_stored (Some x))) (y / 64) ≡ true = ap (is_swept_block nb (set bs i (with_stored (Some x)))) e ∙ swept-done nb bs i x (with_stored (Some x)) apart done k.block_first (counted phase nb allocs marks x k) in
    let word : get_or (set allocs x.block v) (y / 64) 0 ≡ v = ap (λ g. get_or (set allocs x.block v) g 0) e ∙ get_or-set_same allocs x.block v 0 long in
    let both : v ≡ bit_and (get_or allocs x.block 0) (get_or marks x.block 0) = ap (λ n. bit_and n (unwrap_or x.mark_word 0)) a ∙ ap (λ n. bit_and (get_or allocs x.block 0) n) m in
    let mark : has_bit (get_or marks (y / 64) 0) (y % 64) ≡ has_bit (get_or marks x.block 0) (y % 64) = ap (λ g. has_bit (get_or marks g 0) (y % 64)) e in
    let alloc : has_bit (get_or allocs (y / 64) 0) (y % 64) ≡ has_bit (get_or allocs x.block 0) (y % 64) = ap (λ g. has_bit (get_or allocs g 0) (y % 64)) e in
    spared-swept nb (set bs i (with_stored (Some x))) (set allocs x.block v) marks y after
    ∙ (ap (λ n. has_bit n (y % 64)) (word ∙ both)
    ∙ (bit-within (get_or allocs x.block 0) (get_or marks x.block 0) (y % 64) (λ f. sym alloc ∙ marked (mark ∙ f)) ∙ (sym mark ∙ sym (spared-unswept nb bs allocs marks y before))))

stored_there : (nb : ℕ) (bs : List (Option BlockState)) (i : ℕ) (x : BlockState) (allocs marks : List ℕ) (v y : ℕ) → i < length bs → ((d : Option BlockState) → get_or bs i d ≡ Some x) → y / 64 ≢ x.block
    → is_spared nb (set bs i (with_stored (Some x))) (set allocs x.block v) marks y ≡ is_spared nb bs allocs marks y
stored_there nb bs i x allocs marks v y h is n =
    same_spared nb bs (set bs i (with_stored (Some x))) allocs marks (set allocs x.block v) marks y
    (swept-other nb (y / 64) bs i (with_stored (Some x)) h (unswept-elsewhere (y / 64) (record x { stored = true }) n ∙ sym (ap (is_unswept (y / 64)) (is None) ∙ unswept-elsewhere (y / 64) x n)))
    (bit-there allocs x.block v y n)
    refl

-- 35: the seat's block is swept
pub spared-stored : (phase nb : ℕ) (bs : List (Option BlockState)) (i : ℕ) (o : Option BlockState) (allocs marks : List ℕ) (y : ℕ) → i < length bs → ((d : Option BlockState) → get_or bs i d ≡ o) → Others i (AreApart o) bs → IsBlock phase nb allocs marks o
    → may_store o ≡ true → unwrap_or (block_in_hand o) 0 < length allocs → (cell_bit marks y ≡ true → cell_bit allocs y ≡ true)
    → is_spared nb (set bs i (with_stored o)) (set allocs (unwrap_or (block_in_hand o) 0) (survivors o)) marks y ≡ is_spared nb bs allocs marks y
spared-stored phase nb bs i None allocs marks y h is apart k may long marked = absurd (false≢true may)
spared-stored phase nb bs i (Some x) allocs marks y h is apart k may long marked =
    ⊎_elim
    (λ (e : y / 64 ≡ x.block). stored_here phase nb bs i x allocs marks y h is apart k may long marked e)
    (λ (n : y / 64 ≡ x.block → ⊥). stored_there nb bs i x allocs marks (survivors (Some x)) y h is n)
    (cases_eq (y / 64) x.block)

-- 36: the marks of the seat's block are cleared, which was swept before, and the seat goes on to the next one of its stretch
pub spared-cleared : (phase nb : ℕ) (bs : List (Option BlockState)) (i : ℕ) (o : Option BlockState) (allocs marks : List ℕ) (y : ℕ) → i < length bs → ((d : Option BlockState) → get_or bs i d ≡ o) → Others i (AreApart o) bs → IsBlock phase nb allocs marks o → is_swept o ≡ true
    → is_spared nb (set bs i (next_in_stretch o)) allocs (set marks (unwrap_or (block_in_hand o) 0) 0) y ≡ is_spared nb bs allocs marks y
spared-cleared phase nb bs i None allocs marks y h is apart k swept = absurd (false≢true swept)
spared-cleared phase nb bs i (Some x) allocs marks y h is apart k swept =
    let rest : Option BlockState = next_in_stretch (Some x) in
    let same : is_swept_block nb (set bs i rest) (y / 64) ≡ is_swept_block nb bs (y / 64) = swept-other nb (y / 64) bs i rest h (rest-swept (y / 64) (Some x) swept ∙ sym (ap (is_unswept (y / 64)) (is None))) in
    ⊎_elim
    (λ (e : y / 64 ≡ x.block).
    let before : is_swept_block nb bs (y / 64) ≡ true = ap (is_swept_block nb bs) e ∙ (swept-own nb bs i x h is apart k.block_first (counted phase nb allocs marks x k) ∙ swept) in
    let after : is_swept_block nb (set bs i rest) (y / 64) ≡ true = same ∙ before in
    spared-swept nb (set bs i rest) allocs (set marks x.block 0) y after ∙ sym (spared-swept nb bs allocs marks y before))
    (λ (n : y / 64 ≡ x.block → ⊥). same_spared nb bs (set bs i rest) allocs marks allocs (set marks x.block 0) y same refl (bit-there marks x.block 0 y n))
    (cases_eq (y / 64) x.block)

-- the references and the spared cells stay
pub record SweepOn (c : Core) (i : ℕ) (s : SeatState) (step : Step) : Type 0 where
  pub roots : (words_left c s step).roots ≡ (words_of c.shape c.words).roots
  pub fields : (words_left c s step).fields ≡ (words_of c.shape c.words).fields
  pub spared :
      EachCell c.shape (λ x. is_spared (words_left c s step).next_block (blocks (seats_left c i s step)) (words_left c s step).allocs (words_left c s step).marks x ≡ is_spared (words_of c.shape c.words).next_block (blocks c.seats) (words_of c.shape c.words).allocs (words_of c.shape c.words).marks x)

-- the seat's own block doesn't change whether block b is still to be swept
own_unswept : (c : Core) (i : ℕ) (s : SeatState) (step : Step) (x : SeatState) (b : ℕ) → Taken c i s step → is_unswept b x.block ≡ is_unswept b s.block → list_any (is_unswept b) (blocks (set c.seats i x)) ≡ list_any (is_unswept b) (blocks c.seats)
own_unswept c i s step x b t e =
    ap (list_any (is_unswept b)) (map-set (λ (y : SeatState). y.block) c.seats i x)
    ∙ any-same (is_unswept b) (blocks c.seats) i x.block None (rw length-map (within c i s step t)) (e ∙ sym (ap (is_unswept b) (own-block c i s step None t)))

-- neither does a further seat
push_unswept : (b : ℕ) (sh : Shape) (seats : List SeatState) (k : ℕ) → list_any (is_unswept b) (blocks (seats ++ start_seat sh k ∷ [])) ≡ list_any (is_unswept b) (blocks seats)
push_unswept b sh seats k =
    ap (list_any (is_unswept b)) (map_push (λ (y : SeatState). y.block) seats (start_seat sh k)) ∙ (list_any-append (is_unswept b) (blocks seats) (None ∷ []) ∙ or-false (list_any (is_unswept b) (blocks seats)))

-- the end of a record that has no block leaves the blocks in hand
end_unswept : (b : ℕ) (sh : Shape) (seats : List SeatState) (j : ℕ) (o : Option SeatState) → slice_get seats j ≡ o → other_has_nothing sh o ≡ true → list_any (is_unswept b) (blocks (set seats j (spent_seat sh j))) ≡ list_any (is_unswept b) (blocks seats)
end_unswept b sh seats j None g e = absurd (false≢true e)
end_unswept b sh seats j (Some o) g e =
    let h : j < length seats = slice_get_within seats j o g in
    let none : o.block ≡ None = none-is o.block (and_parts _ _ (and_parts _ _ e).0).1 in
    let own : get_or (blocks seats) j None ≡ None = get_or-map (λ (y : SeatState). y.block) seats j o None h ∙ (ap (λ (y : SeatState). y.block) (get_or_from_slice_get seats j o o g) ∙ none) in
    ap (list_any (is_unswept b)) (map-set (λ (y : SeatState). y.block) seats j (spent_seat sh j))
    ∙ any-same (is_unswept b) (blocks seats) j None None (rw length-map h) (sym (ap (is_unswept b) own))

pub unswept-left : (c : Core) (i : ℕ) (s : SeatState) (step : Step) (b : ℕ) → Taken c i s step → is_unswept b (seat_after c.shape s step (found c s step)).block ≡ is_unswept b s.block
    → list_any (is_unswept b) (blocks (seats_left c i s step)) ≡ list_any (is_unswept b) (blocks c.seats)
unswept-left c i s Split b t e = push_unswept b c.shape (set c.seats i s) (length (set c.seats i s)) ∙ own_unswept c i s Split s b t e
unswept-left c i s (Join other) b t e =
    let back : set c.seats i s ≡ c.seats = subst (λ (y : SeatState). set c.seats i y ≡ c.seats) (own-record c i s (Join other) s t) (set-get_or c.seats i s) in
    rw back (end_unswept b c.shape c.seats other (slice_get c.seats other) refl (and_parts _ _ t.ok.1.0).1)
unswept-left c i s step b t e = own_unswept c i s step (seat_after c.shape s step (found c s step)) b t e

-- a step that leaves the words, and what is still to be swept
same_sweep : (c : Core) (i : ℕ) (s : SeatState) (step : Step) → Taken c i s step → (words_left c s step).next_block ≡ (words_of c.shape c.words).next_block → (words_left c s step).roots ≡ (words_of c.shape c.words).roots
    → (words_left c s step).allocs ≡ (words_of c.shape c.words).allocs → (words_left c s step).marks ≡ (words_of c.shape c.words).marks → (words_left c s step).fields ≡ (words_of c.shape c.words).fields
    → ((b : ℕ) → is_unswept b (seat_after c.shape s step (found c s step)).block ≡ is_unswept b s.block) → SweepOn c i s step
same_sweep c i s step t n r a m f own =
    record {
      roots = r;
      fields = f;
      spared =
          λ x h.
          let e : list_any (is_unswept (x / 64)) (blocks (seats_left c i s step)) ≡ list_any (is_unswept (x / 64)) (blocks c.seats) = unswept-left c i s step (x / 64) t (own (x / 64)) in
          rw (n, a, m, e) refl;
    }

chosen_unswept : (x : BlockState) (d : Bool) (word b : ℕ) → is_unswept b (Some (cond d (record x { alloc_word = Some word }) x)) ≡ is_unswept b (Some x)
chosen_unswept x true word b = refl
chosen_unswept x false word b = refl

alloc_unswept : (o : Option BlockState) (g word b : ℕ) → is_unswept b (with_alloc_word o g word) ≡ is_unswept b o
alloc_unswept None g word b = refl
alloc_unswept (Some x) g word b = chosen_unswept x (eqb x.block g) word b

mark_unswept : (o : Option BlockState) (word b : ℕ) → is_unswept b (with_mark_word o word) ≡ is_unswept b o
mark_unswept None word b = refl
mark_unswept (Some x) word b = refl

-- the next stretch is taken, if there is one
taken_swept : (sh : Shape) (n b : ℕ) (bs : List (Option BlockState)) (i : ℕ) (o : Option BlockState) (d : Bool) → (d ≡ false → block_count sh ≤ n) → b < block_count sh → i < length bs → get_or bs i None ≡ o → o ≡ None
    → is_swept_block (n + sh.stretch) (set bs i (cond d (Some (untouched n (stretch_end sh n))) o)) b ≡ is_swept_block n bs b
taken_swept sh n b bs i o true f h l is e = swept-taken sh n b bs i h l (is ∙ e)
taken_swept sh n b bs i o false f h l is e =
    let back : set bs i o ≡ bs = subst (λ (y : Option BlockState). set bs i y ≡ bs) is (set-get_or bs i None) in
    rw back (swept-past n sh.stretch b bs (omega (arith, h, f refl)))

next_sweeps : (c : Core) (i : ℕ) (s : SeatState) → Taken c i s NextBlock → SweepOn c i s NextBlock
next_sweeps c i s t =
    let w : Words = words_of c.shape c.words in
    let n : ℕ = w.next_block in
    let m : ℕ = n + c.shape.stretch in
    let room : m % 18446744073709551616 ≡ m = omega (arith, t.core.sound.sweeping.blocks_bounded, t.core.formed.shaped.cells, t.core.formed.shaped.stretch) in
    let o : Option BlockState = Some (untouched n (stretch_end c.shape n)) in
    let b : Bool = nat_lt n (block_count c.shape) in
    record {
      roots = refl;
      fields = refl;
      spared =
          λ x h.
          let g : x / 64 < block_count c.shape = omega (arith, h, t.core.formed.shaped.whole_blocks) in
          let at : blocks (seats_left c i s NextBlock) ≡ set (blocks c.seats) i (cond b o s.block) = map-set (λ (y : SeatState). y.block) c.seats i (seat_after c.shape s NextBlock n) in
          rw (room, at)
          (spared-same n m (blocks c.seats) (set (blocks c.seats) i (cond b o s.block)) w.allocs w.marks x
          (taken_swept c.shape n (x / 64) (blocks c.seats) i s.block b (ltb-false n (block_count c.shape)) g (rw length-map (within c i s NextBlock t)) (own-block c i s NextBlock None t) (none-is s.block t.ok.1.0)));
    }

-- while the world is stopped a marked cell is published
marked_published : (c : Core) (i : ℕ) (s : SeatState) (step : Step) (x : ℕ) → Taken c i s step → AllStill c → x < c.shape.cells → cell_bit (words_of c.shape c.words).marks x ≡ true → cell_bit (words_of c.shape c.words).allocs x ≡ true
marked_published c i s step x t still h e =
    let w : Words = words_of c.shape c.words in
    sym (use-published w.allocs c.seats x (none-used c.shape w.world w.help c.seats t.core.sound.world still)) ∙ t.core.sound.marks.marked_in_use x h e

store_sweeps : (c : Core) (i : ℕ) (s : SeatState) → Taken c i s StoreAlloc → AllStill c → SweepOn c i s StoreAlloc
store_sweeps c i s t still =
    let w : Words = words_of c.shape c.words in
    let long : length w.allocs ≡ block_count c.shape = region-length (region_sizes c.shape) 4 c.words (omega (arith, t.core.formed.words)) in
    record {
      roots = refl;
      fields = refl;
      spared =
          λ x h.
          let at : blocks (seats_left c i s StoreAlloc) ≡ set (blocks c.seats) i (with_stored s.block) = map-set (λ (y : SeatState). y.block) c.seats i (seat_after c.shape s StoreAlloc (found c s StoreAlloc)) in
          rw at
          (spared-stored w.phase w.next_block (blocks c.seats) i s.block w.allocs w.marks x (rw length-map (within c i s StoreAlloc t)) (λ d. own-block c i s StoreAlloc d t) (others-apart c i s StoreAlloc t) (own-right c i s StoreAlloc t) t.ok.1.0
          (omega (arith, long, in-place c i s StoreAlloc t))
          (marked_published c i s StoreAlloc x t still h));
    }

clear_sweeps : (c : Core) (i : ℕ) (s : SeatState) → Taken c i s ClearMarks → is_swept s.block ≡ true → SweepOn c i s ClearMarks
clear_sweeps c i s t swept =
    let w : Words = words_of c.shape c.words in
    record {
      roots = refl;
      fields = refl;
      spared =
          λ x h.
          let at : blocks (seats_left c i s ClearMarks) ≡ set (blocks c.seats) i (next_in_stretch s.block) = map-set (λ (y : SeatState). y.block) c.seats i (seat_after c.shape s ClearMarks (found c s ClearMarks)) in
          rw at
          (spared-cleared w.phase w.next_block (blocks c.seats) i s.block w.allocs w.marks x (rw length-map (within c i s ClearMarks t)) (λ d. own-block c i s ClearMarks d t) (others-apart c i s ClearMarks t) (own-right c i s ClearMarks t) swept);
    }

-- what is asked of a seat that clears marks, in Sweep
swept_first : (p b : Bool) → p ≡ true → (not p || b) ≡ true → b ≡ true
swept_first true b e h = h
swept_first false b e h = absurd (false≢true e)

pub sweep-on : (c : Core) (i : ℕ) (s : SeatState) (step : Step) → Taken c i s step → (words_of c.shape c.words).phase ≡ 3 → SweepOn c i s step
sweep-on c i s (SetMark x) t e = absurd (true≢false (sym (tracing c i s (SetMark x) t t.ok.1.0) ∙ ap (λ p. eqb p 1 || eqb p 2) e))
sweep-on c i s (Reset which) t e = absurd (true≢false (sym (and_parts _ _ t.ok.0).1 ∙ ap (λ p. eqb p 0 || eqb p 2) e))
sweep-on c i s (StoreField v f x) t e = not-still c i s (StoreField v f x) _ t (still-stopped c t.core (ap is_stopped_phase e)) (and_parts s.active _ (and_parts _ _ t.ok.0).1).0
sweep-on c i s (ExchangeField v f x y) t e = not-still c i s (ExchangeField v f x y) _ t (still-stopped c t.core (ap is_stopped_phase e)) (and_parts s.active _ (and_parts _ _ t.ok.0).1).0
sweep-on c i s (FlushRoot v) t e = not-still c i s (FlushRoot v) _ t (still-stopped c t.core (ap is_stopped_phase e)) (and_parts s.active _ (and_parts _ _ t.ok.0).1).0
sweep-on c i s (StoreRoot v r) t e = not-still c i s (StoreRoot v r) _ t (still-stopped c t.core (ap is_stopped_phase e)) (and_parts s.active _ (and_parts _ _ t.ok.0).1).0
sweep-on c i s (StoreSlot k r) t e = not-still c i s (StoreSlot k r) _ t (still-stopped c t.core (ap is_stopped_phase e)) (and_parts s.active _ (and_parts _ _ t.ok.0).1).0
sweep-on c i s (StoreNew x part word) t e = not-still c i s (StoreNew x part word) _ t (still-stopped c t.core (ap is_stopped_phase e)) (and_parts s.active _ (and_parts _ _ t.ok.0).1).0
sweep-on c i s PublishCells t e = same_sweep c i s PublishCells t refl refl (publishes-nothing c i s t (still-stopped c t.core (ap is_stopped_phase e))) refl refl (λ b. refl)
sweep-on c i s (StorePhase to) t e = same_sweep c i s (StorePhase to) t refl refl refl refl refl (λ b. refl)
sweep-on c i s NextBlock t e = next_sweeps c i s t
sweep-on c i s StoreAlloc t e = store_sweeps c i s t (still-stopped c t.core (ap is_stopped_phase e))
sweep-on c i s ClearMarks t e = clear_sweeps c i s t (swept_first (is_phase (words_of c.shape c.words).phase Sweep) (is_swept s.block) (ap (λ p. eqb p 3) e) (and_parts _ _ t.ok.1.0).1)
sweep-on c i s (ReadAlloc b) t e =
    let same = heap-left c i s (ReadAlloc b) t refl in
    same_sweep c i s (ReadAlloc b) t same.next_block same.roots same.allocs same.marks same.fields (λ g. alloc_unswept s.block b (found c s (ReadAlloc b)) g)
sweep-on c i s ReadBlockMarks t e =
    let same = heap-left c i s ReadBlockMarks t refl in
    same_sweep c i s ReadBlockMarks t same.next_block same.roots same.allocs same.marks same.fields (λ g. mark_unswept s.block (found c s ReadBlockMarks) g)
sweep-on c i s step t e =
    let same = heap-left c i s step t refl in
    same_sweep c i s step t same.next_block same.roots same.allocs same.marks same.fields (λ b. refl)
