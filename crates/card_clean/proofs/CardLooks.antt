-- Cards are looked at, one after another.
use Rattle.std.proofs.Common.{ℕ, zero, suc, ◌≡◌, ◌≢◌, ◌<◌, ◌≤◌, ◌+◌, ◌-◌, ◌/◌, List, [], ◌∷◌, ◌++◌, map, arith, refl, sym, ap, ◌∙◌, subst, true, false, Some, eq-eqb, eqb-true, ⊎_elim, Bool}
use Rattle.std.specs.List.{range_with_len}
use Rattle.std.proofs.lemmas.Bool.{true≢false, cases_eq}
use Rattle.mark_core.specs.Layout.{card_count}
use Rattle.mark_core.specs.Notes.{steady}
use Rattle.mark_core.specs.Numbers.{word_bits}
use Rattle.mark_core.specs.Places.{card_at, pool_at, the_empty_count}
use Rattle.mark_core.specs.declared.kinds.Shape.{Shape}
use Rattle.mark_core.specs.declared.kinds.Step.TheVariants.{ReadCard, ReadCount}
use Rattle.gc_table.specs.declared.view.Entry.{Entry}
use Rattle.gc_table.specs.declared.view.View.{View}
use Rattle.gc_table.specs.Log.{event, events}
use Rattle.gc_table.specs.Notes.{look, Notes, noting}
use Rattle.gc_table.specs.Taking.{Finds, after, won}
use Rattle.gc_table.proofs.History.Log.{events-after, events-join}
use Rattle.gc_table.proofs.Noticing.{alone-steady, note-left}
use Rattle.packet_pools.specs.Fields.{fields_read, picked}
use Rattle.packet_pools.specs.OnlyTraced.{OnlyTraced}
use Rattle.packet_pools.specs.Outside.{AreNotedOutside}
use Rattle.card_clean.specs.Drained.{AreNotedClean}
use Rattle.card_clean.specs.Leaving.{rescanned_in}
use Rattle.card_clean.specs.Looking.{KeepsAllNotes, looks_clean, looks_dirty}
use Rattle.card_clean.proofs.Leavings.{rescanned-unread}
use Rattle.card_clean.proofs.Steps.{card-small}
use Rattle.mark_core.specs.Effects.{written, seat_after}
use Rattle.mark_core.specs.declared.kinds.Step.{Step}
use Rattle.mark_core.specs.declared.seat.SeatState.{SeatState}
use Rattle.packet_pools.proofs.TracedSteps.{read-keeps, place-again as same-place}

-- the word that the step left
pub noted-here : (keeps : ℕ × ℕ → ℕ → Bool) (at : ℕ × ℕ) (word : ℕ) (xs : Notes) → keeps at word ≡ true → look at (noting keeps at word xs) ≡ Some word
noted-here keeps at word xs k = note-left keeps at at word xs (same-place at) k

-- a look that leaves the record leaves all notes
pub look-keeps : (v : View) (step : Step) (n : ℕ) → written v.shape v.state step n ≡ n → seat_after v.shape v.state step n ≡ v.state → Finds step n v → KeepsAllNotes v (after step n v)
look-keeps v step n reads same f at m h = read-keeps v step n reads f at m (ap (λ (s : SeatState). steady s at m) same ∙ (f.agrees.noted at m h).0) h

pub keeps-join : (u v w : View) → KeepsAllNotes u v → KeepsAllNotes v w → KeepsAllNotes u w
keeps-join u v w a b at n h = b at n (a at n h)

-- the notes of cards stay while the seat only looks
pub clean-kept : (from to : ℕ) (v w : View) → KeepsAllNotes v w → AreNotedClean from to v → AreNotedClean from to w
clean-kept from to v w k c card low high = k (card_at card) 0 (c card low high)

-- so do those of packets outside a pool
pub outside-kept : (q : ℕ) (v w : View) → w.shape ≡ v.shape → KeepsAllNotes v w → AreNotedOutside q v → AreNotedOutside q w
outside-kept q v w e k h = λ p l.
    let o = h p (subst (λ (sh : Shape). p < sh.packets) e l) in
    (o.0, subst (λ (sh : Shape). look (pool_at sh q (p / word_bits)) w.known ≡ Some o.0) (sym e) (k (pool_at v.shape q (p / word_bits)) o.0 o.1), o.2)

-- a card that isn't dirty
pub card-word : (v : View) (card n : ℕ) → card < card_count v.shape → Finds (ReadCard card) n v → won (ReadCard card) n ≡ false → n ≡ 0
card-word v card n below f e =
    let small : n ≤ 1 = card-small f.state card n f.whole (subst (λ (sh : Shape). card < card_count sh) f.agrees.shape below) f.word in
    let other : n ≢ 1 = λ o. true≢false (sym (eq-eqb n 1 o) ∙ e) in
    omega (arith, small, other)

pub clean-more : (v : View) (from card n : ℕ) → card < card_count v.shape → Finds (ReadCard card) n v → won (ReadCard card) n ≡ false → v.state.alone ≡ true → AreNotedClean from card v → AreNotedClean from (card + 1) (after (ReadCard card) n v)
clean-more v from card n below f e alone c k low high =
    let w : View = after (ReadCard card) n v in
    let zero_there : n ≡ 0 = card-word v card n below f e in
    ⊎_elim
    (λ (s : k ≡ card).
    subst (λ j. look (card_at j) w.known ≡ Some 0) (sym s)
    (noted-here (steady w.state) (card_at card) n v.known (alone-steady w.state (card_at card) n refl alone) ∙ ap Some zero_there))
    (λ (d : k ≢ card). look-keeps v (ReadCard card) n refl refl f (card_at k) 0 (c k low (omega (arith, high, d))))
    (cases_eq k card)

-- the count of empty packets is noted
pub count-noted : (v : View) (n : ℕ) → v.state.alone ≡ true → look the_empty_count (after ReadCount n v).known ≡ Some n
count-noted v n alone = noted-here (steady (after ReadCount n v).state) the_empty_count n v.known (alone-steady (after ReadCount n v).state the_empty_count n refl alone)

-- a dirty one
dirty-word : (v : View) (card n : ℕ) → won (ReadCard card) n ≡ true → n ≡ 1
dirty-word v card n e = eqb-true n 1 e

-- one look more
one-longer : (from n : ℕ) → map (λ k. event (ReadCard k) 0) (range_with_len from (suc n)) ≡ map (λ k. event (ReadCard k) 0) (range_with_len from n) ++ event (ReadCard (from + n)) 0 ∷ []
one-longer from zero = let z : from ≡ from + 0 = omega arith in ap (λ k. event (ReadCard k) 0 ∷ []) z
one-longer from (suc n) =
    let z : from + 1 + n ≡ from + suc n = omega arith in
    ap (λ (l : List Entry). event (ReadCard from) 0 ∷ l) (one-longer (from + 1) n ∙ ap (λ k. map (λ j. event (ReadCard j) 0) (range_with_len (from + 1) n) ++ event (ReadCard k) 0 ∷ []) z)

looks-next : (from card : ℕ) → from ≤ card → looks_clean from card ++ event (ReadCard card) 0 ∷ [] ≡ looks_clean from (card + 1)
looks-next from card l =
    let n : suc (card - from) ≡ card + 1 - from = omega (arith, l) in
    let at : from + (card - from) ≡ card = omega (arith, l) in
    sym (ap (λ m. map (λ k. event (ReadCard k) 0) (range_with_len from m)) (sym n) ∙ (one-longer from (card - from) ∙ ap (λ m. looks_clean from card ++ event (ReadCard m) 0 ∷ []) at))

module _ (v w x : View) (from card n : ℕ) (a : OnlyTraced v w) (b : OnlyTraced w x) (e : x ≡ after (ReadCard card) n w) (h : events v w ≡ looks_clean from card) where
  pub clean-look : from ≤ card → card < card_count w.shape → Finds (ReadCard card) n w → won (ReadCard card) n ≡ false → events v x ≡ looks_clean from (card + 1)
  clean-look l below f lost =
      events-join v w x a.log b.log
      ∙ ((λ i. h i ++ (events-after w x (ReadCard card) n e ∙ ap (λ m. event (ReadCard card) m ∷ []) (card-word w card n below f lost)) i) ∙ looks-next from card l)

  pub dirty-look : won (ReadCard card) n ≡ true → events v x ≡ looks_dirty from card
  dirty-look found = events-join v w x a.log b.log ∙ (λ i. h i ++ (events-after w x (ReadCard card) n e ∙ ap (λ m. event (ReadCard card) m ∷ []) (dirty-word w card n found)) i)

-- looks at cards scan nothing again
unread : (ks : List ℕ) (es : List Entry) → picked fields_read es ≡ [] → picked fields_read (map (λ k. event (ReadCard k) 0) ks ++ es) ≡ []
unread [] es e = e
unread (k ∷ ks) es e = unread ks es e

unread-clean : (ks : List ℕ) → picked fields_read (map (λ k. event (ReadCard k) 0) ks) ≡ []
unread-clean [] = refl
unread-clean (k ∷ ks) = unread-clean ks

pub rescanned-clean : (v w : View) (from to : ℕ) → events v w ≡ looks_clean from to → rescanned_in v (events v w) ≡ 0
rescanned-clean v w from to e = rescanned-unread (events v w) v (ap (picked fields_read) e ∙ unread-clean (range_with_len from (to - from)))

pub rescanned-dirty : (v w : View) (from card : ℕ) → events v w ≡ looks_dirty from card → rescanned_in v (events v w) ≡ 0
rescanned-dirty v w from card e = rescanned-unread (events v w) v (ap (picked fields_read) e ∙ unread (range_with_len from (card - from)) (event (ReadCard card) 1 ∷ []) refl)
