-- At the start nothing is in hand, in a packet or dirty.
use Rattle.std.proofs.Common.{ℕ, ◌≡◌, ◌+◌, ◌<◌, List, [], ◌∷◌, length, arith, refl, sym, ap, ◌∙◌, zero, suc}
use Rattle.std.specs.Prelude.{slice_index}
use Rattle.std.specs.List.{All, sum_by, range_with_len}
use Rattle.std.proofs.lemmas.Grind.{get_or_default_zero}
use Rattle.std.proofs.lemmas.List.Elements.{All-head, All-tail}
use Rattle.std.proofs.lemmas.List.Sums.{sum_by-cons}
use Rattle.mark_core.specs.Layout.{words_of, region_sizes, region_base, card_count}
use Rattle.mark_core.specs.Views.{hands}
use Rattle.mark_core.specs.Cells.{packet_length}
use Rattle.mark_core.specs.Start.{start_seats, start_words, full_pool}
use Rattle.mark_core.specs.Steps.{start_core}
use Rattle.mark_core.specs.Laws.{IsCore}
use Rattle.mark_core.specs.declared.kinds.Shape.{Shape}
use Rattle.mark_core.specs.declared.seat.SeatState.{SeatState}
use Rattle.mark_core.proofs.Count.CountMoves.{count-none}
use Rattle.mark_core.proofs.Pool.PoolStart.{in-gap, each-seat, gap, singles, tail_words}
use Rattle.mark_core.proofs.Writing.Places.{words-get, region-length}
use Rattle.work_laws.specs.Queueing.{queued}
use Rattle.work_laws.specs.Cleaning.{is_dirty, dirty_cards}
use Rattle.work_laws.proofs.Seats.{IsOfHands}

pub sum-none : {X : Type 0} (f : X → ℕ) (xs : List X) → All (λ (x : X). f x ≡ 0) xs → sum_by f xs ≡ 0
sum-none f [] a = refl
sum-none {X} f (x ∷ xs) a =
    let P : X → Type 0 = λ (y : X). f y ≡ 0 in
    omega (arith, sum_by-cons f x xs, All-head P x xs a, sum-none f xs (All-tail P x xs a))

-- nothing in hand
pub none-in-hands : (f : SeatState → ℕ) (sh : Shape) (n : ℕ) → IsOfHands f → sum_by f (start_seats sh n) ≡ 0
none-in-hands f sh n z = sum-none f (start_seats sh n) (each-seat (λ (s : SeatState). f s ≡ 0) sh n (z.start sh))

pub range-none : (f : ℕ → ℕ) (a n : ℕ) → ((x : ℕ) → x < a + n → f x ≡ 0) → sum_by f (range_with_len a n) ≡ 0
range-none f a zero h = refl
range-none f a (suc n) h = omega (arith, sum_by-cons f a (range_with_len (a + 1) n), h a (omega arith), range-none f (a + 1) n (λ x l. h x (omega arith)))

-- nothing in packets
pub none-queued : (sh : Shape) (n : ℕ) → IsCore (start_core sh n) → queued (start_core sh n) ≡ 0
none-queued sh n k = range-none (λ p. packet_length (words_of sh (start_words sh)).heads (hands (start_seats sh n)) p) 0 sh.packets (λ p h. k.sound.phases.packets_empty refl p (omega (arith, h)))

no_card : (sh : Shape) (card : ℕ) → card < card_count sh → slice_index (words_of sh (start_words sh)).cards card ≡ 0
no_card sh card h =
    sym (words-get (region_sizes sh) 6 (start_words sh) card 0 h)
    ∙ in-gap (singles sh) (full_pool sh) (tail_words sh) 11 (gap sh) (region_base (region_sizes sh) 6 + card) refl (omega arith) (omega (arith, h))

-- no card is dirty
pub none-dirty : (sh : Shape) (n : ℕ) → IsCore (start_core sh n) → dirty_cards (start_core sh n) ≡ 0
none-dirty sh n k =
    let cards : List ℕ = (words_of sh (start_words sh)).cards in
    let long : length cards ≡ card_count sh = region-length (region_sizes sh) 6 (start_words sh) (omega (arith, k.formed.words)) in
    count-none is_dirty cards (λ j d h. ap is_dirty (get_or_default_zero cards j d h ∙ no_card sh j (omega (arith, h, long))))
