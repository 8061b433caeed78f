-- What tracers did, season by season.
use Rattle.std.proofs.Common.{ℕ, zero, suc, ◌≡◌, ◌+◌, ◌-◌, ◌*◌, ◌/◌, ◌<◌, ◌≤◌, ◌⊎◌, List, [], ◌∷◌, ◌++◌, length, get_or, drop, sym, ap, ◌∙◌, subst, ⊎_elim, arith, add-one, length-append}
use Rattle.std.proofs.lemmas.Bool.{cases_lt}
use Rattle.std.proofs.lemmas.Option.{get_or_from_slice_get, slice_get_within}
use Rattle.mark_core.specs.Start.{start_seat}
use Rattle.mark_core.specs.declared.seat.SeatState.{SeatState}
use Rattle.gc_table.specs.Log.{events}
use Rattle.gc_table.specs.Running.{Ran}
use Rattle.gc_table.specs.Seats.{view_of}
use Rattle.gc_table.specs.declared.view.Entry.{Entry}
use Rattle.gc_table.specs.declared.view.View.{View}
use Rattle.gc_table.proofs.History.Log.{events-none}
use Rattle.gc_table.proofs.Running.{ran-events, ran-join, ran-refl}
use Rattle.plain_heap.specs.Sections.{Sections}
use Rattle.gc_table.specs.declared.seat.Heap.{Heap}
use Rattle.gc_table.specs.declared.seat.HeapSeat.{HeapSeat}
use Rattle.gc_play.specs.declared.season.Ended.{Ended}
use Rattle.gc_play.specs.declared.season.Ended.TheVariants.{Done, First, Later}
use Rattle.gc_play.specs.declared.crew.Crew.{Crew}
use Rattle.gc_play.specs.Crews.{AreAfter, CrewEnds, IsNewSeatOfPlay, Numbered, PlayEnds, own_of}
use Rattle.gc_play.specs.Traced.{AllTracedUntil, EndTraced, HasMoved, MovedBy, SeasonTraced, SeasonsTraced, TracedSeasons, TracersRan, parts_by, turns_reached}
use Rattle.gc_play.specs.Turns.{HasTakenTurns}
use Rattle.gc_play.proofs.Rounds.{ran-state-in}

module _ (h : Heap) (s : Sections) (z : ℕ) (xs zs ys : List HeapSeat) (before : SeasonsTraced h s z xs zs) where
  -- one season more
  pub seasons-more : AllTracedUntil h (parts_by s (z + 1)) zs ys → SeasonsTraced h s (z + 1) xs ys
  seasons-more last = subst (λ n. AllTracedUntil h (parts_by s n) zs ys → SeasonsTraced h s n xs ys) (sym (add-one z)) (λ t. (zs, before, t)) last

  -- the season in which a play ended
  pub play-traced : (moved : ℕ) → 2 * (z + 1) - 3 ≤ moved → moved ≤ 2 * (z + 1) - 1 → SeasonTraced h s (z + 1) moved zs ys → SeasonsTraced h s (turns_reached moved) xs ys
  play-traced moved least most t =
      ⊎_elim
      (λ (few : moved < 2 * (z + 1) - 1).
      subst (λ n. SeasonsTraced h s n xs ys) (let is : z ≡ (moved + 1) / 2 = omega (arith, few, least) in is) (subst (SeasonsTraced h s z xs) (sym (t.unreached few)) before))
      (λ (all : 2 * (z + 1) - 1 ≤ moved).
      let is : moved ≡ 2 * (z + 1) - 1 = omega (arith, all, most) in
      subst (λ n. SeasonsTraced h s n xs ys) (let turns : z + 1 ≡ (moved + 1) / 2 = omega (arith, is) in turns) (seasons-more (t.reached is)))
      (cases_lt moved (2 * (z + 1) - 1))

-- all seasons were played before the last stop, which moves the season on once more, or finds the heap full
pub seasons-all : (h : Heap) (s : Sections) (n : ℕ) (xs ys : List HeapSeat) → SeasonsTraced h s n xs ys → (moved : ℕ) → 0 < n → (moved ≡ 2 * n - 1) ⊎ (moved ≡ 2 * n) → SeasonsTraced h s (turns_reached moved) xs ys
seasons-all h s n xs ys t moved first turn =
    let turns : n ≡ (moved + 1) / 2 = ⊎_elim (λ once. omega (arith, once, first)) (λ twice. omega (arith, twice)) turn in
    subst (λ k. SeasonsTraced h s k xs ys) turns t

-- how often the season was moved on when one ended
pub season-moved : (r : Ended) (h : Heap) (s : Sections) (z : ℕ) (c : Crew) → CrewEnds r h s z c → (2 * z - 3 ≤ (own_of c.catalogue).seasons) × ((own_of c.catalogue).seasons ≤ 2 * z - 1)
season-moved Done h s z c e = let is = e.catalogue.moved_is in (omega (arith, is), omega (arith, is))
season-moved First h s z c e =
    let is = e.catalogue.moved_is in
    let turn = e.turn in
    (omega (arith, is, turn.0), omega (arith, is, turn.1))
season-moved Later h s z c e =
    let is = e.catalogue.moved_is in
    let turn = e.turn in
    (omega (arith, is, turn.0), omega (arith, is, turn.1))

-- and when a play did
pub play-moved : (r : Ended) (h : Heap) (s : Sections) (z : ℕ) (c : Crew) → PlayEnds r h s z c → MovedBy r z (own_of c.catalogue).seasons
play-moved Done h s z c e = e.0.catalogue.moved_is
play-moved First h s z c e = subst (MovedBy First z) (sym e.catalogue.moved_is) e.turn
play-moved Later h s z c e = subst (MovedBy Later z) (sym e.catalogue.moved_is) e.turn

-- what one of them did in those seasons
pub record OneTraced (h : Heap) (s : Sections) (z : ℕ) (x y : View) : Type 0 where
  pub ran : Ran x y
  pub seasons : TracedSeasons h.shape s z x.state (events x y)

module _ (h : Heap) (s : Sections) (xs : List HeapSeat) (i : ℕ) (d : HeapSeat) (below : i < length xs) (shape : (view_of (get_or xs i d)).shape ≡ h.shape) where
  abbrev first : View
  first = view_of (get_or xs i d)

  one-traced : (z : ℕ) (ys : List HeapSeat) → SeasonsTraced h s z xs ys → (length ys ≡ length xs) × OneTraced h s z first (view_of (get_or ys i d))
  one-traced zero ys same = (ap length same, subst (λ (l : List HeapSeat). OneTraced h s 0 first (view_of (get_or l i d))) (sym same) (record { ran = ran-refl first; seasons = events-none first }))
  one-traced (suc z) ys (zs, before, last) =
      let was = one-traced z zs before in
      let middle : View = view_of (get_or zs i d) in
      let end : View = view_of (get_or ys i d) in
      let one = last.each i d (omega (arith, below, was.0)) in
      let state = ran-state-in h.shape first middle shape was.1.ran in (
        last.count ∙ was.0,
        record {
          ran = ran-join first middle end was.1.ran one.kept.stays.ran;
          seasons = (
            events first middle,
            events middle end,
            ran-events first middle end was.1.ran one.kept.stays.ran,
            was.1.seasons,
            subst (λ (t : SeatState). HasTakenTurns h.shape (parts_by s (suc z)) t (events middle end)) (sym state) one.traced,
          );
        },
      )

get-after : (fs xs : List HeapSeat) (j : ℕ) (d : HeapSeat) → get_or (fs ++ xs) (length fs + j) d ≡ get_or xs j d
get-after [] xs j d = ap (λ n. get_or xs n d) (let e : 0 + j ≡ j = omega arith in e)
get-after (f ∷ fs) xs j d = ap (λ n. get_or (f ∷ (fs ++ xs)) n d) (let e : suc (length fs) + j ≡ suc (length fs + j) = omega arith in e) ∙ get-after fs xs j d

module _ (h : Heap) (s : Sections) (tracers : ℕ) (xs ys seats : List HeapSeat) (new : Numbered (IsNewSeatOfPlay h s) (1 + length s.warehouses) xs) (count : length xs ≡ tracers) (after : AreAfter (1 + length s.warehouses) ys seats) where
  -- of tracers that were new at first
  tracers-ran : (z : ℕ) → length ys ≡ length xs → ((j : ℕ) (d : HeapSeat) → j < length xs → OneTraced h s z (view_of (get_or xs j d)) (view_of (get_or ys j d))) → TracersRan s h.shape tracers z seats
  tracers-ran z long each =
      let before : List HeapSeat = after.0 in
      let front : length before ≡ 1 + length s.warehouses = after.1 in
      let all : length seats ≡ length before + length ys = ap length after.2 ∙ length-append before ys in
      record {
        count = omega (arith, all, front, long, count);
        each =
            λ i x at low.
            let j : ℕ = i - (1 + length s.warehouses) in
            let there : i ≡ length before + j = omega (arith, front, low) in
            let below : j < length xs = omega (arith, slice_get_within seats i x at, all, front, low, long) in
            let is : get_or ys j x ≡ x =
            sym (get-after before ys j x) ∙ (ap (λ n. get_or (before ++ ys) n x) (sym there) ∙ (ap (λ (l : List HeapSeat). get_or l i x) (sym after.2) ∙ get_or_from_slice_get seats i x x at)) in
            let was : View = view_of (get_or xs j x) in
            let fresh = (new j x below).fresh in
            let number : 1 + length s.warehouses + j ≡ i = omega (arith, low) in
            let state : was.state ≡ start_seat h.shape i = fresh.state ∙ ap (start_seat h.shape) number in
            let log : events was (view_of x) ≡ (view_of x).log = ap (λ (l : List Entry). drop (length l) (view_of x).log) fresh.log in
            let did : TracedSeasons h.shape s z was.state (events was (view_of x)) = (subst (λ (y : HeapSeat). OneTraced h s z was (view_of y)) is (each j x below)).seasons in
            subst (λ (t : SeatState). TracedSeasons h.shape s z t (view_of x).log) state (subst (TracedSeasons h.shape s z was.state) log did);
      }

  -- seasons by the lists of seats
  seasons-ran : (z : ℕ) → SeasonsTraced h s z xs ys → TracersRan s h.shape tracers z seats
  seasons-ran z t = tracers-ran z (same-length z ys t) (λ j d below. (one-traced h s xs j d below (new j d below).fresh.shape z ys t).1)
    where
      same-length : (n : ℕ) (zs : List HeapSeat) → SeasonsTraced h s n xs zs → length zs ≡ length xs
      same-length zero zs same = ap length same
      same-length (suc n) zs (us, before, last) = last.count ∙ same-length n us before

  pub end-traced : (r : Ended) (z moved : ℕ) → MovedBy r z moved → HasMoved moved seats → SeasonsTraced h s (turns_reached moved) xs ys → EndTraced r s h.shape tracers z seats
  end-traced r z moved ended is t = record { moved = moved; moved_is = is; ended = ended; traced = seasons-ran (turns_reached moved) t }
