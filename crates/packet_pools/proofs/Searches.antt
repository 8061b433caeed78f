-- What the events of a search say, as more events come.
use Rattle.std.proofs.Common.{ℕ, ◌≡◌, ◌<◌, ◌≤◌, List, [], ◌∷◌, ◌++◌, arith, ⊎_elim, inl, inr, ◌⊎◌, Bool, true, false, not, ◌&&◌, ◌||◌, ap, refl, eqb, eq-eqb, ◌*◌, sym, ◌∙◌, subst, ◌+◌, zero, suc}
use Rattle.std.proofs.lemmas.Bool.{false≢true, and_parts, and_from, or_left, or_right, or_cases, or_parts, not_from_false, cases_lt, false_from_ne_true, true≢false}
use Rattle.mark_core.specs.Numbers.{high_pool_number, word_bits, empty_pool_number, low_pool_number}
use Rattle.mark_core.specs.declared.kinds.Step.{Step}
use Rattle.mark_core.specs.declared.kinds.Step.TheVariants.{Reserve, Take, Give, Credit, Look, StoreLength, ReadLength}
use Rattle.mark_core.specs.declared.kinds.Shape.{Shape}
use Rattle.gc_table.specs.declared.view.Entry.{Entry}
use Rattle.gc_table.specs.Log.{steps_of, events}
use Rattle.packet_pools.specs.Seeking.{gets, shows_outside, loses, some_event, before_got, was_full, was_got, was_missed, reads_full, gets_from, in_pools, moves_packet, only_moves, all_missed, was_missed_in, input_pools, no_input, no_output, was_roomless}
use Rattle.packet_pools.specs.Gains.{missed, MissesPackets, ComesFrom, Takes, Gains}
use Rattle.mark_core.specs.Layout.{pool_words}
use Rattle.mark_core.specs.Held.{holds}
use Rattle.mark_core.specs.declared.seat.SeatState.{SeatState}
use Rattle.gc_table.specs.declared.view.View.{View}
use Rattle.packet_pools.specs.declared.held.Held.{Held}
use Rattle.packet_pools.specs.OnlyTraced.{OnlyTraced}
use Rattle.packet_pools.specs.Hands.{with_packet}
use Rattle.gc_table.proofs.History.Log.{events-join}
use Rattle.std.specs.List.{list_all, range_with_len}

pub some-left : (f : Step → ℕ → Bool) (xs ys : List Entry) → some_event f xs ≡ true → some_event f (xs ++ ys) ≡ true
some-left f [] ys h = absurd (false≢true h)
some-left f (x ∷ xs) ys h = ⊎_elim (λ e. or_left _ _ e) (λ e. or_right (f x.step x.found) _ (some-left f xs ys e)) (or_cases (f x.step x.found) (some_event f xs) h)

pub some-right : (f : Step → ℕ → Bool) (xs ys : List Entry) → some_event f ys ≡ true → some_event f (xs ++ ys) ≡ true
some-right f [] ys h = h
some-right f (x ∷ xs) ys h = or_right (f x.step x.found) _ (some-right f xs ys h)

pub some-parts : (f : Step → ℕ → Bool) (xs ys : List Entry) → some_event f (xs ++ ys) ≡ true → (some_event f xs ≡ true) ⊎ (some_event f ys ≡ true)
some-parts f [] ys h = inr h
some-parts f (x ∷ xs) ys h = ⊎_elim (λ e. inl (or_left _ _ e)) (λ e. ⊎_elim (λ a. inl (or_right (f x.step x.found) _ a)) (λ b. inr b) (some-parts f xs ys e)) (or_cases (f x.step x.found) (some_event f (xs ++ ys)) h)

pub before-left : (p : ℕ) (f : Step → ℕ → Bool) (xs ys : List Entry) → before_got p f xs ≡ true → before_got p f (xs ++ ys) ≡ true
before-left p f [] ys h = absurd (false≢true h)
before-left p f (x ∷ xs) ys h =
    ⊎_elim
    (λ e. or_left _ _ e)
    (λ e. let b = and_parts (not (gets p x.step x.found)) (before_got p f xs) e in or_right (f x.step x.found) _ (and_from _ _ b.0 (before-left p f xs ys b.1)))
    (or_cases (f x.step x.found) (not (gets p x.step x.found) && before_got p f xs) h)

pub before-right : (p : ℕ) (f : Step → ℕ → Bool) (xs ys : List Entry) → was_got p xs ≡ false → before_got p f ys ≡ true → before_got p f (xs ++ ys) ≡ true
before-right p f [] ys n h = h
before-right p f (x ∷ xs) ys n h =
    let b = or_parts (gets p x.step x.found) (was_got p xs) n in
    or_right (f x.step x.found) _ (and_from _ _ (not_from_false _ b.0) (before-right p f xs ys b.1 h))

pub full-left : (entries p : ℕ) (xs ys : List Entry) → was_full entries p xs ≡ true → was_full entries p (xs ++ ys) ≡ true
full-left entries p [] ys h = absurd (false≢true h)
full-left entries p (x ∷ xs) ys h =
    ⊎_elim
    (λ e. let b = and_parts (gets_from high_pool_number p x.step x.found) (some_event (reads_full entries p) xs) e in or_left _ _ (and_from _ _ b.0 (some-left (reads_full entries p) xs ys b.1)))
    (λ e. or_right (gets_from high_pool_number p x.step x.found && some_event (reads_full entries p) (xs ++ ys)) _ (full-left entries p xs ys e))
    (or_cases (gets_from high_pool_number p x.step x.found && some_event (reads_full entries p) xs) (was_full entries p xs) h)

pub full-right : (entries p : ℕ) (xs ys : List Entry) → was_full entries p ys ≡ true → was_full entries p (xs ++ ys) ≡ true
full-right entries p [] ys h = h
full-right entries p (x ∷ xs) ys h = or_right (gets_from high_pool_number p x.step x.found && some_event (reads_full entries p) (xs ++ ys)) _ (full-right entries p xs ys h)

-- one of two
pub either-way : (a b a' b' : Bool) → (a ≡ true → a' ≡ true) → (b ≡ true → b' ≡ true) → (a || b) ≡ true → (a' || b') ≡ true
either-way a b a' b' f g e = ⊎_elim (λ x. or_left _ b' (f x)) (λ x. or_right a' _ (g x)) (or_cases a b e)

-- a packet that couldn't be had out of a pool, with events after and before
pub was-missed-left : (q p : ℕ) (xs ys : List Entry) → was_missed q p xs ≡ true → was_missed q p (xs ++ ys) ≡ true
was-missed-left q p xs ys h = either-way _ _ _ _ (before-left p (shows_outside q p) xs ys) (before-left p (loses q p) xs ys) h

pub was-missed-right : (q p : ℕ) (xs ys : List Entry) → was_got p xs ≡ false → was_missed q p ys ≡ true → was_missed q p (xs ++ ys) ≡ true
was-missed-right q p xs ys n h = either-way _ _ _ _ (before-right p (shows_outside q p) xs ys n) (before-right p (loses q p) xs ys n) h

pub missed-left : (entries q : ℕ) (not_full : Bool) (p : ℕ) (xs ys : List Entry) → missed entries q not_full p xs ≡ true → missed entries q not_full p (xs ++ ys) ≡ true
missed-left entries q not_full p xs ys h =
    either-way _ _ _ _ (was-missed-left q p xs ys)
    (λ e. let b = and_parts not_full (was_full entries p xs) e in and_from _ _ b.0 (full-left entries p xs ys b.1))
    h

pub missed-right : (entries q : ℕ) (not_full : Bool) (p : ℕ) (xs ys : List Entry) → was_got p xs ≡ false → missed entries q not_full p ys ≡ true → missed entries q not_full p (xs ++ ys) ≡ true
missed-right entries q not_full p xs ys n h =
    either-way _ _ _ _ (was-missed-right q p xs ys n)
    (λ e. let b = and_parts not_full (was_full entries p ys) e in and_from _ _ b.0 (full-right entries p xs ys b.1))
    h

pub moves-join : (qs : List ℕ) (xs ys : List Entry) → only_moves qs xs ≡ true → only_moves qs ys ≡ true → only_moves qs (xs ++ ys) ≡ true
moves-join qs [] ys a b = b
moves-join qs (x ∷ xs) ys a b = let h = and_parts (moves_packet qs x.step) (only_moves qs xs) a in and_from _ _ h.0 (moves-join qs xs ys h.1 b)

-- a step of a search in fewer pools
move-more : (qs rs : List ℕ) → ((q : ℕ) → in_pools q qs ≡ true → in_pools q rs ≡ true) → (step : Step) → moves_packet qs step ≡ true → moves_packet rs step ≡ true
move-more qs rs h (Take q p) m = h q m
move-more qs rs h (Give p d) m = m
move-more qs rs h Reserve m = m
move-more qs rs h Credit m = m
move-more qs rs h (Look q g) m = m
move-more qs rs h (StoreLength p) m = m
move-more qs rs h (ReadLength p) m = m
move-more qs rs h step m = absurd (false≢true m)

pub moves-more : (qs rs : List ℕ) → ((q : ℕ) → in_pools q qs ≡ true → in_pools q rs ≡ true) → (es : List Entry) → only_moves qs es ≡ true → only_moves rs es ≡ true
moves-more qs rs h [] m = refl
moves-more qs rs h (e ∷ es) m = let k = and_parts (moves_packet qs e.step) (only_moves qs es) m in and_from _ _ (move-more qs rs h e.step k.0) (moves-more qs rs h es k.1)

-- the first of some pools, and the others
pub first-pool : (q : ℕ) (qs : List ℕ) (es : List Entry) → only_moves (q ∷ []) es ≡ true → only_moves (q ∷ qs) es ≡ true
first-pool q qs es m = moves-more (q ∷ []) (q ∷ qs) (λ x e. either (eqb q x) (in_pools x qs) e) es m
  where
    either : (a b : Bool) → (a || false) ≡ true → (a || b) ≡ true
    either true b e = refl
    either false b e = absurd (false≢true e)

pub next-pools : (q : ℕ) (qs : List ℕ) (es : List Entry) → only_moves qs es ≡ true → only_moves (q ∷ qs) es ≡ true
next-pools q qs es m = moves-more qs (q ∷ qs) (λ x e. or_right (eqb q x) _ e) es m

-- a take out of the pool
pub take-moves : (q p : ℕ) → moves_packet (q ∷ []) (Take q p) ≡ true
take-moves q p = or_left _ false (eq-eqb q q refl)

-- all these steps are moves of packets of these pools
abbrev pub all_move : List ℕ → List Step → Bool
all_move qs [] = true
all_move qs (x ∷ xs) = moves_packet qs x && all_move qs xs

pub moves-steps : (qs : List ℕ) (es : List Entry) → only_moves qs es ≡ all_move qs (steps_of es)
moves-steps qs [] = refl
moves-steps qs (e ∷ es) = ap (λ (b : Bool). moves_packet qs e.step && b) (moves-steps qs es)

-- a packet that no event got
pub ungot : (sh : Shape) (q : ℕ) (not_full : Bool) (lo hi p : ℕ) (es : List Entry) → MissesPackets sh q not_full lo hi es → hi ≤ p → was_got p es ≡ false
ungot sh q not_full lo hi p es m h = false_from_ne_true (was_got p es) (λ e. absurd (let l = (m.got p e).1 in omega (arith, l, h)))

-- if full packets don't go back, nothing is got in vain
pub none-got : (sh : Shape) (q lo hi p : ℕ) (es : List Entry) → MissesPackets sh q false lo hi es → was_got p es ≡ false
none-got sh q lo hi p es m = false_from_ne_true (was_got p es) (λ e. false≢true (m.got p e).0)

pub misses-none : (sh : Shape) (q : ℕ) (not_full : Bool) (lo : ℕ) → MissesPackets sh q not_full lo lo []
misses-none sh q not_full lo = record { all = λ p a b h. absurd (omega (arith, a, b)); got = λ p e. absurd (false≢true e); moves = refl }

-- one search after another
pub misses-join : (sh : Shape) (q : ℕ) (not_full : Bool) (lo mid hi : ℕ) (xs ys : List Entry) → mid ≤ hi → MissesPackets sh q not_full lo mid xs → MissesPackets sh q not_full mid hi ys → MissesPackets sh q not_full lo hi (xs ++ ys)
misses-join sh q not_full lo mid hi xs ys le a b =
    record {
      all =
          λ p l h there.
          ⊎_elim
          (λ (e : p < mid). missed-left sh.entries q not_full p xs ys (a.all p l e there))
          (λ (e : mid ≤ p). missed-right sh.entries q not_full p xs ys (ungot sh q not_full lo mid p xs a e) (b.all p e h there))
          (cases_lt p mid);
      got =
          λ p e.
          ⊎_elim
          (λ x. let r = a.got p x in let l = r.1 in (r.0, omega (arith, l, le)))
          (λ y. b.got p y)
          (some-parts (gets p) xs ys e);
      moves = moves-join (q ∷ []) xs ys a.moves b.moves;
    }

-- One pool is searched after another.
-- No packet could be had, told of all packets at once.
-- what is so of each number is so of all in a range
pub all-range : (f : ℕ → Bool) (a n : ℕ) → ((p : ℕ) → p < a + n → f p ≡ true) → list_all f (range_with_len a n) ≡ true
all-range f a zero h = refl
all-range f a (suc n) h = and_from _ _ (h a (omega arith)) (all-range f (a + 1) n (λ p l. h p (omega (arith, l))))

-- what follows for each follows for all
pub all-more : (f g : ℕ → Bool) → ((p : ℕ) → f p ≡ true → g p ≡ true) → (ps : List ℕ) → list_all f ps ≡ true → list_all g ps ≡ true
all-more f g h [] a = refl
all-more f g h (p ∷ ps) a = let q = and_parts (f p) (list_all f ps) a in and_from _ _ (h p q.0) (all-more f g h ps q.1)

-- two facts of each
pub all-both : (f g h : ℕ → Bool) → ((p : ℕ) → f p ≡ true → g p ≡ true → h p ≡ true) → (ps : List ℕ) → list_all f ps ≡ true → list_all g ps ≡ true → list_all h ps ≡ true
all-both f g h k [] a b = refl
all-both f g h k (p ∷ ps) a b =
    let x = and_parts (f p) (list_all f ps) a in
    let y = and_parts (g p) (list_all g ps) b in
    and_from _ _ (k p x.0 y.0) (all-both f g h k ps x.1 y.1)

-- one packet, with events after and before
pub missed-in-left : (qs : List ℕ) (p : ℕ) (xs ys : List Entry) → was_missed_in qs p xs ≡ true → was_missed_in qs p (xs ++ ys) ≡ true
missed-in-left [] p xs ys m = refl
missed-in-left (q ∷ qs) p xs ys m = let h = and_parts (was_missed q p xs) (was_missed_in qs p xs) m in and_from _ _ (was-missed-left q p xs ys h.0) (missed-in-left qs p xs ys h.1)

missed-in-right : (qs : List ℕ) (p : ℕ) (xs ys : List Entry) → was_got p xs ≡ false → was_missed_in qs p ys ≡ true → was_missed_in qs p (xs ++ ys) ≡ true
missed-in-right [] p xs ys n m = refl
missed-in-right (q ∷ qs) p xs ys n m = let h = and_parts (was_missed q p ys) (was_missed_in qs p ys) m in and_from _ _ (was-missed-right q p xs ys n h.0) (missed-in-right qs p xs ys n h.1)

roomless-left : (entries p : ℕ) (xs ys : List Entry) → was_roomless entries p xs ≡ true → was_roomless entries p (xs ++ ys) ≡ true
roomless-left entries p xs ys m =
    let h = and_parts (was_missed_in (empty_pool_number ∷ low_pool_number ∷ []) p xs) (was_missed high_pool_number p xs || was_full entries p xs) m in
    and_from _ _ (missed-in-left (empty_pool_number ∷ low_pool_number ∷ []) p xs ys h.0) (either-way _ _ _ _ (was-missed-left high_pool_number p xs ys) (full-left entries p xs ys) h.1)

-- all of them
pub all-missed-left : (sh : Shape) (qs : List ℕ) (xs ys : List Entry) → all_missed sh qs xs ≡ true → all_missed sh qs (xs ++ ys) ≡ true
all-missed-left sh qs xs ys m = all-more (λ p. was_missed_in qs p xs) (λ p. was_missed_in qs p (xs ++ ys)) (λ p e. missed-in-left qs p xs ys e) (range_with_len 0 sh.packets) m

pub all-missed-right : (sh : Shape) (qs : List ℕ) (xs ys : List Entry) → ((p : ℕ) → was_got p xs ≡ false) → all_missed sh qs ys ≡ true → all_missed sh qs (xs ++ ys) ≡ true
all-missed-right sh qs xs ys n m = all-more (λ p. was_missed_in qs p ys) (λ p. was_missed_in qs p (xs ++ ys)) (λ p e. missed-in-right qs p xs ys (n p) e) (range_with_len 0 sh.packets) m

pub no-input-left : (sh : Shape) (xs ys : List Entry) → no_input sh xs ≡ true → no_input sh (xs ++ ys) ≡ true
no-input-left sh xs ys m = all-missed-left sh input_pools xs ys m

pub no-output-left : (sh : Shape) (xs ys : List Entry) → no_output sh xs ≡ true → no_output sh (xs ++ ys) ≡ true
no-output-left sh xs ys m = all-more (λ p. was_roomless sh.entries p xs) (λ p. was_roomless sh.entries p (xs ++ ys)) (λ p e. roomless-left sh.entries p xs ys e) (range_with_len 0 sh.packets) m

pub below-words : (sh : Shape) (p : ℕ) → p < sh.packets → p < word_bits * pool_words sh
below-words sh p l = omega (arith, l)

without-room : (a f : Bool) → (a || (false && f)) ≡ true → a ≡ true
without-room true f e = refl
without-room false f e = e

-- a whole pool without a packet
pub pool-missed : (sh : Shape) (q : ℕ) (es : List Entry) → MissesPackets sh q false 0 (word_bits * pool_words sh) es → (p : ℕ) → p < sh.packets → was_missed q p es ≡ true
pool-missed sh q es m p l = without-room (was_missed q p es) (was_full sh.entries p es) (m.all p (omega arith) (below-words sh p l) l)

pub all-missed : (sh : Shape) (q : ℕ) (es : List Entry) → MissesPackets sh q false 0 (word_bits * pool_words sh) es → all_missed sh (q ∷ []) es ≡ true
all-missed sh q es m = all-range (λ p. was_missed_in (q ∷ []) p es) 0 sh.packets (λ p l. and_from _ _ (pool-missed sh q es m p (omega (arith, l))) refl)

-- where a packet came from, with events before it that got none
pub comes-right : (sh : Shape) (qs : List ℕ) (h : Held) (xs ys : List Entry) → ((p : ℕ) → was_got p xs ≡ false) → ComesFrom sh qs h ys → ComesFrom sh qs h (xs ++ ys)
comes-right sh [] h xs ys n c = c
comes-right sh (q ∷ qs) h xs ys n c = ⊎_elim (λ a. inl (a.0, some-right (gets_from q h.packet) xs ys a.1)) (λ b. inr (all-missed-right sh (q ∷ []) xs ys n b.0, comes-right sh qs h xs ys n b.1)) c

-- a packet of the first pool
pub takes-first : (q : ℕ) (qs : List ℕ) (room : Bool) (h : Held) (v w : View) → v.state.reserved ≡ false → Gains q room h v w → Takes (q ∷ qs) h v w
takes-first q qs room h v w r g =
    record {
      unheld = g.unheld;
      held = g.held;
      state = g.state ∙ (λ i. record v.state { held = with_packet v.state.held h.packet h.length; reserved = sym r i });
      from = inl (g.range, g.got);
      moves = first-pool q qs (events v w) g.moves;
    }

-- a packet of a later pool, if a whole search of the first found none
pub takes-next : (sh : Shape) (q : ℕ) (qs : List ℕ) (h : Held) (v u w : View) → v.shape ≡ sh → OnlyTraced v u → OnlyTraced u w → u.state ≡ v.state → MissesPackets sh q false 0 (word_bits * pool_words sh) (events v u) → Takes qs h u w → Takes (q ∷ qs) h v w
takes-next sh q qs h v u w shape a b e m t =
    let es = events-join v u w a.log b.log in
    let none : (p : ℕ) → was_got p (events v u) ≡ false = λ p. none-got sh q 0 (word_bits * pool_words sh) p (events v u) m in
    let missed : all_missed v.shape (q ∷ []) (events v u) ≡ true = subst (λ (s : Shape). all_missed s (q ∷ []) (events v u) ≡ true) (sym shape) (all-missed sh q (events v u) m) in
    record {
      unheld = ap (λ (s : SeatState). holds s.held h.packet) (sym e) ∙ t.unheld;
      held = t.held;
      state = t.state ∙ ap (λ (s : SeatState). record s { held = with_packet s.held h.packet h.length }) e;
      from = inr (
        ap (all_missed v.shape (q ∷ [])) es ∙ all-missed-left v.shape (q ∷ []) (events v u) (events u w) missed,
        subst (ComesFrom v.shape qs h) (sym es) (comes-right v.shape qs h (events v u) (events u w) none (subst (λ (s : Shape). ComesFrom s qs h (events u w)) a.shape t.from)),
      );
      moves = ap (only_moves (q ∷ qs)) es ∙ moves-join (q ∷ qs) (events v u) (events u w) (first-pool q qs (events v u) m.moves) (next-pools q qs (events u w) t.moves);
    }

-- events around a search that take nothing
pub misses-within : (sh : Shape) (q : ℕ) (room : Bool) (lo hi : ℕ) (xs es ys : List Entry) → ((p : ℕ) → was_got p xs ≡ false) → ((p : ℕ) → was_got p ys ≡ false) → only_moves (q ∷ []) xs ≡ true → only_moves (q ∷ []) ys ≡ true → MissesPackets sh q room lo hi es → MissesPackets sh q room lo hi (xs ++ (es ++ ys))
misses-within sh q room lo hi xs es ys nx ny mx my m =
    record {
      all = λ p l h low. missed-right sh.entries q room p xs (es ++ ys) (nx p) (missed-left sh.entries q room p es ys (m.all p l h low));
      got =
          λ p e.
          ⊎_elim
          (λ a. absurd (true≢false (sym a ∙ nx p)))
          (λ b. ⊎_elim (λ g. m.got p g) (λ d. absurd (true≢false (sym d ∙ ny p))) (some-parts (gets p) es ys b))
          (some-parts (gets p) xs (es ++ ys) e);
      moves = moves-join (q ∷ []) xs (es ++ ys) mx (moves-join (q ∷ []) es ys m.moves my);
    }

-- events that get no packet
pub got-neither : (p : ℕ) (xs ys : List Entry) → was_got p xs ≡ false → was_got p ys ≡ false → was_got p (xs ++ ys) ≡ false
got-neither p xs ys a b = false_from_ne_true (was_got p (xs ++ ys)) (λ e. ⊎_elim (λ x. true≢false (sym x ∙ a)) (λ y. true≢false (sym y ∙ b)) (some-parts (gets p) xs ys e))
