-- The commands of a part, one after another.
use Rattle.std.proofs.Common.{ℕ, ◌≡◌, ◌+◌, ◌<◌, ◌++◌, List, [], ◌∷◌, length, length-append, append_assoc, append-nil, take, drop, sym, ap, ◌∙◌, subst, All, Option, None, arith, eq-eqb, zero, suc, ◌-◌, ◌≤◌, refl, Bool, true, false, get_or, ⊎_elim, if◌then◌else◌}
use Rattle.std.proofs.lemmas.Bool.{true≢false, false≢true, or_cases, or_left, or_right}
use Rattle.plain_heap.specs.PlainStep.{IsInRange}
use Rattle.plain_heap.specs.Sections.{Execution, Parts, joined, lends, made_by, makes_object}
use Rattle.gc_table.specs.Seats.{view_of}
use Rattle.gc_table.specs.declared.seat.Heap.{Heap}
use Rattle.gc_table.proofs.Running.{ran-refl}
use Rattle.alloc_cache.specs.declared.cache.Cache.{Cache}
use Rattle.play_end.specs.Done.{turn_word}
use Rattle.play_end.specs.Parts.{HasLeft}
use Rattle.play_end.proofs.Within.{left-all}
use Rattle.warehouse.specs.Commands.{HasPlayedSoFar, IsNextOf, MayPlayPart, PlaysAll, PlaysOne, StopsBefore, StopsWithin}
use Rattle.warehouse.specs.Playing.{Acts, DoesEach, HasRoomForCommands, IsPlaying, PollsAndDoes, collects_by, commands_of_part, player_of, is_collect}
use Rattle.warehouse.specs.declared.mutator.Mutator.{Mutator}
use Rattle.warehouse.proofs.Leavings.{acts-join}
use Rattle.warehouse.proofs.InOrder.{each-later, each-next}
use Rattle.warehouse.proofs.InTheStop.{waits-none}
use Rattle.std.specs.Prelude.{count_by, slice_index_or}
use Rattle.std.specs.List.{list_any}
use Rattle.std.proofs.lemmas.List.Sums.{sum_by-append}

-- The commands of a part among those of its section.
-- parts from one on are this one and the later ones
joined_drop : (parts : List (List Execution)) (k : ℕ) → joined (drop k parts) ≡ slice_index_or parts k [] ++ joined (drop (suc k) parts)
joined_drop [] zero = refl
joined_drop [] (suc k) = refl
joined_drop (x ∷ xs) zero = refl
joined_drop (x ∷ xs) (suc k) = joined_drop xs k

pub part-then : (p : Parts) (z : ℕ) → 0 < z → joined (drop (z - 1) p.parts) ≡ commands_of_part p z ++ joined (drop z p.parts)
part-then p z pos = joined_drop p.parts (z - 1) ∙ ap (λ n. commands_of_part p z ++ joined (drop n p.parts)) back
  where
    back : suc (z - 1) ≡ z
    back = omega (arith, pos)

any_left : (f : Execution → Bool) (xs ys : List Execution) → list_any f xs ≡ true → list_any f (xs ++ ys) ≡ true
any_left f [] ys h = absurd (false≢true h)
any_left f (x ∷ xs) ys h =
    ⊎_elim (λ a. or_left (f x) (list_any f (xs ++ ys)) a) (λ a. or_right (f x) (list_any f (xs ++ ys)) (any_left f xs ys a)) (or_cases (f x) (list_any f xs) h)

any_right : (f : Execution → Bool) (xs ys : List Execution) → list_any f ys ≡ true → list_any f (xs ++ ys) ≡ true
any_right f [] ys h = h
any_right f (x ∷ xs) ys h = or_right (f x) (list_any f (xs ++ ys)) (any_right f xs ys h)

any_part : (f : Execution → Bool) (parts : List (List Execution)) (k : ℕ) → list_any f (slice_index_or parts k []) ≡ true → list_any f (joined parts) ≡ true
any_part f [] zero h = h
any_part f [] (suc k) h = h
any_part f (x ∷ xs) zero h = any_left f x (joined xs) h
any_part f (x ∷ xs) (suc k) h = any_right f x (joined xs) (any_part f xs k h)

-- a command of a part is one of its section
pub part-any : (f : Execution → Bool) (p : Parts) (z : ℕ) (front rest : List Execution) (e : Execution) → commands_of_part p z ≡ front ++ e ∷ rest → f e ≡ true → list_any f (joined p.parts) ≡ true
part-any f p z front rest e part h = any_part f p.parts (z - 1) (ap (list_any f) part ∙ any_right f front (e ∷ rest) (or_left (f e) (list_any f rest) h))

got_here : (front rest : List Execution) (e d : Execution) → get_or (front ++ e ∷ rest) (length front) d ≡ e
got_here [] rest e d = refl
got_here (x ∷ front) rest e d = got_here front rest e d

below : (front rest : List Execution) (e : Execution) → length front < length (front ++ e ∷ rest)
below [] rest e = omega arith
below (x ∷ front) rest e = let r : length front < length (front ++ e ∷ rest) = below front rest e in omega (arith, r)

-- what holds of all commands holds of each
pub all-here : (P : Execution → Type 0) (xs front rest : List Execution) (e : Execution) → xs ≡ front ++ e ∷ rest → All P xs → P e
all-here P xs front rest e is all =
    let h : All P (front ++ e ∷ rest) = subst (All P) is all in
    subst P (got_here front rest e e) (h (length front) e (below front rest e))

pub take-own : (xs ys : List Execution) → take (length xs) (xs ++ ys) ≡ xs
take-own [] ys = refl
take-own (x ∷ xs) ys = ap (λ l. x ∷ l) (take-own xs ys)

pub drop-own : (xs ys : List Execution) → drop (length xs) (xs ++ ys) ≡ ys
drop-own [] ys = refl
drop-own (x ∷ xs) ys = drop-own xs ys

pub collects-both : (xs ys : List Execution) → collects_by (xs ++ ys) ≡ collects_by xs + collects_by ys
collects-both xs ys = sum_by-append (λ (x : Execution). if is_collect x.op then 1 else 0) xs ys

count_most : (f : Execution → Bool) (xs : List Execution) → count_by f xs ≤ length xs
count_most f [] = omega arith
count_most f (x ∷ xs) =
    let both : count_by f (x ∷ xs) ≡ count_by f (x ∷ []) + count_by f xs = sum_by-append (λ (e : Execution). if f e then 1 else 0) (x ∷ []) xs in
    let one : count_by f (x ∷ []) ≤ 1 = at_most (f x) in
    let rest : count_by f xs ≤ length xs = count_most f xs in
    omega (arith, both, one, rest)
  where
    at_most : (b : Bool) → 0 + (if b then 1 else 0) ≤ 1
    at_most true = omega arith
    at_most false = omega arith

-- commands make no more objects than they are
pub made-most : (xs : List Execution) → made_by xs ≤ length xs
made-most xs = count_most (λ e. makes_object e.op) xs

-- none was done
pub so-far-none : (h : Heap) (p : Parts) (z turn : ℕ) (rest : List Execution) (m : Mutator) → IsPlaying h p None m → turn ≡ turn_word p.number z → commands_of_part p z ≡ rest → HasPlayedSoFar h p z turn None rest m m
so-far-none h p z turn rest m playing word is =
    record {
      turn_is = word;
      playing = playing;
      left = subst (λ es. HasLeft p z es (player_of m) (player_of m)) is (left-all p z (player_of m));
      front = [];
      part = is;
      count = plus_zero m.count;
      room = λ later r. subst (λ es. HasRoomForCommands (es ++ later) m) is r;
      each = ran-refl (view_of m.seat);
      acts = waits-none (view_of m.seat) (turn_word p.number z);
    }
  where
    plus_zero : (n : ℕ) → n ≡ n + 0
    plus_zero n = omega arith

-- all were done
pub so-far-all : (h : Heap) (p : Parts) (z turn : ℕ) (kept : Option Cache) (rest : List Execution) (x y : Mutator) → rest ≡ [] → HasPlayedSoFar h p z turn kept rest x y → PlaysAll h p z kept (commands_of_part p z) x y
so-far-all h p z turn kept rest x y none k =
    let whole : k.front ≡ commands_of_part p z = sym (k.part ∙ (ap (λ es. k.front ++ es) none ∙ append-nil k.front)) in
    record {
      playing = k.playing;
      left = subst (λ es. HasLeft p z es (player_of x) (player_of y)) none k.left;
      count = k.count ∙ ap (λ es. x.count + length es) whole;
      room = λ later r. subst (λ es. HasRoomForCommands (es ++ later) y) none (k.room later r);
      each = subst (λ es. DoesEach x.count es (view_of x.seat) (view_of y.seat)) whole k.each;
      acts = subst (λ es. Acts (turn_word p.number z) (length es) (collects_by es) (view_of x.seat) (view_of y.seat)) whole k.acts;
    }

module _ (h : Heap) (p : Parts) (z turn : ℕ) (kept : Option Cache) (e : Execution) (all rest : List Execution) (x y : Mutator) (is : all ≡ e ∷ rest) (k : HasPlayedSoFar h p z turn kept all x y) where
  part_is : commands_of_part p z ≡ k.front ++ e ∷ rest
  part_is = k.part ∙ ap (λ es. k.front ++ es) is

  left_is : HasLeft p z (e ∷ rest) (player_of x) (player_of y)
  left_is = subst (λ es. HasLeft p z es (player_of x) (player_of y)) is k.left

  -- one more
  pub so-far-next : (other : Option Cache) (w : Mutator) → 0 < z → PlaysOne h p turn other e y w → HasPlayedSoFar h p z turn other rest x w
  so-far-next other w pos o =
      let c : ℕ = collects_by (e ∷ []) in
      let both : collects_by (k.front ++ e ∷ []) ≡ collects_by k.front + c = collects-both k.front (e ∷ []) in
      record {
        turn_is = k.turn_is;
        playing = o.playing;
        left = o.left (player_of x) z rest pos k.turn_is left_is;
        front = k.front ++ e ∷ [];
        part = part_is ∙ sym (append_assoc k.front (e ∷ []) rest);
        count = omega (arith, o.count, k.count, length-append k.front (e ∷ []));
        room = λ later r. o.room (rest ++ later) (subst (λ es. HasRoomForCommands (es ++ later) y) is (k.room later r));
        each = each-next x.count k.front e (view_of x.seat) (view_of y.seat) (view_of w.seat) k.each (subst (λ n. PollsAndDoes n e (view_of y.seat) (view_of w.seat)) k.count o.own);
        acts =
            acts-join (turn_word p.number z) (length k.front) (collects_by k.front) 1 c (length (k.front ++ e ∷ [])) (collects_by (k.front ++ e ∷ []))
            (view_of x.seat) (view_of y.seat) (view_of w.seat) k.acts (subst (λ t. Acts t 1 c (view_of y.seat) (view_of w.seat)) k.turn_is o.acts) (omega (arith, length-append k.front (e ∷ []))) (omega (arith, both));
      }

  -- the next one
  pub next-of : All (λ (e : Execution). IsInRange p.fields e.op) (commands_of_part p z) → MayPlayPart p z x → IsNextOf p turn e y
  next-of range may =
      let later : List Execution = joined (drop z p.parts) in
      record {
        sections = may.sections;
        z = z;
        rest = rest;
        part = (k.turn_is, may.season);
        left = left_is may.sections may.of may.before;
        range = all-here (λ (e : Execution). IsInRange p.fields e.op) (commands_of_part p z) k.front rest e part_is range;
        lends_is = λ l zero_is. true≢false (sym (part-any (λ (x : Execution). lends x.op) p z k.front rest e part_is l) ∙ may.lends_is (eq-eqb p.number 0 zero_is));
        later = rest ++ later;
        room =
            subst (λ es. HasRoomForCommands (es ++ later) y) is
            (k.room later (subst (λ es. HasRoomForCommands es x) (part-then p z may.season) may.room));
      }

  -- the heap is full before it
  pub stops-within : (w : Mutator) → StopsBefore h p e y w → StopsWithin h p z (commands_of_part p z) x w
  stops-within w s =
      let c : ℕ = collects_by (e ∷ []) in
      let taken : take (length k.front) (commands_of_part p z) ≡ k.front = ap (take (length k.front)) part_is ∙ take-own k.front (e ∷ rest) in
      let season : ℕ = turn_word p.number z in
      record {
        done = length k.front;
        e = e;
        rest = rest;
        next = ap (drop (length k.front)) part_is ∙ drop-own k.front (e ∷ rest);
        before = y;
        left = left_is;
        stops = s;
        count = s.says.count ∙ k.count;
        each = subst (λ es. DoesEach x.count es (view_of x.seat) (view_of w.seat)) (sym taken) (each-later x.count k.front (view_of x.seat) (view_of y.seat) (view_of w.seat) k.each (s.acts 0).ran);
        acts =
            subst (λ es. Acts season (length k.front) (collects_by es + c) (view_of x.seat) (view_of w.seat)) (sym taken)
            (acts-join season (length k.front) (collects_by k.front) 0 c (length k.front) (collects_by k.front + c) (view_of x.seat) (view_of y.seat) (view_of w.seat) k.acts
            (s.acts season) (omega arith) (omega arith));
      }
