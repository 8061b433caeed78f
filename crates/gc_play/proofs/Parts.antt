-- The part of one section.
use Rattle.std.proofs.Common.{ℕ, zero, suc, ◌≡◌, ◌+◌, ◌-◌, ◌<◌, length, map, get_or, refl, sym, ap, ◌∙◌, subst, arith, ◌≤◌, max, fold, List, [], ◌∷◌}
use Rattle.std.specs.Prelude.{◌==◌, IsTrue, IsFalse}
use Rattle.std.specs.List.{list_any}
use Rattle.mark_core.specs.Steps.WorldSteps.{has_nothing}
use Rattle.mark_core.specs.declared.kinds.Shape.{Shape}
use Rattle.plain_heap.specs.Sections.{Sections, Parts, section_of, counted, joined, parts_of, lends, section_numbers, seasons, warehouse_sections}
use Rattle.gc_table.specs.Running.{Ran}
use Rattle.gc_table.specs.Seats.{Sits, view_of}
use Rattle.gc_table.specs.declared.seat.Heap.{Heap}
use Rattle.gc_table.specs.declared.seat.HeapSeat.{HeapSeat}
use Rattle.gc_table.specs.declared.view.View.{View}
use Rattle.gc_table.proofs.Running.{ran-shape, ran-plan, ran-number, ran-section}
use Rattle.play_end.specs.Parts.{AreOf}
use Rattle.play_end.specs.declared.played.Played.{Played}
use Rattle.play_end.specs.declared.played.Played.TheVariants.{Done, Full}
use Rattle.warehouse.specs.declared.mutator.Mutator.{Mutator}
use Rattle.warehouse.specs.Playing.{IsPartPlayed, MayPlay}
use Rattle.gc_cycle.specs.Standing.{IsOut}
use Rattle.gc_play.specs.Standing.{IsSeated, PlayedTo, Rests, StoppedIn}
use Rattle.gc_play.specs.Dealing.{seat_number, IsWarehouse, OneEnds}
use Rattle.std.proofs.lemmas.List.{length-map}
use Rattle.gc_play.specs.Crews.{AreAfter, Numbered}

pub counted-long : (from n : ℕ) → length (counted from n) ≡ n
counted-long from zero = refl
counted-long from (suc n) = ap (λ k. suc k) (counted-long (from + 1) n)

pub counted-at : (s : Sections) (from n i : ℕ) (d : Parts) → i < n → get_or (map (section_of s) (counted from n)) i d ≡ section_of s (from + i)
counted-at s from zero i d below = absurd (omega (arith, below))
counted-at s from (suc n) zero d below = ap (section_of s) (omega arith)
counted-at s from (suc n) (suc i) d below = counted-at s (from + 1) n i d (omega (arith, below)) ∙ ap (section_of s) (omega arith)

-- a seat at rest, as the calls below ask for it
pub rests-out : (h : Heap) (x : HeapSeat) → Rests h x → IsOut (view_of x)
rests-out h x r = record { bare = r.outside; rest = ap (λ (sh : Shape). has_nothing sh (view_of x).state) r.sits.1 ∙ r.idle }

pub out-rests : (h : Heap) (x : HeapSeat) → Sits h x → IsOut (view_of x) → Rests h x
out-rests h x sits o = record { sits = sits; outside = o.bare; idle = ap (λ (sh : Shape). has_nothing sh (view_of x).state) (sym sits.1) ∙ o.rest }

-- a call leaves the seat of a section that section's
pub seated-ran : (h : Heap) (s : Sections) (w : ℕ) (x y : HeapSeat) → Ran (view_of x) (view_of y) → Sits h y → IsOut (view_of y) → IsSeated h s w x → IsSeated h s w y
seated-ran h s w x y r sits out p =
    let v : View = view_of x in
    let u : View = view_of y in
    record {
      rests = out-rests h y sits out;
      owned = ap (λ (sh : Shape). sh.sharing) (ran-shape v u r) ∙ p.owned;
      number = ran-number v u r ∙ p.number;
      section = ran-section v u r ∙ p.section;
      plan_is = ran-plan v u r ∙ p.plan_is;
      fields = ap (λ (sh : Shape). sh.fields) (ran-shape v u r) ∙ p.fields;
    }

pub are-of : (h : Heap) (s : Sections) (w : ℕ) (x : HeapSeat) → IsSeated h s w x → AreOf s (section_of s w) (view_of x)
are-of h s w x p = record { owned = p.owned; same = refl; plan = p.plan_is; fields = p.fields; own = p.section }

-- a section that played the parts before may play the next
pub may-play : (h : Heap) (s : Sections) (w z : ℕ) (m : Mutator) → 0 < z → (IsTrue (w == 0) → IsFalse (list_any (λ e. lends e.op) (joined (parts_of s w)))) → PlayedTo h s w (z - 1) m → MayPlay h (section_of s w) z m
may-play h s w z m season alone p = record {
  season = season;
  sits = p.seated.rests.sits;
  out = rests-out h m.seat p.seated.rests;
  counted = p.counted;
  room = p.room;
  lends_is = alone;
  sections = s;
  of = are-of h s w m.seat p.seated;
  before = p.after;
}

-- how its part ends
pub part-done : (h : Heap) (s : Sections) (w z : ℕ) (m n : Mutator) → PlayedTo h s w (z - 1) m → IsPartPlayed Done h (section_of s w) z m n → PlayedTo h s w z n
part-done h s w z m n p x = record {
  seated = seated-ran h s w m.seat n.seat x.ran x.sits x.out p.seated;
  after = x.plays s (are-of h s w m.seat p.seated) p.after;
  counted = x.counted;
  room = x.room refl;
}

pub part-full : (h : Heap) (s : Sections) (w z : ℕ) (m n : Mutator) → PlayedTo h s w (z - 1) m → IsPartPlayed Full h (section_of s w) z m n → StoppedIn h s w z n
part-full h s w z m n p x =
    let e = x.plays s (are-of h s w m.seat p.seated) p.after in
    record { seated = seated-ran h s w m.seat n.seat x.ran x.sits x.out p.seated; at = e.0.0; stopped = e.0.1; full = e.1 }

-- what a part leaves, as one warehouse of the script
pub one-ends : (r : Played) (h : Heap) (s : Sections) (z : ℕ) (m n : Mutator) (a : Parts) → a ≡ section_of s (seat_number m) → IsWarehouse s (seat_number m) → PlayedTo h s (seat_number m) (z - 1) m → IsPartPlayed r h a z m n → OneEnds r h s z n × (seat_number n ≡ seat_number m)
one-ends Done h s z m n a f w p x =
    let q = part-done h s (seat_number m) z m n p (subst (λ (y : Parts). IsPartPlayed Done h y z m n) f x) in
    let same : seat_number n ≡ seat_number m = q.seated.number in
    (record { warehouse = subst (IsWarehouse s) (sym same) w; played = subst (λ k. PlayedTo h s k z n) (sym same) q }, same)
one-ends Full h s z m n a f w p x =
    let q = part-full h s (seat_number m) z m n p (subst (λ (y : Parts). IsPartPlayed Full h y z m n) f x) in
    let same : seat_number n ≡ seat_number m = q.seated.number in
    (record { warehouse = subst (IsWarehouse s) (sym same) w; stopped = subst (λ k. StoppedIn h s k z n) (sym same) q }, same)

-- How many warehouses there are.
pub warehouse-count : (s : Sections) (xs : List Parts) → xs ≡ warehouse_sections s → length xs ≡ length s.warehouses
warehouse-count s xs e = ap length e ∙ (length-map (counted 1 (length s.warehouses)) (section_of s) ∙ counted-long 1 (length s.warehouses))

-- one more in front of those that are numbered
pub numbered-front : {X : Type 0} (P : ℕ → X → Type 0) (n : ℕ) (x : X) (xs : List X) → P n x → Numbered P (n + 1) xs → Numbered P n (x ∷ xs)
numbered-front P n x xs p h zero d below = subst (λ k. P k x) (omega arith) p
numbered-front P n x xs p h (suc i) d below = subst (λ k. P k (get_or xs i d)) (omega arith) (h i d (omega (arith, below)))

-- one more before them
pub one-before : (x : HeapSeat) (n : ℕ) (xs ys zs : List HeapSeat) → AreAfter n xs ys → zs ≡ x ∷ ys → AreAfter (n + 1) xs zs
one-before x n xs ys zs a e = (x ∷ a.0, let k = a.1 in omega (arith, k), e ∙ ap (λ l. x ∷ l) a.2)

most-least : (f : ℕ → ℕ) (first : ℕ) (xs : List ℕ) → first ≤ fold (λ most x. max most (f x)) first xs
most-least f first [] = omega arith
most-least f first (x ∷ xs) = let e = most-least f (max first (f x)) xs in omega (arith, e)

-- there is a season
pub some-season : (s : Sections) → 1 ≤ seasons s
some-season s = most-least (λ w. length (parts_of s w)) 1 (section_numbers s)
