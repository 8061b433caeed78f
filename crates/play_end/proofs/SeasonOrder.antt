-- An order of commands over one season.
use Rattle.std.proofs.Common.{◌≡◌, ◌≢◌, ℕ, zero, suc, ◌+◌, ◌-◌, ◌*◌, ◌<◌, ◌≤◌, max, ap, sym, subst, arith, List, [], ◌∷◌, length, ⊎_elim, ◌/◌}
use Rattle.std.specs.List.{All}
use Rattle.std.proofs.lemmas.Bool.{cases_eq, cases_lt}
use Rattle.std.proofs.lemmas.List.Elements.{All-head}
use Rattle.plain_heap.specs.PlainHeap.{Heap}
use Rattle.plain_heap.specs.Sections.{Execution, Sections, section_numbers, executed_of, seasons, end_of, IsNext}
use Rattle.plain_heap.specs.PlainRun.{plain, seen_catalogue}
use Rattle.plain_heap.specs.Placement.{IsNew, position, AreOfTurn}
use Rattle.plain_heap.proofs.Steps.{objects_after}
use Rattle.plain_heap.proofs.Turns.{next-heap, ends-grow, last-end, end-most, next-within, this-end}
use Rattle.gc_table.specs.declared.view.PlainStep.{PlainStep}
use Rattle.play_end.specs.Done.{IsQuiet, Follow, turn_word}
use Rattle.play_end.proofs.Alike.{alike-objects}
use Rattle.play_end.proofs.Doing.{makes-one}
use Rattle.play_end.proofs.Orders.{Order, raise, recounted, Between}

-- How far each section has come in a season.
-- how many turns of section w are over in the season of this word
abbrev pub ended : ℕ → ℕ → ℕ
ended zero season = (season + 1) / 2
ended (suc w) season = season / 2

-- section w is at this position in that season: in its turn, or between two
abbrev pub IsInSeason : Sections → ℕ → ℕ → ℕ → Type 0
IsInSeason s season w k = (end_of s w (ended w season) ≤ k) × (k ≤ end_of s w (ended w (season + 1)))

pub ended-grows : (w season later : ℕ) → season ≤ later → ended w season ≤ ended w later
ended-grows zero season later more = omega arith
ended-grows (suc w) season later more = omega arith

ended-once : (w season : ℕ) → ended w (season + 1) ≤ ended w season + 1
ended-once zero season = omega arith
ended-once (suc w) season = omega arith

-- the turn of a season word is over in the next season, and not before
pub turn-ended : (w z season : ℕ) → 0 < z → season ≡ turn_word w z → (ended w season + 1 ≡ z) × (ended w (season + 1) ≡ z)
turn-ended zero z season some is = (omega arith, omega arith)
turn-ended (suc w) z season some is = (omega arith, omega arith)

-- a turn of this season or a later one isn't over in it
pub turn-open : (w z season : ℕ) → 0 < z → season ≤ turn_word w z → ended w season ≤ z - 1
turn-open zero z season some late = omega arith
turn-open (suc w) z season some late = omega arith

-- a command of part z comes after the end of the part before it, and before that of its own
pub next-after : (s : Sections) (w q z : ℕ) (e : Execution) → IsNext s w q z e → end_of s w (z - 1) ≤ q
next-after s w q z e next = omega (arith, next.before)

pub next-inside : (s : Sections) (w q z : ℕ) (e : Execution) → IsNext s w q z e → q < end_of s w z
next-inside s w q z e next = omega (arith, next.before, next-within s w q z e next, this-end s w z next.season)

-- the next command of a section in its turn is one of that turn
of-season : (s : Sections) (season w q z : ℕ) (e : Execution) → end_of s w (ended w season) ≤ q → q < end_of s w (ended w (season + 1)) → IsNext s w q z e → (ended w season + 1 ≡ z) × (ended w (season + 1) ≡ z)
of-season s season w q z e from to next =
    let late : ended w season < z =
    ⊎_elim (λ (l : ended w season < z). l)
    (λ (l : z ≤ ended w season). absurd (omega (arith, next-inside s w q z e next, ends-grow s w z (ended w season) l, from)))
    (cases_lt (ended w season) z) in
    let early : z - 1 < ended w (season + 1) =
    ⊎_elim (λ (l : z - 1 < ended w (season + 1)). l)
    (λ (l : ended w (season + 1) ≤ z - 1). absurd (omega (arith, next-after s w q z e next, ends-grow s w (ended w (season + 1)) (z - 1) l, to)))
    (cases_lt (z - 1) (ended w (season + 1))) in
    (omega (arith, late, early, ended-once w season), omega (arith, late, early, ended-once w season))

-- while no section is in the turn of another, the next command of a section in its turn is of that turn
pub in-turn : (s : Sections) (season : ℕ) (done : List ℕ) (w z : ℕ) (e : Execution) → ((u : ℕ) → u < length done → IsInSeason s season u (position done u)) → w < length done → position done w < end_of s w (ended w (season + 1))
    → IsNext s w (position done w) z e → AreOfTurn s done w z
in-turn s season done zero z e each inside before next =
    let turn = of-season s season 0 (position done 0) z e (each 0 inside).0 before next in (
      next-after s 0 (position done 0) z e next,
      omega (arith, next-inside s 0 (position done 0) z e next),
      λ u some low. still u some low,
    )
  where
    still : (u : ℕ) → 0 < u → u < length done → position done u ≡ end_of s u (z - 1)
    still zero some low = absurd (omega (arith, some))
    still (suc u) some low =
        let turn = of-season s season 0 (position done 0) z e (each 0 inside).0 before next in
        let from : season / 2 ≡ z - 1 = omega (arith, turn.0, turn.1) in
        let to : (season + 1) / 2 ≡ z - 1 = omega (arith, turn.0, turn.1) in
        omega (arith, (each (suc u) low).0, (each (suc u) low).1, ap (end_of s (suc u)) from, ap (end_of s (suc u)) to)
in-turn s season done (suc w) z e each inside before next =
    let turn = of-season s season (suc w) (position done (suc w)) z e (each (suc w) inside).0 before next in
    let from : (season + 1) / 2 ≡ z = omega (arith, turn.0, turn.1) in
    let to : (season + 1 + 1) / 2 ≡ z = omega (arith, turn.0, turn.1) in (
      omega (arith, (each 0 (omega (arith, inside))).0, (each 0 (omega (arith, inside))).1, ap (end_of s 0) from, ap (end_of s 0) to),
      λ u some low. both u some low,
    )
  where
    both : (u : ℕ) → 0 < u → u < length done → (end_of s u (z - 1) ≤ position done u) × (position done u ≤ end_of s u z)
    both zero some low = absurd (omega (arith, some))
    both (suc u) some low =
        let turn = of-season s season (suc w) (position done (suc w)) z e (each (suc w) inside).0 before next in
        let from : season / 2 ≡ z - 1 = omega (arith, turn.0, turn.1) in
        let to : (season + 1) / 2 ≡ z = omega (arith, turn.0, turn.1) in
        (omega (arith, (each (suc u) low).0, ap (end_of s (suc u)) from), omega (arith, (each (suc u) low).1, ap (end_of s (suc u)) to))

-- a section has come at least to the end of the turns that are over
abbrev pub come : Sections → ℕ → ℕ → ℕ → ℕ
come s w a season = max a (end_of s w (ended w season))

-- a `new` makes one object
pub new-more : (s : Sections) (w q z : ℕ) (e : Execution) → IsNext s w q z e → IsNew e.op → length (plain s w (q + 1)).objects ≡ length (plain s w q).objects + 1
new-more s w q z e next new =
    omega (arith, ap (λ (h : Heap). length h.objects) (next-heap s w q z e next), objects_after (plain s w q) (seen_catalogue s w z) e.op, makes-one e.op new)

-- among commands that change nothing there is none
pub not-new : (s : Sections) (w a b q z : ℕ) (e : Execution) → IsQuiet s w a b → a ≤ q → q < b → IsNext s w q z e → IsNew e.op → ⊥
not-new s w a b q z e quiet from to next new =
    let before = alike-objects (plain s w q) (plain s w a) (quiet q from (omega (arith, to))) in
    let after = alike-objects (plain s w (q + 1)) (plain s w a) (quiet (q + 1) (omega (arith, from)) (omega (arith, to))) in
    omega (arith, new-more s w q z e next new, ap (λ l. length l) before, ap (λ l. length l) after)

-- the commands that are left of the turns that are over change nothing, if the next plain step comes no earlier
pub quiet-until : (s : Sections) (w k a season : ℕ) (ts : List PlainStep) → length (executed_of s w) ≤ k → Follow s w k a ts → All (λ (t : PlainStep). season ≤ t.season) ts → IsQuiet s w a (come s w a season)
quiet-until s w k a season [] all follow late q from to = follow.1 q from (omega (arith, to, follow.0, all, end-most s w (ended w season)))
quiet-until s w k a season (t ∷ ts) all follow late q from to =
    let h = follow.1 in
    let yet : ended w season ≤ h.season - 1 = turn-open w h.season season h.next.season (omega (arith, All-head (λ (u : PlainStep). season ≤ u.season) t ts late, h.turn)) in
    h.quiet q from (omega (arith, to, h.from, ends-grow s w (ended w season) (h.season - 1) yet, next-after s w follow.0 h.season h.command h.next))

module _ (s : Sections) (places : List (List ℕ)) (at : ℕ → ℕ) where
  abbrev n : ℕ
  n = length (section_numbers s)

  -- the season moves on, and those who had their turn do what is left of it
  pub season-on : (season : ℕ) → ((w : ℕ) → w < n → at w ≤ end_of s w (ended w (season + 1))) → ((w : ℕ) → w < n → IsQuiet s w (at w) (come s w (at w) (season + 1)))
      → Order s places (λ w. come s w (at w) season) → Order s places (λ w. come s w (at w) (season + 1))
  season-on season far quiet o = raise s places c d between up o
    where
      c : ℕ → ℕ
      c w = come s w (at w) season

      d : ℕ → ℕ
      d w = come s w (at w) (season + 1)

      up : (w : ℕ) → w < n → c w ≤ d w
      up w low = omega (arith, ends-grow s w (ended w season) (ended w (season + 1)) (ended-grows w season (season + 1) (omega arith)))

      within : (w q : ℕ) → w < n → c w ≤ q → q ≤ d w → IsInSeason s season w q
      within w q low from to = (omega (arith, from), omega (arith, to, far w low))

      between : Between s places c d
      between done w long inside from to others = record {
        turn = λ z e next. in-turn s season done w z e each (omega (arith, inside, long)) (omega (arith, to, far w inside)) next;
        free = λ z e next new name cell reach lies there. absurd (not-new s w (at w) (d w) (position done w) z e (quiet w inside) (omega (arith, from)) to next new);
      }
        where
          each : (u : ℕ) → u < length done → IsInSeason s season u (position done u)
          each u low =
              let inside' : u < n = omega (arith, low, long) in
              ⊎_elim
              (λ (e : u ≡ w). subst (λ (v : ℕ). IsInSeason s season v (position done v)) (sym e) (within w (position done w) inside from (omega (arith, to))))
              (λ (far' : u ≢ w).
              ⊎_elim
              (λ (e : position done u ≡ c u). within u (position done u) inside' (omega (arith, e)) (omega (arith, e, up u inside')))
              (λ (e : position done u ≡ d u). within u (position done u) inside' (omega (arith, e, up u inside')) (omega (arith, e)))
              (others u inside' far'))
              (cases_eq u w)

  -- as many seasons more
  seasons-on : (m season : ℕ) → ((w : ℕ) → w < n → at w ≤ end_of s w (ended w (season + 1))) → ((w : ℕ) → w < n → IsQuiet s w (at w) (length (executed_of s w))) → ((w : ℕ) → w < n → at w ≤ length (executed_of s w))
      → Order s places (λ w. come s w (at w) season) → Order s places (λ w. come s w (at w) (season + m))
  seasons-on zero season far quiet few o = recounted s places (λ w. come s w (at w) season) (λ w. come s w (at w) (season + 0)) (λ w low. ap (come s w (at w)) (let e : season + 0 ≡ season = omega arith in e)) o
  seasons-on (suc m) season far quiet few o =
      let next : Order s places (λ w. come s w (at w) (season + 1)) =
      season-on season far (λ w low q from to. quiet w low q from (omega (arith, to, few w low, end-most s w (ended w (season + 1))))) o in
      recounted s places (λ w. come s w (at w) (season + 1 + m)) (λ w. come s w (at w) (season + suc m)) (λ w low. ap (come s w (at w)) (let e : season + suc m ≡ season + 1 + m = omega arith in e))
      (seasons-on m (season + 1) (λ w low. omega (arith, far w low, ends-grow s w (ended w (season + 1)) (ended w (season + 1 + 1)) (ended-grows w (season + 1) (season + 1 + 1) (omega arith)))) quiet few next)

  late-enough : (w season : ℕ) → seasons s ≤ ended w (season + 2 * seasons s)
  late-enough zero season = omega arith
  late-enough (suc w) season = omega arith

  -- until all commands are done
  pub order-ends : (season : ℕ) → ((w : ℕ) → w < n → at w ≤ end_of s w (ended w (season + 1))) → ((w : ℕ) → w < n → IsQuiet s w (at w) (length (executed_of s w))) → ((w : ℕ) → w < n → at w ≤ length (executed_of s w))
      → Order s places (λ w. come s w (at w) season) → Order s places (λ w. length (executed_of s w))
  order-ends season far quiet few o =
      recounted s places (λ w. come s w (at w) (season + 2 * seasons s)) (λ w. length (executed_of s w))
      (λ w low. omega (arith, few w low, last-end s w (ended w (season + 2 * seasons s)) (late-enough w season)))
      (seasons-on (2 * seasons s) season far quiet few o)
