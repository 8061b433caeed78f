-- What a pass over the next cards with one packet does, and how often.
use Rattle.std.proofs.Common.{ℕ, ◌≡◌, ◌<◌, ◌≤◌, ◌+◌, ◌⊎◌, List, [], ◌∷◌, length, arith, refl, sym, subst, Bool, true, false, Some, None, Option, inl, inr}
use Rattle.std.specs.Prelude.{IfNone, IfSome}
use Rattle.mark_core.specs.Numbers.{card_counter}
use Rattle.mark_core.specs.declared.kinds.Shape.{Shape}
use Rattle.mark_core.specs.declared.kinds.Step.TheVariants.{ReadStat}
use Rattle.gc_table.specs.Log.{events}
use Rattle.gc_table.specs.Running.{Ran}
use Rattle.gc_table.specs.declared.view.View.{View}
use Rattle.gc_table.proofs.Running.{ran-found}
use Rattle.packet_pools.specs.Counts.{count_of}
use Rattle.packet_pools.specs.Seeking.{only_moves, output_pools}
use Rattle.card_clean.specs.Cleaning.{Cleans}
use Rattle.card_clean.specs.NextCards.{CleansIf, EndsPass, MeetsDirty, PassesEach, PassesNext, PassesNextCards, PassesNone, SeesClean, SeesNext}
use Rattle.card_clean.specs.Passing.{DrawsCard}
use Rattle.card_clean.specs.declared.cleaned.Cleaned.{Cleaned}
use Rattle.gc_cycle.specs.Sorts.{draws}
use Rattle.gc_cycle.proofs.CardParts.{Piece, piece-cleaned, piece-drawn, piece-join, piece-moved, piece-over, piece-read, piece-some, piece-still}

-- cards were passed: this many were drawn at most, and none was looked at, cleared or found left in the counter more often than one was drawn
pub record Passed (most : ℕ) (v w : View) : Type 0 where
  pub drawn : ℕ
  pub looked : ℕ
  pub left : ℕ
  pub cleared : ℕ
  pub piece : Piece drawn looked left cleared v w
  pub seen : looked ≤ drawn
  pub counted : left ≤ drawn
  pub once : cleared ≤ drawn
  pub few : drawn ≤ most

passed-by : (a b c d : ℕ) (v w : View) → b ≤ a → c ≤ a → d ≤ a → Piece a b c d v w → Passed a v w
passed-by a b c d v w l m n p = record { drawn = a; looked = b; left = c; cleared = d; piece = p; seen = l; counted = m; once = n; few = omega arith }

passed-join : (m n : ℕ) (u v w : View) → Passed m u v → Passed n v w → Passed (m + n) u w
passed-join m n u v w p q =
    let a = p.seen in
    let b = q.seen in
    let c = p.counted in
    let d = q.counted in
    let e = p.once in
    let f = q.once in
    let g = p.few in
    let h = q.few in
    record {
      drawn = p.drawn + q.drawn;
      looked = p.looked + q.looked;
      left = p.left + q.left;
      cleared = p.cleared + q.cleared;
      piece = piece-join p.drawn p.looked p.left p.cleared q.drawn q.looked q.left q.cleared u v w p.piece q.piece;
      seen = omega (arith, a, b);
      counted = omega (arith, c, d);
      once = omega (arith, e, f);
      few = omega (arith, g, h);
    }

passed-within : (m n : ℕ) (v w : View) → m ≤ n → Passed m v w → Passed n v w
passed-within m n v w l p =
    let few = p.few in
    record { drawn = p.drawn; looked = p.looked; left = p.left; cleared = p.cleared; piece = p.piece; seen = p.seen; counted = p.counted; once = p.once; few = omega (arith, few, l) }

-- a draw of which no card came
passed-over : (v w : View) → DrawsCard None v w → Passed 1 v w
passed-over v w (inl over) =
    let o = over.0 in
    passed-within 0 1 v w (omega arith) (passed-by 0 0 0 0 v w (omega arith) (omega arith) (omega arith) (piece-over v w o.seen o.view (ran-found v w (ReadStat card_counter) o.seen refl (o.view, o.finds)) o.over))
passed-over v w (inr gives) = passed-by 1 0 1 0 v w (omega arith) (omega arith) (omega arith) (piece-drawn gives.0 v w gives.1)

piece-sees : (b : Bool) (card : ℕ) (v w : View) → SeesNext b card v w → Piece 1 1 1 0 v w
piece-sees b card v w s = piece-join 1 0 1 0 0 1 0 0 v s.drawn w (piece-some card v s.drawn s.draws) (piece-read card _ s.drawn w s.reads)

-- cards that were clean
passed-clean : (us : List View) (v w : View) → SeesClean us v w → Passed (length us) v w
passed-clean [] v w e = passed-by 0 0 0 0 v w (omega arith) (omega arith) (omega arith) (piece-still v w e)
passed-clean (u ∷ us) v w s =
    passed-within (length us + 1) (length (u ∷ us)) v w (omega arith)
    (passed-join (length us) 1 v u w (passed-clean us v u s.0) (passed-by 1 1 1 0 u w (omega arith) (omega arith) (omega arith) (piece-sees false s.1.0 u w s.1.1)))

passed-if : (b : Bool) (card : ℕ) (u v w : View) → Piece 1 1 1 0 u v → CleansIf b card v w → Passed 1 u w
passed-if true card u v w p c = passed-by 1 1 1 1 u w (omega arith) (omega arith) (omega arith) (piece-join 1 1 1 0 0 0 0 1 u v w p (piece-cleaned v.shape card c.1.0 v w c.0 c.1.1))
passed-if false card u v w p e = passed-by 1 1 1 0 u w (omega arith) (omega arith) (omega arith) (piece-join 1 1 1 0 0 0 0 0 u v w p (piece-still v w e))

-- a round
passed-next : (v w : View) → PassesNext v w → Passed 1 v w
passed-next v w p =
    let l = p.looks in
    passed-if l.dirty p.card v l.read w (piece-join 1 0 1 0 0 1 0 0 v p.drawn l.read (piece-some p.card v p.drawn p.draws) (piece-read p.card _ p.drawn l.read l.reads)) l.cleans

passed-each : (us : List View) (v w : View) → PassesEach us v w → Passed (length us) v w
passed-each [] v w e = passed-by 0 0 0 0 v w (omega arith) (omega arith) (omega arith) (piece-still v w e)
passed-each (u ∷ us) v w p = passed-within (length us + 1) (length (u ∷ us)) v w (omega arith) (passed-join (length us) 1 v u w (passed-each us v u p.0) (passed-next u w p.1))

passed-moved : (v w : View) → Ran v w → only_moves output_pools (events v w) ≡ true → Passed 0 v w
passed-moved v w r m = passed-by 0 0 0 0 v w (omega arith) (omega arith) (omega arith) (piece-moved v w r m)

-- the end of a pass, after this many rounds
passed-ends : (early : Bool) (rounds left looks : ℕ) (u v w : View) → Passed rounds u v → EndsPass early rounds left looks v w → (n : ℕ) × (n + left ≤ looks) × Passed n u w
passed-ends early rounds left looks u v w p (inl e) = (rounds, (let all = e.1 in omega (arith, all)), subst (λ (x : View). Passed rounds u x) (sym e.0) p)
passed-ends early rounds left looks u v w p (inr d) =
    (rounds + 1, (let less = d.1 in let none = d.2 in omega (arith, less, none)), passed-join rounds 1 u v w p (passed-over v w d.0))

-- cards up to a dirty one, which is cleaned with a packet, as those are that follow
passed-first : (left looks card : ℕ) (r : Cleaned) (sh : Shape) (v w x y : View) → MeetsDirty left looks card v w → Ran w x → only_moves output_pools (events w x) ≡ true → Ran x y → Cleans sh card r (events x y) → (n : ℕ) × (n + left ≡ looks) × Passed n v y
passed-first left looks card r sh v w x y m t o k c =
    let n : ℕ = length m.clean in
    let taken = piece-join 1 1 1 0 0 0 0 0 m.met w x (piece-sees true card m.met w m.sees) (piece-moved w x t o) in
    let one = passed-by 1 1 1 1 m.met y (omega arith) (omega arith) (omega arith) (piece-join 1 1 1 0 0 0 0 1 m.met x y taken (piece-cleaned sh card r x y k c)) in
    (n + 1, m.looked, passed-join n 1 v m.met y (passed-clean m.clean v m.met m.before) one)

pub passed-cards : (early : Bool) (left looks : ℕ) (v w : View) → PassesNextCards early left looks v w → (n : ℕ) × (n + left ≤ looks) × Passed n v w
passed-cards early left looks v w p =
    let q = p.passes in
    let on = q.passes in
    let first = passed-first p.more looks p.card q.result p.seen.shape v p.seen q.taken q.cleaned p.meets q.took q.takes q.cleaning q.cleans in
    let rest = passed-ends early (length on.rounds) left p.more q.cleaned on.last q.passed (passed-each on.rounds q.cleaned on.last on.passes) on.ends in
    let all = passed-join first.0 rest.0 v q.cleaned q.passed first.2 rest.2 in
    (first.0 + rest.0, (let a = first.1 in let b = rest.1 in omega (arith, a, b)), passed-within (first.0 + rest.0 + 0) (first.0 + rest.0) v w (omega arith) (passed-join (first.0 + rest.0) 0 v q.passed w all (passed-moved q.passed w q.gave q.gives)))

-- cards of which none was cleaned
pub passed-none : (looks : ℕ) (v w : View) → PassesNone looks v w → Passed looks v w
passed-none looks v w (inl m) = by_end m.ends
  where
    before : Passed (length m.clean) v m.met
    before = passed-clean m.clean v m.met m.before

    by_end : ((length m.clean ≡ looks) × (w ≡ m.met)) ⊎ ((length m.clean < looks) × DrawsCard None m.met w) → Passed looks v w
    by_end (inl e) = passed-within (length m.clean) looks v w (let same = e.0 in omega (arith, same)) (subst (λ (x : View). Passed (length m.clean) v x) (sym e.1) before)
    by_end (inr d) = passed-within (length m.clean + 1) looks v w (let less = d.0 in omega (arith, less)) (passed-join (length m.clean) 1 v m.met w before (passed-over m.met w d.1))
passed-none looks v w (inr k) =
    let m = k.3 in
    let n : ℕ = length m.clean in
    let seen = passed-join n 1 v m.met k.2 (passed-clean m.clean v m.met m.before) (passed-by 1 1 1 0 m.met k.2 (omega arith) (omega arith) (omega arith) (piece-sees true k.1 m.met k.2 m.sees)) in
    passed-within (n + 1 + 0) looks v w (let all = m.looked in omega (arith, all)) (passed-join (n + 1) 0 v k.2 w seen (passed-moved k.2 w k.4 k.6))

pub passed-any : (o : Option ℕ) (early : Bool) (looks : ℕ) (v w : View) → IfSome o (λ left. PassesNextCards early left looks v w) → IfNone o (PassesNone looks v w) → Passed looks v w
passed-any (Some left) early looks v w s n = let p = passed-cards early left looks v w s in passed-within p.0 looks v w (let few = p.1 in omega (arith, few)) p.2
passed-any None early looks v w s n = passed-none looks v w n

-- so many cards were drawn at most
pub looked-most : (o : Option ℕ) (early : Bool) (looks : ℕ) (v w : View) → IfSome o (λ left. PassesNextCards early left looks v w) → IfNone o (PassesNone looks v w)
    → IfSome o (λ left. count_of draws (events v w) + left ≤ looks) × IfNone o (count_of draws (events v w) ≤ looks)
looked-most (Some left) early looks v w s n =
    let p = passed-cards early left looks v w s in
    let all = p.1 in
    let few = p.2.few in
    (omega (arith, all, few, p.2.piece.draws_are), tt)
looked-most None early looks v w s n =
    let p = passed-none looks v w n in
    let few = p.few in
    (tt, omega (arith, few, p.piece.draws_are))
