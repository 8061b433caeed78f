-- That the exchanges and the stores of a queue's calls fit it.
use Rattle.std.proofs.Common.{ℕ, ◌≡◌, ◌<◌, ◌==◌, ◌∙◌, zero, suc, arith, ap, not, refl, subst, sym, Bool, true, false, Option, Some}
use Rattle.std.proofs.lemmas.Bool.{and_from, and_parts, eq-eqb, false≢true, or_left, or_right}
use Rattle.std.proofs.lemmas.Option.{same_Some}
use Rattle.mark_core.specs.Steps.{Core}
use Rattle.mark_core.specs.Steps.MutatorSteps.{seat_variable as word_in}
use Rattle.mark_core.specs.declared.kinds.Step.TheVariants.{ExchangeField}
use Rattle.mark_core.specs.declared.seat.SeatState.{SeatState}
use Rattle.mark_core.proofs.Known.{acts}
use Rattle.gc_table.specs.Seats.{state_of, view_of}
use Rattle.gc_table.specs.Taking.{Finds}
use Rattle.gc_table.specs.declared.view.View.{View}
use Rattle.mutator_ops.specs.Sharing.{SetsField}
use Rattle.seat_turns.specs.Exchanging.{ExchangesField}
use Rattle.queue_laws.specs.QueueLogs.{advances, follows, follows_next, follows_seen, has_read, is_fresh, keeps_beside, links, saw_nil}
use Rattle.shared_heap.specs.declared.mutator.SharedMutator.{SharedMutator}
use Rattle.example_structures.specs.Fitting.{Began, FitsFollowing, FitsKeeping, FitsSince, HasFresh, KeepsRead, Linked, MayLink, SeesFirst, hands, since}
use Rattle.example_structures.proofs.FitCalls.{leaves-read}
use Rattle.example_structures.proofs.FitChanges.{beside-fresh, exchanged-fits, exchanged-leaves, lost-fresh, set-fits, set-fresh, won-linked}

positive : (n : ℕ) → not (n == 0) ≡ true → 0 < n
positive zero e = absurd (false≢true e)
positive (suc n) e = omega arith

-- an exchange wants an object
pub wants-some : (v : View) (u i n : ℕ) (e t : Option ℕ) → Finds (ExchangeField u i e t) n v → 0 < word_in v.state u
wants-some v u i n e t f =
    let c : Core = f.state.core in
    let a = acts c (record { seat = f.index; step = ExchangeField u i e t }) f.whole.core f.allowed in
    let same : a.0 ≡ v.state = same_Some a.0 v.state (sym a.1.seat ∙ f.agrees.seat) in
    subst (λ (s : SeatState). 0 < word_in s u) same (positive (word_in a.0 u) (and_parts (not (word_in a.0 u == 0)) c.shape.sharing a.1.ok.1.0).0)

module _ (x y : SharedMutator) where
  -- the queue's last moves on
  pub follow-fits : (q to : ℕ) (won : Bool) → ExchangesField q 1 22 to won (view_of x.seat) (view_of y.seat) → FitsFollowing q to x y
  follow-fits q to won s = λ b p may. (
    exchanged-fits x y q 1 22 to won s q b p
        (or_right (links b.fields b.seat (hands q) (since b x) q 1 (Some 22) (Some to)) _ (or_right (advances b.seat (hands q) (since b x) q 1 (Some 22) (Some to)) _ may)),
    beside-fresh x y q q 22 to won b p s,
  )

  -- the own node comes behind the last
  linked_by : (q : ℕ) (b : Began) (won : Bool) → FitsSince q b x → MayLink q b x → 0 < word_in (state_of x.seat) 22 → ExchangesField 22 0 21 20 won (view_of x.seat) (view_of y.seat) → Linked q b y won
  linked_by q b true p may some s =
      let kept = exchanged-leaves x y 22 0 21 20 true s in
      (won-linked x y q b p s may.1, leaves-read x y q b p (λ (v : ℕ). Unit {0}) q 22 1 kept tt tt may.0 (subst (λ (n : ℕ). 0 < n) (sym (kept.words 22 tt)) some))
  linked_by q b false p may some s = lost-fresh x y q b p s may.1 may.2

  pub link-fits : (q : ℕ) (won : Bool) → ExchangesField 22 0 21 20 won (view_of x.seat) (view_of y.seat) → (b : Began) → FitsSince q b x → MayLink q b x → FitsSince q b y × Linked q b y won
  link-fits q won s = λ b p may.
      let some : 0 < word_in (state_of x.seat) 22 = wants-some (view_of x.seat) 22 0 s.exchanged.found (Some 21) (Some 20) s.exchanged.finds in
      let nil : saw_nil b.seat (hands q) (since b x) ≡ true = ap (λ (n : ℕ). n == 0) (p.told 21 22 0 (omega arith) ∙ may.1) in (
        exchanged-fits x y 22 0 21 20 won s q b p (or_left (links b.fields b.seat (hands q) (since b x) 22 0 (Some 21) (Some 20)) _ (and_from (has_read b.seat q 22 1 (since b x)) _ (may.0 some) (and_from _ (is_fresh b.fields 20 (since b x)) nil may.2))),
        linked_by q b won p may some s,
      )

  -- the one behind the first becomes the first
  pub take-fits : (q : ℕ) (won : Bool) → ExchangesField q 0 21 23 won (view_of x.seat) (view_of y.seat) → (b : Began) → FitsSince q b x → has_read b.seat 21 23 0 (since b x) ≡ true → FitsSince q b y
  take-fits q won s = λ b p had.
      exchanged-fits x y q 0 21 23 won s q b p
      (or_right (links b.fields b.seat (hands q) (since b x) q 0 (Some 21) (Some 23)) _ (or_left (advances b.seat (hands q) (since b x) q 0 (Some 21) (Some 23)) _ (and_from (q == q) _ (eq-eqb q q refl) had)))

  pub exchanged-read : (q u i e n : ℕ) (won : Bool) → ExchangesField u i e n won (view_of x.seat) (view_of y.seat) → KeepsRead q x y
  exchanged-read q u i e n won s = let kept = exchanged-leaves x y u i e n won s in record { words = λ v. kept.words v tt; read = λ b p v w f. leaves-read x y q b p (λ (z : ℕ). Unit {0}) v w f kept tt tt }

  -- what a node keeps is stored
  pub keep-fits : (q v w : ℕ) → SetsField v 1 w (view_of x.seat) (view_of y.seat) → FitsKeeping q v x y
  keep-fits q v w s = λ b p may. (set-fits x y q v 1 w b p s may, set-fresh x y q v 1 w b p s)

-- what may follow, and what may be kept
pub may-follow-own : (q : ℕ) (b : Began) (m : SharedMutator) → Linked q b m true → follows b.seat (hands q) (since b m) q 1 (Some 20) ≡ true
may-follow-own q b m l =
    and_from (q == q) _ (eq-eqb q q refl)
    (or_right (follows_seen b.seat (hands q) (since b m) (Some 20)) _ (or_right (follows_next b.seat (hands q) (since b m) (Some 20)) _ (and_from (has_read b.seat q 22 1 (since b m)) _ l.1 l.0)))

pub may-follow-seen : (q : ℕ) (b : Began) (m : SharedMutator) → has_read b.seat q 22 1 (since b m) ≡ true → has_read b.seat 22 21 0 (since b m) ≡ true → follows b.seat (hands q) (since b m) q 1 (Some 21) ≡ true
may-follow-seen q b m k l = and_from (q == q) _ (eq-eqb q q refl) (or_left (follows_seen b.seat (hands q) (since b m) (Some 21)) _ (and_from (has_read b.seat q 22 1 (since b m)) _ k l))

pub may-follow-next : (q : ℕ) (b : Began) (m : SharedMutator) → SeesFirst q b m → 0 < word_in (state_of m.seat) 23 → follows b.seat (hands q) (since b m) q 1 (Some 23) ≡ true
may-follow-next q b m k some =
    and_from (q == q) _ (eq-eqb q q refl)
    (or_right (follows_seen b.seat (hands q) (since b m) (Some 23)) _ (or_left (follows_next b.seat (hands q) (since b m) (Some 23)) _ (and_from (has_read b.seat q 21 0 (since b m)) _ (k.first (k.some some)) (k.behind some))))

pub may-keep-own : (q : ℕ) (b : Began) (m : SharedMutator) → HasFresh b m → keeps_beside b.fields b.seat (hands q) (since b m) 20 ≡ true
may-keep-own q b m k = or_left (is_fresh b.fields 20 (since b m)) _ k

pub may-keep-next : (q : ℕ) (b : Began) (m : SharedMutator) → SeesFirst q b m → 0 < word_in (state_of m.seat) 23 → keeps_beside b.fields b.seat (hands q) (since b m) 23 ≡ true
may-keep-next q b m k some = and_from (has_read b.seat q 21 0 (since b m)) _ (k.first (k.some some)) (k.behind some)

-- nothing was done
pub none-read : (q : ℕ) (x : SharedMutator) → KeepsRead q x x
none-read q x = record { words = λ v. refl; read = λ b p v u f had. had }
